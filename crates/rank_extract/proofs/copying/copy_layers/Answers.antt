use Rattle.std.proofs.Common.{refl}
use Rattle.region_sets.specs.Ranks.{slots}
use Rattle.proof_form.specs.Form.{layer_sets}
use Rattle.rank_extract.specs.Made.{many}
use Rattle.rank_extract.proofs.Holders.{flat_layers, total_one}
use Rattle.rank_extract.proofs.Makes.{all_made, all_dropped, all_live, all_once}
use Rattle.rank_extract.proofs.copying.copy_layers.Goals as goal

pub release_layers-requires-clause-live : goal.release_layers-requires-clause-live
release_layers-requires-clause-live g c = all_live (λ ls. slots (layer_sets ls)) flat_layers many total_one c.add_layers.new.copies refl c.new-copies.ensures.items c.in-Err.ensures

pub release_layers-requires-clause-once : goal.release_layers-requires-clause-once
release_layers-requires-clause-once g c = all_once (λ ls. slots (layer_sets ls)) flat_layers many total_one c.add_layers.new.copies refl c.new-copies.ensures.items c.in-Err.ensures

pub returns-in-Ok : goal.returns-in-Ok
returns-in-Ok g c = all_made (λ ls. slots (layer_sets ls)) flat_layers many total_one c.add_layers.new.copies refl c.new-copies.ensures.items c.in-Ok.ensures

pub returns-in-Err : goal.returns-in-Err
returns-in-Err g c = all_dropped (λ ls. slots (layer_sets ls)) flat_layers many total_one c.add_layers.new.copies refl c.new-copies.ensures.items c.in-Err.ensures c.release_layers.ensures.pins c.release_layers.ensures.fulls
