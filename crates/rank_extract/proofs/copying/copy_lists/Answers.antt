use Rattle.std.proofs.Common.{refl}
use Rattle.region_sets.specs.Ranks.{lists_slots}
use Rattle.rank_extract.specs.Made.{many, total}
use Rattle.rank_extract.proofs.Holders.{flat_lists}
use Rattle.rank_extract.proofs.Makes.{all_made, all_dropped, all_live, all_once}
use Rattle.rank_extract.proofs.copying.copy_lists.Goals as goal

pub release_lists-requires-clause-live : goal.release_lists-requires-clause-live
release_lists-requires-clause-live g c = all_live lists_slots flat_lists (total many) (λ vs. refl) c.add_lists.new.copies refl c.new-copies.ensures.items c.in-Err.ensures

pub release_lists-requires-clause-once : goal.release_lists-requires-clause-once
release_lists-requires-clause-once g c = all_once lists_slots flat_lists (total many) (λ vs. refl) c.add_lists.new.copies refl c.new-copies.ensures.items c.in-Err.ensures

pub returns-in-Ok : goal.returns-in-Ok
returns-in-Ok g c = all_made lists_slots flat_lists (total many) (λ vs. refl) c.add_lists.new.copies refl c.new-copies.ensures.items c.in-Ok.ensures

pub returns-in-Err : goal.returns-in-Err
returns-in-Err g c = all_dropped lists_slots flat_lists (total many) (λ vs. refl) c.add_lists.new.copies refl c.new-copies.ensures.items c.in-Err.ensures c.release_lists.ensures.pins c.release_lists.ensures.fulls
