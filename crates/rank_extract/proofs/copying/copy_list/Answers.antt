use Rattle.region_sets.specs.Ranks.{slots}
use Rattle.rank_extract.specs.Made.{many}
use Rattle.rank_extract.proofs.Holders.{flat_pins, total_one}
use Rattle.rank_extract.proofs.Makes.{all_made, all_dropped}
use Rattle.std.proofs.Common.{refl}
use Rattle.rank_extract.proofs.copying.copy_list.Goals as goal

pub returns-in-Ok : goal.returns-in-Ok
returns-in-Ok g c = all_made slots flat_pins many total_one c.add_copies.new.copies refl c.new-copies.ensures.items c.in-Ok.ensures

pub returns-in-Err : goal.returns-in-Err
returns-in-Err g c = all_dropped slots flat_pins many total_one c.add_copies.new.copies refl c.new-copies.ensures.items c.in-Err.ensures c.release_all.ensures.pins c.release_all.ensures.fulls
