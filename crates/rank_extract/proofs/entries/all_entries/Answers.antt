use Rattle.std.proofs.Common.{refl}
use Rattle.region_sets.specs.Ranks.{slots}
use Rattle.proof_form.specs.Form.{entries_sets}
use Rattle.rank_extract.specs.Made.{total, entry_size}
use Rattle.rank_extract.proofs.Holders.{flat_entries}
use Rattle.rank_extract.proofs.Makes.{all_made, all_dropped, all_live, all_once}
use Rattle.rank_extract.proofs.entries.all_entries.Goals as goal

pub release_entries-requires-clause-live : goal.release_entries-requires-clause-live
release_entries-requires-clause-live g c = all_live (λ es. slots (entries_sets es)) flat_entries (total entry_size) (λ vs. refl) c.add_entries.new.entries refl c.new-entries.ensures.items c.in-Err.ensures

pub release_entries-requires-clause-once : goal.release_entries-requires-clause-once
release_entries-requires-clause-once g c = all_once (λ es. slots (entries_sets es)) flat_entries (total entry_size) (λ vs. refl) c.add_entries.new.entries refl c.new-entries.ensures.items c.in-Err.ensures

pub returns-in-Ok : goal.returns-in-Ok
returns-in-Ok g c = all_made (λ es. slots (entries_sets es)) flat_entries (total entry_size) (λ vs. refl) c.add_entries.new.entries refl c.new-entries.ensures.items c.in-Ok.ensures

pub returns-in-Err : goal.returns-in-Err
returns-in-Err g c = all_dropped (λ es. slots (entries_sets es)) flat_entries (total entry_size) (λ vs. refl) c.add_entries.new.entries refl c.new-entries.ensures.items c.in-Err.ensures c.release_entries.ensures.pins c.release_entries.ensures.fulls
