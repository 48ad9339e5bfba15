use Rattle.rank_extract.proofs.FreeCalls.{all_call, all_seen, all_released}
use Rattle.rank_extract.proofs.Adding.{to_ok}
use Rattle.std.proofs.Common.{refl}
use Rattle.rank_extract.proofs.free_part.all_formulas.Goals as goal

pub release_free_entries-requires-clause-live : goal.release_free_entries-requires-clause-live
release_free_entries-requires-clause-live g c = (all_call c.add_formulas.new.entries refl c.new-entries.ensures.items c.in-Err.ensures).pins.there

pub release_free_entries-requires-clause-once : goal.release_free_entries-requires-clause-once
release_free_entries-requires-clause-once g c = (all_call c.add_formulas.new.entries refl c.new-entries.ensures.items c.in-Err.ensures).pins.once

pub returns-in-Ok-clause-call : goal.returns-in-Ok-clause-call
returns-in-Ok-clause-call g c = to_ok c.add_formulas.new.entries (all_call c.add_formulas.new.entries refl c.new-entries.ensures.items c.in-Ok.ensures)

pub returns-in-Ok-clause-entries : goal.returns-in-Ok-clause-entries
returns-in-Ok-clause-entries g c = all_seen c.add_formulas.new.entries refl c.new-entries.ensures.items c.in-Ok.ensures

pub returns-in-Err-clause-call : goal.returns-in-Err-clause-call
returns-in-Err-clause-call g c = all_released c.add_formulas.new.entries refl c.new-entries.ensures.items c.in-Err.ensures c.release_free_entries.ensures.pins c.release_free_entries.ensures.fulls
