use Rattle.std.proofs.Common.{◌≡◌, ℕ, ◌<◌, false, get_or}
use Rattle.region_sets.specs.declared.pins.Pin.{Pin}
use Rattle.proof_form.specs.Form.{FreeEntry}
use Rattle.claim_sets.proofs.FoundEntries.{fits_free}
use Rattle.claim_sets.proofs.entry_sets.find_free.Given as goal

-- the entries so far are others
abbrev pub invariant-loop-free : goal.invariant-loop-free
invariant-loop-free l = (k : ℕ) → k < l.free-index → (d : FreeEntry Pin) → fits_free (get_or l.entries k d) l.constraint l.node l.plus ≡ false
