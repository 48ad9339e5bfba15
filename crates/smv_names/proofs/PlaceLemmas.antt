-- The instance in whose body an entry stands.
use Rattle.std.proofs.Common.{◌≡◌, ◌∙◌, ap, ℕ, ◌+◌, ◌-◌, ◌<◌, arith, length}
use Rattle.std.specs.Prelude.{slice_get, slice_index}
use Rattle.smv_instances.specs.Program.{Program}
use Rattle.smv_instances.specs.Entries.{entries}
use Rattle.smv_instances.specs.Instances.{module_of, all_entries, instances}
use Rattle.smv_names.specs.declared.nodes.Nodes.{Nodes}
use Rattle.smv_names.specs.Nodes.{entries_before, AreNodes, IsBetween, IsPlaced}
use Rattle.smv_names.proofs.NodeLemmas.{entry_numbered, entries_more}
use Rattle.smv_names.proofs.WaitLemmas.{member_at}

-- the place of an entry in its instance
pub placed : (p : Program) (nodes : Nodes) (node i k first : ℕ) → AreNodes p nodes → IsBetween p node i (i + 1) → i < length nodes.firsts.items → first ≡ slice_index nodes.firsts.items i → k ≡ node - first → IsPlaced p node i k
placed p nodes node i k first are b within read rest =
    let below : i < length (instances p) = omega (arith, within, are.lengths) in
    let is : first ≡ entries_before p i = read ∙ are.firsts i below in
    let sum : node ≡ first + k = omega (arith, b.from, is, rest) in
    let s = member_at (instances p) i below in
    let more = entries_more p i s.0 s.1 in
    let e = member_at (entries (module_of s.0)) k (omega (arith, b.below, is, sum, more)) in
    record {
      scope = s.0;
      numbered = s.1;
      entry = e.0;
      stands = e.1;
      is = ap (slice_get (all_entries p)) (sum ∙ ap (λ z. z + k) is) ∙ entry_numbered p i k s.0 e.0 s.1 e.1;
    }
