use Rattle.std.proofs.Common.{◌≡◌, ◌∙◌, ap, sym, map, ◌++◌}
use Rattle.std.specs.List.{filter_map}
use Rattle.std.proofs.lemmas.Result.{IfOk-weaker}
use Rattle.smv_parser.specs.ProgramView as programs
use Rattle.smv_instances.specs.Abstract as plain
use Rattle.smv_instances.specs.Plain.{plain_constant, plain_type}
use Rattle.smv_instances.specs.Instances.{atom, atoms_in, distinct_names}
use Rattle.smv_instances.proofs.ListSteps.{map_map}
use Rattle.smv_instances.proofs.constants.+add_atoms.Goals as goal

pub returns-in-Enumeration : goal.returns-in-Enumeration
returns-in-Enumeration t c = λ seen e.
    let same : filter_map atom (map plain_constant c.deref.result.now) ≡ atoms_in (plain_type c.args.plain.now) = rw (c.deref.ensures.value, c.in-Enumeration.is) (ap (filter_map atom) (sym (map_map plain.constant programs.constant c.in-Enumeration.constants.items))) in
    IfOk-weaker c.add_constants.result _ _ (λ x q. q ∙ ap (λ ns. distinct_names (seen ++ ns)) same) (c.add_constants.ensures seen e)
