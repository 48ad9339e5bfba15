use Rattle.std.proofs.Common.{◌≡◌, refl}
use Rattle.smv_instances.specs.Program.{Constant}
use Rattle.smv_instances.specs.Plain.{plain_constant}
use Rattle.smv_instances.proofs.ConstantLemmas.{name_added}
use Rattle.smv_instances.proofs.types.add_constant.Goals as goal

pub returns-in-Name-clause-kept : goal.returns-in-Name-clause-kept
returns-in-Name-clause-kept c =
    let atom : plain_constant c.args.constant.now ≡ Constant.Atom c.in-Name.name = rw c.in-Name.is refl in
    let said : c.as_str.result.now ≡ c.in-Name.name = c.as_str.ensures in
    rw (atom, ← said) (name_added c.insert.result c.args.names.now c.insert.new.self c.args.numbers.now.keys c.as_str.result.now c.insert.ensures.added c.insert.ensures.names)
