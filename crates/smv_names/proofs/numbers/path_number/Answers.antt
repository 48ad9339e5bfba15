use Rattle.smv_instances.specs.Instances.{instances}
use Rattle.smv_names.specs.Written.{plain_path}
use Rattle.smv_names.proofs.WaitLemmas.{member_at}
use Rattle.smv_names.proofs.numbers.path_number.Goals as goal

pub number_named-requires : goal.number_named-requires
number_named-requires c =
    let s = member_at (instances c.requires.0) c.args.i c.requires.2 in
    (c.requires.0, s.0, plain_path c.args.path.now, c.in_ok-named.ensures c.requires.0 s.0 c.requires.1 s.1, c.requires.3)

pub returns : goal.returns
returns c = λ p s targets at known. c.number_named.ensures p s (plain_path c.args.path.now) (c.in_ok-named.ensures p s targets at) known
