use Rattle.std.proofs.Common.{◌∙◌, sym, subst}
use Rattle.kripke_model.specs.Reading.{term_of}
use Rattle.kripke_model.specs.System.{System}
use Rattle.item_parts.specs.Leaves.{IsLeafOrConstant}
use Rattle.work_bench.proofs.parts.counted.Goals as goal

pub preimage-requires : goal.preimage-requires
preimage-requires g c =
    subst (λ (m : System). IsLeafOrConstant m (term_of c.args.leaf.now)) (sym (c.in-Ok.ensures.built.model ∙ c.in_ok-copy.ensures)) c.requires.leaf
