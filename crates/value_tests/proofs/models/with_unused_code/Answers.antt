use Rattle.std.proofs.Common.{◌≡◌, rules, subst, sym}
use Rattle.kripke_model.specs.Flat.{IsFlat}
use Rattle.bit_encode.specs.Rows.{model_with, unused_model}
use Rattle.bit_encode.proofs.RowLemmas.{flat_unused}
use Rattle.value_tests.proofs.models.with_unused_code.Goals as goal

pub model_of-requires : goal.model_of-requires
model_of-requires c =
    let same : model_with c.in_ok-symbols.symbols.items c.in_ok-vars.vars.items ≡ unused_model = search rules in
    subst IsFlat (sym same) flat_unused
