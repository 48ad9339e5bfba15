use Rattle.std.proofs.Common.{◌≡◌, rules, subst, sym}
use Rattle.kripke_model.specs.Flat.{IsFlat}
use Rattle.bit_encode.specs.Rows.{model_with, mixed_model}
use Rattle.bit_encode.proofs.RowLemmas.{flat_mixed}
use Rattle.value_tests.proofs.models.with_range.Goals as goal

pub model_of-requires : goal.model_of-requires
model_of-requires c =
    let same : model_with c.in_ok-symbols.symbols.items c.in_ok-vars.vars.items ≡ mixed_model = search rules in
    subst IsFlat (sym same) flat_mixed
