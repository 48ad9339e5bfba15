use Rattle.std.proofs.Common.{◌≡◌, rules, subst, sym}
use Rattle.kripke_model.specs.Flat.{IsFlat}
use Rattle.bit_encode.specs.Rows.{model_with}
use Rattle.value_tables.specs.Rows.{counter_model}
use Rattle.value_tables.proofs.SampleLemmas.{flat_counter}
use Rattle.value_tests.proofs.models.two_bits.Goals as goal

pub model_of-requires : goal.model_of-requires
model_of-requires c =
    let same : model_with _ c.in_ok-vars.vars.items ≡ counter_model = search rules in
    subst IsFlat (sym same) flat_counter
