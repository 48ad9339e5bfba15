use Rattle.std.proofs.Common.{◌≡◌, rules, subst, sym, []}
use Rattle.kripke_model.specs.Flat.{IsFlat}
use Rattle.bit_encode.specs.Rows.{model_with}
use Rattle.work_bench.specs.Ranges.{range_model}
use Rattle.work_bench.proofs.RangeLemmas.{flat_ranges}
use Rattle.work_bench.proofs.tables.two_ranges.Goals as goal

pub model_of-requires : goal.model_of-requires
model_of-requires c =
    let same : model_with [] c.in_ok-vec.field-0.items ≡ range_model c.args.count = search rules in
    subst IsFlat (sym same) (flat_ranges c.args.count c.requires.some c.requires.few)
