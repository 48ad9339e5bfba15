use Rattle.std.proofs.Common.{is_some, arith}
use Rattle.std.specs.Prelude.{option_map}
use Rattle.std.proofs.lemmas.Result.{err_from_is_err_and}
use Rattle.kripke_model.specs.WellFormed.{ctl_of}
use Rattle.region_sets.specs.Sets.{region}
use Rattle.proof_form.specs.Form.{map_free}
use Rattle.proof_form.specs.Pinned.{spec_nodes}
use Rattle.proof_form.specs.Shape.{spec_formula}
use Rattle.rank_extract.specs.Extracts.{IsLiveRun}
use Rattle.rank_extract.proofs.Parts.{none_is}
use Rattle.rank_extract.proofs.Specs.{on_some, of_some, nodes_are, formula_few}
use Rattle.rank_extract.proofs.Whole.{main_call_refused, free_call_refused, whole_few, whole_call, whole_proves}
use Rattle.rank_extract.proofs.extraction.extract.Goals as goal

pub main_part-requires-clause-few : goal.main_part-requires-clause-few
main_part-requires-clause-few g c =
    let m = c.args.model.now in
    let f = ctl_of c.formula_of-formula.result.now in
    let live : IsLiveRun m f (g.S.StateSets.seen c.args.sets.now) c.args.run.now =
    of_some (λ h. IsLiveRun m h (g.S.StateSets.seen c.args.sets.now) c.args.run.now) (spec_formula m c.args.spec) f c.formula_of-formula.ensures c.requires.run in
    omega (arith, live.run_of.over.nodes.count, formula_few m c.rules_law.ensures.flat c.args.spec f c.formula_of-formula.ensures)

pub returns-in_err-main-clause-call : goal.returns-in_err-main-clause-call
returns-in_err-main-clause-call g c =
    let m = c.args.model.now in
    let f = ctl_of c.formula_of-formula.result.now in
    let s0 = g.S.StateSets.seen c.args.sets.now in
    let live : IsLiveRun m f s0 c.args.run.now = of_some (λ h. IsLiveRun m h s0 c.args.run.now) (spec_formula m c.args.spec) f c.formula_of-formula.ensures c.requires.run in
    let p = err_from_is_err_and c.from_residual.result c.from_residual.ensures.1 in
    rw (p.1, p.2)
    (main_call_refused m f s0 c.args.run.now live c.args.at c.rules_law.ensures.inhabited (spec_nodes m c.args.spec) (nodes_are m c.args.spec f c.formula_of-formula.ensures) c.in_err-main.ensures)

pub returns-in-Ok-clause-call : goal.returns-in-Ok-clause-call
returns-in-Ok-clause-call g c =
    let m = c.args.model.now in
    let f = ctl_of c.formula_of-formula.result.now in
    let s0 = g.S.StateSets.seen c.args.sets.now in
    let live : IsLiveRun m f s0 c.args.run.now = of_some (λ h. IsLiveRun m h s0 c.args.run.now) (spec_formula m c.args.spec) f c.formula_of-formula.ensures c.requires.run in
    whole_call m f s0 c.args.run.now live c.args.at c.rules_law.ensures.inhabited (spec_nodes m c.args.spec) (nodes_are m c.args.spec f c.formula_of-formula.ensures) c.in_ok-main.main c.in_ok-main.ensures c.in-Ok.free c.is_none.result c.in-Ok.ensures.call _

pub returns-in-Ok-clause-few : goal.returns-in-Ok-clause-few
returns-in-Ok-clause-few g c =
    let m = c.args.model.now in
    let f = ctl_of c.formula_of-formula.result.now in
    let s0 = g.S.StateSets.seen c.args.sets.now in
    let live : IsLiveRun m f s0 c.args.run.now = of_some (λ h. IsLiveRun m h s0 c.args.run.now) (spec_formula m c.args.spec) f c.formula_of-formula.ensures c.requires.run in
    whole_few m f s0 c.args.run.now live c.args.at c.rules_law.ensures.inhabited (spec_nodes m c.args.spec) (nodes_are m c.args.spec f c.formula_of-formula.ensures) c.in_ok-main.main c.in_ok-main.ensures c.in-Ok.free c.is_none.result c.in-Ok.ensures.few

pub returns-in-Ok-clause-proof : goal.returns-in-Ok-clause-proof
returns-in-Ok-clause-proof g c =
    let m = c.args.model.now in
    let f = ctl_of c.formula_of-formula.result.now in
    let s0 = g.S.StateSets.seen c.args.sets.now in
    let s2 = g.S.StateSets.seen c.free_part.new.sets in
    let live : IsLiveRun m f s0 c.args.run.now = of_some (λ h. IsLiveRun m h s0 c.args.run.now) (spec_formula m c.args.spec) f c.formula_of-formula.ensures c.requires.run in
    on_some _ (spec_formula m c.args.spec) f c.formula_of-formula.ensures
    (whole_proves m f s0 c.args.run.now live c.args.at c.rules_law.ensures.inhabited (spec_nodes m c.args.spec) (nodes_are m c.args.spec f c.formula_of-formula.ensures) c.in_ok-main.main c.in_ok-main.ensures c.in-Ok.free c.is_none.result c.in-Ok.ensures.call (none_is (is_some c.args.at) c.is_none.result c.is_none.ensures)
    (c.written_law.ensures.runs f s0 c.args.run.now live c.args.at c.requires.shown (option_map (map_free (region s2)) c.in-Ok.free) c.in-Ok.ensures.whole))

pub returns-in-Err-clause-call : goal.returns-in-Err-clause-call
returns-in-Err-clause-call g c =
    let m = c.args.model.now in
    let f = ctl_of c.formula_of-formula.result.now in
    let s0 = g.S.StateSets.seen c.args.sets.now in
    let live : IsLiveRun m f s0 c.args.run.now = of_some (λ h. IsLiveRun m h s0 c.args.run.now) (spec_formula m c.args.spec) f c.formula_of-formula.ensures c.requires.run in
    free_call_refused m f s0 c.args.run.now live c.args.at c.rules_law.ensures.inhabited (spec_nodes m c.args.spec) (nodes_are m c.args.spec f c.formula_of-formula.ensures) c.in_ok-main.main c.in_ok-main.ensures c.in-Err.ensures.call c.release.ensures.pins c.release.ensures.fulls
