use Rattle.std.proofs.Common.{◌≡◌, refl, sym, ◌∙◌, ap, ◌<◌, length, Some, Vec, Global}
use Rattle.std.specs.Prelude.{slice_get}
use Rattle.std.specs.Vec.{with_item}
use Rattle.std.proofs.lemmas.Option.{same_Some, slice_get_within}
use Rattle.smv_names.specs.declared.states.State.{State}
use Rattle.smv_names.proofs.NodeLemmas.{got}
use Rattle.smv_names.proofs.StateLemmas.{row_of, sets_by}
use Rattle.smv_names.proofs.states.States.set.Goals as goal

pub returns : goal.returns
returns c =
    let row = row_of c.args.self.now c.args.at c.requires.0 c.requires.1 in
    let inside : c.args.at.instance < length c.args.self.now.rows.items = slice_get_within c.args.self.now.rows.items c.args.at.instance row.0 row.1 in
    let at_row : slice_get c.args.self.now.rows.items c.args.at.instance ≡ Some c.index_mut-row.result.now = got c.args.self.now.rows.items c.args.at.instance c.index_mut-row.result.now inside c.index_mut-row.ensures.value in
    let same : row.0 ≡ c.index_mut-row.result.now = same_Some _ _ (sym row.1 ∙ at_row) in
    sets_by c.args.self.now (record { rows = with_item c.args.self.now.rows c.args.at.instance (with_item c.index_mut-row.result.now c.args.at.place c.args.state) }) c.args.at c.args.state c.index_mut-row.result.now (with_item c.index_mut-row.result.now c.args.at.place c.args.state)
    at_row (slice_get_within c.index_mut-row.result.now.items c.args.at.place c.requires.0 (ap (λ (r : Vec State Global). slice_get r.items c.args.at.place) (sym same) ∙ row.2)) refl refl
