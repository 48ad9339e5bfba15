use Rattle.std.proofs.Common.{Some, position, refl, sym, ap, ◌∙◌}
use Rattle.bdd_ops.proofs.Lists.{is_list, place-some, place-none}
use Rattle.bdd_ops.proofs.engine.Engine.list_key.Goals as goal

pub returns-in-Some-clause-place : goal.returns-in-Some-clause-place
returns-in-Some-clause-place c =
    let s = c.args.self.now in
    place-some s.lists.items c.args.levels.now c.in-Some.place (sym (c.in-Some.ensures ∙ ap (position (is_list c.args.levels.now)) c.as_slice.ensures.value))

pub returns-in-Some-clause-kept : goal.returns-in-Some-clause-kept
returns-in-Some-clause-kept c =
    let s = c.args.self.now in
    λ p at. (
      ap Some (s.lists_once c.in-Some.place p c.args.levels.now (place-some s.lists.items c.args.levels.now c.in-Some.place (sym (c.in-Some.ensures ∙ ap (position (is_list c.args.levels.now)) c.as_slice.ensures.value))) at),
      refl,
    )

pub push_list-requires : goal.push_list-requires
push_list-requires c = place-none c.args.self.now.lists.items c.args.levels.now (sym (c.in_default.ensures ∙ ap (position (is_list c.args.levels.now)) c.as_slice.ensures.value))

pub returns-in-Err-clause-kept : goal.returns-in-Err-clause-kept
returns-in-Err-clause-kept c = λ p at. absurd (place-none c.args.self.now.lists.items c.args.levels.now (sym (c.in_default.ensures ∙ ap (position (is_list c.args.levels.now)) c.as_slice.ensures.value)) p at)
