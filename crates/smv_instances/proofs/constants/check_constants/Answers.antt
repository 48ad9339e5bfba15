use Rattle.std.proofs.Common.{◌≡◌, refl, sym, ◌∙◌, ap, subst, ◌<◌, arith, Bool, false, not, ◌&&◌, IsTrue, length, map, get_or}
use Rattle.std.specs.List.{list_any}
use Rattle.std.specs.Str.{bytes_eq}
use Rattle.std.proofs.lemmas.List.{length-map}
use Rattle.kripke_model.specs.Refusing.{Silent, refuse}
use Rattle.kripke_model.proofs.FirstLemmas.{silent_refuse}
use Rattle.kripke_model.specs.declared.refusals.FlatRefusal.{FlatRefusal}
use Rattle.smv_instances.specs.Entries.{Entry}
use Rattle.smv_instances.specs.Declarations.{is_parameter}
use Rattle.smv_instances.specs.Numbered.{plain_entry}
use Rattle.smv_instances.proofs.ListSteps.{take_whole}
use Rattle.smv_instances.proofs.FirstSteps.{silent_next, first_next}
use Rattle.smv_instances.proofs.TableLemmas.{get_or-map}
use Rattle.smv_instances.proofs.BuildLemmas.{constants_of}
use Rattle.smv_instances.proofs.constants.check_constants.Goals as goal

not_held : (b : Bool) → b ≡ false → IsTrue b → ⊥
not_held b f t = cc

pub loop-entry-preserved : goal.loop-entry-preserved
loop-entry-preserved c =
    let es = map plain_entry c.args.entries.now in
    let i = c.loop-entry.entry-index in
    let e = plain_entry c.entry-item.result in
    let lt : i < length es = omega (arith, length-map c.args.entries.now plain_entry) in
    let here : get_or es i e ≡ e = get_or-map plain_entry c.args.entries.now i c.entry-item.result e (omega arith) ∙ ap plain_entry (sym c.entry-item.is) in
    silent_next (λ before (d : Entry). refuse (FlatRefusal.NameIsConstant d.line) (IsTrue (not (is_parameter d.entity) && list_any (bytes_eq d.name) c.args.symbols.now))) es i e lt here c.loop-entry.invariant
    (silent_refuse (λ h. not_held _ (sym c.is_named_constant.ensures ∙ c.if-is_named_constant.false) h))

pub returns-then-is_named_constant-clause-refused : goal.returns-then-is_named_constant-clause-refused
returns-then-is_named_constant-clause-refused c =
    let es = map plain_entry c.args.entries.now in
    let i = c.loop-entry.entry-index in
    let e = plain_entry c.entry-item.result in
    let lt : i < length es = omega (arith, length-map c.args.entries.now plain_entry) in
    let here : get_or es i e ≡ e = get_or-map plain_entry c.args.entries.now i c.entry-item.result e (omega arith) ∙ ap plain_entry (sym c.entry-item.is) in
    first_next (λ before (d : Entry). refuse (FlatRefusal.NameIsConstant d.line) (IsTrue (not (is_parameter d.entity) && list_any (bytes_eq d.name) c.args.symbols.now))) es i e _ lt here c.loop-entry.invariant
    (refl, sym c.is_named_constant.ensures ∙ c.if-is_named_constant.true)

pub returns-clause-ok : goal.returns-clause-ok
returns-clause-ok c =
    let es = map plain_entry c.args.entries.now in
    subst (λ ds. Silent (constants_of ds c.args.symbols.now)) (take_whole es c.loop-entry.entry-index (omega (arith, length-map c.args.entries.now plain_entry))) c.loop-entry.invariant
