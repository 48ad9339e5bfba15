use Rattle.std.proofs.Common.{◌≡◌, refl, sym, ◌∙◌, ap, subst, ◌<◌, arith, length, map, true, false, Bool, inl, inr, ◌++◌, ◌∷◌, []}
use Rattle.std.proofs.lemmas.List.{length-map}
use Rattle.std.proofs.lemmas.Option.{same_Some}
use Rattle.std.specs.List.{list_any}
use Rattle.std.specs.Str.{bytes_eq}
use Rattle.kripke_model.proofs.FirstLemmas.{silent_refuse}
use Rattle.kripke_model.specs.declared.refusals.FlatRefusal.{FlatRefusal}
use Rattle.smv_instances.specs.Plain.{plain_expr}
use Rattle.smv_instances.specs.Instances.{modules_to}
use Rattle.smv_instances.specs.Declarations.{declaration_rows}
use Rattle.smv_instances.specs.Answers.{Refused}
use Rattle.smv_instances.proofs.RowLemmas.{row_at, table_at, module_absent, module_present, present_is_found, length_modules, table_formals, contains_name, name_contained}
use Rattle.smv_instances.proofs.body.check_instance.Goals as goal

not_held : (b x : Bool) → b ≡ x → b ≡ false → x ≡ true → ⊥
not_held b x e f t = cc

pub returns-in_default : goal.returns-in_default
returns-in_default c = λ p done s es e mods rows at counts kind.
    subst (λ x. Refused (declaration_rows p (es ++ (e ∷ [])) s c.args.line x) (FlatRefusal.UnknownName c.args.line)) (sym kind)
    (inr (inl (refl, module_absent c.args.modules.now p c.args.name.now mods (ap (λ x. list_any (bytes_eq x) c.args.modules.now.names) (sym c.as_str.ensures) ∙ c.in_default.ensures.none))))

pub returns-then-is_on_way : goal.returns-then-is_on_way
returns-then-is_on_way c = λ p done s es e mods rows at counts kind.
    let named = module_present c.args.modules.now p c.args.name.now c.in-Some.place mods (rw (← c.as_str.ensures) c.in-Some.ensures.place) c.in-Some.ensures.within in
    subst (λ x. Refused (declaration_rows p (es ++ (e ∷ [])) s c.args.line x) (FlatRefusal.RecursiveModule c.args.line)) (sym kind)
    (inr (inr (silent_refuse (present_is_found _ _ _ _ named), inl (refl, contains_name (modules_to s) c.args.name.now (sym (c.is_on_way.ensures done s rows at) ∙ c.if-is_on_way.true)))))

pub index-table-requires : goal.index-table-requires
index-table-requires c =
    let within : c.in-Some.place < length c.args.modules.now.names = c.in-Some.ensures.within in
    omega (arith, within, length_modules c.args.modules.now c.requires.known.0 c.requires.known.1, c.args.modules.now.tables.ok.0)

pub returns-then-len-actuals : goal.returns-then-len-actuals
returns-then-len-actuals c = λ p done s es e mods rows at counts kind.
    let named = module_present c.args.modules.now p c.args.name.now c.in-Some.place mods (rw (← c.as_str.ensures) c.in-Some.ensures.place) c.in-Some.ensures.within in
    let table = table_at c.args.modules.now c.in-Some.place named.m c.index-table.result.now named.stands c.index-table.ensures in
    let size = table_formals c.index-table.result.now named.m table in
    subst (λ x. Refused (declaration_rows p (es ++ (e ∷ [])) s c.args.line x) (FlatRefusal.ArgumentCount c.args.line)) (sym kind)
    (inr (inr (
      silent_refuse (present_is_found _ _ _ _ named),
      inr (
        silent_refuse (λ h. not_held _ _ (c.is_on_way.ensures done s rows at) c.if-is_on_way.false (name_contained (modules_to s) c.args.name.now h)),
        inl (refl, (named.m, named.is, λ same. c.if-len-actuals.true (omega (arith, size, same, c.len.ensures, length-map c.args.actuals.now plain_expr, c.index-table.result.now.source.now.formals.ok.0)))),
      ),
    )))

pub returns : goal.returns
returns c = λ p done s es e mods rows at counts kind.
    let named = module_present c.args.modules.now p c.args.name.now c.in-Some.place mods (rw (← c.as_str.ensures) c.in-Some.ensures.place) c.in-Some.ensures.within in
    let table = table_at c.args.modules.now c.in-Some.place named.m c.index-table.result.now named.stands c.index-table.ensures in
    let size = table_formals c.index-table.result.now named.m table in
    let row = row_at c.args.modules.now c.args.rows.now done c.args.number c.index-rows-number.result s rows c.requires.inside.2 c.index-rows-number.is at in
    c.count_instance.ensures p s es e counts
    (record {
      module_name = c.args.name.now;
      actuals = map plain_expr c.args.actuals.now;
      is = kind;
      found = present_is_found _ _ _ _ named;
      apart = λ h. not_held _ _ (c.is_on_way.ensures done s rows at) c.if-is_on_way.false (name_contained (modules_to s) c.args.name.now h);
      enough = λ h. h.2 (let same : named.m ≡ h.0 = same_Some _ _ (sym named.is ∙ h.1) in omega (arith, size, ap (λ m. length m.formals) same, c.len.ensures, c.if-len-actuals.false, length-map c.args.actuals.now plain_expr, c.index-table.result.now.source.now.formals.ok.0));
    })
    row.depth_is
