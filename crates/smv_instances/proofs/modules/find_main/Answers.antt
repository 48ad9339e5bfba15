use Rattle.std.proofs.Common.{◌≡◌, refl, sym, ◌∙◌, ap, ◌<◌, arith, List, [], ◌∷◌, length, Some, None}
use Rattle.std.specs.Prelude.{vec_len}
use Rattle.std.proofs.Common.{Bool, true, false, eq-eqb}
use Rattle.std.proofs.lemmas.Bool.Decides.{Decides-eqb}
use Rattle.std.proofs.lemmas.Option.{same_Some}
use Rattle.smv_instances.specs.Program.{Module}
use Rattle.smv_instances.specs.Instances.{main_name}
use Rattle.smv_instances.proofs.RowLemmas.{module_absent, module_present, length_modules, table_at, table_formals}
use Rattle.smv_instances.proofs.modules.find_main.Goals as goal

clash : (b : Bool) → b ≡ true → b ≡ false → ⊥
clash b t f = cc

absent : {A : Type 0} (x : A) → None ≡ Some x → ⊥
absent x e = cc

empty_of : {A : Type 0} (xs : List A) → length xs ≡ 0 → xs ≡ []
empty_of [] e = refl
empty_of (x ∷ xs) e = absurd (omega arith)

pub returns-in_default-clause-refused : goal.returns-in_default-clause-refused
returns-in_default-clause-refused c = λ p mods. (refl, λ m is bare. absent m (sym (module_absent c.args.modules.now p main_name mods c.in_default.ensures.none) ∙ is))

pub index-table-requires : goal.index-table-requires
index-table-requires c =
    let within : c.in-Some.place < length c.args.modules.now.names = c.in-Some.ensures.within in
    omega (arith, within, length_modules c.args.modules.now c.requires.0 c.requires.1, c.args.modules.now.tables.ok.0)

pub returns-then-not-is_empty-clause-refused : goal.returns-then-not-is_empty-clause-refused
returns-then-not-is_empty-clause-refused c = λ p mods.
    let named = module_present c.args.modules.now p main_name c.in-Some.place mods c.in-Some.ensures.place c.in-Some.ensures.within in
    let table = table_at c.args.modules.now c.in-Some.place named.m c.index-table.result.now named.stands c.index-table.ensures in
    let size = table_formals c.index-table.result.now named.m table in (
      refl,
      λ m is bare.
          let none : length named.m.formals ≡ 0 = ap (λ (n : Module). length n.formals) (same_Some _ _ (sym named.is ∙ is)) ∙ ap length bare in
          let zero : vec_len c.index-table.result.now.source.now.formals ≡ 0 = omega (arith, none, size, c.index-table.result.now.source.now.formals.ok.0) in
          clash _ (eq-eqb _ 0 zero) (sym c.is_empty.ensures ∙ c.if-not-is_empty.true),
    )

pub returns-clause-main : goal.returns-clause-main
returns-clause-main c = λ p mods.
    let named = module_present c.args.modules.now p main_name c.in-Some.place mods c.in-Some.ensures.place c.in-Some.ensures.within in
    let table = table_at c.args.modules.now c.in-Some.place named.m c.index-table.result.now named.stands c.index-table.ensures in
    let size = table_formals c.index-table.result.now named.m table in
    record { mods = mods; m = named.m; is = named.is; stands = named.stands; bare = empty_of named.m.formals (let zero : vec_len c.index-table.result.now.source.now.formals ≡ 0 = (Decides-eqb _ 0).0 (sym c.is_empty.ensures ∙ c.if-not-is_empty.false) in omega (arith, zero, size, c.index-table.result.now.source.now.formals.ok.0)) }

pub returns-clause-ok : goal.returns-clause-ok
returns-clause-ok c = λ p mods.
    let named = module_present c.args.modules.now p main_name c.in-Some.place mods c.in-Some.ensures.place c.in-Some.ensures.within in
    let table = table_at c.args.modules.now c.in-Some.place named.m c.index-table.result.now named.stands c.index-table.ensures in
    let size = table_formals c.index-table.result.now named.m table in
    λ r h. h.1 named.m named.is (empty_of named.m.formals (let zero : vec_len c.index-table.result.now.source.now.formals ≡ 0 = (Decides-eqb _ 0).0 (sym c.is_empty.ensures ∙ c.if-not-is_empty.false) in omega (arith, zero, size, c.index-table.result.now.source.now.formals.ok.0)))
