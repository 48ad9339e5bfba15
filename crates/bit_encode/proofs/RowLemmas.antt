-- The small models of the tests are ones that a program can have, and they break no rule.
use Rattle.std.proofs.Common.{◌≡◌, ◌≢◌, ℕ, ◌<◌, ◌≤◌, Bool, true, false, List, [], ◌∷◌, length, map, refl, sym, subst, arith, lit<, lit≤}
use Rattle.std.specs.Prelude.{All, not, ◌&&◌, cond, pos}
use Rattle.std.specs.List.{list_all}
use Rattle.std.specs.Str.{bytes_eq}
use Rattle.std.proofs.lemmas.List.Elements.{All-nil, All-cons, All-from_recursion}
use Rattle.std.proofs.lemmas.List.Kept.{AllPairs-cons}
use Rattle.std.proofs.lemmas.Slice.Eq.{bytes_eq-Decides}
use Rattle.kripke_model.specs.declared.expressions.Value.{Value}
use Rattle.kripke_model.specs.declared.expressions.Value.TheVariants.{Number, Symbol}
use Rattle.kripke_model.specs.declared.expressions.Formula.{Formula}
use Rattle.kripke_model.specs.declared.refusals.StaticRefusal.{StaticRefusal}
use Rattle.kripke_model.specs.Evaluation.{same}
use Rattle.kripke_model.specs.Evaluable.{IsKnown}
use Rattle.kripke_model.specs.Names.{IsAtom, IsVariableName, IsProcessName}
use Rattle.kripke_model.specs.System.{System, Variable}
use Rattle.kripke_model.specs.Flat.{IsFlat, AreDistinct, IsWellTyped, HasNumbers, IsSound}
use Rattle.kripke_model.specs.Size.{nesting}
use Rattle.kripke_model.specs.Term.{Term}
use Rattle.kripke_model.specs.WellFormed.{IsRuled}
use Rattle.kripke_model.proofs.FirstLemmas.{silent_then}
use Rattle.kripke_model.proofs.ValueLemmas.{same_self}
use Rattle.bit_encode.specs.Rows.{variable, model_with, unused_model, mixed_model}

none : (r : StaticRefusal) → ⊥ → ⊥
none r h = h

-- a model of variables alone breaks no rule
pub plain_rules : (symbols : List (List ℕ)) (vars : List Variable) (m : System) (formulas fair : List Formula) → m ≡ model_with symbols vars → formulas ≡ [] → fair ≡ [] → IsFlat (model_with symbols vars) → IsRuled m formulas fair
plain_rules symbols vars m formulas fair e f g flat =
    subst (λ (n : System). IsRuled n formulas fair) (sym e) (subst (λ (fs : List Formula). IsRuled (model_with symbols vars) fs fair) (sym f) (subst (λ (fs : List Formula). IsRuled (model_with symbols vars) [] fs) (sym g) (record {
      flat = flat;
      assigned_once = none;
      current_alone = none;
      acyclic = none;
      next_allowed = silent_then none (silent_then none (silent_then none (silent_then none (silent_then none none))));
      formulas_allowed = silent_then none (silent_then none (silent_then none (silent_then none (silent_then none none))));
      formulas_are = refl;
      fair_are = refl;
    })))

-- ---- members that differ, by a test

module _ {A : Type 0} (test : A → A → Bool) (self : (x : A) → test x x ≡ true) where
  abbrev pub differ : List A → Bool
  differ [] = true
  differ (x ∷ xs) = list_all (λ y. not (test x y)) xs && differ xs

  both : (a b : Bool) → (a && b) ≡ true → (a ≡ true) × (b ≡ true)
  both true b e = (refl, e)
  both false b e = absurd (subst (λ (c : Bool). cond c ⊥ (Unit {0})) e tt)

  no_more : (b : Bool) → not b ≡ true → b ≡ true → ⊥
  no_more true n e = subst (λ (c : Bool). cond c ⊥ (Unit {0})) n tt
  no_more false n e = subst (λ (c : Bool). cond c ⊥ (Unit {0})) e tt

  others : (x : A) (ys : List A) → list_all (λ y. not (test x y)) ys ≡ true → All (λ y. x ≢ y) ys
  others x [] e = All-nil (λ y. x ≢ y)
  others x (y ∷ ys) e =
      let p = both (not (test x y)) (list_all (λ z. not (test x z)) ys) e in
      All-cons (λ z. x ≢ z) y ys (λ (q : x ≡ y). no_more (test x y) p.0 (subst (λ (z : A). test x z ≡ true) q (self x))) (others x ys p.1)

  pub distinct_by : (xs : List A) → differ xs ≡ true → AreDistinct xs
  distinct_by [] e = λ i j d less below. absurd (omega arith)
  distinct_by (x ∷ xs) e =
      let p = both (list_all (λ y. not (test x y)) xs) (differ xs) e in
      AllPairs-cons (λ a b. a ≢ b) x xs (others x xs p.0) (distinct_by xs p.1)

pub bytes_self : (x : List ℕ) → bytes_eq x x ≡ true
bytes_self x = (bytes_eq-Decides x x).1 refl

pub name_of : (x : List ℕ) → IsAtom x → IsVariableName x
name_of x atom = ([], (x, [], atom, All-nil IsAtom, refl))

module _ (symbols : List (List ℕ)) (vars : List Variable) where
  -- what is left to show of a model of variables alone
  pub flat_with : length vars ≤ 256 → All (λ v. length v.values ≤ 1024) vars → All IsAtom symbols → AreDistinct symbols → All (λ v. IsVariableName v.name) vars → AreDistinct (map (λ (v : Variable). v.name) vars)
      → All (λ v. IsWellTyped v (model_with symbols vars)) vars → IsFlat (model_with symbols vars)
  flat_with few short atoms symbols_differ names names_differ types = record {
    limits = record {
      variables = few;
      values = short;
      instances = lit≤ tt;
      constraints = lit≤ tt;
      specifications = lit≤ tt;
      nodes = lit≤ tt;
      depth = All-nil (λ (e : Term). nesting e ≤ 1024);
    };
    symbols = atoms;
    distinct_symbols = symbols_differ;
    variables = names;
    distinct_variables = names_differ;
    types = types;
    main_process = refl;
    processes = All-nil IsProcessName;
    distinct_processes = λ i j d less below. absurd (omega arith);
    one_process = λ e. refl;
    with_selector = λ e. cc;
    numbers = All-nil (HasNumbers (model_with symbols vars));
    expressions = All-nil (IsSound (model_with symbols vars));
  }

typed : (m : System) (v : Variable) → 0 < length v.values → AreDistinct v.values → All (IsKnown m) v.values → IsWellTyped v m
typed m v some distinct known = record { some_value = some; distinct = distinct; known = known }

pub flat_unused : IsFlat unused_model
flat_unused =
    let V : Variable → Type 0 = λ v. IsWellTyped v unused_model in
    let K : Value → Type 0 = IsKnown unused_model in
    let x : Variable = variable (120 ∷ []) (Symbol 0 ∷ Symbol 1 ∷ Symbol 2 ∷ []) in
    let y : Variable = variable (121 ∷ []) (Symbol 3 ∷ []) in
    flat_with unused_model.symbols unused_model.vars (lit≤ tt)
    (All-from_recursion (λ (v : Variable). length v.values ≤ 1024) unused_model.vars (lit≤ tt, (lit≤ tt, tt)))
    (All-from_recursion IsAtom unused_model.symbols (refl, (refl, (refl, (refl, tt)))))
    (distinct_by bytes_eq bytes_self unused_model.symbols refl)
    (All-from_recursion (λ (v : Variable). IsVariableName v.name) unused_model.vars (name_of (120 ∷ []) refl, (name_of (121 ∷ []) refl, tt)))
    (distinct_by bytes_eq bytes_self (map (λ (v : Variable). v.name) unused_model.vars) refl)
    (All-from_recursion V unused_model.vars (
      typed unused_model x (lit< tt) (distinct_by same same_self x.values refl) (All-from_recursion K x.values (lit< tt, (lit< tt, (lit< tt, tt)))),
      (typed unused_model y (lit< tt) (distinct_by same same_self y.values refl) (All-from_recursion K y.values (lit< tt, tt)), tt),
    ))

pub flat_mixed : IsFlat mixed_model
flat_mixed =
    let V : Variable → Type 0 = λ v. IsWellTyped v mixed_model in
    let K : Value → Type 0 = IsKnown mixed_model in
    let flag : Variable = variable (102 ∷ 108 ∷ 97 ∷ 103 ∷ []) (Number (pos 0) ∷ Number (pos 1) ∷ []) in
    let count : Variable = variable (99 ∷ 111 ∷ 117 ∷ 110 ∷ 116 ∷ []) (Number (pos 3) ∷ Number (pos 4) ∷ Number (pos 5) ∷ Number (pos 6) ∷ Number (pos 7) ∷ []) in
    let y : Variable = variable (121 ∷ []) (Symbol 0 ∷ []) in
    flat_with mixed_model.symbols mixed_model.vars (lit≤ tt)
    (All-from_recursion (λ (v : Variable). length v.values ≤ 1024) mixed_model.vars (lit≤ tt, (lit≤ tt, (lit≤ tt, tt))))
    (All-from_recursion IsAtom mixed_model.symbols (refl, tt))
    (distinct_by bytes_eq bytes_self mixed_model.symbols refl)
    (All-from_recursion (λ (v : Variable). IsVariableName v.name) mixed_model.vars (name_of flag.name refl, (name_of count.name refl, (name_of y.name refl, tt))))
    (distinct_by bytes_eq bytes_self (map (λ (v : Variable). v.name) mixed_model.vars) refl)
    (All-from_recursion V mixed_model.vars (
      typed mixed_model flag (lit< tt) (distinct_by same same_self flag.values refl) (All-from_recursion K flag.values (tt, (tt, tt))),
      (
        typed mixed_model count (lit< tt) (distinct_by same same_self count.values refl) (All-from_recursion K count.values (tt, (tt, (tt, (tt, (tt, tt)))))),
        (typed mixed_model y (lit< tt) (distinct_by same same_self y.values refl) (All-from_recursion K y.values (lit< tt, tt)), tt),
      ),
    ))
