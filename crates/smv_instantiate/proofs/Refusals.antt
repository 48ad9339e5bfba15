-- The definitions, tried on small programs: what each is refused for.
use Rattle.std.proofs.Common.{◌≡◌, refl, sym, ◌∙◌, ap, subst, ℕ, zero, suc, ◌<◌, ◌≤◌, arith, List, [], ◌∷◌, Bool, true, false, Some, None, Option, ◌⊎◌, inl, inr, Any, Contains, ⊎_elim}
use Rattle.std.specs.Prelude.{cond, pos, is_some, Ok}
use Rattle.std.specs.Str.{bytes_eq}
use Rattle.std.specs.List.{slice_index_or}
use Rattle.kripke_model.specs.Refusing.{RefusalRule, refuse, Silent, ◌then◌, First, first_of}
use Rattle.kripke_model.specs.declared.expressions.Value.TheVariants.{Number}
use Rattle.kripke_model.specs.Term.{Term}
use Rattle.kripke_model.specs.Evaluation.{Checked}
use Rattle.kripke_model.specs.declared.expressions.Value.{Value}
use Rattle.kripke_model.specs.declared.refusals.Which.{Which}
use Rattle.kripke_model.specs.declared.refusals.FlatRefusal.{FlatRefusal}
use Rattle.smv_instances.specs.Program.{Name, Expr, Path, Plain, Program}
use Rattle.smv_instances.specs.Entries.{Entry}
use Rattle.smv_instances.specs.Instances.{Scope, is_symbol, main_scope, all_entries}
use Rattle.smv_names.specs.Denotes.{Target, Denotes, Finds, meaning, Meaning}
use Rattle.smv_names.specs.Expands.{HasValue, Expands, Selects, IsIndex}
use Rattle.smv_instances.specs.Declarations.{second_module, no_main, declarations, named_constant}
use Rattle.smv_instantiate.specs.Flattens.{all_items}
use Rattle.smv_instantiate.specs.Refuses.{Refuses, item}
use Rattle.smv_names.specs.Abbreviations.{definition, Abbreviation, Leads, Uses, Names, text_of, fronts, mentions, Mention}
use Rattle.smv_instantiate.proofs.Samples.{declared_twice, unknown, contains_itself, one_argument_more, outside, reversed, assigned_definition, circular, constant_name, empty, too_many_variables, too_many_values, second_main, name_x, name_d, name_a}

-- ---- silence

silent_refuse : {R : Type 0} {r : R} {C : Type 0} → (C → ⊥) → Silent (refuse r C)
silent_refuse never q h = never h.1

silent_then : {R : Type 0} {a b : RefusalRule R} → Silent a → Silent b → Silent (a then b)
silent_then s t r h = ⊎_elim (s r) (λ x. t r x.1) h

-- false is not true, and nothing is not something
not_true : false ≡ true → ⊥
not_true e = subst (λ b. cond b ⊥ (Unit {0})) e tt

is_none_or : {A : Type 0} → Option A → Type 0
is_none_or None = Unit {0}
is_none_or (Some a) = ⊥

not_some : {A : Type 0} {a : A} → None ≡ Some a → ⊥
not_some e = not_true (ap is_some e)

not_none : {A : Type 0} {a : A} → Some a ≡ None → ⊥
not_none e = not_some (sym e)

none_before : {A : Type 0} {P : A → Type 0} → Any P [] → ⊥
none_before h = omega arith

any_one : {A : Type 0} (P : A → Type 0) (x : A) → Any P (x ∷ []) → P x
any_one P x h = go h.0 h.1 h.2 h.3 h.4
  where
    go : (k : ℕ) (y : _) → k < 1 → slice_index_or (x ∷ []) k y ≡ y → P y → P x
    go zero y below e holds = subst P (sym e) holds
    go (suc k) y below e holds = absurd (omega arith)

contains_one : {A : Type 0} (x y : A) → Contains (x ∷ []) y → x ≡ y
contains_one x y h = go h.0 h.1 h.2
  where
    go : (k : ℕ) → k < 1 → slice_index_or (x ∷ []) k y ≡ y → x ≡ y
    go zero below e = e
    go (suc k) below e = absurd (omega arith)

-- two names that a comparison of their bytes tells apart
names_differ : (x y : Name) → bytes_eq y x ≡ false → bytes_eq x x ≡ true → x ≡ y → ⊥
names_differ x y apart same e = not_true (sym apart ∙ ap (λ z. bytes_eq z x) (sym e) ∙ same)

another_name : (y : Name) (before : Entry) → bytes_eq y before.name ≡ false → bytes_eq before.name before.name ≡ true → Any (λ (other : Entry). other.name ≡ y) (before ∷ []) → ⊥
another_name y before apart same h = names_differ before.name y apart same (any_one (λ (other : Entry). other.name ≡ y) before h)

-- a program of one body
silent_body : {R : Type 0} {a : RefusalRule R} → Silent a → Silent (λ r. a r ⊎ (Silent a × ⊥))
silent_body s = silent_then s (λ r h. h)

-- the passes over modules, declarations and constants are one rule
grouped : (p : Program) (r : FlatRefusal) → (second_module p then no_main p then declarations p then named_constant p then first_of (all_entries p) (definition p) then First (item p) [] (all_items p)) r → Refuses p r
grouped p r (inl h) = inl (inl h)
grouped p r (inr (s, inl h)) = inl (inr (s, inl h))
grouped p r (inr (s, inr (t, inl h))) = inl (inr (s, inr (t, inl h)))
grouped p r (inr (s, inr (t, inr (u, inl h)))) = inl (inr (s, inr (t, inr (u, h))))
grouped p r (inr (s, inr (t, inr (u, inr (v, h))))) = inr (silent_then {a = second_module p} s (silent_then {a = no_main p} t (silent_then {a = declarations p} u v)), h)

-- ---- one program for each refusal

empty_refused : Refuses empty FlatRefusal.NoMain
empty_refused = grouped empty FlatRefusal.NoMain (inr (λ r h. h, inl (refl, λ m found none. not_some found)))

-- what no pass refuses before the declarations, for a program that is `main` alone
abbrev main_of : Program → Scope
main_of p = scope (main_scope p)
  where
    scope : List Scope → Scope
    scope [] = Scope.Main (record { name = []; line = 0; formals = []; sections = [] })
    scope (s ∷ ss) = s

declared_twice_refused : Refuses declared_twice (FlatRefusal.DuplicateName 1)
declared_twice_refused = grouped declared_twice (FlatRefusal.DuplicateName 1) (inr (
  silent_then (silent_refuse not_true) (λ r h. h),
  inr (
    silent_refuse (λ h. h _ refl refl),
    inl (inl (inr (
      silent_then (silent_refuse (⊎_elim none_before (λ h. not_true h.0)))
          (silent_then (silent_refuse not_true) (silent_then (silent_refuse (λ h. omega arith)) (silent_refuse (λ h. omega arith)))),
      inl (inl (refl, inl (0, _, omega arith, refl, refl))),
    ))),
  ),
))

-- ---- paths that denote nothing

denotes_nothing : {p : Program} {s : Scope} {line : ℕ} {x : Name} → meaning p s x ≡ None → is_symbol p x ≡ false → (t : Target) → Denotes p s (Path.Here line x) t → ⊥
denotes_nothing none no_symbol t (Denotes.here (Finds.direct e)) = not_some (sym none ∙ e)
denotes_nothing none no_symbol t (Denotes.here (Finds.passed_on e d)) = not_some (sym none ∙ e)
denotes_nothing none no_symbol t (Denotes.constant e yes_symbol) = not_true (sym no_symbol ∙ yes_symbol)

boolean_variable : {A B C D : Type 0} {r1 r2 r3 r4 : FlatRefusal} → (A → ⊥) → (B → ⊥) → (C → ⊥) → (D → ⊥)
    → Silent (refuse r1 A then refuse r2 B then refuse r3 C then refuse r4 D)
boolean_variable a b c d = silent_then (silent_refuse a) (silent_then (silent_refuse b) (silent_then (silent_refuse c) (silent_refuse d)))

unknown_refused : Refuses unknown (FlatRefusal.UnknownName 1)
unknown_refused = grouped unknown (FlatRefusal.UnknownName 1) (inr (
  silent_then (silent_refuse not_true) (λ r h. h),
  inr (
    silent_refuse (λ h. h _ refl refl),
    inr (
      silent_body (silent_then (boolean_variable (⊎_elim none_before (λ h. not_true h.0)) not_true (λ h. omega arith) (λ h. omega arith)) (λ r h. h)),
      inr (
        silent_then (silent_refuse not_true) (λ r h. h),
        inr (
          silent_then (λ r h. h) (λ r h. h),
          inl (inl (inl (inl (refl, λ t d w. denotes_nothing refl refl t d)))),
        ),
      ),
    ),
  ),
))

contains_itself_refused : Refuses contains_itself (FlatRefusal.RecursiveModule 1)
contains_itself_refused = grouped contains_itself (FlatRefusal.RecursiveModule 1) (inr (
  silent_then (silent_refuse not_true) (λ r h. h),
  inr (
    silent_refuse (λ h. h _ refl refl),
    inl (inl (inl (inr (
      silent_refuse (⊎_elim none_before (λ h. not_true h.0)),
      inr (
        silent_refuse not_none,
        inl (refl, (0, omega arith, refl)),
      ),
    )))),
  ),
))

reversed_refused : Refuses reversed (FlatRefusal.BadType 1)
reversed_refused = grouped reversed (FlatRefusal.BadType 1) (inr (
  silent_then (silent_refuse not_true) (λ r h. h),
  inr (
    silent_refuse (λ h. h _ refl refl),
    inl (inl (inl (inr (
      silent_refuse (⊎_elim none_before (λ h. not_true h.0)),
      inl (refl, refl),
    )))),
  ),
))

too_many_variables_refused : Refuses too_many_variables (FlatRefusal.Limit 1 Which.Variables 257)
too_many_variables_refused = grouped too_many_variables (FlatRefusal.Limit 1 Which.Variables 257) (inr (
  silent_then (silent_refuse not_true) (λ r h. h),
  inr (
    silent_refuse (λ h. h _ refl refl),
    inl (inl (inl (inr (
      silent_refuse (⊎_elim none_before (λ h. not_true h.0)),
      inr (silent_refuse not_true, inr (silent_refuse (λ h. omega arith), (refl, omega arith))),
    )))),
  ),
))

-- of two limits the one named first: the values, of the elements' type
too_many_values_refused : Refuses too_many_values (FlatRefusal.Limit 1 Which.Values 1025)
too_many_values_refused = grouped too_many_values (FlatRefusal.Limit 1 Which.Values 1025) (inr (
  silent_then (silent_refuse not_true) (λ r h. h),
  inr (
    silent_refuse (λ h. h _ refl refl),
    inl (inl (inl (inr (
      silent_refuse (⊎_elim none_before (λ h. not_true h.0)),
      inr (silent_refuse not_true, inl (refl, omega arith)),
    )))),
  ),
))

-- a process of `main` may not have the name of process 0
second_main_refused : Refuses second_main (FlatRefusal.DuplicateName 1)
second_main_refused = grouped second_main (FlatRefusal.DuplicateName 1) (inr (
  silent_then (silent_refuse not_true) (silent_then (silent_refuse not_true) (λ r h. h)),
  inr (
    silent_refuse (λ h. h _ refl refl),
    inl (inl (inl (inl (refl, inr (refl, refl))))),
  ),
))

constant_name_refused : Refuses constant_name (FlatRefusal.NameIsConstant 1)
constant_name_refused = grouped constant_name (FlatRefusal.NameIsConstant 1) (inr (
  silent_then (silent_refuse not_true) (λ r h. h),
  inr (
    silent_refuse (λ h. h _ refl refl),
    inr (
      silent_body (silent_then (boolean_variable (⊎_elim none_before (λ h. not_true h.0)) not_true (λ h. omega arith) (λ h. omega arith))
          (silent_then (boolean_variable (⊎_elim (another_name name_a _ refl refl) (λ h. not_true h.0)) not_true (λ h. omega arith) (λ h. omega arith)) (λ r h. h))),
      inl (inr (silent_refuse not_true, inl (refl, refl))),
    ),
  ),
))

circular_refused : Refuses circular (FlatRefusal.CircularDefine 1)
circular_refused = grouped circular (FlatRefusal.CircularDefine 1) (inr (
  silent_then (silent_refuse not_true) (λ r h. h),
  inr (
    silent_refuse (λ h. h _ refl refl),
    inr (
      silent_body (silent_then (silent_then (silent_refuse (⊎_elim none_before (λ h. not_true h.0))) (λ r h. h)) (λ r h. h)),
      inr (
        silent_then (silent_refuse not_true) (λ r h. h),
        inl (inl (inl (refl, Leads.one (_, _, refl, (0, _, omega arith, refl, (0, _, omega arith, refl, (refl, refl))))))),
      ),
    ),
  ),
))

one_argument_more_refused : Refuses one_argument_more (FlatRefusal.ArgumentCount 1)
one_argument_more_refused = grouped one_argument_more (FlatRefusal.ArgumentCount 1) (inr (
  silent_then (silent_refuse not_true) (silent_then (silent_refuse not_true) (λ r h. h)),
  inr (
    silent_refuse (λ h. h _ refl refl),
    inl (inl (inl (inr (
      silent_refuse (⊎_elim none_before (λ h. not_true h.0)),
      inr (
        silent_refuse not_none,
        inr (
          silent_refuse (λ h. names_differ _ _ refl refl (contains_one _ _ h)),
          inl (refl, (_, refl, λ e. omega arith)),
        ),
      ),
    )))),
  ),
))

-- ---- an index out of its bounds

term_of_number : {p : Program} {s : Scope} {m : ℕ} {t : Term} → Expands p s (Expr.Number m) t → t ≡ Term.Const (Number (pos m))
term_of_number Expands.number = refl

number_in : Checked (List Value) → ℕ
number_in (Ok (Number (pos n) ∷ [])) = n
number_in other = 0

value_of_number : {p : Program} {low high : ℕ} {s : Scope} {m n : ℕ} → IsIndex p (record { low = low; high = high; scope = s; index = Expr.Number m }) n → (m ≡ n) × (n ≤ high)
unfolding number_in
value_of_number {n} (IsIndex.value expands arithmetic has low high) = (ap number_in (subst (λ t. HasValue t n) (term_of_number expands) has), high)

element_2 : Denotes outside (main_of outside) (Path.Index (Path.Here 1 name_a) (Expr.Number 2)) (Target.Stored (main_of outside) name_a Plain.Boolean (record { low = 0; high = 1; scope = main_of outside; index = Expr.Number 2 } ∷ []))
element_2 = Denotes.index (Denotes.here (Finds.direct refl))

outside_refused : Refuses outside (FlatRefusal.BadIndex 1)
outside_refused = grouped outside (FlatRefusal.BadIndex 1) (inr (
  silent_then (silent_refuse not_true) (λ r h. h),
  inr (
    silent_refuse (λ h. h _ refl refl),
    inr (
      silent_body (silent_then (boolean_variable (⊎_elim none_before (λ h. not_true h.0)) not_true (λ h. omega arith) (λ h. omega arith)) (λ r h. h)),
      inr (
        silent_then (silent_refuse not_true) (λ r h. h),
        inr (
          silent_then (λ r h. h) (λ r h. h),
          inl (inl (inr (
            silent_then (silent_refuse (λ h. h _ element_2 refl)) (λ r h. h),
            inl (refl, inr (_, _, 0, 1, Plain.Boolean, [], Denotes.here (Finds.direct refl), λ n i. let v : (2 ≡ n) × (n ≤ 1) = value_of_number i in omega (arith, v.0, v.1))),
          ))),
        ),
      ),
    ),
  ),
))

-- ---- a left side that is a defined symbol

-- the expression of a names b, and is e, read in home
names_of : (p : Program) (a b : Abbreviation) {home : Scope} {e : Expr} → text_of a ≡ Some (home, e) → Uses p a b → Any (λ m. Any (λ q. Names p home q b) (fronts m.path)) (mentions e)
names_of p a b is used = subst named (sym used.2 ∙ is) used.3
  where
    named : Option (Scope × Expr) → Type 0
    named None = ⊥
    named (Some r) = Any (λ m. Any (λ q. Names p r.0 q b) (fronts m.path)) (mentions r.1)

abbrev d_of : Abbreviation
d_of = record { scope = main_of assigned_definition; name = name_d }

-- it uses x alone
uses_x : (b : Abbreviation) → Uses assigned_definition d_of b → (b.scope ≡ main_of assigned_definition) × (b.name ≡ name_x)
uses_x b used = any_one (λ q. Names assigned_definition (main_of assigned_definition) q b) _ (any_one (λ (m : Mention). Any (λ q. Names assigned_definition (main_of assigned_definition) q b) (fronts m.path)) _ (names_of assigned_definition d_of b refl used))

leads_nowhere : (p : Program) (a b : Abbreviation) → text_of a ≡ None → Leads p a b → ⊥
leads_nowhere p a b none (Leads.one used) = not_some (sym none ∙ used.2)
leads_nowhere p a b none (Leads.more used leads) = not_some (sym none ∙ used.2)

x_has_no_text : (a : Abbreviation) → a.scope ≡ main_of assigned_definition → a.name ≡ name_x → text_of a ≡ None
x_has_no_text a s n = subst (λ x. text_of (record { scope = a.scope; name = x }) ≡ None) (sym n) (subst (λ (m : Scope). text_of (record { scope = m; name = name_x }) ≡ None) (sym s) refl)

not_circular : {a b : Abbreviation} → a ≡ d_of → b ≡ d_of → Leads assigned_definition a b → ⊥
not_circular {a} {b} from to (Leads.one used) = names_differ name_x name_d refl refl (sym (uses_x b (subst (λ c. Uses assigned_definition c b) from used)).1 ∙ ap (λ c. c.name) to)
not_circular {a} {b} from to (Leads.more {b = c} used leads) =
    let x : (c.scope ≡ main_of assigned_definition) × (c.name ≡ name_x) = uses_x c (subst (λ d. Uses assigned_definition d c) from used) in
    leads_nowhere assigned_definition c b (x_has_no_text c x.0 x.1) leads

reads_body : Denotes assigned_definition (main_of assigned_definition) (Path.Here 1 name_d) (Target.Reading (main_of assigned_definition) (Expr.At (Path.Here 1 name_x)))
reads_body = Denotes.here (Finds.direct refl)

abbrev is_stored : Option Meaning → Bool
is_stored (Some (Meaning.Direct (Target.Stored home x type indexes))) = true
is_stored other = false

abbrev passes : Option Meaning → Bool
passes (Some (Meaning.Passed around q)) = true
passes other = false

no_variable : (s : Scope) (p : Program) (line : ℕ) (x : Name) → is_stored (meaning p s x) ≡ false → passes (meaning p s x) ≡ false → (k : ℕ) → Selects p s (Path.Here line x) k → ⊥
no_variable s p line x other direct k (Selects.cell (Denotes.here (Finds.direct e)) array indexes) = not_true (sym other ∙ ap is_stored e)
no_variable s p line x other direct k (Selects.cell (Denotes.here (Finds.passed_on e d)) array indexes) = not_true (sym direct ∙ ap passes e)

assigned_definition_refused : Refuses assigned_definition (FlatRefusal.NotAssignable 1)
assigned_definition_refused = grouped assigned_definition (FlatRefusal.NotAssignable 1) (inr (
  silent_then (silent_refuse not_true) (λ r h. h),
  inr (
    silent_refuse (λ h. h _ refl refl),
    inr (
      silent_body (silent_then (boolean_variable (⊎_elim none_before (λ h. not_true h.0)) not_true (λ h. omega arith) (λ h. omega arith))
          (silent_then (silent_then (silent_refuse (⊎_elim (another_name name_d _ refl refl) (λ h. not_true h.0))) (λ r h. h)) (λ r h. h))),
      inr (
        silent_then (silent_refuse not_true) (silent_then (silent_refuse not_true) (λ r h. h)),
        inr (
          silent_then (λ r h. h) (silent_then (silent_then (silent_refuse (not_circular refl refl))
              (silent_then (silent_then (silent_refuse (λ h. h _ (Denotes.here (Finds.direct refl)) refl)) (λ r h. h))
              (silent_then (silent_refuse (λ h. h)) (λ r h. h)))) (λ r h. h)),
          inl (inr (
            silent_then (silent_then (silent_refuse (λ h. h _ reads_body refl)) (λ r h. h)) (silent_then (silent_refuse (λ h. h)) (λ r h. h)),
            inl (refl, no_variable _ _ _ _ refl refl),
          )),
        ),
      ),
    ),
  ),
))
