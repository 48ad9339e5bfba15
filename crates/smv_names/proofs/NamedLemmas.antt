-- A path that names an abbreviation stands for the same terms as the abbreviation's text.
use Rattle.std.proofs.Common.{◌≡◌, refl, sym, ◌∙◌, ap, subst, List, [], Bool, true, false, Some, None, Option}
use Rattle.std.specs.Prelude.{cond, option_and_then, option_map}
use Rattle.kripke_model.specs.Term.{Term}
use Rattle.kripke_model.specs.Size.{term_nodes, nesting}
use Rattle.smv_instances.specs.Program.{Name, Expr, Path, Plain, Program}
use Rattle.smv_instances.specs.Entries.{Entity, entity_in, module_named}
use Rattle.smv_instances.specs.Instances.{Scope, module_of}
use Rattle.smv_names.specs.Denotes.{Target, Denotes, Finds, Meaning, meaning, meaning_of, passed, actual_of, bare}
use Rattle.smv_names.specs.Expands.{is_arithmetic, Expands, Selects}
use Rattle.smv_names.specs.Abbreviations.{Abbreviation, text_of, Names}
use Rattle.smv_names.proofs.Once.{denotes_one}

-- ---- what an abbreviation's name means

-- the name means its text
pub data IsText (h : Scope) (e : Expr) (m : Option Meaning) : Type 0 where
  reading : m ≡ Some (Meaning.Direct (Target.Reading h e)) → IsText h e m
  passes : (r : Path) → e ≡ Expr.At r → m ≡ Some (Meaning.Passed h r) → IsText h e m

-- the name means nothing, a variable, an array or an instance
abbrev pub IsBare : Option Meaning → Type 0
IsBare None = Unit {0}
IsBare (Some (Meaning.Direct (Target.Stored home x type indexes))) = Unit {0}
IsBare (Some (Meaning.Direct (Target.Instance i))) = Unit {0}
IsBare (Some (Meaning.Direct (Target.Reading home e))) = ⊥
IsBare (Some (Meaning.Direct (Target.Constant x))) = ⊥
IsBare (Some (Meaning.Passed around q)) = ⊥

abbrev pub Means : Option (Scope × Expr) → Option Meaning → Type 0
Means None m = IsBare m
Means (Some r) m = IsText r.0 r.1 m

passed_text : (h : Scope) (e : Expr) → IsText h e (Some (passed h e))
passed_text h (Expr.At r) = IsText.passes r refl refl
passed_text h e = IsText.reading refl

actual_means : (o : Option (Scope × Expr)) → Means o (option_map (λ r. passed r.0 r.1) o)
actual_means None = tt
actual_means (Some r) = passed_text r.0 r.1

instance_means : (p : Program) (s : Scope) (x : Name) (process : Bool) (actuals : List Expr) (module_name : Name) → IsBare (meaning_of p s x (Entity.Instance process module_name actuals))
instance_means p s x process actuals module_name = go (module_named p module_name)
  where
    go : (o : Option _) → IsBare (option_map (λ m. Meaning.Direct (Target.Instance (Scope.Inside s x process actuals m))) o)
    go None = tt
    go (Some m) = tt

entity_means : (p : Program) (s : Scope) (x : Name) (f : Entity → Option (Scope × Expr)) → f Entity.Parameter ≡ actual_of s x → ((type : Plain) → f (Entity.Stored type) ≡ None)
    → ((process : Bool) (module_name : Name) (actuals : List Expr) → f (Entity.Instance process module_name actuals) ≡ None) → ((body : Expr) → f (Entity.Defined body) ≡ Some (s, body))
    → (o : Option Entity) → Means (option_and_then f o) (option_and_then (meaning_of p s x) o)
entity_means p s x f a b c d None = tt
entity_means p s x f a b c d (Some Entity.Parameter) = subst (λ z. Means z (option_map (λ r. passed r.0 r.1) (actual_of s x))) (sym a) (actual_means (actual_of s x))
entity_means p s x f a b c d (Some (Entity.Stored type)) = subst (λ z. Means z (Some (Meaning.Direct (Target.Stored s x type [])))) (sym (b type)) tt
entity_means p s x f a b c d (Some (Entity.Instance process module_name actuals)) =
    subst (λ z. Means z (meaning_of p s x (Entity.Instance process module_name actuals))) (sym (c process module_name actuals)) (instance_means p s x process actuals module_name)
entity_means p s x f a b c d (Some (Entity.Defined body)) = subst (λ z. Means z (Some (Meaning.Direct (Target.Reading s body)))) (sym (d body)) (IsText.reading refl)

pub name_means : (p : Program) (a : Abbreviation) → Means (text_of a) (meaning p a.scope a.name)
name_means p a = entity_means p a.scope a.name _ refl (λ type. refl) (λ process module_name actuals. refl) (λ body. refl) (entity_in (module_of a.scope) a.name)

pub text_means : (p : Program) (a : Abbreviation) {h : Scope} {e : Expr} → text_of a ≡ Some (h, e) → IsText h e (meaning p a.scope a.name)
text_means p a is = subst (λ z. Means z (meaning p a.scope a.name)) is (name_means p a)

pub bare_means : (p : Program) (a : Abbreviation) → text_of a ≡ None → IsBare (meaning p a.scope a.name)
bare_means p a is = subst (λ z. Means z (meaning p a.scope a.name)) is (name_means p a)

-- ---- what a path denotes that names it

pub denotes_found : {p : Program} {s : Scope} {a : Abbreviation} {t : Target} (q : Path) → Names p s q a → Finds p a.scope a.name t → Denotes p s q t
denotes_found {p} {s} {a} {t} (Path.Here line x) n f = Denotes.here (subst (λ z. Finds p s z t) n.1 (subst (λ z. Finds p z a.name t) n.0 f))
denotes_found {p} {s} {a} {t} (Path.Field q x) n f = Denotes.field n.0 (subst (λ z. Finds p a.scope z t) n.1 f)
denotes_found (Path.Index q e) n f = absurd n

abbrev instance_or : Scope → Target → Scope
instance_or s (Target.Instance i) = i
instance_or s other = s

pub found_denoted : {p : Program} {s : Scope} {q : Path} {a : Abbreviation} {t : Target} → Names p s q a → (meaning p a.scope a.name ≡ None → ⊥) → Denotes p s q t → Finds p a.scope a.name t
found_denoted {p} {s} {a = a} {t = t} n some (Denotes.here {x = x} f) = subst (λ z. Finds p z a.name t) (sym n.0) (subst (λ z. Finds p s z t) (sym n.1) f)
found_denoted {p} {s} {a = a} n some (Denotes.constant {x = x} none is) = absurd (some (ap (λ z. meaning p z a.name) n.0 ∙ ap (λ z. meaning p s z) n.1 ∙ none))
found_denoted {p} {a = a} {t = t} n some (Denotes.field {i = i} {x = x} d f) =
    subst (λ z. Finds p z a.name t) (sym (ap (instance_or i) (denotes_one n.0 d))) (subst (λ z. Finds p i z t) (sym n.1) f)
found_denoted n some (Denotes.index d) = absurd n

-- ---- what the text stands for

abbrev target_or : Target → Option Meaning → Target
target_or t (Some (Meaning.Direct u)) = u
target_or t other = t

abbrev around_or : Scope → Option Meaning → Scope
around_or s (Some (Meaning.Passed around q)) = around
around_or s other = s

abbrev path_or : Path → Option Meaning → Path
path_or q (Some (Meaning.Passed around r)) = r
path_or q other = q

abbrev is_direct : Option Meaning → Bool
is_direct (Some (Meaning.Direct t)) = true
is_direct other = false

abbrev home_or : Scope → Target → Scope
home_or s (Target.Reading home e) = home
home_or s other = s

abbrev expr_or : Expr → Target → Expr
expr_or d (Target.Reading home e) = e
expr_or d other = d

abbrev is_reading : Target → Bool
is_reading (Target.Reading home e) = true
is_reading other = false

not_true : false ≡ true → ⊥
not_true e = subst (λ b. cond b ⊥ (Unit {0})) e tt

-- a name that means a target finds it alone
pub found_direct : {p : Program} {s : Scope} {x : Name} {t u : Target} → meaning p s x ≡ Some (Meaning.Direct u) → Finds p s x t → u ≡ t
found_direct {u = u} m (Finds.direct f) = ap (target_or u) (sym m ∙ f)
found_direct m (Finds.passed_on f d) = absurd (not_true (sym (ap is_direct (sym m ∙ f))))

pub found_passed : {p : Program} {s : Scope} {x : Name} {h : Scope} {r : Path} {t : Target} → meaning p s x ≡ Some (Meaning.Passed h r) → Finds p s x t → Denotes p h r t
found_passed m (Finds.direct f) = absurd (not_true (ap is_direct (sym m ∙ f)))
found_passed {p} {h = h} {r = r} {t = t} m (Finds.passed_on {around = b} {q = q} f d) =
    subst (λ z. Denotes p z r t) (ap (around_or b) (sym f ∙ m)) (subst (λ z. Denotes p b z t) (ap (path_or q) (sym f ∙ m)) d)

-- a path that denotes an expression stands for what that stands for
pub reading_expands : {p : Program} {s : Scope} {q : Path} {h : Scope} {e : Expr} {t : Term} → Denotes p s q (Target.Reading h e) → Expands p s (Expr.At q) t → Expands p h e t
reading_expands d (Expands.variable (Selects.cell c array indexes)) = absurd (not_true (ap is_reading (denotes_one c d)))
reading_expands d (Expands.constant c) = absurd (not_true (ap is_reading (denotes_one c d)))
reading_expands {p} {h = h} {e = e} {t = t} d (Expands.read {home = g} {e = f} c r) =
    subst (λ z. Expands p z e t) (ap (home_or g) (denotes_one c d)) (subst (λ z. Expands p g z t) (ap (expr_or f) (denotes_one c d)) r)

-- so does a path that denotes what another one denotes
pub same_expands : {p : Program} {s h : Scope} {q r : Path} {t : Term} → ((u : Target) → Denotes p s q u → Denotes p h r u) → Expands p s (Expr.At q) t → Expands p h (Expr.At r) t
same_expands f (Expands.variable (Selects.cell d array indexes)) = Expands.variable (Selects.cell (f _ d) array indexes)
same_expands f (Expands.constant d) = Expands.constant (f _ d)
same_expands f (Expands.read d r) = Expands.read (f _ d) r

abbrev is_meant : Option Meaning → Bool
is_meant None = false
is_meant (Some m) = true

some_meant : {m : Option Meaning} {a : Meaning} → m ≡ Some a → m ≡ None → ⊥
some_meant some none = not_true (ap is_meant (sym none ∙ some))

text_by : (p : Program) (s : Scope) (q : Path) (a : Abbreviation) {h : Scope} {e : Expr} {t : Term} → Names p s q a → IsText h e (meaning p a.scope a.name) → Expands p s (Expr.At q) t → Expands p h e t
text_by p s q a n (IsText.reading m) x = reading_expands (denotes_found q n (Finds.direct m)) x
text_by p s q a {h} {t = t} n (IsText.passes r is m) x =
    subst (λ z. Expands p h z t) (sym is) (same_expands (λ u d. found_passed m (found_denoted n (some_meant m) d)) x)

by_text : (p : Program) (s : Scope) (q : Path) (a : Abbreviation) {h : Scope} {e : Expr} {t : Term} → Names p s q a → IsText h e (meaning p a.scope a.name) → Expands p h e t → Expands p s (Expr.At q) t
by_text p s q a n (IsText.reading m) x = Expands.read (denotes_found q n (Finds.direct m)) x
by_text p s q a {h} {t = t} n (IsText.passes r is m) x =
    same_expands (λ u d. denotes_found q n (Finds.passed_on m d)) (subst (λ z. Expands p h z t) is x)

pub text_of_named : (p : Program) (s : Scope) (q : Path) (a : Abbreviation) {h : Scope} {e : Expr} {t : Term} → Names p s q a → text_of a ≡ Some (h, e) → Expands p s (Expr.At q) t → Expands p h e t
text_of_named p s q a n is x = text_by p s q a n (text_means p a is) x

pub named_of_text : (p : Program) (s : Scope) (q : Path) (a : Abbreviation) {h : Scope} {e : Expr} {t : Term} → Names p s q a → text_of a ≡ Some (h, e) → Expands p h e t → Expands p s (Expr.At q) t
named_of_text p s q a n is x = by_text p s q a n (text_means p a is) x

-- ---- a path that names no text

-- a variable or a symbolic constant
pub record IsLeaf (t : Term) : Type 0 where
  pub nodes : term_nodes t ≡ 1
  pub deep : nesting t ≡ 1
  pub no_number : is_arithmetic t ≡ false

bare_reading : {p : Program} {s : Scope} {x : Name} {t : Target} → IsBare (meaning p s x) → Finds p s x t → is_reading t ≡ true → ⊥
bare_reading {t = Target.Reading h e} b (Finds.direct f) r = subst IsBare f b
bare_reading {t = Target.Stored home x type indexes} b (Finds.direct f) r = not_true r
bare_reading {t = Target.Instance i} b (Finds.direct f) r = not_true r
bare_reading {t = Target.Constant x} b (Finds.direct f) r = not_true r
bare_reading b (Finds.passed_on f d) r = subst IsBare f b

pub no_reading : {p : Program} {s : Scope} {q : Path} {t : Target} → ((a : Abbreviation) → Names p s q a → text_of a ≡ None) → Denotes p s q t → is_reading t ≡ true → ⊥
no_reading {p} {s} none (Denotes.here {x = x} f) r = bare_reading (bare_means p (record { scope = s; name = x }) (none (record { scope = s; name = x }) (refl, refl))) f r
no_reading none (Denotes.constant m is) r = not_true r
no_reading {p} none (Denotes.field {i = i} {x = x} d f) r = bare_reading (bare_means p (record { scope = i; name = x }) (none (record { scope = i; name = x }) (d, refl))) f r
no_reading none (Denotes.index d) r = not_true r

pub leaf_of_named : (p : Program) (s : Scope) (q : Path) {t : Term} → ((a : Abbreviation) → Names p s q a → text_of a ≡ None) → Expands p s (Expr.At q) t → IsLeaf t
leaf_of_named p s q none (Expands.variable v) = record { nodes = refl; deep = refl; no_number = refl }
leaf_of_named p s q none (Expands.constant c) = record { nodes = refl; deep = refl; no_number = refl }
leaf_of_named p s q none (Expands.read d r) = absurd (no_reading none d refl)

-- ---- parentheses only group

pub to_bare : {p : Program} {s : Scope} {e : Expr} {t : Term} → Expands p s e t → Expands p s (bare e) t
to_bare (Expands.parens x) = to_bare x
to_bare Expands.number = Expands.number
to_bare Expands.truth = Expands.truth
to_bare Expands.running = Expands.running
to_bare (Expands.variable v) = Expands.variable v
to_bare (Expands.constant c) = Expands.constant c
to_bare (Expands.read d r) = Expands.read d r
to_bare (Expands.next x) = Expands.next x
to_bare (Expands.braces x) = Expands.braces x
to_bare (Expands.cases x) = Expands.cases x
to_bare (Expands.negation x) = Expands.negation x
to_bare (Expands.binary x y) = Expands.binary x y
to_bare (Expands.quantified x) = Expands.quantified x
to_bare (Expands.until x y) = Expands.until x y

pub of_bare : {p : Program} {s : Scope} (e : Expr) {t : Term} → Expands p s (bare e) t → Expands p s e t
of_bare (Expr.Parens e) x = Expands.parens (of_bare e x)
of_bare e x = x
