-- An abbreviation whose text stands for a term is not circular.
use Rattle.std.proofs.Common.{◌≡◌, refl, sym, ◌∙◌, ap, subst, ℕ, List, [], ◌∷◌, ◌++◌, Bool, true, false, Some, None, Option, Any, inl, inr}
use Rattle.std.specs.Prelude.{cond}
use Rattle.kripke_model.specs.Term.{Term, Terms, Arms}
use Rattle.smv_instances.specs.Program.{Name, Expr, Exprs, Path, Plain, Program}
use Rattle.smv_instances.specs.Program
use Rattle.smv_instances.specs.Instances.{Scope}
use Rattle.smv_names.specs.Denotes.{Bracket, Target, Denotes, Finds, Meaning, meaning}
use Rattle.smv_names.specs.Expands.{Expands, ExpandElements, ExpandArms, Selects, IsIndex, AreIndexes}
use Rattle.smv_names.specs.Abbreviations.{Mention, mentions, element_mentions, arm_mentions, index_mentions, Abbreviation, text_of, fronts, Names, Uses, Leads, IsCircular}
use Rattle.smv_names.specs.Naming.{InFronts, NamedIn}
use Rattle.smv_names.proofs.Once.{denotes_one}
use Rattle.smv_names.proofs.AnyLemmas.{no_any, any_here, any_there, any_case, any_split}
use Rattle.smv_names.proofs.NamedLemmas.{IsText, Means, name_means, found_direct}

-- whatever it uses is grounded
pub data IsGrounded (p : Program) : Abbreviation → Type 0 where
  grounded : {a : Abbreviation} → ((b : Abbreviation) → Uses p a b → IsGrounded p b) → IsGrounded p a

then_one : {p : Program} {a b c : Abbreviation} → Leads p a b → Uses p b c → Leads p a c
then_one (Leads.one u) v = Leads.more u (Leads.one v)
then_one (Leads.more u l) v = Leads.more u (then_one l v)

pub no_cycle : {p : Program} {a : Abbreviation} → IsGrounded p a → IsCircular p a → ⊥
no_cycle {a = a} (IsGrounded.grounded h) (Leads.one used) = no_cycle (h a used) (Leads.one used)
no_cycle (IsGrounded.grounded h) (Leads.more {b = b} used leads) = no_cycle (h b used) (then_one leads used)

abbrev AreGrounded : Program → Scope → List Mention → Type 0
AreGrounded p s ms = (b : Abbreviation) → NamedIn p s ms b → IsGrounded p b

abbrev BracketsGrounded : Program → List Bracket → Type 0
BracketsGrounded p [] = Unit {0}
BracketsGrounded p (i ∷ is) = AreGrounded p i.scope (mentions i.index) × BracketsGrounded p is

abbrev Rooted : Program → Target → Type 0
Rooted p (Target.Stored home x type indexes) = BracketsGrounded p indexes
Rooted p (Target.Reading h e) = AreGrounded p h (mentions e)
Rooted p (Target.Instance i) = Unit {0}
Rooted p (Target.Constant x) = Unit {0}

joined : (p : Program) (s : Scope) (ms ns : List Mention) → AreGrounded p s ms → AreGrounded p s ns → AreGrounded p s (ms ++ ns)
joined p s ms ns f g b h = elim (any_split (InFronts p s b) ms ns h) [ inl k ↦ f b k | inr k ↦ g b k ]

nothing : (p : Program) (s : Scope) → AreGrounded p s []
nothing p s b h = absurd (no_any (InFronts p s b) h)

abbrev scope_or : Scope → Option (Scope × Expr) → Scope
scope_or d (Some r) = r.0
scope_or d None = d

abbrev expr_or : Expr → Option (Scope × Expr) → Expr
expr_or d (Some r) = r.1
expr_or d None = d

abbrev has_text : Option (Scope × Expr) → Bool
has_text (Some r) = true
has_text None = false

abbrev is_direct : Option Meaning → Bool
is_direct (Some (Meaning.Direct t)) = true
is_direct other = false

not_true : false ≡ true → ⊥
not_true e = subst (λ b. cond b ⊥ (Unit {0})) e tt

-- ---- an abbreviation by its text

pub without_text : {p : Program} {a : Abbreviation} → text_of a ≡ None → IsGrounded p a
without_text none = IsGrounded.grounded (λ b used. absurd (not_true (ap has_text (sym none ∙ used.2))))

pub with_text : {p : Program} {a : Abbreviation} {h : Scope} {e : Expr} → text_of a ≡ Some (h, e) → AreGrounded p h (mentions e) → IsGrounded p a
with_text {p} {h = h} {e = e} is g = IsGrounded.grounded (λ b used.
    g b (subst (λ z. NamedIn p z (mentions e) b) (ap (scope_or h) (sym used.2 ∙ is)) (subst (λ z. NamedIn p used.0 (mentions z) b) (ap (expr_or e) (sym used.2 ∙ is)) used.3)))

-- by what its name means
pub meaning_grounded : {p : Program} (a : Abbreviation) → ((h : Scope) (e : Expr) → IsText h e (meaning p a.scope a.name) → AreGrounded p h (mentions e)) → IsGrounded p a
meaning_grounded {p} a g = go (text_of a) refl (name_means p a)
  where
    go : (o : Option (Scope × Expr)) → text_of a ≡ o → Means o (meaning p a.scope a.name) → IsGrounded p a
    go None is m = without_text is
    go (Some r) is m = with_text is (g r.0 r.1 m)

abbrev around_or : Scope → Option Meaning → Scope
around_or s (Some (Meaning.Passed around q)) = around
around_or s other = s

abbrev path_or : Path → Option Meaning → Path
path_or q (Some (Meaning.Passed around r)) = r
path_or q other = q

abbrev instance_or : Scope → Target → Scope
instance_or s (Target.Instance i) = i
instance_or s other = s

abbrev is_meant : Option Meaning → Bool
is_meant None = false
is_meant (Some m) = true

not_meant : {m : Option Meaning} {h : Scope} {e : Expr} → m ≡ None → IsText h e m → ⊥
not_meant none (IsText.reading n) = not_true (ap is_meant (sym none ∙ n))
not_meant none (IsText.passes r is n) = not_true (ap is_meant (sym none ∙ n))

-- a path and those in its indexes
pub path_grounded : (p : Program) (s : Scope) (q : Path) (wanted : Bool) (ms : List Mention) → ((b : Abbreviation) → Any (λ r. Names p s r b) (fronts q) → IsGrounded p b) → AreGrounded p s ms → AreGrounded p s (record { path = q; wanted = wanted } ∷ ms)
path_grounded p s q wanted ms f g b h = elim (any_case (InFronts p s b) (record { path = q; wanted = wanted }) ms h) [ inl k ↦ f b k | inr k ↦ g b k ]

of_path : (p : Program) (s : Scope) (q : Path) → AreGrounded p s (mentions (Expr.At q)) → (b : Abbreviation) → Any (λ r. Names p s r b) (fronts q) → IsGrounded p b
of_path p s q g b h = g b (any_here (InFronts p s b) (record { path = q; wanted = true }) (index_mentions q) h)

of_indexes : (p : Program) (s : Scope) (q : Path) → AreGrounded p s (mentions (Expr.At q)) → AreGrounded p s (index_mentions q)
of_indexes p s q g b h = g b (any_there (InFronts p s b) (record { path = q; wanted = true }) (index_mentions q) h)

here_named : (p : Program) (s : Scope) (line : ℕ) (x : Name) → IsGrounded p (record { scope = s; name = x }) → (b : Abbreviation) → Any (λ r. Names p s r b) (fronts (Path.Here line x)) → IsGrounded p b
here_named p s line x g b h = elim (any_case (λ r. Names p s r b) (Path.Here line x) [] h) [ inl n ↦ one n | inr n ↦ absurd (no_any (λ r. Names p s r b) n) ]
  where
    one : (b.scope ≡ s) × (b.name ≡ x) → IsGrounded p b
    one n = subst (λ z. IsGrounded p (record { scope = z; name = b.name })) (sym n.0) (subst (λ z. IsGrounded p (record { scope = s; name = z })) (sym n.1) g)

here_grounded : (p : Program) (s : Scope) (line : ℕ) (x : Name) → IsGrounded p (record { scope = s; name = x }) → AreGrounded p s (mentions (Expr.At (Path.Here line x)))
here_grounded p s line x g = path_grounded p s (Path.Here line x) true [] (here_named p s line x g) (nothing p s)

field_named : (p : Program) (s : Scope) (q : Path) (i : Scope) (x : Name) → Denotes p s q (Target.Instance i) → ((b : Abbreviation) → Any (λ r. Names p s r b) (fronts q) → IsGrounded p b) → IsGrounded p (record { scope = i; name = x })
    → (b : Abbreviation) → Any (λ r. Names p s r b) (fronts (Path.Field q x)) → IsGrounded p b
field_named p s q i x d f g b h = elim (any_case (λ r. Names p s r b) (Path.Field q x) (fronts q) h) [ inl n ↦ one n | inr n ↦ f b n ]
  where
    one : Denotes p s q (Target.Instance b.scope) × (b.name ≡ x) → IsGrounded p b
    one n = subst (λ z. IsGrounded p (record { scope = z; name = b.name })) (ap (instance_or i) (denotes_one d n.0)) (subst (λ z. IsGrounded p (record { scope = i; name = z })) (sym n.1) g)

field_grounded : (p : Program) (s : Scope) (q : Path) (i : Scope) (x : Name) → Denotes p s q (Target.Instance i) → AreGrounded p s (mentions (Expr.At q)) → IsGrounded p (record { scope = i; name = x }) → AreGrounded p s (mentions (Expr.At (Path.Field q x)))
field_grounded p s q i x d f g = path_grounded p s (Path.Field q x) true (index_mentions q) (field_named p s q i x d (of_path p s q f) g) (of_indexes p s q f)

index_named : (p : Program) (s : Scope) (q : Path) (e : Expr) → ((b : Abbreviation) → Any (λ r. Names p s r b) (fronts q) → IsGrounded p b) → (b : Abbreviation) → Any (λ r. Names p s r b) (fronts (Path.Index q e)) → IsGrounded p b
index_named p s q e f b h = elim (any_case (λ r. Names p s r b) (Path.Index q e) (fronts q) h) [ inl n ↦ absurd n | inr n ↦ f b n ]

index_grounded : (p : Program) (s : Scope) (q : Path) (e : Expr) → AreGrounded p s (mentions (Expr.At q)) → AreGrounded p s (mentions e) → AreGrounded p s (mentions (Expr.At (Path.Index q e)))
index_grounded p s q e f g = path_grounded p s (Path.Index q e) true (index_mentions q ++ mentions e) (index_named p s q e (of_path p s q f)) (joined p s (index_mentions q) (mentions e) (of_indexes p s q f) g)

direct_grounded : (p : Program) (s : Scope) (x : Name) (t : Target) → meaning p s x ≡ Some (Meaning.Direct t) → Rooted p t → (h : Scope) (e : Expr) → IsText h e (meaning p s x) → AreGrounded p h (mentions e)
direct_grounded p s x t m rooted h e (IsText.reading n) = subst (λ z. Rooted p z) (sym (found_direct {p = p} {s = s} {x = x} n (Finds.direct m))) rooted
direct_grounded p s x t m rooted h e (IsText.passes r is n) = absurd (not_true (ap is_direct (sym n ∙ m)))

at_meaning : (p : Program) {q : Path} {m : Option Meaning} {around : Scope} → m ≡ Some (Meaning.Passed around q) → AreGrounded p around (mentions (Expr.At q)) → (h : Scope) (e : Expr) → IsText h e m → AreGrounded p h (mentions e)
at_meaning p m g h e (IsText.reading n) = absurd (not_true (ap is_direct (sym m ∙ n)))
at_meaning p {q} {around = a} m g h e (IsText.passes r is n) =
    subst (λ z. AreGrounded p h (mentions z)) (sym is)
    (subst (λ z. AreGrounded p z (mentions (Expr.At r))) (ap (around_or h) (sym m ∙ n)) (subst (λ z. AreGrounded p a (mentions (Expr.At z))) (ap (path_or q) (sym m ∙ n)) g))

-- ---- all that lies under a derivation

mutual
  finds_grounded : {p : Program} {s : Scope} {x : Name} {t : Target} → Finds p s x t → Rooted p t → IsGrounded p (record { scope = s; name = x })
  finds_grounded {p} {s} {x} {t} (Finds.direct m) rooted = meaning_grounded (record { scope = s; name = x }) (direct_grounded p s x t m rooted)
  finds_grounded {p} {s} {x} (Finds.passed_on m d) rooted = meaning_grounded (record { scope = s; name = x }) (at_meaning p m (denotes_grounded d rooted))

  denotes_grounded : {p : Program} {s : Scope} {q : Path} {t : Target} → Denotes p s q t → Rooted p t → AreGrounded p s (mentions (Expr.At q))
  denotes_grounded {p} {s} (Denotes.here {line = line} {x = x} f) rooted = here_grounded p s line x (finds_grounded f rooted)
  denotes_grounded {p} {s} (Denotes.constant {line = line} {x = x} m is) rooted =
      here_grounded p s line x (meaning_grounded (record { scope = s; name = x }) (λ h e (i : IsText h e (meaning p s x)). absurd (not_meant m i)))
  denotes_grounded {p} {s} (Denotes.field {q = q} {i = i} {x = x} d f) rooted = field_grounded p s q i x d (denotes_grounded d tt) (finds_grounded f rooted)
  denotes_grounded {p} {s} (Denotes.index {q = q} {e = e} d) rooted = index_grounded p s q e (denotes_grounded d rooted.1) rooted.0

mutual
  pub expands_grounded : {p : Program} {s : Scope} {e : Expr} {t : Term} → Expands p s e t → AreGrounded p s (mentions e)
  expands_grounded Expands.number = nothing _ _
  expands_grounded Expands.truth = nothing _ _
  expands_grounded Expands.running = nothing _ _
  expands_grounded (Expands.variable (Selects.cell d array indexes)) = denotes_grounded d (indexes_grounded indexes)
  expands_grounded (Expands.constant c) = denotes_grounded c tt
  expands_grounded (Expands.read d r) = denotes_grounded d (expands_grounded r)
  expands_grounded (Expands.next a) = expands_grounded a
  expands_grounded (Expands.parens a) = expands_grounded a
  expands_grounded (Expands.braces a) = elements_grounded a
  expands_grounded (Expands.cases a) = arms_grounded a
  expands_grounded (Expands.negation a) = expands_grounded a
  expands_grounded (Expands.binary {a = e} {b = f} a b) = joined _ _ (mentions e) (mentions f) (expands_grounded a) (expands_grounded b)
  expands_grounded (Expands.quantified a) = expands_grounded a
  expands_grounded (Expands.until {a = e} {b = f} a b) = joined _ _ (mentions e) (mentions f) (expands_grounded a) (expands_grounded b)

  elements_grounded : {p : Program} {s : Scope} {es : Exprs} {ts : Terms} → ExpandElements p s es ts → AreGrounded p s (element_mentions es)
  elements_grounded ExpandElements.last_element = nothing _ _
  elements_grounded (ExpandElements.element {e = e} {es = es} a as') = joined _ _ (mentions e) (element_mentions es) (expands_grounded a) (elements_grounded as')

  arms_grounded : {p : Program} {s : Scope} {arms : Program.Arms} {ts : Arms} → ExpandArms p s arms ts → AreGrounded p s (arm_mentions arms)
  arms_grounded ExpandArms.last_arm = nothing _ _
  arms_grounded (ExpandArms.arm {guard = g} {right = r} {rest = rest} a b c) =
      joined _ _ (mentions g ++ mentions r) (arm_mentions rest) (joined _ _ (mentions g) (mentions r) (expands_grounded a) (expands_grounded b)) (arms_grounded c)

  indexes_grounded : {p : Program} {is : List Bracket} {ns : List ℕ} → AreIndexes p is ns → BracketsGrounded p is
  indexes_grounded AreIndexes.last_index = tt
  indexes_grounded (AreIndexes.index (IsIndex.value a arithmetic has low high) as') = (expands_grounded a, indexes_grounded as')

-- a circular abbreviation stands for no term
pub no_term : (p : Program) (a : Abbreviation) {h : Scope} {e : Expr} {t : Term} → IsCircular p a → text_of a ≡ Some (h, e) → Expands p h e t → ⊥
no_term p a circular is x = no_cycle (with_text is (expands_grounded x)) circular
