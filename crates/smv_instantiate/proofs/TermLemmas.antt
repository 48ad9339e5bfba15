-- Where no definition and no path is refused, the expressions of items stand for terms.
use Rattle.std.proofs.Common.{◌≡◌, refl, sym, ◌∙◌, ap, subst, ℕ, zero, suc, ◌+◌, ◌<◌, ◌≤◌, arith, List, [], ◌∷◌, length, Some, None, Option, ◌⊎◌, inl, inr, Any}
use Rattle.std.specs.Prelude.{slice_get, option_map, option_and_then, find}
use Rattle.std.specs.Str.{bytes_eq}
use Rattle.std.proofs.lemmas.Option.{slice_get_within}
use Rattle.kripke_model.specs.Refusing.{Silent}
use Rattle.kripke_model.specs.Term.{Term}
use Rattle.smv_instances.specs.Program.{Expr, Path, Program}
use Rattle.smv_instances.specs.Entries.{Entity, Entry, entries, entity_in}
use Rattle.smv_instances.specs.Instances.{Scope, module_of, instances, all_entries, rising}
use Rattle.smv_instances.specs.Declarations.{refused_declarations}
use Rattle.smv_names.specs.Denotes.{Meaning, Target, meaning}
use Rattle.smv_names.specs.Expands.{Expands}
use Rattle.smv_names.specs.Abbreviations.{Mention, mentions, Abbreviation, text_of, fronts, Names, Uses, Leads, IsCircular}
use Rattle.smv_names.specs.Naming.{InFronts, NamedIn}
use Rattle.smv_names.specs.Nodes.{abbreviation_at, placed_entries}
use Rattle.smv_names.specs.Sound.{AreSound, AreDefined}
use Rattle.smv_names.proofs.AnyLemmas.{no_any, any_case}
use Rattle.smv_names.proofs.NamedLemmas.{IsText, text_means, bare_means, IsBare}
use Rattle.smv_names.proofs.GroundLemmas.{IsGrounded}
use Rattle.smv_names.proofs.ExistLemmas.{IsGood, AllGood, term_exists}
use Rattle.smv_names.proofs.DefinedLemmas.{AreNumbered, grounded_good}
use Rattle.smv_instantiate.specs.Written.{IsWritten}
use Rattle.smv_instantiate.proofs.Members.{some_same, not_some, In, Distinct, find_in, in_flat, in_flat_back, in_map, in_map_back, slice_in}
use Rattle.smv_instantiate.proofs.NameLemmas.{names_same, rising_has}
use Rattle.smv_instantiate.proofs.TypeLemmas.{length_rising}
use Rattle.smv_instantiate.proofs.TargetLemmas.{IsKept, good_meaning, good_target}
use Rattle.smv_instantiate.proofs.DeclaredLemmas.{kept}

-- ---- numbers below a bound

same_or_other : (a b : ℕ) → (a ≡ b) ⊎ (a ≡ b → ⊥)
same_or_other zero zero = inl refl
same_or_other zero (suc b) = inr (λ e. omega (arith, e))
same_or_other (suc a) zero = inr (λ e. omega (arith, e))
same_or_other (suc a) (suc b) = elim (same_or_other a b) [ inl e ↦ inl (ap suc e) | inr n ↦ inr (λ e. n (omega (arith, e))) ]

seen_at : {w v : ℕ} (vs : List ℕ) → (w ≡ v) ⊎ (w ≡ v → ⊥) → In w vs ⊎ (In w vs → ⊥) → In w (v ∷ vs) ⊎ (In w (v ∷ vs) → ⊥)
seen_at {w} {v} vs (inl e) rest = inl (subst (λ z. In w (z ∷ vs)) e In.first)
seen_at vs (inr n) (inl i) = inl (In.later i)
seen_at vs (inr n) (inr m) = inr (λ i. neither i n m)
  where
    neither : {w v : ℕ} {vs : List ℕ} → In w (v ∷ vs) → (w ≡ v → ⊥) → (In w vs → ⊥) → ⊥
    neither In.first n m = n refl
    neither (In.later i) n m = m i

seen_or_new : (w : ℕ) (vs : List ℕ) → In w vs ⊎ (In w vs → ⊥)
seen_or_new w [] = inr (λ i. elim i [ ])
seen_or_new w (v ∷ vs) = seen_at vs (same_or_other w v) (seen_or_new w vs)

-- the list without one of its members
out : {A : Type 0} {x : A} (ys : List A) → In x ys → List A
out [] i = []
out (y ∷ ys) In.first = ys
out (y ∷ ys) (In.later i) = y ∷ out ys i

out_length : {A : Type 0} {x : A} (ys : List A) (i : In x ys) → length ys ≡ 1 + length (out ys i)
unfolding out
out_length [] i = elim i [ ]
out_length (y ∷ ys) In.first = omega arith
out_length (y ∷ ys) (In.later i) = omega (arith, out_length ys i)

out_in : {A : Type 0} {x z : A} (ys : List A) (i : In x ys) → In z ys → (z ≡ x → ⊥) → In z (out ys i)
unfolding out
out_in [] i j n = elim i [ ]
out_in (y ∷ ys) In.first In.first n = absurd (n refl)
out_in (y ∷ ys) In.first (In.later j) n = j
out_in (y ∷ ys) (In.later i) In.first n = In.first
out_in (y ∷ ys) (In.later i) (In.later j) n = In.later (out_in ys i j n)

-- a list without a member twice is no longer than one that has its members
no_longer : {A : Type 0} (xs ys : List A) → Distinct xs → ((x : A) → In x xs → In x ys) → length xs ≤ length ys
no_longer [] ys distinct has = omega arith
no_longer (x ∷ xs) ys distinct has =
    let i = has x In.first in
    let rest : length xs ≤ length (out ys i) = no_longer xs (out ys i) distinct.1 (λ z j. out_in ys i (has z (In.later j)) (λ e. distinct.0 (subst (λ w. In w xs) e j))) in
    omega (arith, rest, out_length ys i)

few_below : (n : ℕ) (vs : List ℕ) → Distinct vs → ((v : ℕ) → In v vs → v < n) → length vs ≤ n
few_below n vs distinct below =
    let few : length vs ≤ length (rising 0 n) = no_longer vs (rising 0 n) distinct (λ v i. rising_has 0 n v (omega arith) (omega (arith, below v i))) in
    omega (arith, few, length_rising 0 n)

-- ---- what is not circular is grounded

then_uses : {p : Program} {a b c : Abbreviation} → Leads p a b → Uses p b c → Leads p a c
then_uses (Leads.one u) v = Leads.more u (Leads.one v)
then_uses (Leads.more u l) v = Leads.more u (then_uses l v)

-- each of the abbreviations with these numbers is a or leads to it
abbrev LeadTo : Program → List ℕ → Abbreviation → Type 0
LeadTo p visited a = (w : ℕ) (b : Abbreviation) → In w visited → abbreviation_at p w ≡ Some b → (b ≡ a) ⊎ Leads p b a

module _ (p : Program) (closed : AreNumbered p) (straight : (v : ℕ) (a : Abbreviation) → abbreviation_at p v ≡ Some a → IsCircular p a → ⊥) where
  circle : {a b : Abbreviation} → Uses p a b → (b ≡ a) ⊎ Leads p b a → IsCircular p b
  circle {a} {b} used (inl e) = Leads.one (subst (λ z. Uses p z b) (sym e) used)
  circle used (inr leads) = then_uses leads used

  go_on : {visited : List ℕ} {a b : Abbreviation} {w : ℕ} → LeadTo p visited a → Uses p a b → abbreviation_at p w ≡ Some b → LeadTo p (w ∷ visited) b
  go_on {visited} {a} {b} {w} leads used at x c i at_c = by i at_c
    where
      before : (c : Abbreviation) → (c ≡ a) ⊎ Leads p c a → (c ≡ b) ⊎ Leads p c b
      before c (inl e) = inr (Leads.one (subst (λ z. Uses p z b) (sym e) used))
      before c (inr l) = inr (then_uses l used)

      by : {x : ℕ} {c : Abbreviation} → In x (w ∷ visited) → abbreviation_at p x ≡ Some c → (c ≡ b) ⊎ Leads p c b
      by In.first at_c = inl (some_same (sym at_c ∙ at))
      by {x} {c} (In.later i) at_c = before c (leads x c i at_c)

  grounded_step : {visited : List ℕ} (v : ℕ) {a : Abbreviation} → abbreviation_at p v ≡ Some a → LeadTo p visited a
      → ((w : ℕ) (b : Abbreviation) → abbreviation_at p w ≡ Some b → Uses p a b → (In w visited → ⊥) → IsGrounded p b) → IsGrounded p a
  grounded_step {visited} v {a} at leads deeper = IsGrounded.grounded (λ b used. next b used (text_of b) refl)
    where
      further : (b : Abbreviation) → Uses p a b → (w : ℕ) → abbreviation_at p w ≡ Some b → In w visited ⊎ (In w visited → ⊥) → IsGrounded p b
      further b used w at_w (inl seen) = absurd (straight w b at_w (circle used (leads w b seen at_w)))
      further b used w at_w (inr new) = deeper w b at_w used new

      next : (b : Abbreviation) → Uses p a b → (o : Option (Scope × Expr)) → text_of b ≡ o → IsGrounded p b
      next b used None is = IsGrounded.grounded (λ c more. absurd (not_some (sym is ∙ more.2)))
      next b used (Some text) is = let w = closed v a b text at used is in further b used w.0 w.1 (seen_or_new w.0 visited)

  number_below : (w : ℕ) (b : Abbreviation) → abbreviation_at p w ≡ Some b → w < length (all_entries p)
  number_below w b at = by (slice_get (all_entries p) w) refl at
    where
      by : (o : Option (Scope × Entry)) → slice_get (all_entries p) w ≡ o → option_map (λ (e : Scope × Entry). record { scope = e.0; name = e.1.name }) o ≡ Some b → w < length (all_entries p)
      by None is none = absurd (not_some none)
      by (Some e) is some = slice_get_within (all_entries p) w e is

  all_below : (visited : List ℕ) (w : ℕ) (b : Abbreviation) → abbreviation_at p w ≡ Some b → ((x : ℕ) → In x visited → x < length (all_entries p)) → (x : ℕ) → In x (w ∷ visited) → x < length (all_entries p)
  all_below visited w b at below x i = by i
    where
      by : {x : ℕ} → In x (w ∷ visited) → x < length (all_entries p)
      by In.first = number_below w b at
      by {x} (In.later i) = below x i

  grounded_from : (left : ℕ) (visited : List ℕ) (v : ℕ) (a : Abbreviation) → abbreviation_at p v ≡ Some a → Distinct visited → ((x : ℕ) → In x visited → x < length (all_entries p)) → length visited + left ≡ length (all_entries p)
      → LeadTo p visited a → IsGrounded p a
  grounded_from zero visited v a at distinct below count leads = grounded_step v at leads (λ w b at_w used new.
      let many : length (w ∷ visited) ≤ length (all_entries p) = few_below (length (all_entries p)) (w ∷ visited) (new, distinct) (all_below visited w b at_w below) in
      absurd (omega (arith, many, count)))
  grounded_from (suc left) visited v a at distinct below count leads = grounded_step v at leads (λ w b at_w used new.
      grounded_from left (w ∷ visited) w b at_w (new, distinct) (all_below visited w b at_w below) (omega (arith, count)) (go_on leads used at_w))

  grounded_all : (v : ℕ) (a : Abbreviation) → abbreviation_at p v ≡ Some a → IsGrounded p a
  grounded_all v a at = grounded_from (length (all_entries p)) [] v a at tt (λ x i. elim i [ ]) (omega arith) (λ w b i at_w. elim i [ ])

-- ---- what paths name is numbered

module _ (p : Program) (silent : Silent (refused_declarations p)) (written : IsWritten p) where
  fine : IsKept p
  fine = kept p silent written

  path_there : (s : Scope) (q : Path) (a : Abbreviation) → In s (instances p) → Names p s q a → In a.scope (instances p)
  path_there s (Path.Here line x) a i named = subst (λ z. In z (instances p)) (sym named.0) i
  path_there s (Path.Field q x) a i named = good_target p fine named.0 i
  path_there s (Path.Index q e) a i named = absurd named

  fronts_there : (s : Scope) (qs : List Path) (a : Abbreviation) → In s (instances p) → Any (λ q. Names p s q a) qs → In a.scope (instances p)
  fronts_there s [] a i named = absurd (no_any (λ q. Names p s q a) named)
  fronts_there s (q ∷ qs) a i named = elim (any_case (λ r. Names p s r a) q qs named) [ inl k ↦ path_there s q a i k | inr k ↦ fronts_there s qs a i k ]

  named_there : (s : Scope) (ms : List Mention) (a : Abbreviation) → In s (instances p) → NamedIn p s ms a → In a.scope (instances p)
  named_there s [] a i named = absurd (no_any (InFronts p s a) named)
  named_there s (m ∷ ms) a i named = elim (any_case (InFronts p s a) m ms named) [ inl k ↦ fronts_there s (fronts m.path) a i k | inr k ↦ named_there s ms a i k ]

  text_there : (a : Abbreviation) (h : Scope) (e : Expr) → In a.scope (instances p) → IsText h e (meaning p a.scope a.name) → In h (instances p)
  text_there a h e i (IsText.reading m) = (good_meaning p fine a.scope a.name (Meaning.Direct (Target.Reading h e)) i m).0
  text_there a h e i (IsText.passes r is m) = good_meaning p fine a.scope a.name (Meaning.Passed h r) i m

  at_place : {A : Type 0} {x : A} (xs : List A) → In x xs → (k : ℕ) × (slice_get xs k ≡ Some x)
  at_place [] i = elim i [ ]
  at_place (x ∷ xs) In.first = (0, refl)
  at_place (y ∷ xs) (In.later i) = let r = at_place xs i in (suc r.0, r.1)

  no_entity : {B : Type 0} (f : Entity → Option B) (o : Option Entity) (x : B) → option_and_then f o ≡ Some x → o ≡ None → ⊥
  no_entity f None x is none = not_some is
  no_entity f (Some e) x is none = not_some (sym none)

  entry_number : (a : Abbreviation) (e : Entry) → In a.scope (instances p) → In e (entries (module_of a.scope)) → e.name ≡ a.name → (v : ℕ) × (abbreviation_at p v ≡ Some a)
  entry_number a e i j named =
      let all : In (a.scope, e) (all_entries p) = in_flat placed_entries (instances p) i (in_map (λ d. (a.scope, d)) (entries (module_of a.scope)) j) in
      let r = at_place (all_entries p) all in
      (r.0, ap (option_map (λ (d : Scope × Entry). record { scope = d.0; name = d.1.name })) r.1 ∙ ap (λ x. Some (record { scope = a.scope; name = x })) named)

  number : (a : Abbreviation) (text : Scope × Expr) → In a.scope (instances p) → text_of a ≡ Some text → (v : ℕ) × (abbreviation_at p v ≡ Some a)
  number a text i is = by (find (λ e. bytes_eq e.name a.name) (entries (module_of a.scope))) refl
    where
      by : (o : Option Entry) → find (λ e. bytes_eq e.name a.name) (entries (module_of a.scope)) ≡ o → (v : ℕ) × (abbreviation_at p v ≡ Some a)
      by None none = absurd (no_entity _ (entity_in (module_of a.scope) a.name) text is (ap (option_map (λ (e : Entry). e.entity)) none))
      by (Some e) found = let r = find_in (λ e. bytes_eq e.name a.name) (entries (module_of a.scope)) found in entry_number a e i r.0 (names_same e.name a.name r.1)

  scope_there : (v : ℕ) (a : Abbreviation) → abbreviation_at p v ≡ Some a → In a.scope (instances p)
  scope_there v a at = by (slice_get (all_entries p) v) refl at
    where
      by : (o : Option (Scope × Entry)) → slice_get (all_entries p) v ≡ o → option_map (λ (e : Scope × Entry). record { scope = e.0; name = e.1.name }) o ≡ Some a → In a.scope (instances p)
      by None is none = absurd (not_some none)
      by (Some e) is some =
          let b = in_flat_back placed_entries (instances p) (slice_in (all_entries p) v e is) in
          let c = in_map_back (λ d. (b.0, d)) (entries (module_of b.0)) b.2 in
          let same : a.scope ≡ b.0 = ap (λ (z : Abbreviation). z.scope) (sym (some_same some)) ∙ ap (λ (z : Scope × Entry). z.0) c.2 in
          subst (λ z. In z (instances p)) (sym same) b.1

  used_numbered : AreNumbered p
  used_numbered v a b text at used is =
      let home = text_there a used.0 used.1 (scope_there v a at) (text_means p a used.2) in
      number b text (named_there used.0 (mentions used.1) b home used.3) is

  bare_good : (a : Abbreviation) → text_of a ≡ None → IsGood p a
  bare_good a none = record {
    reading = λ h e m. absurd (subst IsBare m (bare_means p a none));
    passes = λ h r u m d. absurd (subst IsBare m (bare_means p a none));
  }

  pub all_good : AreDefined p → (s : Scope) (ms : List Mention) → In s (instances p) → AllGood p s ms
  all_good defined s ms i a named = by (text_of a) refl
    where
      by : (o : Option (Scope × Expr)) → text_of a ≡ o → IsGood p a
      by None is = bare_good a is
      by (Some text) is =
          let w = number a text (named_there s ms a i named) is in
          grounded_good p defined used_numbered a (grounded_all p used_numbered defined.straight w.0 a w.1) w.0 w.1

  -- an expression with sound paths stands for a term
  pub stands_for : AreDefined p → (s : Scope) (e : Expr) → In s (instances p) → AreSound p s (mentions e) → (t : Term) × Expands p s e t
  stands_for defined s e i sound = term_exists e (all_good defined s (mentions e) i) sound
