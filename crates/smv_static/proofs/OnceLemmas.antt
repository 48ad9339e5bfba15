-- In one graph a variable has one assignment only.
use Rattle.std.proofs.Common.{◌≡◌, ◌≢◌, ℕ, zero, suc, ◌<◌, ◌⊎◌, inl, inr, ⊎_elim, List, [], ◌∷◌, ◌++◌, length, get_or, take, refl, sym, ◌∙◌, ap, subst, arith, append_assoc, append-nil, Any}
use Rattle.std.specs.Prelude.{All}
use Rattle.std.proofs.lemmas.Bool.{cases_lt}
use Rattle.std.proofs.lemmas.List.{get_or-take, get_or_default, length-take-le}
use Rattle.kripke_model.specs.declared.models.Part.{Part}
use Rattle.kripke_model.specs.declared.refusals.StaticRefusal.{StaticRefusal}
use Rattle.kripke_model.specs.System.{System, Assignment}
use Rattle.kripke_model.specs.Refusing.{RefusalRule, refuse, Silent, First}
use Rattle.kripke_model.specs.Static.{AssignsAgain, assigned_twice, current_beside_other}
use Rattle.kripke_model.proofs.RuledLemmas.{never_in}
use Rattle.smv_static.specs.Groups.{group_by, group_of}
use Rattle.smv_static.proofs.SideLemmas.{same_part}

-- where no member is refused, none is refused after those before it
module _ {R A : Type 0} (rule : List A → A → RefusalRule R) where
  silent_at : (before xs : List A) → Silent (First rule before xs) → (k : ℕ) (d : A) → k < length xs → Silent (rule (before ++ take k xs) (get_or xs k d))
  silent_at before [] silent k d below = absurd (omega arith)
  silent_at before (x ∷ xs) silent zero d below = subst (λ ys. Silent (rule ys x)) (sym (append-nil before)) (λ r h. silent r (inl h))
  silent_at before (x ∷ xs) silent (suc k) d below =
      subst (λ ys. Silent (rule ys (get_or xs k d))) (append_assoc before (x ∷ []) (take k xs)) (silent_at (before ++ (x ∷ [])) xs (λ r h. silent r (inr (λ q g. silent q (inl g), h))) k d (omega arith))

-- of group q, or of the current values
abbrev pub IsOneOf : ℕ → ℕ → ℕ → Type 0
IsOneOf P q group = (group ≡ q) ⊎ (group ≡ P)

current_by : (P process : ℕ) (part : Part) → process < P → group_by P part process ≡ P → part ≡ Part.Now
current_by P process Part.Init known same = absurd (omega arith)
current_by P process Part.Now known same = refl
current_by P process Part.Next known same = absurd (omega arith)

module _ (m : System) (P : ℕ) (processes : All (λ a. a.process < P) m.assigns) (twice : Silent (assigned_twice m)) (beside : Silent (current_beside_other m)) (d : Assignment) where
  abbrev nth : ℕ → Assignment
  nth k = get_or m.assigns k d

  later_again : (j k : ℕ) → j < k → k < length m.assigns → AssignsAgain (nth k) (nth j) → ⊥
  later_again j k less below again =
      let short : length (take k m.assigns) ≡ k = length-take-le k m.assigns (omega arith) in
      let found : Any (AssignsAgain (nth k)) (take k m.assigns) =
      (j, nth j, omega (arith, short, less), get_or-take k m.assigns j (nth j) less ∙ get_or_default m.assigns j (nth j) d (omega arith), again) in
      silent_at (λ before a. refuse (StaticRefusal.AssignedTwice a.line) (Any (AssignsAgain a) before)) [] m.assigns twice k d below (StaticRefusal.AssignedTwice (nth k).line) (refl, found)

  later_same : (j k : ℕ) → j < k → k < length m.assigns → (nth j).var ≡ (nth k).var → group_of P (nth j) ≡ group_of P (nth k) → ⊥
  later_same j k less below var group =
      let s = same_part P (nth k).part (nth j).part (nth k).process (nth j).process (processes k d below) (processes j d (omega arith)) group in
      later_again j k less below (var, s.0, s.1)

  same_place : (j k : ℕ) → j < length m.assigns → k < length m.assigns → (nth j).var ≡ (nth k).var → group_of P (nth j) ≡ group_of P (nth k) → j ≡ k
  same_place j k lj lk var group =
      ⊎_elim (λ less. absurd (later_same j k less lk var group))
      (λ more. ⊎_elim (λ less. absurd (later_same k j less lj (sym var) (sym group))) (λ other. omega (arith, more, other)) (cases_lt k j))
      (cases_lt j k)

  -- a current value stands beside no value of another group
  not_beside : (j k : ℕ) → j < length m.assigns → k < length m.assigns → (nth j).var ≡ (nth k).var → group_of P (nth j) ≡ P → group_of P (nth k) ≢ P → ⊥
  not_beside j k lj lk var current other =
      let now : (nth j).part ≡ Part.Now = current_by P (nth j).process (nth j).part (processes j d lj) current in
      never_in (λ (a : Assignment). StaticRefusal.CurrentBesideOther a.line) (λ (a : Assignment). (a.part ≡ Part.Now) × Any (λ b. (b.var ≡ a.var) × (b.part ≢ Part.Now)) m.assigns) m.assigns beside j d lj
      (now, (k, nth k, lk, get_or_default m.assigns k (nth k) d lk, (sym var, λ e. other (ap (λ (part : Part). group_by P part (nth k).process) e))))

  pub one_place : (q j k : ℕ) → q ≢ P → j < length m.assigns → k < length m.assigns → (nth j).var ≡ (nth k).var → IsOneOf P q (group_of P (nth j)) → IsOneOf P q (group_of P (nth k)) → j ≡ k
  one_place q j k apart lj lk var (inl g) (inl h) = same_place j k lj lk var (g ∙ sym h)
  one_place q j k apart lj lk var (inl g) (inr h) = absurd (not_beside k j lk lj (sym var) h (λ e. apart (sym g ∙ e)))
  one_place q j k apart lj lk var (inr g) (inl h) = absurd (not_beside j k lj lk var g (λ e. apart (sym h ∙ e)))
  one_place q j k apart lj lk var (inr g) (inr h) = same_place j k lj lk var (g ∙ sym h)
