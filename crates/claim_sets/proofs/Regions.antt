-- What calls on sets give, as tests of states.
use Rattle.std.proofs.Common.{◌≡◌, ◌⊎◌, ◌↔◌, inl, inr, ℕ, Bool, true, false, not, ◌&&◌, [], ◌∷◌, Result, Ok, Err, refl, sym, ◌∙◌, subst}
use Rattle.std.specs.Prelude.{IfOk, IsTrue}
use Rattle.std.proofs.lemmas.Bool.{false≢true, cases_Bool, and_parts, and_from, or_left, or_right, or_cases}
use Rattle.kripke_model.specs.Step.{IsState, Initial, Step}
use Rattle.kripke_model.specs.System.{System, State}
use Rattle.path_laws.specs.StateSet.{StateSet, ◌∈◌}
use Rattle.region_sets.specs.declared.pins.Pin.{Pin}
use Rattle.region_sets.specs.declared.pins.SetRefusal.{SetRefusal}
use Rattle.region_sets.specs.Sets.{Sets, Adds, In, IsLive, Stands, has_state, pin_slots}
use Rattle.region_sets.proofs.Slots.{is_one_of-first}
use Rattle.region_sets.proofs.Changes.{stays, adds_after, takes_back}
use Rattle.region_sets.proofs.Calls.{In-at, Stands-at, stays_over_release}
use Rattle.fair_rules.specs.SetLists.{everything, nothing}
use Rattle.fair_rules.specs.Claims.{both, either}
use Rattle.fair_rules.specs.Fixpoints.{without}
use Rattle.fair_rules.specs.Checks.{Check, IsMet}
use Rattle.fair_rules.proofs.Fixpoints.{same_set}
use Rattle.proof_form.specs.Agrees.{SameOn}

-- ---- the states of a pin

stands_is : (b : Sets) (p : ℕ) (P : State → Type 0) (X : StateSet) → ((s : State) → P s ↔ (s ∈ X)) → Stands b p P → has_state (b.pins p) ≡ X
stands_is b p P X same h = same_set (has_state (b.pins p)) X (λ s. (λ e. (same s).0 ((h s).0 e), λ e. (h s).1 ((same s).1 e)))

pub joined : (a b : Sets) (p x y : ℕ) → Stands b p (λ s. In a x s ⊎ In a y s) → has_state (b.pins p) ≡ either (has_state (a.pins x)) (has_state (a.pins y))
joined a b p x y h = stands_is b p _ _ (λ s. (
  λ k. elim k [ inl e ↦ or_left (has_state (a.pins x) s) (has_state (a.pins y) s) e | inr e ↦ or_right (has_state (a.pins x) s) (has_state (a.pins y) s) e ],
  λ e. or_cases (has_state (a.pins x) s) (has_state (a.pins y) s) e,
)) h

pub met_is : (a b : Sets) (p x y : ℕ) → Stands b p (λ s. In a x s × In a y s) → has_state (b.pins p) ≡ both (has_state (a.pins x)) (has_state (a.pins y))
met_is a b p x y h = stands_is b p _ _ (λ s. (
  λ k. and_from (has_state (a.pins x) s) (has_state (a.pins y) s) k.0 k.1,
  λ e. and_parts (has_state (a.pins x) s) (has_state (a.pins y) s) e,
)) h

cut_states : (f g : Bool) → ((f ≡ true) × ((g ≡ true) → ⊥)) ↔ (f && not g ≡ true)
cut_states true true = (λ k. absurd (k.1 refl), λ e. absurd (false≢true e))
cut_states true false = (λ k. refl, λ e. (refl, λ h. false≢true h))
cut_states false g = (λ k. absurd (false≢true k.0), λ e. absurd (false≢true e))

pub cut_is : (a b : Sets) (p x y : ℕ) → Stands b p (λ s. In a x s × ¬ In a y s) → has_state (b.pins p) ≡ without (has_state (a.pins x)) (has_state (a.pins y))
cut_is a b p x y h = stands_is b p _ _ (λ s. cut_states (has_state (a.pins x) s) (has_state (a.pins y) s)) h

pub none_is : (b : Sets) (p : ℕ) → Stands b p (λ s. ⊥) → has_state (b.pins p) ≡ nothing
none_is b p h = stands_is b p _ _ (λ s. (λ k. absurd k, λ e. false≢true e)) h

pub copy_is : (a b : Sets) (p x : ℕ) → Stands b p (λ s. In a x s) → has_state (b.pins p) ≡ has_state (a.pins x)
copy_is a b p x h = stands_is b p _ _ (λ s. (λ e. e, λ e. e)) h

pub all_same : (m : System) (b : Sets) (p : ℕ) → Stands b p (λ s. IsState m s) → SameOn m (has_state (b.pins p)) everything
all_same m b p h s is_state = (h s).1 is_state

-- ---- what a line asks

-- only states of the model are in a set
abbrev pub AreInside : Sets → Type 0
AreInside a = (k : ℕ) (s : State) → In a k s → IsState a.over s

abbrev pub Preimage : System → Sets → ℕ → State → Type 0
Preimage m a g s = IsState m s × ((t : State) × In a g t × Step m s t)

pub inside_answer : (a : Sets) → AreInside a → (x g : ℕ) (good : Bool) → IsTrue good ↔ ((s : State) → In a x s → In a g s)
    → IsTrue good ↔ IsMet a.over (Check.Inside (has_state (a.pins x)) (has_state (a.pins g)))
inside_answer a inside x g good h = (λ e s is_state k. h.0 e s k, λ k. h.1 (λ s e. k s (inside x s e) e))

pub leads_answer : (a b : Sets) → AreInside a → (x g p : ℕ) → IsLive a x → Adds a b (p ∷ []) → Stands b p (Preimage a.over a g)
    → (good : Bool) → IsTrue good ↔ ((s : State) → In b x s → In b p s)
    → IsTrue good ↔ IsMet a.over (Check.Leads (has_state (a.pins x)) (has_state (a.pins g)))
leads_answer a b inside x g p live adds set good h = (
  λ e s is_state k. let r = (set s).0 (h.0 e s ((In-at a b x s (stays adds x live)).1 k)) in (r.1.0, inside g r.1.0 r.1.1, r.1.2, r.1.1),
  λ k. h.1 (λ s e. let here = (In-at a b x s (stays adds x live)).0 e in
      let r = k s (inside x s here) here in (set s).1 (inside x s here, (r.0, r.3, r.2))),
)

-- the states with a next state outside of g
abbrev pub StepsOut : System → Sets → ℕ → State → Type 0
StepsOut m a g s = IsState m s × ((t : State) × (IsState m t × ¬ In a g t) × Step m s t)

pub step_out_set : (s0 s1 s2 s3 s4 s5 : Sets) (g f o : ℕ) (r : Result Pin SetRefusal) → IsLive s0 g
    → Adds s0 s1 (f ∷ []) → Stands s1 f (λ s. IsState s0.over s) → Adds s1 s2 (o ∷ []) → Stands s2 o (λ s. In s1 f s × ¬ In s1 g s) → Adds s3 s2 (f ∷ [])
    → Adds s3 s4 (pin_slots r) → IfOk r (λ p. Stands s4 p.slot (Preimage s3.over s3 o)) → Adds s5 s4 (o ∷ [])
    → IfOk r (λ p. Stands s5 p.slot (StepsOut s0.over s0 g))
step_out_set s0 s1 s2 s3 s4 s5 g f o (Err e) live p1 g1 p2 g2 r3 p4 g4 r5 = tt
step_out_set s0 s1 s2 s3 s4 s5 g f o (Ok p) live p1 g1 p2 g2 r3 p4 g4 r5 =
    let here : Adds s0 s3 (o ∷ []) = takes_back (adds_after p1 p2) r3 in
    let still : s3.pins o ≡ s2.pins o = stays_over_release (o ∷ []) (adds_after p1 p2) r3 o (is_one_of-first o []) in
    let last : s5.pins p.slot ≡ s4.pins p.slot = stays_over_release (p.slot ∷ []) (adds_after here p4) r5 p.slot (is_one_of-first p.slot []) in
    Stands-at s4 s5 p.slot (Preimage s3.over s3 o) (StepsOut s0.over s0 g) last g4 (λ s. (
      (λ h. let out = (g2 h.1.0).0 ((In-at s2 s3 o h.1.0 still).0 h.1.1) in (
        subst (λ m. IsState m s) here.over h.0,
        (h.1.0, ((g1 h.1.0).0 out.0, λ e. out.1 ((In-at s0 s1 g h.1.0 (stays p1 g live)).1 e)), subst (λ m. Step m s h.1.0) here.over h.1.2),
      )),
      (λ h. (
        subst (λ m. IsState m s) (sym here.over) h.0,
        (
          h.1.0,
          (In-at s2 s3 o h.1.0 still).1 ((g2 h.1.0).1 ((g1 h.1.0).1 h.1.1.0, λ e. h.1.1.1 ((In-at s0 s1 g h.1.0 (stays p1 g live)).0 e))),
          subst (λ m. Step m s h.1.0) (sym here.over) h.1.2,
        ),
      )),
    ))

pub keeps_answer : (a b c d : Sets) → AreInside a → (x g p q : ℕ) → IsLive a x → Adds a b (p ∷ []) → Stands b p (StepsOut a.over a g)
    → Adds b c (q ∷ []) → Stands c q (λ s. In b x s × In b p s) → Adds d c (p ∷ [])
    → (good : Bool) → (good ≡ true → (s : State) → ¬ In d q s) → (good ≡ false → (s : State) × In d q s)
    → IsTrue good ↔ IsMet a.over (Check.Keeps (has_state (a.pins x)) (has_state (a.pins g)))
keeps_answer a b c d inside x g p q live adds out more set gone good none some = (there, back good none some)
  where
    still : d.pins q ≡ c.pins q
    still = stays_over_release (q ∷ []) (adds_after adds more) gone q (is_one_of-first q [])

    there : IsTrue good → IsMet a.over (Check.Keeps (has_state (a.pins x)) (has_state (a.pins g)))
    there e s is_state k t next step = elim (cases_Bool (has_state (a.pins g) t)) [
      | inl h ↦ h
      | inr h ↦ absurd (none e s ((In-at c d q s still).1 ((set s).1 ((In-at a b x s (stays adds x live)).1 k, (out s).1 (is_state, (t, (next, λ y. false≢true (sym h ∙ y)), step))))))
    ]

    back : (good : Bool) → (good ≡ true → (s : State) → ¬ In d q s) → (good ≡ false → (s : State) × In d q s)
        → IsMet a.over (Check.Keeps (has_state (a.pins x)) (has_state (a.pins g))) → IsTrue good
    back true none some k = refl
    back false none some k =
        let bad = some refl in
        let r = (set bad.0).0 ((In-at c d q bad.0 still).0 bad.1) in
        let here = (In-at a b x bad.0 (stays adds x live)).0 r.0 in
        let way = (out bad.0).0 r.1 in
        absurd (way.1.1.1 (k bad.0 (inside x bad.0 here) here way.1.0 way.1.1.0 way.1.2))

pub starts_answer : (a b : Sets) (x p : ℕ) → IsLive a x → Adds a b (p ∷ []) → Stands b p (λ s. IsState a.over s × Initial a.over s)
    → (good : Bool) → IsTrue good ↔ ((s : State) → In b p s → In b x s)
    → IsTrue good ↔ IsMet a.over (Check.Starts (has_state (a.pins x)))
starts_answer a b x p live adds set good h = (
  λ e s is_state initial. (In-at a b x s (stays adds x live)).0 (h.0 e s ((set s).1 (is_state, initial))),
  λ k. h.1 (λ s e. let r = (set s).0 e in (In-at a b x s (stays adds x live)).1 (k s r.0 r.1)),
)

-- ---- the same in an answer that may be a refusal

pub leads_result : (a b : Sets) → AreInside a → (x g p : ℕ) → IsLive a x → Adds a b (p ∷ []) → Stands b p (Preimage a.over a g)
    → (r : Result Bool SetRefusal) → IfOk r (λ good. IsTrue good ↔ ((s : State) → In b x s → In b p s))
    → IfOk r (λ good. IsTrue good ↔ IsMet a.over (Check.Leads (has_state (a.pins x)) (has_state (a.pins g))))
leads_result a b inside x g p live adds set (Ok good) h = leads_answer a b inside x g p live adds set good h
leads_result a b inside x g p live adds set (Err e) h = tt

pub starts_result : (a b : Sets) (x p : ℕ) → IsLive a x → Adds a b (p ∷ []) → Stands b p (λ s. IsState a.over s × Initial a.over s)
    → (r : Result Bool SetRefusal) → IfOk r (λ good. IsTrue good ↔ ((s : State) → In b p s → In b x s))
    → IfOk r (λ good. IsTrue good ↔ IsMet a.over (Check.Starts (has_state (a.pins x))))
starts_result a b x p live adds set (Ok good) h = starts_answer a b x p live adds set good h
starts_result a b x p live adds set (Err e) h = tt

pub inside_result : (a : Sets) → AreInside a → (x g : ℕ) (r : Result Bool SetRefusal) → IfOk r (λ good. IsTrue good ↔ ((s : State) → In a x s → In a g s))
    → IfOk r (λ good. IsTrue good ↔ IsMet a.over (Check.Inside (has_state (a.pins x)) (has_state (a.pins g))))
inside_result a inside x g (Ok good) h = inside_answer a inside x g good h
inside_result a inside x g (Err e) h = tt
