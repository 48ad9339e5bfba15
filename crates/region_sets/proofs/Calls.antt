-- Answers of several calls in a row.
use Rattle.std.proofs.Common.{Some, ◌≡◌, inl, inr, ℕ, ◌+◌, ◌≤◌, true, List, [], ◌∷◌, ◌++◌, length, Result, refl, sym, ◌∙◌, ap, subst, arith}
use Rattle.std.proofs.lemmas.Bool.{cases_lt, or_right}
use Rattle.std.specs.Prelude.{◌==◌}
use Rattle.region_sets.specs.Ranks.{slots, regions}
use Rattle.std.proofs.lemmas.Result.{IfErr-weaker}
use Rattle.region_sets.proofs.Slots.{AreDistinct-apart, is_one_of-first}
use Rattle.std.specs.Prelude.{◌↔◌}
use Rattle.kripke_model.specs.System.{State}
use Rattle.region_sets.specs.declared.pins.Pin.{Pin}
use Rattle.region_sets.specs.declared.pins.SetRefusal.{SetRefusal}
use Rattle.region_sets.specs.declared.pins.SetRefusal.TheVariants.{Full, Memory}
use Rattle.path_laws.specs.StateSet.{StateSet}
use Rattle.region_sets.specs.Sets.{Sets, is_one_of, Adds, In, has_state, IsCall, IsCaused, Rose, Stands}
use Rattle.region_sets.proofs.Changes.{adds_after, takes_back}

-- a count that rose within a longer stretch
rose_within : {a b c d : ℕ} → a ≤ b → b ≤ c → c ≤ d → Rose b c → Rose a d
rose_within {a} {b} {c} {d} p m q (inl h) = inl (omega arith)
rose_within {a} {b} {c} {d} p m q (inr h) = elim (cases_lt a d) [ inl k ↦ inl k | inr k ↦ inr (omega arith) ]

pub caused_within : (a b c d : Sets) → a.fulls ≤ b.fulls → b.fulls ≤ c.fulls → c.fulls ≤ d.fulls → d.gauge ≡ c.gauge → (r : SetRefusal) → IsCaused b c r → IsCaused a d r
caused_within a b c d p m q g (Full held) h = (rose_within p m q h.0, h.1 ∙ ap (λ e. e.levels) (sym g), h.2 ∙ ap (λ e. e.limit) (sym g))
caused_within a b c d p m q g Memory h = tt

-- a call after one that left pins
pub then_call : {T U : Type 0} {a b c : Sets} {xs ys : List ℕ} {m n : ℕ} {r : Result T SetRefusal} {q : Result U SetRefusal} (h : ℕ) → IsCall m a b xs r → IsCall n b c ys q → m ≤ h → length xs + n ≤ h → IsCall h a c (xs ++ ys) q
then_call {T} {U} {a} {b} {c} {xs} {ys} {m} {n} {r} {q} h p k s t = record {
  pins = adds_after p.pins k.pins;
  refusal = IfErr-weaker q (IsCaused b c) (IsCaused a c) (caused_within a b c c p.fulls k.fulls (omega arith) refl) k.refusal;
  fulls = omega (arith, p.fulls, k.fulls);
  spare = λ room. k.spare (omega (arith, p.pins.live, p.pins.room)) ∙ p.spare (omega arith);
}

-- then some of the pins that it left are released
pub let_go : {T : Type 0} {a b c : Sets} {xs ys : List ℕ} {h : ℕ} {r : Result T SetRefusal} → IsCall h a b (xs ++ ys) r → Adds c b xs → c.fulls ≡ b.fulls → IsCall h a c ys r
let_go {T} {a} {b} {c} {xs} {ys} {h} {r} p q e = record {
  pins = takes_back p.pins q;
  refusal = IfErr-weaker r (IsCaused a b) (IsCaused a c) (caused_within a a b c (omega arith) p.fulls (omega arith) (sym q.gauge)) p.refusal;
  fulls = omega (arith, p.fulls);
  spare = λ room. e ∙ p.spare room;
}

pub holds_more : {T : Type 0} {a b : Sets} {xs : List ℕ} {m : ℕ} {r : Result T SetRefusal} (h : ℕ) → m ≤ h → IsCall m a b xs r → IsCall h a b xs r
holds_more h le p = record { pins = p.pins; refusal = p.refusal; fulls = p.fulls; spare = λ room. p.spare (omega arith) }

-- the pins that stay stand for what they stood for
pub stays_over_release : {a b c : Sets} {xs : List ℕ} (ys : List ℕ) → Adds a b (xs ++ ys) → Adds c b xs → (k : ℕ) → is_one_of k ys ≡ true → c.pins k ≡ b.pins k
stays_over_release {a} {b} {c} {xs} ys p q k h = sym (q.kept k (AreDistinct-apart xs ys p.once k h))

pub Stands-at : (a b : Sets) (k : ℕ) (P Q : State → Type 0) → b.pins k ≡ a.pins k → Stands a k P → ((s : State) → P s ↔ Q s) → Stands b k Q
Stands-at a b k P Q e h f s = (
  λ i. (f s).0 ((h s).0 (subst (λ o. has_state o s ≡ true) e i)),
  λ i. subst (λ o. has_state o s ≡ true) (sym e) ((h s).1 ((f s).1 i)),
)

-- a pin's states, where it stands for what it stood for
pub In-at : (a b : Sets) (k : ℕ) (s : State) → b.pins k ≡ a.pins k → In b k s ↔ In a k s
In-at a b k s e = (λ i. subst (λ o. has_state o s ≡ true) e i, λ i. subst (λ o. has_state o s ≡ true) (sym e) i)

pub reorders : {T : Type 0} {a b : Sets} {xs ys : List ℕ} {h : ℕ} {r : Result T SetRefusal} → IsCall h a b xs r → Adds a b ys → IsCall h a b ys r
reorders p q = record { pins = q; refusal = p.refusal; fulls = p.fulls; spare = p.spare }

-- pins that stand for what they stood for
pub regions-same : (a b : Sets) (pins : List Pin) → ((k : ℕ) → is_one_of k (slots pins) ≡ true → b.pins k ≡ a.pins k) → regions b pins ≡ regions a pins
regions-same a b [] h = refl
regions-same a b (p ∷ pins) h =
    let first : b.pins p.slot ≡ a.pins p.slot = h p.slot (is_one_of-first p.slot (slots pins)) in
    let rest : regions b pins ≡ regions a pins = regions-same a b pins (λ k e. h k (or_right (k == p.slot) (is_one_of k (slots pins)) e)) in
    λ i. has_state (first i) ∷ rest i

pub regions-append : (a : Sets) (ps qs : List Pin) → regions a (ps ++ qs) ≡ regions a ps ++ regions a qs
regions-append a [] qs = refl
regions-append a (p ∷ ps) qs = ap (λ rs. has_state (a.pins p.slot) ∷ rs) (regions-append a ps qs)

-- a set that is the same at each state is the same set
pub same_region : (f g : StateSet) → ((s : State) → f s ≡ g s) → Some f ≡ Some g
same_region f g h = λ i. Some (λ s. h s i)
