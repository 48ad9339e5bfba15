-- What the search for a strong path holds, and what it finds.
use Rattle.std.proofs.Common.{◌≡◌, ◌∙◌, inl, inr, ℕ, List, [], ◌∷◌, length, Result, Ok, Err, arith, sym, subst, append-nil}
use Rattle.std.specs.Prelude.{◌↔◌, IfOk}
use Rattle.std.specs.declared.alloc.AllocError.{AllocError}
use Rattle.std.proofs.lemmas.List.{length-map}
use Rattle.fair_fixpoint.proofs.Lists.{to_ok}
use Rattle.fair_fixpoint.specs.Fairness.{AreConstraints}
use Rattle.fair_fixpoint.specs.SatSets.{pin_bound}
use Rattle.fair_rules.specs.FreePart.{constraint_nodes}
use Rattle.kripke_model.specs.Path.{Lasso}
use Rattle.kripke_model.specs.System.{System, constraint_count}
use Rattle.path_laws.specs.StateCount.{state_count}
use Rattle.region_sets.specs.declared.pins.Pin.{Pin}
use Rattle.region_sets.specs.declared.pins.SetRefusal.{SetRefusal}
use Rattle.region_sets.specs.Ranks.{regions, slots}
use Rattle.region_sets.specs.Sets.{Adds, IsCall, Sets, has_state}
use Rattle.region_sets.proofs.Calls.{let_go, then_call}
use Rattle.strong_export.specs.Finding.{search_pins, strong_pins}
use Rattle.command_replies.specs.Strong.{ArePairs, IsNoneFor, IsPathFor, IsShownBy}
use Rattle.strong_fair.specs.Form.{Certificate}
use Rattle.strong_fair.specs.Strong.{HasStrongPath, IsStrongPath, Pair}
use Rattle.bdd_nodes.specs.declared.triple.Triple.{Triple}

-- the sets of the constraints were made, a strong path was looked for, and they were released
pub after_search : {T U : Type 0} {a b c d : Sets} {r : Result T SetRefusal}
    {q : Result U SetRefusal} (m : System) (visits : List Pin) → AreConstraints m (regions b visits)
    → IsCall (pin_bound m (constraint_nodes m) (state_count m)) a b (slots visits) r
    → IsCall (search_pins m) b c [] q → Adds d c (slots visits) → d.fulls ≡ c.fulls
    → IsCall (strong_pins m) a d [] q
after_search {b = b} m visits made first search back same =
    let many = length-map visits (λ (pin : Pin). pin.slot) in
    let stand = length-map visits (λ (pin : Pin). has_state (b.pins pin.slot)) in
    let_go {xs = slots visits} {ys = []}
    (then_call (strong_pins m) first search (omega arith) (omega (arith, many, stand, made.count)))
    back same

-- the pins that a call left were released
pub all_back : {T : Type 0} {h : ℕ} {a b c : Sets} {r : Result T SetRefusal} (xs : List ℕ)
    → IsCall h a b xs r → Adds c b xs → c.fulls ≡ b.fulls → IsCall h a c [] r
all_back {h = h} {a = a} {b = b} {r = r} xs call back same =
    let_go {xs = xs} {ys = []} (subst (λ ks. IsCall h a b ks r) (sym (append-nil xs)) call) back
    same

-- the path is one for the pairs that the numbers name, and the certificate too
pub path_for : (m : System) (numbers : List (ℕ × ℕ)) (pairs : List Pair) (path : Lasso)
    → ArePairs m numbers pairs → IsStrongPath m pairs path → IsPathFor m numbers path
path_for m numbers pairs path are strong = record { pairs = pairs; are = are; strong = strong }

pub none_for : (m : System) (numbers : List (ℕ × ℕ)) (pairs : List Pair) (nodes : List Triple)
    (c : Certificate ℕ) → ArePairs m numbers pairs → IsShownBy m pairs nodes c
    → (HasStrongPath m pairs → ⊥) → IsNoneFor m numbers nodes c
none_for m numbers pairs nodes c are shown none =
    record { pairs = pairs; are = are; shown = shown; none = none }
