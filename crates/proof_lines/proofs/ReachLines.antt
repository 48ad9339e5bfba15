-- The lines of sets under `until`, and of those that lead to constraints.
use Rattle.std.proofs.Common.{◌≡◌, ◌↔◌, Result, Ok, Err, ℕ, zero, suc, ◌+◌, ◌<◌, ◌≤◌, Bool, true, false, List, [], ◌∷◌, ◌++◌, length, get_or, drop, take, ◌-◌, refl, sym, ◌∙◌, ap, subst, arith}
use Rattle.std.specs.Prelude.{All, IfOk, IsTrue, ◌==◌}
use Rattle.std.proofs.Math.Seq.{take-length}
use Rattle.std.proofs.lemmas.Bool.{false≢true}
use Rattle.std.proofs.lemmas.List.Elements.{All-nil, All-cons, All-head}
use Rattle.std.specs.Global.{Vec}
use Rattle.kripke_model.specs.System.{System}
use Rattle.path_laws.specs.StateSet.{StateSet}
use Rattle.region_sets.specs.declared.pins.Pin.{Pin}
use Rattle.region_sets.specs.declared.pins.SetRefusal.{SetRefusal}
use Rattle.region_sets.specs.Sets.{Sets, Adds, In, IsCall, IsLive, Stands, has_state, region}
use Rattle.region_sets.specs.Ranks.{AreLive, list_regions, lists_slots, regions, slots}
use Rattle.region_sets.proofs.Slots.{is_one_of-left, is_one_of-right}
use Rattle.region_sets.proofs.Changes.{stays, adds_after, adds_nothing}
use Rattle.region_sets.proofs.Calls.{regions-same, then_call}
use Rattle.fair_rules.specs.SetLists.{nothing, set_at}
use Rattle.fair_rules.specs.Claims.{both, join}
use Rattle.fair_rules.specs.Checks.{Check, IsMet, reach_lines, step_lines, until_lines}
use Rattle.proof_form.specs.Agrees.{SameOn}
use Rattle.proof_lines.specs.Tested.{AreTested, counted, next_count, reach_part}
use Rattle.proof_form.proofs.Agree.{AgreeLines, lines_met, first_bad_agrees, steps_agree, both_same}
use Rattle.proof_form.proofs.AgreeMaps.{agree_same}
use Rattle.proof_lines.proofs.Counting.{none_tested, one_holds, one_fails, then_tested, left_fails}
use Rattle.claim_sets.proofs.Joined.{drop_at, drop_all}
use Rattle.proof_lines.proofs.Passing.{to_ok}
use Rattle.claim_sets.proofs.Regions.{met_is}

module _ (m : System) where
  as_many : (xs ys : List (List Check)) → AgreeLines m xs ys → length xs ≡ length ys
  as_many [] [] a = refl
  as_many (x ∷ xs) (y ∷ ys) a = ap suc (as_many xs ys a.1)
  as_many [] (y ∷ ys) a = absurd a
  as_many (x ∷ xs) [] a = absurd a

  -- what was tested of lines was tested of those that agree with them
  pub tested_agrees : (xs ys : List (List Check)) → AgreeLines m xs ys → (k : ℕ) (good : Bool) (after : ℕ) → AreTested m xs k good after → AreTested m ys k good after
  tested_agrees xs ys a k true after t = ((λ n. lines_met m xs ys a n (t.0 n)), t.1 ∙ ap (counted k) (as_many xs ys a))
  tested_agrees xs ys a k false after t = (t.0, first_bad_agrees m xs ys a t.0 t.1, t.2)

  one_met : (x : Check) → IsMet m x → All (IsMet m) (x ∷ [])
  one_met x h = All-cons (IsMet m) x [] h (All-nil (IsMet m))

  only_met : (x : Check) → All (IsMet m) (x ∷ []) → IsMet m x
  only_met x h = All-head (IsMet m) x [] h

-- ---- after a test that left no pin

module _ (s0 s1 : Sets) (none : Adds s0 s1 []) where
  still : (x : Pin) → region s1 x ≡ region s0 x
  still x = ap has_state (none.kept x.slot refl)

  still_all : (xs : List Pin) → regions s1 xs ≡ regions s0 xs
  still_all xs = regions-same s0 s1 xs (λ k h. none.kept k refl)

  -- sets under `until`, behind the first
  pub until_more : (f empty first p : Pin) (list ps : List Pin) (before next : ℕ) (good : Bool) (after : ℕ) → list ≡ p ∷ ps → region s0 empty ≡ nothing → next ≡ next_count before
      → IsMet s0.over (Check.Inside (region s0 p) (region s0 first))
      → AreTested s1.over (step_lines (region s1 f) (region s1 empty) (region s1 p) (regions s1 ps)) next good after
      → AreTested s0.over (until_lines (region s0 f) (region s0 first) (regions s0 list)) before good after
  until_more f empty first p list ps before next good after is none_in counts inside t =
      subst (λ xs. AreTested s0.over (until_lines (region s0 f) (region s0 first) (regions s0 xs)) before good after) (sym is)
      (one_holds s0.over (Check.Inside (region s0 p) (region s0 first) ∷ []) (step_lines (region s0 f) nothing (region s0 p) (regions s0 ps)) before next good after
      (one_met s0.over (Check.Inside (region s0 p) (region s0 first)) inside) counts
      (subst (λ (T : Type 0). T) (λ i. AreTested (none.over i) (step_lines (still f i) ((still empty ∙ none_in) i) (still p i) (still_all ps i)) next good after) t))

  pub until_result : (f empty first p : Pin) (list ps : List Pin) (before next : ℕ) (r : Result Bool SetRefusal) (after : ℕ) → list ≡ p ∷ ps → region s0 empty ≡ nothing → next ≡ next_count before
      → IsMet s0.over (Check.Inside (region s0 p) (region s0 first))
      → IfOk r (λ good. AreTested s1.over (step_lines (region s1 f) (region s1 empty) (region s1 p) (regions s1 ps)) next good after)
      → IfOk r (λ good. AreTested s0.over (until_lines (region s0 f) (region s0 first) (regions s0 list)) before good after)
  until_result f empty first p list ps before next (Err e) after is none_in counts inside t = tt
  until_result f empty first p list ps before next (Ok good) after is none_in counts inside t = until_more f empty first p list ps before next good after is none_in counts inside t

  pub until_fails : (f first p : Pin) (list ps : List Pin) (before : ℕ) → list ≡ p ∷ ps → (IsMet s0.over (Check.Inside (region s0 p) (region s0 first)) → ⊥)
      → AreTested s0.over (until_lines (region s0 f) (region s0 first) (regions s0 list)) before false before
  until_fails f first p list ps before is fails =
      subst (λ xs. AreTested s0.over (until_lines (region s0 f) (region s0 first) (regions s0 xs)) before false before) (sym is)
      (one_fails s0.over (Check.Inside (region s0 p) (region s0 first) ∷ []) (step_lines (region s0 f) nothing (region s0 p) (regions s0 ps)) before
      (λ h. fails (only_met s0.over (Check.Inside (region s0 p) (region s0 first)) h)))

-- ---- the reach sets of one constraint

pub covered_answer : (s0 s1 : Sets) (set all : Pin) (list : List Pin) (r : Result Bool SetRefusal) → IsLive s0 set.slot → Adds s0 s1 (all.slot ∷ []) → region s1 all ≡ join (regions s0 list)
    → IfOk r (λ good. IsTrue good ↔ IsMet s1.over (Check.Inside (region s1 set) (region s1 all)))
    → IfOk r (λ good. IsTrue good ↔ IsMet s0.over (Check.Inside (region s0 set) (join (regions s0 list))))
covered_answer s0 s1 set all list r live adds is h =
    let set_is : region s1 set ≡ region s0 set = ap has_state (stays adds set.slot live) in
    subst (λ (T : Type 0). T) (λ i. IfOk r (λ good. IsTrue good ↔ IsMet (adds.over i) (Check.Inside (set_is i) (is i)))) h

pub reach_fails : (s0 : Sets) (set visit : Pin) (list : List Pin) (before : ℕ) → (IsMet s0.over (Check.Inside (region s0 set) (join (regions s0 list))) → ⊥)
    → AreTested s0.over (reach_part (region s0 set) (region s0 visit) (regions s0 list)) before false before
reach_fails s0 set visit list before fails =
    one_fails s0.over (Check.Inside (region s0 set) (join (regions s0 list)) ∷ []) (step_lines (region s0 set) (both (region s0 set) (region s0 visit)) nothing (regions s0 list)) before
    (λ h. fails (only_met s0.over (Check.Inside (region s0 set) (join (regions s0 list))) h))

pub reach_more : (s0 s1 s2 : Sets) (empty set visit goal : Pin) (list : List Pin) (before next : ℕ) (r : Result Bool SetRefusal) (after : ℕ) → IsLive s0 empty.slot → IsLive s0 set.slot → AreLive s0 (slots list)
    → Adds s0 s1 [] → IsMet s0.over (Check.Inside (region s0 set) (join (regions s0 list))) → next ≡ next_count before → region s0 empty ≡ nothing
    → Adds s1 s2 (goal.slot ∷ []) → Stands s2 goal.slot (λ s. In s1 set.slot s × In s1 visit.slot s)
    → IfOk r (λ good. AreTested s2.over (step_lines (region s2 set) (region s2 goal) (region s2 empty) (regions s2 list)) next good after)
    → IfOk r (λ good. AreTested s0.over (reach_part (region s0 set) (region s0 visit) (regions s0 list)) before good after)
reach_more s0 s1 s2 empty set visit goal list before next (Err e) after live_empty live live_list none covered counts none_in adds stands t = tt
reach_more s0 s1 s2 empty set visit goal list before next (Ok good) after live_empty live live_list none covered counts none_in adds stands t =
    let both_adds : Adds s0 s2 (goal.slot ∷ []) = adds_after none adds in
    let set_is : region s2 set ≡ region s0 set = ap has_state (stays both_adds set.slot live) in
    let empty_is : region s2 empty ≡ nothing = ap has_state (stays both_adds empty.slot live_empty) ∙ none_in in
    let list_is : regions s2 list ≡ regions s0 list = regions-same s0 s2 list (λ k h. stays both_adds k (live_list k h)) in
    let goal_is : region s2 goal ≡ both (region s0 set) (region s0 visit) = met_is s1 s2 goal.slot set.slot visit.slot stands ∙ (λ i. both (still s0 s1 none set i) (still s0 s1 none visit i)) in
    one_holds s0.over (Check.Inside (region s0 set) (join (regions s0 list)) ∷ []) (step_lines (region s0 set) (both (region s0 set) (region s0 visit)) nothing (regions s0 list)) before next good after
    (one_met s0.over (Check.Inside (region s0 set) (join (regions s0 list))) covered) counts
    (subst (λ (T : Type 0). T) (λ i. AreTested (both_adds.over i) (step_lines (set_is i) (goal_is i) (empty_is i) (list_is i)) next good after) t)

-- the visit as a pin, and as the definition has it
pub visit_agrees : (s0 s1 : Sets) (set visit : Pin) (list : List Pin) (V : StateSet) (before : ℕ) (r : Result Bool SetRefusal) (after : ℕ) → IsLive s0 set.slot → AreLive s0 (slots list)
    → Adds s0 s1 (visit.slot ∷ []) → SameOn s0.over (region s1 visit) V
    → IfOk r (λ good. AreTested s1.over (reach_part (region s1 set) (region s1 visit) (regions s1 list)) before good after)
    → IfOk r (λ good. AreTested s0.over (reach_part (region s0 set) V (regions s0 list)) before good after)
visit_agrees s0 s1 set visit list V before (Err e) after live live_list adds same t = tt
visit_agrees s0 s1 set visit list V before (Ok good) after live live_list adds same t =
    let set_is : region s1 set ≡ region s0 set = ap has_state (stays adds set.slot live) in
    let list_is : regions s1 list ≡ regions s0 list = regions-same s0 s1 list (λ k h. stays adds k (live_list k h)) in
    let F : StateSet = region s0 set in
    let own : SameOn s0.over F F = λ s is_state. refl in
    let none : SameOn s0.over nothing nothing = λ s is_state. refl in
    tested_agrees s0.over (reach_part F (region s1 visit) (regions s0 list)) (reach_part F V (regions s0 list)) (
      ((own, λ s is_state. refl), tt),
      steps_agree s0.over {f = F} {f' = F} {x = both F (region s1 visit)} {x' = both F V} {e = nothing} {e' = nothing} own (both_same s0.over F F (region s1 visit) V own same) none (agree_same s0.over (regions s0 list)),
    )
    before good after
    (subst (λ (T : Type 0). T) (λ i. AreTested (adds.over i) (reach_part (set_is i) (region s1 visit) (list_is i)) before good after) t)

-- ---- the loop over constraints

at_of : (V : List StateSet) (k : ℕ) → k < length V → drop k V ≡ set_at V k ∷ drop (suc k) V
at_of V k less = drop_at V k nothing less

pub record IsReaching (start now : Sets) (set : StateSet) (V : List StateSet) (lists : List (List StateSet)) (first k line : ℕ) : Type 0 where
  pub call : IsCall 6 start now [] (Ok true)
  pub rest : (good : Bool) (after : ℕ) → AreTested start.over (reach_lines set (drop k V) (drop k lists)) line good after → AreTested start.over (reach_lines set V lists) first good after

pub reaching_none : (start : Sets) (set : StateSet) (V : List StateSet) (lists : List (List StateSet)) (first : ℕ) → IsReaching start start set V lists first 0 first
reaching_none start set V lists first = record {
  call = record { pins = adds_nothing start; refusal = tt; fulls = omega arith; spare = λ room. refl };
  rest = λ good after t. t;
}

module _ (start now tested : Sets) (set : StateSet) (V : List StateSet) (lists : List (List StateSet)) (first k line : ℕ) (list : List StateSet) (less : k < length V) (there : drop k lists ≡ list ∷ drop (suc k) lists)
    (go : IsReaching start now set V lists first k line) where
  parts : reach_lines set (drop k V) (drop k lists) ≡ reach_part set (set_at V k) list ++ reach_lines set (drop (suc k) V) (drop (suc k) lists)
  parts = λ i. reach_lines set (at_of V k less i) (there i)

  pub reaching_fails : (after : ℕ) → AreTested start.over (reach_part set (set_at V k) list) line false after → AreTested start.over (reach_lines set V lists) first false after
  reaching_fails after t = go.rest false after (subst (λ (xs : List (List Check)). AreTested start.over xs line false after) (sym parts)
      (left_fails start.over (reach_part set (set_at V k) list) (reach_lines set (drop (suc k) V) (drop (suc k) lists)) line after t))

  pub reaching_more : (next : ℕ) (r : Result Bool SetRefusal) → IsCall 6 now tested [] r → AreTested start.over (reach_part set (set_at V k) list) line true next → IsReaching start tested set V lists first (k + 1) next
  reaching_more next r test t = record {
    call = to_ok true (then_call 6 go.call test (omega arith) (omega arith));
    rest = λ good after u. go.rest good after (subst (λ (xs : List (List Check)). AreTested start.over xs line good after) (sym parts)
        (then_tested start.over (reach_part set (set_at V k) list) (reach_lines set (drop (suc k) V) (drop (suc k) lists)) line next good after t
        (subst (λ n. AreTested start.over (reach_lines set (drop n V) (drop n lists)) next good after) at u)));
  }
    where
      at : k + 1 ≡ suc k
      at = omega arith

pub reaching_all : (start now : Sets) (set : StateSet) (V : List StateSet) (lists : List (List StateSet)) (first k line : ℕ) → length V ≤ k → IsReaching start now set V lists first k line
    → AreTested start.over (reach_lines set V lists) first true line
reaching_all start now set V lists first k line end go =
    go.rest true line (subst (λ (W : List StateSet). AreTested start.over (reach_lines set W (drop k lists)) line true line) (sym (drop_all V k end)) (none_tested start.over line))

-- ---- one of the lists

pub list_live : (now : Sets) (lists : List (Vec Pin)) (k : ℕ) (d : Vec Pin) → k < length lists → AreLive now (lists_slots lists) → AreLive now (slots (get_or lists k d).items)
list_live now [] k d less live = absurd (omega (arith, less))
list_live now (l ∷ lists) zero d less live = λ i h. live i (is_one_of-left i (slots l.items) (lists_slots lists) h)
list_live now (l ∷ lists) (suc k) d less live = list_live now lists k d (omega (arith, less)) (λ i h. live i (is_one_of-right i (slots l.items) (lists_slots lists) h))

pub list_there : (now : Sets) (lists : List (Vec Pin)) (k : ℕ) (d : Vec Pin) → k < length lists → drop k (list_regions now lists) ≡ regions now (get_or lists k d).items ∷ drop (suc k) (list_regions now lists)
list_there now [] k d less = absurd (omega (arith, less))
list_there now (l ∷ lists) zero d less = refl
list_there now (l ∷ lists) (suc k) d less = list_there now lists k d (omega (arith, less))

-- the reach sets of a constraint at a later time
pub part_at : (start now : Sets) (set : Pin) (V W : List StateSet) (k : ℕ) (list : List Pin) (line : ℕ) (good : Bool) (after : ℕ) → Adds start now [] → W ≡ V
    → AreTested now.over (reach_part (region now set) (set_at W k) (regions now list)) line good after → AreTested start.over (reach_part (region start set) (set_at V k) (regions start list)) line good after
part_at start now set V W k list line good after none same t =
    subst (λ (T : Type 0). T) (λ i. AreTested (none.over i) (reach_part (still start now none set i) (set_at (same i) k) (still_all start now none list i)) line good after) t

-- a list behind its first pin, as a slice up to its end
pub all_behind : (list : List Pin) (d : Pin) → get_or list 0 d ∷ drop 1 list ≡ get_or list 0 d ∷ take (length list - 1) (drop 1 list)
all_behind [] d = refl
all_behind (p ∷ list) d = ap (λ xs. p ∷ xs) (sym (take-length list) ∙ ap (λ n. take n list) at)
  where
    at : length list ≡ length (p ∷ list) - 1
    at = omega arith

pub some_pin : (list : List Pin) → false ≡ (length list == 0) → 0 < length list
some_pin [] e = absurd (false≢true e)
some_pin (p ∷ list) e = omega arith
