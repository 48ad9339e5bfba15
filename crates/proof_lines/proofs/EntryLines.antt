-- The lines of what is given for a sign of a node.
use Rattle.std.proofs.Common.{◌≡◌, ◌↔◌, Result, Ok, Err, ℕ, ◌-◌, Bool, true, false, List, [], ◌∷◌, ◌++◌, map, refl, sym, ◌∙◌, ap, subst}
use Rattle.std.specs.Prelude.{All, IfOk, IsTrue, ◌⊎◌, flat_map}
use Rattle.std.specs.Global.{Vec}
use Rattle.std.proofs.lemmas.List.Elements.{All-nil, All-cons, All-head, All-tail}
use Rattle.kripke_model.specs.System.{System}
use Rattle.path_laws.specs.StateSet.{StateSet}
use Rattle.region_sets.specs.declared.pins.Pin.{Pin}
use Rattle.region_sets.specs.declared.pins.SetRefusal.{SetRefusal}
use Rattle.region_sets.specs.Sets.{Sets, Adds, In, IsLive, Stands, has_state, is_one_of, pin_slots, region}
use Rattle.region_sets.specs.Ranks.{AreLive, list_regions, lists_slots, regions, slots}
use Rattle.region_sets.proofs.Slots.{is_one_of-first, is_one_of-left, is_one_of-right}
use Rattle.region_sets.proofs.Changes.{stays, adds_after}
use Rattle.region_sets.proofs.Calls.{regions-same, stays_over_release}
use Rattle.region_sets.proofs.Released.{slots-append}
use Rattle.fair_rules.specs.SetLists.{nothing}
use Rattle.fair_rules.specs.Claims as claims
use Rattle.fair_rules.specs.Claims.{both, either, join_layers}
use Rattle.fair_rules.specs.Fixpoints.{without}
use Rattle.fair_rules.specs.Rules as rules
use Rattle.fair_rules.specs.Checks.{Check, IsMet, layer_lines, reach_lines, until_lines}
use Rattle.fair_rules.specs.Block.{Demand, entry_lines}
use Rattle.proof_form.specs.Agrees.{SameOn}
use Rattle.proof_form.specs.Filling.{lists_of}
use Rattle.proof_form.specs.Form.{FairPart, Layer, fair_sets, layer_sets, map_layer}
use Rattle.proof_form.specs.Meaning.{layer_of}
use Rattle.proof_form.specs.Pinned.{layers_over}
use Rattle.proof_form.proofs.Agree.{AgreeLayers, AgreeLines, AgreeLists, no_layers, more_layers, no_lists, more_lists, both_same, either_same, without_same, join_lines, layers_agree, reaches_agree, untils_agree}
use Rattle.proof_form.proofs.AgreeMaps.{agree_same}
use Rattle.proof_form.proofs.Ended.{lists_are}
use Rattle.claim_sets.specs.declared.constraint_pins.Constraints.{Constraints}
use Rattle.proof_lines.specs.declared.frames.Frame.{Frame}
use Rattle.claim_sets.specs.ConstraintClaims.{IsGiven, constraint_list}
use Rattle.proof_lines.specs.Frames.{IsFrameOf}
use Rattle.proof_lines.specs.Tested.{AreTested, next_count}
use Rattle.proof_lines.specs.Told.{fair_lines, release_lines}
use Rattle.claim_sets.proofs.ClaimPins.{if_ok}
use Rattle.proof_lines.proofs.Counting.{none_tested, one_holds, one_fails, then_tested}
use Rattle.claim_sets.proofs.Given.{list_kept}
use Rattle.proof_lines.proofs.ReachLines.{tested_agrees}
use Rattle.claim_sets.proofs.Regions.{cut_is, joined, met_is}

-- ---- behind a line that has nothing to show

module _ (m : System) where
  pub entry_holds : (checks : List Check) (before one after : ℕ) → All (IsMet m) checks → one ≡ next_count before → after ≡ next_count one → AreTested m ([] ∷ checks ∷ []) before true after
  entry_holds checks before one after h e f =
      one_holds m [] (checks ∷ []) before one true after (All-nil (IsMet m)) e (one_holds m checks [] one after true after h f (none_tested m after))

  pub entry_fails : (checks : List Check) (rest : List (List Check)) (before one : ℕ) → (All (IsMet m) checks → ⊥) → one ≡ next_count before → AreTested m ([] ∷ checks ∷ rest) before false one
  entry_fails checks rest before one h e = one_holds m [] (checks ∷ rest) before one false one (All-nil (IsMet m)) e (one_fails m checks rest one h)

  pub behind_first : (rest : List (List Check)) (before next : ℕ) (r : Result Bool SetRefusal) (after : ℕ) → next ≡ next_count before → IfOk r (λ good. AreTested m rest next good after)
      → IfOk r (λ good. AreTested m ([] ∷ rest) before good after)
  behind_first rest before next r after is t = if_ok r (λ good h. one_holds m [] rest before next good after (All-nil (IsMet m)) is h) t

  -- a line of one check
  alone : (x : Check) (good : Bool) → IsTrue good ↔ IsMet m x → IsTrue good ↔ All (IsMet m) (x ∷ [])
  alone x good h = (λ e. All-cons (IsMet m) x [] (h.0 e) (All-nil (IsMet m)), λ k. h.1 (All-head (IsMet m) x [] k))

  -- and of two, of which the first is met
  second : (x y : Check) (good : Bool) → IsMet m x → IsTrue good ↔ All (IsMet m) (y ∷ []) → IsTrue good ↔ All (IsMet m) (x ∷ y ∷ [])
  second x y good met h = (λ e. All-cons (IsMet m) x (y ∷ []) met (h.0 e), λ k. h.1 (All-tail (IsMet m) x (y ∷ []) k))

  -- lines behind others that all hold
  pub then_result : (xs ys : List (List Check)) (before now : ℕ) (r : Result Bool SetRefusal) (after : ℕ) → AreTested m xs before true now → IfOk r (λ good. AreTested m ys now good after)
      → IfOk r (λ good. AreTested m (xs ++ ys) before good after)
  then_result xs ys before now r after a b = if_ok r (λ good h. then_tested m xs ys before now good after a h) b

-- ---- what a line asks

pub goal_leads : (s0 s1 : Sets) (set a b goal : Pin) (r : Result Bool SetRefusal) → IsLive s0 set.slot → Adds s0 s1 (goal.slot ∷ []) → Stands s1 goal.slot (λ s. In s0 a.slot s × In s0 b.slot s)
    → IfOk r (λ good. IsTrue good ↔ IsMet s1.over (Check.Leads (region s1 set) (region s1 goal)))
    → IfOk r (λ good. IsTrue good ↔ All (IsMet s0.over) (Check.Leads (region s0 set) (both (region s0 a) (region s0 b)) ∷ []))
goal_leads s0 s1 set a b goal r live adds stands h =
    let set_is : region s1 set ≡ region s0 set = ap has_state (stays adds set.slot live) in
    let goal_is : region s1 goal ≡ both (region s0 a) (region s0 b) = met_is s0 s1 goal.slot a.slot b.slot stands in
    if_ok r (λ good k. alone s0.over (Check.Leads (region s0 set) (both (region s0 a) (region s0 b))) good k)
    (subst (λ (T : Type 0). T) (λ i. IfOk r (λ good. IsTrue good ↔ IsMet (adds.over i) (Check.Leads (set_is i) (goal_is i)))) h)

pub goal_keeps : (s0 s1 : Sets) (set a b goal : Pin) (r : Result Bool SetRefusal) → IsLive s0 set.slot → Adds s0 s1 (goal.slot ∷ []) → Stands s1 goal.slot (λ s. In s0 a.slot s ⊎ In s0 b.slot s)
    → IfOk r (λ good. IsTrue good ↔ IsMet s1.over (Check.Keeps (region s1 set) (region s1 goal)))
    → IfOk r (λ good. IsTrue good ↔ All (IsMet s0.over) (Check.Keeps (region s0 set) (either (region s0 a) (region s0 b)) ∷ []))
goal_keeps s0 s1 set a b goal r live adds stands h =
    let set_is : region s1 set ≡ region s0 set = ap has_state (stays adds set.slot live) in
    let goal_is : region s1 goal ≡ either (region s0 a) (region s0 b) = joined s0 s1 goal.slot a.slot b.slot stands in
    if_ok r (λ good k. alone s0.over (Check.Keeps (region s0 set) (either (region s0 a) (region s0 b))) good k)
    (subst (λ (T : Type 0). T) (λ i. IfOk r (λ good. IsTrue good ↔ IsMet (adds.over i) (Check.Keeps (set_is i) (goal_is i)))) h)

pub stay_answer : (s0 s1 s2 : Sets) (first last set left nonfair : Pin) (r : Result Bool SetRefusal) → IsLive s0 set.slot → IsLive s0 nonfair.slot → Adds s0 s1 []
    → IsMet s0.over (Check.Inside (region s0 set) (region s0 last)) → Adds s1 s2 (left.slot ∷ []) → Stands s2 left.slot (λ s. In s1 set.slot s × ¬ In s1 first.slot s)
    → IfOk r (λ good. IsTrue good ↔ All (IsMet s2.over) (Check.Keeps (region s2 left) (either (region s2 set) (region s2 nonfair)) ∷ []))
    → IfOk r (λ good. IsTrue good ↔ All (IsMet s0.over)
    (Check.Inside (region s0 set) (region s0 last) ∷ Check.Keeps (without (region s0 set) (region s0 first)) (either (region s0 set) (region s0 nonfair)) ∷ []))
stay_answer s0 s1 s2 first last set left nonfair r live live_nonfair none inside adds stands h =
    let still : (x : Pin) → region s1 x ≡ region s0 x = λ x. ap has_state (none.kept x.slot refl) in
    let both_adds : Adds s0 s2 (left.slot ∷ []) = adds_after none adds in
    let set_is : region s2 set ≡ region s0 set = ap has_state (stays both_adds set.slot live) in
    let nonfair_is : region s2 nonfair ≡ region s0 nonfair = ap has_state (stays both_adds nonfair.slot live_nonfair) in
    let left_is : region s2 left ≡ without (region s0 set) (region s0 first) = cut_is s1 s2 left.slot set.slot first.slot stands ∙ (λ i. without (still set i) (still first i)) in
    if_ok r (λ good k. second s0.over (Check.Inside (region s0 set) (region s0 last)) (Check.Keeps (without (region s0 set) (region s0 first)) (either (region s0 set) (region s0 nonfair))) good inside k)
    (subst (λ (T : Type 0). T) (λ i. IfOk r (λ good. IsTrue good ↔ All (IsMet (both_adds.over i)) (Check.Keeps (left_is i) (either (set_is i) (nonfair_is i)) ∷ []))) h)

pub release_goal_is : (s0 s1 s2 s3 : Sets) (fair first last begun : Pin) (r : Result Pin SetRefusal) → IsLive s0 first.slot → Adds s0 s1 (begun.slot ∷ []) → Stands s1 begun.slot (λ s. In s0 last.slot s × In s0 fair.slot s)
    → Adds s1 s2 (pin_slots r) → IfOk r (λ pin. Stands s2 pin.slot (λ s. In s1 first.slot s × In s1 begun.slot s)) → Adds s3 s2 (begun.slot ∷ [])
    → IfOk r (λ pin. region s3 pin ≡ both (region s0 first) (both (region s0 last) (region s0 fair)))
release_goal_is s0 s1 s2 s3 fair first last begun (Err e) live p1 g1 p2 g2 gone = tt
release_goal_is s0 s1 s2 s3 fair first last begun (Ok pin) live p1 g1 p2 g2 gone =
    let first_is : region s1 first ≡ region s0 first = ap has_state (stays p1 first.slot live) in
    let begun_is : region s1 begun ≡ both (region s0 last) (region s0 fair) = met_is s0 s1 begun.slot last.slot fair.slot g1 in
    ap has_state (stays_over_release (pin.slot ∷ []) (adds_after p1 p2) gone pin.slot (is_one_of-first pin.slot []))
    ∙ met_is s1 s2 pin.slot first.slot begun.slot g2 ∙ (λ i. both (first_is i) (begun_is i))

-- ---- lists of lines that were tested with a pin more

pub untils_at : (s0 s1 : Sets) (f goal : Pin) (G : StateSet) (list : List Pin) (before next : ℕ) (r : Result Bool SetRefusal) (after : ℕ) → IsLive s0 f.slot → AreLive s0 (slots list) → Adds s0 s1 (goal.slot ∷ [])
    → region s1 goal ≡ G → next ≡ next_count before
    → IfOk r (λ good. AreTested s1.over (until_lines (region s1 f) (region s1 goal) (regions s1 list)) next good after)
    → IfOk r (λ good. AreTested s0.over ([] ∷ until_lines (region s0 f) G (regions s0 list)) before good after)
untils_at s0 s1 f goal G list before next r after live live_list adds goal_is counts t =
    let f_is : region s1 f ≡ region s0 f = ap has_state (stays adds f.slot live) in
    let list_is : regions s1 list ≡ regions s0 list = regions-same s0 s1 list (λ k h. stays adds k (live_list k h)) in
    behind_first s0.over (until_lines (region s0 f) G (regions s0 list)) before next r after counts
    (subst (λ (T : Type 0). T) (λ i. IfOk r (λ good. AreTested (adds.over i) (until_lines (f_is i) (goal_is i) (list_is i)) next good after)) t)

pub both_at : (s0 s1 : Sets) (goal a b : Pin) → Stands s1 goal.slot (λ s. In s0 a.slot s × In s0 b.slot s) → region s1 goal ≡ both (region s0 a) (region s0 b)
both_at s0 s1 goal a b stands = met_is s0 s1 goal.slot a.slot b.slot stands

layers_kept : (s0 s1 : Sets) (layers : List (Layer Pin)) → ((k : ℕ) → is_one_of k (slots (layer_sets layers)) ≡ true → s1.pins k ≡ s0.pins k) → layers_over s1 layers ≡ layers_over s0 layers
layers_kept s0 s1 [] h = refl
layers_kept s0 s1 (l ∷ layers) h =
    let one : region s1 l.set ≡ region s0 l.set = ap has_state (h l.set.slot (is_one_of-first l.set.slot (slots (layer_sets layers)))) in
    let rest : layers_over s1 layers ≡ layers_over s0 layers = layers_kept s0 s1 layers (λ k e. h k (is_one_of-right k (l.set.slot ∷ []) (slots (layer_sets layers)) e)) in
    λ i. record { avoided = l.avoid - 1; states = one i } ∷ rest i

pub layers_at : (s0 s1 : Sets) (c : Constraints) (f last nonfair out : Pin) (layers : List (Layer Pin)) (before next : ℕ) (r : Result Bool SetRefusal) (after : ℕ) → IsGiven s0 c → IsLive s0 f.slot
    → AreLive s0 (slots (layer_sets layers)) → Adds s0 s1 (out.slot ∷ []) → Stands s1 out.slot (λ s. In s0 last.slot s ⊎ In s0 nonfair.slot s) → next ≡ next_count before
    → IfOk r (λ good. AreTested s1.over (layer_lines (constraint_list s1 c false) (region s1 f) (region s1 out) nothing (layers_over s1 layers)) next good after)
    → IfOk r (λ good. AreTested s0.over ([] ∷ layer_lines (constraint_list s0 c false) (region s0 f) (either (region s0 last) (region s0 nonfair)) nothing (layers_over s0 layers)) before good after)
layers_at s0 s1 c f last nonfair out layers before next r after given live live_layers adds stands counts t =
    let f_is : region s1 f ≡ region s0 f = ap has_state (stays adds f.slot live) in
    let out_is : region s1 out ≡ either (region s0 last) (region s0 nonfair) = joined s0 s1 out.slot last.slot nonfair.slot stands in
    let layers_are : layers_over s1 layers ≡ layers_over s0 layers = layers_kept s0 s1 layers (λ k h. stays adds k (live_layers k h)) in
    behind_first s0.over (layer_lines (constraint_list s0 c false) (region s0 f) (either (region s0 last) (region s0 nonfair)) nothing (layers_over s0 layers)) before next r after counts
    (subst (λ (T : Type 0). T)
    (λ i. IfOk r (λ good. AreTested (adds.over i) (layer_lines (list_kept s0 s1 (out.slot ∷ []) adds c false given i) (f_is i) (out_is i) nothing (layers_are i)) next good after)) t)

-- ---- the fair set of a release

pub lists_mapped : (g : Pin → StateSet) (lists : List (Vec Pin)) → map (λ (l : Vec Pin). map g l.items) lists ≡ map (map g) (map (λ (l : Vec Pin). l.items) lists)
lists_mapped g [] = refl
lists_mapped g (l ∷ lists) = ap (λ rest. map g l.items ∷ rest) (lists_mapped g lists)

pub reach_live : (now : Sets) (own fair : FairPart Pin) (lists : List (Vec Pin)) → own ≡ fair → lists_of lists ≡ own.reach → AreLive now (slots (fair_sets fair)) → AreLive now (lists_slots lists)
reach_live now own fair lists is reach_is live k h =
    subst (λ (part : FairPart Pin). AreLive now (slots (fair_sets part))) (sym is) live k
    (is_one_of-right k (own.inside.slot ∷ []) (slots (flat_map (λ sets. sets) own.reach))
    (subst (λ (ks : List ℕ). is_one_of k ks ≡ true) (sym (lists_are lists) ∙ ap (λ (xs : List (List Pin)). slots (flat_map (λ sets. sets) xs)) reach_is) h))

pub parts_live : (now : Sets) (fair : FairPart Pin) (untils : List Pin) → AreLive now (slots (fair_sets fair ++ untils)) → AreLive now (slots (fair_sets fair)) × AreLive now (slots untils)
parts_live now fair untils live = (
  λ k h. live k (subst (λ (ks : List ℕ). is_one_of k ks ≡ true) (sym (slots-append (fair_sets fair) untils)) (is_one_of-left k (slots (fair_sets fair)) (slots untils) h)),
  λ k h. live k (subst (λ (ks : List ℕ). is_one_of k ks ≡ true) (sym (slots-append (fair_sets fair) untils)) (is_one_of-right k (slots (fair_sets fair)) (slots untils) h)),
)

-- by the lists as they are, and the part read off its own fields
module _ (s0 : Sets) (c : Constraints) (last : Pin) (own fair : FairPart Pin) (is : own ≡ fair) (lists : List (Vec Pin)) (reach_is : lists_of lists ≡ own.reach) (before one : ℕ) (counts : one ≡ next_count before) where
  pub fair_fails : (IsMet s0.over (Check.Inside (region s0 own.inside) (region s0 last)) → ⊥) → AreTested s0.over (fair_lines s0 c last fair) before false one
  fair_fails fails = subst (λ (part : FairPart Pin). AreTested s0.over (fair_lines s0 c last part) before false one) is
      (entry_fails s0.over (Check.Inside (region s0 own.inside) (region s0 last) ∷ []) (reach_lines (region s0 own.inside) (constraint_list s0 c true) (map (map (region s0)) own.reach))
      before one (λ h. fails (All-head (IsMet s0.over) (Check.Inside (region s0 own.inside) (region s0 last)) [] h)) counts)

  pub fair_result : (s1 : Sets) (two : ℕ) (r : Result Bool SetRefusal) (after : ℕ) → Adds s0 s1 [] → IsGiven s0 c → IsMet s0.over (Check.Inside (region s0 own.inside) (region s0 last)) → two ≡ next_count one
      → IfOk r (λ good. AreTested s1.over (reach_lines (region s1 own.inside) (constraint_list s1 c true) (list_regions s1 lists)) two good after)
      → IfOk r (λ good. AreTested s0.over (fair_lines s0 c last fair) before good after)
  fair_result s1 two r after none given inside more t =
      let same : region s1 ≡ region s0 = λ i pin. has_state (none.kept pin.slot refl i) in
      let lists_same : list_regions s1 lists ≡ map (map (region s0)) own.reach =
      (λ i. map (λ (l : Vec Pin). map (same i) l.items) lists) ∙ lists_mapped (region s0) lists ∙ ap (map (map (region s0))) reach_is in
      let reached : List (List Check) = reach_lines (region s0 own.inside) (constraint_list s0 c true) (map (map (region s0)) own.reach) in
      subst (λ (part : FairPart Pin). IfOk r (λ good. AreTested s0.over (fair_lines s0 c last part) before good after)) is
      (behind_first s0.over ((Check.Inside (region s0 own.inside) (region s0 last) ∷ []) ∷ reached) before one r after counts
      (if_ok r (λ good h. one_holds s0.over (Check.Inside (region s0 own.inside) (region s0 last) ∷ []) reached one two good after
      (All-cons (IsMet s0.over) (Check.Inside (region s0 own.inside) (region s0 last)) [] inside (All-nil (IsMet s0.over))) more h)
      (subst (λ (T : Type 0). T)
      (λ i. IfOk r (λ good. AreTested (none.over i) (reach_lines (same i own.inside) (list_kept s0 s1 [] none c true given i) (lists_same i)) two good after)) t)))

-- what follows was tested after a test that left no pin
pub release_after : (s0 s1 : Sets) (first last fair : Pin) (list : List Pin) (xs : List (List Check)) (before now : ℕ) (r : Result Bool SetRefusal) (after : ℕ) → Adds s0 s1 [] → AreTested s0.over xs before true now
    → IfOk r (λ good. AreTested s1.over (release_lines s1 fair first last list) now good after)
    → IfOk r (λ good. AreTested s0.over (xs ++ release_lines s0 fair first last list) before good after)
release_after s0 s1 first last fair list xs before now r after none held t =
    let same : region s1 ≡ region s0 = λ i pin. has_state (none.kept pin.slot refl i) in
    then_result s0.over xs (release_lines s0 fair first last list) before now r after held
    (subst (λ (T : Type 0). T)
    (λ i. IfOk r (λ good. AreTested (none.over i) ([] ∷ until_lines (same i last) (both (same i first) (both (same i last) (same i fair))) (map (same i) list)) now good after)) t)

-- ---- the lines as the definition has them

pub layers_are_over : (s : Sets) (layers : List (Layer Pin)) → layers_over s layers ≡ map layer_of (map (map_layer (region s)) layers)
layers_are_over s [] = refl
layers_are_over s (l ∷ layers) = ap (λ rest. layer_of (map_layer (region s) l) ∷ rest) (layers_are_over s layers)

module _ (m : System) where
  same_layers : (ls : List rules.Layer) → AgreeLayers m ls ls
  same_layers [] = no_layers
  same_layers (l ∷ ls) = more_layers (λ s is_state. refl) (same_layers ls)

  same_lists : (xs : List (List StateSet)) → AgreeLists m xs xs
  same_lists [] = no_lists
  same_lists (x ∷ xs) = more_lists (agree_same m x) (same_lists xs)

module _ (s : Sets) (frame : Frame) (first last : Pin) (r : Result Bool SetRefusal) (before after : ℕ) where
  abbrev V : List StateSet
  V = constraint_list s frame.constraints true

  abbrev A : List StateSet
  A = constraint_list s frame.constraints false

  abbrev pub IsTestedBy : claims.Entry → Type 0
  IsTestedBy e = IfOk r (λ good. (p : claims.Proof) (d : Demand) → IsFrameOf s frame p → SameOn s.over (region s first) d.first → SameOn s.over (region s last) d.last
      → AreTested s.over (entry_lines V A p d e) before good after)

  abbrev Agrees : List (List Check) → claims.Entry → Type 0
  Agrees xs e = (p : claims.Proof) (d : Demand) → SameOn s.over (region s frame.fair.now) p.fair → SameOn s.over (region s frame.nonfair.now) (join_layers p.nonfair)
      → SameOn s.over (region s first) d.first → SameOn s.over (region s last) d.last → AgreeLines s.over xs (entry_lines V A p d e)

  by_lines : (xs : List (List Check)) (e known : claims.Entry) → e ≡ known → Agrees xs known → IfOk r (λ good. AreTested s.over xs before good after) → IsTestedBy e
  by_lines xs e known is agree t = if_ok r (λ good tested p d of f l. subst (λ u. AreTested s.over (entry_lines V A p d u) before good after) (sym is)
      (tested_agrees s.over xs (entry_lines V A p d known) (agree p d (λ st is_state. ap (λ (F : StateSet). F st) (sym of.fair)) (λ st is_state. ap (λ (F : StateSet). F st) (sym of.nonfair)) f l) before good after tested)) t

  own_set : (F : StateSet) → SameOn s.over F F
  own_set F st is_state = refl

  pub ex_lines : (e : claims.Entry) (set : StateSet) → e ≡ claims.Entry.EX set
      → IfOk r (λ good. AreTested s.over ([] ∷ (Check.Leads set (both (region s last) (region s frame.fair.now)) ∷ []) ∷ []) before good after) → IsTestedBy e
  ex_lines e set is t = by_lines ([] ∷ (Check.Leads set (both (region s last) (region s frame.fair.now)) ∷ []) ∷ []) e (claims.Entry.EX set) is
      (λ p d fair nonfair f l. (tt, (((own_set set, both_same s.over (region s last) d.last (region s frame.fair.now) p.fair l fair), tt), tt))) t

  pub ax_lines : (e : claims.Entry) (set : StateSet) → e ≡ claims.Entry.AX set
      → IfOk r (λ good. AreTested s.over ([] ∷ (Check.Keeps set (either (region s last) (region s frame.nonfair.now)) ∷ []) ∷ []) before good after) → IsTestedBy e
  ax_lines e set is t = by_lines ([] ∷ (Check.Keeps set (either (region s last) (region s frame.nonfair.now)) ∷ []) ∷ []) e (claims.Entry.AX set) is
      (λ p d fair nonfair f l. (tt, (((own_set set, either_same s.over (region s last) d.last (region s frame.nonfair.now) (join_layers p.nonfair) l nonfair), tt), tt))) t

  pub ar_lines : (e : claims.Entry) (set : StateSet) → e ≡ claims.Entry.AR set
      → IfOk r (λ good. AreTested s.over
      ([] ∷ (Check.Inside set (region s last) ∷ Check.Keeps (without set (region s first)) (either set (region s frame.nonfair.now)) ∷ []) ∷ []) before good after) → IsTestedBy e
  ar_lines e set is t = by_lines ([] ∷ (Check.Inside set (region s last) ∷ Check.Keeps (without set (region s first)) (either set (region s frame.nonfair.now)) ∷ []) ∷ []) e (claims.Entry.AR set) is
      (λ p d fair nonfair f l. (
        tt,
        (
          (
            (own_set set, l),
            ((without_same s.over set set (region s first) d.first (own_set set) f, either_same s.over set set (region s frame.nonfair.now) (join_layers p.nonfair) (own_set set) nonfair), tt),
          ),
          tt,
        ),
      )) t

  pub eu_lines : (e : claims.Entry) (list : List StateSet) → e ≡ claims.Entry.EU list
      → IfOk r (λ good. AreTested s.over ([] ∷ until_lines (region s first) (both (region s last) (region s frame.fair.now)) list) before good after) → IsTestedBy e
  eu_lines e list is t = by_lines ([] ∷ until_lines (region s first) (both (region s last) (region s frame.fair.now)) list) e (claims.Entry.EU list) is
      (λ p d fair nonfair f l. (
        tt,
        untils_agree s.over {f = region s first} {f' = d.first} {x = both (region s last) (region s frame.fair.now)} {x' = both d.last p.fair} f
            (both_same s.over (region s last) d.last (region s frame.fair.now) p.fair l fair) (agree_same s.over list),
      )) t

  pub au_lines : (e : claims.Entry) (layers : List (Layer Pin)) → e ≡ claims.Entry.AU (map layer_of (map (map_layer (region s)) layers))
      → IfOk r (λ good. AreTested s.over ([] ∷ layer_lines A (region s first) (either (region s last) (region s frame.nonfair.now)) nothing (layers_over s layers)) before good after) → IsTestedBy e
  au_lines e layers is t =
      by_lines ([] ∷ layer_lines A (region s first) (either (region s last) (region s frame.nonfair.now)) nothing (layers_over s layers)) e (claims.Entry.AU (layers_over s layers))
      (is ∙ ap (λ (ls : List rules.Layer). claims.Entry.AU ls) (sym (layers_are_over s layers)))
      (λ p d fair nonfair f l. (
        tt,
        layers_agree s.over {A = A} {B = A} (agree_same s.over A) {f = region s first} {f' = d.first} {out = either (region s last) (region s frame.nonfair.now)} {out' = either d.last (join_layers p.nonfair)}
            {e = nothing} {e' = nothing} f (either_same s.over (region s last) d.last (region s frame.nonfair.now) (join_layers p.nonfair) l nonfair) (own_set nothing) (same_layers s.over (layers_over s layers)),
      )) t

  pub er_lines : (e : claims.Entry) (set : StateSet) (reach : List (List StateSet)) (list : List StateSet) → e ≡ claims.Entry.ER set reach list
      → IfOk r (λ good. AreTested s.over (([] ∷ (Check.Inside set (region s last) ∷ []) ∷ reach_lines set V reach)
      ++ ([] ∷ until_lines (region s last) (both (region s first) (both (region s last) (region s frame.fair.now))) list)) before good after) → IsTestedBy e
  er_lines e set reach list is t =
      by_lines (([] ∷ (Check.Inside set (region s last) ∷ []) ∷ reach_lines set V reach) ++ ([] ∷ until_lines (region s last) (both (region s first) (both (region s last) (region s frame.fair.now))) list)) e
      (claims.Entry.ER set reach list) is
      (λ p d fair nonfair f l. (
        tt,
        (
          ((own_set set, l), tt),
          join_lines s.over (reach_lines set V reach) (reach_lines set V reach)
              ([] ∷ until_lines (region s last) (both (region s first) (both (region s last) (region s frame.fair.now))) list) ([] ∷ until_lines d.last (both d.first (both d.last p.fair)) list)
              (reaches_agree s.over {set = set} {set' = set} (own_set set) (agree_same s.over V) (same_lists s.over reach)) (
                tt,
                untils_agree s.over {f = region s last} {f' = d.last} {x = both (region s first) (both (region s last) (region s frame.fair.now))} {x' = both d.first (both d.last p.fair)} l
                    (both_same s.over (region s first) d.first (both (region s last) (region s frame.fair.now)) (both d.last p.fair) f
                    (both_same s.over (region s last) d.last (region s frame.fair.now) p.fair l fair)) (agree_same s.over list),
              ),
        ),
      )) t
