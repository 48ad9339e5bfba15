-- Entries whose lines are tested in turn.
use Rattle.std.proofs.Common.{◌≡◌, Result, Ok, ℕ, zero, suc, ◌+◌, ◌-◌, ◌<◌, ◌≤◌, Bool, true, false, List, [], ◌∷◌, ◌++◌, length, map, get_or, drop, Some, refl, sym, ◌∙◌, ap, subst, arith}
use Rattle.std.specs.Prelude.{IfOk, option_map}
use Rattle.std.specs.Option.{option_and_then}
use Rattle.std.specs.Global.{Vec}
use Rattle.kripke_model.specs.Ctl.{Ctl, formula_of}
use Rattle.kripke_model.specs.Signs.{node_count}
use Rattle.kripke_model.specs.System.{System, Condition}
use Rattle.kripke_model.specs.Term.{Term}
use Rattle.path_laws.specs.StateSet.{StateSet}
use Rattle.region_sets.specs.declared.pins.Pin.{Pin}
use Rattle.region_sets.specs.declared.pins.SetRefusal.{SetRefusal}
use Rattle.region_sets.specs.Sets.{Sets, Adds, IsCall, is_one_of, region}
use Rattle.region_sets.specs.Ranks.{AreLive, slots}
use Rattle.region_sets.proofs.Slots.{is_one_of-left, is_one_of-right}
use Rattle.region_sets.proofs.Changes.{adds_nothing}
use Rattle.region_sets.proofs.Calls.{then_call}
use Rattle.region_sets.proofs.Released.{slots-append}
use Rattle.fair_rules.specs.Claims as claims
use Rattle.fair_rules.specs.Checks.{Check}
use Rattle.fair_rules.specs.Block.{asked_lines, demand_at, listed_lines}
use Rattle.proof_form.specs.Form.{Entry, FreeEntry, FreePart, entries_sets, map_entry, map_free_entry, map_rule, rule_sets}
use Rattle.proof_form.specs.Meaning.{entry_of, free_avoided, free_demand, free_entry_lines, free_proof, free_visited, listed_of}
use Rattle.proof_form.specs.Shape.{constraint_formula}
use Rattle.claim_sets.specs.declared.claims.Claim.{Claim}
use Rattle.claim_sets.specs.declared.constraint_pins.Constraints.TheVariants as constraints
use Rattle.proof_lines.specs.declared.frames.Frame.{Frame}
use Rattle.claim_sets.specs.Claimed.{AreClaims, claims_of, claims_slots}
use Rattle.claim_sets.specs.ConstraintClaims.{HasClaims, HaveClaims, claims_at, constraint_list, lists_claims_slots}
use Rattle.proof_lines.specs.Frames.{IsFrame, IsFrameOf}
use Rattle.proof_lines.specs.Tested.{AreTested}
use Rattle.claim_sets.proofs.ClaimLists.{claims_length}
use Rattle.claim_sets.proofs.ClaimPins.{if_ok}
use Rattle.claim_sets.proofs.ConstraintSides.{got, in_lists, list_at}
use Rattle.proof_lines.proofs.Counting.{none_tested, then_tested, left_fails}
use Rattle.proof_lines.proofs.Framed.{claims_then, frame_of_then, have_then, regions_kept}
use Rattle.claim_sets.proofs.Given.{list_kept}
use Rattle.claim_sets.proofs.Joined.{drop_at, drop_all}
use Rattle.proof_lines.proofs.Passing.{to_ok}

-- ---- the loop

-- What is left to be tested tells of the whole list, whatever `w` the lines are by, as far as it is one that was meant.
pub record IsGone {W X : Type 0} (start now : Sets) (Is : W → Type 0) (lines : W → List X → List (List Check)) (items : List X) (first k line : ℕ) : Type 0 where
  pub call : IsCall 8 start now [] (Ok true)
  pub rest : (w : W) → Is w → (good : Bool) (after : ℕ) → AreTested start.over (lines w (drop k items)) line good after → AreTested start.over (lines w items) first good after

-- how the lines of a list are made
pub record AreParts {W X : Type 0} (part : W → X → List (List Check)) (lines : W → List X → List (List Check)) : Type 0 where
  pub no_items : (w : W) → lines w [] ≡ []
  pub one_more : (w : W) (x : X) (xs : List X) → lines w (x ∷ xs) ≡ part w x ++ lines w xs

module _ {W X : Type 0} (start : Sets) (Is : W → Type 0) (part : W → X → List (List Check)) (lines : W → List X → List (List Check)) (by : AreParts part lines) (items : List X) (first : ℕ) where
  pub gone_none : IsGone start start Is lines items first 0 first
  gone_none = record {
    call = record { pins = adds_nothing start; refusal = tt; fulls = omega arith; spare = λ room. refl };
    rest = λ w is good after t. t;
  }

  cut : (w : W) (k : ℕ) (x : X) → k < length items → lines w (drop k items) ≡ part w (get_or items k x) ++ lines w (drop (suc k) items)
  cut w k x less = ap (lines w) (drop_at items k x less) ∙ by.one_more w (get_or items k x) (drop (suc k) items)

  pub gone_fails : (now : Sets) (k line : ℕ) (x : X) (good : Bool) (after : ℕ) → good ≡ false → k < length items → x ≡ get_or items k x → IsGone start now Is lines items first k line
      → ((w : W) → Is w → AreTested start.over (part w x) line good after) → (w : W) → Is w → AreTested start.over (lines w items) first false after
  gone_fails now k line x good after fails less at go t w is =
      go.rest w is false after (subst (λ (ls : List (List Check)). AreTested start.over ls line false after) (sym (cut w k x less))
      (left_fails start.over (part w (get_or items k x)) (lines w (drop (suc k) items)) line after
      (subst (λ (y : X). AreTested start.over (part w y) line false after) at (subst (λ b. AreTested start.over (part w x) line b after) fails (t w is)))))

  pub gone_more : (now tested : Sets) (k line : ℕ) (x : X) (r : Result Bool SetRefusal) (good : Bool) (next : ℕ) → good ≡ true → k < length items → x ≡ get_or items k x → IsGone start now Is lines items first k line
      → IsCall 8 now tested [] r → ((w : W) → Is w → AreTested start.over (part w x) line good next) → IsGone start tested Is lines items first (k + 1) next
  gone_more now tested k line x r good next holds less at go test t = record {
    call = to_ok true (then_call 8 go.call test (omega arith) (omega arith));
    rest = λ w is ok after u. go.rest w is ok after (subst (λ (ls : List (List Check)). AreTested start.over ls line ok after) (sym (cut w k x less))
        (then_tested start.over (part w (get_or items k x)) (lines w (drop (suc k) items)) line next ok after
        (subst (λ (y : X). AreTested start.over (part w y) line true next) at (subst (λ b. AreTested start.over (part w x) line b next) holds (t w is)))
        (subst (λ n. AreTested start.over (lines w (drop n items)) next ok after) one u)));
  }
    where
      one : k + 1 ≡ suc k
      one = omega arith

  pub gone_all : (now : Sets) (k line : ℕ) → length items ≤ k → IsGone start now Is lines items first k line → (w : W) → Is w → AreTested start.over (lines w items) first true line
  gone_all now k line end go w is =
      go.rest w is true line (subst (λ (ls : List (List Check)). AreTested start.over ls line true line) (sym (ap (lines w) (drop_all items k end) ∙ by.no_items w)) (none_tested start.over line))

-- ---- the entries of one formula

module _ (start : Sets) (frame : Frame) (cs : List Claim) where
  -- a proof of a formula, by the frame and the claims
  abbrev pub IsOwn : claims.Proof × Ctl → Type 0
  IsOwn w = IsFrameOf start frame w.0 × (length cs ≡ node_count w.1) × AreClaims start.over start cs (claims_of start.over w.0 w.1 1 0)

  abbrev pub own_part : claims.Proof × Ctl → Entry Pin → List (List Check)
  own_part w e = asked_lines (constraint_list start frame.constraints true) (constraint_list start frame.constraints false) w.0 (demand_at start.over w.0 w.1 1 e.node e.plus) (entry_of (map_rule (region start) e.rule))

  abbrev pub own_list : claims.Proof × Ctl → List (Entry Pin) → List (List Check)
  own_list w es = listed_lines start.over (constraint_list start frame.constraints true) (constraint_list start frame.constraints false) w.0 w.1 1 (map listed_of (map (map_entry (region start)) es))

  pub own_parts : AreParts own_part own_list
  own_parts = record { no_items = λ w. refl; one_more = λ w e es. refl }

  -- what was tested later
  pub own_then : (now : Sets) (e : Entry Pin) (line : ℕ) (good : Bool) (after : ℕ) → Adds start now [] → IsFrame start frame
      → ((p : claims.Proof) (f : Ctl) → IsFrameOf now frame p → length cs ≡ node_count f → AreClaims now.over now cs (claims_of now.over p f 1 0)
      → AreTested now.over (asked_lines (constraint_list now frame.constraints true) (constraint_list now frame.constraints false) p (demand_at now.over p f 1 e.node e.plus) (entry_of (map_rule (region now) e.rule))) line good after)
      → (w : claims.Proof × Ctl) → IsOwn w → AreTested start.over (own_part w e) line good after
  own_then now e line good after none is t w own =
      subst (λ (T : Type 0). T)
      (λ i. AreTested (none.over i)
      (asked_lines (list_kept start now [] none frame.constraints true is.given i) (list_kept start now [] none frame.constraints false is.given i) w.0 (demand_at (none.over i) w.0 w.1 1 e.node e.plus)
      (entry_of (map_rule (regions_kept start now none i) e.rule))) line good after)
      (t w.0 w.1 (frame_of_then start now frame w.0 none is own.0) own.1 (claims_then start now none cs (λ m. claims_of m w.0 w.1 1 0) own.2))

-- ---- the entries for constraints

has_some : (m : System) (s : Sets) (p : claims.Proof) (c : Condition) (cs : List Claim) → 0 < length cs → HasClaims m s p c cs → AreClaims m s cs (claims_of m p (formula_of c.expr) 1 0)
has_some m s p c [] some h = absurd (omega (arith, some))
has_some m s p c (d ∷ cs) some h = h

formula_there : (m : System) (k : ℕ) (c : Condition) → 1 ≤ k → k - 1 < length m.constraints → constraint_formula m k ≡ Some (formula_of (get_or m.constraints (k - 1) c).expr)
formula_there m zero c some less = absurd (omega (arith, some))
formula_there m (suc k) c some less =
    let at : k ≡ suc k - 1 = omega arith in
    subst (λ j. constraint_formula m (suc k) ≡ Some (formula_of (get_or m.constraints j c).expr)) at
    (ap (option_map (λ (d : Condition). formula_of d.expr)) (got m.constraints k c (omega (arith, less))))

module _ (start : Sets) (frame : Frame) (lists : List (Vec Claim)) where
  abbrev pub IsFree : FreePart StateSet → Type 0
  IsFree part = ((k : ℕ) → IsFrameOf start frame (free_proof (Some part) k)) × HaveClaims start.over start (free_proof (Some part)) lists

  abbrev pub free_part_lines : FreePart StateSet → FreeEntry Pin → List (List Check)
  free_part_lines part e = asked_lines free_visited free_avoided (free_proof (Some part) (e.constraint - 1)) (free_demand start.over part (map_free_entry (region start) e)) (entry_of (map_rule (region start) e.entry.rule))

  abbrev pub free_list : FreePart StateSet → List (FreeEntry Pin) → List (List Check)
  free_list part es = free_entry_lines start.over part (map (map_free_entry (region start)) es)

  pub free_parts : AreParts free_part_lines free_list
  free_parts = record { no_items = λ part. refl; one_more = λ part e es. refl }

  -- what was tested of an entry by claims
  abbrev IsTestedBy : Entry Pin → List Claim → ℕ → Bool → ℕ → Type 0
  IsTestedBy e cs line good after = (p : claims.Proof) (f : Ctl) → IsFrameOf start frame p → length cs ≡ node_count f → AreClaims start.over start cs (claims_of start.over p f 1 0)
      → AreTested start.over (asked_lines (constraint_list start frame.constraints true) (constraint_list start frame.constraints false) p (demand_at start.over p f 1 e.node e.plus) (entry_of (map_rule (region start) e.rule)))
      line good after

  -- one entry, by the claims of its constraint's formula
  free_one : (e : FreeEntry Pin) (line : ℕ) (r : Result Bool SetRefusal) (after : ℕ) → frame.constraints ≡ constraints.All → length lists ≤ length start.over.constraints
      → 1 ≤ e.constraint → e.constraint ≤ length lists → 1 ≤ e.entry.node → e.entry.node ≤ length (claims_at lists (e.constraint - 1))
      → IfOk r (λ good. IsTestedBy e.entry (claims_at lists (e.constraint - 1)) line good after)
      → IfOk r (λ good. (part : FreePart StateSet) → ((k : ℕ) → IsFrameOf start frame (free_proof (Some part) k)) → HaveClaims start.over start (free_proof (Some part)) lists
      → AreTested start.over (free_part_lines part e) line good after)
  free_one e line r after all few some within node_some node_within t = if_ok r (λ good h part of have.
      let c : Condition = record { expr = Term.Running 0; line = 0 } in
      let k : ℕ = e.constraint - 1 in
      let less : k < length start.over.constraints = omega (arith, few, within, some) in
      let p : claims.Proof = free_proof (Some part) k in
      let f : Ctl = formula_of (get_or start.over.constraints k c).expr in
      let are : AreClaims start.over start (claims_at lists k) (claims_of start.over p f 1 0) =
      has_some start.over start p (get_or start.over.constraints k c) (claims_at lists k) (omega (arith, node_some, node_within)) (have k c less) in
      subst (λ (T : Type 0). T)
      (λ i. AreTested start.over (asked_lines (constraint_list start (all i) true) (constraint_list start (all i) false) p
      (option_and_then (λ (g : Ctl). demand_at start.over p g 1 e.entry.node e.entry.plus) (sym (formula_there start.over e.constraint c some less) i)) (entry_of (map_rule (region start) e.entry.rule))) line good after)
      (h p f (of k) (are.count ∙ claims_length start.over p f 1 0) are)) t

  -- the same where the entry is read off its own fields, and the claims off a slice
  pub free_own : (own e : FreeEntry Pin) → own ≡ e → (cs : List Claim) → cs ≡ claims_at lists (e.constraint - 1) → (line : ℕ) (r : Result Bool SetRefusal) (after : ℕ) → frame.constraints ≡ constraints.All
      → length lists ≤ length start.over.constraints → 1 ≤ e.constraint → e.constraint ≤ length lists → 1 ≤ e.entry.node → e.entry.node ≤ length (claims_at lists (e.constraint - 1))
      → IfOk r (λ good. IsTestedBy own.entry cs line good after)
      → IfOk r (λ good. (part : FreePart StateSet) → ((k : ℕ) → IsFrameOf start frame (free_proof (Some part) k)) → HaveClaims start.over start (free_proof (Some part)) lists
      → AreTested start.over (free_part_lines part e) line good after)
  free_own own e is cs at line r after all few some within node_some node_within t =
      free_one e line r after all few some within node_some node_within
      (subst (λ (x : FreeEntry Pin). IfOk r (λ good. IsTestedBy x.entry (claims_at lists (e.constraint - 1)) line good after)) is
      (subst (λ (xs : List Claim). IfOk r (λ good. IsTestedBy own.entry xs line good after)) at t))

  -- what was tested later
  pub free_then : (now : Sets) (e : FreeEntry Pin) (line : ℕ) (good : Bool) (after : ℕ) → Adds start now [] → IsFrame start frame
      → ((part : FreePart StateSet) → ((k : ℕ) → IsFrameOf now frame (free_proof (Some part) k)) → HaveClaims now.over now (free_proof (Some part)) lists
      → AreTested now.over (asked_lines free_visited free_avoided (free_proof (Some part) (e.constraint - 1)) (free_demand now.over part (map_free_entry (region now) e)) (entry_of (map_rule (region now) e.entry.rule))) line good after)
      → (part : FreePart StateSet) → IsFree part → AreTested start.over (free_part_lines part e) line good after
  free_then now e line good after none is t part free =
      subst (λ (T : Type 0). T)
      (λ i. AreTested (none.over i) (asked_lines free_visited free_avoided (free_proof (Some part) (e.constraint - 1)) (free_demand (none.over i) part (map_free_entry (regions_kept start now none i) e))
      (entry_of (map_rule (regions_kept start now none i) e.entry.rule))) line good after)
      (t part (λ k. frame_of_then start now frame (free_proof (Some part) k) none is (free.0 k)) (have_then start now none (free_proof (Some part)) lists free.1))

-- ---- the sets of an entry are among those of all

pub entry_live : (now : Sets) (es : List (Entry Pin)) (k : ℕ) (d : Entry Pin) → k < length es → AreLive now (slots (entries_sets es)) → AreLive now (slots (rule_sets (get_or es k d).rule))
entry_live now [] k d less live = absurd (omega (arith, less))
entry_live now (e ∷ es) zero d less live = λ i h. live i (subst (λ ks. is_one_of i ks ≡ true) (sym (slots-append (rule_sets e.rule) (entries_sets es))) (is_one_of-left i (slots (rule_sets e.rule)) (slots (entries_sets es)) h))
entry_live now (e ∷ es) (suc k) d less live =
    entry_live now es k d (omega (arith, less))
    (λ i h. live i (subst (λ ks. is_one_of i ks ≡ true) (sym (slots-append (rule_sets e.rule) (entries_sets es))) (is_one_of-right i (slots (rule_sets e.rule)) (slots (entries_sets es)) h)))

pub free_entry_live : (now : Sets) (es : List (FreeEntry Pin)) (k : ℕ) (d : FreeEntry Pin) → k < length es → AreLive now (slots (entries_sets (map (λ (e : FreeEntry Pin). e.entry) es)))
    → AreLive now (slots (rule_sets (get_or es k d).entry.rule))
free_entry_live now [] k d less live = absurd (omega (arith, less))
free_entry_live now (e ∷ es) zero d less live = λ i h. live i (subst (λ ks. is_one_of i ks ≡ true) (sym (slots-append (rule_sets e.entry.rule) (entries_sets (map (λ (e : FreeEntry Pin). e.entry) es))))
    (is_one_of-left i (slots (rule_sets e.entry.rule)) (slots (entries_sets (map (λ (e : FreeEntry Pin). e.entry) es))) h))
free_entry_live now (e ∷ es) (suc k) d less live =
    free_entry_live now es k d (omega (arith, less))
    (λ i h. live i (subst (λ ks. is_one_of i ks ≡ true) (sym (slots-append (rule_sets e.entry.rule) (entries_sets (map (λ (e : FreeEntry Pin). e.entry) es))))
    (is_one_of-right i (slots (rule_sets e.entry.rule)) (slots (entries_sets (map (λ (e : FreeEntry Pin). e.entry) es))) h)))

-- ---- the claims of an entry's constraint

pub free_claims : (lists : List (Vec Claim)) (own e : FreeEntry Pin) → own ≡ e → 1 ≤ e.constraint → e.constraint ≤ length lists → (v : Vec Claim) → v ≡ get_or lists (own.constraint - 1) v → (cs : List Claim) → cs ≡ v.items
    → cs ≡ claims_at lists (e.constraint - 1)
free_claims lists own e is some within v at cs items =
    let lt : own.constraint - 1 < length lists = omega (arith, some, within, ap (λ (x : FreeEntry Pin). x.constraint) is) in
    items ∙ ap (λ (w : Vec Claim). w.items) at ∙ sym (list_at lists (own.constraint - 1) v lt) ∙ ap (λ (x : FreeEntry Pin). claims_at lists (x.constraint - 1)) is

pub free_claims_live : (now : Sets) (lists : List (Vec Claim)) (k : ℕ) (cs : List Claim) → cs ≡ claims_at lists k → AreLive now (lists_claims_slots lists) → AreLive now (claims_slots cs)
free_claims_live now lists k cs at live i h = live i (in_lists lists k i (subst (λ (xs : List Claim). is_one_of i (claims_slots xs) ≡ true) at h))
