-- The claims of the constraints' formulas, made one after another.
use Rattle.std.proofs.Common.{◌≡◌, inl, inr, ℕ, zero, suc, ◌+◌, ◌*◌, ◌-◌, ◌<◌, ◌≤◌, Bool, true, false, List, [], ◌∷◌, ◌++◌, length, map, get_or, drop, Some, None, Result, Ok, Err, refl, sym, ◌∙◌, ap, subst, arith, length-append, append-nil, append_assoc}
use Rattle.std.specs.Prelude.{All, IfOk, cond, slice_get, MatchOption}
use Rattle.std.specs.Global.{Vec}
use Rattle.std.proofs.lemmas.Bool.{cases_lt, false≢true}
use Rattle.std.proofs.lemmas.List.{get_or-map, get_or_default, length-map}
use Rattle.kripke_model.specs.declared.expressions.BinOp.{BinOp}
use Rattle.kripke_model.specs.declared.expressions.Formula.{Formula}
use Rattle.kripke_model.specs.Ctl.{Ctl, formula_of}
use Rattle.kripke_model.specs.Evaluable.{IsEvaluable}
use Rattle.kripke_model.specs.Leaves.{IsLeafOf, IsModelLeaf, is_leaf, HasModelLeaves}
use Rattle.kripke_model.specs.Signs.{node_count}
use Rattle.kripke_model.specs.Step.{IsState}
use Rattle.kripke_model.specs.System.{System, Condition}
use Rattle.kripke_model.specs.Term.{Term, has_path_operator}
use Rattle.kripke_model.specs.WellFormed.{ctl_of}
use Rattle.region_sets.specs.declared.pins.Pin.{Pin}
use Rattle.region_sets.specs.declared.pins.SetRefusal.{SetRefusal}
use Rattle.region_sets.specs.declared.pins.SetRefusal.TheVariants.{Memory}
use Rattle.region_sets.specs.Sets.{Sets, Adds, In, IsCall, IsLive, has_state, is_one_of, region}
use Rattle.region_sets.specs.Ranks.{slots}
use Rattle.region_sets.proofs.Changes.{adds_nothing, stays, stays_live}
use Rattle.region_sets.proofs.Calls.{holds_more, let_go, regions-same, then_call}
use Rattle.fair_rules.specs.Block as blocks
use Rattle.fair_rules.specs.Claims as claims
use Rattle.fair_rules.specs.FreePart.{constraint_nodes, path_nodes, path_nodes_of}
use Rattle.fair_rules.proofs.LeafSets.{evaluable_leaf}
use Rattle.proof_form.specs.Form.{FreePart, entries_sets, layer_sets, map_free, map_free_entry}
use Rattle.proof_form.specs.Meaning.{entries_for, free_proof}
use Rattle.fair_rules.proofs.Nodes.{some_nodes}
use Rattle.claim_sets.specs.declared.claims.Claim.{Claim}
use Rattle.claim_sets.specs.declared.entry_sets.Ground.{Ground}
use Rattle.claim_sets.specs.Claimed.{AreClaims, ClaimView, claims_of, claims_slots, view_at}
use Rattle.claim_sets.specs.ConstraintClaims.{AreFitting, HasClaims, HaveClaims, claims_at, lists_claims_slots}
use Rattle.claim_sets.specs.EntrySets.{IsGround, IsGroundOf, entry_slots, listed_in}
use Rattle.claim_sets.specs.FreeClaims.{ArePathClaims, IsFreeGround, IsListing}
use Rattle.claim_sets.proofs.ClaimLists.{claims_length}
use Rattle.claim_sets.proofs.ClaimPins.{claim_among, if_ok, to_err, to_memory, to_ok}
use Rattle.claim_sets.proofs.Claiming.{claim_later}
use Rattle.claim_sets.proofs.ConstraintSides.{got, in_lists}
use Rattle.claim_sets.proofs.FoundEntries.{layers_joined}
use Rattle.claim_sets.proofs.Joined.{drop_all, drop_at}
use Rattle.claim_sets.proofs.KeptProofs.{free_kept, part_entries_live, part_layers_live}

-- ---- the claims of one formula

pub leaf_size : (f : Ctl) → is_leaf f ≡ true → path_nodes f ≡ 0
leaf_size (Ctl.Leaf e) h = refl
leaf_size (Ctl.Not f) h = absurd (false≢true h)
leaf_size (Ctl.And f g) h = absurd (false≢true h)
leaf_size (Ctl.Or f g) h = absurd (false≢true h)
leaf_size (Ctl.Implies f g) h = absurd (false≢true h)
leaf_size (Ctl.Iff f g) h = absurd (false≢true h)
leaf_size (Ctl.Quant op f) h = absurd (false≢true h)
leaf_size (Ctl.Until all f g) h = absurd (false≢true h)

pub path_size : (f : Ctl) → is_leaf f ≡ false → path_nodes f ≡ node_count f
path_size (Ctl.Leaf e) h = absurd (false≢true (sym h))
path_size (Ctl.Not f) h = refl
path_size (Ctl.And f g) h = refl
path_size (Ctl.Or f g) h = refl
path_size (Ctl.Implies f g) h = refl
path_size (Ctl.Iff f g) h = refl
path_size (Ctl.Quant op f) h = refl
path_size (Ctl.Until all f g) h = refl

pub path_claims_are : (m : System) (now : Sets) (p : claims.Proof) (f : Ctl) (cs : List Claim) → AreClaims m now cs (claims_of m p f 1 0) → ArePathClaims m now p f cs
path_claims_are m now p f [] are = absurd (omega (arith, are.count, claims_length m p f 1 0, some_nodes f))
path_claims_are m now p f (c ∷ cs) are = are

pub claims_later : (m : System) (a b : Sets) (cs : List Claim) (views : List ClaimView) → ((k : ℕ) → is_one_of k (claims_slots cs) ≡ true → b.pins k ≡ a.pins k) → AreClaims m a cs views → AreClaims m b cs views
claims_later m a b cs views kept are = record {
  count = are.count;
  each = λ k d lt. claim_later m a b (get_or cs k d) (view_at views k) (λ i h. kept i (claim_among cs k d i lt h)) (are.each k d lt);
}

path_claims_later : (m : System) (a b : Sets) (p : claims.Proof) (f : Ctl) (cs : List Claim) → ((k : ℕ) → is_one_of k (claims_slots cs) ≡ true → b.pins k ≡ a.pins k) → ArePathClaims m a p f cs → ArePathClaims m b p f cs
path_claims_later m a b p f [] kept are = are
path_claims_later m a b p f (c ∷ cs) kept are = claims_later m a b (c ∷ cs) (claims_of m p f 1 0) kept are

-- a leaf has none
pub leaf_call : {T : Type 0} (f : Ctl) (s : Sets) (cs : List Claim) (x : T) → cs ≡ [] → IsCall (2 * path_nodes f + 8) s s (claims_slots cs) (Ok x)
leaf_call f s cs x none = subst (λ xs. IsCall (2 * path_nodes f + 8) s s (claims_slots xs) (Ok x)) (sym none) (record { pins = adds_nothing s; refusal = tt; fulls = omega arith; spare = λ room. refl })

pub leaf_pins : (f : Ctl) (cs : List Claim) → cs ≡ [] → is_leaf f ≡ true → length (claims_slots cs) ≡ 2 * path_nodes f
leaf_pins f cs none leaf = ap (λ xs. length (claims_slots xs)) none ∙ ap (λ n. 2 * n) (sym (leaf_size f leaf))

pub leaf_claims : (m : System) (now : Sets) (p : claims.Proof) (f : Ctl) (cs : List Claim) → cs ≡ [] → is_leaf f ≡ true → ArePathClaims m now p f cs
leaf_claims m now p f cs none leaf = subst (λ xs. ArePathClaims m now p f xs) (sym none) leaf

pub path_call : {T : Type 0} {r : Result T SetRefusal} (f : Ctl) (a b : Sets) (xs : List ℕ) → is_leaf f ≡ false → IsCall (2 * node_count f + 8) a b xs r → IsCall (2 * path_nodes f + 8) a b xs r
path_call f a b xs other call = holds_more (2 * path_nodes f + 8) (omega (arith, path_size f other)) call

-- ---- the claims of one constraint's formula

module _ (s : Sets) (full nonfair : Pin) (part : FreePart Pin) (g : IsFreeGround s full nonfair part) where
  pub free_ground_is : (ground : Ground) → full ≡ ground.full.now → nonfair ≡ ground.nonfair.now → slots (entries_sets (map (λ e. e.entry) part.entries)) ≡ entry_slots ground.entries → IsGround s ground
  free_ground_is ground full_is layers listed = record {
    full_live = subst (λ (x : Pin). IsLive s x.slot) full_is g.full_live;
    nonfair_live = subst (λ (x : Pin). IsLive s x.slot) layers g.nonfair_live;
    entries_live = subst (λ ks. (k : ℕ) → is_one_of k ks ≡ true → IsLive s k) listed (part_entries_live s part g.part_live);
    full = λ st state. subst (λ (x : Pin). In s x.slot st) full_is (g.full st state);
  }

  pub free_ground_of : (ground : Ground) (j : ℕ) → nonfair ≡ ground.nonfair.now → entries_for (j + 1) (map (map_free_entry (region s)) part.entries) ≡ listed_in s ground.entries
      → IsGroundOf s ground (free_proof (Some (map_free (region s) part)) j)
  free_ground_of ground j layers listed = record {
    nonfair = layers_joined (region s) part.nonfair ∙ sym g.nonfair ∙ ap (region s) layers;
    entries = ap blocks.entry_of listed;
  }

  pub listed_claims : (m : System) (f : Ctl) (now : Sets) (k : ℕ) (r : Result (Vec Claim) SetRefusal) (ground : Ground) → nonfair ≡ ground.nonfair.now
      → entries_for k (map (map_free_entry (region s)) part.entries) ≡ listed_in s ground.entries
      → IfOk r (λ cs. (p : claims.Proof) → IsGroundOf s ground p → ArePathClaims m now p f cs.items)
      → IfOk r (λ cs. (j : ℕ) → j + 1 ≡ k → ArePathClaims m now (free_proof (Some (map_free (region s) part)) j) f cs.items)
  listed_claims m f now k r ground layers listed h = if_ok r (λ cs are j e.
      are (free_proof (Some (map_free (region s) part)) j) (free_ground_of ground j layers (ap (λ i. entries_for i (map (map_free_entry (region s)) part.entries)) e ∙ listed))) h

-- the claims of all constraints, later
pub have_later : (m : System) (a b : Sets) (proofs : ℕ → claims.Proof) (lists : List (Vec Claim)) → ((k : ℕ) → is_one_of k (lists_claims_slots lists) ≡ true → b.pins k ≡ a.pins k)
    → HaveClaims m a proofs lists → HaveClaims m b proofs lists
have_later m a b proofs lists kept have k c lt = later (claims_at lists k) (λ i h. kept i (in_lists lists k i h)) (have k c lt)
  where
    later : (cs : List Claim) → ((i : ℕ) → is_one_of i (claims_slots cs) ≡ true → b.pins i ≡ a.pins i) → HasClaims m a (proofs k) (get_or m.constraints k c) cs → HasClaims m b (proofs k) (get_or m.constraints k c) cs
    later [] same h = h
    later (d ∷ cs) same h = claims_later m a b (d ∷ cs) (claims_of m (proofs k) (formula_of (get_or m.constraints k c).expr) 1 0) same h

-- ---- lists of claims

pub claim_lists_append : (xs ys : List (Vec Claim)) → lists_claims_slots (xs ++ ys) ≡ lists_claims_slots xs ++ lists_claims_slots ys
claim_lists_append [] ys = refl
claim_lists_append (x ∷ xs) ys = ap (λ ks. claims_slots x.items ++ ks) (claim_lists_append xs ys) ∙ sym (append_assoc (claims_slots x.items) (lists_claims_slots xs) (lists_claims_slots ys))

at_left : (xs ys : List (Vec Claim)) (k : ℕ) → k < length xs → claims_at (xs ++ ys) k ≡ claims_at xs k
at_left [] ys k lt = absurd (omega (arith, lt))
at_left (x ∷ xs) ys zero lt = refl
at_left (x ∷ xs) ys (suc k) lt = at_left xs ys k (omega (arith, lt))

at_end : (xs : List (Vec Claim)) (y : Vec Claim) (k : ℕ) → k ≡ length xs → claims_at (xs ++ (y ∷ [])) k ≡ y.items
at_end [] y zero e = refl
at_end [] y (suc k) e = absurd (omega (arith, e))
at_end (x ∷ xs) y zero e = absurd (omega (arith, e))
at_end (x ∷ xs) y (suc k) e = at_end xs y k (omega (arith, e))

-- ---- what they are made of, later

pub free_ground_then : (a b : Sets) {xs : List ℕ} (full nonfair : Pin) (part : FreePart Pin) → Adds a b xs → IsFreeGround a full nonfair part → IsFreeGround b full nonfair part
free_ground_then a b full nonfair part adds g = record {
  full_live = stays_live adds full.slot g.full_live;
  nonfair_live = stays_live adds nonfair.slot g.nonfair_live;
  part_live = λ k h. stays_live adds k (g.part_live k h);
  full = λ s is. subst (λ o. has_state o s ≡ true) (sym (stays adds full.slot g.full_live)) (g.full s (subst (λ m. IsState m s) adds.over is));
  nonfair = ap has_state (stays adds nonfair.slot g.nonfair_live) ∙ g.nonfair
      ∙ ap claims.join (sym (regions-same a b (layer_sets part.nonfair) (λ k h. stays adds k (part_layers_live a part g.part_live k h))));
}

-- ---- the loop over constraints

module _ (part : FreePart Pin) (fs : List Ctl) (s0 : Sets) where
  abbrev pub proofs_at : Sets → ℕ → claims.Proof
  proofs_at s k = free_proof (Some (map_free (region s) part)) k

  pub record IsListed (s : Sets) (k : ℕ) (lists : List (Vec Claim)) : Type 0 where
    pub call : IsCall (2 * path_nodes_of fs + 8) {T = Unit {0}} s0 s (lists_claims_slots lists) (Ok tt)
    pub count : length lists ≡ k
    pub pins : length (lists_claims_slots lists) + 2 * path_nodes_of (drop k fs) ≡ 2 * path_nodes_of fs
    pub each : (j : ℕ) (f : Ctl) → j < k → ArePathClaims s0.over s (proofs_at s0 j) (get_or fs j f) (claims_at lists j)

  pub listed_none : (lists : List (Vec Claim)) → lists ≡ [] → IsListed s0 0 lists
  listed_none lists none = subst (λ xs. IsListed s0 0 xs) (sym none) (record {
    call = record { pins = adds_nothing s0; refusal = tt; fulls = omega arith; spare = λ room. refl };
    count = refl;
    pins = omega arith;
    each = λ j f lt. absurd (omega (arith, lt));
  })

  module _ (full nonfair : Pin) (s s' : Sets) (k : ℕ) (lists new : List (Vec Claim)) (f : Ctl) (ground : IsFreeGround s0 full nonfair part) (i : IsListed s k lists)
      (lt : k < length fs) (is : f ≡ get_or fs k f) where
    abbrev pub Are : List Claim → Type 0
    Are cs = ArePathClaims s.over s' (proofs_at s (length lists)) f cs

    abbrev pub Listing : {T : Type 0} → Result T SetRefusal → Type 0
    Listing r = IsListing (2 * path_nodes f + 8) (2 * path_nodes f) s s' lists new Are r

    slots_are : {T : Type 0} {r : Result T SetRefusal} (a : Listing r) → lists_claims_slots lists ++ lists_claims_slots a.added ≡ lists_claims_slots new
    slots_are a = sym (claim_lists_append lists a.added) ∙ ap lists_claims_slots (sym a.items)

    split : path_nodes_of (drop k fs) ≡ path_nodes f + path_nodes_of (drop (suc k) fs)
    split = ap path_nodes_of (drop_at fs k f lt) ∙ ap (λ x. path_nodes x + path_nodes_of (drop (suc k) fs)) (sym is)

    pub listed_call : {T : Type 0} (r : Result T SetRefusal) → Listing r → IsCall (2 * path_nodes_of fs + 8) s0 s' (lists_claims_slots new) r
    listed_call r a = subst (λ ks. IsCall (2 * path_nodes_of fs + 8) s0 s' ks r) (slots_are a)
        (then_call (2 * path_nodes_of fs + 8) i.call a.call (omega (arith, i.pins, split)) (omega (arith, i.pins, split)))

    pub listed_more : {T : Type 0} (x : T) → Listing (Ok x) → IsListed s' (k + 1) new
    listed_more x a = record {
      call = to_ok tt (listed_call (Ok x) a);
      count = ap length items ∙ omega (arith, length-append lists (list ∷ []), i.count);
      pins = ap (λ n. n + 2 * path_nodes_of (drop (k + 1) fs)) sized ∙ ap (λ n. length (lists_claims_slots lists) + 2 * path_nodes f + 2 * path_nodes_of (drop n fs)) next ∙ omega (arith, split, i.pins);
      each = λ j g below. subst (λ xs. ArePathClaims s0.over s' (proofs_at s0 j) (get_or fs j g) (claims_at xs j)) (sym items) (each j g below);
    }
      where
        list : Vec Claim
        list = a.one.0

        items : new ≡ lists ++ (list ∷ [])
        items = a.items ∙ ap (λ xs. lists ++ xs) a.one.1

        next : k + 1 ≡ suc k
        next = omega arith

        sized : length (lists_claims_slots new) ≡ length (lists_claims_slots lists) + 2 * path_nodes f
        sized = ap (λ xs. length (lists_claims_slots xs)) items ∙ ap length (claim_lists_append lists (list ∷ []))
            ∙ omega (arith, length-append (lists_claims_slots lists) (lists_claims_slots (list ∷ [])), length-append (claims_slots list.items) [], a.one.2)

        same_part : map_free (region s) part ≡ map_free (region s0) part
        same_part = free_kept s0 s part i.call.pins ground.part_live

        own : ArePathClaims s0.over s' (proofs_at s0 (length lists)) f list.items
        own = subst (λ q. ArePathClaims s0.over s' (free_proof (Some q) (length lists)) f list.items) same_part
            (subst (λ m. ArePathClaims m s' (proofs_at s (length lists)) f list.items) i.call.pins.over a.one.3)

        each : (j : ℕ) (g : Ctl) → j < k + 1 → ArePathClaims s0.over s' (proofs_at s0 j) (get_or fs j g) (claims_at (lists ++ (list ∷ [])) j)
        each j g below = elim (cases_lt j (length lists)) [
          | inl before ↦ subst (λ cs. ArePathClaims s0.over s' (proofs_at s0 j) (get_or fs j g) cs) (sym (at_left lists (list ∷ []) j before))
              (path_claims_later s0.over s s' (proofs_at s0 j) (get_or fs j g) (claims_at lists j)
              (λ n h. stays a.call.pins n (i.call.pins.there n (in_lists lists j n h))) (i.each j g (omega (arith, before, i.count))))
          | inr past ↦
              let here : j ≡ length lists = omega (arith, past, below, i.count) in
              let at : j ≡ k = omega (arith, here, i.count) in
              let formula : f ≡ get_or fs j g = is ∙ ap (λ n. get_or fs n f) (sym at) ∙ any_default fs j f g (omega (arith, at, lt)) in
              subst (λ cs. ArePathClaims s0.over s' (proofs_at s0 j) (get_or fs j g) cs) (sym (at_end lists list j here))
              (subst (λ x. ArePathClaims s0.over s' (proofs_at s0 j) x list.items) formula
              (subst (λ n. ArePathClaims s0.over s' (proofs_at s0 n) f list.items) (sym here) own))
        ]
          where
            any_default : (xs : List Ctl) (n : ℕ) (d e : Ctl) → n < length xs → get_or xs n d ≡ get_or xs n e
            any_default [] n d e h = absurd (omega (arith, h))
            any_default (x ∷ xs) zero d e h = refl
            any_default (x ∷ xs) (suc n) d e h = any_default xs n d e (omega (arith, h))

  pub listed_pins : (s : Sets) (k : ℕ) (lists : List (Vec Claim)) → length fs ≤ k → IsListed s k lists → length (lists_claims_slots lists) ≡ 2 * path_nodes_of fs
  listed_pins s k lists end i = omega (arith, i.pins, ap path_nodes_of (drop_all fs k end))

-- ---- one more list

pub listed_one : {T : Type 0} (h size : ℕ) (s s' : Sets) (made : Result (Vec Claim) SetRefusal) (list : Vec Claim) (x : T) (lists new : List (Vec Claim)) (Is : List Claim → Type 0) → new ≡ lists ++ (list ∷ [])
    → IsCall h s s' (claims_slots list.items) made → length (claims_slots list.items) ≡ size → Is list.items → IsListing h size s s' lists new Is (Ok x)
listed_one h size s s' made list x lists new Is items call sized are = record {
  added = list ∷ [];
  items = items;
  call = to_ok x (subst (λ ks. IsCall h s s' ks made) (sym (append-nil (claims_slots list.items))) call);
  one = (list, refl, sized, are);
}

pub listed_refused : {T : Type 0} (h size : ℕ) (s s' : Sets) (refusal : SetRefusal) (lists new : List (Vec Claim)) (Is : List Claim → Type 0) → new ≡ lists → IsCall h {T = Vec Claim} s s' [] (Err refusal)
    → IsListing {T = T} h size s s' lists new Is (Err refusal)
listed_refused h size s s' refusal lists new Is items call = record {
  added = [];
  items = items ∙ sym (append-nil lists);
  call = to_err refusal call;
  one = tt;
}

pub listed_full : {T : Type 0} (h size : ℕ) (s s' s'' : Sets) (made : Result (Vec Claim) SetRefusal) (list : Vec Claim) (lists new : List (Vec Claim)) (Is : List Claim → Type 0) → new ≡ lists
    → IsCall h s s' (claims_slots list.items) made → Adds s'' s' (claims_slots list.items) → s''.fulls ≡ s'.fulls → IsListing {T = T} h size s s'' lists new Is (Err Memory)
listed_full h size s s' s'' made list lists new Is items call out fulls = record {
  added = [];
  items = items ∙ sym (append-nil lists);
  call = to_memory (let_go {xs = claims_slots list.items} {ys = []} (subst (λ ks. IsCall h s s' ks made) (sym (append-nil (claims_slots list.items))) call) out fulls);
  one = tt;
}

-- ---- they are the claims of the model's constraints

leaf_or_leaf : (b : Bool) (e : Term) (f : Ctl) → is_leaf f ≡ false → is_leaf (cond b f (Ctl.Leaf e)) ≡ true → cond b f (Ctl.Leaf e) ≡ Ctl.Leaf e
leaf_or_leaf false e f other leaf = refl
leaf_or_leaf true e f other leaf = absurd (false≢true (sym other ∙ leaf))

leaf_itself : (e : Term) → is_leaf (formula_of e) ≡ true → formula_of e ≡ Ctl.Leaf e
leaf_itself (Term.Not e) h = leaf_or_leaf (has_path_operator (Term.Not e)) (Term.Not e) (Ctl.Not (formula_of e)) refl h
leaf_itself (Term.Binary BinOp.And a b) h = leaf_or_leaf (has_path_operator (Term.Binary BinOp.And a b)) (Term.Binary BinOp.And a b) (Ctl.And (formula_of a) (formula_of b)) refl h
leaf_itself (Term.Binary BinOp.Or a b) h = leaf_or_leaf (has_path_operator (Term.Binary BinOp.Or a b)) (Term.Binary BinOp.Or a b) (Ctl.Or (formula_of a) (formula_of b)) refl h
leaf_itself (Term.Binary BinOp.Implies a b) h = leaf_or_leaf (has_path_operator (Term.Binary BinOp.Implies a b)) (Term.Binary BinOp.Implies a b) (Ctl.Implies (formula_of a) (formula_of b)) refl h
leaf_itself (Term.Binary BinOp.Iff a b) h = leaf_or_leaf (has_path_operator (Term.Binary BinOp.Iff a b)) (Term.Binary BinOp.Iff a b) (Ctl.Iff (formula_of a) (formula_of b)) refl h
leaf_itself (Term.Quant op e) h = absurd (false≢true h)
leaf_itself (Term.Until all a b) h = absurd (false≢true h)
leaf_itself _ h = refl

module _ (m : System) (known : (t : Term) → IsModelLeaf m t → IsEvaluable m t) where
  constraint_clear : (k : ℕ) (d : Condition) → k < length m.constraints → is_leaf (formula_of (get_or m.constraints k d).expr) ≡ true → has_path_operator (get_or m.constraints k d).expr ≡ false
  constraint_clear k d lt leaf =
      let e = (get_or m.constraints k d).expr in
      let here : IsLeafOf e (formula_of e) = subst (λ f. IsLeafOf e f) (sym (leaf_itself e leaf)) refl in
      evaluable_leaf m e (known e (inl (k, get_or m.constraints k d, lt, get_or_default m.constraints k (get_or m.constraints k d) d lt, here)))

  module _ (now : Sets) (proofs : ℕ → claims.Proof) (fs : List Ctl) (lists : List (Vec Claim)) (same : fs ≡ map (λ c. formula_of c.expr) m.constraints) (count : length lists ≡ length fs)
      (each : (k : ℕ) (f : Ctl) → k < length fs → ArePathClaims m now (proofs k) (get_or fs k f) (claims_at lists k)) where
    size : length fs ≡ length m.constraints
    size = ap length same ∙ length-map m.constraints (λ (c : Condition). formula_of c.expr)

    formula_in_order : (k : ℕ) (c : Condition) → k < length m.constraints → get_or fs k (formula_of c.expr) ≡ formula_of (get_or m.constraints k c).expr
    formula_in_order k c lt = ap (λ xs. get_or xs k (formula_of c.expr)) same ∙ get_or-map (λ (x : Condition). formula_of x.expr) m.constraints k c (formula_of c.expr) lt

    as_claims : (k : ℕ) (c : Condition) (cs : List Claim) → k < length m.constraints → ArePathClaims m now (proofs k) (formula_of (get_or m.constraints k c).expr) cs → HasClaims m now (proofs k) (get_or m.constraints k c) cs
    as_claims k c [] lt are = constraint_clear k c lt are
    as_claims k c (d ∷ cs) lt are = are

    pub have_claims : HaveClaims m now proofs lists
    have_claims k c lt = as_claims k c (claims_at lists k) lt
        (subst (λ f. ArePathClaims m now (proofs k) f (claims_at lists k)) (formula_in_order k c lt) (each k (formula_of c.expr) (omega (arith, lt, size))))

-- a constraint without claims holds no path operator
pub fits_by : (m : System) (now : Sets) (proofs : ℕ → claims.Proof) (lists : List (Vec Claim)) → length lists ≤ length m.constraints → HaveClaims m now proofs lists → AreFitting m lists
fits_by m now proofs lists few have = record {
  few = few;
  leaf = λ k none. elim (cases_lt k (length m.constraints)) [
    | inl lt ↦
        let c : Condition = record { expr = Term.Running 0; line = 0 } in
        let at : k + 1 - 1 ≡ k = omega arith in
        let there : slice_get m.constraints (k + 1 - 1) ≡ Some (get_or m.constraints k c) = ap (slice_get m.constraints) at ∙ got m.constraints k c lt in
        subst (λ o. MatchOption o (Unit {0}) (λ x. has_path_operator x.expr ≡ false)) (sym there)
        (subst (λ cs. HasClaims m now (proofs k) (get_or m.constraints k c) cs) none (have k c lt))
    | inr past ↦
        subst (λ o. MatchOption o (Unit {0}) (λ x. has_path_operator x.expr ≡ false)) (sym (none_got m.constraints (k + 1 - 1) (omega (arith, past)))) tt
  ];
}
  where
    none_got : (xs : List Condition) (i : ℕ) → length xs ≤ i → slice_get xs i ≡ None
    none_got [] i le = refl
    none_got (x ∷ xs) zero le = absurd (omega (arith, le))
    none_got (x ∷ xs) (suc i) le = none_got xs i (omega (arith, le))

-- ---- the formulas have the model's leaves alone

pub constraint_formula_leaves : (m n : System) (fs : List Ctl) → n ≡ m → fs ≡ map (λ c. formula_of c.expr) m.constraints → All (HasModelLeaves n) fs
constraint_formula_leaves m n fs over is = subst (λ x. All (HasModelLeaves x) fs) (sym over) (subst (λ gs. All (HasModelLeaves m) gs) (sym is) (λ k d lt.
    let here : k < length m.constraints = omega (arith, lt, length-map m.constraints (λ (c : Condition). formula_of c.expr)) in
    let c : Condition = record { expr = Term.Running 0; line = 0 } in
    subst (λ f. HasModelLeaves m f) (sym (get_or-map (λ (x : Condition). formula_of x.expr) m.constraints k c d here))
    (λ t leaf. inl (k, get_or m.constraints k c, here, get_or_default m.constraints k (get_or m.constraints k c) c here, leaf))))

pub leaves_at : (m n : System) (formulas : List Formula) (k : ℕ) (formula : Formula) → n ≡ m → k < length formulas → formula ≡ get_or formulas k formula → All (HasModelLeaves m) (map ctl_of formulas)
    → HasModelLeaves n (ctl_of formula)
leaves_at m n formulas k formula over lt is all =
    subst (λ x. HasModelLeaves x (ctl_of formula)) (sym over)
    (subst (λ f. HasModelLeaves m f) (get_or-map ctl_of formulas k formula (ctl_of formula) lt ∙ ap ctl_of (sym is)) (all k (ctl_of formula) (omega (arith, lt, length-map formulas ctl_of))))

pub formula_at : (formulas : List Formula) (k : ℕ) (formula : Formula) → k < length formulas → formula ≡ get_or formulas k formula → ctl_of formula ≡ get_or (map ctl_of formulas) k (ctl_of formula)
formula_at formulas k formula lt is = sym (get_or-map ctl_of formulas k formula (ctl_of formula) lt ∙ ap ctl_of (sym is))

pub formula_there : (formulas : List Formula) (k : ℕ) → k < length formulas → k < length (map ctl_of formulas)
formula_there formulas k lt = omega (arith, lt, length-map formulas ctl_of)

-- ---- all constraints of the model

module _ (m : System) (s0 s1 : Sets) (part : FreePart Pin) (formulas : List Formula) (lists : List (Vec Claim)) (same : map ctl_of formulas ≡ map (λ c. formula_of c.expr) m.constraints) where
  pub formula_count : length formulas ≡ length m.constraints
  formula_count = sym (length-map formulas ctl_of) ∙ ap length same ∙ length-map m.constraints (λ (c : Condition). formula_of c.expr)

  sized : 2 * path_nodes_of (map ctl_of formulas) + 8 ≡ 2 * constraint_nodes m + 8
  sized = ap (λ fs. 2 * path_nodes_of fs + 8) same

  pub all_call : {T U : Type 0} {r : Result T SetRefusal} (x : U) → IsCall (2 * path_nodes_of (map ctl_of formulas) + 8) s0 s1 (lists_claims_slots lists) r → IsCall (2 * constraint_nodes m + 8) {T = U} s0 s1 (lists_claims_slots lists) (Ok x)
  all_call {T} {U} {r} x call = to_ok x (subst (λ n. IsCall n s0 s1 (lists_claims_slots lists) r) sized call)

  pub all_refused : {T U : Type 0} (s2 : Sets) (refusal : SetRefusal) → IsCall (2 * path_nodes_of (map ctl_of formulas) + 8) {T = T} s0 s1 (lists_claims_slots lists) (Err refusal)
      → Adds s2 s1 (lists_claims_slots lists) → s2.fulls ≡ s1.fulls → IsCall (2 * constraint_nodes m + 8) {T = U} s0 s2 [] (Err refusal)
  all_refused {T} {U} s2 refusal call out fulls =
      to_err {T = T} {U = U} refusal (subst (λ n. IsCall n {T = T} s0 s2 [] (Err refusal)) sized
      (let_go {xs = lists_claims_slots lists} {ys = []} (subst (λ ks. IsCall (2 * path_nodes_of (map ctl_of formulas) + 8) {T = T} s0 s1 ks (Err refusal)) (sym (append-nil (lists_claims_slots lists))) call) out fulls))

  pub all_pins : length (lists_claims_slots lists) ≡ 2 * path_nodes_of (map ctl_of formulas) → length (lists_claims_slots lists) ≡ 2 * constraint_nodes m
  all_pins pins = pins ∙ ap (λ fs. 2 * path_nodes_of fs) same

  module _ (known : (t : Term) → IsModelLeaf m t → IsEvaluable m t) (over : s0.over ≡ m) (count : length lists ≡ length formulas)
      (each : (k : ℕ) (f : Ctl) → k < length formulas → ArePathClaims s0.over s1 (free_proof (Some (map_free (region s0) part)) k) (get_or (map ctl_of formulas) k f) (claims_at lists k)) where
    pub all_claimed : HaveClaims m s1 (free_proof (Some (map_free (region s0) part))) lists
    all_claimed = have_claims m known s1 (free_proof (Some (map_free (region s0) part))) (map ctl_of formulas) lists same (count ∙ sym (length-map formulas ctl_of))
        (λ k f lt. subst (λ o. ArePathClaims o s1 (free_proof (Some (map_free (region s0) part)) k) (get_or (map ctl_of formulas) k f) (claims_at lists k)) over
        (each k f (omega (arith, lt, length-map formulas ctl_of))))

    pub all_fitting : AreFitting m lists
    all_fitting = fits_by m s1 (free_proof (Some (map_free (region s0) part))) lists (omega (arith, count, formula_count)) all_claimed
