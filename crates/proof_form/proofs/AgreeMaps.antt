-- A proof read over two kinds of sets that agree on the states of the model.
use Rattle.std.proofs.Common.{ℕ, ◌+◌, ◌-◌, Bool, true, false, List, [], ◌∷◌, ◌++◌, map, Option, Some, None, refl}
use Rattle.std.specs.Prelude.{All, flat_map, option_map, if◌then◌else◌, ◌==◌}
use Rattle.std.specs.Option.{option_and_then}
use Rattle.std.proofs.lemmas.List.Elements.{All-nil, All-cons, All-head, All-tail}
use Rattle.kripke_model.specs.Ctl.{Ctl, formula_of}
use Rattle.kripke_model.specs.System.{System, Condition}
use Rattle.path_laws.specs.StateSet.{StateSet}
use Rattle.fair_rules.specs.Block.{Listed, asked_lines, block_lines, demand_at}
use Rattle.fair_rules.specs.Checks.{IsFirstBad, layer_lines, reach_lines}
use Rattle.fair_rules.specs.Claims as claims
use Rattle.fair_rules.specs.Claims.{claimed}
use Rattle.fair_rules.specs.FreePart.{claimed_from}
use Rattle.fair_rules.specs.LeafConstraints.{one_at_least}
use Rattle.fair_rules.specs.SetLists.{everything, nothing}
use Rattle.proof_form.specs.Agrees.{SameOn}
use Rattle.proof_form.specs.Form as form
use Rattle.proof_form.specs.Form.{Layer, FairPart, Entry, FreeEntry, FreePart, Proof, EX, AX, AR, EU, AU, ER, map_layer, map_fair, map_rule, map_entry, map_free_entry, map_free, map_proof, layer_sets, fair_sets, rule_sets, entries_sets, free_sets, free_sets_of, sets_of}
use Rattle.proof_form.specs.Meaning.{layer_of, entry_of, listed_of, block_of, entries_for, free_proof, visited, avoided, free_visited, free_avoided, free_demand, free_entry_lines, free_lines, obligations, IsProofOf}
use Rattle.proof_form.specs.Shape.{IsInShape, constraint_formula}
use Rattle.proof_form.proofs.KeptShapes.{shape_kept}
use Rattle.proof_form.proofs.Agree.{AgreeSets, AgreeLists, AgreeLayers, AgreeEntry, AgreeListed, AgreeProof, AgreeDemand, AgreeBlock, AgreeLines, no_sets, more_sets, no_lists, more_lists, no_layers, more_layers, no_listed, more_listed, nothing_asked, absent, ex, ax, ar, eu, au, er, join_lines, layers_agree, reaches_agree, entry_of_same, claimed_same, demand_same, asked_agree, block_agree, lines_met, first_bad_agrees}

module _ {A : Type 0} (P : A → Type 0) where
  pub all_left : (xs ys : List A) → All P (xs ++ ys) → All P xs
  all_left [] ys h = All-nil P
  all_left (x ∷ xs) ys h = All-cons P x xs (All-head P x (xs ++ ys) h) (all_left xs ys (All-tail P x (xs ++ ys) h))

  pub all_right : (xs ys : List A) → All P (xs ++ ys) → All P ys
  all_right [] ys h = h
  all_right (x ∷ xs) ys h = all_right xs ys (All-tail P x (xs ++ ys) h)

-- ---- what proofs of the constraints claim

module _ (m : System) where
  pub agree_same : (xs : List StateSet) → AgreeSets m xs xs
  agree_same [] = no_sets
  agree_same (x ∷ xs) = more_sets (λ s is_state. refl) (agree_same xs)

  either_listed : (b : Bool) {xs ys us vs : List Listed} → AgreeListed m xs us → AgreeListed m ys vs → AgreeListed m (if b then xs else ys) (if b then us else vs)
  either_listed true a b = a
  either_listed false a b = b

  one_agrees : (set : StateSet) {xs ys : List StateSet} → AgreeSets m xs ys → AgreeSets m (one_at_least set xs) (one_at_least set ys)
  one_agrees set no_sets = more_sets (λ s is_state. refl) no_sets
  one_agrees set (more_sets a rest) = more_sets a rest

  module _ (p q : ℕ → claims.Proof) (pq : (k : ℕ) → AgreeProof m (p k) (q k)) where
    claimed_agree : (sign : Bool) (k : ℕ) (cs : List Condition) → AgreeSets m (claimed_from m p sign k cs) (claimed_from m q sign k cs)
    claimed_agree sign k [] = no_sets
    claimed_agree sign k (c ∷ cs) = more_sets (claimed_same m (p k) (q k) (pq k) (formula_of c.expr) 1 sign) (claimed_agree sign (k + 1) cs)

module _ {A : Type 0} (m : System) (g h : A → StateSet) where
  abbrev pub Same : A → Type 0
  Same a = SameOn m (g a) (h a)

  -- ---- parts of a proof

  pub mapped_sets : (xs : List A) → All Same xs → AgreeSets m (map g xs) (map h xs)
  mapped_sets [] a = no_sets
  mapped_sets (x ∷ xs) a = more_sets (All-head Same x xs a) (mapped_sets xs (All-tail Same x xs a))

  pub mapped_lists : (xs : List (List A)) → All Same (flat_map (λ sets. sets) xs) → AgreeLists m (map (map g) xs) (map (map h) xs)
  mapped_lists [] a = no_lists
  mapped_lists (x ∷ xs) a =
      more_lists (mapped_sets x (all_left Same x (flat_map (λ sets. sets) xs) a)) (mapped_lists xs (all_right Same x (flat_map (λ sets. sets) xs) a))

  pub mapped_layers : (ls : List (Layer A)) → All Same (layer_sets ls) → AgreeLayers m (map layer_of (map (map_layer g) ls)) (map layer_of (map (map_layer h) ls))
  mapped_layers [] a = no_layers
  mapped_layers (l ∷ ls) a = more_layers (All-head Same l.set (layer_sets ls) a) (mapped_layers ls (All-tail Same l.set (layer_sets ls) a))

  inside_same : (p : FairPart A) → All Same (fair_sets p) → SameOn m (g p.inside) (h p.inside)
  inside_same p a = All-head Same p.inside (flat_map (λ sets. sets) p.reach) a

  reach_same : (p : FairPart A) → All Same (fair_sets p) → AgreeLists m (map (map g) p.reach) (map (map h) p.reach)
  reach_same p a = mapped_lists p.reach (All-tail Same p.inside (flat_map (λ sets. sets) p.reach) a)

  pub mapped_entry : (r : form.Rule A) → All Same (rule_sets r) → AgreeEntry m (entry_of (map_rule g r)) (entry_of (map_rule h r))
  mapped_entry (EX set) a = ex (All-head Same set [] a)
  mapped_entry (AX set) a = ax (All-head Same set [] a)
  mapped_entry (AR set) a = ar (All-head Same set [] a)
  mapped_entry (EU sets) a = eu (mapped_sets sets a)
  mapped_entry (AU layers) a = au (mapped_layers layers a)
  mapped_entry (ER fair untils) a =
      let part : All Same (fair_sets fair) = all_left Same (fair_sets fair) untils a in
      er (inside_same fair part) (reach_same fair part) (mapped_sets untils (all_right Same (fair_sets fair) untils a))

  mapped_entries : (es : List (Entry A)) → All Same (entries_sets es) → AgreeListed m (map listed_of (map (map_entry g) es)) (map listed_of (map (map_entry h) es))
  mapped_entries [] a = no_listed
  mapped_entries (e ∷ es) a =
      more_listed (mapped_entry e.rule (all_left Same (rule_sets e.rule) (entries_sets es) a)) (mapped_entries es (all_right Same (rule_sets e.rule) (entries_sets es) a))

  -- ---- the free part

  abbrev free_entries : List (FreeEntry A) → List (Entry A)
  free_entries es = map (λ e. e.entry) es

  mapped_for : (k : ℕ) (es : List (FreeEntry A)) → All Same (entries_sets (free_entries es)) → AgreeListed m (entries_for k (map (map_free_entry g) es)) (entries_for k (map (map_free_entry h) es))
  mapped_for k [] a = no_listed
  mapped_for k (e ∷ es) a =
      let behind = mapped_for k es (all_right Same (rule_sets e.entry.rule) (entries_sets (free_entries es)) a) in
      either_listed m (e.constraint == k) (more_listed (mapped_entry e.entry.rule (all_left Same (rule_sets e.entry.rule) (entries_sets (free_entries es)) a)) behind) behind

  module _ (part : FreePart A) (a : All Same (free_sets part)) where
    behind_nonfair : All Same (fair_sets part.fair ++ entries_sets (free_entries part.entries))
    behind_nonfair = all_right Same (layer_sets part.nonfair) (fair_sets part.fair ++ entries_sets (free_entries part.entries)) a

    in_layers : All Same (layer_sets part.nonfair)
    in_layers = all_left Same (layer_sets part.nonfair) (fair_sets part.fair ++ entries_sets (free_entries part.entries)) a

    in_fair : All Same (fair_sets part.fair)
    in_fair = all_left Same (fair_sets part.fair) (entries_sets (free_entries part.entries)) behind_nonfair

    in_entries : All Same (entries_sets (free_entries part.entries))
    in_entries = all_right Same (fair_sets part.fair) (entries_sets (free_entries part.entries)) behind_nonfair

    part_agrees : (k : ℕ) → AgreeProof m (free_proof (Some (map_free g part)) k) (free_proof (Some (map_free h part)) k)
    part_agrees k = record {
      nonfair = mapped_layers part.nonfair in_layers;
      fair = inside_same part.fair in_fair;
      reaches = reach_same part.fair in_fair;
      entries = entry_of_same m (mapped_for (k + 1) part.entries in_entries);
    }

    -- an entry for a constraint is asked the same
    free_asked : (o : Option Ctl) (k i : ℕ) (sign : Bool)
        → AgreeDemand m (free_proof (Some (map_free g part)) k) (free_proof (Some (map_free h part)) k) (part_agrees k)
        (option_and_then (λ f. demand_at m (free_proof (Some (map_free g part)) k) f 1 i sign) o)
        (option_and_then (λ f. demand_at m (free_proof (Some (map_free h part)) k) f 1 i sign) o)
    free_asked None k i sign = nothing_asked
    free_asked (Some f) k i sign = demand_same m (free_proof (Some (map_free g part)) k) (free_proof (Some (map_free h part)) k) (part_agrees k) f 1 i sign

    free_entries_agree : (es : List (FreeEntry A)) → All Same (entries_sets (free_entries es))
        → AgreeLines m (free_entry_lines m (map_free g part) (map (map_free_entry g) es)) (free_entry_lines m (map_free h part) (map (map_free_entry h) es))
    free_entries_agree [] b = tt
    free_entries_agree (e ∷ es) b =
        let k = e.constraint - 1 in
        let p = free_proof (Some (map_free g part)) k in
        let q = free_proof (Some (map_free h part)) k in
        join_lines m (asked_lines free_visited free_avoided p (free_demand m (map_free g part) (map_free_entry g e)) (entry_of (map_rule g e.entry.rule)))
        (asked_lines free_visited free_avoided q (free_demand m (map_free h part) (map_free_entry h e)) (entry_of (map_rule h e.entry.rule)))
        (free_entry_lines m (map_free g part) (map (map_free_entry g) es)) (free_entry_lines m (map_free h part) (map (map_free_entry h) es))
        (asked_agree m p q (part_agrees k) free_visited free_visited free_avoided free_avoided (agree_same m free_visited) (agree_same m free_avoided)
        (free_asked (constraint_formula m e.constraint) k e.entry.node e.entry.plus)
        (mapped_entry e.entry.rule (all_left Same (rule_sets e.entry.rule) (entries_sets (free_entries es)) b)))
        (free_entries_agree es (all_right Same (rule_sets e.entry.rule) (entries_sets (free_entries es)) b))

    part_lines_agree : AgreeLines m (free_lines m (Some (map_free g part))) (free_lines m (Some (map_free h part)))
    part_lines_agree = (
      tt,
      join_lines m ([] ∷ layer_lines free_avoided everything nothing nothing (map layer_of (map (map_layer g) part.nonfair)))
          ([] ∷ layer_lines free_avoided everything nothing nothing (map layer_of (map (map_layer h) part.nonfair)))
          (([] ∷ reach_lines (g part.fair.inside) free_visited (map (map g) part.fair.reach)) ++ free_entry_lines m (map_free g part) (map (map_free_entry g) part.entries))
          (([] ∷ reach_lines (h part.fair.inside) free_visited (map (map h) part.fair.reach)) ++ free_entry_lines m (map_free h part) (map (map_free_entry h) part.entries)) (
            tt,
            layers_agree m {A = free_avoided} {B = free_avoided} (agree_same m free_avoided) {f = everything} {f' = everything} {out = nothing} {out' = nothing} {e = nothing} {e' = nothing}
                (λ s is_state. refl) (λ s is_state. refl) (λ s is_state. refl) (mapped_layers part.nonfair in_layers),
          )
          (join_lines m ([] ∷ reach_lines (g part.fair.inside) free_visited (map (map g) part.fair.reach)) ([] ∷ reach_lines (h part.fair.inside) free_visited (map (map h) part.fair.reach))
          (free_entry_lines m (map_free g part) (map (map_free_entry g) part.entries)) (free_entry_lines m (map_free h part) (map (map_free_entry h) part.entries))
          (tt, reaches_agree m {set = g part.fair.inside} {set' = h part.fair.inside} (inside_same part.fair in_fair) (agree_same m free_visited) (reach_same part.fair in_fair))
          (free_entries_agree part.entries in_entries)),
    )

  free_agrees : (o : Option (FreePart A)) → All Same (free_sets_of o) → (k : ℕ) → AgreeProof m (free_proof (option_map (map_free g) o) k) (free_proof (option_map (map_free h) o) k)
  free_agrees None a k = record { nonfair = no_layers; fair = λ s is_state. refl; reaches = no_lists; entries = λ n sign. absent }
  free_agrees (Some part) a k = part_agrees part a k

  free_lines_agree : (o : Option (FreePart A)) → All Same (free_sets_of o) → AgreeLines m (free_lines m (option_map (map_free g) o)) (free_lines m (option_map (map_free h) o))
  free_lines_agree None a = tt
  free_lines_agree (Some part) a = part_lines_agree part a

  -- ---- a whole proof

  abbrev block_sets : Proof A → List A
  block_sets p = layer_sets p.nonfair ++ (fair_sets p.fair ++ entries_sets p.entries)

  block_agrees : (p : Proof A) → All Same (block_sets p) → AgreeBlock m (block_of (map_proof g p)) (block_of (map_proof h p))
  block_agrees p a =
      let behind : All Same (fair_sets p.fair ++ entries_sets p.entries) = all_right Same (layer_sets p.nonfair) (fair_sets p.fair ++ entries_sets p.entries) a in
      let part : All Same (fair_sets p.fair) = all_left Same (fair_sets p.fair) (entries_sets p.entries) behind in
      record {
        nonfair = mapped_layers p.nonfair (all_left Same (layer_sets p.nonfair) (fair_sets p.fair ++ entries_sets p.entries) a);
        fair = inside_same p.fair part;
        reaches = reach_same p.fair part;
        entries = mapped_entries p.entries (all_right Same (fair_sets p.fair) (entries_sets p.entries) behind);
        at = refl;
      }

  module _ (p : Proof A) (a : All Same (sets_of p)) where
    in_free : All Same (free_sets_of p.free)
    in_free = all_left Same (free_sets_of p.free) (block_sets p) a

    pub visited_agree : AgreeSets m (visited m (map_proof g p)) (visited m (map_proof h p))
    visited_agree = one_agrees m everything (claimed_agree m (free_proof (option_map (map_free g) p.free)) (free_proof (option_map (map_free h) p.free)) (free_agrees p.free in_free) true 0 m.constraints)

    pub avoided_agree : AgreeSets m (avoided m (map_proof g p)) (avoided m (map_proof h p))
    avoided_agree = one_agrees m nothing (claimed_agree m (free_proof (option_map (map_free g) p.free)) (free_proof (option_map (map_free h) p.free)) (free_agrees p.free in_free) false 0 m.constraints)

    pub lines_agree : (f : Ctl) → AgreeLines m (obligations m f (map_proof g p)) (obligations m f (map_proof h p))
    lines_agree f =
        join_lines m (free_lines m (option_map (map_free g) p.free)) (free_lines m (option_map (map_free h) p.free))
        (block_lines m (visited m (map_proof g p)) (avoided m (map_proof g p)) (block_of (map_proof g p)) f 1)
        (block_lines m (visited m (map_proof h p)) (avoided m (map_proof h p)) (block_of (map_proof h p)) f 1)
        (free_lines_agree p.free in_free)
        (block_agree m (visited m (map_proof g p)) (visited m (map_proof h p)) (avoided m (map_proof g p)) (avoided m (map_proof h p)) visited_agree avoided_agree
        (block_of (map_proof g p)) (block_of (map_proof h p)) (block_agrees p (all_right Same (free_sets_of p.free) (block_sets p) a)) f 1)

  -- what is shown over one kind is shown over the other
  pub proof_agrees : (f : Ctl) (p : Proof A) → All Same (sets_of p) → IsInShape m f p → IsProofOf m f (map_proof g p) → IsProofOf m f (map_proof h p)
  proof_agrees f p a shape proof = record {
    shape = shape_kept h m f p shape;
    lines = λ n. lines_met m (obligations m f (map_proof g p)) (obligations m f (map_proof h p)) (lines_agree p a f) n (proof.lines n);
  }

  -- and the first line that fails is the same
  pub bad_line_agrees : (f : Ctl) (p : Proof A) → All Same (sets_of p) → (n : ℕ) → IsFirstBad m (obligations m f (map_proof g p)) n → IsFirstBad m (obligations m f (map_proof h p)) n
  bad_line_agrees f p a n bad = first_bad_agrees m (obligations m f (map_proof g p)) (obligations m f (map_proof h p)) (lines_agree p a f) n bad
