-- The numbers of a block are small.
use Rattle.std.proofs.Common.{◌≡◌, inl, inr, ℕ, zero, suc, ◌+◌, ◌<◌, ◌≤◌, Bool, true, false, cond, List, [], ◌∷◌, ◌++◌, length, map, flat_map, Option, Some, None, IfSome, IsSomeAnd, slice_get, slice_index_or, refl, sym, ◌∙◌, ap, arith}
use Rattle.std.specs.Prelude.{All, option_map}
use Rattle.std.specs.Option.{option_and_then}
use Rattle.std.proofs.lemmas.Bool.{cases_lt}
use Rattle.std.proofs.lemmas.List.Elements.{All-nil, All-cons, All-head, All-tail}
use Rattle.std.proofs.lemmas.List.Sums.{get_or-le-sum_by}
use Rattle.kripke_model.specs.declared.expressions.BinOp.{BinOp}
use Rattle.kripke_model.specs.Ctl.{Ctl, formula_of, leaf_or}
use Rattle.kripke_model.specs.Flat.{IsFlat, expressions, node_total}
use Rattle.kripke_model.specs.Signs.{node_count}
use Rattle.kripke_model.specs.Size as size
use Rattle.kripke_model.specs.System.{System, Condition, constraint_count}
use Rattle.kripke_model.specs.Term.{Term, has_path_operator}
use Rattle.proof_form.specs.Form.{Entry, FreeEntry, FreePart, Proof, layer_sets, fair_sets, rule_sets, entries_sets, free_sets_of, sets_of}
use Rattle.proof_form.specs.Shape.{IsInShape, FitsFreely, FitsConstraints, HasRule, HasConstraintRule, rule_for, kind_of, spec_formula, constraint_formula}
use Rattle.proof_form.proofs.RuleAt.{no_node}
use Rattle.proof_text.specs.File.{Block}
use Rattle.proof_text.specs.Spells.{IsBlock, fair_lengths, rule_lengths, free_lengths, lengths_of, triple_numbers}
use Rattle.text_lines.proofs.Lists.{all_left, all_right}
use Rattle.proof_text.proofs.KnownLines.{IsSmall}
use Rattle.proof_text.proofs.KnownRules.{FitsEntry, FitsFreeEntry}
use Rattle.proof_text.proofs.KnownBlocks.{FitsPart, FitsProof, FitsBlock}

-- ---- how many nodes a formula has

leaf_less : (b : Bool) (e : Term) (f : Ctl) (n : ℕ) → node_count f ≤ n → 1 ≤ n → node_count (cond b f (Ctl.Leaf e)) ≤ n
leaf_less true e f n le some = le
leaf_less false e f n le some = some

or_leaf : (e : Term) (f : Ctl) (n : ℕ) → node_count f ≤ n → 1 ≤ n → node_count (leaf_or e f) ≤ n
or_leaf e f n le some = leaf_less (has_path_operator e) e f n le some

nodes_less : (e : Term) → node_count (formula_of e) ≤ size.term_nodes e
nodes_less (Term.Const v) = omega arith
nodes_less (Term.Var x) = omega arith
nodes_less (Term.Running p) = omega arith
nodes_less (Term.Next e) = omega arith
nodes_less (Term.Not e) = or_leaf (Term.Not e) (Ctl.Not (formula_of e)) (1 + size.term_nodes e) (omega (arith, nodes_less e)) (omega arith)
nodes_less (Term.Binary BinOp.And a b) =
    or_leaf (Term.Binary BinOp.And a b) (Ctl.And (formula_of a) (formula_of b)) (1 + size.term_nodes a + size.term_nodes b) (omega (arith, nodes_less a, nodes_less b)) (omega arith)
nodes_less (Term.Binary BinOp.Or a b) =
    or_leaf (Term.Binary BinOp.Or a b) (Ctl.Or (formula_of a) (formula_of b)) (1 + size.term_nodes a + size.term_nodes b) (omega (arith, nodes_less a, nodes_less b)) (omega arith)
nodes_less (Term.Binary BinOp.Implies a b) =
    or_leaf (Term.Binary BinOp.Implies a b) (Ctl.Implies (formula_of a) (formula_of b)) (1 + size.term_nodes a + size.term_nodes b) (omega (arith, nodes_less a, nodes_less b)) (omega arith)
nodes_less (Term.Binary BinOp.Iff a b) =
    or_leaf (Term.Binary BinOp.Iff a b) (Ctl.Iff (formula_of a) (formula_of b)) (1 + size.term_nodes a + size.term_nodes b) (omega (arith, nodes_less a, nodes_less b)) (omega arith)
nodes_less (Term.Binary BinOp.Mul a b) = omega arith
nodes_less (Term.Binary BinOp.Div a b) = omega arith
nodes_less (Term.Binary BinOp.Add a b) = omega arith
nodes_less (Term.Binary BinOp.Sub a b) = omega arith
nodes_less (Term.Binary BinOp.Mod a b) = omega arith
nodes_less (Term.Binary BinOp.Union a b) = omega arith
nodes_less (Term.Binary BinOp.Member a b) = omega arith
nodes_less (Term.Binary BinOp.Eq a b) = omega arith
nodes_less (Term.Binary BinOp.Lt a b) = omega arith
nodes_less (Term.Binary BinOp.Gt a b) = omega arith
nodes_less (Term.Binary BinOp.Le a b) = omega arith
nodes_less (Term.Binary BinOp.Ge a b) = omega arith
nodes_less (Term.Braces es) = omega arith
nodes_less (Term.Case arms) = omega arith
nodes_less (Term.Quant op e) = omega (arith, nodes_less e)
nodes_less (Term.Until all a b) = omega (arith, nodes_less a, nodes_less b)

unmapped : {A B : Type 0} (f : A → B) (P : B → Type 0) (xs : List A) → All P (map f xs) → All (λ x. P (f x)) xs
unmapped f P [] p = All-nil (λ x. P (f x))
unmapped f P (x ∷ xs) p = All-cons (λ x. P (f x)) x xs (All-head P (f x) (map f xs) p) (unmapped f P xs (All-tail P (f x) (map f xs) p))

pub each_part : {A : Type 0} (P : ℕ → Type 0) (f : A → List ℕ) (xs : List A) → All P (flat_map f xs) → All (λ x. All P (f x)) xs
each_part P f [] p = All-nil (λ x. All P (f x))
each_part P f (x ∷ xs) p = All-cons (λ x. All P (f x)) x xs (all_left P (f x) (flat_map f xs) p) (each_part P f xs (all_right P (f x) (flat_map f xs) p))

-- few nodes
abbrev pub IsFew : Condition → Type 0
IsFew c = node_count (formula_of c.expr) ≤ 200000

pub few_in : (m : System) → IsFlat m → All IsFew m.constraints × All IsFew m.specs
few_in m flat =
    let all : All (λ e. size.term_nodes e ≤ node_total m) (expressions m) = λ i d lt. get_or-le-sum_by size.term_nodes (expressions m) i d lt in
    let conditions : List Condition = m.inits ++ m.invars ++ m.trans ++ m.constraints ++ m.specs in
    let small : All (λ (c : Condition). size.term_nodes c.expr ≤ node_total m) conditions =
    unmapped (λ c. c.expr) (λ e. size.term_nodes e ≤ node_total m) conditions (all_right (λ e. size.term_nodes e ≤ node_total m) (map (λ a. a.right) m.assigns) (map (λ c. c.expr) conditions) all) in
    let few : All IsFew conditions = λ i d lt. let k = small i d lt in omega (arith, k, nodes_less (slice_index_or conditions i d).expr, flat.limits.nodes) in
    let front : List Condition = m.inits ++ m.invars ++ m.trans in
    (all_right IsFew front m.constraints (all_left IsFew (front ++ m.constraints) m.specs few), all_right IsFew (front ++ m.constraints) m.specs few)

-- ---- what is found at a place

pub record Found {A B : Type 0} (xs : List A) (f : A → B) (P : A → Type 0) (Q : B → Type 0) (j : ℕ) : Type 0 where
  pub item : A
  pub holds : P item
  pub shown : Q (f item)
  pub below : j < length xs

pub found : {A B : Type 0} (xs : List A) (f : A → B) (P : A → Type 0) (Q : B → Type 0) (j : ℕ) → All P xs → IsSomeAnd (option_map f (slice_get xs j)) Q → Found xs f P Q j
found [] f P Q j p h = absurd h
found (x ∷ xs) f P Q zero p h = record { item = x; holds = All-head P x xs p; shown = h; below = omega arith }
found (x ∷ xs) f P Q (suc j) p h =
    let r = found xs f P Q j (All-tail P x xs p) h in
    record { item = r.item; holds = r.holds; shown = r.shown; below = omega (arith, r.below) }

-- an entry's node is one of the formula
node_small : (f : Ctl) (e : Entry ℕ) → node_count f ≤ 200000 → HasRule f e → IsSmall e.node
node_small f e few rule = elim (cases_lt (node_count f) e.node) [
  | inl above ↦ absurd (none (sym (ap (option_and_then (rule_for e.plus)) (no_node f e.node (inr above))) ∙ rule))
  | inr within ↦ omega (arith, few, within)
]
  where
    none : None ≡ Some (kind_of e.rule) → ⊥
    none h = cc

-- ---- rules and entries

entry_fits : (count : ℕ) (f : Ctl) → node_count f ≤ 200000 → (e : Entry ℕ) → HasRule f e → All IsSmall (rule_lengths e.rule) → All IsSmall (rule_sets e.rule) → FitsConstraints count e.rule → FitsEntry count e
entry_fits count f few e rule lengths sets fits = record { node = node_small f e few rule; rule = record { lengths = lengths; sets = sets; fits = fits } }

entries_fit : (count : ℕ) (f : Ctl) → node_count f ≤ 200000 → (es : List (Entry ℕ)) → All (HasRule f) es → All IsSmall (flat_map (λ e. rule_lengths e.rule) es) → All IsSmall (entries_sets es)
    → All (λ (e : Entry ℕ). FitsConstraints count e.rule) es → All (FitsEntry count) es
entries_fit count f few [] rules lengths sets fits = All-nil (FitsEntry count)
entries_fit count f few (e ∷ es) rules lengths sets fits =
    All-cons (FitsEntry count) e es
    (entry_fits count f few e (All-head (HasRule f) e es rules) (all_left IsSmall (rule_lengths e.rule) (flat_map (λ e. rule_lengths e.rule) es) lengths) (all_left IsSmall (rule_sets e.rule) (entries_sets es) sets)
    (All-head (λ (e : Entry ℕ). FitsConstraints count e.rule) e es fits))
    (entries_fit count f few es (All-tail (HasRule f) e es rules) (all_right IsSmall (rule_lengths e.rule) (flat_map (λ e. rule_lengths e.rule) es) lengths) (all_right IsSmall (rule_sets e.rule) (entries_sets es) sets)
    (All-tail (λ (e : Entry ℕ). FitsConstraints count e.rule) e es fits))

module _ (m : System) (flat : IsFlat m) where
  pub free_entry_fits : (e : FreeEntry ℕ) → HasConstraintRule m e → All IsSmall (rule_lengths e.entry.rule) → All IsSmall (rule_sets e.entry.rule) → FitsConstraints 1 e.entry.rule → FitsFreeEntry e
  free_entry_fits e rule lengths sets fits = go e.constraint refl rule
    where
      go : (k : ℕ) → e.constraint ≡ k → IsSomeAnd (constraint_formula m k) (λ f. HasRule f e.entry) → FitsFreeEntry e
      go zero same h = absurd h
      go (suc k) same h =
          let r = found m.constraints (λ c. formula_of c.expr) IsFew (λ f. HasRule f e.entry) k (few_in m flat).0 h in
          record { constraint = omega (arith, same, r.below, flat.limits.constraints); entry = entry_fits 1 (formula_of r.item.expr) r.holds e.entry r.shown lengths sets fits }

  free_entries_fit : (es : List (FreeEntry ℕ)) → All (HasConstraintRule m) es → All IsSmall (flat_map (λ e. rule_lengths e.entry.rule) es) → All IsSmall (entries_sets (map (λ e. e.entry) es))
      → All (λ (e : FreeEntry ℕ). FitsConstraints 1 e.entry.rule) es → All FitsFreeEntry es
  free_entries_fit [] rules lengths sets fits = All-nil FitsFreeEntry
  free_entries_fit (e ∷ es) rules lengths sets fits =
      All-cons FitsFreeEntry e es
      (free_entry_fits e (All-head (HasConstraintRule m) e es rules) (all_left IsSmall (rule_lengths e.entry.rule) (flat_map (λ e. rule_lengths e.entry.rule) es) lengths)
      (all_left IsSmall (rule_sets e.entry.rule) (entries_sets (map (λ e. e.entry) es)) sets) (All-head (λ (e : FreeEntry ℕ). FitsConstraints 1 e.entry.rule) e es fits))
      (free_entries_fit es (All-tail (HasConstraintRule m) e es rules) (all_right IsSmall (rule_lengths e.entry.rule) (flat_map (λ e. rule_lengths e.entry.rule) es) lengths)
      (all_right IsSmall (rule_sets e.entry.rule) (entries_sets (map (λ e. e.entry) es)) sets) (All-tail (λ (e : FreeEntry ℕ). FitsConstraints 1 e.entry.rule) e es fits))

  free_fits : (free : Option (FreePart ℕ)) → FitsFreely m free → All IsSmall (free_lengths free) → All IsSmall (free_sets_of free) → IfSome free FitsPart
  free_fits None shape lengths sets = tt
  free_fits (Some p) (some, shape) lengths sets =
      let rest = All-tail IsSmall (length p.nonfair) (fair_lengths p.fair ++ flat_map (λ e. rule_lengths e.entry.rule) p.entries) lengths in
      let others = all_right IsSmall (layer_sets p.nonfair) (fair_sets p.fair ++ entries_sets (map (λ e. e.entry) p.entries)) sets in
      record {
        nonfair = record {
          length_is = All-head IsSmall (length p.nonfair) (fair_lengths p.fair ++ flat_map (λ e. rule_lengths e.entry.rule) p.entries) lengths;
          avoided = shape.avoided;
          sets = all_left IsSmall (layer_sets p.nonfair) (fair_sets p.fair ++ entries_sets (map (λ e. e.entry) p.entries)) sets;
        };
        fair = record {
          reach = shape.reach;
          lengths = all_left IsSmall (fair_lengths p.fair) (flat_map (λ e. rule_lengths e.entry.rule) p.entries) rest;
          sets = all_left IsSmall (fair_sets p.fair) (entries_sets (map (λ e. e.entry) p.entries)) others;
        };
        entries = free_entries_fit p.entries shape.rules (all_right IsSmall (fair_lengths p.fair) (flat_map (λ e. rule_lengths e.entry.rule) p.entries) rest)
            (all_right IsSmall (fair_sets p.fair) (entries_sets (map (λ e. e.entry) p.entries)) others) shape.fits;
      }

  proof_fits : (f : Ctl) → node_count f ≤ 200000 → (p : Proof ℕ) → IsInShape m f p → All IsSmall (lengths_of p) → All IsSmall (sets_of p) → FitsProof m p
  proof_fits f few p shape lengths sets =
      let own : List ℕ = flat_map (λ e. rule_lengths e.rule) p.entries in
      let a = all_right IsSmall (free_lengths p.free) (length p.nonfair ∷ fair_lengths p.fair ++ own) lengths in
      let b = All-tail IsSmall (length p.nonfair) (fair_lengths p.fair ++ own) a in
      let c = all_right IsSmall (free_sets_of p.free) (layer_sets p.nonfair ++ (fair_sets p.fair ++ entries_sets p.entries)) sets in
      let d = all_right IsSmall (layer_sets p.nonfair) (fair_sets p.fair ++ entries_sets p.entries) c in
      record {
        free = free_fits p.free shape.free (all_left IsSmall (free_lengths p.free) (length p.nonfair ∷ fair_lengths p.fair ++ own) lengths)
            (all_left IsSmall (free_sets_of p.free) (layer_sets p.nonfair ++ (fair_sets p.fair ++ entries_sets p.entries)) sets);
        nonfair = record {
          length_is = All-head IsSmall (length p.nonfair) (fair_lengths p.fair ++ own) a;
          avoided = shape.avoided;
          sets = all_left IsSmall (layer_sets p.nonfair) (fair_sets p.fair ++ entries_sets p.entries) c;
        };
        fair = record {
          reach = shape.reach;
          lengths = all_left IsSmall (fair_lengths p.fair) own b;
          sets = all_left IsSmall (fair_sets p.fair) (entries_sets p.entries) d;
        };
        entries = entries_fit (constraint_count m) f few p.entries shape.rules (all_right IsSmall (fair_lengths p.fair) own b) (all_right IsSmall (fair_sets p.fair) (entries_sets p.entries) d) shape.fits;
        at_state = shape.at_state;
      }

  pub block_fits : (b : Block) → IsBlock m b → FitsBlock m b
  block_fits b is = go b.spec refl is.shape
    where
      go : (j : ℕ) → b.spec ≡ j → IsSomeAnd (spec_formula m j) (λ f. IsInShape m f b.proof) → FitsBlock m b
      go zero same h = absurd h
      go (suc j) same h =
          let r = found m.specs (λ c. formula_of c.expr) IsFew (λ f. IsInShape m f b.proof) j (few_in m flat).1 h in
          let rest = All-tail IsSmall (length b.nodes) (flat_map triple_numbers b.nodes ++ (lengths_of b.proof ++ sets_of b.proof)) is.small in
          let others = all_right IsSmall (flat_map triple_numbers b.nodes) (lengths_of b.proof ++ sets_of b.proof) rest in
          record {
            spec = omega (arith, same, r.below, flat.limits.specifications);
            count = All-head IsSmall (length b.nodes) (flat_map triple_numbers b.nodes ++ (lengths_of b.proof ++ sets_of b.proof)) is.small;
            nodes = all_left IsSmall (flat_map triple_numbers b.nodes) (lengths_of b.proof ++ sets_of b.proof) rest;
            proof = proof_fits (formula_of r.item.expr) r.holds b.proof r.shown (all_left IsSmall (lengths_of b.proof) (sets_of b.proof) others) (all_right IsSmall (lengths_of b.proof) (sets_of b.proof) others);
          }
