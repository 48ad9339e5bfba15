-- Each line of a block is good where its nodes are a good table.
use Rattle.std.proofs.Common.{◌≡◌, ℕ, suc, ◌+◌, ◌<◌, List, [], ◌∷◌, ◌++◌, length, map, flat_map, codes, decimal, Option, Some, None, refl, sym, ◌∙◌, subst, arith, append_assoc}
use Rattle.std.specs.Prelude.{All, Contains, slice_get}
use Rattle.std.proofs.lemmas.List.Elements.{All-nil, All-cons, All-append, All-head, All-tail}
use Rattle.std.proofs.lemmas.Option.{slice_get_read}
use Rattle.bdd_nodes.specs.declared.triple.Triple.{Triple}
use Rattle.bdd_nodes.specs.Table.{IsGood, IsGoodNode, IsGrowth, node_of}
use Rattle.bdd_nodes.proofs.Tables.{slice_get-append, level_of-grows}
use Rattle.bit_encode.specs.Code.{state_bits}
use Rattle.kripke_model.specs.System.{System, State}
use Rattle.proof_form.specs.Form.{Layer, FairPart, Rule, EX, AX, AR, EU, AU, ER, Entry, FreePart, Proof}
use Rattle.proof_text.specs.File.{Block}
use Rattle.proof_text.specs.Lines.{Line, Node, sign_word, set_line, layer_line, reach_lines, fair_lines, rule_lines, entry_lines, free_entry_lines, nonfair_lines, free_lines, end_lines, node_lines, proof_lines, block_lines}
use Rattle.proof_text.specs.Spells.{IsGoodLine, HasGoodNodes}

-- ---- a node of a table, behind the earlier ones

-- what stands behind a list
behind : (xs : List Triple) (t : Triple) (ys : List Triple) → slice_get (xs ++ t ∷ ys) (length xs) ≡ Some t
behind [] t ys = refl
behind (x ∷ xs) t ys = behind xs t ys

module _ (levels : ℕ) (earlier : List Triple) (t : Triple) (nodes : List Triple) (good : IsGood levels (earlier ++ t ∷ nodes)) where
  whole : List Triple
  whole = earlier ++ t ∷ nodes

  grows : IsGrowth earlier (earlier ++ t ∷ nodes)
  grows = record { added = t ∷ nodes; split = refl }

  at : node_of (earlier ++ t ∷ nodes) (suc (suc (length earlier))) ≡ Some t
  unfolding node_of
  at = behind earlier t nodes

  here : IsGoodNode levels (earlier ++ t ∷ nodes) (suc (suc (length earlier))) t
  here = good.each (suc (suc (length earlier))) t at

  is_good : IsGoodNode levels earlier (length earlier + 2) t
  is_good =
      let low : t.low < length earlier + 2 = omega (arith, here.low_earlier) in
      let high : t.high < length earlier + 2 = omega (arith, here.high_earlier) in
      record {
        inside = here.inside;
        low_deeper = subst (λ l. t.level < l) (level_of-grows levels earlier (earlier ++ t ∷ nodes) grows t.low low) here.low_deeper;
        high_deeper = subst (λ l. t.level < l) (level_of-grows levels earlier (earlier ++ t ∷ nodes) grows t.high high) here.high_deeper;
        low_earlier = low;
        high_earlier = high;
        different = here.different;
      }

  is_at : (k : ℕ) → k < length earlier → slice_get earlier k ≡ Some t → node_of (earlier ++ t ∷ nodes) (suc (suc k)) ≡ Some t
  unfolding node_of
  is_at k less e = slice_get-append earlier (t ∷ nodes) k less ∙ e

  is_new : Contains earlier t → ⊥
  is_new (k, less, e) =
      let one = good.once (suc (suc k)) (suc (suc (length earlier))) t (is_at k less (slice_get_read earlier (length earlier) k t refl less (sym e))) at in
      omega (arith, one, less)

nodes_good : (levels : ℕ) (earlier nodes : List Triple) → IsGood levels (earlier ++ nodes) → All (IsGoodLine levels) (node_lines earlier nodes)
nodes_good levels earlier [] good = All-nil (IsGoodLine levels)
nodes_good levels earlier (t ∷ nodes) good =
    All-cons (IsGoodLine levels) (Node earlier t) (node_lines (earlier ++ t ∷ []) nodes) (is_good levels earlier t nodes good, is_new levels earlier t nodes good)
    (nodes_good levels (earlier ++ t ∷ []) nodes (subst (IsGood levels) (sym (append_assoc earlier (t ∷ []) nodes)) good))

-- ---- other lines

module _ (levels : ℕ) where
  abbrev AreGood : List Line → Type 0
  AreGood ls = All (IsGoodLine levels) ls

  mapped : {A : Type 0} (line : A → Line) → ((x : A) → IsGoodLine levels (line x)) → (xs : List A) → AreGood (map line xs)
  mapped line good [] = All-nil (IsGoodLine levels)
  mapped line good (x ∷ xs) = All-cons (IsGoodLine levels) (line x) (map line xs) (good x) (mapped line good xs)

  joined : {A : Type 0} (lines : A → List Line) → ((x : A) → AreGood (lines x)) → (xs : List A) → AreGood (flat_map lines xs)
  joined lines good [] = All-nil (IsGoodLine levels)
  joined lines good (x ∷ xs) = All-append (IsGoodLine levels) (lines x) (flat_map lines xs) (good x) (joined lines good xs)

  sets : (xs : List ℕ) → AreGood (map set_line xs)
  sets = mapped set_line (λ s. tt)

  layers : (xs : List (Layer ℕ)) → AreGood (map layer_line xs)
  layers = mapped layer_line (λ l. tt)

  reach : (k : ℕ) (lists : List (List ℕ)) → AreGood (reach_lines k lists)
  reach k [] = All-nil (IsGoodLine levels)
  reach k (xs ∷ lists) = All-cons (IsGoodLine levels) _ (map set_line xs ++ reach_lines (k + 1) lists) tt (All-append (IsGoodLine levels) (map set_line xs) (reach_lines (k + 1) lists) (sets xs) (reach (k + 1) lists))

  fair : (p : FairPart ℕ) → AreGood (fair_lines p)
  fair p = All-cons (IsGoodLine levels) _ (reach_lines 1 p.reach) tt (reach 1 p.reach)

  nonfair : (xs : List (Layer ℕ)) → AreGood (nonfair_lines xs)
  nonfair xs = All-cons (IsGoodLine levels) _ (map layer_line xs) tt (layers xs)

  one_set : (s : ℕ) → AreGood (set_line s ∷ [])
  one_set s = sets (s ∷ [])

  rule : (front : List (List ℕ)) (r : Rule ℕ) → AreGood (rule_lines front r)
  rule front (EX s) = All-cons (IsGoodLine levels) _ (set_line s ∷ []) tt (one_set s)
  rule front (AX s) = All-cons (IsGoodLine levels) _ (set_line s ∷ []) tt (one_set s)
  rule front (AR s) = All-cons (IsGoodLine levels) _ (set_line s ∷ []) tt (one_set s)
  rule front (EU xs) = All-cons (IsGoodLine levels) _ (map set_line xs) tt (sets xs)
  rule front (AU xs) = All-cons (IsGoodLine levels) _ (map layer_line xs) tt (layers xs)
  rule front (ER p untils) = All-cons (IsGoodLine levels) _ (fair_lines p ++ (_ ∷ map set_line untils)) tt
      (All-append (IsGoodLine levels) (fair_lines p) (_ ∷ map set_line untils) (fair p) (All-cons (IsGoodLine levels) _ (map set_line untils) tt (sets untils)))

  entries : (es : List (Entry ℕ)) → AreGood (flat_map entry_lines es)
  entries = joined entry_lines (λ e. rule (codes "entry" ∷ decimal e.node ∷ sign_word e.plus ∷ []) e.rule)

  free : (p : Option (FreePart ℕ)) → AreGood (free_lines p)
  free None = All-nil (IsGoodLine levels)
  free (Some p) = All-cons (IsGoodLine levels) _ (nonfair_lines p.nonfair ++ (fair_lines p.fair ++ flat_map free_entry_lines p.entries)) tt
      (All-append (IsGoodLine levels) (nonfair_lines p.nonfair) (fair_lines p.fair ++ flat_map free_entry_lines p.entries) (nonfair p.nonfair)
      (All-append (IsGoodLine levels) (fair_lines p.fair) (flat_map free_entry_lines p.entries) (fair p.fair) (joined free_entry_lines (λ e. rule (codes "centry" ∷ decimal e.constraint ∷ decimal e.entry.node ∷ sign_word e.entry.plus ∷ []) e.entry.rule) p.entries)))

  end : (m : System) (at : Option State) → AreGood (end_lines m at)
  end m None = All-cons (IsGoodLine levels) _ [] tt (All-nil (IsGoodLine levels))
  end m (Some s) = All-cons (IsGoodLine levels) _ (_ ∷ []) tt (All-cons (IsGoodLine levels) _ [] tt (All-nil (IsGoodLine levels)))

  proof : (m : System) (p : Proof ℕ) → AreGood (proof_lines m p)
  proof m p =
      let last = All-append (IsGoodLine levels) (flat_map entry_lines p.entries) (end_lines m p.at) (entries p.entries) (end m p.at) in
      let shared = All-append (IsGoodLine levels) (fair_lines p.fair) (flat_map entry_lines p.entries ++ end_lines m p.at) (fair p.fair) last in
      All-append (IsGoodLine levels) (free_lines p.free) (nonfair_lines p.nonfair ++ (fair_lines p.fair ++ (flat_map entry_lines p.entries ++ end_lines m p.at))) (free p.free)
      (All-append (IsGoodLine levels) (nonfair_lines p.nonfair) (fair_lines p.fair ++ (flat_map entry_lines p.entries ++ end_lines m p.at)) (nonfair p.nonfair) shared)

pub block_lines_good : (m : System) (b : Block) → HasGoodNodes m b → All (IsGoodLine (state_bits m)) (block_lines m b)
block_lines_good m b good =
    let levels = state_bits m in
    All-cons (IsGoodLine levels) _ (_ ∷ node_lines [] b.nodes ++ proof_lines m b.proof) tt (All-cons (IsGoodLine levels) _ (node_lines [] b.nodes ++ proof_lines m b.proof) tt
    (All-append (IsGoodLine levels) (node_lines [] b.nodes) (proof_lines m b.proof) (nodes_good levels [] b.nodes good) (proof levels m b.proof)))

pub blocks_lines_good : (m : System) (blocks : List Block) → All (HasGoodNodes m) blocks → All (IsGoodLine (state_bits m)) (flat_map (block_lines m) blocks)
blocks_lines_good m [] good = All-nil (IsGoodLine (state_bits m))
blocks_lines_good m (b ∷ blocks) good =
    All-append (IsGoodLine (state_bits m)) (block_lines m b) (flat_map (block_lines m) blocks) (block_lines_good m b (All-head (HasGoodNodes m) b blocks good)) (blocks_lines_good m blocks (All-tail (HasGoodNodes m) b blocks good))
