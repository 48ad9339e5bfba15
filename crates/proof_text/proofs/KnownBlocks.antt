-- Proofs, blocks and files are known by the words of their lines.
use Rattle.std.proofs.Common.{◌≡◌, ℕ, ◌+◌, Bool, true, false, List, [], ◌∷◌, ◌++◌, length, flat_map, Option, Some, None, IfSome, decimal, refl, sym, ◌∙◌, ap, subst, arith}
use Rattle.std.specs.Prelude.{All}
use Rattle.std.proofs.lemmas.List.{map-append}
use Rattle.std.proofs.lemmas.List.Elements.{All-head, All-tail}
use Rattle.kripke_model.specs.Step.{IsState}
use Rattle.kripke_model.specs.System.{System, State, constraint_count}
use Rattle.proof_form.specs.Form.{Layer, FairPart, FreePart, Proof, layer_sets, fair_sets}
use Rattle.proof_form.specs.Shape.{Avoids}
use Rattle.proof_text.specs.File.{Block}
use Rattle.proof_text.specs.Lines.{Line, words_of, fair_lines, nonfair_lines, entry_lines, free_entry_lines, free_lines, value_words, end_lines, node_lines, claim_word, proof_lines, block_lines}
use Rattle.proof_text.specs.Spells.{fair_lengths, triple_numbers, StandFrom}
use Rattle.proof_text.proofs.KnownLines.{IsSmall, same_number, Lines, words, split, AreSame, start, fair_known, nonfair_known, nodes_known}
use Rattle.proof_text.proofs.KnownRules.{FitsEntry, FitsFreeEntry, entry_known, free_entry_known, entry_starts, free_entry_starts, list_known}

-- ---- the free part

pub record FitsFair (count : ℕ) (p : FairPart ℕ) : Type 0 where
  pub reach : length p.reach ≡ count
  pub lengths : All IsSmall (fair_lengths p)
  pub sets : All IsSmall (fair_sets p)

pub record FitsNonfair (count : ℕ) (layers : List (Layer ℕ)) : Type 0 where
  pub length_is : IsSmall (length layers)
  pub avoided : All (Avoids count) layers
  pub sets : All IsSmall (layer_sets layers)

pub record FitsPart (p : FreePart ℕ) : Type 0 where
  pub nonfair : FitsNonfair 1 p.nonfair
  pub fair : FitsFair 1 p.fair
  pub entries : All FitsFreeEntry p.entries

fair_same : (count : ℕ) (a b : FairPart ℕ) → FitsFair count a → FitsFair count b → (u v : Lines) → words (fair_lines a) ++ u ≡ words (fair_lines b) ++ v → AreSame a b u v
fair_same count a b p q u v e = fair_known a b (p.reach ∙ sym q.reach) p.lengths q.lengths p.sets q.sets u v e

nonfair_same : (count : ℕ) → IsSmall count → (a b : List (Layer ℕ)) → FitsNonfair count a → FitsNonfair count b → (u v : Lines) → words (nonfair_lines a) ++ u ≡ words (nonfair_lines b) ++ v → AreSame a b u v
nonfair_same count few a b p q u v e = nonfair_known count few a b p.length_is q.length_is p.avoided q.avoided p.sets q.sets u v e

part_known : (a b : FreePart ℕ) → FitsPart a → FitsPart b → (u v : Lines) → (start u ≡ 99101110 → ⊥) → (start v ≡ 99101110 → ⊥)
    → words (nonfair_lines a.nonfair ++ (fair_lines a.fair ++ flat_map free_entry_lines a.entries)) ++ u ≡ words (nonfair_lines b.nonfair ++ (fair_lines b.fair ++ flat_map free_entry_lines b.entries)) ++ v → AreSame a b u v
part_known a b p q u v nu nv e =
    let xs : List Line = flat_map free_entry_lines a.entries in
    let ys : List Line = flat_map free_entry_lines b.entries in
    let h = nonfair_same 1 (omega arith) a.nonfair b.nonfair p.nonfair q.nonfair (words (fair_lines a.fair ++ xs) ++ u) (words (fair_lines b.fair ++ ys) ++ v)
    (sym (split (nonfair_lines a.nonfair) (fair_lines a.fair ++ xs) u) ∙ e ∙ split (nonfair_lines b.nonfair) (fair_lines b.fair ++ ys) v) in
    let k = fair_same 1 a.fair b.fair p.fair q.fair (words xs ++ u) (words ys ++ v) (sym (split (fair_lines a.fair) xs u) ∙ h.1 ∙ split (fair_lines b.fair) ys v) in
    let l = list_known free_entry_lines FitsFreeEntry 99101110 (omega arith) free_entry_known free_entry_starts a.entries b.entries p.entries q.entries u v nu nv k.1 in
    ((λ i. record { nonfair = h.0 i; fair = k.0 i; entries = l.0 i }), l.1)

free_known : (a b : Option (FreePart ℕ)) → IfSome a FitsPart → IfSome b FitsPart → (u v : Lines) → start u ≡ 110111110 → start v ≡ 110111110
    → words (free_lines a) ++ u ≡ words (free_lines b) ++ v → AreSame a b u v
free_known None None p q u v nu nv e = (refl, e)
free_known None (Some b) p q u v nu nv e = absurd (omega (arith, nu, ap start e))
free_known (Some a) None p q u v nu nv e = absurd (omega (arith, nv, ap start e))
free_known (Some a) (Some b) p q u v nu nv e =
    let rest : words (nonfair_lines a.nonfair ++ (fair_lines a.fair ++ flat_map free_entry_lines a.entries)) ++ u ≡ words (nonfair_lines b.nonfair ++ (fair_lines b.fair ++ flat_map free_entry_lines b.entries)) ++ v = cc in
    let h = part_known a b p q u v (λ t. omega (arith, nu, t)) (λ t. omega (arith, nv, t)) rest in
    ((λ i. Some (h.0 i)), h.1)

-- ---- a proof and a block

pub claim_known : (a b : Bool) → claim_word a ≡ claim_word b → a ≡ b
claim_known true true e = refl
claim_known true false e = absurd (omega (arith, ap length e))
claim_known false true e = absurd (omega (arith, ap length e))
claim_known false false e = refl

-- states are known by the words of their values
abbrev pub StatesAreKnown : System → Type 0
StatesAreKnown m = (s t : State) → IsState m s → IsState m t → value_words m 0 s ≡ value_words m 0 t → s ≡ t

pub record FitsProof (m : System) (p : Proof ℕ) : Type 0 where
  pub free : IfSome p.free FitsPart
  pub nonfair : FitsNonfair (constraint_count m) p.nonfair
  pub fair : FitsFair (constraint_count m) p.fair
  pub entries : All (FitsEntry (constraint_count m)) p.entries
  pub at_state : IfSome p.at (IsState m)

pub record FitsBlock (m : System) (b : Block) : Type 0 where
  pub spec : IsSmall b.spec
  pub count : IsSmall (length b.nodes)
  pub nodes : All IsSmall (flat_map triple_numbers b.nodes)
  pub proof : FitsProof m b.proof

module _ (m : System) (few : IsSmall (constraint_count m)) (states : StatesAreKnown m) where
  end_known : (a b : Option State) → IfSome a (IsState m) → IfSome b (IsState m) → (u v : Lines) → words (end_lines m a) ++ u ≡ words (end_lines m b) ++ v → AreSame a b u v
  end_known None None p q u v e = let rest : u ≡ v = cc in (refl, rest)
  end_known None (Some t) p q u v e = absurd (omega (arith, ap start e))
  end_known (Some s) None p q u v e = absurd (omega (arith, ap start e))
  end_known (Some s) (Some t) p q u v e =
      let text : value_words m 0 s ≡ value_words m 0 t = cc in
      let rest : u ≡ v = cc in
      let same = states s t p q text in
      ((λ i. Some (same i)), rest)

  end_starts : (a : Option State) (u : Lines) → start (words (end_lines m a) ++ u) ≡ 101110116 → ⊥
  end_starts None u e = omega (arith, e)
  end_starts (Some s) u e = omega (arith, e)

  proof_known : (a b : Proof ℕ) → a.claim ≡ b.claim → FitsProof m a → FitsProof m b → (u v : Lines) → words (proof_lines m a) ++ u ≡ words (proof_lines m b) ++ v → AreSame a b u v
  proof_known a b c p q u v e =
      let count = constraint_count m in
      let ea : List Line = flat_map entry_lines a.entries in
      let eb : List Line = flat_map entry_lines b.entries in
      let za : List Line = end_lines m a.at in
      let zb : List Line = end_lines m b.at in
      let ra : List Line = fair_lines a.fair ++ (ea ++ za) in
      let rb : List Line = fair_lines b.fair ++ (eb ++ zb) in
      let f = free_known a.free b.free p.free q.free (words (nonfair_lines a.nonfair ++ ra) ++ u) (words (nonfair_lines b.nonfair ++ rb) ++ v) refl refl
      (sym (split (free_lines a.free) (nonfair_lines a.nonfair ++ ra) u) ∙ e ∙ split (free_lines b.free) (nonfair_lines b.nonfair ++ rb) v) in
      let h = nonfair_same count few a.nonfair b.nonfair p.nonfair q.nonfair (words ra ++ u) (words rb ++ v)
      (sym (split (nonfair_lines a.nonfair) ra u) ∙ f.1 ∙ split (nonfair_lines b.nonfair) rb v) in
      let k = fair_same count a.fair b.fair p.fair q.fair (words (ea ++ za) ++ u) (words (eb ++ zb) ++ v)
      (sym (split (fair_lines a.fair) (ea ++ za) u) ∙ h.1 ∙ split (fair_lines b.fair) (eb ++ zb) v) in
      let l = list_known entry_lines (FitsEntry count) 101110116 (omega arith) (entry_known count few) entry_starts a.entries b.entries p.entries q.entries (words za ++ u) (words zb ++ v)
      (end_starts a.at u) (end_starts b.at v) (sym (split ea za u) ∙ k.1 ∙ split eb zb v) in
      let z = end_known a.at b.at p.at_state q.at_state u v l.1 in
      ((λ i. record { claim = c i; free = f.0 i; nonfair = h.0 i; fair = k.0 i; entries = l.0 i; at = z.0 i }), z.1)

  pub block_known : (a b : Block) → a.first ≡ b.first → FitsBlock m a → FitsBlock m b → (u v : Lines) → words (block_lines m a) ++ u ≡ words (block_lines m b) ++ v → AreSame a b u v
  block_known a b first p q u v e =
      let spec_text : decimal a.spec ≡ decimal b.spec = cc in
      let claim_text : claim_word a.proof.claim ≡ claim_word b.proof.claim = cc in
      let count_text : decimal (length a.nodes) ≡ decimal (length b.nodes) = cc in
      let rest : words (node_lines [] a.nodes ++ proof_lines m a.proof) ++ u ≡ words (node_lines [] b.nodes ++ proof_lines m b.proof) ++ v = cc in
      let spec = same_number a.spec b.spec p.spec q.spec spec_text in
      let count = same_number (length a.nodes) (length b.nodes) p.count q.count count_text in
      let h = nodes_known [] [] a.nodes b.nodes count p.nodes q.nodes (words (proof_lines m a.proof) ++ u) (words (proof_lines m b.proof) ++ v)
      (sym (split (node_lines [] a.nodes) (proof_lines m a.proof) u) ∙ rest ∙ split (node_lines [] b.nodes) (proof_lines m b.proof) v) in
      let k = proof_known a.proof b.proof (claim_known a.proof.claim b.proof.claim claim_text) p.proof q.proof u v h.1 in
      ((λ i. record { spec = spec i; nodes = h.0 i; proof = k.0 i; first = first i }), k.1)

  pub blocks_known : (n : ℕ) (xs ys : List Block) → All (FitsBlock m) xs → All (FitsBlock m) ys → StandFrom m n xs → StandFrom m n ys
      → words (flat_map (block_lines m) xs) ≡ words (flat_map (block_lines m) ys) → xs ≡ ys
  blocks_known n [] [] p q s t e = refl
  blocks_known n [] (y ∷ ys) p q s t e = absurd (omega (arith, ap length e))
  blocks_known n (x ∷ xs) [] p q s t e = absurd (omega (arith, ap length e))
  blocks_known n (x ∷ xs) (y ∷ ys) p q s t e =
      let h = block_known x y (s.0 ∙ sym t.0) (All-head (FitsBlock m) x xs p) (All-head (FitsBlock m) y ys q) (words (flat_map (block_lines m) xs)) (words (flat_map (block_lines m) ys))
      (sym (map-append words_of (block_lines m x) (flat_map (block_lines m) xs)) ∙ e ∙ map-append words_of (block_lines m y) (flat_map (block_lines m) ys)) in
      let length_same : length (block_lines m y) ≡ length (block_lines m x) = ap (λ b. length (block_lines m b)) (sym h.0) in
      let k = blocks_known (n + length (block_lines m x)) xs ys (All-tail (FitsBlock m) x xs p) (All-tail (FitsBlock m) y ys q) s.1 (subst (λ i. StandFrom m (n + i) ys) length_same t.1) h.1 in
      (λ i. h.0 i ∷ k i)
