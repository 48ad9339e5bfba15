-- The numbers of a block whose text isn't too long are small.
use Rattle.std.proofs.Common.{◌≡◌, ℕ, suc, ◌+◌, ◌*◌, ◌<◌, ◌≤◌, List, [], ◌∷◌, ◌++◌, length, map, flat_map, get_or, codes, decimal, Option, Some, None, refl, ap, arith, length-append}
use Rattle.std.specs.Prelude.{All}
use Rattle.std.proofs.lemmas.List.{length-map}
use Rattle.std.proofs.lemmas.List.Elements.{All-nil, All-cons, All-append, All-head, All-tail, All-weaker}
use Rattle.std.proofs.lemmas.List.Sums.{sum_by-cons}
use Rattle.std.proofs.lemmas.Option.{slice_get-get_or}
use Rattle.bdd_nodes.specs.declared.triple.Triple.{Triple}
use Rattle.bdd_nodes.specs.Table.{Has, IsGood, node_of}
use Rattle.bit_encode.proofs.BinaryLemmas.{width-least}
use Rattle.bit_encode.specs.Binary.{width}
use Rattle.bit_encode.specs.Code.{bit_count, state_bits}
use Rattle.kripke_model.specs.Flat.{IsFlat}
use Rattle.kripke_model.specs.System.{System, Variable}
use Rattle.proof_form.specs.Form.{FairPart, Rule, EX, AX, AR, EU, AU, ER, FreePart, Proof, sets_of}
use Rattle.proof_text.specs.File.{Block}
use Rattle.proof_text.specs.Lines.{Line, counted, sign_word, line_text, text_of, set_line, layer_line, reach_lines, fair_lines, rule_lines, entry_lines, free_entry_lines, nonfair_lines, free_lines, end_lines, node_lines, proof_lines, block_lines}
use Rattle.proof_text.specs.Spells.{IsBlock, fair_lengths, rule_lengths, free_lengths, lengths_of, triple_numbers, most_bytes}
use Rattle.proof_text.specs.Written.{IsWritable}
use Rattle.proof_text.proofs.KnownLines.{IsSmall}

-- ---- each list is no longer than the lines that have it

abbrev UpTo : ℕ → List ℕ → Type 0
UpTo most xs = All (λ n. n ≤ most) xs

more : (a b : ℕ) → a ≤ b → (xs : List ℕ) → UpTo a xs → UpTo b xs
more a b le xs h = All-weaker (λ n. n ≤ a) (λ n. n ≤ b) (λ n less. omega (arith, less, le)) xs h

one : (most n : ℕ) → n ≤ most → UpTo most (n ∷ [])
one most n le = All-cons (λ k. k ≤ most) n [] le (All-nil (λ k. k ≤ most))

none : (most : ℕ) → UpTo most []
none most = All-nil (λ k. k ≤ most)

reach_up : (k : ℕ) (lists : List (List ℕ)) → UpTo (length (reach_lines k lists)) (flat_map (λ sets. length sets ∷ []) lists)
reach_up k [] = none 0
reach_up k (sets ∷ lists) =
    let e = length-append (map set_line sets) (reach_lines (k + 1) lists) in
    let f = length-map sets set_line in
    All-cons (λ n. n ≤ length (reach_lines k (sets ∷ lists))) (length sets) (flat_map (λ sets. length sets ∷ []) lists) (omega (arith, e, f))
    (more (length (reach_lines (k + 1) lists)) (length (reach_lines k (sets ∷ lists))) (omega (arith, e)) (flat_map (λ sets. length sets ∷ []) lists) (reach_up (k + 1) lists))

fair_up : (p : FairPart ℕ) → UpTo (length (fair_lines p)) (fair_lengths p)
fair_up p = more (length (reach_lines 1 p.reach)) (length (fair_lines p)) (omega arith) (fair_lengths p) (reach_up 1 p.reach)

rule_up : (front : List (List ℕ)) (r : Rule ℕ) → UpTo (length (rule_lines front r)) (rule_lengths r)
rule_up front (EX set) = none (length (rule_lines front (EX set)))
rule_up front (AX set) = none (length (rule_lines front (AX set)))
rule_up front (AR set) = none (length (rule_lines front (AR set)))
rule_up front (EU sets) = one (length (rule_lines front (EU sets))) (length sets) (omega (arith, length-map sets set_line))
rule_up front (AU layers) = one (length (rule_lines front (AU layers))) (length layers) (omega (arith, length-map layers layer_line))
rule_up front (ER p untils) =
    let all = length (rule_lines front (ER p untils)) in
    let e = length-append (fair_lines p) (counted (codes "until") (length untils) ∷ map set_line untils) in
    All-append (λ n. n ≤ all) (fair_lengths p) (length untils ∷ []) (more (length (fair_lines p)) all (omega (arith, e)) (fair_lengths p) (fair_up p)) (one all (length untils) (omega (arith, e, length-map untils set_line)))

joined : {A : Type 0} (lines : A → List Line) (lengths : A → List ℕ) → ((x : A) → UpTo (length (lines x)) (lengths x)) → (xs : List A) → UpTo (length (flat_map lines xs)) (flat_map lengths xs)
joined lines lengths up [] = none 0
joined lines lengths up (x ∷ xs) =
    let all = length (flat_map lines (x ∷ xs)) in
    let e = length-append (lines x) (flat_map lines xs) in
    All-append (λ n. n ≤ all) (lengths x) (flat_map lengths xs) (more (length (lines x)) all (omega (arith, e)) (lengths x) (up x)) (more (length (flat_map lines xs)) all (omega (arith, e)) (flat_map lengths xs) (joined lines lengths up xs))

free_up : (p : Option (FreePart ℕ)) → UpTo (length (free_lines p)) (free_lengths p)
free_up None = none 0
free_up (Some p) =
    let all = length (free_lines (Some p)) in
    let rest = fair_lines p.fair ++ flat_map free_entry_lines p.entries in
    let e = length-append (nonfair_lines p.nonfair) rest in
    let f = length-append (fair_lines p.fair) (flat_map free_entry_lines p.entries) in
    All-cons (λ n. n ≤ all) (length p.nonfair) (fair_lengths p.fair ++ flat_map (λ e. rule_lengths e.entry.rule) p.entries) (omega (arith, e, length-map p.nonfair layer_line))
    (All-append (λ n. n ≤ all) (fair_lengths p.fair) (flat_map (λ e. rule_lengths e.entry.rule) p.entries) (more (length (fair_lines p.fair)) all (omega (arith, e, f)) (fair_lengths p.fair) (fair_up p.fair))
    (more (length (flat_map free_entry_lines p.entries)) all (omega (arith, e, f)) (flat_map (λ e. rule_lengths e.entry.rule) p.entries) (joined free_entry_lines (λ e. rule_lengths e.entry.rule) (λ e. rule_up (codes "centry" ∷ decimal e.constraint ∷ decimal e.entry.node ∷ sign_word e.entry.plus ∷ []) e.entry.rule) p.entries)))

proof_up : (m : System) (p : Proof ℕ) → UpTo (length (proof_lines m p)) (lengths_of p)
proof_up m p =
    let all = length (proof_lines m p) in
    let last = flat_map entry_lines p.entries ++ end_lines m p.at in
    let shared = fair_lines p.fair ++ last in
    let e = length-append (free_lines p.free) (nonfair_lines p.nonfair ++ shared) in
    let f = length-append (nonfair_lines p.nonfair) shared in
    let g = length-append (fair_lines p.fair) last in
    let h = length-append (flat_map entry_lines p.entries) (end_lines m p.at) in
    All-append (λ n. n ≤ all) (free_lengths p.free) (length p.nonfair ∷ fair_lengths p.fair ++ flat_map (λ e. rule_lengths e.rule) p.entries) (more (length (free_lines p.free)) all (omega (arith, e)) (free_lengths p.free) (free_up p.free))
    (All-cons (λ n. n ≤ all) (length p.nonfair) (fair_lengths p.fair ++ flat_map (λ e. rule_lengths e.rule) p.entries) (omega (arith, e, f, length-map p.nonfair layer_line))
    (All-append (λ n. n ≤ all) (fair_lengths p.fair) (flat_map (λ e. rule_lengths e.rule) p.entries) (more (length (fair_lines p.fair)) all (omega (arith, e, f, g)) (fair_lengths p.fair) (fair_up p.fair))
    (more (length (flat_map entry_lines p.entries)) all (omega (arith, e, f, g, h)) (flat_map (λ e. rule_lengths e.rule) p.entries) (joined entry_lines (λ e. rule_lengths e.rule) (λ e. rule_up (codes "entry" ∷ decimal e.node ∷ sign_word e.plus ∷ []) e.rule) p.entries))))

-- ---- lines and bytes

pub lines_up : (ls : List Line) → length ls ≤ length (text_of ls)
lines_up [] = omega arith
lines_up (l ∷ ls) = omega (arith, lines_up ls, length-append (line_text l ++ 10 ∷ []) (text_of ls), length-append (line_text l) (10 ∷ []))

-- ---- nodes

as_many : (earlier nodes : List Triple) → length (node_lines earlier nodes) ≡ length nodes
as_many earlier [] = refl
as_many earlier (t ∷ nodes) = ap suc (as_many (earlier ++ t ∷ []) nodes)

few_bits : (vs : List Variable) → All (λ (v : Variable). length v.values ≤ 1024) vs → bit_count (map (λ (v : Variable). v.values) vs) ≤ 10 * length vs
few_bits [] h = omega arith
few_bits (v ∷ vs) h =
    let wide : width (length v.values) ≤ 10 = width-least (length v.values) 10 (omega (arith, All-head (λ (w : Variable). length w.values ≤ 1024) v vs h)) in
    let step : bit_count (map (λ (w : Variable). w.values) (v ∷ vs)) ≡ width (length v.values) + bit_count (map (λ (w : Variable). w.values) vs) = sum_by-cons (λ values. width (length values)) v.values (map (λ (w : Variable). w.values) vs) in
    omega (arith, step, wide, few_bits vs (All-tail (λ (w : Variable). length w.values ≤ 1024) v vs h))

flat_all : {A : Type 0} (P : ℕ → Type 0) (f : A → List ℕ) (xs : List A) → All (λ x. All P (f x)) xs → All P (flat_map f xs)
flat_all P f [] h = All-nil P
flat_all P f (x ∷ xs) h = All-append P (f x) (flat_map f xs) (All-head (λ y. All P (f y)) x xs h) (flat_all P f xs (All-tail (λ y. All P (f y)) x xs h))

module _ (m : System) (flat : IsFlat m) (nodes : List Triple) (good : IsGood (state_bits m) nodes) (few : length nodes ≤ most_bytes) where
  at : (i : ℕ) (d : Triple) → i < length nodes → node_of nodes (suc (suc i)) ≡ Some (get_or nodes i d)
  unfolding node_of
  at i d less = slice_get-get_or nodes i d less

  bits : state_bits m ≤ 2560
  bits = omega (arith, few_bits m.vars flat.limits.values, flat.limits.variables)

  nodes_small : All IsSmall (flat_map triple_numbers nodes)
  nodes_small = flat_all IsSmall triple_numbers nodes (λ i d less.
      let t = get_or nodes i d in
      let g = good.each (suc (suc i)) (get_or nodes i d) (at i d less) in
      All-cons IsSmall t.level (t.low ∷ t.high ∷ []) (omega (arith, g.inside, bits)) (All-cons IsSmall t.low (t.high ∷ []) (omega (arith, g.low_earlier, less, few)) (All-cons IsSmall t.high [] (omega (arith, g.high_earlier, less, few)) (All-nil IsSmall))))

-- ---- a block

pub written_block : (m : System) → IsFlat m → (b : Block) → IsWritable m b → length (text_of (block_lines m b)) ≤ most_bytes → IsBlock m b
written_block m flat b w short =
    let all = length (block_lines m b) in
    let short_lines : all ≤ most_bytes = omega (arith, lines_up (block_lines m b), short) in
    let e = length-append (node_lines [] b.nodes) (proof_lines m b.proof) in
    let few : length b.nodes ≤ most_bytes = omega (arith, short_lines, e, as_many [] b.nodes) in
    record {
      shape = w.shape;
      sets = w.sets;
      small = All-cons IsSmall (length b.nodes) (flat_map triple_numbers b.nodes ++ (lengths_of b.proof ++ sets_of b.proof)) (omega (arith, few))
          (All-append IsSmall (flat_map triple_numbers b.nodes) (lengths_of b.proof ++ sets_of b.proof) (nodes_small m flat b.nodes w.nodes few)
          (All-append IsSmall (lengths_of b.proof) (sets_of b.proof) (more (length (proof_lines m b.proof)) 4294967295 (omega (arith, short_lines, e)) (lengths_of b.proof) (proof_up m b.proof))
          (All-weaker (Has b.nodes) IsSmall (λ r has. omega (arith, has, few)) (sets_of b.proof) w.sets)));
    }
