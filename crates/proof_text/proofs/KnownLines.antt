-- Parts of a proof are known by the words of their lines.
use Rattle.std.proofs.Common.{◌≡◌, ℕ, ◌+◌, ◌*◌, ◌≤◌, List, [], ◌∷◌, ◌++◌, length, map, flat_map, decimal, refl, sym, ◌∙◌, ap, arith, append_assoc}
use Rattle.std.specs.Prelude.{All}
use Rattle.std.specs.Str.Parse.{digits_value}
use Rattle.std.proofs.lemmas.Fmt.{decimal_is_IsNumeral}
use Rattle.std.proofs.lemmas.List.{map-append}
use Rattle.std.proofs.lemmas.List.Elements.{All-head, All-tail}
use Rattle.bdd_nodes.specs.declared.triple.Triple.{Triple}
use Rattle.proof_form.specs.Form.{Layer, FairPart, layer_sets, fair_sets}
use Rattle.proof_form.specs.Shape.{Avoids}
use Rattle.proof_text.specs.Lines.{Line, words_of, set_line, layer_line, reach_lines, fair_lines, nonfair_lines, node_lines}
use Rattle.proof_text.specs.Spells.{fair_lengths, triple_numbers}
use Rattle.text_lines.proofs.Lists.{all_left, all_right}

-- a number that is written
abbrev pub IsSmall : ℕ → Type 0
IsSmall n = n ≤ 4294967295

pub same_number : (a b : ℕ) → IsSmall a → IsSmall b → decimal a ≡ decimal b → a ≡ b
same_number a b p q e = sym (decimal_is_IsNumeral a (omega arith)).1 ∙ ap (digits_value 10) e ∙ (decimal_is_IsNumeral b (omega arith)).1

-- the words of each line
abbrev pub Lines : Type 0
Lines = List (List (List ℕ))

abbrev pub words : List Line → Lines
words ls = map words_of ls

pub split : (xs ys : List Line) (u : Lines) → words (xs ++ ys) ++ u ≡ words xs ++ (words ys ++ u)
split xs ys u = ap (λ t. t ++ u) (map-append words_of xs ys) ∙ append_assoc (words xs) (words ys) u

-- two are one, and the same lines are left behind them
abbrev pub AreSame : {A : Type 0} → A → A → Lines → Lines → Type 0
AreSame a b u v = (a ≡ b) × (u ≡ v)

-- ---- the first three bytes of a line

abbrev pub byte_mark : List ℕ → ℕ
byte_mark (a ∷ b ∷ c ∷ word) = a * 1000000 + b * 1000 + c
byte_mark (a ∷ b ∷ []) = a * 1000000 + b * 1000
byte_mark word = 0

abbrev pub mark : List (List ℕ) → ℕ
mark [] = 0
mark (word ∷ ws) = byte_mark word

abbrev pub start : Lines → ℕ
start [] = 0
start (ws ∷ u) = mark ws

-- ---- sets, layers

pub sets_known : (xs ys : List ℕ) → length xs ≡ length ys → All IsSmall xs → All IsSmall ys → (u v : Lines) → words (map set_line xs) ++ u ≡ words (map set_line ys) ++ v → AreSame xs ys u v
sets_known [] [] n p q u v e = (refl, e)
sets_known [] (b ∷ ys) n p q u v e = absurd (omega (arith, n))
sets_known (a ∷ xs) [] n p q u v e = absurd (omega (arith, n))
sets_known (a ∷ xs) (b ∷ ys) n p q u v e =
    let number : decimal a ≡ decimal b = cc in
    let first = same_number a b (All-head IsSmall a xs p) (All-head IsSmall b ys q) number in
    let rest : words (map set_line xs) ++ u ≡ words (map set_line ys) ++ v = cc in
    let k = sets_known xs ys (omega (arith, n)) (All-tail IsSmall a xs p) (All-tail IsSmall b ys q) u v rest in
    ((λ i. first i ∷ k.0 i), k.1)

pub layers_known : (count : ℕ) → IsSmall count → (xs ys : List (Layer ℕ)) → length xs ≡ length ys → All (Avoids count) xs → All (Avoids count) ys
    → All IsSmall (layer_sets xs) → All IsSmall (layer_sets ys) → (u v : Lines) → words (map layer_line xs) ++ u ≡ words (map layer_line ys) ++ v → AreSame xs ys u v
layers_known count few [] [] n f g p q u v e = (refl, e)
layers_known count few [] (b ∷ ys) n f g p q u v e = absurd (omega (arith, n))
layers_known count few (a ∷ xs) [] n f g p q u v e = absurd (omega (arith, n))
layers_known count few (a ∷ xs) (b ∷ ys) n f g p q u v e =
    let avoid_text : decimal a.avoid ≡ decimal b.avoid = cc in
    let set_text : decimal a.set ≡ decimal b.set = cc in
    let avoid = same_number a.avoid b.avoid (omega (arith, few, (All-head (Avoids count) a xs f).1)) (omega (arith, few, (All-head (Avoids count) b ys g).1)) avoid_text in
    let set = same_number a.set b.set (All-head IsSmall a.set (layer_sets xs) p) (All-head IsSmall b.set (layer_sets ys) q) set_text in
    let rest : words (map layer_line xs) ++ u ≡ words (map layer_line ys) ++ v = cc in
    let k = layers_known count few xs ys (omega (arith, n)) (All-tail (Avoids count) a xs f) (All-tail (Avoids count) b ys g)
    (All-tail IsSmall a.set (layer_sets xs) p) (All-tail IsSmall b.set (layer_sets ys) q) u v rest in
    let first : a ≡ b = λ i. record { avoid = avoid i; set = set i } in
    ((λ i. first i ∷ k.0 i), k.1)

-- ---- fair parts

pub reach_known : (k : ℕ) (xs ys : List (List ℕ)) → length xs ≡ length ys
    → All IsSmall (flat_map (λ sets. length sets ∷ []) xs) → All IsSmall (flat_map (λ sets. length sets ∷ []) ys)
    → All IsSmall (flat_map (λ sets. sets) xs) → All IsSmall (flat_map (λ sets. sets) ys)
    → (u v : Lines) → words (reach_lines k xs) ++ u ≡ words (reach_lines k ys) ++ v → AreSame xs ys u v
reach_known k [] [] n f g p q u v e = (refl, e)
reach_known k [] (b ∷ ys) n f g p q u v e = absurd (omega (arith, n))
reach_known k (a ∷ xs) [] n f g p q u v e = absurd (omega (arith, n))
reach_known k (a ∷ xs) (b ∷ ys) n f g p q u v e =
    let count_text : decimal (length a) ≡ decimal (length b) = cc in
    let count = same_number (length a) (length b) (All-head IsSmall (length a) (flat_map (λ sets. length sets ∷ []) xs) f) (All-head IsSmall (length b) (flat_map (λ sets. length sets ∷ []) ys) g) count_text in
    let rest : words (map set_line a ++ reach_lines (k + 1) xs) ++ u ≡ words (map set_line b ++ reach_lines (k + 1) ys) ++ v = cc in
    let h = sets_known a b count (all_left IsSmall a (flat_map (λ sets. sets) xs) p) (all_left IsSmall b (flat_map (λ sets. sets) ys) q) (words (reach_lines (k + 1) xs) ++ u) (words (reach_lines (k + 1) ys) ++ v)
    (sym (split (map set_line a) (reach_lines (k + 1) xs) u) ∙ rest ∙ split (map set_line b) (reach_lines (k + 1) ys) v) in
    let t = reach_known (k + 1) xs ys (omega (arith, n)) (All-tail IsSmall (length a) (flat_map (λ sets. length sets ∷ []) xs) f) (All-tail IsSmall (length b) (flat_map (λ sets. length sets ∷ []) ys) g)
    (all_right IsSmall a (flat_map (λ sets. sets) xs) p) (all_right IsSmall b (flat_map (λ sets. sets) ys) q) u v h.1 in
    ((λ i. h.0 i ∷ t.0 i), t.1)

pub fair_known : (a b : FairPart ℕ) → length a.reach ≡ length b.reach → All IsSmall (fair_lengths a) → All IsSmall (fair_lengths b) → All IsSmall (fair_sets a) → All IsSmall (fair_sets b)
    → (u v : Lines) → words (fair_lines a) ++ u ≡ words (fair_lines b) ++ v → AreSame a b u v
fair_known a b n f g p q u v e =
    let text : decimal a.inside ≡ decimal b.inside = cc in
    let inside = same_number a.inside b.inside (All-head IsSmall a.inside (flat_map (λ sets. sets) a.reach) p) (All-head IsSmall b.inside (flat_map (λ sets. sets) b.reach) q) text in
    let rest : words (reach_lines 1 a.reach) ++ u ≡ words (reach_lines 1 b.reach) ++ v = cc in
    let h = reach_known 1 a.reach b.reach n f g (All-tail IsSmall a.inside (flat_map (λ sets. sets) a.reach) p) (All-tail IsSmall b.inside (flat_map (λ sets. sets) b.reach) q) u v rest in
    ((λ i. record { inside = inside i; reach = h.0 i }), h.1)

pub nonfair_known : (count : ℕ) → IsSmall count → (xs ys : List (Layer ℕ)) → IsSmall (length xs) → IsSmall (length ys) → All (Avoids count) xs → All (Avoids count) ys
    → All IsSmall (layer_sets xs) → All IsSmall (layer_sets ys) → (u v : Lines) → words (nonfair_lines xs) ++ u ≡ words (nonfair_lines ys) ++ v → AreSame xs ys u v
nonfair_known count few xs ys na nb f g p q u v e =
    let text : decimal (length xs) ≡ decimal (length ys) = cc in
    let n = same_number (length xs) (length ys) na nb text in
    let rest : words (map layer_line xs) ++ u ≡ words (map layer_line ys) ++ v = cc in
    layers_known count few xs ys n f g p q u v rest

-- ---- nodes

pub nodes_known : (earlier later xs ys : List Triple) → length xs ≡ length ys → All IsSmall (flat_map triple_numbers xs) → All IsSmall (flat_map triple_numbers ys)
    → (u v : Lines) → words (node_lines earlier xs) ++ u ≡ words (node_lines later ys) ++ v → AreSame xs ys u v
nodes_known earlier later [] [] n p q u v e = (refl, e)
nodes_known earlier later [] (b ∷ ys) n p q u v e = absurd (omega (arith, n))
nodes_known earlier later (a ∷ xs) [] n p q u v e = absurd (omega (arith, n))
nodes_known earlier later (a ∷ xs) (b ∷ ys) n p q u v e =
    let level_text : decimal a.level ≡ decimal b.level = cc in
    let low_text : decimal a.low ≡ decimal b.low = cc in
    let high_text : decimal a.high ≡ decimal b.high = cc in
    let pa = All-tail IsSmall a.level (a.low ∷ a.high ∷ flat_map triple_numbers xs) p in
    let qb = All-tail IsSmall b.level (b.low ∷ b.high ∷ flat_map triple_numbers ys) q in
    let ra = All-tail IsSmall a.low (a.high ∷ flat_map triple_numbers xs) pa in
    let rb = All-tail IsSmall b.low (b.high ∷ flat_map triple_numbers ys) qb in
    let level = same_number a.level b.level (All-head IsSmall a.level (a.low ∷ a.high ∷ flat_map triple_numbers xs) p) (All-head IsSmall b.level (b.low ∷ b.high ∷ flat_map triple_numbers ys) q) level_text in
    let low = same_number a.low b.low (All-head IsSmall a.low (a.high ∷ flat_map triple_numbers xs) pa) (All-head IsSmall b.low (b.high ∷ flat_map triple_numbers ys) qb) low_text in
    let high = same_number a.high b.high (All-head IsSmall a.high (flat_map triple_numbers xs) ra) (All-head IsSmall b.high (flat_map triple_numbers ys) rb) high_text in
    let rest : words (node_lines (earlier ++ a ∷ []) xs) ++ u ≡ words (node_lines (later ++ b ∷ []) ys) ++ v = cc in
    let k = nodes_known (earlier ++ a ∷ []) (later ++ b ∷ []) xs ys (omega (arith, n)) (All-tail IsSmall a.high (flat_map triple_numbers xs) ra) (All-tail IsSmall b.high (flat_map triple_numbers ys) rb) u v rest in
    let first : a ≡ b = λ i. record { level = level i; low = low i; high = high i } in
    ((λ i. first i ∷ k.0 i), k.1)
