-- Rules and entries are known by the words of their lines.
use Rattle.std.proofs.Common.{◌≡◌, ℕ, ◌<◌, Bool, true, false, List, [], ◌∷◌, ◌++◌, length, map, flat_map, codes, decimal, refl, sym, ◌∙◌, ap, arith}
use Rattle.std.specs.Prelude.{All}
use Rattle.std.proofs.lemmas.List.Elements.{All-head, All-tail}
use Rattle.proof_form.specs.Form.{FairPart, Rule, EX, AX, AR, EU, AU, ER, Entry, FreeEntry, fair_sets, rule_sets}
use Rattle.proof_form.specs.Shape.{FitsConstraints}
use Rattle.proof_text.specs.Lines.{Line, counted, set_line, layer_line, fair_lines, rule_lines, sign_word, entry_lines, free_entry_lines}
use Rattle.proof_text.specs.Spells.{fair_lengths, rule_lengths}
use Rattle.text_lines.proofs.Lists.{same_first, all_left, all_right}
use Rattle.proof_text.proofs.KnownLines.{IsSmall, same_number, Lines, words, split, AreSame, mark, start, sets_known, layers_known, fair_known}

-- the words of a rule's first line, and the other lines
abbrev head : Rule ℕ → List (List ℕ)
head (EX set) = codes "EX" ∷ []
head (AX set) = codes "AX" ∷ []
head (AR set) = codes "AR" ∷ []
head (EU sets) = codes "EU" ∷ decimal (length sets) ∷ []
head (AU layers) = codes "AU" ∷ decimal (length layers) ∷ []
head (ER fair untils) = codes "ER" ∷ []

abbrev body : Rule ℕ → List Line
body (EX set) = set_line set ∷ []
body (AX set) = set_line set ∷ []
body (AR set) = set_line set ∷ []
body (EU sets) = map set_line sets
body (AU layers) = map layer_line layers
body (ER fair untils) = fair_lines fair ++ (counted (codes "until") (length untils) ∷ map set_line untils)

rule_words : (front : List (List ℕ)) (r : Rule ℕ) → words (rule_lines front r) ≡ (front ++ head r) ∷ words (body r)
rule_words front (EX set) = refl
rule_words front (AX set) = refl
rule_words front (AR set) = refl
rule_words front (EU sets) = refl
rule_words front (AU layers) = refl
rule_words front (ER fair untils) = refl

-- what is known of a rule's numbers
pub record FitsRule (count : ℕ) (r : Rule ℕ) : Type 0 where
  pub lengths : All IsSmall (rule_lengths r)
  pub sets : All IsSmall (rule_sets r)
  pub fits : FitsConstraints count r

one_set : (a b : ℕ) → IsSmall a → IsSmall b → (u v : Lines) → words (set_line a ∷ []) ++ u ≡ words (set_line b ∷ []) ++ v → AreSame a b u v
one_set a b p q u v e =
    let text : decimal a ≡ decimal b = cc in
    let rest : u ≡ v = cc in
    (same_number a b p q text, rest)

module _ (count : ℕ) (few : IsSmall count) where
  er_known : (f g : FairPart ℕ) (xs ys : List ℕ) → FitsRule count (ER f xs) → FitsRule count (ER g ys) → (u v : Lines)
      → words (body (ER f xs)) ++ u ≡ words (body (ER g ys)) ++ v → AreSame (ER f xs) (ER g ys) u v
  er_known f g xs ys p q u v e =
      let untils_x : List Line = counted (codes "until") (length xs) ∷ map set_line xs in
      let untils_y : List Line = counted (codes "until") (length ys) ∷ map set_line ys in
      let h = fair_known f g (p.fits ∙ sym q.fits) (all_left IsSmall (fair_lengths f) (length xs ∷ []) p.lengths) (all_left IsSmall (fair_lengths g) (length ys ∷ []) q.lengths)
      (all_left IsSmall (fair_sets f) xs p.sets) (all_left IsSmall (fair_sets g) ys q.sets) (words untils_x ++ u) (words untils_y ++ v)
      (sym (split (fair_lines f) untils_x u) ∙ e ∙ split (fair_lines g) untils_y v) in
      let e' : words untils_x ++ u ≡ words untils_y ++ v = h.1 in
      let text : decimal (length xs) ≡ decimal (length ys) = cc in
      let n = same_number (length xs) (length ys) (All-head IsSmall (length xs) [] (all_right IsSmall (fair_lengths f) (length xs ∷ []) p.lengths))
      (All-head IsSmall (length ys) [] (all_right IsSmall (fair_lengths g) (length ys ∷ []) q.lengths)) text in
      let rest : words (map set_line xs) ++ u ≡ words (map set_line ys) ++ v = cc in
      let k = sets_known xs ys n (all_right IsSmall (fair_sets f) xs p.sets) (all_right IsSmall (fair_sets g) ys q.sets) u v rest in
      ((λ i. ER (h.0 i) (k.0 i)), k.1)

  rule_known : (a b : Rule ℕ) → FitsRule count a → FitsRule count b → head a ≡ head b → (u v : Lines) → words (body a) ++ u ≡ words (body b) ++ v → AreSame a b u v
  rule_known (EX x) (EX y) p q t u v e = let h = one_set x y (All-head IsSmall x [] p.sets) (All-head IsSmall y [] q.sets) u v e in ((λ i. EX (h.0 i)), h.1)
  rule_known (EX x) (AX y) p q t u v e = absurd (omega (arith, ap mark t))
  rule_known (EX x) (AR y) p q t u v e = absurd (omega (arith, ap mark t))
  rule_known (EX x) (EU y) p q t u v e = absurd (omega (arith, ap mark t))
  rule_known (EX x) (AU y) p q t u v e = absurd (omega (arith, ap mark t))
  rule_known (EX x) (ER yf ys) p q t u v e = absurd (omega (arith, ap mark t))
  rule_known (AX x) (EX y) p q t u v e = absurd (omega (arith, ap mark t))
  rule_known (AX x) (AX y) p q t u v e = let h = one_set x y (All-head IsSmall x [] p.sets) (All-head IsSmall y [] q.sets) u v e in ((λ i. AX (h.0 i)), h.1)
  rule_known (AX x) (AR y) p q t u v e = absurd (omega (arith, ap mark t))
  rule_known (AX x) (EU y) p q t u v e = absurd (omega (arith, ap mark t))
  rule_known (AX x) (AU y) p q t u v e = absurd (omega (arith, ap mark t))
  rule_known (AX x) (ER yf ys) p q t u v e = absurd (omega (arith, ap mark t))
  rule_known (AR x) (EX y) p q t u v e = absurd (omega (arith, ap mark t))
  rule_known (AR x) (AX y) p q t u v e = absurd (omega (arith, ap mark t))
  rule_known (AR x) (AR y) p q t u v e = let h = one_set x y (All-head IsSmall x [] p.sets) (All-head IsSmall y [] q.sets) u v e in ((λ i. AR (h.0 i)), h.1)
  rule_known (AR x) (EU y) p q t u v e = absurd (omega (arith, ap mark t))
  rule_known (AR x) (AU y) p q t u v e = absurd (omega (arith, ap mark t))
  rule_known (AR x) (ER yf ys) p q t u v e = absurd (omega (arith, ap mark t))
  rule_known (EU x) (EX y) p q t u v e = absurd (omega (arith, ap mark t))
  rule_known (EU x) (AX y) p q t u v e = absurd (omega (arith, ap mark t))
  rule_known (EU x) (AR y) p q t u v e = absurd (omega (arith, ap mark t))
  rule_known (EU x) (EU y) p q t u v e =
      let text : decimal (length x) ≡ decimal (length y) = cc in
      let n = same_number (length x) (length y) (All-head IsSmall (length x) [] p.lengths) (All-head IsSmall (length y) [] q.lengths) text in
      let h = sets_known x y n p.sets q.sets u v e in
      ((λ i. EU (h.0 i)), h.1)
  rule_known (EU x) (AU y) p q t u v e = absurd (omega (arith, ap mark t))
  rule_known (EU x) (ER yf ys) p q t u v e = absurd (omega (arith, ap mark t))
  rule_known (AU x) (EX y) p q t u v e = absurd (omega (arith, ap mark t))
  rule_known (AU x) (AX y) p q t u v e = absurd (omega (arith, ap mark t))
  rule_known (AU x) (AR y) p q t u v e = absurd (omega (arith, ap mark t))
  rule_known (AU x) (EU y) p q t u v e = absurd (omega (arith, ap mark t))
  rule_known (AU x) (AU y) p q t u v e =
      let text : decimal (length x) ≡ decimal (length y) = cc in
      let n = same_number (length x) (length y) (All-head IsSmall (length x) [] p.lengths) (All-head IsSmall (length y) [] q.lengths) text in
      let h = layers_known count few x y n p.fits q.fits p.sets q.sets u v e in
      ((λ i. AU (h.0 i)), h.1)
  rule_known (AU x) (ER yf ys) p q t u v e = absurd (omega (arith, ap mark t))
  rule_known (ER xf xs) (EX y) p q t u v e = absurd (omega (arith, ap mark t))
  rule_known (ER xf xs) (AX y) p q t u v e = absurd (omega (arith, ap mark t))
  rule_known (ER xf xs) (AR y) p q t u v e = absurd (omega (arith, ap mark t))
  rule_known (ER xf xs) (EU y) p q t u v e = absurd (omega (arith, ap mark t))
  rule_known (ER xf xs) (AU y) p q t u v e = absurd (omega (arith, ap mark t))
  rule_known (ER xf xs) (ER yf ys) p q t u v e = er_known xf yf xs ys p q u v e

-- ---- entries

pub sign_known : (a b : Bool) → sign_word a ≡ sign_word b → a ≡ b
sign_known true true e = refl
sign_known true false e = absurd (omega (arith, same_first 43 45 [] [] e))
sign_known false true e = absurd (omega (arith, same_first 45 43 [] [] e))
sign_known false false e = refl

pub record FitsEntry (count : ℕ) (e : Entry ℕ) : Type 0 where
  pub node : IsSmall e.node
  pub rule : FitsRule count e.rule

pub record FitsFreeEntry (e : FreeEntry ℕ) : Type 0 where
  pub constraint : IsSmall e.constraint
  pub entry : FitsEntry 1 e.entry

module _ (count : ℕ) (few : IsSmall count) where
  pub entry_known : (a b : Entry ℕ) → FitsEntry count a → FitsEntry count b → (u v : Lines) → words (entry_lines a) ++ u ≡ words (entry_lines b) ++ v → AreSame a b u v
  entry_known a b p q u v e =
      let front : Entry ℕ → List (List ℕ) = λ e. codes "entry" ∷ decimal e.node ∷ sign_word e.plus ∷ [] in
      let h : (codes "entry" ∷ decimal a.node ∷ sign_word a.plus ∷ head a.rule) ∷ (words (body a.rule) ++ u) ≡ (codes "entry" ∷ decimal b.node ∷ sign_word b.plus ∷ head b.rule) ∷ (words (body b.rule) ++ v) =
      ap (λ t. t ++ u) (sym (rule_words (front a) a.rule)) ∙ e ∙ ap (λ t. t ++ v) (rule_words (front b) b.rule) in
      let node_text : decimal a.node ≡ decimal b.node = cc in
      let sign_text : sign_word a.plus ≡ sign_word b.plus = cc in
      let head_text : head a.rule ≡ head b.rule = cc in
      let rest : words (body a.rule) ++ u ≡ words (body b.rule) ++ v = cc in
      let node = same_number a.node b.node p.node q.node node_text in
      let plus = sign_known a.plus b.plus sign_text in
      let k = rule_known count few a.rule b.rule p.rule q.rule head_text u v rest in
      ((λ i. record { node = node i; plus = plus i; rule = k.0 i }), k.1)

pub free_entry_known : (a b : FreeEntry ℕ) → FitsFreeEntry a → FitsFreeEntry b → (u v : Lines) → words (free_entry_lines a) ++ u ≡ words (free_entry_lines b) ++ v → AreSame a b u v
free_entry_known a b p q u v e =
    let front : FreeEntry ℕ → List (List ℕ) = λ e. codes "centry" ∷ decimal e.constraint ∷ decimal e.entry.node ∷ sign_word e.entry.plus ∷ [] in
    let h : (codes "centry" ∷ decimal a.constraint ∷ decimal a.entry.node ∷ sign_word a.entry.plus ∷ head a.entry.rule) ∷ (words (body a.entry.rule) ++ u)
    ≡ (codes "centry" ∷ decimal b.constraint ∷ decimal b.entry.node ∷ sign_word b.entry.plus ∷ head b.entry.rule) ∷ (words (body b.entry.rule) ++ v) =
    ap (λ t. t ++ u) (sym (rule_words (front a) a.entry.rule)) ∙ e ∙ ap (λ t. t ++ v) (rule_words (front b) b.entry.rule) in
    let constraint_text : decimal a.constraint ≡ decimal b.constraint = cc in
    let node_text : decimal a.entry.node ≡ decimal b.entry.node = cc in
    let sign_text : sign_word a.entry.plus ≡ sign_word b.entry.plus = cc in
    let head_text : head a.entry.rule ≡ head b.entry.rule = cc in
    let rest : words (body a.entry.rule) ++ u ≡ words (body b.entry.rule) ++ v = cc in
    let constraint = same_number a.constraint b.constraint p.constraint q.constraint constraint_text in
    let node = same_number a.entry.node b.entry.node p.entry.node q.entry.node node_text in
    let plus = sign_known a.entry.plus b.entry.plus sign_text in
    let k = rule_known 1 (omega arith) a.entry.rule b.entry.rule p.entry.rule q.entry.rule head_text u v rest in
    ((λ i. record { constraint = constraint i; entry = record { node = node i; plus = plus i; rule = k.0 i } }), k.1)

entry_front : (front : List (List ℕ)) (r : Rule ℕ) (u : Lines) (n : ℕ) → mark (front ++ head r) ≡ n → start (words (rule_lines front r) ++ u) ≡ n
entry_front front r u n e = ap (λ t. start (t ++ u)) (rule_words front r) ∙ e

-- the first words of entries
pub entry_starts : (e : Entry ℕ) (u : Lines) → start (words (entry_lines e) ++ u) ≡ 101110116
entry_starts e u = entry_front (codes "entry" ∷ decimal e.node ∷ sign_word e.plus ∷ []) e.rule u 101110116 refl

pub free_entry_starts : (e : FreeEntry ℕ) (u : Lines) → start (words (free_entry_lines e) ++ u) ≡ 99101110
free_entry_starts e u = entry_front (codes "centry" ∷ decimal e.constraint ∷ decimal e.entry.node ∷ sign_word e.entry.plus ∷ []) e.entry.rule u 99101110 refl

-- ---- so many of a kind, that begin with one word, and behind them a line with another one

module _ {A : Type 0} (lines : A → List Line) (Fits : A → Type 0) (n : ℕ) (some : 0 < n)
    (known : (a b : A) → Fits a → Fits b → (u v : Lines) → words (lines a) ++ u ≡ words (lines b) ++ v → AreSame a b u v)
    (starts : (a : A) (u : Lines) → start (words (lines a) ++ u) ≡ n) where
  front_of : (x : A) (xs : List A) (u : Lines) → start (words (flat_map lines (x ∷ xs)) ++ u) ≡ n
  front_of x xs u = ap start (split (lines x) (flat_map lines xs) u) ∙ starts x (words (flat_map lines xs) ++ u)

  pub list_known : (xs ys : List A) → All Fits xs → All Fits ys → (u v : Lines) → (start u ≡ n → ⊥) → (start v ≡ n → ⊥)
      → words (flat_map lines xs) ++ u ≡ words (flat_map lines ys) ++ v → AreSame xs ys u v
  list_known [] [] p q u v nu nv e = (refl, e)
  list_known [] (y ∷ ys) p q u v nu nv e = absurd (nu (ap start e ∙ front_of y ys v))
  list_known (x ∷ xs) [] p q u v nu nv e = absurd (nv (ap start (sym e) ∙ front_of x xs u))
  list_known (x ∷ xs) (y ∷ ys) p q u v nu nv e =
      let h = known x y (All-head Fits x xs p) (All-head Fits y ys q) (words (flat_map lines xs) ++ u) (words (flat_map lines ys) ++ v)
      (sym (split (lines x) (flat_map lines xs) u) ∙ e ∙ split (lines y) (flat_map lines ys) v) in
      let k = list_known xs ys (All-tail Fits x xs p) (All-tail Fits y ys q) u v nu nv h.1 in
      ((λ i. h.0 i ∷ k.0 i), k.1)
