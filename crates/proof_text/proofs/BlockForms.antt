-- Blocks by their first lines and what stands behind these: nodes behind their number, and a proof.
use Rattle.std.proofs.Common.{◌≡◌, inl, inr, ℕ, zero, suc, ◌+◌, ◌<◌, ◌≤◌, Bool, true, false, List, [], ◌∷◌, ◌++◌, length, flat_map, Option, Some, None, IsSomeAnd, codes, decimal, refl, sym, ◌∙◌, ap, subst, arith, true≢false, ◌-◌, map, get_or}
use Rattle.std.specs.Prelude.{◌⊎◌, ◌↔◌, All, AllPairs, IsSome, Result, Ok, Err, option_map, slice_get}
use Rattle.std.proofs.lemmas.Bool.{false≢true, cases_lt}
use Rattle.std.proofs.lemmas.List.{length-map, get_or_default}
use Rattle.std.proofs.lemmas.Option.{slice_get-map, slice_get_read}
use Rattle.std.proofs.lemmas.List.Elements.{All-nil, All-cons, All-head, All-tail}
use Rattle.bdd_nodes.specs.declared.triple.Triple.{Triple}
use Rattle.kripke_model.specs.Ctl.{Ctl, formula_of}
use Rattle.kripke_model.specs.Flat.{IsFlat}
use Rattle.kripke_model.specs.Leaves.{HasLeafConstraints}
use Rattle.kripke_model.specs.Signs.{node_count}
use Rattle.kripke_model.specs.System.{System, Condition}
use Rattle.kripke_model.specs.WellFormed.{ctl_of}
use Rattle.kripke_model.specs.declared.expressions.Formula.{Formula}
use Rattle.kripke_model.specs.Term.{has_path_operator}
use Rattle.proof_form.specs.Form.{Proof}
use Rattle.proof_form.specs.Shape.{spec_formula}
use Rattle.proof_text.specs.BlockReading.{IsSmallHead, claimed_words, FitsRest, rest_lines, FitsBehindHead, FindsOver, FindsFirst}
use Rattle.proof_text.specs.File.{Block}
use Rattle.proof_text.specs.FileParts.{FitsHead, head_line, FitsNode, one_node, FitsNodes, FitsProof, FitsNextBlock}
use Rattle.proof_text.specs.Lines.{Line, Words, Node, line_text, claim_word, counted, node_lines, proof_lines, block_lines, nodes_lines}
use Rattle.proof_text.specs.SetParts.{FindsNext}
use Rattle.proof_text.specs.Spells.{IsGoodLine}
use Rattle.proof_text.specs.declared.heads.Head.{Head}
use Rattle.text_lines.specs.Cursor.{Place}
use Rattle.text_lines.specs.Words.{AreWords}
use Rattle.text_lines.specs.Formats.{AreKnown, FitBoth, FitMany, lines_of_both, lines_of_many}
use Rattle.text_lines.specs.declared.faults.Fault.{Fault}
use Rattle.text_lines.proofs.FirstLines.{NoneStarts}
use Rattle.text_lines.proofs.FoundInTurn.{both_found, first_fault, last_fault}
use Rattle.text_lines.proofs.InTurn.{both_known}
use Rattle.text_lines.proofs.Lists.{same_first, same_rest}
use Rattle.text_lines.proofs.Many.{many_known}
use Rattle.text_lines.proofs.Spaced.{words_unique}
use Rattle.proof_text.proofs.BlockParts.{parts_block, block_parts}
use Rattle.proof_text.proofs.FewNodes.{few_nodes}
use Rattle.proof_text.proofs.Formed.{IsForm, formed_ok, formed_fault}
use Rattle.proof_text.proofs.FoundFree.{some_main, free_join}
use Rattle.proof_text.proofs.FoundMain.{whole_form}
use Rattle.proof_text.proofs.FoundNodes.{some_node, node_known}
use Rattle.proof_text.proofs.Joined.{Known, IsJoin}
use Rattle.proof_text.proofs.KnownBlocks.{claim_known}
use Rattle.proof_text.proofs.KnownLines.{IsSmall, same_number, Lines, AreSame}
use Rattle.proof_text.proofs.KnownParts.{plain_known, number_known}
use Rattle.proof_text.proofs.PlainLines.{one, number_and, claim_plain}
use Rattle.proof_text.proofs.PlainWords.{IsPlainLine}
use Rattle.proof_text.proofs.Recast.{recast_known}

-- ---- a head and a body, in a text whose nodes are judged

module _ {X Y Z : Type 0} {FitsX : X → Type 0} {lines_x : X → List Line} {FitsY : X → Y → Type 0} {lines_y : X → Y → List Line} {FitsZ : Z → Type 0} {lines_z : Z → List Line} {to : X × Y → Z} {from : Z → X × Y}
    (join : IsJoin FitsX lines_x FitsY lines_y FitsZ lines_z to from) {levels : ℕ} {old : Place} where
  pub first_over : {new : Place} {fault : Fault} → FindsOver levels FitsX lines_x old (Err fault) new → FindsOver levels FitsZ lines_z old (Err fault) new
  first_over found = formed_fault join.form (first_fault FitsY lines_y join.last found)

  pub last_over : {mid new : Place} {x : X} {fault : Fault} → FindsOver levels FitsX lines_x old (Ok x) mid → FindsOver levels (FitsY x) (lines_y x) mid (Err fault) new → FindsOver levels FitsZ lines_z old (Err fault) new
  last_over a found = formed_fault join.form (last_fault FitsY lines_y join.known a found)

  pub both_over : {mid new : Place} {x : X} {y : Y} → FindsOver levels FitsX lines_x old (Ok x) mid → FindsOver levels (FitsY x) (lines_y x) mid (Ok y) new → FindsOver levels FitsZ lines_z old (Ok (to (x, y))) new
  both_over a b = formed_ok join.form (both_found FitsY lines_y a b)

-- what is found of the next part is found of the first one
pub first_of_next : {X : Type 0} (Fits : X → Type 0) (lines : X → List Line) (levels : ℕ) (old new : Place) (r : Result X Fault) → FindsNext Fits lines old r new → FindsFirst levels Fits lines old r new
first_of_next Fits lines levels old new (Ok x) finds = finds levels
first_of_next Fits lines levels old new (Err fault) (inl s) = inr (inl s)
first_of_next Fits lines levels old new (Err fault) (inr finds) = inr (inr (finds levels))

-- ---- nodes behind their number

node_lines_are : (earlier nodes : List Triple) → node_lines earlier nodes ≡ lines_of_many one_node earlier nodes
node_lines_are earlier [] = refl
node_lines_are earlier (t ∷ nodes) = ap (λ ls. Node earlier t ∷ ls) (node_lines_are (earlier ++ t ∷ []) nodes)

many_nodes : (n : ℕ) (earlier nodes : List Triple) → FitMany FitsNode n earlier nodes → length nodes ≡ n
many_nodes zero earlier [] fits = refl
many_nodes zero earlier (t ∷ nodes) fits = absurd fits
many_nodes (suc n) earlier [] fits = absurd fits
many_nodes (suc n) earlier (t ∷ nodes) fits = ap suc (many_nodes n (earlier ++ t ∷ []) nodes fits.1)

some_nodes : (n : ℕ) (earlier : List Triple) → (nodes : List Triple) × FitMany FitsNode n earlier nodes
some_nodes zero earlier = ([], tt)
some_nodes (suc n) earlier = let t = some_node earlier in let rest = some_nodes n (earlier ++ t.0 ∷ []) in (t.0 ∷ rest.0, (t.1, rest.1))

abbrev count_lines : ℕ → List Line
count_lines n = counted (codes "nodes") n ∷ []

count_is_known : Known IsSmall count_lines
count_is_known = number_known (codes "nodes" ∷ []) refl (λ n fits. fits)

abbrev CountedNodes : ℕ × List Triple → Type 0
CountedNodes = FitBoth IsSmall (λ n. FitMany FitsNode n [])

abbrev counted_lines : ℕ × List Triple → List Line
counted_lines = lines_of_both count_lines (λ _. lines_of_many one_node [])

nodes_form : IsForm CountedNodes counted_lines FitsNodes nodes_lines (λ p. p.1) (λ nodes. (length nodes, nodes))
nodes_form = record {
  fits = λ p fits. let n = many_nodes p.0 [] p.1 fits.1 in (omega (arith, n, fits.0), subst (λ k. FitMany FitsNode k [] p.1) (sym n) fits.1);
  lines = λ p fits. ap (λ k. counted (codes "nodes") k ∷ node_lines [] p.1) (many_nodes p.0 [] p.1 fits.1) ∙ ap (λ ls. counted (codes "nodes") p.0 ∷ ls) (node_lines_are [] p.1);
  fits_back = λ nodes fits. fits;
  lines_back = λ nodes fits. ap (λ ls. counted (codes "nodes") (length nodes) ∷ ls) (sym (node_lines_are [] nodes));
}

pub nodes_join : IsJoin IsSmall count_lines (λ n. FitMany FitsNode n []) (λ _. lines_of_many one_node []) FitsNodes nodes_lines (λ p. p.1) (λ nodes. (length nodes, nodes))
nodes_join = record { form = nodes_form; last = λ n small. some_nodes n []; known = count_is_known }

counted_known : AreKnown line_text (IsGoodLine 0) CountedNodes counted_lines
counted_known =
    both_known line_text (IsGoodLine 0) IsSmall count_lines (λ n. FitMany FitsNode n []) (λ _. lines_of_many one_node []) count_is_known
    (λ n. many_known line_text (IsGoodLine 0) FitsNode one_node (node_known 0) n [])

nodes_known : Known FitsNodes nodes_lines
nodes_known =
    recast_known line_text (λ p. p.1) (λ nodes. (length nodes, nodes)) nodes_form.fits nodes_form.fits_back nodes_form.lines nodes_form.lines_back (IsGoodLine 0) (λ nodes fits. refl) counted_known

-- ---- a proof over them

all_or_not : {A : Type 0} (f : A → Bool) (xs : List A) → All (λ x. f x ≡ false) xs ⊎ (All (λ x. f x ≡ false) xs → ⊥)
all_or_not f [] = inl (All-nil (λ x. f x ≡ false))
all_or_not f (x ∷ xs) = go (f x) refl (all_or_not f xs)
  where
    go : (b : Bool) → f x ≡ b → All (λ y. f y ≡ false) xs ⊎ (All (λ y. f y ≡ false) xs → ⊥) → All (λ y. f y ≡ false) (x ∷ xs) ⊎ (All (λ y. f y ≡ false) (x ∷ xs) → ⊥)
    go true e r = inr (λ all. true≢false (sym e ∙ All-head (λ y. f y ≡ false) x xs all))
    go false e (inl r) = inl (All-cons (λ y. f y ≡ false) x xs e r)
    go false e (inr none) = inr (λ all. none (All-tail (λ y. f y ≡ false) x xs all))

module _ (m : System) (flat : IsFlat m) where
  module _ (f : Ctl) (few : IsSmall (node_count f)) (claim : Bool) where
    some_proof : (most : ℕ) → 1 ≤ most → (p : Proof ℕ) × FitsProof m f claim most p
    some_proof most some = go (all_or_not (λ c. has_path_operator c.expr) m.constraints)
      where
        go : HasLeafConstraints m ⊎ (HasLeafConstraints m → ⊥) → (p : Proof ℕ) × FitsProof m f claim most p
        go (inl leaves) = let p = some_main m flat f few claim most some in (p.0, (whole_form m f claim most leaves).fits p.0 p.1)
        go (inr free) =
            let join = free_join m f claim most flat few some free in
            let p = join.last tt tt in
            (p.0, join.form.fits (tt, p.0) (tt, p.1))

    pub rest_join : IsJoin FitsNodes nodes_lines (λ nodes. FitsProof m f claim (length nodes + 2)) (λ _. proof_lines m) (FitsRest m f claim) (rest_lines m) (λ p. p) (λ p. p)
    rest_join = record {
      form = record { fits = λ p fits. fits; lines = λ p fits. refl; fits_back = λ p fits. fits; lines_back = λ p fits. refl };
      last = λ nodes fits. some_proof (length nodes + 2) (omega arith);
      known = nodes_known;
    }

    pub most_is : (levels k n : ℕ) → k ≡ n → (old new : Place) (r : Result (Proof ℕ) Fault) → FindsOver levels (FitsProof m f claim (k + 2)) (proof_lines m) old r new → FindsOver levels (FitsProof m f claim (n + 2)) (proof_lines m) old r new
    most_is levels k n e old new r finds = subst (λ i. FindsOver levels (FitsProof m f claim (i + 2)) (proof_lines m) old r new) e finds

    some_rest : (p : List Triple × Proof ℕ) × FitsRest m f claim p
    some_rest = let p = some_proof 2 (omega arith) in (([], p.0), ((omega arith, tt), p.1))

-- ---- the first line

within : (cs : List Condition) (j : ℕ) → IsSome (option_map (λ (c : Condition). formula_of c.expr) (slice_get cs j)) → j < length cs
within [] j some = absurd (false≢true some)
within (c ∷ cs) zero some = omega arith
within (c ∷ cs) (suc j) some = omega (arith, within cs j some)

pub spec_within : (m : System) (j : ℕ) → IsSome (spec_formula m j) → (0 < j) × (j ≤ length m.specs)
spec_within m zero some = absurd (false≢true some)
spec_within m (suc j) some = (omega arith, omega (arith, within m.specs j some))

pub spec_there : (m : System) (j : ℕ) → 0 < j → j ≤ length m.specs → IsSome (spec_formula m j)
spec_there m zero some less = absurd (omega (arith, some))
spec_there m (suc j) some less = there m.specs j (omega (arith, less))
  where
    there : (cs : List Condition) (j : ℕ) → j < length cs → IsSome (option_map (λ (c : Condition). formula_of c.expr) (slice_get cs j))
    there [] j less = absurd (omega (arith, less))
    there (c ∷ cs) zero less = refl
    there (c ∷ cs) (suc j) less = there cs j (omega (arith, less))

-- the formula that a program has of it
module _ (m : System) (fs : List Formula) (are : map ctl_of fs ≡ map (λ (c : Condition). formula_of c.expr) m.specs) (f : Formula) where
  formula_here : (j : ℕ) → j < length m.specs → f ≡ get_or fs j f → spec_formula m (suc j) ≡ Some (ctl_of f)
  formula_here j less is =
      let as_many : j < length fs = omega (arith, less, ap length are, length-map fs ctl_of, length-map m.specs (λ (c : Condition). formula_of c.expr)) in
      sym (slice_get-map (λ (c : Condition). formula_of c.expr) m.specs j) ∙ ap (λ cs. slice_get cs j) (sym are) ∙ slice_get-map ctl_of fs j ∙ ap (option_map ctl_of) (slice_get_read fs (length fs) j f refl as_many is)

  pub formula_there : (j : ℕ) → IsSome (spec_formula m j) → f ≡ get_or fs (j - 1) f → spec_formula m j ≡ Some (ctl_of f)
  formula_there zero some is = absurd (false≢true some)
  formula_there (suc j) some is =
      let same : suc j - 1 ≡ j = omega arith in
      formula_here j (omega (arith, (spec_within m (suc j) some).1)) (is ∙ ap (λ k. get_or fs k f) same)

pub head_is_plain : (h : Head) → IsPlainLine (head_line h)
head_is_plain h = (number_and h.spec (claim_word h.claim ∷ []) (claim_plain h.claim), λ e. omega (arith, ap length e))

pub head_same : (a b : Head) → IsSmallHead a → IsSmallHead b → claimed_words a ≡ claimed_words b → a ≡ b
head_same a b p q e =
    let spec_text : decimal a.spec ≡ decimal b.spec = cc in
    let claim_text : claim_word a.claim ≡ claim_word b.claim = cc in
    let spec = same_number a.spec b.spec p q spec_text in
    let claim = claim_known a.claim b.claim claim_text in
    (λ i. record { spec = spec i; claim = claim i })

-- two heads that a line has
pub one_head : (text : List ℕ) (a b : Head) → IsSmallHead a → AreWords text (codes "spec" ∷ claimed_words a) → IsSmallHead b → AreWords text (codes "spec" ∷ claimed_words b) → a ≡ b
one_head text a b p x q y =
    head_same a b p q (same_rest (codes "spec") (codes "spec") (claimed_words a) (claimed_words b) (words_unique text (codes "spec" ∷ claimed_words a) (codes "spec" ∷ claimed_words b) x y))

module _ (m : System) (flat : IsFlat m) (last : ℕ) where
  pub small_head : (h : Head) → FitsHead m last h → IsSmallHead h
  small_head h fits = omega (arith, flat.limits.specifications, (spec_within m h.spec fits.0).1)

  head_known : Known (FitsHead m last) (λ h. head_line h ∷ [])
  head_known = plain_known (λ h. head_line h ∷ []) (λ h. one (head_line h) (head_is_plain h)) go
    where
      go : (a b : Head) → FitsHead m last a → FitsHead m last b → (u v : Lines) → (codes "spec" ∷ claimed_words a) ∷ u ≡ (codes "spec" ∷ claimed_words b) ∷ v → AreSame a b u v
      go a b p q u v e =
          let text : claimed_words a ≡ claimed_words b = same_rest (codes "spec") (codes "spec") (claimed_words a) (claimed_words b) (same_first (codes "spec" ∷ claimed_words a) (codes "spec" ∷ claimed_words b) u v e) in
          (head_same a b (small_head a p) (small_head b q) text, same_rest (codes "spec" ∷ claimed_words a) (codes "spec" ∷ claimed_words b) u v e)

  -- a line is judged: no head that fits is the line, where none is
  pub no_head : (t : List ℕ) → ((h : Head) → IsSmallHead h → AreWords t (codes "spec" ∷ claimed_words h) → ⊥) → (h : Head) → FitsHead m last h → AreWords t (codes "spec" ∷ claimed_words h) → ⊥
  no_head t none h fits is = none h (small_head h fits) is

  -- or where the one that is doesn't fit
  pub other_head : (t : List ℕ) (g : Head) → IsSmallHead g → AreWords t (codes "spec" ∷ claimed_words g) → (IsSome (spec_formula m g.spec) → last < g.spec → ⊥)
      → (h : Head) → FitsHead m last h → AreWords t (codes "spec" ∷ claimed_words h) → ⊥
  other_head t g small at none h fits is =
      let same : h ≡ g = one_head t h g (small_head h fits) is small at in
      none (subst (λ (x : Head). IsSome (spec_formula m x.spec)) same fits.0) (subst (λ (x : Head). last < x.spec) same fits.1)

-- ---- the last of the earlier blocks

abbrev Below : Block → Block → Type 0
Below a b = a.spec < b.spec

pub last_bound : (xs : List Block) (last : Block) → AllPairs Below xs → 1 ≤ length xs → last ≡ get_or xs (length xs - 1) last → (n : ℕ) → (last.spec < n) ↔ All (λ (a : Block). a.spec < n) xs
last_bound xs last rising some at n = (all, λ below. subst (λ (b : Block). b.spec < n) (sym at) (below (length xs - 1) last (omega (arith, some))))
  where
    all : last.spec < n → All (λ (a : Block). a.spec < n) xs
    all less i d inside =
        let here : last ≡ get_or xs (length xs - 1) d = at ∙ get_or_default xs (length xs - 1) last d (omega (arith, some)) in
        elim (cases_lt i (length xs - 1)) [
          | inl before ↦ omega (arith, rising i (length xs - 1) d before (omega (arith, some)), ap (λ (b : Block). b.spec) here, less)
          | inr same ↦ let k : length xs - 1 ≡ i = omega (arith, inside, same) in subst (λ j. (get_or xs j d).spec < n) k (omega (arith, ap (λ (b : Block). b.spec) here, less))
        ]

-- ---- a block

behind_head : (m : System) (levels : ℕ) (h : Head) (f : Ctl) → spec_formula m h.spec ≡ Some f → (mid new : Place) (r : Result (List Triple × Proof ℕ) Fault)
    → FindsOver levels (FitsRest m f h.claim) (rest_lines m) mid r new → FindsOver levels (FitsBehindHead m h) (rest_lines m) mid r new
behind_head m levels h f e mid new r finds = subst (λ o. FindsOver levels (λ p. IsSomeAnd o (λ g. FitsRest m g h.claim p)) (rest_lines m) mid r new) (sym e) finds

module _ (m : System) (earlier : List Block) (last n : ℕ) where
  abbrev to_block : Head × (List Triple × Proof ℕ) → Block
  to_block p = record { spec = p.0.spec; nodes = p.1.0; proof = p.1.1; first = n }

  abbrev of_block : Block → Head × (List Triple × Proof ℕ)
  of_block b = (record { spec = b.spec; claim = b.proof.claim }, (b.nodes, b.proof))

  own_claim : (f : Ctl) (claim : Bool) (most : ℕ) (p : Proof ℕ) → FitsProof m f claim most p → FitsProof m f p.claim most p
  own_claim f claim most p fits = subst (λ c. FitsProof m f c most p) (sym fits.claims) fits

  parts_of : (claim : Bool) (nodes : List Triple) (p : Proof ℕ) (o : Option Ctl) → IsSomeAnd o (λ f. FitsRest m f claim (nodes, p))
      → (FitsNodes nodes × IsSomeAnd o (λ f. FitsProof m f p.claim (length nodes + 2) p)) × (p.claim ≡ claim)
  parts_of claim nodes p None h = absurd h
  parts_of claim nodes p (Some f) h = ((h.0, own_claim f claim (length nodes + 2) p h.1), h.1.claims)

  of_parts : (nodes : List Triple) (p : Proof ℕ) (o : Option Ctl) → FitsNodes nodes → IsSomeAnd o (λ f. FitsProof m f p.claim (length nodes + 2) p) → IsSome o × IsSomeAnd o (λ f. FitsRest m f p.claim (nodes, p))
  of_parts nodes p None fits h = absurd h
  of_parts nodes p (Some f) fits h = (refl, (fits, h))

  module _ (bound : (k : ℕ) → 0 < k → (last < k) ↔ All (λ (a : Block). a.spec < k) earlier) (place : n ≡ 3 + length (flat_map (block_lines m) earlier)) where
    block_form : IsForm (FitBoth (FitsHead m last) (FitsBehindHead m)) (lines_of_both (λ h. head_line h ∷ []) (λ _. rest_lines m)) (FitsNextBlock m earlier) (block_lines m) to_block of_block
    block_form = record {
      fits = λ p fits.
          (parts_block m (to_block p) (parts_of p.0.claim p.1.0 p.1.1 (spec_formula m p.0.spec) fits.1).0, (bound p.0.spec (spec_within m p.0.spec fits.0.0).0).0 fits.0.1, place);
      lines = λ p fits.
          ap (λ c. Words (codes "spec" ∷ decimal p.0.spec ∷ claim_word c ∷ []) ∷ rest_lines m p.1) (parts_of p.0.claim p.1.0 p.1.1 (spec_formula m p.0.spec) fits.1).1;
      fits_back = λ b fits.
          let parts = block_parts m b fits.0 in
          let rest = of_parts b.nodes b.proof (spec_formula m b.spec) parts.0 parts.1 in
          ((rest.0, (bound b.spec (spec_within m b.spec rest.0).0).1 fits.1), rest.1);
      lines_back = λ b fits. refl;
    }

    module _ (flat : IsFlat m) where
      some_behind : (claim : Bool) (o : Option Ctl) → ((f : Ctl) → o ≡ Some f → IsSmall (node_count f)) → IsSome o → (p : List Triple × Proof ℕ) × IsSomeAnd o (λ f. FitsRest m f claim p)
      some_behind claim None few some = absurd (false≢true some)
      some_behind claim (Some f) few some = some_rest m flat f (few f refl) claim

      pub block_join : IsJoin (FitsHead m last) (λ h. head_line h ∷ []) (FitsBehindHead m) (λ _. rest_lines m) (FitsNextBlock m earlier) (block_lines m) to_block of_block
      block_join = record {
        form = block_form;
        last = λ h fits. some_behind h.claim (spec_formula m h.spec) (few_nodes m flat h.spec) fits.0;
        known = head_known m flat last;
      }

      module _ {levels : ℕ} {old : Place} where
        -- no block begins, or no line is left, where no head does
        pub first_of_block : {new : Place} {fault : Fault} → FindsFirst levels (FitsHead m last) (λ h. head_line h ∷ []) old (Err fault) new → FindsFirst levels (FitsNextBlock m earlier) (block_lines m) old (Err fault) new
        first_of_block (inl ends) = inl ends
        first_of_block (inr (inl s)) = inr (inl (record { text = s.text; shown = s.shown; none = none; is = s.is; room = s.room }))
          where
            none : NoneStarts line_text (FitsNextBlock m earlier) (block_lines m) s.text
            none b fits l ls whole is =
                s.none (of_block b).0 (block_form.fits_back b fits).0 (head_line (of_block b).0) [] refl
                (ap line_text (same_first (head_line (of_block b).0) l (rest_lines m (b.nodes, b.proof)) ls whole) ∙ is)
        first_of_block (inr (inr found)) = inr (inr (first_over block_join found))

        pub rest_of_block : {mid new : Place} {h : Head} {fault : Fault} (f : Ctl) → spec_formula m h.spec ≡ Some f → FindsOver levels (FitsHead m last) (λ h. head_line h ∷ []) old (Ok h) mid
            → FindsOver levels (FitsRest m f h.claim) (rest_lines m) mid (Err fault) new → FindsFirst levels (FitsNextBlock m earlier) (block_lines m) old (Err fault) new
        rest_of_block {mid} {new} {h} {fault} f e a finds = inr (inr (last_over block_join a (behind_head m levels h f e mid new (Err fault) finds)))

        pub block_found : {mid new : Place} {h : Head} {nodes : List Triple} {p : Proof ℕ} (f : Ctl) → spec_formula m h.spec ≡ Some f → FindsOver levels (FitsHead m last) (λ h. head_line h ∷ []) old (Ok h) mid
            → FindsOver levels (FitsRest m f h.claim) (rest_lines m) mid (Ok (nodes, p)) new → FindsOver levels (FitsNextBlock m earlier) (block_lines m) old (Ok (to_block (h, (nodes, p)))) new
        block_found {mid} {new} {h} {nodes} {p} f e a finds = both_over block_join a (behind_head m levels h f e mid new (Ok (nodes, p)) finds)
