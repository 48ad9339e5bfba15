-- A proof over the places 0, 1, 2, .. of its sets.
use Rattle.std.proofs.Common.{◌≡◌, ℕ, zero, suc, ◌+◌, ◌<◌, List, [], ◌∷◌, ◌++◌, map, length, Option, Some, None, refl, sym, ◌∙◌, ap, ap₂, subst, arith, length-append}
use Rattle.std.proofs.lemmas.List.{length-map}
use Rattle.std.specs.Prelude.{flat_map, option_map}
use Rattle.std.specs.List.{range_with_len, slice_index_or}
use Rattle.proof_form.specs.Form as form
use Rattle.proof_form.specs.Form.{Layer, FairPart, Entry, FreeEntry, FreePart, Proof, EX, AX, AR, EU, AU, ER, map_layer, map_fair, map_rule, map_entry, map_free_entry, map_free, map_proof, layer_sets, fair_sets, rule_sets, entries_sets, free_sets, free_sets_of, sets_of}
use Rattle.proof_form.specs.Filling.{blank, proof_form_of}
use Rattle.proof_form.specs.Pinned.{IsFilled}

-- ---- how many sets there are, whatever they are

module _ {A B : Type 0} (g : A → B) where
  pub layers_length : (ls : List (Layer A)) → length (layer_sets (map (map_layer g) ls)) ≡ length (layer_sets ls)
  layers_length [] = refl
  layers_length (l ∷ ls) = ap suc (layers_length ls)

  pub lists_length : (xs : List (List A)) → length (flat_map (λ sets. sets) (map (map g) xs)) ≡ length (flat_map (λ sets. sets) xs)
  lists_length [] = refl
  lists_length (x ∷ xs) =
      length-append (map g x) (flat_map (λ sets. sets) (map (map g) xs)) ∙ ap₂ (λ m n. m + n) (length-map x g) (lists_length xs)
      ∙ sym (length-append x (flat_map (λ sets. sets) xs))

  pub fair_length : (p : FairPart A) → length (fair_sets (map_fair g p)) ≡ length (fair_sets p)
  fair_length p = ap suc (lists_length p.reach)

  pub rule_length : (r : form.Rule A) → length (rule_sets (map_rule g r)) ≡ length (rule_sets r)
  rule_length (EX set) = refl
  rule_length (AX set) = refl
  rule_length (AR set) = refl
  rule_length (EU sets) = length-map sets g
  rule_length (AU layers) = layers_length layers
  rule_length (ER fair untils) =
      length-append (fair_sets (map_fair g fair)) (map g untils) ∙ ap₂ (λ m n. m + n) (fair_length fair) (length-map untils g) ∙ sym (length-append (fair_sets fair) untils)

  pub entries_length : (es : List (Entry A)) → length (entries_sets (map (map_entry g) es)) ≡ length (entries_sets es)
  entries_length [] = refl
  entries_length (e ∷ es) =
      length-append (rule_sets (map_rule g e.rule)) (entries_sets (map (map_entry g) es)) ∙ ap₂ (λ m n. m + n) (rule_length e.rule) (entries_length es)
      ∙ sym (length-append (rule_sets e.rule) (entries_sets es))

  pub free_entries_length : (es : List (FreeEntry A)) → length (entries_sets (map (λ e. e.entry) (map (map_free_entry g) es))) ≡ length (entries_sets (map (λ e. e.entry) es))
  free_entries_length [] = refl
  free_entries_length (e ∷ es) =
      length-append (rule_sets (map_rule g e.entry.rule)) (entries_sets (map (λ e. e.entry) (map (map_free_entry g) es))) ∙ ap₂ (λ m n. m + n) (rule_length e.entry.rule) (free_entries_length es)
      ∙ sym (length-append (rule_sets e.entry.rule) (entries_sets (map (λ e. e.entry) es)))

  pub free_length : (p : FreePart A) → length (free_sets (map_free g p)) ≡ length (free_sets p)
  free_length p =
      length-append (layer_sets (map (map_layer g) p.nonfair)) (fair_sets (map_fair g p.fair) ++ entries_sets (map (λ e. e.entry) (map (map_free_entry g) p.entries)))
      ∙ ap₂ (λ m n. m + n) (layers_length p.nonfair)
      (length-append (fair_sets (map_fair g p.fair)) (entries_sets (map (λ e. e.entry) (map (map_free_entry g) p.entries))) ∙ ap₂ (λ m n. m + n) (fair_length p.fair) (free_entries_length p.entries)
      ∙ sym (length-append (fair_sets p.fair) (entries_sets (map (λ e. e.entry) p.entries))))
      ∙ sym (length-append (layer_sets p.nonfair) (fair_sets p.fair ++ entries_sets (map (λ e. e.entry) p.entries)))

  pub free_length_of : (o : Option (FreePart A)) → length (free_sets_of (option_map (map_free g) o)) ≡ length (free_sets_of o)
  free_length_of None = refl
  free_length_of (Some p) = free_length p

  pub proof_length : (p : Proof A) → length (sets_of (map_proof g p)) ≡ length (sets_of p)
  proof_length p =
      length-append (free_sets_of (option_map (map_free g) p.free)) (layer_sets (map (map_layer g) p.nonfair) ++ (fair_sets (map_fair g p.fair) ++ entries_sets (map (map_entry g) p.entries)))
      ∙ ap₂ (λ m n. m + n) (free_length_of p.free)
      (length-append (layer_sets (map (map_layer g) p.nonfair)) (fair_sets (map_fair g p.fair) ++ entries_sets (map (map_entry g) p.entries))
      ∙ ap₂ (λ m n. m + n) (layers_length p.nonfair)
      (length-append (fair_sets (map_fair g p.fair)) (entries_sets (map (map_entry g) p.entries)) ∙ ap₂ (λ m n. m + n) (fair_length p.fair) (entries_length p.entries)
      ∙ sym (length-append (fair_sets p.fair) (entries_sets p.entries)))
      ∙ sym (length-append (layer_sets p.nonfair) (fair_sets p.fair ++ entries_sets p.entries)))
      ∙ sym (length-append (free_sets_of p.free) (layer_sets p.nonfair ++ (fair_sets p.fair ++ entries_sets p.entries)))

-- ---- places in place of sets, from place k on

abbrev count_list : {A : Type 0} → ℕ → List A → List ℕ
count_list k xs = range_with_len k (length xs)

abbrev count_lists : {A : Type 0} → ℕ → List (List A) → List (List ℕ)
count_lists k [] = []
count_lists k (x ∷ xs) = count_list k x ∷ count_lists (k + length x) xs

abbrev count_layers : {A : Type 0} → ℕ → List (Layer A) → List (Layer ℕ)
count_layers k [] = []
count_layers k (l ∷ ls) = record { avoid = l.avoid; set = k } ∷ count_layers (k + 1) ls

abbrev count_fair : {A : Type 0} → ℕ → FairPart A → FairPart ℕ
count_fair k p = record { inside = k; reach = count_lists (k + 1) p.reach }

abbrev count_rule : {A : Type 0} → ℕ → form.Rule A → form.Rule ℕ
count_rule k (EX set) = EX k
count_rule k (AX set) = AX k
count_rule k (AR set) = AR k
count_rule k (EU sets) = EU (count_list k sets)
count_rule k (AU layers) = AU (count_layers k layers)
count_rule k (ER fair untils) = ER (count_fair k fair) (count_list (k + length (fair_sets fair)) untils)

abbrev count_entry : {A : Type 0} → ℕ → Entry A → Entry ℕ
count_entry k e = record { node = e.node; plus = e.plus; rule = count_rule k e.rule }

abbrev count_entries : {A : Type 0} → ℕ → List (Entry A) → List (Entry ℕ)
count_entries k [] = []
count_entries k (e ∷ es) = count_entry k e ∷ count_entries (k + length (rule_sets e.rule)) es

abbrev count_free_entries : {A : Type 0} → ℕ → List (FreeEntry A) → List (FreeEntry ℕ)
count_free_entries k [] = []
count_free_entries k (e ∷ es) = record { constraint = e.constraint; entry = count_entry k e.entry } ∷ count_free_entries (k + length (rule_sets e.entry.rule)) es

abbrev count_free : {A : Type 0} → ℕ → FreePart A → FreePart ℕ
count_free k p = record {
  nonfair = count_layers k p.nonfair;
  fair = count_fair (k + length (layer_sets p.nonfair)) p.fair;
  entries = count_free_entries (k + length (layer_sets p.nonfair) + length (fair_sets p.fair)) p.entries;
}

abbrev count_free_of : {A : Type 0} → ℕ → Option (FreePart A) → Option (FreePart ℕ)
count_free_of k None = None
count_free_of k (Some p) = Some (count_free k p)

abbrev count_block : {A : Type 0} → ℕ → Proof A → Option (FreePart ℕ) → Proof ℕ
count_block k p free = record {
  claim = p.claim;
  free = free;
  nonfair = count_layers k p.nonfair;
  fair = count_fair (k + length (layer_sets p.nonfair)) p.fair;
  entries = count_entries (k + length (layer_sets p.nonfair) + length (fair_sets p.fair)) p.entries;
  at = p.at;
}

abbrev count_proof : {A : Type 0} → Proof A → Proof ℕ
count_proof p = count_block (0 + length (free_sets_of p.free)) p (count_free_of 0 p.free)

-- ---- they stand in order

range_more : (k m n : ℕ) → range_with_len k m ++ range_with_len (k + m) n ≡ range_with_len k (m + n)
range_more k zero n =
    let at : k + 0 ≡ k = omega arith in
    let size : n ≡ 0 + n = omega arith in
    ap (λ i. range_with_len i n) at ∙ ap (range_with_len k) size
range_more k (suc m) n =
    let at : k + suc m ≡ (k + 1) + m = omega arith in
    let size : suc (m + n) ≡ suc m + n = omega arith in
    ap (λ i. k ∷ (range_with_len (k + 1) m ++ range_with_len i n)) at ∙ ap (λ ks. k ∷ ks) (range_more (k + 1) m n) ∙ ap (range_with_len k) size

module _ {A : Type 0} where
  in_order : (k : ℕ) (xs ys : List A) (ks ls : List ℕ) → ks ≡ range_with_len k (length xs) → ls ≡ range_with_len (k + length xs) (length ys) → ks ++ ls ≡ range_with_len k (length (xs ++ ys))
  in_order k xs ys ks ls first second =
      ap₂ (λ us vs. us ++ vs) first second ∙ range_more k (length xs) (length ys) ∙ ap (range_with_len k) (sym (length-append xs ys))

  layers_order : (k : ℕ) (ls : List (Layer A)) → layer_sets (count_layers k ls) ≡ range_with_len k (length (layer_sets ls))
  layers_order k [] = refl
  layers_order k (l ∷ ls) = ap (λ ks. k ∷ ks) (layers_order (k + 1) ls)

  lists_order : (k : ℕ) (xs : List (List A)) → flat_map (λ sets. sets) (count_lists k xs) ≡ range_with_len k (length (flat_map (λ sets. sets) xs))
  lists_order k [] = refl
  lists_order k (x ∷ xs) = in_order k x (flat_map (λ sets. sets) xs) (count_list k x) (flat_map (λ sets. sets) (count_lists (k + length x) xs)) refl (lists_order (k + length x) xs)

  fair_order : (k : ℕ) (p : FairPart A) → fair_sets (count_fair k p) ≡ range_with_len k (length (fair_sets p))
  fair_order k p = ap (λ ks. k ∷ ks) (lists_order (k + 1) p.reach)

  rule_order : (k : ℕ) (r : form.Rule A) → rule_sets (count_rule k r) ≡ range_with_len k (length (rule_sets r))
  rule_order k (EX set) = refl
  rule_order k (AX set) = refl
  rule_order k (AR set) = refl
  rule_order k (EU sets) = refl
  rule_order k (AU layers) = layers_order k layers
  rule_order k (ER fair untils) = in_order k (fair_sets fair) untils (fair_sets (count_fair k fair)) (count_list (k + length (fair_sets fair)) untils) (fair_order k fair) refl

  entries_order : (k : ℕ) (es : List (Entry A)) → entries_sets (count_entries k es) ≡ range_with_len k (length (entries_sets es))
  entries_order k [] = refl
  entries_order k (e ∷ es) =
      in_order k (rule_sets e.rule) (entries_sets es) (rule_sets (count_rule k e.rule)) (entries_sets (count_entries (k + length (rule_sets e.rule)) es))
      (rule_order k e.rule) (entries_order (k + length (rule_sets e.rule)) es)

  free_entries_order : (k : ℕ) (es : List (FreeEntry A)) → entries_sets (map (λ e. e.entry) (count_free_entries k es)) ≡ range_with_len k (length (entries_sets (map (λ e. e.entry) es)))
  free_entries_order k [] = refl
  free_entries_order k (e ∷ es) =
      in_order k (rule_sets e.entry.rule) (entries_sets (map (λ e. e.entry) es)) (rule_sets (count_rule k e.entry.rule))
      (entries_sets (map (λ e. e.entry) (count_free_entries (k + length (rule_sets e.entry.rule)) es)))
      (rule_order k e.entry.rule) (free_entries_order (k + length (rule_sets e.entry.rule)) es)

  free_order : (k : ℕ) (p : FreePart A) → free_sets (count_free k p) ≡ range_with_len k (length (free_sets p))
  free_order k p =
      let m = k + length (layer_sets p.nonfair) in
      let n = m + length (fair_sets p.fair) in
      in_order k (layer_sets p.nonfair) (fair_sets p.fair ++ entries_sets (map (λ e. e.entry) p.entries)) (layer_sets (count_layers k p.nonfair))
      (fair_sets (count_fair m p.fair) ++ entries_sets (map (λ e. e.entry) (count_free_entries n p.entries)))
      (layers_order k p.nonfair)
      (in_order m (fair_sets p.fair) (entries_sets (map (λ e. e.entry) p.entries)) (fair_sets (count_fair m p.fair)) (entries_sets (map (λ e. e.entry) (count_free_entries n p.entries)))
      (fair_order m p.fair) (free_entries_order n p.entries))

  free_order_of : (k : ℕ) (o : Option (FreePart A)) → free_sets_of (count_free_of k o) ≡ range_with_len k (length (free_sets_of o))
  free_order_of k None = refl
  free_order_of k (Some p) = free_order k p

  proof_order : (p : Proof A) → sets_of (count_proof p) ≡ range_with_len 0 (length (sets_of p))
  proof_order p =
      let k = 0 + length (free_sets_of p.free) in
      let m = k + length (layer_sets p.nonfair) in
      let n = m + length (fair_sets p.fair) in
      in_order 0 (free_sets_of p.free) (layer_sets p.nonfair ++ (fair_sets p.fair ++ entries_sets p.entries)) (free_sets_of (count_free_of 0 p.free))
      (layer_sets (count_layers k p.nonfair) ++ (fair_sets (count_fair m p.fair) ++ entries_sets (count_entries n p.entries)))
      (free_order_of 0 p.free)
      (in_order k (layer_sets p.nonfair) (fair_sets p.fair ++ entries_sets p.entries) (layer_sets (count_layers k p.nonfair)) (fair_sets (count_fair m p.fair) ++ entries_sets (count_entries n p.entries))
      (layers_order k p.nonfair)
      (in_order m (fair_sets p.fair) (entries_sets p.entries) (fair_sets (count_fair m p.fair)) (entries_sets (count_entries n p.entries)) (fair_order m p.fair) (entries_order n p.entries)))

-- ---- they are those of any proof of the form

module _ {A B : Type 0} (g : A → B) where
  layers_same : (k : ℕ) (ls : List (Layer A)) → count_layers k (map (map_layer g) ls) ≡ count_layers k ls
  layers_same k [] = refl
  layers_same k (l ∷ ls) = ap (λ rest. record { avoid = l.avoid; set = k } ∷ rest) (layers_same (k + 1) ls)

  list_same : (k : ℕ) (xs : List A) → count_list k (map g xs) ≡ count_list k xs
  list_same k xs = ap (range_with_len k) (length-map xs g)

  lists_same : (k : ℕ) (xs : List (List A)) → count_lists k (map (map g) xs) ≡ count_lists k xs
  lists_same k [] = refl
  lists_same k (x ∷ xs) = ap₂ (λ us vs. us ∷ vs) (list_same k x) (ap (λ n. count_lists (k + n) (map (map g) xs)) (length-map x g) ∙ lists_same (k + length x) xs)

  fair_same : (k : ℕ) (p : FairPart A) → count_fair k (map_fair g p) ≡ count_fair k p
  fair_same k p = ap (λ reach. record { inside = k; reach = reach }) (lists_same (k + 1) p.reach)

  rule_same : (k : ℕ) (r : form.Rule A) → count_rule k (map_rule g r) ≡ count_rule k r
  rule_same k (EX set) = refl
  rule_same k (AX set) = refl
  rule_same k (AR set) = refl
  rule_same k (EU sets) = ap EU (list_same k sets)
  rule_same k (AU layers) = ap AU (layers_same k layers)
  rule_same k (ER fair untils) =
      ap₂ (λ p us. ER p us) (fair_same k fair) (ap (λ n. count_list (k + n) (map g untils)) (fair_length g fair) ∙ list_same (k + length (fair_sets fair)) untils)

  entry_same : (k : ℕ) (e : Entry A) → count_entry k (map_entry g e) ≡ count_entry k e
  entry_same k e = ap (λ rule. record { node = e.node; plus = e.plus; rule = rule }) (rule_same k e.rule)

  entries_same : (k : ℕ) (es : List (Entry A)) → count_entries k (map (map_entry g) es) ≡ count_entries k es
  entries_same k [] = refl
  entries_same k (e ∷ es) =
      ap₂ (λ d rest. d ∷ rest) (entry_same k e) (ap (λ n. count_entries (k + n) (map (map_entry g) es)) (rule_length g e.rule) ∙ entries_same (k + length (rule_sets e.rule)) es)

  free_entries_same : (k : ℕ) (es : List (FreeEntry A)) → count_free_entries k (map (map_free_entry g) es) ≡ count_free_entries k es
  free_entries_same k [] = refl
  free_entries_same k (e ∷ es) =
      ap₂ (λ d rest. record { constraint = e.constraint; entry = d } ∷ rest) (entry_same k e.entry)
      (ap (λ n. count_free_entries (k + n) (map (map_free_entry g) es)) (rule_length g e.entry.rule) ∙ free_entries_same (k + length (rule_sets e.entry.rule)) es)

  free_same : (k : ℕ) (p : FreePart A) → count_free k (map_free g p) ≡ count_free k p
  free_same k p =
      let m = length (layer_sets p.nonfair) in
      let n = length (fair_sets p.fair) in
      λ i. record {
        nonfair = layers_same k p.nonfair i;
        fair = (ap (λ j. count_fair (k + j) (map_fair g p.fair)) (layers_length g p.nonfair) ∙ fair_same (k + m) p.fair) i;
        entries = (ap₂ (λ j l. count_free_entries (k + j + l) (map (map_free_entry g) p.entries)) (layers_length g p.nonfair) (fair_length g p.fair) ∙ free_entries_same (k + m + n) p.entries) i;
      }

  free_same_of : (k : ℕ) (o : Option (FreePart A)) → count_free_of k (option_map (map_free g) o) ≡ count_free_of k o
  free_same_of k None = refl
  free_same_of k (Some p) = ap Some (free_same k p)

  proof_same : (p : Proof A) → count_proof (map_proof g p) ≡ count_proof p
  proof_same p =
      let k = 0 + length (free_sets_of p.free) in
      let m = length (layer_sets p.nonfair) in
      let n = length (fair_sets p.fair) in
      let at = ap (λ a. 0 + a) (free_length_of g p.free) in
      λ i. record {
        claim = p.claim;
        free = free_same_of 0 p.free i;
        nonfair = (ap (λ a. count_layers a (map (map_layer g) p.nonfair)) at ∙ layers_same k p.nonfair) i;
        fair = (ap₂ (λ a j. count_fair (a + j) (map_fair g p.fair)) at (layers_length g p.nonfair) ∙ fair_same (k + m) p.fair) i;
        entries = (ap₂ (λ a l. count_entries (a + l) (map (map_entry g) p.entries)) (ap₂ (λ a j. a + j) at (layers_length g p.nonfair)) (fair_length g p.fair) ∙ entries_same (k + m + n) p.entries) i;
        at = p.at;
      }

-- ---- what stands at the places gives the proof

-- f gives the elements at the places from k on
abbrev Reads : {B : Type 0} → (ℕ → B) → ℕ → List B → Type 0
Reads f k [] = Unit {0}
Reads f k (x ∷ xs) = (f k ≡ x) × Reads f (k + 1) xs

module _ {B : Type 0} (f : ℕ → B) where
  reads_both : (k : ℕ) (xs ys : List B) → Reads f k (xs ++ ys) → Reads f k xs × Reads f (k + length xs) ys
  reads_both k [] ys h = let at : k ≡ k + 0 = omega arith in (tt, subst (λ i. Reads f i ys) at h)
  reads_both k (x ∷ xs) ys h =
      let r = reads_both (k + 1) xs ys h.1 in
      let at : k + 1 + length xs ≡ k + suc (length xs) = omega arith in
      ((h.0, r.0), subst (λ i. Reads f i ys) at r.1)

  reads_all : (k : ℕ) (xs : List B) (d : B) → ((j : ℕ) → j < length xs → f (k + j) ≡ slice_index_or xs j d) → Reads f k xs
  reads_all k [] d h = tt
  reads_all k (x ∷ xs) d h =
      let at : k ≡ k + 0 = omega arith in
      (ap f at ∙ h 0 (omega arith), reads_all (k + 1) xs d (λ j lt. let next : k + 1 + j ≡ k + suc j = omega arith in ap f next ∙ h (suc j) (omega arith)))

  list_back : (k : ℕ) (xs : List B) → Reads f k xs → map f (count_list k xs) ≡ xs
  list_back k [] h = refl
  list_back k (x ∷ xs) h = ap₂ (λ y ys. y ∷ ys) h.0 (list_back (k + 1) xs h.1)

  lists_back : (k : ℕ) (xs : List (List B)) → Reads f k (flat_map (λ sets. sets) xs) → map (map f) (count_lists k xs) ≡ xs
  lists_back k [] h = refl
  lists_back k (x ∷ xs) h = let r = reads_both k x (flat_map (λ sets. sets) xs) h in ap₂ (λ y ys. y ∷ ys) (list_back k x r.0) (lists_back (k + length x) xs r.1)

  layers_back : (k : ℕ) (ls : List (Layer B)) → Reads f k (layer_sets ls) → map (map_layer f) (count_layers k ls) ≡ ls
  layers_back k [] h = refl
  layers_back k (l ∷ ls) h = ap₂ (λ set rest. record { avoid = l.avoid; set = set } ∷ rest) h.0 (layers_back (k + 1) ls h.1)

  fair_back : (k : ℕ) (p : FairPart B) → Reads f k (fair_sets p) → map_fair f (count_fair k p) ≡ p
  fair_back k p h = ap₂ (λ set lists. record { inside = set; reach = lists }) h.0 (lists_back (k + 1) p.reach h.1)

  rule_back : (k : ℕ) (r : form.Rule B) → Reads f k (rule_sets r) → map_rule f (count_rule k r) ≡ r
  rule_back k (EX set) h = ap EX h.0
  rule_back k (AX set) h = ap AX h.0
  rule_back k (AR set) h = ap AR h.0
  rule_back k (EU sets) h = ap EU (list_back k sets h)
  rule_back k (AU layers) h = ap AU (layers_back k layers h)
  rule_back k (ER fair untils) h =
      let r = reads_both k (fair_sets fair) untils h in ap₂ (λ p us. ER p us) (fair_back k fair r.0) (list_back (k + length (fair_sets fair)) untils r.1)

  entry_back : (k : ℕ) (e : Entry B) → Reads f k (rule_sets e.rule) → map_entry f (count_entry k e) ≡ e
  entry_back k e h = ap (λ rule. record { node = e.node; plus = e.plus; rule = rule }) (rule_back k e.rule h)

  entries_back : (k : ℕ) (es : List (Entry B)) → Reads f k (entries_sets es) → map (map_entry f) (count_entries k es) ≡ es
  entries_back k [] h = refl
  entries_back k (e ∷ es) h =
      let r = reads_both k (rule_sets e.rule) (entries_sets es) h in ap₂ (λ d rest. d ∷ rest) (entry_back k e r.0) (entries_back (k + length (rule_sets e.rule)) es r.1)

  free_entries_back : (k : ℕ) (es : List (FreeEntry B)) → Reads f k (entries_sets (map (λ e. e.entry) es)) → map (map_free_entry f) (count_free_entries k es) ≡ es
  free_entries_back k [] h = refl
  free_entries_back k (e ∷ es) h =
      let r = reads_both k (rule_sets e.entry.rule) (entries_sets (map (λ e. e.entry) es)) h in
      ap₂ (λ d rest. record { constraint = e.constraint; entry = d } ∷ rest) (entry_back k e.entry r.0) (free_entries_back (k + length (rule_sets e.entry.rule)) es r.1)

  free_back : (k : ℕ) (p : FreePart B) → Reads f k (free_sets p) → map_free f (count_free k p) ≡ p
  free_back k p h =
      let r = reads_both k (layer_sets p.nonfair) (fair_sets p.fair ++ entries_sets (map (λ e. e.entry) p.entries)) h in
      let m = k + length (layer_sets p.nonfair) in
      let s = reads_both m (fair_sets p.fair) (entries_sets (map (λ e. e.entry) p.entries)) r.1 in
      λ i. record {
        nonfair = layers_back k p.nonfair r.0 i;
        fair = fair_back m p.fair s.0 i;
        entries = free_entries_back (m + length (fair_sets p.fair)) p.entries s.1 i;
      }

  free_back_of : (k : ℕ) (o : Option (FreePart B)) → Reads f k (free_sets_of o) → option_map (map_free f) (count_free_of k o) ≡ o
  free_back_of k None h = refl
  free_back_of k (Some p) h = ap Some (free_back k p h)

  proof_back : (p : Proof B) → Reads f 0 (sets_of p) → map_proof f (count_proof p) ≡ p
  proof_back p h =
      let k = 0 + length (free_sets_of p.free) in
      let q = reads_both 0 (free_sets_of p.free) (layer_sets p.nonfair ++ (fair_sets p.fair ++ entries_sets p.entries)) h in
      let r = reads_both k (layer_sets p.nonfair) (fair_sets p.fair ++ entries_sets p.entries) q.1 in
      let m = k + length (layer_sets p.nonfair) in
      let s = reads_both m (fair_sets p.fair) (entries_sets p.entries) r.1 in
      λ i. record {
        claim = p.claim;
        free = free_back_of 0 p.free q.0 i;
        nonfair = layers_back k p.nonfair r.0 i;
        fair = fair_back m p.fair s.0 i;
        entries = entries_back (m + length (fair_sets p.fair)) p.entries s.1 i;
        at = p.at;
      }

-- a proof of the same form over these numbers is the first with the numbers in place of its sets
pub same_form_filled : {A : Type 0} (p : Proof A) (q : Proof ℕ) (numbers : List ℕ) → proof_form_of q ≡ proof_form_of p → sets_of q ≡ numbers → IsFilled p numbers q
same_form_filled p q numbers same sets =
    let counts : count_proof q ≡ count_proof p = sym (proof_same blank q) ∙ ap count_proof same ∙ proof_same blank p in
    record {
      places = count_proof p;
      counted = proof_order p;
      here = λ d. proof_back (λ k. slice_index_or (sets_of p) k d) p (reads_all (λ k. slice_index_or (sets_of p) k d) 0 (sets_of p) d (λ j lt. let at : 0 + j ≡ j = omega arith in ap (λ k. slice_index_or (sets_of p) k d) at));
      there =
          ap (map_proof (λ k. slice_index_or numbers k 0)) (sym counts)
          ∙ proof_back (λ k. slice_index_or numbers k 0) q (reads_all (λ k. slice_index_or numbers k 0) 0 (sets_of q) 0 (λ j lt. let at : 0 + j ≡ j = omega arith in ap₂ (λ k ns. slice_index_or ns k 0) at (sym sets)));
    }
