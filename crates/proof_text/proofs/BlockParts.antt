-- A block is one of the model where its parts fit.
use Rattle.std.proofs.Common.{◌≡◌, ℕ, zero, suc, ◌+◌, ◌<◌, Bool, List, [], ◌∷◌, ◌++◌, length, map, flat_map, get_or, Option, Some, None, IsSomeAnd, refl, sym, ◌∙◌, ap, subst, arith}
use Rattle.std.specs.Prelude.{All, AllPairs}
use Rattle.std.proofs.lemmas.List.Elements.{All-nil, All-cons, All-head, All-tail, All-append, All-push, All-weaker}
use Rattle.std.proofs.lemmas.List.Kept.{AllPairs-cons}
use Rattle.bdd_nodes.specs.declared.triple.Triple.{Triple}
use Rattle.bdd_nodes.specs.Table.{Has}
use Rattle.kripke_model.specs.Ctl.{Ctl}
use Rattle.kripke_model.specs.System.{System, constraint_count}
use Rattle.proof_form.specs.Form.{Layer, FairPart, Rule, EX, AX, AR, EU, AU, ER, Entry, FreeEntry, FreePart, Proof, layer_sets, fair_sets, rule_sets, entries_sets, free_sets_of, sets_of}
use Rattle.proof_form.specs.Shape.{IsInShape, FitsFreely, FitsConstraints, Avoids, HasRule, HasConstraintRule, ComesBefore, StandsBefore, spec_formula}
use Rattle.proof_text.specs.File.{Block}
use Rattle.proof_text.specs.FileParts.{FitsNode, FitsFree, FitsProof, FitsBlock}
use Rattle.proof_text.specs.SetParts.{FitsSet, FitsSets, FitsLayers, FitsFair, FitsRule, FitsEntry}
use Rattle.proof_text.specs.Spells.{IsBlock, fair_lengths, rule_lengths, free_lengths, lengths_of, triple_numbers}
use Rattle.proof_text.proofs.KnownFits.{each_part}
use Rattle.proof_text.proofs.KnownLines.{IsSmall}
use Rattle.text_lines.specs.Formats.{FitEach, FitMany}
use Rattle.text_lines.proofs.Lists.{all_left, all_right}

-- ---- lists

part_each : {A : Type 0} (P : ℕ → Type 0) (f : A → List ℕ) (xs : List A) → All (λ x. All P (f x)) xs → All P (flat_map f xs)
part_each P f [] p = All-nil P
part_each P f (x ∷ xs) p = All-append P (f x) (flat_map f xs) (All-head (λ x. All P (f x)) x xs p) (part_each P f xs (All-tail (λ x. All P (f x)) x xs p))

lefts : {A : Type 0} (P Q : A → Type 0) (xs : List A) → All (λ x. P x × Q x) xs → All P xs
lefts P Q xs p k d less = (p k d less).0

rights : {A : Type 0} (P Q : A → Type 0) (xs : List A) → All (λ x. P x × Q x) xs → All Q xs
rights P Q xs p k d less = (p k d less).1

pairs : {A : Type 0} (P Q : A → Type 0) (xs : List A) → All P xs → All Q xs → All (λ x. P x × Q x) xs
pairs P Q xs p q k d less = (p k d less, q k d less)

mapped : {A : Type 0} (P : ℕ → Type 0) (f : A → ℕ) (xs : List A) → All (λ x. P (f x)) xs → All P (map f xs)
mapped P f [] p = All-nil P
mapped P f (x ∷ xs) p = All-cons P (f x) (map f xs) (All-head (λ x. P (f x)) x xs p) (mapped P f xs (All-tail (λ x. P (f x)) x xs p))

unmapped : {A : Type 0} (P : ℕ → Type 0) (f : A → ℕ) (xs : List A) → All P (map f xs) → All (λ x. P (f x)) xs
unmapped P f [] p = All-nil (λ x. P (f x))
unmapped P f (x ∷ xs) p = All-cons (λ x. P (f x)) x xs (All-head P (f x) (map f xs) p) (unmapped P f xs (All-tail P (f x) (map f xs) p))

single : (P : ℕ → Type 0) (n : ℕ) → P n → All P (n ∷ [])
single P n p = All-cons P n [] p (All-nil P)

-- ---- so many that rise

module _ {X : Type 0} (P Q : X → Type 0) (B : X → X → Type 0) where
  abbrev FitsNext : List X → X → Type 0
  FitsNext earlier x = P x × All (λ a. B a x) earlier × Q x

  pub record Rise (earlier xs : List X) : Type 0 where
    pub rising : AllPairs B xs
    pub behind : All (λ x. All (λ a. B a x) earlier) xs
    pub first : All P xs
    pub last : All Q xs

  pub rise : (earlier xs : List X) → FitEach FitsNext earlier xs → Rise earlier xs
  rise earlier [] h = record { rising = λ i j d lt within. absurd (omega (arith, lt, within)); behind = λ k d less. absurd (omega (arith, less)); first = All-nil P; last = All-nil Q }
  rise earlier (x ∷ xs) h =
      let r = rise (earlier ++ x ∷ []) xs h.1 in
      record {
        rising = AllPairs-cons B x xs (λ k d less. All-head (λ a. B a (get_or xs k d)) x [] (all_right (λ a. B a (get_or xs k d)) earlier (x ∷ []) (r.behind k d less))) r.rising;
        behind = All-cons (λ y. All (λ a. B a y) earlier) x xs h.0.1 (λ k d less. all_left (λ a. B a (get_or xs k d)) earlier (x ∷ []) (r.behind k d less));
        first = All-cons P x xs h.0.0 r.first;
        last = All-cons Q x xs h.0.2 r.last;
      }

  pub rise_back : (earlier xs : List X) → Rise earlier xs → FitEach FitsNext earlier xs
  rise_back earlier [] r = tt
  rise_back earlier (x ∷ xs) r = (
    (All-head P x xs r.first, All-head (λ y. All (λ a. B a y) earlier) x xs r.behind, All-head Q x xs r.last),
    rise_back (earlier ++ x ∷ []) xs (record {
      rising = λ i j d less within. r.rising (suc i) (suc j) d (omega (arith, less)) (omega (arith, within));
      behind = λ k d less. All-push (λ a. B a (get_or xs k d)) earlier x (r.behind (suc k) d (omega (arith, less))) (r.rising zero (suc k) d (omega arith) (omega (arith, less)));
      first = All-tail P x xs r.first;
      last = All-tail Q x xs r.last;
    }),
  )

-- ---- what fits, and what is small and a node

module _ (most : ℕ) where
  abbrev Below : ℕ → Type 0
  Below n = n < most

  pub record AreFew (count : ℕ) (sets lengths : List ℕ) : Type 0 where
    pub below : All Below sets
    pub small : All IsSmall sets
    pub lengths_small : All IsSmall lengths

  layers_few : (count : ℕ) (layers : List (Layer ℕ)) → FitsLayers count most layers → All (Avoids count) layers × All Below (layer_sets layers) × All IsSmall (layer_sets layers) × IsSmall (length layers)
  layers_few count layers (each, long) = (
    lefts (Avoids count) (λ l. FitsSet most l.set) layers each,
    mapped Below (λ l. l.set) layers (lefts (λ l. l.set < most) (λ l. IsSmall l.set) layers (rights (Avoids count) (λ l. FitsSet most l.set) layers each)),
    mapped IsSmall (λ l. l.set) layers (rights (λ l. l.set < most) (λ l. IsSmall l.set) layers (rights (Avoids count) (λ l. FitsSet most l.set) layers each)),
    long,
  )

  few_layers : (count : ℕ) (layers : List (Layer ℕ)) → All (Avoids count) layers → All Below (layer_sets layers) → All IsSmall (layer_sets layers) → IsSmall (length layers) → FitsLayers count most layers
  few_layers count layers avoid below small long = (pairs (Avoids count) (λ l. FitsSet most l.set) layers avoid (pairs (λ l. l.set < most) (λ l. IsSmall l.set) layers (unmapped Below (λ l. l.set) layers below) (unmapped IsSmall (λ l. l.set) layers small)), long)

  fair_few : (count : ℕ) (p : FairPart ℕ) → FitsFair count most p → (length p.reach ≡ count) × All Below (fair_sets p) × All IsSmall (fair_sets p) × All IsSmall (fair_lengths p)
  fair_few count p (inside, reach, each) = (
    reach,
    All-cons Below p.inside (flat_map (λ sets. sets) p.reach) inside.0 (part_each Below (λ sets. sets) p.reach (All-weaker (FitsSets most) (All Below) (λ sets h. lefts Below IsSmall sets h.0) p.reach each)),
    All-cons IsSmall p.inside (flat_map (λ sets. sets) p.reach) inside.1 (part_each IsSmall (λ sets. sets) p.reach (All-weaker (FitsSets most) (All IsSmall) (λ sets h. rights Below IsSmall sets h.0) p.reach each)),
    part_each IsSmall (λ sets. length sets ∷ []) p.reach (All-weaker (FitsSets most) (λ sets. All IsSmall (length sets ∷ [])) (λ sets h. single IsSmall (length sets) h.1) p.reach each),
  )

  few_fair : (count : ℕ) (p : FairPart ℕ) → length p.reach ≡ count → All Below (fair_sets p) → All IsSmall (fair_sets p) → All IsSmall (fair_lengths p) → FitsFair count most p
  few_fair count p reach below small long =
      let b = each_part Below (λ sets. sets) p.reach (All-tail Below p.inside (flat_map (λ sets. sets) p.reach) below) in
      let s = each_part IsSmall (λ sets. sets) p.reach (All-tail IsSmall p.inside (flat_map (λ sets. sets) p.reach) small) in
      let l = each_part IsSmall (λ sets. length sets ∷ []) p.reach long in (
        (All-head Below p.inside (flat_map (λ sets. sets) p.reach) below, All-head IsSmall p.inside (flat_map (λ sets. sets) p.reach) small),
        reach,
        λ k d less. (pairs Below IsSmall (get_or p.reach k d) (b k d less) (s k d less), All-head IsSmall (length (get_or p.reach k d)) [] (l k d less)),
      )

  rule_few : (count : ℕ) (r : Rule ℕ) → FitsRule count most r → FitsConstraints count r × All Below (rule_sets r) × All IsSmall (rule_sets r) × All IsSmall (rule_lengths r)
  rule_few count (EX set) h = (tt, single Below set h.0, single IsSmall set h.1, All-nil IsSmall)
  rule_few count (AX set) h = (tt, single Below set h.0, single IsSmall set h.1, All-nil IsSmall)
  rule_few count (AR set) h = (tt, single Below set h.0, single IsSmall set h.1, All-nil IsSmall)
  rule_few count (EU sets) h = (tt, lefts Below IsSmall sets h.0, rights Below IsSmall sets h.0, single IsSmall (length sets) h.1)
  rule_few count (AU layers) h = let l = layers_few count layers h in (l.0, l.1, l.2, single IsSmall (length layers) l.3)
  rule_few count (ER fair untils) h =
      let l = fair_few count fair h.0 in (
        l.0,
        All-append Below (fair_sets fair) untils l.1 (lefts Below IsSmall untils h.1.0),
        All-append IsSmall (fair_sets fair) untils l.2 (rights Below IsSmall untils h.1.0),
        All-append IsSmall (fair_lengths fair) (length untils ∷ []) l.3 (single IsSmall (length untils) h.1.1),
      )

  few_rule : (count : ℕ) (r : Rule ℕ) → FitsConstraints count r → All Below (rule_sets r) → All IsSmall (rule_sets r) → All IsSmall (rule_lengths r) → FitsRule count most r
  few_rule count (EX set) f b s l = (All-head Below set [] b, All-head IsSmall set [] s)
  few_rule count (AX set) f b s l = (All-head Below set [] b, All-head IsSmall set [] s)
  few_rule count (AR set) f b s l = (All-head Below set [] b, All-head IsSmall set [] s)
  few_rule count (EU sets) f b s l = (pairs Below IsSmall sets b s, All-head IsSmall (length sets) [] l)
  few_rule count (AU layers) f b s l = few_layers count layers f b s (All-head IsSmall (length layers) [] l)
  few_rule count (ER fair untils) f b s l = (
    few_fair count fair f (all_left Below (fair_sets fair) untils b) (all_left IsSmall (fair_sets fair) untils s) (all_left IsSmall (fair_lengths fair) (length untils ∷ []) l),
    (
      pairs Below IsSmall untils (all_right Below (fair_sets fair) untils b) (all_right IsSmall (fair_sets fair) untils s),
      All-head IsSmall (length untils) [] (all_right IsSmall (fair_lengths fair) (length untils ∷ []) l),
    ),
  )

  -- ---- entries

  abbrev entry_lengths : List (Entry ℕ) → List ℕ
  entry_lengths es = flat_map (λ e. rule_lengths e.rule) es

  abbrev free_entry_lengths : List (FreeEntry ℕ) → List ℕ
  free_entry_lengths es = flat_map (λ e. rule_lengths e.entry.rule) es

  entries_few : (f : Ctl) (count : ℕ) (es : List (Entry ℕ)) → FitEach (FitsEntry f count most) [] es
      → AllPairs ComesBefore es × All (HasRule f) es × All (λ (e : Entry ℕ). FitsConstraints count e.rule) es × All Below (entries_sets es) × All IsSmall (entries_sets es) × All IsSmall (flat_map (λ e. rule_lengths e.rule) es)
  entries_few f count es h =
      let r = rise (HasRule f) (λ e. FitsRule count most e.rule) ComesBefore [] es h in (
        r.rising,
        r.first,
        λ k d less. (rule_few count (get_or es k d).rule (r.last k d less)).0,
        part_each Below (λ e. rule_sets e.rule) es (λ k d less. (rule_few count (get_or es k d).rule (r.last k d less)).1),
        part_each IsSmall (λ e. rule_sets e.rule) es (λ k d less. (rule_few count (get_or es k d).rule (r.last k d less)).2),
        part_each IsSmall (λ e. rule_lengths e.rule) es (λ k d less. (rule_few count (get_or es k d).rule (r.last k d less)).3),
      )

  few_entries : (f : Ctl) (count : ℕ) (es : List (Entry ℕ)) → AllPairs ComesBefore es → All (HasRule f) es → All (λ (e : Entry ℕ). FitsConstraints count e.rule) es → All Below (entries_sets es) → All IsSmall (entries_sets es)
      → All IsSmall (flat_map (λ e. rule_lengths e.rule) es) → FitEach (FitsEntry f count most) [] es
  few_entries f count es rising rules fits below small long =
      let b = each_part Below (λ e. rule_sets e.rule) es below in
      let s = each_part IsSmall (λ e. rule_sets e.rule) es small in
      let l = each_part IsSmall (λ e. rule_lengths e.rule) es long in
      rise_back (HasRule f) (λ e. FitsRule count most e.rule) ComesBefore [] es
      (record { rising = rising; behind = λ k d less. All-nil (λ a. ComesBefore a (get_or es k d)); first = rules; last = λ k d less. few_rule count (get_or es k d).rule (fits k d less) (b k d less) (s k d less) (l k d less) })

-- ---- the free part

flat_over : {A B : Type 0} (f : B → List ℕ) (g : A → B) (xs : List A) → flat_map f (map g xs) ≡ flat_map (λ x. f (g x)) xs
flat_over f g [] = refl
flat_over f g (x ∷ xs) = ap (λ ys. f (g x) ++ ys) (flat_over f g xs)

module _ (m : System) (most : ℕ) where
  abbrev Under : ℕ → Type 0
  Under n = n < most

  free_sets_are : (es : List (FreeEntry ℕ)) → entries_sets (map (λ e. e.entry) es) ≡ flat_map (λ e. rule_sets e.entry.rule) es
  free_sets_are es = flat_over (λ e. rule_sets e.rule) (λ e. e.entry) es

  free_few : (free : Option (FreePart ℕ)) → FitsFree m most free → FitsFreely m free × All Under (free_sets_of free) × All IsSmall (free_sets_of free) × All IsSmall (free_lengths free)
  free_few None h = (h, All-nil Under, All-nil IsSmall, All-nil IsSmall)
  free_few (Some part) (some, nonfair, fair, entries) =
      let r = rise (HasConstraintRule m) (λ e. FitsRule 1 most e.entry.rule) StandsBefore [] part.entries entries in
      let n = layers_few most 1 part.nonfair nonfair in
      let p = fair_few most 1 part.fair fair in
      let b : All Under (flat_map (λ e. rule_sets e.entry.rule) part.entries) = part_each Under (λ e. rule_sets e.entry.rule) part.entries (λ k d less. (rule_few most 1 (get_or part.entries k d).entry.rule (r.last k d less)).1) in
      let s : All IsSmall (flat_map (λ e. rule_sets e.entry.rule) part.entries) = part_each IsSmall (λ e. rule_sets e.entry.rule) part.entries (λ k d less. (rule_few most 1 (get_or part.entries k d).entry.rule (r.last k d less)).2) in (
        (some, record { rising = r.rising; rules = r.first; avoided = n.0; reach = p.0; fits = λ k d less. (rule_few most 1 (get_or part.entries k d).entry.rule (r.last k d less)).0 }),
        All-append Under (layer_sets part.nonfair) (fair_sets part.fair ++ entries_sets (map (λ e. e.entry) part.entries)) n.1
            (All-append Under (fair_sets part.fair) (entries_sets (map (λ e. e.entry) part.entries)) p.1 (subst (All Under) (sym (free_sets_are part.entries)) b)),
        All-append IsSmall (layer_sets part.nonfair) (fair_sets part.fair ++ entries_sets (map (λ e. e.entry) part.entries)) n.2
            (All-append IsSmall (fair_sets part.fair) (entries_sets (map (λ e. e.entry) part.entries)) p.2 (subst (All IsSmall) (sym (free_sets_are part.entries)) s)),
        All-cons IsSmall (length part.nonfair) (fair_lengths part.fair ++ flat_map (λ e. rule_lengths e.entry.rule) part.entries) n.3
            (All-append IsSmall (fair_lengths part.fair) (flat_map (λ e. rule_lengths e.entry.rule) part.entries) p.3
            (part_each IsSmall (λ e. rule_lengths e.entry.rule) part.entries (λ k d less. (rule_few most 1 (get_or part.entries k d).entry.rule (r.last k d less)).3))),
      )

  few_free : (free : Option (FreePart ℕ)) → FitsFreely m free → All Under (free_sets_of free) → All IsSmall (free_sets_of free) → All IsSmall (free_lengths free) → FitsFree m most free
  few_free None h b s l = h
  few_free (Some part) (some, shape) b s l =
      let own : List ℕ = entries_sets (map (λ e. e.entry) part.entries) in
      let lens : List ℕ = flat_map (λ e. rule_lengths e.entry.rule) part.entries in
      let b1 = all_right Under (layer_sets part.nonfair) (fair_sets part.fair ++ own) b in
      let s1 = all_right IsSmall (layer_sets part.nonfair) (fair_sets part.fair ++ own) s in
      let l1 = All-tail IsSmall (length part.nonfair) (fair_lengths part.fair ++ lens) l in
      let b2 = each_part Under (λ e. rule_sets e.entry.rule) part.entries (subst (All Under) (free_sets_are part.entries) (all_right Under (fair_sets part.fair) own b1)) in
      let s2 = each_part IsSmall (λ e. rule_sets e.entry.rule) part.entries (subst (All IsSmall) (free_sets_are part.entries) (all_right IsSmall (fair_sets part.fair) own s1)) in
      let l2 = each_part IsSmall (λ e. rule_lengths e.entry.rule) part.entries (all_right IsSmall (fair_lengths part.fair) lens l1) in (
        some,
        few_layers most 1 part.nonfair shape.avoided (all_left Under (layer_sets part.nonfair) (fair_sets part.fair ++ own) b) (all_left IsSmall (layer_sets part.nonfair) (fair_sets part.fair ++ own) s)
            (All-head IsSmall (length part.nonfair) (fair_lengths part.fair ++ lens) l),
        few_fair most 1 part.fair shape.reach (all_left Under (fair_sets part.fair) own b1) (all_left IsSmall (fair_sets part.fair) own s1) (all_left IsSmall (fair_lengths part.fair) lens l1),
        rise_back (HasConstraintRule m) (λ e. FitsRule 1 most e.entry.rule) StandsBefore [] part.entries
            (record { rising = shape.rising; behind = λ k d less. All-nil (λ a. StandsBefore a (get_or part.entries k d)); first = shape.rules; last = λ k d less. few_rule most 1 (get_or part.entries k d).entry.rule (shape.fits k d less) (b2 k d less) (s2 k d less) (l2 k d less) }),
      )

  -- ---- a proof

  pub proof_few : (f : Ctl) (claim : Bool) (p : Proof ℕ) → FitsProof m f claim most p → IsInShape m f p × All Under (sets_of p) × All IsSmall (sets_of p) × All IsSmall (lengths_of p)
  proof_few f claim p h =
      let free = free_few p.free h.free in
      let n = layers_few most (constraint_count m) p.nonfair h.nonfair in
      let a = fair_few most (constraint_count m) p.fair h.fair in
      let e = entries_few most f (constraint_count m) p.entries h.entries in (
        record { free = free.0; rising = e.0; rules = e.1; avoided = n.0; reach = a.0; fits = e.2; claim = h.claims ∙ h.end.0; at_state = h.end.1 },
        All-append Under (free_sets_of p.free) (layer_sets p.nonfair ++ (fair_sets p.fair ++ entries_sets p.entries)) free.1
            (All-append Under (layer_sets p.nonfair) (fair_sets p.fair ++ entries_sets p.entries) n.1 (All-append Under (fair_sets p.fair) (entries_sets p.entries) a.1 e.3)),
        All-append IsSmall (free_sets_of p.free) (layer_sets p.nonfair ++ (fair_sets p.fair ++ entries_sets p.entries)) free.2
            (All-append IsSmall (layer_sets p.nonfair) (fair_sets p.fair ++ entries_sets p.entries) n.2 (All-append IsSmall (fair_sets p.fair) (entries_sets p.entries) a.2 e.4)),
        All-append IsSmall (free_lengths p.free) (length p.nonfair ∷ fair_lengths p.fair ++ flat_map (λ e. rule_lengths e.rule) p.entries) free.3
            (All-cons IsSmall (length p.nonfair) (fair_lengths p.fair ++ flat_map (λ e. rule_lengths e.rule) p.entries) n.3
            (All-append IsSmall (fair_lengths p.fair) (flat_map (λ e. rule_lengths e.rule) p.entries) a.3 e.5)),
      )

  pub few_proof : (f : Ctl) (p : Proof ℕ) → IsInShape m f p → All Under (sets_of p) → All IsSmall (sets_of p) → All IsSmall (lengths_of p) → FitsProof m f p.claim most p
  few_proof f p shape b s l =
      let lens : List ℕ = flat_map (λ e. rule_lengths e.rule) p.entries in
      let b1 = all_right Under (free_sets_of p.free) (layer_sets p.nonfair ++ (fair_sets p.fair ++ entries_sets p.entries)) b in
      let s1 = all_right IsSmall (free_sets_of p.free) (layer_sets p.nonfair ++ (fair_sets p.fair ++ entries_sets p.entries)) s in
      let l1 = all_right IsSmall (free_lengths p.free) (length p.nonfair ∷ fair_lengths p.fair ++ lens) l in
      let b2 = all_right Under (layer_sets p.nonfair) (fair_sets p.fair ++ entries_sets p.entries) b1 in
      let s2 = all_right IsSmall (layer_sets p.nonfair) (fair_sets p.fair ++ entries_sets p.entries) s1 in
      let l2 = All-tail IsSmall (length p.nonfair) (fair_lengths p.fair ++ lens) l1 in
      record {
        claims = refl;
        free = few_free p.free shape.free (all_left Under (free_sets_of p.free) (layer_sets p.nonfair ++ (fair_sets p.fair ++ entries_sets p.entries)) b)
            (all_left IsSmall (free_sets_of p.free) (layer_sets p.nonfair ++ (fair_sets p.fair ++ entries_sets p.entries)) s)
            (all_left IsSmall (free_lengths p.free) (length p.nonfair ∷ fair_lengths p.fair ++ lens) l);
        nonfair = few_layers most (constraint_count m) p.nonfair shape.avoided (all_left Under (layer_sets p.nonfair) (fair_sets p.fair ++ entries_sets p.entries) b1)
            (all_left IsSmall (layer_sets p.nonfair) (fair_sets p.fair ++ entries_sets p.entries) s1) (All-head IsSmall (length p.nonfair) (fair_lengths p.fair ++ lens) l1);
        fair = few_fair most (constraint_count m) p.fair shape.reach (all_left Under (fair_sets p.fair) (entries_sets p.entries) b2) (all_left IsSmall (fair_sets p.fair) (entries_sets p.entries) s2)
            (all_left IsSmall (fair_lengths p.fair) lens l2);
        entries = few_entries most f (constraint_count m) p.entries shape.rising shape.rules shape.fits (all_right Under (fair_sets p.fair) (entries_sets p.entries) b2)
            (all_right IsSmall (fair_sets p.fair) (entries_sets p.entries) s2) (all_right IsSmall (fair_lengths p.fair) lens l2);
        end = (shape.claim, shape.at_state);
      }

-- ---- nodes and blocks

pub nodes_small : (earlier nodes : List Triple) → FitMany FitsNode (length nodes) earlier nodes → All IsSmall (flat_map triple_numbers nodes)
nodes_small earlier [] h = All-nil IsSmall
nodes_small earlier (t ∷ nodes) h = All-append IsSmall (triple_numbers t) (flat_map triple_numbers nodes) h.0 (nodes_small (earlier ++ t ∷ []) nodes h.1)

pub small_nodes : (earlier nodes : List Triple) → All IsSmall (flat_map triple_numbers nodes) → FitMany FitsNode (length nodes) earlier nodes
small_nodes earlier [] h = tt
small_nodes earlier (t ∷ nodes) h = (all_left IsSmall (triple_numbers t) (flat_map triple_numbers nodes) h, small_nodes (earlier ++ t ∷ []) nodes (all_right IsSmall (triple_numbers t) (flat_map triple_numbers nodes) h))

module _ (m : System) where
  pub parts_block : (b : Block) → FitsBlock m b → IsBlock m b
  parts_block b (nodes, proof) = record {
    shape = parts.0;
    sets = parts.1;
    small = All-cons IsSmall (length b.nodes) (flat_map triple_numbers b.nodes ++ (lengths_of b.proof ++ sets_of b.proof)) nodes.0
        (All-append IsSmall (flat_map triple_numbers b.nodes) (lengths_of b.proof ++ sets_of b.proof) (nodes_small [] b.nodes nodes.1)
        (All-append IsSmall (lengths_of b.proof) (sets_of b.proof) parts.3 parts.2));
  }
    where
      go : (o : Option Ctl) → IsSomeAnd o (λ f. FitsProof m f b.proof.claim (length b.nodes + 2) b.proof)
          → IsSomeAnd o (λ f. IsInShape m f b.proof) × All (Has b.nodes) (sets_of b.proof) × All IsSmall (sets_of b.proof) × All IsSmall (lengths_of b.proof)
      go None h = absurd h
      go (Some f) h = proof_few m (length b.nodes + 2) f b.proof.claim b.proof h

      parts : IsSomeAnd (spec_formula m b.spec) (λ f. IsInShape m f b.proof) × All (Has b.nodes) (sets_of b.proof) × All IsSmall (sets_of b.proof) × All IsSmall (lengths_of b.proof)
      parts = go (spec_formula m b.spec) proof

  pub block_parts : (b : Block) → IsBlock m b → FitsBlock m b
  block_parts b is = ((All-head IsSmall (length b.nodes) (flat_map triple_numbers b.nodes ++ (lengths_of b.proof ++ sets_of b.proof)) is.small, small_nodes [] b.nodes nodes), go (spec_formula m b.spec) is.shape)
    where
      rest : All IsSmall (flat_map triple_numbers b.nodes ++ (lengths_of b.proof ++ sets_of b.proof))
      rest = All-tail IsSmall (length b.nodes) (flat_map triple_numbers b.nodes ++ (lengths_of b.proof ++ sets_of b.proof)) is.small

      nodes : All IsSmall (flat_map triple_numbers b.nodes)
      nodes = all_left IsSmall (flat_map triple_numbers b.nodes) (lengths_of b.proof ++ sets_of b.proof) rest

      others : All IsSmall (lengths_of b.proof ++ sets_of b.proof)
      others = all_right IsSmall (flat_map triple_numbers b.nodes) (lengths_of b.proof ++ sets_of b.proof) rest

      go : (o : Option Ctl) → IsSomeAnd o (λ f. IsInShape m f b.proof) → IsSomeAnd o (λ f. FitsProof m f b.proof.claim (length b.nodes + 2) b.proof)
      go None h = absurd h
      go (Some f) h = few_proof m (length b.nodes + 2) f b.proof h is.sets (all_right IsSmall (lengths_of b.proof) (sets_of b.proof) others) (all_left IsSmall (lengths_of b.proof) (sets_of b.proof) others)
