-- The shape of a proof is that of its form: it stays with other sets.
use Rattle.std.proofs.Common.{◌≡◌, ℕ, suc, List, [], ◌∷◌, map, refl, sym, ◌∙◌, ap, arith}
use Rattle.std.proofs.Math.ListN.{length-map}
use Rattle.std.specs.Prelude.{All, AllPairs, Option, Some, None, IsSomeAnd, option_map}
use Rattle.std.proofs.lemmas.List.Elements.{All-nil, All-cons, All-head, All-tail}
use Rattle.std.proofs.lemmas.List.Kept.{AllPairs-cons}
use Rattle.kripke_model.specs.Ctl.{Ctl}
use Rattle.kripke_model.specs.System.{System, constraint_count}
use Rattle.proof_form.specs.Form as form
use Rattle.proof_form.specs.Form.{Layer, Entry, FreeEntry, FreePart, Proof, EX, AX, AR, EU, AU, ER, map_layer, map_rule, map_entry, map_free_entry, map_free, map_proof}
use Rattle.proof_form.specs.Shape.{kind_of, HasRule, ComesBefore, Avoids, FitsConstraints, StandsBefore, HasConstraintRule, constraint_formula, IsFreeInShape, FitsFreely, IsInShape}

all_map : {A B : Type 0} (P : A → Type 0) (Q : B → Type 0) (g : A → B) → ((x : A) → P x → Q (g x)) → (xs : List A) → All P xs → All Q (map g xs)
all_map P Q g step [] h = All-nil Q
all_map P Q g step (x ∷ xs) h = All-cons Q (g x) (map g xs) (step x (All-head P x xs h)) (all_map P Q g step xs (All-tail P x xs h))

all_back : {A B : Type 0} (P : A → Type 0) (Q : B → Type 0) (g : A → B) → ((x : A) → Q (g x) → P x) → (xs : List A) → All Q (map g xs) → All P xs
all_back P Q g step [] h = All-nil P
all_back P Q g step (x ∷ xs) h = All-cons P x xs (step x (All-head Q (g x) (map g xs) h)) (all_back P Q g step xs (All-tail Q (g x) (map g xs) h))

module _ {A B : Type 0} (R : A → A → Type 0) (S : B → B → Type 0) (g : A → B) where
  pairs_map : ((x y : A) → R x y → S (g x) (g y)) → (xs : List A) → AllPairs R xs → AllPairs S (map g xs)
  pairs_map step [] h = λ i j d less below. absurd (omega arith)
  pairs_map step (x ∷ xs) h =
      AllPairs-cons S (g x) (map g xs) (all_map (R x) (S (g x)) g (step x) xs (λ k d less. h 0 (suc k) d (omega arith) (omega arith)))
      (pairs_map step xs (λ i j d less below. h (suc i) (suc j) d (omega arith) (omega arith)))

  pairs_back : ((x y : A) → S (g x) (g y) → R x y) → (xs : List A) → AllPairs S (map g xs) → AllPairs R xs
  pairs_back step [] h = λ i j d less below. absurd (omega arith)
  pairs_back step (x ∷ xs) h =
      AllPairs-cons R x xs (all_back (R x) (S (g x)) g (step x) xs (λ k d less. h 0 (suc k) d (omega arith) (omega arith)))
      (pairs_back step xs (λ i j d less below. h (suc i) (suc j) d (omega arith) (omega arith)))

module _ {A B : Type 0} (g : A → B) where
  kind_kept : (r : form.Rule A) → kind_of (map_rule g r) ≡ kind_of r
  kind_kept (EX set) = refl
  kind_kept (AX set) = refl
  kind_kept (AR set) = refl
  kind_kept (EU sets) = refl
  kind_kept (AU layers) = refl
  kind_kept (ER fair untils) = refl

  rule_kept : (f : Ctl) (e : Entry A) → HasRule f e → HasRule f (map_entry g e)
  rule_kept f e named = named ∙ ap Some (sym (kind_kept e.rule))

  avoids_kept : (count : ℕ) (layers : List (Layer A)) → All (Avoids count) layers → All (Avoids count) (map (map_layer g) layers)
  avoids_kept count layers h = all_map (Avoids {A = A} count) (Avoids {A = B} count) (map_layer g) (λ l a. a) layers h

  fits_kept : (count : ℕ) (r : form.Rule A) → FitsConstraints count r → FitsConstraints count (map_rule g r)
  fits_kept count (EX set) h = tt
  fits_kept count (AX set) h = tt
  fits_kept count (AR set) h = tt
  fits_kept count (EU sets) h = tt
  fits_kept count (AU layers) h = avoids_kept count layers h
  fits_kept count (ER fair untils) h = length-map fair.reach (map g) ∙ h

  constraint_rule_kept : (o : Option Ctl) (e : Entry A) → IsSomeAnd o (λ f. HasRule f e) → IsSomeAnd o (λ f. HasRule f (map_entry g e))
  constraint_rule_kept None e h = h
  constraint_rule_kept (Some f) e h = rule_kept f e h

  free_shape_kept : (m : System) (p : FreePart A) → IsFreeInShape m p → IsFreeInShape m (map_free g p)
  free_shape_kept m p h = record {
    rising = pairs_map (StandsBefore {A = A}) (StandsBefore {A = B}) (map_free_entry g) (λ x y before. before) p.entries h.rising;
    rules = all_map (HasConstraintRule {A = A} m) (HasConstraintRule {A = B} m) (map_free_entry g)
        (λ e named. constraint_rule_kept (constraint_formula m e.constraint) e.entry named) p.entries h.rules;
    avoided = avoids_kept 1 p.nonfair h.avoided;
    reach = length-map p.fair.reach (map g) ∙ h.reach;
    fits = all_map (λ (e : FreeEntry A). FitsConstraints 1 e.entry.rule) (λ (e : FreeEntry B). FitsConstraints 1 e.entry.rule) (map_free_entry g)
        (λ e fit. fits_kept 1 e.entry.rule fit) p.entries h.fits;
  }

  fits_freely_kept : (m : System) (o : Option (FreePart A)) → FitsFreely m o → FitsFreely m (option_map (map_free g) o)
  fits_freely_kept m None h = h
  fits_freely_kept m (Some p) h = (h.0, free_shape_kept m p h.1)

  pub shape_kept : (m : System) (f : Ctl) (p : Proof A) → IsInShape m f p → IsInShape m f (map_proof g p)
  shape_kept m f p h = record {
    free = fits_freely_kept m p.free h.free;
    rising = pairs_map (ComesBefore {A = A}) (ComesBefore {A = B}) (map_entry g) (λ x y before. before) p.entries h.rising;
    rules = all_map (HasRule {A = A} f) (HasRule {A = B} f) (map_entry g) (rule_kept f) p.entries h.rules;
    avoided = avoids_kept (constraint_count m) p.nonfair h.avoided;
    reach = length-map p.fair.reach (map g) ∙ h.reach;
    fits = all_map (λ (e : Entry A). FitsConstraints (constraint_count m) e.rule) (λ (e : Entry B). FitsConstraints (constraint_count m) e.rule) (map_entry g)
        (λ e fit. fits_kept (constraint_count m) e.rule fit) p.entries h.fits;
    claim = h.claim;
    at_state = h.at_state;
  }

  -- ---- and back

  rule_back : (f : Ctl) (e : Entry A) → HasRule f (map_entry g e) → HasRule f e
  rule_back f e named = named ∙ ap Some (kind_kept e.rule)

  avoids_back : (count : ℕ) (layers : List (Layer A)) → All (Avoids count) (map (map_layer g) layers) → All (Avoids count) layers
  avoids_back count layers h = all_back (Avoids {A = A} count) (Avoids {A = B} count) (map_layer g) (λ l a. a) layers h

  fits_back : (count : ℕ) (r : form.Rule A) → FitsConstraints count (map_rule g r) → FitsConstraints count r
  fits_back count (EX set) h = tt
  fits_back count (AX set) h = tt
  fits_back count (AR set) h = tt
  fits_back count (EU sets) h = tt
  fits_back count (AU layers) h = avoids_back count layers h
  fits_back count (ER fair untils) h = sym (length-map fair.reach (map g)) ∙ h

  constraint_rule_back : (o : Option Ctl) (e : Entry A) → IsSomeAnd o (λ f. HasRule f (map_entry g e)) → IsSomeAnd o (λ f. HasRule f e)
  constraint_rule_back None e h = h
  constraint_rule_back (Some f) e h = rule_back f e h

  free_shape_back : (m : System) (p : FreePart A) → IsFreeInShape m (map_free g p) → IsFreeInShape m p
  free_shape_back m p h = record {
    rising = pairs_back (StandsBefore {A = A}) (StandsBefore {A = B}) (map_free_entry g) (λ x y before. before) p.entries h.rising;
    rules = all_back (HasConstraintRule {A = A} m) (HasConstraintRule {A = B} m) (map_free_entry g)
        (λ e named. constraint_rule_back (constraint_formula m e.constraint) e.entry named) p.entries h.rules;
    avoided = avoids_back 1 p.nonfair h.avoided;
    reach = sym (length-map p.fair.reach (map g)) ∙ h.reach;
    fits = all_back (λ (e : FreeEntry A). FitsConstraints 1 e.entry.rule) (λ (e : FreeEntry B). FitsConstraints 1 e.entry.rule) (map_free_entry g)
        (λ e fit. fits_back 1 e.entry.rule fit) p.entries h.fits;
  }

  fits_freely_back : (m : System) (o : Option (FreePart A)) → FitsFreely m (option_map (map_free g) o) → FitsFreely m o
  fits_freely_back m None h = h
  fits_freely_back m (Some p) h = (h.0, free_shape_back m p h.1)

  pub shape_back : (m : System) (f : Ctl) (p : Proof A) → IsInShape m f (map_proof g p) → IsInShape m f p
  shape_back m f p h = record {
    free = fits_freely_back m p.free h.free;
    rising = pairs_back (ComesBefore {A = A}) (ComesBefore {A = B}) (map_entry g) (λ x y before. before) p.entries h.rising;
    rules = all_back (HasRule {A = A} f) (HasRule {A = B} f) (map_entry g) (rule_back f) p.entries h.rules;
    avoided = avoids_back (constraint_count m) p.nonfair h.avoided;
    reach = sym (length-map p.fair.reach (map g)) ∙ h.reach;
    fits = all_back (λ (e : Entry A). FitsConstraints (constraint_count m) e.rule) (λ (e : Entry B). FitsConstraints (constraint_count m) e.rule) (map_entry g)
        (λ e fit. fits_back (constraint_count m) e.rule fit) p.entries h.fits;
    claim = h.claim;
    at_state = h.at_state;
  }
