-- A proof over pins and the same proof over numbers show the same where each number stands for the states of its pin.
use Rattle.std.proofs.Common.{◌≡◌, ℕ, zero, suc, ◌+◌, ◌<◌, ◌≤◌, List, [], ◌∷◌, map, length, Option, Some, None, refl, sym, ◌∙◌, ap, subst, arith}
use Rattle.std.specs.Prelude.{All, option_map}
use Rattle.std.specs.List.{range_with_len, slice_index_or}
use Rattle.std.proofs.lemmas.List.Elements.{All-nil, All-cons}
use Rattle.kripke_model.specs.Ctl.{Ctl}
use Rattle.kripke_model.specs.System.{System}
use Rattle.path_laws.specs.StateSet.{StateSet}
use Rattle.proof_form.specs.Form as form
use Rattle.proof_form.specs.Form.{Layer, FairPart, Entry, FreeEntry, FreePart, Proof, EX, AX, AR, EU, AU, ER, map_layer, map_fair, map_rule, map_entry, map_free_entry, map_free, map_proof, sets_of}
use Rattle.proof_form.specs.Meaning.{IsProofOf}
use Rattle.proof_form.specs.Pinned.{IsFilled}
use Rattle.proof_form.specs.Agrees.{SameOn}
use Rattle.proof_form.proofs.AgreeMaps.{Same, proof_agrees}
use Rattle.proof_form.proofs.KeptShapes.{shape_back}

-- ---- one map after another

module _ {A B C : Type 0} (g : B → C) (f : A → B) where
  maps : (xs : List A) → map g (map f xs) ≡ map (λ a. g (f a)) xs
  maps [] = refl
  maps (x ∷ xs) = ap (λ ys. g (f x) ∷ ys) (maps xs)

  list_maps : (xs : List (List A)) → map (map g) (map (map f) xs) ≡ map (map (λ a. g (f a))) xs
  list_maps [] = refl
  list_maps (x ∷ xs) = λ i. maps x i ∷ list_maps xs i

  layer_maps : (ls : List (Layer A)) → map (map_layer g) (map (map_layer f) ls) ≡ map (map_layer (λ a. g (f a))) ls
  layer_maps [] = refl
  layer_maps (l ∷ ls) = ap (λ ks. map_layer (λ a. g (f a)) l ∷ ks) (layer_maps ls)

  fair_maps : (p : FairPart A) → map_fair g (map_fair f p) ≡ map_fair (λ a. g (f a)) p
  fair_maps p = λ i. record { inside = g (f p.inside); reach = list_maps p.reach i }

  rule_maps : (r : form.Rule A) → map_rule g (map_rule f r) ≡ map_rule (λ a. g (f a)) r
  rule_maps (EX set) = refl
  rule_maps (AX set) = refl
  rule_maps (AR set) = refl
  rule_maps (EU sets) = ap EU (maps sets)
  rule_maps (AU layers) = ap AU (layer_maps layers)
  rule_maps (ER fair untils) = λ i. ER (fair_maps fair i) (maps untils i)

  entry_map : (e : Entry A) → map_entry g (map_entry f e) ≡ map_entry (λ a. g (f a)) e
  entry_map e = λ i. record { node = e.node; plus = e.plus; rule = rule_maps e.rule i }

  entry_maps : (es : List (Entry A)) → map (map_entry g) (map (map_entry f) es) ≡ map (map_entry (λ a. g (f a))) es
  entry_maps [] = refl
  entry_maps (e ∷ es) = λ i. entry_map e i ∷ entry_maps es i

  free_entry_maps : (es : List (FreeEntry A)) → map (map_free_entry g) (map (map_free_entry f) es) ≡ map (map_free_entry (λ a. g (f a))) es
  free_entry_maps [] = refl
  free_entry_maps (e ∷ es) = λ i. record { constraint = e.constraint; entry = entry_map e.entry i } ∷ free_entry_maps es i

  free_maps : (o : Option (FreePart A)) → option_map (map_free g) (option_map (map_free f) o) ≡ option_map (map_free (λ a. g (f a))) o
  free_maps None = refl
  free_maps (Some p) = λ i. Some (record { nonfair = layer_maps p.nonfair i; fair = fair_maps p.fair i; entries = free_entry_maps p.entries i })

  pub proof_maps : (p : Proof A) → map_proof g (map_proof f p) ≡ map_proof (λ a. g (f a)) p
  proof_maps p = λ i. record {
    claim = p.claim;
    free = free_maps p.free i;
    nonfair = layer_maps p.nonfair i;
    fair = fair_maps p.fair i;
    entries = entry_maps p.entries i;
    at = p.at;
  }

-- ---- all numbers of a range

all_range : (P : ℕ → Type 0) (a n : ℕ) → ((k : ℕ) → a ≤ k → k < a + n → P k) → All P (range_with_len a n)
all_range P a zero h = All-nil P
all_range P a (suc n) h = All-cons P a (range_with_len (a + 1) n) (h a (omega arith) (omega arith)) (all_range P (a + 1) n (λ k low high. h k (omega arith) (omega arith)))

pub filled_proves : {A : Type 0} (m : System) (f : Ctl) (p : Proof A) (numbers : List ℕ) (q : Proof ℕ) → IsFilled p numbers q → (g : A → StateSet) (h : ℕ → StateSet) (d : A)
    → ((k : ℕ) → k < length (sets_of p) → SameOn m (g (slice_index_or (sets_of p) k d)) (h (slice_index_or numbers k 0)))
    → IsProofOf m f (map_proof g p) → IsProofOf m f (map_proof h q)
filled_proves {A} m f p numbers q filled g h d agree proof =
    let here : ℕ → A = λ k. slice_index_or (sets_of p) k d in
    let there : ℕ → ℕ = λ k. slice_index_or numbers k 0 in
    let first : map_proof g p ≡ map_proof (λ k. g (here k)) filled.places = ap (map_proof g) (sym (filled.here d)) ∙ proof_maps g here filled.places in
    let second : map_proof h q ≡ map_proof (λ k. h (there k)) filled.places = ap (map_proof h) (sym filled.there) ∙ proof_maps h there filled.places in
    let over : IsProofOf m f (map_proof (λ k. g (here k)) filled.places) = subst (IsProofOf m f) first proof in
    let P : ℕ → Type 0 = Same m (λ k. g (here k)) (λ k. h (there k)) in
    let all : All P (sets_of filled.places) = subst (All P) (sym filled.counted) (all_range P 0 (length (sets_of p)) (λ k low high. agree k (omega (arith, high)))) in
    subst (IsProofOf m f) (sym second)
    (proof_agrees m (λ k. g (here k)) (λ k. h (there k)) f filled.places all (shape_back (λ k. g (here k)) m f filled.places over.shape) over)
