-- The sets of a proof over other sets.
use Rattle.std.proofs.Common.{◌≡◌, List, [], ◌∷◌, ◌++◌, map, Option, Some, None}
use Rattle.std.proofs.Common.{refl, sym, ◌∙◌, ap, ap₂}
use Rattle.std.specs.Prelude.{flat_map, option_map}
use Rattle.std.proofs.lemmas.List.{map-append}
use Rattle.proof_form.specs.Form as form
use Rattle.proof_form.specs.Form.{Layer, FairPart, Entry, FreeEntry, FreePart, Proof}
use Rattle.proof_form.specs.Form.{EX, AX, AR, EU, AU, ER}
use Rattle.proof_form.specs.Form.{map_layer, map_fair, map_rule, map_entry, map_free_entry}
use Rattle.proof_form.specs.Form.{map_free, map_proof, layer_sets, fair_sets, rule_sets}
use Rattle.proof_form.specs.Form.{entries_sets, free_sets_of, sets_of}

module _ {A B : Type 0} (g : A → B) where
  record IsMapped (xs : List A) (us : List B) : Type 0 where
    is : us ≡ map g xs

  own : (xs : List A) → IsMapped xs (map g xs)
  own xs = record { is = refl }

  first : {xs : List A} {us : List B} (x : A) → IsMapped xs us → IsMapped (x ∷ xs) (g x ∷ us)
  first x p = record { is = ap (λ us. g x ∷ us) p.is }

  both : {xs ys : List A} {us vs : List B} → IsMapped xs us → IsMapped ys vs
      → IsMapped (xs ++ ys) (us ++ vs)
  both {xs} {ys} p q =
      record { is = ap₂ (λ us vs. us ++ vs) p.is q.is ∙ sym (map-append g xs ys) }

  layers : (ls : List (Layer A)) → IsMapped (layer_sets ls) (layer_sets (map (map_layer g) ls))
  layers [] = own []
  layers (l ∷ ls) = first l.set (layers ls)

  abbrev all : {X : Type 0} → List (List X) → List X
  all lists = flat_map (λ sets. sets) lists

  lists : (xs : List (List A)) → IsMapped (all xs) (all (map (map g) xs))
  lists [] = own []
  lists (x ∷ xs) = both (own x) (lists xs)

  fair : (part : FairPart A) → IsMapped (fair_sets part) (fair_sets (map_fair g part))
  fair part = first part.inside (lists part.reach)

  rule : (r : form.Rule A) → IsMapped (rule_sets r) (rule_sets (map_rule g r))
  rule (EX set) = own (set ∷ [])
  rule (AX set) = own (set ∷ [])
  rule (AR set) = own (set ∷ [])
  rule (EU sets) = own sets
  rule (AU ls) = layers ls
  rule (ER part untils) = both (fair part) (own untils)

  entries : (es : List (Entry A)) → IsMapped (entries_sets es) (entries_sets (map (map_entry g) es))
  entries [] = own []
  entries (e ∷ es) = both (rule e.rule) (entries es)

  abbrev inner : {X : Type 0} → List (FreeEntry X) → List (Entry X)
  inner es = map (λ e. e.entry) es

  free_entries : (es : List (FreeEntry A))
      → IsMapped (entries_sets (inner es)) (entries_sets (inner (map (map_free_entry g) es)))
  free_entries [] = own []
  free_entries (e ∷ es) = both (rule e.entry.rule) (free_entries es)

  free : (o : Option (FreePart A))
      → IsMapped (free_sets_of o) (free_sets_of (option_map (map_free g) o))
  free None = own []
  free (Some p) = both (layers p.nonfair) (both (fair p.fair) (free_entries p.entries))

  whole : (p : Proof A) → IsMapped (sets_of p) (sets_of (map_proof g p))
  whole p = both (free p.free) (both (layers p.nonfair) (both (fair p.fair) (entries p.entries)))

  pub sets_mapped : (p : Proof A) → sets_of (map_proof g p) ≡ map g (sets_of p)
  sets_mapped p = (whole p).is
