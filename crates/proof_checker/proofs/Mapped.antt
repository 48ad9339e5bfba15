-- The lines and the pins of a proof over other sets.
use Rattle.std.proofs.Common.{◌≡◌, ℕ, ◌+◌, false, List, [], ◌∷◌, map, length, Option, Some, None, inl, inr, refl, sym, ◌∙◌, ap₂, subst, eqb-true}
use Rattle.std.specs.Prelude.{All, option_map, slice_index, ◌==◌}
use Rattle.std.specs.List.{sum_by}
use Rattle.std.proofs.lemmas.Bool.{both_ways, or_cases}
use Rattle.std.proofs.lemmas.List.{length-map}
use Rattle.std.proofs.lemmas.List.Elements.{All-head, All-tail}
use Rattle.std.proofs.lemmas.List.Sums.{sum_by-cons}
use Rattle.region_sets.specs.Sets.{Sets, IsLive, is_one_of}
use Rattle.region_sets.specs.Ranks.{slots, AreLive}
use Rattle.proof_form.specs.Form as form
use Rattle.proof_form.specs.Form.{Entry, FreeEntry, FreePart, Proof, EX, AX, AR, EU, AU, ER, map_layer, map_rule, map_entry, map_free_entry, map_free, map_proof, sets_of}
use Rattle.proof_form.specs.Pinned.{proof_slots}
use Rattle.proof_form.proofs.Mapped.{sets_mapped}
use Rattle.proof_lines.specs.LineCounts.{rule_line_count, entries_line_count, free_entries_line_count, free_line_count_of, set_line_count}
use Rattle.block_proofs.specs.PinsFor.{pin_for, pinned}

module _ {A B : Type 0} (g : A → B) where
  -- ---- as many lines

  lists_lines : (xs : List (List A)) → sum_by length (map (map g) xs) ≡ sum_by length xs
  lists_lines [] = refl
  lists_lines (x ∷ xs) = sum_by-cons length (map g x) (map (map g) xs) ∙ ap₂ (λ m n. m + n) (length-map x g) (lists_lines xs) ∙ sym (sum_by-cons length x xs)

  rule_lines : (r : form.Rule A) → rule_line_count (map_rule g r) ≡ rule_line_count r
  rule_lines (EX set) = refl
  rule_lines (AX set) = refl
  rule_lines (AR set) = refl
  rule_lines (EU sets) = length-map sets g
  rule_lines (AU layers) = length-map layers (map_layer g)
  rule_lines (ER fair untils) = ap₂ (λ m n. m + n) (lists_lines fair.reach) (length-map untils g)

  entries_lines : (es : List (Entry A)) → entries_line_count (map (map_entry g) es) ≡ entries_line_count es
  entries_lines [] = refl
  entries_lines (e ∷ es) =
      sum_by-cons (λ e. rule_line_count e.rule) (map_entry g e) (map (map_entry g) es) ∙ ap₂ (λ m n. m + n) (rule_lines e.rule) (entries_lines es)
      ∙ sym (sum_by-cons (λ e. rule_line_count e.rule) e es)

  free_entries_lines : (es : List (FreeEntry A)) → free_entries_line_count (map (map_free_entry g) es) ≡ free_entries_line_count es
  free_entries_lines [] = refl
  free_entries_lines (e ∷ es) =
      sum_by-cons (λ e. rule_line_count e.entry.rule) (map_free_entry g e) (map (map_free_entry g) es) ∙ ap₂ (λ m n. m + n) (rule_lines e.entry.rule) (free_entries_lines es)
      ∙ sym (sum_by-cons (λ e. rule_line_count e.entry.rule) e es)

  free_lines : (o : Option (FreePart A)) → free_line_count_of (option_map (map_free g) o) ≡ free_line_count_of o
  free_lines None = refl
  free_lines (Some p) =
      ap₂ (λ m n. m + n) (ap₂ (λ m n. m + n) (length-map p.nonfair (map_layer g)) (lists_lines p.fair.reach)) (free_entries_lines p.entries)

  pub lines_mapped : (p : Proof A) → set_line_count (map_proof g p) ≡ set_line_count p
  lines_mapped p =
      ap₂ (λ m n. m + n) (free_lines p.free)
      (ap₂ (λ m n. m + n) (ap₂ (λ m n. m + n) (length-map p.nonfair (map_layer g)) (lists_lines p.fair.reach)) (entries_lines p.entries))

-- ---- the pins of numbers are live

module _ (sets : Sets) (table : List ℕ) where
  list_live : (numbers : List ℕ) → All (λ number. IsLive sets (slice_index table number)) numbers → AreLive sets (slots (map (pin_for table) numbers))
  list_live [] h k e = absurd (both_ways false refl e)
  list_live (n ∷ numbers) h k e =
      elim (or_cases (k == slice_index table n) (is_one_of k (slots (map (pin_for table) numbers))) e) [
        | inl same ↦ subst (IsLive sets) (sym (eqb-true k (slice_index table n) same)) (All-head (λ number. IsLive sets (slice_index table number)) n numbers h)
        | inr other ↦ list_live numbers (All-tail (λ number. IsLive sets (slice_index table number)) n numbers h) k other
      ]

  pub pinned_live : (p : Proof ℕ) → All (λ number. IsLive sets (slice_index table number)) (sets_of p) → AreLive sets (proof_slots (pinned table p))
  pinned_live p h = subst (λ pins. AreLive sets (slots pins)) (sym (sets_mapped (pin_for table) p)) (list_live (sets_of p) h)
