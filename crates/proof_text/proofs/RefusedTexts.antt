-- A text is refused where its reading stops.
use Rattle.std.proofs.Common.{◌≡◌, ℕ, ◌+◌, ◌<◌, ◌≤◌, List, length, take, subst, arith}
use Rattle.kripke_model.specs.System.{System}
use Rattle.proof_text.specs.FileFault.{IsFileFault}
use Rattle.proof_text.specs.Refuses.{Begins, IsOrderLine, Refuses}
use Rattle.proof_text.specs.Spells.{most_bytes}
use Rattle.proof_text.specs.declared.refusals.TextRefusal.TheVariants.{BadLine, Truncated, BadOrder, BadNode}
use Rattle.text_lines.specs.WholeLines.{lines_in, rest_in}
use Rattle.text_lines.specs.Ceasing.{HasLines, CeasesAt}
use Rattle.text_lines.specs.declared.faults.Fault.TheVariants.{Stops, Breaks, End}
use Rattle.text_lines.proofs.Cuts.{is_cut}

module _ (m : System) (bytes : List ℕ) (short : length bytes ≤ most_bytes) (n : ℕ) where
  has_lines : HasLines most_bytes bytes (lines_in bytes) (rest_in bytes)
  has_lines = record { short = short; whole = is_cut bytes }

  stops_at : (k : ℕ) → k < length (lines_in bytes) → Begins m (take k (lines_in bytes)) → (Begins m (take (k + 1) (lines_in bytes)) → ⊥) → CeasesAt (Begins m) (lines_in bytes) k
  stops_at k within before after = record { within = within; before = before; after = after }

  pub bad_order : (l : ℕ) → l ≡ 2 → IsOrderLine (lines_in bytes) 1 → IsFileFault m bytes n (Stops l) → Refuses m bytes BadOrder
  bad_order l two order (k, at, within, before, after) =
      let one : 1 ≡ k = omega (arith, two, at) in
      (l, (lines_in bytes, rest_in bytes, k, has_lines, stops_at k within before (λ b. after b.0), at, subst (IsOrderLine (lines_in bytes)) one order))

  pub bad_line : (l : ℕ) → (l ≡ 2 → IsOrderLine (lines_in bytes) 1 → ⊥) → IsFileFault m bytes n (Stops l) → Refuses m bytes (BadLine l)
  bad_line l other (k, at, within, before, after) =
      (lines_in bytes, rest_in bytes, k, has_lines, stops_at k within before (λ b. after b.0), at, (after, λ order. other (omega (arith, at, order.0)) (subst (IsOrderLine (lines_in bytes)) order.0 order)))

  pub bad_node : (l : ℕ) → IsFileFault m bytes n (Breaks l) → Refuses m bytes (BadNode l)
  bad_node l (k, at, within, before, after, may) = (lines_in bytes, rest_in bytes, k, has_lines, stops_at k within before after, at, may)

  pub truncated : IsFileFault m bytes n End → Refuses m bytes (Truncated n)
  truncated (at, begins, none) = record { texts = lines_in bytes; rest = rest_in bytes; has = has_lines; begins = begins; none = λ f s. none f s.is_file s.text; line = at }
