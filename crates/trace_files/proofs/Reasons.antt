-- A text is refused for one reason at most, and is a trace or refused.
use Rattle.std.proofs.Common.{◌≡◌, inl, inr, ℕ, ◌+◌, ◌<◌, ◌≤◌, List, length, refl, sym, ◌∙◌, ap, subst, arith}
use Rattle.std.proofs.lemmas.Bool.{cases_lt}
use Rattle.kripke_model.specs.System.{System}
use Rattle.text_lines.specs.WholeLines.{lines_in, rest_in}
use Rattle.text_lines.specs.Ceasing.{HasLines, CeasesAt, IsCutOff}
use Rattle.text_lines.proofs.Ceasings.{same_lines, ceases_once, ceases_never, begins_all}
use Rattle.text_lines.proofs.Cuts.{is_cut}
use Rattle.trace_files.specs.Trace.{Trace}
use Rattle.trace_files.specs.Spells.{Spells, most_bytes}
use Rattle.trace_files.specs.Refuses.{Begins, IsBadLine, Refuses}
use Rattle.trace_files.specs.declared.refusals.TraceRefusal.{TraceRefusal}
use Rattle.trace_files.specs.declared.refusals.TraceRefusal.TheVariants.{BadLine, Truncated, TooLong, Memory}
use Rattle.trace_files.proofs.Beginnings.{begins_less}

module _ (m : System) (bytes : List ℕ) where
  too_long : {X : Type 0} → most_bytes < length bytes → length bytes ≤ most_bytes → X
  too_long h k = absurd (omega arith)

  stop_or_end : {X : Type 0} (l n : ℕ) → IsBadLine m bytes l → IsCutOff (Begins m) (λ t. Spells m t bytes) most_bytes bytes n → X
  stop_or_end l n h k = absurd (ceases_never (Begins m) (begins_less m) k.texts h.place (subst (λ ts. CeasesAt (Begins m) ts h.place) (same_lines most_bytes bytes h.texts k.texts h.rest k.rest h.has k.has) h.stops) k.begins)

  pub one_reason : (r q : TraceRefusal) → Refuses m bytes r → Refuses m bytes q → r ≡ q
  one_reason TooLong TooLong h k = refl
  one_reason TooLong (Truncated n) h k = too_long h k.has.short
  one_reason TooLong (BadLine n) h k = too_long h k.has.short
  one_reason (Truncated l) TooLong h k = too_long k h.has.short
  one_reason (Truncated l) (Truncated n) h k =
      let e : h.texts ≡ k.texts = same_lines most_bytes bytes h.texts k.texts h.rest k.rest h.has k.has in
      ap Truncated (h.line ∙ ap (λ (ts : List (List ℕ)). length ts + 1) e ∙ sym k.line)
  one_reason (Truncated l) (BadLine n) h k = stop_or_end n l k h
  one_reason (BadLine l) TooLong h k = too_long k h.has.short
  one_reason (BadLine l) (Truncated n) h k = stop_or_end l n h k
  one_reason (BadLine l) (BadLine n) h k =
      let e : h.texts ≡ k.texts = same_lines most_bytes bytes h.texts k.texts h.rest k.rest h.has k.has in
      let f : h.place ≡ k.place = ceases_once (Begins m) (begins_less m) k.texts h.place k.place (subst (λ ts. CeasesAt (Begins m) ts h.place) e h.stops) k.stops in
      ap BadLine (h.line ∙ ap (λ i. i + 1) f ∙ sym k.line)
  one_reason Memory q h k = absurd h
  one_reason r Memory h k = absurd k

  -- ---- not neither

  pub not_neither : ((t : Trace) → Spells m t bytes → ⊥) → ((q : TraceRefusal) → Refuses m bytes q → ⊥) → ⊥
  not_neither no_trace none = elim (cases_lt most_bytes (length bytes)) [
    | inl long ↦ none TooLong long
    | inr short ↦
        let has : HasLines most_bytes bytes (lines_in bytes) (rest_in bytes) = record { short = short; whole = is_cut bytes } in
        begins_all (Begins m) (inl refl) (lines_in bytes)
        (λ k stops. none (BadLine (k + 1)) (record { texts = lines_in bytes; rest = rest_in bytes; place = k; has = has; stops = stops; line = refl }))
        (λ h. none (Truncated (length (lines_in bytes) + 1)) (record { texts = lines_in bytes; rest = rest_in bytes; has = has; begins = h; none = no_trace; line = refl }))
  ]
