-- A text is refused for one reason at most, and is a file or refused.
use Rattle.std.proofs.Common.{◌≡◌, inl, inr, ℕ, ◌+◌, ◌<◌, ◌≤◌, List, [], length, take, refl, sym, ◌∙◌, ap, subst, arith, length-take-le}
use Rattle.std.proofs.lemmas.List.Elements.{All-nil}
use Rattle.std.proofs.lemmas.Bool.{cases_lt}
use Rattle.kripke_model.specs.System.{System}
use Rattle.bit_encode.proofs.Declared.{declared_names}
use Rattle.bit_encode.specs.Code.{declared}
use Rattle.proof_text.specs.File.{File}
use Rattle.proof_text.specs.Lines.{file_lines}
use Rattle.proof_text.specs.Spells.{IsBlock, Spells, most_bytes, IsGoodLine}
use Rattle.bit_encode.specs.Code.{state_bits}
use Rattle.proof_text.specs.Refuses.{Begins, CeasesBy, IsNodeLine, IsOrderLine, Refuses}
use Rattle.proof_text.specs.declared.refusals.TextRefusal.{TextRefusal}
use Rattle.proof_text.specs.declared.refusals.TextRefusal.TheVariants.{BadLine, Truncated, BadOrder, BadNode, TooLong, Memory}
use Rattle.text_lines.specs.WholeLines.{lines_in, rest_in}
use Rattle.text_lines.specs.Ceasing.{HasLines, CeasesAt, IsCutOff}
use Rattle.text_lines.proofs.Ceasings.{same_lines, ceases_once, ceases_never, begins_all}
use Rattle.text_lines.proofs.Cuts.{is_cut}
use Rattle.proof_text.proofs.Beginnings.{begins_less, header_is_good}

module _ (m : System) (bytes : List ℕ) where
  -- two places where the text stops are one, and what is said of it is said of the same lines
  record SamePlace (l n : ℕ) (P Q : List (List ℕ) → ℕ → Type 0) : Type 0 where
    pub line : l ≡ n
    pub texts : List (List ℕ)
    pub place : ℕ
    pub stops : CeasesAt (Begins m) texts place
    pub first : P texts place
    pub other : Q texts place

  same_place : (l n : ℕ) (P Q : List (List ℕ) → ℕ → Type 0) → CeasesBy m bytes l P → CeasesBy m bytes n Q → SamePlace l n P Q
  same_place l n P Q (ts, r, k, has, stops, line, p) (us, q, j, has', stops', line', p') =
      let e : ts ≡ us = same_lines most_bytes bytes ts us r q has has' in
      let f : k ≡ j = ceases_once (Begins m) (begins_less m) us k j (subst (λ xs. CeasesAt (Begins m) xs k) e stops) stops' in
      record {
        line = line ∙ ap (λ i. i + 1) f ∙ sym line';
        texts = us;
        place = j;
        stops = stops';
        first = subst (P us) f (subst (λ xs. P xs k) e p);
        other = p';
      }

  -- a line of the header is none of a node
  node_apart : (texts : List (List ℕ)) (k : ℕ) → CeasesAt (Begins m) texts k → IsOrderLine texts k → IsNodeLine m texts k → ⊥
  node_apart texts k stops order node = stops.after (header_is_good m (take (k + 1) texts) (omega (arith, length-take-le (k + 1) texts (omega (arith, stops.within)), order.0)) node)

  short_of : (l : ℕ) (P : List (List ℕ) → ℕ → Type 0) → CeasesBy m bytes l P → length bytes ≤ most_bytes
  short_of l P (ts, r, k, has, stops, line, p) = has.short

  stop_or_end : {X : Type 0} (l n : ℕ) (P : List (List ℕ) → ℕ → Type 0) → CeasesBy m bytes l P → IsCutOff (Begins m) (λ f. Spells m f bytes) most_bytes bytes n → X
  stop_or_end l n P (ts, r, k, has, stops, line, p) c =
      absurd (ceases_never (Begins m) (begins_less m) c.texts k (subst (λ xs. CeasesAt (Begins m) xs k) (same_lines most_bytes bytes ts c.texts r c.rest has c.has) stops) c.begins)

  too_long : {X : Type 0} → most_bytes < length bytes → length bytes ≤ most_bytes → X
  too_long h k = absurd (omega arith)

  abbrev Other : List (List ℕ) → ℕ → Type 0
  Other texts k = (IsNodeLine m texts k → ⊥) × (IsOrderLine texts k → ⊥)

  pub one_reason : (r q : TextRefusal) → Refuses m bytes r → Refuses m bytes q → r ≡ q
  one_reason TooLong TooLong h k = refl
  one_reason TooLong (Truncated n) h k = too_long h k.has.short
  one_reason TooLong BadOrder h (n, k) = too_long h (short_of n IsOrderLine k)
  one_reason TooLong (BadNode n) h k = too_long h (short_of n (IsNodeLine m) k)
  one_reason TooLong (BadLine n) h k = too_long h (short_of n Other k)
  one_reason (Truncated l) TooLong h k = too_long k h.has.short
  one_reason (Truncated l) (Truncated n) h k =
      let e : h.texts ≡ k.texts = same_lines most_bytes bytes h.texts k.texts h.rest k.rest h.has k.has in
      ap Truncated (h.line ∙ ap (λ (ts : List (List ℕ)). length ts + 1) e ∙ sym k.line)
  one_reason (Truncated l) BadOrder h (n, k) = stop_or_end n l IsOrderLine k h
  one_reason (Truncated l) (BadNode n) h k = stop_or_end n l (IsNodeLine m) k h
  one_reason (Truncated l) (BadLine n) h k = stop_or_end n l Other k h
  one_reason BadOrder TooLong (l, h) k = too_long k (short_of l IsOrderLine h)
  one_reason BadOrder (Truncated n) (l, h) k = stop_or_end l n IsOrderLine h k
  one_reason BadOrder BadOrder h k = refl
  one_reason BadOrder (BadNode n) (l, h) k = let s = same_place l n IsOrderLine (IsNodeLine m) h k in absurd (node_apart s.texts s.place s.stops s.first s.other)
  one_reason BadOrder (BadLine n) (l, h) k = let s = same_place l n IsOrderLine Other h k in absurd (s.other.1 s.first)
  one_reason (BadNode l) TooLong h k = too_long k (short_of l (IsNodeLine m) h)
  one_reason (BadNode l) (Truncated n) h k = stop_or_end l n (IsNodeLine m) h k
  one_reason (BadNode l) BadOrder h (n, k) = let s = same_place l n (IsNodeLine m) IsOrderLine h k in absurd (node_apart s.texts s.place s.stops s.other s.first)
  one_reason (BadNode l) (BadNode n) h k = ap BadNode (same_place l n (IsNodeLine m) (IsNodeLine m) h k).line
  one_reason (BadNode l) (BadLine n) h k = let s = same_place l n (IsNodeLine m) Other h k in absurd (s.other.0 s.first)
  one_reason (BadLine l) TooLong h k = too_long k (short_of l Other h)
  one_reason (BadLine l) (Truncated n) h k = stop_or_end l n Other h k
  one_reason (BadLine l) BadOrder h (n, k) = let s = same_place l n Other IsOrderLine h k in absurd (s.first.1 s.other)
  one_reason (BadLine l) (BadNode n) h k = let s = same_place l n Other (IsNodeLine m) h k in absurd (s.first.0 s.other)
  one_reason (BadLine l) (BadLine n) h k = ap BadLine (same_place l n Other Other h k).line
  one_reason Memory q h k = absurd h
  one_reason r Memory h k = absurd k

  -- ---- not neither

  -- a file without blocks
  pub begins_empty : Begins m []
  begins_empty =
      let o = declared (length m.vars) in
      let f : File = record { order = o; blocks = [] } in (
        record {
          file = f;
          is_file = record { order = declared_names (length m.vars); blocks = All-nil (IsBlock m); rising = λ i j d less below. absurd (omega arith); places = tt };
          front = [];
          rest = file_lines m f;
          lines = refl;
          texts_are = refl;
        },
        All-nil (IsGoodLine (state_bits m)),
      )

  -- a text that stops is refused
  stops_refused : (ts : List (List ℕ)) (r : List ℕ) (k : ℕ) → HasLines most_bytes bytes ts r → CeasesAt (Begins m) ts k → ((q : TextRefusal) → Refuses m bytes q → ⊥) → ⊥
  stops_refused ts r k has stops none = none (BadLine (k + 1)) (
    ts,
    r,
    k,
    has,
    stops,
    refl,
    (
      λ node. none (BadNode (k + 1)) (ts, r, k, has, stops, refl, node),
      λ order. none BadOrder (k + 1, (ts, r, k, has, stops, refl, order)),
    ),
  )

  pub not_neither : ((f : File) → Spells m f bytes → ⊥) → ((q : TextRefusal) → Refuses m bytes q → ⊥) → ⊥
  not_neither no_file none = elim (cases_lt most_bytes (length bytes)) [
    | inl long ↦ none TooLong long
    | inr short ↦
        let has : HasLines most_bytes bytes (lines_in bytes) (rest_in bytes) = record { short = short; whole = is_cut bytes } in
        begins_all (Begins m) begins_empty (lines_in bytes) (λ k stops. stops_refused (lines_in bytes) (rest_in bytes) k has stops none)
        (λ h. none (Truncated (length (lines_in bytes) + 1)) (record { texts = lines_in bytes; rest = rest_in bytes; has = has; begins = h; none = no_file; line = refl }))
  ]
