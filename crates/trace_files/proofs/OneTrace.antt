-- The bytes are one trace at most, and no trace is refused.
use Rattle.std.proofs.Common.{◌≡◌, inr, ℕ, ◌+◌, ◌<◌, ◌≤◌, ◌^◌, List, [], ◌∷◌, ◌++◌, length, map, get_or, refl, sym, ◌∙◌, ap, arith, length-append, append_assoc}
use Rattle.std.specs.Prelude.{All, codes, decimal}
use Rattle.std.proofs.lemmas.List.{append-nil, append_cancel_left, get_or_append_left, same_lists}
use Rattle.std.proofs.lemmas.List.Elements.{All-head, All-tail}
use Rattle.std.proofs.lemmas.Fmt.{decimal_injective}
use Rattle.kripke_model.specs.Path.{Lasso}
use Rattle.kripke_model.specs.Step.{IsState}
use Rattle.kripke_model.specs.System.{System, State}
use Rattle.text_lines.specs.WholeLines.{join_lines, IsCut}
use Rattle.text_lines.specs.Ceasing.{AreReadOnce}
use Rattle.text_lines.proofs.Cuts.{cut_unique, no_feed}
use Rattle.text_lines.proofs.Lists.{same_first, same_rest}
use Rattle.trace_files.specs.Trace.{Trace, members, spec_line, value_lines, state_line, state_lines, states_lines, loop_line, lasso_lines, trace_lines}
use Rattle.trace_files.specs.Spells.{IsLasso, IsTrace, Spells, most_bytes}
use Rattle.trace_files.specs.Refuses.{Refuses}
use Rattle.trace_files.specs.declared.refusals.TraceRefusal.{TraceRefusal}
use Rattle.trace_files.specs.declared.refusals.TraceRefusal.TheVariants.{BadLine, Truncated, TooLong, Memory}
use Rattle.trace_files.proofs.Beginnings.{begins_less}
use Rattle.trace_files.proofs.Known.{text, Known, spec_known, state_known}
use Rattle.trace_files.proofs.Texts.{PrintsApart, lines_one, few_members}

-- lines are their texts
pub same_texts : (ls : List (List ℕ)) → map text ls ≡ ls
same_texts [] = refl
same_texts (l ∷ ls) = ap (λ us. l ∷ us) (same_texts ls)

-- a part that is known, told of lines themselves
pub known_by : {X : Type 0} {Fits : X → Type 0} (lines : X → List (List ℕ)) → Known Fits lines → (a b : X) → Fits a → Fits b → (xs ys : List (List ℕ)) → lines a ++ xs ≡ lines b ++ ys → a ≡ b
known_by {X} {Fits} lines known a b p q xs ys e =
    known a b p q xs ys (ap (λ ls. ls ++ xs) (same_texts (lines a)) ∙ e ∙ ap (λ ls. ls ++ ys) (sym (same_texts (lines b))))

first_byte : List ℕ → ℕ
first_byte word = get_or word 0 0

differ : (x y : ℕ) → x ≡ y → x ≡ 115 → y ≡ 108 → ⊥
differ x y e f g = omega arith

-- a state's line is no `loop`
pub apart_words : (k i : ℕ) → state_line k ≡ loop_line i → ⊥
unfolding first_byte
apart_words k i e = differ (first_byte (state_line k)) (first_byte (loop_line i)) (ap first_byte e) refl refl

split_left : (a b x y : List State) → length a ≡ length x → a ++ b ≡ x ++ y → a ≡ x
split_left a b x y e f = same_lists a x e (λ k d l. sym (get_or_append_left a b d k l) ∙ ap (λ zs. get_or zs k d) f ∙ get_or_append_left x y d k (omega arith))

split_right : (a b x y : List State) → length a ≡ length x → a ++ b ≡ x ++ y → b ≡ y
split_right a b x y e f = append_cancel_left a b y (f ∙ ap (λ zs. zs ++ y) (sym (split_left a b x y e f)))

module _ (m : System) (prints : PrintsApart m) where
  -- ---- paths

  same_states : (ss ts : List State) (k i j : ℕ) (xs ys : List (List ℕ)) → All (IsState m) ss → All (IsState m) ts → states_lines m k ss ++ loop_line i ∷ xs ≡ states_lines m k ts ++ loop_line j ∷ ys
      → (ss ≡ ts) × (loop_line i ≡ loop_line j)
  same_states [] [] k i j xs ys one other e = (refl, same_first (loop_line i) (loop_line j) xs ys e)
  same_states [] (t ∷ ts) k i j xs ys one other e =
      absurd (apart_words k i (sym (same_first (loop_line i) (state_line k) xs (value_lines m 0 t ++ states_lines m (k + 1) ts ++ loop_line j ∷ ys) e)))
  same_states (s ∷ ss) [] k i j xs ys one other e =
      absurd (apart_words k j (same_first (state_line k) (loop_line j) (value_lines m 0 s ++ states_lines m (k + 1) ss ++ loop_line i ∷ xs) ys e))
  same_states (s ∷ ss) (t ∷ ts) k i j xs ys one other e =
      let x : List (List ℕ) = states_lines m (k + 1) ss ++ loop_line i ∷ xs in
      let y : List (List ℕ) = states_lines m (k + 1) ts ++ loop_line j ∷ ys in
      let f : state_lines m k s ++ x ≡ state_lines m k t ++ y =
      sym (append_assoc (state_lines m k s) (states_lines m (k + 1) ss) (loop_line i ∷ xs)) ∙ e ∙ append_assoc (state_lines m k t) (states_lines m (k + 1) ts) (loop_line j ∷ ys) in
      let h : s ≡ t = known_by (state_lines m k) (state_known m prints k) s t (All-head (IsState m) s ss one) (All-head (IsState m) t ts other) x y f in
      let g : x ≡ y = append_cancel_left (state_lines m k s) x y (f ∙ ap (λ u. state_lines m k u ++ y) (sym h)) in
      let r = same_states ss ts (k + 1) i j xs ys (All-tail (IsState m) s ss one) (All-tail (IsState m) t ts other) g in
      (λ a. h a ∷ r.0 a, r.1)

  pub same_path : (p q : Lasso) → IsLasso m p → IsLasso m q → length (members p) < 2 ^ 64 → (xs ys : List (List ℕ)) → lasso_lines m p ++ xs ≡ lasso_lines m q ++ ys → p ≡ q
  same_path p q one other few xs ys e =
      let r = same_states (members p) (members q) 0 (length p.stem) (length q.stem) xs ys one.states other.states
      (sym (append_assoc (states_lines m 0 (members p)) (loop_line (length p.stem) ∷ []) xs) ∙ e ∙ append_assoc (states_lines m 0 (members q)) (loop_line (length q.stem) ∷ []) ys) in
      let turn : length p.stem ≡ length q.stem = decimal_injective (length p.stem) (length q.stem)
      (omega (arith, few, length-append p.stem p.cycle)) (omega (arith, few, ap length r.0, length-append q.stem q.cycle))
      (append_cancel_left (codes "loop ") (decimal (length p.stem)) (decimal (length q.stem)) r.1) in
      let stem : p.stem ≡ q.stem = split_left p.stem p.cycle q.stem q.cycle turn r.0 in
      let cycle : p.cycle ≡ q.cycle = split_right p.stem p.cycle q.stem q.cycle turn r.0 in
      λ i. record { stem = stem i; cycle = cycle i }

  pub same_trace : (t u : Trace) → IsTrace m t → IsTrace m u → length (members t.lasso) < 2 ^ 64 → (xs ys : List (List ℕ)) → trace_lines m t ++ xs ≡ trace_lines m u ++ ys → t ≡ u
  same_trace t u one other few xs ys e =
      let spec : t.spec ≡ u.spec = known_by (λ j. spec_line j ∷ []) (spec_known m prints) t.spec u.spec one.spec other.spec (lasso_lines m t.lasso ++ xs) (lasso_lines m u.lasso ++ ys) e in
      let path : t.lasso ≡ u.lasso = same_path t.lasso u.lasso one.lasso other.lasso few xs ys
      (same_rest (spec_line t.spec) (spec_line u.spec) (lasso_lines m t.lasso ++ xs) (lasso_lines m u.lasso ++ ys) e) in
      λ i. record { spec = spec i; lasso = path i }

  -- ---- texts

  module _ (bytes : List ℕ) (t : Trace) (spells : Spells m t bytes) where
    pub few_states : length (members t.lasso) < 2 ^ 64
    few_states = let h : length bytes ≡ length (join_lines (trace_lines m t)) = ap length spells.text in omega (arith, few_members m prints t, spells.short, h)

    pub is_cut_so : IsCut bytes (trace_lines m t) []
    is_cut_so = record { cut = spells.text ∙ sym (append-nil (join_lines (trace_lines m t))); each = lines_one m prints t spells.is_trace.lasso.states; last = no_feed }

  same_cut : (bytes : List ℕ) (ts us : List (List ℕ)) (r q : List ℕ) → IsCut bytes ts r → IsCut bytes us q → ts ≡ us
  same_cut bytes ts us r q a b = (cut_unique ts us r q a.each b.each a.last b.last (sym a.cut ∙ b.cut)).0

  pub one_trace : (bytes : List ℕ) (t u : Trace) → Spells m t bytes → Spells m u bytes → t ≡ u
  one_trace bytes t u h k =
      let e : trace_lines m t ≡ trace_lines m u = same_cut bytes (trace_lines m t) (trace_lines m u) [] [] (is_cut_so bytes t h) (is_cut_so bytes u k) in
      same_trace t u h.is_trace k.is_trace (few_states bytes t h) [] [] (ap (λ ls. ls ++ []) e)

  pub not_both : (bytes : List ℕ) (t : Trace) (r : TraceRefusal) → Spells m t bytes → Refuses m bytes r → ⊥
  not_both bytes t TooLong h k = let s : length bytes ≤ most_bytes = h.short in omega arith
  not_both bytes t (Truncated l) h k = k.none t h
  not_both bytes t (BadLine l) h k =
      let e : trace_lines m t ≡ k.texts = same_cut bytes (trace_lines m t) k.texts [] k.rest (is_cut_so bytes t h) k.has.whole in
      k.stops.after (begins_less m k.texts (k.place + 1) (inr (record { trace = t; is_trace = h.is_trace; rest = []; lines = e ∙ sym (append-nil k.texts) })))
  not_both bytes t Memory h k = k

  pub are_one_trace : (bytes : List ℕ) → AreReadOnce (λ t. Spells m t bytes) (Refuses m bytes)
  are_one_trace bytes = record { one = one_trace bytes; not_both = not_both bytes }
