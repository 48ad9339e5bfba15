-- A text that is read is a trace, and one that isn't is refused.
use Rattle.std.proofs.Common.{◌≡◌, ◌⊎◌, inl, inr, true, ℕ, ◌+◌, ◌<◌, ◌≤◌, ◌^◌, List, [], ◌∷◌, ◌++◌, length, map, take, refl, sym, ◌∙◌, ap, subst, arith, length-append, append_assoc}
use Rattle.std.specs.Prelude.{Ok, Err}
use Rattle.std.proofs.lemmas.List.{append-nil, length-take-le}
use Rattle.std.proofs.Math.Seq.{take-append_seam, take-append-add}
use Rattle.kripke_model.specs.System.{System}
use Rattle.text_lines.specs.Cursor.{Place}
use Rattle.text_lines.specs.Formats as format
use Rattle.text_lines.specs.Formats.{GoesOn}
use Rattle.text_lines.specs.WholeLines.{join_lines, lines_in, rest_in}
use Rattle.text_lines.specs.declared.faults.Fault.{Fault}
use Rattle.text_lines.specs.declared.faults.Fault.TheVariants.{Stops, Breaks, End, Memory as NoMemory}
use Rattle.text_lines.proofs.Cuts.{is_cut, cut_is}
use Rattle.text_lines.proofs.FoundText.{none_at_all}
use Rattle.trace_files.specs.Parts.{Finds}
use Rattle.text_lines.specs.Ceasing.{HasLines, CeasesAt}
use Rattle.trace_files.specs.Refuses.{Opens, Begins, IsBadLine, Refuses}
use Rattle.trace_files.specs.Spells.{IsTrace, Spells, most_bytes}
use Rattle.trace_files.specs.Told.{IsNextRefused, TellsFault}
use Rattle.trace_files.specs.Trace.{Trace, members, states_lines, loop_line, trace_lines}
use Rattle.trace_files.specs.declared.refusals.TraceRefusal.{TraceRefusal}
use Rattle.trace_files.specs.declared.refusals.TraceRefusal.TheVariants.{BadLine, Truncated, TooLong, Memory}
use Rattle.trace_files.proofs.Known.{text, Good}
use Rattle.trace_files.proofs.OneTrace.{same_texts, same_trace, is_cut_so}
use Rattle.trace_files.proofs.Texts.{PrintsApart, state_count}

module _ (m : System) where
  -- ---- beginnings of traces are those of the one part that a trace is

  opens : (texts : List (List ℕ)) → format.Begins text Good (IsTrace m) (trace_lines m) texts → Opens m texts
  opens texts b = record { trace = b.part; is_trace = b.fits; rest = b.rest; lines = b.whole ∙ ap (λ ls. ls ++ b.rest) (sym (same_texts b.front) ∙ b.texts_are) }

  goes_on : (texts : List (List ℕ)) → Opens m texts → GoesOn text Good (IsTrace m) (trace_lines m) texts
  goes_on texts o = record {
    part = o.trace;
    fits = o.is_trace;
    more = [];
    front = texts;
    rest = o.rest;
    whole = append-nil (trace_lines m o.trace) ∙ o.lines;
    texts_are = same_texts texts;
    good = λ i d l. tt;
  }

  some_taken : (texts : List (List ℕ)) (k : ℕ) → k < length texts → take (k + 1) texts ≡ [] → ⊥
  some_taken texts k less e = omega (arith, less, length-take-le (k + 1) texts (omega (arith, less)), ap length e)

  stops_so : (texts : List (List ℕ)) (k : ℕ) → format.StopsAt text Good (IsTrace m) (trace_lines m) texts k → CeasesAt (Begins m) texts k
  stops_so texts k s = record { within = s.within; before = inr (opens (take k texts) s.before); after = after }
    where
      after : Begins m (take (k + 1) texts) → ⊥
      after (inl e) = some_taken texts k s.within e
      after (inr o) = s.after (goes_on (take (k + 1) texts) o)

  module _ (bytes : List ℕ) (short : length bytes ≤ most_bytes) where
    abbrev start : Place
    start = record { left = bytes; line = 1 }

    pub from_start : (A : Place → Type 0) (p : Place) → p.left ≡ bytes → p.line ≡ 1 → A p → A start
    from_start A p left at h = subst A (λ i. record { left = left i; line = at i }) h

    has : HasLines most_bytes bytes (lines_in bytes) (rest_in bytes)
    has = record { short = short; whole = is_cut bytes }

    bad_line : (k l : ℕ) → l ≡ k + 1 → CeasesAt (Begins m) (lines_in bytes) k → IsBadLine m bytes l
    bad_line k l at stops = record { texts = lines_in bytes; rest = rest_in bytes; place = k; has = has; stops = stops; line = at }

    -- ---- a model without specifications has no trace

    pub no_spec : length m.specs ≡ 0 → (r : TraceRefusal) → IsNextRefused start r → Refuses m bytes r
    no_spec none (BadLine l) h = bad_line 0 l (omega (arith, h.0)) (record { within = some (lines_in bytes) h.1; before = inl refl; after = after })
      where
        some : (texts : List (List ℕ)) → (texts ≡ [] → ⊥) → 0 < length texts
        some [] not = absurd (not refl)
        some (t ∷ ts) not = omega arith

        after : Begins m (take 1 (lines_in bytes)) → ⊥
        after (inl e) = some_taken (lines_in bytes) 0 (some (lines_in bytes) h.1) e
        after (inr o) = omega (arith, o.is_trace.spec.0, o.is_trace.spec.1, none)
    no_spec none (Truncated l) h =
        record { texts = lines_in bytes; rest = rest_in bytes; has = has; begins = inl h.1; none = λ t s. omega (arith, s.is_trace.spec.0, s.is_trace.spec.1, none); line = omega (arith, h.0, ap length h.1) }
    no_spec none TooLong h = absurd h
    no_spec none Memory h = absurd h

    module _ (prints : PrintsApart m) where
      spelled_lines : (t : Trace) → Spells m t bytes → (lines_in bytes ≡ trace_lines m t) × (rest_in bytes ≡ [])
      spelled_lines t s = cut_is bytes (trace_lines m t) [] (is_cut_so m prints bytes t s)

      -- ---- a reader stopped

      pub fault_refused : (fault : Fault) (last : Place) (n : ℕ) → n ≡ last.line → Finds (IsTrace m) (trace_lines m) start (Err fault) last → (r : TraceRefusal) → TellsFault fault n r → (r ≡ Memory) ⊎ Refuses m bytes r
      fault_refused (Stops l) last n same found r is =
          inr (subst (Refuses m bytes) (sym is) (bad_line found.finds.0 l (omega (arith, found.finds.1)) (stops_so (lines_in bytes) found.finds.0 (found.finds.2 true))))
      fault_refused (Breaks l) last n same found r is =
          inr (subst (Refuses m bytes) (sym is) (bad_line found.finds.0 l (omega (arith, found.finds.1)) (stops_so (lines_in bytes) found.finds.0 found.finds.2)))
      fault_refused End last n same found r is = inr (subst (Refuses m bytes) (sym is) (record {
        texts = lines_in bytes;
        rest = rest_in bytes;
        has = has;
        begins = inr (opens (lines_in bytes) found.finds.0.begins);
        none = λ t s. found.finds.0.none t s.is_trace [] ((spelled_lines t s).0 ∙ sym (same_texts (trace_lines m t)) ∙ sym (append-nil (map text (trace_lines m t))));
        line = omega (arith, same, found.finds.1);
      }))
      fault_refused NoMemory last n same found r is = inl is

      -- ---- a trace was read

      module _ (t : Trace) (last : Place) (found : Finds (IsTrace m) (trace_lines m) start (Ok t) last) where
        lines_are : lines_in bytes ≡ trace_lines m t ++ lines_in last.left
        lines_are = found.finds.read.texts_are ∙ ap (λ ls. ls ++ lines_in last.left) (same_texts (trace_lines m t))

        few : length (members t.lasso) < 2 ^ 64
        few = omega (arith, short, found.finds.line, found.room, state_count m prints (members t.lasso) 0, length-append (states_lines m 0 (members t.lasso)) (loop_line (length t.lasso.stem) ∷ []))

        pub spelled : last.left ≡ [] → Spells m t bytes
        spelled none =
            let lines : lines_in bytes ≡ trace_lines m t = lines_are ∙ ap (λ ls. trace_lines m t ++ lines_in ls) none ∙ append-nil (trace_lines m t) in
            let rest : rest_in bytes ≡ [] = sym found.finds.rest ∙ ap (λ bs. rest_in bs) none in
            record {
              is_trace = found.finds.read.fits;
              text = (is_cut bytes).cut ∙ ap (λ ts. join_lines ts ++ rest_in bytes) lines ∙ ap (λ bs. join_lines (trace_lines m t) ++ bs) rest ∙ append-nil (join_lines (trace_lines m t));
              short = short;
            }

        front_opens : Opens m (trace_lines m t)
        front_opens = record { trace = t; is_trace = found.finds.read.fits; rest = []; lines = sym (append-nil (trace_lines m t)) }

        -- a line stands behind it
        stops_behind : (u : List ℕ) (us : List (List ℕ)) → lines_in bytes ≡ trace_lines m t ++ (u ∷ us) → CeasesAt (Begins m) (lines_in bytes) (length (trace_lines m t))
        stops_behind u us are = record {
          within = omega (arith, ap length are, length-append (trace_lines m t) (u ∷ us));
          before = inr (subst (Opens m) (sym (ap (take (length (trace_lines m t))) are ∙ take-append_seam (trace_lines m t) (u ∷ us))) front_opens);
          after = after;
        }
          where
            taken : take (length (trace_lines m t) + 1) (lines_in bytes) ≡ trace_lines m t ++ (u ∷ [])
            taken = ap (take (length (trace_lines m t) + 1)) are ∙ take-append-add (trace_lines m t) (u ∷ us) 1

            longer : (o : Opens m (trace_lines m t ++ (u ∷ []))) → t ≡ o.trace → ⊥
            longer o same = omega (arith, ap (λ s. length (trace_lines m s)) same, ap length o.lines, length-append (trace_lines m t ++ (u ∷ [])) o.rest, length-append (trace_lines m t) (u ∷ []))

            after : Begins m (take (length (trace_lines m t) + 1) (lines_in bytes)) → ⊥
            after (inl e) = omega (arith, ap length (sym taken ∙ e), length-append (trace_lines m t) (u ∷ []))
            after (inr p) =
                let o : Opens m (trace_lines m t ++ (u ∷ [])) = subst (Opens m) taken p in
                longer o (same_trace m prints t o.trace found.finds.read.fits o.is_trace few (u ∷ o.rest) []
                (sym (append_assoc (trace_lines m t) (u ∷ []) o.rest) ∙ sym o.lines ∙ sym (append-nil (trace_lines m o.trace))))

        pub left_refused : (last.left ≡ [] → ⊥) → (r : TraceRefusal) → IsNextRefused last r → Refuses m bytes r
        left_refused more (BadLine l) h = bad_line (length (trace_lines m t)) l (omega (arith, h.0, found.finds.line)) (go (lines_in last.left) refl h.1)
          where
            go : (ls : List (List ℕ)) → lines_in last.left ≡ ls → (lines_in last.left ≡ [] → ⊥) → CeasesAt (Begins m) (lines_in bytes) (length (trace_lines m t))
            go [] is not = absurd (not is)
            go (u ∷ us) is not = stops_behind u us (lines_are ∙ ap (λ ls. trace_lines m t ++ ls) is)
        left_refused more (Truncated l) h =
            let lines : lines_in bytes ≡ trace_lines m t = lines_are ∙ ap (λ ls. trace_lines m t ++ ls) h.1 ∙ append-nil (trace_lines m t) in
            record {
              texts = lines_in bytes;
              rest = rest_in bytes;
              has = has;
              begins = inr (subst (Opens m) (sym lines) front_opens);
              none = λ s spells. more (none_at_all last.left h.1 (found.finds.rest ∙ (spelled_lines s spells).1));
              line = omega (arith, h.0, found.finds.line, ap length lines);
            }
        left_refused more TooLong h = absurd h
        left_refused more Memory h = absurd h
