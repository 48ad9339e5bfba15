-- What is found of a path and of a trace.
use Rattle.std.proofs.Common.{◌≡◌, ℕ, ◌+◌, ◌<◌, ◌≤◌, List, [], ◌∷◌, ◌++◌, length, map, take, drop, refl, sym, ◌∙◌, ap, subst, arith, length-append, append_assoc}
use Rattle.std.specs.Prelude.{All, Ok, Err}
use Rattle.std.proofs.lemmas.List.{take-append-drop, length-take-le, length-drop}
use Rattle.std.proofs.lemmas.List.Elements.{All-nil, All-cons, All-head, All-tail}
use Rattle.std.proofs.Math.Seq.{take-append_seam, drop-append_seam}
use Rattle.kripke_model.specs.Flat.{IsFlat}
use Rattle.kripke_model.specs.Path.{Lasso}
use Rattle.kripke_model.specs.Step.{IsState}
use Rattle.kripke_model.specs.System.{System, State}
use Rattle.text_lines.specs.Cursor.{Place}
use Rattle.text_lines.specs.Formats.{Begins, GoesOn, StopsAt, FitBoth, FitUntil, lines_of_both, lines_until}
use Rattle.text_lines.specs.Found.{GoodIf}
use Rattle.text_lines.specs.WholeLines.{lines_in}
use Rattle.text_lines.specs.declared.faults.Fault.{Fault}
use Rattle.text_lines.proofs.Carried.{Carries, carried}
use Rattle.text_lines.proofs.FoundInTurn.{both_found, first_fault, last_fault}
use Rattle.text_lines.proofs.FoundRenamed.{renamed_ok, renamed_fault}
use Rattle.trace_files.specs.Parts.{Finds, later_state, FitsLoop, one_loop, FitsEnding, ending_lines}
use Rattle.trace_files.specs.Spells.{IsSpec, IsLasso, IsTrace}
use Rattle.trace_files.specs.Trace.{Trace, members, spec_line, state_lines, states_lines, loop_line, lasso_lines, trace_lines}
use Rattle.trace_files.proofs.FoundLines.{some_state}
use Rattle.trace_files.proofs.Known.{text, Good, spec_known, state_known}
use Rattle.trace_files.proofs.Texts.{PrintsApart}

-- ---- another form of a part, where what fits has the same lines in both

pub record IsForm {X Z : Type 0} (FitsX : X → Type 0) (lines_x : X → List (List ℕ)) (FitsZ : Z → Type 0) (lines_z : Z → List (List ℕ)) (to : X → Z) (from : Z → X) : Type 0 where
  pub fits : (x : X) → FitsX x → FitsZ (to x)
  pub lines : (x : X) → FitsX x → lines_z (to x) ≡ lines_x x
  pub fits_back : (z : Z) → FitsZ z → FitsX (from z)
  pub lines_back : (z : Z) → FitsZ z → lines_x (from z) ≡ lines_z z

module _ {X Z : Type 0} (FitsX : X → Type 0) (lines_x : X → List (List ℕ)) (FitsZ : Z → Type 0) (lines_z : Z → List (List ℕ)) (to : X → Z) (from : Z → X) (form : IsForm FitsX lines_x FitsZ lines_z to from) where
  begins_so : (Rules : List ℕ → Type 0) (texts : List (List ℕ)) → Begins text Rules FitsX lines_x texts → Begins text Rules FitsZ lines_z texts
  begins_so Rules texts b = record { part = to b.part; fits = form.fits b.part b.fits; front = b.front; rest = b.rest; whole = form.lines b.part b.fits ∙ b.whole; texts_are = b.texts_are; good = b.good }

  goes_back : (Rules : List ℕ → Type 0) (texts : List (List ℕ)) → GoesOn text Rules FitsZ lines_z texts → GoesOn text Rules FitsX lines_x texts
  goes_back Rules texts g = record {
    part = from g.part;
    fits = form.fits_back g.part g.fits;
    more = g.more;
    front = g.front;
    rest = g.rest;
    whole = ap (λ ls. ls ++ g.more) (form.lines_back g.part g.fits) ∙ g.whole;
    texts_are = g.texts_are;
    good = g.good;
  }

  carries : (Rules : List ℕ → Type 0) (texts : List (List ℕ)) → Carries text FitsX lines_x FitsZ lines_z Rules 0 texts texts
  carries Rules texts = record {
    stops = λ k n e s. let same : k ≡ n = omega (arith, e) in
        subst (StopsAt text Rules FitsZ lines_z texts) same
        (record { within = s.within; before = begins_so Rules (take k texts) s.before; after = λ g. s.after (goes_back Rules (take (k + 1) texts) g) });
    begins = λ k n e b. let same : k ≡ n = omega (arith, e) in subst (λ j. Begins text Rules FitsZ lines_z (take j texts)) same (begins_so Rules (take k texts) b);
    ends = λ e. record {
      begins = begins_so Rules texts e.begins;
      none = λ z fits behind is. e.none (from z) (form.fits_back z fits) behind (is ∙ ap (λ ls. map text ls ++ behind) (sym (form.lines_back z fits)));
    };
  }

  pub formed_fault : {old new : Place} {fault : Fault} → Finds FitsX lines_x old (Err fault) new → Finds FitsZ lines_z old (Err fault) new
  formed_fault {old} {new} {fault} found = carried text FitsX lines_x FitsZ lines_z Good 0 old old new (omega arith) (omega arith) (λ asked. carries (GoodIf Good asked) (lines_in old.left)) fault (omega arith) found

  pub formed_ok : {old new : Place} {x : X} → Finds FitsX lines_x old (Ok x) new → Finds FitsZ lines_z old (Ok (to x)) new
  formed_ok {old} {new} {x} found =
      let p = found.finds.read in
      let same = form.lines x p.fits in
      record {
        finds = record {
          read = record { fits = form.fits x p.fits; good = λ i d l. tt; texts_are = p.texts_are ∙ ap (λ ls. map text ls ++ lines_in new.left) (sym same) };
          rest = found.finds.rest;
          line = found.finds.line ∙ ap (λ ls. old.line + length ls) (sym same);
        };
        room = found.room;
      }

module _ (m : System) where
  -- ---- states with the last line

  ending_is : (earlier xs : List State) (i : ℕ) → lines_until (later_state m) one_loop earlier xs i ≡ states_lines m (length earlier + 1) xs ++ loop_line i ∷ []
  ending_is earlier [] i = refl
  ending_is earlier (s ∷ xs) i =
      ap (λ ls. state_lines m (length earlier + 1) s ++ ls)
      (ending_is (earlier ++ s ∷ []) xs i ∙ ap (λ n. states_lines m n xs ++ loop_line i ∷ []) (let e : length (earlier ++ s ∷ []) + 1 ≡ length earlier + 1 + 1 = omega (arith, length-append earlier (s ∷ [])) in e))
      ∙ sym (append_assoc (state_lines m (length earlier + 1) s) (states_lines m (length earlier + 1 + 1) xs) (loop_line i ∷ []))

  until_fits : (earlier xs : List State) (i : ℕ) → FitUntil (λ _. IsState m) FitsLoop earlier xs i → All (IsState m) xs × (i ≤ length earlier + length xs)
  until_fits earlier [] i fits = (All-nil (IsState m), omega (arith, fits))
  until_fits earlier (s ∷ xs) i fits =
      let h = until_fits (earlier ++ s ∷ []) xs i fits.1 in
      (All-cons (IsState m) s xs fits.0 h.0, omega (arith, h.1, length-append earlier (s ∷ [])))

  fits_until : (earlier xs : List State) (i : ℕ) → All (IsState m) xs → i ≤ length earlier + length xs → FitUntil (λ _. IsState m) FitsLoop earlier xs i
  fits_until earlier [] i states within = omega (arith, within)
  fits_until earlier (s ∷ xs) i states within =
      (All-head (IsState m) s xs states, fits_until (earlier ++ s ∷ []) xs i (All-tail (IsState m) s xs states) (omega (arith, within, length-append earlier (s ∷ []))))

  -- ---- a path is its first state with these

  abbrev Parted : Type 0
  Parted = State × (List State × ℕ)

  abbrev FitsParted : Parted → Type 0
  FitsParted = FitBoth (IsState m) (λ s. FitsEnding m)

  abbrev parted_lines : Parted → List (List ℕ)
  parted_lines = lines_of_both (state_lines m 0) (λ s. ending_lines m)

  abbrev to : Parted → Lasso
  to p = record { stem = take p.1.1 (p.0 ∷ p.1.0); cycle = drop p.1.1 (p.0 ∷ p.1.0) }

  abbrev from_list : List State → ℕ → Parted
  from_list [] i = ([], ([], 0))
  from_list (s ∷ xs) i = (s, (xs, i))

  abbrev from : Lasso → Parted
  from p = from_list (members p) (length p.stem)

  all_members : (p : Parted) → members (to p) ≡ p.0 ∷ p.1.0
  all_members p = take-append-drop p.1.1 (p.0 ∷ p.1.0)

  parted_lines_are : (s : State) (xs : List State) (i : ℕ) → parted_lines (s, (xs, i)) ≡ states_lines m 0 (s ∷ xs) ++ loop_line i ∷ []
  parted_lines_are s xs i = ap (λ ls. state_lines m 0 s ++ ls) (ending_is [] xs i) ∙ sym (append_assoc (state_lines m 0 s) (states_lines m 1 xs) (loop_line i ∷ []))

  form : IsForm FitsParted parted_lines (IsLasso m) (lasso_lines m) to from
  form = record {
    fits = λ p fits. let u = until_fits [] p.1.0 p.1.1 fits.1 in record {
      states = subst (All (IsState m)) (sym (all_members p)) (All-cons (IsState m) p.0 p.1.0 fits.0 u.0);
      loops = omega (arith, u.1, length-drop p.1.1 (p.0 ∷ p.1.0));
    };
    lines = λ p fits. let u = until_fits [] p.1.0 p.1.1 fits.1 in
        ap (λ ss. states_lines m 0 ss ++ loop_line (length (take p.1.1 (p.0 ∷ p.1.0))) ∷ []) (all_members p)
        ∙ ap (λ n. states_lines m 0 (p.0 ∷ p.1.0) ++ loop_line n ∷ []) (length-take-le p.1.1 (p.0 ∷ p.1.0) (omega (arith, u.1)))
        ∙ sym (parted_lines_are p.0 p.1.0 p.1.1);
    fits_back = λ p is. back_fits (members p) (length p.stem) (let e : length p.stem < length (members p) = omega (arith, is.loops, length-append p.stem p.cycle) in e) is.states;
    lines_back = λ p is. back_lines (members p) (length p.stem) (let e : length p.stem < length (members p) = omega (arith, is.loops, length-append p.stem p.cycle) in e);
  }
    where
      back_fits : (ss : List State) (i : ℕ) → i < length ss → All (IsState m) ss → FitsParted (from_list ss i)
      back_fits [] i less states = absurd (omega arith)
      back_fits (s ∷ xs) i less states = (All-head (IsState m) s xs states, fits_until [] xs i (All-tail (IsState m) s xs states) (omega arith))

      back_lines : (ss : List State) (i : ℕ) → i < length ss → parted_lines (from_list ss i) ≡ states_lines m 0 ss ++ loop_line i ∷ []
      back_lines [] i less = absurd (omega arith)
      back_lines (s ∷ xs) i less = parted_lines_are s xs i

  pub first_state_fault : {old new : Place} {fault : Fault} → Finds (IsState m) (state_lines m 0) old (Err fault) new → Finds (IsLasso m) (lasso_lines m) old (Err fault) new
  first_state_fault found =
      formed_fault FitsParted parted_lines (IsLasso m) (lasso_lines m) to from form (first_fault (λ s. FitsEnding m) (λ s. ending_lines m) (λ s is. (([], 0), omega arith)) found)

  -- the path of these states that goes on at state i
  is_path : (p : Lasso) (s : State) (xs : List State) (i : ℕ) → members p ≡ s ∷ xs → length p.stem ≡ i → to (s, (xs, i)) ≡ p
  is_path p s xs i are at =
      let stem : take i (s ∷ xs) ≡ p.stem = ap (λ ss. take i ss) (sym are) ∙ ap (λ n. take n (members p)) (sym at) ∙ take-append_seam p.stem p.cycle in
      let cycle : drop i (s ∷ xs) ≡ p.cycle = ap (λ ss. drop i ss) (sym are) ∙ ap (λ n. drop n (members p)) (sym at) ∙ drop-append_seam p.stem p.cycle in
      λ j. record { stem = stem j; cycle = cycle j }

  pub place_within : {old new : Place} {xs : List State} {i : ℕ} → Finds (FitsEnding m) (ending_lines m) old (Ok (xs, i)) new → i ≤ length xs
  place_within {old} {new} {xs} {i} found = omega (arith, (until_fits [] xs i found.finds.read.fits).1)

  pub lasso_found : (p : Lasso) (xs : List State) (i : ℕ) {old mid new : Place} {s : State} → members p ≡ s ∷ xs → length p.stem ≡ i → Finds (IsState m) (state_lines m 0) old (Ok s) mid → Finds (FitsEnding m) (ending_lines m) mid (Ok (xs, i)) new
      → Finds (IsLasso m) (lasso_lines m) old (Ok p) new
  lasso_found p xs i {old} {mid} {new} {s} are at a b =
      subst (λ q. Finds (IsLasso m) (lasso_lines m) old (Ok q) new) (is_path p s xs i are at)
      (formed_ok FitsParted parted_lines (IsLasso m) (lasso_lines m) to from form (both_found (λ s. FitsEnding m) (λ s. ending_lines m) a b))

  -- ---- a trace

  abbrev to_trace : ℕ × Lasso → Trace
  to_trace p = record { spec = p.0; lasso = p.1 }

  abbrev of_trace : Trace → ℕ × Lasso
  of_trace t = (t.spec, t.lasso)

  abbrev spec_lines : ℕ → List (List ℕ)
  spec_lines j = spec_line j ∷ []

  abbrev Turned : ℕ × Lasso → Type 0
  Turned = FitBoth (IsSpec m) (λ j. IsLasso m)

  abbrev turned_lines : ℕ × Lasso → List (List ℕ)
  turned_lines = lines_of_both spec_lines (λ j. lasso_lines m)

  module _ (prints : PrintsApart m) where
    pub ending_fault : {old mid new : Place} {s : State} {fault : Fault} → Finds (IsState m) (state_lines m 0) old (Ok s) mid → Finds (FitsEnding m) (ending_lines m) mid (Err fault) new → Finds (IsLasso m) (lasso_lines m) old (Err fault) new
    ending_fault a found =
        formed_fault FitsParted parted_lines (IsLasso m) (lasso_lines m) to from form (last_fault (λ s. FitsEnding m) (λ s. ending_lines m) (state_known m prints 0) a found)

    pub lasso_fault : {old mid new : Place} {j : ℕ} {fault : Fault} → Finds (IsSpec m) spec_lines old (Ok j) mid → Finds (IsLasso m) (lasso_lines m) mid (Err fault) new → Finds (IsTrace m) (trace_lines m) old (Err fault) new
    lasso_fault a found =
        renamed_fault to_trace of_trace (λ p. refl) (λ p fits. record { spec = fits.0; lasso = fits.1 }) (λ t. refl) (λ t is. (is.spec, is.lasso))
        (last_fault (λ j. IsLasso m) (λ j. lasso_lines m) (spec_known m prints) a found)

  pub trace_found : {old mid new : Place} {j : ℕ} {p : Lasso} → Finds (IsSpec m) spec_lines old (Ok j) mid → Finds (IsLasso m) (lasso_lines m) mid (Ok p) new → Finds (IsTrace m) (trace_lines m) old (Ok (record { spec = j; lasso = p })) new
  trace_found a b =
      renamed_ok to_trace of_trace (λ p. refl) (λ p fits. record { spec = fits.0; lasso = fits.1 }) (λ t. refl) (λ t is. (is.spec, is.lasso)) (both_found (λ j. IsLasso m) (λ j. lasso_lines m) a b)

  pub spec_fault : IsFlat m → {old new : Place} {fault : Fault} → Finds (IsSpec m) spec_lines old (Err fault) new → Finds (IsTrace m) (trace_lines m) old (Err fault) new
  spec_fault flat found =
      let s = some_state m flat in
      renamed_fault to_trace of_trace (λ p. refl) (λ p fits. record { spec = fits.0; lasso = fits.1 }) (λ t. refl) (λ t is. (is.spec, is.lasso))
      (first_fault (λ j. IsLasso m) (λ j. lasso_lines m) (λ j is. (record { stem = []; cycle = s.0 ∷ [] }, record { states = All-cons (IsState m) s.0 [] s.1 (All-nil (IsState m)); loops = omega arith })) found)
