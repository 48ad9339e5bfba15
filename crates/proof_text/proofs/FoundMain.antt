-- Layers and a fair part with something behind them. The main part of a proof, and what the whole of a proof is.
use Rattle.std.proofs.Common.{◌≡◌, ℕ, ◌≤◌, Bool, List, [], ◌∷◌, ◌++◌, flat_map, Option, Some, None, refl, sym, ◌∙◌, ap, arith, append_assoc}
use Rattle.std.specs.Prelude.{Ok, Err}
use Rattle.std.proofs.lemmas.List.Elements.{All-nil}
use Rattle.kripke_model.specs.Ctl.{Ctl}
use Rattle.kripke_model.specs.Leaves.{HasLeafConstraints}
use Rattle.kripke_model.specs.System.{System, State, constraint_count}
use Rattle.proof_form.specs.Form.{Layer, FairPart, Entry, FreePart, Proof}
use Rattle.proof_text.specs.FileParts.{FitsEnd, FitsProof, FitsFree}
use Rattle.proof_text.specs.Lines.{Line, nonfair_lines, fair_lines, entry_lines, end_lines, free_lines, proof_lines}
use Rattle.proof_text.specs.ProofParts.{FitsEnding, ending_lines, FitsMain, main_lines}
use Rattle.proof_text.specs.SetParts.{FitsSets, FitsLayers, FitsFair, FitsEntry, Finds}
use Rattle.text_lines.specs.Cursor.{Place}
use Rattle.text_lines.specs.Formats.{FitBoth, FitEach, FitUntil, lines_of_both, lines_until}
use Rattle.text_lines.specs.declared.faults.Fault.{Fault}
use Rattle.proof_text.proofs.Formed.{IsForm}
use Rattle.proof_text.proofs.Joined.{IsJoin, head_fault, body_fault, whole_found}
use Rattle.proof_text.proofs.KnownLines.{IsSmall}
use Rattle.proof_text.proofs.KnownParts.{nonfair_is_known, fair_is_known}
use Rattle.proof_text.proofs.SetForms.{so_many}

-- ---- layers, a fair part, and something behind them

abbrev pub FitsThree : {T : Type 0} → ℕ → ℕ → (T → Type 0) → List (Layer ℕ) × (FairPart ℕ × T) → Type 0
FitsThree count most FitsT = FitBoth (FitsLayers count most) (λ _. FitBoth (FitsFair count most) (λ _. FitsT))

abbrev pub three_lines : {T : Type 0} → (T → List Line) → List (Layer ℕ) × (FairPart ℕ × T) → List Line
three_lines lines_t = lines_of_both nonfair_lines (λ _. lines_of_both fair_lines (λ _. lines_t))

some_fair : (count most : ℕ) → 1 ≤ most → (p : FairPart ℕ) × FitsFair count most p
some_fair count most some =
    let reach = so_many (FitsSets most) [] (All-nil _, omega arith) count in
    (record { inside = 0; reach = reach.0 }, ((omega (arith, some), omega arith), reach.1.1, reach.1.0))

no_layers : (count most : ℕ) → FitsLayers count most []
no_layers count most = (All-nil _, omega arith)

pub some_three : {T : Type 0} {FitsT : T → Type 0} (count most : ℕ) → 1 ≤ most → (t : T) × FitsT t → (p : List (Layer ℕ) × (FairPart ℕ × T)) × FitsThree count most FitsT p
some_three count most some last = let fair = some_fair count most some in (([], (fair.0, last.0)), (no_layers count most, (fair.1, last.1)))

module _ {T : Type 0} {FitsT : T → Type 0} (lines_t : T → List Line) (count most : ℕ) (small : IsSmall count) (some : 1 ≤ most) (last : (t : T) × FitsT t) where
  inner : IsJoin (FitsFair count most) fair_lines (λ _. FitsT) (λ _. lines_t) (FitBoth (FitsFair count most) (λ _. FitsT)) (lines_of_both fair_lines (λ _. lines_t)) (λ p. p) (λ p. p)
  inner = record {
    form = record { fits = λ x fits. fits; lines = λ x fits. refl; fits_back = λ z fits. fits; lines_back = λ z fits. refl };
    last = λ x fits. last;
    known = fair_is_known count most;
  }

  module _ {Z : Type 0} {FitsZ : Z → Type 0} {lines_z : Z → List Line} {to : List (Layer ℕ) × (FairPart ℕ × T) → Z} {from : Z → List (Layer ℕ) × (FairPart ℕ × T)}
      (form : IsForm (FitsThree count most FitsT) (three_lines lines_t) FitsZ lines_z to from) where
    outer : IsJoin (FitsLayers count most) nonfair_lines (λ _. FitBoth (FitsFair count most) (λ _. FitsT)) (λ _. lines_of_both fair_lines (λ _. lines_t)) FitsZ lines_z to from
    outer = record { form = form; last = λ x fits. let three = some_three count most some last in (three.0.1, three.1.1); known = nonfair_is_known count most small }

    pub layers_fault : {old new : Place} {fault : Fault} → Finds (FitsLayers count most) nonfair_lines old (Err fault) new → Finds FitsZ lines_z old (Err fault) new
    layers_fault found = head_fault outer found

    pub fair_fault : {old mid new : Place} {layers : List (Layer ℕ)} {fault : Fault} → Finds (FitsLayers count most) nonfair_lines old (Ok layers) mid → Finds (FitsFair count most) fair_lines mid (Err fault) new
        → Finds FitsZ lines_z old (Err fault) new
    fair_fault a found = body_fault outer a (head_fault inner found)

    pub third_fault : {old mid next new : Place} {layers : List (Layer ℕ)} {fair : FairPart ℕ} {fault : Fault} → Finds (FitsLayers count most) nonfair_lines old (Ok layers) mid
        → Finds (FitsFair count most) fair_lines mid (Ok fair) next → Finds FitsT lines_t next (Err fault) new → Finds FitsZ lines_z old (Err fault) new
    third_fault a b found = body_fault outer a (body_fault inner b found)

    pub three_found : {old mid next new : Place} {layers : List (Layer ℕ)} {fair : FairPart ℕ} {t : T} → Finds (FitsLayers count most) nonfair_lines old (Ok layers) mid
        → Finds (FitsFair count most) fair_lines mid (Ok fair) next → Finds FitsT lines_t next (Ok t) new → Finds FitsZ lines_z old (Ok (to (layers, (fair, t)))) new
    three_found a b c = whole_found outer a (whole_found inner b c)

-- ---- parts in a row and a closing part that doesn't depend on them

module _ {X Y : Type 0} (Fits : List X → X → Type 0) (lines : X → List Line) (FitsY : Y → Type 0) (lines_y : Y → List Line) where
  pub until_parts : (earlier xs : List X) (y : Y) → FitUntil Fits (λ _. FitsY) earlier xs y → FitEach Fits earlier xs × FitsY y
  until_parts earlier [] y fits = (tt, fits)
  until_parts earlier (x ∷ xs) y fits = let rest = until_parts (earlier ++ x ∷ []) xs y fits.1 in ((fits.0, rest.0), rest.1)

  pub parts_until : (earlier xs : List X) (y : Y) → FitEach Fits earlier xs → FitsY y → FitUntil Fits (λ _. FitsY) earlier xs y
  parts_until earlier [] y fits last = last
  parts_until earlier (x ∷ xs) y fits last = (fits.0, parts_until (earlier ++ x ∷ []) xs y fits.1 last)

  pub until_lines : (earlier xs : List X) (y : Y) → lines_until (λ _. lines) (λ _. lines_y) earlier xs y ≡ flat_map lines xs ++ lines_y y
  until_lines earlier [] y = refl
  until_lines earlier (x ∷ xs) y = ap (λ ls. lines x ++ ls) (until_lines (earlier ++ x ∷ []) xs y) ∙ sym (append_assoc (lines x) (flat_map lines xs) (lines_y y))

-- ---- the main part

abbrev Ending : Type 0
Ending = List (Entry ℕ) × Option State

module _ (m : System) (f : Ctl) (claim : Bool) (most : ℕ) where
  abbrev pub to_main : List (Layer ℕ) × (FairPart ℕ × Ending) → Proof ℕ
  to_main p = record { claim = claim; free = None; nonfair = p.0; fair = p.1.0; entries = p.1.1.0; at = p.1.1.1 }

  abbrev pub from_main : Proof ℕ → List (Layer ℕ) × (FairPart ℕ × Ending)
  from_main p = (p.nonfair, (p.fair, (p.entries, p.at)))

  pub main_form : IsForm (FitsThree (constraint_count m) most (FitsEnding m f claim most)) (three_lines (ending_lines m)) (FitsMain m f claim most) (main_lines m) to_main from_main
  main_form = record {
    fits = λ x fits. let parts = until_parts (FitsEntry f (constraint_count m) most) entry_lines (FitsEnd m claim) (end_lines m) [] x.1.1.0 x.1.1.1 fits.1.1 in
        (refl, record { claims = refl; nonfair = fits.0; fair = fits.1.0; entries = parts.0; end = parts.1 });
    lines = λ x fits. sym (same x.0 x.1.0 x.1.1.0 x.1.1.1);
    fits_back = λ z fits. let p = fits.1 in
        (p.nonfair, (p.fair, parts_until (FitsEntry f (constraint_count m) most) entry_lines (FitsEnd m claim) (end_lines m) [] z.entries z.at p.entries p.end));
    lines_back = λ z fits. same z.nonfair z.fair z.entries z.at;
  }
    where
      same : (layers : List (Layer ℕ)) (fair : FairPart ℕ) (entries : List (Entry ℕ)) (at : Option State)
          → three_lines (ending_lines m) (layers, (fair, (entries, at))) ≡ nonfair_lines layers ++ (fair_lines fair ++ (flat_map entry_lines entries ++ end_lines m at))
      same layers fair entries at = ap (λ ls. nonfair_lines layers ++ (fair_lines fair ++ ls)) (until_lines (FitsEntry f (constraint_count m) most) entry_lines (FitsEnd m claim) (end_lines m) [] entries at)

  -- ---- a proof is its main part where no constraint holds a path operator

  pub whole_form : HasLeafConstraints m → IsForm (FitsMain m f claim most) (main_lines m) (FitsProof m f claim most) (proof_lines m) (λ p. p) (λ p. p)
  whole_form leaves = record { fits = fits; lines = λ p h. ap (λ free. free_lines free ++ main_lines m p) h.0; fits_back = back; lines_back = λ p h. sym (ap (λ free. free_lines free ++ main_lines m p) (back p h).0) }
    where
      free_is : (free : Option (FreePart ℕ)) → free ≡ None → FitsFree m most free
      free_is None e = leaves
      free_is (Some part) e = absurd cc

      none_is : (free : Option (FreePart ℕ)) → FitsFree m most free → free ≡ None
      none_is None h = refl
      none_is (Some part) h = absurd (h.0 leaves)

      fits : (p : Proof ℕ) → FitsMain m f claim most p → FitsProof m f claim most p
      fits p (none, h) = record { claims = h.claims; free = free_is p.free none; nonfair = h.nonfair; fair = h.fair; entries = h.entries; end = h.end }

      back : (p : Proof ℕ) → FitsProof m f claim most p → FitsMain m f claim most p
      back p h = (none_is p.free h.free, record { claims = h.claims; nonfair = h.nonfair; fair = h.fair; entries = h.entries; end = h.end })
