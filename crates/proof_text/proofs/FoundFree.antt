-- The free part of a proof, with the main part behind it.
use Rattle.std.proofs.Common.{◌≡◌, ℕ, ◌≤◌, Bool, List, [], ◌∷◌, ◌++◌, flat_map, Option, Some, None, IsSomeAnd, codes, refl, sym, ◌∙◌, ap, append_assoc}
use Rattle.kripke_model.specs.Ctl.{Ctl}
use Rattle.kripke_model.specs.Flat.{IsFlat}
use Rattle.kripke_model.specs.Leaves.{HasLeafConstraints}
use Rattle.kripke_model.specs.Signs.{node_count}
use Rattle.kripke_model.specs.System.{System, constraint_count}
use Rattle.proof_form.specs.Form.{Layer, FairPart, FreeEntry, FreePart, Proof}
use Rattle.proof_text.specs.FileParts.{FitsProof, FitsFree}
use Rattle.proof_text.specs.Lines.{Line, Words, line_text, nonfair_lines, fair_lines, free_entry_lines, free_lines, proof_lines}
use Rattle.proof_text.specs.ProofParts.{FitsEnding, FitsParts, FitsMain, main_lines, FitsFreeEnding, free_ending_lines, FitsBehind, lines_behind, behind_lines}
use Rattle.proof_text.specs.SetParts.{FitsLayers, FitsFair, FitsFreeEntry}
use Rattle.proof_text.specs.Spells.{IsGoodLine}
use Rattle.text_lines.specs.Formats.{FitEach}
use Rattle.text_lines.proofs.FoundUntil.{AreTold}
use Rattle.proof_text.proofs.Formed.{IsForm}
use Rattle.proof_text.proofs.FoundEntries.{some_ending}
use Rattle.proof_text.proofs.FoundFixed.{Always}
use Rattle.proof_text.proofs.FoundHeader.{line_alone}
use Rattle.proof_text.proofs.FoundMain.{FitsThree, three_lines, some_three, until_parts, parts_until, until_lines, to_main, main_form}
use Rattle.proof_text.proofs.Joined.{IsJoin}
use Rattle.proof_text.proofs.KnownLines.{IsSmall}
use Rattle.proof_text.proofs.FirstWords.{starts_some, first_begins, free_entry_starts, main_starts, no_main, free_entry_is_known}

abbrev FreeEnding : Type 0
FreeEnding = List (FreeEntry ℕ) × Proof ℕ

abbrev Three : Type 0
Three = List (Layer ℕ) × (FairPart ℕ × FreeEnding)

abbrev with_part : Option (FreePart ℕ) → Proof ℕ → Proof ℕ
with_part free p = record { claim = p.claim; free = free; nonfair = p.nonfair; fair = p.fair; entries = p.entries; at = p.at }

abbrev pub to_free : Three → Proof ℕ
to_free t = with_part (Some (record { nonfair = t.0; fair = t.1.0; entries = t.1.1.0 })) t.1.1.1

abbrev from_part : Option (FreePart ℕ) → Proof ℕ → Three
from_part None p = ([], (record { inside = 0; reach = [] }, ([], p)))
from_part (Some part) p = (part.nonfair, (part.fair, (part.entries, with_part None p)))

abbrev pub from_free : Proof ℕ → Three
from_free p = from_part p.free p

abbrev pub free_line : Line
free_line = Words (codes "free" ∷ [])

module _ (m : System) (flat : IsFlat m) (f : Ctl) (few : IsSmall (node_count f)) (claim : Bool) (most : ℕ) (some : 1 ≤ most) where
  pub some_main : (p : Proof ℕ) × FitsMain m f claim most p
  some_main =
      let three = some_three {FitsT = FitsEnding m f claim most} (constraint_count m) most some (some_ending m flat f few claim most) in
      (to_main m f claim most three.0, (main_form m f claim most).fits three.0 three.1)

  -- ---- entries for constraints and the main part are told by their first words

  pub free_told : AreTold line_text (FitsFreeEntry m most) (λ _. free_entry_lines) (λ _. FitsMain m f claim most) (λ _. main_lines m)
  free_told = record {
    known = λ earlier. free_entry_is_known m flat most earlier;
    some = λ earlier e fits. starts_some (codes "centry") (free_entry_lines e) (free_entry_starts e);
    last_some = λ earlier p fits. starts_some (codes "nonfair") (main_lines m p) (main_starts m p);
    apart = λ earlier e fits l ls whole. let b = first_begins (codes "centry") (free_entry_lines e) (free_entry_starts e) l ls whole in no_main m (FitsMain m f claim most) (line_text l) b.0 b.1;
    has = λ earlier. some_main;
  }

  pub some_free_ending : (p : FreeEnding) × FitsFreeEnding m f claim most p
  some_free_ending = (([], some_main.0), some_main.1)

module _ (m : System) (f : Ctl) (claim : Bool) (most : ℕ) where
  -- ---- behind the line that begins the free part

  moved : (free : Option (FreePart ℕ)) (p : Proof ℕ) → FitsParts m f claim most p → FitsParts m f claim most (with_part free p)
  moved free p h = record { claims = h.claims; nonfair = h.nonfair; fair = h.fair; entries = h.entries; end = h.end }

  parts : (es : List (FreeEntry ℕ)) (p : Proof ℕ) → FitsFreeEnding m f claim most (es, p) → FitEach (FitsFreeEntry m most) [] es × FitsMain m f claim most p
  parts es p fits = until_parts (FitsFreeEntry m most) free_entry_lines (FitsMain m f claim most) (main_lines m) [] es p fits

  back : (free : Option (FreePart ℕ)) (p : Proof ℕ) → IsSomeAnd free (λ part. FitsLayers 1 most part.nonfair × FitsFair 1 most part.fair × FitEach (FitsFreeEntry m most) [] part.entries) → FitsParts m f claim most p
      → FitsThree 1 most (FitsFreeEnding m f claim most) (from_part free p)
  back None p h fits = absurd h
  back (Some part) p h fits =
      (h.0, (h.1, parts_until (FitsFreeEntry m most) free_entry_lines (FitsMain m f claim most) (main_lines m) [] part.entries (with_part None p) h.2 (refl, moved None p fits)))

  same : (layers : List (Layer ℕ)) (fair : FairPart ℕ) (es : List (FreeEntry ℕ)) (p : Proof ℕ)
      → three_lines (free_ending_lines m) (layers, (fair, (es, p))) ≡ nonfair_lines layers ++ (fair_lines fair ++ (flat_map free_entry_lines es ++ main_lines m p))
  same layers fair es p = ap (λ ls. nonfair_lines layers ++ (fair_lines fair ++ ls)) (until_lines (FitsFreeEntry m most) free_entry_lines (FitsMain m f claim most) (main_lines m) [] es p)

  same_back : (free : Option (FreePart ℕ)) (p : Proof ℕ) → IsSomeAnd free (λ part. FitsLayers 1 most part.nonfair × FitsFair 1 most part.fair × FitEach (FitsFreeEntry m most) [] part.entries)
      → three_lines (free_ending_lines m) (from_part free p) ≡ lines_behind free (main_lines m p)
  same_back None p h = absurd h
  same_back (Some part) p h = same part.nonfair part.fair part.entries (with_part None p)

  pub free_form : IsForm (FitsThree 1 most (FitsFreeEnding m f claim most)) (three_lines (free_ending_lines m)) (FitsBehind m f claim most) (behind_lines m) to_free from_free
  free_form = record {
    fits = λ x fits. let h = parts x.1.1.0 x.1.1.1 fits.1.1 in ((fits.0, fits.1.0, h.0), moved (Some (record { nonfair = x.0; fair = x.1.0; entries = x.1.1.0 })) x.1.1.1 h.1.1);
    lines = λ x fits. sym (same x.0 x.1.0 x.1.1.0 x.1.1.1);
    fits_back = λ z fits. back z.free z fits.0 fits.1;
    lines_back = λ z fits. same_back z.free z fits.0;
  }

  -- ---- and with it

  module _ (flat : IsFlat m) (few : IsSmall (node_count f)) (some : 1 ≤ most) (free : HasLeafConstraints m → ⊥) where
    some_behind : (p : Proof ℕ) × FitsBehind m f claim most p
    some_behind =
        let three = some_three {FitsT = FitsFreeEnding m f claim most} 1 most some (some_free_ending m flat f few claim most some) in
        (to_free three.0, free_form.fits three.0 three.1)

    fits_free : (part : Option (FreePart ℕ)) → IsSomeAnd part (λ part. FitsLayers 1 most part.nonfair × FitsFair 1 most part.fair × FitEach (FitsFreeEntry m most) [] part.entries) → FitsFree m most part
    fits_free None h = absurd h
    fits_free (Some part) h = (free, h.0, h.1, h.2)

    free_fits : (part : Option (FreePart ℕ)) → FitsFree m most part → IsSomeAnd part (λ part. FitsLayers 1 most part.nonfair × FitsFair 1 most part.fair × FitEach (FitsFreeEntry m most) [] part.entries)
    free_fits None h = absurd (free h)
    free_fits (Some part) h = (h.1, h.2, h.3)

    all_lines : (part : Option (FreePart ℕ)) (rest : List Line) → FitsFree m most part → free_lines part ++ rest ≡ free_line ∷ lines_behind part rest
    all_lines None rest h = absurd (free h)
    all_lines (Some part) rest h =
        let es : List Line = flat_map free_entry_lines part.entries in
        ap (λ ls. free_line ∷ ls) (append_assoc (nonfair_lines part.nonfair) (fair_lines part.fair ++ es) rest ∙ ap (λ ls. nonfair_lines part.nonfair ++ ls) (append_assoc (fair_lines part.fair) es rest))

    fits_proof : (p : Proof ℕ) → FitsBehind m f claim most p → FitsProof m f claim most p
    fits_proof p (part, h) = record { claims = h.claims; free = fits_free p.free part; nonfair = h.nonfair; fair = h.fair; entries = h.entries; end = h.end }

    pub free_join : IsJoin Always (λ x. free_line ∷ []) (λ _. FitsBehind m f claim most) (λ _. behind_lines m) (FitsProof m f claim most) (proof_lines m) (λ p. p.1) (λ p. (tt, p))
    free_join = record {
      form = record {
        fits = λ x fits. fits_proof x.1 fits.1;
        lines = λ x fits. all_lines x.1.free (main_lines m x.1) (fits_free x.1.free fits.1.0);
        fits_back = λ z h. (tt, (free_fits z.free h.free, record { claims = h.claims; nonfair = h.nonfair; fair = h.fair; entries = h.entries; end = h.end }));
        lines_back = λ z h. sym (all_lines z.free (main_lines m z) h.free);
      };
      last = λ x fits. some_behind;
      known = line_alone line_text (IsGoodLine 0) free_line;
    }
