-- What a reader finds of a proof with a free part.
use Rattle.std.proofs.Common.{◌≡◌, ℕ, ◌≤◌, Bool, List, [], ◌∷◌, ◌++◌, codes, subst, arith}
use Rattle.std.specs.Prelude.{AllPairs, Result, Ok, Err}
use Rattle.kripke_model.specs.Ctl.{Ctl}
use Rattle.kripke_model.specs.Flat.{IsFlat}
use Rattle.kripke_model.specs.Leaves.{HasLeafConstraints}
use Rattle.kripke_model.specs.Signs.{node_count}
use Rattle.kripke_model.specs.System.{System}
use Rattle.proof_form.specs.Form.{Layer, FairPart, FreeEntry, Proof}
use Rattle.proof_form.specs.Shape.{StandsBefore}
use Rattle.proof_text.specs.FileParts.{FitsProof}
use Rattle.proof_text.specs.Lines.{nonfair_lines, fair_lines, free_entry_lines, proof_lines}
use Rattle.proof_text.specs.ProofParts.{FitsMain, main_lines, FitsFreeEnding, free_ending_lines, FitsBehind, behind_lines}
use Rattle.proof_text.specs.SetParts.{FitsLayers, FitsFair, FitsFreeEntry, Finds, FindsNext}
use Rattle.text_lines.specs.Cursor.{Place, BeginsWith}
use Rattle.text_lines.specs.declared.faults.Fault.{Fault}
use Rattle.proof_text.proofs.FoundFree.{free_told, free_form, free_join, free_line, some_free_ending, to_free}
use Rattle.proof_text.proofs.FoundFixed.{Always}
use Rattle.proof_text.proofs.FoundMain.{layers_fault, fair_fault, third_fault, three_found}
use Rattle.proof_text.proofs.FoundUntilLast.{AreRead, one_read, all_read, next_part_fault, last_part_fault}
use Rattle.proof_text.proofs.Joined.{head_fault, body_fault}
use Rattle.proof_text.proofs.Joined as joined
use Rattle.proof_text.proofs.KnownLines.{IsSmall}
use Rattle.proof_text.proofs.Risings.{all_rise}
use Rattle.proof_text.proofs.FirstWords.{free_entry_starts, no_main}

-- these entries for constraints are read
abbrev pub FreeEntriesRead : System → ℕ → Place → List (FreeEntry ℕ) → Place → Type 0
FreeEntriesRead m most = AreRead (FitsFreeEntry m most) (λ _. free_entry_lines)

pub free_entries_rise : (m : System) (most : ℕ) {old mid : Place} {xs : List (FreeEntry ℕ)} → FreeEntriesRead m most old xs mid → AllPairs StandsBefore xs
free_entries_rise m most {old} {mid} {xs} a = all_rise (FitsFreeEntry m most) StandsBefore (λ earlier x fits. fits.1) xs (a 0).finds.read.fits

pub free_entry_read : (m : System) (most : ℕ) {old mid new : Place} {es xs : List (FreeEntry ℕ)} {e : FreeEntry ℕ} → FreeEntriesRead m most old xs mid → es ≡ xs
    → Finds (FitsFreeEntry m most es) free_entry_lines mid (Ok e) new → FreeEntriesRead m most old (xs ++ e ∷ []) new
free_entry_read m most {old} {mid} {new} {es} {xs} {e} a same found =
    one_read (FitsFreeEntry m most) (λ _. free_entry_lines) a (subst (λ zs. Finds (FitsFreeEntry m most zs) free_entry_lines mid (Ok e) new) same found)

module _ (m : System) (flat : IsFlat m) (f : Ctl) (few : IsSmall (node_count f)) (claim : Bool) (most : ℕ) (some : 1 ≤ most) where
  module _ {old mid new : Place} {xs : List (FreeEntry ℕ)} (a : FreeEntriesRead m most old xs mid) where
    pub free_entry_fault : {es : List (FreeEntry ℕ)} {fault : Fault} → es ≡ xs → BeginsWith (codes "centry") mid → FindsNext (FitsFreeEntry m most es) free_entry_lines mid (Err fault) new → Finds (FitsFreeEnding m f claim most) (free_ending_lines m) old (Err fault) new
    free_entry_fault {es} {fault} same begins found =
        next_part_fault (FitsFreeEntry m most) (λ _. free_entry_lines) (λ _. FitsMain m f claim most) (λ _. main_lines m) (free_told m flat f few claim most some) (codes "centry") (λ _. free_entry_starts)
        (λ _. no_main m (FitsMain m f claim most)) a begins (subst (λ zs. FindsNext (FitsFreeEntry m most zs) free_entry_lines mid (Err fault) new) same found)

    pub main_fault : {fault : Fault} → (BeginsWith (codes "centry") mid → ⊥) → Finds (FitsMain m f claim most) (main_lines m) mid (Err fault) new → Finds (FitsFreeEnding m f claim most) (free_ending_lines m) old (Err fault) new
    main_fault not found =
        last_part_fault (FitsFreeEntry m most) (λ _. free_entry_lines) (λ _. FitsMain m f claim most) (λ _. main_lines m) (free_told m flat f few claim most some) (codes "centry") (λ _. free_entry_starts)
        (λ _. no_main m (FitsMain m f claim most)) a not found

    pub free_ending_read : {p : Proof ℕ} → Finds (FitsMain m f claim most) (main_lines m) mid (Ok p) new → Finds (FitsFreeEnding m f claim most) (free_ending_lines m) old (Ok (xs, p)) new
    free_ending_read found = all_read (FitsFreeEntry m most) (λ _. free_entry_lines) (λ _. FitsMain m f claim most) (λ _. main_lines m) a found

  module _ {old : Place} where
    pub free_layers_fault : {new : Place} {fault : Fault} → Finds (FitsLayers 1 most) nonfair_lines old (Err fault) new → Finds (FitsBehind m f claim most) (behind_lines m) old (Err fault) new
    free_layers_fault found = layers_fault (free_ending_lines m) 1 most (omega arith) some (some_free_ending m flat f few claim most some) (free_form m f claim most) found

    pub free_fair_fault : {mid new : Place} {layers : List (Layer ℕ)} {fault : Fault} → Finds (FitsLayers 1 most) nonfair_lines old (Ok layers) mid → Finds (FitsFair 1 most) fair_lines mid (Err fault) new
        → Finds (FitsBehind m f claim most) (behind_lines m) old (Err fault) new
    free_fair_fault a found = fair_fault (free_ending_lines m) 1 most (omega arith) some (some_free_ending m flat f few claim most some) (free_form m f claim most) a found

    pub free_ending_fault : {mid next new : Place} {layers : List (Layer ℕ)} {fair : FairPart ℕ} {fault : Fault} → Finds (FitsLayers 1 most) nonfair_lines old (Ok layers) mid → Finds (FitsFair 1 most) fair_lines mid (Ok fair) next
        → Finds (FitsFreeEnding m f claim most) (free_ending_lines m) next (Err fault) new → Finds (FitsBehind m f claim most) (behind_lines m) old (Err fault) new
    free_ending_fault a b found = third_fault (free_ending_lines m) 1 most (omega arith) some (some_free_ending m flat f few claim most some) (free_form m f claim most) a b found

    pub behind_found : {mid next new : Place} {layers : List (Layer ℕ)} {fair : FairPart ℕ} {ending : List (FreeEntry ℕ) × Proof ℕ} → Finds (FitsLayers 1 most) nonfair_lines old (Ok layers) mid
        → Finds (FitsFair 1 most) fair_lines mid (Ok fair) next → Finds (FitsFreeEnding m f claim most) (free_ending_lines m) next (Ok ending) new
        → Finds (FitsBehind m f claim most) (behind_lines m) old (Ok (to_free (layers, (fair, ending)))) new
    behind_found a b c = three_found (free_ending_lines m) 1 most (omega arith) some (some_free_ending m flat f few claim most some) (free_form m f claim most) a b c

    module _ (free : HasLeafConstraints m → ⊥) where
      pub line_fault : {new : Place} {fault : Fault} → Finds Always (λ x. free_line ∷ []) old (Err fault) new → Finds (FitsProof m f claim most) (proof_lines m) old (Err fault) new
      line_fault found = head_fault (free_join m f claim most flat few some free) found

      pub free_found : {mid new : Place} (result : Result (Proof ℕ) Fault) → Finds Always (λ x. free_line ∷ []) old (Ok tt) mid → Finds (FitsBehind m f claim most) (behind_lines m) mid result new
          → Finds (FitsProof m f claim most) (proof_lines m) old result new
      free_found (Ok p) a found = joined.whole_found (free_join m f claim most flat few some free) a found
      free_found (Err fault) a found = body_fault (free_join m f claim most flat few some free) a found
