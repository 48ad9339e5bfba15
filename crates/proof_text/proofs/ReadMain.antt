-- What a reader finds of the main part of a proof, and of a proof that is no more.
use Rattle.std.proofs.Common.{◌≡◌, ℕ, ◌≤◌, Bool, List, Option, sym, subst}
use Rattle.std.specs.Prelude.{Result, Ok, Err}
use Rattle.kripke_model.specs.Ctl.{Ctl}
use Rattle.kripke_model.specs.Flat.{IsFlat}
use Rattle.kripke_model.specs.Leaves.{HasLeafConstraints}
use Rattle.kripke_model.specs.Signs.{node_count}
use Rattle.kripke_model.specs.System.{System, State, constraint_count}
use Rattle.proof_form.specs.Form.{Layer, FairPart, Entry, Proof}
use Rattle.proof_text.specs.FileParts.{FitsProof}
use Rattle.proof_text.specs.Lines.{nonfair_lines, fair_lines, proof_lines}
use Rattle.proof_text.specs.ProofParts.{FitsEnding, ending_lines, FitsMain, main_lines}
use Rattle.proof_text.specs.SetParts.{FitsLayers, FitsFair, Finds}
use Rattle.text_lines.specs.Cursor.{Place}
use Rattle.text_lines.specs.declared.faults.Fault.{Fault}
use Rattle.proof_text.proofs.Formed.{IsForm}
use Rattle.proof_text.proofs.FoundEntries.{few_constraints, some_ending}
use Rattle.proof_text.proofs.FoundMain.{FitsThree, three_lines, layers_fault, fair_fault, third_fault, three_found, to_main, from_main, main_form, whole_form}
use Rattle.proof_text.proofs.Joined.{form_ok, form_fault}
use Rattle.proof_text.proofs.KnownLines.{IsSmall}

module _ (m : System) (flat : IsFlat m) (f : Ctl) (few : IsSmall (node_count f)) (claim : Bool) (most : ℕ) (some : 1 ≤ most) (count : ℕ) (is : count ≡ constraint_count m) where
  small : IsSmall count
  small = subst IsSmall (sym is) (few_constraints m flat)

  form : IsForm (FitsThree count most (FitsEnding m f claim most)) (three_lines (ending_lines m)) (FitsMain m f claim most) (main_lines m) (to_main m f claim most) (from_main m f claim most)
  form = subst (λ n. IsForm (FitsThree n most (FitsEnding m f claim most)) (three_lines (ending_lines m)) (FitsMain m f claim most) (main_lines m) (to_main m f claim most) (from_main m f claim most)) (sym is) (main_form m f claim most)

  pub main_layers_fault : {old new : Place} {fault : Fault} → Finds (FitsLayers count most) nonfair_lines old (Err fault) new → Finds (FitsMain m f claim most) (main_lines m) old (Err fault) new
  main_layers_fault found = layers_fault (ending_lines m) count most small some (some_ending m flat f few claim most) form found

  pub main_fair_fault : {old mid new : Place} {layers : List (Layer ℕ)} {fault : Fault} → Finds (FitsLayers count most) nonfair_lines old (Ok layers) mid → Finds (FitsFair count most) fair_lines mid (Err fault) new
      → Finds (FitsMain m f claim most) (main_lines m) old (Err fault) new
  main_fair_fault a found = fair_fault (ending_lines m) count most small some (some_ending m flat f few claim most) form a found

  pub main_ending_fault : {old mid next new : Place} {layers : List (Layer ℕ)} {fair : FairPart ℕ} {fault : Fault} → Finds (FitsLayers count most) nonfair_lines old (Ok layers) mid → Finds (FitsFair count most) fair_lines mid (Ok fair) next
      → Finds (FitsEnding m f claim most) (ending_lines m) next (Err fault) new → Finds (FitsMain m f claim most) (main_lines m) old (Err fault) new
  main_ending_fault a b found = third_fault (ending_lines m) count most small some (some_ending m flat f few claim most) form a b found

  pub main_found : {old mid next new : Place} {layers : List (Layer ℕ)} {fair : FairPart ℕ} {ending : List (Entry ℕ) × Option State} → Finds (FitsLayers count most) nonfair_lines old (Ok layers) mid
      → Finds (FitsFair count most) fair_lines mid (Ok fair) next → Finds (FitsEnding m f claim most) (ending_lines m) next (Ok ending) new
      → Finds (FitsMain m f claim most) (main_lines m) old (Ok (to_main m f claim most (layers, (fair, ending)))) new
  main_found a b c = three_found (ending_lines m) count most small some (some_ending m flat f few claim most) form a b c

-- ---- where no constraint holds a path operator

pub whole_found : (m : System) (f : Ctl) (claim : Bool) (most : ℕ) → HasLeafConstraints m → {old new : Place} (result : Result (Proof ℕ) Fault) → Finds (FitsMain m f claim most) (main_lines m) old result new
    → Finds (FitsProof m f claim most) (proof_lines m) old result new
whole_found m f claim most leaves (Ok p) found = form_ok (whole_form m f claim most leaves) found
whole_found m f claim most leaves (Err fault) found = form_fault (whole_form m f claim most leaves) found
