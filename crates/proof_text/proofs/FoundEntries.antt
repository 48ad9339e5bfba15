-- Entries and the end of a block are told by their first words.
use Rattle.std.proofs.Common.{◌≡◌, ℕ, Bool, true, false, List, [], ◌∷◌, ◌++◌, Option, Some, None, codes, refl, subst, arith}
use Rattle.std.specs.Prelude.{AllPairs, Ok, Err}
use Rattle.kripke_model.specs.Ctl.{Ctl}
use Rattle.kripke_model.specs.Flat.{IsFlat}
use Rattle.kripke_model.specs.Signs.{node_count}
use Rattle.kripke_model.specs.System.{System, State, constraint_count}
use Rattle.proof_form.specs.Form.{Entry}
use Rattle.proof_form.specs.Shape.{ComesBefore}
use Rattle.proof_text.specs.FileParts.{FitsEnd}
use Rattle.proof_text.specs.Lines.{line_text, entry_lines, end_lines}
use Rattle.proof_text.specs.ProofParts.{FitsEnding, ending_lines}
use Rattle.proof_text.specs.SetParts.{FitsEntry, Finds, FindsNext}
use Rattle.text_lines.specs.Cursor.{Place, BeginsWith}
use Rattle.text_lines.specs.declared.faults.Fault.{Fault}
use Rattle.text_lines.proofs.FoundUntil.{AreTold}
use Rattle.proof_text.proofs.FoundEnd.{some_state}
use Rattle.proof_text.proofs.FoundUntilLast.{AreRead, one_read, all_read, next_part_fault, last_part_fault}
use Rattle.proof_text.proofs.FirstWords.{starts_some, first_begins, entry_starts, end_some, no_end, entry_is_known}
use Rattle.proof_text.proofs.KnownLines.{IsSmall}
use Rattle.proof_text.proofs.Risings.{all_rise}

module _ (m : System) (flat : IsFlat m) where
  pub few_constraints : IsSmall (constraint_count m)
  few_constraints = omega (arith, flat.limits.constraints)

  some_end : (claim : Bool) → (at : Option State) × FitsEnd m claim at
  some_end true = (None, (refl, tt))
  some_end false = let s = some_state m flat in (Some s.0, (refl, s.1))

  module _ (f : Ctl) (few : IsSmall (node_count f)) (claim : Bool) (most : ℕ) where
    pub entries_told : AreTold line_text (FitsEntry f (constraint_count m) most) (λ _. entry_lines) (λ _. FitsEnd m claim) (λ _. end_lines m)
    entries_told = record {
      known = λ earlier. entry_is_known f few (constraint_count m) most few_constraints earlier;
      some = λ earlier e fits. starts_some (codes "entry") (entry_lines e) (entry_starts e);
      last_some = λ earlier at fits. end_some m at;
      apart = λ earlier e fits l ls whole. let b = first_begins (codes "entry") (entry_lines e) (entry_starts e) l ls whole in no_end m claim (line_text l) b.0 b.1;
      has = λ earlier. some_end claim;
    }

    pub some_ending : (p : List (Entry ℕ) × Option State) × FitsEnding m f claim most p
    some_ending = let e = some_end claim in (([], e.0), e.1)

-- ---- what is found of them

-- these entries are read
abbrev pub EntriesRead : System → Ctl → ℕ → Place → List (Entry ℕ) → Place → Type 0
EntriesRead m f most = AreRead (FitsEntry f (constraint_count m) most) (λ _. entry_lines)

pub entries_rise : (m : System) (f : Ctl) (most : ℕ) {old mid : Place} {xs : List (Entry ℕ)} → EntriesRead m f most old xs mid → AllPairs ComesBefore xs
entries_rise m f most {old} {mid} {xs} a = all_rise (FitsEntry f (constraint_count m) most) ComesBefore (λ earlier x fits. fits.1) xs (a 0).finds.read.fits

module _ (m : System) (f : Ctl) (most count : ℕ) (is : count ≡ constraint_count m) {old mid new : Place} {xs : List (Entry ℕ)} (a : EntriesRead m f most old xs mid) where
  pub entry_read : {es : List (Entry ℕ)} {e : Entry ℕ} → es ≡ xs → Finds (FitsEntry f count most es) entry_lines mid (Ok e) new → EntriesRead m f most old (xs ++ e ∷ []) new
  entry_read {es} {e} same found =
      one_read (FitsEntry f (constraint_count m) most) (λ _. entry_lines) a
      (subst (λ zs. Finds (FitsEntry f (constraint_count m) most zs) entry_lines mid (Ok e) new) same (subst (λ n. Finds (FitsEntry f n most es) entry_lines mid (Ok e) new) is found))

  module _ (flat : IsFlat m) (few : IsSmall (node_count f)) (claim : Bool) where
    pub entry_fault : {es : List (Entry ℕ)} {fault : Fault} → es ≡ xs → BeginsWith (codes "entry") mid → FindsNext (FitsEntry f count most es) entry_lines mid (Err fault) new → Finds (FitsEnding m f claim most) (ending_lines m) old (Err fault) new
    entry_fault {es} {fault} same begins found =
        next_part_fault (FitsEntry f (constraint_count m) most) (λ _. entry_lines) (λ _. FitsEnd m claim) (λ _. end_lines m) (entries_told m flat f few claim most) (codes "entry") (λ _. entry_starts) (λ _. no_end m claim) a begins
        (subst (λ zs. FindsNext (FitsEntry f (constraint_count m) most zs) entry_lines mid (Err fault) new) same (subst (λ n. FindsNext (FitsEntry f n most es) entry_lines mid (Err fault) new) is found))

    pub last_fault : {fault : Fault} → (BeginsWith (codes "entry") mid → ⊥) → Finds (FitsEnd m claim) (end_lines m) mid (Err fault) new → Finds (FitsEnding m f claim most) (ending_lines m) old (Err fault) new
    last_fault not found =
        last_part_fault (FitsEntry f (constraint_count m) most) (λ _. entry_lines) (λ _. FitsEnd m claim) (λ _. end_lines m) (entries_told m flat f few claim most) (codes "entry") (λ _. entry_starts) (λ _. no_end m claim) a not found

  pub ending_read : {claim : Bool} {at : Option State} → Finds (FitsEnd m claim) (end_lines m) mid (Ok at) new → Finds (FitsEnding m f claim most) (ending_lines m) old (Ok (xs, at)) new
  ending_read {claim} found = all_read (FitsEntry f (constraint_count m) most) (λ _. entry_lines) (λ _. FitsEnd m claim) (λ _. end_lines m) a found
