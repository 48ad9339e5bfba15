-- The reply to a model whose specifications are to be decided within a node limit, with their proofs
-- saved under a name or not.
use Rattle.std.specs.Prelude.{◌≡◌, ℕ, ◌<◌, List, [], ◌∷◌, length, replicate, All, count_by, Option, Some, None}
use Rattle.std.specs.Global.{Vec}
use Rattle.bdd_nodes.specs.declared.refusal.Held.{Held}
use Rattle.kripke_model.specs.System.{System}
use Rattle.smv_texts.specs.Evidence.{IsMet}
use Rattle.smv_texts.specs.Replies.{Reply, text_of}
use Rattle.smv_texts.specs.Report.{Finding, Unknown, is_false, is_unknown, report}
use Rattle.smv_texts.specs.declared.ending.Ending.{Ending}
use Rattle.smv_texts.specs.declared.ending.Ending.TheVariants.{Clear, Failed, Undecided}
use Rattle.spec_verdicts.specs.Exports.{Exports}
use Rattle.spec_verdicts.specs.Verdicts.{AreVerdicts, ShowStates}

-- The ending is the greatest that applies: to an unknown specification, each of which has its full store, then to a false one, then to none.
abbrev pub EndsWith : System → ℕ → List Finding → Ending → Type 0
EndsWith m limit fs Clear = (count_by is_unknown fs ≡ 0) × (count_by is_false fs ≡ 0)
EndsWith m limit fs Failed = (count_by is_unknown fs ≡ 0) × (0 < count_by is_false fs)
EndsWith m limit fs (Undecided held)
    = All (IsMet m limit) held.items × (0 < length held.items)
    × (length held.items ≡ count_by is_unknown fs)
EndsWith m limit fs ending = ⊥

-- no proof is left out
abbrev pub LeavesNoneOut : List Finding → Type 0
LeavesNoneOut fs = All (λ f. f.left_out ≡ None) fs

-- What is saved of the proofs. Where no name is given nothing is, and nothing is told of any proof;
-- else the file of the proofs of what is found is saved under the name.
abbrev pub SavesProofs : System → Option (List ℕ) → List Finding → Option (List ℕ × List ℕ) → Type 0
SavesProofs m None fs saves = (saves ≡ None) × LeavesNoneOut fs
SavesProofs m (Some name) fs saves =
    (bytes : List ℕ) × (saves ≡ Some (name, bytes)) × Exports m fs bytes

-- The specifications were tried: the report of what is found of each.
pub record IsChecked (m : System) (limit : ℕ) (proofs : Option (List ℕ)) (r : Reply) : Type 0 where
  pub findings : List Finding
  pub text : text_of r ≡ report m findings
  pub verdicts : AreVerdicts m limit findings
  pub states : ShowStates m findings
  pub ends : EndsWith m limit findings r.ending
  pub saves : SavesProofs m proofs findings r.saves

-- nothing is known of any specification
abbrev pub all_unknown : System → ℕ → List Finding
all_unknown m limit
    = replicate (length m.specs) (record { outcome = Unknown limit; left_out = None })

-- The limit was met before any was tried: nothing is known, and one full store is the evidence.
pub record LeavesUnknown (m : System) (limit : ℕ) (proofs : Option (List ℕ))
    (r : Reply) : Type 0 where
  pub held : Vec Held
  pub full : Held
  pub one : held.items ≡ full ∷ []
  pub of_limit : IsMet m limit full
  pub text : text_of r ≡ report m (all_unknown m limit)
  pub ends : r.ending ≡ Undecided held
  pub saves : SavesProofs m proofs (all_unknown m limit) r.saves
