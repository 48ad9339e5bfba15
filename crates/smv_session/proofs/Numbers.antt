-- The specifications that a job names by numbers.
use Rattle.std.proofs.Common.{◌≡◌, ℕ, [], ◌∷◌, All, sym, subst, arith}
use Rattle.std.specs.Prelude.{List, flat_map}
use Rattle.command_words.specs.Words.{Job, Delay, Strong}
use Rattle.kripke_model.specs.System.{System}
use Rattle.smv_session.specs.Jobs.{NamesLeaves, both_of, numbers_of}
use Rattle.spec_leaves.specs.Named.{IsFirstOther, NamesLeaf}

module _ (job : Job) (m : System) (from to : ℕ) (is : job ≡ Delay from to) where
  pub names_from : NamesLeaves job m → NamesLeaf m from
  names_from names = subst (λ j. NamesLeaves j m) is names 0 0 (omega arith)

  pub names_to : NamesLeaves job m → NamesLeaf m to
  names_to names = subst (λ j. NamesLeaves j m) is names 1 0 (omega arith)

  pub names_both : All (NamesLeaf m) (from ∷ to ∷ []) → NamesLeaves job m
  names_both both = subst (λ j. NamesLeaves j m) (sym is) both

  pub other_number : (i : ℕ) → IsFirstOther m (from ∷ to ∷ []) i → IsFirstOther m (numbers_of job) i
  other_number i first = subst (λ j. IsFirstOther m (numbers_of j) i) (sym is) first

module _ (job : Job) (m : System) (pairs : List (ℕ × ℕ)) (is : job ≡ Strong pairs) where
  pub names_given : NamesLeaves job m → All (NamesLeaf m) (flat_map both_of pairs)
  names_given names = subst (λ j. NamesLeaves j m) is names

  pub names_pairs : All (NamesLeaf m) (flat_map both_of pairs) → NamesLeaves job m
  names_pairs all = subst (λ j. NamesLeaves j m) (sym is) all

  pub other_in_pairs : (i : ℕ) → IsFirstOther m (flat_map both_of pairs) i
      → IsFirstOther m (numbers_of job) i
  other_in_pairs i first = subst (λ j. IsFirstOther m (numbers_of j) i) (sym is) first
