-- What a formula's shape says of its entries.
use Rattle.std.proofs.Common.{◌≡◌, ℕ, ◌+◌, Bool, ◌++◌, sym, ap}
use Rattle.kripke_model.specs.Ctl.{Ctl}
use Rattle.kripke_model.specs.Signs.{node_count}
use Rattle.path_laws.specs.StateSet.{StateSet}
use Rattle.fair_fixpoint.specs.declared.formulas.Connective.{Connective}
use Rattle.fair_fixpoint.specs.declared.formulas.Kind.{Kind}
use Rattle.fair_fixpoint.specs.declared.formulas.Kind.TheVariants.{Connected, Quantified, Between}
use Rattle.fair_fixpoint.specs.Nodes.{NodeView}
use Rattle.fair_fixpoint.specs.Walks.{IsOneOf, IsTwoOf}
use Rattle.rank_extract.specs.Given.{wanted}
use Rattle.rank_extract.specs.Signs.{kind_entries, first_plus, first_minus, last_plus, last_minus}

module _ (fair : StateSet) (at : ℕ → NodeView) (n : ℕ) (plus minus : Bool) where
  pub one_wanted : (kind : Kind) (f c : Ctl) → IsOneOf kind f c
      → kind_entries fair at n kind plus minus ++ wanted fair at f (n + 1) (first_plus kind plus minus) (first_minus kind plus minus) ≡ wanted fair at c n plus minus
  one_wanted (Connected Connective.Not) f c is = sym (ap (λ g. wanted fair at g n plus minus) is)
  one_wanted (Connected Connective.And) f c is = absurd is
  one_wanted (Connected Connective.Or) f c is = absurd is
  one_wanted (Connected Connective.Implies) f c is = absurd is
  one_wanted (Connected Connective.Iff) f c is = absurd is
  one_wanted (Quantified op) f c is = sym (ap (λ g. wanted fair at g n plus minus) is)
  one_wanted (Between all) f c is = absurd is

  pub two_wanted : (kind : Kind) (f g c : Ctl) → IsTwoOf kind f g c
      → kind_entries fair at n kind plus minus
      ++ (wanted fair at f (n + 1) (first_plus kind plus minus) (first_minus kind plus minus) ++ wanted fair at g (n + 1 + node_count f) (last_plus kind plus minus) (last_minus kind plus minus))
      ≡ wanted fair at c n plus minus
  two_wanted (Connected Connective.Not) f g c is = absurd is
  two_wanted (Connected Connective.And) f g c is = sym (ap (λ h. wanted fair at h n plus minus) is)
  two_wanted (Connected Connective.Or) f g c is = sym (ap (λ h. wanted fair at h n plus minus) is)
  two_wanted (Connected Connective.Implies) f g c is = sym (ap (λ h. wanted fair at h n plus minus) is)
  two_wanted (Connected Connective.Iff) f g c is = sym (ap (λ h. wanted fair at h n plus minus) is)
  two_wanted (Quantified op) f g c is = absurd is
  two_wanted (Between all) f g c is = sym (ap (λ h. wanted fair at h n plus minus) is)
