-- The next line begins with bytes where its text does.
use Rattle.std.proofs.Common.{◌≡◌, ℕ, Bool, List, ◌++◌, length, drop, nat_eq, sym, ◌∙◌, subst}
use Rattle.std.specs.List.{starts_with}
use Rattle.std.specs.Prelude.{IsTrue, IsFalse, Some}
use Rattle.std.proofs.lemmas.Bool.{false≢true}
use Rattle.std.proofs.lemmas.Bool.Decides.{Decides-eqb}
use Rattle.std.proofs.lemmas.Slice.Eq.{starts_is}
use Rattle.text_lines.specs.Cursor.{Place, Shows, BeginsWith}
use Rattle.text_lines.proofs.Lists.{same_first}

pub begins_iff : (front text : List ℕ) (place : Place) → Shows place (Some text) → (b : Bool) → b ≡ starts_with nat_eq text front → (IsTrue b → BeginsWith front place) × (IsFalse b → BeginsWith front place → ⊥)
begins_iff front text place shown b is =
    let s = starts_is (λ x y. Decides-eqb x y) text front b is in (
      λ yes. (drop (length front) text, subst (λ t. Shows place (Some t)) (s.0 yes) shown),
      λ no begins. false≢true (sym no ∙ s.1 begins.0 (same_first text (front ++ begins.0) shown.0 begins.1.0 (sym shown.1 ∙ begins.1.1))),
    )
