-- The order of entries goes through.
use Rattle.std.proofs.Common.{inl, inr, ◌∙◌, Bool, true, false, not, ◌&&◌, IsTrue, arith}
use Rattle.std.proofs.lemmas.Bool.{false≢true}
use Rattle.proof_form.specs.Form.{Entry, FreeEntry}
use Rattle.proof_form.specs.Shape.{ComesBefore, StandsBefore}

-- no sign is both the last and the first
clash : (x y z : Bool) → IsTrue (x && not y) → IsTrue (y && not z) → ⊥
clash false y z first last = absurd (false≢true first)
clash true true z first last = absurd (false≢true first)
clash true false z first last = absurd (false≢true last)

module _ {A : Type 0} where
  pub comes_through : (a b c : Entry A) → ComesBefore a b → ComesBefore b c → ComesBefore a c
  comes_through a b c (inl p) (inl q) = inl (omega (arith, p, q))
  comes_through a b c (inl p) (inr q) = inl (omega (arith, p, q.0))
  comes_through a b c (inr p) (inl q) = inl (omega (arith, p.0, q))
  comes_through a b c (inr p) (inr q) = absurd (clash a.plus b.plus c.plus p.1 q.1)

  pub stands_through : (a b c : FreeEntry A) → StandsBefore a b → StandsBefore b c → StandsBefore a c
  stands_through a b c (inl p) (inl q) = inl (omega (arith, p, q))
  stands_through a b c (inl p) (inr q) = inl (omega (arith, p, q.0))
  stands_through a b c (inr p) (inl q) = inl (omega (arith, p.0, q))
  stands_through a b c (inr p) (inr q) = inr (p.0 ∙ q.0, comes_through a.entry b.entry c.entry p.1 q.1)
