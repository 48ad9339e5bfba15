-- Truth over fair lassos is truth over all fair walks.
use Rattle.std.proofs.Common.{◌≡◌, ℕ, true, false, Option, Some, None, IfSome, sym, subst, arith}
use Rattle.kripke_model.specs.declared.expressions.PathOp.{PathOp}
use Rattle.kripke_model.specs.Ctl.{Ctl}
use Rattle.kripke_model.specs.System.{System, State}
use Rattle.kripke_model.specs.Path.{Lasso, at}
use Rattle.kripke_model.specs.Truth.{IsFair, Sat}
use Rattle.kripke_model.specs.Walk.{IsFairWalk}
use Rattle.fair_rules.specs.WalkConditions.{AgreesWith}
use Rattle.path_laws.proofs.FairLasso.{fair_lasso_of}
use Rattle.path_laws.proofs.WalkLasso.{Follows}

module _ (m : System) (w : ℕ → State) (fair : IsFairWalk m w) where
  lasso : (far : ℕ) → (p : Lasso) × IsFair m p × Follows p w far
  lasso far = fair_lasso_of m w fair far

  starts : (far : ℕ) → at (lasso far).0 0 ≡ w 0
  starts far = (lasso far).2.agrees 0 (omega arith)

  pub walk_law : (f : Ctl) → AgreesWith m f w
  walk_law (Ctl.Leaf e) = tt
  walk_law (Ctl.Not f) = tt
  walk_law (Ctl.And f g) = tt
  walk_law (Ctl.Or f g) = tt
  walk_law (Ctl.Implies f g) = tt
  walk_law (Ctl.Iff f g) = tt
  walk_law (Ctl.Quant PathOp.EX f) = λ met.
      let l = lasso 1 in (l.0, l.1, starts 1, subst (λ s. Sat m f s) (sym (l.2.agrees 1 (omega arith))) met)
  walk_law (Ctl.Quant PathOp.AX f) = λ sat.
      let l = lasso 1 in subst (λ s. Sat m f s) (l.2.agrees 1 (omega arith)) (sat l.0 l.1 (starts 1))
  walk_law (Ctl.Quant PathOp.EF f) = λ (n, met).
      let l = lasso n in (l.0, l.1, starts n, (n, subst (λ s. Sat m f s) (sym (l.2.agrees n (omega arith))) met))
  walk_law (Ctl.Quant PathOp.AF f) = λ sat.
      let l = lasso 0 in
      let c = sat l.0 l.1 (starts 0) in
      let k = l.2.member c.0 in
      (k.0, subst (λ s. Sat m f s) k.2 c.1)
  walk_law (Ctl.Quant PathOp.EG f) = λ met.
      let l = lasso 0 in (l.0, l.1, starts 0, λ n. let k = l.2.member n in subst (λ s. Sat m f s) (sym k.2) (met k.0))
  walk_law (Ctl.Quant PathOp.AG f) = λ sat n.
      let l = lasso n in subst (λ s. Sat m f s) (l.2.agrees n (omega arith)) (sat l.0 l.1 (starts n) n)
  walk_law (Ctl.Until true f g) = λ sat.
      let l = lasso 0 in
      let c = sat l.0 l.1 (starts 0) in
      let k = l.2.member c.0 in
      (k.0, subst (λ s. Sat m g s) k.2 c.1, λ i h. subst (λ s. Sat m f s) (k.3 i (omega arith)) (c.2 i (omega (arith, h, k.1))))
  walk_law (Ctl.Until false f g) = λ (n, met, before).
      let l = lasso n in
      (l.0, l.1, starts n, (n, subst (λ s. Sat m g s) (sym (l.2.agrees n (omega arith))) met, λ i h. subst (λ s. Sat m f s) (sym (l.2.agrees i (omega arith))) (before i h)))

pub walk_law_at : (m : System) (w : ℕ → State) → IsFairWalk m w → (node : Option Ctl) → IfSome node (λ f. AgreesWith m f w)
walk_law_at m w fair None = tt
walk_law_at m w fair (Some f) = walk_law m w fair f
