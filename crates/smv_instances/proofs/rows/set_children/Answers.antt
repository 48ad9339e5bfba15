use Rattle.std.proofs.Common.{◌≡◌, ap, ℕ, zero, suc, ◌<◌, arith, List, [], ◌∷◌, length, get_or}
use Rattle.std.specs.Prelude.{slice_set}
use Rattle.smv_instances.specs.Walk.{updated}
use Rattle.smv_instances.proofs.rows.set_children.Goals as goal

set_updated : {A : Type 0} (xs : List A) (n : ℕ) (f : A → A) (y : A) → n < length xs → y ≡ get_or xs n y → slice_set xs n (f y) ≡ updated xs n f
set_updated [] n f y lt at = absurd (omega arith)
set_updated (x ∷ xs) zero f y lt at = ap (λ z. f z ∷ xs) at
set_updated (x ∷ xs) (suc n) f y lt at = ap (λ ys. x ∷ ys) (set_updated xs n f y (omega arith) at)

pub returns : goal.returns
returns c = set_updated c.args.rows.now.items c.args.number (λ row. record row { children = c.args.children }) c.index_mut-row.result.now c.requires c.index_mut-row.ensures.value
