use Rattle.std.proofs.Common.{◌≡◌, ℕ, ◌*◌, ap, arith}
use Rattle.smv_static.specs.Groups.{group_of}
use Rattle.smv_static.proofs.SideLemmas.{cell_known, group_known}
use Rattle.smv_static.proofs.assignments.cell_of.Goals as goal

pub returns-clause-bound : goal.returns-clause-bound
returns-clause-bound c =
    let a = c.args.assign.now in
    let P : ℕ = c.args.processes in
    let n : ℕ = c.args.variables in
    let known = cell_known P n a c.requires.var (group_known P a.process a.part c.requires.process) in
    let rows : c.group_of.result * n ≡ group_of P a * n = ap (λ (k : ℕ). k * n) c.group_of.ensures in
    omega (arith, known, rows, c.var_of.ensures)
