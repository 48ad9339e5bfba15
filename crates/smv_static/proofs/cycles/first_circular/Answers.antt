use Rattle.std.proofs.Common.{ℕ, ⊎_elim, length, arith, below_more}
use Rattle.kripke_model.specs.System.{System}
use Rattle.kripke_model.specs.Static.{Graph}
use Rattle.smv_static.specs.Circles.{IsClear}
use Rattle.smv_static.proofs.CycleFacts.{processes_in}
use Rattle.smv_static.proofs.CircleLemmas.{clear_everywhere}
use Rattle.smv_static.proofs.LeastLemmas.{clear_less, found_less}
use Rattle.smv_static.proofs.cycles.first_circular.Goals as goal

pub loop-p-preserved : goal.loop-p-preserved
loop-p-preserved c =
    let m : System = c.args.flat.now in
    let inv = c.loop-p.invariant in
    let e = c.in_ok-least-2.ensures in
    let least : ℕ = c.loop-p.least in
    let new : ℕ = c.in_ok-least-2.least in
    record {
      at_most = omega (arith, e.at_most, inv.at_most);
      found = found_less m (length m.assigns) least new inv.found e.found;
      start = clear_less m Graph.AtStart least new e.at_most inv.start;
      passed = below_more (λ (q : ℕ). IsClear m (Graph.InProcess q) new) c.loop-p.p (λ q l. clear_less m (Graph.InProcess q) least new e.at_most (inv.passed q l)) e.clear;
    }

pub returns : goal.returns
returns c =
    let m : System = c.args.flat.now in
    let inv = c.loop-p.invariant in
    let P : ℕ = c.in_ok-tables.tables.processes in
    let clear = clear_everywhere m P c.loop-p.least (processes_in m P c.requires.flat c.in_ok-tables.ensures.processes_are) inv.at_most inv.start (λ q l. inv.passed q (omega (arith, l, c.loop-p-test.false))) in
    record {
      at_most = inv.at_most;
      holds = λ less. ⊎_elim (λ same. absurd (omega (arith, same, less))) (λ h. h.1) inv.found;
      none = λ k less d h. clear h.0 k less d (h.1, h.2, h.3);
    }
