use Rattle.std.proofs.Common.{◌≡◌, sym, ◌∙◌, subst, List, Some, ℕ}
use Rattle.std.specs.Prelude.{filter, slice_get}
use Rattle.smv_instances.specs.declared.rows.Row.{Row}
use Rattle.smv_instances.specs.Instances.{instances, is_process}
use Rattle.std.specs.List.{AllZip}
use Rattle.smv_instances.specs.Walk.{AreRows}
use Rattle.smv_instantiate.proofs.models.model_of.Goals as goal

pub processes_of-requires : goal.processes_of-requires
processes_of-requires c =
    let p = c.requires.0 in let all = c.requires.1 in (
      c.args.instances.now.modules,
      instances p,
      subst (λ (rs : List Row). AreRows c.args.instances.now.modules rs (instances p)) (sym c.deref.ensures.value) all.are,
      subst (λ (ns : List ℕ). AllZip (λ n d. slice_get (instances p) n ≡ Some d) ns (filter is_process (instances p))) (sym c.deref-2.ensures.value) all.entered,
    )

pub returns : goal.returns
returns c = λ p all vars parts.
    record {
      symbols = c.in_ok-symbols.ensures ∙ all.named;
      vars = vars;
      selector = all.selected;
      processes = c.in_ok-processes.ensures c.args.instances.now.modules (instances p) (subst (λ (rs : List Row). AreRows c.args.instances.now.modules rs (instances p)) (sym c.deref.ensures.value) all.are)
          (subst (λ (ns : List ℕ). AllZip (λ n d. slice_get (instances p) n ≡ Some d) ns (filter is_process (instances p))) (sym c.deref-2.ensures.value) all.entered);
      assigns = parts.assigns;
      inits = parts.inits;
      invars = parts.invars;
      trans = parts.trans;
      constraints = parts.constraints;
      specs = parts.specs;
    }
