use Rattle.std.proofs.Common.{◌≡◌, refl, sym, ◌∙◌, ap, subst, ℕ, zero, suc, arith, [], ◌∷◌, ◌++◌, None, Some}
use Rattle.std.specs.Prelude.{slice_get, filter}
use Rattle.std.proofs.lemmas.Option.{same_Some}
use Rattle.smv_instances.specs.declared.modules.Modules.{Modules}
use Rattle.smv_instances.specs.declared.rows.Row.{Row}
use Rattle.smv_instances.specs.Program.{Module}
use Rattle.smv_instances.specs.Instances.{Scope, is_process}
use Rattle.smv_instances.specs.Walk.{AreRows, IsRow, IsStep, Stands}
use Rattle.std.specs.List.{AllZip}
use Rattle.smv_instances.proofs.rows.main_alone.Goals as goal

-- the one row is that of `main`
main_row : (ms : Modules) (m : Module) (row : Row) → Stands ms row.table m → row.step ≡ None → row.depth ≡ 0 → row.process ≡ 0 → IsRow ms (Scope.Main m ∷ []) 0 row (Scope.Main m)
main_row ms m row stands step deep process = record {
  table = stands;
  depth_is = deep;
  process_is = ap (slice_get (filter is_process (Scope.Main m ∷ []))) process;
  step = subst (λ o. IsStep (Scope.Main m ∷ []) 0 o (Scope.Main m)) (sym step) tt;
}

no_more : {A : Type 0} (k : ℕ) (x y : A) → slice_get (x ∷ []) (suc k) ≡ Some y → ⊥
no_more k x y e = cc

alone : (ms : Modules) (m : Module) (row : Row) → IsRow ms (Scope.Main m ∷ []) 0 row (Scope.Main m) → (k : ℕ) (other : Row) (s : Scope) → slice_get (row ∷ []) k ≡ Some other → slice_get (Scope.Main m ∷ []) k ≡ Some s → IsRow ms (Scope.Main m ∷ []) k other s
alone ms m row is zero other s at_row at_s = subst (λ r. IsRow ms (Scope.Main m ∷ []) 0 r s) (same_Some _ _ at_row) (subst (λ t. IsRow ms (Scope.Main m ∷ []) 0 row t) (same_Some _ _ at_s) is)
alone ms m row is (suc k) other s at_row at_s = absurd (no_more k row other at_row)

pub returns : goal.returns
returns c = λ ms m stands.
    let row : Row = record { step = None; table = c.args.table; depth = 0; process = 0; children = c.new.result } in
    let rows : c.push.new.self.items ≡ row ∷ [] = c.in_ok-push.ensures.items ∙ ap (λ xs. xs ++ (row ∷ [])) c.new-rows.ensures.items in
    let processes : c.push-2.new.self.items ≡ 0 ∷ [] = c.in_ok-push-2.ensures.items ∙ ap (λ xs. xs ++ (0 ∷ [])) c.new-processes.ensures.items in
    record {
      rows = subst (λ rs. AreRows ms rs (Scope.Main m ∷ [])) (sym rows) (record { lengths = refl; each = alone ms m row (main_row ms m row stands refl refl refl) });
      processes = subst (λ ns. AllZip (λ n c. slice_get (Scope.Main m ∷ []) n ≡ Some c) ns (Scope.Main m ∷ [])) (sym processes) (refl, tt);
      counts = record { variables = refl; process = refl; instances = refl; few = omega arith; some = omega arith };
    }
