use Rattle.std.proofs.Common.{◌≡◌, refl, sym, ◌∙◌, ap, subst, ◌+◌, ◌<◌, arith, [], ◌∷◌, ◌++◌, Bool, true, false, not, cond, length, map, take, get_or, inr}
use Rattle.std.specs.Prelude.{is_some}
use Rattle.std.specs.List.{list_any, AllZip}
use Rattle.std.specs.Str.{bytes_eq}
use Rattle.kripke_model.specs.Refusing.{Silent}
use Rattle.kripke_model.proofs.FirstLemmas.{silent_refuse}
use Rattle.smv_parser.specs.ProgramView as programs
use Rattle.kripke_model.specs.declared.refusals.FlatRefusal.{FlatRefusal}
use Rattle.smv_instances.specs.Program.{Module}
use Rattle.smv_instances.specs.Abstract as plain
use Rattle.smv_instances.specs.Plain.{plain_module, plain_program}
use Rattle.smv_instances.specs.Entries.{module_named}
use Rattle.smv_instances.specs.Declarations.{second_module}
use Rattle.smv_instances.specs.Tables.{IsTable}
use Rattle.std.proofs.lemmas.List.{map-append}
use Rattle.smv_instances.proofs.ListSteps.{map_map, take_map, split_map, take_whole}
use Rattle.smv_instances.proofs.FirstSteps.{silent_push, first_push}
use Rattle.smv_instances.proofs.TableLemmas.{is_some-module_named, pairs_push}
use Rattle.smv_instances.proofs.modules.modules_of.Goals as goal

stood : (b x : Bool) → b ≡ not x → b ≡ false → x ≡ true
stood b true e h = refl
stood b false e h = cc

not_stood : (b x : Bool) → b ≡ not x → b ≡ true → x ≡ false
not_stood b false e h = refl
not_stood b true e h = cc

added : {A : Type 0} (b : Bool) (old more new : A) → new ≡ cond b more old → b ≡ true → new ≡ more
added true old more new e h = e
added false old more new e h = cc

not_both : (b : Bool) → b ≡ true → b ≡ false → ⊥
not_both b holds fails = cc

pub returns-then-not-branch-clause-refused : goal.returns-then-not-branch-clause-refused
returns-then-not-branch-clause-refused c =
    let xs = c.args.program.now.modules.items in
    let i = c.loop-source.source-index in
    let item = c.source-item.result in
    let before = map plain_module (take i xs) in
    let lt : i < length xs = omega (arith, ap length c.deref-source-items.ensures.value) in
    let at : item ≡ get_or xs i item = cc in
    let split = split_map plain_module xs i item lt at in
    let again : list_any (bytes_eq item.name) c.loop-source.names ≡ true = ap (λ q. list_any (bytes_eq q) c.loop-source.names) (sym c.as_str.ensures) ∙ stood _ _ c.in_ok-insert.ensures.added c.if-not-branch.true in
    let named : is_some (module_named before item.name) ≡ true = is_some-module_named before item.name ∙ ap (list_any (bytes_eq item.name)) (sym c.loop-source.invariant.names) ∙ again in
    inr (subst (λ p. second_module p (FlatRefusal.DuplicateName item.line)) (sym split.1 ∙ sym (map_map plain.module_of programs.module_of xs))
    (first_push _ before split.0 (plain_module item) (FlatRefusal.DuplicateName item.line) c.loop-source.invariant.silent (refl, named)))

pub loop-source-preserved : goal.loop-source-preserved
loop-source-preserved c =
    let xs = c.args.program.now.modules.items in
    let i = c.loop-source.source-index in
    let item = c.source-item.result in
    let before = map plain_module (take i xs) in
    let lt : i < length xs = omega (arith, ap length c.deref-source-items.ensures.value) in
    let at : item ≡ get_or xs i item = cc in
    let more : map plain_module (take (i + 1) xs) ≡ before ++ (plain_module item ∷ []) = take_map plain_module xs i item lt at in
    let new : list_any (bytes_eq item.name) c.loop-source.names ≡ false = ap (λ q. list_any (bytes_eq q) c.loop-source.names) (sym c.as_str.ensures) ∙ not_stood _ _ c.in_ok-insert.ensures.added c.if-not-branch.false in
    let named : is_some (module_named before item.name) ≡ false = is_some-module_named before item.name ∙ ap (list_any (bytes_eq item.name)) (sym c.loop-source.invariant.names) ∙ new in
    record {
      tables = rw (c.in_ok-push.ensures.items, more) (pairs_push IsTable _ _ _ _ c.loop-source.invariant.tables c.in_ok-table_of.ensures);
      names = added _ _ _ _ c.in_ok-insert.ensures.names c.if-not-branch.false
          ∙ ap (λ q. c.loop-source.names ++ (q ∷ [])) c.as_str.ensures
          ∙ ap (λ ns. ns ++ (item.name ∷ [])) c.loop-source.invariant.names
          ∙ sym (map-append (λ (m : Module). m.name) before (plain_module item ∷ []))
          ∙ ap (map (λ (m : Module). m.name)) (sym more);
      silent = subst (λ p. Silent (second_module p)) (sym more) (silent_push _ before (plain_module item) c.loop-source.invariant.silent (silent_refuse (λ (stands : is_some (module_named before item.name) ≡ true). not_both _ stands named)));
    }

pub returns-clause-modules : goal.returns-clause-modules
returns-clause-modules c =
    let xs = c.args.program.now.modules.items in
    let i = c.loop-source.source-index in
    let whole : map plain_module (take i xs) ≡ plain_program c.args.program.now = ap (map plain_module) (take_whole xs i (omega (arith, ap length c.deref-source-items.ensures.value))) ∙ sym (map_map plain.module_of programs.module_of xs) in
    record {
      each = subst (AllZip IsTable c.loop-source.tables.items) whole c.loop-source.invariant.tables;
      named = c.loop-source.invariant.names ∙ ap (map (λ (m : Module). m.name)) whole;
    }

pub returns-clause-ok : goal.returns-clause-ok
returns-clause-ok c =
    let xs = c.args.program.now.modules.items in
    let i = c.loop-source.source-index in
    let whole : map plain_module (take i xs) ≡ plain_program c.args.program.now = ap (map plain_module) (take_whole xs i (omega (arith, ap length c.deref-source-items.ensures.value))) ∙ sym (map_map plain.module_of programs.module_of xs) in
    subst (λ p. Silent (second_module p)) whole c.loop-source.invariant.silent
