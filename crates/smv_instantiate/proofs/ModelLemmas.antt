-- The parts of a flat model together.
use Rattle.std.proofs.Common.{◌≡◌, sym, ◌∙◌, ap, subst, ℕ, List, Option, [], length, Some, inl, inr}
use Rattle.std.specs.Prelude.{All, filter, flat_map, slice_get}
use Rattle.std.proofs.lemmas.List.{length-map}
use Rattle.kripke_model.specs.Refusing.{Silent, First, first_of}
use Rattle.kripke_model.proofs.FirstLemmas.{silent_then}
use Rattle.smv_names.specs.declared.paths.Paths.{Paths}
use Rattle.smv_names.specs.Paths.{ArePaths}
use Rattle.smv_instances.specs.declared.instances.Instances.{Instances}
use Rattle.kripke_model.specs.declared.refusals.FlatRefusal.{FlatRefusal}
use Rattle.smv_instances.specs.declared.rows.Row.{Row}
use Rattle.smv_instances.specs.Answers.{Refused}
use Rattle.smv_instances.specs.Built.{AreInstances}
use Rattle.smv_instances.specs.Declarations.{refused_declarations}
use Rattle.smv_instances.specs.Instances.{all_entries, instances, is_process, process_name, module_of, processes}
use Rattle.smv_instances.specs.Program.{Program}
use Rattle.smv_instances.specs.Walk.{AreRows, AreLinked}
use Rattle.smv_instances.proofs.TableLemmas.{length_pairs}
use Rattle.smv_names.specs.Abbreviations.{definition}
use Rattle.smv_instantiate.specs.Bodies.{AreBodies}
use Rattle.smv_instantiate.specs.Firsts.{AreFirsts}
use Rattle.smv_instantiate.specs.Flattens.{Placed, all_items, section_items}
use Rattle.smv_instantiate.specs.Passes.{AreTables, IsExpandable, HasTerm}
use Rattle.smv_instantiate.specs.Refuses.{Refuses, expression, item}
use Rattle.smv_instantiate.specs.Written.{IsWritten, IsWrittenExpr, IsWrittenSection}
use Rattle.smv_instantiate.proofs.Members.{In, all_from, all_in, in_flat_back, in_map_back}
use Rattle.smv_instantiate.proofs.DeclaredLemmas.{kept}
use Rattle.smv_instantiate.proofs.FlatLemmas.{item_in_section}
use Rattle.smv_instantiate.proofs.PassSteps.{body_items}
use Rattle.smv_instantiate.proofs.TargetLemmas.{module_written}

pub bodies_of : (p : Program) (all : Instances) (rows : List Row) → rows ≡ all.rows.items → AreInstances p all → IsWritten p → AreBodies p all.modules rows all.symbols
bodies_of p all rows same are written = record {
  known = are.known;
  are = subst (λ rs. AreRows all.modules rs (instances p)) (sym same) are.are;
  linked = subst (λ rs. AreLinked p rs (instances p) 0) (sym same) are.linked;
  named = are.named;
  written = written;
  silent = are.silent;
}

pub process_total : (p : Program) (all : Instances) → AreInstances p all → length all.processes.items ≡ length (processes p)
process_total p all are = length_pairs (λ n c. slice_get (instances p) n ≡ Some c) all.processes.items (filter is_process (instances p)) are.entered ∙ sym (length-map (filter is_process (instances p)) process_name)

pub tables_of : (p : Program) (all : Instances) (paths : Paths) (firsts : List (Option ℕ)) → AreInstances p all → ArePaths p all paths → AreFirsts p firsts → IsWritten p → AreTables p all paths firsts
tables_of p all paths firsts are known first written = record {
  instances_are = are;
  expands = record { paths_are = known; firsts_are = first; written = written };
}

-- ---- items

pub item_written : (p : Program) → Silent (refused_declarations p) → IsWritten p → (x : Placed) → In x (all_items p) → IsWrittenExpr (expression x.1)
item_written p silent written x i =
    let b = in_flat_back body_items (instances p) i in
    let c = in_map_back (λ j. (b.0, j)) (flat_map section_items (module_of b.0).sections) b.2 in
    let d = in_flat_back section_items (module_of b.0).sections c.1 in
    let same : x.1 ≡ c.0 = ap (λ (y : Placed). y.1) c.2 in
    subst (λ y. IsWrittenExpr (expression y)) (sym same) (item_in_section d.0 (all_in IsWrittenSection (module_of b.0).sections (module_written p (kept p silent written) b.0 b.1).sections d.1) c.0 d.2)

pub all_expandable : (p : Program) → Silent (refused_declarations p) → IsWritten p → All (HasTerm p) (all_items p) → All (IsExpandable p) (all_items p)
all_expandable p silent written all = all_from (IsExpandable p) (all_items p) (λ x i. record { ready = all_in (HasTerm p) (all_items p) all i; written = item_written p silent written x i })

-- ---- the passes

pub declarations_refused : (p : Program) (r : FlatRefusal) → Refused (refused_declarations p) r → Refused (Refuses p) r
declarations_refused p r (inl memory) = inl memory
declarations_refused p r (inr h) = inr (inl h)

pub definitions_refused : (p : Program) (r : FlatRefusal) → Silent (refused_declarations p) → Refused (first_of (all_entries p) (definition p)) r → Refused (Refuses p) r
definitions_refused p r first (inl memory) = inl memory
definitions_refused p r first (inr h) = inr (inr (first, inl h))

pub items_refused : (p : Program) (r : FlatRefusal) → Silent (refused_declarations p) → Silent (first_of (all_entries p) (definition p)) → Refused (First (item p) [] (all_items p)) r → Refused (Refuses p) r
items_refused p r first second (inl memory) = inl memory
items_refused p r first second (inr h) = inr (inr (first, inr (second, h)))

pub not_refused : (p : Program) → Silent (refused_declarations p) → Silent (first_of (all_entries p) (definition p)) → Silent (First (item p) [] (all_items p)) → Silent (Refuses p)
not_refused p first second third = silent_then {a = refused_declarations p} first (silent_then {a = first_of (all_entries p) (definition p)} second third)
