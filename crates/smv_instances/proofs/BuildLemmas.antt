-- The parts of building: the instances of a program with `main`, and their symbolic constants.
use Rattle.std.proofs.Common.{◌≡◌, refl, ◌∙◌, ap, List, [], ◌∷◌, ◌++◌, map, flat_map, append-nil, Some, not, ◌&&◌, IsTrue}
use Rattle.std.specs.Prelude.{option_map}
use Rattle.std.specs.List.{cons_option, list_any}
use Rattle.std.specs.Str.{bytes_eq}
use Rattle.std.proofs.lemmas.Grind.{flat_map-append}
use Rattle.std.proofs.lemmas.List.Folds.{flat_map-map}
use Rattle.kripke_model.specs.Refusing.{first_of, refuse}
use Rattle.kripke_model.specs.declared.refusals.FlatRefusal.{FlatRefusal}
use Rattle.smv_instances.specs.Program.{Name, Module, Program}
use Rattle.smv_instances.specs.Entries.{Entry, entries, module_named}
use Rattle.smv_instances.specs.Instances.{Scope, module_of, instances, instances_from, greatest_depth, main_name, main_scope, atoms_of, distinct_names, symbols}
use Rattle.smv_instances.specs.Declarations.{Refusal, is_parameter}
use Rattle.smv_instances.specs.Symbols.{body_atoms}

pub instances_main : (p : Program) (m : Module) → module_named p main_name ≡ Some m → instances p ≡ instances_from p greatest_depth (Scope.Main m)
instances_main p m is = ap (λ o. flat_map (instances_from p greatest_depth) (cons_option (option_map Scope.Main o) [])) is ∙ append-nil (instances_from p greatest_depth (Scope.Main m))

pub main_entries : (p : Program) (m : Module) → module_named p main_name ≡ Some m → flat_map (λ s. entries (module_of s)) (main_scope p) ≡ entries m
main_entries p m is = ap (λ o. flat_map (λ (s : Scope). entries (module_of s)) (cons_option (option_map Scope.Main o) [])) is ∙ append-nil (entries m)

-- ---- symbolic constants

bodies_atoms : (xs : List Scope) → flat_map (λ (e : Scope × Entry). atoms_of e.1.entity) (flat_map (λ s. map (λ e. (s, e)) (entries (module_of s))) xs) ≡ flat_map body_atoms xs
bodies_atoms [] = refl
bodies_atoms (s ∷ xs) =
    flat_map-append (λ (e : Scope × Entry). atoms_of e.1.entity) (map (λ e. (s, e)) (entries (module_of s))) (flat_map (λ t. map (λ e. (t, e)) (entries (module_of t))) xs)
    ∙ ap (λ ys. ys ++ flat_map (λ (e : Scope × Entry). atoms_of e.1.entity) (flat_map (λ t. map (λ e. (t, e)) (entries (module_of t))) xs)) (flat_map-map (λ (e : Scope × Entry). atoms_of e.1.entity) (λ e. (s, e)) (entries (module_of s)))
    ∙ ap (λ ys. body_atoms s ++ ys) (bodies_atoms xs)

pub symbols_bodies : (p : Program) → symbols p ≡ distinct_names (flat_map body_atoms (instances p))
symbols_bodies p = ap distinct_names (bodies_atoms (instances p))

-- the names of `main` against the symbolic constants
abbrev pub constants_of : List Entry → List Name → Refusal
constants_of es names = first_of es (λ e. refuse (FlatRefusal.NameIsConstant e.line) (IsTrue (not (is_parameter e.entity) && list_any (bytes_eq e.name) names)))
