-- What a flat model says of its assignments.
use Rattle.std.proofs.Common.{ℕ, ◌<◌, ◌≤◌, List, [], ◌∷◌, ◌++◌, length, map, get_or, arith, length-append}
use Rattle.std.specs.Prelude.{All, sum_by}
use Rattle.std.proofs.lemmas.List.{length-map}
use Rattle.std.proofs.lemmas.List.Elements.{All-weaker, All-contains}
use Rattle.std.proofs.lemmas.List.Sums.{sum_by-cons}
use Rattle.kripke_model.specs.declared.models.Part.{Part}
use Rattle.kripke_model.specs.Term.{Term}
use Rattle.kripke_model.specs.System.{System, Assignment, Condition}
use Rattle.kripke_model.specs.Size.{term_nodes}
use Rattle.kripke_model.specs.Static.{variables_in}
use Rattle.kripke_model.specs.Flat.{IsFlat, HasNumbers, expressions, node_total}
use Rattle.kripke_model.proofs.RuledLemmas.{rights_sound}
use Rattle.smv_static.specs.Numbers.{IsBelow}
use Rattle.smv_static.specs.Targets.{targets_by, targets_of, next_variables_in}
use Rattle.smv_static.specs.Groups.{IsTable}
use Rattle.smv_static.proofs.NumberLemmas.{all_members}
use Rattle.smv_static.proofs.TargetLemmas.{next_to, within, variables_known}

some_node : (e : Term) → 1 ≤ term_nodes e
some_node (Term.Const v) = omega arith
some_node (Term.Var x) = omega arith
some_node (Term.Running p) = omega arith
some_node (Term.Next e) = omega arith
some_node (Term.Not e) = omega arith
some_node (Term.Binary op a b) = omega arith
some_node (Term.Braces es) = omega arith
some_node (Term.Case arms) = omega arith
some_node (Term.Quant op e) = omega arith
some_node (Term.Until all a b) = omega arith

few_members : (es : List Term) → length es ≤ sum_by term_nodes es
few_members [] = omega arith
few_members (e ∷ es) = let h = few_members es in let n = some_node e in omega (arith, sum_by-cons term_nodes e es)

module _ (m : System) (flat : IsFlat m) where
  pub few_assigns : length m.assigns ≤ 200000
  few_assigns =
      let nodes : node_total m ≤ 200000 = flat.limits.nodes in
      let rights : List Term = map (λ (a : Assignment). a.right) m.assigns in
      let others : List Term = map (λ (c : Condition). c.expr) (m.inits ++ m.invars ++ m.trans ++ m.constraints ++ m.specs) in
      omega (arith, nodes, few_members (expressions m), length-append rights others, length-map m.assigns (λ (a : Assignment). a.right))

  pub few_processes : length m.processes ≤ 1024
  few_processes = flat.limits.instances

  pub few_variables : length m.vars ≤ 256
  few_variables = flat.limits.variables

  pub vars_known : All (λ a. a.var < length m.vars) m.assigns
  vars_known = All-weaker (HasNumbers m) (λ a. a.var < length m.vars) (λ a n. n.var) m.assigns flat.numbers

  pub processes_known : All (λ a. a.process < length m.processes) m.assigns
  processes_known = All-weaker (HasNumbers m) (λ a. a.process < length m.processes) (λ a n. n.process) m.assigns flat.numbers

  abbrev Known : ℕ → Type 0
  Known x = x < length m.vars

  targets_by_known : (part : Part) (e : Term) → All Known (variables_in e) → All Known (targets_by part e)
  targets_by_known Part.Init e h = h
  targets_by_known Part.Now e h = h
  targets_by_known Part.Next e h = all_members Known (next_variables_in e) (λ y c. All-contains Known (variables_in e) y h (within y e (next_to y e c)))

  pub targets_known : All (λ a. All (λ x. x < length m.vars) (targets_of a)) m.assigns
  targets_known k d below =
      let a : Assignment = get_or m.assigns k d in
      targets_by_known a.part a.right (variables_known m a.right (rights_sound m flat k d below))

  -- what is in a table of the model's assignments is a variable
  pub table_below : (places : List ℕ) (rows : List (List ℕ)) → All (λ k. k < length m.assigns) places → IsTable m.assigns places rows → IsBelow (length m.vars) rows
  table_below places rows known table x y h =
      let s = table.sound x y h in
      let d : Assignment = record { part = Part.Now; var = 0; process = 0; right = Term.Var 0; line = 0 } in
      All-contains Known (targets_of (get_or m.assigns s.0 d)) y (targets_known s.0 d (All-contains (λ k. k < length m.assigns) places s.0 known s.1)) (s.3 d)
