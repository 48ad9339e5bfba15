-- What the pass over items knows of the items that it went over.
use Rattle.std.specs.Prelude.{◌≡◌, ℕ, ◌+◌, ◌<◌, ◌≤◌, ◌⊎◌, List, [], ◌∷◌, ◌++◌, map, All, Option, Some, Result, MatchResult, sum_by}
use Rattle.kripke_model.specs.Refusing.{Silent, First, refuse}
use Rattle.kripke_model.specs.Size.{term_nodes, nesting}
use Rattle.kripke_model.specs.Term.{Term}
use Rattle.smv_instances.specs.declared.instances.Instances.{Instances}
use Rattle.kripke_model.specs.declared.refusals.Which.{Which}
use Rattle.kripke_model.specs.declared.refusals.FlatRefusal.{FlatRefusal}
use Rattle.smv_instances.specs.Answers.{Refused}
use Rattle.smv_instances.specs.Built.{AreInstances}
use Rattle.smv_instances.specs.Declarations.{Refusal}
use Rattle.smv_instances.specs.Instances.{Scope}
use Rattle.smv_instances.specs.Numbered.{scope_at}
use Rattle.smv_instances.specs.Program.{Kind, Path, Program}
use Rattle.smv_names.specs.declared.paths.Paths.{Paths}
use Rattle.smv_names.specs.Expands.{Expands, Selects}
use Rattle.smv_instantiate.specs.declared.items.Item.{Item as Held}
use Rattle.smv_instantiate.specs.declared.totals.Totals.{Totals}
use Rattle.smv_instantiate.specs.Flattens.{Item, Placed}
use Rattle.smv_instantiate.specs.Items.{plain_item}
use Rattle.smv_instantiate.specs.Refuses.{AreTerms, count_of, count_rows, expression, item}
use Rattle.smv_instantiate.specs.Expansion.{CanExpand}
use Rattle.smv_instantiate.specs.Written.{IsWrittenExpr}

-- the instances, the paths and the first flat variables, as the code keeps them
pub record AreTables (p : Program) (instances : Instances) (paths : Paths)
    (firsts : List (Option ℕ)) : Type 0 where
  pub instances_are : AreInstances p instances
  pub expands : CanExpand p instances paths firsts

-- one of the instances has this number
abbrev pub HasTables : Instances → Paths → List (Option ℕ) → ℕ → Type 0
HasTables instances paths firsts i
    = (p : Program) × (s : Scope) × AreTables p instances paths firsts × (scope_at p i ≡ Some s)

-- items in the body of s
abbrev pub placed : Scope → List Held → List Placed
placed s items = map (λ i. (s, plain_item i)) items

-- ---- one item

abbrev pub left_row : Program → Scope → Path → ℕ → Refusal
left_row p s q line = refuse (FlatRefusal.NotAssignable line) ((x : ℕ) → Selects p s q x → ⊥)

-- what an item is refused for besides its paths and its size
abbrev pub own_rows : Program → List Placed → Scope → Item → Refusal
own_rows p upto s (Item.Assigns a) = left_row p s a.left a.left_line
own_rows p upto s (Item.States c) = count_rows upto c

-- the left side of an assignment selects a flat variable
abbrev pub HasLeft : Program → Scope → Item → Type 0
HasLeft p s (Item.Assigns a) = (x : ℕ) × Selects p s a.left x
HasLeft p s (Item.States c) = Unit {0}

-- it can be expanded
pub record HasTerm (p : Program) (i : Placed) : Type 0 where
  pub left : HasLeft p i.0 i.1
  pub term : Term
  pub expands : Expands p i.0 (expression i.1) term
  pub deep : nesting term ≤ 1024

-- it is written, so that it is expanded
pub record IsExpandable (p : Program) (i : Placed) : Type 0 where
  pub ready : HasTerm p i
  pub written : IsWrittenExpr (expression i.1)

-- ---- all items so far

-- how many specifications and constraints there are
pub record AreCounts (totals : Totals) (items : List Placed) : Type 0 where
  pub specifications : totals.specifications ≡ count_of Kind.Spec items
  pub few_specifications : totals.specifications ≤ 256
  pub constraints : totals.constraints ≡ count_of Kind.Fairness items
  pub few_constraints : totals.constraints ≤ 64

pub record IsPassed (p : Program) (items : List Placed) (totals : Totals) : Type 0 where
  pub counts : AreCounts totals items
  pub terms : List Term
  pub are : AreTerms p items terms
  pub nodes : totals.nodes ≡ sum_by term_nodes terms
  pub few_nodes : totals.nodes ≤ 200000
  pub ready : All (HasTerm p) items

-- ---- answers

-- the answer to the condition of this kind and line, which comes after the items: new counts, or why it is refused
abbrev pub Counts : Totals → List Placed → Placed → Refusal → Result Totals FlatRefusal → Type 0
Counts old items i rule result =
    MatchResult result
    (λ new. AreCounts new (items ++ (i ∷ [])) × (new.nodes ≡ old.nodes) × Silent rule)
    (Refused rule)

-- the answer to what an item is refused for besides its paths and its size
abbrev pub CountsItem : Program → List Placed → Scope → Item → Totals → Result Totals FlatRefusal
    → Type 0
CountsItem p items s i old result =
    MatchResult result
    (λ new. AreCounts new (items ++ ((s, i) ∷ [])) × (new.nodes ≡ old.nodes) × HasLeft p s i
    × Silent (own_rows p (items ++ ((s, i) ∷ [])) s i))
    (Refused (own_rows p (items ++ ((s, i) ∷ [])) s i))

-- so many nodes more, so deep, at this line
abbrev pub AddsSize : Totals → ℕ → ℕ → ℕ → Result Totals FlatRefusal → Type 0
AddsSize old line n d result =
    MatchResult result
    (λ new. (new ≡ record old { nodes = old.nodes + n }) × (old.nodes + n ≤ 200000) × (d ≤ 1024))
    (λ r. (r ≡ FlatRefusal.Limit line Which.Nodes 200001)
    × (200000 < old.nodes + n) ⊎ (r ≡ FlatRefusal.Limit line Which.Nesting 1025)
    × (old.nodes + n ≤ 200000) × (1024 < d))

-- the answer to an item: totals of one item more, or why it is refused
abbrev pub PassesItem : Program → List Placed → Placed → Result Totals FlatRefusal → Type 0
PassesItem p items i result =
    MatchResult result
    (λ new. IsPassed p (items ++ (i ∷ [])) new × Silent (item p items i))
    (Refused (item p items i))

-- the answer to some items
abbrev pub PassesAll : Program → List Placed → List Placed → Result Totals FlatRefusal → Type 0
PassesAll p before items result =
    MatchResult result
    (λ new. IsPassed p (before ++ items) new × Silent (First (item p) before items))
    (Refused (First (item p) before items))
