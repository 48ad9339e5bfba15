-- The programs without a flat model, and the refusal of each.
use Rattle.std.specs.Prelude.{ℕ, ◌<◌, false, List, [], ◌∷◌, ◌++◌, sum_by}
use Rattle.kripke_model.specs.Refusing.{refuse, ◌then◌, First, first_of}
use Rattle.kripke_model.specs.Term.{Term}
use Rattle.kripke_model.specs.Size.{term_nodes, nesting}
use Rattle.kripke_model.specs.declared.refusals.Which.{Which}
use Rattle.kripke_model.specs.declared.refusals.FlatRefusal.{FlatRefusal}
use Rattle.smv_instances.specs.Program.{Expr, Program, Kind, Stated}
use Rattle.smv_instances.specs.Instances.{Scope, all_entries}
use Rattle.smv_names.specs.Expands.{Expands, Selects}
use Rattle.smv_instantiate.specs.Flattens.{Item, Placed, all_items, is_of}
use Rattle.std.specs.List.{AllZip}
use Rattle.smv_instances.specs.Declarations.{Refusal, one_if, nothing, above, refused_declarations}
use Rattle.smv_names.specs.Abbreviations.{mentions, index_mentions, path_rows, definition}

-- ---- items

abbrev pub expression : Item → Expr
expression (Item.Assigns a) = a.right
expression (Item.States c) = c.expr

abbrev pub item_line : Item → ℕ
item_line (Item.Assigns a) = a.line
item_line (Item.States c) = c.line

abbrev pub count_of : Kind → List Placed → ℕ
count_of k items = sum_by (λ i. one_if (is_of k i.1)) items

-- the terms of the items
abbrev pub AreTerms : Program → List Placed → List Term → Type 0
AreTerms p items ts = AllZip (λ i t. Expands p i.0 (expression i.1) t) items ts

abbrev pub size_rows : Program → List Placed → Placed → Refusal
size_rows p upto (s, i) =
    refuse (FlatRefusal.Limit (item_line i) Which.Nodes 200001)
    ((ts : List Term) × AreTerms p upto ts × (200000 < sum_by term_nodes ts))
    then refuse (FlatRefusal.Limit (item_line i) Which.Nesting 1025)
    ((t : Term) × Expands p s (expression i) t × (1024 < nesting t))

abbrev pub count_rows : List Placed → Stated → Refusal
count_rows upto c = rows c.kind
  where
    rows : Kind → Refusal
    rows Kind.Spec = above c.line Which.Specifications 256 (count_of Kind.Spec upto)
    rows Kind.Fairness = above c.line Which.Constraints 64 (count_of Kind.Fairness upto)
    rows Kind.Init = nothing
    rows Kind.Invar = nothing
    rows Kind.Trans = nothing

abbrev pub item_rows : Program → List Placed → Scope → Item → Refusal
item_rows p upto s (Item.Assigns a) =
    path_rows p s
    ((record { path = a.left; wanted = false } ∷ index_mentions a.left) ++ mentions a.right)
    then refuse (FlatRefusal.NotAssignable a.left_line) ((x : ℕ) → Selects p s a.left x → ⊥)
    then size_rows p upto (s, Item.Assigns a)
item_rows p upto s (Item.States c) =
    path_rows p s (mentions c.expr)
    then count_rows upto c
    then size_rows p upto (s, Item.States c)

abbrev pub item : Program → List Placed → Placed → Refusal
item p before (s, i) = item_rows p (before ++ ((s, i) ∷ [])) s i

-- ---- all of them

abbrev pub Refuses : Program → Refusal
Refuses p = refused_declarations p
    then first_of (all_entries p) (definition p)
    then First (item p) [] (all_items p)
