-- What an expansion stands on, and the nodes of which it makes one after the other.
use Rattle.std.specs.Prelude.{◌≡◌, ℕ, ◌≤◌, pos, negsuc, List, Option, Some, None, MatchOption, map}
use Rattle.kripke_model.specs.declared.expressions.Value.{Value}
use Rattle.kripke_model.specs.declared.expressions.Value.TheVariants.{Number, Symbol}
use Rattle.kripke_model.specs.Term.{Term, Terms, Arms, none, more, esac, arm}
use Rattle.kripke_model.specs.Size.{nesting, element_nesting, arm_nesting}
use Rattle.smv_parser.specs.declared.expressions.Arm.{Arm as Held_arm}
use Rattle.smv_parser.specs.declared.expressions.Expr.{Expr as Held}
use Rattle.smv_parser.specs.Tree as tree
use Rattle.smv_parser.specs.View.{tree_of, arm_pair}
use Rattle.smv_instances.specs.declared.instances.Instances.{Instances}
use Rattle.smv_instances.specs.Abstract as abstract
use Rattle.smv_instances.specs.Plain.{plain_expr}
use Rattle.smv_instances.specs.Program.{Expr, Exprs, Path, Program}
use Rattle.smv_instances.specs.Program
use Rattle.smv_instances.specs.Instances.{Scope}
use Rattle.smv_instances.specs.Numbered.{scope_at}
use Rattle.smv_names.specs.declared.paths.Paths.{Paths}
use Rattle.smv_names.specs.Denotes.{Target, Denotes, bare}
use Rattle.smv_names.specs.Expands.{Expands, ExpandElements, ExpandArms, Selects}
use Rattle.smv_names.specs.Paths.{ArePaths}
use Rattle.smv_instantiate.specs.declared.expansion.End.{End}
use Rattle.smv_instantiate.specs.Firsts.{AreFirsts}
use Rattle.smv_instantiate.specs.Written.{IsWritten}

-- the paths and the first flat variables are those of a written program
pub record CanExpand (p : Program) (instances : Instances) (paths : Paths)
    (firsts : List (Option ℕ)) : Type 0 where
  pub paths_are : ArePaths p instances paths
  pub firsts_are : AreFirsts p firsts
  pub written : IsWritten p

-- the flat variable that the path selects, or none where it selects none
abbrev pub IsSelected : Program → Scope → Path → Option ℕ → Type 0
IsSelected p s q found = MatchOption found ((x : ℕ) → Selects p s q x → ⊥) (λ x. Selects p s q x)

-- ---- terms

-- the numbers in it are those that can be written
abbrev pub IsWrittenValue : Value → Type 0
IsWrittenValue (Number (pos n)) = n ≤ 2147483647
IsWrittenValue (Number (negsuc n)) = Unit {0}
IsWrittenValue (Symbol c) = Unit {0}

abbrev mutual
  pub HasWrittenNumbers : Term → Type 0
  HasWrittenNumbers (Term.Const v) = IsWrittenValue v
  HasWrittenNumbers (Term.Var x) = Unit {0}
  HasWrittenNumbers (Term.Running p) = Unit {0}
  HasWrittenNumbers (Term.Next e) = HasWrittenNumbers e
  HasWrittenNumbers (Term.Not e) = HasWrittenNumbers e
  HasWrittenNumbers (Term.Binary op a b) = HasWrittenNumbers a × HasWrittenNumbers b
  HasWrittenNumbers (Term.Braces es) = HaveWrittenNumbers es
  HasWrittenNumbers (Term.Case arms) = ArmsHaveWrittenNumbers arms
  HasWrittenNumbers (Term.Quant op e) = HasWrittenNumbers e
  HasWrittenNumbers (Term.Until all a b) = HasWrittenNumbers a × HasWrittenNumbers b

  pub HaveWrittenNumbers : Terms → Type 0
  HaveWrittenNumbers none = Unit {0}
  HaveWrittenNumbers (more e es) = HasWrittenNumbers e × HaveWrittenNumbers es

  pub ArmsHaveWrittenNumbers : Arms → Type 0
  ArmsHaveWrittenNumbers esac = Unit {0}
  ArmsHaveWrittenNumbers (arm guard right rest)
      = HasWrittenNumbers guard × HasWrittenNumbers right × ArmsHaveWrittenNumbers rest

-- the expression, read in s, stands for the term, which is at most so deep
pub record StandsFor (p : Program) (s : Scope) (e : Expr) (depth : ℕ) (t : Term) : Type 0 where
  pub expands : Expands p s e t
  pub shallow : nesting t ≤ depth
  pub numbers : HasWrittenNumbers t

-- expressions in memory, and the arms of a `case`
abbrev pub plain_exprs : List Held → Exprs
plain_exprs es = abstract.exprs (tree.trees_of (map tree_of es))

abbrev pub plain_arms : List Held_arm → Program.Arms
plain_arms arms = abstract.arms (tree.arms_of (map arm_pair arms))

pub record ElementsStandFor (p : Program) (s : Scope) (es : Exprs) (depth : ℕ)
    (ts : Terms) : Type 0 where
  pub expand : ExpandElements p s es ts
  pub shallow : element_nesting ts ≤ depth
  pub numbers : HaveWrittenNumbers ts

pub record ArmsStandFor (p : Program) (s : Scope) (arms : Program.Arms) (depth : ℕ)
    (ts : Arms) : Type 0 where
  pub expand : ExpandArms p s arms ts
  pub shallow : arm_nesting ts ≤ depth
  pub numbers : ArmsHaveWrittenNumbers ts

-- ---- where the node of a term is written

-- the path denotes no expression
abbrev pub DenotesNoText : Program → Scope → Path → Type 0
DenotesNoText p s q = (h : Scope) (e : Expr) → Denotes p s q (Target.Reading h e) → ⊥

-- the expression there stands for what e, read in h, stands for, and is no path to another one
pub record IsWrittenAt (p : Program) (h : Scope) (e : Expr) (end : End) : Type 0 where
  pub scope : Scope
  pub home : scope_at p end.home ≡ Some scope
  pub same : (t : Term) → Expands p h e t → Expands p scope (plain_expr end.right.now) t
  pub last : (q : Path) → bare (plain_expr end.right.now) ≡ Expr.At q → DenotesNoText p scope q

-- the end of the chain of definitions that begins with the path, if the path denotes an expression
abbrev pub EndsPath : Program → Scope → Path → Option End → Type 0
EndsPath p s q None = DenotesNoText p s q
EndsPath p s q (Some end) = IsWrittenAt p s (Expr.At q) end

-- the expression has no parentheses around it, and is no path to another one
pub record IsNode (p : Program) (s : Scope) (e : Expr) : Type 0 where
  pub bare_is : bare e ≡ e
  pub last : (q : Path) → e ≡ Expr.At q → DenotesNoText p s q

-- the same, and it has no parentheses around it
pub record IsNodeOf (p : Program) (h : Scope) (e : Expr) (end : End) : Type 0 where
  pub ends : IsWrittenAt p h e end
  pub bare_is : bare (plain_expr end.right.now) ≡ plain_expr end.right.now
