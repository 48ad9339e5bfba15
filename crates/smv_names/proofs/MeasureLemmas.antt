-- The size of a list of expressions, one after the other.
use Rattle.std.proofs.Common.{◌≡◌, sym, ◌∙◌, ap, subst, ℕ, zero, suc, ◌+◌, ◌<◌, arith, List, [], ◌∷◌, ◌++◌, map, length, take, get_or}
use Rattle.std.proofs.lemmas.List.{take_more}
use Rattle.smv_parser.specs.declared.expressions.Arm.{Arm}
use Rattle.smv_parser.specs.declared.expressions.Expr.{Expr as Written}
use Rattle.smv_parser.specs.Tree as tree
use Rattle.smv_parser.specs.View.{tree_of, arm_pair}
use Rattle.smv_instances.specs.Abstract as abstract
use Rattle.smv_instances.specs.Plain.{plain_expr}
use Rattle.smv_instances.specs.Program.{Program}
use Rattle.smv_instances.specs.Instances.{Scope}
use Rattle.smv_names.specs.declared.sizes.Size.{Size}
use Rattle.smv_names.specs.Abbreviations.{Mention, mentions, element_mentions, arm_mentions, Abbreviation}
use Rattle.smv_names.specs.Naming.{NamedIn}
use Rattle.smv_names.specs.Values.{IsSizeOf, AreSizesOf, AreArmSizesOf}
use Rattle.smv_names.specs.Known.{AreSizesIn}
use Rattle.smv_names.proofs.KnownLemmas.{named_left, named_right}
use Rattle.smv_names.proofs.SizeLemmas.{Joins, elements_size, arms_size}

abbrev pub elements_of : List Written → List Mention
elements_of xs = element_mentions (abstract.exprs (tree.trees_of (map tree_of xs)))

abbrev pub arms_of : List Arm → List Mention
arms_of xs = arm_mentions (abstract.arms (tree.arms_of (map arm_pair xs)))

-- what one of the expressions names, they name together
element_named : (p : Program) (s : Scope) (a : Abbreviation) (xs : List Written) (k : ℕ) (d : Written) → k < length xs → NamedIn p s (mentions (plain_expr (get_or xs k d))) a → NamedIn p s (elements_of xs) a
element_named p s a [] k d lt named = absurd (omega arith)
element_named p s a (x ∷ xs) zero d lt named = named_left p s a (mentions (plain_expr x)) (elements_of xs) named
element_named p s a (x ∷ xs) (suc k) d lt named = named_right p s a (mentions (plain_expr x)) (elements_of xs) (element_named p s a xs k d (omega arith) named)

pub element_sizes : (p : Program) (sizes : List Size) (s : Scope) (xs : List Written) (k : ℕ) (e : Written) → k < length xs → e ≡ get_or xs k e → AreSizesIn p sizes s (elements_of xs) → AreSizesIn p sizes s (mentions (plain_expr e))
element_sizes p sizes s xs k e lt is known v a at named = known v a at (element_named p s a xs k e lt (subst (λ z. NamedIn p s (mentions (plain_expr z)) a) is named))

pub element_more : (p : Program) (s : Scope) (xs : List Written) (k : ℕ) (e : Written) (x y z : Size) → k < length xs → e ≡ get_or xs k e → AreSizesOf p s (abstract.exprs (tree.trees_of (map tree_of (take k xs)))) x → IsSizeOf p s (plain_expr e) y → Joins z x y
    → AreSizesOf p s (abstract.exprs (tree.trees_of (map tree_of (take (k + 1) xs)))) z
element_more p s xs k e x y z lt is front last joins =
    subst (λ es. AreSizesOf p s (abstract.exprs (tree.trees_of (map tree_of es))) z) (sym (take_more xs k e lt ∙ ap (λ w. take k xs ++ w ∷ []) (sym is)))
    (elements_size (take k xs) e front last joins)

-- the same for the arms of a `case`
arm_named : (p : Program) (s : Scope) (a : Abbreviation) (xs : List Arm) (k : ℕ) (d : Arm) → k < length xs → NamedIn p s (mentions (plain_expr (get_or xs k d).guard) ++ mentions (plain_expr (get_or xs k d).right)) a → NamedIn p s (arms_of xs) a
arm_named p s a [] k d lt named = absurd (omega arith)
arm_named p s a (x ∷ xs) zero d lt named = named_left p s a (mentions (plain_expr x.guard) ++ mentions (plain_expr x.right)) (arms_of xs) named
arm_named p s a (x ∷ xs) (suc k) d lt named = named_right p s a (mentions (plain_expr x.guard) ++ mentions (plain_expr x.right)) (arms_of xs) (arm_named p s a xs k d (omega arith) named)

pub guard_sizes : (p : Program) (sizes : List Size) (s : Scope) (xs : List Arm) (k : ℕ) (e : Arm) → k < length xs → e ≡ get_or xs k e → AreSizesIn p sizes s (arms_of xs) → AreSizesIn p sizes s (mentions (plain_expr e.guard))
guard_sizes p sizes s xs k e lt is known v a at named =
    known v a at (arm_named p s a xs k e lt
    (subst (λ z. NamedIn p s (mentions (plain_expr z.guard) ++ mentions (plain_expr z.right)) a) is (named_left p s a (mentions (plain_expr e.guard)) (mentions (plain_expr e.right)) named)))

pub right_sizes : (p : Program) (sizes : List Size) (s : Scope) (xs : List Arm) (k : ℕ) (e : Arm) → k < length xs → e ≡ get_or xs k e → AreSizesIn p sizes s (arms_of xs) → AreSizesIn p sizes s (mentions (plain_expr e.right))
right_sizes p sizes s xs k e lt is known v a at named =
    known v a at (arm_named p s a xs k e lt
    (subst (λ z. NamedIn p s (mentions (plain_expr z.guard) ++ mentions (plain_expr z.right)) a) is (named_right p s a (mentions (plain_expr e.guard)) (mentions (plain_expr e.right)) named)))

pub arm_more : (p : Program) (s : Scope) (xs : List Arm) (k : ℕ) (e : Arm) (w x y v z : Size) → k < length xs → e ≡ get_or xs k e → AreArmSizesOf p s (abstract.arms (tree.arms_of (map arm_pair (take k xs)))) w
    → IsSizeOf p s (plain_expr e.guard) x → IsSizeOf p s (plain_expr e.right) y → Joins v x y → Joins z w v → AreArmSizesOf p s (abstract.arms (tree.arms_of (map arm_pair (take (k + 1) xs)))) z
arm_more p s xs k e w x y v z lt is front guard right inner outer =
    subst (λ es. AreArmSizesOf p s (abstract.arms (tree.arms_of (map arm_pair es))) z) (sym (take_more xs k e lt ∙ ap (λ u. take k xs ++ u ∷ []) (sym is)))
    (arms_size (take k xs) e front guard right inner outer)

-- an operand that lies in memory
pub operand_size : (p : Program) (sizes : List Size) (s : Scope) (w v : Written) (z : Size) → w ≡ v → AreSizesIn p sizes s (mentions (plain_expr v)) → (AreSizesIn p sizes s (mentions (plain_expr w)) → IsSizeOf p s (plain_expr w) z) → IsSizeOf p s (plain_expr v) z
operand_size p sizes s w v z same known size = subst (λ e. IsSizeOf p s (plain_expr e) z) same (size (subst (λ e. AreSizesIn p sizes s (mentions (plain_expr e))) (sym same) known))
