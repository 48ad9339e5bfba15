-- The paths of an expression part by part.
use Rattle.std.proofs.Common.{◌≡◌, refl, sym, ◌∙◌, ap, ℕ, ◌+◌, ◌<◌, List, [], ◌∷◌, ◌++◌, length, get_or, take, append_assoc, true, false}
use Rattle.std.specs.Prelude.{map}
use Rattle.std.proofs.lemmas.List.{append-nil, map_push, take_more}
use Rattle.smv_parser.specs.declared.expressions.Arm.{Arm}
use Rattle.smv_parser.specs.declared.expressions.Expr.{Expr as Written}
use Rattle.smv_parser.specs.declared.expressions.PathPart.{PathPart, Field, Index'}
use Rattle.smv_parser.specs.declared.expressions.PrefixOperator.{PrefixOperator}
use Rattle.smv_parser.specs.Tree as tree
use Rattle.smv_parser.specs.View.{tree_of, arm_pair}
use Rattle.smv_instances.specs.Abstract as abstract
use Rattle.smv_instances.specs.Plain.{plain_expr}
use Rattle.smv_instances.specs.Program.{Expr, Path}
use Rattle.smv_names.specs.Abbreviations.{Mention, mentions, actual_mentions, element_mentions, arm_mentions, index_mentions}
use Rattle.smv_names.specs.Written.{followed, is_path}
use Rattle.smv_names.specs.Denotes.{bare}
use Rattle.smv_names.specs.declared.mentions.Mention.{Mention as Held}
use Rattle.smv_names.specs.Mentions.{plain_mention, part_mentions}
use Rattle.smv_names.proofs.WrittenLemmas.{followed_more}

-- the operators in front of an operand add no path
pub mentions-prefixed : (op : PrefixOperator) (e : Expr) → mentions (abstract.prefixed op e) ≡ mentions e
mentions-prefixed PrefixOperator.Not e = refl
mentions-prefixed PrefixOperator.ExistsNext e = refl
mentions-prefixed PrefixOperator.AllNext e = refl
mentions-prefixed PrefixOperator.ExistsFinally e = refl
mentions-prefixed PrefixOperator.AllFinally e = refl
mentions-prefixed PrefixOperator.ExistsGlobally e = refl
mentions-prefixed PrefixOperator.AllGlobally e = refl

pub elements-push : (xs : List Written) (e : Written) → element_mentions (abstract.exprs (tree.trees_of (map tree_of (xs ++ e ∷ [])))) ≡ element_mentions (abstract.exprs (tree.trees_of (map tree_of xs))) ++ mentions (plain_expr e)
elements-push [] e = append-nil (mentions (plain_expr e))
elements-push (x ∷ xs) e = ap (λ ms. mentions (plain_expr x) ++ ms) (elements-push xs e)
    ∙ sym (append_assoc (mentions (plain_expr x)) (element_mentions (abstract.exprs (tree.trees_of (map tree_of xs)))) (mentions (plain_expr e)))

pub arms-push : (xs : List Arm) (a : Arm) → arm_mentions (abstract.arms (tree.arms_of (map arm_pair (xs ++ a ∷ [])))) ≡ arm_mentions (abstract.arms (tree.arms_of (map arm_pair xs))) ++ (mentions (plain_expr a.guard) ++ mentions (plain_expr a.right))
arms-push [] a = append-nil (mentions (plain_expr a.guard) ++ mentions (plain_expr a.right))
arms-push (x ∷ xs) a = ap (λ ms. mentions (plain_expr x.guard) ++ mentions (plain_expr x.right) ++ ms) (arms-push xs a)
    ∙ sym (append_assoc (mentions (plain_expr x.guard) ++ mentions (plain_expr x.right)) (arm_mentions (abstract.arms (tree.arms_of (map arm_pair xs)))) (mentions (plain_expr a.guard) ++ mentions (plain_expr a.right)))

pub parts-push : (q : Path) (xs : List PathPart) (part : PathPart) → index_mentions (followed q (xs ++ part ∷ [])) ≡ index_mentions (followed q xs) ++ part_mentions part
parts-push q xs (Field name) = ap index_mentions (followed_more q xs (Field name) []) ∙ sym (append-nil (index_mentions (followed q xs)))
parts-push q xs (Index' kind line) = ap index_mentions (followed_more q xs (Index' kind line) [])

-- what is added in two steps
pub added_twice : {A : Type 0} (old first second mid new : List A) → mid ≡ old ++ first → new ≡ mid ++ second → new ≡ old ++ (first ++ second)
added_twice old first second mid new a b = b ∙ ap (λ z. z ++ second) a ∙ append_assoc old first second

-- ---- as the code adds them

pub path_added : (old pushed : List Held) (m : Held) (new rest : List Mention) → pushed ≡ old ++ m ∷ [] → new ≡ map plain_mention pushed ++ rest → new ≡ map plain_mention old ++ (plain_mention m ∷ rest)
path_added old pushed m new rest a b = b ∙ ap (λ z. map plain_mention z ++ rest) a ∙ ap (λ z. z ++ rest) (map_push plain_mention old m) ∙ append_assoc (map plain_mention old) (plain_mention m ∷ []) rest

pub elements_added : (old : List Mention) (xs : List Written) (k : ℕ) (e : Written) (mid new : List Mention) → k < length xs → e ≡ get_or xs k e → mid ≡ old ++ element_mentions (abstract.exprs (tree.trees_of (map tree_of (take k xs))))
    → new ≡ mid ++ mentions (plain_expr e) → new ≡ old ++ element_mentions (abstract.exprs (tree.trees_of (map tree_of (take (k + 1) xs))))
elements_added old xs k e mid new h is a b =
    added_twice old (element_mentions (abstract.exprs (tree.trees_of (map tree_of (take k xs))))) (mentions (plain_expr e)) mid new a b
    ∙ ap (λ z. old ++ z) (sym (elements-push (take k xs) e))
    ∙ ap (λ z. old ++ element_mentions (abstract.exprs (tree.trees_of (map tree_of z)))) (sym (take_more xs k e h ∙ ap (λ z. take k xs ++ z ∷ []) (sym is)))

pub arms_added : (old : List Mention) (xs : List Arm) (k : ℕ) (arm : Arm) (mid between new : List Mention) → k < length xs → arm ≡ get_or xs k arm → mid ≡ old ++ arm_mentions (abstract.arms (tree.arms_of (map arm_pair (take k xs))))
    → between ≡ mid ++ mentions (plain_expr arm.guard) → new ≡ between ++ mentions (plain_expr arm.right) → new ≡ old ++ arm_mentions (abstract.arms (tree.arms_of (map arm_pair (take (k + 1) xs))))
arms_added old xs k arm mid between new h is a b c =
    added_twice old (arm_mentions (abstract.arms (tree.arms_of (map arm_pair (take k xs))))) (mentions (plain_expr arm.guard) ++ mentions (plain_expr arm.right)) mid new a
    (added_twice mid (mentions (plain_expr arm.guard)) (mentions (plain_expr arm.right)) between new b c)
    ∙ ap (λ z. old ++ z) (sym (arms-push (take k xs) arm))
    ∙ ap (λ z. old ++ arm_mentions (abstract.arms (tree.arms_of (map arm_pair z)))) (sym (take_more xs k arm h ∙ ap (λ z. take k xs ++ z ∷ []) (sym is)))

pub parts_added : (old : List Mention) (q : Path) (xs : List PathPart) (k : ℕ) (part : PathPart) (mid new : List Mention) → k < length xs → part ≡ get_or xs k part → mid ≡ old ++ index_mentions (followed q (take k xs))
    → new ≡ mid ++ part_mentions part → new ≡ old ++ index_mentions (followed q (take (k + 1) xs))
parts_added old q xs k part mid new h is a b =
    added_twice old (index_mentions (followed q (take k xs))) (part_mentions part) mid new a b
    ∙ ap (λ z. old ++ z) (sym (parts-push q (take k xs) part))
    ∙ ap (λ z. old ++ index_mentions (followed q z)) (sym (take_more xs k part h ∙ ap (λ z. take k xs ++ z ∷ []) (sym is)))

-- ---- actual parameters

-- the paths of one without parentheses
abbrev bare_mentions : Expr → List Mention
bare_mentions (Expr.At q) = record { path = q; wanted = false } ∷ index_mentions q
bare_mentions other = mentions other

actual_bare : (e : Expr) → actual_mentions e ≡ bare_mentions (bare e)
actual_bare (Expr.At q) = refl
actual_bare (Expr.Number n) = refl
actual_bare (Expr.Truth b) = refl
actual_bare Expr.Running = refl
actual_bare (Expr.Next e) = refl
actual_bare (Expr.Parens e) = actual_bare e
actual_bare (Expr.Braces es) = refl
actual_bare (Expr.Case arms) = refl
actual_bare (Expr.Not e) = refl
actual_bare (Expr.Binary op a b) = refl
actual_bare (Expr.Quant op e) = refl
actual_bare (Expr.Until all a b) = refl

other_mentions : (e : Expr) → is_path e ≡ false → bare_mentions e ≡ mentions e
other_mentions (Expr.At q) other = absurd (let clash : true ≡ false = other in cc)
other_mentions (Expr.Number n) other = refl
other_mentions (Expr.Truth b) other = refl
other_mentions Expr.Running other = refl
other_mentions (Expr.Next e) other = refl
other_mentions (Expr.Parens e) other = refl
other_mentions (Expr.Braces es) other = refl
other_mentions (Expr.Case arms) other = refl
other_mentions (Expr.Not e) other = refl
other_mentions (Expr.Binary op a b) other = refl
other_mentions (Expr.Quant op e) other = refl
other_mentions (Expr.Until all a b) other = refl

pub actual_path : (e : Expr) (q : Path) → bare e ≡ Expr.At q → actual_mentions e ≡ record { path = q; wanted = false } ∷ index_mentions q
actual_path e q is = actual_bare e ∙ ap bare_mentions is

pub actual_other : (e b : Expr) → b ≡ bare e → is_path b ≡ false → mentions b ≡ actual_mentions e
actual_other e b is other = sym (other_mentions b other) ∙ ap bare_mentions is ∙ sym (actual_bare e)
