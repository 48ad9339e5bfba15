-- What is known of an expression's paths is known of those of its parts.
use Rattle.std.proofs.Common.{◌≡◌, refl, sym, ◌∙◌, ap, subst, ℕ, List, [], ◌∷◌, ◌++◌, get_or, true, Some, None, Option, Any, ℤ}
use Rattle.smv_parser.specs.declared.expressions.Expr.{Expr as Written}
use Rattle.smv_instances.specs.Plain.{plain_expr}
use Rattle.smv_instances.specs.Program.{Expr, Path, Program}
use Rattle.smv_instances.specs.Instances.{Scope}
use Rattle.smv_names.specs.declared.sizes.Size.{Size}
use Rattle.smv_names.specs.Denotes.{Target}
use Rattle.smv_names.specs.Abbreviations.{Mention, mentions, index_mentions, Abbreviation, text_of, fronts, Names}
use Rattle.smv_names.specs.Nodes.{abbreviation_at}
use Rattle.smv_names.specs.Values.{IsNumber, IsNumberOf, IsSizeOf, IsSizeOfText}
use Rattle.smv_names.specs.Naming.{InFronts, NamedIn}
use Rattle.smv_names.specs.Known.{AreNumbersIn, leaf, AreSizesIn}
use Rattle.smv_names.proofs.Once.{denotes_one}
use Rattle.smv_names.proofs.AnyLemmas.{any_here, any_left, any_right}
use Rattle.smv_names.proofs.NumberLemmas.{named_is_number, leaf_is_number}
use Rattle.smv_names.proofs.SizeLemmas.{named_size, leaf_size}

-- ---- parts of a list of paths

pub named_left : (p : Program) (s : Scope) (a : Abbreviation) (ms ns : List Mention) → NamedIn p s ms a → NamedIn p s (ms ++ ns) a
named_left p s a ms ns h = any_left (InFronts p s a) ms ns h

pub named_right : (p : Program) (s : Scope) (a : Abbreviation) (ms ns : List Mention) → NamedIn p s ns a → NamedIn p s (ms ++ ns) a
named_right p s a ms ns h = any_right (InFronts p s a) ms ns h

pub numbers_left : (p : Program) (numbers : List (Option ℤ)) (s : Scope) (ms ns : List Mention) → AreNumbersIn p numbers s (ms ++ ns) → AreNumbersIn p numbers s ms
numbers_left p numbers s ms ns known v a at named = known v a at (named_left p s a ms ns named)

pub numbers_right : (p : Program) (numbers : List (Option ℤ)) (s : Scope) (ms ns : List Mention) → AreNumbersIn p numbers s (ms ++ ns) → AreNumbersIn p numbers s ns
numbers_right p numbers s ms ns known v a at named = known v a at (named_right p s a ms ns named)

pub sizes_left : (p : Program) (sizes : List Size) (s : Scope) (ms ns : List Mention) → AreSizesIn p sizes s (ms ++ ns) → AreSizesIn p sizes s ms
sizes_left p sizes s ms ns known v a at named = known v a at (named_left p s a ms ns named)

pub sizes_right : (p : Program) (sizes : List Size) (s : Scope) (ms ns : List Mention) → AreSizesIn p sizes s (ms ++ ns) → AreSizesIn p sizes s ns
sizes_right p sizes s ms ns known v a at named = known v a at (named_right p s a ms ns named)

-- ---- a path that names an abbreviation

first_named : (p : Program) (s : Scope) (q : Path) (rest : List Path) (a : Abbreviation) → fronts q ≡ q ∷ rest → Names p s q a → NamedIn p s (mentions (Expr.At q)) a
first_named p s q rest a is n = any_here (InFronts p s a) (record { path = q; wanted = true }) (index_mentions q) (subst (λ z. Any (λ r. Names p s r a) z) (sym is) (any_here (λ r. Names p s r a) q rest n))

pub named_itself : (p : Program) (s : Scope) (a : Abbreviation) (q : Path) → Names p s q a → NamedIn p s (mentions (Expr.At q)) a
named_itself p s a (Path.Here line x) n = first_named p s (Path.Here line x) [] a refl n
named_itself p s a (Path.Field q x) n = first_named p s (Path.Field q x) (fronts q) a refl n
named_itself p s a (Path.Index q e) n = absurd n

abbrev instance_or : Scope → Target → Scope
instance_or s (Target.Instance i) = i
instance_or s other = s

same_abbreviation : {a b : Abbreviation} → a.scope ≡ b.scope → a.name ≡ b.name → a ≡ b
same_abbreviation {a} {b} e f = ap (λ z. record { scope = z; name = a.name }) e ∙ ap (λ z. record { scope = b.scope; name = z }) f

pub names_one : (p : Program) (s : Scope) (a b : Abbreviation) (q : Path) → Names p s q a → Names p s q b → a ≡ b
names_one p s a b (Path.Here line x) n m = same_abbreviation (n.0 ∙ sym m.0) (n.1 ∙ sym m.1)
names_one p s a b (Path.Field q x) n m = same_abbreviation (ap (instance_or a.scope) (denotes_one n.0 m.0)) (n.1 ∙ sym m.1)
names_one p s a b (Path.Index q e) n m = absurd n

path_number_of : (p : Program) (s : Scope) (q : Path) (a : Abbreviation) (found : Option ℤ) → Names p s q a → (o : Option (Scope × Expr)) → text_of a ≡ o → IsNumberOf p o found → IsNumber p s (Expr.At q) found
path_number_of p s q a found n (Some r) is x = named_is_number p s q a found n is x
path_number_of p s q a found n None is none =
    subst (λ z. IsNumber p s (Expr.At q) z) (sym none) (leaf_is_number p s q (λ b m. ap text_of (names_one p s b a q m n) ∙ is))

pub path_is_number : (p : Program) (s : Scope) (q : Path) (a : Abbreviation) (v : ℕ) (numbers : List (Option ℤ)) → Names p s q a → abbreviation_at p v ≡ Some a → AreNumbersIn p numbers s (mentions (Expr.At q)) → IsNumber p s (Expr.At q) (get_or numbers v None)
path_is_number p s q a v numbers n at known = path_number_of p s q a (get_or numbers v None) n (text_of a) refl (known v a at (named_itself p s a q n))

path_size_of : (p : Program) (s : Scope) (q : Path) (a : Abbreviation) (size : Size) → Names p s q a → (o : Option (Scope × Expr)) → text_of a ≡ o → IsSizeOfText p o size → IsSizeOf p s (Expr.At q) size
path_size_of p s q a size n (Some r) is x = named_size p s q a n is x
path_size_of p s q a size n None is z = leaf_size p s q (λ b m. ap text_of (names_one p s b a q m n) ∙ is) z

pub path_is_size : (p : Program) (s : Scope) (q : Path) (a : Abbreviation) (v : ℕ) (sizes : List Size) → Names p s q a → abbreviation_at p v ≡ Some a → AreSizesIn p sizes s (mentions (Expr.At q)) → IsSizeOf p s (Expr.At q) (get_or sizes v leaf)
path_is_size p s q a v sizes n at known = path_size_of p s q a (get_or sizes v leaf) n (text_of a) refl (known v a at (named_itself p s a q n))

-- ---- an operand that lies in memory

pub operand_number : (p : Program) (numbers : List (Option ℤ)) (s : Scope) (w v : Written) (found o : Option ℤ) → w ≡ v → found ≡ o → AreNumbersIn p numbers s (mentions (plain_expr v))
    → (AreNumbersIn p numbers s (mentions (plain_expr w)) → IsNumber p s (plain_expr w) found) → IsNumber p s (plain_expr v) o
operand_number p numbers s w v found o same is known number =
    subst (λ z. IsNumber p s (plain_expr v) z) is (subst (λ z. IsNumber p s (plain_expr z) found) same (number (subst (λ z. AreNumbersIn p numbers s (mentions (plain_expr z))) (sym same) known)))
