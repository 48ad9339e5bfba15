-- A program has one flat model at most, and is refused for one reason at most.
use Rattle.std.proofs.Common.{◌≡◌, refl, sym, ◌∙◌, ap, ℕ, List, [], ◌∷◌, ◌++◌, false, inl, inr}
use Rattle.kripke_model.specs.Refusing.{RefusalRule, refuse, ◌then◌, First}
use Rattle.kripke_model.specs.System.{System, Assignment, Condition}
use Rattle.smv_instances.specs.Program.{Expr, Kind, Program}
use Rattle.smv_instances.specs.Instances.{Scope, module_of, instances}
use Rattle.smv_instances.specs.Entries.{Entity, Entry, entries}
use Rattle.smv_instantiate.specs.Flattens.{Item, Placed, IsAssignment, IsCondition, Flattens, assignments, items_of}
use Rattle.std.specs.List.{AllZip}
use Rattle.smv_instances.specs.Declarations.{nothing, entries_of, declaration_rows, refused_declarations}
use Rattle.smv_instantiate.specs.Refuses.{Refuses, size_rows, count_rows, item_rows}
use Rattle.smv_names.specs.Abbreviations.{Mention, mentions, index_mentions, path_rows, definition_rows}
use Rattle.smv_names.proofs.Once.{expands_one, selects_one}

-- ---- refusals

abbrev GivesOne : {R : Type 0} → RefusalRule R → Type 0
GivesOne {R} rule = (r q : R) → rule r → rule q → r ≡ q

one_refusal : {R : Type 0} (x : R) (C : Type 0) → GivesOne (refuse x C)
one_refusal x C r q h k = h.0 ∙ sym k.0

one_of_two : {R : Type 0} {a b : RefusalRule R} → GivesOne a → GivesOne b → GivesOne (a then b)
one_of_two one_a one_b r q (inl h) (inl k) = one_a r q h k
one_of_two one_a one_b r q (inl h) (inr k) = absurd (k.0 r h)
one_of_two one_a one_b r q (inr h) (inl k) = absurd (h.0 q k)
one_of_two one_a one_b r q (inr h) (inr k) = one_b r q h.1 k.1

one_first : {R A : Type 0} {rule : List A → A → RefusalRule R} → ((before : List A) (x : A) → GivesOne (rule before x)) → (before xs : List A) → GivesOne (First rule before xs)
one_first one before [] r q h k = absurd h
one_first one before (x ∷ xs) r q (inl h) (inl k) = one before x r q h k
one_first one before (x ∷ xs) r q (inl h) (inr k) = absurd (k.0 r h)
one_first one before (x ∷ xs) r q (inr h) (inl k) = absurd (h.0 q k)
one_first one before (x ∷ xs) r q (inr h) (inr k) = one_first one (before ++ (x ∷ [])) xs r q h.1 k.1

one_nothing : GivesOne nothing
one_nothing r q h k = absurd h

one_of_rows : (p : Program) (upto : List Entry) (s : Scope) (line : ℕ) (e : Entity) → GivesOne (declaration_rows p upto s line e)
one_of_rows p upto s line (Entity.Stored type) = one_of_two (one_refusal _ _) (one_of_two (one_refusal _ _) (one_refusal _ _))
one_of_rows p upto s line (Entity.Instance process module_name actuals) =
    one_of_two (one_refusal _ _) (one_of_two (one_refusal _ _) (one_of_two (one_refusal _ _) (one_of_two (one_refusal _ _) (one_of_two (one_refusal _ _) (one_refusal _ _)))))
one_of_rows p upto s line Entity.Parameter = one_nothing
one_of_rows p upto s line (Entity.Defined body) = one_nothing

one_of_paths : (p : Program) (s : Scope) (ms : List Mention) → GivesOne (path_rows p s ms)
one_of_paths p s ms = one_of_two (one_first (λ before m. one_refusal _ _) [] ms) (one_first (λ before m. one_refusal _ _) [] ms)

one_of_definition : (p : Program) (s : Scope) (e : Entry) (entity : Entity) → GivesOne (definition_rows p s e entity)
one_of_definition p s e (Entity.Defined body) = one_of_two (one_refusal _ _) (one_of_paths p s _)
one_of_definition p s e (Entity.Instance process module_name actuals) = one_of_two (one_refusal _ _) (one_of_paths p s _)
one_of_definition p s e Entity.Parameter = one_nothing
one_of_definition p s e (Entity.Stored type) = one_nothing

one_of_counts : (upto : List Placed) (line : ℕ) (e : Expr) (k : Kind) → GivesOne (count_rows upto (record { kind = k; expr = e; line = line }))
one_of_counts upto line e Kind.Spec = one_refusal _ _
one_of_counts upto line e Kind.Fairness = one_refusal _ _
one_of_counts upto line e Kind.Init = one_nothing
one_of_counts upto line e Kind.Invar = one_nothing
one_of_counts upto line e Kind.Trans = one_nothing

one_of_sizes : (p : Program) (upto : List Placed) (i : Placed) → GivesOne (size_rows p upto i)
one_of_sizes p upto i = one_of_two (one_refusal _ _) (one_refusal _ _)

one_of_item : (p : Program) (upto : List Placed) (s : Scope) (i : Item) → GivesOne (item_rows p upto s i)
one_of_item p upto s (Item.Assigns a) = one_of_two (one_of_paths p s ((record { path = a.left; wanted = false } ∷ index_mentions a.left) ++ mentions a.right)) (one_of_two (one_refusal _ _) (one_of_sizes p upto (s, Item.Assigns a)))
one_of_item p upto s (Item.States c) = one_of_two (one_of_paths p s _) (one_of_two (one_of_counts upto c.line c.expr c.kind) (one_of_sizes p upto (s, Item.States c)))

one_of_declarations : (p : Program) → GivesOne (refused_declarations p)
one_of_declarations p = one_of_two (one_first (λ before m. one_refusal _ _) [] p)
    (one_of_two (one_refusal _ _)
    (one_of_two
    (one_first (λ before s. one_first (λ earlier e. one_of_two (one_refusal _ _) (one_of_rows p (entries_of before ++ earlier ++ (e ∷ [])) s e.line e.entity)) [] (entries (module_of s))) [] (instances p))
    (one_first (λ before e. one_refusal _ _) [] _)))

pub refuses_one : (p : Program) → GivesOne (Refuses p)
refuses_one p = one_of_two (one_of_declarations p)
    (one_of_two (one_first (λ before e. one_of_definition p e.0 e.1 e.1.entity) [] _)
    (one_first (λ before i. one_of_item p (before ++ (i ∷ [])) i.0 i.1) [] _))

-- ---- flat models

pub matches_one : {A B : Type 0} {R : A → B → Type 0} → ((x : A) (y z : B) → R x y → R x z → y ≡ z) → (xs : List A) (ys zs : List B) → AllZip R xs ys → AllZip R xs zs → ys ≡ zs
matches_one one [] [] [] h k = refl
matches_one one [] [] (z ∷ zs) h k = absurd k
matches_one one [] (y ∷ ys) zs h k = absurd h
matches_one one (x ∷ xs) [] zs h k = absurd h
matches_one one (x ∷ xs) (y ∷ ys) [] h k = absurd k
matches_one one (x ∷ xs) (y ∷ ys) (z ∷ zs) h k = ap (λ u. u ∷ ys) (one x y z h.0 k.0) ∙ ap (λ us. z ∷ us) (matches_one one xs ys zs h.1 k.1)

condition_one : (p : Program) (x : Placed) (y z : Condition) → IsCondition p x y → IsCondition p x z → y ≡ z
condition_one p (s, Item.States c) y z h k = same_condition y z (expands_one h.0 k.0) (h.1 ∙ sym k.1)
  where
    same_condition : (y z : Condition) → y.expr ≡ z.expr → y.line ≡ z.line → y ≡ z
    same_condition y z e l = ap (λ t. record y { expr = t }) e ∙ ap (λ n. record z { line = n }) l
condition_one p (s, Item.Assigns a) y z h k = absurd h

assignment_one : (p : Program) (x : Placed) (y z : Assignment) → IsAssignment p x y → IsAssignment p x z → y ≡ z
assignment_one p (s, Item.Assigns a) y z h k = same_assignment (h.0 ∙ sym k.0) (selects_one h.1 k.1) (h.2 ∙ sym k.2) (expands_one h.3 k.3) (h.4 ∙ sym k.4)
  where
    same_assignment : y.part ≡ z.part → y.var ≡ z.var → y.process ≡ z.process → y.right ≡ z.right → y.line ≡ z.line → y ≡ z
    same_assignment e1 e2 e3 e4 e5 = ap (λ w. record y { part = w }) e1
        ∙ ap (λ w. record { part = z.part; var = w; process = y.process; right = y.right; line = y.line }) e2
        ∙ ap (λ w. record { part = z.part; var = z.var; process = w; right = y.right; line = y.line }) e3
        ∙ ap (λ w. record { part = z.part; var = z.var; process = z.process; right = w; line = y.line }) e4
        ∙ ap (λ w. record z { line = w }) e5
assignment_one p (s, Item.States c) y z h k = absurd h

conditions_one : (p : Program) (xs : List Placed) (ys zs : List Condition) → AllZip (IsCondition p) xs ys → AllZip (IsCondition p) xs zs → ys ≡ zs
conditions_one p xs ys zs h k = matches_one (condition_one p) xs ys zs h k

pub flattens_one : (p : Program) (m n : System) → Flattens p m → Flattens p n → m ≡ n
flattens_one p m n f g =
    ap (λ w. record m { symbols = w }) (f.symbols ∙ sym g.symbols)
    ∙ ap (λ w. record { symbols = n.symbols; vars = w; selector = m.selector; processes = m.processes; assigns = m.assigns; inits = m.inits; invars = m.invars; trans = m.trans; constraints = m.constraints; specs = m.specs }) (f.vars ∙ sym g.vars)
    ∙ ap (λ w. record { symbols = n.symbols; vars = n.vars; selector = w; processes = m.processes; assigns = m.assigns; inits = m.inits; invars = m.invars; trans = m.trans; constraints = m.constraints; specs = m.specs }) (f.selector ∙ sym g.selector)
    ∙ ap (λ w. record { symbols = n.symbols; vars = n.vars; selector = n.selector; processes = w; assigns = m.assigns; inits = m.inits; invars = m.invars; trans = m.trans; constraints = m.constraints; specs = m.specs }) (f.processes ∙ sym g.processes)
    ∙ ap (λ w. record { symbols = n.symbols; vars = n.vars; selector = n.selector; processes = n.processes; assigns = w; inits = m.inits; invars = m.invars; trans = m.trans; constraints = m.constraints; specs = m.specs })
    (matches_one (assignment_one p) (assignments p) m.assigns n.assigns f.assigns g.assigns)
    ∙ ap (λ w. record { symbols = n.symbols; vars = n.vars; selector = n.selector; processes = n.processes; assigns = n.assigns; inits = w; invars = m.invars; trans = m.trans; constraints = m.constraints; specs = m.specs })
    (conditions_one p (items_of Kind.Init p) m.inits n.inits f.inits g.inits)
    ∙ ap (λ w. record { symbols = n.symbols; vars = n.vars; selector = n.selector; processes = n.processes; assigns = n.assigns; inits = n.inits; invars = w; trans = m.trans; constraints = m.constraints; specs = m.specs })
    (conditions_one p (items_of Kind.Invar p) m.invars n.invars f.invars g.invars)
    ∙ ap (λ w. record { symbols = n.symbols; vars = n.vars; selector = n.selector; processes = n.processes; assigns = n.assigns; inits = n.inits; invars = n.invars; trans = w; constraints = m.constraints; specs = m.specs })
    (conditions_one p (items_of Kind.Trans p) m.trans n.trans f.trans g.trans)
    ∙ ap (λ w. record { symbols = n.symbols; vars = n.vars; selector = n.selector; processes = n.processes; assigns = n.assigns; inits = n.inits; invars = n.invars; trans = n.trans; constraints = w; specs = m.specs })
    (conditions_one p (items_of Kind.Fairness p) m.constraints n.constraints f.constraints g.constraints)
    ∙ ap (λ w. record n { specs = w }) (conditions_one p (items_of Kind.Spec p) m.specs n.specs f.specs g.specs)
