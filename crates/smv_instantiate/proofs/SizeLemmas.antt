-- The nodes and the nesting of a flat model, by the items in instantiation order.
use Rattle.std.proofs.Common.{◌≡◌, refl, sym, ◌∙◌, ap, subst, ℕ, suc, ◌<◌, ◌≤◌, ◌+◌, arith, List, [], ◌∷◌, ◌++◌, length, Bool, true, false, cond, inl, inr}
use Rattle.std.specs.Prelude.{map, filter, sum_by}
use Rattle.std.proofs.lemmas.Bool.{cases_lt}
use Rattle.kripke_model.specs.Refusing.{Silent}
use Rattle.kripke_model.specs.Term.{Term}
use Rattle.kripke_model.specs.Size.{term_nodes, nesting}
use Rattle.kripke_model.specs.System.{System, Assignment, Condition}
use Rattle.kripke_model.specs.Flat.{expressions}
use Rattle.kripke_model.specs.declared.refusals.FlatRefusal.{FlatRefusal}
use Rattle.kripke_model.specs.declared.refusals.Which.{Which}
use Rattle.smv_instances.specs.Program.{Expr, Kind, Assigned, Program}
use Rattle.smv_instances.specs.Instances.{Scope}
use Rattle.smv_instances.specs.Declarations.{one_if}
use Rattle.smv_names.specs.Expands.{Expands}
use Rattle.smv_instantiate.specs.Flattens.{Item, Placed, all_items, is_assignment, is_of, IsAssignment, IsCondition, Flattens}
use Rattle.std.specs.List.{AllZip}
use Rattle.smv_instantiate.specs.Refuses.{expression, item_line, count_of, AreTerms, size_rows, item}
use Rattle.smv_instantiate.proofs.Members.{Each, In}
use Rattle.smv_instantiate.proofs.Silence.{silent_first, silent_second, EachAfter, after_all}
use Rattle.smv_instantiate.proofs.CountLemmas.{total, sum_is_total, total-append, total-map}

-- ---- matched lists

-- what is tied to a member has the property
pub matched : {A B : Type 0} (R : A → B → Type 0) (Q : B → Type 0) (xs : List A) (ys : List B) → AllZip R xs ys → ((x : A) (y : B) → In x xs → R x y → Q y) → Each Q ys
matched R Q [] [] m f = tt
matched R Q [] (y ∷ ys) m f = absurd m
matched R Q (x ∷ xs) [] m f = absurd m
matched R Q (x ∷ xs) (y ∷ ys) m f = (f x y In.first m.0, matched R Q xs ys m.1 (λ z w i r. f z w (In.later i) r))

pub matched_length : {A B : Type 0} (R : A → B → Type 0) (xs : List A) (ys : List B) → AllZip R xs ys → length ys ≡ length xs
matched_length R [] [] m = refl
matched_length R [] (y ∷ ys) m = absurd m
matched_length R (x ∷ xs) [] m = absurd m
matched_length R (x ∷ xs) (y ∷ ys) m = ap suc (matched_length R xs ys m.1)

pub matched_append : {A B : Type 0} (R : A → B → Type 0) (xs us : List A) (ys vs : List B) → AllZip R xs ys → AllZip R us vs → AllZip R (xs ++ us) (ys ++ vs)
matched_append R [] us [] vs m n = n
matched_append R [] us (y ∷ ys) vs m n = absurd m
matched_append R (x ∷ xs) us [] vs m n = absurd m
matched_append R (x ∷ xs) us (y ∷ ys) vs m n = (m.0, matched_append R xs us ys vs m.1 n)

-- ---- the parts of the items, and the terms of all of them

abbrev right_nodes : Assignment → ℕ
right_nodes a = term_nodes a.right

abbrev condition_nodes : Condition → ℕ
condition_nodes c = term_nodes c.expr

record HasTerms (p : Program) (items : List Placed) (count : ℕ) : Type 0 where
  terms : List Term
  are : AreTerms p items terms
  nodes : total term_nodes terms ≡ count

add_term : (p : Program) (i : Placed) (items : List Placed) (t : Term) (rest count : ℕ) → Expands p i.0 (expression i.1) t → HasTerms p items rest → count ≡ term_nodes t + rest → HasTerms p (i ∷ items) count
add_term p i items t rest count x h e = record { terms = t ∷ h.terms; are = (x, h.are); nodes = ap (λ n. term_nodes t + n) h.nodes ∙ sym e }

-- the terms of the items, from what the flat model has of each kind
abbrev TermsOf : Program → List Placed → Type 0
TermsOf p items = (bs : List Assignment) (is vs ts fs ss : List Condition)
    → AllZip (IsAssignment p) (filter (λ i. is_assignment i.1) items) bs
    → AllZip (IsCondition p) (filter (λ i. is_of Kind.Init i.1) items) is
    → AllZip (IsCondition p) (filter (λ i. is_of Kind.Invar i.1) items) vs
    → AllZip (IsCondition p) (filter (λ i. is_of Kind.Trans i.1) items) ts
    → AllZip (IsCondition p) (filter (λ i. is_of Kind.Fairness i.1) items) fs
    → AllZip (IsCondition p) (filter (λ i. is_of Kind.Spec i.1) items) ss
    → HasTerms p items (total right_nodes bs + (total condition_nodes is + (total condition_nodes vs + (total condition_nodes ts + (total condition_nodes fs + (total condition_nodes ss))))))

terms_of_none : (p : Program) → TermsOf p []
terms_of_none p [] [] [] [] [] [] a i v t f s = record { terms = []; are = tt; nodes = refl }
terms_of_none p (x ∷ xs) is vs ts fs ss a i v t f s = absurd a
terms_of_none p [] (x ∷ xs) vs ts fs ss a i v t f s = absurd i
terms_of_none p [] [] (x ∷ xs) ts fs ss a i v t f s = absurd v
terms_of_none p [] [] [] (x ∷ xs) fs ss a i v t f s = absurd t
terms_of_none p [] [] [] [] (x ∷ xs) ss a i v t f s = absurd f
terms_of_none p [] [] [] [] [] (x ∷ xs) a i v t f s = absurd s

terms_with_assignment : (p : Program) (home : Scope) (b : Assigned) (items : List Placed) → TermsOf p items → TermsOf p ((home, Item.Assigns b) ∷ items)
terms_with_assignment p home b items rest [] is vs ts fs ss a i v t f s = absurd a
terms_with_assignment p home b items rest (x ∷ xs) is vs ts fs ss a i v t f s =
    add_term p (home, Item.Assigns b) items x.right _ _ a.0.3 (rest xs is vs ts fs ss a.1 i v t f s) (omega arith)

abbrev stated : Kind → Expr → ℕ → Item
stated k e l = Item.States (record { kind = k; expr = e; line = l })

terms_with_state : (p : Program) (home : Scope) (k : Kind) (e : Expr) (l : ℕ) (items : List Placed) → TermsOf p items → TermsOf p ((home, stated k e l) ∷ items)
terms_with_state p home Kind.Init e l items rest bs [] vs ts fs ss a i v t f s = absurd i
terms_with_state p home Kind.Init e l items rest bs (x ∷ xs) vs ts fs ss a i v t f s = add_term p (home, stated Kind.Init e l) items x.expr _ _ i.0.0 (rest bs xs vs ts fs ss a i.1 v t f s) (omega arith)
terms_with_state p home Kind.Invar e l items rest bs is [] ts fs ss a i v t f s = absurd v
terms_with_state p home Kind.Invar e l items rest bs is (x ∷ xs) ts fs ss a i v t f s = add_term p (home, stated Kind.Invar e l) items x.expr _ _ v.0.0 (rest bs is xs ts fs ss a i v.1 t f s) (omega arith)
terms_with_state p home Kind.Trans e l items rest bs is vs [] fs ss a i v t f s = absurd t
terms_with_state p home Kind.Trans e l items rest bs is vs (x ∷ xs) fs ss a i v t f s = add_term p (home, stated Kind.Trans e l) items x.expr _ _ t.0.0 (rest bs is vs xs fs ss a i v t.1 f s) (omega arith)
terms_with_state p home Kind.Fairness e l items rest bs is vs ts [] ss a i v t f s = absurd f
terms_with_state p home Kind.Fairness e l items rest bs is vs ts (x ∷ xs) ss a i v t f s = add_term p (home, stated Kind.Fairness e l) items x.expr _ _ f.0.0 (rest bs is vs ts xs ss a i v t f.1 s) (omega arith)
terms_with_state p home Kind.Spec e l items rest bs is vs ts fs [] a i v t f s = absurd s
terms_with_state p home Kind.Spec e l items rest bs is vs ts fs (x ∷ xs) a i v t f s = add_term p (home, stated Kind.Spec e l) items x.expr _ _ s.0.0 (rest bs is vs ts fs xs a i v t f s.1) (omega arith)

terms_of : (p : Program) (items : List Placed) → TermsOf p items
terms_of p [] = terms_of_none p
terms_of p ((home, Item.Assigns b) ∷ items) = terms_with_assignment p home b items (terms_of p items)
terms_of p ((home, Item.States c) ∷ items) = terms_with_state p home c.kind c.expr c.line items (terms_of p items)

-- ---- silence about the sizes of the items

not_above : (n most : ℕ) → (most < n → ⊥) → n ≤ most
not_above n most h = elim (cases_lt most n) [ inl more ↦ absurd (h more) | inr within ↦ within ]

silent_sizes : (p : Program) (b : List Placed) (i : Placed) → Silent (item p b i) → Silent (size_rows p (b ++ (i ∷ [])) i)
silent_sizes p b (s, Item.Assigns a) h = silent_second (silent_second h)
silent_sizes p b (s, Item.States c) h = silent_second (silent_second h)

-- the terms of the items, and of one more, are few
nodes_kept : (p : Program) (b : List Placed) (i : Placed) → Silent (item p b i) → (ts : List Term) → AreTerms p (b ++ (i ∷ [])) ts → sum_by term_nodes ts ≤ 200000
nodes_kept p b i h ts are = not_above _ _ (λ more. silent_first (silent_sizes p b i h) (FlatRefusal.Limit (item_line i.1) Which.Nodes 200001) (refl, (ts, are, more)))

FewNodes : Program → List Placed → Type 0
FewNodes p items = (ts : List Term) → AreTerms p items ts → sum_by term_nodes ts ≤ 200000

no_terms : (p : Program) → FewNodes p []
unfolding FewNodes
no_terms p [] are = omega arith
no_terms p (t ∷ ts) are = absurd are

few_nodes : (p : Program) → EachAfter (λ b i. Silent (item p b i)) [] (all_items p) → (ts : List Term) → AreTerms p (all_items p) ts → sum_by term_nodes ts ≤ 200000
unfolding FewNodes
few_nodes p e = after_all (λ b i. Silent (item p b i)) (FewNodes p) (λ b i h few. nodes_kept p b i h) [] (all_items p) e (no_terms p)

pub node_limit : (p : Program) (m : System) → EachAfter (λ b i. Silent (item p b i)) [] (all_items p) → Flattens p m → sum_by term_nodes (expressions m) ≤ 200000
node_limit p m e flat =
    let h = terms_of p (all_items p) m.assigns m.inits m.invars m.trans m.constraints m.specs flat.assigns flat.inits flat.invars flat.trans flat.constraints flat.specs in
    let few : sum_by term_nodes h.terms ≤ 200000 = few_nodes p e h.terms h.are in
    let sums : sum_by term_nodes h.terms ≡ total right_nodes m.assigns + (total condition_nodes m.inits + (total condition_nodes m.invars + (total condition_nodes m.trans + (total condition_nodes m.constraints + total condition_nodes m.specs)))) = sum_is_total term_nodes h.terms ∙ h.nodes in
    let all : sum_by term_nodes (expressions m) ≡ total right_nodes m.assigns + (total condition_nodes m.inits + (total condition_nodes m.invars + (total condition_nodes m.trans + (total condition_nodes m.constraints + total condition_nodes m.specs)))) = by m in
    omega (arith, few, sums, all)
  where
    by : (n : System) → sum_by term_nodes (expressions n) ≡ total right_nodes n.assigns + (total condition_nodes n.inits + (total condition_nodes n.invars + (total condition_nodes n.trans + (total condition_nodes n.constraints + total condition_nodes n.specs))))
    by n =
        let a : total term_nodes (expressions n) ≡ total term_nodes (map (λ a. a.right) n.assigns) + total term_nodes (map (λ c. c.expr) (n.inits ++ n.invars ++ n.trans ++ n.constraints ++ n.specs)) = total-append term_nodes (map (λ a. a.right) n.assigns) _ in
        let b : total term_nodes (map (λ a. a.right) n.assigns) ≡ total right_nodes n.assigns = total-map term_nodes (λ a. a.right) n.assigns in
        let c : total term_nodes (map (λ c. c.expr) (n.inits ++ n.invars ++ n.trans ++ n.constraints ++ n.specs)) ≡ total condition_nodes (n.inits ++ n.invars ++ n.trans ++ n.constraints ++ n.specs) = total-map term_nodes (λ c. c.expr) (n.inits ++ n.invars ++ n.trans ++ n.constraints ++ n.specs) in
        let d : total condition_nodes (n.inits ++ n.invars ++ n.trans ++ n.constraints ++ n.specs) ≡ total condition_nodes (n.inits ++ n.invars ++ n.trans ++ n.constraints) + total condition_nodes n.specs = total-append condition_nodes (n.inits ++ n.invars ++ n.trans ++ n.constraints) n.specs in
        let f : total condition_nodes (n.inits ++ n.invars ++ n.trans ++ n.constraints) ≡ total condition_nodes (n.inits ++ n.invars ++ n.trans) + total condition_nodes n.constraints = total-append condition_nodes (n.inits ++ n.invars ++ n.trans) n.constraints in
        let g : total condition_nodes (n.inits ++ n.invars ++ n.trans) ≡ total condition_nodes (n.inits ++ n.invars) + total condition_nodes n.trans = total-append condition_nodes (n.inits ++ n.invars) n.trans in
        let h : total condition_nodes (n.inits ++ n.invars) ≡ total condition_nodes n.inits + total condition_nodes n.invars = total-append condition_nodes n.inits n.invars in
        let z : sum_by term_nodes (expressions n) ≡ total term_nodes (expressions n) = sum_is_total term_nodes (expressions n) in
        omega (arith, a, b, c, d, f, g, h, z)

-- ---- nesting

pub nesting_kept : (p : Program) (b : List Placed) (i : Placed) (t : Term) → Silent (item p b i) → Expands p i.0 (expression i.1) t → nesting t ≤ 1024
nesting_kept p b i t h x = not_above _ _ (λ more. silent_second (silent_sizes p b i h) (FlatRefusal.Limit (item_line i.1) Which.Nesting 1025) (refl, (t, x, more)))

-- ---- specifications and constraints

total_is_length : (k : Kind) (items : List Placed) → total (λ i. one_if (is_of k i.1)) items ≡ length (filter (λ i. is_of k i.1) items)
total_is_length k [] = refl
total_is_length k (i ∷ items) = by (is_of k i.1) (total_is_length k items)
  where
    by : (b : Bool) → total (λ j. one_if (is_of k j.1)) items ≡ length (filter (λ j. is_of k j.1) items) → one_if b + total (λ j. one_if (is_of k j.1)) items ≡ length (cond b (i ∷ filter (λ j. is_of k j.1) items) (filter (λ j. is_of k j.1) items))
    by true e = omega (arith, e)
    by false e = omega (arith, e)

pub counted : (k : Kind) (items : List Placed) → count_of k items ≡ length (filter (λ i. is_of k i.1) items)
counted k items = sum_is_total (λ (i : Placed). one_if (is_of k i.1)) items ∙ total_is_length k items

not_counted : (k : Kind) (b : List Placed) (i : Placed) → is_of k i.1 ≡ false → count_of k (b ++ (i ∷ [])) ≡ count_of k b
not_counted k b i e =
    let s : total (λ (j : Placed). one_if (is_of k j.1)) (b ++ (i ∷ [])) ≡ total (λ (j : Placed). one_if (is_of k j.1)) b + (one_if (is_of k i.1) + 0) = total-append (λ (j : Placed). one_if (is_of k j.1)) b (i ∷ []) in
    let z : one_if (is_of k i.1) ≡ 0 = ap one_if e in
    let x : count_of k (b ++ (i ∷ [])) ≡ total (λ (j : Placed). one_if (is_of k j.1)) (b ++ (i ∷ [])) = sum_is_total (λ (j : Placed). one_if (is_of k j.1)) (b ++ (i ∷ [])) in
    let y : count_of k b ≡ total (λ (j : Placed). one_if (is_of k j.1)) b = sum_is_total (λ (j : Placed). one_if (is_of k j.1)) b in
    omega (arith, s, z, x, y)

spec_kept : (p : Program) (b : List Placed) (s : Scope) (k : Kind) (e : Expr) (l : ℕ) → Silent (item p b (s, stated k e l)) → count_of Kind.Spec b ≤ 256 → count_of Kind.Spec (b ++ ((s, stated k e l) ∷ [])) ≤ 256
spec_kept p b s Kind.Init e l h few = subst (λ n. n ≤ 256) (sym (not_counted Kind.Spec b (s, stated Kind.Init e l) refl)) few
spec_kept p b s Kind.Invar e l h few = subst (λ n. n ≤ 256) (sym (not_counted Kind.Spec b (s, stated Kind.Invar e l) refl)) few
spec_kept p b s Kind.Trans e l h few = subst (λ n. n ≤ 256) (sym (not_counted Kind.Spec b (s, stated Kind.Trans e l) refl)) few
spec_kept p b s Kind.Fairness e l h few = subst (λ n. n ≤ 256) (sym (not_counted Kind.Spec b (s, stated Kind.Fairness e l) refl)) few
spec_kept p b s Kind.Spec e l h few = not_above _ _ (λ more. silent_first (silent_second h) (FlatRefusal.Limit l Which.Specifications 257) (refl, more))

pub specs_kept : (p : Program) (b : List Placed) (i : Placed) → Silent (item p b i) → count_of Kind.Spec b ≤ 256 → count_of Kind.Spec (b ++ (i ∷ [])) ≤ 256
specs_kept p b (s, Item.Assigns a) h few = subst (λ n. n ≤ 256) (sym (not_counted Kind.Spec b (s, Item.Assigns a) refl)) few
specs_kept p b (s, Item.States c) h few = spec_kept p b s c.kind c.expr c.line h few

constraint_kept : (p : Program) (b : List Placed) (s : Scope) (k : Kind) (e : Expr) (l : ℕ) → Silent (item p b (s, stated k e l)) → count_of Kind.Fairness b ≤ 64 → count_of Kind.Fairness (b ++ ((s, stated k e l) ∷ [])) ≤ 64
constraint_kept p b s Kind.Init e l h few = subst (λ n. n ≤ 64) (sym (not_counted Kind.Fairness b (s, stated Kind.Init e l) refl)) few
constraint_kept p b s Kind.Invar e l h few = subst (λ n. n ≤ 64) (sym (not_counted Kind.Fairness b (s, stated Kind.Invar e l) refl)) few
constraint_kept p b s Kind.Trans e l h few = subst (λ n. n ≤ 64) (sym (not_counted Kind.Fairness b (s, stated Kind.Trans e l) refl)) few
constraint_kept p b s Kind.Spec e l h few = subst (λ n. n ≤ 64) (sym (not_counted Kind.Fairness b (s, stated Kind.Spec e l) refl)) few
constraint_kept p b s Kind.Fairness e l h few = not_above _ _ (λ more. silent_first (silent_second h) (FlatRefusal.Limit l Which.Constraints 65) (refl, more))

pub constraints_kept : (p : Program) (b : List Placed) (i : Placed) → Silent (item p b i) → count_of Kind.Fairness b ≤ 64 → count_of Kind.Fairness (b ++ (i ∷ [])) ≤ 64
constraints_kept p b (s, Item.Assigns a) h few = subst (λ n. n ≤ 64) (sym (not_counted Kind.Fairness b (s, Item.Assigns a) refl)) few
constraints_kept p b (s, Item.States c) h few = constraint_kept p b s c.kind c.expr c.line h few
