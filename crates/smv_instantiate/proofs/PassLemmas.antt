-- The pass over items, step by step.
use Rattle.std.proofs.Common.{◌≡◌, refl, sym, ◌∙◌, ap, subst, ℕ, zero, suc, ◌+◌, ◌<◌, ◌≤◌, min, arith, List, [], ◌∷◌, ◌++◌, length, Bool, false, Some, inl, inr}
use Rattle.std.proofs.lemmas.Option.{slice_get_within}
use Rattle.std.specs.Prelude.{IfErr, OnOk, Result, Ok, Err, MatchResult, slice_get, sum_by}
use Rattle.kripke_model.specs.Refusing.{Silent}
use Rattle.kripke_model.specs.Size.{term_nodes, nesting}
use Rattle.kripke_model.specs.Term.{Term}
use Rattle.kripke_model.proofs.FirstLemmas.{silent_refuse, silent_then}
use Rattle.kripke_model.specs.declared.refusals.FlatRefusal.{FlatRefusal}
use Rattle.kripke_model.specs.declared.refusals.Which.{Which}
use Rattle.smv_instances.specs.Answers.{Refused}
use Rattle.smv_instances.specs.Declarations.{one_if}
use Rattle.smv_instances.specs.Instances.{Scope, instances}
use Rattle.smv_instances.specs.Numbered.{scope_at}
use Rattle.smv_instances.specs.Program.{Kind, Stated, Program}
use Rattle.smv_names.specs.Abbreviations.{mentions, path_rows}
use Rattle.smv_names.specs.Sound.{IsSound, AreSound}
use Rattle.smv_names.proofs.AnyLemmas.{all_right}
use Rattle.smv_names.specs.Expands.{Expands}
use Rattle.smv_names.proofs.Once.{expands_one}
use Rattle.smv_instantiate.specs.declared.totals.Totals.{Totals}
use Rattle.smv_instantiate.specs.Flattens.{Item, Placed, is_of}
use Rattle.smv_instantiate.specs.Items.{item_mentions, left_mentions}
use Rattle.smv_instantiate.specs.Refuses.{AreTerms, count_of, count_rows, expression, item, item_line, size_rows}
use Rattle.smv_instantiate.specs.Passes.{AddsSize, AreCounts, Counts, CountsItem, HasLeft, IsPassed, HasTerm, PassesItem, own_rows}
use Rattle.smv_instantiate.proofs.Members.{each_of_all, all_of_each, each_append}
use Rattle.smv_instantiate.proofs.CountLemmas.{total, sum_is_total, total-append}
use Rattle.smv_instantiate.proofs.OneAnswer.{matches_one}
use Rattle.smv_instantiate.proofs.SizeLemmas.{matched_append}

-- ---- counts

count_more : (k : Kind) (items : List Placed) (i : Placed) → count_of k (items ++ (i ∷ [])) ≡ count_of k items + one_if (is_of k i.1)
count_more k items i =
    let s : total (λ (j : Placed). one_if (is_of k j.1)) (items ++ (i ∷ [])) ≡ total (λ (j : Placed). one_if (is_of k j.1)) items + (one_if (is_of k i.1) + 0) = total-append (λ (j : Placed). one_if (is_of k j.1)) items (i ∷ []) in
    let x : count_of k (items ++ (i ∷ [])) ≡ total (λ (j : Placed). one_if (is_of k j.1)) (items ++ (i ∷ [])) = sum_is_total (λ (j : Placed). one_if (is_of k j.1)) (items ++ (i ∷ [])) in
    let y : count_of k items ≡ total (λ (j : Placed). one_if (is_of k j.1)) items = sum_is_total (λ (j : Placed). one_if (is_of k j.1)) items in
    omega (arith, s, x, y)

count_at : (k : Kind) (items : List Placed) (i : Placed) (b : Bool) → is_of k i.1 ≡ b → count_of k (items ++ (i ∷ [])) ≡ count_of k items + one_if b
count_at k items i b e = count_more k items i ∙ ap (λ x. count_of k items + one_if x) e

-- what is neither a specification nor a constraint
pub counts_kept : (totals : Totals) (items : List Placed) (i : Placed) → is_of Kind.Spec i.1 ≡ false → is_of Kind.Fairness i.1 ≡ false → AreCounts totals items → AreCounts totals (items ++ (i ∷ []))
counts_kept totals items i a b h =
    let x : count_of Kind.Spec (items ++ (i ∷ [])) ≡ count_of Kind.Spec items + 0 = count_at Kind.Spec items i false a in
    let y : count_of Kind.Fairness (items ++ (i ∷ [])) ≡ count_of Kind.Fairness items + 0 = count_at Kind.Fairness items i false b in
    record {
      specifications = omega (arith, h.specifications, x);
      few_specifications = h.few_specifications;
      constraints = omega (arith, h.constraints, y);
      few_constraints = h.few_constraints;
    }

-- ---- the rows of one item

pub paths_refused : (p : Program) (before : List Placed) (s : Scope) (i : Item) (r : FlatRefusal) → Refused (path_rows p s (item_mentions i)) r → Refused (item p before (s, i)) r
paths_refused p before s i r (inl memory) = inl memory
paths_refused p before s (Item.Assigns a) r (inr h) = inr (inl h)
paths_refused p before s (Item.States c) r (inr h) = inr (inl h)

pub own_refused : (p : Program) (before : List Placed) (s : Scope) (i : Item) (r : FlatRefusal) → Silent (path_rows p s (item_mentions i)) → Refused (own_rows p (before ++ ((s, i) ∷ [])) s i) r → Refused (item p before (s, i)) r
own_refused p before s i r silent (inl memory) = inl memory
own_refused p before s (Item.Assigns a) r silent (inr h) = inr (inr (silent, inl h))
own_refused p before s (Item.States c) r silent (inr h) = inr (inr (silent, inl h))

size_refused : (p : Program) (before : List Placed) (s : Scope) (i : Item) (r : FlatRefusal) → Silent (path_rows p s (item_mentions i)) → Silent (own_rows p (before ++ ((s, i) ∷ [])) s i)
    → size_rows p (before ++ ((s, i) ∷ [])) (s, i) r → item p before (s, i) r
size_refused p before s (Item.Assigns a) r first second h = inr (first, inr (second, h))
size_refused p before s (Item.States c) r first second h = inr (first, inr (second, h))

item_silent : (p : Program) (before : List Placed) (s : Scope) (i : Item) → Silent (path_rows p s (item_mentions i)) → Silent (own_rows p (before ++ ((s, i) ∷ [])) s i)
    → Silent (size_rows p (before ++ ((s, i) ∷ [])) (s, i)) → Silent (item p before (s, i))
item_silent p before s (Item.Assigns a) first second third =
    silent_then {a = path_rows p s (item_mentions (Item.Assigns a))} first (silent_then {a = own_rows p (before ++ ((s, Item.Assigns a) ∷ [])) s (Item.Assigns a)} second third)
item_silent p before s (Item.States c) first second third =
    silent_then {a = path_rows p s (item_mentions (Item.States c))} first (silent_then {a = own_rows p (before ++ ((s, Item.States c) ∷ [])) s (Item.States c)} second third)

-- ---- sizes

terms_one : (p : Program) (items : List Placed) (ts us : List Term) → AreTerms p items ts → AreTerms p items us → ts ≡ us
terms_one p items ts us a b = matches_one (λ x y z h k. expands_one h k) items ts us a b

add_terms : (ts : List Term) (t : Term) → sum_by term_nodes (ts ++ (t ∷ [])) ≡ sum_by term_nodes ts + term_nodes t
add_terms ts t =
    let x : total term_nodes (ts ++ (t ∷ [])) ≡ total term_nodes ts + (term_nodes t + 0) = total-append term_nodes ts (t ∷ []) in
    let y : sum_by term_nodes (ts ++ (t ∷ [])) ≡ total term_nodes (ts ++ (t ∷ [])) = sum_is_total term_nodes (ts ++ (t ∷ [])) in
    let z : sum_by term_nodes ts ≡ total term_nodes ts = sum_is_total term_nodes ts in
    omega (arith, x, y, z)

module _ (p : Program) (before : List Placed) (s : Scope) (i : Item) (old : Totals) (passed : IsPassed p before old) (t : Term) (expands : Expands p s (expression i) t) where
  terms_more : AreTerms p (before ++ ((s, i) ∷ [])) (passed.terms ++ (t ∷ []))
  terms_more = matched_append (λ (j : Placed) u. Expands p j.0 (expression j.1) u) before ((s, i) ∷ []) passed.terms (t ∷ []) passed.are (expands, tt)

  nodes_more : sum_by term_nodes (passed.terms ++ (t ∷ [])) ≡ old.nodes + term_nodes t
  nodes_more = let e = add_terms passed.terms t in omega (arith, e, passed.nodes)

  few_nodes : old.nodes + term_nodes t ≤ 200000 → (ts : List Term) → AreTerms p (before ++ ((s, i) ∷ [])) ts → 200000 < sum_by term_nodes ts → ⊥
  few_nodes few ts are many =
      let same : ts ≡ passed.terms ++ (t ∷ []) = terms_one p (before ++ ((s, i) ∷ [])) ts (passed.terms ++ (t ∷ [])) are terms_more in
      let sums : sum_by term_nodes ts ≡ sum_by term_nodes (passed.terms ++ (t ∷ [])) = ap (sum_by term_nodes) same in
      omega (arith, few, many, sums, nodes_more)

  nodes_silent : (line : ℕ) → old.nodes + term_nodes t ≤ 200000 → Silent (λ r. (r ≡ FlatRefusal.Limit line Which.Nodes 200001) × ((ts : List Term) × AreTerms p (before ++ ((s, i) ∷ [])) ts × (200000 < sum_by term_nodes ts)))
  nodes_silent line few = silent_refuse (λ h. few_nodes few h.0 h.1 h.2)

  nesting_silent : (line : ℕ) → nesting t ≤ 1024 → Silent (λ r. (r ≡ FlatRefusal.Limit line Which.Nesting 1025) × ((u : Term) × Expands p s (expression i) u × (1024 < nesting u)))
  nesting_silent line few = silent_refuse (λ h. let same : nesting h.0 ≡ nesting t = ap nesting (expands_one h.1 expands) in absurd (omega (arith, few, same, h.2)))

  sizes_silent : old.nodes + term_nodes t ≤ 200000 → nesting t ≤ 1024 → Silent (size_rows p (before ++ ((s, i) ∷ [])) (s, i))
  sizes_silent few deep = silent_then (nodes_silent (item_line i) few) (nesting_silent (item_line i) deep)

  -- the answer after the size
  pub passes : (counted : Totals) (line : ℕ) (result : Result Totals FlatRefusal) → line ≡ item_line i → Silent (path_rows p s (item_mentions i))
      → AreCounts counted (before ++ ((s, i) ∷ [])) → counted.nodes ≡ old.nodes → HasLeft p s i → Silent (own_rows p (before ++ ((s, i) ∷ [])) s i)
      → AddsSize counted line (term_nodes t) (nesting t) result → PassesItem p before (s, i) result
  passes counted line (Ok new) at first counts same left second h =
      let few : old.nodes + term_nodes t ≤ 200000 = omega (arith, same, h.1) in (
        subst (λ n. IsPassed p (before ++ ((s, i) ∷ [])) n) (sym h.0) (record {
          counts = record {
            specifications = counts.specifications;
            few_specifications = counts.few_specifications;
            constraints = counts.constraints;
            few_constraints = counts.few_constraints;
          };
          terms = passed.terms ++ (t ∷ []);
          are = terms_more;
          nodes = omega (arith, same, nodes_more);
          few_nodes = h.1;
          ready = all_of_each (HasTerm p) (before ++ ((s, i) ∷ [])) (each_append (HasTerm p) before ((s, i) ∷ []) (each_of_all (HasTerm p) before passed.ready) (record { left = left; term = t; expands = expands; deep = h.2 }, tt));
        }),
        item_silent p before s i first second (sizes_silent few h.2),
      )
  passes counted line (Err r) at first counts same left second (inl h) =
      inr (size_refused p before s i r first second (inl (h.0 ∙ ap (λ l. FlatRefusal.Limit l Which.Nodes 200001) at, (passed.terms ++ (t ∷ []), terms_more, omega (arith, h.1, same, nodes_more)))))
  passes counted line (Err r) at first counts same left second (inr h) =
      inr (size_refused p before s i r first second (inr (nodes_silent (item_line i) (omega (arith, h.1, same)), (h.0 ∙ ap (λ l. FlatRefusal.Limit l Which.Nesting 1025) at, (t, expands, h.2)))))

-- a size that is counted up to a limit, against the limit
pub size_added : (old : Totals) (line n d : ℕ) (nodes deep : ℕ) → old.nodes ≤ 200000 → nodes ≡ min n 200001 → deep ≡ min d 1025 → old.nodes + nodes ≤ 200000 → deep ≤ 1024
    → (old.nodes + nodes ≡ old.nodes + n) × (old.nodes + n ≤ 200000) × (d ≤ 1024)
size_added old line n d nodes deep few a b c e =
    let n_is : nodes ≡ n = grind (arith, a, c) in
    let d_few : d ≤ 1024 = grind (arith, b, e) in
    (ap (λ x. old.nodes + x) n_is, omega (arith, n_is, c), d_few)

-- ---- the ends of the pass

pub nothing_passed : (p : Program) (totals : Totals) → AreCounts totals [] → totals.nodes ≡ 0 → IsPassed p [] totals
nothing_passed p totals counts none = record {
  counts = counts;
  terms = [];
  are = tt;
  nodes = none;
  few_nodes = omega (arith, none);
  ready = all_of_each (HasTerm p) [] tt;
}

pub scope_there : (p : Program) (n : ℕ) → n < length (instances p) → (s : Scope) × (scope_at p n ≡ Some s)
scope_there p n lt = by (instances p) n lt
  where
    by : (ss : List Scope) (k : ℕ) → k < length ss → (s : Scope) × (slice_get ss k ≡ Some s)
    by [] k below = absurd (omega arith)
    by (s ∷ ss) zero below = (s, refl)
    by (s ∷ ss) (suc k) below = by ss k (omega arith)

-- ---- the answers of one item

pub paths_checked : {A : Type 0} (P Q : Type 0) (R : FlatRefusal → Type 0) (result : Result A FlatRefusal) → OnOk result P → OnOk result Q → IfErr result R → MatchResult result (λ _. P × Q) R
paths_checked P Q R (Ok x) a b c = (a, b)
paths_checked P Q R (Err r) a b c = c

pub right_sound : (p : Program) (s : Scope) (i : Item) → AreSound p s (item_mentions i) → AreSound p s (mentions (expression i))
right_sound p s (Item.Assigns a) sound = all_right (IsSound p s) (left_mentions a.left) (mentions a.right) sound
right_sound p s (Item.States c) sound = sound

pub scope_below : (p : Program) (n : ℕ) (s : Scope) → scope_at p n ≡ Some s → n < length (instances p)
scope_below p n s at = slice_get_within (instances p) n s at

pub condition_counted : (p : Program) (items : List Placed) (s : Scope) (c : Stated) (old : Totals) (result : Result Totals FlatRefusal) → Counts old items (s, Item.States c) (count_rows (items ++ ((s, Item.States c) ∷ [])) c) result
    → CountsItem p items s (Item.States c) old result
condition_counted p items s c old (Ok new) h = (h.0, h.1, tt, h.2)
condition_counted p items s c old (Err r) h = h
