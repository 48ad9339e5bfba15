-- The graph of uses: the numbers of what an expression names, node after node, and the order that it has.
use Rattle.std.proofs.Common.{◌≡◌, refl, sym, ◌∙◌, ap, subst, ℕ, ◌+◌, ◌-◌, ◌<◌, ◌≤◌, arith, List, [], ◌∷◌, ◌++◌, length, length-append, get_or, Bool, true, false, Option, Some, None, ◌⊎◌, inl, inr, Any}
use Rattle.std.specs.Prelude.{option_map, unwrap_or}
use Rattle.std.proofs.lemmas.Option.{same_Some, slice_get_past}
use Rattle.std.proofs.lemmas.Bool.{cases_lt}
use Rattle.std.proofs.lemmas.List.{get_or_append_left, get_or-append-add, length_push}
use Rattle.smv_parser.specs.declared.expressions.PathPart.{PathPart, Field, Index'}
use Rattle.smv_instances.specs.declared.instances.Instances.{Instances}
use Rattle.smv_instances.specs.Program.{Name, Expr, Path, Program}
use Rattle.smv_instances.specs.Entries.{Entry}
use Rattle.smv_instances.specs.Instances.{Scope, all_entries}
use Rattle.smv_instances.specs.Built.{AreInstances}
use Rattle.smv_names.specs.declared.targets.Target.{Target as Held}
use Rattle.smv_names.specs.declared.states.States.{States}
use Rattle.smv_names.specs.declared.walk.Outcome.{Outcome}
use Rattle.smv_names.specs.declared.walk.Outcome.TheVariants as outcome
use Rattle.smv_names.specs.Passed.{AreDecided, Walking}
use Rattle.smv_names.specs.Written.{extended}
use Rattle.smv_names.specs.Abbreviations.{Mention, Abbreviation, mentions, text_of, fronts, Names, Uses, IsCircular}
use Rattle.graph_order.specs.Graphs.{IsStarted, IsGraph, HasEdge, Orders}
use Rattle.smv_names.specs.Nodes.{abbreviation_at}
use Rattle.smv_names.specs.Naming.{InFronts, NamedIn}
use Rattle.smv_names.specs.Ready.{LeadsInto, NamesNode}
use Rattle.smv_names.specs.Ordered.{AreOrdered}
use Rattle.smv_names.specs.Uses.{IsPushed, AreNumbersOf, AreNamed, AreUsed, AreUses}
use Rattle.smv_names.proofs.Once.{denotes_one}
use Rattle.smv_names.proofs.AnyLemmas.{no_any, any_here, any_there, any_case, any_left, any_right, any_split}
use Rattle.graph_order.proofs.GraphLemmas.{push_old, push_new, push_index, push_up, push_last}
use Rattle.smv_names.proofs.NameNodes.{into_nothing}
use Rattle.smv_names.proofs.ResolveLemmas.{open_nothing, scope_or}
use Rattle.smv_names.proofs.WaitLemmas.{member_at}
use Rattle.smv_names.proofs.Circles.{circular_on_cycle, cycle_of_circular}
use Rattle.smv_names.proofs.DistinctLemmas.{numbered_once}

some_none : {A : Type 0} {x : A} {o : Option A} → o ≡ None → o ≡ Some x → ⊥
some_none none some = cc

-- ---- what a path names

same_abbreviation : (a b : Abbreviation) → a.scope ≡ b.scope → a.name ≡ b.name → a ≡ b
same_abbreviation a b scopes names =
    ap (λ (z : Scope). let c : Abbreviation = record { scope = z; name = a.name } in c) scopes
    ∙ ap (λ (x : Name). let c : Abbreviation = record { scope = b.scope; name = x } in c) names

-- it is one at most
names_one : (p : Program) (s : Scope) (q : Path) (a b : Abbreviation) → Names p s q a → Names p s q b → a ≡ b
names_one p s (Path.Here line x) a b n m = same_abbreviation a b (n.0 ∙ sym m.0) (n.1 ∙ sym m.1)
names_one p s (Path.Field q x) a b n m = same_abbreviation a b (ap (scope_or a.scope) (denotes_one n.0 m.0)) (n.1 ∙ sym m.1)
names_one p s (Path.Index q e) a b n m = absurd n

-- some member of a list to which one comes
one_more : {A : Type 0} (P : A → Type 0) (xs : List A) (x : A) → Any P xs ⊎ P x → Any P (xs ++ x ∷ [])
one_more P xs x (inl h) = any_left P xs (x ∷ []) h
one_more P xs x (inr h) = any_right P xs (x ∷ []) (any_here P x [] h)

old_or_last : {A : Type 0} (P : A → Type 0) (xs : List A) (x : A) → Any P (xs ++ x ∷ []) → Any P xs ⊎ P x
old_or_last P xs x h = elim (any_split P xs (x ∷ []) h) [ inl old ↦ inl old | inr last ↦ by (any_case P x [] last) ]
  where
    by : P x ⊎ Any P [] → Any P xs ⊎ P x
    by (inl here) = inr here
    by (inr none) = absurd (no_any P none)

-- the path with a part more, or a front of it
front_up : (p : Program) (s : Scope) (q : Path) (part : PathPart) (b : Abbreviation) → Any (λ r. Names p s r b) (fronts q) ⊎ Names p s (extended q part) b → Any (λ r. Names p s r b) (fronts (extended q part))
front_up p s q (Field name) b (inl h) = any_there (λ r. Names p s r b) (Path.Field q name) (fronts q) h
front_up p s q (Field name) b (inr h) = any_here (λ r. Names p s r b) (Path.Field q name) (fronts q) h
front_up p s q (Index' kind line) b (inl h) = any_there (λ r. Names p s r b) (extended q (Index' kind line)) (fronts q) h
front_up p s q (Index' kind line) b (inr h) = absurd h

front_down : (p : Program) (s : Scope) (q : Path) (part : PathPart) (b : Abbreviation) → Any (λ r. Names p s r b) (fronts (extended q part)) → Any (λ r. Names p s r b) (fronts q) ⊎ Names p s (extended q part) b
front_down p s q (Field name) b h = elim (any_case (λ r. Names p s r b) (Path.Field q name) (fronts q) h) [ inl here ↦ inr here | inr there ↦ inl there ]
front_down p s q (Index' kind line) b h = elim (any_case (λ r. Names p s r b) (extended q (Index' kind line)) (fronts q) h) [ inl here ↦ inr here | inr there ↦ inl there ]

-- ---- numbers of what paths name

numbers_none : (p : Program) (P : Abbreviation → Type 0) → ((b : Abbreviation) (text : Scope × Expr) → P b → text_of b ≡ Some text → ⊥) → AreNumbersOf p P []
numbers_none p P never = record {
  each = λ k h. absurd (omega arith);
  all = λ b text has is. absurd (never b text has is);
}

numbers_same : (p : Program) (P Q : Abbreviation → Type 0) (numbers : List ℕ) → AreNumbersOf p P numbers → ((b : Abbreviation) → P b → Q b) → ((b : Abbreviation) → Q b → P b) → AreNumbersOf p Q numbers
numbers_same p P Q numbers are up down = record {
  each = λ k h. let r = are.each k h in (r.0, r.1, up r.0 r.2);
  all = λ b text has is. are.all b text (down b has) is;
}

-- the number of what one more path names
numbers_added : (p : Program) (s : Scope) (q : Path) (P Q : Abbreviation → Type 0) (o : Option ℕ) (old new : List ℕ) → AreNumbersOf p P old → NamesNode p s q o → IsPushed o old new
    → ((b : Abbreviation) → P b ⊎ Names p s q b → Q b) → ((b : Abbreviation) → Q b → P b ⊎ Names p s q b) → AreNumbersOf p Q new
numbers_added p s q P Q None old new are node is up down = subst (AreNumbersOf p Q) (sym is) (record {
  each = λ k h. let r = are.each k h in (r.0, r.1, up r.0 (inl r.2));
  all = λ b text has text_is. elim (down b has) [ inl old_has ↦ are.all b text old_has text_is | inr named ↦ absurd (some_none (node b named) text_is) ];
})
numbers_added p s q P Q (Some n) old new are node is up down = subst (AreNumbersOf p Q) (sym is) (record {
  each = λ k h. elim (push_index old n k h) [
    | inl low ↦ let r = are.each k low in (r.0, ap (abbreviation_at p) (push_old old n k 0 low) ∙ r.1, up r.0 (inl r.2))
    | inr last ↦ (node.0, ap (abbreviation_at p) (ap (λ j. get_or (old ++ n ∷ []) j 0) last ∙ push_new old n 0) ∙ node.1, up node.0 (inr node.2))
  ];
  all = λ b text has text_is. elim (down b has) [
    | inl old_has ↦ let r = are.all b text old_has text_is in (r.0, push_up old n r.0 r.1, ap (abbreviation_at p) (push_old old n r.0 0 r.1) ∙ r.2)
    | inr named ↦ (length old, push_last old n, ap (abbreviation_at p) (push_new old n 0) ∙ node.1 ∙ ap Some (names_one p s q node.0 b node.2 named))
  ];
})

module _ (p : Program) (s : Scope) (ms : List Mention) (wanted : Bool) where
  abbrev with_path : Path → List Mention
  with_path q = ms ++ record { path = q; wanted = wanted } ∷ []

  -- a path of one name more
  pub named_first : (line : ℕ) (x : Name) (o : Option ℕ) (old new : List ℕ) → AreNamed p s ms old → NamesNode p s (Path.Here line x) o → IsPushed o old new → AreNamed p s (ms ++ record { path = Path.Here line x; wanted = wanted } ∷ []) new
  named_first line x o old new are node is = numbers_added p s (Path.Here line x) (NamedIn p s ms) (NamedIn p s (with_path (Path.Here line x))) o old new are node is
      (λ b h. elim h [
        | inl old_named ↦ one_more (InFronts p s b) ms (record { path = Path.Here line x; wanted = wanted }) (inl old_named)
        | inr named ↦ one_more (InFronts p s b) ms (record { path = Path.Here line x; wanted = wanted }) (inr (any_here (λ r. Names p s r b) (Path.Here line x) [] named))
      ])
      (λ b h. elim (old_or_last (InFronts p s b) ms (record { path = Path.Here line x; wanted = wanted }) h) [
        | inl old_named ↦ inl old_named
        | inr last ↦ by b (any_case (λ r. Names p s r b) (Path.Here line x) [] last)
      ])
    where
      by : (b : Abbreviation) → Names p s (Path.Here line x) b ⊎ Any (λ r. Names p s r b) [] → NamedIn p s ms b ⊎ Names p s (Path.Here line x) b
      by b (inl here) = inr here
      by b (inr none) = absurd (no_any (λ r. Names p s r b) none)

  -- the last path with a part more
  pub named_more : (q : Path) (part : PathPart) (o : Option ℕ) (old new : List ℕ) → AreNamed p s (ms ++ record { path = q; wanted = wanted } ∷ []) old → NamesNode p s (extended q part) o → IsPushed o old new
      → AreNamed p s (ms ++ record { path = extended q part; wanted = wanted } ∷ []) new
  named_more q part o old new are node is = numbers_added p s (extended q part) (NamedIn p s (with_path q)) (NamedIn p s (with_path (extended q part))) o old new are node is
      (λ b h. one_more (InFronts p s b) ms (record { path = extended q part; wanted = wanted }) (up b h))
      (λ b h. down b (old_or_last (InFronts p s b) ms (record { path = extended q part; wanted = wanted }) h))
    where
      up_last : (b : Abbreviation) → NamedIn p s ms b ⊎ Any (λ r. Names p s r b) (fronts q) → NamedIn p s ms b ⊎ Any (λ r. Names p s r b) (fronts (extended q part))
      up_last b (inl old_named) = inl old_named
      up_last b (inr last) = inr (front_up p s q part b (inl last))

      up : (b : Abbreviation) → NamedIn p s (with_path q) b ⊎ Names p s (extended q part) b → NamedIn p s ms b ⊎ Any (λ r. Names p s r b) (fronts (extended q part))
      up b (inl named) = up_last b (old_or_last (InFronts p s b) ms (record { path = q; wanted = wanted }) named)
      up b (inr named) = inr (front_up p s q part b (inr named))

      down_last : (b : Abbreviation) → Any (λ r. Names p s r b) (fronts q) ⊎ Names p s (extended q part) b → NamedIn p s (with_path q) b ⊎ Names p s (extended q part) b
      down_last b (inl last) = inl (one_more (InFronts p s b) ms (record { path = q; wanted = wanted }) (inr last))
      down_last b (inr named) = inr named

      down : (b : Abbreviation) → NamedIn p s ms b ⊎ Any (λ r. Names p s r b) (fronts (extended q part)) → NamedIn p s (with_path q) b ⊎ Names p s (extended q part) b
      down b (inl old_named) = inl (one_more (InFronts p s b) ms (record { path = q; wanted = wanted }) (inl old_named))
      down b (inr last) = down_last b (front_down p s q part b last)

pub named_none : (p : Program) (s : Scope) → AreNamed p s [] []
named_none p s = numbers_none p (NamedIn p s []) (λ b text named is. no_any (InFronts p s b) named)

-- a path of which no target was found denotes no instance
pub walked_nowhere : (p : Program) (states : States) (s : Scope) (q : Path) (o : Outcome) → AreDecided p states → ((t : Held) → o ≡ outcome.Found t → ⊥) → Walking p states s q o → LeadsInto p s q None
walked_nowhere p states s q (outcome.Found t) decided other walked = absurd (other t refl)
walked_nowhere p states s q outcome.Nothing decided other walked = into_nothing p s q walked
walked_nowhere p states s q (outcome.Needs at) decided other walked = into_nothing p s q (open_nothing p states s q at decided walked)

-- ---- numbers of what an abbreviation uses

pub used_none : (p : Program) (a : Abbreviation) → text_of a ≡ None → AreUsed p a []
used_none p a none = numbers_none p (Uses p a) (λ b text used is. some_none none used.2)

abbrev scope_of : Scope × Expr → Scope
scope_of r = r.0

pub used_named : (p : Program) (a : Abbreviation) (s : Scope) (e : Expr) (numbers : List ℕ) → text_of a ≡ Some (s, e) → AreNamed p s (mentions e) numbers → AreUsed p a numbers
used_named p a s e numbers is are = numbers_same p (NamedIn p s (mentions e)) (Uses p a) numbers are (λ b named. (s, e, is, named)) (λ b used. down b used.0 used.1 used.2 used.3)
  where
    down : (b : Abbreviation) (home : Scope) (f : Expr) → text_of a ≡ Some (home, f) → NamedIn p home (mentions f) b → NamedIn p s (mentions e) b
    down b home f other named =
        let same : (home, f) ≡ (s, e) = same_Some _ _ (sym other ∙ is) in
        subst (λ (r : Scope × Expr). NamedIn p r.0 (mentions r.1) b) same named

-- ---- one node more

module _ (firsts targets used : List ℕ) (n : ℕ) (started : IsStarted firsts targets) (nodes : length firsts ≡ n + 1) (last : get_or firsts n 0 ≡ length targets) where
  abbrev more_firsts : List ℕ
  more_firsts = firsts ++ length (targets ++ used) ∷ []

  abbrev more_targets : List ℕ
  more_targets = targets ++ used

  first_old : (v : ℕ) → v < n + 1 → get_or more_firsts v 0 ≡ get_or firsts v 0
  first_old v h = push_old firsts (length (targets ++ used)) v 0 (omega (arith, h, nodes))

  first_new : get_or more_firsts (n + 1) 0 ≡ length targets + length used
  first_new =
      let e : get_or more_firsts (length firsts) 0 ≡ length (targets ++ used) = push_new firsts (length (targets ++ used)) 0 in
      ap (λ j. get_or more_firsts j 0) (sym nodes) ∙ e ∙ length-append targets used

  edge_up : (v w : ℕ) → v < n → HasEdge firsts targets v w → HasEdge more_firsts more_targets v w
  edge_up v w h (k, edge) =
      let below : k < length targets = omega (arith, edge.below, started.within (v + 1) (omega (arith, h, nodes))) in (
        k,
        record {
          from = omega (arith, edge.from, first_old v (omega (arith, h)));
          below = omega (arith, edge.below, first_old (v + 1) (omega (arith, h)));
          target = get_or_append_left targets used 0 k below ∙ edge.target;
        },
      )

  edge_down : (v w : ℕ) → v < n → HasEdge more_firsts more_targets v w → HasEdge firsts targets v w
  edge_down v w h (k, edge) =
      let under : k < get_or firsts (v + 1) 0 = omega (arith, edge.below, first_old (v + 1) (omega (arith, h))) in
      let below : k < length targets = omega (arith, under, started.within (v + 1) (omega (arith, h, nodes))) in (
        k,
        record {
          from = omega (arith, edge.from, first_old v (omega (arith, h)));
          below = under;
          target = sym (get_or_append_left targets used 0 k below) ∙ edge.target;
        },
      )

  target_new : (j : ℕ) → get_or more_targets (length targets + j) 0 ≡ get_or used j 0
  target_new j = get_or-append-add targets used j 0

  edge_from : (j w : ℕ) → j < length used → get_or used j 0 ≡ w → HasEdge more_firsts more_targets n w
  edge_from j w h is = (
    length targets + j,
    record {
      from = omega (arith, first_old n (omega arith), last);
      below = omega (arith, h, first_new);
      target = target_new j ∙ is;
    },
  )

  edge_to : (w : ℕ) → HasEdge more_firsts more_targets n w → (j : ℕ) × (j < length used) × (get_or used j 0 ≡ w)
  edge_to w (k, edge) =
      let from : length targets ≤ k = omega (arith, edge.from, first_old n (omega arith), last) in
      let place : k ≡ length targets + (k - length targets) = omega (arith, from) in (
        k - length targets,
        omega (arith, from, edge.below, first_new),
        sym (target_new (k - length targets)) ∙ ap (λ j. get_or more_targets j 0) (sym place) ∙ edge.target,
      )

old_or_new : (v n : ℕ) → v < n + 1 → (v < n) ⊎ (v ≡ n)
old_or_new v n h = elim (cases_lt v n) [ inl low ↦ inl low | inr high ↦ inr (omega (arith, h, high)) ]

-- the first node of an empty graph comes next
pub uses_none : (p : Program) (firsts targets : List ℕ) → firsts ≡ 0 ∷ [] → targets ≡ [] → AreUses p firsts targets 0
uses_none p firsts targets f t = subst (λ xs. AreUses p xs targets 0) (sym f) (subst (λ ys. AreUses p (0 ∷ []) ys 0) (sym t) (record {
  nodes = refl;
  last = refl;
  are_numbers = λ k h. absurd (omega arith);
  each = λ v w a h. absurd (omega arith);
  all = λ v a b text h. absurd (omega arith);
}))

abbreviation_within : (p : Program) (v : ℕ) (a : Abbreviation) → abbreviation_at p v ≡ Some a → v < length (all_entries p)
abbreviation_within p v a at = elim (cases_lt v (length (all_entries p))) [
  | inl low ↦ low
  | inr high ↦ absurd (let none : None ≡ Some a = ap (option_map (λ (e : Scope × Entry). let b : Abbreviation = record { scope = e.0; name = e.1.name } in b)) (sym (slice_get_past (all_entries p) v high)) ∙ at in cc)
]

module _ (p : Program) (firsts targets used : List ℕ) (n : ℕ) (a : Abbreviation) (started : IsStarted firsts targets) (are : AreUses p firsts targets n) (at : abbreviation_at p n ≡ Some a) (uses : AreUsed p a used) where
  more_numbers : (k : ℕ) → k < length (targets ++ used) → get_or (targets ++ used) k 0 < length (all_entries p)
  more_numbers k h = go (cases_lt k (length targets))
    where
      go : (k < length targets) ⊎ (length targets ≤ k) → get_or (targets ++ used) k 0 < length (all_entries p)
      go (inl low) = subst (λ m. m < length (all_entries p)) (sym (get_or_append_left targets used 0 k low)) (are.are_numbers k low)
      go (inr high) =
          let place : k ≡ length targets + (k - length targets) = omega (arith, high) in
          let r = uses.each (k - length targets) (omega (arith, h, high, length-append targets used)) in
          subst (λ m. m < length (all_entries p)) (sym (ap (λ j. get_or (targets ++ used) j 0) place ∙ get_or-append-add targets used (k - length targets) 0)) (abbreviation_within p (get_or used (k - length targets) 0) r.0 r.1)

  each_more : (v w : ℕ) (c : Abbreviation) → (v < n) ⊎ (v ≡ n) → abbreviation_at p v ≡ Some c → HasEdge (firsts ++ length (targets ++ used) ∷ []) (targets ++ used) v w → (b : Abbreviation) × (abbreviation_at p w ≡ Some b) × Uses p c b
  each_more v w c (inl low) at_v edge = are.each v w c low at_v (edge_down firsts targets used n started are.nodes are.last v w low edge)
  each_more v w c (inr is) at_v edge =
      let to = edge_to firsts targets used n started are.nodes are.last w (subst (λ j. HasEdge (firsts ++ length (targets ++ used) ∷ []) (targets ++ used) j w) is edge) in
      let r = uses.each to.0 to.1 in
      let same : a ≡ c = same_Some _ _ (sym at ∙ ap (abbreviation_at p) (sym is) ∙ at_v) in
      (r.0, ap (abbreviation_at p) (sym to.2) ∙ r.1, subst (λ z. Uses p z r.0) same r.2)

  all_more : (v : ℕ) (c b : Abbreviation) (text : Scope × Expr) → (v < n) ⊎ (v ≡ n) → abbreviation_at p v ≡ Some c → Uses p c b → text_of b ≡ Some text
      → (w : ℕ) × HasEdge (firsts ++ length (targets ++ used) ∷ []) (targets ++ used) v w × (abbreviation_at p w ≡ Some b)
  all_more v c b text (inl low) at_v used_by is = let r = are.all v c b text low at_v used_by is in (r.0, edge_up firsts targets used n started are.nodes are.last v r.0 low r.1, r.2)
  all_more v c b text (inr same_node) at_v used_by is =
      let same : c ≡ a = same_Some _ _ (sym at_v ∙ ap (abbreviation_at p) same_node ∙ at) in
      let r = uses.all b text (subst (λ z. Uses p z b) same used_by) is in (
        get_or used r.0 0,
        subst (λ j. HasEdge (firsts ++ length (targets ++ used) ∷ []) (targets ++ used) j (get_or used r.0 0)) (sym same_node) (edge_from firsts targets used n started are.nodes are.last r.0 (get_or used r.0 0) r.1 refl),
        r.2,
      )

  pub uses_more : AreUses p (firsts ++ length (targets ++ used) ∷ []) (targets ++ used) (n + 1)
  uses_more = record {
    nodes = omega (arith, length_push firsts (length (targets ++ used)), are.nodes);
    last = ap (λ j. get_or (firsts ++ length (targets ++ used) ∷ []) j 0) (sym are.nodes) ∙ push_new firsts (length (targets ++ used)) 0;
    are_numbers = more_numbers;
    each = λ v w c h. each_more v w c (old_or_new v n h);
    all = λ v c b text h. all_more v c b text (old_or_new v n h);
  }

pub uses_at : (p : Program) {firsts firsts' targets targets' : List ℕ} {n n' : ℕ} → firsts' ≡ firsts → targets' ≡ targets → n' ≡ n → AreUses p firsts targets n → AreUses p firsts' targets' n'
uses_at p {firsts} {firsts'} {targets} {targets'} {n} {n'} f t e are = subst (λ xs. AreUses p xs targets' n') (sym f) (subst (λ ys. AreUses p firsts ys n') (sym t) (subst (AreUses p firsts targets) (sym e) are))

-- ---- the whole graph

pub uses_graph : (p : Program) (firsts targets : List ℕ) → IsStarted firsts targets → AreUses p firsts targets (length (all_entries p)) → IsGraph firsts targets
uses_graph p firsts targets started are = record {
  not_empty = started.not_empty;
  rising = started.rising;
  within = started.within;
  targets_are_nodes = λ k h. omega (arith, are.are_numbers k h, are.nodes);
}

module _ (p : Program) (instances : Instances) (firsts targets order : List ℕ) (circular : List Bool) (known : AreInstances p instances) (are : AreUses p firsts targets (length (all_entries p))) (orders : Orders firsts targets order circular) where
  node_count_is : length firsts - 1 ≡ length (all_entries p)
  node_count_is = omega (arith, are.nodes)

  -- numbers as abbreviations, with one for those beyond the last
  module _ (other : Abbreviation) where
    at : ℕ → Abbreviation
    at v = unwrap_or (abbreviation_at p v) other

    at_is : (v : ℕ) (a : Abbreviation) → abbreviation_at p v ≡ Some a → at v ≡ a
    unfolding at
    at_is v a e = ap (λ o. unwrap_or o other) e

    is_at : (v : ℕ) → v < length (all_entries p) → abbreviation_at p v ≡ Some (at v)
    unfolding at
    is_at v h = let e = member_at (all_entries p) v h in
        let found : abbreviation_at p v ≡ Some (record { scope = e.0.0; name = e.0.1.name }) = ap (option_map (λ (d : Scope × Entry). let b : Abbreviation = record { scope = d.0; name = d.1.name } in b)) e.1 in
        found ∙ sym (ap Some (ap (λ o. unwrap_or o other) found))

    sound : (v w : ℕ) → v < length (all_entries p) → HasEdge firsts targets v w → (w < length (all_entries p)) × Uses p (at v) (at w)
    sound v w h edge =
        let r = are.each v w (at v) h (is_at v h) edge in
        (abbreviation_within p w r.0 r.1, subst (λ z. Uses p (at v) z) (sym (at_is w r.0 r.1)) r.2)

    complete : (v : ℕ) (b : Abbreviation) → v < length (all_entries p) → Uses p (at v) b → (text_of b ≡ None) ⊎ ((w : ℕ) × (w < length (all_entries p)) × HasEdge firsts targets v w × (at w ≡ b))
    complete v b h used = go (text_of b) refl
      where
        go : (o : Option (Scope × Expr)) → text_of b ≡ o → (text_of b ≡ None) ⊎ ((w : ℕ) × (w < length (all_entries p)) × HasEdge firsts targets v w × (at w ≡ b))
        go None is = inl is
        go (Some text) is = let r = are.all v (at v) b text h (is_at v h) used is in inr (r.0, abbreviation_within p r.0 b r.2, r.1, at_is r.0 b r.2)

    distinct : (v w : ℕ) → v < length (all_entries p) → w < length (all_entries p) → at v ≡ at w → v ≡ w
    distinct v w hv hw same = numbered_once p instances known v w (at w) (is_at v hv ∙ ap Some same) (is_at w hw)

  circular_is : (v : ℕ) (a : Abbreviation) → abbreviation_at p v ≡ Some a → get_or circular v false ≡ true → IsCircular p a
  circular_is v a is flag =
      let h = abbreviation_within p v a is in
      subst (IsCircular p) (at_is a v a is)
      (circular_on_cycle p (length (all_entries p)) (at a) firsts targets (sound a) (complete a) (distinct a) v h (orders.on_cycle v (omega (arith, h, node_count_is)) flag))

  straight_is : (v : ℕ) (a : Abbreviation) → abbreviation_at p v ≡ Some a → get_or circular v false ≡ false → IsCircular p a → ⊥
  straight_is v a is flag circle =
      let h = abbreviation_within p v a is in
      orders.on_none v (omega (arith, h, node_count_is)) flag
      (cycle_of_circular p (length (all_entries p)) (at a) firsts targets (sound a) (complete a) (distinct a) v h (subst (IsCircular p) (sym (at_is a v a is)) circle))

  earlier_is : (k v : ℕ) (a b : Abbreviation) (text : Scope × Expr) → k < length order → abbreviation_at p (get_or order k 0) ≡ Some a → get_or circular (get_or order k 0) false ≡ false
      → Uses p a b → abbreviation_at p v ≡ Some b → text_of b ≡ Some text → (j : ℕ) × (j < k) × (get_or order j 0 ≡ v)
  earlier_is k v a b text h is flag used named has =
      let r = are.all (get_or order k 0) a b text (abbreviation_within p (get_or order k 0) a is) is used has in
      let place = orders.earlier k r.0 h flag r.1 in
      (place.0, place.1, place.2 ∙ numbered_once p instances known r.0 v b r.2 named)

  pub uses_ordered : AreOrdered p order circular
  uses_ordered = record {
    flags = orders.flags ∙ node_count_is;
    are_numbers = λ k h. omega (arith, orders.are_nodes k h, node_count_is);
    all = λ v h. orders.all v (omega (arith, h, node_count_is));
    once = orders.once;
    earlier = earlier_is;
    is_circular = circular_is;
    is_straight = straight_is;
  }
