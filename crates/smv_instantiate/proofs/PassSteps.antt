-- The items of one instance, and of all, one after the other.
use Rattle.std.proofs.Common.{◌≡◌, sym, ◌∙◌, ap, subst, ℕ, ◌+◌, ◌<◌, ◌≤◌, List, [], ◌∷◌, ◌++◌, length, get_or, take, drop, Some, append-nil, append_assoc, inl}
use Rattle.std.specs.Prelude.{All, map, flat_map, slice_get}
use Rattle.std.proofs.lemmas.Grind.{flat_map-append}
use Rattle.std.proofs.lemmas.Option.{slice_get_within, get_or_from_slice_get}
use Rattle.kripke_model.specs.Refusing.{Silent, First}
use Rattle.kripke_model.specs.declared.refusals.FlatRefusal.{FlatRefusal}
use Rattle.smv_instances.specs.Instances.{Scope, instances, module_of}
use Rattle.smv_instances.specs.Program.{Module, Program}
use Rattle.smv_instances.proofs.FirstSteps.{first_append, first_front, silent_append, silent_one}
use Rattle.smv_instances.proofs.ListSteps.{take_map, split_map, take_whole}
use Rattle.smv_names.proofs.WrittenLemmas.{split_at}
use Rattle.smv_instantiate.specs.declared.items.Item.{Item as Held}
use Rattle.smv_instantiate.specs.declared.totals.Totals.{Totals}
use Rattle.smv_instantiate.specs.Flattens.{Placed, all_items, section_items}
use Rattle.smv_instantiate.specs.Items.{plain_item}
use Rattle.smv_instantiate.specs.Passes.{IsPassed, placed}
use Rattle.smv_instantiate.specs.Refuses.{item}
use Rattle.smv_instantiate.proofs.Members.{In, all_from, all_in, in_right, in_left}
use Rattle.smv_instantiate.proofs.TypeSteps.{map-map}
use Rattle.smv_instantiate.proofs.ProcessSteps.{take_at}

-- ---- one instance

module _ (s : Scope) (items : List Held) (k : ℕ) (x : Held) (lt : k < length items) (at : x ≡ get_or items k x) where
  pub placed_next : placed s (take (k + 1) items) ≡ placed s (take k items) ++ ((s, plain_item x) ∷ [])
  placed_next = take_map (λ i. (s, plain_item i)) items k x lt at

  pub placed_in : In (s, plain_item x) (placed s items)
  placed_in =
      let split = split_map (λ (i : Held). (s, plain_item i)) items k x lt at in
      subst (In (s, plain_item x)) (sym split.1) (in_right (placed s (take k items)) ((s, plain_item x) ∷ split.0) In.first)

  module _ (p : Program) (before : List Placed) where
    pub placed_more : before ++ placed s (take (k + 1) items) ≡ (before ++ placed s (take k items)) ++ ((s, plain_item x) ∷ [])
    placed_more = ap (λ ys. before ++ ys) placed_next ∙ sym (append_assoc before (placed s (take k items)) ((s, plain_item x) ∷ []))

    pub passed_on : (new : Totals) → Silent (First (item p) before (placed s (take k items))) → IsPassed p ((before ++ placed s (take k items)) ++ ((s, plain_item x) ∷ [])) new × Silent (item p (before ++ placed s (take k items)) (s, plain_item x))
        → IsPassed p (before ++ placed s (take (k + 1) items)) new × Silent (First (item p) before (placed s (take (k + 1) items)))
    passed_on new silent h = (
      subst (λ ys. IsPassed p ys new) (sym placed_more) h.0,
      subst (λ ys. Silent (First (item p) before ys)) (sym placed_next)
          (silent_append (item p) before (placed s (take k items)) ((s, plain_item x) ∷ []) silent (silent_one (item p) (before ++ placed s (take k items)) (s, plain_item x) h.1)),
    )

    pub pass_refused : (r : FlatRefusal) → Silent (First (item p) before (placed s (take k items))) → item p (before ++ placed s (take k items)) (s, plain_item x) r → First (item p) before (placed s items) r
    pass_refused r silent h =
        let split = split_map (λ (i : Held). (s, plain_item i)) items k x lt at in
        subst (λ ys. First (item p) before ys r) (sym split.1) (first_append (item p) before (placed s (take k items)) ((s, plain_item x) ∷ split.0) r silent (inl h))

-- ---- all instances

abbrev pub body_items : Scope → List Placed
body_items s = map (λ i. (s, i)) (flat_map section_items (module_of s).sections)

-- those of the first n instances
abbrev pub items_before : Program → ℕ → List Placed
items_before p n = flat_map body_items (take n (instances p))

pub placed_body : (s : Scope) (items : List Held) (m : Module) → map plain_item items ≡ flat_map section_items m.sections → m ≡ module_of s → placed s items ≡ body_items s
placed_body s items m read is = sym (map-map (λ i. (s, i)) plain_item items) ∙ ap (map (λ i. (s, i))) (read ∙ ap (λ (n : Module). flat_map section_items n.sections) is)

pub all_before : (p : Program) (n : ℕ) → length (instances p) ≤ n → items_before p n ≡ all_items p
all_before p n le = ap (flat_map body_items) (take_whole (instances p) n le)

module _ (p : Program) (n : ℕ) (s : Scope) (at : slice_get (instances p) n ≡ Some s) where
  pub before_next : items_before p (n + 1) ≡ items_before p n ++ body_items s
  before_next =
      ap (flat_map body_items) (take_at (instances p) n s at)
      ∙ flat_map-append body_items (take n (instances p)) (s ∷ [])
      ∙ ap (λ ys. items_before p n ++ ys) (append-nil (body_items s))

  pub before_split : (rest : List Placed) × (all_items p ≡ items_before p n ++ (body_items s ++ rest))
  before_split = (
    flat_map body_items (drop (n + 1) (instances p)),
    ap (flat_map body_items) (sym (split_at (instances p) n s (slice_get_within (instances p) n s at) (sym (get_or_from_slice_get (instances p) n s s at))))
        ∙ flat_map-append body_items (take n (instances p)) (s ∷ drop (n + 1) (instances p)),
  )

  -- each item of the body is one of all
  pub ready_body : (P : Placed → Type 0) → All P (all_items p) → All P (body_items s)
  ready_body P all = all_from P (body_items s) (λ x i. all_in P (all_items p) all (subst (In x) (sym before_split.1) (in_right (items_before p n) (body_items s ++ before_split.0) (in_left (body_items s) before_split.0 i))))

  pub body_passed : (new : Totals) → Silent (First (item p) [] (items_before p n)) → IsPassed p (items_before p n ++ body_items s) new × Silent (First (item p) (items_before p n) (body_items s))
      → IsPassed p (items_before p (n + 1)) new × Silent (First (item p) [] (items_before p (n + 1)))
  body_passed new silent h = (
    subst (λ ys. IsPassed p ys new) (sym before_next) h.0,
    subst (λ ys. Silent (First (item p) [] ys)) (sym before_next) (silent_append (item p) [] (items_before p n) (body_items s) silent h.1),
  )

  pub body_refused : (r : FlatRefusal) → Silent (First (item p) [] (items_before p n)) → First (item p) (items_before p n) (body_items s) r → First (item p) [] (all_items p) r
  body_refused r silent h = subst (λ ys. First (item p) [] ys r) (sym before_split.1)
      (first_append (item p) [] (items_before p n) (body_items s ++ before_split.0) r silent (first_front (item p) (items_before p n) (body_items s) before_split.0 r h))
