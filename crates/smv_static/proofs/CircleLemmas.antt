-- Cycles in the graphs of a model, read off two tables.
use Rattle.std.proofs.Common.{◌≡◌, ◌≢◌, ℕ, ◌+◌, ◌<◌, ◌≤◌, ◌⊎◌, inl, inr, ⊎_elim, List, ◌++◌, length, get_or, refl, sym, ◌∙◌, ap, subst, arith, Any}
use Rattle.std.specs.Prelude.{Contains, All}
use Rattle.std.proofs.lemmas.Bool.{cases_lt}
use Rattle.std.proofs.lemmas.List.{get_or_default}
use Rattle.std.proofs.lemmas.List.Elements.{Contains-append_left, Contains-append_right, Contains-append_cases}
use Rattle.kripke_model.specs.declared.models.Part.{Part}
use Rattle.kripke_model.specs.Term.{Term}
use Rattle.kripke_model.specs.System.{System, Assignment}
use Rattle.kripke_model.specs.Refusing.{Silent}
use Rattle.kripke_model.specs.Static.{Graph, LeadsTo, HasWay, variables_in, under_next, assigned_twice, current_beside_other}
use Rattle.smv_static.specs.Numbers.{row}
use Rattle.smv_static.specs.Targets.{targets_by, targets_of}
use Rattle.smv_static.specs.Groups.{group_by, group_of, IsGrouped, IsTable}
use Rattle.smv_static.specs.Ways.{Edge, Way}
use Rattle.smv_static.specs.Circles.{IsCircular, IsLeastAmong, IsGraphOf, IsOnCycleOf, IsClear, IsFound}
use Rattle.smv_static.proofs.TargetLemmas.{next_to, next_from}
use Rattle.smv_static.proofs.OnceLemmas.{IsOneOf, one_place}

-- ---- an assignment's group says in which graphs it has edges

module _ (P q x : ℕ) where
  start_by : (part : Part) (e : Term) (process : ℕ) → q ≡ P + 1 → part ≢ Part.Next → Contains (variables_in e) x → IsOneOf P q (group_by P part process) × Contains (targets_by part e) x
  start_by Part.Init e process is n c = (inl (sym is), c)
  start_by Part.Now e process is n c = (inr refl, c)
  start_by Part.Next e process is n c = absurd (n refl)

  pub leads_group : (g : Graph) (a : Assignment) → IsGraphOf P q g → LeadsTo g a x → IsOneOf P q (group_of P a) × Contains (targets_of a) x
  leads_group Graph.AtStart a is leads = start_by a.part a.right a.process is leads.0 leads.1
  leads_group (Graph.InProcess p) a is leads =
      let M : Part → Type 0 = λ part. IsOneOf P q (group_by P part a.process) × Contains (targets_by part a.right) x in
      elim leads [
        | inl h ↦ subst M (sym h.0) (inr refl, h.1)
        | inr h ↦ subst M (sym h.0) (inl (h.1 ∙ sym is.0), next_from x a.right h.2)
      ]

  leads_by : (part : Part) (g : Graph) (a : Assignment) → a.part ≡ part → IsGraphOf P q g → a.process < P → IsOneOf P q (group_by P part a.process) → Contains (targets_by part a.right) x → LeadsTo g a x
  leads_by Part.Init Graph.AtStart a e is known group c = (λ n. let f : Part.Init ≡ Part.Next = sym e ∙ n in cc, c)
  leads_by Part.Now Graph.AtStart a e is known group c = (λ n. let f : Part.Now ≡ Part.Next = sym e ∙ n in cc, c)
  leads_by Part.Next Graph.AtStart a e is known group c = absurd (elim group [ inl h ↦ omega arith | inr h ↦ omega arith ])
  leads_by Part.Init (Graph.InProcess p) a e is known group c = absurd (elim group [ inl h ↦ let i = is.0 in let j = is.1 in omega arith | inr h ↦ omega arith ])
  leads_by Part.Now (Graph.InProcess p) a e is known group c = inl (e, c)
  leads_by Part.Next (Graph.InProcess p) a e is known group c = elim group [ inl h ↦ inr (e, h ∙ is.0, next_to x a.right c) | inr h ↦ absurd (omega arith) ]

  pub group_leads : (g : Graph) (a : Assignment) → IsGraphOf P q g → a.process < P → IsOneOf P q (group_of P a) → Contains (targets_of a) x → LeadsTo g a x
  group_leads g a is known group c = leads_by a.part g a refl is known group c

-- the group beside that of the current values is another one
apart : (P q : ℕ) (g : Graph) → IsGraphOf P q g → q ≢ P
apart P q Graph.AtStart is e = omega arith
apart P q (Graph.InProcess p) is e = let a = is.0 in let b = is.1 in omega arith

-- ---- the tables of a graph

abbrev blank : Assignment
blank = record { part = Part.Now; var = 0; process = 0; right = Term.Var 0; line = 0 }

module _ (m : System) (P q : ℕ) (g : Graph) (is : IsGraphOf P q g) (processes : All (λ a. a.process < P) m.assigns) (groups base extra : List (List ℕ))
    (grouped : IsGrouped P m.assigns groups) (b : IsTable m.assigns (row groups P) base) (e : IsTable m.assigns (row groups q) extra) where
  -- an edge of an assignment in this group
  edge_of : (r k x y : ℕ) → IsOneOf P q r → Contains (row groups r) k → ((d : Assignment) → (get_or m.assigns k d).var ≡ x) → ((d : Assignment) → Contains (targets_of (get_or m.assigns k d)) y)
      → Any (λ a. (a.var ≡ x) × LeadsTo g a y) m.assigns
  edge_of r k x y one place var target =
      let a : Assignment = get_or m.assigns k blank in
      let below : k < length m.assigns = grouped.known r k place in
      let group : IsOneOf P q (group_of P a) = subst (λ (n : ℕ). IsOneOf P q n) (sym (grouped.sound r k blank place)) one in
      (k, a, below, get_or_default m.assigns k a blank below, (var blank, group_leads P q y g a is (processes k blank below) group (target blank)))

  edge_to : (x y : ℕ) → Edge base extra x y → Any (λ a. (a.var ≡ x) × LeadsTo g a y) m.assigns
  edge_to x y (inl h) = let s = b.sound x y h in edge_of P s.0 x y (inr refl) s.1 s.2 s.3
  edge_to x y (inr h) = let s = e.sound x y h in edge_of q s.0 x y (inl refl) s.1 s.2 s.3

  -- the place of an assignment is in the rows of its groups
  place_of : (k : ℕ) (d : Assignment) → k < length m.assigns → IsOneOf P q (group_of P (get_or m.assigns k d)) → Contains (row groups q) k ⊎ Contains (row groups P) k
  place_of k d below (inl h) = inl (subst (λ (r : ℕ). Contains (row groups r) k) h (grouped.complete k d below))
  place_of k d below (inr h) = inr (subst (λ (r : ℕ). Contains (row groups r) k) h (grouped.complete k d below))

  edge_at : (k y : ℕ) (d : Assignment) → k < length m.assigns → LeadsTo g (get_or m.assigns k d) y → Edge base extra (get_or m.assigns k d).var y
  edge_at k y d below leads =
      let l = leads_group P q y g (get_or m.assigns k d) is leads in
      ⊎_elim (λ in_extra. inr (e.complete k y d in_extra l.1)) (λ in_base. inl (b.complete k y d in_base l.1)) (place_of k d below l.0)

  edge_from : (x y : ℕ) → Any (λ a. (a.var ≡ x) × LeadsTo g a y) m.assigns → Edge base extra x y
  edge_from x y h =
      let leads : LeadsTo g (get_or m.assigns h.0 h.1) y = subst (λ (a : Assignment). LeadsTo g a y) (sym h.3) h.4.1 in
      let var : (get_or m.assigns h.0 h.1).var ≡ x = ap (λ (a : Assignment). a.var) h.3 ∙ h.4.0 in
      subst (λ (z : ℕ). Edge base extra z y) var (edge_at h.0 y h.1 h.2 leads)

  way_to : (x z : ℕ) → Way base extra x z → HasWay m g x z
  way_to x z Way.stay = HasWay.stay
  way_to x z (Way.step edge w) = HasWay.step (edge_to x _ edge) (way_to _ z w)

  way_from : (x z : ℕ) → HasWay m g x z → Way base extra x z
  way_from x z HasWay.stay = Way.stay
  way_from x z (HasWay.step edge w) = Way.step (edge_from x _ edge) (way_from _ z w)

  -- an edge from an assignment's variable is one of the assignment itself, the only one of that variable in the graph
  own_edge : Silent (assigned_twice m) → Silent (current_beside_other m) → (k y : ℕ) (d : Assignment) → k < length m.assigns → IsOneOf P q (group_of P (get_or m.assigns k d)) → Edge base extra (get_or m.assigns k d).var y
      → LeadsTo g (get_or m.assigns k d) y
  own_edge twice beside k y d below group edge =
      let h = edge_to (get_or m.assigns k d).var y edge in
      let same : get_or m.assigns h.0 d ≡ h.1 = get_or_default m.assigns h.0 d h.1 h.2 ∙ h.3 in
      let leads : LeadsTo g (get_or m.assigns h.0 d) y = subst (λ (a : Assignment). LeadsTo g a y) (sym same) h.4.1 in
      let place : h.0 ≡ k =
      one_place m P processes twice beside d q h.0 k (apart P q g is) h.2 below (ap (λ (a : Assignment). a.var) same ∙ h.4.0) (leads_group P q y g (get_or m.assigns h.0 d) is leads).0 group in
      subst (λ (j : ℕ). LeadsTo g (get_or m.assigns j d) y) place leads

  circular_to : Silent (assigned_twice m) → Silent (current_beside_other m) → (k : ℕ) (d : Assignment) → Contains (row groups q ++ row groups P) k → IsCircular base extra (get_or m.assigns k d) → IsOnCycleOf m g (get_or m.assigns k d)
  circular_to twice beside k d place c =
      let a : Assignment = get_or m.assigns k d in
      let at : (r : ℕ) → IsOneOf P q r → Contains (row groups r) k → LeadsTo g a c.0 = λ r one h.
      own_edge twice beside k c.0 d (grouped.known r k h) (subst (λ (n : ℕ). IsOneOf P q n) (sym (grouped.sound r k d h)) one) c.1 in
      (c.0, ⊎_elim (λ h. at q (inl refl) h) (λ h. at P (inr refl) h) (Contains-append_cases (row groups q) (row groups P) k place), way_to c.0 a.var c.2)

  circular_from : (k : ℕ) (d : Assignment) → k < length m.assigns → IsOnCycleOf m g (get_or m.assigns k d) → Contains (row groups q ++ row groups P) k × IsCircular base extra (get_or m.assigns k d)
  circular_from k d below c =
      let a : Assignment = get_or m.assigns k d in
      let l = leads_group P q c.0 g a is c.1 in
      (⊎_elim (λ h. Contains-append_left (row groups q) (row groups P) k h) (λ h. Contains-append_right (row groups q) (row groups P) k h) (place_of k d below l.0), (c.0, edge_at k c.0 d below c.1, way_from c.0 a.var c.2))

  -- where the least among one group is behind all assignments, none of that group lies on a cycle
  pub own_clear : (bound least : ℕ) → length m.assigns ≤ least → IsLeastAmong (IsCircular base extra) m.assigns (row groups q) bound least
      → (k : ℕ) (d : Assignment) → k < length m.assigns → group_of P (get_or m.assigns k d) ≡ q → IsOnCycleOf m g (get_or m.assigns k d) → ⊥
  own_clear bound least far among k d below group c =
      among.none k (subst (λ (r : ℕ). Contains (row groups r) k) group (grouped.complete k d below)) (omega (arith, below, far)) d (circular_from k d below c).1

  module _ (bound least : ℕ) (among : IsLeastAmong (IsCircular base extra) m.assigns (row groups q ++ row groups P) bound least) where
    pub found_in_graph : Silent (assigned_twice m) → Silent (current_beside_other m) → IsFound m bound least
    found_in_graph twice beside = elim among.holds [
      | inl same ↦ inl same
      | inr h ↦ inr (⊎_elim (λ c. grouped.known q least c) (λ c. grouped.known P least c) (Contains-append_cases (row groups q) (row groups P) least h.0), λ d. let c = circular_to twice beside least d h.0 (h.1 d) in (g, c.0, c.1, c.2))
    ]

    pub clear_in_graph : bound ≤ length m.assigns → IsClear m g least
    clear_in_graph few k less d c =
        let below : k < length m.assigns = let l = among.at_most in omega arith in
        let f = circular_from k d below c in
        among.none k f.0 less d f.1

-- ---- a process without edges of its own

-- where the table of a process is empty, its next values depend on no next value
pub free_of : (m : System) (P p : ℕ) (groups extra : List (List ℕ)) → IsGrouped P m.assigns groups → IsTable m.assigns (row groups p) extra → ((x y : ℕ) → Contains (row extra x) y → ⊥)
    → (k y : ℕ) (d : Assignment) → k < length m.assigns → (get_or m.assigns k d).part ≡ Part.Next → (get_or m.assigns k d).process ≡ p → Any (λ e. Contains (variables_in e) y) (under_next (get_or m.assigns k d).right) → ⊥
free_of m P p groups extra grouped table empty k y d below next own h =
    let a : Assignment = get_or m.assigns k d in
    let target : Contains (targets_of a) y = subst (λ (part : Part). Contains (targets_by part a.right) y) (sym next) (next_from y a.right h) in
    let group : group_of P a ≡ p = ap (λ (part : Part). group_by P part a.process) next ∙ own in
    let place : Contains (row groups p) k = subst (λ (g : ℕ). Contains (row groups g) k) group (grouped.complete k d below) in
    empty a.var y (table.complete k y d place target)

module _ (m : System) (p : ℕ) (free : (k y : ℕ) (d : Assignment) → k < length m.assigns → (get_or m.assigns k d).part ≡ Part.Next → (get_or m.assigns k d).process ≡ p
    → Any (λ e. Contains (variables_in e) y) (under_next (get_or m.assigns k d).right) → ⊥) where
  start_leads : (k y : ℕ) (d : Assignment) → k < length m.assigns → LeadsTo (Graph.InProcess p) (get_or m.assigns k d) y → LeadsTo Graph.AtStart (get_or m.assigns k d) y
  start_leads k y d below leads = elim leads [
    | inl h ↦ (λ n. let f : Part.Now ≡ Part.Next = sym h.0 ∙ n in cc, h.1)
    | inr h ↦ absurd (free k y d below h.0 h.1 h.2)
  ]

  start_way : (x z : ℕ) → HasWay m (Graph.InProcess p) x z → HasWay m Graph.AtStart x z
  start_way x z HasWay.stay = HasWay.stay
  start_way x z (HasWay.step h w) =
      HasWay.step (h.0, h.1, h.2, h.3, (h.4.0, subst (λ (a : Assignment). LeadsTo Graph.AtStart a _) h.3 (start_leads h.0 _ h.1 h.2 (subst (λ (a : Assignment). LeadsTo (Graph.InProcess p) a _) (sym h.3) h.4.1)))) (start_way _ z w)

  pub clear_as_start : (least : ℕ) → least ≤ length m.assigns → IsClear m Graph.AtStart least → IsClear m (Graph.InProcess p) least
  clear_as_start least few clear k less d c =
      clear k less d (c.0, start_leads k c.0 d (omega arith) c.1, start_way c.0 (get_or m.assigns k d).var c.2)

-- ---- cycles through next values

module _ (m : System) (p : ℕ) where
  -- a next value of the process lies on the way from x to z
  abbrev Passes : ℕ → ℕ → Type 0
  Passes x z = (k : ℕ) × (d : Assignment) × (y : ℕ) × (k < length m.assigns) × ((get_or m.assigns k d).part ≡ Part.Next) × ((get_or m.assigns k d).process ≡ p)
      × LeadsTo (Graph.InProcess p) (get_or m.assigns k d) y × HasWay m (Graph.InProcess p) x (get_or m.assigns k d).var × HasWay m (Graph.InProcess p) y z

  way_then : (g : Graph) (x y z : ℕ) → HasWay m g x y → HasWay m g y z → HasWay m g x z
  way_then g x y z HasWay.stay w = w
  way_then g x y z (HasWay.step e v) w = HasWay.step e (way_then g _ y z v w)

  -- the edge is one of the initial graph, or a next value of the process
  edge_cases : (k y : ℕ) (d : Assignment) → LeadsTo (Graph.InProcess p) (get_or m.assigns k d) y → LeadsTo Graph.AtStart (get_or m.assigns k d) y ⊎ ((get_or m.assigns k d).part ≡ Part.Next) × ((get_or m.assigns k d).process ≡ p)
  edge_cases k y d (inl h) = inl (λ n. let f : Part.Now ≡ Part.Next = sym h.0 ∙ n in cc, h.1)
  edge_cases k y d (inr h) = inr (h.0, h.1)

  way_cases : (x z : ℕ) → HasWay m (Graph.InProcess p) x z → HasWay m Graph.AtStart x z ⊎ Passes x z
  way_cases x z HasWay.stay = inl HasWay.stay
  way_cases x z (HasWay.step {y = y} e w) =
      let same : get_or m.assigns e.0 e.1 ≡ e.1 = e.3 in
      let leads : LeadsTo (Graph.InProcess p) (get_or m.assigns e.0 e.1) y = subst (λ (a : Assignment). LeadsTo (Graph.InProcess p) a y) (sym same) e.4.1 in
      let var : (get_or m.assigns e.0 e.1).var ≡ x = ap (λ (a : Assignment). a.var) same ∙ e.4.0 in
      ⊎_elim (λ start. ⊎_elim (λ v. inl (HasWay.step (e.0, e.1, e.2, e.3, (e.4.0, subst (λ (a : Assignment). LeadsTo Graph.AtStart a y) same start)) v))
      (λ h. inr (h.0, h.1, h.2, h.3, h.4, h.5, h.6, HasWay.step e h.7, h.8)) (way_cases y z w))
      (λ next. inr (e.0, e.1, y, e.2, next.0, next.1, leads, subst (λ (u : ℕ). HasWay m (Graph.InProcess p) x u) (sym var) HasWay.stay, w))
      (edge_cases e.0 y e.1 leads)

  -- where neither the initial graph nor a next value of the process has a cycle, the process's graph has none
  pub clear_by_own : IsClear m Graph.AtStart (length m.assigns) → ((k : ℕ) (d : Assignment) → k < length m.assigns → (get_or m.assigns k d).part ≡ Part.Next → (get_or m.assigns k d).process ≡ p → IsOnCycleOf m (Graph.InProcess p) (get_or m.assigns k d) → ⊥)
      → IsClear m (Graph.InProcess p) (length m.assigns)
  clear_by_own start own k below d c =
      ⊎_elim (λ leads. ⊎_elim (λ w. start k below d (c.0, leads, w))
      (λ h. own h.0 h.1 h.3 h.4 h.5 (
        h.2,
        h.6,
        way_then (Graph.InProcess p) h.2 (get_or m.assigns k d).var (get_or m.assigns h.0 h.1).var h.8
            (HasWay.step (k, get_or m.assigns k d, below, get_or_default m.assigns k (get_or m.assigns k d) d below, (λ i. (get_or m.assigns k d).var, c.1)) h.7),
      ))
      (way_cases c.0 (get_or m.assigns k d).var c.2))
      (λ next. own k d below next.0 next.1 c)
      (edge_cases k c.0 d c.1)

-- what is clear in the initial graph and in those of the processes is clear in every graph
pub clear_everywhere : (m : System) (P least : ℕ) → All (λ a. a.process < P) m.assigns → least ≤ length m.assigns → IsClear m Graph.AtStart least → ((q : ℕ) → q < P → IsClear m (Graph.InProcess q) least) → (g : Graph) → IsClear m g least
clear_everywhere m P least processes few start passed Graph.AtStart = start
clear_everywhere m P least processes few start passed (Graph.InProcess q) = elim (cases_lt q P) [
  | inl l ↦ passed q l
  | inr l ↦ clear_as_start m q (λ k y d below next own h. let known : (get_or m.assigns k d).process < P = processes k d below in omega arith) least few start
]
