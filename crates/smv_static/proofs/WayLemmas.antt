-- Cycles in the graph of two tables, and the flags of a graph with the same edges.
use Rattle.std.proofs.Common.{◌≡◌, ℕ, ◌+◌, ◌<◌, ⊎_elim, true, false, List, length, get_or, refl, sym, ◌∙◌, subst, arith}
use Rattle.std.specs.Prelude.{◌↔◌, Bool, IsTrue, cond}
use Rattle.std.proofs.lemmas.Bool.{cases_lt}
use Rattle.std.proofs.lemmas.List.{get_or_past}
use Rattle.graph_order.specs.Graphs.{LeadsTo, Orders}
use Rattle.smv_static.specs.Numbers.{IsBelow}
use Rattle.smv_static.specs.Ways.{Edge, Way, AreCycleFlags, HasRows}

differ : false ≡ true → ⊥
differ e = subst (λ (b : Bool). cond b ⊥ (Unit {0})) e tt

-- a flag that is set on one side of P alone
flag_is : {P : Type 0} (b : Bool) → (b ≡ true → P) → (b ≡ false → P → ⊥) → IsTrue b ↔ P
flag_is true set clear = (λ e. set e, λ p. refl)
flag_is false set clear = (λ e. absurd (differ e), λ p. absurd (clear refl p))

module _ (base extra : List (List ℕ)) (variables : ℕ) (b : IsBelow variables base) (e : IsBelow variables extra) where
  edge_below : (x y : ℕ) → Edge base extra x y → y < variables
  edge_below x y edge = ⊎_elim (λ h. b x y h) (λ h. e x y h) edge

  way_below : (x y : ℕ) → Way base extra x y → x < variables → y < variables
  way_below x y Way.stay low = low
  way_below x y (Way.step {y = u} edge w) low = way_below u y w (edge_below x u edge)

  module _ (firsts targets : List ℕ) (rows : HasRows base extra variables variables firsts targets) where
    leads_way : (x z : ℕ) → x < variables → LeadsTo firsts targets x z → (y : ℕ) × Edge base extra x y × Way base extra y z
    leads_way x z low (LeadsTo.one h) = (z, (rows.edges x z low).0 h, Way.stay)
    leads_way x z low (LeadsTo.more {w = u} h r) =
        let edge : Edge base extra x u = (rows.edges x u low).0 h in
        let s = leads_way u z (edge_below x u edge) r in
        (u, edge, Way.step s.1 s.2)

    way_leads : (x y z : ℕ) → x < variables → Edge base extra x y → Way base extra y z → LeadsTo firsts targets x z
    way_leads x y z low edge Way.stay = LeadsTo.one ((rows.edges x y low).1 edge)
    way_leads x y z low edge (Way.step {y = u} next w) = LeadsTo.more ((rows.edges x y low).1 edge) (way_leads y u z (edge_below x y edge) next w)

    pub cycle_flags : (order : List ℕ) (circular : List Bool) → Orders firsts targets order circular → AreCycleFlags base extra circular
    cycle_flags order circular orders x =
        let nodes : length firsts ≡ variables + 1 = rows.nodes in
        ⊎_elim (λ low. flag_is (get_or circular x false) (λ set. leads_way x x low (orders.on_cycle x (omega arith) set))
        (λ clear c. orders.on_none x (omega arith) clear (way_leads x c.0 x low c.1 c.2)))
        (λ high. flag_is (get_or circular x false)
        (λ set. absurd (differ (sym (get_or_past circular x false (let flags = orders.flags in omega arith)) ∙ set)))
        (λ clear c. let low = way_below c.0 x c.2 (edge_below x c.0 c.1) in omega arith))
        (cases_lt x variables)
