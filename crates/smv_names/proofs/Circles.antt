-- Circular abbreviations are those on a cycle of the graph of uses.
use Rattle.std.proofs.Common.{◌≡◌, refl, sym, subst, ℕ, ◌<◌, List, Option, Some, None, ◌⊎◌, inl, inr}
use Rattle.smv_instances.specs.Program.{Program}
use Rattle.graph_order.specs.Graphs.{HasEdge, LeadsTo}
use Rattle.smv_names.specs.Abbreviations.{Abbreviation, text_of, Uses, Leads, IsCircular}

no_text : {A : Type 0} {o : Option A} {a : A} → o ≡ None → o ≡ Some a → ⊥
no_text none some = cc

-- what has no text uses nothing
pub leads_nowhere : (p : Program) {a b : Abbreviation} → text_of a ≡ None → Leads p a b → ⊥
leads_nowhere p none (Leads.one used) = no_text none used.2
leads_nowhere p none (Leads.more used leads) = no_text none used.2

module _ (p : Program) (count : ℕ) (at : ℕ → Abbreviation) (firsts targets : List ℕ)
    (sound : (v w : ℕ) → v < count → HasEdge firsts targets v w → (w < count) × Uses p (at v) (at w))
    (complete : (v : ℕ) (b : Abbreviation) → v < count → Uses p (at v) b → (text_of b ≡ None) ⊎ ((w : ℕ) × (w < count) × HasEdge firsts targets v w × (at w ≡ b)))
    (distinct : (v w : ℕ) → v < count → w < count → at v ≡ at w → v ≡ w) where
  leads_up : {v w : ℕ} → v < count → LeadsTo firsts targets v w → Leads p (at v) (at w)
  leads_up {v} {w} h (LeadsTo.one edge) = Leads.one (sound v w h edge).1
  leads_up {v} h (LeadsTo.more {w = w} edge way) = Leads.more (sound v w h edge).1 (leads_up (sound v w h edge).0 way)

  leads_down : {a b : Abbreviation} → Leads p a b → (v : ℕ) → v < count → at v ≡ a → (text_of b ≡ None) ⊎ ((w : ℕ) × (w < count) × LeadsTo firsts targets v w × (at w ≡ b))
  leads_down {b} (Leads.one used) v h is = go (complete v b h (subst (λ z. Uses p z b) (sym is) used))
    where
      go : (text_of b ≡ None) ⊎ ((w : ℕ) × (w < count) × HasEdge firsts targets v w × (at w ≡ b)) → (text_of b ≡ None) ⊎ ((w : ℕ) × (w < count) × LeadsTo firsts targets v w × (at w ≡ b))
      go (inl none) = inl none
      go (inr (w, hw, edge, e)) = inr (w, hw, LeadsTo.one edge, e)
  leads_down {b} (Leads.more {b = mid} used leads) v h is = go (λ w hw e. leads_down leads w hw e) (complete v mid h (subst (λ z. Uses p z mid) (sym is) used))
    where
      go : ((w : ℕ) → w < count → at w ≡ mid → (text_of b ≡ None) ⊎ ((x : ℕ) × (x < count) × LeadsTo firsts targets w x × (at x ≡ b)))
          → (text_of mid ≡ None) ⊎ ((w : ℕ) × (w < count) × HasEdge firsts targets v w × (at w ≡ mid)) → (text_of b ≡ None) ⊎ ((w : ℕ) × (w < count) × LeadsTo firsts targets v w × (at w ≡ b))
      go further (inl none) = absurd (leads_nowhere p none leads)
      go further (inr (w, hw, edge, e)) = on edge (further w hw e)
        where
          on : HasEdge firsts targets v w → (text_of b ≡ None) ⊎ ((x : ℕ) × (x < count) × LeadsTo firsts targets w x × (at x ≡ b)) → (text_of b ≡ None) ⊎ ((x : ℕ) × (x < count) × LeadsTo firsts targets v x × (at x ≡ b))
          on edge (inl none) = inl none
          on edge (inr (x, hx, way, f)) = inr (x, hx, LeadsTo.more edge way, f)

  pub circular_on_cycle : (v : ℕ) → v < count → LeadsTo firsts targets v v → IsCircular p (at v)
  circular_on_cycle v h way = leads_up h way

  pub cycle_of_circular : (v : ℕ) → v < count → IsCircular p (at v) → LeadsTo firsts targets v v
  cycle_of_circular v h circular = go (leads_down circular v h refl)
    where
      go : (text_of (at v) ≡ None) ⊎ ((w : ℕ) × (w < count) × LeadsTo firsts targets v w × (at w ≡ at v)) → LeadsTo firsts targets v v
      go (inl none) = absurd (leads_nowhere p none circular)
      go (inr (w, hw, way, e)) = subst (λ z. LeadsTo firsts targets v z) (distinct w v hw h e) way
