-- The entries of a formula, from those of its root and of its parts.
use Rattle.std.proofs.Common.{◌≡◌, ℕ, ◌+◌, ◌-◌, Bool, true, false, List, [], ◌∷◌, ◌++◌, Result, Ok, Err, refl, sym, ◌∙◌, ap, ap₂, subst, append_assoc, if◌then◌else◌}
use Rattle.kripke_model.specs.Ctl.{Ctl}
use Rattle.kripke_model.specs.Signs.{node_count}
use Rattle.kripke_model.specs.Term.{Term}
use Rattle.path_laws.specs.StateSet.{StateSet}
use Rattle.region_sets.specs.declared.pins.Pin.{Pin}
use Rattle.region_sets.specs.declared.pins.SetRefusal.{SetRefusal}
use Rattle.region_sets.specs.Sets.{Sets, Adds, IsLive, region}
use Rattle.region_sets.specs.Ranks.{AreLive}
use Rattle.region_sets.proofs.Changes.{stays}
use Rattle.fair_fixpoint.specs.declared.formulas.Kind.{Kind}
use Rattle.fair_fixpoint.specs.declared.runs.NodeRun.{NodeRun}
use Rattle.fair_fixpoint.specs.Nodes.{NodeView}
use Rattle.fair_fixpoint.specs.Runs.{nodes_slots}
use Rattle.fair_fixpoint.specs.SatSets.{node_of}
use Rattle.fair_fixpoint.specs.Walks.{IsOneOf, IsTwoOf, view_at}
use Rattle.fair_fixpoint.proofs.Visited.{node_views-same}
use Rattle.proof_form.specs.Form.{Entry}
use Rattle.rank_extract.specs.Given.{entry_at, own_entries, wanted}
use Rattle.rank_extract.specs.Added.{AddsEntries}
use Rattle.rank_extract.specs.Signs.{kind_entries, first_plus, first_minus, last_plus, last_minus}
use Rattle.rank_extract.proofs.Adding.{nothing_added, then_added, ends_early}
use Rattle.rank_extract.proofs.Holders.{entry_kind}
use Rattle.rank_extract.proofs.Makes.{region_stays}
use Rattle.rank_extract.proofs.Walks.{one_wanted, two_wanted}

-- the entries of a node, and those of its parts
module _ (s : Sets) (fair : Pin) (nodes : List NodeRun) (n : ℕ) (plus minus : Bool) (kind : Kind) where
  abbrev own_part : List (Entry StateSet)
  own_part = kind_entries (region s fair) (node_of s nodes) n kind plus minus

  abbrev first_part : Ctl → List (Entry StateSet)
  first_part f = wanted (region s fair) (node_of s nodes) f (n + 1) (first_plus kind plus minus) (first_minus kind plus minus)

  abbrev last_part : Ctl → Ctl → List (Entry StateSet)
  last_part f g = wanted (region s fair) (node_of s nodes) g (n + 1 + node_count f) (last_plus kind plus minus) (last_minus kind plus minus)

-- ---- what is written stays the same through a call

module _ (fair : Pin) (nodes : List NodeRun) {a : Sets} (fair_live : IsLive a fair.slot) (nodes_live : AreLive a (nodes_slots nodes)) where
  pub nodes_stay : {b : Sets} {xs : List ℕ} → Adds a b xs → node_of b nodes ≡ node_of a nodes
  nodes_stay {b} p = ap (λ (vs : List NodeView). λ (n : ℕ). view_at vs (n - 1)) (node_views-same a b nodes (λ k e. stays p k (nodes_live k e)))

  added_stays : {T : Type 0} {b c : Sets} {xs : List ℕ} {old new : List (Entry Pin)} {r : Result T SetRefusal} (vs : StateSet → (ℕ → NodeView) → List (Entry StateSet)) → Adds a b xs
      → AddsEntries b c (vs (region b fair) (node_of b nodes)) old new r → AddsEntries b c (vs (region a fair) (node_of a nodes)) old new r
  added_stays {T} {b} {c} {xs} {old} {new} {r} vs p added = subst (λ ws. AddsEntries b c ws old new r) (ap₂ vs (region_stays fair p fair_live) (nodes_stay p)) added

  -- ---- a node's own

  module _ (n : ℕ) (some plus minus : Bool) where
    pub own_added : {T U : Type 0} {b c : Sets} {old mid new : List (Entry Pin)} {y : T} {r : Result U SetRefusal}
        → AddsEntries a b (if plus then entry_at (region a fair) (node_of a nodes) n some true ∷ [] else []) old mid (Ok y)
        → AddsEntries b c (if minus then entry_at (region b fair) (node_of b nodes) n some false ∷ [] else []) mid new r
        → AddsEntries a c (own_entries (region a fair) (node_of a nodes) n some plus minus) old new r
    own_added p q = then_added entry_kind p (added_stays (λ F at. if minus then entry_at F at n some false ∷ [] else []) p.call.pins q)

    pub own_refused : {T U : Type 0} {b : Sets} {old new : List (Entry Pin)} {e : SetRefusal}
        → AddsEntries {T = T} a b (if plus then entry_at (region a fair) (node_of a nodes) n some true ∷ [] else []) old new (Err e)
        → AddsEntries {T = U} a b (own_entries (region a fair) (node_of a nodes) n some plus minus) old new (Err e)
    own_refused p = ends_early entry_kind (if minus then entry_at (region a fair) (node_of a nodes) n some false ∷ [] else []) p

  -- ---- a formula's

  pub leaf_whole : {T : Type 0} (n : ℕ) (plus minus : Bool) (e : Term) (f : Ctl) (old : List (Entry Pin)) (y : T) → f ≡ Ctl.Leaf e → AddsEntries a a (wanted (region a fair) (node_of a nodes) f n plus minus) old old (Ok y)
  leaf_whole n plus minus e f old y is = subst (λ g. AddsEntries a a (wanted (region a fair) (node_of a nodes) g n plus minus) old old (Ok y)) (sym is) (nothing_added entry_kind a old old y refl)

  module _ (n : ℕ) (plus minus : Bool) (kind : Kind) where
    part_stays : {T : Type 0} {b c : Sets} {xs : List ℕ} {old new : List (Entry Pin)} {r : Result T SetRefusal} (f : Ctl) (k : ℕ) (p m p' m' : Bool) → p' ≡ p → m' ≡ m → Adds a b xs
        → AddsEntries b c (wanted (region b fair) (node_of b nodes) f k p' m') old new r → AddsEntries b c (wanted (region a fair) (node_of a nodes) f k p m) old new r
    part_stays {T} {b} {c} {xs} {old} {new} {r} f k p m p' m' is is' adds added =
        subst (λ ws. AddsEntries b c ws old new r) (ap₂ (λ x y. wanted (region a fair) (node_of a nodes) f k x y) is is') (added_stays (λ F at. wanted F at f k p' m') adds added)

    pub one_whole : {T U : Type 0} {b c : Sets} {old mid new : List (Entry Pin)} {y : T} {r : Result U SetRefusal} (f g : Ctl) (p m : Bool) → IsOneOf kind f g → p ≡ first_plus kind plus minus → m ≡ first_minus kind plus minus
        → AddsEntries a b (kind_entries (region a fair) (node_of a nodes) n kind plus minus) old mid (Ok y) → AddsEntries b c (wanted (region b fair) (node_of b nodes) f (n + 1) p m) mid new r
        → AddsEntries a c (wanted (region a fair) (node_of a nodes) g n plus minus) old new r
    one_whole {T} {U} {b} {c} {old} {mid} {new} {y} {r} f g p m is p_is m_is own part =
        subst (λ ws. AddsEntries a c ws old new r) (one_wanted (region a fair) (node_of a nodes) n plus minus kind f g is)
        (then_added entry_kind own (part_stays f (n + 1) (first_plus kind plus minus) (first_minus kind plus minus) p m p_is m_is own.call.pins part))

    pub one_stopped : {T U : Type 0} {b : Sets} {old new : List (Entry Pin)} {e : SetRefusal} (f g : Ctl) → IsOneOf kind f g
        → AddsEntries {T = T} a b (kind_entries (region a fair) (node_of a nodes) n kind plus minus) old new (Err e) → AddsEntries {T = U} a b (wanted (region a fair) (node_of a nodes) g n plus minus) old new (Err e)
    one_stopped {T} {U} {b} {old} {new} {e} f g is own =
        subst (λ ws. AddsEntries {T = U} a b ws old new (Err e)) (one_wanted (region a fair) (node_of a nodes) n plus minus kind f g is)
        (ends_early entry_kind (wanted (region a fair) (node_of a nodes) f (n + 1) (first_plus kind plus minus) (first_minus kind plus minus)) own)

    module _ (f g h : Ctl) (is : IsTwoOf kind f g h) where
      pub two_stopped : {T U : Type 0} {b : Sets} {old new : List (Entry Pin)} {e : SetRefusal}
          → AddsEntries {T = T} a b (kind_entries (region a fair) (node_of a nodes) n kind plus minus) old new (Err e) → AddsEntries {T = U} a b (wanted (region a fair) (node_of a nodes) h n plus minus) old new (Err e)
      two_stopped {T} {U} {b} {old} {new} {e} own =
          subst (λ ws. AddsEntries {T = U} a b ws old new (Err e)) (two_wanted (region a fair) (node_of a nodes) n plus minus kind f g h is) (ends_early entry_kind (first_part a fair nodes n plus minus kind f ++ last_part a fair nodes n plus minus kind f g) own)

      module _ {T : Type 0} {b c : Sets} {old mid new : List (Entry Pin)} {y : T} (p m : Bool) (p_is : p ≡ first_plus kind plus minus) (m_is : m ≡ first_minus kind plus minus)
          (own : AddsEntries a b (kind_entries (region a fair) (node_of a nodes) n kind plus minus) old mid (Ok y)) where
        pub first_stopped : {U V : Type 0} {e : SetRefusal} → AddsEntries {T = U} b c (wanted (region b fair) (node_of b nodes) f (n + 1) p m) mid new (Err e)
            → AddsEntries {T = V} a c (wanted (region a fair) (node_of a nodes) h n plus minus) old new (Err e)
        first_stopped {U} {V} {e} first =
            subst (λ ws. AddsEntries {T = V} a c ws old new (Err e))
            (append_assoc (own_part a fair nodes n plus minus kind) (first_part a fair nodes n plus minus kind f) (last_part a fair nodes n plus minus kind f g) ∙ two_wanted (region a fair) (node_of a nodes) n plus minus kind f g h is)
            (ends_early entry_kind (last_part a fair nodes n plus minus kind f g) (then_added entry_kind own (part_stays f (n + 1) (first_plus kind plus minus) (first_minus kind plus minus) p m p_is m_is own.call.pins first)))

        pub two_whole : {U V : Type 0} {d : Sets} {last : List (Entry Pin)} {z : U} {r : Result V SetRefusal} (k : ℕ) (p' m' : Bool) → k ≡ n + 1 + node_count f → p' ≡ last_plus kind plus minus → m' ≡ last_minus kind plus minus
            → AddsEntries b c (wanted (region b fair) (node_of b nodes) f (n + 1) p m) mid new (Ok z) → AddsEntries c d (wanted (region c fair) (node_of c nodes) g k p' m') new last r
            → AddsEntries a d (wanted (region a fair) (node_of a nodes) h n plus minus) old last r
        two_whole {U} {V} {d} {last} {z} {r} k p' m' k_is p'_is m'_is first second =
            let two = then_added entry_kind own (part_stays f (n + 1) (first_plus kind plus minus) (first_minus kind plus minus) p m p_is m_is own.call.pins first) in
            subst (λ ws. AddsEntries a d ws old last r)
            (append_assoc (own_part a fair nodes n plus minus kind) (first_part a fair nodes n plus minus kind f) (last_part a fair nodes n plus minus kind f g) ∙ two_wanted (region a fair) (node_of a nodes) n plus minus kind f g h is)
            (then_added entry_kind two
            (subst (λ j. AddsEntries c d (wanted (region a fair) (node_of a nodes) g j (last_plus kind plus minus) (last_minus kind plus minus)) new last r) k_is
            (part_stays g k (last_plus kind plus minus) (last_minus kind plus minus) p' m' p'_is m'_is two.call.pins second)))
