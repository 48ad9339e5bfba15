-- What the tables of a flat model keep.
use Rattle.std.proofs.Common.{◌≡◌, ℕ, ◌<◌, inl, inr, ⊎_elim, List, length, get_or, sym, subst}
use Rattle.std.specs.Prelude.{Bool, All}
use Rattle.kripke_model.specs.System.{System, Assignment}
use Rattle.kripke_model.specs.Flat.{IsFlat}
use Rattle.smv_static.specs.Numbers.{row, IsBelow}
use Rattle.smv_static.specs.Groups.{IsGrouped, IsTable}
use Rattle.smv_static.specs.Sides.{IsFlagged}
use Rattle.smv_static.specs.Circles.{HasTables, IsCircular, IsLeastAmong}
use Rattle.smv_static.specs.Ways.{AreCycleFlags}
use Rattle.smv_static.proofs.NumberLemmas.{all_members}
use Rattle.smv_static.proofs.FlatLemmas.{table_below, processes_known}

pub places_known : (processes : ℕ) (assigns : List Assignment) (groups : List (List ℕ)) → IsGrouped processes assigns groups → (q : ℕ) → All (λ k. k < length assigns) (row groups q)
places_known processes assigns groups grouped q = all_members (λ k. k < length assigns) (row groups q) (λ k h. grouped.known q k h)

module _ (m : System) (flat : IsFlat m) (groups base : List (List ℕ)) (processes variables : ℕ) (tables : HasTables m groups base processes variables) where
  pub extra_below : (q : ℕ) (extra : List (List ℕ)) → IsTable m.assigns (row groups q) extra → IsBelow variables extra
  extra_below q extra table =
      subst (λ (n : ℕ). IsBelow n extra) (sym tables.variables_are) (table_below m flat (row groups q) extra (places_known processes m.assigns groups tables.grouped q) table)

  pub base_below : IsBelow variables base
  base_below = extra_below processes base tables.table

pub among_same : (flags : List Bool) (assigns others : List Assignment) (places ways : List ℕ) (bound least : ℕ) → assigns ≡ others → places ≡ ways
    → IsLeastAmong (IsFlagged flags) assigns places bound least → IsLeastAmong (IsFlagged flags) others ways bound least
among_same flags assigns others places ways bound least f g h =
    subst (λ (xs : List Assignment). IsLeastAmong (IsFlagged flags) xs ways bound least) f (subst (λ (ps : List ℕ). IsLeastAmong (IsFlagged flags) assigns ps bound least) g h)

pub known_places : (assigns others : List Assignment) (places ways : List ℕ) → assigns ≡ others → places ≡ ways → All (λ k. k < length others) ways → All (λ k. k < length assigns) places
known_places assigns others places ways e f h = subst (λ (ps : List ℕ). All (λ k. k < length assigns) ps) (sym f) (subst (λ (xs : List Assignment). All (λ k. k < length xs) ways) (sym e) h)

pub same_table : (assigns others : List Assignment) (places ways : List ℕ) (rows new : List (List ℕ)) → assigns ≡ others → places ≡ ways → new ≡ rows → IsTable assigns places rows → IsTable others ways new
same_table assigns others places ways rows new e f g h =
    subst (λ (xs : List Assignment). IsTable xs ways new) e (subst (λ (ps : List ℕ). IsTable assigns ps new) f (subst (λ (rs : List (List ℕ)). IsTable assigns places rs) (sym g) h))

pub processes_in : (m : System) (processes : ℕ) → IsFlat m → processes ≡ length m.processes → All (λ a. a.process < processes) m.assigns
processes_in m processes flat same = subst (λ (n : ℕ). All (λ a. a.process < n) m.assigns) (sym same) (processes_known m flat)

-- the least flagged place is the least one of a circular assignment
pub among_circular : (base extra : List (List ℕ)) (flags read : List Bool) (assigns : List Assignment) (places : List ℕ) (bound least : ℕ) → AreCycleFlags base extra flags → read ≡ flags
    → IsLeastAmong (IsFlagged read) assigns places bound least → IsLeastAmong (IsCircular base extra) assigns places bound least
among_circular base extra flags read assigns places bound least are same among =
    let now : AreCycleFlags base extra read = subst (λ (fs : List Bool). AreCycleFlags base extra fs) (sym same) are in
    record {
      at_most = among.at_most;
      holds = ⊎_elim (λ same. inl same) (λ h. inr (h.0, λ d. (now (get_or assigns least d).var).0 (h.1 d))) among.holds;
      none = λ k place less d c. among.none k place less d ((now (get_or assigns k d).var).1 c);
    }

pub same_flags : (base extra base' extra' : List (List ℕ)) (flags : List Bool) → base ≡ base' → extra ≡ extra' → AreCycleFlags base extra flags → AreCycleFlags base' extra' flags
same_flags base extra base' extra' flags e f are = subst (λ (b : List (List ℕ)). AreCycleFlags b extra' flags) e (subst (λ (x : List (List ℕ)). AreCycleFlags base x flags) f are)
