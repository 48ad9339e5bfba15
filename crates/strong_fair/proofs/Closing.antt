-- From the tests of its parts to a certificate.
use Rattle.std.proofs.Common.{◌≡◌, List, [], Bool, map, refl, sym, subst}
use Rattle.std.specs.Prelude.{IsTrue, ◌↔◌}
use Rattle.kripke_model.specs.System.{System}
use Rattle.path_laws.specs.StateSet.{StateSet, ◌∈◌}
use Rattle.region_sets.specs.declared.pins.Pin.{Pin}
use Rattle.region_sets.specs.Sets.{Sets, Adds, In, has_state, region}
use Rattle.state_reach.specs.Closed.{IsClosed}
use Rattle.strong_fair.specs.declared.certificate.Row as declared
use Rattle.strong_fair.specs.Form.{Row, Certificate, map_row}
use Rattle.strong_fair.specs.Pinned.{over_rows, over_states}
use Rattle.strong_fair.specs.Seen.{seen_row}
use Rattle.strong_fair.specs.Shows.{RowsShow, IsCertificate}
use Rattle.strong_fair.specs.Strong.{Pair}

-- s1 is behind the test of the closed set
module _ (m : System) (s0 s1 : Sets) (over : s0.over ≡ m) (pairs : List Pair) (c : Certificate Pin) (inside : Pin) (rows : List declared.Row) (p : Adds s0 s1 [])
    (inside_is : inside ≡ c.inside) (rows_are : map seen_row rows ≡ c.rows) where
  abbrev Shown : System → (Pin → StateSet) → Pin → List (Row Pin) → Type 0
  Shown n stands set rs = RowsShow n pairs (λ s. s ∈ stands set) (map (map_row stands) rs)

  same : region s1 ≡ region s0
  same i pin = has_state (p.kept pin.slot refl i)

  to_rows : Shown s1.over (region s1) inside (map seen_row rows) → Shown m (region s0) c.inside c.rows
  to_rows shows =
      subst (λ rs. Shown m (region s0) c.inside rs) rows_are
      (subst (λ set. Shown m (region s0) set (map seen_row rows)) inside_is
      (subst (λ stands. Shown m stands inside (map seen_row rows)) same
      (subst (λ n. Shown n (region s1) inside (map seen_row rows)) over
      (subst (λ n. Shown n (region s1) inside (map seen_row rows)) p.over shows))))

  from_rows : Shown m (region s0) c.inside c.rows → Shown s1.over (region s1) inside (map seen_row rows)
  from_rows shows =
      subst (λ n. Shown n (region s1) inside (map seen_row rows)) (sym p.over)
      (subst (λ n. Shown n (region s1) inside (map seen_row rows)) (sym over)
      (subst (λ stands. Shown m stands inside (map seen_row rows)) (sym same)
      (subst (λ set. Shown m (region s0) set (map seen_row rows)) (sym inside_is)
      (subst (λ rs. Shown m (region s0) c.inside rs) (sym rows_are) shows))))

  pub certificate_answer : (b : Bool) (first : Pin) → first ≡ c.inside → IsClosed s0.over (region s0 first) → IsTrue b ↔ RowsShow s1.over pairs (In s1 inside.slot) (over_rows s1 rows)
      → IsTrue b ↔ IsCertificate m pairs (over_states s0 c)
  certificate_answer b first first_is closed answer = (
    λ e. record {
      closed = subst (λ (pin : Pin). IsClosed m (region s0 pin)) first_is (subst (λ (n : System). IsClosed n (region s0 first)) over closed);
      rows = to_rows (answer.0 e);
    },
    λ shows. answer.1 (from_rows shows.rows),
  )
