-- What contracts see of a certificate and its rows.
use Rattle.std.proofs.Common.{◌≡◌, ◌∷◌, [], List, map, refl, ap}
use Rattle.region_sets.specs.declared.pins.Pin.{Pin}
use Rattle.strong_export.specs.Parted.{row_pins, row_reasons}
use Rattle.strong_fair.specs.Form.{Row, row_sets}
use Rattle.strong_fair.specs.Seen.{seen_row}
use Rattle.strong_fair.specs.declared.certificate.Row as declared

pub seen_pins : (rows : List declared.Row) → row_sets (map seen_row rows) ≡ row_pins rows
seen_pins [] = refl
seen_pins (row ∷ rows) = ap (λ ps. row.set ∷ ps) (seen_pins rows)

pub seen_reasons : (rows : List declared.Row)
    → map (λ (row : Row Pin). row.reason) (map seen_row rows) ≡ row_reasons rows
seen_reasons [] = refl
seen_reasons (row ∷ rows) = ap (λ rs. row.reason ∷ rs) (seen_reasons rows)
