-- The sets of a certificate, apart from the reasons of its rows.
use Rattle.std.specs.Prelude.{◌≡◌, ◌≤◌, List, [], length, map, vec_capacity, vec_len}
use Rattle.region_sets.specs.declared.pins.Pin.{Pin}
use Rattle.strong_export.specs.declared.parting.Room.{Room}
use Rattle.strong_fair.specs.Form.{Certificate, sets_of}
use Rattle.strong_fair.specs.declared.certificate.Reason.{Reason}
use Rattle.strong_fair.specs.declared.certificate.Row.{Row}

abbrev pub row_pins : List Row → List Pin
row_pins rows = map (λ row. row.set) rows

abbrev pub row_reasons : List Row → List Reason
row_reasons rows = map (λ row. row.reason) rows

-- the reasons of a certificate's rows
abbrev pub reasons_in : {A : Type 0} → Certificate A → List Reason
reasons_in c = map (λ row. row.reason) c.rows

-- a list without sets that has room for those of the certificate, and the reasons of its rows
pub record HasRoom (c : Certificate Pin) (room : Room) : Type 0 where
  pub none : room.pins.items ≡ []
  pub empty : vec_len room.pins ≡ 0
  pub enough : length (sets_of c) ≤ vec_capacity room.pins
  pub reasons : room.reasons.items ≡ reasons_in c
