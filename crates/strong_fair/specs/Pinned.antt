-- Certificates whose sets are pins: what they stand for, and which slots they hold.
use Rattle.std.specs.Prelude.{ℕ, List, map}
use Rattle.path_laws.specs.StateSet.{StateSet}
use Rattle.region_sets.specs.declared.pins.Pin.{Pin}
use Rattle.region_sets.specs.Sets.{Sets, region}
use Rattle.region_sets.specs.Ranks.{slots}
use Rattle.strong_fair.specs.declared.certificate.Row as declared
use Rattle.strong_fair.specs.Form.{Row, Certificate, map_row, map_certificate, row_sets, sets_of}
use Rattle.strong_fair.specs.Seen.{seen_row}

-- the certificate over the states that the pins stand for
abbrev pub over_states : Sets → Certificate Pin → Certificate StateSet
over_states now c = map_certificate (region now) c

abbrev pub certificate_slots : Certificate Pin → List ℕ
certificate_slots c = slots (sets_of c)

-- the same of rows alone
abbrev pub over_rows : Sets → List declared.Row → List (Row StateSet)
over_rows now rows = map (map_row (region now)) (map seen_row rows)

abbrev pub row_slots : List declared.Row → List ℕ
row_slots rows = slots (row_sets (map seen_row rows))
