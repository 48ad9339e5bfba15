-- How contracts see a row.
use Rattle.region_sets.specs.declared.pins.Pin.{Pin}
use Rattle.strong_fair.specs.declared.certificate.Row as declared
use Rattle.strong_fair.specs.Form.{Row}

abbrev pub seen_row : declared.Row → Row Pin
seen_row row = record { set = row.set; reason = row.reason }
