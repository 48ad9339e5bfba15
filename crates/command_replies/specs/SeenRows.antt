-- The certificates of the code, as the definitions have them.
use Rattle.std.specs.Prelude.{ℕ, map}
use Rattle.command_replies.specs.declared.certificate.NodeCertificate.{NodeCertificate}
use Rattle.command_replies.specs.declared.certificate.NodeRow.{NodeRow}
use Rattle.strong_fair.specs.Form.{Certificate, Row}

abbrev pub seen_row : NodeRow → Row ℕ
seen_row row = record { set = row.set; reason = row.reason }

abbrev pub certificate_of : NodeCertificate → Certificate ℕ
certificate_of c = record { inside = c.inside; rows = map seen_row c.rows.items }
