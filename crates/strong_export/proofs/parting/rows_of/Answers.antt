use Rattle.std.proofs.Common.{◌∙◌, ap, sym}
use Rattle.strong_export.specs.Parted.{reasons_in, row_reasons}
use Rattle.strong_export.proofs.Seen.{seen_reasons}
use Rattle.strong_export.proofs.parting.rows_of.Goals as goal

pub returns-clause-reasons : goal.returns-clause-reasons
returns-clause-reasons c =
    ap row_reasons c.deref.ensures.value ∙ sym (seen_reasons c.certificate.inside.rows.items)
    ∙ ap reasons_in c.certificate.view_is
