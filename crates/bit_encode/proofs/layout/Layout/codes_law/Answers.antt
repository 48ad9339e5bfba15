use Rattle.std.proofs.Common.{subst}
use Rattle.bit_encode.specs.Laws.{CodesDiffer, CodesAreValid, ValidAreCodes, FieldsSpell}
use Rattle.bit_encode.proofs.CodeLemmas.{codes_differ, codes_valid, valid_are_codes, fields_spell}
use Rattle.bit_encode.proofs.layout.Layout.codes_law.Goals as goal

pub returns-clause-differ : goal.returns-clause-differ
returns-clause-differ c = subst CodesDiffer c.self.view_is (codes_differ _ c.self.invariant.ordered)

pub returns-clause-valid : goal.returns-clause-valid
returns-clause-valid c = subst CodesAreValid c.self.view_is (codes_valid _ c.self.invariant.ordered)

pub returns-clause-codes : goal.returns-clause-codes
returns-clause-codes c = subst ValidAreCodes c.self.view_is (valid_are_codes _ c.self.invariant.ordered c.self.invariant.distinct)

pub returns-clause-fields : goal.returns-clause-fields
returns-clause-fields c = subst FieldsSpell c.self.view_is (fields_spell _ c.self.invariant.ordered)
