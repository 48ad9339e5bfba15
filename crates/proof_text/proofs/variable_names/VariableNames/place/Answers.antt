use Rattle.proof_text.proofs.NameTables.{name_place}
use Rattle.proof_text.proofs.variable_names.VariableNames.place.Goals as goal

pub returns : goal.returns
returns c = name_place c.self.inside.set.keys c.args.self.now c.args.name.now c.get_index_of.result c.self.view_is c.get_index_of.ensures.index c.get_index_of.ensures.found
