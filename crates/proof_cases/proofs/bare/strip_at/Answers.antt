use Rattle.proof_cases.proofs.Stripped.{pins_at, less_at}
use Rattle.proof_cases.proofs.bare.strip_at.Goals as goal

pub strip_entry-requires : goal.strip_entry-requires
strip_entry-requires g c = pins_at (g.S.StateSets.seen c.args.sets.now) c.args.entries.now.items c.args.k c.index_mut.result.now c.requires.there c.index_mut.ensures.value c.requires.pins

pub returns-clause-less : goal.returns-clause-less
returns-clause-less g c =
    less_at (g.S.StateSets.seen c.args.sets.now) (g.S.StateSets.seen c.strip_entry.new.sets) c.args.entries.now.items c.args.k c.index_mut.result.now c.strip_entry.new.entry c.requires.there
    c.index_mut.ensures.value c.strip_entry.ensures
