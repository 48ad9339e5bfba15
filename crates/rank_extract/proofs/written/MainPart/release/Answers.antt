use Rattle.rank_extract.proofs.PartsEnded.{layers_live, layers_once, fair_live, fair_once, entries_live, entries_once, all_ended}
use Rattle.rank_extract.proofs.written.MainPart.release.Goals as goal

pub release_layers-requires-clause-live : goal.release_layers-requires-clause-live
release_layers-requires-clause-live g c = layers_live (g.S.StateSets.seen c.args.sets.now) c.args.self c.requires.live c.requires.once

pub release_layers-requires-clause-once : goal.release_layers-requires-clause-once
release_layers-requires-clause-once g c = layers_once (g.S.StateSets.seen c.args.sets.now) c.args.self c.requires.live c.requires.once

pub release-requires-clause-live : goal.release-requires-clause-live
release-requires-clause-live g c = fair_live (g.S.StateSets.seen c.args.sets.now) c.args.self c.requires.live c.requires.once c.release_layers.ensures.pins

pub release-requires-clause-once : goal.release-requires-clause-once
release-requires-clause-once g c = fair_once (g.S.StateSets.seen c.args.sets.now) c.args.self c.requires.live c.requires.once c.release_layers.ensures.pins

pub release_entries-requires-clause-live : goal.release_entries-requires-clause-live
release_entries-requires-clause-live g c = entries_live (g.S.StateSets.seen c.args.sets.now) c.args.self c.requires.live c.requires.once c.release_layers.ensures.pins c.release.ensures.pins

pub release_entries-requires-clause-once : goal.release_entries-requires-clause-once
release_entries-requires-clause-once g c = entries_once (g.S.StateSets.seen c.args.sets.now) c.args.self c.requires.live c.requires.once c.release_layers.ensures.pins

pub returns-clause-pins : goal.returns-clause-pins
returns-clause-pins g c = all_ended (g.S.StateSets.seen c.args.sets.now) c.args.self c.requires.live c.requires.once c.release_layers.ensures.pins c.release.ensures.pins c.release_entries.ensures.pins
