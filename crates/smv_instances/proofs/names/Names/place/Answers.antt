use Rattle.std.proofs.Common.{ℕ, List, Bor}
use Rattle.std.specs.Str.{bytes_eq}
use Rattle.smv_instances.proofs.NameLemmas.{any_map, place_map, place_of_position, none_if_absent}
use Rattle.smv_instances.proofs.names.Names.place.Goals as goal

pub returns-clause-place : goal.returns-clause-place
returns-clause-place c =
    let q = bytes_eq c.args.name.now in
    rw (← c.self.view_is) (rw (place_map q (λ (k : Bor (List ℕ)). k.now) c.self.inside.set.keys) (place_of_position (λ (k : Bor (List ℕ)). q k.now) c.self.inside.set.keys _ c.get_index_of.ensures.index))

pub returns-clause-none : goal.returns-clause-none
returns-clause-none c =
    let q = bytes_eq c.args.name.now in
    rw (← c.self.view_is) (rw (any_map q (λ (k : Bor (List ℕ)). k.now) c.self.inside.set.keys) (none_if_absent _ _ c.get_index_of.ensures.found))

pub returns-clause-found : goal.returns-clause-found
returns-clause-found c =
    let q = bytes_eq c.args.name.now in
    rw (← c.self.view_is) (rw (any_map q (λ (k : Bor (List ℕ)). k.now) c.self.inside.set.keys) c.get_index_of.ensures.found)
