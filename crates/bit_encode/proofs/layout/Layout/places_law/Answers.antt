use Rattle.std.proofs.Common.{subst}
use Rattle.bit_encode.specs.Laws.{PlacesDiffer, PlacesWithin}
use Rattle.bit_encode.proofs.CodeLemmas.{places_differ, places_within}
use Rattle.bit_encode.proofs.layout.Layout.places_law.Goals as goal

pub returns-clause-differ : goal.returns-clause-differ
returns-clause-differ c = subst PlacesDiffer c.self.view_is (places_differ _ c.self.invariant.ordered)

pub returns-clause-within : goal.returns-clause-within
returns-clause-within c = subst PlacesWithin c.self.view_is (places_within _ c.self.invariant.ordered)
