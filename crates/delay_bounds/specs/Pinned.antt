-- Proofs of delays whose sets are pins: what they stand for, and which slots they hold.
use Rattle.std.specs.Prelude.{ℕ, List, [], Result, Ok, Err}
use Rattle.path_laws.specs.StateSet.{StateSet}
use Rattle.region_sets.specs.declared.pins.Pin.{Pin}
use Rattle.region_sets.specs.declared.pins.SetRefusal.{SetRefusal}
use Rattle.region_sets.specs.Sets.{Sets, region}
use Rattle.region_sets.specs.Ranks.{slots}
use Rattle.delay_bounds.specs.declared.proof.Shortest as shortest
use Rattle.delay_bounds.specs.Form.{Shortest, Longest, DelayProof, map_shortest, map_longest, map_proof, sets_of, shortest_sets}
use Rattle.delay_bounds.specs.Seen.{seen_shortest}

-- the proof over the states that the pins stand for
abbrev pub over_states : Sets → DelayProof Pin → DelayProof StateSet
over_states now proof = map_proof (region now) proof

abbrev pub over_shortest : Sets → Shortest Pin → Shortest StateSet
over_shortest now shortest = map_shortest (region now) shortest

abbrev pub over_longest : Sets → Longest Pin → Longest StateSet
over_longest now longest = map_longest (region now) longest

abbrev pub proof_slots : DelayProof Pin → List ℕ
proof_slots proof = slots (sets_of proof)

abbrev pub result_slots : Result (DelayProof Pin) SetRefusal → List ℕ
result_slots (Ok proof) = proof_slots proof
result_slots (Err refusal) = []

-- the slots of the pins in the answer of a search
abbrev pub shortest_slots : Result shortest.Shortest SetRefusal → List ℕ
shortest_slots (Ok answer) = slots (shortest_sets (seen_shortest answer))
shortest_slots (Err refusal) = []
