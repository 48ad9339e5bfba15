-- Sets over a relation that was built, ready for a test.
use Rattle.std.proofs.Common.{◌≡◌, ◌∙◌, ℕ, ◌*◌, List, sym, ap}
use Rattle.bdd_nodes.specs.Store.{levels_of, limit_of}
use Rattle.bit_encode.specs.Code.{bit_count, state_bits, types_of}
use Rattle.diagram_sets.specs.Kept.{room_in}
use Rattle.diagram_sets.specs.declared.sets.DiagramSets.{DiagramSets}
use Rattle.kripke_model.specs.System.{System}
use Rattle.trans_parts.specs.Parts.{coding_of, model_of, store_of}
use Rattle.trans_parts.specs.declared.parts.Parts.{Parts}
use Rattle.proof_checker.specs.Imported.{seen_in}
use Rattle.proof_checker.specs.Ready.{IsReady}

pub new_ready : (m : System) (order : List ℕ) (limit : ℕ) (p : Parts) (x : DiagramSets) → model_of p ≡ m
    → limit_of (store_of p) ≡ limit → (coding_of p).order ≡ order
    → (seen_in x).over ≡ model_of p → (seen_in x).live ≡ 0
    → (seen_in x).room ≡ room_in (model_of p) (limit_of (store_of p)) → (seen_in x).fulls ≡ 0
    → (seen_in x).gauge ≡ record { levels = levels_of (store_of p); limit = limit_of (store_of p); order = (coding_of p).order }
    → IsReady m order limit x
new_ready m order limit p x model is ordered over live room fulls gauge =
    let levels : levels_of (store_of p) ≡ 2 * state_bits m =
    p.levels ∙ ap (λ types. 2 * bit_count types) p.laid_out ∙ ap (λ (n : System). 2 * bit_count (types_of n)) model in
    record {
      clear = record {
        over = over ∙ model;
        gauge = gauge ∙ (λ i. record { levels = levels i; limit = is i; order = ordered i });
        live = live;
        room = room ∙ (λ i. room_in (model i) (is i));
      };
      fulls = fulls;
    }
