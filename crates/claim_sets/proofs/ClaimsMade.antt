-- The claims of a whole formula.
use Rattle.std.proofs.Common.{◌≡◌, ℕ, ◌+◌, ◌*◌, List, [], length, Result, Ok, Err, sym, ◌∙◌, ap, subst, arith, append-nil}
use Rattle.std.proofs.lemmas.List.{length-map}
use Rattle.kripke_model.specs.Ctl.{Ctl}
use Rattle.kripke_model.specs.Signs.{node_count}
use Rattle.region_sets.specs.declared.pins.SetRefusal.{SetRefusal}
use Rattle.region_sets.specs.Sets.{Sets, Adds, IsCall}
use Rattle.region_sets.proofs.Calls.{holds_more, let_go}
use Rattle.fair_rules.specs.Claims as claims
use Rattle.claim_sets.specs.declared.claims.Claim.{Claim}
use Rattle.claim_sets.specs.declared.entry_sets.Ground.{Ground}
use Rattle.proof_form.specs.declared.preorder.Node.{Node}
use Rattle.claim_sets.specs.EntrySets.{IsGroundOf}
use Rattle.proof_form.specs.Preorder.{node_view, node_views, nodes_from}
use Rattle.claim_sets.specs.Claimed.{AreClaims, AreSoFar, ArePlaced, ClaimView, Follows, claims_of, claims_slots, view_at}
use Rattle.kripke_model.specs.Leaves.{HasModelLeaves}
use Rattle.proof_form.proofs.Preordered.{nodes_length}
use Rattle.claim_sets.proofs.ClaimPins.{to_err, to_ok, claims_pins}
use Rattle.claim_sets.proofs.ClaimLists.{are_placed, claims_length, follows}

module _ (f : Ctl) (s0 s1 : Sets) (nodes : List Node) (cs : List Claim) (is : node_views nodes ≡ nodes_from f 0) where
  size : length nodes ≡ node_count f
  size = sym (length-map nodes node_view) ∙ ap length is ∙ nodes_length f 0

  pub nodes_placed : HasModelLeaves s0.over f → ArePlaced s0.over (node_views nodes)
  nodes_placed leaves = subst (λ ns. ArePlaced s0.over ns) (sym is) (are_placed s0.over f leaves)

  pub made_call : {T U : Type 0} {r : Result T SetRefusal} (x : U) → IsCall (2 * length nodes + 4) s0 s1 (claims_slots cs) r → IsCall (2 * node_count f + 8) {T = U} s0 s1 (claims_slots cs) (Ok x)
  made_call x call = to_ok x (holds_more (2 * node_count f + 8) (omega (arith, size)) call)

  pub refused_call : {T U : Type 0} (s2 : Sets) (refusal : SetRefusal) → IsCall (2 * length nodes + 4) {T = T} s0 s1 (claims_slots cs) (Err refusal) → Adds s2 s1 (claims_slots cs) → s2.fulls ≡ s1.fulls
      → IsCall (2 * node_count f + 8) {T = U} s0 s2 [] (Err refusal)
  refused_call {T} {U} s2 refusal call out fulls =
      to_err {T = T} {U = U} refusal (holds_more (2 * node_count f + 8) (omega (arith, size))
      (let_go {xs = claims_slots cs} {ys = []} (subst (λ ks. IsCall (2 * length nodes + 4) {T = T} s0 s1 ks (Err refusal)) (sym (append-nil (claims_slots cs))) call) out fulls))

  pub made_count : length cs ≡ length nodes → length cs ≡ node_count f
  made_count count = count ∙ size

  pub made_pins : length cs ≡ length nodes → length (claims_slots cs) ≡ 2 * node_count f
  made_pins count = claims_pins cs ∙ ap (λ n. 2 * n) (count ∙ size)

  pub made_claims : (ground : Ground) → length cs ≡ length nodes
      → ((p : claims.Proof) (at : ℕ → ClaimView) → IsGroundOf s0 ground p → Follows s0.over p (node_views nodes) at → AreSoFar s0.over s1 cs at)
      → (p : claims.Proof) → IsGroundOf s0 ground p → AreClaims s0.over s1 cs (claims_of s0.over p f 1 0)
  made_claims ground count each p of = record {
    count = count ∙ size ∙ sym (claims_length s0.over p f 1 0);
    each = each p (view_at (claims_of s0.over p f 1 0)) of (subst (λ ns. Follows s0.over p ns (view_at (claims_of s0.over p f 1 0))) (sym is) (follows s0.over p f));
  }
