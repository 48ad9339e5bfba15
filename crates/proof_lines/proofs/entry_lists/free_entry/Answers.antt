use Rattle.std.proofs.Common.{◌≡◌, ◌-◌, List, length, ap, arith}
use Rattle.region_sets.specs.declared.pins.Pin.{Pin}
use Rattle.proof_form.specs.Form.{FreeEntry}
use Rattle.claim_sets.specs.declared.claims.Claim.{Claim}
use Rattle.claim_sets.specs.ConstraintClaims.{claims_at}
use Rattle.proof_lines.proofs.EntryLoops.{free_claims, free_claims_live, free_own}
use Rattle.proof_lines.specs.LineCounts.{rule_line_count}
use Rattle.proof_lines.proofs.entry_lists.free_entry.Goals as goal

pub asked_entry-requires-clause-claims : goal.asked_entry-requires-clause-claims
asked_entry-requires-clause-claims g c =
    free_claims_live (g.S.StateSets.seen c.args.sets.now) c.args.lists.now (c.args.free.now.constraint - 1) c.deref.result.now
    (free_claims c.args.lists.now _ c.args.free.now c.free.view_is c.requires.constraint.0 c.requires.constraint.1 c.index-lists-free.result c.index-lists-free.is c.deref.result.now c.deref.ensures.value) c.requires.lists

pub asked_entry-requires-clause-numbered : goal.asked_entry-requires-clause-numbered
asked_entry-requires-clause-numbered g c =
    let at : c.deref.result.now ≡ claims_at c.args.lists.now (c.args.free.now.constraint - 1) =
    free_claims c.args.lists.now _ c.args.free.now c.free.view_is c.requires.constraint.0 c.requires.constraint.1 c.index-lists-free.result c.index-lists-free.is c.deref.result.now c.deref.ensures.value in (
      omega (arith, ap (λ (x : FreeEntry Pin). x.entry.node) c.free.view_is, c.requires.numbered.0),
      omega (arith, ap (λ (x : FreeEntry Pin). x.entry.node) c.free.view_is, ap (λ (xs : List Claim). length xs) at, c.requires.numbered.1),
    )

pub returns-clause-tested : goal.returns-clause-tested
returns-clause-tested g c =
    free_own (g.S.StateSets.seen c.args.sets.now) c.args.frame.now c.args.lists.now _ c.args.free.now c.free.view_is c.deref.result.now
    (free_claims c.args.lists.now _ c.args.free.now c.free.view_is c.requires.constraint.0 c.requires.constraint.1 c.index-lists-free.result c.index-lists-free.is c.deref.result.now c.deref.ensures.value)
    c.args.line.now c.asked_entry.result c.asked_entry.new.line c.requires.all c.requires.few c.requires.constraint.0 c.requires.constraint.1 c.requires.numbered.0 c.requires.numbered.1 c.asked_entry.ensures.tested

pub returns-clause-products : goal.returns-clause-products
returns-clause-products g c = omega (arith, c.asked_entry.ensures.products, ap (λ (x : FreeEntry Pin). rule_line_count x.entry.rule) c.free.view_is)
