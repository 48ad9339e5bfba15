use Rattle.std.proofs.Common.{◌-◌, [], ◌∷◌, refl, sym, subst, arith}
use Rattle.path_laws.specs.StateSet.{StateSet}
use Rattle.region_sets.specs.Ranks.{AreLive}
use Rattle.fair_fixpoint.specs.declared.runs.NodeRun.{NodeRun}
use Rattle.fair_fixpoint.specs.Runs.{node_slots}
use Rattle.proof_form.specs.Form.{Entry}
use Rattle.rank_extract.specs.Made.{AreAdded, entry_own, entry_seen, entry_size}
use Rattle.rank_extract.proofs.Adding.{nothing_added}
use Rattle.rank_extract.proofs.EntryParts.{node_live, sign_entry_is}
use Rattle.rank_extract.proofs.Holders.{entry_kind}
use Rattle.rank_extract.proofs.entries.add_if.Goals as goal

pub add_entry-requires-clause-node : goal.add_entry-requires-clause-node
add_entry-requires-clause-node g c =
    subst (λ (x : NodeRun). AreLive (g.S.StateSets.seen c.args.sets.now) (node_slots x)) (sym c.index-nodes-number.is)
    (node_live (g.S.StateSets.seen c.args.sets.now) c.args.nodes.now (c.args.number - 1) c.index-nodes-number.result c.requires.nodes (omega arith))

pub returns-then-wanted : goal.returns-then-wanted
returns-then-wanted g c =
    rw c.if-wanted.true
    (subst (λ (e : Entry StateSet). AreAdded {T = Unit {0}} entry_own entry_seen entry_size (g.S.StateSets.seen c.args.sets.now) (g.S.StateSets.seen c.add_entry.new.sets) (e ∷ []) c.args.entries.now.items c.add_entry.new.entries.items c.add_entry.result)
    (sign_entry_is (g.S.StateSets.seen c.args.sets.now) c.args.fair.now c.args.nodes.now c.args.number c.args.some c.args.plus c.index-nodes-number.result c.requires.first c.requires.there c.index-nodes-number.is)
    c.add_entry.ensures)

pub returns-else-wanted : goal.returns-else-wanted
returns-else-wanted g c = rw c.if-wanted.false (nothing_added entry_kind (g.S.StateSets.seen c.args.sets.now) c.args.entries.now.items c.args.entries.now.items tt refl)
