use Rattle.std.proofs.Common.{arith, refl}
use Rattle.kripke_model.specs.WellFormed.{ctl_of}
use Rattle.fair_rules.proofs.Nodes.{some_nodes}
use Rattle.proof_form.proofs.Preordered.{one_smaller, first_smaller, last_smaller, longer, two_added}
use Rattle.proof_form.proofs.preorder.+add_nodes.Goals as goal

pub add_nodes-requires : goal.add_nodes-requires
add_nodes-requires t c = omega (arith, one_smaller c.in-One.kind (ctl_of c.in-One.f.now) (ctl_of c.args.formula.now) c.in-One.ensures, c.decreases)

pub add_nodes-requires-in-Two : goal.add_nodes-requires-in-Two
add_nodes-requires-in-Two t c = omega (arith, last_smaller c.in-Two.kind (ctl_of c.in-Two.f.now) (ctl_of c.in-Two.g.now) (ctl_of c.args.formula.now) c.in-Two.ensures, c.decreases)

pub overflow_sub-last : goal.overflow_sub-last
overflow_sub-last t c = omega (arith, longer (ctl_of c.in-Two.g.now) c.args.nodes.now.items c.add_nodes-in-Two.new.nodes.items c.in_ok-add_nodes-in-Two.ensures, some_nodes (ctl_of c.in-Two.g.now), c.len-last.ensures)

pub add_nodes-requires-in-Two-2 : goal.add_nodes-requires-in-Two-2
add_nodes-requires-in-Two-2 t c = omega (arith, first_smaller c.in-Two.kind (ctl_of c.in-Two.f.now) (ctl_of c.in-Two.g.now) (ctl_of c.args.formula.now) c.in-Two.ensures, c.decreases)

pub returns-in_ok-push-in-Two : goal.returns-in_ok-push-in-Two
returns-in_ok-push-in-Two t c =
    two_added c.in-Two.kind (ctl_of c.in-Two.f.now) (ctl_of c.in-Two.g.now) (ctl_of c.args.formula.now) c.args.nodes.now.items c.add_nodes-in-Two.new.nodes.items c.add_nodes-in-Two-2.new.nodes.items c.push-in-Two.new.self.items _ _
    c.in-Two.ensures c.in_ok-add_nodes-in-Two.ensures c.in_ok-add_nodes-in-Two-2.ensures c.in_ok-push-in-Two.ensures.items refl
    (omega (arith, longer (ctl_of c.in-Two.g.now) c.args.nodes.now.items c.add_nodes-in-Two.new.nodes.items c.in_ok-add_nodes-in-Two.ensures, some_nodes (ctl_of c.in-Two.g.now), c.len-last.ensures))
