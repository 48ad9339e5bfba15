use Rattle.std.proofs.Common.{◌≡◌, ◌++◌, [], drop, map}
use Rattle.proof_text.specs.Lines.{Node, text_of}
use Rattle.command_replies.proofs.certificate_lines.push_nodes.Given as goal

-- what is there, and the lines of the nodes that are left
abbrev pub invariant-loop-node : goal.invariant-loop-node
invariant-loop-node l =
    l.text ++ text_of (map (Node []) (drop l.node-index l.nodes))
    ≡ l.initial.text ++ text_of (map (Node []) l.nodes)
