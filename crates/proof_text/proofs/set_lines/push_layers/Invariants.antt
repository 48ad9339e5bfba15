use Rattle.std.proofs.Common.{◌≡◌, ◌++◌, drop, map}
use Rattle.proof_text.specs.Lines.{layer_line, text_of}
use Rattle.proof_text.proofs.set_lines.push_layers.Given as goal

-- what is there, and the lines of the layers that are left
abbrev pub invariant-loop-layer : goal.invariant-loop-layer
invariant-loop-layer l = l.text ++ text_of (map layer_line (drop l.layer-index l.layers)) ≡ l.initial.text ++ text_of (map layer_line l.layers)
