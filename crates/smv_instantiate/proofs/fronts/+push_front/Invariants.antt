use Rattle.smv_instantiate.proofs.fronts.+push_front.Given as goal

-- an instance has a greater number than the one around it
abbrev pub decreases-push_front : goal.decreases-push_front
decreases-push_front l = l.number
