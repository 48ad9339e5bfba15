use Rattle.block_proofs.proofs.letting_go.VecLetGo.let_go.Given as goal

abbrev pub decreases-loop-value : goal.decreases-loop-value
decreases-loop-value g l = goal.left-loop-value g l
