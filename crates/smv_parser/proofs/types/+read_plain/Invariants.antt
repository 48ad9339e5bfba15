use Rattle.smv_parser.proofs.types.+read_plain.Given as goal

abbrev pub decreases-read_plain : goal.decreases-read_plain
decreases-read_plain l = l.most
