-- The terms of operators.
use Rattle.kripke_model.specs.declared.expressions.PathOp.{PathOp}
use Rattle.kripke_model.specs.Term.{Term}
use Rattle.smv_parser.specs.declared.expressions.PrefixOperator.{PrefixOperator}

abbrev pub prefix_term : PrefixOperator → Term → Term
prefix_term PrefixOperator.Not t = Term.Not t
prefix_term PrefixOperator.ExistsNext t = Term.Quant PathOp.EX t
prefix_term PrefixOperator.AllNext t = Term.Quant PathOp.AX t
prefix_term PrefixOperator.ExistsFinally t = Term.Quant PathOp.EF t
prefix_term PrefixOperator.AllFinally t = Term.Quant PathOp.AF t
prefix_term PrefixOperator.ExistsGlobally t = Term.Quant PathOp.EG t
prefix_term PrefixOperator.AllGlobally t = Term.Quant PathOp.AG t
