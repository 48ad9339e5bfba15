-- The tables over all abbreviations, which are filled together.
use Rattle.std.specs.Prelude.{ℕ, List, None}
use Rattle.smv_instances.specs.Program.{Expr, Program}
use Rattle.smv_instances.specs.Instances.{Scope}
use Rattle.smv_names.specs.declared.tables.Row.{Row}
use Rattle.smv_names.specs.declared.tables.Tables.{Tables}
use Rattle.smv_names.specs.Abbreviations.{Abbreviation}
use Rattle.smv_names.specs.Values.{IsNumber, IsSizeOf}
use Rattle.smv_names.specs.Known.{NumberOf, SizeOf, leaf}
use Rattle.smv_names.specs.Ends.{EndOf, IsEndOf, no_end}
use Rattle.smv_names.specs.Works.{Works}

-- what the expression e, read in s, has in them
pub record IsRow (p : Program) (s : Scope) (e : Expr) (row : Row) : Type 0 where
  pub number : IsNumber p s e row.number
  pub size : IsSizeOf p s e row.size
  pub end : IsEndOf p s e row.end

-- what an abbreviation has in them
pub record RowOf (p : Program) (a : Abbreviation) (row : Row) : Type 0 where
  pub number : NumberOf p a row.number
  pub size : SizeOf p a row.size
  pub end : EndOf p a row.end

-- the first k abbreviations of the order are in them
pub record AreFilled (p : Program) (order : List ℕ) (k : ℕ) (tables : Tables) : Type 0 where
  pub numbers : Works None (NumberOf p) p order tables.numbers.items k
  pub sizes : Works leaf (SizeOf p) p order tables.sizes.items k
  pub ends : Works (no_end p) (EndOf p) p order tables.ends.items k
