-- The rows of what clap has found.
use Rattle.std.proofs.Common.{◌≡◌, ◌∙◌, ◌||◌, Bool, true, false, cond, List, [], ◌∷◌, ◌++◌}
use Rattle.std.proofs.Common.{bytes_eq, Option, Some, None, is_some, option_map, if◌then◌else◌}
use Rattle.std.proofs.Common.{refl, sym, ap, subst}
use Rattle.std.specs.Prelude.{find}
use Rattle.std.proofs.lemmas.Slice.Eq.{bytes_eq-Decides}
use Rattle.clap.specs.Walk.{Row, Text, at_row, has_row, more_values, with_values, without}
use Rattle.clap.specs.declared.builder.value_parser.Reading.TheVariants.{AsWritten}
use Rattle.clap.specs.declared.parser.matches.ValueSource.TheVariants.{CommandLine}
use Rattle.command_words.specs.Given.{Values}
use Rattle.command_words.proofs.Kept.{nothing, put}

-- the row of an argument that has this value
abbrev pub row : (id value : Text) → Row
row id value =
    record {
      id = id;
      values = value ∷ [];
      count = None;
      source = Some CommandLine;
      reading = AsWritten;
    }

abbrev pub found : Text → List Row → Option Row
found id = find (λ r. bytes_eq r.id id)

pub has_found : (id : Text) (rows : List Row) → has_row id rows ≡ is_some (found id rows)
has_found id [] = refl
has_found id (r ∷ rows) = go (bytes_eq r.id id) (has_found id rows)
  where
    go : (b : Bool) → has_row id rows ≡ is_some (found id rows)
        → (b || has_row id rows) ≡ is_some (cond b (Some r) (found id rows))
    go true e = refl
    go false e = e

pub at_new : (id : Text) (change : Row → List Row) (missing : List Row) (rows : List Row)
    → found id rows ≡ None → at_row id change missing rows ≡ rows ++ missing
at_new id change missing [] e = refl
at_new id change missing (r ∷ rows) e = go (bytes_eq r.id id) e (at_new id change missing rows)
  where
    go : (b : Bool) → cond b (Some r) (found id rows) ≡ None
        → (found id rows ≡ None → at_row id change missing rows ≡ rows ++ missing)
        → cond b (change r ++ rows) (r ∷ at_row id change missing rows) ≡ r ∷ rows ++ missing
    go true e rest = cc
    go false e rest = ap (λ rs. r ∷ rs) (rest e)

no_more : (rows : List Row) → rows ++ [] ≡ rows
no_more [] = refl
no_more (r ∷ rows) = ap (λ rs. r ∷ rs) (no_more rows)

-- the first use of an argument puts its row at the end
used_first : (id value : Text) (rows : List Row) → found id rows ≡ None
    → with_values id AsWritten CommandLine (value ∷ []) (without id rows)
    ≡ rows ++ row id value ∷ []
used_first id value rows e =
    let same : without id rows ≡ rows = at_new id (λ r. []) [] rows e ∙ no_more rows in
    ap (with_values id AsWritten CommandLine (value ∷ [])) same
    ∙ at_new id (more_values CommandLine (value ∷ [])) (row id value ∷ []) rows e

pub found_new : (id : Text) (rows : List Row) (r : Row) → found id rows ≡ None
    → bytes_eq r.id id ≡ true → found id (rows ++ r ∷ []) ≡ Some r
found_new id [] r e same = rw same refl
found_new id (first ∷ rows) r e same =
    go (bytes_eq first.id id) e (λ none. found_new id rows r none same)
  where
    go : (b : Bool) → cond b (Some first) (found id rows) ≡ None
        → (found id rows ≡ None → found id (rows ++ r ∷ []) ≡ Some r)
        → cond b (Some first) (found id (rows ++ r ∷ [])) ≡ Some r
    go true e rest = cc
    go false e rest = rest e

pub found_other : (id : Text) (rows : List Row) (r : Row) → bytes_eq r.id id ≡ false
    → found id (rows ++ r ∷ []) ≡ found id rows
found_other id [] r other = rw other refl
found_other id (first ∷ rows) r other =
    ap (cond (bytes_eq first.id id) (Some first)) (found_other id rows r other)

-- the rows have what is kept
abbrev pub Has : List Row → Values → Type 0
Has rows values = (id : Text) → found id rows ≡ option_map (row id) (values id)

pub nothing_found : Has [] nothing
nothing_found id = refl

pub same_name : (id : Text) → bytes_eq id id ≡ true
same_name id = (bytes_eq-Decides id id).1 refl

module _ (rows : List Row) (values : Values) (has : Has rows values) (id : Text) where
  pub found_none : values id ≡ None → found id rows ≡ None
  found_none e = has id ∙ ap (option_map (row id)) e

  pub has_none : values id ≡ None → has_row id rows ≡ false
  has_none e = has_found id rows ∙ ap is_some (found_none e)

  pub has_some : (value : Text) → values id ≡ Some value → has_row id rows ≡ true
  has_some value e = has_found id rows ∙ ap is_some (has id ∙ ap (option_map (row id)) e)

  -- with one argument more
  pub with_use : (value : Text) → values id ≡ None
      → Has (with_values id AsWritten CommandLine (value ∷ []) (without id rows))
      (put id value values)
  with_use value new =
      subst (λ rs. Has rs (put id value values)) (sym (used_first id value rows (found_none new)))
      (λ other. go other (bytes_eq id other) refl)
    where
      go : (other : Text) (same : Bool) → bytes_eq id other ≡ same
          → found other (rows ++ row id value ∷ [])
          ≡ option_map (row other) (if same then Some value else values other)
      go other true e =
          subst (λ name. found name (rows ++ row id value ∷ []) ≡ Some (row name value))
          ((bytes_eq-Decides id other).0 e)
          (found_new id rows (row id value) (found_none new) (same_name id))
      go other false e = found_other other rows (row id value) e ∙ has other
