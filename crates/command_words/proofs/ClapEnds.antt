-- What clap's rows have at the end, and what fails then.
use Rattle.std.proofs.Common.{◌≡◌, ◌∙◌, ◌||◌, Bool, true, false, cond, not, List, [], ◌∷◌, ◌++◌}
use Rattle.std.proofs.Common.{codes, Option, Some, None, is_some, option_map, refl, sym, ap, subst}
use Rattle.std.specs.Prelude.{fold, slice_get}
use Rattle.std.specs.Option.{option_and_then, option_map_or}
use Rattle.clap.specs.declared.error.kind.ErrorKind.TheVariants.{MissingRequiredArgument}
use Rattle.clap.specs.Facts.{explicit_source}
use Rattle.clap.specs.Values.{bool_text}
use Rattle.clap.specs.Walk.{Row, Rule, Text, default_rows, first_of, has_row, is_empty, more_values}
use Rattle.clap.specs.Walk.{one_of, reading_by, row_text, with_default}
use Rattle.clap.specs.Kinds.{Kinds, or_else}
use Rattle.clap.specs.Takes.{is_given}
use Rattle.clap.specs.Faults.{check_fault, default_fault, defaults_fault, given_default_fault}
use Rattle.clap.specs.declared.parser.matches.ValueSource.TheVariants.{DefaultValue}
use Rattle.command_words.specs.Given.{Values}
use Rattle.command_words.specs.Given.{file_names, delay_names}
use Rattle.command_words.proofs.Kept.{Kept, flag_value, model_name, number_name, wants}
use Rattle.command_words.proofs.ClapRows.{Has, at_new, found, found_new, found_none, found_other}
use Rattle.command_words.proofs.ClapRows.{has_none, has_some, row}
use Rattle.command_words.proofs.ClapTurns.{shape_with}
use Rattle.command_words.proofs.ClapUses.{flag_built, operand_built}
use Rattle.command_words.proofs.ClapAgrees.{Agrees, ends}
use Rattle.command_words.proofs.ClapForms.{check_rules, delay_rules, files_rules, gen_rules}
use Rattle.command_words.proofs.ClapForms.{strong_rules}

-- ---- arguments without default values change nothing

if_same : {A : Type 0} (b : Bool) (x : A) → cond b x x ≡ x
if_same true x = refl
if_same false x = refl

if_either : (b : Bool) (fault : Kinds) → cond (b || true) [] fault ≡ []
if_either true fault = refl
if_either false fault = refl

module _ (rule : Rule) (none : rule.defaults ≡ []) (rows : List Row) where
  default_same : with_default rows rule ≡ rows
  default_same =
      ap (λ values. cond (has_row rule.id rows) rows
      (default_rows rule.id (reading_by rule) values rows)) none
      ∙ if_same (has_row rule.id rows) rows

  no_default_fault : default_fault rows rule ≡ []
  no_default_fault =
      ap (λ values. cond (has_row rule.id rows || is_empty values) []
      (given_default_fault rule values)) none ∙ if_either (has_row rule.id rows) _

abbrev HasNoDefaults : List Rule → Type 0
HasNoDefaults [] = Unit {0}
HasNoDefaults (rule ∷ rules) = (rule.defaults ≡ []) × HasNoDefaults rules

all_same : (rules : List Rule) → HasNoDefaults rules → (rows : List Row)
    → fold with_default rows rules ≡ rows
all_same [] none rows = refl
all_same (rule ∷ rules) none rows =
    all_same rules none.1 (with_default rows rule) ∙ default_same rule none.0 rows

no_defaults_fault : (rules : List Rule) → HasNoDefaults rules → (rows : List Row)
    → defaults_fault rows rules ≡ []
unfolding defaults_fault
no_defaults_fault [] none rows = refl
no_defaults_fault (rule ∷ rules) none rows =
    ap (λ fault. or_else fault (defaults_fault (with_default rows rule) rules))
    (no_default_fault rule none.0 rows)
    ∙ no_defaults_fault rules none.1 (with_default rows rule)

-- ---- operands that no word was given for

abbrev lacks : List Text → List Row → Bool
lacks [] rows = false
lacks (id ∷ names) rows = not (is_given id rows) || lacks names rows

module _ (rows : List Row) (values : Values) where
  abbrev HasAll : List Text → Type 0
  HasAll [] = Unit {0}
  HasAll (id ∷ names) = (found id rows ≡ option_map (row id) (values id)) × HasAll names

  given_is : (id : Text) → found id rows ≡ option_map (row id) (values id)
      → is_given id rows ≡ is_some (values id)
  given_is id has =
      ap (λ r. option_map_or (λ r. explicit_source r.source) r false) has ∙ go (values id)
    where
      go : (value : Option Text)
          → option_map_or (λ r. explicit_source r.source) (option_map (row id) value) false
          ≡ is_some value
      go None = refl
      go (Some text) = refl

  lacks_is : (names : List Text) → HasAll names → lacks names rows ≡ wants names values
  lacks_is [] has = refl
  lacks_is (id ∷ names) has = λ i. not (given_is id has.0 i) || lacks_is names has.1 i

  has_all : Has rows values → (names : List Text) → HasAll names
  has_all has [] = tt
  has_all has (id ∷ names) = (has id, has_all has names)

closed : (names : List Text) (Reads : List Row → Values → Type 0) (rows : List Row) (kept : Kept)
    (lacking : Bool) → lacking ≡ wants names kept.values
    → Reads rows kept.values
    → Agrees names Reads (cond lacking (MissingRequiredArgument ∷ []) []) rows (Some kept)
closed names Reads rows kept true e reads = sym e
closed names Reads rows kept false e reads = reads

-- ---- what the rows have of each argument

value_of : (id : Text) (value : Option Text)
    → option_and_then (λ r. slice_get r.values 0) (option_map (row id) value) ≡ value
value_of id None = refl
value_of id (Some text) = refl

first_is : (rows : List Row) (values : Values) (id : Text)
    → found id rows ≡ option_map (row id) (values id) → first_of id rows ≡ values id
first_is rows values id has =
    ap (option_and_then (λ r. slice_get r.values 0)) has ∙ value_of id (values id)

-- all that is kept
abbrev pub ReadsAll : List Row → Values → Type 0
ReadsAll rows values = (id : Text) → first_of id rows ≡ values id

-- commands without defaults
module _ (name : Text) (names : List Text) (rules : List Rule) (none : HasNoDefaults rules)
    (checked : (rows : List Row)
    → check_fault (shape_with name rules) rows false
    ≡ cond (lacks names rows) (MissingRequiredArgument ∷ []) []) where
  ending : (rows : List Row) (kept : Kept) → Has rows kept.values
      → Agrees names ReadsAll (ends (shape_with name rules) rows) (fold with_default rows rules)
      (Some kept)
  ending rows kept has =
      subst (λ now. Agrees names ReadsAll
      (or_else (defaults_fault rows rules) (check_fault (shape_with name rules) now false)) now
      (Some kept)) (sym (all_same rules none rows))
      (subst (λ fault. Agrees names ReadsAll fault rows (Some kept))
      (sym (ap (λ fault. or_else fault (check_fault (shape_with name rules) rows false))
      (no_defaults_fault rules none rows) ∙ checked rows))
      (closed names ReadsAll rows kept (lacks names rows)
      (lacks_is rows kept.values names (has_all rows kept.values has names))
      (λ id. first_is rows kept.values id (has id))))

pub check_ending : (rows : List Row) (kept : Kept) → Has rows kept.values
    → Agrees model_name ReadsAll (ends (shape_with (codes "check") check_rules) rows)
    (fold with_default rows check_rules) (Some kept)
check_ending =
    ending (codes "check") model_name check_rules (refl, (refl, (refl, tt))) (λ rows. refl)

pub files_ending : (name : Text) (rows : List Row) (kept : Kept) → Has rows kept.values
    → Agrees file_names ReadsAll (ends (shape_with name files_rules) rows)
    (fold with_default rows files_rules) (Some kept)
files_ending name =
    ending name file_names files_rules (refl, (refl, (refl, tt))) (λ rows. refl)

pub delay_ending : (rows : List Row) (kept : Kept) → Has rows kept.values
    → Agrees delay_names ReadsAll (ends (shape_with (codes "delay") delay_rules) rows)
    (fold with_default rows delay_rules) (Some kept)
delay_ending =
    ending (codes "delay") delay_names delay_rules (refl, (refl, (refl, (refl, tt))))
    (λ rows. refl)

pub strong_ending : (rows : List Row) (kept : Kept) → Has rows kept.values
    → Agrees model_name ReadsAll (ends (shape_with (codes "strong") strong_rules) rows)
    (fold with_default rows strong_rules) (Some kept)
strong_ending =
    ending (codes "strong") model_name strong_rules (
      refl,
      (
        refl,
        (
          refl,
          (
            refl,
            (
              refl,
              (
                refl,
                (
                  refl,
                  (
                    refl,
                    (
                      refl,
                      (
                        refl,
                        (
                          refl,
                          (
                            refl,
                            (
                              refl,
                              (refl, (refl, (refl, (refl, (refl, tt))))),
                            ),
                          ),
                        ),
                      ),
                    ),
                  ),
                ),
              ),
            ),
          ),
        ),
      ),
    )
    (λ rows. refl)

-- ---- the flag of `gen`, which has a default

abbrev pub ReadsGen : List Row → Values → Type 0
ReadsGen rows values =
    (first_of (codes "number") rows ≡ values (codes "number"))
    × ((check : Bool) → values (codes "check") ≡ flag_value check
    → one_of (codes "check") rows ≡ Some (bool_text check))

module _ (rows : List Row) (values : Values) (has : Has rows values) where
  abbrev with_flag : List Row
  with_flag = with_default rows (flag_built (codes "check"))

  abbrev unused : Row
  unused = record (row (codes "check") (codes "false")) { source = Some DefaultValue }

  used_same : (value : Text) → values (codes "check") ≡ Some value → with_flag ≡ rows
  used_same value e = rw (has_some rows values has (codes "check") value e) refl

  unused_added : values (codes "check") ≡ None → with_flag ≡ rows ++ unused ∷ []
  unused_added e = rw (has_none rows values has (codes "check") e)
      (at_new (codes "check") (more_values DefaultValue (codes "false" ∷ [])) (unused ∷ []) rows
      (found_none rows values has (codes "check") e))

  number_stays : (check : Option Text) → values (codes "check") ≡ check
      → found (codes "number") with_flag
      ≡ option_map (row (codes "number")) (values (codes "number"))
  number_stays None e =
      ap (found (codes "number")) (unused_added e) ∙ found_other (codes "number") rows unused refl
      ∙ has (codes "number")
  number_stays (Some value) e =
      ap (found (codes "number")) (used_same value e) ∙ has (codes "number")

  flag_is : (check : Bool) → values (codes "check") ≡ flag_value check
      → one_of (codes "check") with_flag ≡ Some (bool_text check)
  flag_is true e =
      ap (one_of (codes "check")) (used_same (codes "true") e)
      ∙ ap (option_and_then row_text)
      (has (codes "check") ∙ ap (option_map (row (codes "check"))) e)
  flag_is false e = ap (one_of (codes "check")) (unused_added e)
      ∙ ap (option_and_then row_text)
      (found_new (codes "check") rows unused (found_none rows values has (codes "check") e) refl)

gen_defaults_fault : (rows : List Row) → defaults_fault rows gen_rules ≡ []
unfolding defaults_fault
gen_defaults_fault rows =
    ap (λ fault. or_else fault (defaults_fault
    (with_default rows (operand_built 1 (codes "number"))) (flag_built (codes "check") ∷ [])))
    (no_default_fault (operand_built 1 (codes "number")) refl rows)
    ∙ go (has_row (codes "check") (with_default rows (operand_built 1 (codes "number"))))
  where
    go : (b : Bool) → or_else (cond (b || false) [] []) [] ≡ []
    go true = refl
    go false = refl

pub gen_ending : (rows : List Row) (kept : Kept) → Has rows kept.values
    → Agrees number_name ReadsGen (ends (shape_with (codes "gen") gen_rules) rows)
    (fold with_default rows gen_rules) (Some kept)
gen_ending rows kept has =
    subst (λ rs. Agrees number_name ReadsGen
    (or_else (defaults_fault rows gen_rules)
    (check_fault (shape_with (codes "gen") gen_rules) (with_default rs (flag_built (codes "check")))
    false))
    (with_default rs (flag_built (codes "check"))) (Some kept))
    (sym (default_same (operand_built 1 (codes "number")) refl rows))
    (subst (λ fault. Agrees number_name ReadsGen
    (or_else fault (check_fault (shape_with (codes "gen") gen_rules) now false)) now (Some kept))
    (sym (gen_defaults_fault rows))
    (closed number_name ReadsGen now kept (lacks number_name now)
    (lacks_is now kept.values number_name (number, tt))
    (first_is now kept.values (codes "number") number, flag_is rows kept.values has)))
  where
    now : List Row
    now = with_flag rows kept.values has

    number : found (codes "number") now
        ≡ option_map (row (codes "number")) (kept.values (codes "number"))
    number = number_stays rows kept.values has (kept.values (codes "check")) refl
