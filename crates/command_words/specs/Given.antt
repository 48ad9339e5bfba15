-- What clap is told of each command, and what the words are by what it finds. Devices of the proof.
use Rattle.std.specs.Prelude.{ℕ, Bool, true, List, [], ◌∷◌, Option, Some, None, codes}
use Rattle.std.specs.Prelude.{if◌then◌else◌, fold}
use Rattle.std.specs.Option.{option_map, option_and_then}
use Rattle.clap.specs.Words.{App, Rule, new_app, new_rule, with_rule}
use Rattle.clap.specs.Simple.{on_top}
use Rattle.clap.specs.declared.builder.action.ArgAction.TheVariants.{Set, SetTrue}
use Rattle.command_words.specs.Words.{Command, Print, File, Ring, Decide, work_on, usual_limit}
use Rattle.command_words.specs.Words.{only_file, two_files, file_and_specs, only_number}
use Rattle.command_words.specs.Words.{Strong, spec_pairs}
use Rattle.command_words.specs.Words.{only_limit, only_proofs, limited_lists, recheck_work}
use Rattle.command_words.specs.Words.{delay_work, replay_work}

-- an operand of this name
abbrev pub operand_rule : List ℕ → Rule
operand_rule name = record (new_rule name) { required = true; action = Some Set }

-- an operand of this name, which may be missing
abbrev pub optional_rule : List ℕ → Rule
optional_rule name = record (new_rule name) { action = Some Set }

abbrev pub with_optional : App → List ℕ → App
with_optional app name = with_rule app (optional_rule name)

-- the option of this name, which has a value
abbrev pub option_rule : List ℕ → Rule
option_rule name = record (new_rule name) { long = Some name; action = Some Set }

-- the option of this name, which has none
abbrev pub flag_rule : List ℕ → Rule
flag_rule name = record (new_rule name) { long = Some name; action = Some SetTrue }

-- a command with no help
abbrev pub bare_app : (name : List ℕ) → App
bare_app name =
    on_top (λ s. record s { no_binary_name = true; disable_help_flag = true }) (new_app name)

abbrev pub check_app : App
check_app =
    with_rule (with_rule (with_rule (bare_app (codes "check")) (operand_rule (codes "model")))
    (option_rule (codes "nodes")))
    (option_rule (codes "proof"))

-- the command of this name, with two files
abbrev pub files_app : (name : List ℕ) → App
files_app name =
    with_rule (with_rule (with_rule (bare_app name) (operand_rule (codes "model")))
    (operand_rule (codes "file")))
    (option_rule (codes "nodes"))

abbrev pub delay_app : App
delay_app =
    with_rule (with_rule (with_rule (with_rule (bare_app (codes "delay"))
    (operand_rule (codes "model")))
    (operand_rule (codes "from")))
    (operand_rule (codes "to")))
    (option_rule (codes "nodes"))

-- the operands of `strong` that may be missing
abbrev pub pair_names : List (List ℕ)
pair_names =
    codes "pair1" ∷ codes "pair2" ∷ codes "pair3" ∷ codes "pair4" ∷ codes "pair5" ∷ codes "pair6"
    ∷ codes "pair7" ∷ codes "pair8" ∷ codes "pair9" ∷ codes "pair10" ∷ codes "pair11"
    ∷ codes "pair12" ∷ codes "pair13" ∷ codes "pair14" ∷ codes "pair15" ∷ codes "pair16" ∷ []

abbrev pub strong_app : App
strong_app =
    with_rule (fold with_optional
    (with_rule (bare_app (codes "strong")) (operand_rule (codes "model"))) pair_names)
    (option_rule (codes "nodes"))

abbrev pub gen_app : App
gen_app =
    with_rule (with_rule (bare_app (codes "gen")) (operand_rule (codes "number")))
    (flag_rule (codes "check"))

-- the one word that an argument has, or none
abbrev pub list_of : Option (List ℕ) → List (List ℕ)
list_of None = []
list_of (Some word) = word ∷ []

-- the values that are given, by the names of their arguments
abbrev pub Values : Type 0
Values = List ℕ → Option (List ℕ)

-- the limit that they ask for
abbrev pub limit_with : Values → Option ℕ
limit_with values = only_limit (list_of (values (codes "nodes")))

-- the command `check` with these operands, and values of `--nodes` and of `--proof`
abbrev pub check_lists : (models limits names : List (List ℕ)) → Option Command
check_lists models limits names =
    option_and_then (λ model. option_and_then (λ limit. option_map (λ name.
    work_on (File model) limit (Decide name))
    (only_proofs model names))
    (only_limit limits))
    (only_file models)

abbrev pub check_with : Values → Option Command
check_with values =
    check_lists (list_of (values (codes "model"))) (list_of (values (codes "nodes")))
    (list_of (values (codes "proof")))

-- a word, where it is given, and those behind it
abbrev pub with_words : Option (List ℕ) → List (List ℕ) → List (List ℕ)
with_words None words = []
with_words (Some word) words = word ∷ words

-- the words that are given for the operands of these names
abbrev pub operands_with : (names : List (List ℕ)) → Values → List (List ℕ)
operands_with [] values = []
operands_with (name ∷ names) values = with_words (values name) (operands_with names values)

-- a command with operands of these names, which are read so, and with `--nodes`
abbrev pub limited_with : {A : Type 0} → (names : List (List ℕ)) → (List (List ℕ) → Option A)
    → (A → ℕ → Command) → Values → Option Command
limited_with names read make values =
    limited_lists read make (operands_with names values) (list_of (values (codes "nodes")))

-- the operands of `recheck` and of `replay`, and those of `delay`
abbrev pub file_names : List (List ℕ)
file_names = codes "model" ∷ codes "file" ∷ []

abbrev pub delay_names : List (List ℕ)
delay_names = codes "model" ∷ codes "from" ∷ codes "to" ∷ []

abbrev pub recheck_with : Values → Option Command
recheck_with = limited_with file_names two_files recheck_work

abbrev pub replay_with : Values → Option Command
replay_with = limited_with file_names two_files replay_work

abbrev pub delay_with : Values → Option Command
delay_with = limited_with delay_names file_and_specs delay_work

abbrev pub strong_names : List (List ℕ)
strong_names = codes "model" ∷ pair_names

-- the command `strong` with these operands, and values of `--nodes`
abbrev pub strong_lists : (models words limits : List (List ℕ)) → Option Command
strong_lists models words limits =
    option_and_then (λ model. option_and_then (λ pairs. option_map (λ limit.
    work_on (File model) limit (Strong pairs))
    (only_limit limits))
    (spec_pairs words))
    (only_file models)

abbrev pub strong_with : Values → Option Command
strong_with values =
    strong_lists (list_of (values (codes "model"))) (operands_with pair_names values)
    (list_of (values (codes "nodes")))

-- the command `gen` with this operand, where `--check` stands or not
abbrev pub gen_with : Values → Bool → Option Command
gen_with values is_checked =
    option_map (λ n. if is_checked then work_on (Ring n) usual_limit (Decide None) else Print n)
    (only_number (list_of (values (codes "number"))))
