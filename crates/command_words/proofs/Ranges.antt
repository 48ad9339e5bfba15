-- The numbers that are asked for are in their ranges.
use Rattle.std.proofs.Common.{◌≡◌, ℕ, ◌<◌, ◌≤◌, ◌^◌, Bool, true, false, List, [], ◌∷◌, Option, Some}
use Rattle.std.proofs.Common.{None, IfSome, if◌then◌else◌, unwrap_or, refl, arith}
use Rattle.std.specs.Option.{option_map, option_and_then}
use Rattle.command_words.specs.Number.{number_of}
use Rattle.command_words.specs.Parts.{Part, Form, check_form, gen_form, limit_form, parts_of}
use Rattle.command_words.specs.Parts.{operands, limits, proofs, checks}
use Rattle.command_words.specs.Words.{Command, Usage, Print, File, Ring, Decide, work_on}
use Rattle.command_words.specs.Words.{usual_limit, only_file, only_number, only_limit, only_proofs}
use Rattle.command_words.specs.Words.{two_files, file_and_specs, at_most_once, check_of, gen_of}
use Rattle.command_words.specs.Words.{recheck_of, recheck_work, delay_of, delay_work, command_by}
use Rattle.command_words.specs.Words.{HasLimits, HasRing, file_and_pairs, replay_of, replay_work}
use Rattle.command_words.specs.Words.{strong_of, strong_work}
use Rattle.command_words.proofs.Numbers.{number_is_decimal}

abbrev InRange : ℕ → Type 0
InRange limit = (0 < limit) × (limit < 2 ^ 31)

of_number : (most : ℕ) → most < 2 ^ 32 → (word : List ℕ)
    → IfSome (number_of most word) (λ n. (1 ≤ n) × (n ≤ most))
of_number most fits word = go (number_of most word) refl
  where
    go : (number : Option ℕ) → number_of most word ≡ number
        → IfSome number (λ n. (1 ≤ n) × (n ≤ most))
    go None e = tt
    go (Some n) e = let told = number_is_decimal most fits word n e in (told.1, told.2)

below : (limit : Option ℕ) → IfSome limit (λ n. (1 ≤ n) × (n ≤ 2147483647)) → IfSome limit InRange
below None told = tt
below (Some n) told = (omega (arith, told.0), omega (arith, told.1))

of_limit : (values : List (List ℕ)) → IfSome (only_limit values) InRange
of_limit [] = (omega arith, omega arith)
of_limit (value ∷ []) =
    below (number_of 2147483647 value) (of_number 2147483647 (omega arith) value)
of_limit (value ∷ other ∷ more) = tt

of_check : (model : Option (List ℕ)) (limit : Option ℕ) (name : List ℕ → Option (Option (List ℕ)))
    → IfSome limit InRange
    → IfSome (option_and_then (λ from. option_and_then
    (λ most. option_map (λ saved. work_on (File from) most (Decide saved)) (name from)) limit)
    model) HasLimits
of_check None limit name told = tt
of_check (Some from) None name told = tt
of_check (Some from) (Some most) name told = go (name from)
  where
    go : (saved : Option (Option (List ℕ)))
        → IfSome (option_map (λ saved. work_on (File from) most (Decide saved)) saved) HasLimits
    go None = tt
    go (Some saved) = (tt, told.0, told.1)

of_limited : {A : Type 0} (make : A → ℕ → Command)
    → ((one : A) (limit : ℕ) → InRange limit → HasLimits (make one limit))
    → (asked : Option A) (limit : Option ℕ) → IfSome limit InRange
    → IfSome (option_and_then (λ one. option_map (make one) limit) asked) HasLimits
of_limited make made None limit told = tt
of_limited make made (Some one) None told = tt
of_limited make made (Some one) (Some most) told = made one most told

of_words : (words : List (List ℕ)) → IfSome (only_number words) HasRing
of_words [] = tt
of_words (word ∷ []) = of_number 999 (omega arith) word
of_words (word ∷ other ∷ more) = tt

of_gen : (number : Option ℕ) (is_checked : Option Bool) → IfSome number HasRing
    → IfSome (option_and_then (λ n. option_map
    (λ check. if check then work_on (Ring n) usual_limit (Decide None) else Print n) is_checked)
    number) HasLimits
of_gen None is_checked told = tt
of_gen (Some n) None told = tt
of_gen (Some n) (Some true) told = (told, omega arith, omega arith)
of_gen (Some n) (Some false) told = told

or_usage : (command : Option Command) → IfSome command HasLimits
    → HasLimits (unwrap_or command Usage)
or_usage None told = tt
or_usage (Some command) told = told

of_parts : (read : List Part → Option Command)
    → ((parts : List Part) → IfSome (read parts) HasLimits)
    → (form : List ℕ → Form) (words : List (List ℕ)) → HasLimits (command_by form read words)
of_parts read told form words = go (parts_of form words)
  where
    go : (parts : Option (List Part)) → HasLimits (unwrap_or (option_and_then read parts) Usage)
    go None = tt
    go (Some parts) = or_usage (read parts) (told parts)

pub check_limits : (words : List (List ℕ)) → HasLimits (command_by check_form check_of words)
check_limits =
    of_parts check_of (λ parts. of_check (only_file (operands parts)) (only_limit (limits parts))
    (λ model. only_proofs model (proofs parts)) (of_limit (limits parts))) check_form

pub recheck_limits : (words : List (List ℕ)) → HasLimits (command_by limit_form recheck_of words)
recheck_limits =
    of_parts recheck_of (λ parts. of_limited recheck_work (λ names limit told. (tt, told.0, told.1))
    (two_files (operands parts)) (only_limit (limits parts)) (of_limit (limits parts))) limit_form

pub replay_limits : (words : List (List ℕ)) → HasLimits (command_by limit_form replay_of words)
replay_limits =
    of_parts replay_of (λ parts. of_limited replay_work (λ names limit told. (tt, told.0, told.1))
    (two_files (operands parts)) (only_limit (limits parts)) (of_limit (limits parts))) limit_form

pub delay_limits : (words : List (List ℕ)) → HasLimits (command_by limit_form delay_of words)
delay_limits =
    of_parts delay_of (λ parts. of_limited delay_work (λ asked limit told. (tt, told.0, told.1))
    (file_and_specs (operands parts)) (only_limit (limits parts)) (of_limit (limits parts)))
    limit_form

pub strong_limits : (words : List (List ℕ)) → HasLimits (command_by limit_form strong_of words)
strong_limits =
    of_parts strong_of (λ parts. of_limited strong_work (λ asked limit told. (tt, told.0, told.1))
    (file_and_pairs (operands parts)) (only_limit (limits parts)) (of_limit (limits parts)))
    limit_form

pub gen_limits : (words : List (List ℕ)) → HasLimits (command_by gen_form gen_of words)
gen_limits =
    of_parts gen_of (λ parts. of_gen (only_number (operands parts)) (at_most_once (checks parts))
    (of_words (operands parts))) gen_form
