-- The commands by what is kept of their parts.
use Rattle.std.proofs.Common.{◌≡◌, ℕ, suc, ◌+◌, Bool, true, false, List, [], ◌∷◌, ◌++◌, codes}
use Rattle.std.proofs.Common.{Option, Some, None, IfSome, if◌then◌else◌, refl, sym, ap, subst, ◌∙◌}
use Rattle.std.proofs.Common.{arith}
use Rattle.std.specs.Option.{option_map, option_and_then}
use Rattle.std.proofs.lemmas.List.{append-nil}
use Rattle.command_words.specs.Given.{Values, check_lists, check_with, gen_with, list_of}
use Rattle.command_words.specs.Parts.{Part, Operand, Nodes, Proof, Check, check_form, gen_form}
use Rattle.command_words.specs.Parts.{parts_of, operands, limits, proofs, checks}
use Rattle.command_words.specs.Words.{Command, Print, File, Ring, Decide, work_on, usual_limit}
use Rattle.command_words.specs.Words.{only_file, only_number, only_limit, only_proofs, at_most_once}
use Rattle.command_words.specs.Words.{check_of, gen_of}
use Rattle.command_words.proofs.PartKinds.{Every, IsOfCheck, IsOfGen, parts_of_check, parts_of_gen}
use Rattle.command_words.proofs.Kept.{Kept, flag_value, keep_all, keep_parts}
use Rattle.command_words.proofs.Kept.{model_name, nothing, number_name, put}

-- the name of an operand that is still to come, by the word that was given for it
abbrev free_of : List ℕ → Option (List ℕ) → List (List ℕ)
free_of name None = name ∷ []
free_of name (Some word) = []

-- ---- lists that make no command

two_models : (first second : List ℕ) (models limits names : List (List ℕ))
    → check_lists (first ∷ second ∷ models) limits names ≡ None
two_models [] second models limits names = refl
two_models (byte ∷ first) second models limits names = refl

two_limits : (models names limits : List (List ℕ)) (first second : List ℕ)
    → check_lists models (first ∷ second ∷ limits) names ≡ None
two_limits models names limits first second = go (only_file models)
  where
    go : (model : Option (List ℕ))
        → option_and_then (λ model. option_and_then
        (λ limit. option_map (λ name. work_on (File model) limit (Decide name))
        (only_proofs model names)) None) model ≡ None
    go None = refl
    go (Some model) = refl

two_names : (models limits names : List (List ℕ)) (first second : List ℕ)
    → check_lists models limits (first ∷ second ∷ names) ≡ None
two_names models limits names first second = go (only_file models) (only_limit limits)
  where
    none : (model first : List ℕ) → only_proofs model (first ∷ second ∷ names) ≡ None
    none model [] = refl
    none model (byte ∷ first) = refl

    go : (model : Option (List ℕ)) (limit : Option ℕ)
        → option_and_then (λ model. option_and_then
        (λ limit. option_map (λ name. work_on (File model) limit (Decide name))
        (only_proofs model (first ∷ second ∷ names))) limit) model ≡ None
    go None limit = refl
    go (Some model) None = refl
    go (Some model) (Some limit) =
        ap (option_map (λ name. work_on (File model) limit (Decide name))) (none model first)

-- ---- from what is kept so far and the parts to come

abbrev check_kept : Option Kept → Option Command
check_kept = option_and_then (λ kept. check_with kept.values)

-- the command `check` of what is kept, with the operand that was given, and of the parts to come
abbrev IsCheck : Option (List ℕ) → Values → List Part → Type 0
IsCheck model values parts =
    check_lists (list_of model ++ operands parts) (list_of (values (codes "nodes")) ++ limits parts)
    (list_of (values (codes "proof")) ++ proofs parts)
    ≡ check_kept (keep_all (free_of (codes "model") model) values parts)

check_nodes : (model : Option (List ℕ)) (values : Values) (value : List ℕ) (parts : List Part)
    → IsCheck model (put (codes "nodes") value values) parts
    → (before : Option (List ℕ)) → values (codes "nodes") ≡ before
    → IsCheck model values (Nodes value ∷ parts)
check_nodes model values value parts rest None e = rw e rest
check_nodes model values value parts rest (Some first) e =
    rw e (two_limits (list_of model ++ operands parts)
    (list_of (values (codes "proof")) ++ proofs parts) (limits parts) first value)

check_proof : (model : Option (List ℕ)) (values : Values) (name : List ℕ) (parts : List Part)
    → IsCheck model (put (codes "proof") name values) parts
    → (before : Option (List ℕ)) → values (codes "proof") ≡ before
    → IsCheck model values (Proof name ∷ parts)
check_proof model values name parts rest None e = rw e rest
check_proof model values name parts rest (Some first) e =
    rw e (two_names (list_of model ++ operands parts)
    (list_of (values (codes "nodes")) ++ limits parts) (proofs parts) first name)

check_from : (model : Option (List ℕ)) (values : Values) → values (codes "model") ≡ model
    → (parts : List Part) → Every IsOfCheck parts → IsCheck model values parts
check_from model values is [] all =
    λ i. check_lists ((append-nil (list_of model) ∙ ap list_of (sym is)) i)
    (append-nil (list_of (values (codes "nodes"))) i)
    (append-nil (list_of (values (codes "proof"))) i)
check_from None values is (Operand word ∷ parts) all =
    rw is (check_from (Some word) (put (codes "model") word values) refl parts all.1)
check_from (Some first) values is (Operand word ∷ parts) all =
    two_models first word (operands parts) (list_of (values (codes "nodes")) ++ limits parts)
    (list_of (values (codes "proof")) ++ proofs parts)
check_from model values is (Nodes value ∷ parts) all =
    check_nodes model values value parts
    (check_from model (put (codes "nodes") value values) is parts all.1) (values (codes "nodes"))
    refl
check_from model values is (Proof name ∷ parts) all =
    check_proof model values name parts
    (check_from model (put (codes "proof") name values) is parts all.1) (values (codes "proof"))
    refl
check_from model values is (Check ∷ parts) all = absurd all.0

-- ---- the same for `gen`, whose flag stands or not

abbrev count_of : Bool → ℕ
count_of false = 0
count_of true = 1

abbrev gen_lists : List (List ℕ) → ℕ → Option Command
gen_lists words times =
    option_and_then (λ n. option_map
    (λ is_checked. if is_checked then work_on (Ring n) usual_limit (Decide None) else Print n)
    (at_most_once times)) (only_number words)

no_times : (n : Option ℕ)
    → option_and_then (λ many. option_map
    (λ is_checked. if is_checked then work_on (Ring many) usual_limit (Decide None) else Print many)
    None) n ≡ None
no_times None = refl
no_times (Some n) = refl

read_same : (n : Option ℕ) (f : ℕ → Command)
    → option_and_then (λ many. Some (f many)) n ≡ option_map f n
read_same None f = refl
read_same (Some n) f = refl

no_more : (check : Bool) → count_of check + 0 ≡ count_of check
no_more check = omega arith

once : (times : ℕ) → 1 + times ≡ 0 + (times + 1)
once times = omega arith

twice : (times : ℕ) → 1 + (times + 1) ≡ suc (suc times)
twice times = omega arith

none : (times : ℕ) → 0 + times ≡ times
none times = omega arith

gen_same : (values : Values) (check : Bool)
    → gen_lists (list_of (values (codes "number"))) (count_of check) ≡ gen_with values check
gen_same values false = read_same (only_number (list_of (values (codes "number")))) (λ n. Print n)
gen_same values true =
    read_same (only_number (list_of (values (codes "number"))))
    (λ n. work_on (Ring n) usual_limit (Decide None))

-- the command is the one of what is kept
abbrev pub IsGen : Option Command → Option Kept → Type 0
IsGen command None = command ≡ None
IsGen command (Some kept) =
    (check : Bool) × (kept.values (codes "check") ≡ flag_value check)
    × (command ≡ gen_with kept.values check)

gen_from : (number : Option (List ℕ)) (check : Bool) (values : Values)
    → values (codes "number") ≡ number → values (codes "check") ≡ flag_value check
    → (parts : List Part) → Every IsOfGen parts
    → IsGen (gen_lists (list_of number ++ operands parts) (count_of check + checks parts))
    (keep_all (free_of (codes "number") number) values parts)
gen_from number check values is_number is_check [] all = (
  check,
  is_check,
  (λ i. gen_lists ((append-nil (list_of number) ∙ ap list_of (sym is_number)) i) (no_more check i))
      ∙ gen_same values check,
)
gen_from None check values is_number is_check (Operand word ∷ parts) all =
    rw is_number (gen_from (Some word) check (put (codes "number") word values) refl is_check parts
    all.1)
gen_from (Some first) check values is_number is_check (Operand word ∷ parts) all = refl
gen_from number check values is_number is_check (Nodes value ∷ parts) all = absurd all.0
gen_from number check values is_number is_check (Proof name ∷ parts) all = absurd all.0
gen_from number false values is_number is_check (Check ∷ parts) all =
    rw is_check (subst (λ times. IsGen (gen_lists (list_of number ++ operands parts) times)
    (keep_all (free_of (codes "number") number) (put (codes "check") (codes "true") values) parts))
    (once (checks parts)) (gen_from number true (put (codes "check") (codes "true") values)
    is_number refl parts all.1))
gen_from number true values is_number is_check (Check ∷ parts) all =
    rw is_check (ap (gen_lists (list_of number ++ operands parts)) (twice (checks parts))
    ∙ no_times (only_number (list_of number ++ operands parts)))

-- ---- from nothing

pub check_words : (words : List (List ℕ))
    → check_kept (keep_parts model_name nothing (parts_of check_form words))
    ≡ option_and_then check_of (parts_of check_form words)
check_words words = go (parts_of check_form words) (parts_of_check words)
  where
    go : (parts : Option (List Part)) → IfSome parts (Every IsOfCheck)
        → check_kept (keep_parts model_name nothing parts) ≡ option_and_then check_of parts
    go None all = refl
    go (Some parts) all = sym (check_from None nothing refl parts all)

pub gen_words : (words : List (List ℕ))
    → IsGen (option_and_then gen_of (parts_of gen_form words))
    (keep_parts number_name nothing (parts_of gen_form words))
gen_words words = go (parts_of gen_form words) (parts_of_gen words)
  where
    go : (parts : Option (List Part)) → IfSome parts (Every IsOfGen)
        → IsGen (option_and_then gen_of parts) (keep_parts number_name nothing parts)
    go None all = refl
    go (Some parts) all =
        subst (λ times. IsGen (gen_lists (operands parts) times)
        (keep_all number_name nothing parts)) (none (checks parts))
        (gen_from None false nothing refl refl parts all)
