-- Of which kinds the parts of a command are.
use Rattle.std.proofs.Common.{ℕ, ◌+◌, Bool, true, false, List, [], ◌∷◌, ◌++◌, map, codes, bytes_eq}
use Rattle.std.proofs.Common.{nat_eq, drop, length, Option, Some, None, IfSome, if◌then◌else◌}
use Rattle.std.specs.List.{starts_with}
use Rattle.command_words.specs.Parts.{Part, Operand, Nodes, Proof, Check, Form, Unknown, Whole}
use Rattle.command_words.specs.Parts.{Valued, check_form, gen_form, limit_form, option_or}
use Rattle.command_words.specs.Parts.{is_option, before, parts_of, by_form, parts_valued}

abbrev pub Every : (Part → Type 0) → List Part → Type 0
Every Is [] = Unit {0}
Every Is (part ∷ parts) = Is part × Every Is parts

abbrev EveryOf : (Part → Type 0) → Option (List Part) → Type 0
EveryOf Is parts = IfSome parts (Every Is)

abbrev IsForm : (Part → Type 0) → Form → Type 0
IsForm Is Unknown = Unit {0}
IsForm Is (Whole part) = Is part
IsForm Is (Valued part) = (value : List ℕ) → Is (part value)

module _ (Is : Part → Type 0) (operand : (word : List ℕ) → Is (Operand word)) (form : List ℕ → Form)
    (forms : (word : List ℕ) → IsForm Is (form word)) where
  of_before : (part : Part) (parts : Option (List Part)) → Is part → EveryOf Is parts
      → EveryOf Is (before part parts)
  of_before part None one more = tt
  of_before part (Some ps) one more = (one, more)

  of_operands : (words : List (List ℕ)) → Every Is (map Operand words)
  of_operands [] = tt
  of_operands (word ∷ words) = (operand word, of_operands words)

  of_form : (what : Form) → IsForm Is what → (parts : Option (List Part)) → EveryOf Is parts
      → (valued : (List ℕ → Part) → Option (List Part))
      → ((part : List ℕ → Part) → ((value : List ℕ) → Is (part value)) → EveryOf Is (valued part))
      → EveryOf Is (by_form what parts valued)
  of_form Unknown is parts more valued every = tt
  of_form (Whole part) is parts more valued every = of_before part parts is more
  of_form (Valued part) is parts more valued every = every part is

  by_word : (word : List ℕ) (words : List (List ℕ)) → EveryOf Is (parts_of form words)
      → ((part : List ℕ → Part) → ((value : List ℕ) → Is (part value))
      → EveryOf Is (parts_valued form words part)) → (all dashed : Bool)
      → EveryOf Is (if all then Some (map Operand words)
      else if dashed then by_form (form word) (parts_of form words) (parts_valued form words)
      else before (Operand word) (parts_of form words))
  by_word word words rest valued true dashed = of_operands words
  by_word word words rest valued false true =
      of_form (form word) (forms word) (parts_of form words) rest (parts_valued form words) valued
  by_word word words rest valued false false =
      of_before (Operand word) (parts_of form words) (operand word) rest

  by_value : (part : List ℕ → Part) (value : List ℕ) (words : List (List ℕ)) → Is (part value)
      → EveryOf Is (parts_of form words)
      → (dashed : Bool)
      → EveryOf Is (if dashed then None else before (part value) (parts_of form words))
  by_value part value words is rest true = tt
  by_value part value words is rest false = of_before (part value) (parts_of form words) is rest

  mutual
    pub every_part : (words : List (List ℕ)) → EveryOf Is (parts_of form words)
    every_part [] = tt
    every_part (word ∷ words) =
        by_word word words (every_part words) (every_valued words) (bytes_eq word (codes "--"))
        (is_option word)

    every_valued : (words : List (List ℕ)) (part : List ℕ → Part)
        → ((value : List ℕ) → Is (part value)) → EveryOf Is (parts_valued form words part)
    every_valued [] part is = tt
    every_valued (value ∷ words) part is =
        by_value part value words (is value) (every_part words) (is_option value)

-- the parts of each command
abbrev pub IsOfCheck : Part → Type 0
IsOfCheck (Operand word) = Unit {0}
IsOfCheck (Nodes value) = Unit {0}
IsOfCheck (Proof name) = Unit {0}
IsOfCheck Check = ⊥

abbrev pub IsOfLimited : Part → Type 0
IsOfLimited (Operand word) = Unit {0}
IsOfLimited (Nodes value) = Unit {0}
IsOfLimited (Proof name) = ⊥
IsOfLimited Check = ⊥

abbrev pub IsOfGen : Part → Type 0
IsOfGen (Operand word) = Unit {0}
IsOfGen (Nodes value) = ⊥
IsOfGen (Proof name) = ⊥
IsOfGen Check = Unit {0}

option_forms : (Is : Part → Type 0) (option : List ℕ) (part : List ℕ → Part)
    → ((value : List ℕ) → Is (part value))
    → (others : Form) → IsForm Is others → (word : List ℕ)
    → IsForm Is (option_or option part others word)
option_forms Is option part is others are word =
    go (bytes_eq word option) (starts_with nat_eq word (option ++ codes "="))
  where
    go : (alone joined : Bool)
        → IsForm Is (if alone then Valued part
        else if joined then Whole (part (drop (length option + 1) word))
        else others)
    go true joined = is
    go false true = is (drop (length option + 1) word)
    go false false = are

check_forms : (word : List ℕ) → IsForm IsOfCheck (check_form word)
check_forms word =
    option_forms IsOfCheck (codes "--nodes") Nodes (λ value. tt)
    (option_or (codes "--proof") Proof Unknown word)
    (option_forms IsOfCheck (codes "--proof") Proof (λ value. tt) Unknown tt word) word

limit_forms : (word : List ℕ) → IsForm IsOfLimited (limit_form word)
limit_forms word = option_forms IsOfLimited (codes "--nodes") Nodes (λ value. tt) Unknown tt word

gen_forms : (word : List ℕ) → IsForm IsOfGen (gen_form word)
gen_forms word = go (bytes_eq word (codes "--check"))
  where
    go : (alone : Bool) → IsForm IsOfGen (if alone then Whole Check else Unknown)
    go true = tt
    go false = tt

pub parts_of_check : (words : List (List ℕ)) → EveryOf IsOfCheck (parts_of check_form words)
parts_of_check = every_part IsOfCheck (λ word. tt) check_form check_forms

pub parts_of_limited : (words : List (List ℕ)) → EveryOf IsOfLimited (parts_of limit_form words)
parts_of_limited = every_part IsOfLimited (λ word. tt) limit_form limit_forms

pub parts_of_gen : (words : List (List ℕ)) → EveryOf IsOfGen (parts_of gen_form words)
parts_of_gen = every_part IsOfGen (λ word. tt) gen_form gen_forms
