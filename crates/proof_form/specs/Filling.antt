-- Numbers that take the places of the sets in parts of a proof, in turn.
use Rattle.std.specs.Prelude.{◌≡◌, ℕ, ◌+◌, List, ◌++◌, length, map, drop, option_map, Option}
use Rattle.std.specs.Global.{Vec}
use Rattle.proof_form.specs.Form.{Layer, Rule, FairPart, Entry, FreeEntry, FreePart, Proof, map_layer, map_fair, map_rule, map_entry, map_free_entry, map_free, map_proof}

-- these are the numbers from one place up to another
pub record AreTaken (numbers : List ℕ) (from to : ℕ) (taken : List ℕ) : Type 0 where
  pub place : to ≡ from + length taken
  pub rest : drop from numbers ≡ taken ++ drop to numbers

-- ---- parts without their sets, which are their forms

abbrev pub blank : {A : Type 0} → A → Unit {0}
blank a = tt

abbrev pub list_form : {A : Type 0} → List A → List (Unit {0})
list_form sets = map blank sets

-- the lists themselves
abbrev pub lists_of : {A : Type 0} → List (Vec A) → List (List A)
lists_of lists = map (λ list. list.items) lists

abbrev pub lists_form : {A : Type 0} → List (List A) → List (List (Unit {0}))
lists_form lists = map (map blank) lists

abbrev pub layers_form : {A : Type 0} → List (Layer A) → List (Layer (Unit {0}))
layers_form layers = map (map_layer blank) layers

abbrev pub fair_form : {A : Type 0} → FairPart A → FairPart (Unit {0})
fair_form part = map_fair blank part

abbrev pub rule_form : {A : Type 0} → Rule A → Rule (Unit {0})
rule_form rule = map_rule blank rule

abbrev pub entry_form : {A : Type 0} → Entry A → Entry (Unit {0})
entry_form entry = map_entry blank entry

abbrev pub entries_form : {A : Type 0} → List (Entry A) → List (Entry (Unit {0}))
entries_form entries = map (map_entry blank) entries

abbrev pub free_entries_form : {A : Type 0} → List (FreeEntry A) → List (FreeEntry (Unit {0}))
free_entries_form entries = map (map_free_entry blank) entries

abbrev pub free_form : {A : Type 0} → FreePart A → FreePart (Unit {0})
free_form part = map_free blank part

abbrev pub free_form_of : {A : Type 0} → Option (FreePart A) → Option (FreePart (Unit {0}))
free_form_of part = option_map free_form part

abbrev pub proof_form_of : {A : Type 0} → Proof A → Proof (Unit {0})
proof_form_of p = map_proof blank p
