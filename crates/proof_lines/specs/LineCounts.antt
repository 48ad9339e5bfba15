-- How many lines of a proof have a set from which steps lead: its `layer` and `set` lines.
use Rattle.std.specs.Prelude.{ℕ, ◌+◌, List, length, Option, Some, None}
use Rattle.std.specs.Global.{Vec}
use Rattle.std.specs.List.{sum_by}
use Rattle.proof_form.specs.Form.{Rule, EX, AX, AR, EU, AU, ER, Entry, FairPart, FreeEntry, FreePart, Proof}

abbrev pub lists_line_count : {A : Type 0} → List (Vec A) → ℕ
lists_line_count lists = sum_by (λ list. length list.items) lists

abbrev pub fair_line_count : {A : Type 0} → FairPart A → ℕ
fair_line_count p = sum_by length p.reach

abbrev pub rule_line_count : {A : Type 0} → Rule A → ℕ
rule_line_count (EX set) = 1
rule_line_count (AX set) = 1
rule_line_count (AR set) = 1
rule_line_count (EU sets) = length sets
rule_line_count (AU layers) = length layers
rule_line_count (ER fair untils) = fair_line_count fair + length untils

abbrev pub entries_line_count : {A : Type 0} → List (Entry A) → ℕ
entries_line_count entries = sum_by (λ e. rule_line_count e.rule) entries

abbrev pub free_entries_line_count : {A : Type 0} → List (FreeEntry A) → ℕ
free_entries_line_count entries = sum_by (λ e. rule_line_count e.entry.rule) entries

abbrev pub free_line_count : {A : Type 0} → FreePart A → ℕ
free_line_count p = length p.nonfair + fair_line_count p.fair + free_entries_line_count p.entries

abbrev pub free_line_count_of : {A : Type 0} → Option (FreePart A) → ℕ
free_line_count_of None = 0
free_line_count_of (Some part) = free_line_count part

-- from `nonfair` on
abbrev pub own_line_count : {A : Type 0} → Proof A → ℕ
own_line_count p = length p.nonfair + fair_line_count p.fair + entries_line_count p.entries

abbrev pub set_line_count : {A : Type 0} → Proof A → ℕ
set_line_count p = free_line_count_of p.free + own_line_count p
