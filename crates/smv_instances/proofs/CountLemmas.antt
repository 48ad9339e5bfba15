-- Counts with one entry more, and what they are refused for.
use Rattle.std.proofs.Common.{◌≡◌, refl, sym, ◌∙◌, ap, subst, ℕ, ◌+◌, ◌<◌, ◌≤◌, arith, List, [], ◌∷◌, ◌++◌, Bool, true, false, ◌||◌, IsTrue, inl, inr}
use Rattle.std.specs.Prelude.{sum_by}
use Rattle.std.specs.List.{list_any}
use Rattle.std.proofs.lemmas.List.Folds.{list_any-append}
use Rattle.std.proofs.lemmas.List.Sums.{sum_by-append}
use Rattle.kripke_model.specs.Refusing.{Silent}
use Rattle.kripke_model.proofs.FirstLemmas.{silent_refuse, silent_then}
use Rattle.smv_instances.specs.declared.counts.Counts.{Counts}
use Rattle.kripke_model.specs.declared.refusals.Which.{Which}
use Rattle.kripke_model.specs.declared.refusals.FlatRefusal.{FlatRefusal}
use Rattle.smv_instances.specs.Program.{Plain, Program}
use Rattle.smv_instances.specs.Entries.{Entity, Entry}
use Rattle.smv_instances.specs.Instances.{Scope, depth, declares_process}
use Rattle.smv_instances.specs.Declarations.{Refusal, is_reversed, value_count, variable_count, entry_variable_count, is_instance, one_if, variables_in, instances_in, declaration_rows}
use Rattle.smv_instances.specs.Answers.{Refused}
use Rattle.smv_instances.specs.Counting.{IsCounts, IsNamed}

any_push : (es : List Entry) (e : Entry) → list_any (λ d. declares_process d.entity) (es ++ (e ∷ [])) ≡ (list_any (λ d. declares_process d.entity) es || declares_process e.entity)
any_push es e = list_any-append (λ d. declares_process d.entity) es (e ∷ []) ∙ ap (λ b. list_any (λ d. declares_process d.entity) es || b) (or_false (declares_process e.entity))
  where
    or_false : (b : Bool) → (b || false) ≡ b
    or_false true = refl
    or_false false = refl

pub sum_push : (f : Entry → ℕ) (es : List Entry) (e : Entry) → sum_by f (es ++ (e ∷ [])) ≡ sum_by f es + f e
sum_push f es e = sum_by-append f es (e ∷ []) ∙ ap (λ n. sum_by f es + n) (omega arith)

pub counts_push : (c new : Counts) (es : List Entry) (e : Entry) → IsCounts c es
    → new.variables ≡ c.variables + entry_variable_count e.entity → new.process ≡ (c.process || declares_process e.entity) → new.instances ≡ c.instances + one_if (is_instance e.entity)
    → new.variables ≤ 256 → new.instances ≤ 1023 → IsCounts new (es ++ (e ∷ []))
counts_push c new es e counts variables process instances few some = record {
  variables = variables ∙ ap (λ n. n + entry_variable_count e.entity) counts.variables ∙ sym (sum_push (λ d. entry_variable_count d.entity) es e);
  process = process ∙ ap (λ b. b || declares_process e.entity) counts.process ∙ sym (any_push es e);
  instances = instances ∙ ap (λ n. n + one_if (is_instance e.entity)) counts.instances ∙ sym (sum_push (λ d. one_if (is_instance d.entity)) es e);
  few = few;
  some = some;
}

pub variables_push : (c : Counts) (es : List Entry) (e : Entry) → IsCounts c es → variables_in (es ++ (e ∷ [])) ≡ one_if (c.process || declares_process e.entity) + (c.variables + entry_variable_count e.entity)
variables_push c es e counts =
    ap (λ b. one_if b + sum_by (λ d. entry_variable_count d.entity) (es ++ (e ∷ []))) (any_push es e ∙ ap (λ b. b || declares_process e.entity) (sym counts.process))
    ∙ ap (λ n. one_if (c.process || declares_process e.entity) + n) (sum_push (λ d. entry_variable_count d.entity) es e ∙ ap (λ n. n + entry_variable_count e.entity) (sym counts.variables))

pub instances_push : (c : Counts) (es : List Entry) (e : Entry) → IsCounts c es → instances_in (es ++ (e ∷ [])) ≡ c.instances + one_if (is_instance e.entity)
instances_push c es e counts = sum_push (λ d. one_if (is_instance d.entity)) es e ∙ ap (λ n. n + one_if (is_instance e.entity)) (sym counts.instances)

-- a variable or an array more
pub stored_count : (c : Counts) (es : List Entry) (e : Entry) (type : Plain) → IsCounts c es → e.entity ≡ Entity.Stored type → variables_in (es ++ (e ∷ [])) ≡ one_if c.process + (c.variables + variable_count type)
stored_count c es e type counts stored = variables_push c es e counts ∙ subst (λ x. one_if (c.process || declares_process x) + (c.variables + entry_variable_count x) ≡ one_if c.process + (c.variables + variable_count type)) (sym stored) (ap (λ b. one_if b + (c.variables + variable_count type)) (or_none c.process))
  where
    or_none : (b : Bool) → (b || false) ≡ b
    or_none true = refl
    or_none false = refl

pub stored_entity : (e : Entry) (type : Plain) → e.entity ≡ Entity.Stored type → (is_instance e.entity ≡ false) × (declares_process e.entity ≡ false) × (entry_variable_count e.entity ≡ variable_count type)
stored_entity e type stored = subst (λ x. (is_instance x ≡ false) × (declares_process x ≡ false) × (entry_variable_count x ≡ variable_count type)) (sym stored) (refl, refl, refl)

not_true : (b : Bool) → b ≡ false → IsTrue b → ⊥
not_true b e h = cc

module _ (p : Program) (upto : List Entry) (s : Scope) (line : ℕ) (e : Entry) (type : Plain) (stored : e.entity ≡ Entity.Stored type) where
  abbrev Rows : Entity → Refusal
  Rows x = declaration_rows p upto s line x

  pub stored_reversed : is_reversed type ≡ true → Refused (Rows e.entity) (FlatRefusal.BadType line)
  stored_reversed turned = subst (λ x. Refused (Rows x) (FlatRefusal.BadType line)) (sym stored) (inr (inl (refl, turned)))

  pub stored_values : (n : ℕ) → is_reversed type ≡ false → n ≡ value_count type → 1024 < n → Refused (Rows e.entity) (FlatRefusal.Limit line Which.Values n)
  stored_values n rises is many = subst (λ x. Refused (Rows x) (FlatRefusal.Limit line Which.Values n)) (sym stored) (inr (inr (silent_refuse (not_true _ rises), inl (ap (λ k. FlatRefusal.Limit line Which.Values k) is, subst (λ k. 1024 < k) is many))))

  pub stored_variables : (n : ℕ) → is_reversed type ≡ false → n ≡ value_count type → n ≤ 1024 → 256 < variables_in upto → Refused (Rows e.entity) (FlatRefusal.Limit line Which.Variables 257)
  stored_variables n rises is few many = subst (λ x. Refused (Rows x) (FlatRefusal.Limit line Which.Variables 257)) (sym stored) (inr (inr (silent_refuse (not_true _ rises), inr (silent_refuse (λ more. omega (arith, is)), (refl, many)))))

  pub stored_silent : (n : ℕ) → is_reversed type ≡ false → n ≡ value_count type → n ≤ 1024 → variables_in upto ≤ 256 → Silent (Rows e.entity)
  stored_silent n rises is few fits = subst (λ x. Silent (Rows x)) (sym stored) (silent_then (silent_refuse (not_true _ rises)) (silent_then (silent_refuse (λ more. omega (arith, is))) (silent_refuse (λ more. omega arith))))

-- the instance is named well: it is in a program with that module, off its own way, with as many actuals as formals
module _ (p : Program) (upto : List Entry) (s : Scope) (line : ℕ) (e : Entry) (process : Bool) (named : IsNamed p s e process) where
  abbrev Lines : Entity → Refusal
  Lines x = declaration_rows p upto s line x

  pub instance_variables : 256 < variables_in upto → Refused (Lines e.entity) (FlatRefusal.Limit line Which.Variables 257)
  instance_variables many = subst (λ x. Refused (Lines x) (FlatRefusal.Limit line Which.Variables 257)) (sym named.is) (inr (inr (silent_refuse named.found, inr (silent_refuse named.apart, inr (silent_refuse named.enough, inl (refl, many))))))

  pub instance_instances : variables_in upto ≤ 256 → 1023 < instances_in upto → Refused (Lines e.entity) (FlatRefusal.Limit line Which.Instances 1024)
  instance_instances few many = subst (λ x. Refused (Lines x) (FlatRefusal.Limit line Which.Instances 1024)) (sym named.is) (inr (inr (silent_refuse named.found, inr (silent_refuse named.apart, inr (silent_refuse named.enough, inr (silent_refuse (λ more. omega arith), inl (refl, many)))))))

  pub instance_depth : variables_in upto ≤ 256 → instances_in upto ≤ 1023 → 32 < depth s + 1 → Refused (Lines e.entity) (FlatRefusal.Limit line Which.Depth 33)
  instance_depth few some deep = subst (λ x. Refused (Lines x) (FlatRefusal.Limit line Which.Depth 33)) (sym named.is) (inr (inr (silent_refuse named.found, inr (silent_refuse named.apart, inr (silent_refuse named.enough, inr (silent_refuse (λ more. omega arith), inr (silent_refuse (λ more. omega arith), (refl, deep))))))))

  pub instance_silent : variables_in upto ≤ 256 → instances_in upto ≤ 1023 → depth s + 1 ≤ 32 → Silent (Lines e.entity)
  instance_silent few some high = subst (λ x. Silent (Lines x)) (sym named.is) (silent_then (silent_refuse named.found) (silent_then (silent_refuse named.apart) (silent_then (silent_refuse named.enough) (silent_then (silent_refuse (λ more. omega arith)) (silent_then (silent_refuse (λ more. omega arith)) (silent_refuse (λ more. omega arith)))))))

  pub instance_entity : (is_instance e.entity ≡ true) × (declares_process e.entity ≡ process) × (entry_variable_count e.entity ≡ 0)
  instance_entity = subst (λ x. (is_instance x ≡ true) × (declares_process x ≡ process) × (entry_variable_count x ≡ 0)) (sym named.is) (refl, refl, refl)
