-- Formal parameters that wait for one another lead nowhere.
use Rattle.std.proofs.Common.{◌≡◌, refl, sym, ◌∙◌, ap, subst, ℕ, zero, suc, ◌+◌, ◌-◌, ◌<◌, ◌≤◌, arith, List, [], ◌∷◌, length, Option, Some, None, ◌⊎◌, inl, inr}
use Rattle.std.specs.Prelude.{slice_get}
use Rattle.std.proofs.lemmas.Option.{same_Some, slice_get_within}
use Rattle.smv_instances.specs.Program.{Name, Path, Program}
use Rattle.smv_instances.specs.Instances.{Scope}
use Rattle.smv_names.specs.declared.states.Parameter.{Parameter}
use Rattle.smv_names.specs.declared.states.States.{States}
use Rattle.smv_names.specs.declared.targets.Target.{Target as Held}
use Rattle.smv_names.specs.declared.walk.Outcome.{Outcome}
use Rattle.smv_names.specs.declared.walk.Outcome.TheVariants as outcome
use Rattle.smv_names.specs.Denotes.{Target, Meaning, Finds, meaning}
use Rattle.smv_names.specs.Heights.{finds_height, denotes_height, FindsWithin, DenotesWithin}
use Rattle.smv_names.specs.Targets.{IsTarget}
use Rattle.smv_names.specs.Passed.{IsParameter, LeadsWithin, WaitsFor, IsDecided, Walking, Deciding, KeepsStack}

pub member_at : {A : Type 0} (xs : List A) (k : ℕ) → k < length xs → (x : A) × (slice_get xs k ≡ Some x)
member_at [] k lt = absurd (omega arith)
member_at (x ∷ xs) zero lt = (x, refl)
member_at (x ∷ xs) (suc k) lt = member_at xs k (omega arith)

-- ---- each waits for another

module _ (p : Program) (stack : List Parameter)
    (waits : (k : ℕ) (at : Parameter) → slice_get stack k ≡ Some at → (j : ℕ) × (next : Parameter) × (slice_get stack j ≡ Some next) × WaitsFor p at next) where
  none_below : (n m k : ℕ) (at : Parameter) → m < n → slice_get stack k ≡ Some at → LeadsWithin p m at → ⊥
  none_below zero m k at lt stands leads = absurd (omega arith)
  none_below (suc n) m k at lt stands leads =
      let w = waits k at stands in
      let down = w.3 m leads in
      let less : down.0 < n = omega (arith, lt, down.1) in
      none_below n down.0 w.0 w.1 less w.2 down.2

  lead_nowhere : (k : ℕ) (at : Parameter) → slice_get stack k ≡ Some at → IsDecided p at None
  lead_nowhere k at stands s x is t f =
      none_below (finds_height f + 1) (finds_height f) k at (omega arith) stands (record {
        scope = s;
        name = x;
        target = t;
        is = is;
        finds = record { finds = f; height = omega arith };
      })

-- the last one waits for one that stands before
pub circle : (p : Program) (states : States) (stack : List Parameter) (last next : Parameter) (j : ℕ) → KeepsStack p states stack → slice_get stack (length stack - 1) ≡ Some last → WaitsFor p last next → slice_get stack j ≡ Some next
    → (k : ℕ) (at : Parameter) → slice_get stack k ≡ Some at → IsDecided p at None
circle p states stack last next j keeps ends waits back = lead_nowhere p stack go
  where
    go : (k : ℕ) (at : Parameter) → slice_get stack k ≡ Some at → (i : ℕ) × (after : Parameter) × (slice_get stack i ≡ Some after) × WaitsFor p at after
    go k at stands = by_place (place k (slice_get_within stack k at stands))
      where
        place : (i : ℕ) → i < length stack → (i + 1 < length stack) ⊎ (i ≡ length stack - 1)
        place i lt = grind arith

        by_place : (k + 1 < length stack) ⊎ (k ≡ length stack - 1) → (i : ℕ) × (after : Parameter) × (slice_get stack i ≡ Some after) × WaitsFor p at after
        by_place (inl lt) = let m = member_at stack (k + 1) lt in (k + 1, m.0, m.1, keeps.waits k at m.0 stands m.1)
        by_place (inr is) =
            let same : last ≡ at = same_Some _ _ (sym ends ∙ ap (slice_get stack) (sym is) ∙ stands) in
            (j, next, back, subst (λ a. WaitsFor p a next) same waits)

-- ---- from a path to the formal parameter for which it was passed

abbrev around_or : Scope → Option Meaning → Scope
around_or s (Some (Meaning.Passed around q)) = around
around_or s other = s

abbrev path_or : Path → Option Meaning → Path
path_or q (Some (Meaning.Passed around r)) = r
path_or q other = q

not_passed : {m : Option Meaning} {t : Target} {around : Scope} {q : Path} → m ≡ Some (Meaning.Direct t) → m ≡ Some (Meaning.Passed around q) → ⊥
not_passed e f = cc

pub passed_within : (p : Program) (n : ℕ) (s : Scope) (x : Name) (t : Target) (around : Scope) (q : Path) → meaning p s x ≡ Some (Meaning.Passed around q) → FindsWithin p n s x t → (m : ℕ) × (m < n) × DenotesWithin p m around q t
passed_within p n s x t around q is w = go w.finds w.height
  where
    go : (f : Finds p s x t) → finds_height f ≤ n → (m : ℕ) × (m < n) × DenotesWithin p m around q t
    go (Finds.direct e) le = absurd (not_passed e is)
    go (Finds.passed_on {around = a} {q = r} e d) le =
        let scopes : a ≡ around = ap (around_or a) (sym e ∙ is) in
        let paths : r ≡ q = ap (path_or r) (sym e ∙ is) in
        let h = denotes_height d in
        let within : DenotesWithin p h a r t = record { denotes = d; height = omega arith } in
        (h, omega (arith, le), subst (λ z. DenotesWithin p h z q t) scopes (subst (λ z. DenotesWithin p h a z t) paths within))

-- the path was passed for the formal parameter
abbrev pub IsPassed : Program → Parameter → Scope → Path → Type 0
IsPassed p at around q = (s : Scope) (x : Name) → IsParameter p at s x → meaning p s x ≡ Some (Meaning.Passed around q)

pub decided_by_path : (p : Program) (states : States) (at : Parameter) (around : Scope) (q : Path) (o : Outcome) → IsPassed p at around q → Walking p states around q o → Deciding p states at o
decided_by_path p states at around q (outcome.Found t) passed walked = λ s x is. (walked.0, walked.1, Finds.passed_on (passed s x is) walked.2)
decided_by_path p states at around q outcome.Nothing passed walked = λ s x is t f.
    let w = passed_within p (finds_height f) s x t around q (passed s x is) (record { finds = f; height = omega arith }) in
    walked t w.2.denotes
decided_by_path p states at around q (outcome.Needs next) passed walked = (
  walked.0,
  λ n leads.
      let w = passed_within p n leads.scope leads.name leads.target around q (passed leads.scope leads.name leads.is) leads.finds in
      (w.0, w.1, walked.1 w.0 leads.target w.2),
)

-- what was passed is no path, or nothing was passed
pub decided_direct : (p : Program) (at : Parameter) (held : Held) (t : Target) → IsTarget p held t → ((s : Scope) (x : Name) → IsParameter p at s x → meaning p s x ≡ Some (Meaning.Direct t)) → IsDecided p at (Some held)
decided_direct p at held t is direct s x stands = (t, is, Finds.direct (direct s x stands))

pub decided_none : (p : Program) (at : Parameter) → ((s : Scope) (x : Name) → IsParameter p at s x → meaning p s x ≡ None) → IsDecided p at None
decided_none p at none s x stands t (Finds.direct e) = absurd (let no : None ≡ Some (Meaning.Direct t) = sym (none s x stands) ∙ e in cc)
decided_none p at none s x stands t (Finds.passed_on {around = a} {q = r} e d) = absurd (let no : None ≡ Some (Meaning.Passed a r) = sym (none s x stands) ∙ e in cc)
