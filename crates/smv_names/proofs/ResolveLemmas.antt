-- What a path denotes, part by part, as far as it is known what the formal parameters lead to.
use Rattle.std.proofs.Common.{◌≡◌, refl, sym, ◌∙◌, ap, subst, ℕ, ◌≤◌, arith, List, [], ◌∷◌, ◌++◌, reverse, Bool, true, false, Option, Some, None}
use Rattle.std.specs.Prelude.{IsTrue, Result, Ok, Err, IfOk}
use Rattle.std.proofs.lemmas.Grind.{reverse_onto}
use Rattle.smv_parser.specs.declared.expressions.PathPart.{PathPart, Field, Index'}
use Rattle.smv_instances.specs.Program.{Name, Expr, Path, Plain, Program}
use Rattle.smv_instances.specs.Plain.{plain_expr, plain_type}
use Rattle.smv_instances.specs.Instances.{Scope, is_symbol, place_of, symbols}
use Rattle.smv_instances.specs.Numbered.{scope_at}
use Rattle.std.specs.List.{AllZip}
use Rattle.smv_instances.proofs.TableLemmas.{pairs_push}
use Rattle.smv_names.specs.declared.targets.Bracket.{Bracket as HeldBracket}
use Rattle.smv_names.specs.declared.targets.Target.{Target as Held}
use Rattle.smv_names.specs.declared.targets.Target.TheVariants as held
use Rattle.smv_names.specs.declared.states.Parameter.{Parameter}
use Rattle.smv_names.specs.declared.states.States.{States}
use Rattle.smv_names.specs.declared.walk.Outcome.{Outcome}
use Rattle.smv_names.specs.declared.walk.Outcome.TheVariants as outcome
use Rattle.smv_names.specs.Written.{extended}
use Rattle.smv_names.specs.Expands.{is_array}
use Rattle.smv_names.specs.Denotes.{Bracket, Target, Meaning, Denotes, Finds, meaning}
use Rattle.smv_names.specs.Heights.{denotes_height, FindsWithin}
use Rattle.smv_names.specs.Targets.{IsBracket, AreBrackets, IsTarget, Resolves}
use Rattle.smv_names.specs.Passed.{AreDecided, Deciding, LeadsWithin, Finding, Walking}
use Rattle.smv_names.proofs.Once.{denotes_one}
use Rattle.smv_names.proofs.WaitLemmas.{IsPassed, decided_by_path}

-- ---- a name alone

no_meaning : {o : Option Meaning} {m : Meaning} → o ≡ None → o ≡ Some m → ⊥
no_meaning none some = cc

pub here_found : (p : Program) (states : States) (s : Scope) (line : ℕ) (x : Name) (m : Meaning) (o : Outcome) → meaning p s x ≡ Some m → Finding p states s x o → Walking p states s (Path.Here line x) o
here_found p states s line x m (outcome.Found t) is found = (found.0, found.1, Denotes.here found.2)
here_found p states s line x m outcome.Nothing is found = λ t d. go t d
  where
    go : (t : Target) → Denotes p s (Path.Here line x) t → ⊥
    go t (Denotes.here f) = found t f
    go t (Denotes.constant none known) = no_meaning none is
here_found p states s line x m (outcome.Needs at) is found = (found.0, λ n t w. go n t w.denotes w.height)
  where
    go : (n : ℕ) (t : Target) (d : Denotes p s (Path.Here line x) t) → denotes_height d ≤ n → LeadsWithin p n at
    go n t (Denotes.here f) le = found.1 n t (record { finds = f; height = le })
    go n t (Denotes.constant none known) le = absurd (no_meaning none is)

nothing_found : {p : Program} {s : Scope} {x : Name} {t : Target} → meaning p s x ≡ None → Finds p s x t → ⊥
nothing_found none (Finds.direct e) = no_meaning none e
nothing_found none (Finds.passed_on e d) = no_meaning none e

pub here_constant : (p : Program) (states : States) (s : Scope) (line : ℕ) (x : Name) (place : ℕ) → meaning p s x ≡ None → IsTrue (is_symbol p x) → place ≡ place_of (symbols p) x → Walking p states s (Path.Here line x) (outcome.Found (held.Constant place))
here_constant p states s line x place none known at = (Target.Constant x, at, Denotes.constant none known)

pub here_nothing : (p : Program) (states : States) (s : Scope) (line : ℕ) (x : Name) → meaning p s x ≡ None → is_symbol p x ≡ false → Walking p states s (Path.Here line x) outcome.Nothing
here_nothing p states s line x none unknown = λ t d. go t d
  where
    go : (t : Target) → Denotes p s (Path.Here line x) t → ⊥
    go t (Denotes.here f) = nothing_found none f
    go t (Denotes.constant missing known) = let both : false ≡ true = sym unknown ∙ known in cc

pub finding_nothing : (p : Program) (states : States) (s : Scope) (x : Name) → meaning p s x ≡ None → Finding p states s x outcome.Nothing
finding_nothing p states s x none = λ t f. nothing_found none f

-- ---- a field

abbrev pub scope_or : Scope → Target → Scope
scope_or s (Target.Instance i) = i
scope_or s (Target.Stored home x type indexes) = s
scope_or s (Target.Reading home e) = s
scope_or s (Target.Constant x) = s

pub record IsInstance (p : Program) (number : ℕ) (u : Target) : Type 0 where
  pub scope : Scope
  pub is : u ≡ Target.Instance scope
  pub numbered : scope_at p number ≡ Some scope

pub instance_target : (p : Program) (number : ℕ) (u : Target) → IsTarget p (held.Instance number) u → IsInstance p number u
instance_target p number (Target.Instance i) is = record { scope = i; is = refl; numbered = is }
instance_target p number (Target.Stored home x type indexes) is = absurd is
instance_target p number (Target.Reading home e) is = absurd is
instance_target p number (Target.Constant x) is = absurd is

pub field_found : (p : Program) (states : States) (s : Scope) (q : Path) (x : Name) (number : ℕ) (o : Outcome) → Resolves p s q (Some (held.Instance number))
    → ((i : Scope) → scope_at p number ≡ Some i → Finding p states i x o) → Walking p states s (Path.Field q x) o
field_found p states s q x number o front found = by_instance (instance_target p number front.0 front.1)
  where
    by_instance : IsInstance p number front.0 → Walking p states s (Path.Field q x) o
    by_instance at = go o (found at.scope at.numbered)
      where
        denotes : Denotes p s q (Target.Instance at.scope)
        denotes = subst (λ z. Denotes p s q z) at.is front.2

        same : (i : Scope) → Denotes p s q (Target.Instance i) → i ≡ at.scope
        same i d = ap (scope_or s) (denotes_one d denotes)

        nowhere : ((t : Target) → Finds p at.scope x t → ⊥) → (t : Target) → Denotes p s (Path.Field q x) t → ⊥
        nowhere missing t (Denotes.field {i = i} d f) = missing t (subst (λ z. Finds p z x t) (same i d) f)

        needs : (a : Parameter) → ((n : ℕ) (t : Target) → FindsWithin p n at.scope x t → LeadsWithin p n a) → (n : ℕ) (t : Target) (d : Denotes p s (Path.Field q x) t) → denotes_height d ≤ n → LeadsWithin p n a
        needs a leads n t (Denotes.field {i = i} d f) le =
            let within : FindsWithin p n i x t = record { finds = f; height = omega (arith, le) } in
            leads n t (subst (λ z. FindsWithin p n z x t) (same i d) within)

        go : (r : Outcome) → Finding p states at.scope x r → Walking p states s (Path.Field q x) r
        go (outcome.Found t) (u, is, f) = (u, is, Denotes.field denotes f)
        go outcome.Nothing missing = nowhere missing
        go (outcome.Needs a) (unknown, leads) = (unknown, λ n t w. needs a leads n t w.denotes w.height)

pub field_other : (p : Program) (states : States) (s : Scope) (q : Path) (x : Name) (t : Held) → Resolves p s q (Some t) → ((number : ℕ) → t ≡ held.Instance number → ⊥) → Walking p states s (Path.Field q x) outcome.Nothing
field_other p states s q x t front other = λ u d. go u d
  where
    differs : (h : Held) (i : Scope) → h ≡ t → IsTarget p h (Target.Instance i) → ⊥
    differs (held.Instance number) i is target = other number (sym is)
    differs (held.Stored home name plain indexes) i is target = target
    differs (held.Reading home right node) i is target = target
    differs (held.Constant place) i is target = target

    go : (u : Target) → Denotes p s (Path.Field q x) u → ⊥
    go u (Denotes.field {i = i} d f) = differs t i refl (subst (λ z. IsTarget p t z) (denotes_one front.2 d) front.1)

-- ---- an index

-- new is what the bracket b selects from
abbrev pub IsElement : Held → HeldBracket → Held → Type 0
IsElement (held.Stored home name plain indexes) b (held.Stored home' name' plain' indexes') = (home' ≡ home) × (name'.now ≡ name.now) × (plain_type plain.now ≡ Plain.Array b.low b.high (plain_type plain'.now)) × (indexes'.items ≡ indexes.items ++ (b ∷ []))
IsElement t b u = ⊥

abbrev pub is_array_held : Held → Bool
is_array_held (held.Stored home name plain indexes) = is_array (plain_type plain.now)
is_array_held (held.Reading home right node) = false
is_array_held (held.Instance number) = false
is_array_held (held.Constant place) = false

brackets_push : (p : Program) (held : List HeldBracket) (indexes : List Bracket) (b : HeldBracket) (c : Bracket) → AreBrackets p held indexes → IsBracket p b c → AreBrackets p (held ++ (b ∷ [])) (c ∷ indexes)
brackets_push p held indexes b c are is =
    subst (λ cs. AllZip (IsBracket p) (held ++ (b ∷ [])) cs) (sym (reverse_onto indexes c [])) (pairs_push (IsBracket p) held (reverse indexes) b c are is)

pub element_found : (p : Program) (states : States) (s : Scope) (q : Path) (e : Expr) (front new : Held) (b : HeldBracket) → IsElement front b new → scope_at p b.scope ≡ Some s → plain_expr b.index.now ≡ e → Resolves p s q (Some front)
    → Walking p states s (Path.Index q e) (outcome.Found new)
element_found p states s q e (held.Stored home name plain indexes) (held.Stored home' name' plain' indexes') b is read written front = go front.0 front.1 front.2
  where
    go : (u : Target) → IsTarget p (held.Stored home name plain indexes) u → Denotes p s q u → Walking p states s (Path.Index q e) (outcome.Found (held.Stored home' name' plain' indexes'))
    go (Target.Stored h x type brackets) (numbered, named, typed, are) d =
        let c : Bracket = record { low = b.low; high = b.high; scope = s; index = e } in
        let array : type ≡ Plain.Array b.low b.high (plain_type plain'.now) = sym typed ∙ is.2 in (
          Target.Stored h x (plain_type plain'.now) (c ∷ brackets),
          (
            ap (scope_at p) is.0 ∙ numbered,
            is.1 ∙ named,
            refl,
            subst (λ hs. AreBrackets p hs (c ∷ brackets)) (sym is.3) (brackets_push p indexes.items brackets b c are (record { low_is = refl; high_is = refl; scope_is = read; index_is = written })),
          ),
          Denotes.index (subst (λ z. Denotes p s q (Target.Stored h x z brackets)) array d),
        )
    go (Target.Reading h r) never d = absurd never
    go (Target.Instance i) never d = absurd never
    go (Target.Constant x) never d = absurd never
element_found p states s q e (held.Stored home name plain indexes) (held.Reading home' right node) b is read written front = absurd is
element_found p states s q e (held.Stored home name plain indexes) (held.Instance number) b is read written front = absurd is
element_found p states s q e (held.Stored home name plain indexes) (held.Constant place) b is read written front = absurd is
element_found p states s q e (held.Reading home right node) new b is read written front = absurd is
element_found p states s q e (held.Instance number) new b is read written front = absurd is
element_found p states s q e (held.Constant place) new b is read written front = absurd is

pub element_other : (p : Program) (states : States) (s : Scope) (q : Path) (e : Expr) (t : Held) → Resolves p s q (Some t) → is_array_held t ≡ false → Walking p states s (Path.Index q e) outcome.Nothing
element_other p states s q e t front other = λ u d. go u d
  where
    differs : (h : Held) (home : Scope) (x : Name) (low high : ℕ) (element : Plain) (indexes : List Bracket) → is_array_held h ≡ false → IsTarget p h (Target.Stored home x (Plain.Array low high element) indexes) → ⊥
    differs (held.Stored home' name plain indexes') home x low high element indexes other' (numbered, named, typed, are) = let both : is_array (plain_type plain.now) ≡ true = ap is_array typed in cc
    differs (held.Instance number) home x low high element indexes other' target = target
    differs (held.Reading home' right node) home x low high element indexes other' target = target
    differs (held.Constant place) home x low high element indexes other' target = target

    go : (u : Target) → Denotes p s (Path.Index q e) u → ⊥
    go u (Denotes.index {home = home} {x = x} {low = low} {high = high} {element = element} {indexes = indexes} d) =
        differs t home x low high element indexes other (subst (λ z. IsTarget p t z) (denotes_one front.2 d) front.1)

-- ---- a front that isn't known

pub front_nothing : (p : Program) (states : States) (s : Scope) (q : Path) (part : PathPart) → Resolves p s q None → Walking p states s (extended q part) outcome.Nothing
front_nothing p states s q (Field name) none = λ u d. go u d
  where
    go : (u : Target) → Denotes p s (Path.Field q name) u → ⊥
    go u (Denotes.field {i = i} d f) = none (Target.Instance i) d
front_nothing p states s q (Index' kind line) none = λ u d. go u d
  where
    go : (u : Target) → Denotes p s (extended q (Index' kind line)) u → ⊥
    go u (Denotes.index d) = none _ d

pub front_needs : (p : Program) (states : States) (s : Scope) (q : Path) (part : PathPart) (at : Parameter) → Walking p states s q (outcome.Needs at) → Walking p states s (extended q part) (outcome.Needs at)
front_needs p states s q (Field name) at (unknown, needs) = (unknown, λ n u w. go n u w.denotes w.height)
  where
    go : (n : ℕ) (u : Target) (d : Denotes p s (Path.Field q name) u) → denotes_height d ≤ n → LeadsWithin p n at
    go n u (Denotes.field {i = i} d f) le = needs n (Target.Instance i) (record { denotes = d; height = omega (arith, le) })
front_needs p states s q (Index' kind line) at (unknown, needs) = (unknown, λ n u w. go n u w.denotes w.height)
  where
    go : (n : ℕ) (u : Target) (d : Denotes p s (extended q (Index' kind line)) u) → denotes_height d ≤ n → LeadsWithin p n at
    go n u (Denotes.index d) le = needs n _ (record { denotes = d; height = le })

-- ---- as the calls answer

pub here_result : {E : Type 0} (p : Program) (states : States) (s : Scope) (line : ℕ) (x : Name) (m : Meaning) (r : Result Outcome E) → meaning p s x ≡ Some m → IfOk r (Finding p states s x) → IfOk r (Walking p states s (Path.Here line x))
here_result p states s line x m (Ok o) is found = here_found p states s line x m o is found
here_result p states s line x m (Err e) is found = found

pub field_result : {E : Type 0} (p : Program) (states : States) (s : Scope) (q : Path) (x : Name) (number : ℕ) (r : Result Outcome E) → Resolves p s q (Some (held.Instance number))
    → ((i : Scope) → scope_at p number ≡ Some i → IfOk r (Finding p states i x)) → IfOk r (Walking p states s (Path.Field q x))
field_result p states s q x number (Ok o) front found = field_found p states s q x number o front found
field_result p states s q x number (Err e) front found = tt

pub path_result : {E : Type 0} (p : Program) (states : States) (at : Parameter) (around : Scope) (q : Path) (r : Result Outcome E) → IsPassed p at around q → IfOk r (Walking p states around q) → IfOk r (Deciding p states at)
path_result p states at around q (Ok o) passed walked = decided_by_path p states at around q o passed walked
path_result p states at around q (Err e) passed walked = walked

-- where all is decided, nothing is needed
pub open_nothing : (p : Program) (states : States) (s : Scope) (q : Path) (at : Parameter) → AreDecided p states → Walking p states s q (outcome.Needs at) → Resolves p s q None
open_nothing p states s q at decided walked = λ t d.
    let leads = walked.1 (denotes_height d) t (record { denotes = d; height = omega arith }) in
    decided at leads.scope leads.name leads.is walked.0
