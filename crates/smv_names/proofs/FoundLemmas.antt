-- What the names that a module declares lead to.
use Rattle.std.proofs.Common.{◌≡◌, refl, sym, ◌∙◌, ap, subst, ℕ, [], false, Some, None}
use Rattle.std.specs.Prelude.{slice_get, option_map, option_and_then}
use Rattle.std.proofs.lemmas.Option.{same_Some}
use Rattle.smv_instances.specs.declared.found.Found.TheVariants as found
use Rattle.smv_instances.specs.Program.{Name, Expr, Path, Plain, Program}
use Rattle.smv_instances.specs.Entries.{Entity, Entry, entity_in}
use Rattle.smv_instances.specs.Instances.{Scope, module_of, all_entries}
use Rattle.smv_instances.specs.Numbered.{scope_at, IsFound, IsChild, IsActual, actuals_of}
use Rattle.smv_names.specs.declared.targets.Target.{Target as Held}
use Rattle.smv_names.specs.declared.states.Parameter.{Parameter}
use Rattle.smv_names.specs.declared.states.States.{States}
use Rattle.smv_names.specs.declared.walk.Outcome.TheVariants as outcome
use Rattle.smv_names.specs.Written.{is_path}
use Rattle.smv_names.specs.Denotes.{Target, Meaning, Finds, meaning, meaning_of, bare, passed, actual_of}
use Rattle.smv_names.specs.Abbreviations.{text_of}
use Rattle.smv_names.specs.Nodes.{IsNode, abbreviation_at}
use Rattle.smv_names.specs.Targets.{IsTarget, IsText}
use Rattle.smv_names.specs.Passed.{IsDecided, Finding}
use Rattle.smv_names.proofs.WaitLemmas.{IsPassed, decided_none}
use Rattle.smv_names.proofs.ActualLemmas.{actual_for, parameter_meaning, passed_expr, formal_entry}

-- ---- formal parameters

pub no_actual : (s : Scope) (x : Name) (place : ℕ) (p : Program) → IsFound p s x (found.Parameter place) → slice_get (actuals_of s) place ≡ None → actual_of s x ≡ None
no_actual (Scope.Main m) x place p is none = refl
no_actual (Scope.Inside around name process actuals m) x place p (declared, formal) none = actual_for around name process actuals m x place None formal none

-- without an actual parameter it stands for nothing
pub parameter_none : (p : Program) (s : Scope) (x : Name) (place : ℕ) → IsFound p s x (found.Parameter place) → slice_get (actuals_of s) place ≡ None → meaning p s x ≡ None
parameter_none p s x place is none = parameter_meaning p s x None is.0 (no_actual s x place p is none)

pub actual_is : (p : Program) (s : Scope) (x : Name) (place caller : ℕ) (e : Expr) → IsFound p s x (found.Parameter place) → (a : IsActual p s place caller e) → actual_of s x ≡ Some (a.around, bare e)
actual_is p s x place caller e is a =
    let inside : Scope = Scope.Inside a.around a.name a.process a.actuals a.m in
    let formal = subst (λ z. IsFound p z x (found.Parameter place)) a.is is in
    ap (λ z. actual_of z x) a.is ∙ actual_for a.around a.name a.process a.actuals a.m x place (Some e) formal.1 a.stands

pub parameter_some : (p : Program) (s : Scope) (x : Name) (place caller : ℕ) (e : Expr) → IsFound p s x (found.Parameter place) → (a : IsActual p s place caller e) → meaning p s x ≡ Some (passed a.around (bare e))
parameter_some p s x place caller e is a = parameter_meaning p s x (Some (a.around, bare e)) is.0 (actual_is p s x place caller e is a)

-- ---- other names

pub stored_meaning : (p : Program) (s : Scope) (x : Name) (type : Plain) → entity_in (module_of s) x ≡ Some (Entity.Stored type) → meaning p s x ≡ Some (Meaning.Direct (Target.Stored s x type []))
stored_meaning p s x type declared = ap (option_and_then (meaning_of p s x)) declared

pub defined_meaning : (p : Program) (s : Scope) (x : Name) (body : Expr) → entity_in (module_of s) x ≡ Some (Entity.Defined body) → meaning p s x ≡ Some (Meaning.Direct (Target.Reading s body))
defined_meaning p s x body declared = ap (option_and_then (meaning_of p s x)) declared

pub child_meaning : (p : Program) (s : Scope) (x : Name) (number : ℕ) → (c : IsChild p s x number) → meaning p s x ≡ Some (Meaning.Direct (Target.Instance (Scope.Inside s x c.process c.actuals c.m)))
child_meaning p s x number c = ap (option_and_then (meaning_of p s x)) c.declared ∙ ap (option_map (λ m. Meaning.Direct (Target.Instance (Scope.Inside s x c.process c.actuals m)))) c.named

pub unknown_meaning : (p : Program) (s : Scope) (x : Name) → entity_in (module_of s) x ≡ None → meaning p s x ≡ None
unknown_meaning p s x none = ap (option_and_then (meaning_of p s x)) none

pub finding_direct : (p : Program) (states : States) (s : Scope) (x : Name) (h : Held) (t : Target) → IsTarget p h t → meaning p s x ≡ Some (Meaning.Direct t) → Finding p states s x (outcome.Found h)
finding_direct p states s x h t is e = (t, is, Finds.direct e)

-- ---- the numbers of abbreviations

pub numbered_by : (p : Program) (node : ℕ) (s : Scope) (x : Name) (e : Entry) → slice_get (all_entries p) node ≡ Some (s, e) → e.name ≡ x → abbreviation_at p node ≡ Some (record { scope = s; name = x })
numbered_by p node s x e at named = ap (option_map (λ (d : Scope × Entry). record { scope = d.0; name = d.1.name })) at ∙ ap (λ (y : Name). Some (record { scope = s; name = y })) named

pub text_defined : (s : Scope) (x : Name) (body : Expr) → entity_in (module_of s) x ≡ Some (Entity.Defined body) → text_of (record { scope = s; name = x }) ≡ Some (s, body)
text_defined s x body declared = rw declared

pub text_parameter : (s : Scope) (x : Name) → entity_in (module_of s) x ≡ Some Entity.Parameter → text_of (record { scope = s; name = x }) ≡ actual_of s x
text_parameter s x declared = rw declared

pub text_none : (s : Scope) (x : Name) → entity_in (module_of s) x ≡ None → text_of (record { scope = s; name = x }) ≡ None
text_none s x none = rw none

pub defined_text : (p : Program) (node : ℕ) (s : Scope) (x : Name) (body : Expr) → abbreviation_at p node ≡ Some (record { scope = s; name = x }) → entity_in (module_of s) x ≡ Some (Entity.Defined body) → IsText p node s body
defined_text p node s x body numbered declared = record { abbreviation = record { scope = s; name = x }; numbered = numbered; text = text_defined s x body declared }

pub never_missing : (s : Scope) (x : Name) (body : Expr) → entity_in (module_of s) x ≡ Some (Entity.Defined body) → text_of (record { scope = s; name = x }) ≡ None → ⊥
never_missing s x body declared none = let both : None ≡ Some (s, body) = sym none ∙ text_defined s x body declared in cc

pub parameter_text : (p : Program) (node : ℕ) (s : Scope) (x : Name) (place caller : ℕ) (e : Expr) (entry : Entry) → slice_get (all_entries p) node ≡ Some (s, entry) → entry.name ≡ x → IsFound p s x (found.Parameter place) → (a : IsActual p s place caller e)
    → IsText p node a.around (bare e)
parameter_text p node s x place caller e entry at named is a =
    record { abbreviation = record { scope = s; name = x }; numbered = numbered_by p node s x entry at named; text = text_parameter s x is.0 ∙ actual_is p s x place caller e is a }

-- ---- what a formal parameter leads to

same_scope : (p : Program) (i : ℕ) (s t : Scope) → scope_at p i ≡ Some s → scope_at p i ≡ Some t → s ≡ t
same_scope p i s t a b = same_Some _ _ (sym a ∙ b)

module _ (p : Program) (at : Parameter) (s0 : Scope) (numbered : scope_at p at.instance ≡ Some s0) where
  pub decided_nothing : slice_get (actuals_of s0) at.place ≡ None → IsDecided p at None
  decided_nothing none = decided_none p at (λ s x is. parameter_none p s x at.place is.1 (ap (λ z. slice_get (actuals_of z) at.place) (same_scope p at.instance s s0 is.0 numbered) ∙ none))

  moved : (s : Scope) (caller : ℕ) (e : Expr) → scope_at p at.instance ≡ Some s → IsActual p s0 at.place caller e → IsActual p s at.place caller e
  moved s caller e is a = record {
    around = a.around;
    name = a.name;
    process = a.process;
    actuals = a.actuals;
    m = a.m;
    is = same_scope p at.instance s s0 is numbered ∙ a.is;
    numbered = a.numbered;
    stands = a.stands;
  }

  pub passed_for : (caller : ℕ) (e : Expr) (q : Path) → (a : IsActual p s0 at.place caller e) → bare e ≡ Expr.At q → IsPassed p at a.around q
  unfolding moved
  passed_for caller e q a path s x is = parameter_some p s x at.place caller e is.1 (moved s caller e is.0 a) ∙ ap (λ z. Some (passed a.around z)) path

  pub decided_expr : (caller node : ℕ) (e : Expr) (h : Held) → (a : IsActual p s0 at.place caller e) → is_path (bare e) ≡ false → IsNode p s0 at.place node
      → (IsText p node a.around (bare e) → IsTarget p h (Target.Reading a.around (bare e))) → IsDecided p at (Some h)
  unfolding moved
  decided_expr caller node e h a other is_node target s x is =
      let here : IsActual p s at.place caller e = moved s caller e is.0 a in
      let entry = formal_entry (module_of s) x at.place is.1.1 in
      let node_here : IsNode p s at.place node = subst (λ z. IsNode p z at.place node) (same_scope p at.instance s0 s numbered is.0) is_node in (
        Target.Reading a.around (bare e),
        target (parameter_text p node s x at.place caller e entry.entry (node_here entry.entry entry.stands) entry.named is.1 here),
        Finds.direct (parameter_some p s x at.place caller e is.1 here ∙ ap Some (passed_expr a.around (bare e) other)),
      )
