-- What definitions and actual parameters are refused for, one entry after the other.
use Rattle.std.proofs.Common.{◌≡◌, refl, sym, ◌∙◌, ap, subst, ℕ, zero, suc, ◌+◌, ◌<◌, ◌≤◌, arith, List, [], ◌∷◌, length, take, get_or, map, flat_map, Bool, true, false, Option, Some, None, ◌⊎◌, inl, inr, Any}
use Rattle.std.specs.Prelude.{Result, Ok, Err, OnOk, IfErr, MatchResult, slice_get, option_map}
use Rattle.std.specs.List.{cons_option}
use Rattle.std.proofs.lemmas.Option.{same_Some, slice_get-get_or, slice_get_within, get_or_from_slice_get}
use Rattle.kripke_model.specs.Refusing.{Silent, first_of, refuse}
use Rattle.kripke_model.proofs.FirstLemmas.{silent_refuse, silent_then, silent_list, first_in_list}
use Rattle.smv_instances.specs.declared.instances.Instances.{Instances}
use Rattle.kripke_model.specs.declared.refusals.FlatRefusal.{FlatRefusal}
use Rattle.smv_instances.specs.Program.{Name, Expr, Formal, Module, Program}
use Rattle.smv_instances.specs.Entries.{Entity, Entry, entries, entity_in, of_formal, of_section}
use Rattle.smv_instances.specs.Instances.{Scope, module_of, child, all_entries, instances}
use Rattle.smv_instances.specs.Declarations.{is_instance}
use Rattle.smv_instances.specs.declared.entries.Entry.{Entry as Line}
use Rattle.smv_instances.specs.Numbered.{IsChild, plain_entry, scope_at}
use Rattle.smv_instances.specs.Answers.{Refused}
use Rattle.smv_instances.specs.Built.{AreInstances}
use Rattle.smv_instances.proofs.InstanceLemmas.{row_of, entry_declared}
use Rattle.smv_instances.proofs.ListSteps.{take_whole}
use Rattle.smv_instances.proofs.RowLemmas.{slice_get_left}
use Rattle.smv_names.specs.Abbreviations.{Mention, mentions, actual_mentions, path_rows, unknown_path, IsCircular, definition, definition_rows}
use Rattle.smv_names.specs.Nodes.{abbreviation_at, entries_before, placed_entries}
use Rattle.smv_names.specs.Ordered.{AreOrdered}
use Rattle.smv_names.specs.Sound.{AreSound}
use Rattle.smv_names.specs.Definitions.{IsCircularBy, IsCircularFormal, AreStraight, HasCircularBy, IsDefined, AreDefinedUpTo}
use Rattle.smv_names.proofs.AnyLemmas.{any_case, any_here, no_any}
use Rattle.smv_names.proofs.NodeLemmas.{entry_numbered, entries_more, mapped_get}
use Rattle.smv_names.proofs.WaitLemmas.{member_at}
use Rattle.smv_names.proofs.CheckLemmas.{any_default, same_or_below}
use Rattle.smv_names.proofs.MemberLemmas.{declared_by}
use Rattle.smv_names.proofs.RuleLemmas.{all_known, all_indexed}

-- ---- one entry

pub sound_silent : (p : Program) (s : Scope) (ms : List Mention) → AreSound p s ms → Silent (path_rows p s ms)
sound_silent p s ms all = silent_then {a = first_of ms (unknown_path p s)} (all_known p s ms (λ k d below. let one = all k d below in (one.target, one.denotes, one.suits))) (all_indexed p s ms (λ k d below. (all k d below).indexes))

-- the formal parameters of what the declaration leads to
abbrev HasCircularIn : Program → List Scope → Type 0
HasCircularIn p cs = Any (λ c. Any (IsCircularFormal p c) (module_of c).formals) cs

none_circular : (p : Program) (c : Scope) → AreStraight p c → Any (IsCircularFormal p c) (module_of c).formals → ⊥
none_circular p c straight some = straight some.0 some.1 some.2 (subst (IsCircularFormal p c) (sym some.3) some.4)

none_circular_in : (p : Program) (o : Option Scope) → ((c : Scope) → o ≡ Some c → AreStraight p c) → HasCircularIn p (cons_option o []) → ⊥
none_circular_in p None straight some = no_any (λ c. Any (IsCircularFormal p c) (module_of c).formals) some
none_circular_in p (Some c) straight some =
    elim (any_case (λ c. Any (IsCircularFormal p c) (module_of c).formals) c [] some) [ inl h ↦ none_circular p c (straight c refl) h | inr h ↦ no_any (λ c. Any (IsCircularFormal p c) (module_of c).formals) h ]

silent_entity : (p : Program) (s : Scope) (e : Entry) (entity : Entity) → IsDefined p s e entity → Silent (definition_rows p s e entity)
silent_entity p s e Entity.Parameter is = λ r h. h
silent_entity p s e (Entity.Stored type) is = λ r h. h
silent_entity p s e (Entity.Defined body) is = silent_then {a = refuse (FlatRefusal.CircularDefine e.line) (IsCircular p (record { scope = s; name = e.name }))} (silent_refuse is.0) (sound_silent p s (mentions body) is.1)
silent_entity p s e (Entity.Instance process module_name actuals) is =
    silent_then {a = refuse (FlatRefusal.CircularDefine e.line) (HasCircularIn p (cons_option (child p s e) []))} (silent_refuse (none_circular_in p (child p s e) is.0)) (sound_silent p s (flat_map actual_mentions actuals) is.1)

pub silent_definition : (p : Program) (s : Scope) (e : Entry) → IsDefined p s e e.entity → Silent (definition p (s, e))
silent_definition p s e is = silent_entity p s e e.entity is

-- what a check of the entry must answer
abbrev pub Checks : {A : Type 0} → Program → Scope → Entry → Entity → Result A FlatRefusal → Type 0
Checks p s e entity result = MatchResult result (λ _. IsDefined p s e entity) (Refused (definition_rows p s e entity))

pub circular_refused : (p : Program) (s : Scope) (e : Entry) (line : ℕ) (body : Expr) → e.line ≡ line → e.entity ≡ Entity.Defined body → IsCircular p (record { scope = s; name = e.name }) → Refused (definition p (s, e)) (FlatRefusal.CircularDefine line)
circular_refused p s e line body at is circular = subst (λ z. Refused (definition_rows p s e z) (FlatRefusal.CircularDefine line)) (sym is) (inr (inl (ap FlatRefusal.CircularDefine (sym at), circular)))

straight_body : {A : Type 0} (p : Program) (s : Scope) (e : Entry) (body : Expr) (result : Result A FlatRefusal) → (IsCircular p (record { scope = s; name = e.name }) → ⊥)
    → MatchResult result (λ _. AreSound p s (mentions body)) (Refused (path_rows p s (mentions body))) → Checks p s e (Entity.Defined body) result
straight_body p s e body (Ok x) never sound = (never, sound)
straight_body p s e body (Err r) never (inl memory) = inl memory
straight_body p s e body (Err r) never (inr h) = inr (inr (silent_refuse never, h))

pub straight_checked : {A : Type 0} (p : Program) (s : Scope) (e : Entry) (body : Expr) (result : Result A FlatRefusal) → e.entity ≡ Entity.Defined body → (IsCircular p (record { scope = s; name = e.name }) → ⊥)
    → MatchResult result (λ _. AreSound p s (mentions body)) (Refused (path_rows p s (mentions body))) → Checks p s e e.entity result
straight_checked p s e body result is never paths = subst (λ z. Checks p s e z result) (sym is) (straight_body p s e body result never paths)

-- ---- declarations

-- a formal parameter of the child is circular exactly where the test says so
abbrev pub ChildCircularBy : Program → Scope → Entry → Bool → Type 0
ChildCircularBy p s e b = (c : Scope) → child p s e ≡ Some c → HasCircularBy p c b

abbrev is_there : Option Scope → Bool
is_there (Some c) = true
is_there None = false

circular_in : (p : Program) (c : Scope) → HasCircularBy p c true → HasCircularIn p (cons_option (Some c) [])
circular_in p c h = any_here (λ d. Any (IsCircularFormal p d) (module_of d).formals) c [] h

pub declared_refused : (p : Program) (s : Scope) (e : Entry) (line : ℕ) (process : Bool) (module_name : Name) (actuals : List Expr) (c : Scope) → e.line ≡ line → e.entity ≡ Entity.Instance process module_name actuals → child p s e ≡ Some c
    → HasCircularBy p c true → Refused (definition p (s, e)) (FlatRefusal.CircularDefine line)
declared_refused p s e line process module_name actuals c at is leads circular =
    subst (λ z. Refused (definition_rows p s e z) (FlatRefusal.CircularDefine line)) (sym is)
    (inr (inl (ap FlatRefusal.CircularDefine (sym at), subst (λ o. HasCircularIn p (cons_option o [])) (sym leads) (circular_in p c circular))))

straight_actuals : {A : Type 0} (p : Program) (s : Scope) (e : Entry) (process : Bool) (module_name : Name) (actuals : List Expr) (result : Result A FlatRefusal) → ((c : Scope) → child p s e ≡ Some c → AreStraight p c)
    → MatchResult result (λ _. AreSound p s (flat_map actual_mentions actuals)) (Refused (path_rows p s (flat_map actual_mentions actuals))) → Checks p s e (Entity.Instance process module_name actuals) result
straight_actuals p s e process module_name actuals (Ok x) never sound = (never, sound)
straight_actuals p s e process module_name actuals (Err r) never (inl memory) = inl memory
straight_actuals p s e process module_name actuals (Err r) never (inr h) = inr (inr (silent_refuse (none_circular_in p (child p s e) never), h))

pub declared_checked : {A : Type 0} (p : Program) (s : Scope) (e : Entry) (process : Bool) (module_name : Name) (actuals : List Expr) (result : Result A FlatRefusal) → e.entity ≡ Entity.Instance process module_name actuals
    → ((c : Scope) → child p s e ≡ Some c → AreStraight p c)
    → MatchResult result (λ _. AreSound p s (flat_map actual_mentions actuals)) (Refused (path_rows p s (flat_map actual_mentions actuals))) → Checks p s e e.entity result
declared_checked p s e process module_name actuals result is never paths = subst (λ z. Checks p s e z result) (sym is) (straight_actuals p s e process module_name actuals result never paths)

-- ---- all entries

pub none_defined : (p : Program) → AreDefinedUpTo p 0
none_defined p v s e below at = absurd (omega arith)

pub defined_less : (p : Program) (n m : ℕ) → m ≤ n → AreDefinedUpTo p n → AreDefinedUpTo p m
defined_less p n m le have v s e below at = have v s e (omega (arith, le, below)) at

pub defined_more : (p : Program) (n : ℕ) (s : Scope) (e : Entry) → AreDefinedUpTo p n → slice_get (all_entries p) n ≡ Some (s, e) → IsDefined p s e e.entity → AreDefinedUpTo p (n + 1)
defined_more p n s e have stands is v t d below at = go (same_or_below v n below)
  where
    go : (v < n) ⊎ (v ≡ n) → IsDefined p t d d.entity
    go (inl less) = have v t d less at
    go (inr same) =
        let both : (s, e) ≡ (t, d) = same_Some _ _ (sym stands ∙ ap (slice_get (all_entries p)) (sym same) ∙ at) in
        subst (λ (x : Scope × Entry). IsDefined p x.0 x.1 x.1.entity) both is

pub defined_silent : (p : Program) (n j : ℕ) (d : Scope × Entry) → AreDefinedUpTo p n → j < n → j < length (all_entries p) → Silent (definition p (get_or (all_entries p) j d))
defined_silent p n j d have below within =
    let x = get_or (all_entries p) j d in
    silent_definition p x.0 x.1 (have j x.0 x.1 below (slice_get-get_or (all_entries p) j d within))

pub all_silent : (p : Program) (n : ℕ) → length (all_entries p) ≤ n → AreDefinedUpTo p n → Silent (first_of (all_entries p) (definition p))
all_silent p n full have = silent_list (definition p) (all_entries p) (λ k d below. defined_silent p n k d have (omega (arith, full, below)) below)

pub first_refused_entry : (p : Program) (n : ℕ) (s : Scope) (e : Entry) (r : FlatRefusal) → AreDefinedUpTo p n → slice_get (all_entries p) n ≡ Some (s, e) → Refused (definition p (s, e)) r → Refused (first_of (all_entries p) (definition p)) r
first_refused_entry p n s e r have stands (inl memory) = inl memory
first_refused_entry p n s e r have stands (inr h) =
    let within : n < length (all_entries p) = slice_get_within (all_entries p) n (s, e) stands in
    inr (first_in_list (definition p) (all_entries p) n (s, e) r within (λ j d below. defined_silent p n j d have below (omega (arith, below, within)))
    (subst (λ z. definition p z r) (sym (get_or_from_slice_get (all_entries p) n (s, e) (s, e) stands)) h))

pub next_defined : (p : Program) (i k : ℕ) (s : Scope) (e : Entry) → AreDefinedUpTo p (entries_before p i + k) → scope_at p i ≡ Some s → slice_get (entries (module_of s)) k ≡ Some e → IsDefined p s e e.entity → AreDefinedUpTo p (entries_before p i + (k + 1))
next_defined p i k s e have at stands is =
    let same : (entries_before p i + k) + 1 ≡ entries_before p i + (k + 1) = omega arith in
    subst (λ n. AreDefinedUpTo p n) same (defined_more p (entries_before p i + k) s e have (entry_numbered p i k s e at stands) is)

pub body_defined : (p : Program) (i k : ℕ) (s : Scope) → AreDefinedUpTo p (entries_before p i + k) → scope_at p i ≡ Some s → length (entries (module_of s)) ≤ k → AreDefinedUpTo p (entries_before p (i + 1))
body_defined p i k s have at full = defined_less p (entries_before p i + k) (entries_before p (i + 1)) (omega (arith, entries_more p i s at, full)) have

pub bodies_all : (p : Program) (n : ℕ) → length (instances p) ≤ n → entries_before p n ≡ length (all_entries p)
bodies_all p n full = ap (λ xs. length (flat_map placed_entries xs)) (take_whole (instances p) n full)

-- ---- names

-- an entry is what its name stands for
pub entry_named : (p : Program) (all : Instances) (i k : ℕ) (s : Scope) (e : Entry) → AreInstances p all → scope_at p i ≡ Some s → slice_get (entries (module_of s)) k ≡ Some e → entity_in (module_of s) e.name ≡ Some e.entity
entry_named p all i k s e are at stands =
    let row = row_of p all i s are at in
    entry_declared p all i s row.2.table.table k e are at row.2.table.is_table stands

-- an entry that leads to an instance declares one
not_child : (p : Program) (s : Scope) (e : Entry) (c : Scope) → is_instance e.entity ≡ false → child p s e ≡ Some c → ⊥
not_child p s e c none leads = clash (ap is_instance (declared_by p s e.name e.line e.entity c leads).entity_is) none
  where
    clash : {b : Bool} → b ≡ true → b ≡ false → ⊥
    clash t f = cc

pub no_child : (p : Program) (all : Instances) (i k : ℕ) (s : Scope) (e : Entry) (c : Scope) (entity : Entity) → AreInstances p all → scope_at p i ≡ Some s → slice_get (entries (module_of s)) k ≡ Some e
    → entity_in (module_of s) e.name ≡ Some entity → is_instance entity ≡ false → child p s e ≡ Some c → ⊥
no_child p all i k s e c entity are at stands found none leads = not_child p s e c (ap is_instance (same_Some _ _ (sym (entry_named p all i k s e are at stands) ∙ found)) ∙ none) leads

pub child_numbered : (p : Program) (all : Instances) (i k number : ℕ) (s : Scope) (e : Entry) (c : Scope) → AreInstances p all → scope_at p i ≡ Some s → slice_get (entries (module_of s)) k ≡ Some e
    → IsChild p s e.name number → child p s e ≡ Some c → scope_at p number ≡ Some c
child_numbered p all i k number s e c are at stands found leads =
    let entity : e.entity ≡ Entity.Instance found.process found.module_name found.actuals = same_Some _ _ (sym (entry_named p all i k s e are at stands) ∙ found.declared) in
    let same : e ≡ record { name = e.name; line = e.line; entity = Entity.Instance found.process found.module_name found.actuals } = ap (λ x. let d : Entry = record { name = e.name; line = e.line; entity = x } in d) entity in
    let is : child p s e ≡ Some (Scope.Inside s e.name found.process found.actuals found.m) = ap (child p s) same ∙ ap (option_map (Scope.Inside s e.name found.process found.actuals)) found.named in
    found.numbered ∙ sym is ∙ leads

-- a formal parameter by its place
pub formal_place : (m : Module) (place : ℕ) → place < length m.formals → (f : Formal) × (slice_get m.formals place ≡ Some f) × (slice_get (entries m) place ≡ Some (of_formal f))
formal_place m place lt =
    let f = member_at m.formals place lt in
    (f.0, f.1, slice_get_left (map of_formal m.formals) (flat_map of_section m.sections) place (of_formal f.0) (mapped_get of_formal m.formals place f.0 f.1))

pub formal_read : (fs : List Formal) (place : ℕ) (f : Formal) → slice_get fs place ≡ Some f → f ≡ get_or fs place f
formal_read fs place f at = sym (get_or_from_slice_get fs place f f at)

pub circular_formal : (p : Program) (c : Scope) (place : ℕ) (f : Formal) → slice_get (module_of c).formals place ≡ Some f → IsCircular p (record { scope = c; name = f.name }) → HasCircularBy p c true
circular_formal p c place f at circular = (place, f, slice_get_within (module_of c).formals place f at, get_or_from_slice_get (module_of c).formals place f f at, circular)

-- the flag of an abbreviation
pub flag_right : (p : Program) (order : List ℕ) (flags : List Bool) (v : ℕ) (s : Scope) (e : Entry) (b : Bool) → AreOrdered p order flags → slice_get (all_entries p) v ≡ Some (s, e) → b ≡ get_or flags v b → IsCircularBy p s e.name b
flag_right p order flags v s e b ordered at read =
    let within : v < length flags = omega (arith, slice_get_within (all_entries p) v (s, e) at, ordered.flags) in
    let flag : get_or flags v false ≡ b = any_default flags v false b within ∙ sym read in
    let numbered : abbreviation_at p v ≡ Some (record { scope = s; name = e.name }) = ap (option_map (λ (d : Scope × Entry). record { scope = d.0; name = d.1.name })) at in
    by b flag numbered
  where
    by : (b : Bool) → get_or flags v false ≡ b → abbreviation_at p v ≡ Some (record { scope = s; name = e.name }) → IsCircularBy p s e.name b
    by true flag numbered = ordered.is_circular v (record { scope = s; name = e.name }) numbered flag
    by false flag numbered = ordered.is_straight v (record { scope = s; name = e.name }) numbered flag

-- the paths that were gathered
pub gathered : {A : Type 0} (p : Program) (s : Scope) (ms ns : List Mention) (result : Result A FlatRefusal) → ms ≡ ns → OnOk result (AreSound p s ms) → IfErr result (Refused (path_rows p s ms)) → MatchResult result (λ _. AreSound p s ns) (Refused (path_rows p s ns))
gathered p s ms ns (Ok x) same sound refused = subst (λ z. AreSound p s z) same sound
gathered p s ms ns (Err r) same sound refused = subst (λ z. Refused (path_rows p s z) r) same refused

pub entry_is : (lines : List Line) (m : Module) (k : ℕ) (line : Line) (e : Entry) → map plain_entry lines ≡ entries m → line ≡ get_or lines k line → slice_get (entries m) k ≡ Some e → plain_entry line ≡ e
entry_is lines m k line e whole read stands = go lines k (ap (λ es. slice_get es k) whole ∙ stands) read
  where
    go : (xs : List Line) (k : ℕ) → slice_get (map plain_entry xs) k ≡ Some e → line ≡ get_or xs k line → plain_entry line ≡ e
    go [] k at is = absurd (let none : None ≡ Some e = at in cc)
    go (x ∷ xs) zero at is = ap plain_entry is ∙ same_Some _ _ at
    go (x ∷ xs) (suc k) at is = go xs k at is

pub none_before : (p : Program) → AreDefinedUpTo p (entries_before p 0)
none_before p = subst (λ n. AreDefinedUpTo p n) (sym (ap (λ xs. length (flat_map placed_entries xs)) (none (instances p)))) (none_defined p)
  where
    none : (xs : List Scope) → take 0 xs ≡ []
    none [] = refl
    none (x ∷ xs) = refl

pub body_begun : (p : Program) (i : ℕ) → AreDefinedUpTo p (entries_before p i) → AreDefinedUpTo p (entries_before p i + 0)
body_begun p i have = defined_less p (entries_before p i) (entries_before p i + 0) (omega arith) have
