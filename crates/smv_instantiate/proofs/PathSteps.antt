-- What the targets of paths say, and the names by which flat variables are found.
use Rattle.std.proofs.Common.{◌≡◌, refl, sym, ◌∙◌, ap, subst, ℕ, suc, ◌+◌, ◌<◌, arith, List, [], ◌∷◌, ◌++◌, length, take, get_or, Bool, true, false, Some, None}
use Rattle.std.specs.Prelude.{map, not, ◌||◌, if◌then◌else◌, slice_get}
use Rattle.std.specs.List.{list_any}
use Rattle.std.specs.Str.{bytes_eq}
use Rattle.std.proofs.lemmas.Bool.{false≢true}
use Rattle.std.proofs.lemmas.List.{get_or-take, length-take-le, take-map}
use Rattle.std.proofs.lemmas.Option.{same_Some, slice_get_read, slice_get_within, get_or_from_slice_get}
use Rattle.kripke_model.specs.Flat.{AreDistinct}
use Rattle.kripke_model.specs.System.{Variable}
use Rattle.kripke_model.specs.Term.{Term}
use Rattle.smv_instances.specs.Plain.{plain_expr, plain_type}
use Rattle.smv_instances.specs.Program.{Name, Expr, Path, Plain, Program}
use Rattle.smv_instances.specs.Instances.{Scope, all_entries, place_of, symbols}
use Rattle.smv_instances.specs.Numbered.{scope_at}
use Rattle.smv_names.specs.declared.targets.Bracket.{Bracket as Held_bracket}
use Rattle.smv_names.specs.declared.targets.Target.{Target as Code}
use Rattle.smv_names.specs.declared.targets.Target.TheVariants as held
use Rattle.smv_names.specs.Denotes.{Bracket, Target, Denotes, bare}
use Rattle.smv_names.specs.Expands.{is_array, Expands, Selects, AreIndexes}
use Rattle.smv_names.specs.Ends.{IsEnd, AreEnds, no_end}
use Rattle.smv_names.specs.Sound.{AreDefined}
use Rattle.smv_names.specs.Targets.{AreBrackets, IsText, IsTarget, Resolves}
use Rattle.smv_names.specs.Uses.{IsTextIn}
use Rattle.smv_instances.proofs.ListSteps.{take_map}
use Rattle.smv_names.proofs.EndLemmas.{end_defined}
use Rattle.smv_names.proofs.NamedLemmas.{reading_expands, to_bare}
use Rattle.smv_names.proofs.Once.{denotes_one}
use Rattle.smv_names.proofs.TextLemmas.{numbered_within}
use Rattle.smv_instantiate.specs.declared.expansion.End.{End}
use Rattle.smv_instantiate.specs.Expansion.{IsSelected, DenotesNoText, IsWrittenAt, EndsPath, IsNodeOf}
use Rattle.smv_instantiate.proofs.NameLemmas.{names_same}
use Rattle.smv_instantiate.proofs.BodySteps.{read_mapped}

-- ---- names

none_same : (xs : List Name) (x : Name) → ((j : ℕ) → j < length xs → get_or xs j x ≡ x → ⊥) → list_any (bytes_eq x) xs ≡ false
none_same [] x h = refl
none_same (y ∷ ys) x h = by (bytes_eq x y) refl (none_same ys x (λ j lt. h (suc j) (omega (arith, lt))))
  where
    by : (b : Bool) → bytes_eq x y ≡ b → list_any (bytes_eq x) ys ≡ false → (bytes_eq x y || list_any (bytes_eq x) ys) ≡ false
    by true e rest = absurd (h 0 (omega arith) (sym (names_same x y e)))
    by false e rest = ap (λ b. b || list_any (bytes_eq x) ys) e ∙ rest

-- of distinct names, none stands among those before it
unlike_earlier : (ns : List Name) (k : ℕ) (x : Name) → AreDistinct ns → k < length ns → x ≡ get_or ns k x → list_any (bytes_eq x) (take k ns) ≡ false
unlike_earlier ns k x h lt is = none_same (take k ns) x (λ j below same. by j (omega (arith, below, length-take-le k ns (omega (arith, lt)))) same)
  where
    by : (j : ℕ) → j < k → get_or (take k ns) j x ≡ x → ⊥
    by j below same = h j k x below lt (sym (get_or-take k ns j x below) ∙ same ∙ is)

name_added : (old new : List Name) (x : Name) (b : Bool) → b ≡ not (list_any (bytes_eq x) old) → list_any (bytes_eq x) old ≡ false → new ≡ (if b then old ++ (x ∷ []) else old) → new ≡ old ++ (x ∷ [])
name_added old new x b e none is = is ∙ ap (λ c. if c then old ++ (x ∷ []) else old) (e ∙ ap not none)

-- the names of the variables, one more of them
pub variable_added : (f : Variable → Name) (vs : List Variable) (k : ℕ) (v : Variable) (x : Name) (old new : List Name) (b : Bool) → AreDistinct (map f vs) → k < length vs → v ≡ get_or vs k v → x ≡ f v → old ≡ map f (take k vs)
    → b ≡ not (list_any (bytes_eq x) old) → new ≡ (if b then old ++ (x ∷ []) else old) → new ≡ map f (take (k + 1) vs)
variable_added f vs k v x old new b distinct lt is same before added names =
    let stands : slice_get (map f vs) k ≡ Some (f v) = read_mapped f vs (map f vs) k v refl lt is in
    let within : k < length (map f vs) = slice_get_within (map f vs) k (f v) stands in
    let fresh : list_any (bytes_eq x) old ≡ false =
    ap (λ z. list_any (bytes_eq z) old) same ∙ ap (list_any (bytes_eq (f v))) (before ∙ sym (take-map f k vs)) ∙ unlike_earlier (map f vs) k (f v) distinct within (sym (get_or_from_slice_get (map f vs) k (f v) (f v) stands)) in
    name_added old new x b added fresh names ∙ ap (λ z. old ++ (z ∷ [])) same ∙ ap (λ z. z ++ (f v ∷ [])) before ∙ sym (take_map f vs k v lt is)

-- ---- variables

-- a variable or an array
pub record IsStoredAt (p : Program) (s : Scope) (q : Path) (home : ℕ) (x : Name) (type : Plain) (indexes : List Held_bracket) : Type 0 where
  pub scope : Scope
  pub brackets : List Bracket
  pub placed : scope_at p home ≡ Some scope
  pub are : AreBrackets p indexes brackets
  pub denotes : Denotes p s q (Target.Stored scope x type brackets)

pub stored_at : (p : Program) (s : Scope) (q : Path) (home : ℕ) (name : _) (plain : _) (indexes : _) → Resolves p s q (Some (held.Stored home name plain indexes)) → IsStoredAt p s q home name.now (plain_type plain.now) indexes.items
stored_at p s q home name plain indexes r = by r.0 r.1 r.2
  where
    by : (t : Target) → IsTarget p (held.Stored home name plain indexes) t → Denotes p s q t → IsStoredAt p s q home name.now (plain_type plain.now) indexes.items
    by (Target.Stored h x type bs) is d = record {
      scope = h;
      brackets = bs;
      placed = is.0;
      are = is.3;
      denotes = subst (λ z. Denotes p s q (Target.Stored h z (plain_type plain.now) bs)) (sym is.1) (subst (λ z. Denotes p s q (Target.Stored h x z bs)) (sym is.2) d);
    }
    by (Target.Reading h e) is d = absurd is
    by (Target.Instance i) is d = absurd is
    by (Target.Constant x) is d = absurd is

abbrev pub is_stored : Code → Bool
is_stored (held.Stored home name plain indexes) = true
is_stored (held.Reading home right node) = false
is_stored (held.Instance number) = false
is_stored (held.Constant place) = false

pub stored_or_other : (t : Code) → ((home : _) (name : _) (plain : _) (indexes : _) → t ≡ held.Stored home name plain indexes → ⊥) → is_stored t ≡ false
stored_or_other (held.Stored home name plain indexes) never = absurd (never home name plain indexes refl)
stored_or_other (held.Reading home right node) never = refl
stored_or_other (held.Instance number) never = refl
stored_or_other (held.Constant place) never = refl

-- what is none selects nothing
pub other_selects : (p : Program) (s : Scope) (q : Path) (t : Code) → is_stored t ≡ false → Resolves p s q (Some t) → IsSelected p s q None
other_selects p s q t other r x (Selects.cell {home = h} {x = y} {type = type} {indexes = bs} d flat values) = by t other (subst (IsTarget p t) (denotes_one r.2 d) r.1)
  where
    by : (u : Code) → is_stored u ≡ false → IsTarget p u (Target.Stored h y type bs) → ⊥
    by (held.Stored home name plain indexes) e is = false≢true (sym e)
    by (held.Reading home right node) e is = is
    by (held.Instance number) e is = is
    by (held.Constant place) e is = is

abbrev type_or : Plain → Target → Plain
type_or d (Target.Stored home x type indexes) = type
type_or d other = d

abbrev brackets_or : List Bracket → Target → List Bracket
brackets_or d (Target.Stored home x type indexes) = indexes
brackets_or d other = d

pub array_selects : (p : Program) (s : Scope) (q : Path) (home : ℕ) (x : Name) (type : Plain) (indexes : List Held_bracket) → IsStoredAt p s q home x type indexes → is_array type ≡ true → IsSelected p s q None
array_selects p s q home x type indexes at array k (Selects.cell {type = u} d flat values) =
    false≢true (sym (subst (λ z. is_array z ≡ false) (ap (type_or type) (denotes_one d at.denotes)) flat) ∙ array)

pub unvalued_selects : (p : Program) (s : Scope) (q : Path) (home : ℕ) (x : Name) (type : Plain) (indexes : List Held_bracket) (at : IsStoredAt p s q home x type indexes)
    → ((ns : List ℕ) → AreIndexes p at.brackets ns → ⊥) → IsSelected p s q None
unvalued_selects p s q home x type indexes at none k (Selects.cell {ns = ns} d flat values) =
    none ns (subst (λ bs. AreIndexes p bs ns) (ap (brackets_or at.brackets) (denotes_one d at.denotes)) values)

-- ---- constants

abbrev pub is_constant : Code → Bool
is_constant (held.Constant place) = true
is_constant (held.Stored home name plain indexes) = false
is_constant (held.Reading home right node) = false
is_constant (held.Instance number) = false

pub constant_or_other : (t : Code) → ((place : ℕ) → t ≡ held.Constant place → ⊥) → is_constant t ≡ false
constant_or_other (held.Constant place) never = absurd (never place refl)
constant_or_other (held.Stored home name plain indexes) never = refl
constant_or_other (held.Reading home right node) never = refl
constant_or_other (held.Instance number) never = refl

pub constant_at : (p : Program) (s : Scope) (q : Path) (place : ℕ) → Resolves p s q (Some (held.Constant place)) → (x : Name) × (place ≡ place_of (symbols p) x) × Denotes p s q (Target.Constant x)
constant_at p s q place r = by r.0 r.1 r.2
  where
    by : (t : Target) → IsTarget p (held.Constant place) t → Denotes p s q t → (x : Name) × (place ≡ place_of (symbols p) x) × Denotes p s q (Target.Constant x)
    by (Target.Stored h x type bs) is d = absurd is
    by (Target.Reading h e) is d = absurd is
    by (Target.Instance i) is d = absurd is
    by (Target.Constant x) is d = (x, is, d)

pub not_constant : (p : Program) (s : Scope) (q : Path) (t : Code) (x : Name) → is_constant t ≡ false → Resolves p s q (Some t) → Denotes p s q (Target.Constant x) → ⊥
not_constant p s q t x other r d = by t other (subst (IsTarget p t) (denotes_one r.2 d) r.1)
  where
    by : (u : Code) → is_constant u ≡ false → IsTarget p u (Target.Constant x) → ⊥
    by (held.Stored home name plain indexes) e is = is
    by (held.Reading home right node) e is = is
    by (held.Instance number) e is = is
    by (held.Constant place) e is = false≢true (sym e)

-- ---- chains of definitions

pub record IsReadingAt (p : Program) (s : Scope) (q : Path) (node : ℕ) : Type 0 where
  pub scope : Scope
  pub expr : Expr
  pub denotes : Denotes p s q (Target.Reading scope expr)
  pub text : IsText p node scope expr

pub reading_at : (p : Program) (s : Scope) (q : Path) (home : ℕ) (right : _) (node : ℕ) → Resolves p s q (Some (held.Reading home right node)) → IsReadingAt p s q node
reading_at p s q home right node r = by r.0 r.1 r.2
  where
    by : (t : Target) → IsTarget p (held.Reading home right node) t → Denotes p s q t → IsReadingAt p s q node
    by (Target.Stored h x type bs) is d = absurd is
    by (Target.Reading h e) is d = record { scope = h; expr = e; denotes = d; text = is.2 }
    by (Target.Instance i) is d = absurd is
    by (Target.Constant x) is d = absurd is

abbrev pub is_reading : Code → Bool
is_reading (held.Reading home right node) = true
is_reading (held.Stored home name plain indexes) = false
is_reading (held.Instance number) = false
is_reading (held.Constant place) = false

pub not_reading : (p : Program) (s : Scope) (q : Path) (t : Code) → is_reading t ≡ false → Resolves p s q (Some t) → DenotesNoText p s q
not_reading p s q t other r h e d = by t other (subst (IsTarget p t) (denotes_one r.2 d) r.1)
  where
    by : (u : Code) → is_reading u ≡ false → IsTarget p u (Target.Reading h e) → ⊥
    by (held.Stored home name plain indexes) f is = is
    by (held.Reading home right node) f is = false≢true (sym f)
    by (held.Instance number) f is = is
    by (held.Constant place) f is = is

-- where nothing is circular, an abbreviation with a text has the end of its chain in the table
pub end_of_node : (p : Program) (node : ℕ) (s : Scope) (e : Expr) (ends : List ℕ) (found : ℕ) → AreEnds p ends → length ends ≡ length (all_entries p) → AreDefined p → IsText p node s e → found ≡ get_or ends node found → IsEnd p s e found
end_of_node p node s e ends found are count defined text is =
    let below : node < length ends = omega (arith, numbered_within p node text.abbreviation text.numbered, count) in
    let read : found ≡ get_or ends node (no_end p) = sym (get_or_from_slice_get ends node found (no_end p) (slice_get_read ends (length ends) node found refl below is)) in
    subst (IsEnd p s e) (sym read) (end_defined p ends are defined.straight node s e text)

-- where the text of that end is written
pub written_end : (p : Program) (s : Scope) (e : Expr) (node : ℕ) (end : End) (is : IsEnd p s e node) → IsTextIn p is.text.abbreviation end.home (plain_expr end.right.now) → IsWrittenAt p s e end
written_end p s e node end is (h, home, text) =
    let both : (is.scope, is.expr) ≡ (h, plain_expr end.right.now) = same_Some _ _ (sym is.text.text ∙ text) in record {
      scope = h;
      home = home;
      same = λ t x. subst (λ (r : Scope × Expr). Expands p r.0 r.1 t) both (is.same t x);
      last = subst (λ (r : Scope × Expr). (q : Path) → bare r.1 ≡ Expr.At q → DenotesNoText p r.0 q) both (λ q path g f d. is.last q g f path d);
    }

pub reading_end : (p : Program) (s : Scope) (q : Path) (node : ℕ) (end : End) (at : IsReadingAt p s q node) → IsWrittenAt p at.scope at.expr end → EndsPath p s q (Some end)
reading_end p s q node end at w = record { scope = w.scope; home = w.home; same = λ t x. w.same t (reading_expands at.denotes x); last = w.last }

pub bare_bare : (e : Expr) → bare (bare e) ≡ bare e
bare_bare (Expr.Parens e) = bare_bare e
bare_bare (Expr.Number n) = refl
bare_bare (Expr.Truth b) = refl
bare_bare Expr.Running = refl
bare_bare (Expr.At q) = refl
bare_bare (Expr.Next e) = refl
bare_bare (Expr.Braces es) = refl
bare_bare (Expr.Case arms) = refl
bare_bare (Expr.Not e) = refl
bare_bare (Expr.Binary op a b) = refl
bare_bare (Expr.Quant op e) = refl
bare_bare (Expr.Until all a b) = refl

-- an expression without its parentheses is where its node is written, if it is no path to another one
pub node_here : (p : Program) (s : Scope) (e : Expr) (end : End) → scope_at p end.home ≡ Some s → plain_expr end.right.now ≡ bare e → ((q : Path) → bare e ≡ Expr.At q → DenotesNoText p s q) → IsNodeOf p s e end
node_here p s e end home is none = record {
  ends = record {
    scope = s;
    home = home;
    same = λ t x. subst (λ z. Expands p s z t) (sym is) (to_bare x);
    last = λ q at. none q (sym (bare_bare e) ∙ ap bare (sym is) ∙ at);
  };
  bare_is = ap bare is ∙ bare_bare e ∙ sym is;
}

abbrev path_or : Path → Expr → Path
path_or d (Expr.At q) = q
path_or d e = d

pub same_path : {p : Program} {s : Scope} {e : Expr} (r : Path) → e ≡ Expr.At r → DenotesNoText p s r → (q : Path) → e ≡ Expr.At q → DenotesNoText p s q
same_path {p} {s} r is none q at = subst (λ z. DenotesNoText p s z) (ap (path_or r) (sym is ∙ at)) none

-- what denotes nothing selects nothing and stands for nothing
pub nothing_selects : (p : Program) (s : Scope) (q : Path) → Resolves p s q None → IsSelected p s q None
nothing_selects p s q none x (Selects.cell d flat values) = none _ d

pub nothing_stands : (p : Program) (s : Scope) (q : Path) {t : Term} → Resolves p s q None → Expands p s (Expr.At q) t → ⊥
nothing_stands p s q none (Expands.variable (Selects.cell d flat values)) = none _ d
nothing_stands p s q none (Expands.constant d) = none _ d
nothing_stands p s q none (Expands.read d x) = none _ d

-- a path to another expression has it at the end of its chain
pub node_there : (p : Program) (s : Scope) (e : Expr) (q : Path) (old new : End) → bare e ≡ Expr.At q → IsWrittenAt p s (Expr.At q) old → new.home ≡ old.home → plain_expr new.right.now ≡ bare (plain_expr old.right.now) → IsNodeOf p s e new
node_there p s e q old new is ends home right = record {
  ends = record {
    scope = ends.scope;
    home = ap (scope_at p) home ∙ ends.home;
    same = λ t x. subst (λ z. Expands p ends.scope z t) (sym right) (to_bare (ends.same t (subst (λ z. Expands p s z t) is (to_bare x))));
    last = λ r at. ends.last r (sym (bare_bare (plain_expr old.right.now)) ∙ ap bare (sym right) ∙ at);
  };
  bare_is = ap bare right ∙ bare_bare (plain_expr old.right.now) ∙ sym right;
}
