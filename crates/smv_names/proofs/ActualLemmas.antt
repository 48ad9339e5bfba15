-- The actual parameter for a formal one.
use Rattle.std.proofs.Common.{◌≡◌, refl, sym, ◌∙◌, ap, subst, ℕ, zero, suc, ◌+◌, ◌<◌, arith, List, [], ◌∷◌, ◌++◌, Bool, true, false, not, cond, length, map, flat_map, Option, Some, None}
use Rattle.std.specs.Prelude.{slice_get, find, zip, option_map, option_and_then}
use Rattle.std.specs.Str.{bytes_eq}
use Rattle.std.proofs.lemmas.List.{length-map}
use Rattle.std.proofs.lemmas.Option.{same_Some}
use Rattle.std.proofs.lemmas.Slice.Eq.{bytes_eq-Decides}
use Rattle.smv_instances.specs.Program.{Name, Expr, Formal, Module, Program}
use Rattle.smv_instances.specs.Entries.{Entity, Entry, entries, entity_in, of_formal, of_section}
use Rattle.smv_instances.specs.Instances.{Scope, module_of, place_of}
use Rattle.smv_instances.specs.Numbered.{IsFormal}
use Rattle.smv_instances.proofs.TableLemmas.{bytes_eq_sym}
use Rattle.smv_names.specs.Denotes.{Target, Meaning, meaning, meaning_of, bare, passed, actual_of}
use Rattle.smv_names.specs.Written.{is_path}
use Rattle.smv_names.proofs.WaitLemmas.{member_at}
use Rattle.smv_names.proofs.NodeLemmas.{mapped_get}

abbrev pub passed_pair : Name → Formal × Expr → Bool
passed_pair x pair = bytes_eq pair.0.name x

-- what stands first in a pair with a formal parameter of the name
find_zip : (fs : List Formal) (actuals : List Expr) (x : Name) (place : ℕ) (o : Option Expr) → place < length fs → place_of (map (λ f. f.name) fs) x ≡ place → slice_get actuals place ≡ o
    → option_map (λ (pair : Formal × Expr). pair.1) (find (passed_pair x) (zip fs actuals)) ≡ o
find_zip [] actuals x place o lt is at = absurd (omega arith)
find_zip (f ∷ fs) [] x place o lt is at = at
find_zip (f ∷ fs) (a ∷ actuals) x place o lt is at =
    go (bytes_eq x f.name) refl place is lt at (λ below stands. find_zip fs actuals x (place_of (map (λ (g : Formal). g.name) fs) x) o below refl stands)
  where
    go : (b : Bool) → bytes_eq x f.name ≡ b → (k : ℕ) → cond (not (bytes_eq x f.name)) (1 + place_of (map (λ (g : Formal). g.name) fs) x) 0 ≡ k → k < length (f ∷ fs) → slice_get (a ∷ actuals) k ≡ o
        → (place_of (map (λ (g : Formal). g.name) fs) x < length fs → slice_get actuals (place_of (map (λ (g : Formal). g.name) fs) x) ≡ o → option_map (λ (pair : Formal × Expr). pair.1) (find (passed_pair x) (zip fs actuals)) ≡ o)
        → option_map (λ (pair : Formal × Expr). pair.1) (cond (bytes_eq f.name x) (Some (f, a)) (find (passed_pair x) (zip fs actuals))) ≡ o
    go true same k here below stands rest =
        let k_is : 0 ≡ k = sym (ap (λ b. cond (not b) (1 + place_of (map (λ (g : Formal). g.name) fs) x) 0) same) ∙ here in
        ap (λ b. option_map (λ (pair : Formal × Expr). pair.1) (cond b (Some (f, a)) (find (passed_pair x) (zip fs actuals)))) (bytes_eq_sym f.name x ∙ same)
        ∙ ap (slice_get (a ∷ actuals)) k_is ∙ stands
    go false other k here below stands rest =
        let k_is : 1 + place_of (map (λ (g : Formal). g.name) fs) x ≡ k = sym (ap (λ b. cond (not b) (1 + place_of (map (λ (g : Formal). g.name) fs) x) 0) other) ∙ here in
        let k_more : suc (place_of (map (λ (g : Formal). g.name) fs) x) ≡ k = omega (arith, k_is) in
        ap (λ b. option_map (λ (pair : Formal × Expr). pair.1) (cond b (Some (f, a)) (find (passed_pair x) (zip fs actuals)))) (bytes_eq_sym f.name x ∙ other)
        ∙ rest (omega (arith, below, k_is)) (ap (slice_get (a ∷ actuals)) k_more ∙ stands)

abbrev read_around : Scope → Formal × Expr → Scope × Expr
read_around around pair = (around, bare pair.1)

only_second : (around : Scope) (found : Option (Formal × Expr)) (o : Option Expr) → option_map (λ (pair : Formal × Expr). pair.1) found ≡ o → option_map (read_around around) found ≡ option_map (λ e. (around, bare e)) o
only_second around (Some pair) o is = ap (option_map (λ e. (around, bare e))) is
only_second around None o is = ap (option_map (λ e. (around, bare e))) is

-- the expression that a formal parameter stands for
pub actual_for : (around : Scope) (name : Name) (process : Bool) (actuals : List Expr) (m : Module) (x : Name) (place : ℕ) (o : Option Expr) → IsFormal m.formals x place → slice_get actuals place ≡ o
    → actual_of (Scope.Inside around name process actuals m) x ≡ option_map (λ e. (around, bare e)) o
actual_for around name process actuals m x place o (lt, is) at = only_second around (find (passed_pair x) (zip m.formals actuals)) o (find_zip m.formals actuals x place o lt is at)

pub parameter_meaning : (p : Program) (s : Scope) (x : Name) (o : Option (Scope × Expr)) → entity_in (module_of s) x ≡ Some Entity.Parameter → actual_of s x ≡ o → meaning p s x ≡ option_map (λ r. passed r.0 r.1) o
parameter_meaning p s x o declared is = ap (option_and_then (meaning_of p s x)) declared ∙ ap (option_map (λ r. passed r.0 r.1)) is

pub passed_expr : (around : Scope) (e : Expr) → is_path e ≡ false → passed around e ≡ Meaning.Direct (Target.Reading around e)
passed_expr around (Expr.At q) other = absurd (let clash : true ≡ false = other in cc)
passed_expr around (Expr.Number n) other = refl
passed_expr around (Expr.Truth b) other = refl
passed_expr around Expr.Running other = refl
passed_expr around (Expr.Next e) other = refl
passed_expr around (Expr.Parens e) other = refl
passed_expr around (Expr.Braces es) other = refl
passed_expr around (Expr.Case arms) other = refl
passed_expr around (Expr.Not e) other = refl
passed_expr around (Expr.Binary op a b) other = refl
passed_expr around (Expr.Quant op e) other = refl
passed_expr around (Expr.Until all a b) other = refl

-- ---- the entry of a formal parameter

place_name : (names : List Name) (x : Name) → place_of names x < length names → slice_get names (place_of names x) ≡ Some x
place_name [] x lt = absurd (omega arith)
place_name (y ∷ ys) x lt = go (bytes_eq x y) refl lt (λ below. place_name ys x below)
  where
    go : (b : Bool) → bytes_eq x y ≡ b → cond (not (bytes_eq x y)) (1 + place_of ys x) 0 < length (y ∷ ys) → (place_of ys x < length ys → slice_get ys (place_of ys x) ≡ Some x)
        → slice_get (y ∷ ys) (cond (not (bytes_eq x y)) (1 + place_of ys x) 0) ≡ Some x
    go true same below rest = ap (λ b. slice_get (y ∷ ys) (cond (not b) (1 + place_of ys x) 0)) same ∙ ap Some (sym ((bytes_eq-Decides x y).0 same))
    go false other below rest =
        let less : cond (not false) (1 + place_of ys x) 0 < length (y ∷ ys) = subst (λ b. cond (not b) (1 + place_of ys x) 0 < length (y ∷ ys)) other below in
        let e : 1 + place_of ys x ≡ suc (place_of ys x) = omega arith in
        ap (λ b. slice_get (y ∷ ys) (cond (not b) (1 + place_of ys x) 0)) other ∙ ap (slice_get (y ∷ ys)) e ∙ rest (omega (arith, less))

named_formal : (fs : List Formal) (k : ℕ) (x : Name) → slice_get (map (λ (f : Formal). f.name) fs) k ≡ Some x → (f : Formal) × (slice_get fs k ≡ Some f) × (f.name ≡ x)
named_formal [] k x at = absurd (let none : None ≡ Some x = at in cc)
named_formal (f ∷ fs) zero x at = (f, refl, same_Some _ _ at)
named_formal (f ∷ fs) (suc k) x at = named_formal fs k x at

left_get : {A : Type 0} (xs ys : List A) (k : ℕ) (x : A) → slice_get xs k ≡ Some x → slice_get (xs ++ ys) k ≡ Some x
left_get [] ys k x at = absurd (let none : None ≡ Some x = at in cc)
left_get (z ∷ xs) ys zero x at = at
left_get (z ∷ xs) ys (suc k) x at = left_get xs ys k x at

pub record IsFormalEntry (m : Module) (x : Name) (place : ℕ) : Type 0 where
  pub entry : Entry
  pub stands : slice_get (entries m) place ≡ Some entry
  pub named : entry.name ≡ x

pub formal_entry : (m : Module) (x : Name) (place : ℕ) → IsFormal m.formals x place → IsFormalEntry m x place
formal_entry m x place (lt, is) =
    let names : List Name = map (λ (f : Formal). f.name) m.formals in
    let below : place_of (map (λ (f : Formal). f.name) m.formals) x < length (map (λ (f : Formal). f.name) m.formals) = omega (arith, lt, is, length-map m.formals (λ (f : Formal). f.name)) in
    let name : slice_get (map (λ (f : Formal). f.name) m.formals) place ≡ Some x = ap (slice_get (map (λ (f : Formal). f.name) m.formals)) (sym is) ∙ place_name (map (λ (f : Formal). f.name) m.formals) x below in
    let formal = named_formal m.formals place x name in
    record {
      entry = of_formal formal.0;
      stands = left_get (map of_formal m.formals) (flat_map of_section m.sections) place (of_formal formal.0) (mapped_get of_formal m.formals place formal.0 formal.1);
      named = formal.2;
    }

pub formal_stands : (m : Module) (place : ℕ) → place < length m.formals → (e : Entry) × (slice_get (entries m) place ≡ Some e)
formal_stands m place lt =
    let f = member_at m.formals place lt in
    (of_formal f.0, left_get (map of_formal m.formals) (flat_map of_section m.sections) place (of_formal f.0) (mapped_get of_formal m.formals place f.0 f.1))
