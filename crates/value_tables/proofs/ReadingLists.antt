-- Lists of readings with the same members.
use Rattle.std.proofs.Common.{◌≡◌, ℕ, zero, suc, Bool, true, false, cond, ◌&&◌, ◌||◌, List, [], ◌∷◌, ◌++◌, Ok, Err, inl, inr, refl, sym, ap, ◌∙◌}
use Rattle.std.specs.List.{list_any}
use Rattle.std.proofs.lemmas.Bool.{false≢true, or_cases, or_left, or_right, or_parts, or_from, eqb-true, eq-eqb}
use Rattle.std.proofs.lemmas.Bool.Decides.{Decides-int_eq}
use Rattle.std.proofs.lemmas.List.Folds.{list_any-append}
use Rattle.kripke_model.specs.declared.expressions.Value.{Value}
use Rattle.kripke_model.specs.declared.expressions.Value.TheVariants.{Number, Symbol}
use Rattle.kripke_model.specs.declared.expressions.FaultKind.{FaultKind}
use Rattle.kripke_model.specs.declared.expressions.FaultKind.TheVariants.{ManyValues, NotNumber, NotBoolean, ZeroDivisor, Overflow, OutOfType}
use Rattle.kripke_model.specs.Evaluation.{Checked, same}
use Rattle.value_tables.specs.declared.cells.Cell.{Cell}
use Rattle.value_tables.specs.Cells.{fault_number, same_reading, readings, any_of, any_cell, Reads, AreOnce}

-- ---- equal readings

pub same-true : (v w : Value) → same v w ≡ true → v ≡ w
same-true (Number i) (Number j) e = ap Number ((Decides-int_eq i j).0 e)
same-true (Symbol c) (Symbol d) e = ap Symbol (eqb-true c d e)
same-true (Number i) (Symbol d) e = absurd cc
same-true (Symbol c) (Number j) e = absurd cc

pub same_self : (v : Value) → same v v ≡ true
same_self (Number i) = (Decides-int_eq i i).1 refl
same_self (Symbol c) = eq-eqb c c refl

-- the fault with a number
kind_of : ℕ → FaultKind
kind_of zero = ManyValues
kind_of (suc zero) = NotNumber
kind_of (suc (suc zero)) = NotBoolean
kind_of (suc (suc (suc zero))) = ZeroDivisor
kind_of (suc (suc (suc (suc zero)))) = Overflow
kind_of (suc (suc (suc (suc (suc n))))) = OutOfType

kind_of-number : (k : FaultKind) → kind_of (fault_number k) ≡ k
unfolding kind_of
kind_of-number ManyValues = refl
kind_of-number NotNumber = refl
kind_of-number NotBoolean = refl
kind_of-number ZeroDivisor = refl
kind_of-number Overflow = refl
kind_of-number OutOfType = refl

pub same_fault : (j k : FaultKind) → fault_number j ≡ fault_number k → j ≡ k
same_fault j k e = sym (kind_of-number j) ∙ ap kind_of e ∙ kind_of-number k

pub same_reading-true : (a b : Checked Value) → same_reading a b ≡ true → a ≡ b
same_reading-true (Ok v) (Ok w) e = ap Ok (same-true v w e)
same_reading-true (Err j) (Err k) e = ap Err (same_fault j k (eqb-true (fault_number j) (fault_number k) e))
same_reading-true (Ok v) (Err k) e = absurd (false≢true e)
same_reading-true (Err j) (Ok w) e = absurd (false≢true e)

pub same_reading-self : (a : Checked Value) → same_reading a a ≡ true
same_reading-self (Ok v) = same_self v
same_reading-self (Err k) = eq-eqb (fault_number k) (fault_number k) refl

pub same_reading-sym : (a b : Checked Value) → same_reading a b ≡ false → same_reading b a ≡ false
same_reading-sym a b e = by (same_reading b a) refl
  where
    by : (t : Bool) → same_reading b a ≡ t → t ≡ false
    by true h = absurd (false≢true (sym e ∙ ap (same_reading a) (same_reading-true b a h) ∙ same_reading-self a))
    by false h = refl

pub bool_same : (a b : Bool) → (a ≡ true → b ≡ true) → (b ≡ true → a ≡ true) → a ≡ b
bool_same true b f g = sym (f refl)
bool_same false true f g = g refl
bool_same false false f g = refl

-- ---- the same members

pub member-any : (p : Checked Value → Bool) (k : Checked Value) (ys : List (Checked Value)) → list_any (same_reading k) ys ≡ true → p k ≡ true → list_any p ys ≡ true
member-any p k [] e h = absurd (false≢true e)
member-any p k (y ∷ ys) e h = elim (or_cases (same_reading k y) (list_any (same_reading k) ys) e) [
  | inl a ↦ or_left (p y) (list_any p ys) (ap p (sym (same_reading-true k y a)) ∙ h)
  | inr b ↦ or_right (p y) (list_any p ys) (member-any p k ys b h)
]

any_members : (p : Checked Value → Bool) (xs ys : List (Checked Value)) → ((k : Checked Value) → list_any (same_reading k) xs ≡ true → list_any (same_reading k) ys ≡ true) → list_any p xs ≡ true → list_any p ys ≡ true
any_members p [] ys h e = absurd (false≢true e)
any_members p (x ∷ xs) ys h e = elim (or_cases (p x) (list_any p xs) e) [
  | inl a ↦ member-any p x ys (h x (or_left (same_reading x x) (list_any (same_reading x) xs) (same_reading-self x))) a
  | inr b ↦ any_members p xs ys (λ k q. h k (or_right (same_reading k x) (list_any (same_reading k) xs) q)) b
]

pub any_same : (p : Checked Value → Bool) (xs ys : List (Checked Value)) → ((k : Checked Value) → list_any (same_reading k) xs ≡ list_any (same_reading k) ys) → list_any p xs ≡ list_any p ys
any_same p xs ys h = bool_same (list_any p xs) (list_any p ys) (any_members p xs ys (λ k e. sym (h k) ∙ e)) (any_members p ys xs (λ k e. h k ∙ e))

-- the readings of the cells with value 1
abbrev pub on : (ℕ → Bool) → List Cell → List (Checked Value)
on v [] = []
on v (c ∷ cs) = cond (v c.region) (c.reading ∷ on v cs) (on v cs)

pub any_cell-on : (v : ℕ → Bool) (p : Checked Value → Bool) (cells : List Cell) → any_cell v p cells ≡ list_any p (on v cells)
any_cell-on v p [] = refl
any_cell-on v p (c ∷ cs) = by (v c.region) (any_cell-on v p cs)
  where
    true_right : (a : Bool) → (a && true) ≡ a
    true_right true = refl
    true_right false = refl

    false_right : (a : Bool) → (a && false) ≡ false
    false_right true = refl
    false_right false = refl

    by : (b : Bool) → any_cell v p cs ≡ list_any p (on v cs) → ((p c.reading && b) || any_cell v p cs) ≡ list_any p (cond b (c.reading ∷ on v cs) (on v cs))
    by true h = λ i. true_right (p c.reading) i || h i
    by false h = λ i. false_right (p c.reading) i || h i

-- a test of the cells is the test of the readings
pub reads-any : (v : ℕ → Bool) (cells : List Cell) (c : Checked (List Value)) → Reads v cells c → (p : Checked Value → Bool) → any_cell v p cells ≡ any_of p c
reads-any v cells c h p =
    any_cell-on v p cells ∙ any_same p (on v cells) (readings c) (λ k. sym (any_cell-on v (same_reading k) cells) ∙ h.each k)

-- ---- readings that stand once

pub once_push : (ks : List (Checked Value)) (k : Checked Value) → AreOnce ks → list_any (same_reading k) ks ≡ false → AreOnce (ks ++ k ∷ [])
once_push [] k h e = (refl, tt)
once_push (j ∷ ks) k h e =
    let parts = or_parts (same_reading k j) (list_any (same_reading k) ks) e in
    (list_any-append (same_reading j) ks (k ∷ []) ∙ or_from (list_any (same_reading j) ks) (same_reading j k || false) h.0 (or_from (same_reading j k) false (same_reading-sym k j parts.0) refl), once_push ks k h.1 parts.1)
