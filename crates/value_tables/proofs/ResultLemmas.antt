-- What the cells of an operator's table show, from what its operands' cells show.
use Rattle.std.proofs.Common.{◌≡◌, ◌≢◌, ℕ, Bool, true, false, not, ◌&&◌, ◌||◌, ltb, List, [], ◌∷◌, length, map, Ok, Err, refl, sym, subst, ap, ◌∙◌, arith}
use Rattle.std.specs.List.{list_any}
use Rattle.std.proofs.lemmas.Bool.{lt-ltb}
use Rattle.std.proofs.lemmas.List.Elements.{All-cons, All-nil}
use Rattle.bdd_nodes.specs.declared.store.Store.{Store}
use Rattle.bdd_nodes.specs.Store.{Has}
use Rattle.bdd_nodes.proofs.Tables.{value_of-true}
use Rattle.kripke_model.specs.declared.expressions.Value.{Value}
use Rattle.kripke_model.specs.declared.expressions.BinOp.{BinOp}
use Rattle.kripke_model.specs.declared.expressions.FaultKind.{FaultKind}
use Rattle.kripke_model.specs.Evaluation.{Checked, ◌>>=◌, single, truth, truth_value}
use Rattle.value_tables.specs.declared.cells.Cell.{Cell}
use Rattle.value_tables.specs.declared.pick.Pick.{Pick}
use Rattle.value_tables.specs.declared.pick.Test.{Test}
use Rattle.value_tables.specs.Cells.{same_reading, readings, any_of, any_cell, Reads, AreOnce, readings_in, region_at}
use Rattle.value_tables.specs.Pick.{tested_value, becomes}
use Rattle.value_tables.specs.Tables.{is_fault, is_failure, is_fault_of, alone, IsProper, IsSingle, count_on, at_region, one_tested, both, judged, membership, truths, connective, IsTable}
use Rattle.kripke_model.specs.Operators.{logic}
use Rattle.value_tables.proofs.ReadingLists.{reads-any}
use Rattle.value_tables.proofs.OnceLemmas.{any_values, counted_on, region_shows}

or_none : (a : Bool) → (a || false) ≡ a
or_none true = refl
or_none false = refl

or_all : (a : Bool) → (a || true) ≡ true
or_all true = refl
or_all false = refl

and_all : (a : Bool) → (a && true) ≡ a
and_all true = refl
and_all false = refl

and_none : (a : Bool) → (a && false) ≡ false
and_none true = refl
and_none false = refl

pub any_alone : (p : Checked Value → Bool) (r : Checked Value) → any_of p (alone r) ≡ p r
any_alone p (Ok v) = or_none (p (Ok v))
any_alone p (Err kind) = or_none (p (Err kind))

-- ---- a tested operand

module _ (v : ℕ → Bool) (cells : List Cell) (c : Checked (List Value)) (once : AreOnce (readings_in cells)) (h : Reads v cells c) (proper : IsProper c) (single : Bool) (flag : single ≡ true → IsSingle c) where
  few : (c : Checked (List Value)) → IsSingle c → ltb 1 (length (readings c)) ≡ false
  few (Ok []) le = refl
  few (Ok (x ∷ [])) le = refl
  few (Ok (x ∷ y ∷ vs)) le = absurd (omega arith)
  few (Err kind) le = refl

  pub many_readings : (not single && ltb 1 (count_on v cells)) ≡ ltb 1 (length (readings c))
  many_readings = by single flag
    where
      by : (b : Bool) → (b ≡ true → IsSingle c) → (not b && ltb 1 (count_on v cells)) ≡ ltb 1 (length (readings c))
      by true f = sym (few c (f refl))
      by false f = ap (ltb 1) (counted_on v cells c once h proper)

tested_result : (test : Test) (c : Checked (List Value)) → IsProper c → (k : Checked Value)
    → ((false || (any_of (becomes (Pick.Tested test) k) c && not (ltb 1 (length (readings c))))) || (same_reading k (Err FaultKind.ManyValues) && ltb 1 (length (readings c)))) ≡ any_of (same_reading k) (one_tested test c)
tested_result test (Err kind) proper k = one (same_reading k (Err kind)) (same_reading k (Err FaultKind.ManyValues))
  where
    one : (a m : Bool) → ((false || ((a || false) && true)) || (m && false)) ≡ (a || false)
    one true m = refl
    one false true = refl
    one false false = refl
tested_result test (Ok []) proper k = absurd proper
tested_result test (Ok (v ∷ [])) proper k =
    one (same_reading k (tested_value test v)) (same_reading k (Err FaultKind.ManyValues)) ∙ sym (any_alone (same_reading k) (tested_value test v))
  where
    one : (a m : Bool) → ((false || ((a || false) && true)) || (m && false)) ≡ a
    one true m = refl
    one false true = refl
    one false false = refl
tested_result test (Ok (v ∷ w ∷ vs)) proper k =
    (λ i. (false || (any_of (becomes (Pick.Tested test) k) (Ok (v ∷ w ∷ vs)) && not (lt-ltb 1 (length (readings (Ok (v ∷ w ∷ vs)))) (omega arith) i))) || (same_reading k (Err FaultKind.ManyValues) && lt-ltb 1 (length (readings (Ok (v ∷ w ∷ vs)))) (omega arith) i))
    ∙ many (any_of (becomes (Pick.Tested test) k) (Ok (v ∷ w ∷ vs))) (same_reading k (Err FaultKind.ManyValues))
  where
    many : (a m : Bool) → ((false || (a && false)) || (m && true)) ≡ (m || false)
    many true true = refl
    many true false = refl
    many false true = refl
    many false false = refl

-- ---- faults of two operands

none_of_values : (p : Checked Value → Bool) (vs : List Value) → ((v : Value) → p (Ok v) ≡ false) → list_any p (map Ok vs) ≡ false
none_of_values p [] h = refl
none_of_values p (v ∷ vs) h = (λ i. h v i || list_any p (map Ok vs)) ∙ none_of_values p vs h

pub any_failure : (c : Checked (List Value)) → any_of is_fault c ≡ is_failure c
any_failure (Ok vs) = none_of_values is_fault vs (λ v. refl)
any_failure (Err kind) = refl

any_faults : (k : Checked Value) (c : Checked (List Value)) → any_of (becomes Pick.Faults k) c ≡ is_fault_of c k
any_faults k (Ok vs) = none_of_values (becomes Pick.Faults k) vs (λ v. refl)
any_faults k (Err kind) = or_none (same_reading k (Err kind))

both_faults : (c d : Checked (List Value)) (k : Checked Value) → ((false || (is_fault_of c k && true)) || (is_fault_of d k && not (is_failure c))) ≡ is_fault_of (both c d) k
both_faults (Ok vs) d k = and_all (is_fault_of d k)
both_faults (Err kind) d k = (λ i. and_all (same_reading k (Err kind)) i || and_none (is_fault_of d k) i) ∙ or_none (same_reading k (Err kind))

pub both_failures : (c d : Checked (List Value)) → (is_failure c || is_failure d) ≡ is_failure (both c d)
both_failures (Ok vs) d = refl
both_failures (Err kind) d = refl

pub faults_show : (v : ℕ → Bool) (left right : List Cell) (c d : Checked (List Value)) → Reads v left c → Reads v right d → (k : Checked Value)
    → ((false || (any_cell v (becomes Pick.Faults k) left && true)) || (any_cell v (becomes Pick.Faults k) right && not (any_cell v is_fault left))) ≡ is_fault_of (both c d) k
faults_show v left right c d a b k =
    (λ i. (false || ((reads-any v left c a (becomes Pick.Faults k) ∙ any_faults k c) i && true)) || ((reads-any v right d b (becomes Pick.Faults k) ∙ any_faults k d) i && not ((reads-any v left c a is_fault ∙ any_failure c) i)))
    ∙ both_faults c d k

pub faults_region : (v : ℕ → Bool) (left right : List Cell) (c d : Checked (List Value)) → Reads v left c → Reads v right d → (any_cell v is_fault left || any_cell v is_fault right) ≡ is_failure (both c d)
faults_region v left right c d a b =
    (λ i. (reads-any v left c a is_fault ∙ any_failure c) i || (reads-any v right d b is_fault ∙ any_failure d) i) ∙ both_failures c d

-- ---- 0 and 1

decided_shows : (e : Checked (List Value)) (hit : Bool) (k : Checked Value)
    → ((is_fault_of e k || (same_reading k (Ok (truth_value false)) && not (hit || is_failure e))) || (same_reading k (Ok (truth_value true)) && (hit && not (is_failure e)))) ≡ any_of (same_reading k) (e >>= λ vs. Ok (truth hit))
decided_shows (Err kind) hit k = by (same_reading k (Err kind)) (same_reading k (Ok (truth_value false))) (same_reading k (Ok (truth_value true))) hit
  where
    by : (f a b hit : Bool) → ((f || (a && not (hit || true))) || (b && (hit && false))) ≡ (f || false)
    by true a b hit = refl
    by false true true true = refl
    by false true true false = refl
    by false true false true = refl
    by false true false false = refl
    by false false true true = refl
    by false false true false = refl
    by false false false hit = refl
decided_shows (Ok vs) true k = by (same_reading k (Ok (truth_value false))) (same_reading k (Ok (truth_value true)))
  where
    by : (a b : Bool) → ((false || (a && false)) || (b && true)) ≡ (b || false)
    by true true = refl
    by true false = refl
    by false true = refl
    by false false = refl
decided_shows (Ok vs) false k = by (same_reading k (Ok (truth_value false))) (same_reading k (Ok (truth_value true)))
  where
    by : (a b : Bool) → ((false || (a && true)) || (b && false)) ≡ (a || false)
    by true true = refl
    by true false = refl
    by false true = refl
    by false false = refl

-- the same, from the values that the steps leave
pub judged_shows : (c d : Checked (List Value)) (k : Checked Value) (fault fail now hit : Bool) → fault ≡ is_fault_of (both c d) k → fail ≡ is_failure (both c d) → now ≡ hit
    → ((fault || (same_reading k (Ok (truth_value false)) && not (now || fail))) || (same_reading k (Ok (truth_value true)) && (now && not fail))) ≡ any_of (same_reading k) (judged c d hit)
judged_shows c d k fault fail now hit f g h =
    (λ i. (f i || (same_reading k (Ok (truth_value false)) && not (h i || g i))) || (same_reading k (Ok (truth_value true)) && (h i && not (g i)))) ∙ decided_shows (both c d) hit k

module _ (v : ℕ → Bool) (left right : List Cell) (none : v 0 ≡ false) where
  pub membership_judged : (a : Checked Value) (d : Checked (List Value)) → AreOnce (readings_in right) → Reads v left (alone a) → Reads v right d → judged (alone a) d (any_cell v (at_region v right) left) ≡ membership a d
  membership_judged (Ok u) (Ok ws) once x y =
      ap (λ b. Ok (truth b)) (reads-any v left (alone (Ok u)) x (at_region v right) ∙ or_none (at_region v right (Ok u)) ∙ region_shows v none right once (Ok u) ∙ y.each (Ok u) ∙ any_values (same_reading (Ok u)) ws)
  membership_judged (Ok u) (Err kind) once x y = refl
  membership_judged (Err kind) d once x y = refl

  side : (cells : List Cell) → AreOnce (readings_in cells) → (p : Bool) → Reads v cells (Ok (truth p)) → v (region_at cells (Ok (truth_value true))) ≡ p
  side cells once true h = region_shows v none cells once (Ok (truth_value true)) ∙ h.each (Ok (truth_value true)) ∙ refl
  side cells once false h = region_shows v none cells once (Ok (truth_value true)) ∙ h.each (Ok (truth_value true)) ∙ refl

  pub connective_judged : (op : BinOp) (a b : Checked Bool) → AreOnce (readings_in left) → AreOnce (readings_in right) → Reads v left (truths a) → Reads v right (truths b)
      → judged (truths a) (truths b) (logic op (v (region_at left (Ok (truth_value true)))) (v (region_at right (Ok (truth_value true))))) ≡ connective op a b
  connective_judged op (Ok p) (Ok q) once_left once_right x y = λ i. Ok (truth (logic op (side left once_left p x i) (side right once_right q y i)))
  connective_judged op (Ok p) (Err kind) once_left once_right x y = refl
  connective_judged op (Err kind) b once_left once_right x y = refl

-- the tested operand
pub tested_shows : (v : ℕ → Bool) (cells : List Cell) (c : Checked (List Value)) → AreOnce (readings_in cells) → Reads v cells c → IsProper c → (single : Bool) → (single ≡ true → IsSingle c) → (test : Test) (k : Checked Value) (many : Bool)
    → many ≡ (not single && ltb 1 (count_on v cells))
    → ((false || (any_cell v (becomes (Pick.Tested test) k) cells && not many)) || (same_reading k (Err FaultKind.ManyValues) && many)) ≡ any_of (same_reading k) (one_tested test c)
tested_shows v cells c once h proper single flag test k many e =
    (λ i. (false || (reads-any v cells c h (becomes (Pick.Tested test) k) i && not ((e ∙ many_readings v cells c once h proper single flag) i))) || (same_reading k (Err FaultKind.ManyValues) && (e ∙ many_readings v cells c once h proper single flag) i))
    ∙ tested_result test c proper k

-- ---- one reading everywhere

one_alone : (r : Checked Value) → IsSingle (alone r)
one_alone (Ok v) = omega arith
one_alone (Err kind) = tt

single_table : (s : Store) (reading : Checked Value) → IsTable s (record { reading = reading; region = 1 } ∷ []) true (λ bits. alone reading)
single_table s reading = record {
  regions = record {
    has = All-cons (λ (c : Cell). Has s c.region) _ [] (omega arith) (All-nil (λ (c : Cell). Has s c.region));
    some = All-cons (λ (c : Cell). c.region ≢ 0) _ [] (λ z. absurd (omega (arith, z))) (All-nil (λ (c : Cell). c.region ≢ 0));
    once = (refl, tt);
  };
  reads = λ bits. record {
    each = λ k. (λ i. (same_reading k reading && value_of-true s.nodes.keys bits i) || false) ∙ or_none (same_reading k reading && true) ∙ and_all (same_reading k reading) ∙ sym (any_alone (same_reading k) reading);
  };
  at_most_one = λ e bits. one_alone reading;
}

pub everywhere_table : (s : Store) (reading : Checked Value) (cells : List Cell) → cells ≡ record { reading = reading; region = 1 } ∷ [] → IsTable s cells true (λ bits. alone reading)
everywhere_table s reading cells e = subst (λ xs. IsTable s xs true (λ bits. alone reading)) (sym e) (single_table s reading)
