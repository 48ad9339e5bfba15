-- The values that the steps of a function leave, joined to what its result shows.
use Rattle.std.proofs.Common.{◌≡◌, ℕ, Bool, true, false, not, ◌&&◌, ◌||◌, ltb, List, Result, Ok, Err, IfOk, OnOk, ap, ◌∙◌}
use Rattle.kripke_model.specs.declared.expressions.Value.{Value}
use Rattle.kripke_model.specs.declared.expressions.FaultKind.{FaultKind}
use Rattle.kripke_model.specs.Evaluation.{Checked, truth_value}
use Rattle.value_tables.specs.declared.cells.Cell.{Cell}
use Rattle.value_tables.specs.declared.pick.Pick.{Pick}
use Rattle.value_tables.specs.declared.pick.Test.{Test}
use Rattle.value_tables.specs.Cells.{same_reading, any_of, any_cell, Reads, AreOnce, readings_in}
use Rattle.value_tables.specs.Pick.{becomes}
use Rattle.value_tables.specs.Tables.{is_fault, is_failure, is_fault_of, IsProper, IsSingle, count_on, one_tested, both}
use Rattle.value_tables.proofs.ResultLemmas.{tested_shows, faults_show, faults_region}

pub tested_each : (v : ℕ → Bool) (cells : List Cell) (c : Checked (List Value)) → AreOnce (readings_in cells) → Reads v cells c → IsProper c → (single : Bool) → (single ≡ true → IsSingle c) → (test : Test) (k : Checked Value)
    → (s2 s1 s0 x one many again : Bool) → s2 ≡ (s1 || (same_reading k (Err FaultKind.ManyValues) && again)) → s1 ≡ (s0 || (x && one)) → s0 ≡ false → x ≡ any_cell v (becomes (Pick.Tested test) k) cells → one ≡ not many → again ≡ many
    → many ≡ (not single && ltb 1 (count_on v cells)) → s2 ≡ any_of (same_reading k) (one_tested test c)
tested_each v cells c once h proper single flag test k s2 s1 s0 x one many again e2 e1 e0 ex e_one e_again e_many =
    e2 ∙ (λ i. e1 i || (same_reading k (Err FaultKind.ManyValues) && e_again i)) ∙ (λ i. (e0 i || (ex i && e_one i)) || (same_reading k (Err FaultKind.ManyValues) && many))
    ∙ tested_shows v cells c once h proper single flag test k many e_many

pub faults_each : (v : ℕ → Bool) (left right : List Cell) (c d : Checked (List Value)) → Reads v left c → Reads v right d → (k : Checked Value) → (s2 s1 s0 xr xl t sound first : Bool)
    → s2 ≡ (s1 || (xr && sound)) → s1 ≡ (s0 || (xl && t)) → s0 ≡ false → xl ≡ any_cell v (becomes Pick.Faults k) left → t ≡ true → xr ≡ any_cell v (becomes Pick.Faults k) right → sound ≡ not first → first ≡ any_cell v is_fault left
    → s2 ≡ is_fault_of (both c d) k
faults_each v left right c d a b k s2 s1 s0 xr xl t sound first e2 e1 e0 el et er es ef =
    e2 ∙ (λ i. e1 i || (er i && (es ∙ ap not ef) i)) ∙ (λ i. (e0 i || (el i && et i)) || (any_cell v (becomes Pick.Faults k) right && not (any_cell v is_fault left)))
    ∙ faults_show v left right c d a b k

pub failure_each : (v : ℕ → Bool) (left right : List Cell) (c d : Checked (List Value)) → Reads v left c → Reads v right d → (r first second : Bool) → r ≡ (first || second) → first ≡ any_cell v is_fault left → second ≡ any_cell v is_fault right → r ≡ is_failure (both c d)
failure_each v left right c d a b r first second e f g = e ∙ (λ i. f i || g i) ∙ faults_region v left right c d a b

pub decided_each : (k : Checked Value) (v0 v1 : Value) → v0 ≡ truth_value false → v1 ≡ truth_value true → (s2 s1 s0 s n y hit fail : Bool) → s2 ≡ (s1 || (same_reading k (Ok v1) && y)) → s1 ≡ (s0 || (same_reading k (Ok v0) && n)) → s0 ≡ s → n ≡ not (hit || fail) → y ≡ (hit && not fail)
    → s2 ≡ ((s || (same_reading k (Ok (truth_value false)) && not (hit || fail))) || (same_reading k (Ok (truth_value true)) && (hit && not fail)))
decided_each k v0 v1 is0 is1 s2 s1 s0 s n y hit fail e2 e1 e0 en ey =
    e2 ∙ (λ i. e1 i || (same_reading k (Ok (is1 i)) && ey i)) ∙ (λ i. (e0 i || (same_reading k (Ok (is0 i)) && en i)) || (same_reading k (Ok (truth_value true)) && (hit && not fail)))

pub if_ok : {T E : Type 0} {P Q : T → Type 0} (r : Result T E) → IfOk r P → ((t : T) → P t → Q t) → IfOk r Q
if_ok (Ok t) h f = f t h
if_ok (Err e) h f = tt

-- the same of three facts
pub all_ok : {T E : Type 0} {P Q R S : T → Type 0} (r : Result T E) → IfOk r P → IfOk r Q → IfOk r R → ((t : T) → P t → Q t → R t → S t) → IfOk r S
all_ok (Ok t) h k l f = f t h k l
all_ok (Err e) h k l f = tt

pub on_ok : {T E P : Type 0} (r : Result T E) → P → OnOk r P
on_ok (Ok t) h = h
on_ok (Err e) h = tt
