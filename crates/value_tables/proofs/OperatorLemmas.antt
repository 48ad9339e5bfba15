-- Operators on the results of tested operands.
use Rattle.std.proofs.Common.{◌≡◌, ℕ, zero, suc, Bool, true, false, not, ◌&&◌, ◌||◌, List, map, Ok, Err, pos, negsuc, refl, sym, ap, ◌∙◌}
use Rattle.std.specs.List.{list_any}
use Rattle.std.proofs.lemmas.List.{map-append}
use Rattle.std.proofs.lemmas.List.Folds.{list_any-append}
use Rattle.kripke_model.specs.declared.expressions.Value.{Value}
use Rattle.kripke_model.specs.declared.expressions.Value.TheVariants.{Number, Symbol}
use Rattle.kripke_model.specs.declared.expressions.BinOp.{BinOp}
use Rattle.kripke_model.specs.Evaluation.{Checked, ◌>>=◌, single, truth, as_boolean, truth_value}
use Rattle.value_tables.specs.declared.cells.Cell.{Cell}
use Rattle.value_tables.specs.declared.pick.Pick.{Pick}
use Rattle.value_tables.specs.declared.pick.Test.{Test}
use Rattle.value_tables.specs.Cells.{same_reading, any_of, any_cell, Reads, AreOnce, readings_in, region_at}
use Rattle.value_tables.specs.Pick.{tested_value, becomes, outcome}
use Rattle.value_tables.specs.Tables.{is_failure, is_fault_of, alone, one_tested, both, truths, pairs_to, paired, all_values, guard_of, negation, arm_shows, goes_on}
use Rattle.value_tables.proofs.ReadingLists.{reads-any}
use Rattle.value_tables.proofs.OnceLemmas.{any_values, region_shows}
use Rattle.value_tables.proofs.ResultLemmas.{any_alone}

or_none : (a : Bool) → (a || false) ≡ a
or_none true = refl
or_none false = refl

-- ---- pairs

pub paired_shows : (v : ℕ → Bool) (op : BinOp) (left right : List Cell) (a b : Checked Value) → Reads v left (alone a) → Reads v right (alone b) → (k : Checked Value)
    → (is_fault_of (both (alone a) (alone b)) k || any_cell v (pairs_to v op k right) left) ≡ any_of (same_reading k) (alone (paired op a b))
paired_shows v op left right a b x y k =
    ap (λ t. is_fault_of (both (alone a) (alone b)) k || t) (reads-any v left (alone a) x (pairs_to v op k right) ∙ any_alone (pairs_to v op k right) a) ∙ by a b y
  where
    by : (a b : Checked Value) → Reads v right (alone b) → (is_fault_of (both (alone a) (alone b)) k || pairs_to v op k right a) ≡ any_of (same_reading k) (alone (paired op a b))
    by (Ok p) (Ok q) y = reads-any v right (alone (Ok q)) y (becomes (Pick.With op p) k) ∙ any_alone (becomes (Pick.With op p) k) (Ok q) ∙ sym (any_alone (same_reading k) (outcome op p q))
    by (Ok p) (Err kind) y = ap (λ t. same_reading k (Err kind) || t) (reads-any v right (alone (Err kind)) y (becomes (Pick.With op p) k) ∙ any_alone (becomes (Pick.With op p) k) (Err kind))
    by (Err kind) b y = refl

-- ---- sets

values_pass : (k : Checked Value) (vs : List Value) → any_of (becomes Pick.Values k) (Ok vs) ≡ any_of (same_reading k) (Ok vs)
values_pass k vs = any_values (becomes Pick.Values k) vs ∙ sym (any_values (same_reading k) vs)

pub united_shows : (v : ℕ → Bool) (left right : List Cell) (c d : Checked (List Value)) → Reads v left c → Reads v right d → (k : Checked Value) (fault fail : Bool) → fault ≡ is_fault_of (both c d) k → fail ≡ is_failure (both c d)
    → ((fault || (any_cell v (becomes Pick.Values k) left && not fail)) || (any_cell v (becomes Pick.Values k) right && not fail)) ≡ any_of (same_reading k) (all_values c d)
united_shows v left right c d x y k fault fail f g =
    (λ i. (f i || (reads-any v left c x (becomes Pick.Values k) i && not (g i))) || (reads-any v right d y (becomes Pick.Values k) i && not (g i))) ∙ by c d
  where
    none : (f a b : Bool) → ((f || (a && false)) || (b && false)) ≡ (f || false)
    none true a b = refl
    none false true true = refl
    none false true false = refl
    none false false true = refl
    none false false false = refl

    all : (a b : Bool) → ((false || (a && true)) || (b && true)) ≡ (a || b)
    all true b = refl
    all false true = refl
    all false false = refl

    by : (c d : Checked (List Value)) → ((is_fault_of (both c d) k || (any_of (becomes Pick.Values k) c && not (is_failure (both c d)))) || (any_of (becomes Pick.Values k) d && not (is_failure (both c d)))) ≡ any_of (same_reading k) (all_values c d)
    by (Ok vs) (Ok ws) =
        all (any_of (becomes Pick.Values k) (Ok vs)) (any_of (becomes Pick.Values k) (Ok ws))
        ∙ (λ i. values_pass k vs i || values_pass k ws i)
        ∙ sym (ap (list_any (same_reading k)) (map-append Ok vs ws) ∙ list_any-append (same_reading k) (map Ok vs) (map Ok ws))
    by (Ok vs) (Err kind) = none (same_reading k (Err kind)) (any_of (becomes Pick.Values k) (Ok vs)) (any_of (becomes Pick.Values k) (Err kind))
    by (Err kind) d = none (same_reading k (Err kind)) (any_of (becomes Pick.Values k) (Err kind)) (any_of (becomes Pick.Values k) d)

-- ---- 0 and 1

-- an operand that passes the test is a truth value
pub boolean_tested : (c : Checked (List Value)) → one_tested Test.Boolean c ≡ truths (guard_of c)
boolean_tested (Err kind) = refl
boolean_tested (Ok vs) = by (single vs)
  where
    by : (s : Checked Value) → alone (s >>= tested_value Test.Boolean) ≡ truths (s >>= as_boolean)
    by (Ok (Number (pos zero))) = refl
    by (Ok (Number (pos (suc zero)))) = refl
    by (Ok (Number (pos (suc (suc n))))) = refl
    by (Ok (Number (negsuc n))) = refl
    by (Ok (Symbol s)) = refl
    by (Err kind) = refl

pub negated_shows : (v : ℕ → Bool) (cells : List Cell) (c : Checked (List Value)) → Reads v cells (one_tested Test.Boolean c) → (k : Checked Value) → (false || (any_cell v (becomes Pick.Negated k) cells && true)) ≡ any_of (same_reading k) (negation c)
negated_shows v cells c h k = all (any_cell v (becomes Pick.Negated k) cells) ∙ reads-any v cells (one_tested Test.Boolean c) h (becomes Pick.Negated k) ∙ ap (any_of (becomes Pick.Negated k)) (boolean_tested c) ∙ by (guard_of c)
  where
    all : (a : Bool) → (a && true) ≡ a
    all true = refl
    all false = refl

    by : (b : Checked Bool) → any_of (becomes Pick.Negated k) (truths b) ≡ any_of (same_reading k) (b >>= λ x. Ok (truth (not x)))
    by (Ok true) = refl
    by (Ok false) = refl
    by (Err kind) = refl

-- ---- an arm

module _ (v : ℕ → Bool) (guard : List Cell) (b : Checked Bool) (none : v 0 ≡ false) (once : AreOnce (readings_in guard)) (h : Reads v guard (truths b)) where
  is_truth : (t : Bool) → v (region_at guard (Ok (truth_value t))) ≡ any_of (same_reading (Ok (truth_value t))) (truths b)
  is_truth t = region_shows v none guard once (Ok (truth_value t)) ∙ h.each (Ok (truth_value t))

  pub arm_rest : (w : Bool) → (v (region_at guard (Ok (truth_value false))) && w) ≡ (w && goes_on b)
  arm_rest w = ap (λ t. t && w) (is_truth false) ∙ by b w
    where
      by : (b : Checked Bool) (w : Bool) → (any_of (same_reading (Ok (truth_value false))) (truths b) && w) ≡ (w && goes_on b)
      by (Ok true) true = refl
      by (Ok true) false = refl
      by (Ok false) true = refl
      by (Ok false) false = refl
      by (Err kind) true = refl
      by (Err kind) false = refl

  pub arm_step : (k : Checked Value) (d : Checked (List Value)) (s w all taken : Bool) → all ≡ any_of (same_reading k) d → taken ≡ (v (region_at guard (Ok (truth_value true))) && w)
      → ((s || (any_cell v (becomes Pick.Faults k) guard && w)) || (all && taken)) ≡ (s || (w && arm_shows b d k))
  arm_step k d s w all taken e f =
      (λ i. (s || ((reads-any v guard (truths b) h (becomes Pick.Faults k)) i && w)) || (e i && (f ∙ ap (λ t. t && w) (is_truth true)) i))
      ∙ by b s w (any_of (same_reading k) d) refl
    where
      by : (b : Checked Bool) (s w a : Bool) → a ≡ any_of (same_reading k) d → ((s || (any_of (becomes Pick.Faults k) (truths b) && w)) || (any_of (same_reading k) d && (any_of (same_reading (Ok (truth_value true))) (truths b) && w))) ≡ (s || (w && arm_shows b d k))
      by (Ok true) true w a e = refl
      by (Ok true) false true a e = and_all (any_of (same_reading k) d)
        where
          and_all : (x : Bool) → (x && true) ≡ x
          and_all true = refl
          and_all false = refl
      by (Ok true) false false a e = and_none (any_of (same_reading k) d)
        where
          and_none : (x : Bool) → (x && false) ≡ false
          and_none true = refl
          and_none false = refl
      by (Ok false) true w a e = refl
      by (Ok false) false true a e = and_none (any_of (same_reading k) d)
        where
          and_none : (x : Bool) → (x && false) ≡ false
          and_none true = refl
          and_none false = refl
      by (Ok false) false false a e = and_none (any_of (same_reading k) d)
        where
          and_none : (x : Bool) → (x && false) ≡ false
          and_none true = refl
          and_none false = refl
      by (Err kind) s w a e = last s w (same_reading k (Err kind)) (any_of (same_reading k) d)
        where
          last : (s w f x : Bool) → ((s || ((f || false) && w)) || (x && (false && w))) ≡ (s || (w && f))
          last true w f x = refl
          last false true true x = refl
          last false true false true = refl
          last false true false false = refl
          last false false true true = refl
          last false false true false = refl
          last false false false true = refl
          last false false false false = refl

  -- the same, from the values that the steps leave
  pub arm_each : (k : Checked Value) (d : Checked (List Value)) (s3 s2 s1 before s w now all taken : Bool) → s3 ≡ (s2 || (all && taken)) → s2 ≡ s1 → s1 ≡ (before || (any_cell v (becomes Pick.Faults k) guard && now)) → before ≡ s → now ≡ w → all ≡ any_of (same_reading k) d
      → taken ≡ (v (region_at guard (Ok (truth_value true))) && w) → s3 ≡ (s || (w && arm_shows b d k))
  arm_each k d s3 s2 s1 before s w now all taken e3 e2 e1 e0 ew ea et =
      e3 ∙ (λ i. (e2 ∙ e1) i || (all && taken)) ∙ (λ i. (e0 i || (any_cell v (becomes Pick.Faults k) guard && ew i)) || (all && taken)) ∙ arm_step k d s w all taken ea et

pub united_each : (v : ℕ → Bool) (left right : List Cell) (c d : Checked (List Value)) → Reads v left c → Reads v right d → (k : Checked Value) (s2 s1 s0 a b sound again fail : Bool)
    → s2 ≡ (s1 || (b && again)) → s1 ≡ (s0 || (a && sound)) → s0 ≡ is_fault_of (both c d) k → a ≡ any_cell v (becomes Pick.Values k) left → b ≡ any_cell v (becomes Pick.Values k) right → again ≡ sound → sound ≡ not fail → fail ≡ is_failure (both c d)
    → s2 ≡ any_of (same_reading k) (all_values c d)
united_each v left right c d x y k s2 s1 s0 a b sound again fail e2 e1 e0 ea eb er es ef =
    e2 ∙ (λ i. e1 i || (eb i && (er ∙ es) i)) ∙ (λ i. (s0 || (ea i && es i)) || (any_cell v (becomes Pick.Values k) right && not fail)) ∙ united_shows v left right c d x y k s0 fail e0 ef
