-- The states of formal parameters as they change.
use Rattle.std.proofs.Common.{◌≡◌, ◌≢◌, refl, sym, ◌∙◌, ap, subst, ℕ, zero, suc, ◌+◌, ◌-◌, ◌<◌, ◌≤◌, arith, List, [], ◌∷◌, ◌++◌, Bool, true, false, length, length-append, Option, Some, None, ◌⊎◌, inl, inr, ⊎_elim, Vec, Global}
use Rattle.std.specs.Prelude.{slice_get, slice_set, sum_by, option_and_then, Result, Ok, Err, OnOk}
use Rattle.std.proofs.Math.ListN.{length-set}
use Rattle.std.proofs.lemmas.List.Sums.{sum_by-set}
use Rattle.std.proofs.lemmas.Option.{same_Some, slice_get_within, get_or_from_slice_get}
use Rattle.smv_instances.specs.Program.{Program}
use Rattle.smv_instances.specs.Instances.{Scope, instances}
use Rattle.smv_instances.specs.Numbered.{scope_at}
use Rattle.smv_names.specs.declared.targets.Target.{Target as Held}
use Rattle.smv_names.specs.declared.states.Parameter.{Parameter}
use Rattle.smv_names.specs.declared.states.State.{State}
use Rattle.smv_names.specs.declared.states.State.TheVariants as state
use Rattle.smv_names.specs.declared.states.States.{States}
use Rattle.smv_names.specs.Passed.{IsDecided, AreStates, AreIdle, AreLost, HoldsWaiting, Keeps, KeepsStack, Settles, Sets, Steps, WaitsFor, state_at, one_unseen, unseen_count}
use Rattle.smv_names.proofs.WaitLemmas.{circle, member_at}

-- ---- lists

pub same_or : (a b : ℕ) → (a ≡ b) ⊎ (a ≢ b)
same_or zero zero = inl refl
same_or zero (suc b) = inr (λ e. absurd (omega (arith, e)))
same_or (suc a) zero = inr (λ e. absurd (omega (arith, e)))
same_or (suc a) (suc b) = ⊎_elim (λ e. inl (ap suc e)) (λ ne. inr (λ e. ne (omega (arith, e)))) (same_or a b)

set_same : {A : Type 0} (xs : List A) (i : ℕ) (y : A) → i < length xs → slice_get (slice_set xs i y) i ≡ Some y
set_same [] i y lt = absurd (omega arith)
set_same (x ∷ xs) zero y lt = refl
set_same (x ∷ xs) (suc i) y lt = set_same xs i y (omega arith)

set_other : {A : Type 0} (xs : List A) (i j : ℕ) (y : A) → j ≢ i → slice_get (slice_set xs i y) j ≡ slice_get xs j
set_other [] i j y ne = refl
set_other (x ∷ xs) zero zero y ne = absurd (ne refl)
set_other (x ∷ xs) zero (suc j) y ne = refl
set_other (x ∷ xs) (suc i) zero y ne = refl
set_other (x ∷ xs) (suc i) (suc j) y ne = set_other xs i j y (λ e. ne (ap suc e))

pub left_get : {A : Type 0} (xs ys : List A) (k : ℕ) (x : A) → slice_get xs k ≡ Some x → slice_get (xs ++ ys) k ≡ Some x
left_get [] ys k x at = absurd (let none : None ≡ Some x = at in cc)
left_get (z ∷ xs) ys zero x at = at
left_get (z ∷ xs) ys (suc k) x at = left_get xs ys k x at

pub end_get : {A : Type 0} (xs : List A) (x : A) → slice_get (xs ++ (x ∷ [])) (length xs) ≡ Some x
end_get [] x = refl
end_get (z ∷ xs) x = end_get xs x

pub snoc_get : {A : Type 0} (xs : List A) (x y : A) (k : ℕ) → slice_get (xs ++ (x ∷ [])) k ≡ Some y → (slice_get xs k ≡ Some y) ⊎ ((k ≡ length xs) × (x ≡ y))
snoc_get [] x y zero at = inr (refl, same_Some _ _ at)
snoc_get [] x y (suc k) at = absurd (let none : None ≡ Some y = at in cc)
snoc_get (z ∷ xs) x y zero at = inl at
snoc_get (z ∷ xs) x y (suc k) at = ⊎_elim (λ h. inl h) (λ h. inr (ap suc h.0, h.1)) (snoc_get xs x y k at)

pub on_ok_both : {T E P Q R : Type 0} (r : Result T E) → (P → Q → R) → OnOk r P → OnOk r Q → OnOk r R
on_ok_both (Ok x) f first second = f first second
on_ok_both (Err e) f first second = first

-- ---- one state changes

pub sets_by : (old new : States) (at : Parameter) (known : State) (row row' : Vec State Global) → slice_get old.rows.items at.instance ≡ Some row → at.place < length row.items
    → new.rows.items ≡ slice_set old.rows.items at.instance row' → row'.items ≡ slice_set row.items at.place known → Sets old new at known
sets_by old new at known row row' at_row within rows items =
    let inside : at.instance < length old.rows.items = slice_get_within old.rows.items at.instance row at_row in
    let new_row : slice_get new.rows.items at.instance ≡ Some row' = ap (λ rs. slice_get rs at.instance) rows ∙ set_same old.rows.items at.instance row' inside in
    record {
      rows = ap (λ rs. length rs) rows ∙ length-set old.rows.items at.instance row';
      it = ap (option_and_then (λ (r : Vec State Global). slice_get r.items at.place)) new_row ∙ ap (λ xs. slice_get xs at.place) items ∙ set_same row.items at.place known within;
      others = λ other differs. others other (same_or other.instance at.instance) differs;
      count = λ before is. count before (sym (ap (option_and_then (λ (r : Vec State Global). slice_get r.items at.place)) at_row) ∙ is);
    }
  where
    elsewhere : (other : Parameter) → other.instance ≢ at.instance → state_at new other ≡ state_at old other
    elsewhere other ne = ap (option_and_then (λ (r : Vec State Global). slice_get r.items other.place)) (ap (λ rs. slice_get rs other.instance) rows ∙ set_other old.rows.items at.instance other.instance row' ne)

    same_row : (other : Parameter) → other.instance ≡ at.instance → other.place ≢ at.place → state_at new other ≡ state_at old other
    same_row other e ne =
        let inside : at.instance < length old.rows.items = slice_get_within old.rows.items at.instance row at_row in
        let now : slice_get new.rows.items other.instance ≡ Some row' = ap (λ rs. slice_get rs other.instance) rows ∙ ap (slice_get (slice_set old.rows.items at.instance row')) e ∙ set_same old.rows.items at.instance row' inside in
        let before : slice_get old.rows.items other.instance ≡ Some row = ap (slice_get old.rows.items) e ∙ at_row in
        ap (option_and_then (λ (r : Vec State Global). slice_get r.items other.place)) now
        ∙ ap (λ xs. slice_get xs other.place) items ∙ set_other row.items at.place other.place known ne
        ∙ sym (ap (option_and_then (λ (r : Vec State Global). slice_get r.items other.place)) before)

    others : (other : Parameter) → (other.instance ≡ at.instance) ⊎ (other.instance ≢ at.instance) → (other.instance ≢ at.instance) ⊎ (other.place ≢ at.place) → state_at new other ≡ state_at old other
    others other (inr ne) differs = elsewhere other ne
    others other (inl e) (inl ne) = elsewhere other ne
    others other (inl e) (inr ne) = same_row other e ne

    count : (before : State) → slice_get row.items at.place ≡ Some before → unseen_count new + one_unseen before ≡ unseen_count old + one_unseen known
    count before is =
        let weigh : Vec State Global → ℕ = λ r. sum_by one_unseen r.items in
        let inner : sum_by one_unseen (slice_set row.items at.place known) + one_unseen before ≡ sum_by one_unseen row.items + one_unseen known =
        ap (λ n. sum_by one_unseen (slice_set row.items at.place known) + n) (ap one_unseen (sym (get_or_from_slice_get row.items at.place before before is))) ∙ sum_by-set one_unseen row.items at.place known before within in
        let inside : at.instance < length old.rows.items = slice_get_within old.rows.items at.instance row at_row in
        let outer : sum_by (λ (r : Vec State Global). sum_by one_unseen r.items) (slice_set old.rows.items at.instance row') + sum_by one_unseen row.items ≡ sum_by (λ (r : Vec State Global). sum_by one_unseen r.items) old.rows.items + sum_by one_unseen row'.items =
        ap (λ n. sum_by (λ (r : Vec State Global). sum_by one_unseen r.items) (slice_set old.rows.items at.instance row') + n) (ap (λ (r : Vec State Global). sum_by one_unseen r.items) (sym (get_or_from_slice_get old.rows.items at.instance row row at_row)))
        ∙ sum_by-set (λ (r : Vec State Global). sum_by one_unseen r.items) old.rows.items at.instance row' row inside in
        let now : unseen_count new ≡ sum_by (λ (r : Vec State Global). sum_by one_unseen r.items) (slice_set old.rows.items at.instance row') = ap (λ rs. sum_by (λ (r : Vec State Global). sum_by one_unseen r.items) rs) rows in
        let row_now : sum_by one_unseen row'.items ≡ sum_by one_unseen (slice_set row.items at.place known) = ap (λ xs. sum_by one_unseen xs) items in
        omega (arith, inner, outer, now, row_now)

-- a state stands in a row
pub row_of : (states : States) (at : Parameter) (known : State) → state_at states at ≡ Some known → (row : Vec State Global) × (slice_get states.rows.items at.instance ≡ Some row) × (slice_get row.items at.place ≡ Some known)
row_of states at known is = go (slice_get states.rows.items at.instance) refl is
  where
    go : (o : Option (Vec State Global)) → slice_get states.rows.items at.instance ≡ o → option_and_then (λ (r : Vec State Global). slice_get r.items at.place) o ≡ Some known → (row : Vec State Global) × (slice_get states.rows.items at.instance ≡ Some row) × (slice_get row.items at.place ≡ Some known)
    go None at_row e = absurd (let none : None ≡ Some known = e in cc)
    go (Some row) at_row e = (row, at_row, e)

-- either it is the one, or its state stays
pub set_cases : (old new : States) (at other : Parameter) (known : State) → Sets old new at known → (other ≡ at) ⊎ (state_at new other ≡ state_at old other)
set_cases old new at other known sets = go (same_or other.instance at.instance) (same_or other.place at.place)
  where
    same : (a b : Parameter) → a.instance ≡ b.instance → a.place ≡ b.place → a ≡ b
    same a b e f = ap (λ (n : ℕ). record { instance = n; place = a.place }) e ∙ ap (λ (n : ℕ). record { instance = b.instance; place = n }) f

    go : (other.instance ≡ at.instance) ⊎ (other.instance ≢ at.instance) → (other.place ≡ at.place) ⊎ (other.place ≢ at.place) → (other ≡ at) ⊎ (state_at new other ≡ state_at old other)
    go (inr ne) places = inr (sets.others other (inl ne))
    go (inl e) (inr ne) = inr (sets.others other (inr ne))
    go (inl e) (inl f) = inl (same other at e f)

abbrev pub is_unseen : State → Bool
is_unseen state.Unseen = true
is_unseen state.Waiting = false
is_unseen (state.Decided o) = false

pub set_keeps : (old new : States) (at : Parameter) (known : State) → Sets old new at known → is_unseen known ≡ false → Keeps old new
set_keeps old new at known sets seen = record {
  rows = sets.rows;
  seen = λ other is. ⊎_elim
      (λ same. absurd (let e : Some known ≡ Some state.Unseen = sym sets.it ∙ ap (state_at new) (sym same) ∙ is in let clash : is_unseen known ≡ true = ap is_unseen (same_Some _ _ e) in cc))
      (λ stays. sym stays ∙ is)
      (set_cases old new at other known sets);
  inside = λ other before is. ⊎_elim
      (λ same. (known, ap (state_at new) same ∙ sets.it))
      (λ stays. (before, stays ∙ is))
      (set_cases old new at other known sets);
}

pub keeps_more : (a b c : States) → Keeps a b → Keeps b c → Keeps a c
keeps_more a b c first second = record {
  rows = second.rows ∙ first.rows;
  seen = λ at is. first.seen at (second.seen at is);
  inside = λ at before is. let mid = first.inside at before is in second.inside at mid.0 mid.1;
}

pub keeps_all : (a : States) → Keeps a a
keeps_all a = record { rows = refl; seen = λ at is. is; inside = λ at before is. (before, is) }

pub states_set : (p : Program) (old new : States) (at : Parameter) (known : State) (before : (was : State) × (state_at old at ≡ Some was)) → AreStates p old → Sets old new at known → ((o : Option Held) → known ≡ state.Decided o → IsDecided p at o) → AreStates p new
states_set p old new at known before are sets decided = record {
  rows = sets.rows ∙ are.rows;
  inside = λ other s numbered lt. let had = are.inside other s numbered lt in ⊎_elim
      (λ same. (known, ap (state_at new) same ∙ sets.it))
      (λ stays. (had.0, stays ∙ had.1))
      (set_cases old new at other known sets);
  formal = λ other s now numbered is. ⊎_elim
      (λ same. are.formal other s before.0 numbered (ap (state_at old) same ∙ before.1))
      (λ stays. are.formal other s now numbered (sym stays ∙ is))
      (set_cases old new at other known sets);
  right = λ other o is. ⊎_elim
      (λ same. subst (λ a. IsDecided p a o) (sym same) (decided o (same_Some _ _ (sym sets.it ∙ ap (state_at new) (sym same) ∙ is))))
      (λ stays. are.right other o (sym stays ∙ is))
      (set_cases old new at other known sets);
}

-- ---- those that wait

module _ (p : Program) (old new : States) where
  -- one that is decided is taken off the stack
  held_less : (before : List Parameter) (top : Parameter) (o : Option Held) → HoldsWaiting old (before ++ (top ∷ [])) → Sets old new top (state.Decided o) → HoldsWaiting new before
  held_less before top o held sets = record {
    inside = λ k at is. let was = held.inside k at (left_get before (top ∷ []) k at is) in (set_keeps old new top (state.Decided o) sets refl).inside at was.0 was.1;
    stacked = λ at waits. still at waits (set_cases old new top at (state.Decided o) sets);
  }
    where
      not_top : (at : Parameter) → state_at new at ≡ Some state.Waiting → at ≡ top → ⊥
      not_top at waits same = let e : Some (state.Decided o) ≡ Some state.Waiting = sym sets.it ∙ ap (state_at new) (sym same) ∙ waits in cc

      still : (at : Parameter) → state_at new at ≡ Some state.Waiting → (at ≡ top) ⊎ (state_at new at ≡ state_at old at) → (k : ℕ) × (slice_get before k ≡ Some at)
      still at waits (inl same) = absurd (not_top at waits same)
      still at waits (inr stays) =
          let was = held.stacked at (sym stays ∙ waits) in
          ⊎_elim (λ h. (was.0, h)) (λ h. absurd (not_top at waits (sym h.1))) (snoc_get before top at was.0 was.1)

  pub finished : (before : List Parameter) (top : Parameter) (o : Option Held) → KeepsStack p old (before ++ (top ∷ [])) → Sets old new top (state.Decided o) → IsDecided p top o → Steps p old new (length before + 1) before
  finished before top o keeps sets decided = record {
    stack = record {
      known = states_set p old new top (state.Decided o) (keeps.held.inside (length before) top (end_get before top)) keeps.known sets (λ q e. subst (λ r. IsDecided p top r) (decided_same o q e) decided);
      held = held_less before top o keeps.held sets;
      waits = λ k at next one two. keeps.waits k at next (left_get before (top ∷ []) k at one) (left_get before (top ∷ []) (k + 1) next two);
    };
    keeps = set_keeps old new top (state.Decided o) sets refl;
    work =
        let was = keeps.held.inside (length before) top (end_get before top) in
        let count : unseen_count new + one_unseen was.0 ≡ unseen_count old + 0 = sets.count was.0 was.1 in
        omega (arith, count);
  }
    where
      decided_same : (a b : Option Held) → state.Decided a ≡ state.Decided b → a ≡ b
      decided_same a b e = cc

  pub lost_less : (before : List Parameter) (top : Parameter) → AreLost p old (before ++ (top ∷ [])) → Sets old new top (state.Decided None) → AreLost p new before
  lost_less before top lost sets = record {
    known = states_set p old new top (state.Decided None) (lost.held.inside (length before) top (end_get before top)) lost.known sets (λ q e. subst (λ r. IsDecided p top r) (decided_same None q e) (lost.nowhere (length before) top (end_get before top)));
    held = held_less before top None lost.held sets;
    nowhere = λ k at is. lost.nowhere k at (left_get before (top ∷ []) k at is);
  }
    where
      decided_same : (a b : Option Held) → state.Decided a ≡ state.Decided b → a ≡ b
      decided_same a b e = cc

  pub count_less : (top : Parameter) (o : Option Held) (was : State) → Sets old new top (state.Decided o) → state_at old top ≡ Some was → unseen_count new ≤ unseen_count old
  count_less top o was sets is = let count : unseen_count new + one_unseen was ≡ unseen_count old + 0 = sets.count was is in omega (arith, count)

  -- one more is put on the stack
  pub entered : (before : List Parameter) (top next : Parameter) → KeepsStack p old (before ++ (top ∷ [])) → WaitsFor p top next → state_at old next ≡ Some state.Unseen → Sets old new next state.Waiting
      → Steps p old new (length before + 1) ((before ++ (top ∷ [])) ++ (next ∷ []))
  entered before top next keeps waits unseen sets = record {
    stack = record {
      known = states_set p old new next state.Waiting (state.Unseen, unseen) keeps.known sets (λ q e. absurd (no_decision q e));
      held = record {
        inside = λ k at is. inside k at (snoc_get stack next at k is);
        stacked = λ at waiting. stacked at waiting (set_cases old new next at state.Waiting sets);
      };
      waits = λ k at after one two. follows k at after one two (snoc_get stack next after (k + 1) two);
    };
    keeps = set_keeps old new next state.Waiting sets refl;
    work =
        let count : unseen_count new + 1 ≡ unseen_count old + 0 = sets.count state.Unseen unseen in
        omega (arith, count, length-append (before ++ (top ∷ [])) (next ∷ []), length-append before (top ∷ []));
  }
    where
      stack : List Parameter
      stack = before ++ (top ∷ [])

      no_decision : (q : Option Held) → state.Waiting ≡ state.Decided q → ⊥
      no_decision q e = cc

      inside : (k : ℕ) (at : Parameter) → (slice_get (before ++ (top ∷ [])) k ≡ Some at) ⊎ ((k ≡ length (before ++ (top ∷ []))) × (next ≡ at)) → (now : State) × (state_at new at ≡ Some now)
      inside k at (inl was) = let had = keeps.held.inside k at was in (set_keeps old new next state.Waiting sets refl).inside at had.0 had.1
      inside k at (inr (e, same)) = (state.Waiting, ap (state_at new) (sym same) ∙ sets.it)

      stacked : (at : Parameter) → state_at new at ≡ Some state.Waiting → (at ≡ next) ⊎ (state_at new at ≡ state_at old at) → (k : ℕ) × (slice_get ((before ++ (top ∷ [])) ++ (next ∷ [])) k ≡ Some at)
      stacked at waiting (inl same) = (length (before ++ (top ∷ [])), end_get (before ++ (top ∷ [])) next ∙ ap Some (sym same))
      stacked at waiting (inr stays) = let was = keeps.held.stacked at (sym stays ∙ waiting) in (was.0, left_get (before ++ (top ∷ [])) (next ∷ []) was.0 at was.1)

      follows : (k : ℕ) (at after : Parameter) → slice_get ((before ++ (top ∷ [])) ++ (next ∷ [])) k ≡ Some at → slice_get ((before ++ (top ∷ [])) ++ (next ∷ [])) (k + 1) ≡ Some after
          → (slice_get (before ++ (top ∷ [])) (k + 1) ≡ Some after) ⊎ ((k + 1 ≡ length (before ++ (top ∷ []))) × (next ≡ after)) → WaitsFor p at after
      follows k at after one two (inl earlier) = ⊎_elim
          (λ front. keeps.waits k at after front earlier)
          (λ h. absurd (let within : k + 1 < length (before ++ (top ∷ [])) = slice_get_within (before ++ (top ∷ [])) (k + 1) after earlier in omega (arith, h.0, within)))
          (snoc_get (before ++ (top ∷ [])) next at k one)
      follows k at after one two (inr (e, same)) =
          let place : k ≡ length before = omega (arith, e, length-append before (top ∷ [])) in
          let last : Some top ≡ Some at = sym (left_get (before ++ (top ∷ [])) (next ∷ []) (length before) top (end_get before top)) ∙ ap (slice_get ((before ++ (top ∷ [])) ++ (next ∷ []))) (sym place) ∙ one in
          subst (λ a. WaitsFor p at a) same (subst (λ a. WaitsFor p a next) (same_Some _ _ last) waits)

  -- the last one waits for one that waits
  pub all_lost : (before : List Parameter) (top next : Parameter) → KeepsStack p old (before ++ (top ∷ [])) → WaitsFor p top next → state_at old next ≡ Some state.Waiting → AreLost p old (before ++ (top ∷ []))
  all_lost before top next keeps waits waiting = record {
    known = keeps.known;
    held = keeps.held;
    nowhere =
        let back = keeps.held.stacked next waiting in
        let e : length (before ++ (top ∷ [])) - 1 ≡ length before = omega (arith, length-append before (top ∷ [])) in
        circle p old (before ++ (top ∷ [])) top next back.0 keeps (ap (slice_get (before ++ (top ∷ []))) e ∙ end_get before top) waits back.1;
  }

  pub given_up : (size : ℕ) → Settles p old new → unseen_count new ≤ unseen_count old → Steps p old new (size + 1) []
  given_up size settles count = record {
    stack = record {
      known = settles.known;
      held = record {
        inside = λ k at is. absurd (let none : None ≡ Some at = is in cc);
        stacked = λ at waits. absurd (settles.idle at waits);
      };
      waits = λ k at next one two. absurd (let none : None ≡ Some at = one in cc);
    };
    keeps = settles.keeps;
    work = omega (arith, count);
  }

  -- the first one is put on the stack
  pub begun : (at : Parameter) → state_at old at ≡ Some state.Unseen → AreStates p old → AreIdle old → Sets old new at state.Waiting → KeepsStack p new ([] ++ (at ∷ []))
  begun at unseen are idle sets = record {
    known = states_set p old new at state.Waiting (state.Unseen, unseen) are sets (λ q e. absurd (no_decision q e));
    held = record {
      inside = λ k other is. inside k other (snoc_get [] at other k is);
      stacked = λ other waiting. stacked other waiting (set_cases old new at other state.Waiting sets);
    };
    waits = λ k one two first second. absurd (single k two (snoc_get [] at two (k + 1) second));
  }
    where
      no_decision : (q : Option Held) → state.Waiting ≡ state.Decided q → ⊥
      no_decision q e = cc

      inside : (k : ℕ) (other : Parameter) → (slice_get [] k ≡ Some other) ⊎ ((k ≡ 0) × (at ≡ other)) → (now : State) × (state_at new other ≡ Some now)
      inside k other (inl is) = absurd (let none : None ≡ Some other = is in cc)
      inside k other (inr (e, same)) = (state.Waiting, ap (state_at new) (sym same) ∙ sets.it)

      stacked : (other : Parameter) → state_at new other ≡ Some state.Waiting → (other ≡ at) ⊎ (state_at new other ≡ state_at old other) → (k : ℕ) × (slice_get (at ∷ []) k ≡ Some other)
      stacked other waiting (inl same) = (0, ap Some (sym same))
      stacked other waiting (inr stays) = absurd (idle other (sym stays ∙ waiting))

      single : (k : ℕ) (two : Parameter) → (slice_get [] (k + 1) ≡ Some two) ⊎ ((k + 1 ≡ 0) × (at ≡ two)) → ⊥
      single k two (inl is) = let none : None ≡ Some two = is in cc
      single k two (inr (e, same)) = absurd (omega (arith, e))

-- where the stack is empty, none waits
pub held_empty : (states : States) (stack : List Parameter) → length stack ≡ 0 → HoldsWaiting states stack → AreIdle states
held_empty states stack none held at waits =
    let on = held.stacked at waits in
    let within : on.0 < length stack = slice_get_within stack on.0 at on.1 in
    absurd (omega arith)

pub scope_of : (p : Program) (states : States) (at : Parameter) (known : State) → AreStates p states → state_at states at ≡ Some known → (s : Scope) × (scope_at p at.instance ≡ Some s)
scope_of p states at known are is =
    let row = row_of states at known is in
    let within : at.instance < length states.rows.items = slice_get_within states.rows.items at.instance row.0 row.1 in
    member_at (instances p) at.instance (omega (arith, within, are.rows))
