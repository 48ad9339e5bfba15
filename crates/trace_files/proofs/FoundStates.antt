-- What is found of a state, and of the states of a path with the line that closes it.
use Rattle.std.proofs.Common.{◌≡◌, true, ℕ, zero, suc, ◌+◌, ◌<◌, ◌≤◌, List, [], ◌∷◌, ◌++◌, length, codes, decimal, get_or, Some, refl, sym, ◌∙◌, ap, subst, arith, length-append}
use Rattle.std.specs.Prelude.{Result, Ok, Err}
use Rattle.kripke_model.specs.Flat.{IsFlat}
use Rattle.kripke_model.specs.Step.{IsState}
use Rattle.kripke_model.specs.System.{System, State}
use Rattle.kripke_model.specs.declared.expressions.Value.{Value}
use Rattle.text_lines.specs.Cursor.{Place, Shows, BeginsWith}
use Rattle.text_lines.specs.Formats.{FitEach, FitMany, lines_of_many}
use Rattle.text_lines.specs.WholeLines.{lines_in}
use Rattle.text_lines.specs.declared.faults.Fault.{Fault}
use Rattle.text_lines.specs.declared.faults.Fault.TheVariants.{Stops, Breaks, End, Memory}
use Rattle.text_lines.proofs.FirstLines.{NoneStarts}
use Rattle.text_lines.proofs.FoundInTurn.{both_found, first_fault, last_fault}
use Rattle.text_lines.proofs.FoundLine.{no_memory}
use Rattle.text_lines.proofs.FoundMany.{many_begun, many_more, many_fault}
use Rattle.text_lines.proofs.FoundRenamed.{renamed_ok, renamed_fault}
use Rattle.text_lines.proofs.FoundUntil.{AreTold, each_begun, each_more, part_fault, closing_fault, end_fault, whole_found}
use Rattle.text_lines.proofs.Lists.{same_first}
use Rattle.trace_files.specs.Parts.{Finds, FitsValue, one_value, later_state, FitsLoop, one_loop, FitsEnding, ending_lines}
use Rattle.trace_files.specs.Trace.{value_lines, state_line, state_lines, loop_line}
use Rattle.trace_files.proofs.FoundLines.{some_value, some_values}
use Rattle.trace_files.proofs.Known.{text, AnyHead, head_lines, FitsValues, values_of, to_state, of_state, headed_same, headed_fits, headed_back, headed_fits_back, value_known, state_known}
use Rattle.trace_files.proofs.OneTrace.{apart_words}
use Rattle.trace_files.proofs.Texts.{PrintsApart}

-- memory may run out
pub memory_found : {X : Type 0} {Fits : X → Type 0} {lines : X → List (List ℕ)} {old new : Place} → new.line + length new.left ≤ old.line + length old.left → Finds Fits lines old (Err Memory) new
memory_found room = no_memory room

pub room_of : {X : Type 0} {Fits : X → Type 0} {lines : X → List (List ℕ)} {old new : Place} {r : Result X Fault} → Finds Fits lines old r new → new.line + length new.left ≤ old.line + length old.left
room_of found = found.room

module _ (m : System) where
  -- values of the first variables
  abbrev pub ValuesRead : ℕ → Place → List Value → Place → Type 0
  ValuesRead n old s new = Finds (FitMany (FitsValue m) n []) (lines_of_many (one_value m) []) old (Ok s) new

  -- states behind the first one
  abbrev pub LaterRead : Place → List State → Place → Type 0
  LaterRead old states new = Finds (FitEach (λ _. IsState m) []) (lines_of_many (later_state m) []) old (Ok states) new

  pub no_values : {place : Place} → ValuesRead 0 place [] place
  no_values = many_begun (FitsValue m) (one_value m)

  many_count : (n : ℕ) (earlier s : List Value) → FitMany (FitsValue m) n earlier s → length s ≡ n
  many_count zero earlier [] fits = refl
  many_count zero earlier (v ∷ s) fits = absurd fits
  many_count (suc n) earlier [] fits = absurd fits
  many_count (suc n) earlier (v ∷ s) fits = ap suc (many_count n (earlier ++ v ∷ []) s fits.1)

  pub count_read : {n : ℕ} {old mid : Place} {s : List Value} → ValuesRead n old s mid → length s ≡ n
  count_read {n} {old} {mid} {s} a = many_count n [] s a.finds.read.fits

  pub one_more_value : (n : ℕ) {old mid new : Place} {s : List Value} {v : Value} → ValuesRead n old s mid → Finds (FitsValue m s) (one_value m s) mid (Ok v) new → ValuesRead (n + 1) old (s ++ v ∷ []) new
  one_more_value n a found = many_more (FitsValue m) (one_value m) n a found

  -- no states are read, and one more is
  pub none_later : {place : Place} → LaterRead place [] place
  none_later = each_begun (λ _. IsState m) (later_state m)

  numbered_so : (k n : ℕ) → k ≡ n + 1 → {mid new : Place} {r : Result State Fault} → Finds (IsState m) (state_lines m k) mid r new → Finds (IsState m) (state_lines m (n + 1)) mid r new
  numbered_so k n e {mid} {new} {r} found = subst (λ i. Finds (IsState m) (state_lines m i) mid r new) e found

  pub one_more_state : (k : ℕ) {old mid new : Place} {xs : List State} {s : State} → k ≡ length xs + 1 → LaterRead old xs mid → Finds (IsState m) (state_lines m k) mid (Ok s) new → LaterRead old (xs ++ s ∷ []) new
  one_more_state k {old} {mid} {new} {xs} {s} e a found = each_more (λ _. IsState m) (later_state m) a (numbered_so k (length xs) e found)

  -- less is left behind a state
  pub less_left : (k : ℕ) {mid new : Place} {s : State} → Finds (IsState m) (state_lines m k) mid (Ok s) new → length new.left < length mid.left
  less_left k {mid} {new} {s} found = omega (arith, found.finds.line, found.room)

  later_count : (earlier xs : List State) → length xs ≤ length (lines_of_many (later_state m) earlier xs)
  later_count earlier [] = omega arith
  later_count earlier (s ∷ xs) = omega (arith, later_count (earlier ++ s ∷ []) xs, length-append (later_state m earlier s) (lines_of_many (later_state m) (earlier ++ s ∷ []) xs))

  pub few_later : {old mid : Place} {xs : List State} → LaterRead old xs mid → old.line + length old.left ≤ 4294967295 → length xs ≤ 4294967295
  few_later {old} {mid} {xs} a few = omega (arith, few, a.finds.line, a.room, later_count [] xs)

  module _ (flat : IsFlat m) (prints : PrintsApart m) where
    pub value_fault : {i n : ℕ} {old mid new : Place} {s : List Value} {fault : Fault} → i < n → ValuesRead i old s mid → Finds (FitsValue m s) (one_value m s) mid (Err fault) new
        → Finds (FitMany (FitsValue m) n []) (lines_of_many (one_value m) []) old (Err fault) new
    value_fault less a found = many_fault (FitsValue m) (one_value m) (some_value m flat) (value_known m prints) less a found

    -- ---- a state

    pub head_fault : (k : ℕ) {old new : Place} {fault : Fault} → Finds AnyHead (head_lines k) old (Err fault) new → Finds (IsState m) (state_lines m k) old (Err fault) new
    head_fault k found =
        renamed_fault to_state of_state (headed_same m k) (headed_fits m) (headed_back m k) (headed_fits_back m) (first_fault (FitsValues m) (values_of m) (λ u fits. some_values m flat (length m.vars) []) found)

    pub state_found : (k : ℕ) {old mid new : Place} (r : Result State Fault) → Finds AnyHead (head_lines k) old (Ok tt) mid
        → Finds (FitMany (FitsValue m) (length m.vars) []) (lines_of_many (one_value m) []) mid r new → Finds (IsState m) (state_lines m k) old r new
    state_found k (Ok s) a found = renamed_ok to_state of_state (headed_same m k) (headed_fits m) (headed_back m k) (headed_fits_back m) (both_found (FitsValues m) (values_of m) a found)
    state_found k (Err fault) a found =
        renamed_fault to_state of_state (headed_same m k) (headed_fits m) (headed_back m k) (headed_fits_back m)
        (last_fault (FitsValues m) (values_of m) (λ u w p q behind after e. refl) a found)

    -- ---- the states behind the first one, and the last line

    told : AreTold text (λ _. IsState m) (later_state m) FitsLoop one_loop
    told = record {
      known = λ earlier. state_known m prints (length earlier + 1);
      some = λ earlier x fits e. omega (arith, ap length e);
      last_some = λ earlier y fits e. omega (arith, ap length e);
      apart = λ earlier x fits l ls whole y fit k ks is e.
          apart_words (length earlier + 1) y (same_first (state_line (length earlier + 1)) l (value_lines m 0 x) ls whole ∙ sym e ∙ sym (same_first (loop_line y) k [] ks is));
      has = λ earlier. (0, omega arith);
    }

    first_byte : List ℕ → ℕ
    first_byte word = get_or word 0 0

    -- the last line begins otherwise
    no_loop : (others : List State) (rest : List ℕ) → NoneStarts text (FitsLoop others) (one_loop others) (codes "state " ++ rest)
    unfolding first_byte
    no_loop others rest i fits l ls whole e =
        differ (first_byte (loop_line i)) (first_byte (codes "state " ++ rest)) (ap first_byte (same_first (loop_line i) l [] ls whole ∙ e)) refl refl
      where
        differ : (x y : ℕ) → x ≡ y → x ≡ 108 → y ≡ 115 → ⊥
        differ x y e f g = omega arith

    module _ {old mid new : Place} {xs : List State} (a : LaterRead old xs mid) where
      pub later_fault : (k : ℕ) {fault : Fault} → k ≡ length xs + 1 → BeginsWith (codes "state ") mid → Finds (IsState m) (state_lines m k) mid (Err fault) new → Finds (FitsEnding m) (ending_lines m) old (Err fault) new
      later_fault k e (rest, shown) found = part_fault (λ _. IsState m) (later_state m) FitsLoop one_loop told a shown (no_loop xs rest) (numbered_so k (length xs) e found)

      none_left : (fault : Fault) → lines_in mid.left ≡ [] → Finds (FitsLoop xs) (one_loop xs) mid (Err fault) new → Finds (FitsEnding m) (ending_lines m) old (Err fault) new
      none_left (Stops l) none found = absurd (omega (arith, (found.finds.2 true).within, ap length none))
      none_left (Breaks l) none found = absurd (omega (arith, found.finds.2.within, ap length none))
      none_left End none found =
          let end = end_fault (λ _. IsState m) (later_state m) FitsLoop one_loop told a {new = mid} none refl in
          record { finds = (end.finds.0, omega (arith, found.finds.1, end.finds.1, ap length none)); room = omega (arith, found.room, a.room) }
      none_left Memory none found = record { finds = tt; room = omega (arith, found.room, a.room) }

      pub loop_fault : {fault : Fault} → (BeginsWith (codes "state ") mid → ⊥) → Finds (FitsLoop xs) (one_loop xs) mid (Err fault) new → Finds (FitsEnding m) (ending_lines m) old (Err fault) new
      loop_fault {fault} not found = go (lines_in mid.left) refl
        where
          none : (t : List ℕ) → Shows mid (Some t) → NoneStarts text (λ s. IsState m s) (later_state m xs) t
          none t shown x fits l ls whole e =
              not (decimal (length xs + 1), (shown.0, shown.1 ∙ ap (λ u. u ∷ shown.0) (sym e ∙ sym (same_first (state_line (length xs + 1)) l (value_lines m 0 x) ls whole))))

          go : (ts : List (List ℕ)) → lines_in mid.left ≡ ts → Finds (FitsEnding m) (ending_lines m) old (Err fault) new
          go [] is = none_left fault is found
          go (t ∷ ts) is = closing_fault (λ _. IsState m) (later_state m) FitsLoop one_loop told a (ts, is) (none t (ts, is)) found

      pub ending_found : {i : ℕ} → Finds (FitsLoop xs) (one_loop xs) mid (Ok i) new → Finds (FitsEnding m) (ending_lines m) old (Ok (xs, i)) new
      ending_found found = whole_found (λ _. IsState m) (later_state m) FitsLoop one_loop a found
