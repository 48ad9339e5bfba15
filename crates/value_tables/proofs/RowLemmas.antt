-- The rows of cells.
use Rattle.std.proofs.Common.{◌≡◌, ◌≢◌, ℕ, ◌+◌, ◌*◌, ◌^◌, ◌<◌, ◌≤◌, Bool, true, false, ◌&&◌, ◌||◌, ◌==◌, List, [], ◌∷◌, ◌++◌, length, map, get_or, take, Ok, Err, refl, sym, subst, ap, ◌∙◌, append_assoc, append-nil, length-append, arith}
use Rattle.std.specs.Prelude.{All}
use Rattle.std.specs.List.{list_any}
use Rattle.std.proofs.lemmas.Bool.{or_parts, or_from}
use Rattle.std.proofs.lemmas.List.{take_more}
use Rattle.std.proofs.lemmas.List.Folds.{list_any-append}
use Rattle.std.proofs.lemmas.List.Elements.{All-nil, All-cons, All-head, All-tail}
use Rattle.kripke_model.specs.declared.expressions.Value.{Value}
use Rattle.kripke_model.specs.declared.expressions.FaultKind.{FaultKind}
use Rattle.std.specs.Result.{result_unwrap_or}
use Rattle.kripke_model.specs.Term.{Term}
use Rattle.kripke_model.specs.System.{System, State}
use Rattle.kripke_model.specs.Step.{IsState}
use Rattle.kripke_model.specs.Evaluation.{Checked, eval, same, among}
use Rattle.bit_encode.specs.Code.{Coding, IsStateOf, types_of}
use Rattle.bit_encode.specs.Laws.{CodesAreValid, FieldsSpell, PlacesWithin}
use Rattle.bit_encode.proofs.StateLemmas.{states_agree_to}
use Rattle.bdd_nodes.specs.declared.store.Store.{Store}
use Rattle.bdd_nodes.specs.Store.{Has, value_of}
use Rattle.value_tables.specs.declared.cells.Cell.{Cell}
use Rattle.value_tables.specs.declared.value_regions.Row.{Row}
use Rattle.value_tables.specs.declared.value_regions.FaultRow.{FaultRow}
use Rattle.value_tables.specs.Cells.{fault_number, same_reading, any_of, shows, AreOnce, readings_in}
use Rattle.value_tables.specs.Tables.{AreOnceValues, IsTable}
use Rattle.value_tables.specs.States.{meaning_of, pair_code}
use Rattle.value_tables.specs.Regions.{has_value, has_fault, among_faults, AreOnceFaults, rows_of, faults_of, rows_in, faults_in, is_fault_kind, AreRegions}
use Rattle.value_tables.proofs.OnceLemmas.{any_values}
use Rattle.value_tables.proofs.PairLemmas.{shown_state}

pub rows_show : (s : Store) (bits : List Bool) (v : Value) (cells : List Cell) → has_value s (rows_in cells) bits v ≡ shows (λ r. value_of s r bits) cells (Ok v)
rows_show s bits v [] = refl
rows_show s bits v (c ∷ cells) = list_any-append (λ (r : Row). same v r.value && value_of s r.region bits) (rows_of c.reading c.region) (rows_in cells) ∙ (λ i. by c.reading i || rows_show s bits v cells i)
  where
    or_none : (a : Bool) → (a || false) ≡ a
    or_none true = refl
    or_none false = refl

    by : (k : Checked Value) → has_value s (rows_of k c.region) bits v ≡ (same_reading (Ok v) k && value_of s c.region bits)
    by (Ok w) = or_none (same v w && value_of s c.region bits)
    by (Err kind) = refl

pub faults_show : (s : Store) (bits : List Bool) (kind : FaultKind) (cells : List Cell) → has_fault s (faults_in cells) bits kind ≡ shows (λ r. value_of s r bits) cells (Err kind)
faults_show s bits kind [] = refl
faults_show s bits kind (c ∷ cells) = list_any-append (λ (f : FaultRow). _) (faults_of c.reading c.region) (faults_in cells) ∙ (λ i. by c.reading i || faults_show s bits kind cells i)
  where
    or_none : (a : Bool) → (a || false) ≡ a
    or_none true = refl
    or_none false = refl

    by : (k : Checked Value) → has_fault s (faults_of k c.region) bits kind ≡ (same_reading (Err kind) k && value_of s c.region bits)
    by (Ok w) = refl
    by (Err other) = or_none _

-- ---- each value and each fault once

value_absent : (v : Value) (cells : List Cell) → list_any (same_reading (Ok v)) (readings_in cells) ≡ false → among v (map (λ (r : Row). r.value) (rows_in cells)) ≡ false
value_absent v [] e = refl
value_absent v (c ∷ cells) e = by c.reading (or_parts (same_reading (Ok v) c.reading) (list_any (same_reading (Ok v)) (readings_in cells)) e) (value_absent v cells)
  where
    by : (k : Checked Value) → (same_reading (Ok v) k ≡ false) × (list_any (same_reading (Ok v)) (readings_in cells) ≡ false) → (list_any (same_reading (Ok v)) (readings_in cells) ≡ false → among v (map (λ (r : Row). r.value) (rows_in cells)) ≡ false)
        → among v (map (λ (r : Row). r.value) (rows_of k c.region ++ rows_in cells)) ≡ false
    by (Ok w) parts rest = or_from (same v w) (among v (map (λ (r : Row). r.value) (rows_in cells))) parts.0 (rest parts.1)
    by (Err kind) parts rest = rest parts.1

pub rows_once : (cells : List Cell) → AreOnce (readings_in cells) → AreOnceValues (map (λ (r : Row). r.value) (rows_in cells))
rows_once [] h = tt
rows_once (c ∷ cells) h = by c.reading h.0 (rows_once cells h.1)
  where
    by : (k : Checked Value) → list_any (same_reading k) (readings_in cells) ≡ false → AreOnceValues (map (λ (r : Row). r.value) (rows_in cells)) → AreOnceValues (map (λ (r : Row). r.value) (rows_of k c.region ++ rows_in cells))
    by (Ok w) absent rest = (value_absent w cells absent, rest)
    by (Err kind) absent rest = rest

fault_absent : (kind : FaultKind) (cells : List Cell) → list_any (same_reading (Err kind)) (readings_in cells) ≡ false → among_faults kind (map (λ (f : FaultRow). f.kind) (faults_in cells)) ≡ false
fault_absent kind [] e = refl
fault_absent kind (c ∷ cells) e = by c.reading (or_parts (same_reading (Err kind) c.reading) (list_any (same_reading (Err kind)) (readings_in cells)) e) (fault_absent kind cells)
  where
    by : (k : Checked Value) → (same_reading (Err kind) k ≡ false) × (list_any (same_reading (Err kind)) (readings_in cells) ≡ false) → (list_any (same_reading (Err kind)) (readings_in cells) ≡ false → among_faults kind (map (λ (f : FaultRow). f.kind) (faults_in cells)) ≡ false)
        → among_faults kind (map (λ (f : FaultRow). f.kind) (faults_of k c.region ++ faults_in cells)) ≡ false
    by (Ok w) parts rest = rest parts.1
    by (Err other) parts rest = or_from (fault_number kind == fault_number other) (among_faults kind (map (λ (f : FaultRow). f.kind) (faults_in cells))) parts.0 (rest parts.1)

pub faults_once : (cells : List Cell) → AreOnce (readings_in cells) → AreOnceFaults (map (λ (f : FaultRow). f.kind) (faults_in cells))
faults_once [] h = tt
faults_once (c ∷ cells) h = by c.reading h.0 (faults_once cells h.1)
  where
    by : (k : Checked Value) → list_any (same_reading k) (readings_in cells) ≡ false → AreOnceFaults (map (λ (f : FaultRow). f.kind) (faults_in cells)) → AreOnceFaults (map (λ (f : FaultRow). f.kind) (faults_of k c.region ++ faults_in cells))
    by (Ok w) absent rest = rest
    by (Err kind) absent rest = (fault_absent kind cells absent, rest)

-- ---- what holds of each region

pub rows_all : (P : ℕ → Type 0) (cells : List Cell) → All (λ (c : Cell). P c.region) cells → All (λ (r : Row). P r.region) (rows_in cells)
rows_all P [] h = All-nil (λ (r : Row). P r.region)
rows_all P (c ∷ cells) h = by c.reading (All-head (λ (x : Cell). P x.region) c cells h) (rows_all P cells (All-tail (λ (x : Cell). P x.region) c cells h))
  where
    by : (k : Checked Value) → P c.region → All (λ (r : Row). P r.region) (rows_in cells) → All (λ (r : Row). P r.region) (rows_of k c.region ++ rows_in cells)
    by (Ok v) p rest = All-cons (λ (r : Row). P r.region) _ (rows_in cells) p rest
    by (Err kind) p rest = rest

pub faults_all : (P : ℕ → Type 0) (cells : List Cell) → All (λ (c : Cell). P c.region) cells → All (λ (f : FaultRow). P f.region) (faults_in cells)
faults_all P [] h = All-nil (λ (f : FaultRow). P f.region)
faults_all P (c ∷ cells) h = by c.reading (All-head (λ (x : Cell). P x.region) c cells h) (faults_all P cells (All-tail (λ (x : Cell). P x.region) c cells h))
  where
    by : (k : Checked Value) → P c.region → All (λ (f : FaultRow). P f.region) (faults_in cells) → All (λ (f : FaultRow). P f.region) (faults_of k c.region ++ faults_in cells)
    by (Ok v) p rest = rest
    by (Err kind) p rest = All-cons (λ (f : FaultRow). P f.region) _ (faults_in cells) p rest

-- ---- the regions of an expression

in_values : (v : Value) (c : Checked (List Value)) → any_of (same_reading (Ok v)) c ≡ among v (result_unwrap_or c [])
in_values v (Ok vs) = any_values (same_reading (Ok v)) vs
in_values v (Err kind) = refl

none_of : (kind : FaultKind) (vs : List Value) → list_any (same_reading (Err kind)) (map Ok vs) ≡ false
none_of kind [] = refl
none_of kind (v ∷ vs) = none_of kind vs

is_fault : (kind : FaultKind) (c : Checked (List Value)) → any_of (same_reading (Err kind)) c ≡ is_fault_kind kind c
is_fault kind (Ok vs) = none_of kind vs
is_fault kind (Err other) = last (fault_number kind == fault_number other)
  where
    last : (a : Bool) → (a || false) ≡ a
    last true = refl
    last false = refl

module _ (s : Store) (c : Coding) (m : System) (e : Term) (cells : List Cell) (single : Bool) (valid : CodesAreValid c) (spell : FieldsSpell c) (within : PlacesWithin c) (types : c.types ≡ types_of m) (h : IsTable s cells single (meaning_of c m false e)) where
  typed : (t : State) → IsState m t → IsStateOf c.types t
  typed t k = subst (λ ts. IsStateOf ts t) (sym types) (states_agree_to m t k)

  at_states : (here next : State) → IsState m here → IsState m next → meaning_of c m false e (pair_code c here next) ≡ eval m e here next
  at_states here next hh hn = λ i.
      eval m e (shown_state c valid spell within here next here false (typed here hh) (typed next hn) (typed here hh) refl i)
      (shown_state c valid spell within here next next true (typed here hh) (typed next hn) (typed next hn) refl i)

  pub regions_are : AreRegions s c m e (rows_in cells) (faults_in cells)
  regions_are = record {
    values_listed = λ here next hh hn v. rows_show s (pair_code c here next) v cells ∙ (h.reads (pair_code c here next)).each (Ok v) ∙ ap (any_of (same_reading (Ok v))) (at_states here next hh hn) ∙ in_values v (eval m e here next);
    faults_listed = λ here next hh hn kind. faults_show s (pair_code c here next) kind cells ∙ (h.reads (pair_code c here next)).each (Err kind) ∙ ap (any_of (same_reading (Err kind))) (at_states here next hh hn) ∙ is_fault kind (eval m e here next);
    values_differ = rows_once cells h.regions.once;
    kinds_differ = faults_once cells h.regions.once;
    rows_are_there = rows_all (Has s) cells h.regions.has;
    faults_are_there = faults_all (Has s) cells h.regions.has;
    no_row_is_empty = rows_all (λ r. r ≢ 0) cells h.regions.some;
    no_fault_is_empty = faults_all (λ r. r ≢ 0) cells h.regions.some;
  }

pub regions_as : (s : Store) (c : Coding) (m : System) (e : Term) (cells : List Cell) (rows : List Row) (faults : List FaultRow) → rows ≡ rows_in cells → faults ≡ faults_in cells → AreRegions s c m e (rows_in cells) (faults_in cells) → AreRegions s c m e rows faults
regions_as s c m e cells rows faults r f h = subst (λ fs. AreRegions s c m e rows fs) (sym f) (subst (λ rs. AreRegions s c m e rs (faults_in cells)) (sym r) h)

-- ---- one cell more

rows_append : (xs ys : List Cell) → rows_in (xs ++ ys) ≡ rows_in xs ++ rows_in ys
rows_append [] ys = refl
rows_append (c ∷ xs) ys = ap (λ rs. rows_of c.reading c.region ++ rs) (rows_append xs ys) ∙ sym (append_assoc (rows_of c.reading c.region) (rows_in xs) (rows_in ys))

faults_append : (xs ys : List Cell) → faults_in (xs ++ ys) ≡ faults_in xs ++ faults_in ys
faults_append [] ys = refl
faults_append (c ∷ xs) ys = ap (λ fs. faults_of c.reading c.region ++ fs) (faults_append xs ys) ∙ sym (append_assoc (faults_of c.reading c.region) (faults_in xs) (faults_in ys))

pub rows_more : (cells : List Cell) (i : ℕ) (cell : Cell) → i < length cells → cell ≡ get_or cells i cell → rows_in (take (i + 1) cells) ≡ rows_in (take i cells) ++ rows_of cell.reading cell.region
rows_more cells i cell lt is =
    ap rows_in (take_more cells i cell lt) ∙ rows_append (take i cells) (get_or cells i cell ∷ [])
    ∙ ap (λ rs. rows_in (take i cells) ++ rs) (append-nil (rows_of (get_or cells i cell).reading (get_or cells i cell).region) ∙ ap (λ (c : Cell). rows_of c.reading c.region) (sym is))

pub faults_more : (cells : List Cell) (i : ℕ) (cell : Cell) → i < length cells → cell ≡ get_or cells i cell → faults_in (take (i + 1) cells) ≡ faults_in (take i cells) ++ faults_of cell.reading cell.region
faults_more cells i cell lt is =
    ap faults_in (take_more cells i cell lt) ∙ faults_append (take i cells) (get_or cells i cell ∷ [])
    ∙ ap (λ fs. faults_in (take i cells) ++ fs) (append-nil (faults_of (get_or cells i cell).reading (get_or cells i cell).region) ∙ ap (λ (c : Cell). faults_of c.reading c.region) (sym is))

-- each cell makes one row
pub as_many : (cells : List Cell) → length (rows_in cells) + length (faults_in cells) ≡ length cells
as_many [] = omega arith
as_many (c ∷ cells) = by c.reading (length-append (rows_of c.reading c.region) (rows_in cells)) (length-append (faults_of c.reading c.region) (faults_in cells)) (as_many cells)
  where
    by : (k : Checked Value) → length (rows_of k c.region ++ rows_in cells) ≡ length (rows_of k c.region) + length (rows_in cells) → length (faults_of k c.region ++ faults_in cells) ≡ length (faults_of k c.region) + length (faults_in cells)
        → length (rows_in cells) + length (faults_in cells) ≡ length cells → length (rows_of k c.region ++ rows_in cells) + length (faults_of k c.region ++ faults_in cells) ≡ length (c ∷ cells)
    by (Ok v) r f h = omega (arith, r, f, h)
    by (Err kind) r f h = omega (arith, r, f, h)

-- the rows and the fault rows together are at most as many as the cells
pub rows_few : (cells : List Cell) (rows : List Row) (faults : List FaultRow) (n k l : ℕ) → rows ≡ rows_in cells → faults ≡ faults_in cells → l ≡ k → length cells ≤ n * 2 ^ l → length rows + length faults ≤ n * 2 ^ k
rows_few cells rows faults n k l r f e h =
    let a : length rows ≡ length (rows_in cells) = ap length r in
    let b : length faults ≡ length (faults_in cells) = ap length f in
    let m = as_many cells in
    let w : n * 2 ^ l ≡ n * 2 ^ k = ap (λ i. n * 2 ^ i) e in
    omega (arith, a, b, m, w, h)
