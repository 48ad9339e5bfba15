-- One more region among the cells.
use Rattle.std.proofs.Common.{◌≡◌, ◌≢◌, ℕ, zero, suc, ◌<◌, Bool, true, false, cond, ◌&&◌, ◌||◌, List, [], ◌∷◌, ◌++◌, length, get_or, set, ltb, None, Some, refl, sym, ap, subst, ◌∙◌, arith}
use Rattle.std.specs.Prelude.{position}
use Rattle.std.specs.List.{list_any, position_or_len}
use Rattle.std.proofs.lemmas.Bool.{or_parts, ltb-false}
use Rattle.std.proofs.lemmas.List.Sums.{fails_before_first}
use Rattle.std.proofs.lemmas.List.{map_push, map-set, set-get_or, get_or-map}
use Rattle.std.proofs.lemmas.List.Elements.{All-push, All-set, All-get_or, All-from_get_or}
use Rattle.std.proofs.lemmas.List.Folds.{list_any-append, list_any_none}
use Rattle.std.proofs.lemmas.List.Quantifiers.{position-Some}
use Rattle.bdd_nodes.specs.declared.store.Store.{Store}
use Rattle.bdd_nodes.specs.Store.{Has, value_of, Grows}
use Rattle.bdd_nodes.proofs.Tables.{value_of-false}
use Rattle.kripke_model.specs.declared.expressions.Value.{Value}
use Rattle.kripke_model.specs.Evaluation.{Checked}
use Rattle.value_tables.specs.declared.cells.Cell.{Cell}
use Rattle.bdd_ops.specs.Kept.{IsRegion}
use Rattle.value_tables.specs.Cells.{same_reading, shows, AreCells, AreOnce, readings_in}
use Rattle.value_tables.proofs.ReadingLists.{same_reading-true, once_push}
use Rattle.value_tables.proofs.RegionLemmas.{never_true, has-grows, any_cell-grows}

or_none : (a : Bool) → a ≡ (a || false)
or_none true = refl
or_none false = refl

and_none : (a : Bool) → (a && false) ≡ false
and_none true = refl
and_none false = refl

-- an empty region adds nothing
pub shows_none : (s : Store) (cells : List Cell) (reading : Checked Value) (region : ℕ) → region ≡ 0 → (bits : List Bool) (k : Checked Value)
    → shows (λ r. value_of s r bits) cells k ≡ (shows (λ r. value_of s r bits) cells k || (same_reading k reading && value_of s region bits))
shows_none s cells reading region e bits k =
    or_none (shows (λ r. value_of s r bits) cells k)
    ∙ ap (λ b. shows (λ r. value_of s r bits) cells k || b) (sym (ap (λ b. same_reading k reading && b) (ap (λ r. value_of s r bits) e ∙ value_of-false s.nodes.keys bits) ∙ and_none (same_reading k reading)))

-- ---- a cell more

any_reading : (k : Checked Value) (cells : List Cell) → list_any (same_reading k) (readings_in cells) ≡ list_any (λ (c : Cell). same_reading k c.reading) cells
any_reading k [] = refl
any_reading k (c ∷ cells) = ap (λ b. same_reading k c.reading || b) (any_reading k cells)

pub absent : (cells : List Cell) (reading : Checked Value) → position (λ c. same_reading reading c.reading) cells ≡ None → list_any (same_reading reading) (readings_in cells) ≡ false
absent cells reading e =
    let p : Cell → Bool = λ c. same_reading reading c.reading in
    let d : Cell = record { reading = reading; region = 0 } in
    any_reading reading cells
    ∙ list_any_none p cells (All-from_get_or (λ c. p c ≡ false) cells d (λ i lt. fails_before_first p cells i d (by (ltb (position_or_len p cells) (length cells)) refl e i lt)))
  where
    by : (b : Bool) → ltb (position_or_len (λ (c : Cell). same_reading reading c.reading) cells) (length cells) ≡ b
        → cond b (Some (position_or_len (λ (c : Cell). same_reading reading c.reading) cells)) None ≡ None → (i : ℕ) → i < length cells → i < position_or_len (λ (c : Cell). same_reading reading c.reading) cells
    by true h f i lt = absurd cc
    by false h f i lt = let le = ltb-false (position_or_len (λ (c : Cell). same_reading reading c.reading) cells) (length cells) h in omega arith

pub AreCells-push : (s : Store) (cells : List Cell) (reading : Checked Value) (region : ℕ) → AreCells s cells → Has s region → region ≢ 0
    → position (λ c. same_reading reading c.reading) cells ≡ None → AreCells s (cells ++ record { reading = reading; region = region } ∷ [])
AreCells-push s cells reading region h has some e = record {
  has = All-push (λ (c : Cell). Has s c.region) cells _ h.has has;
  some = All-push (λ (c : Cell). c.region ≢ 0) cells _ h.some some;
  once = subst AreOnce (sym (map_push (λ (c : Cell). c.reading) cells _)) (once_push (readings_in cells) reading h.once (absent cells reading e));
}

pub shows_push : (v : ℕ → Bool) (cells : List Cell) (reading : Checked Value) (region : ℕ) (k : Checked Value)
    → shows v (cells ++ record { reading = reading; region = region } ∷ []) k ≡ (shows v cells k || (same_reading k reading && v region))
shows_push v cells reading region k =
    list_any-append (λ (c : Cell). same_reading k c.reading && v c.region) cells _
    ∙ ap (λ b. shows v cells k || b) (sym (or_none (same_reading k reading && v region)))

-- ---- a cell with a larger region

enlarge : (v : ℕ → Bool) (reading k : Checked Value) (q region : ℕ) (cells : List Cell) (i : ℕ) (cell d : Cell) → i < length cells → get_or cells i d ≡ cell → reading ≡ cell.reading → v q ≡ (v cell.region || v region)
    → shows v (set cells i (record { reading = cell.reading; region = q })) k ≡ (shows v cells k || (same_reading k reading && v region))
enlarge v reading k q region [] i cell d lt at same value = absurd (omega arith)
enlarge v reading k q region (c ∷ cells) zero cell d lt at same value =
    ap (λ (b : Bool). (same_reading k cell.reading && b) || shows v cells k) value
    ∙ spread (same_reading k cell.reading) (v cell.region) (v region) (shows v cells k)
    ∙ (λ j. ((same_reading k (sym at j).reading && v (sym at j).region) || shows v cells k) || (same_reading k (sym same j) && v region))
  where
    spread : (a b c s : Bool) → ((a && (b || c)) || s) ≡ (((a && b) || s) || (a && c))
    spread true true c s = refl
    spread true false true true = refl
    spread true false true false = refl
    spread true false false true = refl
    spread true false false false = refl
    spread false b c true = refl
    spread false b c false = refl
enlarge v reading k q region (c ∷ cells) (suc i) cell d lt at same value =
    ap (λ (b : Bool). (same_reading k c.reading && v c.region) || b) (enlarge v reading k q region cells i cell d (omega arith) at same value)
    ∙ regroup (same_reading k c.reading && v c.region) (shows v cells k) (same_reading k reading && v region)
  where
    regroup : (a b c : Bool) → (a || (b || c)) ≡ ((a || b) || c)
    regroup true b c = refl
    regroup false b c = refl

-- the cells with a larger region at one place
module _ (s t : Store) (g : Grows s t) (cells : List Cell) (i : ℕ) (cell : Cell) (reading : Checked Value) (region q : ℕ) (h : AreCells s cells) (has : Has s region)
    (found : position (λ c. same_reading reading c.reading) cells ≡ Some i) (is : cell ≡ get_or cells i cell) (joined : IsRegion t q (λ bits. value_of s cell.region bits || value_of s region bits)) where
  facts : (i < length cells) × (same_reading reading (get_or cells i cell).reading ≡ true)
  facts = let p = position-Some (λ (c : Cell). same_reading reading c.reading) cells i cell found in (p.0, p.1)

  same : reading ≡ cell.reading
  same = same_reading-true reading (get_or cells i cell).reading facts.1 ∙ ap (λ (c : Cell). c.reading) (sym is)

  pub has_region : Has s cell.region
  has_region = subst (λ (c : Cell). Has s c.region) (sym is) (All-get_or (λ (c : Cell). Has s c.region) cells i cell facts.0 h.has)

  filled : cell.region ≢ 0
  filled = subst (λ (c : Cell). c.region ≢ 0) (sym is) (All-get_or (λ (c : Cell). c.region ≢ 0) cells i cell facts.0 h.some)

  still_filled : q ≢ 0
  still_filled z = filled (never_true s cell.region has_region (λ bits.
      (or_parts (value_of s cell.region bits) (value_of s region bits) (sym (joined.value bits) ∙ ap (λ r. value_of t r bits) z ∙ value_of-false t.nodes.keys bits)).0))

  pub AreCells-enlarge : AreCells t (set cells i (record { reading = cell.reading; region = q }))
  AreCells-enlarge = record {
    has = All-set (λ (c : Cell). Has t c.region) cells i _ joined.has (has-grows s t g cells h.has);
    some = All-set (λ (c : Cell). c.region ≢ 0) cells i _ still_filled h.some;
    once = subst AreOnce (sym unchanged) h.once;
  }
    where
      unchanged : readings_in (set cells i (record { reading = cell.reading; region = q })) ≡ readings_in cells
      unchanged =
          map-set (λ (c : Cell). c.reading) cells i _
          ∙ ap (set (readings_in cells) i) (ap (λ (c : Cell). c.reading) is ∙ sym (get_or-map (λ (c : Cell). c.reading) cells i cell cell.reading facts.0))
          ∙ set-get_or (readings_in cells) i cell.reading

  pub shows-enlarge : (bits : List Bool) (k : Checked Value) → shows (λ r. value_of t r bits) (set cells i (record { reading = cell.reading; region = q })) k
      ≡ (shows (λ r. value_of s r bits) cells k || (same_reading k reading && value_of s region bits))
  shows-enlarge bits k =
      enlarge (λ r. value_of t r bits) reading k q region cells i cell cell facts.0 (sym is) same
      (joined.value bits ∙ (λ j. sym (g.value cell.region has_region bits) j || sym (g.value region has bits) j))
      ∙ (λ j. any_cell-grows s t g cells h.has bits (same_reading k) j || (same_reading k reading && g.value region has bits j))
