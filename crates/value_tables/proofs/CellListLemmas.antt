-- A reading's cell is found by its key.
use Rattle.std.proofs.Common.{◌≡◌, ℕ, zero, suc, ◌+◌, ◌<◌, Bool, true, false, cond, not, ◌||◌, List, [], ◌∷◌, ◌++◌, length, get_or, set, ltb, None, Some, Ok, Err, refl, sym, ap, ◌∙◌, arith}
use Rattle.std.specs.Prelude.{position}
use Rattle.std.specs.List.{list_any, position_or_len}
use Rattle.std.proofs.lemmas.Bool.{false≢true}
use Rattle.std.proofs.lemmas.List.{length-map, map_push}
use Rattle.std.proofs.lemmas.List.Quantifiers.{position-Some}
use Rattle.indexmap.specs.IndexSet.{insert_key}
use Rattle.kripke_model.specs.declared.expressions.Value.{Value}
use Rattle.kripke_model.specs.declared.expressions.Value.TheVariants.{Number, Symbol}
use Rattle.kripke_model.specs.Evaluation.{Checked}
use Rattle.value_tables.specs.declared.cells.Cell.{Cell}
use Rattle.value_tables.specs.declared.cell_lists.Key.{Key}
use Rattle.value_tables.specs.contracts.cell_lists.KeyPartialEq.TheImpl.{eq-value}
use Rattle.value_tables.specs.Cells.{same_reading, region_at, readings_in}
use Rattle.value_tables.specs.CellLists.{key_of, keys_of, with_region}
use Rattle.value_tables.proofs.AddLemmas.{absent}

abbrev pub same_key : Key → Key → Bool
same_key = eq-value.it

-- equal readings have equal keys, and no others do
same_keys : (a b : Checked Value) → same_key (key_of a) (key_of b) ≡ same_reading a b
same_keys (Ok (Number i)) (Ok (Number j)) = refl
same_keys (Ok (Number i)) (Ok (Symbol d)) = refl
same_keys (Ok (Number i)) (Err k) = refl
same_keys (Ok (Symbol c)) (Ok (Number j)) = refl
same_keys (Ok (Symbol c)) (Ok (Symbol d)) = refl
same_keys (Ok (Symbol c)) (Err k) = refl
same_keys (Err j) (Ok (Number i)) = refl
same_keys (Err j) (Ok (Symbol d)) = refl
same_keys (Err j) (Err k) = refl

pub position_keys : (k : Checked Value) (cells : List Cell) → position (same_key (key_of k)) (keys_of cells) ≡ position (λ (c : Cell). same_reading k c.reading) cells
position_keys k cells = λ j. cond (ltb (place cells j) (length-map cells (λ (c : Cell). key_of c.reading) j)) (Some (place cells j)) None
  where
    place : (cs : List Cell) → position_or_len (same_key (key_of k)) (keys_of cs) ≡ position_or_len (λ (c : Cell). same_reading k c.reading) cs
    place [] = refl
    place (c ∷ cs) = λ j. cond (not (same_keys k c.reading j)) (1 + place cs j) 0

-- ---- the region of a reading

module _ (k : Checked Value) (d : Cell) where
  first_region : (cells : List Cell) (i : ℕ) → i < length cells → same_reading k (get_or cells i d).reading ≡ true → ((j : ℕ) → j < i → same_reading k (get_or cells j d).reading ≡ false) → (get_or cells i d).region ≡ region_at cells k
  first_region [] i lt e before = absurd (omega arith)
  first_region (c ∷ cells) zero lt e before = sym (ap (λ b. cond b c.region (region_at cells k)) e)
  first_region (c ∷ cells) (suc i) lt e before =
      first_region cells i (omega arith) e (λ j l. before (suc j) (omega arith))
      ∙ sym (ap (λ b. cond b c.region (region_at cells k)) (before 0 (omega arith)))

  pub region_found : (cells : List Cell) (i : ℕ) → position (λ (c : Cell). same_reading k c.reading) cells ≡ Some i → (get_or cells i d).region ≡ region_at cells k
  region_found cells i e =
      let p = position-Some (λ (c : Cell). same_reading k c.reading) cells i d e in
      first_region cells i p.0 p.1 p.2

pub region_missing : (k : Checked Value) (cells : List Cell) → position (λ (c : Cell). same_reading k c.reading) cells ≡ None → 0 ≡ region_at cells k
region_missing k cells e = none cells (absent cells k e)
  where
    parts : (a b : Bool) → (a || b) ≡ false → (a ≡ false) × (b ≡ false)
    parts true b f = absurd (false≢true (sym f))
    parts false b f = (refl, f)

    none : (cs : List Cell) → list_any (same_reading k) (readings_in cs) ≡ false → 0 ≡ region_at cs k
    none [] f = refl
    none (c ∷ cs) f =
        let p = parts (same_reading k c.reading) (list_any (same_reading k) (readings_in cs)) f in
        none cs p.1 ∙ sym (ap (λ b. cond b c.region (region_at cs k)) p.0)

-- ---- changes of the cells

pub with_region-set : (cells : List Cell) (i r : ℕ) (cell : Cell) → cell ≡ get_or cells i cell → with_region cells i r ≡ set cells i (record { reading = cell.reading; region = r })
with_region-set [] i r cell is = refl
with_region-set (c ∷ cells) zero r cell is = λ j. record { reading = (sym is j).reading; region = r } ∷ cells
with_region-set (c ∷ cells) (suc i) r cell is = ap (λ (cs : List Cell). c ∷ cs) (with_region-set cells i r cell is)

pub keys-with_region : (cells : List Cell) (i r : ℕ) → keys_of (with_region cells i r) ≡ keys_of cells
keys-with_region [] i r = refl
keys-with_region (c ∷ cells) zero r = refl
keys-with_region (c ∷ cells) (suc i) r = ap (λ (ks : List Key). key_of c.reading ∷ ks) (keys-with_region cells i r)

pub length-with_region : (cells : List Cell) (i r : ℕ) → length (with_region cells i r) ≡ length cells
length-with_region [] i r = refl
length-with_region (c ∷ cells) zero r = refl
length-with_region (c ∷ cells) (suc i) r = ap suc (length-with_region cells i r)

pub keys_push : (cells : List Cell) (cell : Cell) → position (λ (c : Cell). same_reading cell.reading c.reading) cells ≡ None → insert_key same_key (keys_of cells) (key_of cell.reading) ≡ keys_of (cells ++ cell ∷ [])
keys_push cells cell e =
    ap (λ b. cond b (keys_of cells) (keys_of cells ++ key_of cell.reading ∷ [])) (any_keys cells ∙ absent cells cell.reading e)
    ∙ sym (map_push (λ (c : Cell). key_of c.reading) cells cell)
  where
    any_keys : (cs : List Cell) → list_any (same_key (key_of cell.reading)) (keys_of cs) ≡ list_any (same_reading cell.reading) (readings_in cs)
    any_keys [] = refl
    any_keys (c ∷ cs) = λ j. same_keys cell.reading c.reading j || any_keys cs j
