-- Cells carried into another table.
use Rattle.std.proofs.Common.{◌≡◌, ℕ, ◌+◌, ◌<◌, ◌≤◌, Bool, true, false, ◌&&◌, ◌||◌, List, length, get_or, take, Option, Some, refl, sym, ap, ◌∙◌}
use Rattle.std.specs.Prelude.{All}
use Rattle.std.specs.Option.{option_map_or}
use Rattle.std.proofs.lemmas.List.{take_all}
use Rattle.std.proofs.lemmas.List.Folds.{list_any_more}
use Rattle.bdd_nodes.specs.declared.store.Store.{Store}
use Rattle.bdd_nodes.specs.Store.{Has, value_of, Grows}
use Rattle.kripke_model.specs.declared.expressions.Value.{Value}
use Rattle.kripke_model.specs.Evaluation.{Checked}
use Rattle.value_tables.specs.declared.cells.Cell.{Cell}
use Rattle.value_tables.specs.declared.pick.Pick.{Pick}
use Rattle.bdd_ops.specs.Kept.{IsRegion}
use Rattle.value_tables.specs.Cells.{same_reading, any_cell, shows, AreCells}
use Rattle.value_tables.specs.Pick.{picked, becomes}
use Rattle.value_tables.proofs.RegionLemmas.{any_cell-grows, has_item}

and_assoc : (a b c : Bool) → (a && (b && c)) ≡ ((a && b) && c)
and_assoc true b c = refl
and_assoc false b c = refl

-- one cell is put
pub put_step : (s a : Store) → Grows s a → (items : List Cell) → AreCells s items → (pick : Pick) (cell : Cell) (within region : ℕ) (reading : Checked Value)
    → picked pick cell.reading ≡ Some reading → IsRegion a region (λ bits. value_of s cell.region bits && value_of s within bits) → (bits : List Bool) (k : Checked Value)
    → (shows (λ r. value_of a r bits) items k || (same_reading k reading && value_of a region bits))
    ≡ (shows (λ r. value_of s r bits) items k || ((becomes pick k cell.reading && value_of s cell.region bits) && value_of s within bits))
put_step s a g items h pick cell within region reading e is bits k =
    (λ j. any_cell-grows s a g items h.has bits (same_reading k) j || (sym (ap (λ (o : Option (Checked Value)). option_map_or (same_reading k) o false) e) j && is.value bits j))
    ∙ ap (λ b. shows (λ r. value_of s r bits) items k || b) (and_assoc (becomes pick k cell.reading) (value_of s cell.region bits) (value_of s within bits))

gather : (s a x w : Bool) → ((s || (a && w)) || (x && w)) ≡ (s || ((a || x) && w))
gather true a x w = refl
gather false true true true = refl
gather false true true false = refl
gather false true false true = refl
gather false true false false = refl
gather false false x w = refl

-- nothing is put yet
pub spread_none : (a w : Bool) → a ≡ (a || (false && w))
spread_none true w = refl
spread_none false w = refl

module _ (s a : Store) (g : Grows s a) (cells : List Cell) (i : ℕ) (cell : Cell) (lt : i < length cells) (is : cell ≡ get_or cells i cell) (has : All (λ (c : Cell). Has s c.region) cells) (within : ℕ) (has_within : Has s within) where
  -- one cell more
  pub spread_step : (first : Bool) (now new : Bool) (p : Checked Value → Bool) (bits : List Bool)
      → now ≡ (first || (any_cell (λ r. value_of s r bits) p (take i cells) && value_of s within bits))
      → new ≡ (now || ((p cell.reading && value_of a cell.region bits) && value_of a within bits))
      → new ≡ (first || (any_cell (λ r. value_of s r bits) p (take (i + 1) cells) && value_of s within bits))
  spread_step first now new p bits e f =
      f ∙ (λ j. e j || ((p cell.reading && g.value cell.region (has_item s a a (g) cells i cell lt is has) bits j) && g.value within has_within bits j))
      ∙ gather first (any_cell (λ r. value_of s r bits) p (take i cells)) (p cell.reading && value_of s cell.region bits) (value_of s within bits)
      ∙ (λ j. first || ((any_cell (λ r. value_of s r bits) p (take i cells) || (p (is j).reading && value_of s (is j).region bits)) && value_of s within bits))
      ∙ ap (λ b. first || (b && value_of s within bits)) (sym (list_any_more (λ (c : Cell). p c.reading && value_of s c.region bits) cells i cell lt))

pub spread_all : (s : Store) (cells : List Cell) (i : ℕ) → length cells ≤ i → (first now : Bool) (p : Checked Value → Bool) (w : Bool) (bits : List Bool)
    → now ≡ (first || (any_cell (λ r. value_of s r bits) p (take i cells) && w)) → now ≡ (first || (any_cell (λ r. value_of s r bits) p cells && w))
spread_all s cells i le first now p w bits e = e ∙ ap (λ xs. first || (any_cell (λ r. value_of s r bits) p xs && w)) (take_all i cells le)
