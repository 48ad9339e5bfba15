-- Regions of a store that grows.
use Rattle.std.proofs.Common.{◌≡◌, ℕ, ◌+◌, ◌*◌, ◌^◌, ◌<◌, ◌≤◌, get_or, take, cond, Bool, true, false, ◌&&◌, ◌||◌, List, [], ◌∷◌, length, Ok, Err, refl, sym, ap, subst, ◌∙◌, arith}
use Rattle.std.specs.Prelude.{All}
use Rattle.std.proofs.Math.Nat.{mul-le-mul_left}
use Rattle.std.proofs.lemmas.List.Elements.{All-head, All-tail, All-weaker, All-get_or}
use Rattle.std.proofs.lemmas.List.{take_all}
use Rattle.std.proofs.lemmas.List.Folds.{list_any_more}
use Rattle.bdd_nodes.specs.declared.store.Store.{Store}
use Rattle.bdd_nodes.specs.Store.{levels_of, triples, Has, value_of, Grows}
use Rattle.bdd_nodes.proofs.Tables.{value_of-false}
use Rattle.bdd_nodes.proofs.Canonical.{canonical}
use Rattle.bdd_ops.specs.declared.engine.Engine.{Engine}
use Rattle.bdd_ops.proofs.Kept.{KeepsEngine-same, KeepsEngine-then}
use Rattle.kripke_model.specs.declared.expressions.Value.{Value}
use Rattle.kripke_model.specs.Evaluation.{Checked}
use Rattle.value_tables.specs.declared.cells.Cell.{Cell}
use Rattle.kripke_model.specs.declared.expressions.BinOp.{BinOp}
use Rattle.value_tables.specs.declared.pick.Pick.{Pick}
use Rattle.value_tables.specs.Pick.{becomes}
use Rattle.value_tables.specs.Tables.{pairs_to}
use Rattle.value_tables.proofs.BoolLemmas.{or_more}
use Rattle.bdd_ops.specs.Kept.{IsRegion, KeepsEngine}
use Rattle.value_tables.specs.Work.{Keeps, Spends}
use Rattle.value_tables.specs.Cells.{any_cell, AreCells, same_reading, region_at}

pub Keeps-same : (e : Engine) (n : ℕ) → Keeps e e n n
Keeps-same e n = record { engine = KeepsEngine-same e; steps = omega arith }

pub Keeps-then : (a b c : Engine) (k l m : ℕ) → Keeps a b k l → Keeps b c l m → Keeps a c k m
Keeps-then a b c k l m f g = record { engine = KeepsEngine-then a b c f.engine g.engine; steps = omega (arith, f.steps, g.steps) }

pub keeps_join : {a b c : Engine} {k l m : ℕ} → Keeps a b k l → Keeps b c l m → Keeps a c k m
keeps_join {a} {b} {c} {k} {l} {m} f g = Keeps-then a b c k l m f g

pub Spends-same : (s : Store) (k : ℕ) → Spends k s s
Spends-same s k = record { count = omega arith }

pub Spends-then : (a b c : Store) (i j k : ℕ) → levels_of b ≡ levels_of a → i + j ≤ k → Spends i a b → Spends j b c → Spends k a c
Spends-then a b c i j k same le f g =
    let p : 2 ^ levels_of b ≡ 2 ^ levels_of a = ap (λ n. 2 ^ n) same in
    record { count = total (2 ^ levels_of a) (length (triples a)) (length (triples b)) (length (triples c)) le f.count (subst (λ n. length (triples c) ≤ length (triples b) + j * n) p g.count) }
  where
    total : (n x y z : ℕ) → i + j ≤ k → y ≤ x + i * n → z ≤ y + j * n → z ≤ x + k * n
    total n x y z h f g = omega (arith, mul-le-mul_left n h)

pub IsRegion-grows : (a b : Store) → Grows a b → (r : ℕ) (f : List Bool → Bool) → IsRegion a r f → IsRegion b r f
IsRegion-grows a b g r f h = record {
  has = g.has r h.has;
  value = λ bits. g.value r h.has bits ∙ h.value bits;
}

-- only the empty diagram is false everywhere
pub never_true : (s : Store) (r : ℕ) → Has s r → ((bits : List Bool) → value_of s r bits ≡ false) → r ≡ 0
never_true s r has h = canonical s.levels s.nodes.keys s.good r 0 has (omega arith) (λ bits len. h bits ∙ sym (value_of-false s.nodes.keys bits))

-- cells show the same in a store that has grown
pub any_cell-grows : (a b : Store) → Grows a b → (cells : List Cell) → All (λ (c : Cell). Has a c.region) cells → (bits : List Bool) (p : Checked Value → Bool)
    → any_cell (λ r. value_of b r bits) p cells ≡ any_cell (λ r. value_of a r bits) p cells
any_cell-grows a b g [] has bits p = refl
any_cell-grows a b g (c ∷ cells) has bits p = λ i.
    (p c.reading && g.value c.region (All-head (λ (c : Cell). Has a c.region) c cells has) bits i)
    || any_cell-grows a b g cells (All-tail (λ (c : Cell). Has a c.region) c cells has) bits p i

pub has-grows : (a b : Store) → Grows a b → (cells : List Cell) → All (λ (c : Cell). Has a c.region) cells → All (λ (c : Cell). Has b c.region) cells
has-grows a b g cells h = All-weaker (λ (c : Cell). Has a c.region) (λ (c : Cell). Has b c.region) (λ c. g.has c.region) cells h

pub AreCells-grows : (a b : Store) → Grows a b → (cells : List Cell) → AreCells a cells → AreCells b cells
AreCells-grows a b g cells h = record { has = has-grows a b g cells h.has; some = h.some; once = h.once }

-- ---- a loop over cells

any_step : (v : List Bool → ℕ → Bool) (p : List Bool → Checked Value → Bool) (cells : List Cell) (i : ℕ) (cell : Cell) → i < length cells → cell ≡ get_or cells i cell → (old new : List Bool → Bool)
    → ((bits : List Bool) → old bits ≡ any_cell (v bits) (p bits) (take i cells)) → ((bits : List Bool) → new bits ≡ (old bits || (p bits cell.reading && v bits cell.region)))
    → (bits : List Bool) → new bits ≡ any_cell (v bits) (p bits) (take (i + 1) cells)
any_step v p cells i cell lt is old new f g bits =
    g bits ∙ (λ j. f bits j || (p bits (is j).reading && v bits (is j).region)) ∙ sym (list_any_more (λ (c : Cell). p bits c.reading && v bits c.region) cells i cell lt)

module _ (s a b : Store) (g : Grows s a) (cells : List Cell) (i : ℕ) (cell : Cell) (lt : i < length cells) (is : cell ≡ get_or cells i cell) (has : All (λ (c : Cell). Has s c.region) cells) where
  pub has_item : Has s cell.region
  has_item = subst (λ (c : Cell). Has s c.region) (sym is) (All-get_or (λ (c : Cell). Has s c.region) cells i cell lt has)

  pub has_item_now : Has a cell.region
  has_item_now = g.has cell.region has_item

  -- one more cell among those that some region joins
  pub IsRegion-more : (p : List Bool → Checked Value → Bool) (r q : ℕ) → IsRegion a r (λ bits. any_cell (λ x. value_of s x bits) (p bits) (take i cells))
      → Has b q → ((bits : List Bool) → value_of b q bits ≡ (value_of a r bits || (p bits cell.reading && value_of a cell.region bits)))
      → IsRegion b q (λ bits. any_cell (λ x. value_of s x bits) (p bits) (take (i + 1) cells))
  IsRegion-more p r q h hq e = record {
    has = hq;
    value = any_step (λ bits x. value_of s x bits) p cells i cell lt is (λ bits. value_of a r bits) (λ bits. value_of b q bits) h.value
        (λ bits. e bits ∙ ap (λ x. value_of a r bits || (p bits cell.reading && x)) (g.value cell.region has_item bits));
  }

pub IsRegion-all : (s a : Store) (cells : List Cell) (i : ℕ) (p : List Bool → Checked Value → Bool) (r : ℕ) → length cells ≤ i → IsRegion a r (λ bits. any_cell (λ x. value_of s x bits) (p bits) (take i cells))
    → IsRegion a r (λ bits. any_cell (λ x. value_of s x bits) (p bits) cells)
IsRegion-all s a cells i p r le h = record { has = h.has; value = λ bits. h.value bits ∙ ap (any_cell (λ x. value_of s x bits) (p bits)) (take_all i cells le) }

pub IsRegion-none : (s : Store) (p : List Bool → Checked Value → Bool) (v : List Bool → ℕ → Bool) → IsRegion s 0 (λ bits. any_cell (v bits) (p bits) [])
IsRegion-none s p v = record { has = omega arith; value = λ bits. value_of-false s.nodes.keys bits }

-- ---- the region of a reading

region_has : (s : Store) (cells : List Cell) → All (λ (c : Cell). Has s c.region) cells → (k : Checked Value) → Has s (region_at cells k)
region_has s [] has k = omega arith
region_has s (c ∷ cells) has k = by (same_reading k c.reading) (region_has s cells (All-tail (λ (c : Cell). Has s c.region) c cells has) k)
  where
    by : (b : Bool) → Has s (region_at cells k) → Has s (cond b c.region (region_at cells k))
    by true h = All-head (λ (c : Cell). Has s c.region) c cells has
    by false h = h

module _ (s a : Store) (g : Grows s a) (cells : List Cell) (has : All (λ (c : Cell). Has s c.region) cells) (k : Checked Value) (r : ℕ) (is : r ≡ region_at cells k) where
  pub has_region_at : Has a r
  has_region_at = subst (Has a) (sym is) (g.has (region_at cells k) (region_has s cells has k))

  pub region_at-grows : (bits : List Bool) → value_of a r bits ≡ value_of s (region_at cells k) bits
  region_at-grows bits = ap (λ x. value_of a x bits) is ∙ g.value (region_at cells k) (region_has s cells has k) bits

-- pairs show the same in a store that has grown
module _ (s a : Store) (g : Grows s a) (left right : List Cell) (has_left : All (λ (c : Cell). Has s c.region) left) (has_right : All (λ (c : Cell). Has s c.region) right) (bits : List Bool) where
  pub pairs_to-grows : (op : BinOp) (k r : Checked Value) → pairs_to (λ q. value_of a q bits) op k right r ≡ pairs_to (λ q. value_of s q bits) op k right r
  pairs_to-grows op k (Ok v) = any_cell-grows s a g right has_right bits (becomes (Pick.With op v) k)
  pairs_to-grows op k (Err kind) = refl

  pub pairs-grows : (op : BinOp) (k : Checked Value) → any_cell (λ q. value_of a q bits) (pairs_to (λ q. value_of a q bits) op k right) left ≡ any_cell (λ q. value_of s q bits) (pairs_to (λ q. value_of s q bits) op k right) left
  pairs-grows op k =
      (λ j. any_cell (λ q. value_of a q bits) (λ r. pairs_to-grows op k r j) left)
      ∙ any_cell-grows s a g left has_left bits (pairs_to (λ q. value_of s q bits) op k right)

-- one more cell among those that pair
pub pairs_step : (s a : Store) → Grows s a → (left right : List Cell) → All (λ (c : Cell). Has s c.region) left → All (λ (c : Cell). Has s c.region) right → (op : BinOp) (k : Checked Value) (bits : List Bool)
    → (i : ℕ) (cell : Cell) → i < length left → cell ≡ get_or left i cell → (first now new : Bool)
    → now ≡ (first || any_cell (λ q. value_of s q bits) (pairs_to (λ q. value_of s q bits) op k right) (take i left))
    → new ≡ (now || (pairs_to (λ q. value_of a q bits) op k right cell.reading && value_of a cell.region bits))
    → new ≡ (first || any_cell (λ q. value_of s q bits) (pairs_to (λ q. value_of s q bits) op k right) (take (i + 1) left))
pairs_step s a g left right has_left has_right op k bits i cell lt is first now new e f =
    let p : Checked Value → Bool = pairs_to (λ q. value_of s q bits) op k right in
    or_more first (any_cell (λ q. value_of s q bits) p (take i left)) (p cell.reading && value_of s cell.region bits) now new e
    (f ∙ (λ j. now || (pairs_to-grows s a g left right has_left has_right bits op k cell.reading j && g.value cell.region (has_item s a a g left i cell lt is has_left) bits j)))
    ∙ ap (λ b. first || b) ((λ j. any_cell (λ q. value_of s q bits) p (take i left) || (p (is j).reading && value_of s (is j).region bits)) ∙ sym (list_any_more (λ (c : Cell). p c.reading && value_of s c.region bits) left i cell lt))

-- where what is kept of an engine is told by itself
pub keeps_engine : {a b : Engine} (n : ℕ) → KeepsEngine a b → Keeps a b n n
keeps_engine n h = record { engine = h; steps = omega arith }
