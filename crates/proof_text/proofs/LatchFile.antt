-- The written proof of the small model is a proof file.
use Rattle.std.proofs.Common.{◌≡◌, ℕ, zero, suc, ◌<◌, ◌≤◌, List, [], ◌∷◌, refl, sym, ap, subst, arith, lit<, lit≤}
use Rattle.std.specs.Prelude.{All, Contains, count_by, ◌==◌}
use Rattle.std.proofs.lemmas.List.Elements.{All-from_recursion}
use Rattle.bdd_nodes.specs.declared.triple.Triple.{Triple}
use Rattle.bdd_nodes.specs.Table.{Has, IsGoodNode, node_of}
use Rattle.bit_encode.specs.Binary.{width}
use Rattle.bit_encode.specs.Code.{IsOrder}
use Rattle.kripke_model.proofs.Latch.{latch}
use Rattle.proof_form.specs.Form.{sets_of}
use Rattle.proof_text.specs.Lines.{file_lines}
use Rattle.proof_text.specs.Spells.{greatest_number, numbers_of, IsBlock, IsFile, IsGoodLine, Spells}
use Rattle.bit_encode.specs.Code.{state_bits}
use Rattle.proof_text.proofs.LatchText.{order, nodes, block, layers, file, in_shape, avoid_known, written, text_is}

is_order : IsOrder 2 order
is_order = record { known = All-from_recursion (λ x. x < 2) order (lit< tt, (lit< tt, tt)); once = once }
  where
    once : (x : ℕ) → x < 2 → count_by (λ y. y == x) order ≡ 1
    once zero less = refl
    once (suc zero) less = refl
    once (suc (suc x)) less = absurd (omega arith)

is_block : IsBlock latch (block 0 layers)
is_block = record {
  shape = in_shape 0 layers (avoid_known 1 1 (lit≤ tt) (lit≤ tt) (lit≤ tt) (lit≤ tt) 3 5);
  sets = All-from_recursion (Has nodes) (sets_of (block 0 layers).proof) (lit< tt, (lit< tt, (lit< tt, tt)));
  small = All-from_recursion (λ n. n ≤ greatest_number) (numbers_of (block 0 layers)) (
    lit≤ tt,
    (
      lit≤ tt,
      (
        lit≤ tt,
        (
          lit≤ tt,
          (
            lit≤ tt,
            (
              lit≤ tt,
              (
                lit≤ tt,
                (
                  lit≤ tt,
                  (
                    lit≤ tt,
                    (
                      lit≤ tt,
                      (
                        lit≤ tt,
                        (
                          lit≤ tt,
                          (
                            lit≤ tt,
                            (lit≤ tt, (lit≤ tt, (lit≤ tt, (lit≤ tt, (lit≤ tt, (lit≤ tt, (lit≤ tt, tt))))))),
                          ),
                        ),
                      ),
                    ),
                  ),
                ),
              ),
            ),
          ),
        ),
      ),
    ),
  );
}

is_file : IsFile latch file
is_file = record {
  order = is_order;
  blocks = All-from_recursion (IsBlock latch) file.blocks (is_block, tt);
  rising = λ i j d less below. absurd (omega arith);
  places = (refl, tt);
}

-- the nodes, each good behind the earlier ones, and none of them
first_good : IsGoodNode 2 [] 2 (record { level = 1; low = 0; high = 1 })
unfolding node_of
first_good = record { inside = lit< tt; low_deeper = lit< tt; high_deeper = lit< tt; low_earlier = lit< tt; high_earlier = lit< tt; different = λ e. omega (arith, e) }

abbrev one : List Triple
one = record { level = 1; low = 0; high = 1 } ∷ []

second_good : IsGoodNode 2 one 3 (record { level = 0; low = 2; high = 0 })
unfolding node_of
second_good = record { inside = lit< tt; low_deeper = lit< tt; high_deeper = lit< tt; low_earlier = lit< tt; high_earlier = lit< tt; different = λ e. omega (arith, e) }

abbrev two : List Triple
two = record { level = 1; low = 0; high = 1 } ∷ record { level = 0; low = 2; high = 0 } ∷ []

third_good : IsGoodNode 2 two 4 (record { level = 1; low = 1; high = 0 })
unfolding node_of
third_good = record { inside = lit< tt; low_deeper = lit< tt; high_deeper = lit< tt; low_earlier = lit< tt; high_earlier = lit< tt; different = λ e. omega (arith, e) }

abbrev three : List Triple
three = record { level = 1; low = 0; high = 1 } ∷ record { level = 0; low = 2; high = 0 } ∷ record { level = 1; low = 1; high = 0 } ∷ []

fourth_good : IsGoodNode 2 three 5 (record { level = 0; low = 4; high = 0 })
unfolding node_of
fourth_good = record { inside = lit< tt; low_deeper = lit< tt; high_deeper = lit< tt; low_earlier = lit< tt; high_earlier = lit< tt; different = λ e. omega (arith, e) }

first_new : Contains {X = Triple} [] (record { level = 1; low = 0; high = 1 }) → ⊥
first_new (k, less, e) = absurd (omega (arith, less))

second_new : Contains one (record { level = 0; low = 2; high = 0 }) → ⊥
second_new (zero, less, e) = let f : 0 ≡ 2 = ap (λ (t : Triple). t.low) e in omega (arith, f)
second_new (suc k, less, e) = absurd (omega (arith, less))

third_new : Contains two (record { level = 1; low = 1; high = 0 }) → ⊥
third_new (zero, less, e) = let f : 0 ≡ 1 = ap (λ (t : Triple). t.low) e in omega (arith, f)
third_new (suc zero, less, e) = let f : 2 ≡ 1 = ap (λ (t : Triple). t.low) e in omega (arith, f)
third_new (suc (suc k), less, e) = absurd (omega (arith, less))

fourth_new : Contains three (record { level = 0; low = 4; high = 0 }) → ⊥
fourth_new (zero, less, e) = let f : 0 ≡ 4 = ap (λ (t : Triple). t.low) e in omega (arith, f)
fourth_new (suc zero, less, e) = let f : 2 ≡ 4 = ap (λ (t : Triple). t.low) e in omega (arith, f)
fourth_new (suc (suc zero), less, e) = let f : 1 ≡ 4 = ap (λ (t : Triple). t.low) e in omega (arith, f)
fourth_new (suc (suc (suc k)), less, e) = absurd (omega (arith, less))

all_good : All (IsGoodLine 2) (file_lines latch file)
all_good = All-from_recursion (IsGoodLine 2) (file_lines latch file) (
  tt,
  (
    tt,
    (
      tt,
      (
        tt,
        (
          (first_good, first_new),
          (
            (second_good, second_new),
            (
              (third_good, third_new),
              (
                (fourth_good, fourth_new),
                (tt, (tt, (tt, (tt, (tt, (tt, (tt, (tt, tt)))))))),
              ),
            ),
          ),
        ),
      ),
    ),
  ),
)

two_bits : state_bits latch ≡ 2
unfolding width
two_bits = refl

-- The text is spelled by the file.
pub is_spelled : Spells latch file written
is_spelled = record {
  is_file = is_file;
  nodes = subst (λ n. All (IsGoodLine n) (file_lines latch file)) (sym two_bits) all_good;
  text = sym text_is;
  short = lit≤ tt;
}
