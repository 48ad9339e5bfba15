use Rattle.std.proofs.Common.{◌≡◌, ℕ, ◌<◌, List, ◌++◌, ⊎_elim, length, get_or, set, sym, ◌∙◌, ap, subst, arith, below_more}
use Rattle.std.specs.Prelude.{Contains}
use Rattle.std.proofs.lemmas.List.{get_or_default}
use Rattle.kripke_model.specs.System.{Assignment}
use Rattle.smv_static.specs.Numbers.{row}
use Rattle.smv_static.specs.Targets.{targets_of}
use Rattle.smv_static.proofs.NumberLemmas.{member_at}
use Rattle.smv_static.proofs.RowLemmas.{appended_cases, appended_old, appended_new}
use Rattle.smv_static.proofs.groups.table.Goals as goal

pub add_targets-requires : goal.add_targets-requires
add_targets-requires c =
    let k : ℕ = get_or c.args.places.now c.loop-k.k-index 0 in
    let item : Assignment = c.index-assigns-k.result in
    let known : item.var < c.args.variables =
    subst (λ (a : Assignment). a.var < c.args.variables) (sym c.index-assigns-k.is) (c.requires.known k item (c.requires.places c.loop-k.k-index 0 c.loop-k-test.true)) in
    omega (arith, known, c.loop-k.invariant.len)

pub loop-k-preserved : goal.loop-k-preserved
loop-k-preserved c =
    let i = c.loop-k.invariant in
    let places : List ℕ = c.args.places.now in
    let assigns : List Assignment = c.args.assigns.now in
    let k : ℕ = get_or places c.loop-k.k-index 0 in
    let item : Assignment = c.index-assigns-k.result in
    let rows : List (List ℕ) = c.loop-k.rows.items in
    let new : List (List ℕ) = c.add_targets.new.rows.items in
    let more : List ℕ = targets_of item in
    let added : new ≡ set rows item.var (row rows item.var ++ more) = c.in_ok-add_targets.ensures.added in
    let back = λ (x z : ℕ) (m : Contains (row (set rows item.var (row rows item.var ++ more)) x) z). subst (λ (t : List (List ℕ)). Contains (row t x) z) (sym added) m in
    let place : k < length assigns = c.requires.places c.loop-k.k-index 0 c.loop-k-test.true in
    let at = λ (d : Assignment). get_or_default assigns k d item place ∙ sym c.index-assigns-k.is in
    let known : item.var < c.args.variables = subst (λ (a : Assignment). a.var < c.args.variables) (sym c.index-assigns-k.is) (c.requires.known k item place) in
    let below : item.var < length rows = omega (arith, known, i.len) in
    record {
      len = c.add_targets.ensures.count ∙ i.len;
      sound = λ x y m. ⊎_elim (λ old. i.sound x y old)
          (λ here. (k, member_at places c.loop-k.k-index 0 c.loop-k-test.true, λ d. ap (λ (a : Assignment). a.var) (at d) ∙ sym here.0, λ d. subst (λ (a : Assignment). Contains (targets_of a) y) (sym (at d)) here.1))
          (appended_cases rows item.var more below x y (subst (λ (t : List (List ℕ)). Contains (row t x) y) added m));
      complete = below_more (λ (j : ℕ). (y : ℕ) (d : Assignment) → Contains (targets_of (get_or assigns (get_or places j 0) d)) y → Contains (row new (get_or assigns (get_or places j 0) d).var) y) c.loop-k.k-index
          (λ j l y d h. back (get_or assigns (get_or places j 0) d).var y (appended_old rows item.var more below (get_or assigns (get_or places j 0) d).var y (i.complete j l y d h)))
          (λ y d h. subst (λ (a : Assignment). Contains (row new a.var) y) (sym (at d)) (back item.var y (appended_new rows item.var more below y (subst (λ (a : Assignment). Contains (targets_of a) y) (at d) h))));
    }

pub returns : goal.returns
returns c =
    let i = c.loop-k.invariant in
    let assigns : List Assignment = c.args.assigns.now in
    let places : List ℕ = c.args.places.now in
    let rows : List (List ℕ) = c.loop-k.rows.items in
    record {
      sound = i.sound;
      complete = λ k y d place h.
          let same : get_or places place.0 0 ≡ k = get_or_default places place.0 0 k place.1 ∙ place.2 in
          subst (λ (j : ℕ). Contains (row rows (get_or assigns j d).var) y) same
          (i.complete place.0 (omega (arith, place.1, c.loop-k-test.false)) y d (subst (λ (j : ℕ). Contains (targets_of (get_or assigns j d)) y) (sym same) h));
    }
