use Rattle.std.proofs.Common.{◌≡◌, ℕ, ◌<◌, List, [], ◌∷◌, ◌++◌, ⊎_elim, length, get_or, set, refl, sym, ◌∙◌, ap, subst, arith, below_more}
use Rattle.std.specs.Prelude.{Contains}
use Rattle.std.proofs.lemmas.List.{get_or_default}
use Rattle.kripke_model.specs.System.{Assignment}
use Rattle.smv_static.specs.Groups.{group_of}
use Rattle.smv_static.specs.Numbers.{row}
use Rattle.smv_static.proofs.NumberLemmas.{only_member}
use Rattle.smv_static.proofs.RowLemmas.{appended_cases, appended_old, appended_new}
use Rattle.smv_static.proofs.SideLemmas.{group_known}
use Rattle.smv_static.proofs.groups.grouped.Goals as goal

pub loop-k-preserved : goal.loop-k-preserved
loop-k-preserved c =
    let i = c.loop-k.invariant in
    let P : ℕ = c.args.processes in
    let k : ℕ = c.loop-k.k in
    let assigns : List Assignment = c.args.assigns.now in
    let item : Assignment = c.index-assigns-k.result in
    let rows : List (List ℕ) = c.loop-k.rows.items in
    let new : List (List ℕ) = c.push_at.new.rows.items in
    let g : ℕ = c.group_of.result in
    let pushed : new ≡ set rows g (row rows g ++ k ∷ []) = c.in_ok-push_at.ensures.pushed in
    let back = λ (h z : ℕ) (m : Contains (row (set rows g (row rows g ++ k ∷ [])) h) z). subst (λ (t : List (List ℕ)). Contains (row t h) z) (sym pushed) m in
    let at = λ (d : Assignment). get_or_default assigns k d item c.loop-k-test.true ∙ sym c.index-assigns-k.is in
    let group = λ (d : Assignment). ap (group_of P) (at d) ∙ sym c.group_of.ensures in
    let process : item.process < P = subst (λ (a : Assignment). a.process < P) (sym c.index-assigns-k.is) (c.requires.known k item c.loop-k-test.true) in
    let below : g < length rows = omega (arith, group_known P item.process item.part process, c.group_of.ensures, i.len) in
    record {
      len = c.push_at.ensures.count ∙ i.len;
      known = λ h j m. ⊎_elim (λ old. let l = i.known h j old in omega arith) (λ here. let e : j ≡ k = only_member k j here.1 in omega arith)
          (appended_cases rows g (k ∷ []) below h j (subst (λ (t : List (List ℕ)). Contains (row t h) j) pushed m));
      sound = λ h j d m. ⊎_elim (λ old. i.sound h j d old)
          (λ here. ap (λ (z : ℕ). group_of P (get_or assigns z d)) (only_member k j here.1) ∙ group d ∙ sym here.0)
          (appended_cases rows g (k ∷ []) below h j (subst (λ (t : List (List ℕ)). Contains (row t h) j) pushed m));
      complete = below_more (λ (j : ℕ). (d : Assignment) → Contains (row new (group_of P (get_or assigns j d))) j) k
          (λ j l d. back (group_of P (get_or assigns j d)) j (appended_old rows g (k ∷ []) below (group_of P (get_or assigns j d)) j (i.complete j l d)))
          (λ d. subst (λ (h : ℕ). Contains (row new h) k) (sym (group d)) (back g k (appended_new rows g (k ∷ []) below k (0, omega arith, refl))));
    }

pub returns-clause-grouped : goal.returns-clause-grouped
returns-clause-grouped c =
    let i = c.loop-k.invariant in
    record {
      known = λ g j h. omega (arith, i.known g j h, c.loop-k.auto.k-end);
      sound = i.sound;
      complete = λ j d below. i.complete j (omega arith) d;
    }
