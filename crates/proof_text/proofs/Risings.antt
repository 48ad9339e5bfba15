-- Parts in a row, each of which comes behind the earlier ones, rise.
use Rattle.std.proofs.Common.{◌≡◌, inl, inr, ◌-◌, ◌≤◌, ◌==◌, false, List, [], ◌∷◌, ◌++◌, length, get_or, sym, ◌∙◌, subst, arith}
use Rattle.std.specs.Prelude.{All, AllPairs}
use Rattle.std.proofs.lemmas.Bool.{cases_lt}
use Rattle.std.proofs.lemmas.List.{get_or_default}
use Rattle.std.proofs.lemmas.List.Elements.{All-cons, All-head}
use Rattle.std.proofs.lemmas.List.Kept.{AllPairs-cons}
use Rattle.text_lines.specs.Formats.{FitEach}
use Rattle.text_lines.proofs.Lists.{all_left, all_right}

module _ {X : Type 0} (Fits : List X → X → Type 0) (Before : X → X → Type 0) (before : (earlier : List X) (x : X) → Fits earlier x → All (λ a. Before a x) earlier) where
  record Rise (earlier xs : List X) : Type 0 where
    rising : AllPairs Before xs
    behind : All (λ x. All (λ a. Before a x) earlier) xs

  rise : (earlier xs : List X) → FitEach Fits earlier xs → Rise earlier xs
  rise earlier [] h = record { rising = λ i j d lt within. absurd (omega (arith, lt, within)); behind = λ k d less. absurd (omega (arith, less)) }
  rise earlier (x ∷ xs) h =
      let r = rise (earlier ++ x ∷ []) xs h.1 in
      record {
        rising = AllPairs-cons Before x xs (λ k d less. All-head (λ a. Before a (get_or xs k d)) x [] (all_right (λ a. Before a (get_or xs k d)) earlier (x ∷ []) (r.behind k d less))) r.rising;
        behind = All-cons (λ y. All (λ a. Before a y) earlier) x xs (before earlier x h.0) (λ k d less. all_left (λ a. Before a (get_or xs k d)) earlier (x ∷ []) (r.behind k d less));
      }

  pub all_rise : (xs : List X) → FitEach Fits [] xs → AllPairs Before xs
  all_rise xs h = (rise [] xs h).rising

-- ---- the last of the earlier ones

pub some_there : {A : Type 0} (xs : List A) → (length xs == 0) ≡ false → 1 ≤ length xs
some_there [] e = absurd cc
some_there (x ∷ xs) e = omega arith

module _ {X : Type 0} (Before : X → X → Type 0) (xs : List X) (last x : X) (some : 1 ≤ length xs) (at : last ≡ get_or xs (length xs - 1) last) where
  pub all_before : ((a b c : X) → Before a b → Before b c → Before a c) → AllPairs Before xs → Before last x → All (λ a. Before a x) xs
  all_before through rising before i d lt = elim (cases_lt i (length xs - 1)) [
    | inl less ↦ through (get_or xs i d) (get_or xs (length xs - 1) d) x (rising i (length xs - 1) d less (omega (arith, some))) (subst (λ a. Before a x) here before)
    | inr same ↦ subst (λ n. Before (get_or xs n d) x) (let k : length xs - 1 ≡ i = omega (arith, lt, same) in k) (subst (λ a. Before a x) here before)
  ]
    where
      here : last ≡ get_or xs (length xs - 1) d
      here = at ∙ get_or_default xs (length xs - 1) last d (omega (arith, some))

  pub last_before : All (λ a. Before a x) xs → Before last x
  last_before all = subst (λ a. Before a x) (sym at) (all (length xs - 1) last (omega (arith, some)))
