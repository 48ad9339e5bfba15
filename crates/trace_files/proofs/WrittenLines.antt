-- The lines of a path, written one part behind the other.
use Rattle.std.proofs.Common.{◌≡◌, ℕ, ◌+◌, List, [], ◌∷◌, ◌++◌, length, codes, decimal, sym, ◌∙◌, ap, arith, append_assoc}
use Rattle.std.proofs.lemmas.Grind.{flat_map-append}
use Rattle.kripke_model.specs.System.{System, State}
use Rattle.text_lines.specs.WholeLines.{join_lines}
use Rattle.trace_files.specs.Trace.{state_lines, states_lines, loop_line, lasso_lines}

pub join_more : (xs ys : List (List ℕ)) → join_lines (xs ++ ys) ≡ join_lines xs ++ join_lines ys
join_more xs ys = flat_map-append (λ line. line ++ 10 ∷ []) xs ys

module _ (m : System) where
  states_more : (k : ℕ) (ss ts : List State) → states_lines m k (ss ++ ts) ≡ states_lines m k ss ++ states_lines m (k + length ss) ts
  states_more k [] ts = ap (λ n. states_lines m n ts) (let e : k ≡ k + 0 = omega arith in e)
  states_more k (s ∷ ss) ts =
      ap (λ ls. state_lines m k s ++ ls) (states_more (k + 1) ss ts ∙ ap (λ n. states_lines m (k + 1) ss ++ states_lines m n ts) (let e : k + 1 + length ss ≡ k + length (s ∷ ss) = omega arith in e))
      ∙ sym (append_assoc (state_lines m k s) (states_lines m (k + 1) ss) (states_lines m (k + length (s ∷ ss)) ts))

  pub lasso_text : (stem cycle : List State) (n : ℕ) → n ≡ length stem → (t u v w : List ℕ) → u ≡ t ++ join_lines (states_lines m 0 stem) → v ≡ u ++ join_lines (states_lines m n cycle)
      → w ≡ v ++ join_lines ((codes "loop " ++ decimal n) ∷ []) → w ≡ t ++ join_lines (lasso_lines m (record { stem = stem; cycle = cycle }))
  lasso_text stem cycle n same t u v w first second third =
      third ∙ ap (λ x. x ++ join_lines (loop_line n ∷ [])) (second ∙ ap (λ x. x ++ join_lines (states_lines m n cycle)) first)
      ∙ append_assoc (t ++ join_lines (states_lines m 0 stem)) (join_lines (states_lines m n cycle)) (join_lines (loop_line n ∷ []))
      ∙ append_assoc t (join_lines (states_lines m 0 stem)) (join_lines (states_lines m n cycle) ++ join_lines (loop_line n ∷ []))
      ∙ ap (λ x. t ++ x) (sym (append_assoc (join_lines (states_lines m 0 stem)) (join_lines (states_lines m n cycle)) (join_lines (loop_line n ∷ []))))
      ∙ ap (λ x. t ++ (x ++ join_lines (loop_line n ∷ []))) (sym (join_more (states_lines m 0 stem) (states_lines m n cycle)))
      ∙ ap (λ x. t ++ x) (sym (join_more (states_lines m 0 stem ++ states_lines m n cycle) (loop_line n ∷ [])))
      ∙ ap (λ (k : ℕ). t ++ join_lines ((states_lines m 0 stem ++ states_lines m k cycle) ++ loop_line n ∷ [])) (let e : n ≡ 0 + length stem = omega (arith, same) in e)
      ∙ ap (λ (k : ℕ). t ++ join_lines ((states_lines m 0 stem ++ states_lines m (0 + length stem) cycle) ++ loop_line k ∷ [])) same
      ∙ ap (λ ls. t ++ join_lines (ls ++ loop_line (length stem) ∷ [])) (sym (states_more 0 stem cycle))
