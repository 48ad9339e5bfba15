-- The lines of the processes, one after the other.
use Rattle.std.proofs.Common.{◌≡◌, ◌∙◌, ◌<◌, ◌+◌, ◌-◌, ◌++◌, ℕ, suc, List, map, sym, ap, arith}
use Rattle.std.specs.List.{range_with_len}
use Rattle.std.proofs.lemmas.List.{append_assoc}
use Rattle.smv_rings.specs.Rings.{line, text_of, process_line, last_lines}

-- the lines of the processes from i on, with so many left, and the last lines
abbrev pub lines_left : (n i left : ℕ) → List ℕ
lines_left n i left = text_of (map (process_line n) (range_with_len i left) ++ last_lines)

pub next_line : (whole text more : List ℕ) (n before : ℕ) → before < n → whole ≡ text ++ lines_left n (before + 1) (n - before)
    → more ≡ text ++ line (process_line n (before + 1)) → whole ≡ more ++ lines_left n (before + 1 + 1) (n - (before + 1))
next_line whole text more n before lt is added =
    let left : n - before ≡ suc (n - (before + 1)) = omega arith in
    is ∙ ap (λ k. text ++ lines_left n (before + 1) k) left
    ∙ sym (append_assoc text (line (process_line n (before + 1))) (lines_left n (before + 1 + 1) (n - (before + 1))))
    ∙ ap (λ t. t ++ lines_left n (before + 1 + 1) (n - (before + 1))) (sym added)
