-- The text of a ring of inverters.
use Rattle.std.specs.Prelude.{ℕ, ◌==◌, ◌-◌, List, [], ◌∷◌, ◌++◌, codes, decimal, map, if◌then◌else◌}
use Rattle.std.specs.List.{concat, range_with_len}

-- a text and a line feed
abbrev pub line : List ℕ → List ℕ
line text = text ++ 10 ∷ []

abbrev pub text_of : List (List ℕ) → List ℕ
text_of lines = concat (map line lines)

-- the process of n whose output process i takes: the one before it, and for the first the last
abbrev pub feeder : (n i : ℕ) → ℕ
feeder n i = if i == 1 then n else i - 1

-- the name of process i
abbrev pub process_name : ℕ → List ℕ
process_name i = codes "g" ++ decimal i

-- the line that declares process i of n
abbrev pub process_line : (n i : ℕ) → List ℕ
process_line n i
    = codes "  " ++ process_name i
    ++ codes " : process inverter(" ++ process_name (feeder n i) ++ codes ".output);"

-- the lines behind the processes
abbrev pub last_lines : List (List ℕ)
last_lines = codes "SPEC AG AF g1.output"
    ∷ codes "SPEC AG AF !g1.output"
    ∷ codes "MODULE inverter(input)"
    ∷ codes "VAR"
    ∷ codes "  output : boolean;"
    ∷ codes "ASSIGN"
    ∷ codes "  init(output) := 0;"
    ∷ codes "  next(output) := !input;"
    ∷ codes "FAIRNESS running"
    ∷ []

-- the n + 11 lines of the ring of n processes
abbrev pub ring_lines : ℕ → List (List ℕ)
ring_lines n
    = codes "MODULE main" ∷ codes "VAR" ∷ map (process_line n) (range_with_len 1 n) ++ last_lines

abbrev pub ring_text : ℕ → List ℕ
ring_text n = text_of (ring_lines n)
