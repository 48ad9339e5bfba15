-- Texts of the lines of a certificate, piece by piece.
use Rattle.std.proofs.Common.{◌≡◌, ◌∙◌, ℕ, List, [], ◌∷◌, ◌++◌, map, length, sym, ap, append_assoc, codes}
use Rattle.bdd_nodes.specs.declared.triple.Triple.{Triple}
use Rattle.proof_text.specs.Lines.{Line, Words, Node, text_of, node_lines, counted, nodes_lines}
use Rattle.proof_text.proofs.WrittenLines.{node_texts, text-append}
use Rattle.strong_fair.specs.Form.{Certificate, Row}
use Rattle.command_replies.specs.Strong.{certificate_lines, row_line, rows_lines}

-- a text, and lines behind others
pub behind : (xs ys : List Line) (t t1 t2 : List ℕ) → t1 ≡ t ++ text_of xs → t2 ≡ t1 ++ text_of ys
    → t2 ≡ t ++ text_of (xs ++ ys)
behind xs ys t t1 t2 p q =
    q ∙ ap (λ x. x ++ text_of ys) p ∙ append_assoc t (text_of xs) (text_of ys)
    ∙ ap (λ x. t ++ x) (sym (text-append xs ys))

pub table_is : (nodes : List Triple) (t t1 t2 : List ℕ)
    → t1 ≡ t ++ text_of (counted (codes "nodes") (length nodes) ∷ [])
    → t2 ≡ t1 ++ text_of (map (Node []) nodes) → t2 ≡ t ++ text_of (nodes_lines nodes)
table_is nodes t t1 t2 p q =
    behind (counted (codes "nodes") (length nodes) ∷ []) (node_lines [] nodes) t t1 t2 p
    (q ∙ ap (λ x. t1 ++ x) (sym (node_texts [] nodes)))

pub rows_are : (rows : List (Row ℕ)) (n : ℕ) (t t1 t2 : List ℕ) → n ≡ length rows
    → t1 ≡ t ++ text_of (counted (codes "rows") n ∷ [])
    → t2 ≡ t1 ++ text_of (map row_line rows) → t2 ≡ t ++ text_of (rows_lines rows)
rows_are rows n t t1 t2 count p q =
    behind (counted (codes "rows") (length rows) ∷ []) (map row_line rows) t t1 t2
    (p ∙ ap (λ k. t ++ text_of (counted (codes "rows") k ∷ [])) count) q

pub sets_are : (inside : ℕ) (rows : List (Row ℕ)) (t t1 t2 t3 : List ℕ)
    → t1 ≡ t ++ text_of (counted (codes "inside") inside ∷ [])
    → t2 ≡ t1 ++ text_of (rows_lines rows)
    → t3 ≡ t2 ++ text_of (Words (codes "end" ∷ []) ∷ [])
    → t3 ≡ t ++ text_of (counted (codes "inside") inside ∷ rows_lines rows
    ++ Words (codes "end" ∷ []) ∷ [])
sets_are inside rows t t1 t2 t3 p q r =
    behind (counted (codes "inside") inside ∷ rows_lines rows) (Words (codes "end" ∷ []) ∷ []) t t2
    t3 (behind (counted (codes "inside") inside ∷ []) (rows_lines rows) t t1 t2 p q) r

pub certificate_is : (nodes : List Triple) (c : Certificate ℕ) (t t1 t2 : List ℕ)
    → t1 ≡ t ++ text_of (nodes_lines nodes)
    → t2 ≡ t1 ++ text_of (counted (codes "inside") c.inside ∷ rows_lines c.rows
    ++ Words (codes "end" ∷ []) ∷ [])
    → t2 ≡ t ++ text_of (certificate_lines nodes c)
certificate_is nodes c t t1 t2 p q =
    behind (nodes_lines nodes) (counted (codes "inside") c.inside ∷ rows_lines c.rows
    ++ Words (codes "end" ∷ []) ∷ []) t t1 t2 p q
