-- Texts of lines, piece by piece.
use Rattle.std.proofs.Common.{◌≡◌, ℕ, ◌+◌, Bool, true, false, ◌||◌, List, [], ◌∷◌, ◌++◌, map, length, Some, get_or, arith, length-append, refl, sym, ◌∙◌, ap, ap₂, append_assoc, append-nil, codes, decimal}
use Rattle.std.proofs.lemmas.Bool.{false≢true}
use Rattle.std.proofs.lemmas.List.Elements.{All-nil, All-cons, All-head, All-tail}
use Rattle.std.specs.Prelude.{All, flat_map, if◌then◌else◌}
use Rattle.std.specs.List.{join_with_byte, list_any, range_with_len, slice_index_or}
use Rattle.bdd_nodes.specs.declared.triple.Triple.{Triple}
use Rattle.kripke_model.specs.Leaves.{HasLeafConstraints}
use Rattle.kripke_model.specs.System.{System, Condition, Variable}
use Rattle.kripke_model.specs.Term.{has_path_operator}
use Rattle.proof_form.specs.Form.{FreePart, Proof}
use Rattle.proof_text.specs.File.{Block}
use Rattle.proof_text.specs.Lines.{Line, Words, Node, text_of, line_text, node_lines, nonfair_lines, fair_lines, free_entry_lines, free_lines, end_lines, version_word, header_lines, entry_lines, proof_lines, block_lines, claim_word, counted}
use Rattle.proof_text.specs.SpacedText.{spaced}

pub text-append : (xs ys : List Line) → text_of (xs ++ ys) ≡ text_of xs ++ text_of ys
text-append [] ys = refl
text-append (x ∷ xs) ys = ap (λ t. (line_text x ++ 10 ∷ []) ++ t) (text-append xs ys) ∙ sym (append_assoc (line_text x ++ 10 ∷ []) (text_of xs) (text_of ys))

-- one of them after the other
pub flat_text : {A : Type 0} (lines : A → List Line) (x : A) (xs : List A) → text_of (flat_map lines (x ∷ xs)) ≡ text_of (lines x) ++ text_of (flat_map lines xs)
flat_text lines x xs = text-append (lines x) (flat_map lines xs)

-- a line of words, which are behind a first one
pub spaced_words : (word : List ℕ) (words : List (List ℕ)) → join_with_byte 32 (word ∷ words) ≡ word ++ spaced words
spaced_words word [] = sym (append-nil word)
spaced_words word (next ∷ words) = ap (λ t. word ++ 32 ∷ t) (spaced_words next words)

-- a node is written in the same way behind any others
pub node_texts : (earlier nodes : List Triple) → text_of (node_lines earlier nodes) ≡ text_of (map (Node []) nodes)
node_texts earlier [] = refl
node_texts earlier (t ∷ nodes) = ap (λ x. (line_text (Node [] t) ++ 10 ∷ []) ++ x) (node_texts (earlier ++ t ∷ []) nodes)

-- ---- parts of a proof

four_parts : (t w a b c : List ℕ) → (((t ++ w) ++ a) ++ b) ++ c ≡ t ++ (w ++ (a ++ (b ++ c)))
four_parts t w a b c = simp append_assoc

pub free_is : (part : FreePart ℕ) (t t1 t2 t3 t4 : List ℕ) → t1 ≡ t ++ text_of (Words (codes "free" ∷ []) ∷ []) → t2 ≡ t1 ++ text_of (nonfair_lines part.nonfair)
    → t3 ≡ t2 ++ text_of (fair_lines part.fair) → t4 ≡ t3 ++ text_of (flat_map free_entry_lines part.entries) → t4 ≡ t ++ text_of (free_lines (Some part))
free_is part t t1 t2 t3 t4 p q r s =
    s ∙ ap (λ x. x ++ entries) (r ∙ ap (λ x. x ++ fair) (q ∙ ap (λ x. x ++ layers) p))
    ∙ four_parts t head layers fair entries
    ∙ ap (λ x. t ++ (head ++ x)) (sym rest)
  where
    layers : List ℕ
    layers = text_of (nonfair_lines part.nonfair)

    fair : List ℕ
    fair = text_of (fair_lines part.fair)

    entries : List ℕ
    entries = text_of (flat_map free_entry_lines part.entries)

    head : List ℕ
    head = text_of (Words (codes "free" ∷ []) ∷ [])

    rest : text_of (nonfair_lines part.nonfair ++ (fair_lines part.fair ++ flat_map free_entry_lines part.entries)) ≡ layers ++ (fair ++ entries)
    rest =
        text-append (nonfair_lines part.nonfair) (fair_lines part.fair ++ flat_map free_entry_lines part.entries)
        ∙ ap (λ x. layers ++ x) (text-append (fair_lines part.fair) (flat_map free_entry_lines part.entries))

-- ---- the ends of blocks

pub two_is : (a b : Line) (t t1 t2 : List ℕ) → t1 ≡ t ++ text_of (a ∷ []) → t2 ≡ t1 ++ text_of (b ∷ []) → t2 ≡ t ++ text_of (a ∷ b ∷ [])
two_is a b t t1 t2 p q =
    q ∙ ap (λ x. x ++ text_of (b ∷ [])) p ∙ append_assoc t (text_of (a ∷ [])) (text_of (b ∷ [])) ∙ ap (λ x. t ++ x) (sym (text-append (a ∷ []) (b ∷ [])))

-- ---- the version

or_false : (a b : Bool) → (a || b) ≡ false → (a ≡ false) × (b ≡ false)
or_false false b e = (refl, e)
or_false true b e = absurd (false≢true (sym e))

none_any : (cs : List Condition) → All (λ c. has_path_operator c.expr ≡ false) cs → list_any (λ c. has_path_operator c.expr) cs ≡ false
none_any [] h = refl
none_any (c ∷ cs) h =
    ap₂ (λ a b. a || b) (All-head (λ c. has_path_operator c.expr ≡ false) c cs h) (none_any cs (All-tail (λ c. has_path_operator c.expr ≡ false) c cs h))

any_none : (cs : List Condition) → list_any (λ c. has_path_operator c.expr) cs ≡ false → All (λ c. has_path_operator c.expr ≡ false) cs
any_none [] h = All-nil (λ c. has_path_operator c.expr ≡ false)
any_none (c ∷ cs) h =
    let p = or_false (has_path_operator c.expr) (list_any (λ c. has_path_operator c.expr) cs) h in
    All-cons (λ c. has_path_operator c.expr ≡ false) c cs p.0 (any_none cs p.1)

pub first_version : (m : System) → HasLeafConstraints m → version_word m ≡ codes "1"
first_version m leaves = ap (λ b. if b then codes "2" else codes "1") (none_any m.constraints leaves)

pub second_version : (m : System) → (HasLeafConstraints m → ⊥) → version_word m ≡ codes "2"
second_version m formulas = go (list_any (λ c. has_path_operator c.expr) m.constraints) refl
  where
    go : (b : Bool) → list_any (λ c. has_path_operator c.expr) m.constraints ≡ b → version_word m ≡ codes "2"
    go true e = ap (λ b. if b then codes "2" else codes "1") e
    go false e = absurd (formulas (any_none m.constraints e))

-- ---- the header

pub spaced_is : (word : List ℕ) (words : List (List ℕ)) (t t1 t2 t3 : List ℕ) → t1 ≡ t ++ word → t2 ≡ t1 ++ spaced words → t3 ≡ t2 ++ 10 ∷ []
    → t3 ≡ t ++ text_of (Words (word ∷ words) ∷ [])
spaced_is word words t t1 t2 t3 p q r =
    r ∙ ap (λ x. x ++ 10 ∷ []) (q ∙ ap (λ x. x ++ spaced words) p)
    ∙ ap (λ x. x ++ 10 ∷ []) (append_assoc t word (spaced words) ∙ ap (λ x. t ++ x) (sym (spaced_words word words)))
    ∙ append_assoc t (join_with_byte 32 (word ∷ words)) (10 ∷ [])
    ∙ ap (λ x. t ++ x) (sym (append-nil (join_with_byte 32 (word ∷ words) ++ 10 ∷ [])))

get_behind : (d : Variable) (front : List Variable) (v : Variable) (vs : List Variable) → get_or (front ++ v ∷ vs) (length front) d ≡ v
get_behind d [] v vs = refl
get_behind d (x ∷ front) v vs = get_behind d front v vs

names_from : (d : Variable) (front vs : List Variable) → map (λ x. (slice_index_or (front ++ vs) x d).name) (range_with_len (length front) (length vs)) ≡ map (λ v. v.name) vs
names_from d front [] = refl
names_from d front (v ∷ vs) =
    ap₂ (λ a b. a ∷ b) (ap (λ w. w.name) (get_behind d front v vs))
    (ap₂ (λ xs k. map (λ x. (slice_index_or xs x d).name) (range_with_len k (length vs))) (sym (append_assoc front (v ∷ []) vs)) (one_longer front v) ∙ names_from d (front ++ v ∷ []) vs)
  where
    one_longer : (front : List Variable) (v : Variable) → length front + 1 ≡ length (front ++ v ∷ [])
    one_longer front v = omega (arith, length-append front (v ∷ []))

pub header_is : (m : System) (t t1 t2 : List ℕ) → t ≡ [] → t1 ≡ t ++ text_of (Words (codes "smvproof" ∷ version_word m ∷ []) ∷ [])
    → t2 ≡ t1 ++ text_of (Words (codes "order" ∷ map (λ v. v.name) m.vars) ∷ []) → t2 ≡ text_of (header_lines m (range_with_len 0 (length m.vars)))
header_is m t t1 t2 none p q =
    q ∙ ap (λ x. x ++ order) (p ∙ ap (λ x. x ++ first) none)
    ∙ sym (text-append (Words (codes "smvproof" ∷ version_word m ∷ []) ∷ []) (Words (codes "order" ∷ map (λ v. v.name) m.vars) ∷ []))
    ∙ ap (λ names. text_of (Words (codes "smvproof" ∷ version_word m ∷ []) ∷ Words (codes "order" ∷ names) ∷ [])) (sym (names_from (record { name = []; values = []; line = 0 }) [] m.vars))
  where
    first : List ℕ
    first = text_of (Words (codes "smvproof" ∷ version_word m ∷ []) ∷ [])

    order : List ℕ
    order = text_of (Words (codes "order" ∷ map (λ v. v.name) m.vars) ∷ [])

-- ---- whole proofs and blocks

pub proof_is : (m : System) (p : Proof ℕ) (t t1 t2 t3 t4 t5 : List ℕ) → t1 ≡ t ++ text_of (free_lines p.free) → t2 ≡ t1 ++ text_of (nonfair_lines p.nonfair)
    → t3 ≡ t2 ++ text_of (fair_lines p.fair) → t4 ≡ t3 ++ text_of (flat_map entry_lines p.entries) → t5 ≡ t4 ++ text_of (end_lines m p.at) → t5 ≡ t ++ text_of (proof_lines m p)
proof_is m p t t1 t2 t3 t4 t5 a b c d e =
    e ∙ ap (λ x. x ++ ends) (d ∙ ap (λ x. x ++ entries) (c ∙ ap (λ x. x ++ fair) (b ∙ ap (λ x. x ++ layers) a)))
    ∙ append_assoc (((t ++ free) ++ layers) ++ fair) entries ends
    ∙ append_assoc ((t ++ free) ++ layers) fair (entries ++ ends)
    ∙ append_assoc (t ++ free) layers (fair ++ (entries ++ ends))
    ∙ append_assoc t free (layers ++ (fair ++ (entries ++ ends)))
    ∙ ap (λ x. t ++ x) (sym whole)
  where
    free : List ℕ
    free = text_of (free_lines p.free)

    layers : List ℕ
    layers = text_of (nonfair_lines p.nonfair)

    fair : List ℕ
    fair = text_of (fair_lines p.fair)

    entries : List ℕ
    entries = text_of (flat_map entry_lines p.entries)

    ends : List ℕ
    ends = text_of (end_lines m p.at)

    whole : text_of (proof_lines m p) ≡ free ++ (layers ++ (fair ++ (entries ++ ends)))
    whole =
        text-append (free_lines p.free) (nonfair_lines p.nonfair ++ (fair_lines p.fair ++ (flat_map entry_lines p.entries ++ end_lines m p.at)))
        ∙ ap (λ x. free ++ x) (text-append (nonfair_lines p.nonfair) (fair_lines p.fair ++ (flat_map entry_lines p.entries ++ end_lines m p.at))
        ∙ ap (λ x. layers ++ x) (text-append (fair_lines p.fair) (flat_map entry_lines p.entries ++ end_lines m p.at)
        ∙ ap (λ x. fair ++ x) (text-append (flat_map entry_lines p.entries) (end_lines m p.at))))

pub block_is : (m : System) (b : Block) (t t1 t2 t3 t4 : List ℕ) → t ≡ [] → t1 ≡ t ++ text_of (Words (codes "spec" ∷ decimal b.spec ∷ claim_word b.proof.claim ∷ []) ∷ [])
    → t2 ≡ t1 ++ text_of (counted (codes "nodes") (length b.nodes) ∷ []) → t3 ≡ t2 ++ text_of (map (Node []) b.nodes) → t4 ≡ t3 ++ text_of (proof_lines m b.proof) → t4 ≡ text_of (block_lines m b)
block_is m b t t1 t2 t3 t4 none p q r s =
    s ∙ ap (λ x. x ++ proof) (r ∙ ap (λ x. x ++ nodes) (q ∙ ap (λ x. x ++ count) (p ∙ ap (λ x. x ++ claim) none)))
    ∙ append_assoc (claim ++ count) nodes proof ∙ append_assoc claim count (nodes ++ proof) ∙ sym whole
  where
    claim : List ℕ
    claim = text_of (Words (codes "spec" ∷ decimal b.spec ∷ claim_word b.proof.claim ∷ []) ∷ [])

    count : List ℕ
    count = text_of (counted (codes "nodes") (length b.nodes) ∷ [])

    nodes : List ℕ
    nodes = text_of (map (Node []) b.nodes)

    proof : List ℕ
    proof = text_of (proof_lines m b.proof)

    whole : text_of (block_lines m b) ≡ claim ++ (count ++ (nodes ++ proof))
    whole =
        text-append (Words (codes "spec" ∷ decimal b.spec ∷ claim_word b.proof.claim ∷ []) ∷ []) (counted (codes "nodes") (length b.nodes) ∷ node_lines [] b.nodes ++ proof_lines m b.proof)
        ∙ ap (λ x. claim ++ x) (text-append (counted (codes "nodes") (length b.nodes) ∷ []) (node_lines [] b.nodes ++ proof_lines m b.proof)
        ∙ ap (λ x. count ++ x) (text-append (node_lines [] b.nodes) (proof_lines m b.proof) ∙ ap (λ x. x ++ proof) (node_texts [] b.nodes)))
