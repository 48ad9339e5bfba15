-- The names of a model have no spaces and no line feeds.
use Rattle.std.proofs.Common.{◌≡◌, ℕ, ◌≤◌, Bool, true, false, ◌&&◌, ◌||◌, ◌==◌, not, List, [], ◌∷◌, ◌++◌, take, drop, decimal, refl, ◌∙◌, ap, subst, arith}
use Rattle.std.specs.Prelude.{All}
use Rattle.std.specs.List.{list_any, slice_index_or}
use Rattle.std.specs.Str.{bytes_eq}
use Rattle.std.proofs.lemmas.Bool.Decides.{nat_tests}
use Rattle.std.proofs.lemmas.List.Elements.{All-nil, All-cons, All-head, All-tail, All-weaker}
use Rattle.kripke_model.specs.Flat.{IsFlat, plain_variables}
use Rattle.kripke_model.specs.Names.{is_letter, is_name_byte, begins_name, is_tail, has_shape, reserved, IsAtom, dotted, bracketed, IsFlatName, IsVariableName, IsProcessName}
use Rattle.kripke_model.specs.System.{System, Variable}
use Rattle.proof_text.proofs.PlainLines.{NamesArePlain}
use Rattle.proof_text.proofs.PlainWords.{is_plain, parts_of_and, plain_byte, plain_append, plain_decimal}
use Rattle.text_lines.proofs.Lists.{same_first}

letter_seen : (b : ℕ) → is_letter b ≡ true → 33 ≤ b
letter_seen b h = grind (arith, nat_tests)

tail_seen : (b : ℕ) (v : Bool) → (is_name_byte b || ((b == 45) && v)) ≡ true → 33 ≤ b
tail_seen b v h = grind (arith, nat_tests)

plain_tail : (s : List ℕ) → is_tail s ≡ true → is_plain s ≡ true
plain_tail [] h = refl
plain_tail (b ∷ s) h =
    let p = parts_of_and (is_name_byte b || ((b == 45) && begins_name s)) (is_tail s) h in
    plain_byte b s (tail_seen b (begins_name s) p.0) (plain_tail s p.1)

plain_shape : (w : List ℕ) → has_shape w ≡ true → is_plain w ≡ true
plain_shape [] h = refl
plain_shape (b ∷ s) h =
    let p = parts_of_and (is_letter b) (is_tail s) h in
    plain_byte b s (letter_seen b p.0) (plain_tail s p.1)

pub atom_shape : (w : List ℕ) → IsAtom w → has_shape w ≡ true
atom_shape w h = (parts_of_and (has_shape w) (not (list_any (bytes_eq w) reserved)) h).0

pub plain_atom : (w : List ℕ) → IsAtom w → is_plain w ≡ true
plain_atom w h = plain_shape w (atom_shape w h)

plain_dotted : (x : List ℕ) (ys : List (List ℕ)) → is_plain x ≡ true → All IsAtom ys → is_plain (dotted x ys) ≡ true
plain_dotted x [] p q = p
plain_dotted x (y ∷ ys) p q =
    plain_dotted (x ++ (46 ∷ y)) ys (plain_append x (46 ∷ y) p (plain_byte 46 y (omega arith) (plain_atom y (All-head IsAtom y ys q)))) (All-tail IsAtom y ys q)

plain_bracketed : (x is : List ℕ) → is_plain x ≡ true → is_plain (bracketed x is) ≡ true
plain_bracketed x [] p = p
plain_bracketed x (i ∷ is) p =
    plain_bracketed (x ++ (91 ∷ decimal i) ++ (93 ∷ [])) is
    (plain_append (x ++ (91 ∷ decimal i)) (93 ∷ []) (plain_append x (91 ∷ decimal i) p (plain_byte 91 (decimal i) (omega arith) (plain_decimal i))) refl)

plain_flat : (is name : List ℕ) → IsFlatName is name → is_plain name ≡ true
plain_flat is name (x, ys, atom, atoms, e) = ap is_plain e ∙ plain_bracketed (dotted x ys) is (plain_dotted x ys (plain_atom x atom) atoms)

pub plain_names : (m : System) → IsFlat m → NamesArePlain m
plain_names m flat = record {
  symbols = All-weaker IsAtom (λ w. is_plain w ≡ true) plain_atom m.symbols flat.symbols;
  processes = processes m.processes flat.main_process flat.processes;
  variables = chosen m.selector refl;
}
  where
    processes : (names : List (List ℕ)) → take 1 names ≡ (109 ∷ 97 ∷ 105 ∷ 110 ∷ []) ∷ [] → All IsProcessName (drop 1 names) → All (λ w. is_plain w ≡ true) names
    processes [] e p = All-nil (λ w. is_plain w ≡ true)
    processes (w ∷ names) e p =
        All-cons (λ w. is_plain w ≡ true) w names (ap is_plain (same_first w (109 ∷ 97 ∷ 105 ∷ 110 ∷ []) (take 0 names) [] e))
        (All-weaker IsProcessName (λ w. is_plain w ≡ true) (λ w h. plain_flat [] w h) names p)

    behind : (vars : List Variable) → All (λ v. IsVariableName v.name) vars → All (λ v. is_plain v.name ≡ true) vars
    behind vars p = All-weaker (λ (v : Variable). IsVariableName v.name) (λ v. is_plain v.name ≡ true) (λ v h. plain_flat h.0 v.name h.1) vars p

    with_first : (vars : List Variable) → (v : Variable) → is_plain v.name ≡ true → slice_index_or vars 0 v ≡ v → All (λ v. IsVariableName v.name) (drop 1 vars) → All (λ v. is_plain v.name ≡ true) vars
    with_first [] v n e p = All-nil (λ v. is_plain v.name ≡ true)
    with_first (x ∷ vars) v n e p = All-cons (λ v. is_plain v.name ≡ true) x vars (ap (λ (y : Variable). is_plain y.name) e ∙ n) (behind vars p)

    chosen : (b : Bool) → m.selector ≡ b → All (λ v. is_plain v.name ≡ true) m.vars
    chosen true e =
        let h = flat.with_selector e in
        with_first m.vars h.0 (ap is_plain h.3) h.1 (subst (λ s. All (λ v. IsVariableName v.name) (plain_variables (record { symbols = m.symbols; vars = m.vars; selector = s; processes = m.processes; assigns = m.assigns; inits = m.inits; invars = m.invars; trans = m.trans; constraints = m.constraints; specs = m.specs }))) e flat.variables)
    chosen false e =
        behind m.vars (subst (λ s. All (λ v. IsVariableName v.name) (plain_variables (record { symbols = m.symbols; vars = m.vars; selector = s; processes = m.processes; assigns = m.assigns; inits = m.inits; invars = m.invars; trans = m.trans; constraints = m.constraints; specs = m.specs }))) e flat.variables)
