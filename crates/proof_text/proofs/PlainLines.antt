-- The lines of a proof file have plain words, where the model's names are plain.
use Rattle.std.proofs.Common.{◌≡◌, ℕ, zero, suc, ◌+◌, ◌<◌, Bool, true, false, cond, ◌&&◌, ◌==◌, List, [], ◌∷◌, ◌++◌, length, map, flat_map, Option, Some, None, ℤ, pos, negsuc, codes, decimal, refl, ap, arith, length-append}
use Rattle.std.specs.Prelude.{All}
use Rattle.std.specs.Fmt.{signed_decimal}
use Rattle.std.specs.List.{list_any, slice_index_or}
use Rattle.std.proofs.lemmas.Bool.{and_from}
use Rattle.std.proofs.lemmas.List.Elements.{All-nil, All-cons, All-head, All-tail, All-append}
use Rattle.bdd_nodes.specs.declared.triple.Triple.{Triple}
use Rattle.kripke_model.specs.declared.expressions.Value.{Value}
use Rattle.kripke_model.specs.declared.expressions.Value.TheVariants.{Number, Symbol}
use Rattle.kripke_model.specs.Shown.{process_name, value_text}
use Rattle.kripke_model.specs.System.{System, State, Variable, variable_name}
use Rattle.kripke_model.specs.Term.{has_path_operator}
use Rattle.proof_form.specs.Form.{Layer, FairPart, Rule, EX, AX, AR, EU, AU, ER, Entry, FreeEntry, FreePart, Proof}
use Rattle.proof_text.specs.File.{Block, File}
use Rattle.proof_text.specs.Lines.{Line, Words, Node, counted, set_line, layer_line, reach_lines, fair_lines, sign_word, rule_lines, entry_lines, free_entry_lines, nonfair_lines, free_lines, claim_word, value_words, end_lines, node_lines, proof_lines, block_lines, version_word, header_lines, file_lines}
use Rattle.proof_text.proofs.PlainWords.{is_plain, are_plain, plain_decimal, plain_signed, words_append, IsPlainLine}

abbrev pub ArePlain : List Line → Type 0
ArePlain ls = All IsPlainLine ls

pub number : (n : ℕ) → are_plain (decimal n ∷ []) ≡ true
number n = and_from (is_plain (decimal n)) true (plain_decimal n) refl

pub number_and : (n : ℕ) (ws : List (List ℕ)) → are_plain ws ≡ true → are_plain (decimal n ∷ ws) ≡ true
number_and n ws p = and_from (is_plain (decimal n)) (are_plain ws) (plain_decimal n) p

pub one : (l : Line) → IsPlainLine l → ArePlain (l ∷ [])
one l p = All-cons IsPlainLine l [] p (All-nil IsPlainLine)

pub more : (l : Line) (ls : List Line) → IsPlainLine l → ArePlain ls → ArePlain (l ∷ ls)
more l ls p q = All-cons IsPlainLine l ls p q

pub joined : (xs ys : List Line) → ArePlain xs → ArePlain ys → ArePlain (xs ++ ys)
joined xs ys p q = All-append IsPlainLine xs ys p q

each : {A : Type 0} (lines : A → List Line) → ((a : A) → ArePlain (lines a)) → (xs : List A) → ArePlain (flat_map lines xs)
each lines p [] = All-nil IsPlainLine
each lines p (x ∷ xs) = joined (lines x) (flat_map lines xs) (p x) (each lines p xs)

pub mapped : {A : Type 0} (line : A → Line) → ((a : A) → IsPlainLine (line a)) → (xs : List A) → ArePlain (map line xs)
mapped line p [] = All-nil IsPlainLine
mapped line p (x ∷ xs) = more (line x) (map line xs) (p x) (mapped line p xs)

pub set_plain : (s : ℕ) → IsPlainLine (set_line s)
set_plain s = (number s, λ e. omega (arith, ap length e))

pub layer_plain : (l : Layer ℕ) → IsPlainLine (layer_line l)
layer_plain l = (number_and l.avoid (decimal l.set ∷ []) (number l.set), λ e. omega (arith, ap length e))

pub reach_plain : (k : ℕ) (lists : List (List ℕ)) → ArePlain (reach_lines k lists)
reach_plain k [] = All-nil IsPlainLine
reach_plain k (sets ∷ lists) =
    more (Words (codes "reach" ∷ decimal k ∷ decimal (length sets) ∷ [])) (map set_line sets ++ reach_lines (k + 1) lists)
    (number_and k (decimal (length sets) ∷ []) (number (length sets)), λ e. omega (arith, ap length e))
    (joined (map set_line sets) (reach_lines (k + 1) lists) (mapped set_line set_plain sets) (reach_plain (k + 1) lists))

pub fair_plain : (p : FairPart ℕ) → ArePlain (fair_lines p)
fair_plain p = more (Words (codes "fair" ∷ decimal p.inside ∷ [])) (reach_lines 1 p.reach) (number p.inside, λ e. omega (arith, ap length e)) (reach_plain 1 p.reach)

pub nonfair_plain : (layers : List (Layer ℕ)) → ArePlain (nonfair_lines layers)
nonfair_plain layers =
    more (counted (codes "nonfair") (length layers)) (map layer_line layers) (number (length layers), λ e. omega (arith, ap length e)) (mapped layer_line layer_plain layers)

pub front_plain : (front ws : List (List ℕ)) → are_plain front ≡ true → are_plain ws ≡ true → 0 < length ws → IsPlainLine (Words (front ++ ws))
front_plain front ws p q some = (words_append front ws p q, λ e. omega (arith, some, ap length e, length-append front ws))

pub rule_plain : (front : List (List ℕ)) → are_plain front ≡ true → (r : Rule ℕ) → ArePlain (rule_lines front r)
rule_plain front p (EX set) = more (Words (front ++ codes "EX" ∷ [])) (set_line set ∷ []) (front_plain front (codes "EX" ∷ []) p refl (omega arith)) (one (set_line set) (set_plain set))
rule_plain front p (AX set) = more (Words (front ++ codes "AX" ∷ [])) (set_line set ∷ []) (front_plain front (codes "AX" ∷ []) p refl (omega arith)) (one (set_line set) (set_plain set))
rule_plain front p (AR set) = more (Words (front ++ codes "AR" ∷ [])) (set_line set ∷ []) (front_plain front (codes "AR" ∷ []) p refl (omega arith)) (one (set_line set) (set_plain set))
rule_plain front p (EU sets) =
    more (Words (front ++ codes "EU" ∷ decimal (length sets) ∷ [])) (map set_line sets) (front_plain front (codes "EU" ∷ decimal (length sets) ∷ []) p (number (length sets)) (omega arith))
    (mapped set_line set_plain sets)
rule_plain front p (AU layers) =
    more (Words (front ++ codes "AU" ∷ decimal (length layers) ∷ [])) (map layer_line layers) (front_plain front (codes "AU" ∷ decimal (length layers) ∷ []) p (number (length layers)) (omega arith))
    (mapped layer_line layer_plain layers)
rule_plain front p (ER fair untils) =
    more (Words (front ++ codes "ER" ∷ [])) (fair_lines fair ++ (counted (codes "until") (length untils) ∷ map set_line untils)) (front_plain front (codes "ER" ∷ []) p refl (omega arith))
    (joined (fair_lines fair) (counted (codes "until") (length untils) ∷ map set_line untils) (fair_plain fair)
    (more (counted (codes "until") (length untils)) (map set_line untils) (number (length untils), λ e. omega (arith, ap length e)) (mapped set_line set_plain untils)))

pub sign_plain : (b : Bool) → are_plain (sign_word b ∷ []) ≡ true
sign_plain true = refl
sign_plain false = refl

pub entry_plain : (e : Entry ℕ) → ArePlain (entry_lines e)
entry_plain e = rule_plain (codes "entry" ∷ decimal e.node ∷ sign_word e.plus ∷ []) (number_and e.node (sign_word e.plus ∷ []) (sign_plain e.plus)) e.rule

pub free_entry_plain : (e : FreeEntry ℕ) → ArePlain (free_entry_lines e)
free_entry_plain e =
    rule_plain (codes "centry" ∷ decimal e.constraint ∷ decimal e.entry.node ∷ sign_word e.entry.plus ∷ [])
    (number_and e.constraint (decimal e.entry.node ∷ sign_word e.entry.plus ∷ []) (number_and e.entry.node (sign_word e.entry.plus ∷ []) (sign_plain e.entry.plus))) e.entry.rule

free_plain : (free : Option (FreePart ℕ)) → ArePlain (free_lines free)
free_plain None = All-nil IsPlainLine
free_plain (Some part) =
    more (Words (codes "free" ∷ [])) (nonfair_lines part.nonfair ++ (fair_lines part.fair ++ flat_map free_entry_lines part.entries)) (refl, λ e. omega (arith, ap length e))
    (joined (nonfair_lines part.nonfair) (fair_lines part.fair ++ flat_map free_entry_lines part.entries) (nonfair_plain part.nonfair)
    (joined (fair_lines part.fair) (flat_map free_entry_lines part.entries) (fair_plain part.fair) (each free_entry_lines free_entry_plain part.entries)))

node_plain : (earlier nodes : List Triple) → ArePlain (node_lines earlier nodes)
node_plain earlier [] = All-nil IsPlainLine
node_plain earlier (t ∷ nodes) =
    more (Node earlier t) (node_lines (earlier ++ t ∷ []) nodes)
    (number_and t.level (decimal t.low ∷ decimal t.high ∷ []) (number_and t.low (decimal t.high ∷ []) (number t.high)), λ e. omega (arith, ap length e))
    (node_plain (earlier ++ t ∷ []) nodes)

pub claim_plain : (b : Bool) → are_plain (claim_word b ∷ []) ≡ true
claim_plain true = refl
claim_plain false = refl

-- names that are looked up
picked : (names : List (List ℕ)) → All (λ w. is_plain w ≡ true) names → (k : ℕ) → is_plain (slice_index_or names k []) ≡ true
picked [] p k = refl
picked (w ∷ names) p zero = All-head (λ w. is_plain w ≡ true) w names p
picked (w ∷ names) p (suc k) = picked names (All-tail (λ w. is_plain w ≡ true) w names p) k

picked_name : (vars : List Variable) → All (λ v. is_plain v.name ≡ true) vars → (k : ℕ) → is_plain (slice_index_or vars k (record { name = []; values = []; line = 0 })).name ≡ true
picked_name [] p k = refl
picked_name (v ∷ vars) p zero = All-head (λ v. is_plain v.name ≡ true) v vars p
picked_name (v ∷ vars) p (suc k) = picked_name vars (All-tail (λ v. is_plain v.name ≡ true) v vars p) k

pub record NamesArePlain (m : System) : Type 0 where
  pub symbols : All (λ w. is_plain w ≡ true) m.symbols
  pub processes : All (λ w. is_plain w ≡ true) m.processes
  pub variables : All (λ v. is_plain v.name ≡ true) m.vars

module _ (m : System) (names : NamesArePlain m) where
  process_plain : (i : ℤ) → is_plain (process_name m i) ≡ true
  process_plain (pos p) = picked m.processes names.processes p
  process_plain (negsuc p) = refl

  choose : (b : Bool) (v w : List ℕ) → is_plain v ≡ true → is_plain w ≡ true → is_plain (cond b v w) ≡ true
  choose true v w p q = p
  choose false v w p q = q

  value_plain : (x : ℕ) (v : Value) → is_plain (value_text m x v) ≡ true
  value_plain x (Symbol c) = picked m.symbols names.symbols c
  value_plain x (Number i) = choose (m.selector && (x == 0)) (process_name m i) (signed_decimal i) (process_plain i) (plain_signed i)

  values_plain : (x : ℕ) (s : State) → are_plain (value_words m x s) ≡ true
  values_plain x [] = refl
  values_plain x (v ∷ s) = and_from (is_plain (value_text m x v)) (are_plain (value_words m (x + 1) s)) (value_plain x v) (values_plain (x + 1) s)

  end_plain : (a : Option State) → ArePlain (end_lines m a)
  end_plain None = one (Words (codes "end" ∷ [])) (refl, λ e. omega (arith, ap length e))
  end_plain (Some s) =
      more (Words (codes "at" ∷ value_words m 0 s)) (Words (codes "end" ∷ []) ∷ []) (values_plain 0 s, λ e. omega (arith, ap length e))
      (one (Words (codes "end" ∷ [])) (refl, λ e. omega (arith, ap length e)))

  proof_plain : (p : Proof ℕ) → ArePlain (proof_lines m p)
  proof_plain p =
      let ends : List Line = end_lines m p.at in
      let entries : List Line = flat_map entry_lines p.entries in
      joined (free_lines p.free) (nonfair_lines p.nonfair ++ (fair_lines p.fair ++ (entries ++ ends))) (free_plain p.free)
      (joined (nonfair_lines p.nonfair) (fair_lines p.fair ++ (entries ++ ends)) (nonfair_plain p.nonfair)
      (joined (fair_lines p.fair) (entries ++ ends) (fair_plain p.fair) (joined entries ends (each entry_lines entry_plain p.entries) (end_plain p.at))))

  block_plain : (b : Block) → ArePlain (block_lines m b)
  block_plain b =
      more (Words (codes "spec" ∷ decimal b.spec ∷ claim_word b.proof.claim ∷ [])) (counted (codes "nodes") (length b.nodes) ∷ node_lines [] b.nodes ++ proof_lines m b.proof)
      (number_and b.spec (claim_word b.proof.claim ∷ []) (claim_plain b.proof.claim), λ e. omega (arith, ap length e))
      (more (counted (codes "nodes") (length b.nodes)) (node_lines [] b.nodes ++ proof_lines m b.proof) (number (length b.nodes), λ e. omega (arith, ap length e))
      (joined (node_lines [] b.nodes) (proof_lines m b.proof) (node_plain [] b.nodes) (proof_plain b.proof)))

  version_plain : are_plain (version_word m ∷ []) ≡ true
  version_plain = and_from (is_plain (version_word m)) true (choose (list_any (λ c. has_path_operator c.expr) m.constraints) (codes "2") (codes "1") refl refl) refl

  order_plain : (order : List ℕ) → are_plain (map (variable_name m) order) ≡ true
  order_plain [] = refl
  order_plain (x ∷ order) = and_from (is_plain (variable_name m x)) (are_plain (map (variable_name m) order)) (picked_name m.vars names.variables x) (order_plain order)

  pub file_plain : (file : File) → ArePlain (file_lines m file)
  file_plain file =
      joined (header_lines m file.order) (flat_map (block_lines m) file.blocks)
      (more (Words (codes "smvproof" ∷ version_word m ∷ [])) (Words (codes "order" ∷ map (variable_name m) file.order) ∷ []) (version_plain, λ e. omega (arith, ap length e))
      (one (Words (codes "order" ∷ map (variable_name m) file.order)) (order_plain file.order, λ e. omega (arith, ap length e))))
      (each (block_lines m) block_plain file.blocks)
