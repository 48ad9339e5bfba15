-- The tables of expressions.
use Rattle.std.proofs.Common.{◌≡◌, ◌≢◌, ℕ, zero, suc, ◌+◌, ◌<◌, ◌≤◌, Bool, true, false, ◌&&◌, ◌||◌, List, [], ◌∷◌, ◌++◌, length, get_or, take, drop, Result, Ok, Err, IfOk, refl, sym, subst, ap, ◌∙◌, arith}
use Rattle.bdd_nodes.specs.declared.store.Store.{Store}
use Rattle.bdd_nodes.specs.Store.{Has, value_of, Grows}
use Rattle.kripke_model.specs.declared.expressions.Value.{Value}
use Rattle.kripke_model.specs.declared.expressions.BinOp.{BinOp}
use Rattle.kripke_model.specs.declared.expressions.Expr.{Expr}
use Rattle.kripke_model.specs.declared.expressions.Arm.{Arm}
use Rattle.bit_encode.specs.Code.{Coding}
use Rattle.kripke_model.specs.Term.{Term, Terms}
use Rattle.std.proofs.lemmas.Bool.{false≢true}
use Rattle.kripke_model.specs.Size.{term_nodes, element_nodes, arm_nodes}
use Rattle.kripke_model.specs.System.{System}
use Rattle.kripke_model.specs.Reading.{term_of, terms_in, arms_in}
use Rattle.kripke_model.specs.Evaluation.{Checked, ◌>>=◌, binary, distinct, truth, truth_value}
use Rattle.kripke_model.specs.Evaluable.{IsEvaluable, AreEvaluable, AreEvaluableArms}
use Rattle.value_tables.specs.declared.cells.Cell.{Cell}
use Rattle.value_tables.specs.declared.operands.Table.{Table}
use Rattle.value_tables.specs.CellLists.{CellItems}
use Rattle.value_tables.specs.Operators.{IsTableOf}
use Rattle.value_tables.specs.Cells.{Reads, AreCells, same_reading, any_of, shows}
use Rattle.std.proofs.lemmas.List.{take-append-drop}
use Rattle.std.proofs.lemmas.List.Elements.{All-nil}
use Rattle.bdd_nodes.proofs.Tables.{value_of-true}
use Rattle.value_tables.specs.States.{meaning_of, elements_meaning, state_shown}
use Rattle.value_tables.specs.Tables.{IsTable, IsSetTable, IsOperand, IsProper, IsSingle, all_values, negation}
use Rattle.value_tables.proofs.EvalLemmas.{single_negation, elements_joined, values_last}
use Rattle.value_tables.proofs.RegionLemmas.{AreCells-grows}
use Rattle.value_tables.proofs.BinaryLemmas.{reads_grows, reads_as, any_of-distinct}
use Rattle.value_tables.proofs.ReadingCounts.{term_nodes-some}

-- ---- the parts of lists

nodes_joined : (xs ys : List Expr) → element_nodes (terms_in (xs ++ ys)) ≡ element_nodes (terms_in xs) + element_nodes (terms_in ys)
nodes_joined [] ys = omega arith
nodes_joined (e ∷ xs) ys = omega (arith, nodes_joined xs ys)

pub nodes-some : (es : List Expr) → 0 < length es → 1 ≤ element_nodes (terms_in es)
nodes-some [] h = absurd (omega arith)
nodes-some (e ∷ es) h = omega (arith, term_nodes-some (term_of e))

pub arm_nodes_at : (arms : List Arm) (i : ℕ) (d : Arm) → i < length arms → term_nodes (term_of (get_or arms i d).guard) + term_nodes (term_of (get_or arms i d).right) ≤ arm_nodes (arms_in arms)
arm_nodes_at [] i d h = absurd (omega arith)
arm_nodes_at (a ∷ arms) zero d h = omega arith
arm_nodes_at (a ∷ arms) (suc i) d h = omega (arith, arm_nodes_at arms i d (omega arith))

evaluable_parts : (m : System) (xs ys : List Expr) → AreEvaluable m (terms_in (xs ++ ys)) → AreEvaluable m (terms_in xs) × AreEvaluable m (terms_in ys)
evaluable_parts m [] ys h = (tt, h)
evaluable_parts m (e ∷ xs) ys h = let rest = evaluable_parts m xs ys h.1 in ((h.0, rest.0), rest.1)

pub arm_evaluable_at : (m : System) (arms : List Arm) (i : ℕ) (d : Arm) → i < length arms → AreEvaluableArms m (arms_in arms) → IsEvaluable m (term_of (get_or arms i d).guard) × IsEvaluable m (term_of (get_or arms i d).right)
arm_evaluable_at m [] i d h k = absurd (omega arith)
arm_evaluable_at m (a ∷ arms) zero d h k = (k.0, k.1)
arm_evaluable_at m (a ∷ arms) (suc i) d h k = arm_evaluable_at m arms i d (omega arith) k.2

pub elements_some : (m : System) (es : List Expr) → IsEvaluable m (Term.Braces (terms_in es)) → 0 < length es
elements_some m [] h = absurd h
elements_some m (e ∷ es) h = omega arith

pub elements_evaluable : (m : System) (es : List Expr) → IsEvaluable m (Term.Braces (terms_in es)) → AreEvaluable m (terms_in es)
elements_evaluable m [] h = absurd h
elements_evaluable m (e ∷ es) h = h

-- the first elements and those behind them
module _ (es xs ys : List Expr) (n : ℕ) (first : xs ≡ take n es) (behind : ys ≡ drop n es) where
  parts : es ≡ xs ++ ys
  parts = sym (take-append-drop n es) ∙ (λ i. sym first i ++ sym behind i)

  pub halves_nodes : element_nodes (terms_in es) ≡ element_nodes (terms_in xs) + element_nodes (terms_in ys)
  halves_nodes = ap (λ (zs : List Expr). element_nodes (terms_in zs)) parts ∙ nodes_joined xs ys

  pub halves_evaluable : (m : System) → AreEvaluable m (terms_in es) → AreEvaluable m (terms_in xs) × AreEvaluable m (terms_in ys)
  halves_evaluable m h = evaluable_parts m xs ys (subst (λ (zs : List Expr). AreEvaluable m (terms_in zs)) parts h)

  pub halves_values : (c : Coding) (m : System) (next : Bool) (bits : List Bool) → elements_meaning c m next (terms_in es) bits ≡ all_values (elements_meaning c m next (terms_in xs) bits) (elements_meaning c m next (terms_in ys) bits)
  halves_values c m next bits = ap (λ (zs : List Expr). elements_meaning c m next (terms_in zs) bits) parts ∙ elements_joined m (state_shown c next bits) (state_shown c true bits) xs ys

-- the only element
pub only_element : (es : List Expr) (e : Expr) → length es ≡ 1 → e ≡ get_or es 0 e → es ≡ e ∷ []
only_element [] e one is = absurd (omega (arith, one))
only_element (x ∷ []) e one is = ap (λ (y : Expr). y ∷ []) (sym is)
only_element (x ∷ y ∷ es) e one is = absurd (omega (arith, one))

pub only_nodes : (es : List Expr) (e : Expr) → es ≡ e ∷ [] → element_nodes (terms_in es) ≡ term_nodes (term_of e)
only_nodes es e is = omega (arith, ap (λ (xs : List Expr). element_nodes (terms_in xs)) is)

pub only_evaluable : (m : System) (es : List Expr) (e : Expr) → es ≡ e ∷ [] → IsEvaluable m (Term.Braces (terms_in es)) → IsEvaluable m (term_of e)
only_evaluable m es e is h =
    let good : IsEvaluable m (term_of e) × AreEvaluable m (terms_in []) = subst (λ (xs : List Expr). IsEvaluable m (Term.Braces (terms_in xs))) is h in
    good.0

-- ---- tables

pub IsSetTable-grows : (s z : Store) → Grows s z → (cells : List Cell) (f : List Bool → Checked (List Value)) → IsSetTable s cells f → IsSetTable z cells f
IsSetTable-grows s z g cells f h = record {
  regions = AreCells-grows s z g cells h.regions;
  reads = λ bits. reads_grows s z g cells h.regions.has bits (f bits) (h.reads bits);
}

pub IsTable-grows : (s z : Store) → Grows s z → (cells : List Cell) (single : Bool) (f : List Bool → Checked (List Value)) → IsTable s cells single f → IsTable z cells single f
IsTable-grows s z g cells single f h =
    let grown = IsSetTable-grows s z g cells f record { regions = h.regions; reads = h.reads } in
    record { regions = grown.regions; reads = grown.reads; at_most_one = h.at_most_one }

pub operand : (s : Store) (cells : List Cell) (single : Bool) (f : List Bool → Checked (List Value)) → IsTable s cells single f → ((bits : List Bool) → IsProper (f bits)) → (bits : List Bool) → IsOperand (λ r. value_of s r bits) cells single (f bits)
operand s cells single f h proper bits = record { reads = h.reads bits; proper = proper bits; few = λ e. h.at_most_one e bits }

-- the table of a negation
pub not_table : {E : Type 0} (s z : Store) (cells : List Cell) (single : Bool) (f : List Bool → Checked (List Value)) → IsTable s cells single f → ((bits : List Bool) → IsProper (f bits)) → (r : Result Table E)
    → IfOk r (λ t. AreCells z t.cells.items)
    → IfOk r (λ t. (bits : List Bool) (c : Checked (List Value)) → Reads (λ q. value_of s q bits) cells c → IsProper c → (single ≡ true → IsSingle c) → Reads (λ q. value_of z q bits) t.cells.items (negation c))
    → IfOk r (λ t. IsTable z t.cells.items t.single (λ bits. negation (f bits)))
not_table s z cells single f h proper (Err e) a b = tt
not_table s z cells single f h proper (Ok t) a b = record {
  regions = a;
  reads = λ bits. b bits (f bits) (h.reads bits) (proper bits) (λ e. h.at_most_one e bits);
  at_most_one = λ e bits. single_negation (f bits);
}

-- the table of an operator
pub binary_table : {E : Type 0} (s z : Store) (op : BinOp) (left right : Table) (f g : List Bool → Checked (List Value)) → IsTable s left.cells.items left.single f → IsTable s right.cells.items right.single g → ((bits : List Bool) → IsProper (f bits)) → ((bits : List Bool) → IsProper (g bits)) → (result : Result Table E)
    → IfOk result (IsTableOf op left right s z)
    → IfOk result (λ t. IsTable z t.cells.items t.single (λ bits. binary op (f bits) (g bits)))
binary_table s z op left right f g h k ph pk (Err e) is = tt
binary_table s z op left right f g h k ph pk (Ok t) is = record {
  regions = is.cells;
  reads = λ bits. is.reads bits (f bits) (g bits) (operand s left.cells.items left.single f h ph bits) (operand s right.cells.items right.single g k pk bits);
  at_most_one = λ e bits. is.single e (f bits) (g bits);
}

-- the table of another function of the same values
pub table_as : {E : Type 0} (z : Store) (f g : List Bool → Checked (List Value)) → f ≡ g → (r : Result Table E) → IfOk r (λ t. IsTable z t.cells.items t.single f) → IfOk r (λ t. IsTable z t.cells.items t.single g)
table_as z f g e r h = subst (λ x. IfOk r (λ t. IsTable z t.cells.items t.single x)) e h

pub term_table : {E : Type 0} (z : Store) (c : Coding) (m : System) (next : Bool) (t u : Term) → t ≡ u → (r : Result Table E) → IfOk r (λ x. IsTable z x.cells.items x.single (meaning_of c m next t)) → IfOk r (λ x. IsTable z x.cells.items x.single (meaning_of c m next u))
term_table z c m next t u e r h = subst (λ v. IfOk r (λ x. IsTable z x.cells.items x.single (meaning_of c m next v))) e h

distinct_same : (k : Checked Value) (d : Checked (List Value)) → any_of (same_reading k) d ≡ any_of (same_reading k) (d >>= λ vs. Ok (distinct vs))
distinct_same k (Ok vs) = sym (any_of-distinct (same_reading k) vs)
distinct_same k (Err kind) = refl

-- the table of a set, whose values stand once
pub braces_table : (z : Store) (c : Coding) (m : System) (next : Bool) (es : Terms) (u : Term) → Term.Braces es ≡ u → (cells : List Cell) → IsSetTable z cells (elements_meaning c m next es) → IsTable z cells false (meaning_of c m next u)
braces_table z c m next es u e cells h = subst (λ v. IsTable z cells false (meaning_of c m next v)) e table
  where
    table : IsTable z cells false (meaning_of c m next (Term.Braces es))
    table = record {
      regions = h.regions;
      reads = λ bits. record { each = λ k. (h.reads bits).each k ∙ distinct_same k (elements_meaning c m next es bits) };
      at_most_one = λ q bits. absurd (false≢true q);
    }

-- the table of a set of one element
pub element_table : (z : Store) (c : Coding) (m : System) (next : Bool) (es : List Expr) (e : Expr) → es ≡ e ∷ [] → (cells : List Cell) (single : Bool) → IsTable z cells single (meaning_of c m next (term_of e)) → IsSetTable z cells (elements_meaning c m next (terms_in es))
element_table z c m next es e is cells single h = subst (λ (xs : List Expr). IsSetTable z cells (elements_meaning c m next (terms_in xs))) (sym is) record {
  regions = h.regions;
  reads = λ bits. reads_as _ cells (meaning_of c m next (term_of e) bits) _ (sym (values_last (meaning_of c m next (term_of e) bits))) (h.reads bits);
}

single_distinct : (c : Checked (List Value)) → IsSingle c → IsSingle (c >>= λ vs. Ok (distinct vs))
single_distinct (Ok []) h = omega arith
single_distinct (Ok (v ∷ [])) h = omega arith
single_distinct (Ok (v ∷ w ∷ vs)) h = absurd (omega (arith, h))
single_distinct (Err kind) h = tt

-- the table of braces round one expression, which have at most one value where the expression has
pub only_table : {E : Type 0} (z : Store) (c : Coding) (m : System) (next : Bool) (es : List Expr) (e : Expr) (u : Term) → es ≡ e ∷ [] → Term.Braces (terms_in es) ≡ u → (r : Result Table E)
    → IfOk r (λ t. IsTable z t.cells.items t.single (meaning_of c m next (term_of e)))
    → IfOk r (λ t. IsTable z t.cells.items t.single (meaning_of c m next u))
only_table z c m next es e u one is (Err k) h = tt
only_table z c m next es e u one is (Ok t) h =
    let braces = braces_table z c m next (terms_in es) u is t.cells.items (element_table z c m next es e one t.cells.items t.single h) in
    record { regions = braces.regions; reads = braces.reads; at_most_one = λ q bits. subst (λ v. IsSingle (meaning_of c m next v bits)) is (few bits (h.at_most_one q bits)) }
  where
    few : (bits : List Bool) → IsSingle (meaning_of c m next (term_of e) bits) → IsSingle (meaning_of c m next (Term.Braces (terms_in es)) bits)
    few bits k =
        subst (λ (xs : List Expr). IsSingle (meaning_of c m next (Term.Braces (terms_in xs)) bits)) (sym one)
        (single_distinct _ (subst IsSingle (sym (values_last (meaning_of c m next (term_of e) bits))) k))

-- the table of the values of two sets
pub united_table : {E : Type 0} (s z : Store) (left right : List Cell) (f g h : List Bool → Checked (List Value)) → IsSetTable s left f → IsSetTable s right g → ((bits : List Bool) → h bits ≡ all_values (f bits) (g bits)) → (r : Result CellItems E)
    → IfOk r (λ out. AreCells z out.items)
    → IfOk r (λ out. (bits : List Bool) (c d : Checked (List Value)) → Reads (λ q. value_of s q bits) left c → Reads (λ q. value_of s q bits) right d → Reads (λ q. value_of z q bits) out.items (all_values c d))
    → IfOk r (λ out. IsSetTable z out.items h)
united_table s z left right f g h x y is (Err e) a b = tt
united_table s z left right f g h x y is (Ok out) a b = record {
  regions = a;
  reads = λ bits. reads_as _ out.items (all_values (f bits) (g bits)) (h bits) (sym (is bits)) (b bits (f bits) (g bits) (x.reads bits) (y.reads bits));
}

-- ---- the starts and ends of loops

pub no_cells : (s : Store) (cells : List Cell) → cells ≡ [] → AreCells s cells
no_cells s cells e = subst (AreCells s) (sym e) record { has = All-nil (λ (c : Cell). Has s c.region); some = All-nil (λ (c : Cell). c.region ≢ 0); once = tt }

pub no_arms : (s : Store) (cells : List Cell) (bits : List Bool) (k : Checked Value) (x : Bool) → cells ≡ [] → x ≡ (shows (λ r. value_of s r bits) cells k || (value_of s 1 bits && x))
no_arms s cells bits k x e = λ i. shows (λ r. value_of s r bits) (sym e i) k || (sym (value_of-true s.nodes.keys bits) i && x)

pub last_arm : (k : Checked Value) (v : Value) → v ≡ truth_value true → (old left now whole : Bool) (d : Checked (List Value)) → d ≡ Ok (truth true) → whole ≡ (old || (left && any_of (same_reading k) d)) → now ≡ (old || (same_reading k (Ok v) && left)) → now ≡ whole
last_arm k v is old left now whole d e w n = n ∙ (λ i. old || (same_reading k (Ok (is i)) && left)) ∙ ap (λ b. old || b) (swap (same_reading k (Ok (truth_value true))) left) ∙ sym (w ∙ (λ i. old || (left && any_of (same_reading k) (e i))))
  where
    swap : (a l : Bool) → (a && l) ≡ (l && (a || false))
    swap true true = refl
    swap true false = refl
    swap false true = refl
    swap false false = refl
