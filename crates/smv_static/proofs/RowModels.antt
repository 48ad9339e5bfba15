-- The models of the tests are ones that a program can have.
use Rattle.std.proofs.Common.{◌≡◌, ℕ, zero, suc, ◌<◌, ◌≤◌, List, [], ◌∷◌, length, map, refl, ap, arith, lit<, lit≤}
use Rattle.std.specs.Prelude.{All, pos}
use Rattle.std.specs.List.{slice_index_or}
use Rattle.std.proofs.lemmas.List.Elements.{All-nil, All-from_recursion}
use Rattle.kripke_model.specs.declared.expressions.Value.{Value}
use Rattle.kripke_model.specs.declared.expressions.Value.TheVariants.{Number}
use Rattle.kripke_model.specs.Evaluable.{IsKnown}
use Rattle.kripke_model.specs.Names.{IsAtom, IsVariableName, IsProcessName}
use Rattle.kripke_model.specs.Size.{nesting}
use Rattle.kripke_model.specs.System.{System, Variable, Assignment, Condition}
use Rattle.kripke_model.specs.Term.{Term}
use Rattle.kripke_model.specs.Flat.{IsFlat, IsSound, IsWellTyped, HasNumbers, AreDistinct, expressions, node_total, main_name}
use Rattle.smv_static.specs.Rows.{boolean, variables, two_processes, beside_row, circular_row, apart_row}

bits_differ : AreDistinct (Number (pos 0) ∷ Number (pos 1) ∷ [])
bits_differ zero (suc zero) d less below = λ e. cc
bits_differ i j d less below = absurd (omega arith)

-- the first number of a list
first : List ℕ → ℕ
first [] = 0
first (x ∷ xs) = x

names_differ : AreDistinct (map (λ (v : Variable). v.name) variables)
unfolding first
names_differ zero (suc zero) d less below = λ e. let l : ◌≡◌ {A = ℕ} 7 1 = ap (λ (x : List ℕ). length x) e in omega arith
names_differ zero (suc (suc zero)) d less below = λ e. let l : ◌≡◌ {A = ℕ} 7 1 = ap (λ (x : List ℕ). length x) e in omega arith
names_differ (suc zero) (suc (suc zero)) d less below = λ e. let f : ◌≡◌ {A = ℕ} 97 98 = ap first e in omega arith
names_differ i j d less below = absurd (omega arith)

processes_differ : AreDistinct (main_name ∷ (112 ∷ []) ∷ [])
processes_differ zero (suc zero) d less below = λ e. let l : ◌≡◌ {A = ℕ} 4 1 = ap (λ (x : List ℕ). length x) e in omega arith
processes_differ i j d less below = absurd (omega arith)

module _ (assigns : List Assignment) (specs : List Condition) where
  abbrev m : System
  m = two_processes assigns specs

  typed : (name : List ℕ) → IsWellTyped (boolean name) m
  typed name = record { some_value = lit< tt; distinct = bits_differ; known = All-from_recursion (IsKnown m) (Number (pos 0) ∷ Number (pos 1) ∷ []) (tt, (tt, tt)) }

  numbered : (k : ℕ) (d : Value) → k < 2 → slice_index_or (Number (pos 0) ∷ Number (pos 1) ∷ []) k d ≡ Number (pos k)
  numbered zero d below = refl
  numbered (suc zero) d below = refl
  numbered (suc (suc k)) d below = absurd (omega arith)

  pub flat_row : length specs ≤ 256 → node_total m ≤ 200000 → All (λ e. nesting e ≤ 1024) (expressions m) → All (HasNumbers m) assigns → All (IsSound m) (expressions m) → IsFlat m
  flat_row few nodes shallow numbers sound = record {
    limits = record {
      variables = lit≤ tt;
      values = All-from_recursion (λ (v : Variable). length v.values ≤ 1024) variables (lit≤ tt, (lit≤ tt, (lit≤ tt, tt)));
      instances = lit≤ tt;
      constraints = lit≤ tt;
      specifications = few;
      nodes = nodes;
      depth = shallow;
    };
    symbols = All-nil IsAtom;
    distinct_symbols = λ i j d less below. absurd (omega arith);
    variables = All-from_recursion (λ (v : Variable). IsVariableName v.name) (boolean (97 ∷ []) ∷ boolean (98 ∷ []) ∷ [])
        (([], (97 ∷ [], [], refl, All-nil IsAtom, refl)), (([], (98 ∷ [], [], refl, All-nil IsAtom, refl)), tt));
    distinct_variables = names_differ;
    types = All-from_recursion (λ (v : Variable). IsWellTyped v m) variables (typed _, (typed _, (typed _, tt)));
    main_process = refl;
    processes = All-from_recursion IsProcessName ((112 ∷ []) ∷ []) ((112 ∷ [], [], refl, All-nil IsAtom, refl), tt);
    distinct_processes = processes_differ;
    one_process = λ e. cc;
    with_selector = λ e. (boolean (114 ∷ 117 ∷ 110 ∷ 110 ∷ 105 ∷ 110 ∷ 103 ∷ []), refl, lit< tt, refl, refl, numbered);
    numbers = numbers;
    expressions = sound;
  }

pub flat_beside : IsFlat beside_row
flat_beside =
    let N : Assignment → Type 0 = HasNumbers beside_row in
    flat_row beside_row.assigns beside_row.specs (lit≤ tt) (lit≤ tt)
    (All-from_recursion (λ (e : Term). nesting e ≤ 1024) (expressions beside_row) (lit≤ tt, (lit≤ tt, tt)))
    (All-from_recursion N beside_row.assigns (record { var = lit< tt; process = lit< tt }, (record { var = lit< tt; process = lit< tt }, tt)))
    (All-from_recursion (λ (e : Term). IsSound beside_row e) (expressions beside_row) (tt, (lit< tt, tt)))

pub flat_circular : IsFlat circular_row
flat_circular =
    let N : Assignment → Type 0 = HasNumbers circular_row in
    flat_row circular_row.assigns circular_row.specs (lit≤ tt) (lit≤ tt)
    (All-from_recursion (λ (e : Term). nesting e ≤ 1024) (expressions circular_row) (lit≤ tt, (lit≤ tt, tt)))
    (All-from_recursion N circular_row.assigns (record { var = lit< tt; process = lit< tt }, (record { var = lit< tt; process = lit< tt }, tt)))
    (All-from_recursion (λ (e : Term). IsSound circular_row e) (expressions circular_row) (lit< tt, (lit< tt, tt)))

pub flat_apart : IsFlat apart_row
flat_apart =
    let N : Assignment → Type 0 = HasNumbers apart_row in
    flat_row apart_row.assigns apart_row.specs (lit≤ tt) (lit≤ tt)
    (All-from_recursion (λ (e : Term). nesting e ≤ 1024) (expressions apart_row) (lit≤ tt, (lit≤ tt, (lit≤ tt, tt))))
    (All-from_recursion N apart_row.assigns (record { var = lit< tt; process = lit< tt }, (record { var = lit< tt; process = lit< tt }, tt)))
    (All-from_recursion (λ (e : Term). IsSound apart_row e) (expressions apart_row) (lit< tt, (lit< tt, ((lit< tt, lit< tt), tt))))
