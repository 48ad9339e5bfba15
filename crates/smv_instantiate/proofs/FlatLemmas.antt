-- A written program that is not refused has a flat model of the right form.
use Rattle.std.proofs.Common.{◌≡◌, refl, sym, ◌∙◌, ap, subst, ℕ, ◌<◌, ◌≤◌, arith, List, [], ◌∷◌, ◌++◌, length, take, drop, Bool, true, false}
use Rattle.std.specs.Prelude.{map, flat_map, All, pos}
use Rattle.std.specs.List.{slice_index_or, AllZip}
use Rattle.std.proofs.lemmas.Bool.{false≢true}
use Rattle.kripke_model.specs.declared.expressions.Value.TheVariants.{Number}
use Rattle.kripke_model.specs.Refusing.{Silent}
use Rattle.kripke_model.specs.Term.{Term}
use Rattle.kripke_model.specs.Names.{IsAtom, IsVariableName, IsProcessName}
use Rattle.kripke_model.specs.System.{System, Variable, Assignment, Condition}
use Rattle.smv_names.specs.Expands.{Expands}
use Rattle.kripke_model.specs.Flat.{IsSound, AreDistinct, expressions, IsWithinLimits, IsWellTyped, HasNumbers, HasSelector, plain_variables, IsFlat}
use Rattle.kripke_model.specs.Size.{nesting}
use Rattle.smv_instances.specs.Program.{Name, Kind, Assigned, Section, Program}
use Rattle.smv_instances.specs.Entries.{entries}
use Rattle.smv_instances.specs.Instances.{Scope, module_of, instances, all_entries, processes, process_name, has_selector, selector_variables, variables, variable_names, symbols, atoms_of, rising, place_of}
use Rattle.smv_instances.specs.Declarations.{refused_declarations, PlacedEntry, one_if}
use Rattle.smv_instantiate.specs.Written.{IsWrittenExpr, IsWrittenAssignment, IsWrittenSection, IsWritten}
use Rattle.smv_instantiate.specs.Flattens.{Item, Placed, section_items, all_items, is_assignment, is_of, assignments, items_of, IsAssignment, IsCondition, Flattens}
use Rattle.smv_instantiate.specs.Refuses.{Refuses, expression, item, count_of}
use Rattle.smv_instantiate.proofs.Members.{Each, In, each_map, all_from, all_of_each, each_append, all_in, in_map_back, in_flat_back, in_filter_back, distinct_pairs}
use Rattle.smv_instantiate.proofs.Silence.{silent_first, silent_second, EachAfter, silent_each, after_in, after_all}
use Rattle.smv_instantiate.proofs.BodyLemmas.{names_of}
use Rattle.smv_instantiate.proofs.TypeLemmas.{distinct_names_distinct, in_distinct_names_back, rising_at, length_rising, length_map}
use Rattle.smv_instantiate.proofs.TargetLemmas.{IsKept, entry_written, HasNames, sound, selected_below, process_below, module_written}
use Rattle.smv_instantiate.proofs.SizeLemmas.{matched, matched_length, node_limit, nesting_kept, counted, specs_kept, constraints_kept}
use Rattle.smv_instantiate.proofs.DeclaredLemmas.{drop_first, drop_none, atoms_written}
use Rattle.smv_instantiate.proofs.DeclaredLemmas as declared

-- ---- items

pub item_in_section : (s : Section) → IsWrittenSection s → (i : Item) → In i (section_items s) → IsWrittenExpr (expression i)
item_in_section (Section.Vars ds) w i j = elim j [ ]
item_in_section (Section.Defines ds) w i j = elim j [ ]
item_in_section (Section.Assigns items) w i j = let b = in_map_back Item.Assigns items j in
    let h : IsWrittenAssignment b.0 = all_in IsWrittenAssignment items w b.1 in
    subst (λ k. IsWrittenExpr (expression k)) (sym b.2) h.right
item_in_section (Section.States c) w i In.first = w
item_in_section (Section.States c) w i (In.later j) = elim j [ ]

selected_variables : (m : System) (c : Bool) → m.selector ≡ c → plain_variables m ≡ drop (one_if c) m.vars
selected_variables m c e = by m.selector c e
  where
    by : (b c : Bool) → b ≡ c → plain_variables (record m { selector = b }) ≡ drop (one_if c) m.vars
    by true true f = refl
    by false false f = refl
    by true false f = absurd (false≢true (sym f))
    by false true f = absurd (false≢true f)

-- ---- what silence gives

module _ (p : Program) (silent : Silent (Refuses p)) (written : IsWritten p) where
  fine : Silent (refused_declarations p)
  fine = silent_first silent

  kept : IsKept p
  kept = declared.kept p fine written

  abbrev body_variables : List Variable
  body_variables = declared.body_variables p fine written

  items_silent : EachAfter (λ b x. Silent (item p b x)) [] (all_items p)
  items_silent = silent_each (item p) [] (all_items p) (silent_second (silent_second silent))

  -- ---- items

  item_there : (x : Placed) → In x (all_items p) → In x.0 (instances p) × IsWrittenExpr (expression x.1)
  item_there x i =
      let b = in_flat_back (λ s. map (λ i. (s, i)) (flat_map section_items (module_of s).sections)) (instances p) i in
      let c = in_map_back (λ i. (b.0, i)) (flat_map section_items (module_of b.0).sections) b.2 in
      let d = in_flat_back section_items (module_of b.0).sections c.1 in
      let same : x.0 ≡ b.0 = ap (λ (y : Placed). y.0) c.2 in
      let item_same : x.1 ≡ c.0 = ap (λ (y : Placed). y.1) c.2 in (
        subst (λ s. In s (instances p)) (sym same) b.1,
        subst (λ y. IsWrittenExpr (expression y)) (sym item_same) (item_in_section d.0 (all_in IsWrittenSection (module_of b.0).sections (module_written p kept b.0 b.1).sections d.1) c.0 d.2),
      )

  module _ (m : System) (flat : Flattens p m) where
    assigned : (Q : Assignment → Type 0) → ((s : Scope) (a : Assigned) (b : Assignment) → In (s, Item.Assigns a) (all_items p) → IsAssignment p (s, Item.Assigns a) b → Q b) → Each Q m.assigns
    assigned Q f = matched (IsAssignment p) Q (assignments p) m.assigns flat.assigns (λ x b i h. by x b (in_filter_back (λ (j : Placed). is_assignment j.1) (all_items p) i).0 h)
      where
        by : (x : Placed) (b : Assignment) → In x (all_items p) → IsAssignment p x b → Q b
        by (s, Item.Assigns a) b i h = f s a b i h
        by (s, Item.States c) b i h = absurd h

    stated : (Q : Term → Type 0) (k : Kind) (cs : List Condition) → ((x : Placed) (t : Term) → In x (all_items p) → Expands p x.0 (expression x.1) t → Q t) → AllZip (IsCondition p) (items_of k p) cs → Each (λ c. Q c.expr) cs
    stated Q k cs f h = matched (IsCondition p) (λ c. Q c.expr) (items_of k p) cs h (λ x c i j. by x c (in_filter_back (λ (y : Placed). is_of k y.1) (all_items p) i).0 j)
      where
        by : (x : Placed) (c : Condition) → In x (all_items p) → IsCondition p x c → Q c.expr
        by (s, Item.Assigns a) c i j = absurd j
        by (s, Item.States b) c i j = f (s, Item.States b) c.expr i j.0

    each_expression : (Q : Term → Type 0) → ((x : Placed) (t : Term) → In x (all_items p) → Expands p x.0 (expression x.1) t → Q t) → All Q (expressions m)
    each_expression Q f = all_of_each Q (expressions m) (each_append Q (map (λ a. a.right) m.assigns) (map (λ c. c.expr) (m.inits ++ m.invars ++ m.trans ++ m.constraints ++ m.specs))
        (each_map Q (λ (a : Assignment). a.right) m.assigns (assigned (λ a. Q a.right) (λ s a b i h. f (s, Item.Assigns a) b.right i h.3)))
        (each_map Q (λ (c : Condition). c.expr) (m.inits ++ m.invars ++ m.trans ++ m.constraints ++ m.specs)
        (each_append (λ (c : Condition). Q c.expr) (m.inits ++ m.invars ++ m.trans ++ m.constraints) m.specs
        (each_append (λ (c : Condition). Q c.expr) (m.inits ++ m.invars ++ m.trans) m.constraints
        (each_append (λ (c : Condition). Q c.expr) (m.inits ++ m.invars) m.trans
        (each_append (λ (c : Condition). Q c.expr) m.inits m.invars (stated Q Kind.Init m.inits f flat.inits) (stated Q Kind.Invar m.invars f flat.invars))
        (stated Q Kind.Trans m.trans f flat.trans))
        (stated Q Kind.Fairness m.constraints f flat.constraints))
        (stated Q Kind.Spec m.specs f flat.specs))))

    has_names : HasNames p kept m
    has_names = record {
      vars = ap length flat.vars ∙ sym (length_map (λ (v : Variable). v.name) (variables p));
      processes = ap length flat.processes;
      symbols = ap length flat.symbols;
    }

    in_vars : (k : ℕ) → k < length (variable_names p) → k < length m.vars
    in_vars k h = subst (λ n. k < n) (sym (ap length flat.vars ∙ sym (length_map (λ (v : Variable). v.name) (variables p)))) h

    limits : IsWithinLimits m
    limits = record {
      variables = subst (λ vs. length vs ≤ 256) (sym flat.vars) (declared.variable_count p fine written);
      values = subst (All (λ v. length v.values ≤ 1024)) (sym flat.vars) (declared.each_variable p fine written (λ v. length v.values ≤ 1024) (λ v i. (declared.fine_selector p fine written v i m).0) (λ v i. (declared.fine_variable p fine written v i).few));
      instances = subst (λ ns. length ns ≤ 1024) (sym flat.processes) (declared.process_count p fine written);
      constraints =
          let few : count_of Kind.Fairness (all_items p) ≤ 64 = after_all (λ b x. Silent (item p b x)) (λ b. count_of Kind.Fairness b ≤ 64) (λ b x h k. constraints_kept p b x h k) [] (all_items p) items_silent (omega arith) in
          let same : length m.constraints ≡ length (items_of Kind.Fairness p) = matched_length (IsCondition p) (items_of Kind.Fairness p) m.constraints flat.constraints in
          omega (arith, few, same, counted Kind.Fairness (all_items p));
      specifications =
          let few : count_of Kind.Spec (all_items p) ≤ 256 = after_all (λ b x. Silent (item p b x)) (λ b. count_of Kind.Spec b ≤ 256) (λ b x h k. specs_kept p b x h k) [] (all_items p) items_silent (omega arith) in
          let same : length m.specs ≡ length (items_of Kind.Spec p) = matched_length (IsCondition p) (items_of Kind.Spec p) m.specs flat.specs in
          omega (arith, few, same, counted Kind.Spec (all_items p));
      nodes = node_limit p m items_silent flat;
      depth = each_expression (λ e. nesting e ≤ 1024) (λ x t i h. let r = after_in (λ b y. Silent (item p b y)) [] (all_items p) items_silent i in nesting_kept p r.0 x t r.1 h);
    }

    symbols_atoms : All IsAtom (symbols p)
    symbols_atoms = all_from IsAtom (symbols p) (λ x i. by x (in_distinct_names_back x (flat_map (λ (e : PlacedEntry). atoms_of e.1.entity) (all_entries p)) i))
      where
        by : (x : Name) → In x (flat_map (λ (e : PlacedEntry). atoms_of e.1.entity) (all_entries p)) → IsAtom x
        by x i =
            let b = in_flat_back (λ (e : PlacedEntry). atoms_of e.1.entity) (all_entries p) i in
            let c = in_flat_back (λ s. map (λ e. (s, e)) (entries (module_of s))) (instances p) b.1 in
            let d = in_map_back (λ e. (c.0, e)) (entries (module_of c.0)) c.2 in
            let same : b.0.1 ≡ d.0 = ap (λ (y : PlacedEntry). y.1) d.2 in
            atoms_written d.0.entity x (entry_written p kept c.0 c.1 d.0 d.1).entity (subst (λ e. In x (atoms_of e.entity)) same b.2)

    well_typed : All (λ v. IsWellTyped v m) m.vars
    well_typed = subst (All (λ v. IsWellTyped v m)) (sym flat.vars) (declared.each_variable p fine written (λ v. IsWellTyped v m)
        (λ v i. let h = declared.fine_selector p fine written v i m in record { some_value = h.1; distinct = distinct_pairs v.values h.2; known = h.3 })
        (λ v i. let h = declared.fine_variable p fine written v i in record { some_value = h.some; distinct = distinct_pairs v.values h.distinct; known = h.known m (sym (ap length flat.symbols)) }))

    plain_named : (b : Bool) → has_selector p ≡ b → m.selector ≡ b → All (λ v. IsVariableName v.name) (plain_variables m)
    plain_named b has is = subst (All (λ v. IsVariableName v.name)) (sym (plain_are b has is)) (all_from (λ v. IsVariableName v.name) body_variables (λ v i. (declared.fine_variable p fine written v i).named))
      where
        plain_are : (b : Bool) → has_selector p ≡ b → m.selector ≡ b → plain_variables m ≡ body_variables
        plain_are true h k = selected_variables m true k ∙ ap (drop 1) (flat.vars ∙ declared.variables_are p fine written) ∙ drop_first (selector_variables p) body_variables (declared.selector_length p fine written ∙ ap one_if h)
        plain_are false h k = selected_variables m false k ∙ ap (drop 0) (flat.vars ∙ declared.variables_are p fine written) ∙ drop_none (selector_variables p) body_variables (declared.selector_length p fine written ∙ ap one_if h)

    selector_there : m.selector ≡ true → HasSelector m
    selector_there is =
        let has : has_selector p ≡ true = sym flat.selector ∙ is in
        let one : length (selector_variables p) ≡ 1 = declared.selector_length p fine written ∙ ap one_if has in
        by (selector_variables p) one refl
      where
        by : (vs : List Variable) → length vs ≡ 1 → selector_variables p ≡ vs → HasSelector m
        by [] one e = absurd (omega (arith, one))
        by (v ∷ vs) one e =
            let i : In v (selector_variables p) = subst (In v) (sym e) In.first in
            let s = declared.selector_is p fine written v i in
            let all : m.vars ≡ v ∷ (vs ++ body_variables) = flat.vars ∙ declared.variables_are p fine written ∙ ap (λ us. us ++ body_variables) e in
            let n : length v.values ≡ length m.processes = ap length s.1 ∙ length_map (λ k. Number (pos k)) (rising 0 (length (processes p))) ∙ length_rising 0 (length (processes p)) ∙ sym (ap length flat.processes) in (
              v,
              ap (λ us. slice_index_or us 0 v) all,
              subst (λ us. 0 < length us) (sym all) (omega arith),
              s.0,
              n,
              λ k d below. ap (λ us. slice_index_or us k d) s.1 ∙ rising_at (λ j. Number (pos j)) 0 (length (processes p)) k d (subst (λ ns. k < length ns) flat.processes below) ∙ ap (λ j. Number (pos j)) (omega arith),
            )

    pub is_flat : IsFlat m
    is_flat = record {
      limits = limits;
      symbols = subst (All IsAtom) (sym flat.symbols) symbols_atoms;
      distinct_symbols = subst AreDistinct (sym flat.symbols) (distinct_pairs (symbols p) (distinct_names_distinct (flat_map (λ (e : PlacedEntry). atoms_of e.1.entity) (all_entries p))));
      variables = plain_named (has_selector p) refl flat.selector;
      distinct_variables = subst (λ vs. AreDistinct (map (λ v. v.name) vs)) (sym flat.vars) (distinct_pairs (names_of (variables p)) (declared.names_distinct p fine written));
      types = well_typed;
      main_process = ap (take 1) flat.processes ∙ declared.main_first p fine written;
      processes = subst (λ ns. All IsProcessName (drop 1 ns)) (sym flat.processes) (declared.processes_named p fine written);
      distinct_processes = subst AreDistinct (sym flat.processes) (distinct_pairs (processes p) (declared.processes_distinct p fine written));
      one_process = λ none. ap length flat.processes ∙ declared.only_main p fine written (sym flat.selector ∙ none);
      with_selector = selector_there;
      numbers = all_of_each (HasNumbers m) m.assigns (assigned (HasNumbers m) (λ s a b i h.
          let there : In s (instances p) = (item_there (s, Item.Assigns a) i).0 in
          record { var = in_vars b.var (selected_below p kept h.1 there); process = subst (λ n. n < length m.processes) (sym h.2) (subst (λ ns. place_of (processes p) (process_name s) < length ns) (sym flat.processes) (process_below p kept s there)) }));
      expressions = each_expression (IsSound m) (λ x t i h. let r = item_there x i in sound p kept m has_names h r.0 r.1);
    }
