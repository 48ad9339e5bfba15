-- Where no rule refuses paths and definitions, expressions stand for terms.
use Rattle.std.proofs.Common.{◌≡◌, refl, sym, subst, ℕ, List, [], ◌∷◌, ◌++◌, Bool, true, false, Some, None, Option, Any, inl, inr}
use Rattle.std.specs.Prelude.{cond, not, ◌||◌, IsTrue, option_and_then, option_map}
use Rattle.kripke_model.specs.Term.{Term, Terms, Arms}
use Rattle.smv_instances.specs.Program.{Name, Expr, Exprs, Path, Plain, Module, Program}
use Rattle.smv_instances.specs.Program
use Rattle.smv_instances.specs.Entries.{Entity, entity_in, module_named}
use Rattle.smv_instances.specs.Instances.{Scope, module_of}
use Rattle.smv_names.specs.Denotes.{Target, Denotes, Finds, Meaning, meaning, meaning_of, passed, actual_of}
use Rattle.smv_names.specs.Expands.{is_array, Expands, ExpandElements, ExpandArms, Selects, AreIndexes}
use Rattle.smv_names.specs.Abbreviations.{Mention, mentions, element_mentions, arm_mentions, index_mentions, is_value, Abbreviation, fronts, Names}
use Rattle.std.proofs.lemmas.List.Elements.{All-head}
use Rattle.smv_names.specs.Naming.{InFronts, NamedIn}
use Rattle.smv_names.specs.Sound.{HasIndexes, IsSound, AreSound}
use Rattle.smv_names.proofs.AnyLemmas.{any_here, any_there, any_case, any_left, any_right, all_left, all_right}

not_true : false ≡ true → ⊥
not_true e = subst (λ b. cond b ⊥ (Unit {0})) e tt

-- ---- a name means a whole variable or array

abbrev IsWhole : Option Meaning → Type 0
IsWhole (Some (Meaning.Direct (Target.Stored home x type indexes))) = indexes ≡ []
IsWhole other = Unit {0}

passed_whole : (h : Scope) (e : Expr) → IsWhole (Some (passed h e))
passed_whole h (Expr.At r) = tt
passed_whole h e = tt

actual_whole : (o : Option (Scope × Expr)) → IsWhole (option_map (λ r. passed r.0 r.1) o)
actual_whole None = tt
actual_whole (Some r) = passed_whole r.0 r.1

instance_whole : (s : Scope) (x : Name) (process : Bool) (actuals : List Expr) (o : Option Module) → IsWhole (option_map (λ m. Meaning.Direct (Target.Instance (Scope.Inside s x process actuals m))) o)
instance_whole s x process actuals None = tt
instance_whole s x process actuals (Some m) = tt

entity_whole : (p : Program) (s : Scope) (x : Name) (o : Option Entity) → IsWhole (option_and_then (meaning_of p s x) o)
entity_whole p s x None = tt
entity_whole p s x (Some Entity.Parameter) = actual_whole (actual_of s x)
entity_whole p s x (Some (Entity.Stored type)) = refl
entity_whole p s x (Some (Entity.Instance process module_name actuals)) = instance_whole s x process actuals (module_named p module_name)
entity_whole p s x (Some (Entity.Defined body)) = tt

stored_whole : (p : Program) (s : Scope) (x : Name) (t : Target) → meaning p s x ≡ Some (Meaning.Direct t) → IsWhole (Some (Meaning.Direct t))
stored_whole p s x t m = subst IsWhole m (entity_whole p s x (entity_in (module_of s) x))

-- ---- targets that stand for something

abbrev pub IsGoodTarget : Program → Target → Type 0
IsGoodTarget p (Target.Stored home x type indexes) = (ns : List ℕ) × AreIndexes p indexes ns
IsGoodTarget p (Target.Reading h e) = (t : Term) × Expands p h e t
IsGoodTarget p (Target.Instance i) = Unit {0}
IsGoodTarget p (Target.Constant x) = Unit {0}

pub record IsGood (p : Program) (a : Abbreviation) : Type 0 where
  pub reading : (h : Scope) (e : Expr) → meaning p a.scope a.name ≡ Some (Meaning.Direct (Target.Reading h e)) → (t : Term) × Expands p h e t
  pub passes : (h : Scope) (r : Path) (u : Target) → meaning p a.scope a.name ≡ Some (Meaning.Passed h r) → Denotes p h r u → IsGoodTarget p u

abbrev pub AllGood : Program → Scope → List Mention → Type 0
AllGood p s ms = (a : Abbreviation) → NamedIn p s ms a → IsGood p a

direct_good : (p : Program) (s : Scope) (x : Name) (t : Target) → meaning p s x ≡ Some (Meaning.Direct t) → IsGood p (record { scope = s; name = x }) → IsGoodTarget p t
direct_good p s x (Target.Stored home y type indexes) m g = ([], subst (λ z. AreIndexes p z []) (sym (stored_whole p s x (Target.Stored home y type indexes) m)) AreIndexes.last_index)
direct_good p s x (Target.Reading h e) m g = g.reading h e m
direct_good p s x (Target.Instance i) m g = tt
direct_good p s x (Target.Constant y) m g = tt

finds_good : {p : Program} {s : Scope} {x : Name} {t : Target} → Finds p s x t → IsGood p (record { scope = s; name = x }) → IsGoodTarget p t
finds_good {p} {s} {x} {t} (Finds.direct m) g = direct_good p s x t m g
finds_good (Finds.passed_on {around = h} {q = r} {t = t} m d) g = g.passes h r t m d

front_good : (p : Program) (s : Scope) (q : Path) (e : Expr) → AllGood p s (mentions (Expr.At (Path.Index q e))) → AllGood p s (mentions (Expr.At q))
front_good p s q e g a h = elim (any_case (InFronts p s a) (record { path = q; wanted = true }) (index_mentions q) h) [ inl k ↦ of_front k | inr k ↦ of_indexes k ]
  where
    of_front : Any (λ r. Names p s r a) (fronts q) → IsGood p a
    of_front k = g a (any_here (InFronts p s a) (record { path = Path.Index q e; wanted = true }) (index_mentions q ++ mentions e) (any_there (λ r. Names p s r a) (Path.Index q e) (fronts q) k))

    of_indexes : NamedIn p s (index_mentions q) a → IsGood p a
    of_indexes k = g a (any_there (InFronts p s a) (record { path = Path.Index q e; wanted = true }) (index_mentions q ++ mentions e) (any_left (InFronts p s a) (index_mentions q) (mentions e) k))

first_good : (p : Program) (s : Scope) (q : Path) (ms : List Mention) (rest : List Path) (a : Abbreviation) → fronts q ≡ q ∷ rest → Names p s q a → NamedIn p s (record { path = q; wanted = true } ∷ ms) a
first_good p s q ms rest a is n = any_here (InFronts p s a) (record { path = q; wanted = true }) ms (subst (λ z. Any (λ r. Names p s r a) z) (sym is) (any_here (λ r. Names p s r a) q rest n))

pub denotes_good : {p : Program} {s : Scope} {q : Path} {t : Target} → Denotes p s q t → AllGood p s (mentions (Expr.At q)) → HasIndexes p s q → IsGoodTarget p t
denotes_good {p} {s} (Denotes.here {line = line} {x = x} f) g has = finds_good f (g (record { scope = s; name = x }) (first_good p s (Path.Here line x) [] [] (record { scope = s; name = x }) refl (refl, refl)))
denotes_good (Denotes.constant m is) g has = tt
denotes_good {p} {s} (Denotes.field {q = q} {i = i} {x = x} d f) g has =
    finds_good f (g (record { scope = i; name = x }) (first_good p s (Path.Field q x) (index_mentions q) (fronts q) (record { scope = i; name = x }) refl (d, refl)))
denotes_good {p} {s} (Denotes.index {q = q} {home = home} {x = x} {low = low} {high = high} {element = element} {indexes = indexes} {e = e} d) g has =
    let front = denotes_good d (front_good p s q e g) has.0 in
    let one = has.1 home x low high element indexes d in
    (one.0 ∷ front.0, AreIndexes.index one.1 front.1)

-- ---- expressions

good_left : (p : Program) (s : Scope) (ms ns : List Mention) → AllGood p s (ms ++ ns) → AllGood p s ms
good_left p s ms ns g a h = g a (any_left (InFronts p s a) ms ns h)

good_right : (p : Program) (s : Scope) (ms ns : List Mention) → AllGood p s (ms ++ ns) → AllGood p s ns
good_right p s ms ns g a h = g a (any_right (InFronts p s a) ms ns h)

no_array : (b : Bool) → IsTrue (not true || not b) → b ≡ false
no_array true h = absurd (not_true h)
no_array false h = refl

target_term : {p : Program} {s : Scope} {q : Path} (t : Target) → Denotes p s q t → IsTrue (not true || is_value t) → IsGoodTarget p t → (u : Term) × Expands p s (Expr.At q) u
target_term (Target.Stored home x type indexes) d suits good = (_, Expands.variable (Selects.cell d (no_array (is_array type) suits) good.1))
target_term (Target.Reading h e) d suits good = (good.0, Expands.read d good.1)
target_term (Target.Instance i) d suits good = absurd (not_true suits)
target_term (Target.Constant x) d suits good = (_, Expands.constant d)

mutual
  pub term_exists : {p : Program} {s : Scope} (e : Expr) → AllGood p s (mentions e) → AreSound p s (mentions e) → (t : Term) × Expands p s e t
  term_exists (Expr.Number n) g sound = (_, Expands.number)
  term_exists (Expr.Truth b) g sound = (_, Expands.truth)
  term_exists Expr.Running g sound = (_, Expands.running)
  term_exists {p} {s} (Expr.At q) g sound = let one = All-head (IsSound p s) (record { path = q; wanted = true }) (index_mentions q) sound in target_term one.target one.denotes one.suits (denotes_good one.denotes g one.indexes)
  term_exists (Expr.Next e) g sound = let x = term_exists e g sound in (Term.Next x.0, Expands.next x.1)
  term_exists (Expr.Parens e) g sound = let x = term_exists e g sound in (x.0, Expands.parens x.1)
  term_exists (Expr.Braces es) g sound = let x = elements_exist es g sound in (Term.Braces x.0, Expands.braces x.1)
  term_exists (Expr.Case arms) g sound = let x = arms_exist arms g sound in (Term.Case x.0, Expands.cases x.1)
  term_exists (Expr.Not e) g sound = let x = term_exists e g sound in (Term.Not x.0, Expands.negation x.1)
  term_exists {p} {s} (Expr.Binary op a b) g sound =
      let x = term_exists a (good_left p s (mentions a) (mentions b) g) (all_left (IsSound p s) (mentions a) (mentions b) sound) in
      let y = term_exists b (good_right p s (mentions a) (mentions b) g) (all_right (IsSound p s) (mentions a) (mentions b) sound) in
      (Term.Binary op x.0 y.0, Expands.binary x.1 y.1)
  term_exists (Expr.Quant op e) g sound = let x = term_exists e g sound in (Term.Quant op x.0, Expands.quantified x.1)
  term_exists {p} {s} (Expr.Until all a b) g sound =
      let x = term_exists a (good_left p s (mentions a) (mentions b) g) (all_left (IsSound p s) (mentions a) (mentions b) sound) in
      let y = term_exists b (good_right p s (mentions a) (mentions b) g) (all_right (IsSound p s) (mentions a) (mentions b) sound) in
      (Term.Until all x.0 y.0, Expands.until x.1 y.1)

  elements_exist : {p : Program} {s : Scope} (es : Exprs) → AllGood p s (element_mentions es) → AreSound p s (element_mentions es) → (ts : Terms) × ExpandElements p s es ts
  elements_exist Exprs.none g sound = (Terms.none, ExpandElements.last_element)
  elements_exist {p} {s} (Exprs.more e es) g sound =
      let x = term_exists e (good_left p s (mentions e) (element_mentions es) g) (all_left (IsSound p s) (mentions e) (element_mentions es) sound) in
      let y = elements_exist es (good_right p s (mentions e) (element_mentions es) g) (all_right (IsSound p s) (mentions e) (element_mentions es) sound) in
      (Terms.more x.0 y.0, ExpandElements.element x.1 y.1)

  arms_exist : {p : Program} {s : Scope} (arms : Program.Arms) → AllGood p s (arm_mentions arms) → AreSound p s (arm_mentions arms) → (ts : Arms) × ExpandArms p s arms ts
  arms_exist Program.Arms.esac g sound = (Arms.esac, ExpandArms.last_arm)
  arms_exist {p} {s} (Program.Arms.arm guard right rest) g sound =
      let ms = mentions guard ++ mentions right in
      let x = term_exists guard (good_left p s (mentions guard) (mentions right) (good_left p s ms (arm_mentions rest) g)) (all_left (IsSound p s) (mentions guard) (mentions right) (all_left (IsSound p s) ms (arm_mentions rest) sound)) in
      let y = term_exists right (good_right p s (mentions guard) (mentions right) (good_left p s ms (arm_mentions rest) g)) (all_right (IsSound p s) (mentions guard) (mentions right) (all_left (IsSound p s) ms (arm_mentions rest) sound)) in
      let z = arms_exist rest (good_right p s ms (arm_mentions rest) g) (all_right (IsSound p s) ms (arm_mentions rest) sound) in
      (Arms.arm x.0 y.0 z.0, ExpandArms.arm x.1 y.1 z.1)
