-- What follows from the rules that every accepted model keeps.
use Rattle.std.proofs.Common.{◌≡◌, true, false, List, [], ◌∷◌, ◌++◌, map, inl, inr, get_or}
use Rattle.std.specs.Prelude.{Bool, IsTrue, All}
use Rattle.std.proofs.lemmas.List.Elements.{All-nil, All-cons, All-head, All-tail}
use Rattle.kripke_model.specs.declared.refusals.StaticRefusal.{StaticRefusal}
use Rattle.kripke_model.specs.Term.{Term, has_path_operator}
use Rattle.kripke_model.specs.System.{System, Assignment, Condition}
use Rattle.kripke_model.specs.Evaluable.{IsEvaluable}
use Rattle.kripke_model.specs.Refusing.{RefusalRule, refuse, Silent, ◌then◌, First, first_of}
use Rattle.kripke_model.specs.Static.{refused_condition, HasFormula, formula_not_allowed}
use Rattle.kripke_model.specs.Flat.{IsFlat, IsSound}
use Rattle.kripke_model.proofs.SoundLemmas.{evaluable}

-- ---- rules that are silent

pub silent_first : {R : Type 0} {a b : RefusalRule R} → Silent (a then b) → Silent a
silent_first s r h = s r (inl h)

pub silent_second : {R : Type 0} {a b : RefusalRule R} → Silent (a then b) → Silent b
silent_second s r h = s r (inr (λ q g. s q (inl g), h))

module _ {R A : Type 0} (refusal : A → R) (C : A → Type 0) where
  never_from : (before xs : List A) → Silent (First (λ b a. refuse (refusal a) (C a)) before xs) → All (λ a. C a → ⊥) xs
  never_from before [] silent = All-nil (λ a. C a → ⊥)
  never_from before (x ∷ xs) silent =
      All-cons (λ a. C a → ⊥) x xs (λ h. silent (refusal x) (inl (refl, h)))
      (never_from (before ++ (x ∷ [])) xs (λ r h. silent r (inr (λ q g. silent q (inl g), h))))
    where
      refl : {B : Type 0} {b : B} → b ≡ b
      refl {B} {b} = λ i. b

  -- a rule that no member breaks
  pub never_in : (xs : List A) → Silent (first_of xs (λ a. refuse (refusal a) (C a))) → All (λ a. C a → ⊥) xs
  never_in xs silent = never_from [] xs silent

-- ---- parts of lists

module _ {A : Type 0} (P : A → Type 0) where
  pub all_front : (xs ys : List A) → All P (xs ++ ys) → All P xs
  all_front [] ys h = All-nil P
  all_front (x ∷ xs) ys h = All-cons P x xs (All-head P x (xs ++ ys) h) (all_front xs ys (All-tail P x (xs ++ ys) h))

  pub all_back : (xs ys : List A) → All P (xs ++ ys) → All P ys
  all_back [] ys h = h
  all_back (x ∷ xs) ys h = all_back xs ys (All-tail P x (xs ++ ys) h)

  pub all_unmapped : {B : Type 0} (f : B → A) (xs : List B) → All P (map f xs) → All (λ x. P (f x)) xs
  all_unmapped f [] h = All-nil (λ x. P (f x))
  all_unmapped f (x ∷ xs) h = All-cons (λ y. P (f y)) x xs (All-head P (f x) (map f xs) h) (all_unmapped f xs (All-tail P (f x) (map f xs) h))

-- ---- expressions

pub untrue : (b : Bool) → (IsTrue b → ⊥) → b ≡ false
untrue false never = λ i. false
untrue true never = absurd (never (λ i. true))

abbrev whole : Condition → Term
whole c = c.expr

module _ (m : System) (flat : IsFlat m) where
  pub rights_sound : All (λ a. IsSound m a.right) m.assigns
  rights_sound =
      all_unmapped (IsSound m) (λ (a : Assignment). a.right) m.assigns
      (all_front (IsSound m) (map (λ (a : Assignment). a.right) m.assigns) (map whole (m.inits ++ m.invars ++ m.trans ++ m.constraints ++ m.specs)) flat.expressions)

  conditions_sound : All (λ c. IsSound m (whole c)) (m.inits ++ m.invars ++ m.trans ++ m.constraints ++ m.specs)
  conditions_sound =
      all_unmapped (IsSound m) whole (m.inits ++ m.invars ++ m.trans ++ m.constraints ++ m.specs)
      (all_back (IsSound m) (map (λ (a : Assignment). a.right) m.assigns) (map whole (m.inits ++ m.invars ++ m.trans ++ m.constraints ++ m.specs)) flat.expressions)

  abbrev Sound : Condition → Type 0
  Sound c = IsSound m c.expr

  pub specs_sound : All (λ c. IsSound m c.expr) m.specs
  specs_sound = all_back Sound (m.inits ++ m.invars ++ m.trans ++ m.constraints) m.specs conditions_sound

  before_specs : All (λ c. IsSound m c.expr) (m.inits ++ m.invars ++ m.trans ++ m.constraints)
  before_specs = all_front Sound (m.inits ++ m.invars ++ m.trans ++ m.constraints) m.specs conditions_sound

  pub constraints_sound : All (λ c. IsSound m c.expr) m.constraints
  constraints_sound = all_back Sound (m.inits ++ m.invars ++ m.trans) m.constraints before_specs

  before_constraints : All (λ c. IsSound m c.expr) (m.inits ++ m.invars ++ m.trans)
  before_constraints = all_front Sound (m.inits ++ m.invars ++ m.trans) m.constraints before_specs

  trans_sound : All (λ c. IsSound m c.expr) m.trans
  trans_sound = all_back Sound (m.inits ++ m.invars) m.trans before_constraints

  before_trans : All (λ c. IsSound m c.expr) (m.inits ++ m.invars)
  before_trans = all_front Sound (m.inits ++ m.invars) m.trans before_constraints

  invars_sound : All (λ c. IsSound m c.expr) m.invars
  invars_sound = all_back Sound m.inits m.invars before_trans

  inits_sound : All (λ c. IsSound m c.expr) m.inits
  inits_sound = all_front Sound m.inits m.invars before_trans

  conditions_evaluable : (cs : List Condition) → All (λ c. IsSound m c.expr) cs → Silent (refused_condition StaticRefusal.FormulaNotAllowed HasFormula cs) → All (λ c. IsEvaluable m c.expr) cs
  conditions_evaluable cs sound silent k d below =
      evaluable m (get_or cs k d).expr (sound k d below) (untrue (has_path_operator (get_or cs k d).expr) (never_in (λ (c : Condition). StaticRefusal.FormulaNotAllowed c.line) (λ (c : Condition). HasFormula c.expr) cs silent k d below))

  pub constraints_evaluable : All (λ c. has_path_operator c.expr ≡ false → IsEvaluable m c.expr) m.constraints
  constraints_evaluable k d below clear = evaluable m (get_or m.constraints k d).expr (constraints_sound k d below) clear

  module _ (allowed : Silent (formula_not_allowed m)) where
    pub rights_evaluable : All (λ a. IsEvaluable m a.right) m.assigns
    rights_evaluable k d below =
        evaluable m (get_or m.assigns k d).right (rights_sound k d below)
        (untrue (has_path_operator (get_or m.assigns k d).right) (never_in (λ (a : Assignment). StaticRefusal.FormulaNotAllowed a.line) (λ (a : Assignment). HasFormula a.right) m.assigns (silent_first allowed) k d below))

    pub inits_evaluable : All (λ c. IsEvaluable m c.expr) m.inits
    inits_evaluable = conditions_evaluable m.inits inits_sound (silent_first (silent_second allowed))

    pub invars_evaluable : All (λ c. IsEvaluable m c.expr) m.invars
    invars_evaluable = conditions_evaluable m.invars invars_sound (silent_first (silent_second (silent_second allowed)))

    pub trans_evaluable : All (λ c. IsEvaluable m c.expr) m.trans
    trans_evaluable = conditions_evaluable m.trans trans_sound (silent_first (silent_second (silent_second (silent_second allowed))))
