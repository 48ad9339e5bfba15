-- What an assignment's variable depends on, and the edges of the graphs.
use Rattle.std.proofs.Common.{◌≡◌, ℕ, zero, suc, ◌<◌, ◌⊎◌, inl, inr, ⊎_elim, List, [], ◌∷◌, ◌++◌, length, refl, sym, subst, arith, Any}
use Rattle.std.specs.Prelude.{Contains, All}
use Rattle.std.specs.List.{slice_index_or}
use Rattle.std.proofs.lemmas.List.Elements.{All-nil, All-cons, All-append, Contains-append_left, Contains-append_right, Contains-append_cases}
use Rattle.kripke_model.specs.Term.{Term, Terms, Arms, none, more, esac, arm}
use Rattle.kripke_model.specs.System.{System}
use Rattle.kripke_model.specs.Static.{variables_in, variables_in_elements, variables_in_arms, under_next, under_next_elements, under_next_arms}
use Rattle.kripke_model.specs.Flat.{IsSound, AreSound, AreSoundArms}
use Rattle.smv_static.specs.Targets.{next_variables_in, next_variables_in_elements, next_variables_in_arms}

module _ {A : Type 0} (P : A → Type 0) where
  pub any_here : (x : A) (xs : List A) → P x → Any P (x ∷ xs)
  any_here x xs p = (0, x, omega arith, refl, p)

  pub any_there : (x : A) (xs : List A) → Any P xs → Any P (x ∷ xs)
  any_there x xs h = (suc h.0, h.1, omega (arith, h.2), h.3, h.4)

  cases_at : (x : A) (xs : List A) (k : ℕ) (y : A) → k < length (x ∷ xs) → slice_index_or (x ∷ xs) k y ≡ y → P y → P x ⊎ Any P xs
  cases_at x xs zero y below e p = inl (subst P (sym e) p)
  cases_at x xs (suc k) y below e p = inr (k, y, omega arith, e, p)

  pub any_first : (x : A) (xs : List A) → Any P (x ∷ xs) → P x ⊎ Any P xs
  any_first x xs h = cases_at x xs h.0 h.1 h.2 h.3 h.4

  pub any_left : (xs ys : List A) → Any P xs → Any P (xs ++ ys)
  any_left [] ys h = absurd (let below : h.0 < 0 = h.2 in omega arith)
  any_left (x ∷ xs) ys h = ⊎_elim (λ p. any_here x (xs ++ ys) p) (λ r. any_there x (xs ++ ys) (any_left xs ys r)) (any_first x xs h)

  pub any_right : (xs ys : List A) → Any P ys → Any P (xs ++ ys)
  any_right [] ys h = h
  any_right (x ∷ xs) ys h = any_there x (xs ++ ys) (any_right xs ys h)

  pub any_cases : (xs ys : List A) → Any P (xs ++ ys) → Any P xs ⊎ Any P ys
  any_cases [] ys h = inr h
  any_cases (x ∷ xs) ys h =
      ⊎_elim (λ p. inl (any_here x xs p)) (λ r. ⊎_elim (λ a. inl (any_there x xs a)) (λ b. inr b) (any_cases xs ys r)) (any_first x (xs ++ ys) h)

-- ---- the variables under `next`

abbrev Holds : ℕ → Term → Type 0
Holds x e = Contains (variables_in e) x

no_member : {A : Type 0} {x : A} {B : Type 0} → Contains [] x → B
no_member {x} h = absurd (let below : h.0 < 0 = h.1 in omega arith)

mutual
  pub next_to : (x : ℕ) (e : Term) → Contains (next_variables_in e) x → Any (Holds x) (under_next e)
  next_to x (Term.Const v) h = no_member h
  next_to x (Term.Var y) h = no_member h
  next_to x (Term.Running p) h = no_member h
  next_to x (Term.Next e) h = any_here (Holds x) e (under_next e) h
  next_to x (Term.Not e) h = next_to x e h
  next_to x (Term.Binary op a b) h =
      ⊎_elim (λ l. any_left (Holds x) (under_next a) (under_next b) (next_to x a l)) (λ r. any_right (Holds x) (under_next a) (under_next b) (next_to x b r))
      (Contains-append_cases (next_variables_in a) (next_variables_in b) x h)
  next_to x (Term.Braces es) h = next_to_elements x es h
  next_to x (Term.Case arms) h = next_to_arms x arms h
  next_to x (Term.Quant op e) h = next_to x e h
  next_to x (Term.Until all a b) h =
      ⊎_elim (λ l. any_left (Holds x) (under_next a) (under_next b) (next_to x a l)) (λ r. any_right (Holds x) (under_next a) (under_next b) (next_to x b r))
      (Contains-append_cases (next_variables_in a) (next_variables_in b) x h)

  next_to_elements : (x : ℕ) (es : Terms) → Contains (next_variables_in_elements es) x → Any (Holds x) (under_next_elements es)
  next_to_elements x none h = no_member h
  next_to_elements x (more e es) h =
      ⊎_elim (λ l. any_left (Holds x) (under_next e) (under_next_elements es) (next_to x e l)) (λ r. any_right (Holds x) (under_next e) (under_next_elements es) (next_to_elements x es r))
      (Contains-append_cases (next_variables_in e) (next_variables_in_elements es) x h)

  next_to_arms : (x : ℕ) (arms : Arms) → Contains (next_variables_in_arms arms) x → Any (Holds x) (under_next_arms arms)
  next_to_arms x esac h = no_member h
  next_to_arms x (arm guard right rest) h =
      ⊎_elim (λ l. any_left (Holds x) (under_next guard ++ under_next right) (under_next_arms rest)
      (⊎_elim (λ g. any_left (Holds x) (under_next guard) (under_next right) (next_to x guard g)) (λ r. any_right (Holds x) (under_next guard) (under_next right) (next_to x right r))
      (Contains-append_cases (next_variables_in guard) (next_variables_in right) x l)))
      (λ r. any_right (Holds x) (under_next guard ++ under_next right) (under_next_arms rest) (next_to_arms x rest r))
      (Contains-append_cases (next_variables_in guard ++ next_variables_in right) (next_variables_in_arms rest) x h)

-- what stands under `next` stands in the whole
mutual
  pub within : (x : ℕ) (e : Term) → Any (Holds x) (under_next e) → Contains (variables_in e) x
  within x (Term.Const v) h = absurd (let below : h.0 < 0 = h.2 in omega arith)
  within x (Term.Var y) h = absurd (let below : h.0 < 0 = h.2 in omega arith)
  within x (Term.Running p) h = absurd (let below : h.0 < 0 = h.2 in omega arith)
  within x (Term.Next e) h = ⊎_elim (λ p. p) (λ r. within x e r) (any_first (Holds x) e (under_next e) h)
  within x (Term.Not e) h = within x e h
  within x (Term.Binary op a b) h =
      ⊎_elim (λ l. Contains-append_left (variables_in a) (variables_in b) x (within x a l)) (λ r. Contains-append_right (variables_in a) (variables_in b) x (within x b r))
      (any_cases (Holds x) (under_next a) (under_next b) h)
  within x (Term.Braces es) h = within_elements x es h
  within x (Term.Case arms) h = within_arms x arms h
  within x (Term.Quant op e) h = within x e h
  within x (Term.Until all a b) h =
      ⊎_elim (λ l. Contains-append_left (variables_in a) (variables_in b) x (within x a l)) (λ r. Contains-append_right (variables_in a) (variables_in b) x (within x b r))
      (any_cases (Holds x) (under_next a) (under_next b) h)

  within_elements : (x : ℕ) (es : Terms) → Any (Holds x) (under_next_elements es) → Contains (variables_in_elements es) x
  within_elements x none h = absurd (let below : h.0 < 0 = h.2 in omega arith)
  within_elements x (more e es) h =
      ⊎_elim (λ l. Contains-append_left (variables_in e) (variables_in_elements es) x (within x e l)) (λ r. Contains-append_right (variables_in e) (variables_in_elements es) x (within_elements x es r))
      (any_cases (Holds x) (under_next e) (under_next_elements es) h)

  within_arms : (x : ℕ) (arms : Arms) → Any (Holds x) (under_next_arms arms) → Contains (variables_in_arms arms) x
  within_arms x esac h = absurd (let below : h.0 < 0 = h.2 in omega arith)
  within_arms x (arm guard right rest) h =
      ⊎_elim (λ l. Contains-append_left (variables_in guard ++ variables_in right) (variables_in_arms rest) x
      (⊎_elim (λ g. Contains-append_left (variables_in guard) (variables_in right) x (within x guard g)) (λ r. Contains-append_right (variables_in guard) (variables_in right) x (within x right r))
      (any_cases (Holds x) (under_next guard) (under_next right) l)))
      (λ r. Contains-append_right (variables_in guard ++ variables_in right) (variables_in_arms rest) x (within_arms x rest r))
      (any_cases (Holds x) (under_next guard ++ under_next right) (under_next_arms rest) h)

mutual
  pub next_from : (x : ℕ) (e : Term) → Any (Holds x) (under_next e) → Contains (next_variables_in e) x
  next_from x (Term.Const v) h = absurd (let below : h.0 < 0 = h.2 in omega arith)
  next_from x (Term.Var y) h = absurd (let below : h.0 < 0 = h.2 in omega arith)
  next_from x (Term.Running p) h = absurd (let below : h.0 < 0 = h.2 in omega arith)
  next_from x (Term.Next e) h = ⊎_elim (λ p. p) (λ r. within x e r) (any_first (Holds x) e (under_next e) h)
  next_from x (Term.Not e) h = next_from x e h
  next_from x (Term.Binary op a b) h =
      ⊎_elim (λ l. Contains-append_left (next_variables_in a) (next_variables_in b) x (next_from x a l)) (λ r. Contains-append_right (next_variables_in a) (next_variables_in b) x (next_from x b r))
      (any_cases (Holds x) (under_next a) (under_next b) h)
  next_from x (Term.Braces es) h = next_from_elements x es h
  next_from x (Term.Case arms) h = next_from_arms x arms h
  next_from x (Term.Quant op e) h = next_from x e h
  next_from x (Term.Until all a b) h =
      ⊎_elim (λ l. Contains-append_left (next_variables_in a) (next_variables_in b) x (next_from x a l)) (λ r. Contains-append_right (next_variables_in a) (next_variables_in b) x (next_from x b r))
      (any_cases (Holds x) (under_next a) (under_next b) h)

  next_from_elements : (x : ℕ) (es : Terms) → Any (Holds x) (under_next_elements es) → Contains (next_variables_in_elements es) x
  next_from_elements x none h = absurd (let below : h.0 < 0 = h.2 in omega arith)
  next_from_elements x (more e es) h =
      ⊎_elim (λ l. Contains-append_left (next_variables_in e) (next_variables_in_elements es) x (next_from x e l)) (λ r. Contains-append_right (next_variables_in e) (next_variables_in_elements es) x (next_from_elements x es r))
      (any_cases (Holds x) (under_next e) (under_next_elements es) h)

  next_from_arms : (x : ℕ) (arms : Arms) → Any (Holds x) (under_next_arms arms) → Contains (next_variables_in_arms arms) x
  next_from_arms x esac h = absurd (let below : h.0 < 0 = h.2 in omega arith)
  next_from_arms x (arm guard right rest) h =
      ⊎_elim (λ l. Contains-append_left (next_variables_in guard ++ next_variables_in right) (next_variables_in_arms rest) x
      (⊎_elim (λ g. Contains-append_left (next_variables_in guard) (next_variables_in right) x (next_from x guard g)) (λ r. Contains-append_right (next_variables_in guard) (next_variables_in right) x (next_from x right r))
      (any_cases (Holds x) (under_next guard) (under_next right) l)))
      (λ r. Contains-append_right (next_variables_in guard ++ next_variables_in right) (next_variables_in_arms rest) x (next_from_arms x rest r))
      (any_cases (Holds x) (under_next guard ++ under_next right) (under_next_arms rest) h)

-- ---- variables of the model

module _ (m : System) where
  abbrev Known : ℕ → Type 0
  Known x = x < length m.vars

  mutual
    pub variables_known : (e : Term) → IsSound m e → All Known (variables_in e)
    variables_known (Term.Const v) s = All-nil Known
    variables_known (Term.Var x) s = All-cons Known x [] s (All-nil Known)
    variables_known (Term.Running p) s = All-nil Known
    variables_known (Term.Next e) s = variables_known e s
    variables_known (Term.Not e) s = variables_known e s
    variables_known (Term.Binary op a b) s = All-append Known (variables_in a) (variables_in b) (variables_known a s.0) (variables_known b s.1)
    variables_known (Term.Braces none) s = All-nil Known
    variables_known (Term.Braces (more e es)) s = All-append Known (variables_in e) (variables_in_elements es) (variables_known e s.0) (elements_known es s.1)
    variables_known (Term.Case arms) s = arms_known arms s
    variables_known (Term.Quant op e) s = variables_known e s
    variables_known (Term.Until all a b) s = All-append Known (variables_in a) (variables_in b) (variables_known a s.0) (variables_known b s.1)

    elements_known : (es : Terms) → AreSound m es → All Known (variables_in_elements es)
    elements_known none s = All-nil Known
    elements_known (more e es) s = All-append Known (variables_in e) (variables_in_elements es) (variables_known e s.0) (elements_known es s.1)

    arms_known : (arms : Arms) → AreSoundArms m arms → All Known (variables_in_arms arms)
    arms_known esac s = All-nil Known
    arms_known (arm guard right rest) s =
        All-append Known (variables_in guard ++ variables_in right) (variables_in_arms rest)
        (All-append Known (variables_in guard) (variables_in right) (variables_known guard s.0) (variables_known right s.1)) (arms_known rest s.2)
