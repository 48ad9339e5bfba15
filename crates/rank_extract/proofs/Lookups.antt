-- Where a node's entry stands among those of a formula.
use Rattle.std.proofs.Common.{◌≡◌, ◌⊎◌, inl, inr, ℕ, ◌+◌, ◌<◌, ◌≤◌, Bool, true, false, not, ◌&&◌, ◌||◌, List, [], ◌∷◌, ◌++◌, map, refl, sym, ◌∙◌, ap, arith, eqb, cond}
use Rattle.std.proofs.lemmas.Bool.{false≢true, eq-eqb, ne_eqb, cond-true, cond-false, and_from}
use Rattle.kripke_model.specs.Ctl.{Ctl}
use Rattle.kripke_model.specs.Signs.{node_count}
use Rattle.path_laws.specs.StateSet.{StateSet}
use Rattle.fair_rules.specs.Claims as claims
use Rattle.fair_rules.specs.Block as blocks
use Rattle.fair_rules.specs.Block.{same_sign}
use Rattle.fair_fixpoint.specs.Nodes.{NodeView}
use Rattle.fair_fixpoint.specs.Formulas.{is_existential}
use Rattle.proof_form.specs.Form.{Entry}
use Rattle.proof_form.specs.Meaning.{entry_of, listed_of}
use Rattle.rank_extract.specs.Given.{entry_at, own_entries, wanted, wants}

-- the entries' nodes lie in a range
abbrev pub Within : ℕ → ℕ → List (Entry StateSet) → Type 0
Within low high [] = Unit {0}
Within low high (e ∷ es) = (low ≤ e.node) × (e.node < high) × Within low high es

pub within_both : (low high : ℕ) (xs ys : List (Entry StateSet)) → Within low high xs → Within low high ys → Within low high (xs ++ ys)
within_both low high [] ys h k = k
within_both low high (x ∷ xs) ys h k = (h.0, h.1, within_both low high xs ys h.2 k)

pub within_wider : (low high low' high' : ℕ) (xs : List (Entry StateSet)) → low' ≤ low → high ≤ high' → Within low high xs → Within low' high' xs
within_wider low high low' high' [] less more h = tt
within_wider low high low' high' (x ∷ xs) less more h = (omega (arith, h.0, less), omega (arith, h.1, more), within_wider low high low' high' xs less more h.2)

-- the entry of a node and sign in a list
abbrev pub look_up : List (Entry StateSet) → ℕ → Bool → claims.Entry
look_up es i sign = blocks.entry_of (map listed_of es) i sign

abbrev Outside : ℕ → ℕ → ℕ → Type 0
Outside low high i = (i < low) ⊎ (high ≤ i)

not_same : (low high i n : ℕ) → low ≤ n → n < high → Outside low high i → eqb n i ≡ false
not_same low high i n l h (inl o) = ne_eqb n i (λ e. omega (arith, l, h, o, e))
not_same low high i n l h (inr o) = ne_eqb n i (λ e. omega (arith, l, h, o, e))

-- entries of other nodes don't count
pub look_past : (low high : ℕ) (xs ys : List (Entry StateSet)) (i : ℕ) (sign : Bool) → Within low high xs → Outside low high i → look_up (xs ++ ys) i sign ≡ look_up ys i sign
look_past low high [] ys i sign h o = refl
look_past low high (x ∷ xs) ys i sign h o =
    cond-false (eqb x.node i && same_sign x.plus sign) (entry_of x.rule) (look_up (xs ++ ys) i sign) (ap (λ b. b && same_sign x.plus sign) (not_same low high i x.node h.0 h.1 o))
    ∙ look_past low high xs ys i sign h.2 o

pub look_none : (low high : ℕ) (xs : List (Entry StateSet)) (i : ℕ) (sign : Bool) → Within low high xs → Outside low high i → look_up xs i sign ≡ claims.Entry.Absent
look_none low high [] i sign h o = refl
look_none low high (x ∷ xs) i sign h o =
    cond-false (eqb x.node i && same_sign x.plus sign) (entry_of x.rule) (look_up xs i sign) (ap (λ b. b && same_sign x.plus sign) (not_same low high i x.node h.0 h.1 o))
    ∙ look_none low high xs i sign h.2 o

pub look_before : (low high : ℕ) (xs ys : List (Entry StateSet)) (i : ℕ) (sign : Bool) → Within low high ys → Outside low high i → look_up (xs ++ ys) i sign ≡ look_up xs i sign
look_before low high [] ys i sign h o = look_none low high ys i sign h o
look_before low high (x ∷ xs) ys i sign h o = ap (λ r. cond (eqb x.node i && same_sign x.plus sign) (entry_of x.rule) r) (look_before low high xs ys i sign h o)

module _ (fair : StateSet) (at : ℕ → NodeView) where
  pub own_within : (n : ℕ) (some plus minus : Bool) → Within n (n + 1) (own_entries fair at n some plus minus)
  own_within n some true true = (omega arith, omega arith, (omega arith, omega arith, tt))
  own_within n some true false = (omega arith, omega arith, tt)
  own_within n some false true = (omega arith, omega arith, tt)
  own_within n some false false = tt

  two_within : (n c d : ℕ) (xs ys : List (Entry StateSet)) → Within (n + 1) (n + 1 + c) xs → Within (n + 1 + c) (n + 1 + c + d) ys → Within n (n + (1 + c + d)) (xs ++ ys)
  two_within n c d xs ys h k = within_both n (n + (1 + c + d)) xs ys
      (within_wider (n + 1) (n + 1 + c) n (n + (1 + c + d)) xs (omega arith) (omega arith) h)
      (within_wider (n + 1 + c) (n + 1 + c + d) n (n + (1 + c + d)) ys (omega arith) (omega arith) k)

  pub wanted_within : (f : Ctl) (n : ℕ) (plus minus : Bool) → Within n (n + node_count f) (wanted fair at f n plus minus)
  wanted_within (Ctl.Leaf e) n plus minus = tt
  wanted_within (Ctl.Not f) n plus minus =
      within_wider (n + 1) (n + 1 + node_count f) n (n + (1 + node_count f)) (wanted fair at f (n + 1) minus plus) (omega arith) (omega arith) (wanted_within f (n + 1) minus plus)
  wanted_within (Ctl.And f g) n plus minus =
      two_within n (node_count f) (node_count g) (wanted fair at f (n + 1) plus minus) (wanted fair at g (n + 1 + node_count f) plus minus) (wanted_within f (n + 1) plus minus) (wanted_within g (n + 1 + node_count f) plus minus)
  wanted_within (Ctl.Or f g) n plus minus =
      two_within n (node_count f) (node_count g) (wanted fair at f (n + 1) plus minus) (wanted fair at g (n + 1 + node_count f) plus minus) (wanted_within f (n + 1) plus minus) (wanted_within g (n + 1 + node_count f) plus minus)
  wanted_within (Ctl.Implies f g) n plus minus =
      two_within n (node_count f) (node_count g) (wanted fair at f (n + 1) minus plus) (wanted fair at g (n + 1 + node_count f) plus minus) (wanted_within f (n + 1) minus plus) (wanted_within g (n + 1 + node_count f) plus minus)
  wanted_within (Ctl.Iff f g) n plus minus =
      two_within n (node_count f) (node_count g) (wanted fair at f (n + 1) (plus || minus) (plus || minus)) (wanted fair at g (n + 1 + node_count f) (plus || minus) (plus || minus)) (wanted_within f (n + 1) (plus || minus) (plus || minus)) (wanted_within g (n + 1 + node_count f) (plus || minus) (plus || minus))
  wanted_within (Ctl.Quant op f) n plus minus =
      within_both n (n + (1 + node_count f)) (own_entries fair at n (is_existential op) plus minus) (wanted fair at f (n + 1) plus minus)
      (within_wider n (n + 1) n (n + (1 + node_count f)) (own_entries fair at n (is_existential op) plus minus) (omega arith) (omega arith) (own_within n (is_existential op) plus minus))
      (within_wider (n + 1) (n + 1 + node_count f) n (n + (1 + node_count f)) (wanted fair at f (n + 1) plus minus) (omega arith) (omega arith) (wanted_within f (n + 1) plus minus))
  wanted_within (Ctl.Until all f g) n plus minus =
      within_both n (n + (1 + node_count f + node_count g)) (own_entries fair at n (not all) plus minus) (wanted fair at f (n + 1) plus minus ++ wanted fair at g (n + 1 + node_count f) plus minus)
      (within_wider n (n + 1) n (n + (1 + node_count f + node_count g)) (own_entries fair at n (not all) plus minus) (omega arith) (omega arith) (own_within n (not all) plus minus))
      (two_within n (node_count f) (node_count g) (wanted fair at f (n + 1) plus minus) (wanted fair at g (n + 1 + node_count f) plus minus) (wanted_within f (n + 1) plus minus) (wanted_within g (n + 1 + node_count f) plus minus))

  -- the entries of two parts behind the node
  pub parts_within : (f g : Ctl) (n : ℕ) (plus minus : Bool) → Within (n + 1) (n + 1 + node_count f + node_count g) (wanted fair at f (n + 1) plus minus ++ wanted fair at g (n + 1 + node_count f) plus minus)
  parts_within f g n plus minus = within_both (n + 1) (n + 1 + node_count f + node_count g) (wanted fair at f (n + 1) plus minus) (wanted fair at g (n + 1 + node_count f) plus minus)
      (within_wider (n + 1) (n + 1 + node_count f) (n + 1) (n + 1 + node_count f + node_count g) (wanted fair at f (n + 1) plus minus) (omega arith) (omega arith) (wanted_within f (n + 1) plus minus))
      (within_wider (n + 1 + node_count f) (n + 1 + node_count f + node_count g) (n + 1) (n + 1 + node_count f + node_count g) (wanted fair at g (n + 1 + node_count f) plus minus) (omega arith) (omega arith) (wanted_within g (n + 1 + node_count f) plus minus))

  -- ---- a node's own entry

  here : (n : ℕ) (some sign : Bool) (es : List (Entry StateSet)) → look_up (entry_at fair at n some sign ∷ es) n sign ≡ entry_of (entry_at fair at n some sign).rule
  here n some sign es = cond-true (eqb n n && same_sign sign sign) (entry_of (entry_at fair at n some sign).rule) (look_up es n sign) (and_from (eqb n n) (same_sign sign sign) (eq-eqb n n refl) (own_sign sign))
    where
      own_sign : (b : Bool) → same_sign b b ≡ true
      own_sign true = refl
      own_sign false = refl

  other : (n : ℕ) (some a b : Bool) (es : List (Entry StateSet)) → same_sign a b ≡ false → look_up (entry_at fair at n some a ∷ es) n b ≡ look_up es n b
  other n some a b es h = cond-false (eqb n n && same_sign a b) (entry_of (entry_at fair at n some a).rule) (look_up es n b) (ap (λ x. eqb n n && x) h ∙ never (eqb n n))
    where
      never : (x : Bool) → (x && false) ≡ false
      never true = refl
      never false = refl

  pub own_there : (n : ℕ) (some plus minus sign : Bool) (es : List (Entry StateSet)) → wants plus minus sign ≡ true
      → look_up (own_entries fair at n some plus minus ++ es) n sign ≡ entry_of (entry_at fair at n some sign).rule
  own_there n some true true true es h = here n some true (entry_at fair at n some false ∷ es)
  own_there n some true false true es h = here n some true es
  own_there n some true true false es h = other n some true false (entry_at fair at n some false ∷ es) refl ∙ here n some false es
  own_there n some false true false es h = here n some false es
  own_there n some false minus true es h = absurd (false≢true h)
  own_there n some plus false false es h = absurd (false≢true h)

  pub own_absent : (n high : ℕ) (some plus minus sign : Bool) (es : List (Entry StateSet)) → Within (n + 1) high es → wants plus minus sign ≡ false
      → look_up (own_entries fair at n some plus minus ++ es) n sign ≡ claims.Entry.Absent
  own_absent n high some false false sign es within h = look_none (n + 1) high es n sign within (inl (omega arith))
  own_absent n high some true false false es within h = other n some true false es refl ∙ look_none (n + 1) high es n false within (inl (omega arith))
  own_absent n high some false true true es within h = other n some false true es refl ∙ look_none (n + 1) high es n true within (inl (omega arith))
  own_absent n high some true minus true es within h = absurd (false≢true (sym h))
  own_absent n high some plus true false es within h = absurd (false≢true (sym h))
