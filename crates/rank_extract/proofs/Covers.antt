-- The entries that are wanted meet their rules, and the sets that they claim have the states of the nodes' sets.
use Rattle.std.proofs.Common.{◌≡◌, inl, inr, ℕ, ◌+◌, ◌<◌, ◌≤◌, Bool, true, false, not, ◌||◌, List, ◌++◌, map, length, refl, sym, ◌∙◌, ap, subst, arith}
use Rattle.std.proofs.lemmas.Bool.{cases_Bool, or_left, or_right, or_cases, and_parts, and_from}
use Rattle.kripke_model.specs.Ctl.{Ctl}
use Rattle.kripke_model.specs.Evaluation.{eval}
use Rattle.kripke_model.specs.Signs.{ProofRule, rule_of, until_rule, node_count}
use Rattle.kripke_model.specs.Step.{IsState}
use Rattle.kripke_model.specs.System.{System, State}
use Rattle.kripke_model.specs.Term.{Term}
use Rattle.path_laws.specs.StateSet.{StateSet, ◌∈◌}
use Rattle.fair_rules.specs.SetLists.{set_at, IsInside}
use Rattle.fair_rules.specs.Rules.{Layer, InSomeLayer}
use Rattle.fair_rules.specs.Claims.{Entry, Proof, either, both, entry_set, is_one, claimed, absent_argument, Meets, AreMet}
use Rattle.fair_rules.specs.Block.{same_sign}
use Rattle.fair_rules.proofs.ClaimsSound.{one_is}
use Rattle.fair_fixpoint.specs.Runs.{complement}
use Rattle.fair_fixpoint.specs.Nodes.{NodeView, AreParted, AreComputed}
use Rattle.fair_fixpoint.specs.NodeRules.{MeetsRule, AreRuled, sign_set}
use Rattle.fair_fixpoint.specs.Formulas.{is_existential}
use Rattle.fair_fixpoint.proofs.NodeTruth.{computed_parted}
use Rattle.proof_form.specs.Form.{Entry as Written}
use Rattle.rank_extract.specs.Given.{own_entries, wanted, wants}
use Rattle.rank_extract.proofs.Lookups.{Within, look_up, look_past, look_before, own_within, parts_within, wanted_within, own_there, own_absent}
use Rattle.rank_extract.proofs.NodeEntries.{FitsRule, quant_fits, until_fits, proof, given_meets, given_covers}

-- ---- signs

pub any_wanted : (plus minus sign : Bool) → wants plus minus sign ≡ true → (plus || minus) ≡ true
any_wanted plus minus true h = or_left plus minus h
any_wanted plus minus false h = or_right plus minus h

pub both_wanted : (both sign : Bool) → both ≡ true → wants both both sign ≡ true
both_wanted both true h = h
both_wanted both false h = h

pub other_wanted : (plus minus sign : Bool) → wants plus minus sign ≡ true → wants minus plus (not sign) ≡ true
other_wanted plus minus true h = h
other_wanted plus minus false h = h

absent_meets : (m : System) (vs avs : List StateSet) (p : Proof) (rule : ProofRule) (f g : StateSet) → Meets m vs avs p rule Entry.Absent f g
absent_meets m vs avs p ProofRule.EX f g = tt
absent_meets m vs avs p _ f g = tt

module _ (m : System) (visited vs avs : List StateSet) (Z fair : StateSet) (nonfair : List Layer) (reaches : List (List StateSet)) (look : ℕ → Bool → Entry)
    (shorter : length vs ≤ length visited)
    (visits : (k : ℕ) → IsInside m (set_at visited k) (λ s. s ∈ set_at vs k))
    (avoids : (k : ℕ) → IsInside m (set_at (map complement visited) k) (λ s. s ∈ set_at avs k))
    (apart : (s : State) → s ∈ fair → InSomeLayer nonfair s → ⊥)
    (at : ℕ → NodeView) where
  abbrev p : Proof
  p = proof m visited vs avs fair nonfair reaches look shorter visits avoids apart

  -- the proof has these entries for the nodes of the numbers, and no others there
  abbrev LooksIn : ℕ → ℕ → List (Written StateSet) → Type 0
  LooksIn low high es = (i : ℕ) (sign : Bool) → low ≤ i → i < high → look i sign ≡ look_up es i sign

  -- and those that are wanted for the formula's nodes
  abbrev pub Looks : Ctl → ℕ → Bool → Bool → Type 0
  Looks f n plus minus = LooksIn n (n + node_count f) (wanted fair at f n plus minus)

  -- for fewer numbers
  inner : {low high n k : ℕ} (es : List (Written StateSet)) → low ≤ n → k ≤ high → LooksIn low high es → LooksIn n k es
  inner {low} {high} {n} {k} es l h looks i sign a b = looks i sign (omega (arith, l, a)) (omega (arith, b, h))

  abbrev Covered : Ctl → ℕ → Bool → Type 0
  Covered f n sign = IsInside m (sign_set sign (at n)) (λ s. s ∈ claimed m p f n sign)

  module _ (f g : Ctl) (n : ℕ) (a b c d : Bool)
      (looks : LooksIn (n + 1) (n + 1 + node_count f + node_count g) (wanted fair at f (n + 1) a b ++ wanted fair at g (n + 1 + node_count f) c d)) where
    left_looks : Looks f (n + 1) a b
    left_looks i sign low high =
        looks i sign low (omega (arith, high))
        ∙ look_before (n + 1 + node_count f) (n + 1 + node_count f + node_count g) (wanted fair at f (n + 1) a b) (wanted fair at g (n + 1 + node_count f) c d) i sign
        (wanted_within fair at g (n + 1 + node_count f) c d) (inl high)

    right_looks : Looks g (n + 1 + node_count f) c d
    right_looks i sign low high =
        looks i sign (omega (arith, low)) high
        ∙ look_past (n + 1) (n + 1 + node_count f) (wanted fair at f (n + 1) a b) (wanted fair at g (n + 1 + node_count f) c d) i sign
        (wanted_within fair at f (n + 1) a b) (inr low)

  -- behind a node's own entries
  rest_looks : (n high : ℕ) (some plus minus : Bool) (es : List (Written StateSet))
      → LooksIn n high (own_entries fair at n some plus minus ++ es) → LooksIn (n + 1) high es
  rest_looks n high some plus minus es looks i sign low less =
      looks i sign (omega (arith, low)) less ∙ look_past n (n + 1) (own_entries fair at n some plus minus) es i sign (own_within fair at n some plus minus) (inr low)

  module _ (n high : ℕ) (some plus minus sign : Bool) (es : List (Written StateSet)) (rule : ProofRule) (f g f' g' : StateSet)
      (own : look n sign ≡ look_up (own_entries fair at n some plus minus ++ es) n sign) (fits : FitsRule (length visited) rule (same_sign some sign) (at n).ranks)
      (ruled : MeetsRule m visited nonfair fair rule f g (sign_set sign (at n)) (at n).ranks) where
    temporal_covers : wants plus minus sign ≡ true → IsInside m f (λ s. s ∈ f') → IsInside m g (λ s. s ∈ g')
        → IsInside m (sign_set sign (at n)) (λ s. s ∈ entry_set nonfair (look n sign) g')
    temporal_covers w more_f more_g s is_state e =
        subst (λ x. s ∈ entry_set nonfair x g') (sym (own ∙ own_there fair at n some plus minus sign es w))
        (given_covers m visited vs avs fair nonfair reaches look shorter visits avoids apart f g f' g' (sign_set sign (at n)) more_f more_g (length visited) rule (same_sign some sign) (at n).ranks fits ruled s is_state e)

    temporal_meets : Within (n + 1) high es → (wants plus minus sign ≡ true → IsInside m f (λ s. s ∈ f')) → (wants plus minus sign ≡ true → IsInside m g (λ s. s ∈ g'))
        → Meets m vs avs p rule (look n sign) f' g'
    temporal_meets within more_f more_g = elim (cases_Bool (wants plus minus sign)) [
      | inl w ↦ subst (λ x. Meets m vs avs p rule x f' g') (sym (own ∙ own_there fair at n some plus minus sign es w))
          (given_meets m visited vs avs fair nonfair reaches look shorter visits avoids apart f g f' g' (sign_set sign (at n)) (more_f w) (more_g w) (length visited) rule (same_sign some sign) (at n).ranks fits ruled)
      | inr w ↦ subst (λ x. Meets m vs avs p rule x f' g') (sym (own ∙ own_absent fair at n high some plus minus sign es within w)) (absent_meets m vs avs p rule f' g')
    ]

  -- ---- connectives: by the sets of the parts, and where both sets of a part have all of Z

  module _ (f g : Ctl) (n : ℕ) (parted : AreParted m Z (at n).plus (at n).minus) (computed_f : AreComputed m visited Z fair at f (n + 1)) (computed_g : AreComputed m visited Z fair at g (n + 1 + node_count f)) where
    abbrev v : NodeView
    v = at n

    abbrev a : NodeView
    a = at (n + 1)

    abbrev b : NodeView
    b = at (n + 1 + node_count f)

    -- what is claimed of the parts
    abbrev A : StateSet
    A = claimed m p f (n + 1) true

    abbrev A' : StateSet
    A' = claimed m p f (n + 1) false

    abbrev B : StateSet
    B = claimed m p g (n + 1 + node_count f) true

    abbrev B' : StateSet
    B' = claimed m p g (n + 1 + node_count f) false

    -- where the node is false each part is true or false
    by_parts : (P : Type 0) (s : State) → IsState m s → s ∈ v.minus
        → (s ∈ a.plus → s ∈ b.plus → P) → (s ∈ a.plus → s ∈ b.minus → P) → (s ∈ a.minus → s ∈ b.plus → P) → (s ∈ a.minus → s ∈ b.minus → P) → P
    by_parts P s is_state e pp pm mp mm =
        let z = parted.inside s is_state (or_right (v.plus s) (v.minus s) e) in
        let of_f = computed_parted m visited Z fair at f (n + 1) computed_f in
        let of_g = computed_parted m visited Z fair at g (n + 1 + node_count f) computed_g in
        elim (of_f.covers s is_state z) [
          | inl ap ↦ elim (of_g.covers s is_state z) [ inl bp ↦ pp ap bp | inr bm ↦ pm ap bm ]
          | inr am ↦ elim (of_g.covers s is_state z) [ inl bp ↦ mp am bp | inr bm ↦ mm am bm ]
        ]

    not_plus : (F : StateSet) (P : Type 0) → v.plus ≡ F → (s : State) → IsState m s → s ∈ v.minus → s ∈ F → P
    not_plus F P is s is_state e there = absurd (parted.apart s is_state (subst (λ G. s ∈ G) (sym is) there) e)

    and_covers : v.plus ≡ both a.plus b.plus → (sign : Bool) → Covered f (n + 1) sign → Covered g (n + 1 + node_count f) sign → Covered (Ctl.And f g) n sign
    and_covers is true fa fb s is_state e =
        let h = and_parts (a.plus s) (b.plus s) (subst (λ G. s ∈ G) is e) in and_from (A s) (B s) (fa s is_state h.0) (fb s is_state h.1)
    and_covers is false fa fb s is_state e = by_parts (s ∈ either A' B') s is_state e
        (λ x y. not_plus (both a.plus b.plus) (s ∈ either A' B') is s is_state e (and_from (a.plus s) (b.plus s) x y))
        (λ x y. or_right (A' s) (B' s) (fb s is_state y))
        (λ x y. or_left (A' s) (B' s) (fa s is_state x))
        (λ x y. or_left (A' s) (B' s) (fa s is_state x))

    or_covers : v.plus ≡ either a.plus b.plus → (sign : Bool) → Covered f (n + 1) sign → Covered g (n + 1 + node_count f) sign → Covered (Ctl.Or f g) n sign
    or_covers is true fa fb s is_state e = elim (or_cases (a.plus s) (b.plus s) (subst (λ G. s ∈ G) is e)) [
      | inl x ↦ or_left (A s) (B s) (fa s is_state x)
      | inr y ↦ or_right (A s) (B s) (fb s is_state y)
    ]
    or_covers is false fa fb s is_state e = by_parts (s ∈ both A' B') s is_state e
        (λ x y. not_plus (either a.plus b.plus) (s ∈ both A' B') is s is_state e (or_left (a.plus s) (b.plus s) x))
        (λ x y. not_plus (either a.plus b.plus) (s ∈ both A' B') is s is_state e (or_left (a.plus s) (b.plus s) x))
        (λ x y. not_plus (either a.plus b.plus) (s ∈ both A' B') is s is_state e (or_right (a.plus s) (b.plus s) y))
        (λ x y. and_from (A' s) (B' s) (fa s is_state x) (fb s is_state y))

    implies_covers : v.plus ≡ either a.minus b.plus → (sign : Bool) → Covered f (n + 1) (not sign) → Covered g (n + 1 + node_count f) sign → Covered (Ctl.Implies f g) n sign
    implies_covers is true fa fb s is_state e = elim (or_cases (a.minus s) (b.plus s) (subst (λ G. s ∈ G) is e)) [
      | inl x ↦ or_left (A' s) (B s) (fa s is_state x)
      | inr y ↦ or_right (A' s) (B s) (fb s is_state y)
    ]
    implies_covers is false fa fb s is_state e = by_parts (s ∈ both A B') s is_state e
        (λ x y. not_plus (either a.minus b.plus) (s ∈ both A B') is s is_state e (or_right (a.minus s) (b.plus s) y))
        (λ x y. and_from (A s) (B' s) (fa s is_state x) (fb s is_state y))
        (λ x y. not_plus (either a.minus b.plus) (s ∈ both A B') is s is_state e (or_left (a.minus s) (b.plus s) x))
        (λ x y. not_plus (either a.minus b.plus) (s ∈ both A B') is s is_state e (or_left (a.minus s) (b.plus s) x))

    iff_covers : v.plus ≡ either (both a.plus b.plus) (both a.minus b.minus) → (sign : Bool) → ((sign : Bool) → Covered f (n + 1) sign) → ((sign : Bool) → Covered g (n + 1 + node_count f) sign)
        → Covered (Ctl.Iff f g) n sign
    iff_covers is true fa fb s is_state e = elim (or_cases (both a.plus b.plus s) (both a.minus b.minus s) (subst (λ G. s ∈ G) is e)) [
      | inl x ↦ (let h = and_parts (a.plus s) (b.plus s) x in or_left (both A B s) (both A' B' s) (and_from (A s) (B s) (fa true s is_state h.0) (fb true s is_state h.1)))
      | inr y ↦ (let h = and_parts (a.minus s) (b.minus s) y in or_right (both A B s) (both A' B' s) (and_from (A' s) (B' s) (fa false s is_state h.0) (fb false s is_state h.1)))
    ]
    iff_covers is false fa fb s is_state e = by_parts (s ∈ either (both A B') (both A' B)) s is_state e
        (λ x y. not_plus (either (both a.plus b.plus) (both a.minus b.minus)) (s ∈ either (both A B') (both A' B)) is s is_state e (or_left (both a.plus b.plus s) (both a.minus b.minus s) (and_from (a.plus s) (b.plus s) x y)))
        (λ x y. or_left (both A B' s) (both A' B s) (and_from (A s) (B' s) (fa true s is_state x) (fb false s is_state y)))
        (λ x y. or_right (both A B' s) (both A' B s) (and_from (A' s) (B s) (fa false s is_state x) (fb true s is_state y)))
        (λ x y. not_plus (either (both a.plus b.plus) (both a.minus b.minus)) (s ∈ either (both A B') (both A' B)) is s is_state e (or_right (both a.plus b.plus s) (both a.minus b.minus s) (and_from (a.minus s) (b.minus s) x y)))

  -- ---- leaves

  leaf_covers : (e : Term) (n : ℕ) → AreComputed m visited Z fair at (Ctl.Leaf e) n → (sign : Bool) → Covered (Ctl.Leaf e) n sign
  leaf_covers e n c true s is_state h =
      subst (λ x. is_one x ≡ true) (sym ((c.2 s is_state (c.0.inside s is_state (or_left ((at n).plus s) ((at n).minus s) h))).0 h)) refl
  leaf_covers e n c false s is_state h = elim (cases_Bool (is_one (eval m e s s))) [
    | inl one ↦ absurd (c.0.apart s is_state ((c.2 s is_state (c.0.inside s is_state (or_right ((at n).plus s) ((at n).minus s) h))).1 (one_is (eval m e s s) one)) h)
    | inr none ↦ ap not none
  ]

  -- ---- all nodes

  pub covers : (f : Ctl) (n : ℕ) (plus minus : Bool) → AreComputed m visited Z fair at f n → AreRuled m visited nonfair fair at f n → Looks f n plus minus
      → (sign : Bool) → wants plus minus sign ≡ true → Covered f n sign
  covers (Ctl.Leaf e) n plus minus c r looks sign w = leaf_covers e n c sign
  covers (Ctl.Not f) n plus minus c r looks true w = λ s is_state e.
      covers f (n + 1) minus plus c.2 r (inner _ (omega arith) (omega arith) looks) false w s is_state (subst (λ G. s ∈ G) c.1.0 e)
  covers (Ctl.Not f) n plus minus c r looks false w = λ s is_state e.
      let z = c.0.inside s is_state (or_right ((at n).plus s) ((at n).minus s) e) in
      elim ((computed_parted m visited Z fair at f (n + 1) c.2).covers s is_state z) [
        | inl there ↦ covers f (n + 1) minus plus c.2 r (inner _ (omega arith) (omega arith) looks) true w s is_state there
        | inr out ↦ absurd (c.0.apart s is_state (subst (λ G. s ∈ G) (sym c.1.0) out) e)
      ]
  covers (Ctl.And f g) n plus minus c r looks sign w =
      let l = inner _ (omega arith) (omega arith) looks in
      and_covers f g n c.0 c.2 c.3 c.1.0 sign (covers f (n + 1) plus minus c.2 r.0 (left_looks f g n plus minus plus minus l) sign w)
      (covers g (n + 1 + node_count f) plus minus c.3 r.1 (right_looks f g n plus minus plus minus l) sign w)
  covers (Ctl.Or f g) n plus minus c r looks sign w =
      let l = inner _ (omega arith) (omega arith) looks in
      or_covers f g n c.0 c.2 c.3 c.1.0 sign (covers f (n + 1) plus minus c.2 r.0 (left_looks f g n plus minus plus minus l) sign w)
      (covers g (n + 1 + node_count f) plus minus c.3 r.1 (right_looks f g n plus minus plus minus l) sign w)
  covers (Ctl.Implies f g) n plus minus c r looks sign w =
      let l = inner _ (omega arith) (omega arith) looks in
      implies_covers f g n c.0 c.2 c.3 c.1.0 sign (covers f (n + 1) minus plus c.2 r.0 (left_looks f g n minus plus plus minus l) (not sign) (other_wanted plus minus sign w))
      (covers g (n + 1 + node_count f) plus minus c.3 r.1 (right_looks f g n minus plus plus minus l) sign w)
  covers (Ctl.Iff f g) n plus minus c r looks sign w =
      let e = plus || minus in
      let l = inner _ (omega arith) (omega arith) looks in
      let any = any_wanted plus minus sign w in
      iff_covers f g n c.0 c.2 c.3 c.1.0 sign (λ b. covers f (n + 1) e e c.2 r.0 (left_looks f g n e e e e l) b (both_wanted e b any))
      (λ b. covers g (n + 1 + node_count f) e e c.3 r.1 (right_looks f g n e e e e l) b (both_wanted e b any))
  covers (Ctl.Quant op f) n plus minus c r looks sign w =
      let es = wanted fair at f (n + 1) plus minus in
      let rest = rest_looks n (n + node_count (Ctl.Quant op f)) (is_existential op) plus minus es looks in
      temporal_covers n (n + node_count (Ctl.Quant op f)) (is_existential op) plus minus sign es (rule_of op sign)
      (absent_argument (rule_of op sign)) (sign_set sign (at (n + 1))) (absent_argument (rule_of op sign)) (claimed m p f (n + 1) sign)
      (looks n sign (omega arith) (omega arith)) (quant_fits m visited Z fair op (at (n + 1)) (at n) sign c.1) (r.0 sign) w (λ s is_state e. e)
      (covers f (n + 1) plus minus c.2 r.1 (inner _ (omega arith) (omega arith) rest) sign w)
  covers (Ctl.Until all f g) n plus minus c r looks sign w =
      let x = n + 1 in
      let y = n + 1 + node_count f in
      let es = wanted fair at f x plus minus ++ wanted fair at g y plus minus in
      let l : LooksIn x (y + node_count g) es = inner es (omega arith) (omega arith) (rest_looks n (n + node_count (Ctl.Until all f g)) (not all) plus minus es looks) in
      temporal_covers n (n + node_count (Ctl.Until all f g)) (not all) plus minus sign es (until_rule all sign)
      (sign_set sign (at x)) (sign_set sign (at y)) (claimed m p f x sign) (claimed m p g y sign)
      (looks n sign (omega arith) (omega arith)) (until_fits m visited fair all (at x) (at y) (at n) sign c.1) (r.0 sign) w
      (covers f x plus minus c.2 r.1 (left_looks f g n plus minus plus minus l) sign w) (covers g y plus minus c.3 r.2 (right_looks f g n plus minus plus minus l) sign w)

  -- each entry meets its rule
  pub meets : (f : Ctl) (n : ℕ) (plus minus : Bool) → AreComputed m visited Z fair at f n → AreRuled m visited nonfair fair at f n → Looks f n plus minus → AreMet m vs avs p f n
  meets (Ctl.Leaf e) n plus minus c r looks = tt
  meets (Ctl.Not f) n plus minus c r looks = meets f (n + 1) minus plus c.2 r (inner _ (omega arith) (omega arith) looks)
  meets (Ctl.And f g) n plus minus c r looks =
      let l = inner _ (omega arith) (omega arith) looks in
      (meets f (n + 1) plus minus c.2 r.0 (left_looks f g n plus minus plus minus l), meets g (n + 1 + node_count f) plus minus c.3 r.1 (right_looks f g n plus minus plus minus l))
  meets (Ctl.Or f g) n plus minus c r looks =
      let l = inner _ (omega arith) (omega arith) looks in
      (meets f (n + 1) plus minus c.2 r.0 (left_looks f g n plus minus plus minus l), meets g (n + 1 + node_count f) plus minus c.3 r.1 (right_looks f g n plus minus plus minus l))
  meets (Ctl.Implies f g) n plus minus c r looks =
      let l = inner _ (omega arith) (omega arith) looks in
      (meets f (n + 1) minus plus c.2 r.0 (left_looks f g n minus plus plus minus l), meets g (n + 1 + node_count f) plus minus c.3 r.1 (right_looks f g n minus plus plus minus l))
  meets (Ctl.Iff f g) n plus minus c r looks =
      let e = plus || minus in
      let l = inner _ (omega arith) (omega arith) looks in
      (meets f (n + 1) e e c.2 r.0 (left_looks f g n e e e e l), meets g (n + 1 + node_count f) e e c.3 r.1 (right_looks f g n e e e e l))
  meets (Ctl.Quant op f) n plus minus c r looks =
      let es = wanted fair at f (n + 1) plus minus in
      let rest = rest_looks n (n + node_count (Ctl.Quant op f)) (is_existential op) plus minus es looks in
      let part : Looks f (n + 1) plus minus = inner _ (omega arith) (omega arith) rest in (
        λ sign. temporal_meets n (n + 1 + node_count f) (is_existential op) plus minus sign es (rule_of op sign)
            (absent_argument (rule_of op sign)) (sign_set sign (at (n + 1))) (absent_argument (rule_of op sign)) (claimed m p f (n + 1) sign)
            (looks n sign (omega arith) (omega arith)) (quant_fits m visited Z fair op (at (n + 1)) (at n) sign c.1) (r.0 sign)
            (wanted_within fair at f (n + 1) plus minus) (λ w s is_state e. e) (covers f (n + 1) plus minus c.2 r.1 part sign),
        meets f (n + 1) plus minus c.2 r.1 part,
      )
  meets (Ctl.Until all f g) n plus minus c r looks =
      let x = n + 1 in
      let y = n + 1 + node_count f in
      let es = wanted fair at f x plus minus ++ wanted fair at g y plus minus in
      let l : LooksIn x (y + node_count g) es = inner es (omega arith) (omega arith) (rest_looks n (n + node_count (Ctl.Until all f g)) (not all) plus minus es looks) in
      let lf : Looks f (n + 1) plus minus = left_looks f g n plus minus plus minus l in
      let lg : Looks g (n + 1 + node_count f) plus minus = right_looks f g n plus minus plus minus l in (
        λ sign. temporal_meets n (n + 1 + node_count f + node_count g) (not all) plus minus sign es (until_rule all sign)
            (sign_set sign (at x)) (sign_set sign (at y)) (claimed m p f x sign) (claimed m p g y sign)
            (looks n sign (omega arith) (omega arith)) (until_fits m visited fair all (at x) (at y) (at n) sign c.1) (r.0 sign)
            (parts_within fair at f g n plus minus) (covers f x plus minus c.2 r.1 lf sign) (covers g y plus minus c.3 r.2 lg sign),
        meets f x plus minus c.2 r.1 lf,
        meets g y plus minus c.3 r.2 lg,
      )
