-- A proof that meets its obligations proves its claim.
use Rattle.std.proofs.Common.{◌≡◌, inl, inr, ℕ, zero, suc, ◌+◌, Bool, true, false, not, ◌||◌, List, [], ◌∷◌, Ok, pos, refl, subst}
use Rattle.std.specs.List.{list_any}
use Rattle.std.proofs.lemmas.Bool.{or_cases, and_parts, false≢true}
use Rattle.kripke_model.specs.declared.expressions.PathOp.{PathOp}
use Rattle.kripke_model.specs.declared.expressions.Value.{Value}
use Rattle.kripke_model.specs.declared.expressions.Value.TheVariants.{Number}
use Rattle.kripke_model.specs.Ctl.{Ctl}
use Rattle.kripke_model.specs.Evaluation.{Checked, eval}
use Rattle.kripke_model.specs.System.{System, State}
use Rattle.kripke_model.specs.Step.{IsState}
use Rattle.kripke_model.specs.Path.{Lasso, at, IsPath}
use Rattle.kripke_model.specs.Signs.{ProofRule, rule_of, until_rule, node_count}
use Rattle.kripke_model.specs.Truth.{Next, Until, Exists, Always, quantified, SatOver}
use Rattle.kripke_model.proofs.Lassos.{all_states}
use Rattle.path_laws.specs.StateSet.{StateSet, ◌∈◌}
use Rattle.fair_rules.specs.SetLists.{InSome, IsInside}
use Rattle.fair_rules.specs.ConstraintSets.{AreConstraintSets}
use Rattle.path_laws.specs.Fairness.{IsFairOver}
use Rattle.fair_rules.specs.Conclusions.{Release}
use Rattle.fair_rules.specs.Rules.{Layer, InSomeLayer, AreNonfair, IsFairSet}
use Rattle.fair_rules.specs.Claims.{Entry, Proof, both, join, join_layers, entry_set, is_one, claimed, Meets, absent_argument, AreMet}
use Rattle.fair_rules.proofs.RulesSound.{In, ex_sound, ax_sound, eu_sound, au_sound, er_sound, ar_sound}

-- ---- joins

pub in_join : (sets : List StateSet) (s : State) → s ∈ join sets → InSome sets s
in_join [] s e = absurd (false≢true e)
in_join (F ∷ sets) s e = elim (or_cases (F s) (list_any (λ G. G s) sets) e) [
  | inl here ↦ (0, here)
  | inr there ↦ (let r : InSome sets s = in_join sets s there in (suc r.0, r.1))
]

pub in_join_layers : (layers : List Layer) (s : State) → s ∈ join_layers layers → InSomeLayer layers s
in_join_layers [] s e = absurd (false≢true e)
in_join_layers (l ∷ layers) s e = elim (or_cases (l.states s) (list_any (λ k. k.states s) layers) e) [
  | inl here ↦ (0, here)
  | inr there ↦ (let r : InSomeLayer layers s = in_join_layers layers s there in (suc r.0, r.1))
]

-- ---- leaves

pub one_is : (c : Checked (List Value)) → is_one c ≡ true → c ≡ Ok (Number (pos 1) ∷ [])
one_is (Ok (Number (pos (suc zero)) ∷ [])) e = refl
one_is _ e = absurd (false≢true e)

not_one : (c : Checked (List Value)) → not (is_one c) ≡ true → c ≡ Ok (Number (pos 1) ∷ []) → ⊥
not_one c e sat = absurd (false≢true (subst (λ x. not (is_one x) ≡ true) sat e))

-- ---- what each rule proves

abbrev pub Concludes : (Lasso → Type 0) → ProofRule → StateSet → StateSet → State → Type 0
Concludes Q ProofRule.EX f g = Exists Q (Next (In g))
Concludes Q ProofRule.AX f g = Always Q (Next (In g))
Concludes Q ProofRule.EU f g = Exists Q (Until (In f) (In g))
Concludes Q ProofRule.AU f g = Always Q (Until (In f) (In g))
Concludes Q ProofRule.ER f g = Exists Q (Release (In f) (In g))
Concludes Q ProofRule.AR f g = Always Q (Release (In f) (In g))

module _ (m : System) (count : ℕ) (C : ℕ → State → Type 0) (visited avoided : List StateSet) (sets : AreConstraintSets m count C visited avoided) where
  pub rule_sound : (p : Proof) → AreNonfair m avoided p.nonfair → IsFairSet m visited p.fair p.reaches
      → (rule : ProofRule) (entry : Entry) (f g : StateSet) → Meets m visited avoided p rule entry f g
      → (s : State) → IsState m s → s ∈ entry_set p.nonfair entry g → Concludes (IsFairOver m count C) rule f g s
  rule_sound p none some rule Entry.Absent f g h s is_state e = absurd (false≢true e)
  rule_sound p none some ProofRule.EX (Entry.EX set) f g h s is_state e = ex_sound m count C visited avoided sets p.fair p.reaches some g set h s is_state e
  rule_sound p none some ProofRule.AX (Entry.AX set) f g h s is_state e = ax_sound m count C visited avoided sets p.nonfair none g set h s is_state e
  rule_sound p none some ProofRule.EU (Entry.EU eu) f g h s is_state e = eu_sound m count C visited avoided sets p.fair p.reaches some f g eu h s is_state (in_join eu s e)
  rule_sound p none some ProofRule.AU (Entry.AU layers) f g h s is_state e =
      au_sound m count C visited avoided sets p.nonfair none f g layers h s is_state (elim (or_cases (g s) (join_layers p.nonfair s || join_layers layers s) e) [
        | inl there ↦ inl there
        | inr more ↦ elim (or_cases (join_layers p.nonfair s) (join_layers layers s) more) [
          | inl lost ↦ inr (inl (in_join_layers p.nonfair s lost))
          | inr inside ↦ inr (inr (in_join_layers layers s inside))
        ]
      ])
  rule_sound p none some ProofRule.AR (Entry.AR set) f g h s is_state e =
      ar_sound m count C visited avoided sets p.nonfair none f g set h s is_state (elim (or_cases (set s) (join_layers p.nonfair s) e) [
        | inl inside ↦ inl inside
        | inr lost ↦ inr (in_join_layers p.nonfair s lost)
      ])
  rule_sound p none some ProofRule.ER (Entry.ER set own untils) f g h s is_state e =
      er_sound m count C visited avoided sets p.fair p.reaches some f g set own untils h s is_state (elim (or_cases (set s) (join untils s) e) [
        | inl inside ↦ inl inside
        | inr until ↦ inr (in_join untils s until)
      ])
  rule_sound p none some _ _ f g h s is_state e = absurd h

-- ---- from a rule to the operator that it is the rule of

module _ (m : System) (Q : Lasso → Type 0) (is_path : (p : Lasso) → Q p → IsPath m p) where
  pub quant_true : (op : PathOp) (F : StateSet) (P : State → Type 0) → IsInside m F P
      → (s : State) → Concludes Q (rule_of op true) (absent_argument (rule_of op true)) F s → quantified op Q P s
  quant_true PathOp.EX F P sub s (p, fair, starts, c) = (p, fair, starts, sub (at p 1) (all_states (is_path p fair) 1) c)
  quant_true PathOp.AX F P sub s h = λ p fair starts. sub (at p 1) (all_states (is_path p fair) 1) (h p fair starts)
  quant_true PathOp.EF F P sub s (p, fair, starts, (n, c, before)) = (p, fair, starts, (n, sub (at p n) (all_states (is_path p fair) n) c))
  quant_true PathOp.AF F P sub s h = λ p fair starts. let u = h p fair starts in (u.0, sub (at p u.0) (all_states (is_path p fair) u.0) u.1)
  quant_true PathOp.EG F P sub s (p, fair, starts, release) = (
    p,
    fair,
    starts,
    λ n. elim (release n) [
      | inl there ↦ sub (at p n) (all_states (is_path p fair) n) there
      | inr (i, l, e) ↦ absurd (false≢true e)
    ],
  )
  quant_true PathOp.AG F P sub s h = λ p fair starts n. elim (h p fair starts n) [
    | inl there ↦ sub (at p n) (all_states (is_path p fair) n) there
    | inr (i, l, e) ↦ absurd (false≢true e)
  ]

  pub quant_false : (op : PathOp) (F : StateSet) (P : State → Type 0) → IsInside m F (λ s. P s → ⊥)
      → (s : State) → Concludes Q (rule_of op false) (absent_argument (rule_of op false)) F s → quantified op Q P s → ⊥
  quant_false PathOp.EX F P out s h (p, fair, starts, c) = out (at p 1) (all_states (is_path p fair) 1) (h p fair starts) c
  quant_false PathOp.AX F P out s (p, fair, starts, c) sat = out (at p 1) (all_states (is_path p fair) 1) c (sat p fair starts)
  quant_false PathOp.EF F P out s h (p, fair, starts, (n, c)) = elim (h p fair starts n) [
    | inl there ↦ out (at p n) (all_states (is_path p fair) n) there c
    | inr (i, l, e) ↦ absurd (false≢true e)
  ]
  quant_false PathOp.AF F P out s (p, fair, starts, release) sat =
      let u = sat p fair starts in
      elim (release u.0) [
        | inl there ↦ out (at p u.0) (all_states (is_path p fair) u.0) there u.1
        | inr (i, l, e) ↦ absurd (false≢true e)
      ]
  quant_false PathOp.EG F P out s h (p, fair, starts, always) = let u = h p fair starts in out (at p u.0) (all_states (is_path p fair) u.0) u.1 (always u.0)
  quant_false PathOp.AG F P out s (p, fair, starts, (n, c, before)) sat = out (at p n) (all_states (is_path p fair) n) c (sat p fair starts n)

  pub until_true : (all : Bool) (F G : StateSet) (f g : Ctl) → IsInside m F (SatOver m Q f) → IsInside m G (SatOver m Q g)
      → (s : State) → Concludes Q (until_rule all true) F G s → SatOver m Q (Ctl.Until all f g) s
  until_true true F G f g sub_f sub_g s h = λ p fair starts.
      let u = h p fair starts in
      (u.0, sub_g (at p u.0) (all_states (is_path p fair) u.0) u.1, λ i l. sub_f (at p i) (all_states (is_path p fair) i) (u.2 i l))
  until_true false F G f g sub_f sub_g s (p, fair, starts, (n, c, before)) =
      (p, fair, starts, (n, sub_g (at p n) (all_states (is_path p fair) n) c, λ i l. sub_f (at p i) (all_states (is_path p fair) i) (before i l)))

  pub until_false : (all : Bool) (F G : StateSet) (f g : Ctl) → IsInside m F (λ s. SatOver m Q f s → ⊥) → IsInside m G (λ s. SatOver m Q g s → ⊥)
      → (s : State) → Concludes Q (until_rule all false) F G s → SatOver m Q (Ctl.Until all f g) s → ⊥
  until_false true F G f g out_f out_g s (p, fair, starts, release) sat =
      let u = sat p fair starts in
      elim (release u.0) [
        | inl there ↦ out_g (at p u.0) (all_states (is_path p fair) u.0) there u.1
        | inr (i, l, freed) ↦ out_f (at p i) (all_states (is_path p fair) i) freed (u.2 i l)
      ]
  until_false false F G f g out_f out_g s h (p, fair, starts, (n, c, before)) = elim (h p fair starts n) [
    | inl there ↦ out_g (at p n) (all_states (is_path p fair) n) there c
    | inr (i, l, freed) ↦ out_f (at p i) (all_states (is_path p fair) i) freed (before i l)
  ]

-- ---- the claimed sets of every node

module _ (m : System) (count : ℕ) (C : ℕ → State → Type 0) (visited avoided : List StateSet) (sets : AreConstraintSets m count C visited avoided) (p : Proof)
    (none : AreNonfair m avoided p.nonfair) (some : IsFairSet m visited p.fair p.reaches) where
  abbrev Fair : Lasso → Type 0
  Fair = IsFairOver m count C

  path_of : (p : Lasso) → Fair p → IsPath m p
  path_of p fair = fair.path

  -- the positive set lies in the states where the formula is true, and the negative one in those where it is false
  abbrev pub BothSigns : Ctl → ℕ → Type 0
  BothSigns f n = IsInside m (claimed m p f n true) (SatOver m Fair f) × IsInside m (claimed m p f n false) (λ s. SatOver m Fair f s → ⊥)

  pub claims_sound : (f : Ctl) (n : ℕ) → AreMet m visited avoided p f n → BothSigns f n
  claims_sound (Ctl.Leaf e) n met =
      (λ s is_state inside. one_is (eval m e s s) inside, λ s is_state inside sat. not_one (eval m e s s) inside sat)
  claims_sound (Ctl.Not f) n met =
      let h : BothSigns f (n + 1) = claims_sound f (n + 1) met in
      (h.1, λ s is_state inside sat. sat (h.0 s is_state inside))
  claims_sound (Ctl.And f g) n met =
      let h : BothSigns f (n + 1) = claims_sound f (n + 1) met.0 in
      let k : BothSigns g (n + 1 + node_count f) = claims_sound g (n + 1 + node_count f) met.1 in (
        λ s is_state inside. let b = and_parts (claimed m p f (n + 1) true s) (claimed m p g (n + 1 + node_count f) true s) inside in (h.0 s is_state b.0, k.0 s is_state b.1),
        λ s is_state inside sat. elim (or_cases (claimed m p f (n + 1) false s) (claimed m p g (n + 1 + node_count f) false s) inside) [
          | inl l ↦ h.1 s is_state l sat.0
          | inr r ↦ k.1 s is_state r sat.1
        ],
      )
  claims_sound (Ctl.Or f g) n met =
      let h : BothSigns f (n + 1) = claims_sound f (n + 1) met.0 in
      let k : BothSigns g (n + 1 + node_count f) = claims_sound g (n + 1 + node_count f) met.1 in (
        λ s is_state inside. elim (or_cases (claimed m p f (n + 1) true s) (claimed m p g (n + 1 + node_count f) true s) inside) [
          | inl l ↦ inl (h.0 s is_state l)
          | inr r ↦ inr (k.0 s is_state r)
        ],
        λ s is_state inside sat. let b = and_parts (claimed m p f (n + 1) false s) (claimed m p g (n + 1 + node_count f) false s) inside in elim sat [
          | inl l ↦ h.1 s is_state b.0 l
          | inr r ↦ k.1 s is_state b.1 r
        ],
      )
  claims_sound (Ctl.Implies f g) n met =
      let h : BothSigns f (n + 1) = claims_sound f (n + 1) met.0 in
      let k : BothSigns g (n + 1 + node_count f) = claims_sound g (n + 1 + node_count f) met.1 in (
        λ s is_state inside sat. elim (or_cases (claimed m p f (n + 1) false s) (claimed m p g (n + 1 + node_count f) true s) inside) [
          | inl l ↦ absurd (h.1 s is_state l sat)
          | inr r ↦ k.0 s is_state r
        ],
        λ s is_state inside sat. let b = and_parts (claimed m p f (n + 1) true s) (claimed m p g (n + 1 + node_count f) false s) inside in k.1 s is_state b.1 (sat (h.0 s is_state b.0)),
      )
  claims_sound (Ctl.Iff f g) n met =
      let h : BothSigns f (n + 1) = claims_sound f (n + 1) met.0 in
      let k : BothSigns g (n + 1 + node_count f) = claims_sound g (n + 1 + node_count f) met.1 in
      let f1 : StateSet = claimed m p f (n + 1) true in
      let f0 : StateSet = claimed m p f (n + 1) false in
      let g1 : StateSet = claimed m p g (n + 1 + node_count f) true in
      let g0 : StateSet = claimed m p g (n + 1 + node_count f) false in (
        λ s is_state inside. elim (or_cases (both f1 g1 s) (both f0 g0 s) inside) [
          | inl l ↦ (let b = and_parts (f1 s) (g1 s) l in (λ _. k.0 s is_state b.1, λ _. h.0 s is_state b.0))
          | inr r ↦ (let b = and_parts (f0 s) (g0 s) r in (λ sat. absurd (h.1 s is_state b.0 sat), λ sat. absurd (k.1 s is_state b.1 sat)))
        ],
        λ s is_state inside sat. elim (or_cases (both f1 g0 s) (both f0 g1 s) inside) [
          | inl l ↦ (let b = and_parts (f1 s) (g0 s) l in k.1 s is_state b.1 (sat.0 (h.0 s is_state b.0)))
          | inr r ↦ (let b = and_parts (f0 s) (g1 s) r in h.1 s is_state b.0 (sat.1 (k.0 s is_state b.1)))
        ],
      )
  claims_sound (Ctl.Quant op f) n met =
      let h : BothSigns f (n + 1) = claims_sound f (n + 1) met.1 in (
        λ s is_state inside. quant_true m Fair path_of op (claimed m p f (n + 1) true) (SatOver m Fair f) h.0 s
            (rule_sound m count C visited avoided sets p none some (rule_of op true) (p.entries n true) (absent_argument (rule_of op true)) (claimed m p f (n + 1) true) (met.0 true) s is_state inside),
        λ s is_state inside. quant_false m Fair path_of op (claimed m p f (n + 1) false) (SatOver m Fair f) h.1 s
            (rule_sound m count C visited avoided sets p none some (rule_of op false) (p.entries n false) (absent_argument (rule_of op false)) (claimed m p f (n + 1) false) (met.0 false) s is_state inside),
      )
  claims_sound (Ctl.Until all f g) n met =
      let h : BothSigns f (n + 1) = claims_sound f (n + 1) met.1 in
      let k : BothSigns g (n + 1 + node_count f) = claims_sound g (n + 1 + node_count f) met.2 in (
        λ s is_state inside. until_true m Fair path_of all (claimed m p f (n + 1) true) (claimed m p g (n + 1 + node_count f) true) f g h.0 k.0 s
            (rule_sound m count C visited avoided sets p none some (until_rule all true) (p.entries n true) (claimed m p f (n + 1) true) (claimed m p g (n + 1 + node_count f) true) (met.0 true) s is_state inside),
        λ s is_state inside. until_false m Fair path_of all (claimed m p f (n + 1) false) (claimed m p g (n + 1 + node_count f) false) f g h.1 k.1 s
            (rule_sound m count C visited avoided sets p none some (until_rule all false) (p.entries n false) (claimed m p f (n + 1) false) (claimed m p g (n + 1 + node_count f) false) (met.0 false) s is_state inside),
      )
