-- The entries that are wanted are in shape.
use Rattle.std.proofs.Common.{◌≡◌, inl, inr, ℕ, ◌+◌, ◌<◌, Bool, true, false, not, ◌||◌, List, [], ◌∷◌, ◌++◌, length, Some, refl, sym, ◌∙◌, ap, arith, All, AllPairs}
use Rattle.std.specs.Option.{option_and_then}
use Rattle.std.proofs.lemmas.List.Elements.{All-nil, All-cons}
use Rattle.std.proofs.lemmas.List.Kept.{AllPairs-cons}
use Rattle.kripke_model.specs.Ctl.{Ctl}
use Rattle.kripke_model.specs.Signs.{ProofRule, rule_of, until_rule, node_count}
use Rattle.kripke_model.specs.System.{System}
use Rattle.path_laws.specs.StateSet.{StateSet}
use Rattle.fair_rules.specs.Block.{same_sign}
use Rattle.fair_rules.specs.Nodes.{node_at}
use Rattle.fair_rules.proofs.Nodes.{parts_there}
use Rattle.fair_fixpoint.specs.Nodes.{NodeView, AreComputed}
use Rattle.fair_fixpoint.specs.NodeRules.{sign_set}
use Rattle.fair_fixpoint.specs.Formulas.{is_existential}
use Rattle.proof_form.specs.Form.{Entry}
use Rattle.proof_form.specs.Shape.{rule_for, HasRule, ComesBefore, FitsConstraints}
use Rattle.rank_extract.specs.Given.{entry_at, own_entries, wanted}
use Rattle.rank_extract.proofs.Lookups.{Within, own_within, parts_within, wanted_within}
use Rattle.rank_extract.proofs.NodeEntries.{FitsRule, given_kind, given_fits, quant_fits, until_fits}

-- ---- what each entry of a list has

abbrev pub Each : (Entry StateSet → Type 0) → List (Entry StateSet) → Type 0
Each P [] = Unit {0}
Each P (e ∷ es) = P e × Each P es

pub each_both : (P : Entry StateSet → Type 0) (xs ys : List (Entry StateSet)) → Each P xs → Each P ys → Each P (xs ++ ys)
each_both P [] ys h k = k
each_both P (x ∷ xs) ys h k = (h.0, each_both P xs ys h.1 k)

pub all_of : (P : Entry StateSet → Type 0) (es : List (Entry StateSet)) → Each P es → All P es
all_of P [] h = All-nil P
all_of P (e ∷ es) h = All-cons P e es h.0 (all_of P es h.1)

pub each_map : (P Q : Entry StateSet → Type 0) → ((e : Entry StateSet) → P e → Q e) → (es : List (Entry StateSet)) → Each P es → Each Q es
each_map P Q h [] p = tt
each_map P Q h (e ∷ es) p = (h e p.0, each_map P Q h es p.1)

-- ---- their order

abbrev pub AreRising : List (Entry StateSet) → Type 0
AreRising [] = Unit {0}
AreRising (e ∷ es) = Each (ComesBefore e) es × AreRising es

pub rising_pairs : (es : List (Entry StateSet)) → AreRising es → AllPairs ComesBefore es
rising_pairs [] h = λ i j d lt within. absurd (omega arith)
rising_pairs (e ∷ es) h = AllPairs-cons ComesBefore e es (all_of (ComesBefore e) es h.0) (rising_pairs es h.1)

before_all : (low high : ℕ) (e : Entry StateSet) (ys : List (Entry StateSet)) → e.node < low → Within low high ys → Each (ComesBefore e) ys
before_all low high e [] less h = tt
before_all low high e (y ∷ ys) less h = (inl (omega (arith, less, h.0)), before_all low high e ys less h.2)

rising_both : (a b c : ℕ) (xs ys : List (Entry StateSet)) → Within a b xs → Within b c ys → AreRising xs → AreRising ys → AreRising (xs ++ ys)
rising_both a b c [] ys h k r q = q
rising_both a b c (x ∷ xs) ys h k r q = (each_both (ComesBefore x) xs ys r.0 (before_all b c x ys h.1 k), rising_both a b c xs ys h.2 k r.1 q)

module _ (fair : StateSet) (at : ℕ → NodeView) where
  own_rising : (n : ℕ) (some plus minus : Bool) → AreRising (own_entries fair at n some plus minus)
  own_rising n some true true = ((inr (refl, refl), tt), (tt, tt))
  own_rising n some true false = (tt, tt)
  own_rising n some false true = (tt, tt)
  own_rising n some false false = tt

  parts_rising : (f g : Ctl) (n : ℕ) (a b c d : Bool) → AreRising (wanted fair at f (n + 1) a b) → AreRising (wanted fair at g (n + 1 + node_count f) c d)
      → AreRising (wanted fair at f (n + 1) a b ++ wanted fair at g (n + 1 + node_count f) c d)
  parts_rising f g n a b c d h k =
      rising_both (n + 1) (n + 1 + node_count f) (n + 1 + node_count f + node_count g) (wanted fair at f (n + 1) a b) (wanted fair at g (n + 1 + node_count f) c d)
      (wanted_within fair at f (n + 1) a b) (wanted_within fair at g (n + 1 + node_count f) c d) h k

  pub wanted_rising : (f : Ctl) (n : ℕ) (plus minus : Bool) → AreRising (wanted fair at f n plus minus)
  wanted_rising (Ctl.Leaf e) n plus minus = tt
  wanted_rising (Ctl.Not f) n plus minus = wanted_rising f (n + 1) minus plus
  wanted_rising (Ctl.And f g) n plus minus = parts_rising f g n plus minus plus minus (wanted_rising f (n + 1) plus minus) (wanted_rising g (n + 1 + node_count f) plus minus)
  wanted_rising (Ctl.Or f g) n plus minus = parts_rising f g n plus minus plus minus (wanted_rising f (n + 1) plus minus) (wanted_rising g (n + 1 + node_count f) plus minus)
  wanted_rising (Ctl.Implies f g) n plus minus = parts_rising f g n minus plus plus minus (wanted_rising f (n + 1) minus plus) (wanted_rising g (n + 1 + node_count f) plus minus)
  wanted_rising (Ctl.Iff f g) n plus minus =
      parts_rising f g n (plus || minus) (plus || minus) (plus || minus) (plus || minus) (wanted_rising f (n + 1) (plus || minus) (plus || minus)) (wanted_rising g (n + 1 + node_count f) (plus || minus) (plus || minus))
  wanted_rising (Ctl.Quant op f) n plus minus =
      rising_both n (n + 1) (n + 1 + node_count f) (own_entries fair at n (is_existential op) plus minus) (wanted fair at f (n + 1) plus minus)
      (own_within fair at n (is_existential op) plus minus) (wanted_within fair at f (n + 1) plus minus) (own_rising n (is_existential op) plus minus) (wanted_rising f (n + 1) plus minus)
  wanted_rising (Ctl.Until all f g) n plus minus =
      rising_both n (n + 1) (n + 1 + node_count f + node_count g) (own_entries fair at n (not all) plus minus) (wanted fair at f (n + 1) plus minus ++ wanted fair at g (n + 1 + node_count f) plus minus)
      (own_within fair at n (not all) plus minus) (parts_within fair at f g n plus minus) (own_rising n (not all) plus minus)
      (parts_rising f g n plus minus plus minus (wanted_rising f (n + 1) plus minus) (wanted_rising g (n + 1 + node_count f) plus minus))

  -- ---- their rules

  module _ (m : System) (visited : List StateSet) (Z : StateSet) (top : Ctl) where
    abbrev pub IsShaped : Entry StateSet → Type 0
    IsShaped e = HasRule top e × FitsConstraints (length visited) e.rule

    own_shaped : (c : Ctl) (n : ℕ) (some plus minus : Bool) → node_at top 1 n ≡ Some c
        → ((sign : Bool) → (rule : ProofRule) × (rule_for sign c ≡ Some rule) × FitsRule (length visited) rule (same_sign some sign) (at n).ranks)
        → Each IsShaped (own_entries fair at n some plus minus)
    own_shaped c n some plus minus here rules = go plus minus
      where
        one : (sign : Bool) → IsShaped (entry_at fair at n some sign)
        one sign =
            let r = rules sign in (
              ap (λ o. option_and_then (rule_for sign) o) here ∙ r.1 ∙ ap Some (sym (given_kind (length visited) fair (sign_set sign (at n)) r.0 (same_sign some sign) (at n).ranks r.2)),
              given_fits (length visited) fair (sign_set sign (at n)) r.0 (same_sign some sign) (at n).ranks r.2,
            )

        go : (plus minus : Bool) → Each IsShaped (own_entries fair at n some plus minus)
        go true true = (one true, (one false, tt))
        go true false = (one true, tt)
        go false true = (one false, tt)
        go false false = tt

    pub wanted_shaped : (f : Ctl) (n : ℕ) (plus minus : Bool) → AreComputed m visited Z fair at f n → node_at top 1 n ≡ Some f → Each IsShaped (wanted fair at f n plus minus)
    wanted_shaped (Ctl.Leaf e) n plus minus c here = tt
    wanted_shaped (Ctl.Not f) n plus minus c here = wanted_shaped f (n + 1) minus plus c.2 (parts_there top 1 n (Ctl.Not f) here)
    wanted_shaped (Ctl.And f g) n plus minus c here =
        let r = parts_there top 1 n (Ctl.And f g) here in
        each_both IsShaped (wanted fair at f (n + 1) plus minus) (wanted fair at g (n + 1 + node_count f) plus minus)
        (wanted_shaped f (n + 1) plus minus c.2 r.0) (wanted_shaped g (n + 1 + node_count f) plus minus c.3 r.1)
    wanted_shaped (Ctl.Or f g) n plus minus c here =
        let r = parts_there top 1 n (Ctl.Or f g) here in
        each_both IsShaped (wanted fair at f (n + 1) plus minus) (wanted fair at g (n + 1 + node_count f) plus minus)
        (wanted_shaped f (n + 1) plus minus c.2 r.0) (wanted_shaped g (n + 1 + node_count f) plus minus c.3 r.1)
    wanted_shaped (Ctl.Implies f g) n plus minus c here =
        let r = parts_there top 1 n (Ctl.Implies f g) here in
        each_both IsShaped (wanted fair at f (n + 1) minus plus) (wanted fair at g (n + 1 + node_count f) plus minus)
        (wanted_shaped f (n + 1) minus plus c.2 r.0) (wanted_shaped g (n + 1 + node_count f) plus minus c.3 r.1)
    wanted_shaped (Ctl.Iff f g) n plus minus c here =
        let r = parts_there top 1 n (Ctl.Iff f g) here in
        each_both IsShaped (wanted fair at f (n + 1) (plus || minus) (plus || minus)) (wanted fair at g (n + 1 + node_count f) (plus || minus) (plus || minus))
        (wanted_shaped f (n + 1) (plus || minus) (plus || minus) c.2 r.0) (wanted_shaped g (n + 1 + node_count f) (plus || minus) (plus || minus) c.3 r.1)
    wanted_shaped (Ctl.Quant op f) n plus minus c here =
        each_both IsShaped (own_entries fair at n (is_existential op) plus minus) (wanted fair at f (n + 1) plus minus)
        (own_shaped (Ctl.Quant op f) n (is_existential op) plus minus here
        (λ sign. (rule_of op sign, refl, quant_fits m visited Z fair op (at (n + 1)) (at n) sign c.1)))
        (wanted_shaped f (n + 1) plus minus c.2 (parts_there top 1 n (Ctl.Quant op f) here))
    wanted_shaped (Ctl.Until all f g) n plus minus c here =
        let r = parts_there top 1 n (Ctl.Until all f g) here in
        each_both IsShaped (own_entries fair at n (not all) plus minus) (wanted fair at f (n + 1) plus minus ++ wanted fair at g (n + 1 + node_count f) plus minus)
        (own_shaped (Ctl.Until all f g) n (not all) plus minus here
        (λ sign. (until_rule all sign, refl, until_fits m visited fair all (at (n + 1)) (at (n + 1 + node_count f)) (at n) sign c.1)))
        (each_both IsShaped (wanted fair at f (n + 1) plus minus) (wanted fair at g (n + 1 + node_count f) plus minus)
        (wanted_shaped f (n + 1) plus minus c.2 r.0) (wanted_shaped g (n + 1 + node_count f) plus minus c.3 r.1))
