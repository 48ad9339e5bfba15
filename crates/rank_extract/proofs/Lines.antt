-- A proof that meets its obligations holds line by line.
use Rattle.std.proofs.Common.{◌≡◌, ℕ, zero, suc, ◌+◌, Bool, true, false, List, [], ◌∷◌, Option, Some, None, refl, sym, ap, subst}
use Rattle.std.specs.Prelude.{All, unwrap_or}
use Rattle.std.proofs.lemmas.Option.{option_and_then_some}
use Rattle.std.proofs.lemmas.List.Elements.{All-nil, All-head, All-tail}
use Rattle.kripke_model.specs.Ctl.{Ctl}
use Rattle.kripke_model.specs.System.{System, State}
use Rattle.kripke_model.specs.Signs.{rule_of, until_rule, node_count}
use Rattle.path_laws.specs.StateSet.{StateSet}
use Rattle.fair_rules.specs.SetLists.{everything, nothing}
use Rattle.fair_rules.specs.Claims.{Entry, Proof, claimed, absent_argument, Meets, AreMet, IsProof, ClaimsTrue, ClaimsFalse}
use Rattle.fair_rules.specs.Checks.{Check, IsMet, AllHold, layer_lines, reach_lines}
use Rattle.fair_rules.specs.Block.{Listed, Block, proof_of, Demand, demand, demand_at, IsAsked, asked_lines, listed_lines, claim_lines, block_lines}
use Rattle.fair_rules.specs.Nodes.{node_at}
use Rattle.fair_rules.proofs.Nodes.{OfParts, parts, inherited}
use Rattle.fair_rules.proofs.Blocks.{nonfair_lines_hold, entry_lines_hold}
use Rattle.fair_rules.proofs.Checks.{hold_both, reach_lines_hold, one_check}

pub no_lines : (m : System) → AllHold m []
no_lines m n = All-nil (IsMet m)

-- a line with nothing to show
pub plain_line : (m : System) (lines : List (List Check)) → AllHold m lines → AllHold m ([] ∷ lines)
plain_line m lines h zero = All-nil (IsMet m)
plain_line m lines h (suc n) = h n

pub first_line : (m : System) (cs : List Check) (lines : List (List Check)) → All (IsMet m) cs → AllHold m lines → AllHold m (cs ∷ lines)
first_line m cs lines h k zero = h
first_line m cs lines h k (suc n) = k n

module _ (m : System) (vs avs : List StateSet) (p : Proof) where
  abbrev Answers : Option Demand → ℕ → Bool → Type 0
  Answers o i sign = (d : Demand) → o ≡ Some d → Meets m vs avs p d.rule (p.entries i sign) d.first d.last

  asked_is : (x : Demand) (i : ℕ) (sign : Bool) → Meets m vs avs p x.rule (p.entries i sign) x.first x.last → Answers (Some x) i sign
  asked_is x i sign h d e = subst (λ (y : Demand). Meets m vs avs p y.rule (p.entries i sign) y.first y.last) (ap (λ o. unwrap_or o x) e) h

  own_met : (c : Ctl) (i : ℕ) (sign : Bool) → AreMet m vs avs p c i → Answers (demand m p c i sign) i sign
  own_met (Ctl.Quant op f) i sign h = asked_is (record { rule = rule_of op sign; first = absent_argument (rule_of op sign); last = claimed m p f (i + 1) sign }) i sign (h.0 sign)
  own_met (Ctl.Until all f g) i sign h =
      asked_is (record { rule = until_rule all sign; first = claimed m p f (i + 1) sign; last = claimed m p g (i + 1 + node_count f) sign }) i sign (h.0 sign)
  own_met _ i sign h = λ d none. absurd cc

  parts_met : (c : Ctl) (n : ℕ) → AreMet m vs avs p c n → OfParts (AreMet m vs avs p) (parts c) n
  parts_met (Ctl.Leaf e) n h = tt
  parts_met (Ctl.Not f) n h = h
  parts_met (Ctl.And f g) n h = h
  parts_met (Ctl.Or f g) n h = h
  parts_met (Ctl.Implies f g) n h = h
  parts_met (Ctl.Iff f g) n h = h
  parts_met (Ctl.Quant op f) n h = h.1
  parts_met (Ctl.Until all f g) n h = (h.1, h.2)

  -- what is asked of a node is met
  answers : (f : Ctl) (n : ℕ) → AreMet m vs avs p f n → (i : ℕ) (sign : Bool) → Answers (demand_at m p f n i sign) i sign
  answers f n h i sign d asked =
      option_and_then_some (λ c. demand m p c i sign) (node_at f n i) d asked (λ c at own. own_met c i sign (inherited (AreMet m vs avs p) parts_met f n i c at h) d own)

  -- the lines of an entry that is the proof's own for its node and sign
  pub entry_hold : (f : Ctl) (n : ℕ) (e : Listed) → AreMet m vs avs p f n → IsAsked m p f n e → p.entries e.node e.plus ≡ e.entry
      → AllHold m (asked_lines vs avs p (demand_at m p f n e.node e.plus) e.entry)
  entry_hold f n e met asked own =
      subst (λ o. AllHold m (asked_lines vs avs p o e.entry)) (sym asked.1)
      ((entry_lines_hold m vs avs p asked.0 e.entry asked.2).1
      (subst (λ (x : Entry). Meets m vs avs p asked.0.rule x asked.0.first asked.0.last) own (answers f n met e.node e.plus asked.0 asked.1)))

  abbrev pub AreOwn : List Listed → Type 0
  AreOwn [] = Unit {0}
  AreOwn (e ∷ es) = (p.entries e.node e.plus ≡ e.entry) × AreOwn es

  pub listed_hold : (f : Ctl) (n : ℕ) (es : List Listed) → AreMet m vs avs p f n → All (IsAsked m p f n) es → AreOwn es → AllHold m (listed_lines m vs avs p f n es)
  listed_hold f n [] met asked own = no_lines m
  listed_hold f n (e ∷ es) met asked own =
      hold_both m (asked_lines vs avs p (demand_at m p f n e.node e.plus) e.entry) (listed_lines m vs avs p f n es)
      (entry_hold f n e met (All-head (IsAsked m p f n) e es asked) own.0)
      (listed_hold f n es met (All-tail (IsAsked m p f n) e es asked) own.1)

-- what the block claims
abbrev pub ClaimsBy : System → Proof → Ctl → ℕ → Option State → Type 0
ClaimsBy m p f n None = ClaimsTrue m p f n
ClaimsBy m p f n (Some s) = ClaimsFalse m p f n s

claim_hold : (m : System) (p : Proof) (f : Ctl) (n : ℕ) (at : Option State) → ClaimsBy m p f n at → AllHold m (claim_lines m p f n at)
claim_hold m p f n None h = first_line m (Check.Starts (claimed m p f n true) ∷ []) [] (one_check m (Check.Starts (claimed m p f n true)) h) (no_lines m)
claim_hold m p f n (Some s) h = first_line m (Check.Begins s (claimed m p f n false) ∷ []) ([] ∷ []) (one_check m (Check.Begins s (claimed m p f n false)) h) (plain_line m [] (no_lines m))

-- from the obligations to the lines of a block
pub block_hold : (m : System) (vs avs : List StateSet) (b : Block) (f : Ctl) (n : ℕ) → IsProof m vs avs (proof_of b) f n → All (IsAsked m (proof_of b) f n) b.entries
    → AreOwn m vs avs (proof_of b) b.entries → ClaimsBy m (proof_of b) f n b.at → AllHold m (block_lines m vs avs b f n)
block_hold m vs avs b f n proof asked own claim =
    hold_both m ([] ∷ layer_lines avs everything nothing nothing b.nonfair) _ (plain_line m (layer_lines avs everything nothing nothing b.nonfair) ((nonfair_lines_hold m vs avs b.nonfair).1 proof.nonfair))
    (hold_both m ([] ∷ reach_lines b.fair vs b.reaches) _ (plain_line m (reach_lines b.fair vs b.reaches) ((reach_lines_hold m b.fair vs b.reaches).1 proof.fair))
    (hold_both m (listed_lines m vs avs (proof_of b) f n b.entries) (claim_lines m (proof_of b) f n b.at) (listed_hold m vs avs (proof_of b) f n b.entries proof.entries asked own)
    (claim_hold m (proof_of b) f n b.at claim)))
