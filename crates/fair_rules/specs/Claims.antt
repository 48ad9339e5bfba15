-- The sets that a proof claims for each node of a formula, and when they prove it.
use Rattle.std.specs.Prelude.{ℕ, ◌+◌, zero, suc, Bool, true, false, not, ◌&&◌, ◌||◌, List, [], ◌∷◌, Ok, pos}
use Rattle.std.specs.List.{list_any}
use Rattle.kripke_model.specs.declared.expressions.Value.TheVariants.{Number}
use Rattle.kripke_model.specs.Ctl.{Ctl}
use Rattle.kripke_model.specs.System.{System, State}
use Rattle.kripke_model.specs.Step.{IsState, Initial}
use Rattle.kripke_model.specs.Evaluation.{Checked, eval}
use Rattle.kripke_model.specs.declared.expressions.Value.{Value}
use Rattle.kripke_model.specs.Signs.{ProofRule, rule_of, until_rule, node_count}
use Rattle.path_laws.specs.StateSet.{StateSet, ◌∈◌}
use Rattle.fair_rules.specs.SetLists.{everything, nothing}
use Rattle.fair_rules.specs.Rules.{Layer, AreNonfair, IsFairSet, MeetsEX, MeetsAX, MeetsEU, MeetsAU, MeetsAR, MeetsER}

-- what is given for one sign of a temporal node
pub data Entry : Type 0 where
  Absent : Entry
  EX : (set : StateSet) → Entry
  AX : (set : StateSet) → Entry
  EU : (sets : List StateSet) → Entry
  AU : (layers : List Layer) → Entry
  AR : (set : StateSet) → Entry
  ER : (set : StateSet) (reaches : List (List StateSet)) (untils : List StateSet) → Entry

-- the states without and with a fair path, and the entry of each node and sign
pub record Proof : Type 0 where
  pub nonfair : List Layer
  pub fair : StateSet
  pub reaches : List (List StateSet)
  pub entries : ℕ → Bool → Entry

abbrev pub either : StateSet → StateSet → StateSet
either F G s = F s || G s

abbrev pub both : StateSet → StateSet → StateSet
both F G s = F s && G s

abbrev pub join : List StateSet → StateSet
join sets s = list_any (λ F. F s) sets

abbrev pub join_layers : List Layer → StateSet
join_layers layers s = list_any (λ l. l.states s) layers

-- the set of an entry, where g is the set of the last argument
abbrev pub entry_set : List Layer → Entry → StateSet → StateSet
entry_set nonfair Entry.Absent g = nothing
entry_set nonfair (Entry.EX set) g = set
entry_set nonfair (Entry.AX set) g = set
entry_set nonfair (Entry.EU sets) g = join sets
entry_set nonfair (Entry.AU layers) g = either g (either (join_layers nonfair) (join_layers layers))
entry_set nonfair (Entry.AR set) g = either set (join_layers nonfair)
entry_set nonfair (Entry.ER set reaches untils) g = either set (join untils)

-- ---- the claimed set of a formula whose first node has number n

abbrev pub is_one : Checked (List Value) → Bool
is_one (Ok (Number (pos (suc zero)) ∷ [])) = true
is_one c = false

-- where it is 1, and where it isn't; where it has no fault it is 0 there
abbrev pub leaf_set : Bool → Checked (List Value) → Bool
leaf_set true c = is_one c
leaf_set false c = not (is_one c)

abbrev pub claimed : System → Proof → Ctl → ℕ → Bool → StateSet
claimed m p (Ctl.Leaf e) n sign = λ s. leaf_set sign (eval m e s s)
claimed m p (Ctl.Not f) n sign = claimed m p f (n + 1) (not sign)
claimed m p (Ctl.And f g) n true
    = both (claimed m p f (n + 1) true) (claimed m p g (n + 1 + node_count f) true)
claimed m p (Ctl.And f g) n false
    = either (claimed m p f (n + 1) false) (claimed m p g (n + 1 + node_count f) false)
claimed m p (Ctl.Or f g) n true
    = either (claimed m p f (n + 1) true) (claimed m p g (n + 1 + node_count f) true)
claimed m p (Ctl.Or f g) n false
    = both (claimed m p f (n + 1) false) (claimed m p g (n + 1 + node_count f) false)
claimed m p (Ctl.Implies f g) n true
    = either (claimed m p f (n + 1) false) (claimed m p g (n + 1 + node_count f) true)
claimed m p (Ctl.Implies f g) n false
    = both (claimed m p f (n + 1) true) (claimed m p g (n + 1 + node_count f) false)
claimed m p (Ctl.Iff f g) n true = either
    (both (claimed m p f (n + 1) true) (claimed m p g (n + 1 + node_count f) true))
    (both (claimed m p f (n + 1) false) (claimed m p g (n + 1 + node_count f) false))
claimed m p (Ctl.Iff f g) n false = either
    (both (claimed m p f (n + 1) true) (claimed m p g (n + 1 + node_count f) false))
    (both (claimed m p f (n + 1) false) (claimed m p g (n + 1 + node_count f) true))
claimed m p (Ctl.Quant op f) n sign
    = entry_set p.nonfair (p.entries n sign) (claimed m p f (n + 1) sign)
claimed m p (Ctl.Until all f g) n sign
    = entry_set p.nonfair (p.entries n sign) (claimed m p g (n + 1 + node_count f) sign)

-- ---- the obligations

-- the entry has the rule, and meets it for the sets f and g of the arguments
abbrev pub Meets : System → List StateSet → List StateSet → Proof → ProofRule → Entry → StateSet
    → StateSet → Type 0
Meets m visited avoided p rule Entry.Absent f g = Unit {0}
Meets m visited avoided p ProofRule.EX (Entry.EX set) f g = MeetsEX m p.fair g set
Meets m visited avoided p ProofRule.AX (Entry.AX set) f g = MeetsAX m p.nonfair g set
Meets m visited avoided p ProofRule.EU (Entry.EU sets) f g = MeetsEU m p.fair f g sets
Meets m visited avoided p ProofRule.AU (Entry.AU layers) f g
    = MeetsAU m avoided p.nonfair f g layers
Meets m visited avoided p ProofRule.AR (Entry.AR set) f g = MeetsAR m p.nonfair f g set
Meets m visited avoided p ProofRule.ER (Entry.ER set reaches untils) f g
    = MeetsER m visited p.fair f g set reaches untils
Meets m visited avoided p rule entry f g = ⊥

-- the first argument of an operator that has one argument alone
abbrev pub absent_argument : ProofRule → StateSet
absent_argument ProofRule.EU = everything
absent_argument ProofRule.AU = everything
absent_argument rule = nothing

-- each entry of the formula's nodes meets the rule of its operator and sign
abbrev pub AreMet : System → List StateSet → List StateSet → Proof → Ctl → ℕ → Type 0
AreMet m visited avoided p (Ctl.Leaf e) n = Unit {0}
AreMet m visited avoided p (Ctl.Not f) n = AreMet m visited avoided p f (n + 1)
AreMet m visited avoided p (Ctl.And f g) n
    = AreMet m visited avoided p f (n + 1) × AreMet m visited avoided p g (n + 1 + node_count f)
AreMet m visited avoided p (Ctl.Or f g) n
    = AreMet m visited avoided p f (n + 1) × AreMet m visited avoided p g (n + 1 + node_count f)
AreMet m visited avoided p (Ctl.Implies f g) n
    = AreMet m visited avoided p f (n + 1) × AreMet m visited avoided p g (n + 1 + node_count f)
AreMet m visited avoided p (Ctl.Iff f g) n
    = AreMet m visited avoided p f (n + 1) × AreMet m visited avoided p g (n + 1 + node_count f)
AreMet m visited avoided p (Ctl.Quant op f) n =
    ((sign : Bool)
    → Meets m visited avoided p (rule_of op sign) (p.entries n sign)
    (absent_argument (rule_of op sign)) (claimed m p f (n + 1) sign))
    × AreMet m visited avoided p f (n + 1)
AreMet m visited avoided p (Ctl.Until all f g) n =
    ((sign : Bool)
    → Meets m visited avoided p (until_rule all sign) (p.entries n sign)
    (claimed m p f (n + 1) sign) (claimed m p g (n + 1 + node_count f) sign))
    × AreMet m visited avoided p f (n + 1) × AreMet m visited avoided p g (n + 1 + node_count f)

-- the obligations of a proof of the formula, whose first node has number n
pub record IsProof (m : System) (visited avoided : List StateSet) (p : Proof) (f : Ctl)
    (n : ℕ) : Type 0 where
  pub nonfair : AreNonfair m avoided p.nonfair
  pub fair : IsFairSet m visited p.fair p.reaches
  pub entries : AreMet m visited avoided p f n

-- the claim that every initial state is in the formula's positive set, or that some initial state is in its negative set
abbrev pub ClaimsTrue : System → Proof → Ctl → ℕ → Type 0
ClaimsTrue m p f n = (s : State) → IsState m s → Initial m s → s ∈ claimed m p f n true

abbrev pub ClaimsFalse : System → Proof → Ctl → ℕ → State → Type 0
ClaimsFalse m p f n s = IsState m s × Initial m s × s ∈ claimed m p f n false
