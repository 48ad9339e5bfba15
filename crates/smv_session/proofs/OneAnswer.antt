-- A text has one model at most, or is refused for one reason.
use Rattle.std.proofs.Common.{◌≡◌, ◌<◌, ◌≤◌, inl, inr, ℕ, zero, suc, true, List, Option, length, refl, sym, ◌∙◌, ap, subst, arith}
use Rattle.std.proofs.lemmas.Bool.{cases_lt}
use Rattle.smv_lexer.specs.Text.{Placed, Lexes, IsBadByteAt, IsTooLargeAt, most_bytes}
use Rattle.smv_parser.specs.Program.{Program, program_depth}
use Rattle.smv_parser.specs.Programs.{DerivesProgram, IsSyntaxPlace, IsTooDeepPlace, greatest_depth}
use Rattle.kripke_model.specs.Faults.{IsFaultless}
use Rattle.kripke_model.specs.Static.{Breaks}
use Rattle.kripke_model.specs.System.{System, State}
use Rattle.kripke_model.specs.declared.expressions.FaultKind.{FaultKind}
use Rattle.kripke_model.specs.declared.refusals.StaticRefusal.{StaticRefusal}
use Rattle.smv_instances.specs.Abstract as plain
use Rattle.smv_instances.specs.Program as flat_program
use Rattle.kripke_model.specs.declared.refusals.FlatRefusal.{FlatRefusal}
use Rattle.bit_encode.specs.Code.{state_bits}
use Rattle.smv_instantiate.specs.Flattens.{Flattens}
use Rattle.smv_instantiate.specs.Refuses as flattening
use Rattle.item_faults.specs.FirstFault.{IsFirstFault}
use Rattle.smv_session.specs.Source.{line_at, token_line, HasTokens, HasProgram, HasFlat, HasRuled, HasModel, IsAccepted}
use Rattle.command_words.specs.Words.{Job}
use Rattle.smv_session.specs.Jobs.{NamesLeaves, numbers_of}
use Rattle.spec_leaves.specs.Named.{IsFirstOther}
use Rattle.spec_leaves.proofs.Others.{not_both, one_first}
use Rattle.smv_session.specs.Refuses.{Refuses}
use Rattle.smv_texts.specs.Refusals.{Refusal, TooLong, BadByte, NumberTooLarge, NoProgram, TooDeep, NotFlat, BreaksRule, TooManyBits, NoLeaf, Faults, is_fault}
use Rattle.smv_session.proofs.FaultLemmas.{one_fault, faultless_or_fault}

-- what the layers say of their answers
pub record Laws : Type 0 where
  pub list : (bytes : List ℕ) (ts us : List Placed) → Lexes bytes ts → Lexes bytes us → ts ≡ us
  pub list_or_bad : (bytes : List ℕ) (ts : List Placed) (at : ℕ) → Lexes bytes ts → IsBadByteAt bytes at → ⊥
  pub list_or_large : (bytes : List ℕ) (ts : List Placed) (at : ℕ) → Lexes bytes ts → IsTooLargeAt bytes at → ⊥
  pub bad : (bytes : List ℕ) (at other : ℕ) → IsBadByteAt bytes at → IsBadByteAt bytes other → at ≡ other
  pub large : (bytes : List ℕ) (at other : ℕ) → IsTooLargeAt bytes at → IsTooLargeAt bytes other → at ≡ other
  pub bad_or_large : (bytes : List ℕ) (at other : ℕ) → IsBadByteAt bytes at → IsTooLargeAt bytes other → ⊥
  pub syntax_or_tree : (at : ℕ) (ts : List Placed) (p : Program) → IsSyntaxPlace ts at → DerivesProgram ts p → ⊥
  pub deep_or_tree : (at : ℕ) (ts : List Placed) (p : Program) → IsTooDeepPlace ts at → DerivesProgram ts p → program_depth p ≤ greatest_depth → ⊥
  pub syntax_place : (at other : ℕ) (ts : List Placed) → IsSyntaxPlace ts at → IsSyntaxPlace ts other → at ≡ other
  pub deep : (at other : ℕ) (ts : List Placed) → IsTooDeepPlace ts at → IsTooDeepPlace ts other → at ≡ other
  pub syntax_or_deep : (at other : ℕ) (ts : List Placed) → IsSyntaxPlace ts at → IsTooDeepPlace ts other → ⊥
  pub one_tree : (ts : List Placed) (p q : Program) → DerivesProgram ts p → DerivesProgram ts q → p ≡ q
  pub one_flat : (p : flat_program.Program) (m n : System) → Flattens p m → Flattens p n → m ≡ n
  pub one_flat_refusal : (p : flat_program.Program) (r q : FlatRefusal) → flattening.Refuses p r → flattening.Refuses p q → r ≡ q
  pub one_static_refusal : (m : System) (r q : StaticRefusal) → Breaks m r → Breaks m q → r ≡ q

-- the text passes the first steps, so many of them
abbrev Passes : Job → List ℕ → ℕ → Type 0
Passes job bytes zero = length bytes ≤ most_bytes
Passes job bytes (suc zero) = (ts : List Placed) × HasTokens bytes ts
Passes job bytes (suc (suc zero)) = (p : Program) × HasProgram bytes p
Passes job bytes (suc (suc (suc zero))) = (m : System) × HasFlat bytes m
Passes job bytes (suc (suc (suc (suc zero)))) = (m : System) × HasRuled bytes m
Passes job bytes (suc (suc (suc (suc (suc zero))))) = (m : System) × HasModel bytes m
Passes job bytes (suc (suc (suc (suc (suc (suc zero)))))) = (m : System) × HasModel bytes m × NamesLeaves job m
Passes job bytes (suc (suc (suc (suc (suc (suc (suc k))))))) = (m : System) × IsAccepted bytes m × NamesLeaves job m

-- the step at which it is refused
abbrev stage : Refusal → ℕ
stage TooLong = 0
stage (BadByte l) = 1
stage (NumberTooLarge l) = 1
stage (NoProgram l) = 2
stage (TooDeep l) = 2
stage (NotFlat r) = 3
stage (BreaksRule r) = 4
stage (TooManyBits bits) = 5
stage (NoLeaf j) = 6
stage (Faults m kind l here after) = 7

module _ (job : Job) (bytes : List ℕ) where
  down : (k : ℕ) → Passes job bytes (suc k) → Passes job bytes k
  down zero h = h.1.few
  down (suc zero) h = (h.1.tokens, h.1.has)
  down (suc (suc zero)) h = (h.1.program, h.1.has)
  down (suc (suc (suc zero))) h = (h.0, h.1.flat)
  down (suc (suc (suc (suc zero)))) h = (h.0, h.1.ruled)
  down (suc (suc (suc (suc (suc zero))))) h = (h.0, h.1)
  down (suc (suc (suc (suc (suc (suc zero)))))) h = (h.0, h.1.has, h.2)
  down (suc (suc (suc (suc (suc (suc (suc k))))))) h = h

  passes_down : (n k : ℕ) → k ≤ n → Passes job bytes n → Passes job bytes k
  passes_down zero k below h = let e : zero ≡ k = omega (arith, below) in subst (Passes job bytes) e h
  passes_down (suc n) k below h = elim (cases_lt n k) [
    | inl above ↦ (let e : suc n ≡ k = omega (arith, below, above) in subst (Passes job bytes) e h)
    | inr within ↦ passes_down n k within (down n h)
  ]

  passed : (r : Refusal) (k : ℕ) → k < stage r → Refuses job bytes r → Passes job bytes k
  passed TooLong k below h = absurd (omega (arith, below))
  passed (BadByte l) k below h = passes_down 0 k (omega (arith, below)) h.0
  passed (NumberTooLarge l) k below h = passes_down 0 k (omega (arith, below)) h.0
  passed (NoProgram l) k below h = passes_down 1 k (omega (arith, below)) (h.0, h.2)
  passed (TooDeep l) k below h = passes_down 1 k (omega (arith, below)) (h.0, h.2)
  passed (NotFlat r) k below h = passes_down 2 k (omega (arith, below)) (h.0, h.1)
  passed (BreaksRule r) k below h = passes_down 3 k (omega (arith, below)) (h.0, h.1)
  passed (TooManyBits bits) k below h = passes_down 4 k (omega (arith, below)) (h.0, h.1)
  passed (NoLeaf j) k below h = passes_down 5 k (omega (arith, below)) (h.0, h.1)
  passed (Faults m kind l here after) k below h = passes_down 6 k (omega (arith, below)) (m, h.0, h.1)

module _ (laws : Laws) (job : Job) (bytes : List ℕ) where
  one_tokens : (ts us : List Placed) → HasTokens bytes ts → HasTokens bytes us → ts ≡ us
  one_tokens ts us h k = laws.list bytes ts us h.lexed k.lexed

  one_program : (p q : Program) → HasProgram bytes p → HasProgram bytes q → p ≡ q
  one_program p q h k = laws.one_tree k.tokens p q (subst (λ ts. DerivesProgram ts p) (one_tokens h.tokens k.tokens h.has k.has) h.derived) k.derived

  one_flat : (m n : System) → HasFlat bytes m → HasFlat bytes n → m ≡ n
  one_flat m n h k = laws.one_flat (plain.program k.program) m n (subst (λ p. Flattens (plain.program p) m) (one_program h.program k.program h.has k.has) h.flattens) k.flattens

  one_ruled : (m n : System) → HasRuled bytes m → HasRuled bytes n → m ≡ n
  one_ruled m n h k = one_flat m n h.flat k.flat

  pub one_model : (m n : System) → HasModel bytes m → HasModel bytes n → m ≡ n
  one_model m n h k = one_ruled m n h.ruled k.ruled

  -- what is refused at a step doesn't pass it
  stopped : (r : Refusal) → Refuses job bytes r → Passes job bytes (stage r) → ⊥
  stopped TooLong h few = omega (arith, h, few)
  stopped (BadByte l) h has = laws.list_or_bad bytes has.0 h.1 has.1.lexed h.2
  stopped (NumberTooLarge l) h has = laws.list_or_large bytes has.0 h.1 has.1.lexed h.2
  stopped (NoProgram l) h has =
      laws.syntax_or_tree h.1 has.1.tokens has.0 (subst (λ ts. IsSyntaxPlace ts h.1) (one_tokens h.0 has.1.tokens h.2 has.1.has) h.3) has.1.derived
  stopped (TooDeep l) h has =
      laws.deep_or_tree h.1 has.1.tokens has.0 (subst (λ ts. IsTooDeepPlace ts h.1) (one_tokens h.0 has.1.tokens h.2 has.1.has) h.3) has.1.derived has.1.within
  stopped (NotFlat r) h has = has.1.kept r (subst (λ p. flattening.Refuses (plain.program p) r) (one_program h.0 has.1.program h.1 has.1.has) h.2)
  stopped (BreaksRule r) h has = has.1.rules r (subst (λ m. Breaks m r) (one_flat h.0 has.0 h.1 has.1.flat) h.2)
  stopped (TooManyBits bits) h has = let few = subst (λ m. state_bits m ≤ 128) (one_ruled has.0 h.0 has.1.ruled h.1) has.1.few in omega (arith, few, h.2)
  stopped (NoLeaf j) h has = not_both h.0 (numbers_of job) j (subst (NamesLeaves job) (one_model has.0 h.0 has.1 h.1) has.2) h.2
  stopped (Faults m kind l here after) h has = faultless_or_fault m kind l here after h.2 (subst IsFaultless (one_model has.0 m has.1.has h.0) has.1.faultless)

  -- what is accepted is not refused
  pub accepted_or_refusal : (m : System) (r : Refusal) → IsAccepted bytes m → NamesLeaves job m → Refuses job bytes r → ⊥
  accepted_or_refusal m r accepted names h = stopped r h (passes_down job bytes 7 (stage r) (at_most r) (m, accepted, names))
    where
      at_most : (r : Refusal) → stage r ≤ 7
      at_most TooLong = omega arith
      at_most (BadByte l) = omega arith
      at_most (NumberTooLarge l) = omega arith
      at_most (NoProgram l) = omega arith
      at_most (TooDeep l) = omega arith
      at_most (NotFlat r) = omega arith
      at_most (BreaksRule r) = omega arith
      at_most (TooManyBits bits) = omega arith
      at_most (NoLeaf j) = omega arith
      at_most (Faults m kind l here after) = omega arith

  -- what has a model is refused for a fault alone, where the job's numbers name sets of states
  pub model_or_refusal : (m : System) (r : Refusal) → HasModel bytes m → NamesLeaves job m → Refuses job bytes r → is_fault r ≡ true
  model_or_refusal m r has names h = by_fault r h (λ at_most. stopped r h (passes_down job bytes 6 (stage r) at_most (m, has, names)))
    where
      by_fault : (r : Refusal) → Refuses job bytes r → (stage r ≤ 6 → ⊥) → is_fault r ≡ true
      by_fault (Faults m kind l here after) h stops = refl
      by_fault TooLong h stops = absurd (stops (omega arith))
      by_fault (BadByte l) h stops = absurd (stops (omega arith))
      by_fault (NumberTooLarge l) h stops = absurd (stops (omega arith))
      by_fault (NoProgram l) h stops = absurd (stops (omega arith))
      by_fault (TooDeep l) h stops = absurd (stops (omega arith))
      by_fault (NotFlat r) h stops = absurd (stops (omega arith))
      by_fault (BreaksRule r) h stops = absurd (stops (omega arith))
      by_fault (TooManyBits bits) h stops = absurd (stops (omega arith))
      by_fault (NoLeaf j) h stops = absurd (stops (omega arith))

  same_stage : (r q : Refusal) → Refuses job bytes r → Refuses job bytes q → stage r ≡ stage q
  same_stage r q h k = elim (cases_lt (stage r) (stage q)) [
    | inl before ↦ absurd (stopped r h (passed job bytes q (stage r) before k))
    | inr after ↦ elim (cases_lt (stage q) (stage r)) [
      | inl before ↦ absurd (stopped q k (passed job bytes r (stage q) before h))
      | inr within ↦ omega (arith, after, within)
    ]
  ]

  one_line : (ts us : List Placed) (at other l k : ℕ) → ts ≡ us → at ≡ other → l ≡ token_line bytes ts at → k ≡ token_line bytes us other → l ≡ k
  one_line ts us at other l k same place h j =
      h ∙ ap (λ (xs : List Placed). token_line bytes xs at) same ∙ ap (λ (i : ℕ). token_line bytes us i) place ∙ sym j

  same_fault : (m n : System) (kind other : FaultKind) (l j : ℕ) (here there : State) (after next : Option State) → m ≡ n → IsFirstFault m kind l here after → IsFirstFault n other j there next
      → Faults m kind l here after ≡ Faults n other j there next
  same_fault m n kind other l j here there after next same h k =
      let f = one_fault m kind other l j here there after next h (subst (λ x. IsFirstFault x other j there next) (sym same) k) in
      ap (λ x. Faults x kind l here after) same ∙ ap (λ x. Faults n x l here after) f.0 ∙ ap (λ x. Faults n other x here after) f.1
      ∙ ap (λ x. Faults n other j x after) f.2 ∙ ap (λ x. Faults n other j there x) f.3

  one_at_stage : (r q : Refusal) → stage r ≡ stage q → Refuses job bytes r → Refuses job bytes q → r ≡ q
  one_at_stage TooLong TooLong e h k = refl
  one_at_stage (BadByte l) (BadByte j) e h k = ap BadByte (h.3 ∙ ap (line_at bytes) (laws.bad bytes h.1 k.1 h.2 k.2) ∙ sym k.3)
  one_at_stage (BadByte l) (NumberTooLarge j) e h k = absurd (laws.bad_or_large bytes h.1 k.1 h.2 k.2)
  one_at_stage (NumberTooLarge l) (BadByte j) e h k = absurd (laws.bad_or_large bytes k.1 h.1 k.2 h.2)
  one_at_stage (NumberTooLarge l) (NumberTooLarge j) e h k = ap NumberTooLarge (h.3 ∙ ap (line_at bytes) (laws.large bytes h.1 k.1 h.2 k.2) ∙ sym k.3)
  one_at_stage (NoProgram l) (NoProgram j) e h k =
      let same = one_tokens h.0 k.0 h.2 k.2 in
      ap NoProgram (one_line h.0 k.0 h.1 k.1 l j same (laws.syntax_place h.1 k.1 k.0 (subst (λ ts. IsSyntaxPlace ts h.1) same h.3) k.3) h.4 k.4)
  one_at_stage (NoProgram l) (TooDeep j) e h k =
      absurd (laws.syntax_or_deep h.1 k.1 k.0 (subst (λ ts. IsSyntaxPlace ts h.1) (one_tokens h.0 k.0 h.2 k.2) h.3) k.3)
  one_at_stage (TooDeep l) (NoProgram j) e h k =
      absurd (laws.syntax_or_deep k.1 h.1 h.0 (subst (λ ts. IsSyntaxPlace ts k.1) (one_tokens k.0 h.0 k.2 h.2) k.3) h.3)
  one_at_stage (TooDeep l) (TooDeep j) e h k =
      let same = one_tokens h.0 k.0 h.2 k.2 in
      ap TooDeep (one_line h.0 k.0 h.1 k.1 l j same (laws.deep h.1 k.1 k.0 (subst (λ ts. IsTooDeepPlace ts h.1) same h.3) k.3) h.4 k.4)
  one_at_stage (NotFlat r) (NotFlat q) e h k =
      ap NotFlat (laws.one_flat_refusal (plain.program k.0) r q (subst (λ p. flattening.Refuses (plain.program p) r) (one_program h.0 k.0 h.1 k.1) h.2) k.2)
  one_at_stage (BreaksRule r) (BreaksRule q) e h k = ap BreaksRule (laws.one_static_refusal k.0 r q (subst (λ m. Breaks m r) (one_flat h.0 k.0 h.1 k.1) h.2) k.2)
  one_at_stage (TooManyBits bits) (TooManyBits other) e h k = ap TooManyBits (h.3 ∙ ap state_bits (one_ruled h.0 k.0 h.1 k.1) ∙ sym k.3)
  one_at_stage (NoLeaf j) (NoLeaf i) e h k =
      ap NoLeaf (one_first k.0 (numbers_of job) j i (subst (λ m. IsFirstOther m (numbers_of job) j) (one_model h.0 k.0 h.1 k.1) h.2) k.2)
  one_at_stage (Faults m kind l here after) (Faults n other j there next) e h k = same_fault m n kind other l j here there after next (one_model m n h.0 k.0) h.2 k.2
  one_at_stage r q e h k = absurd (omega (arith, e))

  pub one_refusal : (r q : Refusal) → Refuses job bytes r → Refuses job bytes q → r ≡ q
  one_refusal r q h k = one_at_stage r q (same_stage r q h k) h k
