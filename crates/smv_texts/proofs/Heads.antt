-- The word with which each text begins.
use Rattle.std.proofs.Common.{◌≡◌, ◌≢◌, ℕ, zero, suc, List, [], ◌∷◌, ◌++◌, codes, take, drop, refl, arith}
use Rattle.kripke_model.specs.System.{System}
use Rattle.smv_texts.specs.Refusals.{Refusal, reason, refusal_line}
use Rattle.smv_texts.specs.Replies.{Head, Spec, Total, Model, From, Trace, Strong, Refused, Usage, Module, head_word}
use Rattle.smv_texts.specs.Report.{Finding, report}
use Rattle.smv_texts.specs.Texts.{fault_line, usage_text}
use Rattle.smv_texts.specs.declared.fault.Fault.{Fault}
use Rattle.smv_texts.specs.declared.fault.Fault.TheVariants.{LoadFailed, LoadMissing, SaveFailed}

-- the report of no specification begins with its last line
abbrev pub report_head : List Finding → Head
report_head [] = Total
report_head (f ∷ fs) = Spec

abbrev pub report_rest : System → List Finding → List ℕ
report_rest m [] = drop 6 (report m [])
report_rest m (f ∷ fs) = drop 5 (report m (f ∷ fs))

pub report_begins : (m : System) (fs : List Finding) → report m fs ≡ head_word (report_head fs) ++ report_rest m fs
report_begins m [] = refl
report_begins m (f ∷ fs) = refl

pub refusal_begins : (q : Refusal) → refusal_line q ≡ head_word Refused ++ (reason q ++ 10 ∷ [])
refusal_begins q = refl

pub usage_begins : usage_text ≡ head_word Usage ++ drop 7 usage_text
usage_begins = refl

-- ---- no answer begins as a fault line does

begins : (n byte : ℕ) (rest : List ℕ) (fault : Fault) → byte ≢ 102 → take n (byte ∷ rest) ≢ fault_line fault
begins zero byte rest LoadFailed other is = cc
begins zero byte rest LoadMissing other is = cc
begins zero byte rest SaveFailed other is = cc
begins (suc n) byte rest LoadFailed other is = other cc
begins (suc n) byte rest LoadMissing other is = other cc
begins (suc n) byte rest SaveFailed other is = other cc

-- the line of a fault has another second byte
begins_from : (n : ℕ) (rest : List ℕ) (fault : Fault) → take n (codes "from " ++ rest) ≢ fault_line fault
begins_from zero rest LoadFailed is = cc
begins_from zero rest LoadMissing is = cc
begins_from zero rest SaveFailed is = cc
begins_from (suc zero) rest LoadFailed is = cc
begins_from (suc zero) rest LoadMissing is = cc
begins_from (suc zero) rest SaveFailed is = cc
begins_from (suc (suc n)) rest LoadFailed is = let bad : ◌≡◌ {A = ℕ} 114 97 = cc in absurd (omega (arith, bad))
begins_from (suc (suc n)) rest LoadMissing is = let bad : ◌≡◌ {A = ℕ} 114 97 = cc in absurd (omega (arith, bad))
begins_from (suc (suc n)) rest SaveFailed is = let bad : ◌≡◌ {A = ℕ} 114 97 = cc in absurd (omega (arith, bad))

pub no_fault_line : (h : Head) (rest : List ℕ) (n : ℕ) (fault : Fault) → take n (head_word h ++ rest) ≢ fault_line fault
no_fault_line Spec rest n fault = begins n 115 _ fault (λ is. absurd (omega arith))
no_fault_line Total rest n fault = begins n 116 _ fault (λ is. absurd (omega arith))
no_fault_line Model rest n fault = begins n 109 _ fault (λ is. absurd (omega arith))
no_fault_line From rest n fault = begins_from n rest fault
no_fault_line Trace rest n fault = begins n 116 _ fault (λ is. absurd (omega arith))
no_fault_line Strong rest n fault = begins n 115 _ fault (λ is. absurd (omega arith))
no_fault_line Refused rest n fault = begins n 114 _ fault (λ is. absurd (omega arith))
no_fault_line Usage rest n fault = begins n 117 _ fault (λ is. absurd (omega arith))
no_fault_line Module rest n fault = begins n 77 _ fault (λ is. absurd (omega arith))
