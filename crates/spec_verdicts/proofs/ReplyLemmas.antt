-- The reply that a report is.
use Rattle.std.proofs.Common.{◌≡◌, ◌∙◌, ℕ, zero, suc, ◌+◌, List, [], ◌∷◌, ◌++◌, length, map, replicate, Option, Some, None, refl, sym, ap, subst, arith}
use Rattle.std.specs.Prelude.{All, count_by, option_map}
use Rattle.std.proofs.lemmas.List.{replicate-append-replicate}
use Rattle.std.proofs.lemmas.List.Elements.{All-nil, All-cons}
use Rattle.std.specs.Global.{Vec}
use Rattle.bdd_nodes.specs.declared.refusal.Held.{Held}
use Rattle.kripke_model.specs.System.{System}
use Rattle.proof_text.specs.Lines.{header_lines, text_of}
use Rattle.proof_text.specs.Written.{AreSpelled, own_order}
use Rattle.smv_texts.specs.Evidence.{IsMet}
use Rattle.smv_texts.specs.Outcomes.{finding_of}
use Rattle.smv_texts.specs.Replies.{Reply, Gives, IsReply, saved_of}
use Rattle.smv_texts.specs.Report.{Finding, is_unknown, report}
use Rattle.smv_texts.specs.declared.ending.Ending.{Ending}
use Rattle.smv_texts.specs.declared.ending.Ending.TheVariants.{Undecided}
use Rattle.smv_texts.specs.declared.outcome.Finding as code_finding
use Rattle.smv_texts.specs.declared.outcome.Outcome.TheVariants.{Unknown}
use Rattle.smv_texts.specs.declared.reply.Reply as code
use Rattle.smv_texts.proofs.Heads.{report_head, report_rest, report_begins}
use Rattle.spec_verdicts.specs.Checked.{IsChecked, LeavesUnknown, EndsWith, SavesProofs, all_unknown}
use Rattle.spec_verdicts.specs.Exports.{Exports}
use Rattle.spec_verdicts.specs.Found.{AreFound, IsFoundOf}
use Rattle.spec_verdicts.specs.Verdicts.{EachFinding}
use Rattle.spec_verdicts.specs.declared.findings.Findings.{Findings}
use Rattle.spec_verdicts.proofs.ExportLemmas.{exports_none, exports_unknown}
use Rattle.spec_verdicts.proofs.FoundLemmas.{verdicts_of, states_of}

-- a report with its ending, and what is saved
abbrev reported : System → List Finding → Ending → Option (List ℕ × List ℕ) → Reply
reported m fs ending saves = record { head = report_head fs; rest = report_rest m fs; ending = ending; saves = saves }

gives : (m : System) (fs : List Finding) (reply : code.Reply) → reply.text.items ≡ report m fs → Gives (reported m fs reply.ending (saved_of reply.saves)) reply
gives m fs reply is = record { text = is ∙ report_begins m fs; ending = refl; saves = refl }

pub checked_reply : (m : System) (limit : ℕ) (proofs : Option (List ℕ)) (found : Findings) (reply : code.Reply) → AreFound m limit proofs m.specs found
    → reply.text.items ≡ report m (map finding_of found.findings.items) → EndsWith m limit (map finding_of found.findings.items) reply.ending → reply.saves ≡ found.saves
    → IsReply (IsChecked m limit proofs) reply
checked_reply m limit proofs found reply all text ends saves =
    let fs : List Finding = map finding_of found.findings.items in (
      reported m fs reply.ending (saved_of reply.saves),
      gives m fs reply text,
      record {
        findings = fs;
        text = sym (report_begins m fs);
        verdicts = verdicts_of m limit fs all.each;
        states = states_of m limit fs all.each;
        ends = ends;
        saves = subst (λ s. SavesProofs m proofs fs (saved_of s)) (sym saves) all.saves;
      },
    )

-- ---- nothing is known

abbrev pub unknown : ℕ → code_finding.Finding
unknown limit = record { outcome = Unknown limit; left_out = None }

map-unknown : (limit n : ℕ) → map finding_of (replicate n (unknown limit)) ≡ replicate n (finding_of (unknown limit))
map-unknown limit zero = refl
map-unknown limit (suc n) = ap (λ (fs : List Finding). finding_of (unknown limit) ∷ fs) (map-unknown limit n)

-- one more
pub one_more : (limit n : ℕ) → replicate n (unknown limit) ++ unknown limit ∷ [] ≡ replicate (n + 1) (unknown limit)
one_more limit n = replicate-append-replicate n 1 (unknown limit)

pub unknown_all : (m : System) (limit n : ℕ) (findings : List code_finding.Finding) → n ≡ length m.specs → findings ≡ replicate n (unknown limit) → map finding_of findings ≡ all_unknown m limit
unknown_all m limit n findings many are =
    ap (map finding_of) are ∙ map-unknown limit n ∙ ap (λ (k : ℕ). replicate k (finding_of (unknown limit))) many

-- no proof is told of, and the file has none
none_told : (limit n : ℕ) → All (λ (f : Finding). f.left_out ≡ None) (replicate n (finding_of (unknown limit)))
none_told limit zero = All-nil (λ (f : Finding). f.left_out ≡ None)
none_told limit (suc n) = All-cons (λ (f : Finding). f.left_out ≡ None) (finding_of (unknown limit)) (replicate n (finding_of (unknown limit))) refl (none_told limit n)

none_proved : (m : System) (limit n : ℕ) (bytes : List ℕ) → Exports m [] bytes → Exports m (replicate n (finding_of (unknown limit))) bytes
none_proved m limit zero bytes e = e
none_proved m limit (suc n) bytes e =
    subst (λ (fs : List Finding). Exports m fs bytes) (replicate-append-replicate n 1 (finding_of (unknown limit)) ∙ ap (λ (k : ℕ). replicate k (finding_of (unknown limit))) (let next : n + 1 ≡ suc n = omega arith in next))
    (exports_unknown m (replicate n (finding_of (unknown limit))) (finding_of (unknown limit)) bytes refl refl (none_proved m limit n bytes e))

-- the header, under the name
pub header_under : {A : Type 0} (text : List ℕ) (now : A → List ℕ) (proofs : Option A) → option_map {U = List ℕ × List ℕ} (λ name. (now name, text)) proofs ≡ option_map {U = List ℕ × List ℕ} (λ name. (name, text)) (option_map now proofs)
header_under text now None = refl
header_under text now (Some name) = refl

-- the header is the file of nothing
pub begins_with : (m : System) (proofs : Option (List ℕ)) (saves : Option (List ℕ × List ℕ)) → AreSpelled m → saves ≡ option_map (λ name. (name, text_of (header_lines m (own_order m)))) proofs → SavesProofs m proofs [] saves
begins_with m None saves law is = (is, All-nil (λ (f : Finding). f.left_out ≡ None))
begins_with m (Some name) saves law is = (text_of (header_lines m (own_order m)), is, exports_none m (text_of (header_lines m (own_order m))) law refl)

-- nothing is found yet
pub none_found : (m : System) (limit : ℕ) (proofs : Option (List ℕ)) (found : Findings) → found.findings.items ≡ [] → found.held.items ≡ [] → SavesProofs m proofs [] (saved_of found.saves) → AreFound m limit proofs [] found
none_found m limit proofs found findings held saves =
    let none : map finding_of found.findings.items ≡ [] = ap (map finding_of) findings in
    record {
      each = subst (EachFinding (IsFoundOf m limit) []) (sym none) tt;
      held = subst (All (IsMet m limit)) (sym held) (All-nil (IsMet m limit));
      count = ap length held ∙ sym (ap (count_by is_unknown) none);
      saves = subst (λ fs. SavesProofs m proofs fs (saved_of found.saves)) (sym none) saves;
    }

saves_unknown : (m : System) (limit n : ℕ) (proofs : Option (List ℕ)) (saves : Option (List ℕ × List ℕ)) → SavesProofs m proofs [] saves → SavesProofs m proofs (replicate n (finding_of (unknown limit))) saves
saves_unknown m limit n None saves e = (e.0, none_told limit n)
saves_unknown m limit n (Some name) saves e = (e.0, e.1, none_proved m limit n e.0 e.2)

pub unknown_reply : (m : System) (limit : ℕ) (proofs : Option (List ℕ)) (held : Vec Held) (full : Held) (fs : List Finding) (reply : code.Reply) → fs ≡ all_unknown m limit
    → reply.text.items ≡ report m fs → reply.ending ≡ Undecided held → held.items ≡ full ∷ [] → IsMet m limit full → SavesProofs m proofs [] (saved_of reply.saves)
    → IsReply (LeavesUnknown m limit proofs) reply
unknown_reply m limit proofs held full fs reply same text ends one of_limit saves = (
  reported m fs reply.ending (saved_of reply.saves),
  gives m fs reply text,
  record {
    held = held;
    full = full;
    one = one;
    of_limit = of_limit;
    text = sym (report_begins m fs) ∙ ap (report m) same;
    ends = ends;
    saves = saves_unknown m limit (length m.specs) proofs (saved_of reply.saves) saves;
  },
)
