-- What is found of the specifications, one after the other, and how a report of it ends.
use Rattle.std.proofs.Common.{◌≡◌, ◌∙◌, ℕ, suc, ◌+◌, ◌<◌, ◌≤◌, List, [], ◌∷◌, ◌++◌, length, map, Bool, true, false, cond, Option, Some, None, refl, sym, ap, subst, arith, length-append}
use Rattle.std.specs.Prelude.{All, count_by}
use Rattle.std.proofs.lemmas.List.{map-append, length-map}
use Rattle.std.proofs.lemmas.List.Elements.{All-nil, All-cons, All-append}
use Rattle.std.proofs.lemmas.List.Sums.{sum_by_push}
use Rattle.std.specs.Global.{Vec}
use Rattle.bdd_nodes.specs.declared.refusal.Held.{Held}
use Rattle.kripke_model.specs.Ctl.{Ctl, formula_of}
use Rattle.kripke_model.specs.System.{System, Condition}
use Rattle.proof_text.specs.File.{Block}
use Rattle.proof_text.specs.Lines.{block_lines, text_of}
use Rattle.proof_text.specs.Written.{AreSpelled}
use Rattle.smv_texts.specs.Evidence.{IsMet}
use Rattle.smv_texts.specs.Outcomes.{finding_of, outcome_of}
use Rattle.smv_texts.specs.Replies.{saved_of}
use Rattle.smv_texts.specs.Report.{Finding, is_unknown, is_false}
use Rattle.smv_texts.specs.declared.ending.Ending.TheVariants.{Clear, Failed, Undecided}
use Rattle.smv_texts.specs.declared.outcome.Finding as code
use Rattle.smv_texts.specs.declared.outcome.Outcome.{Outcome}
use Rattle.smv_texts.specs.declared.outcome.Outcome.TheVariants.{True, False, Unknown}
use Rattle.spec_verdicts.specs.Added.{AddsToSaved}
use Rattle.spec_verdicts.specs.Checked.{EndsWith, SavesProofs}
use Rattle.spec_verdicts.specs.Exports.{Exports, ProvesOutcome}
use Rattle.spec_verdicts.specs.Found.{IsFoundOf, AreFound}
use Rattle.spec_verdicts.specs.Verdicts.{EachFinding, IsDecided, IsVerdict, ShowsState, AreVerdicts, ShowStates}
use Rattle.spec_verdicts.specs.declared.findings.Findings.{Findings}
use Rattle.spec_verdicts.proofs.ExportLemmas.{exports_unknown, exports_long, exports_more}

-- ---- lists of findings

module _ (R : Ctl → Finding → Type 0) where
  pub each_push : (cs : List Condition) (fs : List Finding) (c : Condition) (f : Finding) → EachFinding R cs fs → R (formula_of c.expr) f → EachFinding R (cs ++ c ∷ []) (fs ++ f ∷ [])
  each_push [] [] c f each one = (one, tt)
  each_push (d ∷ cs) (g ∷ fs) c f each one = (each.0, each_push cs fs c f each.1 one)
  each_push [] (g ∷ fs) c f each one = absurd each
  each_push (d ∷ cs) [] c f each one = absurd each

  pub each_length : (cs : List Condition) (fs : List Finding) → EachFinding R cs fs → length fs ≡ length cs
  each_length [] [] each = refl
  each_length (d ∷ cs) (g ∷ fs) each = ap suc (each_length cs fs each.1)
  each_length [] (g ∷ fs) each = absurd each
  each_length (d ∷ cs) [] each = absurd each

each_weaker : (R Q : Ctl → Finding → Type 0) → ((f : Ctl) (g : Finding) → R f g → Q f g) → (cs : List Condition) (fs : List Finding) → EachFinding R cs fs → EachFinding Q cs fs
each_weaker R Q to [] [] each = tt
each_weaker R Q to (d ∷ cs) (g ∷ fs) each = (to (formula_of d.expr) g each.0, each_weaker R Q to cs fs each.1)
each_weaker R Q to [] (g ∷ fs) each = absurd each
each_weaker R Q to (d ∷ cs) [] each = absurd each

pub verdicts_of : (m : System) (limit : ℕ) (fs : List Finding) → EachFinding (IsFoundOf m limit) m.specs fs → AreVerdicts m limit fs
verdicts_of m limit fs each = each_weaker (IsFoundOf m limit) (λ f finding. IsVerdict m limit f finding.outcome) (λ f g found. found.0) m.specs fs each

pub states_of : (m : System) (limit : ℕ) (fs : List Finding) → EachFinding (IsFoundOf m limit) m.specs fs → ShowStates m fs
states_of m limit fs each = each_weaker (IsFoundOf m limit) (λ f finding. ShowsState m f finding.outcome) (λ f g found. found.1) m.specs fs each

-- ---- one more

-- what is decided is found
found_of : (m : System) (limit : ℕ) (f : Ctl) (o : Outcome) (left_out : Option ℕ) → IsDecided m f (outcome_of o) → IsFoundOf m limit f (finding_of (record { outcome = o; left_out = left_out }))
found_of m limit f True left_out is = (is, tt)
found_of m limit f (False s path) left_out is = (λ holds. is.0.0.2 (holds s is.0.0.0 is.0.0.1), is)
found_of m limit f (Unknown met) left_out is = absurd is

known : (m : System) (f : Ctl) (o : Outcome) (left_out : Option ℕ) → IsDecided m f (outcome_of o) → is_unknown (finding_of (record { outcome = o; left_out = left_out })) ≡ false
known m f True left_out is = refl
known m f (False s path) left_out is = refl
known m f (Unknown met) left_out is = absurd is

module _ (m : System) (limit : ℕ) (proofs : Option (List ℕ)) (cs : List Condition) (c : Condition) (one : code.Finding) (old new : Findings) (found : AreFound m limit proofs cs old)
    (findings : new.findings.items ≡ old.findings.items ++ one ∷ []) where
  findings_more : map finding_of new.findings.items ≡ map finding_of old.findings.items ++ finding_of one ∷ []
  findings_more = ap (map finding_of) findings ∙ map-append finding_of old.findings.items (one ∷ [])

  each_more : IsFoundOf m limit (formula_of c.expr) (finding_of one) → EachFinding (IsFoundOf m limit) (cs ++ c ∷ []) (map finding_of new.findings.items)
  each_more is = subst (EachFinding (IsFoundOf m limit) (cs ++ c ∷ [])) (sym findings_more)
      (each_push (IsFoundOf m limit) cs (map finding_of old.findings.items) c (finding_of one) found.each is)

  count_more : (b : Bool) → is_unknown (finding_of one) ≡ b → count_by is_unknown (map finding_of new.findings.items) ≡ count_by is_unknown (map finding_of old.findings.items) + cond b 1 0
  count_more b e =
      ap (count_by is_unknown) findings_more ∙ sum_by_push (λ f. cond (is_unknown f) 1 0) (map finding_of old.findings.items) (finding_of one)
      ∙ ap (λ (x : Bool). count_by is_unknown (map finding_of old.findings.items) + cond x 1 0) e

  known_more : is_unknown (finding_of one) ≡ false → IsFoundOf m limit (formula_of c.expr) (finding_of one) → new.held.items ≡ old.held.items
      → SavesProofs m proofs (map finding_of old.findings.items ++ finding_of one ∷ []) (saved_of new.saves) → AreFound m limit proofs (cs ++ c ∷ []) new
  known_more sure is same saves = record {
    each = each_more is;
    held = subst (All (IsMet m limit)) (sym same) found.held;
    count =
        let before = found.count in
        let after = count_more false sure in
        ap length same ∙ omega (arith, before, after);
    saves = subst (λ fs. SavesProofs m proofs fs (saved_of new.saves)) (sym findings_more) saves;
  }

  -- nothing is told of a proof of what is unknown
  unproved : (o : Option (List ℕ)) → SavesProofs m o (map finding_of old.findings.items) (saved_of old.saves) → is_unknown (finding_of one) ≡ true → (finding_of one).left_out ≡ None
      → SavesProofs m o (map finding_of old.findings.items ++ finding_of one ∷ []) (saved_of old.saves)
  unproved None saves unknown told = (saves.0, All-append (λ (f : Finding). f.left_out ≡ None) (map finding_of old.findings.items) (finding_of one ∷ []) saves.1 (All-cons (λ (f : Finding). f.left_out ≡ None) (finding_of one) [] told (All-nil (λ (f : Finding). f.left_out ≡ None))))
  unproved (Some name) saves unknown told = (saves.0, saves.1, exports_unknown m (map finding_of old.findings.items) (finding_of one) saves.0 unknown told saves.2)

  pub unknown_more : (h : Held) → one ≡ record { outcome = Unknown limit; left_out = None } → IsMet m limit h → new.held.items ≡ old.held.items ++ h ∷ [] → new.saves ≡ old.saves → AreFound m limit proofs (cs ++ c ∷ []) new
  unknown_more h is of_limit more same = record {
    each = each_more (subst (λ u. IsFoundOf m limit (formula_of c.expr) (finding_of u)) (sym is) (refl, tt));
    held = subst (All (IsMet m limit)) (sym more)
        (All-append (IsMet m limit) old.held.items (h ∷ []) found.held (All-cons (IsMet m limit) h [] of_limit (All-nil (IsMet m limit))));
    count =
        let before = found.count in
        let after = count_more true (ap (λ (u : code.Finding). is_unknown (finding_of u)) is) in
        let size = length-append old.held.items (h ∷ []) in
        ap length more ∙ omega (arith, before, after, size);
    saves = subst (λ fs. SavesProofs m proofs fs (saved_of new.saves)) (sym findings_more)
        (subst (λ saves. SavesProofs m proofs (map finding_of old.findings.items ++ finding_of one ∷ []) (saved_of saves)) (sym same)
        (unproved proofs found.saves (ap (λ (u : code.Finding). is_unknown (finding_of u)) is) (ap (λ (u : code.Finding). u.left_out) is)));
  }

-- no proof is asked for
pub decided_more : (m : System) (limit : ℕ) (cs : List Condition) (c : Condition) (o : Outcome) (old new : Findings) → AreFound m limit None cs old → IsDecided m (formula_of c.expr) (outcome_of o)
    → new.findings.items ≡ old.findings.items ++ record { outcome = o; left_out = None } ∷ [] → new.held.items ≡ old.held.items → new.saves ≡ old.saves → AreFound m limit None (cs ++ c ∷ []) new
decided_more m limit cs c o old new found is findings held same =
    let one : code.Finding = record { outcome = o; left_out = None } in
    known_more m limit None cs c one old new found findings (known m (formula_of c.expr) o None is) (found_of m limit (formula_of c.expr) o None is) held
    (ap saved_of same ∙ found.saves.0, All-append (λ (f : Finding). f.left_out ≡ None) (map finding_of old.findings.items) (finding_of one ∷ []) found.saves.1 (All-cons (λ (f : Finding). f.left_out ≡ None) (finding_of one) [] refl (All-nil (λ (f : Finding). f.left_out ≡ None))))

-- a proof is added to the file, or left out
saves_more : (m : System) (fs : List Finding) (f : Finding) (name bytes block : List ℕ) (b : Block) (left_out : Option ℕ) (saves : Option (List ℕ × List ℕ)) → AreSpelled m → f.left_out ≡ left_out
    → ProvesOutcome m (1 + length fs) f.outcome b → block ≡ text_of (block_lines m b) → Exports m fs bytes → AddsToSaved (Some (name, bytes)) block saves left_out → SavesProofs m (Some name) (fs ++ f ∷ []) saves
saves_more m fs f name bytes block b None saves law told proves is exports (after, there, adds) =
    let size = ap length is in (
      after,
      there,
      subst (Exports m (fs ++ f ∷ [])) (sym (adds.0 ∙ ap (λ (text : List ℕ). bytes ++ text) is)) (exports_more m fs f bytes b law proves told (omega (arith, adds.1, size)) exports),
    )
saves_more m fs f name bytes block b (Some n) saves law told proves is exports (after, there, adds) =
    let size = ap length is in (
      after,
      there,
      subst (Exports m (fs ++ f ∷ [])) (sym adds.0) (exports_long m fs f bytes b n proves told (omega (arith, adds.1, size)) adds.2 exports),
    )

pub proved_more : (m : System) (limit : ℕ) (name : List ℕ) (cs : List Condition) (c : Condition) (b : Block) (o : Outcome) (left_out : Option ℕ) (block : List ℕ) (old new : Findings) → AreSpelled m
    → AreFound m limit (Some name) cs old → IsDecided m (formula_of c.expr) (outcome_of o) → ProvesOutcome m (1 + length cs) (outcome_of o) b → block ≡ text_of (block_lines m b)
    → new.findings.items ≡ old.findings.items ++ record { outcome = o; left_out = left_out } ∷ [] → new.held.items ≡ old.held.items → AddsToSaved (saved_of old.saves) block (saved_of new.saves) left_out
    → AreFound m limit (Some name) (cs ++ c ∷ []) new
proved_more m limit name cs c b o left_out block old new law found is proves text findings held adds =
    let one : code.Finding = record { outcome = o; left_out = left_out } in
    let fs : List Finding = map finding_of old.findings.items in
    let many = each_length (IsFoundOf m limit) cs fs found.each in
    known_more m limit (Some name) cs c one old new found findings (known m (formula_of c.expr) o left_out is) (found_of m limit (formula_of c.expr) o left_out is) held
    (saves_more m fs (finding_of one) name found.saves.0 block b left_out (saved_of new.saves) law refl
    (subst (λ (n : ℕ). ProvesOutcome m n (outcome_of o) b) (omega (arith, many)) proves) text found.saves.2
    (subst (λ saved. AddsToSaved saved block (saved_of new.saves) left_out) found.saves.1 adds))

-- ---- endings

module _ (m : System) (limit : ℕ) (fs : List Finding) (held : Vec Held) (many : length held.items ≡ count_by is_unknown fs) where
  pub undecided : All (IsMet m limit) held.items → 0 < length held.items → EndsWith m limit fs (Undecided held)
  undecided full some = (full, some, many)

  none_full : length held.items ≡ 0 → count_by is_unknown fs ≡ 0
  none_full none = omega (arith, none, many)

  pub failed : length held.items ≡ 0 → 0 < count_by is_false fs → EndsWith m limit fs Failed
  failed none some = (none_full none, some)

  pub clear : length held.items ≡ 0 → count_by is_false fs ≡ 0 → EndsWith m limit fs Clear
  clear none nowhere = (none_full none, nowhere)

-- no more findings than specifications
pub few_findings : (m : System) (limit : ℕ) (proofs : Option (List ℕ)) (found : Findings) → AreFound m limit proofs m.specs found → length found.findings.items ≤ length m.specs
few_findings m limit proofs found all =
    let each = each_length (IsFoundOf m limit) m.specs (map finding_of found.findings.items) all.each in
    let size = length-map found.findings.items finding_of in
    omega (arith, each, size)
