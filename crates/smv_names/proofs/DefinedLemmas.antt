-- Where no definition is refused, each one stands for a term.
use Rattle.std.proofs.Common.{◌≡◌, refl, sym, ◌∙◌, ap, subst, ℕ, Bool, true, false, Some, None, Option}
use Rattle.std.specs.Prelude.{cond}
use Rattle.smv_instances.specs.Program.{Expr, Path, Program}
use Rattle.smv_instances.specs.Instances.{Scope}
use Rattle.smv_names.specs.Denotes.{Target, Denotes, Finds, Meaning, meaning}
use Rattle.smv_names.specs.Expands.{Expands}
use Rattle.smv_names.specs.Abbreviations.{mentions, index_mentions, Abbreviation, text_of, Uses}
use Rattle.smv_names.specs.Nodes.{abbreviation_at}
use Rattle.smv_names.specs.Sound.{IsSound, AreSound, AreDefined, text_mentions}
use Rattle.std.proofs.lemmas.List.Elements.{All-head}
use Rattle.smv_names.proofs.NamedLemmas.{IsText, IsBare, text_means, bare_means, found_direct}
use Rattle.smv_names.proofs.GroundLemmas.{IsGrounded}
use Rattle.smv_names.proofs.ExistLemmas.{IsGood, AllGood, denotes_good, term_exists}

not_true : false ≡ true → ⊥
not_true e = subst (λ b. cond b ⊥ (Unit {0})) e tt

abbrev is_direct : Option Meaning → Bool
is_direct (Some (Meaning.Direct t)) = true
is_direct other = false

abbrev around_or : Scope → Option Meaning → Scope
around_or s (Some (Meaning.Passed around q)) = around
around_or s other = s

abbrev path_or : Path → Option Meaning → Path
path_or q (Some (Meaning.Passed around r)) = r
path_or q other = q

abbrev home_or : Scope → Target → Scope
home_or s (Target.Reading home e) = home
home_or s other = s

abbrev expr_or : Expr → Target → Expr
expr_or d (Target.Reading home e) = e
expr_or d other = d

bare_good : {p : Program} {a : Abbreviation} → text_of a ≡ None → IsGood p a
bare_good {p} {a} none = record {
  reading = λ h e m. absurd (subst IsBare m (bare_means p a none));
  passes = λ h r u m d. absurd (subst IsBare m (bare_means p a none));
}

text_good : {p : Program} {a : Abbreviation} {h : Scope} {e : Expr} → AllGood p h (mentions e) → AreSound p h (text_mentions (meaning p a.scope a.name) e) → IsText h e (meaning p a.scope a.name) → IsGood p a
text_good {p} {a} {h} {e} g sound (IsText.reading m) = record {
  reading = λ k f n.
      let same : Target.Reading h e ≡ Target.Reading k f = found_direct {p = p} {s = a.scope} {x = a.name} m (Finds.direct n) in
      let x = term_exists e g (subst (λ z. AreSound p h (text_mentions z e)) m sound) in
      (x.0, subst (λ z. Expands p z f x.0) (ap (home_or h) same) (subst (λ z. Expands p h z x.0) (ap (expr_or e) same) x.1));
  passes = λ k r u n d. absurd (not_true (ap is_direct (sym n ∙ m)));
}
text_good {p} {a} {h} {e} g sound (IsText.passes r is m) = record {
  reading = λ k f n. absurd (not_true (ap is_direct (sym m ∙ n)));
  passes = λ k q u n d.
      let d' : Denotes p h r u = subst (λ z. Denotes p z r u) (ap (around_or k) (sym n ∙ m)) (subst (λ z. Denotes p k z u) (ap (path_or q) (sym n ∙ m)) d) in
      denotes_good d' (subst (λ z. AllGood p h (mentions z)) is g) (All-head (IsSound p h) (record { path = r; wanted = false }) (index_mentions r) (subst (λ z. AreSound p h (text_mentions z e)) m sound)).indexes;
}

-- what is used is numbered
abbrev pub AreNumbered : Program → Type 0
AreNumbered p = (v : ℕ) (a b : Abbreviation) (text : Scope × Expr) → abbreviation_at p v ≡ Some a → Uses p a b → text_of b ≡ Some text → (w : ℕ) × (abbreviation_at p w ≡ Some b)

used_good : (p : Program) (b : Abbreviation) → ((text : Scope × Expr) → text_of b ≡ Some text → IsGood p b) → IsGood p b
used_good p b good = go (text_of b) refl
  where
    go : (o : Option (Scope × Expr)) → text_of b ≡ o → IsGood p b
    go None is = bare_good is
    go (Some text) is = good text is

pub grounded_good : (p : Program) → AreDefined p → AreNumbered p → (a : Abbreviation) → IsGrounded p a → (v : ℕ) → abbreviation_at p v ≡ Some a → IsGood p a
grounded_good p defined closed a (IsGrounded.grounded h) v at = used_good p a (λ text is. text_good
    (λ b named.
    let used : Uses p a b = (text.0, text.1, is, named) in
    used_good p b (λ more has. let w = closed v a b more at used has in grounded_good p defined closed b (h b used) w.0 w.1))
    (defined.sound v a text.0 text.1 at is) (text_means p a is))
