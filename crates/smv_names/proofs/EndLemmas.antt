-- The ends of chains of definitions, one definition after the other.
use Rattle.std.proofs.Common.{◌≡◌, refl, sym, ◌∙◌, ap, subst, ℕ, List, get_or, false, Some, None, Option, ◌⊎◌, inl, inr}
use Rattle.std.proofs.lemmas.Bool.{false≢true}
use Rattle.kripke_model.specs.Term.{Term}
use Rattle.smv_instances.specs.Program.{Expr, Path, Program}
use Rattle.smv_instances.specs.Instances.{Scope}
use Rattle.smv_names.specs.Denotes.{Target, Denotes, bare}
use Rattle.smv_names.specs.Expands.{Expands}
use Rattle.smv_names.specs.Abbreviations.{mentions, Abbreviation, text_of, Names, Uses, Leads, IsCircular}
use Rattle.smv_names.specs.Nodes.{abbreviation_at}
use Rattle.smv_names.specs.Naming.{NamedIn}
use Rattle.smv_names.specs.Targets.{IsText}
use Rattle.smv_names.specs.Ends.{IsEnd, IsStuck, IsStuckIn, IsEndOf, EndOf, AreEnds, no_end}
use Rattle.smv_names.specs.Written.{is_path}
use Rattle.smv_names.proofs.GroundLemmas.{IsGrounded, no_cycle, expands_grounded}
use Rattle.smv_names.proofs.KnownLemmas.{named_itself}
use Rattle.smv_names.proofs.NamedLemmas.{text_of_named, no_reading, to_bare}

-- parentheses name nothing
mentions_bare : (e : Expr) → mentions (bare e) ≡ mentions e
mentions_bare (Expr.Parens e) = mentions_bare e
mentions_bare e = refl

-- a path in parentheses perhaps names what the path names
pub bare_named : (p : Program) (s : Scope) (e : Expr) (q : Path) (a : Abbreviation) → bare e ≡ Expr.At q → Names p s q a → NamedIn p s (mentions e) a
bare_named p s e q a is n = subst (λ ms. NamedIn p s ms a) (sym (ap mentions is) ∙ mentions_bare e) (named_itself p s a q n)

-- ---- the abbreviation itself

itself : {p : Program} {s : Scope} {e : Expr} {own : ℕ} → IsText p own s e → ((q : Path) (h : Scope) (f : Expr) → bare e ≡ Expr.At q → Denotes p s q (Target.Reading h f) → ⊥) → IsEnd p s e own
itself {s} {e} text last = record { scope = s; expr = e; text = text; same = λ t x. x; last = last }

abbrev path_or : Path → Expr → Path
path_or d (Expr.At q) = q
path_or d other = d

-- where its text is a path that names no text
pub leaf_end : (p : Program) (s : Scope) (e : Expr) (own : ℕ) (q : Path) → IsText p own s e → bare e ≡ Expr.At q → ((a : Abbreviation) → Names p s q a → text_of a ≡ None) → IsEndOf p s e own
leaf_end p s e own q text path none = inl (itself text (λ r h f is d. no_reading none (subst (λ z. Denotes p s z (Target.Reading h f)) (ap (path_or q) (sym is ∙ path)) d) refl))

-- where its text is no path
pub own_end : (p : Program) (s : Scope) (e : Expr) (own : ℕ) → IsText p own s e → is_path (bare e) ≡ false → IsEndOf p s e own
own_end p s e own text other = inl (itself text (λ q h f is d. false≢true (sym other ∙ ap is_path is)))

-- ---- a path that names a text

through_text : (p : Program) (s : Scope) (e : Expr) (q : Path) (a : Abbreviation) {h : Scope} {f : Expr} (t : Term) → bare e ≡ Expr.At q → Names p s q a → text_of a ≡ Some (h, f) → Expands p s e t → Expands p h f t
through_text p s e q a t path n is x = text_of_named p s q a n is (subst (λ z. Expands p s z t) path (to_bare x))

-- what uses one that leads into a circle leads there too
stuck_through : {p : Program} {a b : Abbreviation} → Uses p a b → IsStuck p b → IsStuck p a
stuck_through {p} {a} {b} used stuck =
    record { number = stuck.number; circle = stuck.circle; numbered = stuck.numbered; circular = stuck.circular; leads = go stuck.leads }
  where
    go : (b ≡ stuck.circle) ⊎ Leads p b stuck.circle → (a ≡ stuck.circle) ⊎ Leads p a stuck.circle
    go (inl same) = inr (Leads.one (subst (λ z. Uses p a z) same used))
    go (inr leads) = inr (Leads.more used leads)

-- it has the end of the text
pub named_end : (p : Program) (s : Scope) (e : Expr) (q : Path) (a : Abbreviation) (h : Scope) (f : Expr) (node : ℕ) → bare e ≡ Expr.At q → Names p s q a → text_of a ≡ Some (h, f) → IsEndOf p h f node → IsEndOf p s e node
named_end p s e q a h f node path n is (inr ((b, named, stuck), none)) = inr ((a, bare_named p s e q a path n, stuck_through (h, f, is, named) stuck), none)
named_end p s e q a h f node path n is (inl some) = inl (record {
  scope = some.scope;
  expr = some.expr;
  text = some.text;
  same = λ t x. some.same t (through_text p s e q a t path n is x);
  last = some.last;
})

-- ---- abbreviations

abbrev scope_or : Scope → Option (Scope × Expr) → Scope
scope_or d (Some r) = r.0
scope_or d None = d

abbrev expr_or : Expr → Option (Scope × Expr) → Expr
expr_or d (Some r) = r.1
expr_or d None = d

pub end_by_text : (p : Program) (a : Abbreviation) (h : Scope) (f : Expr) (node : ℕ) → text_of a ≡ Some (h, f) → IsEndOf p h f node → EndOf p a node
end_by_text p a h f node is end s e at =
    subst (λ z. IsEndOf p z e node) (ap (scope_or h) (sym is ∙ at)) (subst (λ z. IsEndOf p h z node) (ap (expr_or f) (sym is ∙ at)) end)

pub bare_end : (p : Program) (a : Abbreviation) (node : ℕ) → text_of a ≡ None → EndOf p a node
bare_end p a node none s e is = absurd (let both : None ≡ Some (s, e) = sym none ∙ is in cc)

-- a circular one leads into its circle
pub stuck_end : (p : Program) (v : ℕ) (a : Abbreviation) → abbreviation_at p v ≡ Some a → IsCircular p a → EndOf p a (no_end p)
stuck_end p v a at circular s e is = inr (go circular, refl)
  where
    named : (b : Abbreviation) → Uses p a b → NamedIn p s (mentions e) b
    named b used = subst (λ z. NamedIn p z (mentions e) b) (ap (scope_or s) (sym used.2 ∙ is)) (subst (λ z. NamedIn p used.0 (mentions z) b) (ap (expr_or e) (sym used.2 ∙ is)) used.3)

    go : Leads p a a → IsStuckIn p s e
    go (Leads.one used) = (a, named a used, record { number = v; circle = a; numbered = at; circular = circular; leads = inl refl })
    go (Leads.more {b = b} used leads) = (b, named b used, record { number = v; circle = a; numbered = at; circular = circular; leads = inr leads })

-- ---- what follows

leads_grounded : {p : Program} {a b : Abbreviation} → IsGrounded p a → Leads p a b → IsGrounded p b
leads_grounded {b = b} (IsGrounded.grounded h) (Leads.one used) = h b used
leads_grounded (IsGrounded.grounded h) (Leads.more {b = m} used leads) = leads_grounded (h m used) leads

-- where a chain leads into a circle there is no term
pub stuck_no_term : (p : Program) (s : Scope) (e : Expr) (t : Term) → IsStuckIn p s e → Expands p s e t → ⊥
stuck_no_term p s e t (b, named, stuck) x = go stuck.leads
  where
    g : IsGrounded p b
    g = expands_grounded x b named

    go : (b ≡ stuck.circle) ⊎ Leads p b stuck.circle → ⊥
    go (inl same) = no_cycle (subst (λ z. IsGrounded p z) same g) stuck.circular
    go (inr leads) = no_cycle (leads_grounded g leads) stuck.circular

-- where nothing is circular each chain has an end
pub end_defined : (p : Program) (ends : List ℕ) → AreEnds p ends → ((v : ℕ) (a : Abbreviation) → abbreviation_at p v ≡ Some a → IsCircular p a → ⊥)
    → (v : ℕ) (h : Scope) (e : Expr) → IsText p v h e → IsEnd p h e (get_or ends v (no_end p))
end_defined p ends are straight v h e text = go (are v text.abbreviation text.numbered h e text.text)
  where
    go : IsEndOf p h e (get_or ends v (no_end p)) → IsEnd p h e (get_or ends v (no_end p))
    go (inl end) = end
    go (inr ((b, named, stuck), none)) = absurd (straight stuck.number stuck.circle stuck.numbered stuck.circular)
