-- The entries of one body.
use Rattle.std.proofs.Common.{◌≡◌, refl, sym, ◌∙◌, ap, subst, ℕ, zero, suc, ◌+◌, ◌<◌, arith, List, [], ◌∷◌, ◌++◌, Bool, true, false, length, map, take, get_or, append-nil, inr, ⊎_elim}
use Rattle.std.specs.List.{list_any}
use Rattle.std.specs.Str.{bytes_eq}
use Rattle.std.proofs.lemmas.List.{length-map, take_more}
use Rattle.std.proofs.lemmas.List.Folds.{list_any_at, Any-from_list_any}
use Rattle.std.proofs.lemmas.Grind.{flat_map-append}
use Rattle.std.proofs.lemmas.Slice.Eq.{bytes_eq-Decides}
use Rattle.kripke_model.specs.Refusing.{Silent, First}
use Rattle.kripke_model.proofs.FirstLemmas.{silent_refuse, silent_then}
use Rattle.kripke_model.specs.declared.refusals.FlatRefusal.{FlatRefusal}
use Rattle.smv_instances.specs.Program.{Program}
use Rattle.smv_instances.specs.Entries.{Entry, entries}
use Rattle.smv_instances.specs.Instances.{Scope, module_of}
use Rattle.smv_instances.specs.Declarations.{IsDeclaredAgain, IsSecondMain, declaration, declaration_rows, entries_of}
use Rattle.smv_instances.specs.Tables.{IsFresh}
use Rattle.smv_instances.proofs.FirstSteps.{silent_push, first_push}
use Rattle.smv_instances.proofs.TableLemmas.{get_or-map, map-take}

clash : (b : Bool) → b ≡ true → b ≡ false → ⊥
clash b t f = cc

-- the same name among those before it, by the test and by the fact
pub again_test : (es : List Entry) (e : Entry) → IsDeclaredAgain es e → list_any (bytes_eq e.name) (map (λ d. d.name) es) ≡ true
again_test es e h =
    list_any_at (bytes_eq e.name) (map (λ (d : Entry). d.name) es) h.0 e.name (omega (arith, h.2, length-map es (λ (d : Entry). d.name)))
    (ap (bytes_eq e.name) (get_or-map (λ (d : Entry). d.name) es h.0 h.1 e.name h.2) ∙ (bytes_eq-Decides _ _).1 (sym (ap (λ (d : Entry). d.name) h.3 ∙ h.4)))

pub test_again : (es : List Entry) (e : Entry) → list_any (bytes_eq e.name) (map (λ d. d.name) es) ≡ true → IsDeclaredAgain es e
test_again es e h =
    let found = Any-from_list_any (bytes_eq e.name) (map (λ (d : Entry). d.name) es) h in
    let lt : found.0 < length es = omega (arith, found.2, length-map es (λ (d : Entry). d.name)) in
    let same : e.name ≡ found.1 = (bytes_eq-Decides _ _).0 found.4 in
    (found.0, get_or es found.0 e, lt, inside es found.0 e lt, sym (get_or-map (λ (d : Entry). d.name) es found.0 e found.1 lt) ∙ found.3 ∙ sym same)
  where
    inside : (xs : List Entry) (k : ℕ) (d : Entry) → k < length xs → get_or xs k (get_or xs k d) ≡ get_or xs k d
    inside [] k d below = absurd (omega arith)
    inside (x ∷ xs) zero d below = refl
    inside (x ∷ xs) (suc k) d below = inside xs k d (omega arith)

pub not_again : (es : List Entry) (i : ℕ) (e : Entry) → IsFresh (map (λ d. d.name) es) → i < length es → get_or es i e ≡ e → IsDeclaredAgain (take i es) e → ⊥
not_again es i e fresh lt at h =
    let names = map (λ (d : Entry). d.name) es in
    let here : get_or names i e.name ≡ e.name = get_or-map (λ (d : Entry). d.name) es i e e.name lt ∙ ap (λ (d : Entry). d.name) at in
    let new : list_any (bytes_eq (get_or names i e.name)) (take i names) ≡ false = fresh i e.name (omega (arith, lt, length-map es (λ (d : Entry). d.name))) in
    clash _ (again_test (take i es) e h) (ap (list_any (bytes_eq e.name)) (sym (map-take (λ (d : Entry). d.name) i es)) ∙ ap (λ x. list_any (bytes_eq x) (take i names)) (sym here) ∙ new)

-- ---- the rule of one entry

module _ (p : Program) (before : List Scope) (s : Scope) where
  pub silent_entry : (earlier : List Entry) (e : Entry) → (IsDeclaredAgain earlier e → ⊥) → (IsSecondMain s e → ⊥) → Silent (declaration_rows p (entries_of before ++ earlier ++ (e ∷ [])) s e.line e.entity) → Silent (declaration p before s earlier e)
  silent_entry earlier e new other rows = silent_then (silent_refuse (⊎_elim new other)) rows

  pub refused_entry : (earlier : List Entry) (e : Entry) (r : FlatRefusal) → (IsDeclaredAgain earlier e → ⊥) → (IsSecondMain s e → ⊥) → declaration_rows p (entries_of before ++ earlier ++ (e ∷ [])) s e.line e.entity r → declaration p before s earlier e r
  refused_entry earlier e r new other h = inr (silent_refuse (⊎_elim new other), h)

  -- the first i + 1 entries of the body
  pub silent_more : (es : List Entry) (i : ℕ) (e : Entry) → i < length es → get_or es i e ≡ e → Silent (First (declaration p before s) [] (take i es)) → Silent (declaration p before s (take i es) e) → Silent (First (declaration p before s) [] (take (i + 1) es))
  silent_more es i e lt at first here =
      subst (λ xs. Silent (First (declaration p before s) [] xs)) (sym (take_more es i e lt ∙ ap (λ d. take i es ++ (d ∷ [])) at)) (silent_push (declaration p before s) (take i es) e first here)

  pub refused_at : (es : List Entry) (i : ℕ) (e : Entry) (r : FlatRefusal) → i < length es → get_or es i e ≡ e → Silent (First (declaration p before s) [] (take i es)) → declaration p before s (take i es) e r → First (declaration p before s) [] es r
  refused_at es i e r lt at first here =
      let split = split_at es i lt in
      subst (λ xs. First (declaration p before s) [] xs r) (sym (split.1 ∙ ap (λ d. take i es ++ (d ∷ split.0)) at)) (first_push (declaration p before s) (take i es) split.0 e r first here)
    where
      split_at : (xs : List Entry) (k : ℕ) → k < length xs → (rest : List Entry) × (xs ≡ take k xs ++ (get_or xs k e ∷ rest))
      split_at [] k below = absurd (omega arith)
      split_at (x ∷ xs) zero below = (xs, refl)
      split_at (x ∷ xs) (suc k) below = let rest = split_at xs k (omega arith) in (rest.0, ap (λ ys. x ∷ ys) rest.1)

-- the entries of one body more
pub entries_push : (before : List Scope) (s : Scope) → entries_of (before ++ (s ∷ [])) ≡ entries_of before ++ entries (module_of s)
entries_push before s = flat_map-append (λ (t : Scope). entries (module_of t)) before (s ∷ []) ∙ ap (λ es. entries_of before ++ es) (append-nil (entries (module_of s)))
