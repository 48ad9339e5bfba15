-- The states of formal parameters of which nothing is known.
use Rattle.std.proofs.Common.{◌≡◌, refl, sym, ◌∙◌, ap, subst, ℕ, zero, suc, ◌+◌, ◌<◌, arith, List, [], ◌∷◌, ◌++◌, length, length-append, replicate, Some, None, ⊎_elim, Vec, Global}
use Rattle.std.specs.Prelude.{slice_get, option_and_then}
use Rattle.std.proofs.lemmas.List.{length-replicate}
use Rattle.std.proofs.lemmas.Option.{same_Some, slice_get_within}
use Rattle.smv_instances.specs.Program.{Program}
use Rattle.smv_instances.specs.Instances.{Scope, module_of, instances}
use Rattle.smv_instances.specs.Numbered.{scope_at}
use Rattle.smv_names.specs.declared.states.Parameter.{Parameter}
use Rattle.smv_names.specs.declared.states.State.{State}
use Rattle.smv_names.specs.declared.states.State.TheVariants as state
use Rattle.smv_names.specs.declared.states.States.{States}
use Rattle.smv_names.specs.Passed.{AreIdle, AreStates, state_at}
use Rattle.smv_names.proofs.WaitLemmas.{member_at}
use Rattle.smv_names.proofs.StateLemmas.{row_of, snoc_get}

replicate_get : (n k : ℕ) (x : State) → k < n → slice_get (replicate n x) k ≡ Some x
replicate_get zero k x lt = absurd (omega arith)
replicate_get (suc n) zero x lt = refl
replicate_get (suc n) (suc k) x lt = replicate_get n k x (omega arith)

pub replicate_more : (n : ℕ) (x : State) → replicate (n + 1) x ≡ replicate n x ++ (x ∷ [])
replicate_more zero x = refl
replicate_more (suc n) x = let e : suc n + 1 ≡ suc (n + 1) = omega arith in ap (λ k. replicate k x) e ∙ ap (λ xs. x ∷ xs) (replicate_more n x)

-- the rows of the first n instances
pub record AreUnseen (p : Program) (rows : List (Vec State Global)) (n : ℕ) : Type 0 where
  pub lengths : length rows ≡ n
  pub each : (k : ℕ) (s : Scope) (row : Vec State Global) → scope_at p k ≡ Some s → slice_get rows k ≡ Some row → row.items ≡ replicate (length (module_of s).formals) state.Unseen

pub unseen_none : (p : Program) → AreUnseen p [] 0
unseen_none p = record { lengths = refl; each = λ k s row numbered at. absurd (let none : None ≡ Some row = at in cc) }

pub unseen_more : (p : Program) (rows : List (Vec State Global)) (n : ℕ) (s : Scope) (row : Vec State Global) → AreUnseen p rows n → scope_at p n ≡ Some s → row.items ≡ replicate (length (module_of s).formals) state.Unseen → AreUnseen p (rows ++ (row ∷ [])) (n + 1)
unseen_more p rows n s row are numbered is = record {
  lengths = omega (arith, length-append rows (row ∷ []), are.lengths);
  each = λ k t other at_t at. ⊎_elim
      (λ before. are.each k t other at_t before)
      (λ last.
      let place : k ≡ n = last.0 ∙ are.lengths in
      let same : s ≡ t = same_Some _ _ (sym numbered ∙ ap (scope_at p) (sym place) ∙ at_t) in
      ap (λ (r : Vec State Global). r.items) (sym last.1) ∙ is ∙ ap (λ z. replicate (length (module_of z).formals) state.Unseen) same)
      (snoc_get rows row other k at);
}

module _ (p : Program) (states : States) (are : AreUnseen p states.rows.items (length (instances p))) where
  only_unseen : (at : Parameter) (known : State) → state_at states at ≡ Some known → (s : Scope) × (scope_at p at.instance ≡ Some s) × (at.place < length (module_of s).formals) × (known ≡ state.Unseen)
  only_unseen at known is =
      let row = row_of states at known is in
      let inside : at.instance < length states.rows.items = slice_get_within states.rows.items at.instance row.0 row.1 in
      let s = member_at (instances p) at.instance (omega (arith, inside, are.lengths)) in
      let items = are.each at.instance s.0 row.0 s.1 row.1 in
      let place : at.place < length row.0.items = slice_get_within row.0.items at.place known row.2 in
      let below : at.place < length (module_of s.0).formals = omega (arith, place, ap (λ xs. length xs) items, length-replicate (length (module_of s.0).formals) state.Unseen) in
      (s.0, s.1, below, same_Some _ _ (sym row.2 ∙ ap (λ xs. slice_get xs at.place) items ∙ replicate_get (length (module_of s.0).formals) at.place state.Unseen below))

  pub unseen_idle : AreIdle states
  unseen_idle at is = let u = only_unseen at state.Waiting is in let clash : state.Waiting ≡ state.Unseen = u.3 in cc

  pub unseen_states : AreStates p states
  unseen_states = record {
    rows = are.lengths;
    inside = λ at s numbered lt.
        let within : at.instance < length (instances p) = slice_get_within (instances p) at.instance s numbered in
        let row = member_at states.rows.items at.instance (omega (arith, within, are.lengths)) in
        let items = are.each at.instance s row.0 numbered row.1 in
        (state.Unseen, ap (option_and_then (λ (r : Vec State Global). slice_get r.items at.place)) row.1 ∙ ap (λ xs. slice_get xs at.place) items ∙ replicate_get (length (module_of s).formals) at.place state.Unseen lt);
    formal = λ at s known numbered is.
        let u = only_unseen at known is in
        subst (λ z. at.place < length (module_of z).formals) (same_Some _ _ (sym u.1 ∙ numbered)) u.2;
    right = λ at o is. absurd (let u = only_unseen at (state.Decided o) is in let clash : state.Decided o ≡ state.Unseen = u.3 in cc);
  }
