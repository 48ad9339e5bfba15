-- Without processes the two users of the semaphore assign it in one process.
use Rattle.std.proofs.Common.{◌≡◌, refl, ◌∙◌, ap, ℕ, suc, zero, ◌<◌, ◌+◌, ◌*◌, arith, List, [], ◌∷◌, length, inl, inr, Any, get_or, take}
use Rattle.kripke_model.specs.Term.{Term}
use Rattle.std.specs.List.{slice_index_or}
use Rattle.kripke_model.specs.declared.models.Part.{Part}
use Rattle.kripke_model.specs.declared.refusals.StaticRefusal.{StaticRefusal}
use Rattle.kripke_model.specs.System.{Assignment}
use Rattle.kripke_model.specs.Static.{Breaks, AssignsAgain}
use Rattle.kripke_model.proofs.FirstLemmas.{silent_refuse}
use Rattle.smv_instantiate.proofs.PlainUsersModel.{plain_users_flat}

abbrev part_number : Part → ℕ
part_number Part.Init = 0
part_number Part.Now = 1
part_number Part.Next = 2

-- the variable and the part as one number
abbrev key : Assignment → ℕ
key a = a.var * 3 + part_number a.part

abbrev Apart : ℕ → List Assignment → Type 0
Apart k [] = Unit {0}
Apart k (b ∷ bs) = (key b ≡ k → ⊥) × Apart k bs

same_key : (a b : Assignment) → AssignsAgain a b → key b ≡ key a
same_key a b h = ap (λ v. v * 3 + part_number b.part) h.0 ∙ ap (λ p. a.var * 3 + part_number p) h.1

none_again : (a : Assignment) (before : List Assignment) → Apart (key a) before → Any (AssignsAgain a) before → ⊥
none_again a before e h = go before e h.0 h.1 h.2 h.3 h.4
  where
    go : (bs : List Assignment) → Apart (key a) bs → (k : ℕ) (y : Assignment) → k < length bs → slice_index_or bs k y ≡ y → AssignsAgain a y → ⊥
    go [] e k y below is again = absurd (omega arith)
    go (b ∷ bs) e zero y below is again = e.0 (ap key is ∙ same_key a y again)
    go (b ∷ bs) e (suc k) y below is again = go bs e.1 k y (omega arith) is again

abbrev nth : ℕ → Assignment
nth k = get_or plain_users_flat.assigns k (record { part = Part.Init; var = 0; process = 0; right = Term.Var 0; line = 0 })

-- line 22 is the second `next` of the semaphore
refused : Breaks plain_users_flat (StaticRefusal.AssignedTwice 22)
refused = inl (
    inr (
      silent_refuse (none_again (nth 0) (take 0 plain_users_flat.assigns) tt),
      inr (
        silent_refuse (none_again (nth 1) (take 1 plain_users_flat.assigns) (λ e. omega arith, tt)),
        inr (
          silent_refuse (none_again (nth 2) (take 2 plain_users_flat.assigns) (λ e. omega arith, (λ e. omega arith, tt))),
          inr (
            silent_refuse (none_again (nth 3) (take 3 plain_users_flat.assigns) (λ e. omega arith, (λ e. omega arith, (λ e. omega arith, tt)))),
            inr (
              silent_refuse (none_again (nth 4) (take 4 plain_users_flat.assigns) (λ e. omega arith, (λ e. omega arith, (λ e. omega arith, (λ e. omega arith, tt))))),
              inr (
                silent_refuse (none_again (nth 5) (take 5 plain_users_flat.assigns) (λ e. omega arith, (λ e. omega arith, (λ e. omega arith, (λ e. omega arith, (λ e. omega arith, tt)))))),
                inl (refl, (3, _, omega arith, refl, (refl, refl, λ e. refl))),
              ),
            ),
          ),
        ),
      ),
    ))
