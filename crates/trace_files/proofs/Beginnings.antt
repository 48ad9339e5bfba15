-- Beginnings of traces.
use Rattle.std.proofs.Common.{◌≡◌, inl, inr, ℕ, zero, suc, List, [], ◌∷◌, ◌++◌, take, drop, refl, ◌∙◌, ap, append_assoc}
use Rattle.kripke_model.specs.System.{System}
use Rattle.trace_files.specs.Refuses.{Begins}

take_none : (j : ℕ) (ts : List (List ℕ)) → ts ≡ [] → take j ts ≡ []
take_none zero ts e = refl
take_none (suc j) [] e = refl
take_none (suc j) (t ∷ ts) e = absurd (cc)

parted : (j : ℕ) (ts : List (List ℕ)) → ts ≡ take j ts ++ drop j ts
parted zero ts = refl
parted (suc j) [] = refl
parted (suc j) (t ∷ ts) = ap (λ us. t ∷ us) (parted j ts)

module _ (m : System) (texts : List (List ℕ)) where
  pub begins_less : (j : ℕ) → Begins m texts → Begins m (take j texts)
  begins_less j (inl e) = inl (take_none j texts e)
  begins_less j (inr o) = inr (record {
    trace = o.trace;
    is_trace = o.is_trace;
    rest = drop j texts ++ o.rest;
    lines = o.lines ∙ ap (λ ts. ts ++ o.rest) (parted j texts) ∙ append_assoc (take j texts) (drop j texts) o.rest;
  })
