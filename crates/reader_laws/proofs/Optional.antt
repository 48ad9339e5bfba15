-- What may be left out is read exactly.
use Rattle.std.proofs.Common.{◌≡◌, ℕ, Bool, true, false, cond, ◌⊎◌, inl, inr, List, [], ◌∷◌, ◌++◌, Option, Some, None, refl, sym, ◌∙◌, ap, subst}
use Rattle.reader_laws.specs.Reading.{Reading, ◌>>=◌, first_is}
use Rattle.reader_laws.specs.Reading.Reading.{found, syntax_error, too_deep}
use Rattle.reader_laws.specs.Optional.{optional}
use Rattle.reader_laws.proofs.Readers.{SameHead, Outcome, Completes, Reads}
use Rattle.reader_laws.proofs.More.{map_reads, transfer}

abbrev pub OptionIs : {T A : Type 0} → (List T → A → Type 0) → List T → Option A → Type 0
OptionIs D ts None = ts ≡ []
OptionIs D ts (Some x) = D ts x

abbrev pub OptionFits : {A : Type 0} → (A → Type 0) → Option A → Type 0
OptionFits F None = Unit {0}
OptionFits F (Some x) = F x

-- nothing is read where the first token doesn't pass
abbrev pub OptionEnds : {T A : Type 0} → (T → Bool) → (A → List T → Type 0) → Option A → List T → Type 0
OptionEnds p E None r = first_is p r ≡ false
OptionEnds p E (Some x) r = E x r

pub decide_option : {A : Type 0} (F : A → Type 0) → ((x : A) → F x ⊎ (F x → ⊥)) → (o : Option A) → OptionFits F o ⊎ (OptionFits F o → ⊥)
decide_option F d None = inl tt
decide_option F d (Some x) = d x

head_same : {T : Type 0} (p : T → Bool) (u v : List T) → SameHead u v → first_is p u ≡ first_is p v
head_same p [] [] h = refl
head_same p [] (y ∷ v) h = absurd h
head_same p (x ∷ u) [] h = absurd h
head_same p (x ∷ u) (y ∷ v) h = ap p h

abbrev SomeIs : {T A : Type 0} → (List T → A → Type 0) → List T → Option A → Type 0
SomeIs {A = A} D ts o = (x : A) × (o ≡ Some x) × D ts x

module _ {T A : Type 0} (p : T → Bool) (D : List T → A → Type 0) (F : A → Type 0) (E : A → List T → Type 0) (run : List T → Reading T A) (one : Reads D F E run)
    (begins : (a : List T) (x : A) → D a x → (t : T) × (u : List T) × (a ≡ t ∷ u) × (p t ≡ true)) where
  some_reads : Reads (SomeIs D) (OptionFits F) (OptionEnds p E) (λ s. run s >>= λ x r. found (Some x) r)
  some_reads = map_reads D F E run one Some (SomeIs D) (OptionFits F) (OptionEnds p E)
      (λ a x d. (x, refl, d)) (λ a y d. d) (λ x h. h) (λ x h. h) (λ a x r d e. e) (λ a x r d e. e)

  into : (a : List T) (o : Option A) → SomeIs D a o → OptionIs D a o
  into a o (x, q, d) = subst (OptionIs D a) (sym q) d

  there : (s : List T) → first_is p s ≡ true → optional p run s ≡ (run s >>= λ x r. found (Some x) r)
  unfolding optional
  there s h = rw h refl

  absent : (s : List T) → first_is p s ≡ false → optional p run s ≡ found None s
  unfolding optional
  absent s h = rw h refl

  option_outcome : (s : List T) (w : Bool) → first_is p s ≡ w → Outcome (OptionIs D) (OptionFits F) (OptionEnds p E) (λ v y. optional p run v ≡ y) s (optional p run s)
  option_outcome s true h = subst (Outcome (OptionIs D) (OptionFits F) (OptionEnds p E) (λ v y. optional p run v ≡ y) s) (sym (there s h))
      (transfer (SomeIs D) (OptionIs D) (OptionFits F) (OptionEnds p E) (OptionEnds p E) into (λ a x r d e. e)
      (λ v. run v >>= λ x r. found (Some x) r) (optional p run) s (λ v sh. there v (sym (head_same p s v sh) ∙ h))
      (run s >>= λ x r. found (Some x) r) (some_reads.outcome s))
  option_outcome s false h = subst (Outcome (OptionIs D) (OptionFits F) (OptionEnds p E) (λ v y. optional p run v ≡ y) s) (sym (absent s h))
      ([], refl, refl, tt, h, λ v sh. absent v (sym (head_same p s v sh) ∙ h))

  option_complete : (a : List T) (o : Option A) (r : List T) → OptionIs D a o → OptionEnds p E o r → Completes (OptionIs D) (OptionFits F) (OptionEnds p E) o r (optional p run (a ++ r))
  option_complete a None r d e = subst (λ (l : List T). Completes (OptionIs D) (OptionFits F) (OptionEnds p E) None r (optional p run (l ++ r))) (sym d)
      (record { within = λ h. absent r e; beyond = λ n. absurd (n tt) })
  option_complete a (Some x) r d e =
      let b = begins a x d in
      let c = some_reads.complete a (Some x) r (x, refl, d) e in
      subst (Completes (OptionIs D) (OptionFits F) (OptionEnds p E) (Some x) r)
      (sym (there (a ++ r) (ap (λ (l : List T). first_is p (l ++ r)) b.2 ∙ b.3)))
      (record { within = c.within; beyond = c.beyond })

  pub optional_reads : Reads (OptionIs D) (OptionFits F) (OptionEnds p E) (optional p run)
  optional_reads = record {
    complete = option_complete;
    outcome = λ s. option_outcome s (first_is p s) refl;
    some = ([], None, refl, tt);
  }
