-- A table over abbreviations that is filled in order.
use Rattle.std.proofs.Common.{◌≡◌, ◌≢◌, refl, sym, ◌∙◌, ap, subst, ℕ, zero, suc, ◌+◌, ◌<◌, ◌≤◌, arith, List, [], ◌∷◌, length, get_or, set, replicate, Bool, false, Some, None, Option, ◌⊎◌, inl, inr}
use Rattle.std.proofs.lemmas.List.{get_or-set_same, get_or-set_other, get_or-replicate, length-replicate, length-set}
use Rattle.smv_instances.specs.Program.{Expr, Program}
use Rattle.smv_instances.specs.Instances.{Scope, all_entries}
use Rattle.smv_names.specs.Abbreviations.{Abbreviation, text_of, Uses}
use Rattle.smv_names.specs.Nodes.{abbreviation_at}
use Rattle.smv_names.specs.Ordered.{AreOrdered}
use Rattle.smv_names.specs.Works.{Works}

below_or_from : (j k : ℕ) → (j < k) ⊎ (k ≤ j)
below_or_from j zero = inr (omega arith)
below_or_from zero (suc k) = inl (omega arith)
below_or_from (suc j) (suc k) = elim (below_or_from j k) [ inl h ↦ inl (omega arith) | inr h ↦ inr (omega arith) ]

same_or_below : (j k : ℕ) → j < k + 1 → (j < k) ⊎ (j ≡ k)
same_or_below j k h = elim (below_or_from j k) [ inl l ↦ inl l | inr l ↦ inr (omega arith) ]

module _ {A : Type 0} {start : A} {property : Abbreviation → A → Type 0} {p : Program} {order : List ℕ} where
  pub works_begin : Works start property p order (replicate (length (all_entries p)) start) 0
  works_begin = record {
    lengths = length-replicate (length (all_entries p)) start;
    done = λ j a h. absurd (omega arith);
    later = λ j h g. start_or (get_or order j 0);
  }
    where
      start_or : (v : ℕ) → get_or (replicate (length (all_entries p)) start) v start ≡ start
      start_or v = same (length (all_entries p)) v
        where
          same : (n i : ℕ) → get_or (replicate n start) i start ≡ start
          same n i = elim (below_or_from i n) [ inl h ↦ get_or-replicate n i start start h | inr h ↦ beyond n i h ]
            where
              beyond : (n i : ℕ) → n ≤ i → get_or (replicate n start) i start ≡ start
              beyond n i h = past (replicate n start) i (omega (arith, length-replicate n start))
                where
                  past : (xs : List A) (i : ℕ) → length xs ≤ i → get_or xs i start ≡ start
                  past [] i h = refl
                  past (x ∷ xs) zero h = absurd (omega arith)
                  past (x ∷ xs) (suc i) h = past xs i (omega arith)

  -- an entry that stays as it was
  pub works_kept : {table : List A} {k : ℕ} → Works start property p order table k → k < length order → ((a : Abbreviation) → abbreviation_at p (get_or order k 0) ≡ Some a → property a start) → Works start property p order table (k + 1)
  works_kept {table} {k} w h right = record {
    lengths = w.lengths;
    done = λ j a below at. elim (same_or_below j k below) [ inl l ↦ w.done j a l at | inr e ↦ here j a e at ];
    later = λ j from under. w.later j (omega arith) under;
  }
    where
      here : (j : ℕ) (a : Abbreviation) → j ≡ k → abbreviation_at p (get_or order j 0) ≡ Some a → property a (get_or table (get_or order j 0) start)
      here j a e at = subst (λ z. property a z) (sym (w.later j (omega arith) (omega arith))) (right a (ap (λ z. abbreviation_at p (get_or order z 0)) (sym e) ∙ at))

  module _ {circular : List Bool} (ordered : AreOrdered p order circular) where
    -- a new entry
    pub works_written : {table : List A} {k : ℕ} {x : A} → Works start property p order table k → k < length order → ((a : Abbreviation) → abbreviation_at p (get_or order k 0) ≡ Some a → property a x)
        → Works start property p order (set table (get_or order k 0) x) (k + 1)
    works_written {table} {k} {x} w h right = record {
      lengths = length-set table (get_or order k 0) x ∙ w.lengths;
      done = λ j a below at. elim (same_or_below j k below) [ inl l ↦ earlier j a l at | inr e ↦ here j a e at ];
      later = λ j from under. other j (omega arith) under ∙ w.later j (omega arith) under;
    }
      where
        other : (j : ℕ) → j ≢ k → j < length order → get_or (set table (get_or order k 0) x) (get_or order j 0) start ≡ get_or table (get_or order j 0) start
        other j ne under = get_or-set_other table (get_or order k 0) (get_or order j 0) x start (λ e. ne (ordered.once j k under h e))

        earlier : (j : ℕ) (a : Abbreviation) → j < k → abbreviation_at p (get_or order j 0) ≡ Some a → property a (get_or (set table (get_or order k 0) x) (get_or order j 0) start)
        earlier j a l at = subst (λ z. property a z) (sym (other j (λ e. absurd (omega arith)) (omega arith))) (w.done j a l at)

        here : (j : ℕ) (a : Abbreviation) → j ≡ k → abbreviation_at p (get_or order j 0) ≡ Some a → property a (get_or (set table (get_or order k 0) x) (get_or order j 0) start)
        here j a e at =
            subst (λ z. property a z)
            (sym (ap (λ z. get_or (set table (get_or order k 0) x) (get_or order z 0) start) e ∙ get_or-set_same table (get_or order k 0) x start (subst (λ z. get_or order k 0 < z) (sym w.lengths) (ordered.are_numbers k h))))
            (right a (ap (λ z. abbreviation_at p (get_or order z 0)) (sym e) ∙ at))

    -- at the end all have the property
    pub works_end : {table : List A} {k : ℕ} → Works start property p order table k → length order ≤ k → (v : ℕ) (a : Abbreviation) → v < length (all_entries p) → abbreviation_at p v ≡ Some a → property a (get_or table v start)
    works_end {table} w full v a below at =
        let place = ordered.all v below in
        subst (λ z. property a (get_or table z start)) place.2 (w.done place.0 a (omega (arith, place.1)) (ap (abbreviation_at p) place.2 ∙ at))

    -- what the next abbreviation uses has the property already
    pub works_known : {table : List A} {k : ℕ} → Works start property p order table k → k < length order → ((a : Abbreviation) → text_of a ≡ None → property a start)
        → (a : Abbreviation) → abbreviation_at p (get_or order k 0) ≡ Some a → get_or circular (get_or order k 0) false ≡ false
        → (v : ℕ) (b : Abbreviation) → v < length (all_entries p) → abbreviation_at p v ≡ Some b → Uses p a b → property b (get_or table v start)
    works_known {table} {k} w h bare a at straight v b below named used = go (text_of b) refl
      where
        finish : (j : ℕ) → (j < k) ⊎ (k ≤ j) → j < length order → get_or order j 0 ≡ v → text_of b ≡ None → property b (get_or table v start)
        finish j (inl l) under e none = subst (λ z. property b (get_or table z start)) e (w.done j b l (ap (abbreviation_at p) e ∙ named))
        finish j (inr l) under e none = subst (λ z. property b z) (sym (ap (λ z. get_or table z start) (sym e) ∙ w.later j l under)) (bare b none)

        go : (o : Option (Scope × Expr)) → text_of b ≡ o → property b (get_or table v start)
        go (Some text) is =
            let place = ordered.earlier k v a b text h at straight used named is in
            subst (λ z. property b (get_or table z start)) place.2 (w.done place.0 b place.1 (ap (abbreviation_at p) place.2 ∙ named))
        go None is = let place = ordered.all v below in finish place.0 (below_or_from place.0 k) place.1 place.2 is
