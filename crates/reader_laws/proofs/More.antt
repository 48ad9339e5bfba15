-- More readers made of readers.
use Rattle.std.proofs.Common.{◌≡◌, ℕ, Bool, true, ◌⊎◌, List, [], ◌∷◌, ◌++◌, length, Option, Some, None, refl, sym, ◌∙◌, ap, subst, append_assoc, inl, inr}
use Rattle.reader_laws.specs.Reading.{Reading, ◌>>=◌, accept, accepted, expect, switch, first_line, after_first, headed, enclosed, both, first_is, many}
use Rattle.reader_laws.specs.Reading.Reading.{found, syntax_error, too_deep}
use Rattle.reader_laws.proofs.Readers.{SameHead, SameHead-front, SameHead-more, IsDeep, deep-then, found-then, Outcome, Completes, Reads, EachOf, EachFits, LastEnds, ManyEnds, item_ends, tail_ends, last_ends, many_reads, IsToken, expect_reads, Then, seq_reads}

-- what begins as s does is read by run' as by run
pub transfer : {T A : Type 0} (D D' : List T → A → Type 0) (F : A → Type 0) (E E' : A → List T → Type 0) → ((a : List T) (x : A) → D a x → D' a x)
    → ((a : List T) (x : A) (r : List T) → D a x → E x r → E' x r)
    → (run run' : List T → Reading T A) (s : List T) → ((v : List T) → SameHead s v → run' v ≡ run v)
    → (y : Reading T A) → Outcome D F E (λ v z. run v ≡ z) s y → Outcome D' F E' (λ v z. run' v ≡ z) s y
transfer D D' F E E' into ends run run' s goes (found x r) (a, q, d, f, e, g) =
    (a, q, into a x d, f, ends a x r d e, λ v sh. goes (a ++ v) (subst (λ (l : List _). SameHead l (a ++ v)) (sym q) (SameHead-more a r v sh)) ∙ g v sh)
transfer D D' F E E' into ends run run' s goes (syntax_error rest) (front, q, (m, x, d, f), g) = (
  front,
  q,
  (m, x, into (front ++ m) x d, f),
  λ t u v i. goes (front ++ t ∷ v) (subst (λ (l : List _). SameHead l (front ++ t ∷ v)) (sym (q ∙ ap (λ (l : List _). front ++ l) i)) (SameHead-front front t u v)) ∙ g t u v i,
)
transfer D D' F E E' into ends run run' s goes (too_deep rest) (front, q, (m, x, d, f), g, t, u, j, (m', x', d')) = (
  front,
  q,
  (m, x, into (front ++ m) x d, f),
  (λ t u v i. goes (front ++ t ∷ v) (subst (λ (l : List _). SameHead l (front ++ t ∷ v)) (sym (q ∙ ap (λ (l : List _). front ++ l) i)) (SameHead-front front t u v)) ∙ g t u v i),
  t,
  u,
  j,
  (m', x', into ((front ++ t ∷ []) ++ m') x' d'),
)

-- the same reader, its relation said in another way
module _ {T A : Type 0} (D : List T → A → Type 0) (F : A → Type 0) (E : A → List T → Type 0) (run : List T → Reading T A) (one : Reads D F E run)
    (D' : List T → A → Type 0) (E' : A → List T → Type 0)
    (into : (a : List T) (x : A) → D a x → D' a x) (from : (a : List T) (x : A) → D' a x → D a x)
    (ends : (a : List T) (x : A) (r : List T) → D a x → E x r → E' x r) (ends' : (a : List T) (x : A) (r : List T) → D' a x → E' x r → E x r) where
  pub renamed_reads : Reads D' F E' run
  renamed_reads = record {
    complete = λ a x r d e. let c = one.complete a x r (from a x d) (ends' a x r d e) in record { within = c.within; beyond = c.beyond };
    outcome = λ s. transfer D D' F E E' into ends run run s (λ v sh. refl) (run s) (one.outcome s);
    some = let n = one.some in (n.0, n.1, into n.0 n.1 n.2, n.3);
  }

-- what was read, made into something else
module _ {T A B : Type 0} (D : List T → A → Type 0) (F : A → Type 0) (E : A → List T → Type 0) (run : List T → Reading T A) (one : Reads D F E run)
    (f : A → B) (D' : List T → B → Type 0) (F' : B → Type 0) (E' : B → List T → Type 0)
    (into : (a : List T) (x : A) → D a x → D' a (f x)) (from : (a : List T) (y : B) → D' a y → (x : A) × (y ≡ f x) × D a x)
    (fits : (x : A) → F x → F' (f x)) (fits' : (x : A) → F' (f x) → F x)
    (ends : (a : List T) (x : A) (r : List T) → D a x → E x r → E' (f x) r) (ends' : (a : List T) (x : A) (r : List T) → D a x → E' (f x) r → E x r) where
  mapped : List T → Reading T B
  mapped s = run s >>= λ x r. found (f x) r

  map_outcome : (s : List T) (y : Reading T A) → Outcome D F E (λ v z. run v ≡ z) s y → Outcome D' F' E' (λ v z. mapped v ≡ z) s (y >>= λ x r. found (f x) r)
  unfolding mapped ◌>>=◌
  map_outcome s (found x r) (a, q, d, h, e, g) = (a, q, into a x d, fits x h, ends a x r d e, λ v sh. found-then (run (a ++ v)) x v (λ x r. found (f x) r) (g v sh))
  map_outcome s (syntax_error rest) (front, q, (m, x, d, h), g) = (front, q, (m, f x, into (front ++ m) x d, fits x h), λ t u v i. rw (g t u v i) refl)
  map_outcome s (too_deep rest) (front, q, (m, x, d, h), g, t, u, j, (m', x', d')) =
      (front, q, (m, f x, into (front ++ m) x d, fits x h), (λ t u v i. rw (g t u v i) refl), t, u, j, (m', f x', into ((front ++ t ∷ []) ++ m') x' d'))

  pub map_reads : Reads D' F' E' (λ s. run s >>= λ x r. found (f x) r)
  unfolding mapped
  map_reads = record {
    complete = λ a y r d e.
        let w = from a y d in
        let c = one.complete a w.0 r w.2 (ends' a w.0 r w.2 (subst (λ (z : B). E' z r) w.1 e)) in
        subst (λ (z : B). Completes D' F' E' z r (run (a ++ r) >>= λ x r. found (f x) r)) (sym w.1) (record {
          within = λ h. found-then (run (a ++ r)) w.0 r (λ x r. found (f x) r) (c.within (fits' w.0 h));
          beyond = λ n. deep-then (run (a ++ r)) (λ x r. found (f x) r) (c.beyond (λ h. n (fits w.0 h)));
        });
    outcome = λ s. map_outcome s (run s) (one.outcome s);
    some = let n = one.some in (n.0, f n.1, into n.0 n.1 n.2, fits n.1 n.3);
  }

-- what was read, with the line on which it begins
module _ {T A B : Type 0} (line : T → ℕ) (D : List T → A → Type 0) (F : A → Type 0) (E : A → List T → Type 0) (run : List T → Reading T A) (one : Reads D F E run)
    (begins : (a : List T) (x : A) → D a x → (t : T) × (u : List T) × (a ≡ t ∷ u))
    (make : ℕ → A → B) (F' : B → Type 0) (E' : B → List T → Type 0)
    (fits : (l : ℕ) (x : A) → F x → F' (make l x)) (fits' : (l : ℕ) (x : A) → F' (make l x) → F x)
    (ends : (l : ℕ) (x : A) (r : List T) → E x r → E' (make l x) r) (ends' : (l : ℕ) (x : A) (r : List T) → E' (make l x) r → E x r) where
  abbrev pub OnLine : List T → B → Type 0
  OnLine ts y = (x : A) × (y ≡ make (first_line line ts) x) × D ts x

  lined : List T → Reading T B
  lined s = run s >>= λ x r. found (make (first_line line s) x) r

  same_line : (a r : List T) (x : A) → D a x → first_line line (a ++ r) ≡ first_line line a
  same_line a r x d = let w = begins a x d in ap (λ (l : List T). first_line line (l ++ r)) w.2 ∙ ap (first_line line) (sym w.2)

  line_outcome : (s : List T) (y : Reading T A) → Outcome D F E (λ v z. run v ≡ z) s y
      → Outcome OnLine F' E' (λ v z. lined v ≡ z) s (y >>= λ x r. found (make (first_line line s) x) r)
  unfolding lined ◌>>=◌
  line_outcome s (found x r) (a, q, d, h, e, g) =
      let here : first_line line s ≡ first_line line a = ap (first_line line) q ∙ same_line a r x d in (
        a,
        q,
        (x, ap (λ (l : ℕ). make l x) here, d),
        fits (first_line line s) x h,
        ends (first_line line s) x r e,
        λ v sh. found-then (run (a ++ v)) x v (λ x r. found (make (first_line line (a ++ v)) x) r) (g v sh)
            ∙ ap (λ (l : ℕ). found (make l x) v) (same_line a v x d ∙ sym here),
      )
  line_outcome s (syntax_error rest) (front, q, (m, x, d, h), g) =
      (front, q, (m, make (first_line line (front ++ m)) x, (x, refl, d), fits (first_line line (front ++ m)) x h), λ t u v i. rw (g t u v i) refl)
  line_outcome s (too_deep rest) (front, q, (m, x, d, h), g, t, u, j, (m', x', d')) = (
    front,
    q,
    (m, make (first_line line (front ++ m)) x, (x, refl, d), fits (first_line line (front ++ m)) x h),
    (λ t u v i. rw (g t u v i) refl),
    t,
    u,
    j,
    (m', make (first_line line ((front ++ t ∷ []) ++ m')) x', (x', refl, d')),
  )

  pub line_reads : Reads OnLine F' E' (λ s. run s >>= λ x r. found (make (first_line line s) x) r)
  unfolding lined
  line_reads = record {
    complete = λ a y r d e.
        let l = first_line line a in
        let x = d.0 in
        let p : y ≡ make l x = d.1 in
        let c = one.complete a x r d.2 (ends' l x r (subst (λ (z : B). E' z r) p e)) in
        subst (λ (z : B). Completes OnLine F' E' z r (run (a ++ r) >>= λ x r'. found (make (first_line line (a ++ r)) x) r')) (sym p) (record {
          within = λ h. found-then (run (a ++ r)) x r (λ x r'. found (make (first_line line (a ++ r)) x) r') (c.within (fits' l x h))
              ∙ ap (λ (n : ℕ). found (make n x) r) (same_line a r x d.2);
          beyond = λ n. deep-then (run (a ++ r)) (λ x r'. found (make (first_line line (a ++ r)) x) r') (c.beyond (λ h. n (fits l x h)));
        });
    outcome = λ s. line_outcome s (run s) (one.outcome s);
    some = let n = one.some in (n.0, make (first_line line n.0) n.1, (n.1, refl, n.2), fits (first_line line n.0) n.1 n.3);
  }

-- one token that f knows
abbrev pub IsKnown : {T A : Type 0} → (T → Option A) → List T → A → Type 0
IsKnown {T} f ts x = (t : T) × (ts ≡ t ∷ []) × (f t ≡ Some x)

module _ {T A : Type 0} (f : T → Option A) (t0 : T) (x0 : A) (known : f t0 ≡ Some x0) where
  accept_outcome : (s : List T) → Outcome (IsKnown f) (λ _. Unit {0}) (λ _ _. Unit {0}) (λ v y. accept f v ≡ y) s (accept f s)
  unfolding accept accepted
  accept_outcome [] = ([], refl, (t0 ∷ [], x0, (t0, refl, known), tt), λ t u v i. absurd cc)
  accept_outcome (t ∷ s) = by_test (f t) refl
    where
      by_test : (o : Option A) → f t ≡ o → Outcome (IsKnown f) (λ _. Unit {0}) (λ _ _. Unit {0}) (λ v y. accept f v ≡ y) (t ∷ s) (accepted o t s)
      by_test (Some x) h = (t ∷ [], refl, (t, refl, h), tt, tt, λ v sh. rw h refl)
      by_test None h = (
        [],
        refl,
        (t0 ∷ [], x0, (t0, refl, known), tt),
        λ y u v i. let e : t ≡ y = cc in subst (λ (z : T). accept f (z ∷ v) ≡ syntax_error (z ∷ v)) e (rw h refl),
      )

  pub accept_reads : Reads (IsKnown f) (λ _. Unit {0}) (λ _ _. Unit {0}) (accept f)
  unfolding accept accepted
  accept_reads = record {
    complete = λ a x r d e. record {
      within = λ h. let k = d.2 in ap (λ (l : List T). accept f (l ++ r)) d.1 ∙ rw k refl;
      beyond = λ n. absurd (n tt);
    };
    outcome = accept_outcome;
    some = (t0 ∷ [], x0, (t0, refl, known), tt);
  }

-- by what the first token is
abbrev pub AnyOf : {T A I : Type 0} → (I → List T → A → Type 0) → List T → A → Type 0
AnyOf {I = I} D ts x = (i : I) × D i ts x

module _ {T A I : Type 0} (index : T → I) (D : I → List T → A → Type 0) (F : A → Type 0) (E : A → List T → Type 0) (run : I → List T → Reading T A) where
  -- what the alternative i owes
  pub record Alternative (i : I) : Type 0 where
    pub begins : (a : List T) (x : A) → D i a x → (t : T) × (u : List T) × (a ≡ t ∷ u) × (index t ≡ i)
    pub complete : (a : List T) (x : A) (r : List T) → D i a x → E x r → Completes (AnyOf D) F E x r (run i (a ++ r))
    pub outcome : (t : T) (s : List T) → index t ≡ i → Outcome (AnyOf D) F E (λ v y. run i v ≡ y) (t ∷ s) (run i (t ∷ s))

  module _ (some : (a : List T) × (x : A) × AnyOf D a x × F x) where
    pub reads_alternative : (i : I) → ((a : List T) (x : A) → D i a x → (t : T) × (u : List T) × (a ≡ t ∷ u) × (index t ≡ i)) → Reads (D i) F E (run i) → Alternative i
    reads_alternative i b one = record {
      begins = b;
      complete = λ a x r d e. let c = one.complete a x r d e in record { within = c.within; beyond = c.beyond };
      outcome = λ t s h. transfer (D i) (AnyOf D) F E E (λ a x d. (i, d)) (λ a x r d e. e) (run i) (run i) (t ∷ s) (λ v sh. refl) (run i (t ∷ s)) (one.outcome (t ∷ s));
    }

    -- no token begins it
    pub no_alternative : (i : I) → ((a : List T) (x : A) → D i a x → ⊥) → ((s : List T) → run i s ≡ syntax_error s) → Alternative i
    no_alternative i never fails = record {
      begins = λ a x d. absurd (never a x d);
      complete = λ a x r d e. absurd (never a x d);
      outcome = λ t s h. subst (Outcome (AnyOf D) F E (λ v y. run i v ≡ y) (t ∷ s)) (sym (fails (t ∷ s)))
          ([], refl, some, λ t' u v q. fails (t' ∷ v));
    }

    -- what stands after the first token
    pub tail_alternative : (i : I) (Tail : T → List T → A → Type 0) (tail : T → List T → Reading T A)
        → ((a : List T) (x : A) → D i a x → (t : T) × (u : List T) × (a ≡ t ∷ u) × (index t ≡ i) × Tail t u x)
        → ((t : T) (u : List T) (x : A) → index t ≡ i → Tail t u x → D i (t ∷ u) x)
        → ((t : T) → index t ≡ i → Reads (Tail t) F E (tail t)) → ((s : List T) → run i s ≡ after_first tail s) → Alternative i
    unfolding after_first
    tail_alternative i Tail tail from into reads is = record {
      begins = λ a x d. let w = from a x d in (w.0, w.1, w.2, w.3);
      complete = λ a x r d e.
          let w = from a x d in
          let c = (reads w.0 w.3).complete w.1 x r w.4 e in
          let same : run i (a ++ r) ≡ tail w.0 (w.1 ++ r) = ap (λ (l : List T). run i (l ++ r)) w.2 ∙ is (w.0 ∷ (w.1 ++ r)) in
          subst (Completes (AnyOf D) F E x r) (sym same) (record { within = c.within; beyond = c.beyond });
      outcome = λ t s h. subst (Outcome (AnyOf D) F E (λ v y. run i v ≡ y) (t ∷ s)) (sym (is (t ∷ s))) (tail_outcome t s h (tail t s) ((reads t h).outcome s));
    }
      where
        tail_outcome : (t : T) (s : List T) → index t ≡ i → (y : Reading T A) → Outcome (Tail t) F E (λ v z. tail t v ≡ z) s y
            → Outcome (AnyOf D) F E (λ v z. run i v ≡ z) (t ∷ s) y
        tail_outcome t s h (found x r) (a, q, d, f, e, g) =
            (t ∷ a, ap (λ (l : List T). t ∷ l) q, (i, into t a x h d), f, e, λ v sh. is (t ∷ (a ++ v)) ∙ g v sh)
        tail_outcome t s h (syntax_error rest) (front, q, (m, x, d, f), g) =
            (t ∷ front, ap (λ (l : List T). t ∷ l) q, (m, x, (i, into t (front ++ m) x h d), f), λ t' u v j. is (t ∷ (front ++ t' ∷ v)) ∙ g t' u v j)
        tail_outcome t s h (too_deep rest) (front, q, (m, x, d, f), g, t', u, j, (m', x', d')) = (
          t ∷ front,
          ap (λ (l : List T). t ∷ l) q,
          (m, x, (i, into t (front ++ m) x h d), f),
          (λ t'' u v j. is (t ∷ (front ++ t'' ∷ v)) ∙ g t'' u v j),
          t',
          u,
          j,
          (m', x', (i, into t ((front ++ t' ∷ []) ++ m') x' h d')),
        )

    -- it is always deeper than there is room for
    pub deep_alternative : (i : I) → ((a : List T) (x : A) → D i a x → (t : T) × (u : List T) × (a ≡ t ∷ u) × (index t ≡ i))
        → ((a : List T) (x : A) → D i a x → F x → ⊥) → ((t : T) → index t ≡ i → (m : List T) × (x : A) × D i (t ∷ m) x)
        → ((s : List T) → run i s ≡ too_deep s) → Alternative i
    deep_alternative i b never any deep = record {
      begins = b;
      complete = λ a x r d e. record {
        within = λ h. absurd (never a x d h);
        beyond = λ n. subst IsDeep (sym (deep (a ++ r))) tt;
      };
      outcome = λ t s h. let m = any t h in subst (Outcome (AnyOf D) F E (λ v y. run i v ≡ y) (t ∷ s)) (sym (deep (t ∷ s)))
          ([], refl, some, (λ t' u v q. deep (t' ∷ v)), t, s, refl, (m.0, m.1, (i, m.2)));
    }

    goes : (t : T) (s v : List T) → SameHead (t ∷ s) v → switch index run v ≡ run (index t) v
    unfolding switch
    goes t s [] h = absurd h
    goes t s (x ∷ v) h = ap (λ (z : T). run (index z) (x ∷ v)) (sym h)

    switch_outcome : ((i : I) → Alternative i) → (s : List T) → Outcome (AnyOf D) F E (λ v y. switch index run v ≡ y) s (switch index run s)
    unfolding switch
    switch_outcome all [] = ([], refl, some, λ t u v i. absurd cc)
    switch_outcome all (t ∷ s) = transfer (AnyOf D) (AnyOf D) F E E (λ a x d. d) (λ a x r d e. e) (run (index t)) (switch index run) (t ∷ s) (λ v sh. goes t s v sh) (run (index t) (t ∷ s)) ((all (index t)).outcome t s refl)

    switch_complete : ((i : I) → Alternative i) → (a : List T) (x : A) (r : List T) → AnyOf D a x → E x r → Completes (AnyOf D) F E x r (switch index run (a ++ r))
    switch_complete all a x r (i, d) e =
        let b = (all i).begins a x d in
        let same : switch index run (a ++ r) ≡ run i (a ++ r) =
        subst (λ (l : List T). switch index run (l ++ r) ≡ run i (l ++ r)) (sym b.2) (goes b.0 (b.1 ++ r) (b.0 ∷ (b.1 ++ r)) refl ∙ ap (λ (j : I). run j (b.0 ∷ (b.1 ++ r))) b.3) in
        subst (Completes (AnyOf D) F E x r) (sym same) ((all i).complete a x r d e)

    pub switch_reads : ((i : I) → Alternative i) → Reads (AnyOf D) F E (switch index run)
    switch_reads all = record { complete = switch_complete all; outcome = switch_outcome all; some = some }

-- a token that passes p, and then D
abbrev pub Headed : {T A : Type 0} → (T → Bool) → (List T → A → Type 0) → List T → A → Type 0
Headed {T} p D ts x = (t : T) × (a : List T) × (ts ≡ t ∷ a) × (p t ≡ true) × D a x

-- D, and then a token that passes p
abbrev pub Enclosed : {T A : Type 0} → (T → Bool) → (List T → A → Type 0) → List T → A → Type 0
Enclosed {T} p D ts x = (t : T) × (a : List T) × (ts ≡ a ++ t ∷ []) × (p t ≡ true) × D a x

abbrev pub Both : {T A B : Type 0} → (List T → A → Type 0) → (List T → B → Type 0) → List T → A × B → Type 0
Both {T} DA DB ts z = (a b : List T) × (ts ≡ a ++ b) × DA a z.0 × DB b z.1

abbrev pub BothFit : {A B : Type 0} → (A → Type 0) → (B → Type 0) → A × B → Type 0
BothFit FA FB z = FA z.0 × FB z.1

-- a token before it
module _ {T A : Type 0} (p : T → Bool) (t0 : T) (passes : p t0 ≡ true) (D : List T → A → Type 0) (F : A → Type 0) (E : A → List T → Type 0) (run : List T → Reading T A) (one : Reads D F E run) where
  pub headed_reads : Reads (Headed p D) F E (headed p run)
  unfolding headed
  headed_reads = renamed_reads (Then (IsToken p t0 passes) (λ _. D)) F E (λ s. expect p s >>= λ _ r. run r)
      (seq_reads (IsToken p t0 passes) (λ _. Unit {0}) (λ _ _. Unit {0}) (expect p) (expect_reads p t0 passes)
      (λ _. D) F E (λ _ r. run r) (λ _ _. one) E (λ x b y r d e1 e. e) (λ x b y r d e. tt) (λ x b y r d e. e) (λ x b y d f. tt) (λ x. inl tt)
      (λ x. let n = one.some in (n.0, n.1, n.2)))
      (Headed p D) E (λ a x d. let k = d.4 in (d.0, d.2, d.3 ∙ ap (λ (l : List T). l ++ d.2) k.0, k.1, d.5))
      (λ a x d. (d.0, d.0 ∷ [], d.1, d.2, (refl, d.3), d.4)) (λ a x r d e. e) (λ a x r d e. e)

-- a token after it
module _ {T A : Type 0} (p : T → Bool) (t0 : T) (passes : p t0 ≡ true) (D : List T → A → Type 0) (F : A → Type 0) (E : A → List T → Type 0) (run : List T → Reading T A) (one : Reads D F E run)
    (closes : (x : A) (t : T) (r : List T) → p t ≡ true → E x (t ∷ r)) (decide : (x : A) → F x ⊎ (F x → ⊥)) where
  abbrev Closing : A → List T → A → Type 0
  Closing x ts y = (y ≡ x) × (t : T) × (ts ≡ t ∷ []) × (p t ≡ true)

  closing_reads : (x : A) → F x → Reads (Closing x) F (λ _ _. Unit {0}) (λ r. expect p r >>= λ _ v. found x v)
  closing_reads x f = map_reads (IsToken p t0 passes) (λ _. Unit {0}) (λ _ _. Unit {0}) (expect p) (expect_reads p t0 passes)
      (λ _. x) (Closing x) F (λ _ _. Unit {0})
      (λ a t k. (refl, t, k.0, k.1)) (λ a y k. (k.1, k.0, (k.2, k.3))) (λ t u. f) (λ t u. tt) (λ a t r k e. tt) (λ a t r k e. tt)

  pub enclosed_reads : Reads (Enclosed p D) F (λ _ _. Unit {0}) (enclosed p run)
  unfolding enclosed
  enclosed_reads = renamed_reads (Then D Closing) F (λ _ _. Unit {0}) (λ s. run s >>= λ x r. expect p r >>= λ _ v. found x v)
      (seq_reads D F E run one Closing F (λ _ _. Unit {0}) (λ x r. expect p r >>= λ _ v. found x v) closing_reads (λ _ _. Unit {0})
      (λ x b y r d e1 e. tt)
      (λ x b y r d e. subst (λ (l : List T). E x (l ++ r)) (sym d.2) (closes x d.1 r d.3))
      (λ x b y r d e. tt) (λ x b y d f. subst F d.0 f) decide (λ x. (t0 ∷ [], x, (refl, t0, refl, passes))))
      (Enclosed p D) (λ _ _. Unit {0})
      (λ ts x d. let k = d.5 in (k.1, d.1, d.3 ∙ ap (λ (l : List T). d.1 ++ l) k.2, k.3, subst (D d.1) (sym k.0) d.4))
      (λ ts x d. (x, d.1, d.0 ∷ [], d.2, d.4, (refl, d.0, refl, d.3))) (λ a x r d e. e) (λ a x r d e. e)

-- two things
module _ {T A B : Type 0} (DA : List T → A → Type 0) (FA : A → Type 0) (EA : A → List T → Type 0) (run1 : List T → Reading T A) (one : Reads DA FA EA run1)
    (DB : List T → B → Type 0) (FB : B → Type 0) (EB : B → List T → Type 0) (run2 : List T → Reading T B) (two : Reads DB FB EB run2)
    (E : A × B → List T → Type 0)
    (last : (x : A) (b : List T) (y : B) (r : List T) → DB b y → EA x (b ++ r) → EB y r → E (x, y) r)
    (link : (x : A) (b : List T) (y : B) (r : List T) → DB b y → E (x, y) r → EA x (b ++ r))
    (link2 : (x : A) (b : List T) (y : B) (r : List T) → DB b y → E (x, y) r → EB y r)
    (decide : (x : A) → FA x ⊎ (FA x → ⊥)) where
  abbrev Second : A → List T → A × B → Type 0
  Second x b z = (z.0 ≡ x) × DB b z.1

  second_reads : (x : A) → FA x → Reads (Second x) (BothFit FA FB) (λ z r. EB z.1 r) (λ r. run2 r >>= λ y v. found (x, y) v)
  second_reads x f = map_reads DB FB EB run2 two (λ y. (x, y)) (Second x) (BothFit FA FB) (λ z r. EB z.1 r)
      (λ a y d. (refl, d)) (λ a z d. (z.1, ap (λ (w : A). (w, z.1)) d.0, d.1)) (λ y g. (f, g)) (λ y g. g.1) (λ a y r d e. e) (λ a y r d e. e)

  pub both_reads : Reads (Both DA DB) (BothFit FA FB) E (both run1 run2)
  unfolding both
  both_reads = renamed_reads (Then DA Second) (BothFit FA FB) E (λ s. run1 s >>= λ x r. run2 r >>= λ y v. found (x, y) v)
      (seq_reads DA FA EA run1 one Second (BothFit FA FB) (λ z r. EB z.1 r) (λ x r. run2 r >>= λ y v. found (x, y) v) second_reads E
      (λ x b z r d e1 e2. subst (λ (w : A). E (w, z.1) r) (sym d.0) (last x b z.1 r d.1 e1 e2))
      (λ x b z r d e. link x b z.1 r d.1 (subst (λ (w : A). E (w, z.1) r) d.0 e))
      (λ x b z r d e. link2 z.0 b z.1 r d.1 e)
      (λ x b z d f. subst FA d.0 f.0) decide (λ x. let n = two.some in (n.0, (x, n.1), (refl, n.2))))
      (Both DA DB) E
      (λ ts z d. (d.1, d.2, d.3, subst (DA d.1) (sym d.5.0) d.4, d.5.1))
      (λ ts z d. (z.0, d.0, d.1, d.2, d.3, (refl, d.4))) (λ a x r d e. e) (λ a x r d e. e)

-- what is read after pre
pub prefixed : {T A : Type 0} (pre s : List T) (D' D : List T → A → Type 0) (F : A → Type 0) (E : A → List T → Type 0) (G' G : List T → Reading T A → Type 0)
    → ((a : List T) (x : A) → D' a x → D (pre ++ a) x) → ((v : List T) (y : Reading T A) → SameHead s v → G' v y → G (pre ++ v) y)
    → (y : Reading T A) → Outcome D' F E G' s y → Outcome D F E G (pre ++ s) y
prefixed pre s D' D F E G' G into gives (found x r) (a, q, d, f, e, g) = (
  pre ++ a,
  ap (λ (l : List _). pre ++ l) q ∙ sym (append_assoc pre a r),
  into a x d,
  f,
  e,
  λ v sh. subst (λ (l : List _). G l (found x v)) (sym (append_assoc pre a v))
      (gives (a ++ v) (found x v) (subst (λ (l : List _). SameHead l (a ++ v)) (sym q) (SameHead-more a r v sh)) (g v sh)),
)
prefixed pre s D' D F E G' G into gives (syntax_error rest) (front, q, (m, x, d, f), g) = (
  pre ++ front,
  ap (λ (l : List _). pre ++ l) q ∙ sym (append_assoc pre front rest),
  (m, x, subst (λ (l : List _). D l x) (sym (append_assoc pre front m)) (into (front ++ m) x d), f),
  λ t u v i. subst (λ (l : List _). G l (syntax_error (t ∷ v))) (sym (append_assoc pre front (t ∷ v)))
      (gives (front ++ t ∷ v) (syntax_error (t ∷ v)) (subst (λ (l : List _). SameHead l (front ++ t ∷ v)) (sym (q ∙ ap (λ (l : List _). front ++ l) i)) (SameHead-front front t u v)) (g t u v i)),
)
prefixed pre s D' D F E G' G into gives (too_deep rest) (front, q, (m, x, d, f), g, t, u, j, (m', x', d')) = (
  pre ++ front,
  ap (λ (l : List _). pre ++ l) q ∙ sym (append_assoc pre front rest),
  (m, x, subst (λ (l : List _). D l x) (sym (append_assoc pre front m)) (into (front ++ m) x d), f),
  (λ t u v i. subst (λ (l : List _). G l (too_deep (t ∷ v))) (sym (append_assoc pre front (t ∷ v)))
      (gives (front ++ t ∷ v) (too_deep (t ∷ v)) (subst (λ (l : List _). SameHead l (front ++ t ∷ v)) (sym (q ∙ ap (λ (l : List _). front ++ l) i)) (SameHead-front front t u v)) (g t u v i))),
  t,
  u,
  j,
  (m', x', subst (λ (l : List _). D l x') (sym (append_assoc pre (front ++ t ∷ []) m') ∙ ap (λ (l : List _). l ++ m') (sym (append_assoc pre front (t ∷ [])))) (into ((front ++ t ∷ []) ++ m') x' d')),
)

-- one thing, and then items as long as the first token passes p
module _ {T A : Type 0} (p : T → Bool) (DA : List T → A → Type 0) (run1 : List T → Reading T A) (D : List T → A → Type 0) (F : A → Type 0) (E : A → List T → Type 0) (item : List T → Reading T A)
    (first : Reads DA F E run1) (one : Reads D F E item)
    (begins : (a : List T) (x : A) → D a x → (t : T) × (u : List T) × (a ≡ t ∷ u) × (p t ≡ true))
    (goes_on : (x : A) (r : List T) → first_is p r ≡ true → E x r)
    (decide : (x : A) → F x ⊎ (F x → ⊥)) where
  abbrev pub ListEnds : A × List A → List T → Type 0
  ListEnds z r = ManyEnds p E (z.0 ∷ z.1) r

  pub list_reads : Reads (Both DA (EachOf D)) (BothFit F (EachFits F)) ListEnds (both run1 (λ s. many p item (length s) s))
  list_reads = both_reads DA F E run1 first (EachOf D) (EachFits F) (ManyEnds p E) (λ s. many p item (length s) s) (many_reads p D F E item one begins goes_on decide)
      ListEnds
      (λ x b y r d e1 e2. (e2.0, last_ends p D F E item one begins goes_on decide x y b (b ++ r) r refl d e1 e2.1))
      (λ x b y r d e. item_ends p D F E item one begins goes_on decide x y b r d e.1)
      (λ x b y r d e. (e.0, tail_ends p D F E item one begins goes_on decide x y r e.1))
      decide

-- nothing is read
pub give_reads : {T A : Type 0} (x : A) (F : A → Type 0) (E : A → List T → Type 0) → F x → ((r : List T) → E x r)
    → Reads (λ u y. (u ≡ []) × (y ≡ x)) F E (λ s. found x s)
give_reads {T} x F E f e = record {
  complete = λ a y r d en. record {
    within = λ h. ap (λ (l : List T). found x (l ++ r)) d.0 ∙ ap (λ (z : _). found z r) (sym d.1);
    beyond = λ n. absurd (n (subst F (sym d.1) f));
  };
  outcome = λ s. ([], refl, (refl, refl), f, e s, λ v sh. refl);
  some = ([], x, (refl, refl), f);
}

pub all_end : {T A : Type 0} (E : A → List T → Type 0) (r : List T) → ((x : A) → E x r) → (xs : List A) → LastEnds E xs r
all_end E r h [] = tt
all_end E r h (x ∷ []) = h x
all_end E r h (x ∷ y ∷ ys) = all_end E r h (y ∷ ys)

pub decide_both : {A B : Type 0} → A ⊎ (A → ⊥) → B ⊎ (B → ⊥) → (A × B) ⊎ (A × B → ⊥)
decide_both (inl x) (inl y) = inl (x, y)
decide_both (inl x) (inr f) = inr (λ p. f p.1)
decide_both (inr f) d = inr (λ p. f p.0)

pub decide_each : {A : Type 0} (F : A → Type 0) → ((x : A) → F x ⊎ (F x → ⊥)) → (xs : List A) → EachFits F xs ⊎ (EachFits F xs → ⊥)
decide_each F d [] = inl tt
decide_each F d (x ∷ xs) = decide_both (d x) (decide_each F d xs)
