-- What a reader owes its grammar, and that readers made of readers owe it too.
use Rattle.std.proofs.Common.{◌≡◌, ℕ, zero, suc, ◌<◌, ◌≤◌, Bool, true, false, cond, ◌⊎◌, List, [], ◌∷◌, ◌++◌, length, refl, sym, ◌∙◌, ap, subst, arith, append_assoc, append-nil, length-append, inl, inr, ⊎_elim}
use Rattle.reader_laws.specs.Reading.{Reading, ◌>>=◌, expect, first_is, choose, many}
use Rattle.reader_laws.specs.Reading.Reading.{found, syntax_error, too_deep}

-- both lists begin with the same token, or both are empty
abbrev pub SameHead : {T : Type 0} → List T → List T → Type 0
SameHead [] [] = Unit {0}
SameHead [] (y ∷ v) = ⊥
SameHead (x ∷ u) [] = ⊥
SameHead (x ∷ u) (y ∷ v) = x ≡ y

pub SameHead-front : {T : Type 0} (front : List T) (t : T) (u v : List T) → SameHead (front ++ t ∷ u) (front ++ t ∷ v)
SameHead-front [] t u v = refl
SameHead-front (x ∷ front) t u v = refl

pub SameHead-more : {T : Type 0} (y z v : List T) → SameHead z v → SameHead (y ++ z) (y ++ v)
SameHead-more [] z v h = h
SameHead-more (x ∷ y) z v h = refl

abbrev pub IsDeep : {T A : Type 0} → Reading T A → Type 0
IsDeep (found x r) = ⊥
IsDeep (syntax_error r) = ⊥
IsDeep (too_deep r) = Unit {0}

pub deep-then : {T A B : Type 0} (x : Reading T A) (f : A → List T → Reading T B) → IsDeep x → IsDeep (x >>= f)
unfolding ◌>>=◌
deep-then (found x r) f h = absurd h
deep-then (syntax_error r) f h = absurd h
deep-then (too_deep r) f h = tt

pub found-then : {T A B : Type 0} (x : Reading T A) (a : A) (r : List T) (f : A → List T → Reading T B) → x ≡ found a r → (x >>= f) ≡ f a r
unfolding ◌>>=◌
found-then x a r f h = rw h refl

module _ {T A : Type 0} (D : List T → A → Type 0) (Fits : A → Type 0) (Ends : A → List T → Type 0) where
  -- something that fits begins so
  abbrev pub Opens : List T → Type 0
  Opens front = (rest : List T) × (x : A) × D (front ++ rest) x × Fits x

  abbrev pub OpensAny : List T → Type 0
  OpensAny front = (rest : List T) × (x : A) × D (front ++ rest) x

  abbrev pub Outcome : (List T → Reading T A → Type 0) → List T → Reading T A → Type 0
  Outcome Gives s (found x r) = (a : List T) × (s ≡ a ++ r) × D a x × Fits x × Ends x r
      × ((v : List T) → SameHead r v → Gives (a ++ v) (found x v))
  Outcome Gives s (syntax_error rest) = (front : List T) × (s ≡ front ++ rest) × Opens front
      × ((t : T) (u v : List T) → rest ≡ t ∷ u → Gives (front ++ t ∷ v) (syntax_error (t ∷ v)))
  Outcome Gives s (too_deep rest) = (front : List T) × (s ≡ front ++ rest) × Opens front
      × ((t : T) (u v : List T) → rest ≡ t ∷ u → Gives (front ++ t ∷ v) (too_deep (t ∷ v)))
      × (t : T) × (u : List T) × (rest ≡ t ∷ u) × OpensAny (front ++ t ∷ [])

  pub record Completes (x : A) (r : List T) (y : Reading T A) : Type 0 where
    pub within : Fits x → y ≡ found x r
    pub beyond : (Fits x → ⊥) → IsDeep y

  -- the reader reads exactly D
  pub record Reads (run : List T → Reading T A) : Type 0 where
    pub complete : (a : List T) (x : A) (r : List T) → D a x → Ends x r → Completes x r (run (a ++ r))
    pub outcome : (s : List T) → Outcome (λ v y. run v ≡ y) s (run s)
    pub some : (a : List T) × (x : A) × D a x × Fits x

-- one after the other

abbrev pub Then : {T A B : Type 0} → (List T → A → Type 0) → (A → List T → B → Type 0) → List T → B → Type 0
Then {T} {A} {B} DA DB ts y = (x : A) × (a : List T) × (b : List T) × (ts ≡ a ++ b) × DA a x × DB x b y

module _ {T A B : Type 0} (DA : List T → A → Type 0) (FA : A → Type 0) (EA : A → List T → Type 0) (run1 : List T → Reading T A) (one : Reads DA FA EA run1)
    (DB : A → List T → B → Type 0) (FB : B → Type 0) (EB : B → List T → Type 0) (run2 : A → List T → Reading T B) (two : (x : A) → FA x → Reads (DB x) FB EB (run2 x))
    (E : B → List T → Type 0)
    (last : (x : A) (b : List T) (y : B) (r : List T) → DB x b y → EA x (b ++ r) → EB y r → E y r)
    (link : (x : A) (b : List T) (y : B) (r : List T) → DB x b y → E y r → EA x (b ++ r))
    (link2 : (x : A) (b : List T) (y : B) (r : List T) → DB x b y → E y r → EB y r)
    (fit : (x : A) (b : List T) (y : B) → DB x b y → FB y → FA x)
    (decide : (x : A) → FA x ⊎ (FA x → ⊥))
    (any : (x : A) → (b : List T) × (y : B) × DB x b y) where
  seq : List T → Reading T B
  seq s = run1 s >>= run2

  abbrev SeqOutcome : List T → Reading T B → Type 0
  SeqOutcome = Outcome (Then DA DB) FB E (λ v y. seq v ≡ y)

  second : (s a r : List T) (x : A) → s ≡ a ++ r → DA a x → EA x r → ((v : List T) → SameHead r v → run1 (a ++ v) ≡ found x v)
      → (y : Reading T B) → Outcome (DB x) FB EB (λ v z. run2 x v ≡ z) r y → SeqOutcome s y
  unfolding seq
  second s a r x q d e1 g (found y v) (b, q2, d2, f2, e2, g2) = (
    a ++ b,
    q ∙ ap (λ (l : List T). a ++ l) q2 ∙ sym (append_assoc a b v),
    (x, a, b, refl, d, d2),
    f2,
    last x b y v d2 (subst (EA x) q2 e1) e2,
    λ w sh. ap (λ (l : List T). run1 l >>= run2) (append_assoc a b w)
        ∙ found-then (run1 (a ++ (b ++ w))) x (b ++ w) run2 (g (b ++ w) (subst (λ (l : List T). SameHead l (b ++ w)) (sym q2) (SameHead-more b v w sh))) ∙ g2 w sh,
  )
  second s a r x q d e1 g (syntax_error rest) (front, q2, (m, y, d2, f2), g2) = (
    a ++ front,
    q ∙ ap (λ (l : List T). a ++ l) q2 ∙ sym (append_assoc a front rest),
    (m, y, (x, a, front ++ m, append_assoc a front m, d, d2), f2),
    λ t u v i. ap (λ (l : List T). run1 l >>= run2) (append_assoc a front (t ∷ v))
        ∙ found-then (run1 (a ++ (front ++ t ∷ v))) x (front ++ t ∷ v) run2
        (g (front ++ t ∷ v) (subst (λ (l : List T). SameHead l (front ++ t ∷ v)) (sym (q2 ∙ ap (λ (l : List T). front ++ l) i)) (SameHead-front front t u v))) ∙ g2 t u v i,
  )
  second s a r x q d e1 g (too_deep rest) (front, q2, (m, y, d2, f2), g2, t, u, j, (m', y', d')) = (
    a ++ front,
    q ∙ ap (λ (l : List T). a ++ l) q2 ∙ sym (append_assoc a front rest),
    (m, y, (x, a, front ++ m, append_assoc a front m, d, d2), f2),
    (λ t u v i. ap (λ (l : List T). run1 l >>= run2) (append_assoc a front (t ∷ v))
        ∙ found-then (run1 (a ++ (front ++ t ∷ v))) x (front ++ t ∷ v) run2
        (g (front ++ t ∷ v) (subst (λ (l : List T). SameHead l (front ++ t ∷ v)) (sym (q2 ∙ ap (λ (l : List T). front ++ l) i)) (SameHead-front front t u v))) ∙ g2 t u v i),
    t,
    u,
    j,
    (m', y', (x, a, (front ++ t ∷ []) ++ m', simp append_assoc, d, d')),
  )

  first : (s : List T) (y : Reading T A) → Outcome DA FA EA (λ v z. run1 v ≡ z) s y → SeqOutcome s (y >>= run2)
  unfolding seq ◌>>=◌
  first s (found x r) (a, q, d, f, e, g) = second s a r x q d e g (run2 x r) ((two x f).outcome r)
  first s (syntax_error rest) (front, q, (m, x, d, f), g) =
      let p = (two x f).some in
      (front, q, (m ++ p.0, p.1, (x, front ++ m, p.0, sym (append_assoc front m p.0), d, p.2), p.3), λ t u v i. rw (g t u v i) refl)
  first s (too_deep rest) (front, q, (m, x, d, f), g, t, u, j, (m', x', d')) =
      let p = (two x f).some in
      let n = any x' in (
        front,
        q,
        (m ++ p.0, p.1, (x, front ++ m, p.0, sym (append_assoc front m p.0), d, p.2), p.3),
        (λ t u v i. rw (g t u v i) refl),
        t,
        u,
        j,
        (m' ++ n.0, n.1, (x', (front ++ t ∷ []) ++ m', n.0, sym (append_assoc (front ++ t ∷ []) m' n.0), d', n.2)),
      )

  seq_complete : (ts : List T) (y : B) (r : List T) → Then DA DB ts y → E y r → Completes (Then DA DB) FB E y r (seq (ts ++ r))
  unfolding seq
  seq_complete ts y r (x, a, b, e, d1, d2) ends =
      let q : ts ++ r ≡ a ++ (b ++ r) = ap (λ (l : List T). l ++ r) e ∙ append_assoc a b r in
      let c = one.complete a x (b ++ r) d1 (link x b y r d2 ends) in
      subst (λ (l : List T). Completes (Then DA DB) FB E y r (run1 l >>= run2)) (sym q) (record {
        within = λ f. let fx = fit x b y d2 f in found-then (run1 (a ++ (b ++ r))) x (b ++ r) run2 (c.within fx) ∙ ((two x fx).complete b y r d2 (link2 x b y r d2 ends)).within f;
        beyond = λ n. ⊎_elim
            (λ fx. subst IsDeep (sym (found-then (run1 (a ++ (b ++ r))) x (b ++ r) run2 (c.within fx))) (((two x fx).complete b y r d2 (link2 x b y r d2 ends)).beyond n))
            (λ nx. deep-then (run1 (a ++ (b ++ r))) run2 (c.beyond nx)) (decide x);
      })

  pub seq_reads : Reads (Then DA DB) FB E (λ s. run1 s >>= run2)
  unfolding seq
  seq_reads = record {
    complete = seq_complete;
    outcome = λ s. first s (run1 s) (one.outcome s);
    some = let p = one.some in let n = (two p.1 p.3).some in (p.0 ++ n.0, n.1, (p.1, p.0, n.0, refl, p.2, n.2), n.3);
  }

-- one token

module _ {T : Type 0} (p : T → Bool) (t0 : T) (passes : p t0 ≡ true) where
  abbrev pub IsToken : List T → T → Type 0
  IsToken ts t = (ts ≡ t ∷ []) × (p t ≡ true)

  expect_outcome : (s : List T) → Outcome IsToken (λ _. Unit {0}) (λ _ _. Unit {0}) (λ v y. expect p v ≡ y) s (expect p s)
  unfolding expect
  expect_outcome [] = ([], refl, (t0 ∷ [], t0, (refl, passes), tt), λ t u v i. absurd cc)
  expect_outcome (t ∷ s) = by_test (p t) refl
    where
      by_test : (v : Bool) → p t ≡ v → Outcome IsToken (λ _. Unit {0}) (λ _ _. Unit {0}) (λ v y. expect p v ≡ y) (t ∷ s) (cond v (found t s) (syntax_error (t ∷ s)))
      by_test true h = (t ∷ [], refl, (refl, h), tt, tt, λ v sh. rw h refl)
      by_test false h = (
        [],
        refl,
        (t0 ∷ [], t0, (refl, passes), tt),
        λ x u v i. let e : t ≡ x = cc in
            subst (λ (y : T). expect p (y ∷ v) ≡ syntax_error (y ∷ v)) e (rw h refl),
      )

  pub expect_reads : Reads IsToken (λ _. Unit {0}) (λ _ _. Unit {0}) (expect p)
  unfolding expect
  expect_reads = record {
    complete = λ a t r d e. record {
      within = λ f. let h = d.1 in ap (λ (l : List T). expect p (l ++ r)) d.0 ∙ rw h refl;
      beyond = λ n. absurd (n tt);
    };
    outcome = expect_outcome;
    some = (t0 ∷ [], t0, (refl, passes), tt);
  }

-- the one or the other, by the first token

same_first : {T : Type 0} (p : T → Bool) (u v : List T) → SameHead u v → first_is p u ≡ first_is p v
same_first p [] [] h = refl
same_first p [] (y ∷ v) h = absurd h
same_first p (x ∷ u) [] h = absurd h
same_first p (x ∷ u) (y ∷ v) h = ap p h

module _ {T A : Type 0} (p : T → Bool) (F : A → Type 0) (E : A → List T → Type 0)
    (DA : List T → A → Type 0) (run1 : List T → Reading T A) (one : Reads DA F E run1)
    (DB : List T → A → Type 0) (run2 : List T → Reading T A) (two : Reads DB F E run2)
    (begins1 : (a : List T) (x : A) (r : List T) → DA a x → first_is p (a ++ r) ≡ true)
    (begins2 : (a : List T) (x : A) (r : List T) → DB a x → E x r → first_is p (a ++ r) ≡ false) where
  abbrev pub Either : List T → A → Type 0
  Either ts x = DA ts x ⊎ DB ts x

  abbrev ChooseOutcome : List T → Reading T A → Type 0
  ChooseOutcome = Outcome Either F E (λ v y. choose p run1 run2 v ≡ y)

  by_first : (D : List T → A → Type 0) → ((a : List T) (x : A) → D a x → Either a x) → (run : List T → Reading T A) → (s : List T)
      → ((v : List T) → SameHead s v → choose p run1 run2 v ≡ run v)
      → (y : Reading T A) → Outcome D F E (λ v z. run v ≡ z) s y → ChooseOutcome s y
  by_first D into run s goes (found x r) (a, q, d, f, e, g) =
      (a, q, into a x d, f, e, λ v sh. goes (a ++ v) (subst (λ (l : List T). SameHead l (a ++ v)) (sym q) (SameHead-more a r v sh)) ∙ g v sh)
  by_first D into run s goes (syntax_error rest) (front, q, (m, x, d, f), g) = (
    front,
    q,
    (m, x, into (front ++ m) x d, f),
    λ t u v i. goes (front ++ t ∷ v) (subst (λ (l : List T). SameHead l (front ++ t ∷ v)) (sym (q ∙ ap (λ (l : List T). front ++ l) i)) (SameHead-front front t u v)) ∙ g t u v i,
  )
  by_first D into run s goes (too_deep rest) (front, q, (m, x, d, f), g, t, u, j, (m', x', d')) = (
    front,
    q,
    (m, x, into (front ++ m) x d, f),
    (λ t u v i. goes (front ++ t ∷ v) (subst (λ (l : List T). SameHead l (front ++ t ∷ v)) (sym (q ∙ ap (λ (l : List T). front ++ l) i)) (SameHead-front front t u v)) ∙ g t u v i),
    t,
    u,
    j,
    (m', x', into ((front ++ t ∷ []) ++ m') x' d'),
  )

  choose_outcome : (s : List T) (b : Bool) → first_is p s ≡ b → ChooseOutcome s (cond b (run1 s) (run2 s))
  unfolding choose
  choose_outcome s true h = by_first DA (λ a x d. inl d) run1 s (λ v sh. let e = sym (same_first p s v sh) ∙ h in rw e refl) (run1 s) (one.outcome s)
  choose_outcome s false h = by_first DB (λ a x d. inr d) run2 s (λ v sh. let e = sym (same_first p s v sh) ∙ h in rw e refl) (run2 s) (two.outcome s)

  pub choose_reads : Reads Either F E (choose p run1 run2)
  unfolding choose
  choose_reads = record {
    complete = λ a x r d e. ⊎_elim
        (λ d1. let h = begins1 a x r d1 in let c = one.complete a x r d1 e in rw h (record { within = c.within; beyond = c.beyond }))
        (λ d2. let h = begins2 a x r d2 e in let c = two.complete a x r d2 e in rw h (record { within = c.within; beyond = c.beyond })) d;
    outcome = λ s. choose_outcome s (first_is p s) refl;
    some = let n = one.some in (n.0, n.1, inl n.2, n.3);
  }

-- items one after the other

abbrev pub EachOf : {T A : Type 0} → (List T → A → Type 0) → List T → List A → Type 0
EachOf {T} {A} D ts [] = ts ≡ []
EachOf {T} {A} D ts (x ∷ xs) = (a : List T) × (b : List T) × (ts ≡ a ++ b) × D a x × EachOf D b xs

abbrev pub EachFits : {A : Type 0} → (A → Type 0) → List A → Type 0
EachFits F [] = Unit {0}
EachFits F (x ∷ xs) = F x × EachFits F xs

-- how the last item ends
abbrev pub LastEnds : {T A : Type 0} → (A → List T → Type 0) → List A → List T → Type 0
LastEnds E [] r = Unit {0}
LastEnds E (x ∷ []) r = E x r
LastEnds E (x ∷ y ∷ ys) r = LastEnds E (y ∷ ys) r

-- nothing more of that kind comes, and the last item ends so
abbrev pub ManyEnds : {T A : Type 0} → (T → Bool) → (A → List T → Type 0) → List A → List T → Type 0
ManyEnds p E xs r = (first_is p r ≡ false) × LastEnds E xs r

module _ {T A : Type 0} (p : T → Bool) (D : List T → A → Type 0) (F : A → Type 0) (E : A → List T → Type 0) (item : List T → Reading T A) (one : Reads D F E item)
    (begins : (a : List T) (x : A) → D a x → (t : T) × (u : List T) × (a ≡ t ∷ u) × (p t ≡ true))
    (goes_on : (x : A) (r : List T) → first_is p r ≡ true → E x r)
    (decide : (x : A) → F x ⊎ (F x → ⊥)) where
  -- what follows an item, where the rest are items too
  pub item_ends : (x : A) (xs : List A) (b r : List T) → EachOf D b xs → LastEnds E (x ∷ xs) r → E x (b ++ r)
  item_ends x [] b r d e = subst (λ (l : List T). E x (l ++ r)) (sym d) e
  item_ends x (y ∷ ys) b r (a, c, q, d, ds) e =
      let n = begins a y d in
      goes_on x (b ++ r) (ap (λ (l : List T). first_is p (l ++ r)) (q ∙ ap (λ (l : List T). l ++ c) n.2) ∙ n.3)

  pub tail_ends : (x : A) (xs : List A) (r : List T) → LastEnds E (x ∷ xs) r → LastEnds E xs r
  tail_ends x [] r e = tt
  tail_ends x (y ∷ ys) r e = e

  pub last_ends : (x : A) (xs : List A) (b r v : List T) → r ≡ b ++ v → EachOf D b xs → E x r → LastEnds E xs v → LastEnds E (x ∷ xs) v
  last_ends x [] b r v q d e l = subst (λ (m : List T). E x m) (q ∙ ap (λ (m : List T). m ++ v) d) e
  last_ends x (y ∷ ys) b r v q d e l = l

  some_suc : (n m : ℕ) → suc n ≤ m → (k : ℕ) × (n ≤ k) × (m ≡ suc k)
  some_suc n zero h = absurd (omega arith)
  some_suc n (suc k) h = (k, omega arith, refl)

  many_step : (n : ℕ) (s : List T) → first_is p s ≡ true → many p item (suc n) s ≡ (item s >>= λ x r. many p item n r >>= λ xs v. found (x ∷ xs) v)
  unfolding many
  many_step n s h = rw h refl

  many_stop : (n : ℕ) (s : List T) → first_is p s ≡ false → many p item n s ≡ found [] s
  unfolding many
  many_stop zero s h = refl
  many_stop (suc n) s h = rw h refl

  pub many_complete : (xs : List A) (ts r : List T) (n : ℕ) → EachOf D ts xs → (ManyEnds p E) xs r → length (ts ++ r) ≤ n
      → Completes (EachOf D) (EachFits F) (ManyEnds p E) xs r (many p item n (ts ++ r))
  many_complete [] ts r n d e h = record {
    within = λ f. ap (λ (l : List T). many p item n (l ++ r)) d ∙ many_stop n r e.0;
    beyond = λ f. absurd (f tt);
  }
  many_complete (x ∷ xs) ts r n (a, b, q, d, ds) e h =
      let w = begins a x d in
      let split : ts ++ r ≡ a ++ (b ++ r) = ap (λ (l : List T). l ++ r) q ∙ append_assoc a b r in
      let long : suc (length (b ++ r)) ≤ n = omega (arith, h, ap length split, length-append a (b ++ r), ap length w.2) in
      let k = some_suc (length (b ++ r)) n long in
      let c = one.complete a x (b ++ r) d (item_ends x xs b r ds e.1) in
      let i = many_complete xs b r k.0 ds (e.0, tail_ends x xs r e.1) k.1 in
      let head : first_is p (a ++ (b ++ r)) ≡ true = ap (λ (l : List T). first_is p (l ++ (b ++ r))) w.2 ∙ w.3 in
      let run : many p item n (ts ++ r) ≡ (item (a ++ (b ++ r)) >>= λ x l. many p item k.0 l >>= λ xs v. found (x ∷ xs) v)
      = ap (λ (m : ℕ). many p item m (ts ++ r)) k.2 ∙ ap (many p item (suc k.0)) split ∙ many_step k.0 (a ++ (b ++ r)) head in
      subst (Completes (EachOf D) (EachFits F) (ManyEnds p E) (x ∷ xs) r) (sym run) (record {
        within = λ f. found-then (item (a ++ (b ++ r))) x (b ++ r) (λ x l. many p item k.0 l >>= λ xs v. found (x ∷ xs) v) (c.within f.0)
            ∙ found-then (many p item k.0 (b ++ r)) xs r (λ xs v. found (x ∷ xs) v) (i.within f.1);
        beyond = λ n. ⊎_elim
            (λ fx. subst IsDeep (sym (found-then (item (a ++ (b ++ r))) x (b ++ r) (λ x l. many p item k.0 l >>= λ xs v. found (x ∷ xs) v) (c.within fx)))
            (deep-then (many p item k.0 (b ++ r)) (λ xs v. found (x ∷ xs) v) (i.beyond (λ g. n (fx, g)))))
            (λ nx. deep-then (item (a ++ (b ++ r))) (λ x l. many p item k.0 l >>= λ xs v. found (x ∷ xs) v) (c.beyond nx)) (decide x);
      })

  -- reading on, whatever fuel is enough
  abbrev pub Gives : List T → Reading T (List A) → Type 0
  Gives v y = (n : ℕ) → length v ≤ n → many p item n v ≡ y

  abbrev pub ManyOutcome : List T → Reading T (List A) → Type 0
  ManyOutcome = Outcome (EachOf D) (EachFits F) (ManyEnds p E) Gives

  -- one more item in front of what was read
  step_gives : (v rest : List T) (x : A) (t : T) (u : List T) → v ≡ t ∷ u → p t ≡ true → item v ≡ found x rest → length rest < length v → (y : Reading T (List A)) → Gives rest y
      → Gives v (y >>= λ xs w. found (x ∷ xs) w)
  unfolding many
  step_gives v rest x t u q h i short y g n l =
      let k = some_suc (length rest) n (omega arith) in
      let head : first_is p v ≡ true = ap (λ (l : List T). first_is p l) q ∙ h in
      ap (λ (m : ℕ). many p item m v) k.2 ∙ many_step k.0 v head
      ∙ found-then (item v) x rest (λ x l. many p item k.0 l >>= λ xs w. found (x ∷ xs) w) i
      ∙ ap (λ (z : Reading T (List A)). z >>= λ xs w. found (x ∷ xs) w) (g k.0 k.1)

  fails_gives : (v : List T) (y : Reading T A) (z : Reading T (List A)) → first_is p v ≡ true → item v ≡ y → ((f : A → List T → Reading T (List A)) → (y >>= f) ≡ z) → Gives v z
  fails_gives v y z h i f n l =
      let k = some_suc 0 n (omega (arith, some_length v h, l)) in
      ap (λ (m : ℕ). many p item m v) k.2 ∙ many_step k.0 v h
      ∙ ap (λ (w : Reading T A). w >>= λ x l. many p item k.0 l >>= λ xs w. found (x ∷ xs) w) i ∙ f (λ x l. many p item k.0 l >>= λ xs w. found (x ∷ xs) w)
    where
      some_length : (v : List T) → first_is p v ≡ true → 1 ≤ length v
      some_length [] h = absurd cc
      some_length (t ∷ v) h = omega arith

  -- the next item was read, and then the others
  after_item : (s a r : List T) (x : A) → s ≡ a ++ r → D a x → F x → E x r → ((v : List T) → SameHead r v → item (a ++ v) ≡ found x v)
      → (y : Reading T (List A)) → ManyOutcome r y → ManyOutcome s (y >>= λ xs w. found (x ∷ xs) w)
  unfolding ◌>>=◌
  after_item s a r x q d f e g (found xs v) (b, q2, ds, fs, es, g2) = (
    a ++ b,
    q ∙ ap (λ (l : List T). a ++ l) q2 ∙ sym (append_assoc a b v),
    (a, b, refl, d, ds),
    (f, fs),
    (es.0, last_ends x xs b r v q2 ds e es.1),
    λ w sh. let n = begins a x d in
        step_gives ((a ++ b) ++ w) (b ++ w) x n.0 ((n.1 ++ b) ++ w) (ap (λ (l : List T). (l ++ b) ++ w) n.2) n.3
        (ap item (append_assoc a b w) ∙ g (b ++ w) (subst (λ (l : List T). SameHead l (b ++ w)) (sym q2) (SameHead-more b v w sh)))
        (omega (arith, ap length n.2, ap length (append_assoc a b w), length-append a (b ++ w))) (found xs w) (g2 w sh),
  )
  after_item s a r x q d f e g (syntax_error rest) (front, q2, (m, ys, ds, fs), g2) = (
    a ++ front,
    q ∙ ap (λ (l : List T). a ++ l) q2 ∙ sym (append_assoc a front rest),
    (m, x ∷ ys, (a, front ++ m, append_assoc a front m, d, ds), (f, fs)),
    λ t u v i. let n = begins a x d in
        step_gives ((a ++ front) ++ t ∷ v) (front ++ t ∷ v) x n.0 ((n.1 ++ front) ++ t ∷ v) (ap (λ (l : List T). (l ++ front) ++ t ∷ v) n.2) n.3
        (ap item (append_assoc a front (t ∷ v)) ∙ g (front ++ t ∷ v) (subst (λ (l : List T). SameHead l (front ++ t ∷ v)) (sym (q2 ∙ ap (λ (l : List T). front ++ l) i)) (SameHead-front front t u v)))
        (omega (arith, ap length n.2, ap length (append_assoc a front (t ∷ v)), length-append a (front ++ t ∷ v))) (syntax_error (t ∷ v)) (g2 t u v i),
  )
  after_item s a r x q d f e g (too_deep rest) (front, q2, (m, ys, ds, fs), g2, t, u, j, (m', zs, ds')) = (
    a ++ front,
    q ∙ ap (λ (l : List T). a ++ l) q2 ∙ sym (append_assoc a front rest),
    (m, x ∷ ys, (a, front ++ m, append_assoc a front m, d, ds), (f, fs)),
    (λ t u v i. let n = begins a x d in
        step_gives ((a ++ front) ++ t ∷ v) (front ++ t ∷ v) x n.0 ((n.1 ++ front) ++ t ∷ v) (ap (λ (l : List T). (l ++ front) ++ t ∷ v) n.2) n.3
        (ap item (append_assoc a front (t ∷ v)) ∙ g (front ++ t ∷ v) (subst (λ (l : List T). SameHead l (front ++ t ∷ v)) (sym (q2 ∙ ap (λ (l : List T). front ++ l) i)) (SameHead-front front t u v)))
        (omega (arith, ap length n.2, ap length (append_assoc a front (t ∷ v)), length-append a (front ++ t ∷ v))) (too_deep (t ∷ v)) (g2 t u v i)),
    t,
    u,
    j,
    (m', x ∷ zs, (a, (front ++ t ∷ []) ++ m', simp append_assoc, d, ds')),
  )

  more_items : (s : List T) (fuel : ℕ) → first_is p s ≡ true → length s ≤ suc fuel → ((r : List T) → length r ≤ fuel → ManyOutcome r (many p item fuel r))
      → (y : Reading T A) → Outcome D F E (λ v z. item v ≡ z) s y → ManyOutcome s (y >>= λ x r. many p item fuel r >>= λ xs v. found (x ∷ xs) v)
  unfolding ◌>>=◌
  more_items s fuel h l next (found x r) (a, q, d, f, e, g) =
      let n = begins a x d in
      after_item s a r x q d f e g (many p item fuel r) (next r (omega (arith, ap length q, length-append a r, ap length n.2)))
  more_items s fuel h l next (syntax_error rest) (front, q, (m, x, d, f), g) = (
    front,
    q,
    (m, x ∷ [], (front ++ m, [], sym (append-nil (front ++ m)), d, refl), (f, tt)),
    λ t u v i. fails_gives (front ++ t ∷ v) (syntax_error (t ∷ v)) (syntax_error (t ∷ v))
        (sym (same_first p s (front ++ t ∷ v) (subst (λ (k : List T). SameHead k (front ++ t ∷ v)) (sym (q ∙ ap (λ (k : List T). front ++ k) i)) (SameHead-front front t u v))) ∙ h) (g t u v i) (λ f. refl),
  )
  more_items s fuel h l next (too_deep rest) (front, q, (m, x, d, f), g, t, u, j, (m', x', d')) = (
    front,
    q,
    (m, x ∷ [], (front ++ m, [], sym (append-nil (front ++ m)), d, refl), (f, tt)),
    (λ t u v i. fails_gives (front ++ t ∷ v) (too_deep (t ∷ v)) (too_deep (t ∷ v))
        (sym (same_first p s (front ++ t ∷ v) (subst (λ (k : List T). SameHead k (front ++ t ∷ v)) (sym (q ∙ ap (λ (k : List T). front ++ k) i)) (SameHead-front front t u v))) ∙ h) (g t u v i) (λ f. refl)),
    t,
    u,
    j,
    (m', x' ∷ [], ((front ++ t ∷ []) ++ m', [], sym (append-nil ((front ++ t ∷ []) ++ m')), d', refl)),
  )

  no_items : (s : List T) → first_is p s ≡ false → ManyOutcome s (found [] s)
  no_items s h = ([], refl, refl, tt, (h, tt), λ v sh n l. many_stop n v (sym (same_first p s v sh) ∙ h))

  by_first_token : (s : List T) (fuel : ℕ) → length s ≤ suc fuel → ((r : List T) → length r ≤ fuel → ManyOutcome r (many p item fuel r))
      → (b : Bool) → first_is p s ≡ b → ManyOutcome s (cond b (item s >>= λ x r. many p item fuel r >>= λ xs v. found (x ∷ xs) v) (found [] s))
  by_first_token s fuel l next true h = more_items s fuel h l next (item s) (one.outcome s)
  by_first_token s fuel l next false h = no_items s h

  pub many_outcome : (fuel : ℕ) (s : List T) → length s ≤ fuel → ManyOutcome s (many p item fuel s)
  unfolding many
  many_outcome zero [] l = no_items [] refl
  many_outcome zero (t ∷ s) l = absurd (omega arith)
  many_outcome (suc fuel) s l =
      by_first_token s fuel l (λ r k. many_outcome fuel r k) (first_is p s) refl

  many_at_length : (s : List T) (y : Reading T (List A)) → ManyOutcome s y
      → Outcome (EachOf D) (EachFits F) (ManyEnds p E) (λ v z. many p item (length v) v ≡ z) s y
  many_at_length s (found xs v) (a, q, d, f, e, g) = (a, q, d, f, e, λ w sh. g w sh (length (a ++ w)) (omega arith))
  many_at_length s (syntax_error rest) (front, q, o, g) = (front, q, o, λ t u v i. g t u v i (length (front ++ t ∷ v)) (omega arith))
  many_at_length s (too_deep rest) (front, q, o, g, t, u, j, any) = (front, q, o, (λ t u v i. g t u v i (length (front ++ t ∷ v)) (omega arith)), t, u, j, any)

  pub many_reads : Reads (EachOf D) (EachFits F) (ManyEnds p E) (λ s. many p item (length s) s)
  many_reads = record {
    complete = λ a xs r d e. many_complete xs a r (length (a ++ r)) d e (omega arith);
    outcome = λ s. many_at_length s (many p item (length s) s) (many_outcome (length s) s (omega arith));
    some = ([], [], refl, tt);
  }
