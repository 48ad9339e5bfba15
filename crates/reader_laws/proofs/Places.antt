-- What a reader that reads exactly D says of all the tokens.
use Rattle.std.proofs.Common.{◌≡◌, ◌≤◌, ◌+◌, ◌-◌, ◌⊎◌, List, [], ◌∷◌, ◌++◌, length, take, refl, sym, ◌∙◌, ap, subst, append_assoc, append-nil, arith, length-append, ⊎_elim}
use Rattle.reader_laws.specs.Reading.{Reading}
use Rattle.reader_laws.specs.Reading.Reading.{found, syntax_error, too_deep}
use Rattle.reader_laws.specs.Places.{Begins, BeginsWithin, IsSyntaxPlace, IsTooDeepPlace}
use Rattle.reader_laws.proofs.Readers.{SameHead, IsDeep, Outcome, Completes, Reads}

take_front : {T : Type 0} (a r : List T) → take (length a) (a ++ r) ≡ a
take_front [] r = refl
take_front (x ∷ a) r = ap (λ (l : List _). x ∷ l) (take_front a r)

take_front_one : {T : Type 0} (a : List T) (t : T) (r : List T) → take (length a + 1) (a ++ t ∷ r) ≡ a ++ t ∷ []
take_front_one a t r =
    let q : a ++ t ∷ r ≡ (a ++ t ∷ []) ++ r = sym (append_assoc a (t ∷ []) r) in
    let n : length a + 1 ≡ length (a ++ t ∷ []) = omega (arith, length-append a (t ∷ [])) in
    rw (n, q) (take_front (a ++ t ∷ []) r)

same_found : {T A : Type 0} (x y : A) (r : List T) → found x r ≡ found y r → x ≡ y
same_found x y r h = cc

module _ {T A : Type 0} (D : List T → A → Type 0) (F : A → Type 0) (E : A → List T → Type 0) (run : List T → Reading T A) (one : Reads D F E run)
    (ends : (x : A) → E x []) (decide : (x : A) → F x ⊎ (F x → ⊥)) where
  read_whole : (s : List T) (x : A) → D s x → Completes D F E x [] (run s)
  read_whole s x d = subst (λ (l : List T). Completes D F E x [] (run l)) (append-nil s) (one.complete s x [] d (ends x))

  -- what fits is read
  pub found_whole : (s : List T) (x : A) → D s x → F x → run s ≡ found x []
  found_whole s x d f = (read_whole s x d).within f

  -- one thing that fits at most
  pub one_tree : (s : List T) (x y : A) → D s x → D s y → F x → F y → x ≡ y
  one_tree s x y d d' f f' = same_found x y [] (sym (found_whole s x d f) ∙ found_whole s y d' f')

  none_begins : (a : List T) (t : T) (x : List T → Reading T A) → ((v : List T) → run (a ++ t ∷ v) ≡ x v)
      → ((v : List T) (e : A) → x v ≡ found e [] → ⊥) → ((v : List T) → IsDeep (x v) → ⊥) → Begins D (a ++ t ∷ []) → ⊥
  none_begins a t x reads other shallow (m, e, d) =
      let q : (a ++ t ∷ []) ++ m ≡ a ++ t ∷ m = append_assoc a (t ∷ []) m in
      let c : Completes D F E e [] (x m) = subst (Completes D F E e []) (reads m) (read_whole (a ++ t ∷ m) e (subst (λ (l : List T). D l e) q d)) in
      ⊎_elim (λ f. other m e (c.within f)) (λ n. shallow m (c.beyond n)) (decide e)

  none_within : (a : List T) (t : T) (x : List T → Reading T A) → ((v : List T) → run (a ++ t ∷ v) ≡ x v)
      → ((v : List T) (e : A) → x v ≡ found e [] → ⊥) → BeginsWithin D F (a ++ t ∷ []) → ⊥
  none_within a t x reads other (m, e, d, f) =
      let q : (a ++ t ∷ []) ++ m ≡ a ++ t ∷ m = append_assoc a (t ∷ []) m in
      let c : Completes D F E e [] (x m) = subst (Completes D F E e []) (reads m) (read_whole (a ++ t ∷ m) e (subst (λ (l : List T). D l e) q d)) in
      other m e (c.within f)

  place_at : (a s : List T) (t : T) (u : List T) → s ≡ a ++ t ∷ u → BeginsWithin D F a → (Begins D (a ++ t ∷ []) → ⊥) → IsSyntaxPlace D F s (length a)
  place_at a s t u q o none = subst (λ (l : List T). IsSyntaxPlace D F l (length a)) (sym q) (record {
    within = omega (arith, length-append a (t ∷ u));
    before = subst (BeginsWithin D F) (sym (take_front a (t ∷ u))) o;
    here = λ h g. none (subst (Begins D) (take_front_one a t u) g);
    at_end = λ h. absurd (omega (arith, length-append a (t ∷ u)));
  })

  place_end : (a s : List T) → s ≡ a ++ [] → BeginsWithin D F a → ((x : A) → D s x → ⊥) → IsSyntaxPlace D F s (length a)
  place_end a s q o none =
      let p : s ≡ a = q ∙ append-nil a in
      record {
        within = omega (arith, ap length p);
        before = subst (BeginsWithin D F) (sym (ap (λ (l : List T). take (length a) l) q ∙ take_front a [])) o;
        here = λ h. absurd (omega (arith, ap length p));
        at_end = λ h. none;
      }

  at_of : (a r s : List T) → s ≡ a ++ r → length s - length r ≡ length a
  at_of a r s q = omega (arith, ap length q, length-append a r)

  -- all was read
  pub whole_found : (s : List T) (x : A) (y : Reading T A) → Outcome D F E (λ v z. run v ≡ z) s y → y ≡ found x [] → D s x × F x
  whole_found s x (found x' r) (a, q, d, f, e, g) i =
      let none : r ≡ [] = cc in
      let same : x' ≡ x = cc in
      (subst (λ (z : A). D s z) same (subst (λ (l : List T). D l x') (sym (q ∙ ap (λ (l : List T). a ++ l) none ∙ append-nil a)) d), subst F same f)
  whole_found s x (syntax_error r) o i = absurd cc
  whole_found s x (too_deep r) o i = absurd cc

  -- after something that was read another token comes
  pub leftover : (s : List T) (x : A) (t : T) (u : List T) (y : Reading T A) → Outcome D F E (λ v z. run v ≡ z) s y → y ≡ found x (t ∷ u) → IsSyntaxPlace D F s (length s - length (t ∷ u))
  leftover s x t u (found x' r) (a, q, d, f, e, g) i =
      let same : r ≡ t ∷ u = cc in
      let q' : s ≡ a ++ t ∷ u = q ∙ ap (λ (l : List T). a ++ l) same in
      rw (at_of a (t ∷ u) s q') (place_at a s t u q' ([], x', subst (λ (l : List T). D l x') (sym (append-nil a)) d, f)
      (none_begins a t (λ v. found x' (t ∷ v)) (λ v. g (t ∷ v) (subst (λ (l : List T). SameHead l (t ∷ v)) (sym same) refl)) (λ v e' j. cc) (λ v j. j)))
  leftover s x t u (syntax_error r) o i = absurd cc
  leftover s x t u (too_deep r) o i = absurd cc

  pub syntax_place : (s rest : List T) (y : Reading T A) → y ≡ run s → Outcome D F E (λ v z. run v ≡ z) s y → y ≡ syntax_error rest → IsSyntaxPlace D F s (length s - length rest)
  syntax_place s rest (found x r) w o i = absurd cc
  syntax_place s rest (too_deep r) w o i = absurd cc
  syntax_place s rest (syntax_error []) w (a, q, o, g) i =
      let same : [] ≡ rest = cc in
      subst (λ (l : List T). IsSyntaxPlace D F s (length s - length l)) same
      (rw (at_of a [] s q) (place_end a s q o (λ x d. ⊎_elim
      (λ f. let j : syntax_error [] ≡ found x [] = w ∙ (read_whole s x d).within f in cc)
      (λ n. subst IsDeep (sym w) ((read_whole s x d).beyond n)) (decide x))))
  syntax_place s rest (syntax_error (t ∷ u)) w (a, q, o, g) i =
      let same : t ∷ u ≡ rest = cc in
      subst (λ (l : List T). IsSyntaxPlace D F s (length s - length l)) same
      (rw (at_of a (t ∷ u) s q) (place_at a s t u q o
      (none_begins a t (λ v. syntax_error (t ∷ v)) (λ v. g t u v refl) (λ v e j. cc) (λ v j. j))))

  pub deep_place : (s rest : List T) (y : Reading T A) → Outcome D F E (λ v z. run v ≡ z) s y → y ≡ too_deep rest → IsTooDeepPlace D F s (length s - length rest)
  deep_place s rest (found x r) o i = absurd cc
  deep_place s rest (syntax_error r) o i = absurd cc
  deep_place s rest (too_deep r) (a, q, o, g, t, u, j, any) i =
      let same : r ≡ rest = cc in
      let q' : s ≡ a ++ t ∷ u = q ∙ ap (λ (l : List T). a ++ l) j in
      subst (λ (l : List T). IsTooDeepPlace D F s (length s - length l)) same
      (rw (at_of a r s q) (subst (λ (l : List T). IsTooDeepPlace D F l (length a)) (sym q') (record {
        within = omega (arith, length-append a (t ∷ u));
        before = subst (BeginsWithin D F) (sym (take_front a (t ∷ u))) o;
        deeper = subst (Begins D) (sym (take_front_one a t u)) any;
        here = λ h. none_within a t (λ v. too_deep (t ∷ v)) (λ v. g t u v j) (λ v e k. cc) (subst (BeginsWithin D F) (take_front_one a t u) h);
      })))

-- a failing place is among the tokens
pub failed_short : {T A : Type 0} (D : List T → A → Type 0) (F : A → Type 0) (E : A → List T → Type 0) (G : List T → Reading T A → Type 0) (s rest : List T) (y : Reading T A)
    → Outcome D F E G s y → y ≡ syntax_error rest → length rest ≤ length s
failed_short D F E G s rest (found x r) o h = absurd cc
failed_short D F E G s rest (syntax_error r) o h =
    let same : r ≡ rest = cc in omega (arith, ap length same, ap length o.1, length-append o.0 r)
failed_short D F E G s rest (too_deep r) o h = absurd cc

pub deep_short : {T A : Type 0} (D : List T → A → Type 0) (F : A → Type 0) (E : A → List T → Type 0) (G : List T → Reading T A → Type 0) (s rest : List T) (y : Reading T A)
    → Outcome D F E G s y → y ≡ too_deep rest → length rest ≤ length s
deep_short D F E G s rest (found x r) o h = absurd cc
deep_short D F E G s rest (syntax_error r) o h = absurd cc
deep_short D F E G s rest (too_deep r) o h =
    let same : r ≡ rest = cc in omega (arith, ap length same, ap length o.1, length-append o.0 r)
