-- Operands with operators between them, read by levels.
use Rattle.std.proofs.Common.{◌≡◌, ℕ, zero, suc, ◌+◌, ◌≤◌, ◌<◌, leb, nat_le, Bool, true, false, ◌||◌, ◌⊎◌, List, [], ◌∷◌, ◌++◌, length, Option, Some, None, refl, sym, ◌∙◌, ap, subst, arith, append_assoc, append-nil, length-append, le-leb, ⊎_elim}
use Rattle.std.proofs.lemmas.Bool.Decides.{leb_tells}
use Rattle.reader_laws.specs.Reading.{Reading, ◌>>=◌}
use Rattle.reader_laws.specs.Reading.Reading.{found, syntax_error, too_deep}
use Rattle.reader_laws.proofs.Readers.{IsDeep, deep-then, found-then, Outcome, Completes, Reads}
use Rattle.reader_laws.proofs.More.{prefixed}
use Rattle.smv_lexer.specs.Text.{Placed}
use Rattle.smv_lexer.specs.Text.Kind.{word}
use Rattle.smv_parser.specs.declared.expressions.BinaryOperator.{BinaryOperator}
use Rattle.smv_parser.specs.Tree.{Tree, Form, on_line, path_on, no_parts, depth}
use Rattle.smv_parser.specs.Words.{level_of, prefix_level, BeginsOn}
use Rattle.smv_parser.specs.Tests.{operator_of}
use Rattle.smv_parser.specs.Grammar.{Derives}
use Rattle.smv_parser.specs.Reading.{line_of, binary, operand, operator_step, more, Stops}
use Rattle.smv_parser.proofs.TokenTests.{operator_is, operator_found}
use Rattle.smv_parser.proofs.Follow.{IsLevel, EndsInPrefix, Follows, Ends, Stops-same, depth_pos, Derives-level, Derives-weaker, loosen, left_ends, left_operand, as_operand, operand_derives, begins_line, BeginsOn-append, Follows-right, Stops-right, Follows-node, follows_operator}

some_suc : (n m : ℕ) → suc n ≤ m → (p : ℕ) × (n ≤ p) × (m ≡ suc p)
some_suc n zero h = absurd (omega arith)
some_suc n (suc p) h = (p, omega arith, refl)

order : (m n : ℕ) → (m ≤ n) ⊎ (n < m)
order m n = grind (arith, leb_tells)

-- a name by itself
abbrev pub some_name : Placed
some_name = record { kind = word []; at = 0; end = 0; line = 0 }

abbrev pub some_tree : Tree
some_tree = on_line 0 (Form.path (path_on 0 [] no_parts))

pub some_derived : (k : ℕ) → Derives false k (some_name ∷ []) some_tree
some_derived k = (refl, (some_name, [], refl, refl, refl, refl))

module _ (reader : ℕ → List Placed → Reading Placed Tree) (b : ℕ)
    (operands : Reads (Derives false 11) (λ e. depth e ≤ suc b) Follows (operand reader b))
    (parts : 1 ≤ b → (k : ℕ) → Reads (Derives false k) (λ e. depth e ≤ b) (Ends k) (reader k)) where
  abbrev pub start : ℕ → ℕ → List Placed → Reading Placed Tree
  start fuel k s = operand reader b s >>= more reader b fuel k

  no_operator : (k : ℕ) (e : Tree) (t : Placed) (s : List Placed) (next : Tree → List Placed → Reading Placed Tree) (o : Option BinaryOperator)
      → operator_of t ≡ o → Stops k (t ∷ s) → operator_step reader b k e t s next o ≡ found e (t ∷ s)
  unfolding operator_step
  no_operator k e t s next None i st = refl
  no_operator k e t s next (Some o) i st =
      ⊎_elim (λ p. absurd (let h = st o i in let l = p.1 in omega arith)) (λ p. let f = p.0 in rw f refl) (leb_tells k (level_of o))

  more_stops : (m k : ℕ) (e : Tree) (r : List Placed) → Stops k r → more reader b m k e r ≡ found e r
  unfolding more
  more_stops zero k e r st = refl
  more_stops (suc m) k e [] st = refl
  more_stops (suc m) k e (t ∷ s) st = no_operator k e t s (more reader b m k) (operator_of t) refl st

  more_goes : (m k : ℕ) (o : BinaryOperator) (e : Tree) (t : Placed) (s : List Placed) → operator_of t ≡ Some o → k ≤ level_of o → depth e ≤ b
      → more reader b (suc m) k e (t ∷ s) ≡ (reader (level_of o + 1) s >>= λ f r. more reader b m k (binary o e f) r)
  unfolding more operator_step
  more_goes m k o e t s i h j =
      let p : leb k (level_of o) ≡ true = le-leb k (level_of o) h in
      let q : leb (depth e) b ≡ true = le-leb (depth e) b j in
      rw (i, p, q) refl

  more_deep : (m k : ℕ) (o : BinaryOperator) (e : Tree) (t : Placed) (s : List Placed) → operator_of t ≡ Some o → k ≤ level_of o → b < depth e
      → more reader b (suc m) k e (t ∷ s) ≡ too_deep (t ∷ s)
  unfolding more operator_step
  more_deep m k o e t s i h j =
      let p : leb k (level_of o) ≡ true = le-leb k (level_of o) h in
      ⊎_elim (λ q. absurd (let l = q.1 in omega arith)) (λ q. let f = q.0 in rw (i, p, f) refl) (leb_tells (depth e) b)

  -- a ++ r is read as e and what follows
  record Spine (fuel k : ℕ) (s : List Placed) (e : Tree) (r : List Placed) : Type 0 where
    within : depth e ≤ suc b → (m : ℕ) × (length r ≤ m) × (start fuel k s ≡ more reader b m k e r)
    beyond : suc b < depth e → IsDeep (start fuel k s)

  spine_operand : (fuel k : ℕ) (a : List Placed) (e : Tree) (r : List Placed) → length (a ++ r) ≤ fuel → Derives false 11 a e → Follows e r → Spine fuel k (a ++ r) e r
  spine_operand fuel k a e r h d f =
      let c = operands.complete a e r d f in
      record {
        within = λ i. (fuel, omega (arith, h, length-append a r), found-then (operand reader b (a ++ r)) e r (more reader b fuel k) (c.within i));
        beyond = λ i. deep-then (operand reader b (a ++ r)) (more reader b fuel k) (c.beyond (λ j. omega arith));
      }

  spine_binary : (fuel k : ℕ) (o : BinaryOperator) (t : Placed) (e f : Tree) (s b' r : List Placed) → operator_of t ≡ Some o → k ≤ level_of o → Derives false (level_of o + 1) b' f
      → Follows (binary o e f) r → Spine fuel k s e (t ∷ (b' ++ r)) → Spine fuel k s (binary o e f) r
  spine_binary fuel k o t e f s b' r i h d fl left =
      let longer : length r ≤ length (b' ++ r) = omega (arith, length-append b' r) in
      record {
        within = λ j.
            let pos : 1 ≤ b = omega (arith, depth_pos e) in
            let c = (parts pos (level_of o + 1)).complete b' f r d (Follows-right o false e f b' r d fl, Stops-right o e f r fl) in
            let w = left.within (omega arith) in
            let p = some_suc (length (b' ++ r)) w.0 w.1 in (
              p.0,
              omega arith,
              w.2 ∙ ap (λ (m : ℕ). more reader b m k e (t ∷ (b' ++ r))) p.2 ∙ more_goes p.0 k o e t (b' ++ r) i h (omega arith)
                  ∙ found-then (reader (level_of o + 1) (b' ++ r)) f r (λ g v. more reader b p.0 k (binary o e g) v) (c.within (omega arith)),
            );
        beyond = λ j. ⊎_elim (λ n. left.beyond n)
            (λ n.
            let w = left.within n in
            let p = some_suc (length (b' ++ r)) w.0 w.1 in
            let q = w.2 ∙ ap (λ (m : ℕ). more reader b m k e (t ∷ (b' ++ r))) p.2 in
            subst IsDeep (sym q) (⊎_elim
            (λ l. let pos : 1 ≤ b = omega (arith, depth_pos e) in
            let c = (parts pos (level_of o + 1)).complete b' f r d (Follows-right o false e f b' r d fl, Stops-right o e f r fl) in
            subst IsDeep (sym (more_goes p.0 k o e t (b' ++ r) i h l))
            (deep-then (reader (level_of o + 1) (b' ++ r)) (λ g v. more reader b p.0 k (binary o e g) v) (c.beyond (λ m. omega arith))))
            (λ l. subst IsDeep (sym (more_deep p.0 k o e t (b' ++ r) i h l)) tt)
            (order (depth e) b)))
            (order' (depth e));
      }
    where
      order' : (n : ℕ) → (suc b < n) ⊎ (n ≤ suc b)
      order' n = grind (arith, leb_tells)

  same_line : (l o' : ℕ) (a r : List Placed) → BeginsOn l (a ++ r) → BeginsOn o' a → l ≡ o'
  same_line l o' [] r h i = absurd i
  same_line l o' (t ∷ a) r h i = sym h ∙ i

  spine : (flag : Bool) (fuel k : ℕ) (a : List Placed) (e : Tree) (r : List Placed) → Derives flag k a e → Follows e r → length (a ++ r) ≤ fuel → Spine fuel k (a ++ r) e r
  spine flag fuel k a (on_line l (Form.binary o e f)) r (n, (t, x, y, q, is, i, d, d')) fl h =
      let s : a ++ r ≡ x ++ t ∷ (y ++ r) = ap (λ (z : List Placed). z ++ r) q ∙ append_assoc x (t ∷ y) r in
      let known : operator_of t ≡ Some o = ap Rattle.smv_parser.specs.Tests.kind_operator is ∙ operator_found o in
      let line : l ≡ line_of e = same_line l (line_of e) x (t ∷ y) (subst (BeginsOn l) q n) (begins_line (flag || nat_le prefix_level (level_of o)) (level_of o) x e d) in
      let inner = spine (flag || nat_le prefix_level (level_of o)) fuel k x e (t ∷ (y ++ r))
      (Derives-weaker (flag || nat_le prefix_level (level_of o)) (level_of o) k x e (Derives-level (flag || nat_le prefix_level (level_of o)) (level_of o) k x e i d) d)
      (follows_operator t o e (y ++ r) known (Derives-level (flag || nat_le prefix_level (level_of o)) (level_of o) (level_of o) x e (omega arith) d) (left_ends flag o x e d))
      (omega (arith, h, ap length s)) in
      subst (λ (m : ℕ). Spine fuel k (a ++ r) (on_line m (Form.binary o e f)) r) (sym line)
      (subst (λ (z : List Placed). Spine fuel k z (binary o e f) r) (sym s)
      (spine_binary fuel k o t e f (x ++ t ∷ (y ++ r)) y r known i (loosen flag (level_of o + 1) y f d') fl inner))
  spine flag fuel k a e r d fl h = spine_operand fuel k a e r h (as_operand flag k a e tt d) fl

  pub read_complete : (k : ℕ) (a : List Placed) (e : Tree) (r : List Placed) → Derives false k a e → Ends k e r
      → Completes (Derives false k) (λ e. depth e ≤ suc b) (Ends k) e r (start (length (a ++ r)) k (a ++ r))
  read_complete k a e r d en =
      let s = spine false (length (a ++ r)) k a e r d en.0 (omega arith) in
      record {
        within = λ h. let w = s.within h in w.2 ∙ more_stops w.0 k e r en.1;
        beyond = λ n. s.beyond (⊎_elim (λ h. absurd (n h)) (λ h. h) (order (depth e) (suc b)));
      }

  module _ (k : ℕ) where
    -- reading on after the left operand e, whatever fuel is enough
    abbrev GoesOn : Tree → List Placed → Reading Placed Tree → Type 0
    GoesOn e v x = (n : ℕ) → length v ≤ n → more reader b n k e v ≡ x

    abbrev MoreOutcome : List Placed → Tree → List Placed → Reading Placed Tree → Type 0
    MoreOutcome before e = Outcome (λ a x. Derives false k (before ++ a) x) (λ e. depth e ≤ suc b) (Ends k) (GoesOn e)

    more_ends : (before : List Placed) (e : Tree) (s : List Placed) → Derives false k before e → depth e ≤ suc b → Follows e s → Stops k s → MoreOutcome before e s (found e s)
    more_ends before e s d h f st = (
      [],
      refl,
      subst (λ (l : List Placed). Derives false k l e) (sym (append-nil before)) d,
      h,
      (f, st),
      λ v sh n i. more_stops n k e v (Stops-same k s v sh st),
    )

    -- the operator's node
    node : (before : List Placed) (t : Placed) (o : BinaryOperator) (e f : Tree) (a : List Placed) → operator_of t ≡ Some o → k ≤ level_of o → Derives false k before e → IsLevel (level_of o) e × (prefix_level ≤ level_of o → EndsInPrefix e → ⊥)
        → Derives false (level_of o + 1) a f → Derives false k (before ++ t ∷ a) (binary o e f)
    node before t o e f a i h d w df = (
      BeginsOn-append (line_of e) before (t ∷ a) (begins_line false k before e d),
      (t, before, a, refl, operator_is t.kind o i, h, left_operand k o before e d w.0 w.1, df),
    )

    module _ (t : Placed) (o : BinaryOperator) (e : Tree) (known : operator_of t ≡ Some o) (level_is : k ≤ level_of o) (fits : depth e ≤ b) where
      step : (v : List Placed) (n : ℕ) → length (t ∷ v) ≤ n → (m : ℕ) × (length v ≤ m) × (more reader b n k e (t ∷ v) ≡ (reader (level_of o + 1) v >>= λ f r. more reader b m k (binary o e f) r))
      step v n h = let p = some_suc (length v) n (omega arith) in
          (p.0, p.1, ap (λ (m : ℕ). more reader b m k e (t ∷ v)) p.2 ∙ more_goes p.0 k o e t v known level_is fits)

      -- the right operand is read, and then what follows
      right_outcome : (before : List Placed) (s : List Placed) (fuel : ℕ) → Derives false k before e → Follows e (t ∷ s) → length s ≤ fuel
          → ((before : List Placed) (e : Tree) (s : List Placed) → Derives false k before e → depth e ≤ suc b → Follows e s → length s ≤ fuel → MoreOutcome before e s (more reader b fuel k e s))
          → (x : Reading Placed Tree) → Outcome (Derives false (level_of o + 1)) (λ e. depth e ≤ b) (Ends (level_of o + 1)) (λ v y. reader (level_of o + 1) v ≡ y) s x
          → MoreOutcome before e (t ∷ s) (x >>= λ f r. more reader b fuel k (binary o e f) r)
      unfolding ◌>>=◌
      right_outcome before s fuel d fl h next (found f rest) (a, q, df, i, en, g) =
          let shorter : length rest ≤ fuel = omega (arith, h, ap length q, length-append a rest) in
          let inner = next (before ++ t ∷ a) (binary o e f) rest (node before t o e f a known level_is d (fl.0 o known) df) (omega arith) (Follows-node o e f rest en.0 en.1) shorter in
          subst (λ (l : List Placed). MoreOutcome before e (t ∷ l) (more reader b fuel k (binary o e f) rest)) (sym q)
          (prefixed (t ∷ a) rest (λ c x. Derives false k ((before ++ t ∷ a) ++ c) x) (λ c x. Derives false k (before ++ c) x) (λ e. depth e ≤ suc b) (Ends k) (GoesOn (binary o e f)) (GoesOn e)
          (λ c x dx. subst (λ (l : List Placed). Derives false k l x) (append_assoc before (t ∷ a) c) dx)
          (λ v y sh p n j. let w = step (a ++ v) n j in
          w.2 ∙ found-then (reader (level_of o + 1) (a ++ v)) f v (λ f r. more reader b w.0 k (binary o e f) r) (g v sh) ∙ p w.0 (omega (arith, w.1, length-append a v)))
          (more reader b fuel k (binary o e f) rest) inner)
      right_outcome before s fuel d fl h next (syntax_error rest) (front, q, (m, f, df, i), g) = (
        t ∷ front,
        ap (λ (l : List Placed). t ∷ l) q,
        (m, binary o e f, node before t o e f (front ++ m) known level_is d (fl.0 o known) df, omega arith),
        λ t' u v j n l. let w = step (front ++ t' ∷ v) n l in w.2 ∙ fails (g t' u v j) w.0,
      )
        where
          fails : {x y : Reading Placed Tree} → x ≡ y → (m : ℕ) → (x >>= λ f r. more reader b m k (binary o e f) r) ≡ (y >>= λ f r. more reader b m k (binary o e f) r)
          fails p m = ap (λ (z : Reading Placed Tree). z >>= λ f r. more reader b m k (binary o e f) r) p
      right_outcome before s fuel d fl h next (too_deep rest) (front, q, (m, f, df, i), g, t', u, j, (m', f', df')) = (
        t ∷ front,
        ap (λ (l : List Placed). t ∷ l) q,
        (m, binary o e f, node before t o e f (front ++ m) known level_is d (fl.0 o known) df, omega arith),
        (λ t'' u v j n l. let w = step (front ++ t'' ∷ v) n l in w.2 ∙ fails (g t'' u v j) w.0),
        t',
        u,
        j,
        (m', binary o e f', node before t o e f' ((front ++ t' ∷ []) ++ m') known level_is d (fl.0 o known) df'),
      )
        where
          fails : {x y : Reading Placed Tree} → x ≡ y → (m : ℕ) → (x >>= λ f r. more reader b m k (binary o e f) r) ≡ (y >>= λ f r. more reader b m k (binary o e f) r)
          fails p m = ap (λ (z : Reading Placed Tree). z >>= λ f r. more reader b m k (binary o e f) r) p

    deep_outcome : (before : List Placed) (t : Placed) (o : BinaryOperator) (e : Tree) (s : List Placed) → operator_of t ≡ Some o → k ≤ level_of o → b < depth e
        → Derives false k before e → depth e ≤ suc b → Follows e (t ∷ s) → MoreOutcome before e (t ∷ s) (too_deep (t ∷ s))
    deep_outcome before t o e s known level_is deep d h fl = (
      [],
      refl,
      ([], e, subst (λ (l : List Placed). Derives false k l e) (sym (append-nil before)) d, h),
      λ t' u v q n i. let same : t ≡ t' = cc in subst (λ (x : Placed). more reader b n k e (x ∷ v) ≡ too_deep (x ∷ v)) same (deep_at n v (omega arith)),
      t,
      s,
      refl,
      (some_name ∷ [], binary o e some_tree, node before t o e some_tree (some_name ∷ []) known level_is d (fl.0 o known) (some_derived (level_of o + 1))),
    )
      where
        deep_at : (n : ℕ) (v : List Placed) → suc zero ≤ n → more reader b n k e (t ∷ v) ≡ too_deep (t ∷ v)
        deep_at zero v i = absurd (omega arith)
        deep_at (suc n) v i = more_deep n k o e t v known level_is deep

    more_outcome : (fuel : ℕ) (before : List Placed) (e : Tree) (s : List Placed) → Derives false k before e → depth e ≤ suc b → Follows e s → length s ≤ fuel
        → MoreOutcome before e s (more reader b fuel k e s)
    unfolding more operator_step
    more_outcome zero before e [] d h fl i = more_ends before e [] d h fl (λ o j. absurd cc)
    more_outcome zero before e (t ∷ s) d h fl i = absurd (omega arith)
    more_outcome (suc fuel) before e [] d h fl i = more_ends before e [] d h fl (λ o j. absurd cc)
    more_outcome (suc fuel) before e (t ∷ s) d h fl i = by_operator (operator_of t) refl (λ before e s d h f i. more_outcome fuel before e s d h f i)
      where
        by_operator : (x : Option BinaryOperator) → operator_of t ≡ x
            → ((before : List Placed) (e : Tree) (s : List Placed) → Derives false k before e → depth e ≤ suc b → Follows e s → length s ≤ fuel → MoreOutcome before e s (more reader b fuel k e s))
            → MoreOutcome before e (t ∷ s) (operator_step reader b k e t s (more reader b fuel k) x)
        by_operator None j next = more_ends before e (t ∷ s) d h fl (λ o j'. absurd cc)
        by_operator (Some o) j next = ⊎_elim
            (λ p. let level_is = p.0 in rw level_is (⊎_elim
            (λ q. let fits = q.0 in let pos : 1 ≤ b = omega (arith, depth_pos e, q.1) in
            rw fits (right_outcome t o e j p.1 q.1 before s fuel d fl (omega arith) next (reader (level_of o + 1) s) ((parts pos (level_of o + 1)).outcome s)))
            (λ q. let deep = q.0 in rw deep (deep_outcome before t o e s j p.1 q.1 d h fl))
            (leb_tells (depth e) b)))
            (λ p. let other = p.0 in rw other (more_ends before e (t ∷ s) d h fl
            (λ o' j'. let same : o ≡ o' = cc in subst (λ (x : BinaryOperator). level_of x < k) same p.1)))
            (leb_tells k (level_of o))

    abbrev StartOutcome : List Placed → Reading Placed Tree → Type 0
    StartOutcome = Outcome (Derives false k) (λ e. depth e ≤ suc b) (Ends k) (λ v y. (n : ℕ) → length v ≤ n → start n k v ≡ y)

    then_more : (fuel : ℕ) (s : List Placed) → length s ≤ fuel → (x : Reading Placed Tree) → Outcome (Derives false 11) (λ e. depth e ≤ suc b) Follows (λ v y. operand reader b v ≡ y) s x
        → StartOutcome s (x >>= more reader b fuel k)
    unfolding ◌>>=◌
    then_more fuel s l (found e r) (a, q, d, h, f, g) =
        subst (λ (z : List Placed). StartOutcome z (more reader b fuel k e r)) (sym q)
        (prefixed a r (λ c x. Derives false k (a ++ c) x) (Derives false k) (λ e. depth e ≤ suc b) (Ends k) (GoesOn e) (λ v y. (n : ℕ) → length v ≤ n → start n k v ≡ y)
        (λ c x dx. dx)
        (λ v y sh p n i. ap (λ (z : Reading Placed Tree). z >>= more reader b n k) (g v sh) ∙ p n (omega (arith, i, length-append a v)))
        (more reader b fuel k e r)
        (more_outcome fuel a e r (operand_derives k a e d) h f (omega (arith, l, ap length q, length-append a r))))
    then_more fuel s l (syntax_error rest) (front, q, (m, e, d, h), g) =
        (front, q, (m, e, operand_derives k (front ++ m) e d, h), λ t u v i n j. ap (λ (z : Reading Placed Tree). z >>= more reader b n k) (g t u v i))
    then_more fuel s l (too_deep rest) (front, q, (m, e, d, h), g, t, u, j, (m', e', d')) = (
      front,
      q,
      (m, e, operand_derives k (front ++ m) e d, h),
      (λ t u v i n j. ap (λ (z : Reading Placed Tree). z >>= more reader b n k) (g t u v i)),
      t,
      u,
      j,
      (m', e', operand_derives k ((front ++ t ∷ []) ++ m') e' d'),
    )

    at_length : (s : List Placed) (x : Reading Placed Tree) → StartOutcome s x → Outcome (Derives false k) (λ e. depth e ≤ suc b) (Ends k) (λ v y. start (length v) k v ≡ y) s x
    at_length s (found e r) (a, q, d, i, f, g) = (a, q, d, i, f, λ v sh. g v sh (length (a ++ v)) (omega arith))
    at_length s (syntax_error rest) (front, q, o, g) = (front, q, o, λ t u v i. g t u v i (length (front ++ t ∷ v)) (omega arith))
    at_length s (too_deep rest) (front, q, o, g, t, u, j, any) = (front, q, o, (λ t u v i. g t u v i (length (front ++ t ∷ v)) (omega arith)), t, u, j, any)

    pub level_reads : Reads (Derives false k) (λ e. depth e ≤ suc b) (Ends k) (λ s. operand reader b s >>= more reader b (length s) k)
    level_reads = record {
      complete = λ a e r d en. read_complete k a e r d en;
      outcome = λ s. at_length s (start (length s) k s) (then_more (length s) s (omega arith) (operand reader b s) (operands.outcome s));
      some = (some_name ∷ [], some_tree, some_derived k, omega arith);
    }
