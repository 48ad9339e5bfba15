-- One step of the code each, in terms of reading.
use Rattle.std.proofs.Common.{◌≡◌, ℕ, zero, suc, ◌+◌, ◌-◌, ◌≤◌, ◌<◌, Bool, true, false, List, [], ◌∷◌, length, refl, sym, ◌∙◌, ap, subst, arith, le-leb, Option, Some, None}
use Rattle.std.proofs.lemmas.Bool.{lt-leb}
use Rattle.reader_laws.specs.Reading.{Reading, ◌>>=◌, accept, accepted, expect, enclosed, headed, both, switch, after_first, many, first_is}
use Rattle.reader_laws.specs.Reading.Reading.{found, syntax_error, too_deep}
use Rattle.reader_laws.proofs.Readers.{found-then}
use Rattle.smv_lexer.specs.declared.keyword.Keyword.{Keyword}
use Rattle.smv_lexer.specs.declared.sign.Sign.{Sign}
use Rattle.smv_lexer.specs.declared.token.Token.{Token}
use Rattle.smv_lexer.specs.Text.{Placed}
use Rattle.smv_lexer.specs.Text.Kind.{word}
use Rattle.smv_lexer.specs.View.{views}
use Rattle.smv_parser.specs.declared.expressions.BinaryOperator.{BinaryOperator}
use Rattle.smv_parser.specs.declared.expressions.PathQuantifier.{PathQuantifier}
use Rattle.smv_parser.specs.declared.expressions.PrefixOperator.{PrefixOperator}
use Rattle.smv_parser.specs.declared.tokens.Lead.{Lead}
use Rattle.smv_parser.specs.Tree.{Tree, Form, PathTree, Part, field_part, index_part, parts_of, path_on, on_line, depth, trees_of, arms_of}
use Rattle.smv_parser.specs.Words.{level_of, prefix_level}
use Rattle.smv_parser.specs.Tests.{is_sign, is_key, name_of, lead_of, operator_of}
use Rattle.smv_parser.proofs.TokenTests.{LeadIs, lead_is}
use Rattle.smv_parser.specs.Reading.{begins_part, part_tail, index_tail, part_by, read_part, read_parts, read_path, path_line, front_line, text_of, read_until, read_arm, read_arms, begins_expression, read_list, read_others, value_of, opens, constant_by, constant_form, with_room, tail, operand_by, operand, operator_step, more, read, Stops, binary}
use Rattle.smv_parser.specs.declared.reader.Failure.{Failure}
use Rattle.smv_parser.specs.declared.reader.Failure.TheVariants as failures
use Rattle.smv_parser.specs.Gives.{Fails, IsSyntaxError, IsTooDeep}

pub expect_found : (p : Placed → Bool) (s : List Placed) (t : Placed) (v : List Placed) → s ≡ t ∷ v → p t ≡ true → expect p s ≡ found t v
unfolding expect
expect_found p s t v q h = rw (q, h) refl

-- a failure passes through what would have been done next
pub Fails-then : {A B : Type 0} (e : Failure) (x : Reading Placed A) (f : A → List Placed → Reading Placed B) → Fails e x → Fails e (x >>= f)
unfolding ◌>>=◌
Fails-then (failures.Syntax n) (found t r) f h = absurd h
Fails-then (failures.Syntax n) (syntax_error r) f h = h
Fails-then (failures.Syntax n) (too_deep r) f h = absurd h
Fails-then (failures.TooDeep n) (found t r) f h = absurd h
Fails-then (failures.TooDeep n) (syntax_error r) f h = absurd h
Fails-then (failures.TooDeep n) (too_deep r) f h = h
Fails-then failures.Memory x f h = tt

pub both_bools : (x y : Bool) → (x ≡ true → y ≡ true) → (y ≡ true → x ≡ true) → x ≡ y
both_bools true y f g = sym (f refl)
both_bools false true f g = g refl
both_bools false false f g = refl

pub length-views : (ts : List Token) → length (views ts) ≡ length ts
length-views [] = refl
length-views (t ∷ ts) = omega (arith, length-views ts)

pub enclosed_fails : {A : Type 0} (p : Placed → Bool) (run : List Placed → Reading Placed A) (s : List Placed) (e : Failure) → Fails e (run s) → Fails e (enclosed p run s)
unfolding enclosed
enclosed_fails p run s e h = Fails-then e (run s) (λ x r. expect p r >>= λ _ v. found x v) h

pub enclosed_fails_after : {A : Type 0} (p : Placed → Bool) (run : List Placed → Reading Placed A) (s r : List Placed) (x : A) (e : Failure) → run s ≡ found x r → Fails e (expect p r) → Fails e (enclosed p run s)
unfolding enclosed
enclosed_fails_after p run s r x e q h =
    subst (Fails e) (sym (found-then (run s) x r (λ x r. expect p r >>= λ _ v. found x v) q)) (Fails-then e (expect p r) (λ _ v. found x v) h)

pub enclosed_found : {A : Type 0} (p : Placed → Bool) (run : List Placed → Reading Placed A) (s r v : List Placed) (x : A) (t : Placed) → run s ≡ found x r → expect p r ≡ found t v → enclosed p run s ≡ found x v
unfolding enclosed
enclosed_found p run s r v x t q h =
    found-then (run s) x r (λ x r. expect p r >>= λ _ v. found x v) q ∙ found-then (expect p r) t v (λ _ v. found x v) h

pub headed_is : {A : Type 0} (p : Placed → Bool) (run : List Placed → Reading Placed A) (s v : List Placed) (t : Placed) → expect p s ≡ found t v → headed p run s ≡ run v
unfolding headed
headed_is p run s v t h = found-then (expect p s) t v (λ _ r. run r) h

pub headed_fails : {A : Type 0} (p : Placed → Bool) (run : List Placed → Reading Placed A) (s : List Placed) (e : Failure) → Fails e (expect p s) → Fails e (headed p run s)
unfolding headed
headed_fails p run s e h = Fails-then e (expect p s) (λ _ r. run r) h

module _ (reader : ℕ → List Placed → Reading Placed Tree) (b : ℕ) (s : List Placed) (t : Placed) (v : List Placed) (first : s ≡ t ∷ v) (i : Lead) (led : lead_of t ≡ i) where
  pub operand_is : operand reader b s ≡ operand_by reader b i (t ∷ v)
  unfolding operand switch
  operand_is = rw (first, led) refl

  pub open_is : ((s : List Placed) → operand_by reader b i s ≡ after_first (tail reader b i) s) → operand reader b s ≡ tail reader b i t v
  unfolding after_first
  open_is is = operand_is ∙ is (t ∷ v)

  pub gated_is : ((s : List Placed) → operand_by reader b i s ≡ with_room b (after_first (tail reader b i)) s) → 1 ≤ b → operand reader b s ≡ tail reader b i t v
  unfolding after_first with_room
  gated_is is h = let p = le-leb 1 b h in operand_is ∙ is (t ∷ v) ∙ rw p refl

  pub gated_deep : ((s : List Placed) → operand_by reader b i s ≡ with_room b (after_first (tail reader b i)) s) → b ≡ 0 → (n : ℕ) → n ≡ length s → IsTooDeep n (operand reader b s)
  unfolding with_room
  gated_deep is z n l =
      let q : operand reader b s ≡ too_deep (t ∷ v) = operand_is ∙ is (t ∷ v) ∙ rw z refl in
      subst (λ (x : Reading Placed Tree). IsTooDeep n x) (sym q) (ap length (sym first) ∙ sym l)

pub operand_empty : (reader : ℕ → List Placed → Reading Placed Tree) (b : ℕ) (s : List Placed) → length s ≡ 0 → IsSyntaxError 0 (operand reader b s)
unfolding operand switch
operand_empty reader b [] h = refl
operand_empty reader b (t ∷ s) h = absurd (omega arith)

-- what an operand has after its first token
module _ (reader : ℕ → List Placed → Reading Placed Tree) (b : ℕ) (t : Placed) (v : List Placed) where
  pub parens_is : lead_of t ≡ Lead.Parens → tail reader b (lead_of t) t v ≡ (enclosed (is_sign Sign.CloseParen) (reader 1) v >>= λ e r. found (on_line t.line (Form.parens e)) r)
  unfolding tail
  parens_is led = ap (λ (i : Lead). tail reader b i t v) led

  pub next_is : lead_of t ≡ Lead.Next → tail reader b (lead_of t) t v ≡ (headed (is_sign Sign.OpenParen) (enclosed (is_sign Sign.CloseParen) (reader 1)) v >>= λ e r. found (on_line t.line (Form.next e)) r)
  unfolding tail
  next_is led = ap (λ (i : Lead). tail reader b i t v) led

  pub prefix_is : (o : PrefixOperator) → lead_of t ≡ Lead.Prefix o → tail reader b (lead_of t) t v ≡ (reader prefix_level v >>= λ e r. found (on_line t.line (Form.prefix o e)) r)
  unfolding tail
  prefix_is o led = ap (λ (i : Lead). tail reader b i t v) led

  pub braces_is : lead_of t ≡ Lead.Braces → tail reader b (lead_of t) t v ≡ (enclosed (is_sign Sign.CloseBrace) (read_list reader b) v >>= λ es r. found (on_line t.line (Form.braces (trees_of (es.0 ∷ es.1)))) r)
  unfolding tail
  braces_is led = ap (λ (i : Lead). tail reader b i t v) led

  pub until_is : (w : PathQuantifier) → lead_of t ≡ Lead.Until w → tail reader b (lead_of t) t v ≡ (headed (is_sign Sign.OpenBracket) (read_until reader b) v >>= λ es r. found (on_line t.line (Form.until w es.0 es.1)) r)
  unfolding tail
  until_is w led = ap (λ (i : Lead). tail reader b i t v) led

  pub case_is : lead_of t ≡ Lead.Case → tail reader b (lead_of t) t v ≡ (enclosed (is_key Keyword.Esac) (both (read_arm reader b) (read_arms reader b)) v >>= λ arms r. found (on_line t.line (Form.cases (arms_of (arms.0 ∷ arms.1)))) r)
  unfolding tail
  case_is led = ap (λ (i : Lead). tail reader b i t v) led

-- an operand by its first token
module _ (reader : ℕ → List Placed → Reading Placed Tree) (b : ℕ) (s : List Placed) (t : Placed) (v : List Placed) (first : s ≡ t ∷ v) where
  opened : 1 ≤ b → (i : Lead) → lead_of t ≡ i → opens i ≡ true → operand reader b s ≡ tail reader b i t v
  unfolding operand_by
  opened h Lead.Next led o = gated_is reader b s t v first Lead.Next led (λ s. refl) h
  opened h Lead.Parens led o = gated_is reader b s t v first Lead.Parens led (λ s. refl) h
  opened h Lead.Braces led o = gated_is reader b s t v first Lead.Braces led (λ s. refl) h
  opened h Lead.Case led o = gated_is reader b s t v first Lead.Case led (λ s. refl) h
  opened h (Lead.Until q) led o = gated_is reader b s t v first (Lead.Until q) led (λ s. refl) h
  opened h (Lead.Prefix p) led o = gated_is reader b s t v first (Lead.Prefix p) led (λ s. refl) h
  opened h _ led o = absurd cc

  pub opened_is : 1 ≤ b → opens (lead_of t) ≡ true → operand reader b s ≡ tail reader b (lead_of t) t v
  opened_is h o = opened h (lead_of t) refl o

  deep : b ≡ 0 → (n : ℕ) → n ≡ length s → (i : Lead) → lead_of t ≡ i → opens i ≡ true → IsTooDeep n (operand reader b s)
  unfolding operand_by
  deep z n l Lead.Next led o = gated_deep reader b s t v first Lead.Next led (λ s. refl) z n l
  deep z n l Lead.Parens led o = gated_deep reader b s t v first Lead.Parens led (λ s. refl) z n l
  deep z n l Lead.Braces led o = gated_deep reader b s t v first Lead.Braces led (λ s. refl) z n l
  deep z n l Lead.Case led o = gated_deep reader b s t v first Lead.Case led (λ s. refl) z n l
  deep z n l (Lead.Until q) led o = gated_deep reader b s t v first (Lead.Until q) led (λ s. refl) z n l
  deep z n l (Lead.Prefix p) led o = gated_deep reader b s t v first (Lead.Prefix p) led (λ s. refl) z n l
  deep z n l _ led o = absurd cc

  pub opened_deep : b ≡ 0 → opens (lead_of t) ≡ true → (n : ℕ) → n ≡ length s → IsTooDeep n (operand reader b s)
  opened_deep z o n l = deep z n l (lead_of t) refl o

  constant_at : (f : Form) (i : Lead) → lead_of t ≡ i → constant_by i t ≡ Some f → operand reader b s ≡ found (on_line t.line f) v
  unfolding operand_by tail
  constant_at f Lead.Number led h = open_is reader b s t v first Lead.Number led (λ s. refl) ∙ (let q : Form.number (value_of t) ≡ f = cc in ap (λ (x : Form). found (on_line t.line x) v) q)
  constant_at f (Lead.Truth w) led h = open_is reader b s t v first (Lead.Truth w) led (λ s. refl) ∙ (let q : Form.truth w ≡ f = cc in ap (λ (x : Form). found (on_line t.line x) v) q)
  constant_at f Lead.Running led h = open_is reader b s t v first Lead.Running led (λ s. refl) ∙ (let q : Form.running ≡ f = cc in ap (λ (x : Form). found (on_line t.line x) v) q)
  constant_at f _ led h = absurd cc

  pub constant_is : (f : Form) → constant_form t ≡ Some f → operand reader b s ≡ found (on_line t.line f) v
  constant_is f h = constant_at f (lead_of t) refl h

  no_operand : (n : ℕ) → n ≡ length s → (i : Lead) → lead_of t ≡ i → opens i ≡ false → (i ≡ Lead.Name → ⊥) → constant_by i t ≡ None → IsSyntaxError n (operand reader b s)
  unfolding operand_by
  no_operand n l Lead.Other led o m h = subst (λ (x : Reading Placed Tree). IsSyntaxError n x) (sym (operand_is reader b s t v first Lead.Other led)) (ap length (sym first) ∙ sym l)
  no_operand n l Lead.Name led o m h = absurd (m refl)
  no_operand n l _ led o m h = absurd cc

  pub operand_other : opens (lead_of t) ≡ false → (lead_of t ≡ Lead.Name → ⊥) → constant_form t ≡ None → (n : ℕ) → n ≡ length s → IsSyntaxError n (operand reader b s)
  operand_other o m h n l = no_operand n l (lead_of t) refl o m h

-- operators

pub read_start : (b k : ℕ) (s : List Placed) → 1 ≤ b → read b k s ≡ (operand (read (b - 1)) (b - 1) s >>= more (read (b - 1)) (b - 1) (length s) k)
unfolding read
read_start zero k s h = absurd (omega arith)
read_start (suc b) k s h = let p : suc b - 1 ≡ b = omega arith in rw p refl

some_suc : (n m : ℕ) → suc n ≤ m → (p : ℕ) × (n ≤ p) × (m ≡ suc p)
some_suc n zero h = absurd (omega arith)
some_suc n (suc p) h = (p, omega arith, refl)

module _ (reader : ℕ → List Placed → Reading Placed Tree) (b k : ℕ) (e : Tree) (s : List Placed) (o : BinaryOperator) (t : Placed) (v : List Placed) (first : s ≡ t ∷ v) (known : operator_of t ≡ Some o) (h : k ≤ level_of o) where
  more_at : (p : ℕ) → depth e ≤ b → more reader b (suc p) k e s ≡ (reader (level_of o + 1) v >>= λ f r. more reader b p k (binary o e f) r)
  unfolding more operator_step
  more_at p i =
      let level_is = le-leb k (level_of o) h in
      let fits = le-leb (depth e) b i in
      rw (first, known, level_is, fits) refl

  deep_at : (p : ℕ) → b < depth e → more reader b (suc p) k e s ≡ too_deep (t ∷ v)
  unfolding more operator_step
  deep_at p i =
      let level_is = le-leb k (level_of o) h in
      let deep = lt-leb (depth e) b i in
      rw (first, known, level_is, deep) refl

  -- the next operator has level k or a higher one
  pub more_step : (m : ℕ) → depth e ≤ b → length s ≤ m
      → (p : ℕ) × (length v ≤ p) × (more reader b m k e s ≡ (reader (level_of o + 1) v >>= λ f r. more reader b p k (binary o e f) r))
  more_step m i j =
      let q = some_suc (length v) m (omega (arith, ap length first)) in
      (q.0, q.1, ap (λ (n : ℕ). more reader b n k e s) q.2 ∙ more_at q.0 i)

  pub more_too_deep : (m : ℕ) → b < depth e → length s ≤ m → (n : ℕ) → n ≡ length s → IsTooDeep n (more reader b m k e s)
  more_too_deep m i j n l =
      let q = some_suc (length v) m (omega (arith, ap length first)) in
      subst (λ (x : Reading Placed Tree). IsTooDeep n x) (sym (ap (λ (n : ℕ). more reader b n k e s) q.2 ∙ deep_at q.0 i)) (ap length (sym first) ∙ sym l)

no_operator : (reader : ℕ → List Placed → Reading Placed Tree) (b k : ℕ) (e : Tree) (t : Placed) (s : List Placed) (next : Tree → List Placed → Reading Placed Tree) (o : Option BinaryOperator)
    → operator_of t ≡ o → Stops k (t ∷ s) → operator_step reader b k e t s next o ≡ found e (t ∷ s)
unfolding operator_step
no_operator reader b k e t s next None i st = refl
no_operator reader b k e t s next (Some o) i st = let f = lt-leb k (level_of o) (st o i) in rw f refl

pub more_stops : (reader : ℕ → List Placed → Reading Placed Tree) (b m k : ℕ) (e : Tree) (r : List Placed) → Stops k r → more reader b m k e r ≡ found e r
unfolding more
more_stops reader b zero k e r st = refl
more_stops reader b (suc m) k e [] st = refl
more_stops reader b (suc m) k e (t ∷ s) st = no_operator reader b k e t s (more reader b m k) (operator_of t) refl st

module _ {A B : Type 0} (one : List Placed → Reading Placed A) (two : List Placed → Reading Placed B) (s : List Placed) where
  pub both_fails : (e : Failure) → Fails e (one s) → Fails e (both one two s)
  unfolding both
  both_fails e h = Fails-then e (one s) (λ x r. two r >>= λ y v. found (x, y) v) h

  pub both_fails_after : (x : A) (r : List Placed) (e : Failure) → one s ≡ found x r → Fails e (two r) → Fails e (both one two s)
  unfolding both
  both_fails_after x r e q h =
      subst (Fails e) (sym (found-then (one s) x r (λ x r. two r >>= λ y v. found (x, y) v) q)) (Fails-then e (two r) (λ y v. found (x, y) v) h)

  pub both_found : (x : A) (r : List Placed) (y : B) (v : List Placed) → one s ≡ found x r → two r ≡ found y v → both one two s ≡ found (x, y) v
  unfolding both
  both_found x r y v q h =
      found-then (one s) x r (λ x r. two r >>= λ y v. found (x, y) v) q ∙ found-then (two r) y v (λ y v. found (x, y) v) h

pub until_found : (reader : ℕ → List Placed → Reading Placed Tree) (b : ℕ) (s : List Placed) → read_until reader b s ≡ both (enclosed (is_key Keyword.Until) (reader 1)) (enclosed (is_sign Sign.CloseBracket) (reader 1)) s
unfolding read_until
until_found reader b s = refl

-- items as long as the first token passes p, and k of them
module _ {A B : Type 0} (p : Placed → Bool) (item : List Placed → Reading Placed A) where
  unfoldable pub rest_of : ℕ → List Placed → (List A → B) → Reading Placed B
  rest_of m s k = many p item m s >>= λ xs v. found (k xs) v

  pub rest_stops : (m : ℕ) (s : List Placed) (k : List A → B) → first_is p s ≡ false → rest_of m s k ≡ found (k []) s
  unfolding rest_of many ◌>>=◌
  rest_stops zero s k h = refl
  rest_stops (suc m) s k h = rw h refl

  rest_step : (m : ℕ) (s r : List Placed) (x : A) (k : List A → B) → first_is p s ≡ true → item s ≡ found x r → rest_of (suc m) s k ≡ rest_of m r (λ xs. k (x ∷ xs))
  unfolding rest_of many ◌>>=◌
  rest_step m s r x k h i = rw (h, i) (joined (many p item m r))
    where
      joined : (y : Reading Placed (List A)) → ((y >>= λ xs v. found (x ∷ xs) v) >>= λ xs v. found (k xs) v) ≡ (y >>= λ xs v. found (k (x ∷ xs)) v)
      joined (found xs v) = refl
      joined (syntax_error v) = refl
      joined (too_deep v) = refl

  pub rest_more : (m : ℕ) (s r : List Placed) (x : A) (k : List A → B) → first_is p s ≡ true → item s ≡ found x r → length s ≤ m → length r < length s
      → (n : ℕ) × (length r ≤ n) × (rest_of m s k ≡ rest_of n r (λ xs. k (x ∷ xs)))
  rest_more m s r x k h i l short =
      let q = some_suc (length r) m (omega arith) in
      (q.0, q.1, ap (λ (n : ℕ). rest_of n s k) q.2 ∙ rest_step q.0 s r x k h i)

  rest_failing : (m : ℕ) (s : List Placed) (k : List A → B) (e : Failure) → first_is p s ≡ true → Fails e (item s) → Fails e (rest_of (suc m) s k)
  unfolding rest_of many
  rest_failing m s k e h f = rw h (Fails-then e (item s >>= λ x r. many p item m r >>= λ xs v. found (x ∷ xs) v) (λ xs v. found (k xs) v)
      (Fails-then e (item s) (λ x r. many p item m r >>= λ xs v. found (x ∷ xs) v) f))

  pub rest_fails : (m : ℕ) (s : List Placed) (k : List A → B) (e : Failure) → first_is p s ≡ true → Fails e (item s) → length s ≤ m → 1 ≤ length s → Fails e (rest_of m s k)
  rest_fails m s k e h f l some =
      let q = some_suc 0 m (omega arith) in
      subst (λ (n : ℕ). Fails e (rest_of n s k)) (sym q.2) (rest_failing q.0 s k e h f)

pub list_start : (reader : ℕ → List Placed → Reading Placed Tree) (b : ℕ) (s r : List Placed) (x : Tree) → reader 1 s ≡ found x r
    → read_list reader b s ≡ rest_of (is_sign Sign.Comma) (headed (is_sign Sign.Comma) (reader 1)) (length r) r (λ xs. (x, xs))
unfolding read_list read_others both rest_of
list_start reader b s r x h = found-then (reader 1 s) x r (λ x r. many (is_sign Sign.Comma) (headed (is_sign Sign.Comma) (reader 1)) (length r) r >>= λ y v. found (x, y) v) h

pub list_fails : (reader : ℕ → List Placed → Reading Placed Tree) (b : ℕ) (s : List Placed) (e : Failure) → Fails e (reader 1 s) → Fails e (read_list reader b s)
unfolding read_list read_others both
list_fails reader b s e h = Fails-then e (reader 1 s) (λ x r. many (is_sign Sign.Comma) (headed (is_sign Sign.Comma) (reader 1)) (length r) r >>= λ y v. found (x, y) v) h

pub first_some : (p : Placed → Bool) (s : List Placed) → first_is p s ≡ true → 1 ≤ length s
first_some p [] h = absurd cc
first_some p (t ∷ s) h = omega arith

pub arm_found : (reader : ℕ → List Placed → Reading Placed Tree) (b : ℕ) (s : List Placed) → read_arm reader b s ≡ both (enclosed (is_sign Sign.Colon) (reader 1)) (enclosed (is_sign Sign.Semicolon) (reader 1)) s
unfolding read_arm
arm_found reader b s = refl

pub arms_start : (reader : ℕ → List Placed → Reading Placed Tree) (b : ℕ) (s r : List Placed) (x : Tree × Tree) → read_arm reader b s ≡ found x r
    → both (read_arm reader b) (read_arms reader b) s ≡ rest_of begins_expression (read_arm reader b) (length r) r (λ xs. (x, xs))
unfolding read_arms both rest_of
arms_start reader b s r x h = found-then (read_arm reader b s) x r (λ x r. many begins_expression (read_arm reader b) (length r) r >>= λ y v. found (x, y) v) h

-- paths

module _ (reader : ℕ → List Placed → Reading Placed Tree) (b : ℕ) (s : List Placed) where
  pub part_empty : length s ≡ 0 → IsSyntaxError 0 (read_part reader b s)
  unfolding read_part switch
  part_empty h = at_end s h
    where
      at_end : (v : List Placed) → length v ≡ 0 → IsSyntaxError 0 (read_part reader b v)
      at_end [] h = refl
      at_end (t ∷ v) h = absurd (omega arith)

  module _ (t : Placed) (v : List Placed) (first : s ≡ t ∷ v) where
    pub field_is : is_sign Sign.Dot t ≡ true → read_part reader b s ≡ (accept name_of v >>= λ n r. found (field_part n) r)
    unfolding read_part switch part_by after_first part_tail
    field_is dot = rw (first, dot) refl

    pub index_is : is_sign Sign.Dot t ≡ false → is_sign Sign.OpenBracket t ≡ true → 1 ≤ b → read_part reader b s ≡ (enclosed (is_sign Sign.CloseBracket) (reader 1) v >>= λ e r. found (index_part e) r)
    unfolding read_part switch part_by with_room after_first index_tail
    index_is dot bracket h = let p = le-leb 1 b h in rw (first, dot, bracket, p) refl

    index_too_deep : is_sign Sign.Dot t ≡ false → is_sign Sign.OpenBracket t ≡ true → b ≡ 0 → read_part reader b s ≡ too_deep (t ∷ v)
    unfolding read_part switch part_by with_room
    index_too_deep dot bracket z = rw (first, dot, bracket, z) refl

    pub index_deep : is_sign Sign.Dot t ≡ false → is_sign Sign.OpenBracket t ≡ true → b ≡ 0 → (n : ℕ) → n ≡ length s → IsTooDeep n (read_part reader b s)
    index_deep dot bracket z n l = subst (λ (x : Reading Placed Part). IsTooDeep n x) (sym (index_too_deep dot bracket z)) (ap length (sym first) ∙ sym l)

    no_part_here : is_sign Sign.Dot t ≡ false → is_sign Sign.OpenBracket t ≡ false → read_part reader b s ≡ syntax_error (t ∷ v)
    unfolding read_part switch part_by
    no_part_here dot bracket = rw (first, dot, bracket) refl

    pub part_other : is_sign Sign.Dot t ≡ false → is_sign Sign.OpenBracket t ≡ false → (n : ℕ) → n ≡ length s → IsSyntaxError n (read_part reader b s)
    part_other dot bracket n l = subst (λ (x : Reading Placed Part). IsSyntaxError n x) (sym (no_part_here dot bracket)) (ap length (sym first) ∙ sym l)

  pub parts_start : read_parts reader b s ≡ rest_of begins_part (read_part reader b) (length s) s (λ xs. xs)
  unfolding read_parts rest_of ◌>>=◌
  parts_start = same (many begins_part (read_part reader b) (length s) s)
    where
      same : (y : Reading Placed (List Part)) → y ≡ (y >>= λ xs v. found xs v)
      same (found xs v) = refl
      same (syntax_error v) = refl
      same (too_deep v) = refl

  pub path_fails : (e : Failure) → Fails e (accept name_of s) → Fails e (read_path reader b s)
  unfolding read_path
  path_fails e h = Fails-then e (both (accept name_of) (read_parts reader b) s) (λ z r. found (path_on (front_line s) z.0 (parts_of z.1)) r) (both_fails (accept name_of) (read_parts reader b) s e h)

  pub path_fails_after : (n : List ℕ) (r : List Placed) (e : Failure) → accept name_of s ≡ found n r → Fails e (read_parts reader b r) → Fails e (read_path reader b s)
  unfolding read_path
  path_fails_after n r e q h =
      Fails-then e (both (accept name_of) (read_parts reader b) s) (λ z r. found (path_on (front_line s) z.0 (parts_of z.1)) r) (both_fails_after (accept name_of) (read_parts reader b) s n r e q h)

  pub path_found : (n : List ℕ) (r : List Placed) (ps : List Part) (v : List Placed) → accept name_of s ≡ found n r → read_parts reader b r ≡ found ps v
      → read_path reader b s ≡ found (path_on (front_line s) n (parts_of ps)) v
  unfolding read_path
  path_found n r ps v q h =
      found-then (both (accept name_of) (read_parts reader b) s) (n, ps) v (λ z r. found (path_on (front_line s) z.0 (parts_of z.1)) r) (both_found (accept name_of) (read_parts reader b) s n r ps v q h)

-- an operand that begins with a name is a path
module _ (reader : ℕ → List Placed → Reading Placed Tree) (b : ℕ) (s : List Placed) (t : Placed) (v : List Placed) (first : s ≡ t ∷ v) where
  as_expression : Reading Placed PathTree → Reading Placed Tree
  as_expression y = y >>= λ p r. found (on_line (path_line p) (Form.path p)) r

  joined : (n : List ℕ) (y : Reading Placed (List Part))
      → as_expression ((y >>= λ ps w. (let z : List ℕ × List Part = (n, ps) in found z w)) >>= λ z r. found (path_on t.line z.0 (parts_of z.1)) r) ≡ (y >>= λ ps r. found (on_line t.line (Form.path (path_on t.line n (parts_of ps)))) r)
  unfolding ◌>>=◌ as_expression
  joined n (found xs w) = refl
  joined n (syntax_error w) = refl
  joined n (too_deep w) = refl

  accepts : (n : List ℕ) → t.kind ≡ word n → accept name_of (t ∷ v) ≡ found n v
  unfolding accept accepted
  accepts n k = rw k refl

  named : (n : List ℕ) → t.kind ≡ word n → as_expression (read_path reader b s) ≡ (read_parts reader b v >>= λ ps r. found (on_line t.line (Form.path (path_on t.line n (parts_of ps)))) r)
  unfolding read_path both
  named n k =
      ap (λ (l : List Placed). as_expression (read_path reader b l)) first
      ∙ ap (λ (y : Reading Placed (List ℕ × List Part)). as_expression (y >>= λ z r. found (path_on t.line z.0 (parts_of z.1)) r))
      (found-then (accept name_of (t ∷ v)) n v (λ m r. read_parts reader b r >>= λ ps w. let z : List ℕ × List Part = (m, ps) in found z w) (accepts n k))
      ∙ joined n (read_parts reader b v)

  said : (n : List ℕ) → t.kind ≡ word n → text_of t ≡ n
  said n k = rw k refl

  pub name_is : lead_of t ≡ Lead.Name → operand reader b s ≡ (read_path reader b s >>= λ p r. found (on_line (path_line p) (Form.path p)) r)
  unfolding operand_by tail as_expression
  name_is led =
      let w : LeadIs t.kind Lead.Name = subst (LeadIs t.kind) led (lead_is t.kind) in
      open_is reader b s t v first Lead.Name led (λ s. refl)
      ∙ ap (λ (n : List ℕ). read_parts reader b v >>= λ ps r. found (on_line t.line (Form.path (path_on t.line n (parts_of ps)))) r) (said w.0 w.1) ∙ sym (named w.0 w.1)
