-- Lemmas on the answers of keys.
use Rattle.std.proofs.Common.{◌≡◌, ℕ, ◌+◌, ◌-◌, ◌≤◌, min, Bool, true, false, not, ◌&&◌, ◌||◌, cond, List, [], ◌∷◌, ◌++◌, length, unwrap_or, refl, sym, ap, ◌∙◌, arith, length-append}
use Rattle.bdd_nodes.specs.declared.triple.Triple.{Triple}
use Rattle.bdd_nodes.specs.declared.store.Store.{Store}
use Rattle.bdd_nodes.specs.Table.{value_of, Has, IsGrowth}
use Rattle.bdd_nodes.specs.Store.{levels_of, triples, Grows}
use Rattle.bdd_nodes.proofs.Tables.{level_of-grows, slice_get-append}
use Rattle.bdd_ops.specs.declared.key.Key.{Key}
use Rattle.bdd_ops.specs.declared.key.Key.TheVariants.{Not, And, Or, Iff, Ite, Exists, AndExists, Rename}
use Rattle.bdd_ops.specs.declared.operation.Operation.{Operation}
use Rattle.bdd_ops.specs.declared.operation.Operation.TheVariants as operation
use Rattle.bdd_ops.specs.Operation.{operation_of, key_of}
use Rattle.bdd_ops.specs.Result.{IsResult}
use Rattle.bdd_ops.specs.Answer.{some_choice, with_bit, exchanged, list_at, meaning_of, key_highest, key_top, lists_named, IsAnswer}

-- the key of a pointwise operation means that operation, and names no list
meaning-key : (lists : List (List ℕ)) (table : List Triple) (k : Operation) (bits : List Bool) → meaning_of lists table (key_of k) bits ≡ operation_of table k bits
meaning-key lists table (operation.Not f) bits = refl
meaning-key lists table (operation.And f g) bits = refl
meaning-key lists table (operation.Or f g) bits = refl
meaning-key lists table (operation.Iff f g) bits = refl
meaning-key lists table (operation.Ite f g h) bits = refl

named-key : (k : Operation) → lists_named (key_of k) ≡ 0
named-key (operation.Not f) = refl
named-key (operation.And f g) = refl
named-key (operation.Or f g) = refl
named-key (operation.Iff f g) = refl
named-key (operation.Ite f g h) = refl

-- an answer of its key is the operation's result, and the other way round
pub answer-result : (s : Store) (lists : List (List ℕ)) (k : Operation) (r : ℕ) → IsAnswer s lists (key_of k) r → IsResult s k r
answer-result s lists k r a = record { operands = a.operands; has = a.has; value = λ bits. a.value bits ∙ meaning-key lists (triples s) k bits; deep = a.deep }

pub result-answer : (s : Store) (lists : List (List ℕ)) (k : Operation) (r : ℕ) → IsResult s k r → IsAnswer s lists (key_of k) r
result-answer s lists k r a = record {
  operands = a.operands;
  listed = omega (arith, named-key k);
  has = a.has;
  value = λ bits. a.value bits ∙ sym (meaning-key lists (triples s) k bits);
  deep = a.deep;
}

-- growth keeps the level of a key
pub key_top-grows : (levels : ℕ) (old new : List Triple) → IsGrowth old new → (k : Key) → Has old (key_highest k) → key_top levels new k ≡ key_top levels old k
key_top-grows levels old new g (Not f) h = level_of-grows levels old new g f h
key_top-grows levels old new g (And a b) h = (λ j. min (level_of-grows levels old new g a (omega arith) j) (level_of-grows levels old new g b (omega arith) j))
key_top-grows levels old new g (Or a b) h = (λ j. min (level_of-grows levels old new g a (omega arith) j) (level_of-grows levels old new g b (omega arith) j))
key_top-grows levels old new g (Iff a b) h = (λ j. min (level_of-grows levels old new g a (omega arith) j) (level_of-grows levels old new g b (omega arith) j))
key_top-grows levels old new g (Ite a b c) h = (λ j. min (level_of-grows levels old new g a (omega arith) j) (min (level_of-grows levels old new g b (omega arith) j) (level_of-grows levels old new g c (omega arith) j)))
key_top-grows levels old new g (Exists f p) h = level_of-grows levels old new g f h
key_top-grows levels old new g (AndExists a b p) h = (λ j. min (level_of-grows levels old new g a (omega arith) j) (level_of-grows levels old new g b (omega arith) j))
key_top-grows levels old new g (Rename f true) h = ap (λ l. min (l + 1) levels) (level_of-grows levels old new g f h)
key_top-grows levels old new g (Rename f false) h = ap (λ l. l - 1) (level_of-grows levels old new g f h)

pub some_choice-same : (v w : List Bool → Bool) → ((bits : List Bool) → v bits ≡ w bits) → (levels : List ℕ) (bits : List Bool) → some_choice v levels bits ≡ some_choice w levels bits
some_choice-same v w e [] bits = e bits
some_choice-same v w e (l ∷ levels) bits = λ j. some_choice-same v w e levels (with_bit bits l false) j || some_choice-same v w e levels (with_bit bits l true) j

-- growth keeps a key's meaning
pub meaning-grows : (old new : Store) → Grows old new → (lists : List (List ℕ)) (k : Key) → Has (triples old) (key_highest k) → (bits : List Bool) → meaning_of lists (triples new) k bits ≡ meaning_of lists (triples old) k bits
meaning-grows old new g lists (Not f) h bits = ap not (g.value f h bits)
meaning-grows old new g lists (And a b) h bits = (λ j. g.value a (omega arith) bits j && g.value b (omega arith) bits j)
meaning-grows old new g lists (Or a b) h bits = (λ j. g.value a (omega arith) bits j || g.value b (omega arith) bits j)
meaning-grows old new g lists (Iff a b) h bits = (λ j. cond (g.value a (omega arith) bits j) (g.value b (omega arith) bits j) (not (g.value b (omega arith) bits j)))
meaning-grows old new g lists (Ite a b c) h bits = (λ j. cond (g.value a (omega arith) bits j) (g.value b (omega arith) bits j) (g.value c (omega arith) bits j))
meaning-grows old new g lists (Exists f p) h bits = some_choice-same (value_of (triples new) f) (value_of (triples old) f) (g.value f h) (list_at lists p) bits
meaning-grows old new g lists (AndExists a b p) h bits =
    some_choice-same (λ bs. value_of (triples new) a bs && value_of (triples new) b bs) (λ bs. value_of (triples old) a bs && value_of (triples old) b bs)
    (λ bs. λ j. g.value a (omega arith) bs j && g.value b (omega arith) bs j) (list_at lists p) bits
meaning-grows old new g lists (Rename f to_next) h bits = g.value f h (exchanged bits)

pub IsAnswer-grows : (old new : Store) → Grows old new → (lists : List (List ℕ)) (k : Key) (r : ℕ) → IsAnswer old lists k r → IsAnswer new lists k r
IsAnswer-grows old new g lists k r a = record {
  operands = g.has (key_highest k) a.operands;
  listed = a.listed;
  has = g.has r a.has;
  value = λ bits. g.value r a.has bits ∙ a.value bits ∙ sym (meaning-grows old new g lists k a.operands bits);
  deep = omega (arith, a.deep, g.level r a.has, ap (λ l. key_top l (triples new) k) g.levels, key_top-grows (levels_of old) (triples old) (triples new) g.triples k a.operands);
}

-- further lists keep a key's meaning
meaning-more : (lists more : List (List ℕ)) (table : List Triple) (k : Key) → lists_named k ≤ length lists → (bits : List Bool) → meaning_of (lists ++ more) table k bits ≡ meaning_of lists table k bits
meaning-more lists more table (Not f) h bits = refl
meaning-more lists more table (And a b) h bits = refl
meaning-more lists more table (Or a b) h bits = refl
meaning-more lists more table (Iff a b) h bits = refl
meaning-more lists more table (Ite a b c) h bits = refl
meaning-more lists more table (Exists f p) h bits = ap (λ l. some_choice (value_of table f) (unwrap_or l []) bits) (slice_get-append lists more p (omega arith))
meaning-more lists more table (AndExists a b p) h bits =
    ap (λ l. some_choice (λ bs. value_of table a bs && value_of table b bs) (unwrap_or l []) bits) (slice_get-append lists more p (omega arith))
meaning-more lists more table (Rename f to_next) h bits = refl

pub IsAnswer-more_lists : (s : Store) (lists more : List (List ℕ)) (k : Key) (r : ℕ) → IsAnswer s lists k r → IsAnswer s (lists ++ more) k r
IsAnswer-more_lists s lists more k r a = record {
  operands = a.operands;
  listed = omega (arith, a.listed, length-append lists more);
  has = a.has;
  value = λ bits. a.value bits ∙ sym (meaning-more lists more (triples s) k a.listed bits);
  deep = a.deep;
}
