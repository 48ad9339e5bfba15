-- Whether paths denote something, and whether their indexes have values.
use Rattle.std.proofs.Common.{◌≡◌, refl, sym, ◌∙◌, ap, subst, ℕ, zero, suc, ◌+◌, ◌-◌, ◌<◌, ◌≤◌, arith, List, [], ◌∷◌, length, take, drop, reverse, get_or, ◌++◌, Bool, true, false, not, cond, ◌||◌, Option, Some, None, ◌⊎◌, inl, inr, ℤ, pos}
use Rattle.std.specs.Prelude.{IfSome, IfNone, Result, Ok, Err, MatchOption, MatchResult, OnOk, IfErr, All, slice_get}
use Rattle.std.proofs.lemmas.Option.{same_Some, slice_get-get_or, slice_get_within, get_or_from_slice_get}
use Rattle.std.proofs.lemmas.List.{length-reverse, take_more}
use Rattle.std.proofs.Common.{length-drop, Vec, Global}
use Rattle.kripke_model.specs.declared.expressions.Value.{Value}
use Rattle.kripke_model.specs.declared.expressions.Value.TheVariants.{Number}
use Rattle.kripke_model.specs.Evaluation.{Checked, eval}
use Rattle.kripke_model.specs.Refusing.{Silent, first_of}
use Rattle.kripke_model.proofs.FirstLemmas.{first_in_list}
use Rattle.smv_parser.specs.declared.expressions.PathPart.{PathPart, Field, Index'}
use Rattle.kripke_model.specs.declared.refusals.FlatRefusal.{FlatRefusal}
use Rattle.smv_instances.specs.Program.{Expr, Path, Program}
use Rattle.smv_instances.specs.Instances.{Scope}
use Rattle.smv_instances.specs.Answers.{Refused}
use Rattle.std.specs.List.{AllZip}
use Rattle.smv_instances.specs.Declarations.{one_if}
use Rattle.smv_instances.proofs.ListSteps.{take_whole}
use Rattle.smv_names.specs.declared.targets.Bracket.{Bracket as HeldBracket}
use Rattle.smv_names.specs.declared.targets.Target.TheVariants as held
use Rattle.smv_names.specs.Denotes.{Bracket, Target, Denotes}
use Rattle.smv_names.specs.Expands.{IsIndex, AreIndexes, no_system}
use Rattle.smv_names.specs.Abbreviations.{Mention, line_of, is_value, path_rows, unknown_path, bad_index}
use Rattle.smv_names.specs.Written.{extended, followed, is_index}
use Rattle.smv_names.specs.Targets.{AreBrackets, IsBracket, IsTarget}
use Rattle.smv_names.specs.Values.{HasNumber}
use Rattle.smv_names.specs.Sound.{AreSound, HasIndexes}
use Rattle.smv_names.specs.Known.{AllIndexes, AreIndexedBy, IndexedBy, IsIndexValue, IsKnown, KnownBy, SomeBad, brackets_of, index_count}
use Rattle.smv_names.proofs.Once.{denotes_one, expands_one}
use Rattle.smv_names.proofs.IndexLemmas.{good_indexes, bad_indexes}
use Rattle.smv_names.proofs.PairLemmas.{bad_reverse, drop_reverse, pairs_append, pairs_drop, pairs_lengths, values_indexes}
use Rattle.smv_names.proofs.RuleLemmas.{known_silent, indexed_silent}
use Rattle.smv_names.proofs.WrittenLemmas.{followed_next}

not_true : false ≡ true → ⊥
not_true e = subst (λ b. cond b ⊥ (Unit {0})) e tt

-- ---- the first members of a list

pub same_or_below : (j k : ℕ) → j < k + 1 → (j < k) ⊎ (j ≡ k)
same_or_below j k less = grind arith

-- the first k members have the property
abbrev pub FirstHave : {A : Type 0} → (A → Type 0) → List A → ℕ → Type 0
FirstHave {A} P xs k = (j : ℕ) (d : A) → j < k → P (get_or xs j d)

module _ {A : Type 0} where
  pub any_default : (xs : List A) (k : ℕ) (d e : A) → k < length xs → get_or xs k d ≡ get_or xs k e
  any_default xs k d e below = same_Some _ _ (sym (slice_get-get_or xs k d below) ∙ slice_get-get_or xs k e below)

  pub none_yet : (P : A → Type 0) (xs : List A) → FirstHave P xs 0
  none_yet P xs j d below = absurd (omega arith)

  pub one_more : (P : A → Type 0) (xs : List A) (k : ℕ) (x : A) → k < length xs → x ≡ get_or xs k x → FirstHave P xs k → P x → FirstHave P xs (k + 1)
  one_more P xs k x below at have holds j d less = elim (same_or_below j k less) [ inl l ↦ have j d l | inr e ↦ subst P (sym (ap (λ z. get_or xs z d) e ∙ any_default xs k d x below ∙ sym at)) holds ]

  pub all_have : (P : A → Type 0) (xs : List A) (k : ℕ) → length xs ≤ k → FirstHave P xs k → All P xs
  all_have P xs k full have j d below = have j d (omega arith)

-- ---- what a path denotes

pub known_by : (p : Program) (s : Scope) (m : Mention) (t : Target) (b : Bool) → Denotes p s m.path t → b ≡ (not m.wanted || is_value t) → KnownBy p s m b
known_by p s m t true d is = (t, d, sym is)
known_by p s m t false d is = λ u du suits. not_true (is ∙ ap (λ z. not m.wanted || is_value z) (denotes_one d du) ∙ suits)

line_followed : (q : Path) (parts : List PathPart) → line_of (followed q parts) ≡ line_of q
line_followed q [] = refl
line_followed q (Field name ∷ parts) = line_followed (Path.Field q name) parts
line_followed q (Index' kind line ∷ parts) = line_followed (extended q (Index' kind line)) parts

pub line_written : (line : ℕ) (first : _) (parts : List PathPart) → line_of (followed (Path.Here line first) parts) ≡ line
line_written line first parts = line_followed (Path.Here line first) parts

pub first_unknown : (p : Program) (s : Scope) (ms : List Mention) (k : ℕ) (m : Mention) (line : ℕ) → k < length ms → m ≡ get_or ms k m → FirstHave (IsKnown p s) ms k → line ≡ line_of m.path → KnownBy p s m false
    → Refused (first_of ms (unknown_path p s)) (FlatRefusal.UnknownName line)
first_unknown p s ms k m line below at have same none =
    inr (first_in_list (unknown_path p s) ms k m (FlatRefusal.UnknownName line) below (λ j e less. known_silent p s (get_or ms j e) (have j e less))
    (subst (λ z. unknown_path p s z (FlatRefusal.UnknownName line)) at (ap FlatRefusal.UnknownName same, none)))

-- ---- indexes

abbrev number_or : ℤ → Checked (List Value) → ℤ
number_or d (Ok (Number n ∷ [])) = n
number_or d other = d

pub number_in_bounds : (p : Program) (h : HeldBracket) (b : Bracket) (n : ℤ) (o : Option ℕ) → IsBracket p h b → HasNumber p b.scope b.index n
    → IfSome o (λ k. (n ≡ pos k) × (h.low ≤ k) × (k ≤ h.high)) → IfNone o ((k : ℕ) → n ≡ pos k → h.low ≤ k → k ≤ h.high → ⊥) → IsIndexValue p b o
number_in_bounds p h b n (Some k) is has some none =
    IsIndex.value has.expands has.arithmetic (has.value ∙ ap (λ z. Ok (Number z ∷ [])) some.0) (omega (arith, is.low_is, some.1)) (omega (arith, is.high_is, some.2))
number_in_bounds p h b n None is has some none = λ k i. never k i
  where
    never : (k : ℕ) → IsIndex p b k → ⊥
    never k (IsIndex.value {t = t} ex ar value low high) =
        let same : Ok (Number n ∷ []) ≡ Ok (Number (pos k) ∷ []) = sym has.value ∙ ap (λ z. eval no_system z [] []) (expands_one has.expands ex) ∙ value in
        none k (ap (number_or n) same) (omega (arith, is.low_is, low)) (omega (arith, is.high_is, high))

pub no_number_no_index : (p : Program) (b : Bracket) → ((n : ℤ) → HasNumber p b.scope b.index n → ⊥) → IsIndexValue p b None
no_number_no_index p b never k (IsIndex.value {t = t} ex ar value low high) = never (pos k) (record { term = t; expands = ex; arithmetic = ar; value = value })

pub bracket_number : (p : Program) (b : Bracket) {e : Expr} (n : ℤ) → e ≡ b.index → HasNumber p b.scope e n → HasNumber p b.scope b.index n
bracket_number p b n same has = subst (λ z. HasNumber p b.scope z n) same has

pub no_bracket_number : (p : Program) (b : Bracket) {e : Expr} → e ≡ b.index → ((n : ℤ) → HasNumber p b.scope e n → ⊥) → (n : ℤ) → HasNumber p b.scope b.index n → ⊥
no_bracket_number p b same never n has = never n (subst (λ z. HasNumber p b.scope z n) (sym same) has)

pub some_bad : (p : Program) (bs : List Bracket) (k : ℕ) (b : Bracket) → slice_get bs k ≡ Some b → ((n : ℕ) → IsIndex p b n → ⊥) → SomeBad p bs
some_bad p [] k b at never = absurd (let none : None ≡ Some b = at in cc)
some_bad p (c ∷ bs) zero b at never = inl (λ n i. never n (subst (λ z. IsIndex p z n) (same_Some _ _ at) i))
some_bad p (c ∷ bs) (suc k) b at never = inr (some_bad p bs k b at never)

-- the bracket at a place, the first index first
pub bracket_at : (p : Program) (held : List HeldBracket) (bs : List Bracket) (k : ℕ) (h : HeldBracket) → AreBrackets p held bs → k < length held → h ≡ get_or held k h → (b : Bracket) × (slice_get (reverse bs) k ≡ Some b) × IsBracket p h b
bracket_at p held bs k h are below at = go held (reverse bs) k are below at
  where
    go : (xs : List HeldBracket) (ys : List Bracket) (k : ℕ) → AllZip (IsBracket p) xs ys → k < length xs → h ≡ get_or xs k h → (b : Bracket) × (slice_get ys k ≡ Some b) × IsBracket p h b
    go [] ys k pairs less is = absurd (omega arith)
    go (x ∷ xs) [] k pairs less is = absurd pairs
    go (x ∷ xs) (y ∷ ys) zero pairs less is = (y, refl, subst (λ z. IsBracket p z y) (sym is) pairs.0)
    go (x ∷ xs) (y ∷ ys) (suc k) pairs less is = go xs ys k pairs.1 (omega arith) is

pub value_more : (p : Program) (bs : List Bracket) (k : ℕ) (b : Bracket) (ns : List ℕ) (n : ℕ) → slice_get bs k ≡ Some b → IsIndex p b n → AllZip (IsIndex p) (take k bs) ns → AllZip (IsIndex p) (take (k + 1) bs) (ns ++ (n ∷ []))
value_more p bs k b ns n at holds pairs = subst (λ z. AllZip (IsIndex p) z (ns ++ (n ∷ []))) (sym (take_at bs k b at)) (pairs_append (IsIndex p) (take k bs) (b ∷ []) ns (n ∷ []) pairs (holds, tt))
  where
    take_at : (xs : List Bracket) (k : ℕ) (x : Bracket) → slice_get xs k ≡ Some x → take (k + 1) xs ≡ take k xs ++ (x ∷ [])
    take_at xs k x is = take_more xs k x (slice_get_within xs k x is) ∙ ap (λ z. take k xs ++ (z ∷ [])) (get_or_from_slice_get xs k x x is)

pub values_all_there : (p : Program) (held : List HeldBracket) (bs : List Bracket) (k : ℕ) (ns : List ℕ) → AreBrackets p held bs → length held ≤ k → AllZip (IsIndex p) (take k (reverse bs)) ns → AreIndexes p bs (reverse ns)
values_all_there p held bs k ns are full pairs =
    values_indexes p bs ns (subst (λ z. AllZip (IsIndex p) z ns) (take_whole (reverse bs) k (omega (arith, pairs_lengths (IsBracket p) held (reverse bs) are))) pairs)

pub bad_there : (p : Program) (bs : List Bracket) (k : ℕ) (b : Bracket) → slice_get (reverse bs) k ≡ Some b → IsIndexValue p b None → SomeBad p bs
bad_there p bs k b at never = bad_reverse p bs (some_bad p (reverse bs) k b at never)

-- the last indexes
pub last_brackets : (p : Program) (held : List HeldBracket) (bs : List Bracket) (count : ℕ) → AreBrackets p held bs
    → AreBrackets p (take (length held - (length held - count)) (drop (length held - count) held)) (take count bs)
last_brackets p held bs count are =
    let sizes : length held ≡ length bs = pairs_lengths (IsBracket p) held (reverse bs) are ∙ length-reverse bs in
    let n = length held - count in
    subst (λ z. AllZip (IsBracket p) z (reverse (take count bs))) (sym (take_whole (drop n held) (length held - n) (omega (arith, length-drop n held))))
    (subst (λ z. AllZip (IsBracket p) (drop n held) z) (ap (λ k. drop (k - count) (reverse bs)) sizes ∙ drop_reverse bs count) (pairs_drop (IsBracket p) n held (reverse bs) are))

pub indexes_all : (p : Program) (bs : List Bracket) (ns : List ℕ) → AreIndexes p bs ns → AllIndexes p bs
indexes_all p [] ns h = tt
indexes_all p (b ∷ bs) ns (AreIndexes.index {n = n} {ns = ms} i is) = ((n, i), indexes_all p bs ms is)

-- what comes of asking for the values
abbrev pub AreValues : Program → List Bracket → Option (Vec ℕ Global) → Type 0
AreValues p bs found = MatchOption found (SomeBad p bs) (λ v. AreIndexes p bs (reverse v.items))

pub values_there : (p : Program) (bs : List Bracket) (found : Option (Vec ℕ Global)) (v : Vec ℕ Global) → AreValues p bs found → found ≡ Some v → AreIndexedBy p bs true
values_there p bs found v are is = indexes_all p bs (reverse v.items) (subst (AreValues p bs) is are)

pub values_missing : (p : Program) (bs : List Bracket) (found : Option (Vec ℕ Global)) → AreValues p bs found → found ≡ None → AreIndexedBy p bs false
values_missing p bs found are is = subst (AreValues p bs) is are

-- ---- the indexes that are written in a path

extended_count : (q : Path) (part : PathPart) → index_count (extended q part) ≡ index_count q + one_if (is_index part)
extended_count q (Field name) = omega arith
extended_count q (Index' kind line) = omega arith

pub index_more : (q : Path) (parts : List PathPart) (k : ℕ) (part : PathPart) → k < length parts → part ≡ get_or parts k part → index_count (followed q (take (k + 1) parts)) ≡ index_count (followed q (take k parts)) + one_if (is_index part)
index_more q parts k part below at = ap index_count (followed_next q parts k part below at) ∙ extended_count (followed q (take k parts)) part

pub indexes_within : {p : Program} {s : Scope} {q : Path} {t : Target} → Denotes p s q t → index_count q ≤ length (brackets_of t)
indexes_within (Denotes.here f) = omega arith
indexes_within (Denotes.constant m is) = omega arith
indexes_within (Denotes.field {q = q} d f) = let none : index_count q ≤ 0 = indexes_within d in omega (arith, none)
indexes_within (Denotes.index {q = q} {indexes = indexes} d) = let less : index_count q ≤ length indexes = indexes_within d in omega (arith, less)

take_nothing : (n : ℕ) (bs : List Bracket) → bs ≡ [] → take n bs ≡ []
take_nothing zero bs none = ap (take 0) none
take_nothing (suc n) bs none = ap (take (suc n)) none

pub none_written : (p : Program) (count : ℕ) (t : Target) → brackets_of t ≡ [] → AreIndexedBy p (take count (brackets_of t)) true
none_written p count t none = subst (λ z. AllIndexes p z) (sym (take_nothing count (brackets_of t) none)) tt

pub reading_none : (p : Program) (home : _) (right : _) (node : _) (t : Target) → IsTarget p (held.Reading home right node) t → brackets_of t ≡ []
reading_none p home right node (Target.Stored s x type brackets) h = absurd h
reading_none p home right node (Target.Reading s e) h = refl
reading_none p home right node (Target.Instance i) h = refl
reading_none p home right node (Target.Constant x) h = refl

pub instance_none : (p : Program) (number : ℕ) (t : Target) → IsTarget p (held.Instance number) t → brackets_of t ≡ []
instance_none p number (Target.Stored s x type brackets) h = absurd h
instance_none p number (Target.Reading s e) h = refl
instance_none p number (Target.Instance i) h = refl
instance_none p number (Target.Constant x) h = refl

pub constant_none : (p : Program) (place : ℕ) (t : Target) → IsTarget p (held.Constant place) t → brackets_of t ≡ []
constant_none p place (Target.Stored s x type brackets) h = absurd h
constant_none p place (Target.Reading s e) h = refl
constant_none p place (Target.Instance i) h = refl
constant_none p place (Target.Constant x) h = refl

pub stored_brackets : (p : Program) (home : _) (name : _) (plain : _) (indexes : _) (t : Target) → IsTarget p (held.Stored home name plain indexes) t → AreBrackets p indexes.items (brackets_of t)
stored_brackets p home name plain indexes (Target.Stored s x type brackets) h = h.3
stored_brackets p home name plain indexes (Target.Reading s e) h = absurd h
stored_brackets p home name plain indexes (Target.Instance i) h = absurd h
stored_brackets p home name plain indexes (Target.Constant x) h = absurd h

pub path_indexed : (p : Program) (s : Scope) (q : Path) (t : Target) (b : Bool) → Denotes p s q t → AreIndexedBy p (take (index_count q) (brackets_of t)) b → IndexedBy p s q b
path_indexed p s q t true d all = good_indexes d all
path_indexed p s q t false d bad = bad_indexes d bad

pub first_bad : (p : Program) (s : Scope) (ms : List Mention) (k : ℕ) (m : Mention) (line : ℕ) → k < length ms → m ≡ get_or ms k m → FirstHave (λ d. HasIndexes p s d.path) ms k → line ≡ line_of m.path → IndexedBy p s m.path false
    → Refused (first_of ms (bad_index p s)) (FlatRefusal.BadIndex line)
first_bad p s ms k m line below at have same bad =
    inr (first_in_list (bad_index p s) ms k m (FlatRefusal.BadIndex line) below (λ j e less. indexed_silent p s (get_or ms j e) (have j e less))
    (subst (λ z. bad_index p s z (FlatRefusal.BadIndex line)) at (ap FlatRefusal.BadIndex same, bad)))

-- ---- both rules

-- what comes of both
abbrev pub Answer : {A : Type 0} → Program → Scope → List Mention → Result A FlatRefusal → Type 0
Answer p s ms result = MatchResult result (λ _. Silent (path_rows p s ms) × AreSound p s ms) (Refused (path_rows p s ms))

pub answer_silent : {A : Type 0} (p : Program) (s : Scope) (ms : List Mention) (result : Result A FlatRefusal) → Answer p s ms result → OnOk result (Silent (path_rows p s ms))
answer_silent p s ms (Ok x) h = h.0
answer_silent p s ms (Err r) h = tt

pub answer_sound : {A : Type 0} (p : Program) (s : Scope) (ms : List Mention) (result : Result A FlatRefusal) → Answer p s ms result → OnOk result (AreSound p s ms)
answer_sound p s ms (Ok x) h = h.1
answer_sound p s ms (Err r) h = tt

pub answer_refused : {A : Type 0} (p : Program) (s : Scope) (ms : List Mention) (result : Result A FlatRefusal) → Answer p s ms result → IfErr result (Refused (path_rows p s ms))
answer_refused p s ms (Ok x) h = tt
answer_refused p s ms (Err r) h = h
