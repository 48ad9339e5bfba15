-- Contents where one file is exchanged, added or taken out.
use Rattle.std.proofs.Common.{◌≡◌, inl, inr, ℕ, zero, suc, ◌+◌, ◌<◌, Bool, true, false, List, [], ◌∷◌, ◌++◌, Option, Some, None, length, take, drop, refl, sym, ◌∙◌, ap, subst, arith}
use Rattle.std.specs.Prelude.{bytes_eq, if◌then◌else◌, slice_set, slice_index_or}
use Rattle.std.proofs.lemmas.Bool.{both_ways, cases_Bool, false_from_ne_true}
use Rattle.std.proofs.lemmas.Slice.Eq.{bytes_eq-Decides}
use Rattle.smv_outside.specs.declared.entries.Entry.{Entry}
use Rattle.smv_outside.specs.Contents.{Contents, bytes_under, HaveDistinctNames, IsFirst, IsSaved, LeavesOthers}
use Rattle.smv_outside.specs.Entries.{contents_of}

abbrev File : Type 0
File = List ℕ × List ℕ

abbrev chosen : Option (List ℕ) → Option (List ℕ) → Bool → Option (List ℕ)
chosen here later b = if b then here else later

-- ---- looking up

is_other : (a b : List ℕ) → (a ≡ b → ⊥) → bytes_eq a b ≡ false
is_other a b n = false_from_ne_true (bytes_eq a b) (λ e. n ((bytes_eq-Decides a b).0 e))

at_first : (f : File) (fs : Contents) (name : List ℕ) → f.0 ≡ name → bytes_under (f ∷ fs) name ≡ Some f.1
at_first f fs name e = ap (chosen (Some f.1) (bytes_under fs name)) ((bytes_eq-Decides f.0 name).1 e)

past_first : (f : File) (fs : Contents) (name : List ℕ) → (f.0 ≡ name → ⊥) → bytes_under (f ∷ fs) name ≡ bytes_under fs name
past_first f fs name n = ap (chosen (Some f.1) (bytes_under fs name)) (is_other f.0 name n)

not_first : (f : File) (fs : Contents) (name : List ℕ) → bytes_under (f ∷ fs) name ≡ None → f.0 ≡ name → ⊥
not_first f fs name none e = let no : Some f.1 ≡ None = sym (at_first f fs name e) ∙ none in cc

-- the same first file before the same others
one_rest : (f : File) (fs gs : Contents) (name : List ℕ) → bytes_under gs name ≡ bytes_under fs name → bytes_under (f ∷ gs) name ≡ bytes_under (f ∷ fs) name
one_rest f fs gs name e = ap (λ o. chosen (Some f.1) o (bytes_eq f.0 name)) e

-- ---- the first place of a name

-- ---- a file exchanged for one of the same name

set_under : (files : Contents) (name bytes : List ℕ) (i : ℕ) → IsFirst files name i → bytes_under (slice_set files i (name, bytes)) name ≡ Some bytes
set_under [] name bytes i h = absurd h
set_under (f ∷ fs) name bytes zero h = at_first (name, bytes) fs name refl
set_under (f ∷ fs) name bytes (suc i) h = past_first f (slice_set fs i (name, bytes)) name h.0 ∙ set_under fs name bytes i h.1

set_others : (files : Contents) (name bytes : List ℕ) (i : ℕ) → IsFirst files name i → LeavesOthers files (slice_set files i (name, bytes)) name
set_others [] name bytes i h other n = absurd h
set_others (f ∷ fs) name bytes zero h other n =
    past_first (name, bytes) fs other (λ e. n (sym e)) ∙ sym (past_first f fs other (λ e. n (sym e ∙ h)))
set_others (f ∷ fs) name bytes (suc i) h other n = one_rest f fs (slice_set fs i (name, bytes)) other (set_others fs name bytes i h.1 other n)

set_apart : (files : Contents) (name bytes : List ℕ) (i : ℕ) → IsFirst files name i → HaveDistinctNames files → HaveDistinctNames (slice_set files i (name, bytes))
set_apart [] name bytes i h d = absurd h
set_apart (f ∷ fs) name bytes zero h d = (subst (λ n. bytes_under fs n ≡ None) h d.0, d.1)
set_apart (f ∷ fs) name bytes (suc i) h d = (set_others fs name bytes i h.1 f.0 h.0 ∙ d.0, set_apart fs name bytes i h.1 d.1)

-- ---- a file behind all others

added_under : (files : Contents) (name bytes : List ℕ) → bytes_under files name ≡ None → bytes_under (files ++ (name, bytes) ∷ []) name ≡ Some bytes
added_under [] name bytes none = at_first (name, bytes) [] name refl
added_under (f ∷ fs) name bytes none =
    let n = not_first f fs name none in
    past_first f (fs ++ (name, bytes) ∷ []) name n ∙ added_under fs name bytes (sym (past_first f fs name n) ∙ none)

added_others : (files : Contents) (name bytes : List ℕ) → LeavesOthers files (files ++ (name, bytes) ∷ []) name
added_others [] name bytes other n = past_first (name, bytes) [] other (λ e. n (sym e))
added_others (f ∷ fs) name bytes other n = one_rest f fs (fs ++ (name, bytes) ∷ []) other (added_others fs name bytes other n)

added_apart : (files : Contents) (name bytes : List ℕ) → bytes_under files name ≡ None → HaveDistinctNames files → HaveDistinctNames (files ++ (name, bytes) ∷ [])
added_apart [] name bytes none d = (refl, tt)
added_apart (f ∷ fs) name bytes none d =
    let n = not_first f fs name none in
    (added_others fs name bytes f.0 n ∙ d.0, added_apart fs name bytes (sym (past_first f fs name n) ∙ none) d.1)

-- ---- a file taken out

abbrev without : Contents → ℕ → Contents
without files i = take i files ++ drop (suc i) files

out_none : (files : Contents) (name : List ℕ) (i : ℕ) → IsFirst files name i → HaveDistinctNames files → bytes_under (without files i) name ≡ None
out_none [] name i h d = absurd h
out_none (f ∷ fs) name zero h d = subst (λ n. bytes_under fs n ≡ None) h d.0
out_none (f ∷ fs) name (suc i) h d = past_first f (without fs i) name h.0 ∙ out_none fs name i h.1 d.1

out_others : (files : Contents) (name : List ℕ) (i : ℕ) → IsFirst files name i → LeavesOthers files (without files i) name
out_others [] name i h other n = absurd h
out_others (f ∷ fs) name zero h other n = sym (past_first f fs other (λ e. n (sym e ∙ h)))
out_others (f ∷ fs) name (suc i) h other n = one_rest f fs (without fs i) other (out_others fs name i h.1 other n)

out_apart : (files : Contents) (name : List ℕ) (i : ℕ) → IsFirst files name i → HaveDistinctNames files → HaveDistinctNames (without files i)
out_apart [] name i h d = absurd h
out_apart (f ∷ fs) name zero h d = d.1
out_apart (f ∷ fs) name (suc i) h d = (out_others fs name i h.1 f.0 h.0 ∙ d.0, out_apart fs name i h.1 d.1)

-- ---- the same for entries

pub contents_set : (entries : List Entry) (i : ℕ) (entry : Entry) → contents_of (slice_set entries i entry) ≡ slice_set (contents_of entries) i (entry.name, entry.bytes.items)
contents_set [] i entry = refl
contents_set (e ∷ es) zero entry = refl
contents_set (e ∷ es) (suc i) entry = ap (λ fs. (e.name, e.bytes.items) ∷ fs) (contents_set es i entry)

pub contents_added : (entries : List Entry) (entry : Entry) → contents_of (entries ++ entry ∷ []) ≡ contents_of entries ++ (entry.name, entry.bytes.items) ∷ []
contents_added [] entry = refl
contents_added (e ∷ es) entry = ap (λ fs. (e.name, e.bytes.items) ∷ fs) (contents_added es entry)

contents_out : (entries : List Entry) (i : ℕ) → contents_of (take i entries ++ drop (suc i) entries) ≡ without (contents_of entries) i
contents_out [] zero = refl
contents_out [] (suc i) = refl
contents_out (e ∷ es) zero = refl
contents_out (e ∷ es) (suc i) = ap (λ fs. (e.name, e.bytes.items) ∷ fs) (contents_out es i)

-- no name further on, where the next entry has another one
pub none_further : (entries : List Entry) (name : List ℕ) (i : ℕ) (e : Entry) → i < length entries → slice_index_or entries i e ≡ e → (e.name ≡ name → ⊥)
    → bytes_under (contents_of (take i entries)) name ≡ None → bytes_under (contents_of (take (suc i) entries)) name ≡ None
none_further [] name i e lt at n none = absurd (omega (arith, lt))
none_further (x ∷ es) name zero e lt at n none = past_first (x.name, x.bytes.items) [] name (λ same. n (subst (λ (y : Entry). y.name ≡ name) at same))
none_further (x ∷ es) name (suc i) e lt at n none =
    let m = not_first (x.name, x.bytes.items) (contents_of (take i es)) name none in
    past_first (x.name, x.bytes.items) (contents_of (take (suc i) es)) name m
    ∙ none_further es name i e (omega (arith, lt)) at n (sym (past_first (x.name, x.bytes.items) (contents_of (take i es)) name m) ∙ none)

pub first_here : (entries : List Entry) (name : List ℕ) (i : ℕ) (e : Entry) → i < length entries → slice_index_or entries i e ≡ e → e.name ≡ name
    → bytes_under (contents_of (take i entries)) name ≡ None → IsFirst (contents_of entries) name i
first_here [] name i e lt at same none = absurd (omega (arith, lt))
first_here (x ∷ es) name zero e lt at same none = ap (λ (y : Entry). y.name) at ∙ same
first_here (x ∷ es) name (suc i) e lt at same none =
    let m = not_first (x.name, x.bytes.items) (contents_of (take i es)) name none in
    (m, first_here es name i e (omega (arith, lt)) at same (sym (past_first (x.name, x.bytes.items) (contents_of (take i es)) name m) ∙ none))

-- a file put in the place of the first one with its name, or behind all
pub exchanged : (entries : List Entry) (i : ℕ) (entry : Entry) → IsFirst (contents_of entries) entry.name i → IsSaved (contents_of entries) (contents_of (slice_set entries i entry)) entry.name entry.bytes.items
exchanged entries i entry h = subst (λ after. IsSaved (contents_of entries) after entry.name entry.bytes.items) (sym (contents_set entries i entry)) (record {
  under = set_under (contents_of entries) entry.name entry.bytes.items i h;
  others = set_others (contents_of entries) entry.name entry.bytes.items i h;
})

pub exchanged_apart : (entries : List Entry) (i : ℕ) (entry : Entry) → IsFirst (contents_of entries) entry.name i → HaveDistinctNames (contents_of entries) → HaveDistinctNames (contents_of (slice_set entries i entry))
exchanged_apart entries i entry h d = subst (λ after. HaveDistinctNames after) (sym (contents_set entries i entry)) (set_apart (contents_of entries) entry.name entry.bytes.items i h d)

pub added : (entries : List Entry) (entry : Entry) → bytes_under (contents_of entries) entry.name ≡ None → IsSaved (contents_of entries) (contents_of (entries ++ entry ∷ [])) entry.name entry.bytes.items
added entries entry none = subst (λ after. IsSaved (contents_of entries) after entry.name entry.bytes.items) (sym (contents_added entries entry)) (record {
  under = added_under (contents_of entries) entry.name entry.bytes.items none;
  others = added_others (contents_of entries) entry.name entry.bytes.items;
})

pub added_distinct : (entries : List Entry) (entry : Entry) → bytes_under (contents_of entries) entry.name ≡ None → HaveDistinctNames (contents_of entries) → HaveDistinctNames (contents_of (entries ++ entry ∷ []))
added_distinct entries entry none d = subst (λ after. HaveDistinctNames after) (sym (contents_added entries entry)) (added_apart (contents_of entries) entry.name entry.bytes.items none d)

-- what is left where the first one with a name is taken out
pub record IsLeft (before after : Contents) (name : List ℕ) : Type 0 where
  pub names : HaveDistinctNames after
  pub none : bytes_under after name ≡ None
  pub others : LeavesOthers before after name

pub taken_out : (entries : List Entry) (name : List ℕ) (i : ℕ) → IsFirst (contents_of entries) name i → HaveDistinctNames (contents_of entries) → IsLeft (contents_of entries) (contents_of (take i entries ++ drop (i + 1) entries)) name
taken_out entries name i h d =
    let next : suc i ≡ i + 1 = omega arith in
    let e : without (contents_of entries) i ≡ contents_of (take i entries ++ drop (i + 1) entries) = sym (contents_out entries i) ∙ ap (λ k. contents_of (take i entries ++ drop k entries)) next in
    subst (λ after. IsLeft (contents_of entries) after name) e (record {
      names = out_apart (contents_of entries) name i h d;
      none = out_none (contents_of entries) name i h d;
      others = out_others (contents_of entries) name i h;
    })

pub first_inside : (entries : List Entry) (name : List ℕ) (i : ℕ) → IsFirst (contents_of entries) name i → i < length entries
first_inside [] name i h = absurd h
first_inside (e ∷ es) name zero h = omega arith
first_inside (e ∷ es) name (suc i) h = omega (arith, first_inside es name i h.1)
