-- Commands whose one option is `--nodes`, by what is kept of their parts.
use Rattle.std.proofs.Common.{◌≡◌, ◌∙◌, ℕ, suc, Bool, true, false, List, [], ◌∷◌, ◌++◌, codes}
use Rattle.std.proofs.Common.{◌<◌, length, bytes_eq, Option, Some, None, IfSome, refl, sym, ap}
use Rattle.std.proofs.lemmas.Bool.{le-leb, lt-leb}
use Rattle.std.proofs.Common.{◌≤◌, if◌then◌else◌, ◌&&◌, not, nat_le, subst, arith}
use Rattle.std.specs.Option.{option_map, option_and_then}
use Rattle.std.proofs.lemmas.List.{append-nil, append_assoc, length-append}
use Rattle.command_words.specs.Given.{Values, list_of, limited_with, operands_with, with_words}
use Rattle.command_words.specs.Given.{file_names, delay_names, recheck_with, replay_with}
use Rattle.command_words.specs.Given.{delay_with, pair_names, strong_lists, strong_names, strong_with}
use Rattle.command_words.specs.Parts.{Part, Operand, Nodes, Proof, Check, limit_form, parts_of}
use Rattle.command_words.specs.Parts.{operands, limits}
use Rattle.command_words.specs.Words.{Command, limited_lists, limited_of, only_limit, two_files}
use Rattle.command_words.specs.Words.{file_and_specs, recheck_of, recheck_work, delay_of}
use Rattle.command_words.specs.Words.{delay_work, file_and_pairs, replay_of, replay_work}
use Rattle.command_words.specs.Words.{File, Strong, spec_pairs, strong_of, strong_work, work_on}
use Rattle.command_words.proofs.PartKinds.{Every, IsOfLimited, parts_of_limited}
use Rattle.command_words.proofs.Kept.{keep_all, keep_parts, model_name, nothing, put}
use Rattle.command_words.proofs.Kept.{wants}
use Rattle.command_words.proofs.ClapRows.{same_name}

-- ---- operands by their names

-- no name of the list is this one
abbrev AreOthers : List ℕ → List (List ℕ) → Type 0
AreOthers name [] = Unit {0}
AreOthers name (other ∷ names) =
    (bytes_eq name other ≡ false) × (bytes_eq other name ≡ false) × AreOthers name names

-- each name stands once, and none is that of the option
abbrev AreNames : List (List ℕ) → Type 0
AreNames [] = Unit {0}
AreNames (name ∷ names) =
    (bytes_eq name name ≡ true) × AreOthers (codes "nodes") (name ∷ []) × AreOthers name names
    × AreNames names

abbrev are_others : List ℕ → List (List ℕ) → Bool
are_others name [] = true
are_others name (other ∷ names) =
    not (bytes_eq name other) && (not (bytes_eq other name) && are_others name names)

abbrev are_names : List (List ℕ) → Bool
are_names [] = true
are_names (name ∷ names) =
    are_others (codes "nodes") (name ∷ []) && (are_others name names && are_names names)

both : (a b : Bool) → (a && b) ≡ true → (a ≡ true) × (b ≡ true)
both true b e = (refl, e)
both false b e = let bad : false ≡ true = e in cc

is_not : (b : Bool) → not b ≡ true → b ≡ false
is_not true e = let bad : false ≡ true = e in cc
is_not false e = refl

others_by : (name : List ℕ) (names : List (List ℕ)) → are_others name names ≡ true
    → AreOthers name names
others_by name [] e = tt
others_by name (other ∷ names) e =
    let first = both (not (bytes_eq name other)) _ e in
    let next = both (not (bytes_eq other name)) _ first.1 in
    (is_not _ first.0, is_not _ next.0, others_by name names next.1)

names_by : (names : List (List ℕ)) → are_names names ≡ true → AreNames names
names_by [] e = tt
names_by (name ∷ names) e =
    let first = both (are_others (codes "nodes") (name ∷ [])) _ e in
    let next = both (are_others name names) _ first.1 in (
      same_name name,
      others_by (codes "nodes") (name ∷ []) first.0,
      others_by name names next.0,
      names_by names next.1,
    )

-- no word is given for any of these operands
abbrev AreFree : List (List ℕ) → Values → Type 0
AreFree [] values = Unit {0}
AreFree (name ∷ names) values = (values name ≡ None) × AreFree names values

-- the first of the names have these words, and these are free
abbrev AreDone : List (List ℕ) → Values → (words free : List (List ℕ)) → Type 0
AreDone names values [] free = names ≡ free
AreDone [] values (word ∷ words) free = ⊥
AreDone (name ∷ names) values (word ∷ words) free =
    (values name ≡ Some word) × AreDone names values words free

put_free : (name word : List ℕ) (names : List (List ℕ)) (values : Values) → AreOthers name names
    → AreFree names values → AreFree names (put name word values)
put_free name word [] values others free = tt
put_free name word (other ∷ names) values others free =
    (rw others.0 free.0, put_free name word names values others.2 free.1)

put_nodes_free : (word : List ℕ) (names : List (List ℕ)) (values : Values) → AreNames names
    → AreFree names values → AreFree names (put (codes "nodes") word values)
put_nodes_free word [] values named free = tt
put_nodes_free word (name ∷ names) values named free =
    (rw named.1.0 free.0, put_nodes_free word names values named.3 free.1)

put_nodes_done : (value : List ℕ) (names : List (List ℕ)) (values : Values)
    (words free : List (List ℕ)) → AreNames names → AreDone names values words free
    → AreDone names (put (codes "nodes") value values) words free
put_nodes_done value names values [] free named done = done
put_nodes_done value [] values (word ∷ words) free named done = done
put_nodes_done value (name ∷ names) values (word ∷ words) free named done =
    (rw named.1.0 done.0, put_nodes_done value names values words free named.3 done.1)

-- the names that are free are names too
free_names : (names : List (List ℕ)) (values : Values) (words free : List (List ℕ))
    → AreNames names → AreDone names values words free → AreNames free
free_names names values [] free named done = subst AreNames done named
free_names [] values (word ∷ words) free named done = absurd done
free_names (name ∷ names) values (word ∷ words) free named done =
    free_names names values words free named.3 done.1

-- a free name is another one than a name in front
other_front : (front : List ℕ) (names : List (List ℕ)) (values : Values) (words : List (List ℕ))
    (name : List ℕ) (free : List (List ℕ)) → AreOthers front names
    → AreDone names values words (name ∷ free) → bytes_eq name front ≡ false
other_front front names values [] name free others done =
    (subst (AreOthers front) done others).1
other_front front [] values (word ∷ words) name free others done = absurd done
other_front front (next ∷ names) values (word ∷ words) name free others done =
    other_front front names values words name free others.2 done.1

put_done : (names : List (List ℕ)) (values : Values) (words : List (List ℕ)) (name : List ℕ)
    (free : List (List ℕ)) (word : List ℕ) → AreNames names
    → AreDone names values words (name ∷ free)
    → AreDone names (put name word values) (words ++ word ∷ []) free
put_done names values [] name free word named done =
    subst (λ all. AreDone all (put name word values) (word ∷ []) free) (sym done)
    (rw (subst AreNames done named).0 refl, refl)
put_done [] values (first ∷ words) name free word named done = absurd done
put_done (front ∷ names) values (first ∷ words) name free word named done = (
  rw (other_front front names values words name free named.2 done.1) done.0,
  put_done names values words name free word named.3 done.1,
)

none_with : (names : List (List ℕ)) (values : Values) → AreFree names values
    → operands_with names values ≡ []
none_with [] values free = refl
none_with (name ∷ names) values free = rw free.0 refl

-- the words of the operands are those that were given
done_with : (names : List (List ℕ)) (values : Values) (words free : List (List ℕ))
    → AreDone names values words free → AreFree free values → operands_with names values ≡ words
done_with names values [] free done empty =
    none_with names values (subst (λ all. AreFree all values) (sym done) empty)
done_with [] values (word ∷ words) free done empty = absurd done
done_with (name ∷ names) values (word ∷ words) free done empty =
    rw done.0 (ap (λ more. word ∷ more) (done_with names values words free done.1 empty))

all_done : (names : List (List ℕ)) (values : Values) (words : List (List ℕ))
    → AreDone names values words [] → length words ≡ length names
all_done names values [] done = ap length (sym done)
all_done [] values (word ∷ words) done = absurd done
all_done (name ∷ names) values (word ∷ words) done = ap suc (all_done names values words done.1)

-- where an operand has no word there are fewer words than names
fewer : (names : List (List ℕ)) (values : Values) → wants names values ≡ true
    → length (operands_with names values) < length names
fewer [] values wanted = let bad : false ≡ true = wanted in cc
fewer (name ∷ names) values wanted = go (fewer names values) (values name) refl
  where
    go : (wants names values ≡ true → length (operands_with names values) < length names)
        → (value : Option (List ℕ)) → values name ≡ value
        → length (with_words value (operands_with names values)) < suc (length names)
    go more None e = omega arith
    go more (Some word) e = let fewer = more (rw e at wanted) in omega (fewer, arith)

-- ---- from what is kept so far and the parts to come

-- the command reads no more operands than there are names
module _ {A : Type 0} (names : List (List ℕ)) (named : AreNames names)
    (read : List (List ℕ) → Option A) (make : A → ℕ → Command)
    (most : (words : List (List ℕ)) → length names < length words → read words ≡ None) where
  abbrev IsLimited : (words free : List (List ℕ)) → Values → List Part → Type 0
  IsLimited words free values parts =
      limited_lists read make (words ++ operands parts)
      (list_of (values (codes "nodes")) ++ limits parts)
      ≡ option_and_then (λ kept. limited_with names read make kept.values)
      (keep_all free values parts)

  longer : (words : List (List ℕ)) (word : List ℕ) (more : List (List ℕ))
      → length words ≡ length names → length names < length (words ++ word ∷ more)
  longer words word more all =
      let sum = length-append words (word ∷ more) in
      omega (sum, all, arith)

  two_limits : (asked : Option A) (first second : List ℕ) (limits : List (List ℕ))
      → option_and_then (λ one. option_map (make one) (only_limit (first ∷ second ∷ limits))) asked
      ≡ None
  two_limits None first second limits = refl
  two_limits (Some one) first second limits = refl

  with_nodes : (words free : List (List ℕ)) (values : Values) (value : List ℕ) (parts : List Part)
      → IsLimited words free (put (codes "nodes") value values) parts
      → (before : Option (List ℕ)) → values (codes "nodes") ≡ before
      → IsLimited words free values (Nodes value ∷ parts)
  with_nodes words free values value parts rest None e = rw e rest
  with_nodes words free values value parts rest (Some first) e =
      rw e (two_limits (read (words ++ operands parts)) first value (limits parts))

  -- with a word more
  with_word : (words : List (List ℕ)) (name : List ℕ) (free : List (List ℕ)) (values : Values)
      (word : List ℕ) (parts : List Part) → values name ≡ None
      → bytes_eq name (codes "nodes") ≡ false
      → IsLimited (words ++ word ∷ []) free (put name word values) parts
      → IsLimited words (name ∷ free) values (Operand word ∷ parts)
  with_word words name free values word parts empty other rest =
      rw empty (subst (λ all. limited_lists read make all
      (list_of (values (codes "nodes")) ++ limits parts)
      ≡ option_and_then (λ kept. limited_with names read make kept.values)
      (keep_all free (put name word values) parts))
      (append_assoc words (word ∷ []) (operands parts)) (rw other at rest))

  limited_from : (words free : List (List ℕ)) (values : Values)
      → AreDone names values words free → AreFree free values → (parts : List Part)
      → Every IsOfLimited parts → IsLimited words free values parts
  limited_from words free values done empty [] all =
      λ i. limited_lists read make
      ((append-nil words ∙ sym (done_with names values words free done empty)) i)
      (append-nil (list_of (values (codes "nodes"))) i)
  limited_from words [] values done empty (Operand word ∷ parts) all =
      ap (option_and_then (λ one. option_map (make one)
      (only_limit (list_of (values (codes "nodes")) ++ limits parts))))
      (most (words ++ word ∷ operands parts)
      (longer words word (operands parts) (all_done names values words done)))
  limited_from words (name ∷ free) values done empty (Operand word ∷ parts) all =
      let free_named = free_names names values words (name ∷ free) named done in
      with_word words name free values word parts empty.0 free_named.1.1
      (limited_from (words ++ word ∷ []) free (put name word values)
      (put_done names values words name free word named done)
      (put_free name word free values free_named.2 empty.1) parts all.1)
  limited_from words free values done empty (Nodes value ∷ parts) all =
      with_nodes words free values value parts
      (limited_from words free (put (codes "nodes") value values)
      (put_nodes_done value names values words free named done)
      (put_nodes_free value free values (free_names names values words free named done) empty)
      parts all.1) (values (codes "nodes")) refl
  limited_from words free values done empty (Proof name ∷ parts) all = absurd all.0
  limited_from words free values done empty (Check ∷ parts) all = absurd all.0

  none_free : (free : List (List ℕ)) → AreFree free nothing
  none_free [] = tt
  none_free (name ∷ free) = (refl, none_free free)

  -- from nothing
  limited_words : (words : List (List ℕ))
      → option_and_then (λ kept. limited_with names read make kept.values)
      (keep_parts names nothing (parts_of limit_form words))
      ≡ option_and_then (limited_of read make) (parts_of limit_form words)
  limited_words words = go (parts_of limit_form words) (parts_of_limited words)
    where
      go : (parts : Option (List Part)) → IfSome parts (Every IsOfLimited)
          → option_and_then (λ kept. limited_with names read make kept.values)
          (keep_parts names nothing parts)
          ≡ option_and_then (limited_of read make) parts
      go None all = refl
      go (Some parts) all =
          sym (limited_from [] names nothing refl (none_free names) parts all)

-- the command reads as many operands as there are names
module _ {A : Type 0} (names : List (List ℕ)) (named : AreNames names)
    (read : List (List ℕ) → Option A) (make : A → ℕ → Command)
    (counts : (words : List (List ℕ)) → (length words ≡ length names → ⊥) → read words ≡ None) where
  counted_words : (words : List (List ℕ))
      → option_and_then (λ kept. limited_with names read make kept.values)
      (keep_parts names nothing (parts_of limit_form words))
      ≡ option_and_then (limited_of read make) (parts_of limit_form words)
  counted_words =
      limited_words names named read make (λ words many. counts words (λ is.
      let bad : ⊥ = omega (many, is, arith) in
      bad))

  -- no command wants an operand
  none_wanted : (values : Values) → wants names values ≡ true
      → limited_with names read make values ≡ None
  none_wanted values wanted =
      ap (option_and_then (λ one. option_map (make one)
      (only_limit (list_of (values (codes "nodes"))))))
      (counts (operands_with names values) (λ is.
      let few = fewer names values wanted in
      let bad : ⊥ = omega (few, is, arith) in
      bad))

-- ---- each command

file_count : (words : List (List ℕ)) → (length words ≡ 2 → ⊥) → two_files words ≡ None
file_count [] other = refl
file_count ([] ∷ []) other = refl
file_count ((byte ∷ one) ∷ []) other = refl
file_count (one ∷ two ∷ []) other = absurd (other refl)
file_count ([] ∷ two ∷ three ∷ words) other = refl
file_count ((byte ∷ one) ∷ [] ∷ three ∷ words) other = refl
file_count ((byte ∷ one) ∷ (first ∷ two) ∷ three ∷ words) other = refl

word_count : (words : List (List ℕ)) → (length words ≡ 3 → ⊥) → file_and_specs words ≡ None
word_count [] other = refl
word_count ([] ∷ words) other = refl
word_count ((byte ∷ one) ∷ []) other = refl
word_count ((byte ∷ one) ∷ two ∷ []) other = refl
word_count ((byte ∷ one) ∷ two ∷ three ∷ []) other = absurd (other refl)
word_count ((byte ∷ one) ∷ two ∷ three ∷ four ∷ words) other = refl

file_named : AreNames file_names
file_named = names_by file_names refl

delay_named : AreNames delay_names
delay_named = names_by delay_names refl

strong_named : AreNames strong_names
strong_named = names_by strong_names refl

-- no more than 16 pairs
pairs_most : (words : List (List ℕ)) → 17 < length words → file_and_pairs words ≡ None
pairs_most [] many = absurd (omega (many, arith))
pairs_most ([] ∷ words) many = refl
pairs_most ((byte ∷ model) ∷ words) many =
    let other : nat_le (length words) 16 ≡ false = lt-leb (length words) 16 (omega (many, arith)) in
    rw other refl

pub recheck_words : (words : List (List ℕ))
    → option_and_then (λ kept. recheck_with kept.values)
    (keep_parts file_names nothing (parts_of limit_form words))
    ≡ option_and_then recheck_of (parts_of limit_form words)
recheck_words = counted_words file_names file_named two_files recheck_work file_count

pub no_files : (values : Values) → wants file_names values ≡ true → recheck_with values ≡ None
no_files = none_wanted file_names file_named two_files recheck_work file_count

pub replay_words : (words : List (List ℕ))
    → option_and_then (λ kept. replay_with kept.values)
    (keep_parts file_names nothing (parts_of limit_form words))
    ≡ option_and_then replay_of (parts_of limit_form words)
replay_words = counted_words file_names file_named two_files replay_work file_count

pub no_trace : (values : Values) → wants file_names values ≡ true → replay_with values ≡ None
no_trace = none_wanted file_names file_named two_files replay_work file_count

pub delay_words : (words : List (List ℕ))
    → option_and_then (λ kept. delay_with kept.values)
    (keep_parts delay_names nothing (parts_of limit_form words))
    ≡ option_and_then delay_of (parts_of limit_form words)
delay_words = counted_words delay_names delay_named file_and_specs delay_work word_count

pub no_delay : (values : Values) → wants delay_names values ≡ true → delay_with values ≡ None
no_delay = none_wanted delay_names delay_named file_and_specs delay_work word_count

-- the pairs are no more than their names
no_more : (names : List (List ℕ)) (values : Values)
    → length (operands_with names values) ≤ length names
no_more [] values = omega arith
no_more (name ∷ names) values = go (values name) (no_more names values)
  where
    go : (value : Option (List ℕ)) → length (operands_with names values) ≤ length names
        → length (with_words value (operands_with names values)) ≤ suc (length names)
    go None fits = omega arith
    go (Some word) fits = omega (fits, arith)

strong_same : (values : Values)
    → limited_with strong_names file_and_pairs strong_work values ≡ strong_with values
strong_same values = go (values (codes "model"))
  where
    words : List (List ℕ)
    words = operands_with pair_names values

    limits : List (List ℕ)
    limits = list_of (values (codes "nodes"))

    few : nat_le (length words) 16 ≡ true
    few = le-leb (length words) 16 (no_more pair_names values)

    by_pairs : (model : List ℕ) (pairs : Option (List (ℕ × ℕ)))
        → option_and_then (λ asked. option_map (strong_work asked) (only_limit limits))
        (option_map (λ all. (model, all)) pairs)
        ≡ option_and_then (λ all. option_map
        (λ limit. work_on (File model) limit (Strong all)) (only_limit limits)) pairs
    by_pairs model None = refl
    by_pairs model (Some all) = refl

    go : (model : Option (List ℕ))
        → limited_lists file_and_pairs strong_work (with_words model words) limits
        ≡ strong_lists (list_of model) words limits
    go None = refl
    go (Some []) = refl
    go (Some (byte ∷ model)) =
        ap (λ fits. option_and_then
        (λ asked. option_map (strong_work asked) (only_limit limits))
        (if fits then option_map (λ all. (byte ∷ model, all)) (spec_pairs words) else None)) few
        ∙ by_pairs (byte ∷ model) (spec_pairs words)

pub strong_words : (words : List (List ℕ))
    → option_and_then (λ kept. strong_with kept.values)
    (keep_parts strong_names nothing (parts_of limit_form words))
    ≡ option_and_then strong_of (parts_of limit_form words)
strong_words words =
    ap (λ (of : Values → Option Command). option_and_then (λ kept. of kept.values)
    (keep_parts strong_names nothing (parts_of limit_form words)))
    (sym (λ i values. strong_same values i))
    ∙ limited_words strong_names strong_named file_and_pairs strong_work pairs_most words

pub no_pairs : (values : Values) → wants model_name values ≡ true → strong_with values ≡ None
no_pairs values wanted = go (values (codes "model")) refl
  where
    go : (model : Option (List ℕ)) → values (codes "model") ≡ model → strong_with values ≡ None
    go None e = rw e refl
    go (Some model) e = let bad : false ≡ true = rw e at wanted in cc
