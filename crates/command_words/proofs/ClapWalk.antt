-- What clap reads of the words is what the definitions keep of their parts.
use Rattle.std.proofs.Common.{◌≡◌, ◌∙◌, ◌+◌, ◌==◌, ℕ, Bool, true, false, List, [], ◌∷◌, map, codes}
use Rattle.std.proofs.Common.{bytes_eq, min, Option, Some, None, refl, sym, ap, subst}
use Rattle.std.specs.Option.{option_and_then}
use Rattle.std.specs.Prelude.{fold}
use Rattle.std.specs.Str.{IsUtf8}
use Rattle.clap.specs.Lexer.{long_of, short_of, usize_max}
use Rattle.clap.specs.Walk.{used_by_id, used, nothing_held, rows_after, Row, Rule, Text, Walk}
use Rattle.clap.specs.Walk.{Waiting, idle, option, arg_by_long, arg_by_short}
use Rattle.clap.specs.Walk.{settled_rows, walked, with_default}
use Rattle.clap.specs.Simple.{Shape}
use Rattle.clap.specs.Kinds.{Kinds, or_else}
use Rattle.clap.specs.Faults.{settle_fault, level_fault, turn_fault}
use Rattle.clap.specs.Faults.{walk_fault}
use Rattle.command_words.specs.Parts.{Part, Operand, Form, Unknown, Whole, Valued, is_option}
use Rattle.command_words.specs.Parts.{before, by_form, parts_of, parts_valued}
use Rattle.command_words.specs.Given.{Values}
use Rattle.command_words.proofs.Kept.{KeepsAs, Kept, nothing, put, put_new, keep, keep_as, keep_all}
use Rattle.command_words.proofs.Kept.{keep_before, keep_parts, then_keep}
use Rattle.command_words.proofs.ClapAgrees.{Agrees, AllUtf8, HasNone, ends, rest_fault, rest_rows}
use Rattle.command_words.proofs.ClapAgrees.{word_more}
use Rattle.command_words.proofs.ClapFaults.{IsFault, first_fails, next_fails}
use Rattle.command_words.proofs.ClapRows.{Has, has_none, has_some, nothing_found, with_use}
use Rattle.command_words.proofs.ClapTurns.{Falls, Meets, MeetsNone, MeetsValued, MeetsJoined}
use Rattle.command_words.proofs.ClapTurns.{MeetsFlag, MeetsUnneeded, Use, held_at, left_of}
use Rattle.command_words.proofs.ClapTurns.{left_without, shape_with, walk_at, end_turn, end_walked}
use Rattle.command_words.proofs.ClapTurns.{long_by, long_fails, operand_falls, operand_passes}
use Rattle.command_words.proofs.ClapTurns.{operand_strays, operand_walked, option_turn}
use Rattle.command_words.proofs.ClapTurns.{option_walked, plain_turn, plain_walked, short_fails}
use Rattle.command_words.proofs.ClapTurns.{trail_walked, turn_by, value_turn, value_walked}
use Rattle.command_words.proofs.ClapTurns.{walked_by}
use Rattle.command_words.proofs.ClapUses.{IsPlaced, Takes, flag_again, flag_built, flag_first}
use Rattle.command_words.proofs.ClapUses.{option_built, use_again, use_first, use_without}
use Rattle.command_words.proofs.WordForms.{Kind, End, Plain, Short, Long, kind_of_word, name_in}
use Rattle.command_words.proofs.WordForms.{value_in}

module _ (name : Text) (needed names : List Text) (rules : List Rule) (form : List ℕ → Form)
    (Reads : List Row → Values → Type 0)
    (placed_first : IsPlaced rules 1 names)
    (no_short : (char : ℕ) → arg_by_short rules char ≡ None)
    (short_form : (byte : ℕ) (bytes : List ℕ) → (byte == 45) ≡ false
    → form (45 ∷ byte ∷ bytes) ≡ Unknown)
    (meets : (byte : ℕ) (bytes : List ℕ) → Meets rules form (byte ∷ bytes))
    (ending : (rows : List Row) (kept : Kept) → Has rows kept.values
    → Agrees needed Reads (ends (shape_with name rules) rows) (fold with_default rows rules)
    (Some kept)) where
  abbrev shape : Shape
  shape = shape_with name rules

  -- the use that is still to be noted passes, and the rows with it have what is kept
  abbrev Stands : List Row → Use → Values → Type 0
  Stands rows left values =
      (settle_fault rules false (held_at rows left) ≡ [])
      × Has (settled_rows rules left rows) values

  module _ (rows : List Row) (values : Values) (has : Has rows values) (id value : Text)
      (takes : Takes rules id) where
    use_stands : values id ≡ None → Stands rows (left_of id value) (put id value values)
    use_stands new = (
      rw takes.is (use_first id takes.long takes.place takes.is_required rows value
          (has_none rows values has id new)),
      subst (λ found. Has (used_by_id found (value ∷ []) rows) (put id value values)) (sym takes.is)
          (with_use rows values has id value new),
    )

    use_falls : (first : Text) → values id ≡ Some first → Falls name rules rows (left_of id value)
    use_falls first old =
        rw takes.is (use_again id takes.long takes.place takes.is_required rows value
        (has_some rows values has id first old))

  missing_falls : (rows : List Row) (id : Text) → Takes rules id
      → Falls name rules rows (left_without id)
  missing_falls rows id takes =
      rw takes.is (use_without id takes.long takes.place takes.is_required rows)

  -- ---- the end, and one word

  abbrev Goes : Walk → List Text → Option Kept → Type 0
  Goes walk words kept =
      Agrees needed Reads (rest_fault shape walk words) (rest_rows shape walk words) kept

  at_end : (rows : List Row) (left : Use) (kept : Kept) (waiting : Waiting) (position : ℕ)
      (is_trailing : Bool) → Stands rows left kept.values
      → Goes (walk_at rows left waiting position is_trailing) [] (Some kept)
  unfolding walk_fault
  at_end rows left kept waiting position is_trailing stands =
      let now = settled_rows rules left rows in
      subst (λ fault. Agrees needed Reads (or_else fault (ends shape now))
      (fold with_default now rules) (Some kept)) (sym stands.0) (ending now kept stands.1)

  end_fails : (rows : List Row) (left : Use) (waiting : Waiting) (position : ℕ) (is_trailing : Bool)
      → Falls name rules rows left
      → IsFault (rest_fault shape (walk_at rows left waiting position is_trailing) [])
  unfolding walk_fault
  end_fails rows left waiting position is_trailing fault =
      first_fails (settle_fault rules false (held_at rows left)) _ fault

  passes : (walk next : Walk) (word : Text) (words : List Text) (kept : Option Kept)
      → turn_fault shape [] walk word ≡ [] → walked rules [] walk word ≡ next
      → Goes next words kept → Goes walk (word ∷ words) kept
  passes walk next word words kept none same rest =
      subst (λ fault. Agrees needed Reads fault (rest_rows shape walk (word ∷ words)) kept)
      (sym (word_more shape walk word words
      ∙ ap (λ turn. or_else turn (rest_fault shape (walked rules [] walk word) words)) none))
      (subst (λ w. Goes w words kept) (sym same) rest)

  fails : (fault : Kinds) (rows : List Row) (kept : Option Kept) → IsFault fault
      → HasNone needed kept → Agrees needed Reads fault rows kept
  fails [] rows kept is none = absurd is
  fails (kind ∷ kinds) rows kept is none = none

  turn_fails : (walk : Walk) (word : Text) (words : List Text)
      → IsFault (turn_fault shape [] walk word) → IsFault (rest_fault shape walk (word ∷ words))
  turn_fails walk word words is =
      subst IsFault (sym (word_more shape walk word words))
      (first_fails (turn_fault shape [] walk word) _ is)

  later_fails : (walk next : Walk) (word : Text) (words : List Text)
      → walked rules [] walk word ≡ next → IsFault (rest_fault shape next words)
      → IsFault (rest_fault shape walk (word ∷ words))
  later_fails walk next word words same is =
      subst IsFault (sym (word_more shape walk word words))
      (next_fails (turn_fault shape [] walk word) _
      (subst (λ w. IsFault (rest_fault shape w words)) (sym same) is))

  -- ---- no words pass behind a use that does not

  trail_falls : (words : List Text) (rows : List Row) (left : Use) (waiting : Waiting)
      (position : ℕ) (free : List Text) → IsPlaced rules position free → Falls name rules rows left
      → IsFault (rest_fault shape (walk_at rows left waiting position true) words)
  trail_falls [] rows left waiting position free placed fault =
      end_fails rows left waiting position true fault
  trail_falls (word ∷ words) rows left waiting position free placed fault =
      turn_fails (walk_at rows left waiting position true) word words
      (operand_falls name rules rows left position free placed fault)

  module _ (rows : List Row) (left : Use) (position : ℕ) (free : List Text)
      (placed : IsPlaced rules position free) (fault : Falls name rules rows left) where
    abbrev falling : Walk
    falling = walk_at rows left idle position false

    word_falls : (word : Text) (words : List Text) → IsUtf8 word → Kind word
        → IsFault (rest_fault shape falling (word ∷ words))
    word_falls word words utf8 (End e) =
        subst (λ w. IsFault (rest_fault shape falling (w ∷ words))) (sym e)
        (later_fails falling (walk_at rows left idle position true) (codes "--") words
        (end_walked name rules rows left idle position)
        (trail_falls words rows left idle position free placed fault))
    word_falls word words utf8 (Plain other no_dash no_long no_bundle) =
        turn_fails falling word words (subst IsFault
        (sym (plain_turn name rules word other no_long no_bundle rows position left))
        (operand_falls name rules rows left position free placed fault))
    word_falls word words utf8 (Short byte bytes e other) =
        turn_fails falling word words (subst (λ w. IsFault (turn_fault shape [] falling w)) (sym e)
        (short_fails name rules rows left idle position no_short byte bytes other
        (subst IsUtf8 e utf8)))
    word_falls word words utf8 (Long byte bytes e) =
        turn_fails falling word words (subst (λ w. IsFault (turn_fault shape [] falling w)) (sym e)
        (long_fails name rules rows left idle position byte bytes (meets byte bytes) fault))

    falls : (words : List Text) → AllUtf8 words → IsFault (rest_fault shape falling words)
    falls [] utf8 = end_fails rows left idle position false fault
    falls (word ∷ words) utf8 = word_falls word words utf8.0 (kind_of_word word)

  -- ---- an argument with its value, whose use is still to be noted

  module _ (words : List Text) (is_trailing : Bool) (after : List Text → Values → Option Kept) where
    -- from each use that stands the words behind it are read
    abbrev IsReadFrom : Type 0
    IsReadFrom =
        (rows : List Row) (left : Use) (free : List Text) (values : Values) (position : ℕ)
        → Stands rows left values → IsPlaced rules position free
        → Goes (walk_at rows left idle position is_trailing) words (after free values)

    -- and from no other
    abbrev IsRefusedFrom : Type 0
    IsRefusedFrom =
        (rows : List Row) (left : Use) (position : ℕ) (free : List Text)
        → IsPlaced rules position free → Falls name rules rows left
        → IsFault (rest_fault shape (walk_at rows left idle position is_trailing) words)

    noted : IsReadFrom → IsRefusedFrom
        → (rows : List Row) (free : List Text) (values : Values) (position : ℕ) (id value : Text)
        → Has rows values → IsPlaced rules position free → Takes rules id → (first : Option Text)
        → values id ≡ first
        → Goes (walk_at rows (left_of id value) idle position is_trailing) words
        (option_and_then (λ more. after more.free more.values) (put_new free values id value first))
    noted reads refuses rows free values position id value has placed takes None new =
        reads rows (left_of id value) free (put id value values) position
        (use_stands rows values has id value takes new) placed
    noted reads refuses rows free values position id value has placed takes (Some first) old =
        fails _ _ None (refuses rows (left_of id value) position free placed
        (use_falls rows values has id value takes first old)) tt

  -- ---- behind a word `--`

  abbrev IsTrailed : List Text → Type 0
  IsTrailed words = IsReadFrom words true (λ free values. keep_all free values (map Operand words))

  trail_word : (word : Text) (words : List Text) → IsTrailed words → IsTrailed (word ∷ words)
  trail_word word words rest rows left [] values position stands placed =
      fails _ _ None (turn_fails (walk_at rows left idle position true) word words
      (operand_strays name rules rows left position placed)) tt
  trail_word word words rest rows left (id ∷ free) values position stands placed =
      let now = settled_rows rules left rows in
      let kept = option_and_then (λ more. keep_all more.free more.values (map Operand words))
      (keep_as free values id word) in
      passes (walk_at rows left idle position true)
      (walk_at now (left_of id word) idle (min (position + 1) usize_max) true) word words kept
      (operand_passes name rules rows left position id free placed stands.0)
      (trail_walked name rules rows left idle position word
      ∙ operand_walked name rules rows left position id free placed word true)
      (noted words true (λ free values. keep_all free values (map Operand words)) rest
      (λ rows left position free. trail_falls words rows left idle position free)
      now free values (min (position + 1) usize_max) id word stands.1 placed.3
      (record { long = None; place = Some position; is_required = placed.0; is = placed.2 }) (values id)
      refl)

  trail : (words : List Text) → IsTrailed words
  trail [] =
      λ rows left free values position stands placed. at_end rows left
      (record { free = free; values = values }) idle position true stands
  trail (word ∷ words) = trail_word word words (trail words)

  -- ---- the walk over the words

  abbrev IsRead : List Text → Type 0
  IsRead words =
      IsReadFrom words false (λ free values. keep_parts free values (parts_of form words))

  -- the same, where an option waits for its value
  abbrev IsReadValued : List Text → Type 0
  IsReadValued words =
      (rows : List Row) (free : List Text) (values : Values) (position : ℕ) (id : Text)
      (part : Text → Part)
      → ((value : Text) → KeepsAs (part value) id value)
      → Has rows values → IsPlaced rules position free → Takes rules id
      → Goes (walk_at rows (left_without id) (option id) position false) words
      (keep_parts free values (parts_valued form words part))

  -- an argument with its value before the words
  noted_before : (words : List Text) → AllUtf8 words → IsRead words
      → (rows : List Row) (free : List Text) (values : Values) (position : ℕ) (id value : Text)
      → Has rows values → IsPlaced rules position free → Takes rules id
      → Goes (walk_at rows (left_of id value) idle position false) words
      (then_keep (parts_of form words) (keep_as free values id value))
  noted_before words utf8 rest rows free values position id value has placed takes =
      noted words false (λ free values. keep_parts free values (parts_of form words)) rest
      (λ rows left position free placed fault. falls rows left position free placed fault words
      utf8)
      rows free values position id value has placed takes (values id) refl

  -- what is kept of an option word is what is kept of its form
  option_kept : (free : List Text) (values : Values) (byte : ℕ) (bytes : List ℕ) (words : List Text)
      (what : Form) → form (45 ∷ 45 ∷ byte ∷ bytes) ≡ what
      → keep_parts free values (parts_of form ((45 ∷ 45 ∷ byte ∷ bytes) ∷ words))
      ≡ keep_parts free values (by_form what (parts_of form words) (parts_valued form words))
  option_kept free values byte bytes words what e =
      ap (λ f. keep_parts free values (by_form f (parts_of form words) (parts_valued form words))) e

  module _ (byte : ℕ) (bytes : List ℕ) (words : List Text) (rows : List Row) (left : Use)
      (free : List Text) (values : Values) (position : ℕ) where
    abbrev dashed : Text
    dashed = 45 ∷ 45 ∷ byte ∷ bytes

    abbrev now : List Row
    now = settled_rows rules left rows

    abbrev start : Walk
    start = walk_at rows left idle position false

    refused_word : form dashed ≡ Unknown → IsFault (turn_fault shape [] start dashed)
        → Goes start (dashed ∷ words) (keep_parts free values (parts_of form (dashed ∷ words)))
    refused_word e fault =
        fails _ _ _ (turn_fails start dashed words fault)
        (subst (HasNone needed) (sym (option_kept free values byte bytes words Unknown e)) tt)

    valued_word : (id : Text) (part : Text → Part)
        → ((value : Text) → KeepsAs (part value) id value)
        → Takes rules id → form dashed ≡ Valued part
        → arg_by_long rules (name_in (byte ∷ bytes)) ≡ Some (option_built id)
        → value_in (byte ∷ bytes) ≡ None
        → IsReadValued words → Stands rows left values → IsPlaced rules position free
        → Goes start (dashed ∷ words) (keep_parts free values (parts_of form (dashed ∷ words)))
    valued_word id part keeps takes e f g valued stands placed =
        subst (Goes start (dashed ∷ words))
        (sym (option_kept free values byte bytes words (Valued part) e))
        (passes start (walk_at now (left_without id) (option id) position false) dashed words
        (keep_parts free values (parts_valued form words part))
        (option_turn name rules rows left position byte bytes (Some (option_built id)) None f g
        ∙ ap (λ fault. or_else fault []) stands.0)
        (option_walked name rules rows left position byte bytes (Some (option_built id)) None f g)
        (valued now free values position id part keeps stands.1 placed takes))

    -- the word is a part by itself, and an argument with this value
    module _ (id value : Text) (part : Part) (keeps : KeepsAs part id value)
        (is_part : form dashed ≡ Whole part) (built : Rule) (attached : Option Text)
        (f : arg_by_long rules (name_in (byte ∷ bytes)) ≡ Some built)
        (g : value_in (byte ∷ bytes) ≡ attached) where
      whole_kept : (first : Option Text) → values id ≡ first
          → keep_parts free values (parts_of form (dashed ∷ words))
          ≡ then_keep (parts_of form words) (put_new free values id value first)
      whole_kept first e =
          option_kept free values byte bytes words (Whole part) is_part
          ∙ keep_before free values part (parts_of form words)
          ∙ ap (then_keep (parts_of form words))
          (keeps free values ∙ ap (put_new free values id value) e)

      whole_word : IsRead words → IsPlaced rules position free → values id ≡ None
          → turn_by name rules rows left position byte bytes (Some built) attached ≡ []
          → (next_rows : List Row)
          → walked_by name rules rows left position byte bytes (Some built) attached
          ≡ walk_at next_rows None idle position false
          → Has next_rows (put id value values)
          → Goes start (dashed ∷ words) (keep_parts free values (parts_of form (dashed ∷ words)))
      whole_word rest placed new turn next_rows walk has =
          subst (Goes start (dashed ∷ words)) (sym (whole_kept None new))
          (passes start (walk_at next_rows None idle position false) dashed words
          (keep_parts free (put id value values) (parts_of form words))
          (option_turn name rules rows left position byte bytes (Some built) attached f g ∙ turn)
          (option_walked name rules rows left position byte bytes (Some built) attached f g ∙ walk)
          (rest next_rows None free (put id value values) position (refl, has) placed))

      again_word : (first : Text) → values id ≡ Some first
          → IsFault (turn_by name rules rows left position byte bytes (Some built) attached)
          → Goes start (dashed ∷ words) (keep_parts free values (parts_of form (dashed ∷ words)))
      again_word first old fault =
          fails _ _ _ (turn_fails start dashed words
          (subst IsFault (sym (option_turn name rules rows left position byte bytes (Some built)
          attached f g)) fault))
          (subst (HasNone needed) (sym (whole_kept (Some first) old)) tt)

    -- an option whose use follows the one that is still to be noted
    both_pass : (fault : Kinds) → Stands rows left values → fault ≡ []
        → or_else (or_else (settle_fault rules false (held_at rows left)) fault) [] ≡ []
    both_pass fault stands e =
        ap (λ before. or_else (or_else before fault) []) stands.0 ∙ ap (λ after. or_else after []) e

    second_fails : (fault : Kinds) → IsFault fault
        → IsFault (or_else (or_else (settle_fault rules false (held_at rows left)) fault) [])
    second_fails fault is =
        first_fails (or_else (settle_fault rules false (held_at rows left)) fault) []
        (next_fails (settle_fault rules false (held_at rows left)) fault is)

    module _ (rest : IsRead words) (stands : Stands rows left values)
        (placed : IsPlaced rules position free) where
      joined_word : (id : Text) (part : Part) (value : Text) → KeepsAs part id value
          → arg_by_long rules (name_in (byte ∷ bytes)) ≡ Some (option_built id)
          → value_in (byte ∷ bytes) ≡ Some value → form dashed ≡ Whole part
          → (first : Option Text) → values id ≡ first
          → Goes start (dashed ∷ words) (keep_parts free values (parts_of form (dashed ∷ words)))
      joined_word id part value keeps f g e None new =
          whole_word id value part keeps e (option_built id) (Some value) f g rest placed new
          (both_pass _ stands (use_first id (Some id) None false now value
          (has_none now values stands.1 id new)))
          (used (option_built id) (value ∷ []) now) refl (with_use now values stands.1 id value new)
      joined_word id part value keeps f g e (Some first) old =
          again_word id value part keeps e (option_built id) (Some value) f g first old
          (second_fails _ (use_again id (Some id) None false now value
          (has_some now values stands.1 id first old)))

      flag_word : (id : Text) (part : Part) → KeepsAs part id (codes "true")
          → arg_by_long rules (name_in (byte ∷ bytes)) ≡ Some (flag_built id)
          → value_in (byte ∷ bytes) ≡ None → form dashed ≡ Whole part
          → (first : Option Text) → values id ≡ first
          → Goes start (dashed ∷ words) (keep_parts free values (parts_of form (dashed ∷ words)))
      flag_word id part keeps f g e None new =
          whole_word id (codes "true") part keeps e (flag_built id) None f g rest placed new
          (both_pass _ stands (flag_first id now (has_none now values stands.1 id new)))
          (used (flag_built id) [] now) refl (with_use now values stands.1 id (codes "true") new)
      flag_word id part keeps f g e (Some first) old =
          again_word id (codes "true") part keeps e (flag_built id) None f g first old
          (second_fails _ (flag_again id now (has_some now values stands.1 id first old)))

      long_word : IsReadValued words → Meets rules form (byte ∷ bytes)
          → Goes start (dashed ∷ words) (keep_parts free values (parts_of form (dashed ∷ words)))
      long_word valued (MeetsNone f e) =
          refused_word e (long_by name rules rows left idle position byte bytes None
          (value_in (byte ∷ bytes)) f refl tt)
      long_word valued (MeetsUnneeded id attached f g e) =
          refused_word e (long_by name rules rows left idle position byte bytes
          (Some (flag_built id)) (Some attached) f g tt)
      long_word valued (MeetsValued id part keeps takes f g e) =
          valued_word id part keeps takes e f g valued stands placed
      long_word valued (MeetsJoined id part value keeps f g e) =
          joined_word id part value keeps f g e (values id) refl
      long_word valued (MeetsFlag id part keeps f g e) =
          flag_word id part keeps f g e (values id) refl

  -- ---- a word that is no option

  module _ (word : Text) (words : List Text) (other : bytes_eq word (codes "--") ≡ false)
      (no_dash : is_option word ≡ false)
      (no_long : long_of word ≡ None) (no_bundle : short_of word ≡ None) (utf8 : AllUtf8 words)
      (rest : IsRead words) where
    plain_kept : (free : List Text) (values : Values)
        → keep_parts free values (parts_of form (word ∷ words))
        ≡ then_keep (parts_of form words) (keep free values (Operand word))
    plain_kept free values =
        ap (keep_parts free values) parts
        ∙ keep_before free values (Operand word) (parts_of form words)
      where
        parts : parts_of form (word ∷ words) ≡ before (Operand word) (parts_of form words)
        parts = rw (other, no_dash) refl

    plain_word : (rows : List Row) (left : Use) (free : List Text) (values : Values) (position : ℕ)
        → Stands rows left values → IsPlaced rules position free
        → Goes (walk_at rows left idle position false) (word ∷ words)
        (keep_parts free values (parts_of form (word ∷ words)))
    plain_word rows left [] values position stands placed =
        fails _ _ _ (turn_fails (walk_at rows left idle position false) word words
        (subst IsFault (sym (plain_turn name rules word other no_long no_bundle rows position left))
        (operand_strays name rules rows left position placed)))
        (subst (HasNone needed) (sym (plain_kept [] values)) tt)
    plain_word rows left (id ∷ free) values position stands placed =
        let now = settled_rows rules left rows in
        subst (Goes (walk_at rows left idle position false) (word ∷ words))
        (sym (plain_kept (id ∷ free) values))
        (passes (walk_at rows left idle position false)
        (walk_at now (left_of id word) idle (min (position + 1) usize_max) false) word words
        (then_keep (parts_of form words) (keep_as free values id word))
        (plain_turn name rules word other no_long no_bundle rows position left
        ∙ operand_passes name rules rows left position id free placed stands.0)
        (plain_walked name rules word other no_long no_bundle rows position left
        ∙ operand_walked name rules rows left position id free placed word false)
        (noted_before words utf8 rest now free values (min (position + 1) usize_max) id word
        stands.1 placed.3
        (record { long = None; place = Some position; is_required = placed.0; is = placed.2 })))

    value_word : (rows : List Row) (free : List Text) (values : Values) (position : ℕ) (id : Text)
        (part : Text → Part)
        → ((value : Text) → KeepsAs (part value) id value)
        → Has rows values → IsPlaced rules position free → Takes rules id
        → Goes (walk_at rows (left_without id) (option id) position false) (word ∷ words)
        (keep_parts free values (parts_valued form (word ∷ words) part))
    value_word rows free values position id part keeps has placed takes =
        subst (Goes (walk_at rows (left_without id) (option id) position false) (word ∷ words))
        (sym (ap (keep_parts free values) parts
        ∙ keep_before free values (part word) (parts_of form words)
        ∙ ap (then_keep (parts_of form words)) (keeps word free values)))
        (passes (walk_at rows (left_without id) (option id) position false)
        (walk_at rows (left_of id word) idle position false) word words
        (then_keep (parts_of form words) (keep_as free values id word))
        (value_turn name rules word other no_long no_bundle rows position id)
        (value_walked name rules word other no_long no_bundle rows position id takes)
        (noted_before words utf8 rest rows free values position id word has placed takes))
      where
        parts : parts_valued form (word ∷ words) part ≡ before (part word) (parts_of form words)
        parts = rw no_dash refl

  -- ---- one word, by its kind

  short_kept : (free : List Text) (values : Values) (byte : ℕ) (bytes : List ℕ) (words : List Text)
      → (byte == 45) ≡ false
      → HasNone needed (keep_parts free values (parts_of form ((45 ∷ byte ∷ bytes) ∷ words)))
  short_kept free values byte bytes words other =
      subst (λ parts. HasNone needed (keep_parts free values parts)) (sym none) tt
    where
      none : parts_of form ((45 ∷ byte ∷ bytes) ∷ words) ≡ None
      none = rw (other, short_form byte bytes other) refl

  read_word : (word : Text) (words : List Text) → IsUtf8 word → AllUtf8 words → Kind word
      → IsRead words → IsReadValued words → IsRead (word ∷ words)
  read_word word words utf8 all (End e) rest valued rows left free values position stands placed =
      subst (λ w. Goes (walk_at rows left idle position false) (w ∷ words)
      (keep_parts free values (parts_of form (w ∷ words)))) (sym e)
      (passes (walk_at rows left idle position false) (walk_at rows left idle position true)
      (codes "--") words (keep_all free values (map Operand words))
      (end_turn name rules rows left idle position) (end_walked name rules rows left idle position)
      (trail words rows left free values position stands placed))
  read_word word words utf8 all (Plain other no_dash no_long no_bundle) rest valued rows left free
      values position stands placed =
      plain_word word words other no_dash no_long no_bundle all rest rows left free values position
      stands placed
  read_word word words utf8 all (Short byte bytes e other) rest valued rows left free values
      position stands placed =
      subst (λ w. Goes (walk_at rows left idle position false) (w ∷ words)
      (keep_parts free values (parts_of form (w ∷ words)))) (sym e)
      (fails _ _ _ (turn_fails (walk_at rows left idle position false) (45 ∷ byte ∷ bytes) words
      (short_fails name rules rows left idle position no_short byte bytes other
      (subst IsUtf8 e utf8)))
      (short_kept free values byte bytes words other))
  read_word word words utf8 all (Long byte bytes e) rest valued rows left free values position
      stands placed =
      subst (λ w. Goes (walk_at rows left idle position false) (w ∷ words)
      (keep_parts free values (parts_of form (w ∷ words)))) (sym e)
      (long_word byte bytes words rows left free values position rest stands placed valued
      (meets byte bytes))

  module _ (rows : List Row) (free : List Text) (values : Values) (position : ℕ) (id : Text)
      (part : Text → Part) (takes : Takes rules id) where
    abbrev waiting : Walk
    waiting = walk_at rows (left_without id) (option id) position false

    -- a word that is no value
    other_word : (word : Text) (words : List Text) → is_option word ≡ true
        → IsFault (rest_fault shape waiting (word ∷ words))
        → Goes waiting (word ∷ words) (keep_parts free values
        (parts_valued form (word ∷ words) part))
    other_word word words dash fault =
        fails _ _ _ fault (subst (λ parts. HasNone needed (keep_parts free values parts)) (sym none)
        tt)
      where
        none : parts_valued form (word ∷ words) part ≡ None
        none = rw dash refl

  read_value : (word : Text) (words : List Text) → IsUtf8 word → AllUtf8 words → Kind word
      → IsRead words → IsReadValued (word ∷ words)
  read_value word words utf8 all (Plain other no_dash no_long no_bundle) rest rows free values
      position id part keeps has placed takes =
      value_word word words other no_dash no_long no_bundle all rest rows free values position id
      part keeps has placed takes
  read_value word words utf8 all (End e) rest rows free values position id part keeps has placed
      takes =
      subst (λ w. Goes (waiting rows free values position id part takes) (w ∷ words)
      (keep_parts free values (parts_valued form (w ∷ words) part))) (sym e)
      (other_word rows free values position id part takes (codes "--") words refl
      (later_fails (waiting rows free values position id part takes)
      (walk_at rows (left_without id) (option id) position true) (codes "--") words
      (end_walked name rules rows (left_without id) (option id) position)
      (trail_falls words rows (left_without id) (option id) position free placed
      (missing_falls rows id takes))))
  read_value word words utf8 all (Short byte bytes e other) rest rows free values position id part
      keeps has placed takes =
      subst (λ w. Goes (waiting rows free values position id part takes) (w ∷ words)
      (keep_parts free values (parts_valued form (w ∷ words) part))) (sym e)
      (other_word rows free values position id part takes (45 ∷ byte ∷ bytes) words refl
      (turn_fails (waiting rows free values position id part takes) (45 ∷ byte ∷ bytes) words
      (short_fails name rules rows (left_without id) (option id) position no_short byte bytes other
      (subst IsUtf8 e utf8))))
  read_value word words utf8 all (Long byte bytes e) rest rows free values position id part keeps
      has placed takes =
      subst (λ w. Goes (waiting rows free values position id part takes) (w ∷ words)
      (keep_parts free values (parts_valued form (w ∷ words) part))) (sym e)
      (other_word rows free values position id part takes (45 ∷ 45 ∷ byte ∷ bytes) words refl
      (turn_fails (waiting rows free values position id part takes) (45 ∷ 45 ∷ byte ∷ bytes) words
      (long_fails name rules rows (left_without id) (option id) position byte bytes
      (meets byte bytes) (missing_falls rows id takes))))

  -- ---- all words

  mutual
    read : (words : List Text) → AllUtf8 words → IsRead words
    read [] utf8 =
        λ rows left free values position stands placed. at_end rows left
        (record { free = free; values = values }) idle position false stands
    read (word ∷ words) utf8 =
        read_word word words utf8.0 utf8.1 (kind_of_word word) (read words utf8.1)
        (read_valued words utf8.1)

    read_valued : (words : List Text) → AllUtf8 words → IsReadValued words
    read_valued [] utf8 = λ rows free values position id part keeps has placed takes.
        fails _ _ None (end_fails rows (left_without id) (option id) position false
        (missing_falls rows id takes)) tt
    read_valued (word ∷ words) utf8 =
        read_value word words utf8.0 utf8.1 (kind_of_word word) (read words utf8.1)

  -- what clap finds in the words is what is kept of their parts
  pub agrees : (words : List Text) → AllUtf8 words
      → Agrees needed Reads (level_fault shape [] nothing_held words false [])
      (rows_after rules [] words) (keep_parts names nothing (parts_of form words))
  agrees words utf8 = read words utf8 [] None names nothing 1 (refl, nothing_found) placed_first
