-- What a word does, where clap's walk over the words stands.
use Rattle.std.proofs.Common.{◌≡◌, ◌∙◌, ◌+◌, ◌&&◌, ◌||◌, ◌==◌, ℕ, Bool, true, false, cond, List, []}
use Rattle.std.proofs.Common.{◌∷◌, codes, bytes_eq, drop, length, min, Option, Some, None, refl}
use Rattle.std.proofs.Common.{sym, ap, subst}
use Rattle.std.specs.Option.{option_map_or}
use Rattle.std.specs.Prelude.{encode_utf8}
use Rattle.std.specs.Str.{IsUtf8}
use Rattle.clap.specs.Lexer.{long_of, short_of, usize_max}
use Rattle.clap.specs.Walk.{Step, after_flag, after_step, long_met, pushed, subcommand_met}
use Rattle.clap.specs.Walk.{to_positional, Held, Row, Rule, Text, Walk, Waiting, idle, option}
use Rattle.clap.specs.Walk.{positional, arg_by_index, arg_by_long, arg_by_short, settled}
use Rattle.clap.specs.Walk.{settled_rows, walked, is_pending, takes_several}
use Rattle.clap.specs.Walk as walking
use Rattle.clap.specs.Simple.{Shape}
use Rattle.clap.specs.Kinds.{Kinds, or_else}
use Rattle.clap.specs.Faults.{bundle_step_fault, positional_fault, short_fault, flags_fault}
use Rattle.clap.specs.Faults.{settle_fault, stray_fault, flag_word_fault, step_fault, turn_fault}
use Rattle.clap.specs.Faults.{bundle_fault, long_fault}
use Rattle.command_words.specs.Parts.{Part, Form, Unknown, Whole, Valued}
use Rattle.command_words.proofs.Kept.{KeepsAs}
use Rattle.command_words.proofs.ClapFaults.{IsFault, first_fails}
use Rattle.command_words.proofs.ClapRows.{same_name}
use Rattle.command_words.proofs.ClapUses.{IsPlaced, Takes, flag_built, operand_at, option_built}
use Rattle.command_words.proofs.WordForms.{more_chars, name_in, value_in}

abbrev pub shape_with : (name : Text) → List Rule → Shape
shape_with name rules = record {
  name = name;
  aliases = [];
  rules = rules;
  is_plain = true;
  is_leaf = true;
  no_binary_name = true;
  disable_help_flag = true;
  disable_help_subcommand = true;
  disable_version_flag = false;
  propagate_version = false;
  has_version = false;
  has_long_version = false;
  args_override_self = false;
  arg_required_else_help = false;
  subcommand_required = false;
  subcommand_negates_reqs = false;
  is_built = true;
}

-- what an option word is to clap, by its text behind the dashes, and to the definitions
pub data Meets (rules : List Rule) (form : List ℕ → Form) (text : List ℕ) : Type 0 where
  MeetsNone : arg_by_long rules (name_in text) ≡ None → form (45 ∷ 45 ∷ text) ≡ Unknown
      → Meets rules form text
  MeetsValued : (id : Text) (part : Text → Part) → ((value : Text) → KeepsAs (part value) id value)
      → Takes rules id → arg_by_long rules (name_in text) ≡ Some (option_built id)
      → value_in text ≡ None
      → form (45 ∷ 45 ∷ text) ≡ Valued part → Meets rules form text
  MeetsJoined : (id : Text) (part : Part) (value : Text) → KeepsAs part id value
      → arg_by_long rules (name_in text) ≡ Some (option_built id) → value_in text ≡ Some value
      → form (45 ∷ 45 ∷ text) ≡ Whole part → Meets rules form text
  MeetsFlag : (id : Text) (part : Part) → KeepsAs part id (codes "true")
      → arg_by_long rules (name_in text) ≡ Some (flag_built id) → value_in text ≡ None
      → form (45 ∷ 45 ∷ text) ≡ Whole part → Meets rules form text
  MeetsUnneeded : (id value : Text) → arg_by_long rules (name_in text) ≡ Some (flag_built id)
      → value_in text ≡ Some value
      → form (45 ∷ 45 ∷ text) ≡ Unknown → Meets rules form text

-- ---- where the walk stands

abbrev pub Use : Type 0
Use = Option (Text × List Text)

-- the argument with its value, or still without one, of which the use is still to be noted
abbrev pub left_of : (id value : Text) → Use
left_of id value = Some (id, value ∷ [])

abbrev pub left_without : Text → Use
left_without id = Some (id, [])

abbrev pub held_at : List Row → Use → Held
held_at rows left = record { rows = rows; pending = left; skip = 0 }

abbrev pub walk_at : List Row → Use → Waiting → ℕ → Bool → Walk
walk_at rows left waiting position is_trailing =
    record {
      held = held_at rows left;
      waiting = waiting;
      position = position;
      is_trailing = is_trailing;
      stopped = None;
    }

abbrev walk_at_held : Held → ℕ → Bool → Walk
walk_at_held held position is_trailing =
    record {
      held = held;
      waiting = idle;
      position = position;
      is_trailing = is_trailing;
      stopped = None;
    }

no_subcommand : (waiting : Waiting) (word : Text) → subcommand_met [] waiting word ≡ None
no_subcommand idle word = refl
no_subcommand (option id) word = refl
no_subcommand positional word = refl

never_both : {A : Type 0} (b : Bool) (x y : A) → cond (b && false) x y ≡ y
never_both true x y = refl
never_both false x y = refl

no_trailing : (b : Bool) → (b || false) ≡ b
no_trailing true = refl
no_trailing false = refl

module _ (name : Text) (rules : List Rule) where
  abbrev pub shape : Shape
  shape = shape_with name rules

  -- the use that is still to be noted is refused
  abbrev pub Falls : List Row → Use → Type 0
  Falls rows left = IsFault (settle_fault rules false (held_at rows left))

  -- ---- a word `--`, and words that begin with a dash

  module _ (rows : List Row) (left : Use) (waiting : Waiting) (position : ℕ) where
    abbrev here : Walk
    here = walk_at rows left waiting position false

    pub end_walked : walked rules [] here (codes "--") ≡ walk_at rows left waiting position true
    unfolding walked
    end_walked = rw (no_subcommand waiting (codes "--")) refl

    pub end_turn : turn_fault shape [] here (codes "--") ≡ []
    end_turn = rw (no_subcommand waiting (codes "--")) refl

    module _ (no_short : (char : ℕ) → arg_by_short rules char ≡ None) where
      bundle_fails : (byte : ℕ) (bytes : List ℕ) → IsUtf8 (45 ∷ byte ∷ bytes)
          → IsFault (bundle_fault rules false (byte ∷ bytes) (held_at rows left))
      unfolding flags_fault
      bundle_fails byte bytes utf8 =
          let char = more_chars byte bytes utf8 in
          subst (λ c. IsFault (bundle_step_fault rules false c (byte ∷ bytes) 0 (held_at rows left)
          (flags_fault rules false (length bytes)))) (sym char.1)
          (subst (λ found. IsFault (short_fault rules false found
          (drop (length (encode_utf8 char.0)) (byte ∷ bytes)) (held_at rows left)
          (flags_fault rules false (length bytes)
          (drop (length (encode_utf8 char.0)) (byte ∷ bytes)) 0))) (sym (no_short char.0)) tt)

      pub short_fails : (byte : ℕ) (bytes : List ℕ) → (byte == 45) ≡ false
          → IsUtf8 (45 ∷ byte ∷ bytes) → IsFault (turn_fault shape [] here (45 ∷ byte ∷ bytes))
      short_fails byte bytes other utf8 =
          let flags : short_of (45 ∷ byte ∷ bytes) ≡ Some (byte ∷ bytes) = rw other refl in
          rw (no_subcommand waiting (45 ∷ byte ∷ bytes), other, flag_word_fault, flags)
          (first_fails (bundle_fault rules false (byte ∷ bytes) (held_at rows left)) _
          (bundle_fails byte bytes utf8))

    module _ (byte : ℕ) (bytes : List ℕ) where
      long_refused : IsFault (long_fault rules false (arg_by_long rules (name_in (byte ∷ bytes)))
          (value_in (byte ∷ bytes)) (held_at rows left))
          → IsFault (turn_fault shape [] here (45 ∷ 45 ∷ byte ∷ bytes))
      long_refused fault =
          rw (no_subcommand waiting (45 ∷ 45 ∷ byte ∷ bytes))
          (first_fails (long_fault rules false (arg_by_long rules (name_in (byte ∷ bytes)))
          (value_in (byte ∷ bytes)) (held_at rows left)) _ fault)

      pub long_by : (met : Option Rule) (value : Option Text)
          → arg_by_long rules (name_in (byte ∷ bytes)) ≡ met → value_in (byte ∷ bytes) ≡ value
          → IsFault (long_fault rules false met value (held_at rows left))
          → IsFault (turn_fault shape [] here (45 ∷ 45 ∷ byte ∷ bytes))
      long_by met value e f fault =
          long_refused (subst (λ m. IsFault
          (long_fault rules false m (value_in (byte ∷ bytes)) (held_at rows left))) (sym e)
          (subst (λ v. IsFault (long_fault rules false met v (held_at rows left))) (sym f) fault))

      -- no option passes behind a left that does not
      pub long_fails : {form : List ℕ → Form} → Meets rules form (byte ∷ bytes) → Falls rows left
          → IsFault (turn_fault shape [] here (45 ∷ 45 ∷ byte ∷ bytes))
      long_fails (MeetsNone e form_is) fault = long_by None (value_in (byte ∷ bytes)) e refl tt
      long_fails (MeetsValued id part keeps takes e f form_is) fault =
          long_by (Some (option_built id)) None e f fault
      long_fails (MeetsJoined id part value keeps e f form_is) fault =
          long_by (Some (option_built id)) (Some value) e f
          (first_fails (settle_fault rules false (held_at rows left)) _ fault)
      long_fails (MeetsFlag id part keeps e f form_is) fault =
          long_by (Some (flag_built id)) None e f
          (first_fails (settle_fault rules false (held_at rows left)) _ fault)
      long_fails (MeetsUnneeded id value e f form_is) fault =
          long_by (Some (flag_built id)) (Some value) e f tt

  -- ---- an option, where nothing waits for a value

  module _ (rows : List Row) (left : Use) (position : ℕ) (byte : ℕ) (bytes : List ℕ) where
    abbrev option_met_by : Option Rule → Option Text → Held × Step
    option_met_by met value =
        after_flag rules idle (45 ∷ 45 ∷ byte ∷ bytes)
        (long_met rules met value (held_at rows left)).0
        (long_met rules met value (held_at rows left)).1

    abbrev pub turn_by : Option Rule → Option Text → Kinds
    turn_by met value =
        or_else (long_fault rules false met value (held_at rows left))
        (step_fault shape position (option_met_by met value).0 (option_met_by met value).1)

    abbrev pub walked_by : Option Rule → Option Text → Walk
    walked_by met value =
        after_step rules (45 ∷ 45 ∷ byte ∷ bytes) (walk_at rows left idle position false)
        (option_met_by met value).0 (option_met_by met value).1

    module _ (met : Option Rule) (value : Option Text)
        (e : arg_by_long rules (name_in (byte ∷ bytes)) ≡ met) (f : value_in (byte ∷ bytes) ≡ value)
      where
        pub option_turn : turn_fault shape [] (walk_at rows left idle position false)
            (45 ∷ 45 ∷ byte ∷ bytes) ≡ turn_by met value
        option_turn = λ i. turn_by (e i) (f i)

        pub option_walked : walked rules [] (walk_at rows left idle position false)
            (45 ∷ 45 ∷ byte ∷ bytes) ≡ walked_by met value
        unfolding walked
        option_walked = λ i. walked_by (e i) (f i)

  -- ---- a word that is no option

  module _ (word : Text) (other : bytes_eq word (codes "--") ≡ false)
      (no_long : long_of word ≡ None) (no_bundle : short_of word ≡ None) (rows : List Row)
      (position : ℕ) where
    pub plain_walked : (left : Use) → walked rules [] (walk_at rows left idle position false) word
        ≡ to_positional rules (arg_by_index rules position) word
        (walk_at rows left idle position false) (held_at rows left)
    unfolding walked
    plain_walked left = rw (other, no_long, no_bundle) refl

    pub plain_turn : (left : Use)
        → turn_fault shape [] (walk_at rows left idle position false) word
        ≡ step_fault shape position (held_at rows left) walking.value
    plain_turn left = rw (other, no_long, no_bundle) refl

    -- where an option waits for its value
    pub value_walked : (id : Text) → Takes rules id
        → walked rules [] (walk_at rows (left_without id) (option id) position false) word
        ≡ walk_at rows (left_of id word) idle position false
    unfolding walked
    value_walked id takes = rw (other, no_long, no_bundle, takes.is, same_name id) refl

    pub value_turn : (id : Text)
        → turn_fault shape [] (walk_at rows (left_without id) (option id) position false) word ≡ []
    value_turn id = rw (other, no_long, no_bundle) refl

  pub trail_walked : (rows : List Row) (left : Use) (waiting : Waiting) (position : ℕ) (word : Text)
      → walked rules [] (walk_at rows left waiting position true) word
      ≡ to_positional rules (arg_by_index rules position) word
      (walk_at rows left waiting position true) (held_at rows left)
  unfolding walked
  trail_walked rows left waiting position word = refl

  -- ---- an operand

  module _ (rows : List Row) (left : Use) (position : ℕ) where
    abbrev StepFails : Option Rule → Type 0
    StepFails met =
        IsFault (option_map_or (λ a. positional_fault rules false a (held_at rows left)) met
        (stray_fault shape))

    module _ (id : Text) (free : List Text) (placed : IsPlaced rules position (id ∷ free)) where
      -- it passes where the left before it does
      pub operand_passes : settle_fault rules false (held_at rows left) ≡ []
          → step_fault shape position (held_at rows left) walking.value ≡ []
      operand_passes passed =
          subst (λ met. option_map_or (λ a. positional_fault rules false a (held_at rows left)) met
          (stray_fault shape) ≡ []) (sym placed.1)
          (never_both (is_pending (operand_at position id placed.0) left) []
          (settle_fault rules false (held_at rows left)) ∙ passed)

      pub operand_walked : (word : Text) (is_trailing : Bool)
          → to_positional rules (arg_by_index rules position) word
          (walk_at rows left idle position is_trailing) (held_at rows left)
          ≡ walk_at (settled_rows rules left rows) (left_of id word) idle
          (min (position + 1) usize_max) is_trailing
      operand_walked word is_trailing =
          ap (λ met. to_positional rules met word (walk_at rows left idle position is_trailing)
          (held_at rows left)) placed.1
          ∙ ap (λ held. walk_at_held (pushed id word held) (min (position + 1) usize_max)
          (is_trailing || false))
          (never_both (is_pending (operand_at position id placed.0) left) (held_at rows left)
          (settled rules (held_at rows left)))
          ∙ ap (λ t. walk_at (settled_rows rules left rows) (left_of id word) idle
          (min (position + 1) usize_max) t) (no_trailing is_trailing)

    -- and no one behind the last
    pub operand_strays : IsPlaced rules position []
        → IsFault (step_fault shape position (held_at rows left) walking.value)
    operand_strays placed = subst StepFails (sym placed) tt

    -- no operand passes behind a left that does not
    pub operand_falls : (free : List Text) → IsPlaced rules position free → Falls rows left
        → IsFault (step_fault shape position (held_at rows left) walking.value)
    operand_falls [] placed fault = operand_strays placed
    operand_falls (id ∷ free) placed fault =
        subst StepFails (sym placed.1)
        (subst IsFault (sym (never_both (is_pending (operand_at position id placed.0) left) []
        (settle_fault rules false (held_at rows left)))) fault)
