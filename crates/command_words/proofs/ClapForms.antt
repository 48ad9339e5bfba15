-- The option words of each command, to clap and to the definitions.
use Rattle.std.proofs.Common.{◌≡◌, ◌∙◌, ◌+◌, ℕ, ◌==◌, Bool, true, false, List, [], ◌∷◌, ◌++◌, take}
use Rattle.std.proofs.Common.{drop, length, nat_eq, codes, bytes_eq, Option, Some, None}
use Rattle.std.proofs.Common.{if◌then◌else◌, refl, sym, ap, subst, ne_eqb}
use Rattle.std.specs.List.{starts_with}
use Rattle.std.proofs.lemmas.Slice.Eq.{bytes_eq-Decides}
use Rattle.std.proofs.lemmas.List.{take-append-drop}
use Rattle.clap.specs.Walk.{Rule, Text, arg_by_id, arg_by_long}
use Rattle.command_words.specs.Parts.{Part, Nodes, Proof, Check, Form, Unknown, Whole, Valued}
use Rattle.command_words.specs.Parts.{check_form, gen_form, option_or, limit_form}
use Rattle.command_words.proofs.ClapTurns.{Meets, MeetsNone, MeetsValued, MeetsJoined, MeetsFlag}
use Rattle.command_words.proofs.ClapTurns.{MeetsUnneeded}
use Rattle.command_words.proofs.ClapUses.{Takes, operand_built, option_built, flag_built}
use Rattle.command_words.proofs.ClapUses.{optional_built}
use Rattle.command_words.specs.Given.{pair_names}
use Rattle.command_words.proofs.Kept.{KeepsAs}
use Rattle.command_words.proofs.WordForms.{IsCut, cut, name_in, value_in}

abbrev pub check_rules : List Rule
check_rules =
    operand_built 1 (codes "model") ∷ option_built (codes "nodes") ∷ option_built (codes "proof")
    ∷ []

abbrev pub files_rules : List Rule
files_rules =
    operand_built 1 (codes "model") ∷ operand_built 2 (codes "file") ∷ option_built (codes "nodes")
    ∷ []

abbrev pub delay_rules : List Rule
delay_rules =
    operand_built 1 (codes "model") ∷ operand_built 2 (codes "from") ∷ operand_built 3 (codes "to")
    ∷ option_built (codes "nodes") ∷ []

-- the places of `strong` for pairs
abbrev pair_rules : ℕ → List Text → List Rule
pair_rules place [] = []
pair_rules place (name ∷ names) = optional_built place name ∷ pair_rules (place + 1) names

abbrev pub strong_rules : List Rule
strong_rules =
    (operand_built 1 (codes "model") ∷ pair_rules 2 pair_names) ++ option_built (codes "nodes") ∷ []

abbrev pub gen_rules : List Rule
gen_rules = operand_built 1 (codes "number") ∷ flag_built (codes "check") ∷ []

-- ---- no option has one dash

turned : (byte : ℕ) → (byte == 45) ≡ false → (45 == byte) ≡ false
turned byte other = ne_eqb 45 byte (λ e.
    let bad : (45 == 45) ≡ false = subst (λ b. (b == 45) ≡ false) (sym e) other in
    cc)

pub check_short : (byte : ℕ) (bytes : List ℕ) → (byte == 45) ≡ false
    → check_form (45 ∷ byte ∷ bytes) ≡ Unknown
check_short byte bytes other = rw (other, turned byte other) refl

pub limit_short : (byte : ℕ) (bytes : List ℕ) → (byte == 45) ≡ false
    → limit_form (45 ∷ byte ∷ bytes) ≡ Unknown
limit_short byte bytes other = rw (other, turned byte other) refl

pub gen_short : (byte : ℕ) (bytes : List ℕ) → (byte == 45) ≡ false
    → gen_form (45 ∷ byte ∷ bytes) ≡ Unknown
gen_short byte bytes other = rw other refl

-- ---- texts whose name is known

alone : (name text : List ℕ) → bytes_eq name (name_in text) ≡ true → IsCut text None → text ≡ name
alone name text e is = sym is ∙ sym ((bytes_eq-Decides name (name_in text)).0 e)

joined : (name text value : List ℕ) → bytes_eq name (name_in text) ≡ true → IsCut text (Some value)
    → text ≡ name ++ 61 ∷ value
joined name text value e is =
    is ∙ ap (λ n. n ++ 61 ∷ value) (sym ((bytes_eq-Decides name (name_in text)).0 e))

-- a text with another name is one of the other options
other_or : (name : Text) → bytes_eq name (name_in name) ≡ true
    → ((more : Text) → bytes_eq name (name_in ((name ++ codes "=") ++ more)) ≡ true)
    → (part : Text → Part) (others : Form) (text : Text) → bytes_eq name (name_in text) ≡ false
    → option_or (45 ∷ 45 ∷ name) part others (45 ∷ 45 ∷ text) ≡ others
other_or name named named_before part others text other =
    go (bytes_eq word option) refl (starts_with nat_eq word joined_option) refl
  where
    word : Text
    word = 45 ∷ 45 ∷ text

    option : Text
    option = 45 ∷ 45 ∷ name

    joined_option : Text
    joined_option = 45 ∷ 45 ∷ (name ++ codes "=")

    never : (t : Text) → text ≡ t → bytes_eq name (name_in t) ≡ true → ⊥
    never t is same =
        let here = subst (λ t. bytes_eq name (name_in t) ≡ false) is other in
        let bad : true ≡ false = sym same ∙ here in
        cc

    go : (is_alone : Bool) → bytes_eq word option ≡ is_alone → (is_joined : Bool)
        → starts_with nat_eq word joined_option ≡ is_joined
        → (if is_alone then Valued part
        else if is_joined then Whole (part (drop (length option + 1) word))
        else others) ≡ others
    go true e is_joined f =
        absurd (never name (ap (drop 2) ((bytes_eq-Decides word option).0 e)) named)
    go false e true f =
        let n = length joined_option in
        let begins = (bytes_eq-Decides joined_option (take n word)).0 f in
        let is : word ≡ joined_option ++ drop n word =
        sym (take-append-drop n word) ∙ ap (λ t. t ++ drop n word) (sym begins) in
        absurd (never ((name ++ codes "=") ++ drop n word) (ap (drop 2) is)
        (named_before (drop n word)))
    go false e false f = refl

-- ---- what clap and the definitions make of each text

option_taken : (rules : List Rule) (name : Text) → arg_by_id rules name ≡ Some (option_built name)
    → Takes rules name
option_taken rules name is = record { long = Some name; place = None; is_required = false; is = is }

-- the text has the name of this option, which has a value
module _ (rules : List Rule) (form : List ℕ → Form) (name : Text) (part : Text → Part)
    (keeps : (value : Text) → KeepsAs (part value) name value)
    (by_id : arg_by_id rules name ≡ Some (option_built name))
    (by_long : arg_by_long rules name ≡ Some (option_built name))
    (form_alone : form (45 ∷ 45 ∷ name) ≡ Valued part)
    (form_joined : (value : Text) → form (45 ∷ 45 ∷ (name ++ 61 ∷ value)) ≡ Whole (part value))
  where
    option_meets : (text : Text) → bytes_eq name (name_in text) ≡ true → (value : Option Text)
        → value_in text ≡ value → IsCut text value → Meets rules form text
    option_meets text e None f is =
        MeetsValued name part keeps (option_taken rules name by_id)
        (subst (λ n. arg_by_long rules n ≡ Some (option_built name))
        ((bytes_eq-Decides name (name_in text)).0 e) by_long) f
        (subst (λ t. form (45 ∷ 45 ∷ t) ≡ Valued part) (sym (alone name text e is)) form_alone)
    option_meets text e (Some value) f is =
        MeetsJoined name (part value) value (keeps value)
        (subst (λ n. arg_by_long rules n ≡ Some (option_built name))
        ((bytes_eq-Decides name (name_in text)).0 e) by_long) f
        (subst (λ t. form (45 ∷ 45 ∷ t) ≡ Whole (part value)) (sym (joined name text value e is))
        (form_joined value))

pub check_met : (text : Text) → Meets check_rules check_form text
check_met text =
    go (bytes_eq (codes "nodes") (name_in text)) refl (bytes_eq (codes "proof") (name_in text)) refl
  where
    go : (is_nodes : Bool) → bytes_eq (codes "nodes") (name_in text) ≡ is_nodes → (is_proof : Bool)
        → bytes_eq (codes "proof") (name_in text) ≡ is_proof → Meets check_rules check_form text
    go true e is_proof f =
        option_meets check_rules check_form (codes "nodes") Nodes (λ value free values. refl) refl
        refl refl (λ value. refl) text e (value_in text) refl (cut text)
    go false e true f =
        option_meets check_rules check_form (codes "proof") Proof (λ value free values. refl) refl
        refl refl (λ value. refl) text f (value_in text) refl (cut text)
    go false e false f = MeetsNone (rw (e, f) refl)
        (other_or (codes "nodes") refl (λ more. refl) Nodes _ text e
        ∙ other_or (codes "proof") refl (λ more. refl) Proof Unknown text f)

-- commands whose one option is `--nodes`
module _ (rules : List Rule)
    (by_id : arg_by_id rules (codes "nodes") ≡ Some (option_built (codes "nodes")))
    (by_long : arg_by_long rules (codes "nodes") ≡ Some (option_built (codes "nodes")))
    (no_other : (text : Text) → bytes_eq (codes "nodes") (name_in text) ≡ false
    → arg_by_long rules (name_in text) ≡ None) where
  limit_met : (text : Text) → Meets rules limit_form text
  limit_met text = go (bytes_eq (codes "nodes") (name_in text)) refl
    where
      go : (is_nodes : Bool) → bytes_eq (codes "nodes") (name_in text) ≡ is_nodes
          → Meets rules limit_form text
      go true e =
          option_meets rules limit_form (codes "nodes") Nodes (λ value free values. refl) by_id
          by_long refl (λ value. refl) text e (value_in text) refl (cut text)
      go false e =
          MeetsNone (no_other text e)
          (other_or (codes "nodes") refl (λ more. refl) Nodes Unknown text e)

pub files_met : (text : Text) → Meets files_rules limit_form text
files_met = limit_met files_rules refl refl (λ text e. rw e refl)

pub delay_met : (text : Text) → Meets delay_rules limit_form text
delay_met = limit_met delay_rules refl refl (λ text e. rw e refl)

pub strong_met : (text : Text) → Meets strong_rules limit_form text
strong_met = limit_met strong_rules refl refl (λ text e. rw e refl)

-- no other text is the flag
other_check : (text : Text) → bytes_eq (codes "check") (name_in text) ≡ false
    → gen_form (45 ∷ 45 ∷ text) ≡ Unknown
other_check text other = go (bytes_eq (45 ∷ 45 ∷ text) (codes "--check")) refl
  where
    go : (alone : Bool) → bytes_eq (45 ∷ 45 ∷ text) (codes "--check") ≡ alone
        → (if alone then Whole Check else Unknown) ≡ Unknown
    go true e =
        let is = (bytes_eq-Decides (45 ∷ 45 ∷ text) (codes "--check")).0 e in
        let named : bytes_eq (codes "check") (name_in (codes "check")) ≡ true = refl in
        let here = subst (λ t. bytes_eq (codes "check") (name_in (drop 2 t)) ≡ false) is other in
        let bad : true ≡ false = sym named ∙ here in
        cc
    go false e = refl

pub gen_met : (text : Text) → Meets gen_rules gen_form text
gen_met text = go (bytes_eq (codes "check") (name_in text)) refl (value_in text) refl (cut text)
  where
    go : (is_check : Bool) → bytes_eq (codes "check") (name_in text) ≡ is_check
        → (value : Option Text) → value_in text ≡ value → IsCut text value
        → Meets gen_rules gen_form text
    go false e value f is = MeetsNone (rw e refl) (other_check text e)
    go true e None f is = MeetsFlag (codes "check") Check (λ free values. refl) (rw e refl) f
        (subst (λ t. gen_form (45 ∷ 45 ∷ t) ≡ Whole Check) (sym (alone (codes "check") text e is))
        refl)
    go true e (Some value) f is = MeetsUnneeded (codes "check") value (rw e refl) f
        (subst (λ t. gen_form (45 ∷ 45 ∷ t) ≡ Unknown)
        (sym (joined (codes "check") text value e is)) refl)
