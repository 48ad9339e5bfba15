-- What the words are, by what clap finds or that it refuses them.
use Rattle.std.proofs.Common.{◌≡◌, ◌≢◌, ◌∙◌, ℕ, Bool, true, false, List, [], ◌∷◌, map, codes}
use Rattle.std.proofs.Common.{string_bytes, String, Option, Some, None, unwrap_or, ⊎_elim, refl}
use Rattle.std.proofs.Common.{sym, ap, subst}
use Rattle.std.specs.Option.{option_and_then}
use Rattle.std.specs.Prelude.{MatchOption}
use Rattle.std.proofs.lemmas.Str.{IsUtf8-string_bytes}
use Rattle.clap.specs.Values.{bool_text}
use Rattle.clap.specs.Words.{App, Row, Text, HasKind, IsAmong, Kinds, HasMatchesOf, fault_of}
use Rattle.clap.specs.Words.{first_value, found_of, is_simple, is_simple_and_free, kind_of}
use Rattle.clap.specs.Words.{matches_of, one_text, rows_of}
use Rattle.clap.specs.declared.error.Error.{Error}
use Rattle.clap.specs.declared.error.kind.ErrorKind.TheVariants.{OutOfMemory}
use Rattle.clap.specs.declared.parser.matches.ArgMatches.{ArgMatches}
use Rattle.clap.proofs.WalkLemmas.{both, first_value-rows, one_text-rows}
use Rattle.command_words.specs.Given.{Values, check_app, check_with, delay_app, delay_names}
use Rattle.command_words.specs.Given.{delay_with, file_names, files_app, gen_app, gen_with}
use Rattle.command_words.specs.Given.{recheck_with, replay_with, strong_app, strong_names}
use Rattle.command_words.specs.Given.{strong_with}
use Rattle.command_words.specs.Parts.{Part, Form, parts_of, check_form, gen_form, limit_form}
use Rattle.command_words.specs.Words.{Command, Usage, check_of, command_by, delay_of, gen_of}
use Rattle.command_words.specs.Words.{recheck_of, replay_of, strong_of}
use Rattle.command_words.proofs.Kept.{Kept, keep_parts, model_name, nothing}
use Rattle.command_words.proofs.Kept.{number_name, wants}
use Rattle.command_words.proofs.ClapAgrees.{Agrees, AllUtf8, HasNone, IsWhole}
use Rattle.command_words.proofs.ClapEnds.{ReadsAll, ReadsGen}
use Rattle.command_words.proofs.ClapCommands.{check_agrees, delay_agrees, files_agrees}
use Rattle.command_words.proofs.ClapCommands.{gen_agrees, strong_agrees}
use Rattle.command_words.proofs.Commands.{IsGen, check_words, gen_words}
use Rattle.command_words.proofs.Limited.{delay_words, no_delay, no_files, no_trace}
use Rattle.command_words.proofs.Limited.{no_pairs, recheck_words, replay_words, strong_words}

module _ (app : App) (simple : is_simple_and_free app ≡ true) (words : List Text) where
  -- what is found in the words that are taken
  pub taken : (m : ArgMatches) → (is_simple_and_free app ≡ true → fault_of app words ≡ [])
      → HasMatchesOf app words m
      → (fault_of app words ≡ []) × (rows_of (found_of m) ≡ matches_of app words)
  taken m passes has = (passes simple, (has (both (is_simple app) _ simple).0).0)

  -- an error that is not want of memory has a cause in the words
  pub refused : (e : Error) → (is_simple_and_free app ≡ true → HasKind (fault_of app words) e)
      → kind_of e ≢ OutOfMemory → fault_of app words ≢ []
  refused e fails other none =
      ⊎_elim other (λ among. subst (IsAmong (kind_of e)) none among) (fails simple)

pub all_utf8 : {Z : Type 0} (words : List (String Z)) → AllUtf8 (map string_bytes words)
all_utf8 [] = tt
all_utf8 (word ∷ words) = (IsUtf8-string_bytes word, all_utf8 words)

-- what clap finds of these words, or that it refuses them
abbrev pub IsGiven : App → List Text → Option ArgMatches → Type 0
IsGiven app words given =
    MatchOption given (fault_of app words ≢ [])
    (λ found. (fault_of app words ≡ []) × (rows_of (found_of found) ≡ matches_of app words))

has_none : (names : List Text) (Reads : List Row → Values → Type 0) (fault : Kinds)
    (rows : List Row) (kept : Option Kept) → fault ≢ [] → Agrees names Reads fault rows kept
    → HasNone names kept
has_none names Reads [] rows kept some agree = absurd (some refl)
has_none names Reads (kind ∷ kinds) rows kept some agree = agree

-- the command that clap was given, where it is the one that the definitions speak of
module _ (app built : App) (words : List Text) (names : List Text)
    (Reads : List Row → Values → Type 0) (kept : Option Kept)
    (agree : Agrees names Reads (fault_of app words) (matches_of app words) kept)
    (same : built ≡ app) (given : Option ArgMatches) (told : IsGiven built words given) where
  found_whole : (m : ArgMatches) → given ≡ Some m → IsWhole Reads (rows_of (found_of m)) kept
  found_whole m some =
      let here : IsGiven app words (Some m) = subst (λ a. IsGiven a words (Some m)) same
      (subst (IsGiven built words) some told) in
      subst (λ rows. IsWhole Reads rows kept) (sym here.1)
      (subst (λ fault. Agrees names Reads fault (matches_of app words) kept) here.0 agree)

  refused_none : given ≡ None → HasNone names kept
  refused_none none =
      let here : IsGiven app words None = subst (λ a. IsGiven a words None) same
      (subst (IsGiven built words) none told) in
      has_none names Reads (fault_of app words) (matches_of app words) kept here agree

-- ---- commands that are told by the values of their arguments

by_values : (of : Values → Option Command) (m : ArgMatches) (kept : Option Kept)
    → IsWhole ReadsAll (rows_of (found_of m)) kept
    → of (first_value (found_of m)) ≡ option_and_then (λ k. of k.values) kept
by_values of m (Some kept) reads = ap of (λ i id. (first_value-rows (found_of m) id ∙ reads id) i)
by_values of m None reads = absurd reads

none_kept : (of : Values → Option Command) (names : List Text)
    → ((values : Values) → wants names values ≡ true → of values ≡ None)
    → (kept : Option Kept) → HasNone names kept → option_and_then (λ k. of k.values) kept ≡ None
none_kept of names wanted (Some kept) none = wanted kept.values none
none_kept of names wanted None none = refl

module _ (app built : App) (words : List Text) (needed names : List Text) (form : List ℕ → Form)
    (read : List Part → Option Command) (of : Values → Option Command)
    (agree : Agrees needed ReadsAll (fault_of app words) (matches_of app words)
    (keep_parts names nothing (parts_of form words)))
    (kept_is : option_and_then (λ k. of k.values) (keep_parts names nothing (parts_of form words))
    ≡ option_and_then read (parts_of form words))
    (wanted : (values : Values) → wants needed values ≡ true → of values ≡ None)
    (same : built ≡ app) (given : Option ArgMatches) (told : IsGiven built words given) where
  found : (m : ArgMatches) (command : Command) → given ≡ Some m
      → command ≡ unwrap_or (of (first_value (found_of m))) Usage
      → command ≡ command_by form read words
  found m command some is =
      is ∙ ap (λ c. unwrap_or c Usage)
      (by_values of m _ (found_whole app built words needed ReadsAll _ agree same given told m some)
      ∙ kept_is)

  none_found : given ≡ None → Usage ≡ command_by form read words
  none_found none =
      ap (λ c. unwrap_or c Usage) (sym
      (none_kept of needed wanted _ (refused_none app built words needed ReadsAll _ agree same given
      told none)) ∙ kept_is)

no_model : (values : Values) → wants model_name values ≡ true → check_with values ≡ None
no_model values wanted = go (values (codes "model")) refl
  where
    go : (model : Option Text) → values (codes "model") ≡ model → check_with values ≡ None
    go None e = rw e refl
    go (Some model) e = let bad : false ≡ true = rw e at wanted in cc

-- ---- each command

module _ {Z : Type 0} (words : List (String Z)) where
  abbrev texts : List Text
  texts = map string_bytes words

  module _ (built : App) (given : Option ArgMatches) (told : IsGiven built texts given) where
    pub check_found : built ≡ check_app → (m : ArgMatches) (command : Command) → given ≡ Some m
        → command ≡ unwrap_or (check_with (first_value (found_of m))) Usage
        → command ≡ command_by check_form check_of texts
    check_found same =
        found check_app built texts model_name model_name check_form check_of check_with
        (check_agrees texts (all_utf8 words)) (check_words texts) no_model same given told

    pub check_refused : built ≡ check_app → given ≡ None
        → Usage ≡ command_by check_form check_of texts
    check_refused same =
        none_found check_app built texts model_name model_name check_form check_of check_with
        (check_agrees texts (all_utf8 words)) (check_words texts) no_model same given told

    pub recheck_found : built ≡ files_app (codes "recheck") → (m : ArgMatches) (command : Command)
        → given ≡ Some m → command ≡ unwrap_or (recheck_with (first_value (found_of m))) Usage
        → command ≡ command_by limit_form recheck_of texts
    recheck_found same =
        found (files_app (codes "recheck")) built texts file_names file_names limit_form recheck_of recheck_with
        (files_agrees (codes "recheck") texts (all_utf8 words)) (recheck_words texts) no_files same given
        told

    pub recheck_refused : built ≡ files_app (codes "recheck") → given ≡ None
        → Usage ≡ command_by limit_form recheck_of texts
    recheck_refused same =
        none_found (files_app (codes "recheck")) built texts file_names file_names limit_form recheck_of recheck_with
        (files_agrees (codes "recheck") texts (all_utf8 words)) (recheck_words texts) no_files same given
        told

    pub replay_found : built ≡ files_app (codes "replay") → (m : ArgMatches) (command : Command)
        → given ≡ Some m → command ≡ unwrap_or (replay_with (first_value (found_of m))) Usage
        → command ≡ command_by limit_form replay_of texts
    replay_found same =
        found (files_app (codes "replay")) built texts file_names file_names limit_form replay_of replay_with
        (files_agrees (codes "replay") texts (all_utf8 words)) (replay_words texts) no_trace same given
        told

    pub replay_refused : built ≡ files_app (codes "replay") → given ≡ None
        → Usage ≡ command_by limit_form replay_of texts
    replay_refused same =
        none_found (files_app (codes "replay")) built texts file_names file_names limit_form replay_of replay_with
        (files_agrees (codes "replay") texts (all_utf8 words)) (replay_words texts) no_trace same given
        told

    pub delay_found : built ≡ delay_app → (m : ArgMatches) (command : Command) → given ≡ Some m
        → command ≡ unwrap_or (delay_with (first_value (found_of m))) Usage
        → command ≡ command_by limit_form delay_of texts
    delay_found same =
        found delay_app built texts delay_names delay_names limit_form delay_of delay_with
        (delay_agrees texts (all_utf8 words)) (delay_words texts) no_delay same given told

    pub delay_refused : built ≡ delay_app → given ≡ None
        → Usage ≡ command_by limit_form delay_of texts
    delay_refused same =
        none_found delay_app built texts delay_names delay_names limit_form delay_of delay_with
        (delay_agrees texts (all_utf8 words)) (delay_words texts) no_delay same given told

    pub strong_found : built ≡ strong_app → (m : ArgMatches) (command : Command) → given ≡ Some m
        → command ≡ unwrap_or (strong_with (first_value (found_of m))) Usage
        → command ≡ command_by limit_form strong_of texts
    strong_found same =
        found strong_app built texts model_name strong_names limit_form strong_of strong_with
        (strong_agrees texts (all_utf8 words)) (strong_words texts) no_pairs same given told

    pub strong_refused : built ≡ strong_app → given ≡ None
        → Usage ≡ command_by limit_form strong_of texts
    strong_refused same =
        none_found strong_app built texts model_name strong_names limit_form strong_of strong_with
        (strong_agrees texts (all_utf8 words)) (strong_words texts) no_pairs same given told

    -- the flag of `gen` is read as a text
    by_flag : (m : ArgMatches) (command : Command) (kept : Option Kept) (wanted : Option Command)
        → IsWhole ReadsGen (rows_of (found_of m)) kept → IsGen wanted kept
        → ((check : Bool) → one_text (found_of m) (codes "check") ≡ Some (bool_text check)
        → command ≡ unwrap_or (gen_with (first_value (found_of m)) check) Usage)
        → command ≡ unwrap_or wanted Usage
    by_flag m command (Some kept) wanted reads gives is =
        is gives.0 (one_text-rows (found_of m) (codes "check") ∙ reads.1 gives.0 gives.1)
        ∙ ap (λ c. unwrap_or c Usage) (ap (λ number. gen_by number gives.0)
        (first_value-rows (found_of m) (codes "number") ∙ reads.0) ∙ sym gives.2)
      where
        gen_by : Option Text → Bool → Option Command
        gen_by number = gen_with (λ id. number)
    by_flag m command None wanted reads gives is = absurd reads

    no_gen : (kept : Option Kept) (wanted : Option Command) → HasNone number_name kept
        → IsGen wanted kept → wanted ≡ None
    no_gen (Some kept) wanted none gives = gives.2 ∙ go (kept.values (codes "number")) refl
      where
        go : (number : Option Text) → kept.values (codes "number") ≡ number
            → gen_with kept.values gives.0 ≡ None
        go None e = rw e refl
        go (Some number) e = let bad : false ≡ true = rw e at none in cc
    no_gen None wanted none gives = gives

    pub gen_found : built ≡ gen_app → (m : ArgMatches) (command : Command) → given ≡ Some m
        → ((check : Bool) → one_text (found_of m) (codes "check") ≡ Some (bool_text check)
        → command ≡ unwrap_or (gen_with (first_value (found_of m)) check) Usage)
        → command ≡ command_by gen_form gen_of texts
    gen_found same m command some is =
        by_flag m command _ _ (found_whole gen_app built texts number_name ReadsGen _
        (gen_agrees texts (all_utf8 words)) same given told m some) (gen_words texts) is

    pub gen_refused : built ≡ gen_app → given ≡ None → Usage ≡ command_by gen_form gen_of texts
    gen_refused same none =
        ap (λ c. unwrap_or c Usage)
        (sym (no_gen _ _ (refused_none gen_app built texts number_name ReadsGen _
        (gen_agrees texts (all_utf8 words)) same given told none) (gen_words texts)))
