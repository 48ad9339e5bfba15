-- What clap finds for each command.
use Rattle.std.proofs.Common.{◌≡◌, true, false, List, [], ◌∷◌, codes, Option, Some, None, is_some}
use Rattle.std.proofs.Common.{refl, sym, subst}
use Rattle.clap.specs.Walk.{Text, nothing_held, rows_after, stop_after}
use Rattle.clap.specs.Simple.{App, Shape, entered, matches_of}
use Rattle.clap.specs.Faults.{built_fault, entered_fault, fault_of, is_simple_and_free, level_fault}
use Rattle.command_words.specs.Given.{check_app, delay_app, delay_names, file_names, files_app}
use Rattle.command_words.specs.Given.{gen_app, strong_app, strong_names}
use Rattle.command_words.specs.Parts.{parts_of, check_form, gen_form, limit_form}
use Rattle.command_words.proofs.Kept.{keep_parts, model_name, nothing, number_name}
use Rattle.command_words.proofs.ClapTurns.{shape_with}
use Rattle.command_words.proofs.ClapAgrees.{Agrees, AllUtf8}
use Rattle.command_words.proofs.ClapWalk.{agrees}
use Rattle.command_words.proofs.ClapForms.{check_met, check_rules, check_short, gen_met, gen_rules}
use Rattle.command_words.proofs.ClapForms.{delay_met, delay_rules, files_met, files_rules}
use Rattle.command_words.proofs.ClapForms.{strong_met, strong_rules}
use Rattle.command_words.proofs.ClapForms.{gen_short, limit_short}
use Rattle.command_words.proofs.ClapUses.{IsPlaced}
use Rattle.command_words.proofs.ClapEnds.{ReadsAll, ReadsGen, check_ending, gen_ending}
use Rattle.command_words.proofs.ClapEnds.{delay_ending, files_ending, strong_ending}

pub check_simple : is_simple_and_free check_app ≡ true
check_simple = refl

pub files_simple : (name : Text) → is_simple_and_free (files_app name) ≡ true
files_simple name = refl

pub delay_simple : is_simple_and_free delay_app ≡ true
delay_simple = refl

pub strong_simple : is_simple_and_free strong_app ≡ true
strong_simple = refl

pub gen_simple : is_simple_and_free gen_app ≡ true
gen_simple = refl

-- a command without subcommands enters none
module _ (shape : Shape) where
  abbrev leaf : App
  leaf = record { top = shape; subs = [] }

  one_level : (words : List Text)
      → built_fault leaf nothing_held words ≡ level_fault shape [] nothing_held words false []
  one_level words = go (stop_after shape.rules [] words)
    where
      go : (stop : Option (Text × List Text))
          → level_fault shape [] nothing_held words (is_some (entered leaf stop))
          (entered_fault leaf stop) ≡ level_fault shape [] nothing_held words false []
      go None = refl
      go (Some p) = refl

pub check_agrees : (words : List Text) → AllUtf8 words
    → Agrees model_name ReadsAll (fault_of check_app words) (matches_of check_app words)
    (keep_parts model_name nothing (parts_of check_form words))
check_agrees words utf8 =
    subst (λ fault. Agrees model_name ReadsAll fault (rows_after check_rules [] words)
    (keep_parts model_name nothing (parts_of check_form words)))
    (sym (one_level (shape_with (codes "check") check_rules) words))
    (agrees (codes "check") model_name model_name check_rules check_form ReadsAll
    (true, refl, refl, refl)
    (λ char. refl) check_short (λ byte bytes. check_met (byte ∷ bytes)) check_ending words utf8)

pub files_agrees : (name : Text) (words : List Text) → AllUtf8 words
    → Agrees file_names ReadsAll (fault_of (files_app name) words)
    (matches_of (files_app name) words) (keep_parts file_names nothing (parts_of limit_form words))
files_agrees name words utf8 =
    subst (λ fault. Agrees file_names ReadsAll fault (rows_after files_rules [] words)
    (keep_parts file_names nothing (parts_of limit_form words)))
    (sym (one_level (shape_with name files_rules) words))
    (agrees name file_names file_names files_rules limit_form ReadsAll
    (true, refl, refl, (true, refl, refl, refl))
    (λ char. refl) limit_short (λ byte bytes. files_met (byte ∷ bytes)) (files_ending name) words
    utf8)

pub delay_agrees : (words : List Text) → AllUtf8 words
    → Agrees delay_names ReadsAll (fault_of delay_app words) (matches_of delay_app words)
    (keep_parts delay_names nothing (parts_of limit_form words))
delay_agrees words utf8 =
    subst (λ fault. Agrees delay_names ReadsAll fault (rows_after delay_rules [] words)
    (keep_parts delay_names nothing (parts_of limit_form words)))
    (sym (one_level (shape_with (codes "delay") delay_rules) words))
    (agrees (codes "delay") delay_names delay_names delay_rules limit_form ReadsAll
    (true, refl, refl, (true, refl, refl, (true, refl, refl, refl))) (λ char. refl) limit_short
    (λ byte bytes. delay_met (byte ∷ bytes)) delay_ending words utf8)

strong_placed : IsPlaced strong_rules 1 strong_names
strong_placed = (
  true,
  refl,
  refl,
  (
    false,
    refl,
    refl,
    (
      false,
      refl,
      refl,
      (
        false,
        refl,
        refl,
        (
          false,
          refl,
          refl,
          (
            false,
            refl,
            refl,
            (
              false,
              refl,
              refl,
              (
                false,
                refl,
                refl,
                (
                  false,
                  refl,
                  refl,
                  (
                    false,
                    refl,
                    refl,
                    (
                      false,
                      refl,
                      refl,
                      (
                        false,
                        refl,
                        refl,
                        (
                          false,
                          refl,
                          refl,
                          (
                            false,
                            refl,
                            refl,
                            (
                              false,
                              refl,
                              refl,
                              (
                                false,
                                refl,
                                refl,
                                (false, refl, refl, refl),
                              ),
                            ),
                          ),
                        ),
                      ),
                    ),
                  ),
                ),
              ),
            ),
          ),
        ),
      ),
    ),
  ),
)

pub strong_agrees : (words : List Text) → AllUtf8 words
    → Agrees model_name ReadsAll (fault_of strong_app words) (matches_of strong_app words)
    (keep_parts strong_names nothing (parts_of limit_form words))
strong_agrees words utf8 =
    subst (λ fault. Agrees model_name ReadsAll fault (rows_after strong_rules [] words)
    (keep_parts strong_names nothing (parts_of limit_form words)))
    (sym (one_level (shape_with (codes "strong") strong_rules) words))
    (agrees (codes "strong") model_name strong_names strong_rules limit_form ReadsAll strong_placed
    (λ char. refl) limit_short (λ byte bytes. strong_met (byte ∷ bytes)) strong_ending words utf8)

pub gen_agrees : (words : List Text) → AllUtf8 words
    → Agrees number_name ReadsGen (fault_of gen_app words) (matches_of gen_app words)
    (keep_parts number_name nothing (parts_of gen_form words))
gen_agrees words utf8 =
    subst (λ fault. Agrees number_name ReadsGen fault (rows_after gen_rules [] words)
    (keep_parts number_name nothing (parts_of gen_form words)))
    (sym (one_level (shape_with (codes "gen") gen_rules) words))
    (agrees (codes "gen") number_name number_name gen_rules gen_form ReadsGen
    (true, refl, refl, refl) (λ char. refl)
    gen_short (λ byte bytes. gen_met (byte ∷ bytes)) gen_ending words utf8)
