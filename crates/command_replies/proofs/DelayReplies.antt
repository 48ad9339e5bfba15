-- The reply that a line is, by the word with which it begins.
use Rattle.std.proofs.Common.{◌≡◌, ◌∙◌, inl, ℕ, List, [], ◌∷◌, ◌++◌, codes, decimal, drop, None, refl, sym, ap}
use Rattle.std.specs.Global.{Vec}
use Rattle.bdd_nodes.specs.declared.refusal.Held.{Held}
use Rattle.command_replies.specs.Delayed.{AreDelays, Delayed, LeavesDelays, delays_line, unknown_line}
use Rattle.delay_bounds.specs.Delays.{Delay}
use Rattle.kripke_model.specs.System.{System}
use Rattle.smv_texts.specs.Evidence.{IsMet}
use Rattle.smv_texts.specs.Replies.{From, Reply, Gives, IsReply, head_word, saved_of}
use Rattle.smv_texts.specs.declared.ending.Ending.{Ending}
use Rattle.smv_texts.specs.declared.ending.Ending.TheVariants.{Clear, Undecided}
use Rattle.smv_texts.specs.declared.reply.Reply as code

-- a line of delays that saves nothing
abbrev put : List ℕ → Ending → Reply
put rest ending = record { head = From; rest = rest; ending = ending; saves = None }

delays_begin : (from to : ℕ) (shortest longest : Delay)
    → delays_line from to shortest longest
    ≡ head_word From ++ drop 5 (delays_line from to shortest longest)
delays_begin from to shortest longest = refl

unknown_begins : (from to limit : ℕ)
    → unknown_line from to limit ≡ head_word From ++ drop 5 (unknown_line from to limit)
unknown_begins from to limit = refl

gives : (rest : List ℕ) (reply : code.Reply) → reply.text.items ≡ head_word From ++ rest
    → reply.saves ≡ None → Gives (put rest reply.ending) reply
gives rest reply text none = record { text = text; ending = refl; saves = ap saved_of none }

pub delays_reply : (m : System) (limit from to : ℕ) (shortest longest : Delay) (reply : code.Reply)
    → AreDelays m from to shortest longest
    → reply.text.items ≡ delays_line from to shortest longest → reply.ending ≡ Clear
    → reply.saves ≡ None → IsReply (Delayed m limit from to) reply
delays_reply m limit from to shortest longest reply are text ends none =
    let rest = drop 5 (delays_line from to shortest longest) in (
      put rest reply.ending,
      gives rest reply (text ∙ delays_begin from to shortest longest) none,
      inl (record {
        shortest = shortest;
        longest = longest;
        are = are;
        text = sym (delays_begin from to shortest longest);
        ends = ends;
        saves = refl;
      }),
    )

pub unknown_reply : (m : System) (limit from to : ℕ) (held : Vec Held) (full : Held)
    (reply : code.Reply) → IsMet m limit full → held.items ≡ full ∷ []
    → reply.text.items ≡ unknown_line from to limit → reply.ending ≡ Undecided held
    → reply.saves ≡ None → IsReply (LeavesDelays m limit from to) reply
unknown_reply m limit from to held full reply of_limit one text ends none =
    let rest = drop 5 (unknown_line from to limit) in (
      put rest reply.ending,
      gives rest reply (text ∙ unknown_begins from to limit) none,
      record {
        held = held;
        full = full;
        one = one;
        of_limit = of_limit;
        text = sym (unknown_begins from to limit);
        ends = ends;
        saves = refl;
      },
    )
