-- The reply that a text is, by the word with which it begins.
use Rattle.std.proofs.Common.{◌≡◌, ◌∙◌, inl, inr, ℕ, List, [], ◌∷◌, ◌++◌, drop, None, refl, sym, ap}
use Rattle.std.specs.Global.{Vec}
use Rattle.bdd_nodes.specs.declared.refusal.Held.{Held}
use Rattle.bdd_nodes.specs.declared.triple.Triple.{Triple}
use Rattle.kripke_model.specs.Path.{Lasso}
use Rattle.kripke_model.specs.System.{System}
use Rattle.smv_texts.specs.Evidence.{IsMet}
use Rattle.smv_texts.specs.Replies.{Strong, Reply, Gives, IsReply, head_word, saved_of}
use Rattle.smv_texts.specs.declared.ending.Ending.{Ending}
use Rattle.smv_texts.specs.declared.ending.Ending.TheVariants.{Clear, Failed, Undecided}
use Rattle.smv_texts.specs.declared.reply.Reply as code
use Rattle.command_replies.specs.Strong.{IsNoneFor, IsPathFor, LeavesStrong, StrongReply}
use Rattle.command_replies.specs.Strong.{no_text, unknown_line, yes_text}
use Rattle.strong_fair.specs.Form.{Certificate}

-- a text that saves nothing
abbrev put : List ℕ → Ending → Reply
put rest ending = record { head = Strong; rest = rest; ending = ending; saves = None }

yes_begins : (m : System) (path : Lasso)
    → yes_text m path ≡ head_word Strong ++ drop 7 (yes_text m path)
yes_begins m path = refl

no_begins : (nodes : List Triple) (c : Certificate ℕ)
    → no_text nodes c ≡ head_word Strong ++ drop 7 (no_text nodes c)
no_begins nodes c = refl

unknown_begins : (limit : ℕ) → unknown_line limit ≡ head_word Strong ++ drop 7 (unknown_line limit)
unknown_begins limit = refl

gives : (rest : List ℕ) (reply : code.Reply) → reply.text.items ≡ head_word Strong ++ rest
    → reply.saves ≡ None → Gives (put rest reply.ending) reply
gives rest reply text none = record { text = text; ending = refl; saves = ap saved_of none }

pub path_reply : (m : System) (limit : ℕ) (numbers : List (ℕ × ℕ)) (path : Lasso)
    (reply : code.Reply) → IsPathFor m numbers path → reply.text.items ≡ yes_text m path
    → reply.ending ≡ Clear → reply.saves ≡ None → IsReply (StrongReply m limit numbers) reply
path_reply m limit numbers path reply is text ends none =
    let rest = drop 7 (yes_text m path) in (
      put rest reply.ending,
      gives rest reply (text ∙ yes_begins m path) none,
      inl (record {
        path = path;
        is = is;
        text = sym (yes_begins m path);
        ends = ends;
        saves = refl;
      }),
    )

pub none_reply : (m : System) (limit : ℕ) (numbers : List (ℕ × ℕ)) (nodes : List Triple)
    (c : Certificate ℕ) (reply : code.Reply) → IsNoneFor m numbers nodes c
    → reply.text.items ≡ no_text nodes c → reply.ending ≡ Failed → reply.saves ≡ None
    → IsReply (StrongReply m limit numbers) reply
none_reply m limit numbers nodes c reply is text ends none =
    let rest = drop 7 (no_text nodes c) in (
      put rest reply.ending,
      gives rest reply (text ∙ no_begins nodes c) none,
      inr (inl (record {
        nodes = nodes;
        certificate = c;
        is = is;
        text = sym (no_begins nodes c);
        ends = ends;
        saves = refl;
      })),
    )

pub unknown_reply : (m : System) (limit : ℕ) (held : Vec Held) (full : Held) (reply : code.Reply)
    → IsMet m limit full → held.items ≡ full ∷ [] → reply.text.items ≡ unknown_line limit
    → reply.ending ≡ Undecided held → reply.saves ≡ None → IsReply (LeavesStrong m limit) reply
unknown_reply m limit held full reply of_limit one text ends none =
    let rest = drop 7 (unknown_line limit) in (
      put rest reply.ending,
      gives rest reply (text ∙ unknown_begins limit) none,
      record {
        held = held;
        full = full;
        one = one;
        of_limit = of_limit;
        text = sym (unknown_begins limit);
        ends = ends;
        saves = refl;
      },
    )
