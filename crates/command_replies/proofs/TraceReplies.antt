-- The reply that a line is, by the word with which it begins.
use Rattle.std.proofs.Common.{◌≡◌, ◌∙◌, inl, inr, ℕ, List, [], ◌∷◌, ◌++◌, codes, decimal, drop, None}
use Rattle.std.proofs.Common.{refl, sym, ap}
use Rattle.std.specs.Global.{Vec}
use Rattle.bdd_nodes.specs.declared.refusal.Held.{Held}
use Rattle.kripke_model.specs.System.{System}
use Rattle.smv_texts.specs.Evidence.{IsMet}
use Rattle.smv_texts.specs.Replies.{Head, Trace, Refused, Reply, Gives, IsReply, head_word, saved_of}
use Rattle.smv_texts.specs.declared.ending.Ending.{Ending}
use Rattle.smv_texts.specs.declared.ending.Ending.TheVariants.{ProofRefused, Undecided}
use Rattle.smv_texts.specs.declared.reply.Reply as code
use Rattle.command_replies.specs.Replayed.{Replayed, ends_judged, replay_line, trace_reason}
use Rattle.command_replies.specs.Replayed.{trace_refusal_line, unanswered_line}
use Rattle.trace_check.specs.Judged.{JudgedAs}
use Rattle.trace_check.specs.declared.judged.Judged.{Judged}
use Rattle.trace_files.specs.Refuses.{Refuses}
use Rattle.trace_files.specs.Spells.{Spells}
use Rattle.trace_files.specs.Trace as files
use Rattle.trace_files.specs.declared.refusals.TraceRefusal.{TraceRefusal}

judged_begins : (j : ℕ) (judged : Judged)
    → replay_line j judged ≡ head_word Trace ++ drop 6 (replay_line j judged)
judged_begins j judged = refl

unanswered_begins : (j limit : ℕ)
    → unanswered_line j limit ≡ head_word Trace ++ drop 6 (unanswered_line j limit)
unanswered_begins j limit = refl

refusal_begins : (r : TraceRefusal)
    → trace_refusal_line r ≡ head_word Refused ++ (trace_reason r ++ 10 ∷ [])
refusal_begins r = refl

-- a line of this word that saves nothing
abbrev put : Head → List ℕ → Ending → Reply
put head rest ending = record { head = head; rest = rest; ending = ending; saves = None }

gives : (head : Head) (rest : List ℕ) (reply : code.Reply)
    → reply.text.items ≡ head_word head ++ rest → reply.saves ≡ None
    → Gives (put head rest reply.ending) reply
gives head rest reply text none = record { text = text; ending = refl; saves = ap saved_of none }

pub judged_reply : (m : System) (limit : ℕ) (bytes : List ℕ) (t : files.Trace) (judged : Judged)
    (reply : code.Reply) → Spells m t bytes → JudgedAs m t judged
    → reply.text.items ≡ replay_line t.spec judged → reply.ending ≡ ends_judged judged
    → reply.saves ≡ None → IsReply (Replayed m limit bytes) reply
judged_reply m limit bytes t judged reply spelled is text ends none =
    let rest = drop 6 (replay_line t.spec judged) in (
      put Trace rest reply.ending,
      gives Trace rest reply (text ∙ judged_begins t.spec judged) none,
      inr (inl (record {
        trace = t;
        spelled = spelled;
        judged = judged;
        judged_is = is;
        text = sym (judged_begins t.spec judged);
        ends = ends;
        saves = refl;
      })),
    )

pub left_reply : (m : System) (limit : ℕ) (bytes : List ℕ) (t : files.Trace) (held : Vec Held)
    (full : Held) (reply : code.Reply) → Spells m t bytes → IsMet m limit full
    → held.items ≡ full ∷ [] → reply.text.items ≡ unanswered_line t.spec limit
    → reply.ending ≡ Undecided held → reply.saves ≡ None → IsReply (Replayed m limit bytes) reply
left_reply m limit bytes t held full reply spelled of_limit one text ends none =
    let rest = drop 6 (unanswered_line t.spec limit) in (
      put Trace rest reply.ending,
      gives Trace rest reply (text ∙ unanswered_begins t.spec limit) none,
      inr (inr (record {
        trace = t;
        spelled = spelled;
        held = held;
        full = full;
        one = one;
        of_limit = of_limit;
        text = sym (unanswered_begins t.spec limit);
        ends = ends;
        saves = refl;
      })),
    )

pub refused_reply : (m : System) (limit : ℕ) (bytes : List ℕ) (refusal : TraceRefusal)
    (reply : code.Reply) → Refuses m bytes refusal → reply.text.items ≡ trace_refusal_line refusal
    → reply.ending ≡ ProofRefused → reply.saves ≡ None → IsReply (Replayed m limit bytes) reply
refused_reply m limit bytes refusal reply applies text ends none =
    let rest = trace_reason refusal ++ 10 ∷ [] in (
      put Refused rest reply.ending,
      gives Refused rest reply (text ∙ refusal_begins refusal) none,
      inl (record {
        refusal = refusal;
        applies = applies;
        text = sym (refusal_begins refusal);
        ends = ends;
        saves = refl;
      }),
    )
