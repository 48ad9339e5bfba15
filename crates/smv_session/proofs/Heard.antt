-- What a load leads to.
use Rattle.std.proofs.Common.{◌≡◌, ◌≤◌, ◌<◌, inl, ℕ, List, [], ◌∷◌, ◌++◌, ◌∙◌, inr, Result, Ok, Err, Option, IfOk, IfSome, IsSomeAnd, Some, None, arith, replicate, length, drop, refl, sym, ap, subst}
use Rattle.std.proofs.lemmas.List.{length-replicate}
use Rattle.std.specs.Global.{Vec}
use Rattle.std.specs.declared.alloc.AllocError.{AllocError}
use Rattle.command_words.specs.Words as words
use Rattle.command_words.specs.Words.{File, Work, Print, Do}
use Rattle.smv_outside.specs.Contents.{Contents, bytes_under}
use Rattle.smv_outside.specs.Faults.{CountsLoad}
use Rattle.smv_outside.specs.declared.faults.FileFaults.{FileFaults}
use Rattle.smv_outside.specs.declared.faults.LoadFault.{LoadFault}
use Rattle.smv_outside.specs.declared.faults.LoadFault.TheVariants.{Failed, NotThere, TooLong, Memory}
use Rattle.smv_session.specs.Answers.{IsModelReply, IsSourceName, Reads}
use Rattle.smv_rings.specs.Rings.{ring_text}
use Rattle.smv_session.specs.Foreseen.{Foresees, ForeseesSecond, ForeseesText, IsAnswer, IsForeseenAs, RefusesLong, most_second_bytes}
use Rattle.smv_session.specs.Refuses.{Refuses}
use Rattle.smv_session.specs.declared.session.Foreseen.{Foreseen}
use Rattle.smv_session.specs.declared.session.Foreseen.TheVariants as foreseen
use Rattle.smv_texts.specs.Refusals as refusals
use Rattle.smv_texts.specs.Refusals.{Refusal, reason, refusal_line}
use Rattle.smv_texts.specs.Replies as replies
use Rattle.smv_texts.specs.Replies.{IsReply, Refused, Usage, Module, head_word, saved_of}
use Rattle.smv_texts.specs.Texts.{usage_text}
use Rattle.smv_texts.specs.Told.{TellsRefusal}
use Rattle.smv_texts.specs.declared.ending.Ending.TheVariants as endings
use Rattle.smv_texts.specs.declared.ending.Ending.TheVariants.{ModelRefused}
use Rattle.smv_texts.specs.declared.reply.Reply.{Reply}
use Rattle.smv_texts.proofs.Heads.{refusal_begins, usage_begins}

abbrev most_model_bytes : ℕ
most_model_bytes = 1048576

-- ---- refusals

-- the reply that tells a refusal
abbrev refusing : Refusal → replies.Reply
refusing q = record { head = Refused; rest = reason q ++ 10 ∷ []; ending = ModelRefused; saves = None }

pub refusal_reply : (w : Work) (contents : Option Contents) (bytes : List ℕ) (q : Refusal) (reply : Reply) → Refuses w.job bytes q → reply.text.items ≡ refusal_line q → reply.ending ≡ ModelRefused
    → reply.saves ≡ None → IsReply (IsModelReply w contents bytes) reply
refusal_reply w contents bytes q reply applies text ends saves = (
  refusing q,
  record { text = text ∙ refusal_begins q; ending = ends; saves = ap saved_of saves },
  inl (record { refusal = q; applies = applies; text = sym (refusal_begins q); ends = refl; saves = refl }),
)

pub refused_reply : (w : Work) (contents : Option Contents) (bytes : List ℕ) (told : Option Refusal) (r : Result Reply AllocError) → IfSome told (Refuses w.job bytes)
    → IfOk r (TellsRefusal told) → IfOk r (IsReply (IsModelReply w contents bytes))
refused_reply w contents bytes None (Ok a) applies tells = absurd tells
refused_reply w contents bytes (Some q) (Ok a) applies tells = refusal_reply w contents bytes q a applies tells.0 tells.1 tells.2
refused_reply w contents bytes told (Err e) applies tells = tt

-- the same, where its line is at hand
pub line_reply : (w : Work) (contents : Option Contents) (bytes : List ℕ) (q : Refusal) (r : Result Reply AllocError) → Refuses w.job bytes q
    → IfOk r (λ a. a.text.items ≡ refusal_line q) → IfOk r (λ a. a.ending ≡ ModelRefused) → IfOk r (λ a. a.saves ≡ None) → IfOk r (IsReply (IsModelReply w contents bytes))
line_reply w contents bytes q (Ok a) applies text ends saves = refusal_reply w contents bytes q a applies text ends saves
line_reply w contents bytes q (Err e) applies text ends saves = tt

-- ---- loads

-- what is there under a name, where it is told to be longer than some number
there_is : (most : ℕ) (found : Option (List ℕ)) (taken : ℕ) → most < taken → IsSomeAnd found (λ bytes. taken ≤ length bytes)
    → (bytes : List ℕ) × (most < length bytes) × (found ≡ Some bytes)
there_is most None taken more there = absurd there
there_is most (Some bytes) taken more there = (bytes, omega (arith, more, there), refl)

-- a text that is too long: the one that is told, or any
too_long : (most : ℕ) (name : List ℕ) (contents : Option Contents) (taken : ℕ) → most < taken
    → IfSome contents (λ files. IsSomeAnd (bytes_under files name) (λ bytes. taken ≤ length bytes))
    → (bytes : List ℕ) × (most < length bytes) × IfSome contents (λ files. bytes_under files name ≡ Some bytes)
too_long most name None taken more there = (replicate taken 0, omega (arith, more, length-replicate {A = ℕ} taken 0), tt)
too_long most name (Some files) taken more there = there_is most (bytes_under files name) taken more there

-- a text of so many bytes is refused
long_answer : (w : Work) (name : List ℕ) (contents : Option Contents) (before after : FileFaults) (taken : ℕ) (f : Foreseen) → w.source ≡ File name → after ≡ before → most_model_bytes < taken
    → IfSome contents (λ files. IsSomeAnd (bytes_under files name) (λ bytes. taken ≤ length bytes)) → IsForeseenAs (TellsRefusal (Some refusals.TooLong)) (TooLong taken) f → Foresees (Do w) contents before after f
long_answer w name contents before after taken (foreseen.Reply reply) from quiet more there told =
    let found = too_long most_model_bytes name contents taken more there in
    let is = refusal_reply w contents found.0 refusals.TooLong reply found.1 told.0 told.1 told.2 in
    record { quiet = quiet; answer = (is.0, is.1, (found.0, subst (λ source. Reads source contents found.0) (sym from) found.2, is.2)) }
long_answer w name contents before after taken (foreseen.Fault fault) from quiet more there told = absurd told

-- a load that failed is told
pub told_fault : (w : Work) (name : List ℕ) (contents : Option Contents) (before after : FileFaults) (f : Foreseen) (fault : LoadFault) → w.source ≡ File name
    → CountsLoad {T = Vec ℕ} before after (Err fault)
    → ((taken : ℕ) → fault ≡ TooLong taken → most_model_bytes < taken)
    → ((taken : ℕ) → fault ≡ TooLong taken → IfSome contents (λ files. IsSomeAnd (bytes_under files name) (λ bytes. taken ≤ length bytes)))
    → (fault ≡ NotThere → IfSome contents (λ files. bytes_under files name ≡ None))
    → IsForeseenAs (TellsRefusal (Some refusals.TooLong)) fault f → Foresees (Do w) contents before after f
told_fault w name contents before after f Failed from counts more there lacks told =
    subst (Foresees (Do w) contents before after) (sym told) (record { name = name; loads = inl (subst (λ source. IsSourceName source name) (sym from) refl); came = counts })
told_fault w name contents before after f NotThere from counts more there lacks told =
    subst (Foresees (Do w) contents before after) (sym told) (record { name = name; loads = inl (subst (λ source. IsSourceName source name) (sym from) refl); came = (counts.0, counts.1, lacks refl, counts.2) })
told_fault w name contents before after f (TooLong taken) from counts more there lacks told = long_answer w name contents before after taken f from counts (more taken refl) (there taken refl) told
told_fault w name contents before after f Memory from counts more there lacks told = absurd told

-- the same of the load of a second file
pub told_second : (Replies : List ℕ → replies.Reply → Type 0) (name : List ℕ) (contents : Option Contents) (before after : FileFaults) (f : Foreseen) (fault : LoadFault)
    → CountsLoad {T = Vec ℕ} before after (Err fault)
    → ((taken : ℕ) → fault ≡ TooLong taken → most_second_bytes < taken)
    → ((taken : ℕ) → fault ≡ TooLong taken → IfSome contents (λ files. IsSomeAnd (bytes_under files name) (λ bytes. taken ≤ length bytes)))
    → (fault ≡ NotThere → IfSome contents (λ files. bytes_under files name ≡ None))
    → IsForeseenAs (RefusesLong Replies) fault f → ForeseesSecond Replies contents name before after f
told_second Replies name contents before after f Failed counts more there lacks told = subst (ForeseesSecond Replies contents name before after) (sym told) counts
told_second Replies name contents before after f NotThere counts more there lacks told =
    subst (ForeseesSecond Replies contents name before after) (sym told) (counts.0, counts.1, lacks refl, counts.2)
told_second Replies name contents before after (foreseen.Reply reply) (TooLong taken) counts more there lacks told =
    let found = too_long most_second_bytes name contents taken (more taken refl) (there taken refl) in
    record { bytes = found.0; there = found.2; answer = told found.0 found.1; quiet = counts }
told_second Replies name contents before after (foreseen.Fault fault) (TooLong taken) counts more there lacks told = absurd told
told_second Replies name contents before after f Memory counts more there lacks told = absurd told

-- ---- replies

-- what is foreseen for the text of a source is foreseen for the work
pub read_answer : (w : Work) (contents : Option Contents) (before after : FileFaults) (bytes : List ℕ) (f : Foreseen) → Reads w.source contents bytes
    → ForeseesText w contents bytes before after f → Foresees (Do w) contents before after f
read_answer w contents before after bytes (foreseen.Reply reply) reads is = record { quiet = is.quiet; answer = (is.answer.0, is.answer.1, (bytes, reads, is.answer.2)) }
read_answer w contents before after bytes (foreseen.Fault fault) reads is =
    record { name = is.name; loads = inr (is.second, bytes, is.model, reads, is.accepted); came = is.came }

-- the same of a result
pub read_result : (w : Work) (contents : Option Contents) (before after : FileFaults) (bytes : List ℕ) (r : Result Foreseen AllocError) → Reads w.source contents bytes
    → IfOk r (ForeseesText w contents bytes before after) → IfOk r (Foresees (Do w) contents before after)
read_result w contents before after bytes (Ok f) reads is = read_answer w contents before after bytes f reads is
read_result w contents before after bytes (Err e) reads is = tt

-- the usage text, and a ring's, answer their commands
pub usage_answer : (contents : Option Contents) (before after : FileFaults) (reply : Reply) → after ≡ before → reply.text.items ≡ usage_text → reply.ending ≡ endings.Usage → reply.saves ≡ None
    → IsAnswer words.Usage contents before after reply
usage_answer contents before after reply quiet text ends saves = record {
  quiet = quiet;
  answer = (
    record { head = Usage; rest = drop 7 usage_text; ending = endings.Usage; saves = None },
    record { text = text ∙ usage_begins; ending = ends; saves = ap saved_of saves },
    (record { text_is = sym usage_begins; saves = refl }, refl),
  );
}

ring_begins : (n : ℕ) → ring_text n ≡ head_word Module ++ drop 7 (ring_text n)
ring_begins n = refl

pub print_answer : (n : ℕ) (contents : Option Contents) (before after : FileFaults) (reply : Reply) → after ≡ before → reply.text.items ≡ ring_text n → reply.ending ≡ endings.Clear → reply.saves ≡ None
    → IsAnswer (Print n) contents before after reply
print_answer n contents before after reply quiet text ends saves = record {
  quiet = quiet;
  answer = (
    record { head = Module; rest = drop 7 (ring_text n); ending = endings.Clear; saves = None },
    record { text = text ∙ ring_begins n; ending = ends; saves = ap saved_of saves },
    (record { text_is = sym (ring_begins n); saves = refl }, refl),
  );
}
