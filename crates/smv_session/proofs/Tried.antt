-- The reply of the jobs over a model.
use Rattle.std.proofs.lemmas.List.Elements.{All-nil}
use Rattle.std.proofs.Common.{All, ap, [], ◌∙◌, ◌≡◌, ◌≤◌, inl, inr, ℕ, List, Option, Some, None, Result, Ok, Err, IfOk, IfSome, refl, sym, subst}
use Rattle.std.specs.declared.alloc.AllocError.{AllocError}
use Rattle.bit_encode.specs.Code.{state_bits}
use Rattle.command_words.specs.Words.{Job, Work, Decide, Recheck, Delay, Replay, Strong}
use Rattle.command_replies.specs.Delayed.{Delayed, LeavesDelays}
use Rattle.kripke_model.specs.Faults.{IsFaultless}
use Rattle.kripke_model.specs.System.{System}
use Rattle.command_replies.specs.Rechecked.{LeavesUnanswered, Rechecked}
use Rattle.smv_outside.specs.Contents.{Contents, bytes_under}
use Rattle.smv_outside.specs.declared.faults.FileFaults.{FileFaults}
use Rattle.smv_session.specs.Answers.{IsModelReply, Takes}
use Rattle.smv_session.specs.Foreseen.{ForeseesSecond, ForeseesText}
use Rattle.smv_session.specs.Jobs.{Does, IsLoaded, IsSecond, IsSecondName, NamesLeaves, Undecides, numbers_of}
use Rattle.spec_leaves.specs.Named.{NamesLeaf}
use Rattle.smv_session.specs.Relation.{Decides}
use Rattle.smv_session.specs.Source.{HasRuled, most_state_bits}
use Rattle.smv_session.specs.declared.session.Foreseen.{Foreseen}
use Rattle.smv_session.specs.declared.session.Foreseen.TheVariants as foreseen
use Rattle.smv_texts.specs.Replies as replies
use Rattle.smv_texts.specs.Replies.{IsReply}
use Rattle.smv_texts.specs.declared.reply.Reply.{Reply}
use Rattle.spec_verdicts.specs.Checked.{IsChecked, LeavesUnknown}
use Rattle.command_replies.specs.Strong.{LeavesStrong, StrongReply}
use Rattle.command_replies.specs.Replayed.{Replayed}

pub checked_decides : (m : System) (limit : ℕ) (proofs : Option (List ℕ)) (reply : Reply) → IsFaultless m → IsReply (IsChecked m limit proofs) reply → IsReply (Decides m limit proofs) reply
checked_decides m limit proofs reply faultless is = (is.0, is.1, inr (faultless, is.2))

pub unknown_decides : (m : System) (limit : ℕ) (proofs : Option (List ℕ)) (reply : Reply) → IsReply (LeavesUnknown m limit proofs) reply → IsReply (Decides m limit proofs) reply
unknown_decides m limit proofs reply is = (is.0, is.1, inl is.2)

-- a job without numbers names nothing else
pub names_none : (job other : Job) (m : System) → job ≡ other → numbers_of other ≡ []
    → NamesLeaves job m
names_none job other m is none =
    subst (All (NamesLeaf m)) (sym (ap numbers_of is ∙ none)) (All-nil (NamesLeaf m))

-- what a job that loads a second file of this name does with its bytes
pub record IsOfSecond (Replies : List ℕ → replies.Reply → Type 0) (w : Work) (m : System) (contents : Option Contents) (name : List ℕ) : Type 0 where
  pub names : NamesLeaves w.job m
  pub named : IsSecondName w.job name
  pub loads : (second : Option (List ℕ)) → IsLoaded name contents second → IsSecond w.job contents second
  pub does : (file : List ℕ) (r : replies.Reply) → Replies file r → Does w.job m w.limit (Some file) r

-- a reply to the model that takes it
module _ (w : Work) (contents : Option Contents) (bytes : List ℕ) (m : System) (reply : Reply) (ruled : HasRuled bytes m) (few : state_bits m ≤ most_state_bits) where
  taken_reply : NamesLeaves w.job m → IsReply (Takes w contents m) reply → IsReply (IsModelReply w contents bytes) reply
  taken_reply names is = (is.0, is.1, inr (record { model = m; has = record { ruled = ruled; few = few }; names = names; takes = is.2 }))

  -- its specifications were decided
  pub decided_reply : (proofs : Option (List ℕ)) → w.job ≡ Decide proofs → IsReply (Decides m w.limit proofs) reply → IsReply (IsModelReply w contents bytes) reply
  decided_reply proofs is (r, gives, inl unknown) = taken_reply (names_none w.job (Decide proofs) m is refl) (r, gives, inl (subst (λ job. Undecides job m w.limit r) (sym is) unknown))
  decided_reply proofs is (r, gives, inr done) = taken_reply (names_none w.job (Decide proofs) m is refl) (
    r,
    gives,
    inr (record {
      faultless = done.0;
      second = None;
      loaded = subst (λ job. IsSecond job contents None) (sym is) refl;
      does = subst (λ job. Does job m w.limit None r) (sym is) done.1;
    }),
  )

  -- the limit was met before its second file was loaded
  pub unanswered_reply : NamesLeaves w.job m
      → ((r : replies.Reply) → LeavesUnanswered m w.limit r → Undecides w.job m w.limit r)
      → IsReply (LeavesUnanswered m w.limit) reply → IsReply (IsModelReply w contents bytes) reply
  unanswered_reply names undecides (r, gives, left) =
      taken_reply names (r, gives, inl (undecides r left))

  -- its second file was answered
  pub second_reply : (Replies : List ℕ → replies.Reply → Type 0) (name file : List ℕ)
      → IsOfSecond Replies w m contents name → IsFaultless m
      → IfSome contents (λ files. bytes_under files name ≡ Some file) → IsReply (Replies file) reply
      → IsReply (IsModelReply w contents bytes) reply
  second_reply Replies name file of faultless there (r, gives, done) = taken_reply of.names (
    r,
    gives,
    inr (record {
      faultless = faultless;
      second = Some file;
      loaded = of.loads (Some file) there;
      does = of.does file r done;
    }),
  )

  -- the limit was met before its delays were looked for
  pub left_reply : (from to : ℕ) → w.job ≡ Delay from to → NamesLeaves w.job m
      → IsReply (LeavesDelays m w.limit from to) reply → IsReply (IsModelReply w contents bytes) reply
  left_reply from to is names (r, gives, left) =
      taken_reply names (r, gives, inl (subst (λ job. Undecides job m w.limit r) (sym is) left))

  -- its delays were looked for
  pub delayed_reply : (from to : ℕ) → w.job ≡ Delay from to → NamesLeaves w.job m → IsFaultless m
      → IsReply (Delayed m w.limit from to) reply → IsReply (IsModelReply w contents bytes) reply
  delayed_reply from to is names faultless (r, gives, done) = taken_reply names (
    r,
    gives,
    inr (record {
      faultless = faultless;
      second = None;
      loaded = subst (λ job. IsSecond job contents None) (sym is) refl;
      does = subst (λ job. Does job m w.limit None r) (sym is) done;
    }),
  )

  -- the limit was met before a strong path was looked for
  pub left_strong_reply : (pairs : List (ℕ × ℕ)) → w.job ≡ Strong pairs → NamesLeaves w.job m
      → IsReply (LeavesStrong m w.limit) reply → IsReply (IsModelReply w contents bytes) reply
  left_strong_reply pairs is names (r, gives, left) =
      taken_reply names (r, gives, inl (subst (λ job. Undecides job m w.limit r) (sym is) left))

  -- a strong path was looked for
  pub strong_reply : (pairs : List (ℕ × ℕ)) → w.job ≡ Strong pairs → NamesLeaves w.job m
      → IsFaultless m → IsReply (StrongReply m w.limit pairs) reply
      → IsReply (IsModelReply w contents bytes) reply
  strong_reply pairs is names faultless (r, gives, done) = taken_reply names (
    r,
    gives,
    inr (record {
      faultless = faultless;
      second = None;
      loaded = subst (λ job. IsSecond job contents None) (sym is) refl;
      does = subst (λ job. Does job m w.limit None r) (sym is) done;
    }),
  )

-- a search that is left is a reply to what is asked of strong paths
pub left_strong : (m : System) (limit : ℕ) (pairs : List (ℕ × ℕ)) (r : Result Reply AllocError)
    → IfOk r (IsReply (LeavesStrong m limit)) → IfOk r (IsReply (StrongReply m limit pairs))
left_strong m limit pairs (Ok reply) is = (is.0, is.1, inr (inr is.2))
left_strong m limit pairs (Err e) is = tt

-- delays that are left are a reply to what is asked of them
pub left_delays : (m : System) (limit from to : ℕ) (r : Result Reply AllocError)
    → IfOk r (IsReply (LeavesDelays m limit from to)) → IfOk r (IsReply (Delayed m limit from to))
left_delays m limit from to (Ok reply) is = (is.0, is.1, inr is.2)
left_delays m limit from to (Err e) is = tt

-- ---- a second file

pub of_recheck : (w : Work) (m : System) (contents : Option Contents) (proofs : List ℕ) → w.job ≡ Recheck proofs
    → IsOfSecond (Rechecked m w.limit) w m contents proofs
of_recheck w m contents proofs is = record {
  names = names_none w.job (Recheck proofs) m is refl;
  named = subst (λ job. IsSecondName job proofs) (sym is) refl;
  loads = λ second there. subst (λ job. IsSecond job contents second) (sym is) there;
  does = λ file r done. subst (λ job. Does job m w.limit (Some file) r) (sym is) done;
}

pub of_replay : (w : Work) (m : System) (contents : Option Contents) (trace : List ℕ) → w.job ≡ Replay trace
    → IsOfSecond (Replayed m w.limit) w m contents trace
of_replay w m contents trace is = record {
  names = names_none w.job (Replay trace) m is refl;
  named = subst (λ job. IsSecondName job trace) (sym is) refl;
  loads = λ second there. subst (λ job. IsSecond job contents second) (sym is) there;
  does = λ file r done. subst (λ job. Does job m w.limit (Some file) r) (sym is) done;
}

-- what is foreseen for its second file is foreseen for the work
module _ (Replies : List ℕ → replies.Reply → Type 0) (w : Work) (contents : Option Contents) (bytes : List ℕ) (m : System) (name : List ℕ) (before after : FileFaults)
    (ruled : HasRuled bytes m) (few : state_bits m ≤ most_state_bits) (faultless : IsFaultless m) (of : IsOfSecond Replies w m contents name) where
  second_foreseen : (f : Foreseen) → ForeseesSecond Replies contents name before after f → ForeseesText w contents bytes before after f
  second_foreseen (foreseen.Reply reply) found = record {
    answer = second_reply w contents bytes m reply ruled few Replies name found.bytes of faultless found.there found.answer;
    quiet = found.quiet;
  }
  second_foreseen (foreseen.Fault fault) came = record {
    name = name;
    second = of.named;
    model = m;
    accepted = record { has = record { ruled = ruled; few = few }; faultless = faultless };
    came = came;
  }

  pub second_result : (r : Result Foreseen AllocError) → IfOk r (ForeseesSecond Replies contents name before after) → IfOk r (ForeseesText w contents bytes before after)
  second_result (Ok f) found = second_foreseen f found
  second_result (Err e) found = tt
