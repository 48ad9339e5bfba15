-- What the program answers where nothing fails.
use Rattle.std.specs.Prelude.{◌≡◌, ◌⊎◌, ℕ, List, Option, Some, None, IfSome, IsSomeAnd}
use Rattle.command_words.specs.Words as words
use Rattle.command_words.specs.Words.{Command, Source, File, Ring, Work, Print, Do}
use Rattle.kripke_model.specs.Faults.{IsFaultless}
use Rattle.kripke_model.specs.System.{System}
use Rattle.smv_outside.specs.Contents.{Contents, bytes_under}
use Rattle.smv_rings.specs.Rings.{ring_text}
use Rattle.smv_session.specs.Jobs.{Does, IsSecond, IsSecondName, NamesLeaves, Undecides}
use Rattle.smv_session.specs.Refuses.{Refuses}
use Rattle.smv_session.specs.Source.{HasModel, IsAccepted}
use Rattle.smv_texts.specs.Refusals.{Refusal, refusal_line}
use Rattle.smv_texts.specs.Replies.{Reply, text_of}
use Rattle.smv_texts.specs.Texts.{usage_text}
use Rattle.smv_texts.specs.declared.ending.Ending.TheVariants.{Clear, ModelRefused, Usage}

-- ---- the model's text

-- the bytes of the source, as far as the contents are told
abbrev pub Reads : Source → Option Contents → List ℕ → Type 0
Reads (File name) contents bytes = IfSome contents (λ files. bytes_under files name ≡ Some bytes)
Reads (Ring n) contents bytes = bytes ≡ ring_text n

-- the same, where the contents are told
abbrev pub Tells : Source → Option Contents → List ℕ → Type 0
Tells (File name) contents bytes = IsSomeAnd contents (λ files. bytes_under files name ≡ Some bytes)
Tells (Ring n) contents bytes = bytes ≡ ring_text n

-- the source is a file of this name
abbrev pub IsSourceName : Source → List ℕ → Type 0
IsSourceName (File file) name = name ≡ file
IsSourceName (Ring n) name = ⊥

-- ---- replies

-- the model's text is refused: its line is put
pub record IsRefused (w : Work) (bytes : List ℕ) (r : Reply) : Type 0 where
  pub refusal : Refusal
  pub applies : Refuses w.job bytes refusal
  pub text : text_of r ≡ refusal_line refusal
  pub ends : r.ending ≡ ModelRefused
  pub saves : r.saves ≡ None

-- the job is done on a model without faults
pub record IsDone (w : Work) (contents : Option Contents) (m : System) (r : Reply) : Type 0 where
  pub faultless : IsFaultless m
  pub second : Option (List ℕ)
  pub loaded : IsSecond w.job contents second
  pub does : Does w.job m w.limit second r

-- the model is taken: the limit leaves it undecided, or the job is done
abbrev pub Takes : Work → Option Contents → System → Reply → Type 0
Takes w contents m r = Undecides w.job m w.limit r ⊎ IsDone w contents m r

pub record IsTaken (w : Work) (contents : Option Contents) (bytes : List ℕ)
    (r : Reply) : Type 0 where
  pub model : System
  pub has : HasModel bytes model
  pub names : NamesLeaves w.job model
  pub takes : Takes w contents model r

-- the reply to a model's text
abbrev pub IsModelReply : Work → Option Contents → List ℕ → Reply → Type 0
IsModelReply w contents bytes r = IsRefused w bytes r ⊎ IsTaken w contents bytes r

-- the whole of a reply that saves nothing
pub record Says (text : List ℕ) (r : Reply) : Type 0 where
  pub text_is : text_of r ≡ text
  pub saves : r.saves ≡ None

-- The reply to a command over these contents.
abbrev pub Answers : Command → Option Contents → Reply → Type 0
Answers words.Usage contents r = Says usage_text r × (r.ending ≡ Usage)
Answers (Print n) contents r = Says (ring_text n) r × (r.ending ≡ Clear)
Answers (Do w) contents r =
    (bytes : List ℕ) × Reads w.source contents bytes × IsModelReply w contents bytes r

-- The command loads a file of this name: its source, and a second one only where the model's text
-- is accepted.
abbrev pub Loads : Command → Option Contents → List ℕ → Type 0
Loads words.Usage contents name = ⊥
Loads (Print n) contents name = ⊥
Loads (Do w) contents name = IsSourceName w.source name
    ⊎ (IsSecondName w.job name × (bytes : List ℕ) × (m : System) × Reads w.source contents bytes
    × IsAccepted bytes m)
