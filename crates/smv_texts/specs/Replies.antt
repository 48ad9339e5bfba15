-- What is put and saved where nothing fails.
use Rattle.std.specs.Prelude.{◌≡◌, ℕ, List, ◌++◌, Option, option_map, codes}
use Rattle.smv_texts.specs.declared.ending.Ending.{Ending}
use Rattle.smv_texts.specs.declared.reply.Reply as code
use Rattle.smv_texts.specs.declared.reply.Saving.{Saving}

-- The word with which an answer begins. No fault line begins so.
pub data Head : Type 0 where
  Spec : Head
  Total : Head
  Model : Head
  From : Head
  Trace : Head
  Strong : Head
  Refused : Head
  Usage : Head
  Module : Head

abbrev pub head_word : Head → List ℕ
head_word Spec = codes "spec "
head_word Total = codes "total "
head_word Model = codes "model "
head_word From = codes "from "
head_word Trace = codes "trace "
head_word Strong = codes "strong "
head_word Refused = codes "refused "
head_word Usage = codes "usage: "
head_word Module = codes "MODULE "

-- the text, how the call ends, and what stands under a name then
pub record Reply : Type 0 where
  pub head : Head
  pub rest : List ℕ
  pub ending : Ending
  pub saves : Option (List ℕ × List ℕ)

abbrev pub text_of : Reply → List ℕ
text_of r = head_word r.head ++ r.rest

-- the bytes of the code, with the name under which they are saved
abbrev pub saved_of : Option Saving → Option (List ℕ × List ℕ)
saved_of saves = option_map (λ saving. (saving.name.now, saving.bytes.items)) saves

-- the reply of the code
pub record Gives (r : Reply) (reply : code.Reply) : Type 0 where
  pub text : reply.text.items ≡ text_of r
  pub ending : reply.ending ≡ r.ending
  pub saves : saved_of reply.saves ≡ r.saves

-- some reply that is as R says is the one of the code
abbrev pub IsReply : (Reply → Type 0) → code.Reply → Type 0
IsReply R reply = (r : Reply) × Gives r reply × R r
