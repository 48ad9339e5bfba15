-- The refusals of the code, as the definitions have them.
use Rattle.std.specs.Prelude.{◌≡◌, Option, Some, None, IsSomeAnd}
use Rattle.smv_texts.specs.Refusals as refusals
use Rattle.smv_texts.specs.Refusals.{refusal_line}
use Rattle.smv_texts.specs.declared.ending.Ending.TheVariants.{ModelRefused}
use Rattle.smv_texts.specs.declared.reply.Reply.{Reply}
use Rattle.smv_texts.specs.declared.refusal.Refusal.{Refusal}
use Rattle.smv_texts.specs.declared.refusal.Refusal.TheVariants.{TooLong, BadByte, NumberTooLarge, NoProgram, TooDeep, NotFlat, BreaksRule, TooManyBits, NoLeaf, Memory}
use Rattle.kripke_model.specs.declared.refusals.FlatRefusal.{FlatRefusal}
use Rattle.kripke_model.specs.declared.refusals.StaticRefusal.{StaticRefusal}

-- none where memory ran out
abbrev pub told_flat : FlatRefusal → Option refusals.Refusal
told_flat FlatRefusal.Memory = None
told_flat r = Some (refusals.NotFlat r)

abbrev pub told_static : StaticRefusal → Option refusals.Refusal
told_static StaticRefusal.Memory = None
told_static r = Some (refusals.BreaksRule r)

abbrev pub told : Refusal → Option refusals.Refusal
told TooLong = Some refusals.TooLong
told (BadByte l) = Some (refusals.BadByte l)
told (NumberTooLarge l) = Some (refusals.NumberTooLarge l)
told (NoProgram l) = Some (refusals.NoProgram l)
told (TooDeep l) = Some (refusals.TooDeep l)
told (NotFlat r) = told_flat r
told (BreaksRule r) = told_static r
told (TooManyBits bits) = Some (refusals.TooManyBits bits)
told (NoLeaf j) = Some (refusals.NoLeaf j)
told Memory = None

-- the reply is the line of a refusal
abbrev pub TellsRefusal : Option refusals.Refusal → Reply → Type 0
TellsRefusal o reply = IsSomeAnd o
    (λ r. (reply.text.items ≡ refusal_line r) × (reply.ending ≡ ModelRefused)
    × (reply.saves ≡ None))
