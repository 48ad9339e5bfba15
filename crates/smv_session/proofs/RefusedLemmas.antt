-- What flattening and the static rules refuse is refused of the text, unless memory ran out.
use Rattle.std.proofs.Common.{◌≡◌, ℕ, List, IfSome, ◌⊎◌, inl, inr}
use Rattle.kripke_model.specs.Static.{Breaks, KeepsRules}
use Rattle.kripke_model.specs.System.{System}
use Rattle.kripke_model.specs.declared.refusals.StaticRefusal.{StaticRefusal}
use Rattle.smv_parser.specs.Program.{Program}
use Rattle.smv_instances.specs.Abstract as plain
use Rattle.kripke_model.specs.declared.refusals.FlatRefusal.{FlatRefusal}
use Rattle.smv_instantiate.specs.Refuses as flattening
use Rattle.smv_session.specs.Source.{HasProgram, HasFlat, HasRuled}
use Rattle.command_words.specs.Words.{Job}
use Rattle.smv_session.specs.Refuses.{Refuses}
use Rattle.smv_texts.specs.Told.{told_flat, told_static}

pub not_flat : (bytes : List ℕ) (p : Program) (r : FlatRefusal) → HasProgram bytes p → (r ≡ FlatRefusal.Memory) ⊎ flattening.Refuses (plain.program p) r → (job : Job) → IfSome (told_flat r) (Refuses job bytes)
not_flat bytes p FlatRefusal.Memory has h job = tt
not_flat bytes p r has (inl other) job = absurd cc
not_flat bytes p r has (inr h) job = (p, has, h)

pub breaks_rule : (bytes : List ℕ) (m : System) (r : StaticRefusal) → HasFlat bytes m → (r ≡ StaticRefusal.Memory) ⊎ Breaks m r → (job : Job) → IfSome (told_static r) (Refuses job bytes)
breaks_rule bytes m StaticRefusal.Memory has h job = tt
breaks_rule bytes m r has (inl other) job = absurd cc
breaks_rule bytes m r has (inr h) job = (m, has, h)

pub ruled : (bytes : List ℕ) (m : System) → HasFlat bytes m → KeepsRules m → HasRuled bytes m
ruled bytes m has kept = record { flat = has; rules = kept }
