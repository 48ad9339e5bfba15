-- The expressions of abbreviations, by what their names stand for.
use Rattle.std.proofs.Common.{◌≡◌, refl, sym, ◌∙◌, ap, ℕ, ◌<◌, length, Option, Some, None}
use Rattle.std.specs.Prelude.{slice_get, option_map}
use Rattle.std.proofs.lemmas.Option.{same_Some, slice_get_within}
use Rattle.smv_instances.specs.declared.found.Found.TheVariants as found
use Rattle.smv_instances.specs.Program.{Name, Expr, Plain, Program}
use Rattle.smv_instances.specs.Entries.{Entity, Entry, entity_in}
use Rattle.smv_instances.specs.Instances.{Scope, module_of, all_entries}
use Rattle.smv_instances.specs.Numbered.{IsFound, IsActual, actuals_of}
use Rattle.smv_names.specs.Denotes.{bare}
use Rattle.smv_names.specs.Abbreviations.{Abbreviation, text_of}
use Rattle.smv_names.specs.Nodes.{abbreviation_at, IsPlaced}
use Rattle.smv_names.specs.Uses.{IsTextIn}
use Rattle.smv_names.proofs.FoundLemmas.{no_actual, actual_is, numbered_by, text_parameter}

pub text_actual : (p : Program) (s : Scope) (x : Name) (place caller : ℕ) (e f : Expr) → IsFound p s x (found.Parameter place) → IsActual p s place caller e → f ≡ bare e → IsTextIn p (record { scope = s; name = x }) caller f
text_actual p s x place caller e f is a same = (a.around, a.numbered, text_parameter s x is.0 ∙ actual_is p s x place caller e is a ∙ ap (λ z. Some (a.around, z)) (sym same))

pub text_missing : (p : Program) (s : Scope) (x : Name) (place : ℕ) → IsFound p s x (found.Parameter place) → slice_get (actuals_of s) place ≡ None → text_of (record { scope = s; name = x }) ≡ None
text_missing p s x place is none = text_parameter s x is.0 ∙ no_actual s x place p is none

pub text_stored : (s : Scope) (x : Name) (type : Plain) → entity_in (module_of s) x ≡ Some (Entity.Stored type) → text_of (record { scope = s; name = x }) ≡ None
text_stored s x type declared = rw declared

pub text_instance : (p : Program) (s : Scope) (x : Name) (number : ℕ) → IsFound p s x (found.Instance number) → text_of (record { scope = s; name = x }) ≡ None
text_instance p s x number is = go is.process is.module_name is.actuals is.declared
  where
    go : (process : _) (module_name : Name) (actuals : _) → entity_in (module_of s) x ≡ Some (Entity.Instance process module_name actuals) → text_of (record { scope = s; name = x }) ≡ None
    go process module_name actuals declared = rw declared

-- ---- by the number of the abbreviation

-- an abbreviation's number is that of an entry
pub numbered_within : (p : Program) (v : ℕ) (a : Abbreviation) → abbreviation_at p v ≡ Some a → v < length (all_entries p)
numbered_within p v a at = go (slice_get (all_entries p) v) refl at
  where
    go : (o : Option (Scope × Entry)) → slice_get (all_entries p) v ≡ o → option_map (λ (e : Scope × Entry). record { scope = e.0; name = e.1.name }) o ≡ Some a → v < length (all_entries p)
    go (Some e) is at = slice_get_within (all_entries p) v e is
    go None is at = absurd (let none : None ≡ Some a = at in cc)

-- the abbreviation with the number of an entry
pub placed_is : (p : Program) (a : Abbreviation) (node i k : ℕ) → (at : IsPlaced p node i k) → abbreviation_at p node ≡ Some a → record { scope = at.scope; name = at.entry.name } ≡ a
placed_is p a node i k at is = same_Some _ _ (sym (numbered_by p node at.scope at.entry.name at.entry at.is refl) ∙ is)
