-- The abbreviation that a path names.
use Rattle.std.proofs.Common.{◌≡◌, refl, ◌∙◌, ap, subst, ℕ, Bool, true, false, Option, Some, None}
use Rattle.smv_parser.specs.declared.expressions.PathPart.{PathPart, Field, Index'}
use Rattle.smv_instances.specs.Program.{Name, Path, Program}
use Rattle.smv_instances.specs.Instances.{Scope}
use Rattle.smv_names.specs.declared.targets.Target.{Target as Held}
use Rattle.smv_names.specs.declared.targets.Target.TheVariants as held
use Rattle.smv_names.specs.Denotes.{Target, Denotes}
use Rattle.smv_names.specs.Abbreviations.{Abbreviation, text_of}
use Rattle.smv_names.specs.Written.{extended}
use Rattle.smv_names.specs.Targets.{IsTarget, Resolves}
use Rattle.smv_names.specs.Ready.{IsNamed, LeadsInto, NamesNode}
use Rattle.smv_names.proofs.Once.{denotes_one}
use Rattle.smv_names.proofs.ResolveLemmas.{instance_target, scope_or}

no_text : (s : Scope) (x : Name) (a : Abbreviation) → a.scope ≡ s → a.name ≡ x → text_of (record { scope = s; name = x }) ≡ None → text_of a ≡ None
no_text s x a scopes names none = ap (λ z. text_of (record { scope = z; name = a.name })) scopes ∙ ap (λ z. text_of (record { scope = s; name = z })) names ∙ none

pub named_here : (p : Program) (s : Scope) (line : ℕ) (x : Name) (o : Option ℕ) → IsNamed p s x o → NamesNode p s (Path.Here line x) o
named_here p s line x (Some node) is = (record { scope = s; name = x }, is, (refl, refl))
named_here p s line x None is = λ a names. no_text s x a names.0 names.1 is

pub named_field : (p : Program) (s : Scope) (q : Path) (x : Name) (number : ℕ) (o : Option ℕ) → (front : LeadsInto p s q (Some number)) → IsNamed p front.0 x o → NamesNode p s (Path.Field q x) o
named_field p s q x number (Some node) front is = (record { scope = front.0; name = x }, is, (front.2, refl))
named_field p s q x number None front is = λ a names. no_text front.0 x a (ap (scope_or s) (denotes_one names.0 front.2)) names.1 is

pub named_nothing : (p : Program) (s : Scope) (q : Path) (x : Name) → LeadsInto p s q None → NamesNode p s (Path.Field q x) None
named_nothing p s q x never = λ a names. absurd (never a.scope names.0)

pub into_instance : (p : Program) (s : Scope) (q : Path) (number : ℕ) → Resolves p s q (Some (held.Instance number)) → LeadsInto p s q (Some number)
into_instance p s q number front = let at = instance_target p number front.0 front.1 in (at.scope, at.numbered, subst (λ z. Denotes p s q z) at.is front.2)

abbrev pub is_instance : Held → Bool
is_instance (held.Instance number) = true
is_instance (held.Stored home name plain indexes) = false
is_instance (held.Reading home right node) = false
is_instance (held.Constant place) = false

pub into_none : (p : Program) (s : Scope) (q : Path) (h : Held) → Resolves p s q (Some h) → is_instance h ≡ false → LeadsInto p s q None
into_none p s q h front other = λ i d. differs h i other (subst (λ z. IsTarget p h z) (denotes_one front.2 d) front.1)
  where
    differs : (t : Held) (i : Scope) → is_instance t ≡ false → IsTarget p t (Target.Instance i) → ⊥
    differs (held.Instance number) i is target = let clash : true ≡ false = is in cc
    differs (held.Stored home name plain indexes) i is target = target
    differs (held.Reading home right node) i is target = target
    differs (held.Constant place) i is target = target

pub into_nothing : (p : Program) (s : Scope) (q : Path) → Resolves p s q None → LeadsInto p s q None
into_nothing p s q none = λ i d. none (Target.Instance i) d

pub named_index : (p : Program) (s : Scope) (q : Path) (part : PathPart) → ((name : _) → part ≡ Field name → ⊥) → NamesNode p s (extended q part) None
named_index p s q (Field name) never = absurd (never name refl)
named_index p s q (Index' kind line) never = λ a names. absurd names
