-- Where no entry is refused, no abbreviation is circular, and the paths of all texts are sound.
use Rattle.std.proofs.Common.{◌≡◌, refl, sym, ◌∙◌, ap, subst, ℕ, zero, suc, ◌<◌, List, [], ◌∷◌, length, map, flat_map, Bool, Option, Some, None, inl, inr}
use Rattle.std.specs.Prelude.{All, slice_get, option_map, find, zip}
use Rattle.std.specs.Str.{bytes_eq}
use Rattle.std.proofs.lemmas.Option.{same_Some, slice_get_within, get_or_from_slice_get}
use Rattle.smv_instances.specs.declared.instances.Instances.{Instances}
use Rattle.smv_instances.specs.Program.{Name, Expr, Formal, Module, Plain, Program}
use Rattle.smv_instances.specs.Entries.{Entity, Entry, entries, entity_in, of_formal, of_section}
use Rattle.smv_instances.specs.Instances.{Scope, module_of, all_entries, instances}
use Rattle.smv_instances.specs.Numbered.{scope_at}
use Rattle.smv_instances.specs.Built.{AreInstances}
use Rattle.smv_instances.proofs.FindLemmas.{formal_at}
use Rattle.smv_instances.proofs.RowLemmas.{slice_get_left}
use Rattle.smv_instances.proofs.InstanceLemmas.{row_of, entry_place}
use Rattle.smv_names.specs.Denotes.{Target, Meaning, meaning, bare, passed, actual_of}
use Rattle.smv_names.specs.Abbreviations.{mentions, actual_mentions, Abbreviation, text_of, IsCircular}
use Rattle.smv_names.specs.Nodes.{abbreviation_at}
use Rattle.smv_names.specs.Sound.{IsSound, AreSound, AreDefined, text_mentions}
use Rattle.smv_names.specs.Definitions.{IsCircularFormal, AreStraight, IsDefined, AreDefinedUpTo}
use Rattle.smv_names.proofs.AnyLemmas.{all_left, all_right}
use Rattle.smv_names.proofs.Circles.{leads_nowhere}
use Rattle.smv_names.proofs.NodeLemmas.{entry_numbered, mapped_get}
use Rattle.smv_names.proofs.WaitLemmas.{member_at}
use Rattle.smv_names.proofs.ActualLemmas.{parameter_meaning}
use Rattle.smv_names.proofs.FoundLemmas.{defined_meaning, text_defined, text_parameter}
use Rattle.smv_names.proofs.MemberLemmas.{Has, IsBelow, main_or_below, placed_in, declared_by, zip_has}
use Rattle.smv_names.proofs.DefinitionLemmas.{entry_named}

-- the name x of s isn't circular, and the paths of its text are sound
pub record IsFine (p : Program) (s : Scope) (x : Name) : Type 0 where
  pub straight : IsCircular p (record { scope = s; name = x }) → ⊥
  pub sound : (h : Scope) (e : Expr) → text_of (record { scope = s; name = x }) ≡ Some (h, e) → AreSound p h (text_mentions (meaning p s x) e)

no_text_fine : (p : Program) (s : Scope) (x : Name) → text_of (record { scope = s; name = x }) ≡ None → IsFine p s x
no_text_fine p s x none = record { straight = leads_nowhere p none; sound = λ h e some. absurd (let clash : None ≡ Some (h, e) = sym none ∙ some in cc) }

stored_text : (s : Scope) (x : Name) (type : Plain) → entity_in (module_of s) x ≡ Some (Entity.Stored type) → text_of (record { scope = s; name = x }) ≡ None
stored_text s x type declared = rw declared

instance_text : (s : Scope) (x : Name) (process : Bool) (module_name : Name) (actuals : List Expr) → entity_in (module_of s) x ≡ Some (Entity.Instance process module_name actuals) → text_of (record { scope = s; name = x }) ≡ None
instance_text s x process module_name actuals declared = rw declared

-- the paths of a text, where its name means m
abbrev SoundText : Program → Option Meaning → Scope × Expr → Type 0
SoundText p m r = AreSound p r.0 (text_mentions m r.1)

defined_fine : (p : Program) (s : Scope) (x : Name) (body : Expr) → entity_in (module_of s) x ≡ Some (Entity.Defined body) → (IsCircular p (record { scope = s; name = x }) → ⊥) → AreSound p s (mentions body) → IsFine p s x
defined_fine p s x body declared never sound = record {
  straight = never;
  sound = λ h e is.
      let same : (s, body) ≡ (h, e) = same_Some _ _ (sym (text_defined s x body declared) ∙ is) in
      subst (λ m. SoundText p m (h, e)) (sym (defined_meaning p s x body declared)) (subst (λ r. SoundText p (Some (Meaning.Direct (Target.Reading s body))) r) same sound);
}

-- ---- formal parameters

-- the actual parameter of a pair, and where it is read
abbrev read_pair : Scope → Formal × Expr → Scope × Expr
read_pair around pair = (around, bare pair.1)

actual_text : (around : Scope) (e : Expr) → text_mentions (Some (passed around (bare e))) (bare e) ≡ actual_mentions e
actual_text around (Expr.At q) = refl
actual_text around (Expr.Number n) = refl
actual_text around (Expr.Truth b) = refl
actual_text around Expr.Running = refl
actual_text around (Expr.Next e) = refl
actual_text around (Expr.Parens e) = actual_text around e
actual_text around (Expr.Braces es) = refl
actual_text around (Expr.Case arms) = refl
actual_text around (Expr.Not e) = refl
actual_text around (Expr.Binary op a b) = refl
actual_text around (Expr.Quant op e) = refl
actual_text around (Expr.Until all a b) = refl

all_of_flat : {A B : Type 0} (P : B → Type 0) (f : A → List B) (xs : List A) (x : A) → All P (flat_map f xs) → Has xs x → All P (f x)
all_of_flat P f [] x all (k, at) = absurd (let none : None ≡ Some x = at in cc)
all_of_flat P f (y ∷ xs) x all (zero, at) = subst (λ z. All P (f z)) (same_Some _ _ at) (all_left P (f y) (flat_map f xs) all)
all_of_flat P f (y ∷ xs) x all (suc k, at) = all_of_flat P f xs x (all_right P (f y) (flat_map f xs) all) (k, at)

module _ (p : Program) (around : Scope) (name : Name) (process : Bool) (actuals : List Expr) (m : Module) (x : Name) where
  inside : Scope
  inside = Scope.Inside around name process actuals m

  parameter_sound : entity_in m x ≡ Some Entity.Parameter → AreSound p around (flat_map actual_mentions actuals) → (h : Scope) (e : Expr) → actual_of inside x ≡ Some (h, e) → AreSound p h (text_mentions (meaning p inside x) e)
  unfolding inside
  parameter_sound declared sound h e is = go (find (λ (pair : Formal × Expr). bytes_eq pair.0.name x) (zip m.formals actuals)) refl is
    where
      go : (o : Option (Formal × Expr)) → find (λ (pair : Formal × Expr). bytes_eq pair.0.name x) (zip m.formals actuals) ≡ o → option_map (read_pair around) o ≡ Some (h, e)
          → AreSound p h (text_mentions (meaning p inside x) e)
      go None found none = absurd (let clash : None ≡ Some (h, e) = none in cc)
      go (Some pair) found some =
          let actual : actual_of inside x ≡ Some (around, bare pair.1) = ap (option_map (read_pair around)) found in
          let means : meaning p inside x ≡ Some (passed around (bare pair.1)) = parameter_meaning p inside x (Some (around, bare pair.1)) declared actual in
          let one : AreSound p around (actual_mentions pair.1) = all_of_flat (IsSound p around) actual_mentions actuals pair.1 sound (zip_has (λ (z : Formal × Expr). bytes_eq z.0.name x) m.formals actuals pair found) in
          subst (λ z. SoundText p z (h, e)) (sym means)
          (subst (λ r. SoundText p (Some (passed around (bare pair.1))) r) (same_Some _ _ some) (subst (λ ms. AreSound p around ms) (sym (actual_text around pair.1)) one))

-- the formal parameter at the place of the entry
straight_formal : (p : Program) (c : Scope) (k : ℕ) (e : Entry) → AreStraight p c → k < length (module_of c).formals → slice_get (entries (module_of c)) k ≡ Some e → IsCircular p (record { scope = c; name = e.name }) → ⊥
straight_formal p c k e straight below stands circular =
    let m = module_of c in
    let f = member_at m.formals k below in
    let formal : slice_get (entries m) k ≡ Some (of_formal f.0) = slice_get_left (map of_formal m.formals) (flat_map of_section m.sections) k (of_formal f.0) (mapped_get of_formal m.formals k f.0 f.1) in
    let named : e.name ≡ f.0.name = ap (λ (d : Entry). d.name) (same_Some _ _ (sym stands ∙ formal)) in
    straight k f.0 below
    (subst (IsCircularFormal p c) (sym (get_or_from_slice_get m.formals k f.0 f.0 f.1)) (subst (λ z. IsCircular p (record { scope = c; name = z })) named circular))

module _ (p : Program) (all : Instances) (are : AreInstances p all) (done : AreDefinedUpTo p (length (all_entries p))) where
  -- what the check of an entry has shown
  shown : (i k : ℕ) (s : Scope) (e : Entry) → scope_at p i ≡ Some s → slice_get (entries (module_of s)) k ≡ Some e → IsDefined p s e e.entity
  shown i k s e at stands =
      let there = entry_numbered p i k s e at stands in
      done _ s e (slice_get_within (all_entries p) _ (s, e) there) there

  parameter_fine : (i k : ℕ) (s : Scope) (e : Entry) → scope_at p i ≡ Some s → slice_get (entries (module_of s)) k ≡ Some e → e.entity ≡ Entity.Parameter → IsFine p s e.name
  unfolding inside
  parameter_fine i k s e at stands is = elim (main_or_below p s (i, at)) [ inl main ↦ of_main main.0 main.1 | inr below ↦ of_below below ]
    where
      declared : entity_in (module_of s) e.name ≡ Some Entity.Parameter
      declared = entry_named p all i k s e are at stands ∙ ap Some is

      of_main : (m : Module) → s ≡ Scope.Main m → IsFine p s e.name
      of_main m same = no_text_fine p s e.name (text_parameter s e.name declared ∙ ap (λ z. actual_of z e.name) same)

      of_below : IsBelow p (instances p) s → IsFine p s e.name
      of_below b =
          let known = shown b.known.0 b.declared.0 b.around b.entry b.known.1 b.declared.1 in
          let d = declared_by p b.around b.entry.name b.entry.line b.entry.entity s b.leads in
          let about : IsDefined p b.around b.entry (Entity.Instance d.process d.module_name d.actuals) = subst (λ z. IsDefined p b.around b.entry z) d.entity_is known in
          let row = row_of p all i s are at in
          let formal = formal_at (module_of s) e.name k e (entry_place p all i s row.2.table.table k e are at row.2.table.is_table stands) stands is in record {
            straight = straight_formal p s k e (about.0 s b.leads) formal.0 stands;
            sound = λ h f text.
                let actual : actual_of (Scope.Inside b.around b.entry.name d.process d.actuals d.m) e.name ≡ Some (h, f) = ap (λ z. actual_of z e.name) (sym d.is) ∙ sym (text_parameter s e.name declared) ∙ text in
                let declared_there : entity_in d.m e.name ≡ Some Entity.Parameter = ap (λ z. entity_in (module_of z) e.name) (sym d.is) ∙ declared in
                subst (λ z. SoundText p (meaning p z e.name) (h, f)) (sym d.is) (parameter_sound p b.around b.entry.name d.process d.actuals d.m e.name declared_there about.1 h f actual);
          }

  entry_fine : (i k : ℕ) (s : Scope) (e : Entry) → scope_at p i ≡ Some s → slice_get (entries (module_of s)) k ≡ Some e → IsFine p s e.name
  entry_fine i k s e at stands = go e.entity refl
    where
      go : (entity : Entity) → e.entity ≡ entity → IsFine p s e.name
      go Entity.Parameter is = parameter_fine i k s e at stands is
      go (Entity.Stored type) is = no_text_fine p s e.name (stored_text s e.name type (entry_named p all i k s e are at stands ∙ ap Some is))
      go (Entity.Instance process module_name actuals) is = no_text_fine p s e.name (instance_text s e.name process module_name actuals (entry_named p all i k s e are at stands ∙ ap Some is))
      go (Entity.Defined body) is =
          let about : IsDefined p s e (Entity.Defined body) = subst (λ z. IsDefined p s e z) is (shown i k s e at stands) in
          defined_fine p s e.name body (entry_named p all i k s e are at stands ∙ ap Some is) about.0 about.1

  placed_fine : (v : ℕ) (s : Scope) (e : Entry) → slice_get (all_entries p) v ≡ Some (s, e) → IsFine p s e.name
  placed_fine v s e at = let place = placed_in p s e (v, at) in entry_fine place.0.0 place.1.0 s e place.0.1 place.1.1

  abbreviation_fine : (v : ℕ) (a : Abbreviation) → abbreviation_at p v ≡ Some a → IsFine p a.scope a.name
  abbreviation_fine v a at = go (slice_get (all_entries p) v) refl at
    where
      go : (o : Option (Scope × Entry)) → slice_get (all_entries p) v ≡ o → option_map (λ (d : Scope × Entry). record { scope = d.0; name = d.1.name }) o ≡ Some a → IsFine p a.scope a.name
      go None stands none = absurd (let clash : None ≡ Some a = none in cc)
      go (Some d) stands some = subst (λ (b : Abbreviation). IsFine p b.scope b.name) (same_Some _ _ some) (placed_fine v d.0 d.1 stands)

  pub all_defined : AreDefined p
  all_defined = record {
    straight = λ v a at. (abbreviation_fine v a at).straight;
    sound = λ v a h e at text. (abbreviation_fine v a at).sound h e text;
  }
