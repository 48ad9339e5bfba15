-- Tables over abbreviations that are filled in order, step by step.
use Rattle.std.proofs.Common.{◌≡◌, refl, sym, ◌∙◌, ap, subst, ℕ, ◌+◌, ◌<◌, ◌≤◌, arith, List, length, get_or, set, Bool, true, false, Some, None, Option}
use Rattle.std.specs.Prelude.{option_map}
use Rattle.std.proofs.lemmas.List.{get_or_default}
use Rattle.smv_instances.specs.Program.{Expr, Program}
use Rattle.smv_instances.specs.Entries.{Entry}
use Rattle.smv_instances.specs.Instances.{Scope, all_entries}
use Rattle.smv_names.specs.declared.sizes.Size.{Size}
use Rattle.smv_names.specs.Abbreviations.{mentions, Abbreviation, text_of, IsCircular}
use Rattle.smv_names.specs.Nodes.{abbreviation_at}
use Rattle.smv_names.specs.Naming.{NamedIn}
use Rattle.smv_names.specs.Ordered.{AreOrdered}
use Rattle.smv_names.specs.Works.{Works, HasUsed}
use Rattle.smv_names.specs.Values.{IsSize, IsNumberOf, IsSizeOfText}
use Rattle.smv_names.specs.Known.{NumberOf, SizeOf, leaf}
use Rattle.smv_names.proofs.GroundLemmas.{no_term}
use Rattle.smv_names.proofs.TextLemmas.{numbered_within}
use Rattle.smv_names.proofs.WaitLemmas.{member_at}
use Rattle.smv_names.proofs.WorkLemmas.{works_kept, works_written, works_end, works_known}

-- what is known of the abbreviations that it uses is known of those that its text names
pub used_in : {A : Type 0} (start : A) (property : Abbreviation → A → Type 0) (p : Program) (a : Abbreviation) (table : List A) (h : Scope) (e : Expr) → HasUsed start property p a table → text_of a ≡ Some (h, e)
    → (v : ℕ) (b : Abbreviation) → abbreviation_at p v ≡ Some b → NamedIn p h (mentions e) b → property b (get_or table v start)
used_in start property p a table h e known is v b at named = known v b at (h, e, is, named)

-- a number below the count is that of an abbreviation
pub abbreviation_in : (p : Program) (v : ℕ) → v < length (all_entries p) → (a : Abbreviation) × (abbreviation_at p v ≡ Some a)
abbreviation_in p v below =
    let e = member_at (all_entries p) v below in
    (record { scope = e.0.0; name = e.0.1.name }, ap (option_map (λ (d : Scope × Entry). record { scope = d.0; name = d.1.name })) e.1)

-- a flag as it was read
pub flag_is : {p : Program} {order : List ℕ} {circular : List Bool} {k node : ℕ} {b d : Bool} → AreOrdered p order circular → k < length order → node ≡ get_or order k 0 → b ≡ get_or circular node b → b ≡ d → get_or circular node false ≡ d
flag_is {order = order} {circular = circular} {k = k} {node = node} {b = b} ordered h read flag is =
    let below : get_or order k 0 < length circular = omega (arith, ordered.are_numbers k h, ordered.flags) in
    get_or_default circular node false b (subst (λ z. z < length circular) (sym read) below) ∙ sym flag ∙ is

module _ {A : Type 0} {start : A} {property : Abbreviation → A → Type 0} {p : Program} {order : List ℕ} {circular : List Bool} (ordered : AreOrdered p order circular) where
  -- one that is circular stays as it was
  pub fill_circular : {table : List A} {k node : ℕ} → ((a : Abbreviation) → abbreviation_at p node ≡ Some a → IsCircular p a → property a start) → Works start property p order table k → k < length order → node ≡ get_or order k 0 → get_or circular node false ≡ true
      → Works start property p order table (k + 1)
  fill_circular {k = k} {node = node} stuck w h read flag =
      works_kept w h (λ a at. stuck a (ap (abbreviation_at p) read ∙ at) (ordered.is_circular node a (ap (abbreviation_at p) read ∙ at) flag))

  -- any other one is worked off
  pub fill_straight : {table : List A} {k node : ℕ} {x : A} → ((a : Abbreviation) → text_of a ≡ None → property a start) → Works start property p order table k → k < length order → node ≡ get_or order k 0 → get_or circular node false ≡ false
      → ((a : Abbreviation) → abbreviation_at p node ≡ Some a → HasUsed start property p a table → property a x) → Works start property p order (set table node x) (k + 1)
  fill_straight {table} {k} {node} {x} bare w h read flag found =
      subst (λ z. Works start property p order (set table z x) (k + 1)) (sym read)
      (works_written ordered w h (λ a at. found a (ap (abbreviation_at p) read ∙ at) (λ v b named used. works_known ordered w h bare a at (subst (λ z. get_or circular z false ≡ false) read flag) v b (numbered_within p v b named) named used)))

  -- those that it uses are worked off
  pub used_known : {table : List A} {k node : ℕ} → ((a : Abbreviation) → text_of a ≡ None → property a start) → Works start property p order table k → k < length order → node ≡ get_or order k 0 → get_or circular node false ≡ false
      → (a : Abbreviation) → abbreviation_at p node ≡ Some a → HasUsed start property p a table
  used_known bare w h read flag a at = λ v b named used.
      works_known ordered w h bare a (sym (ap (abbreviation_at p) read) ∙ at) (subst (λ z. get_or circular z false ≡ false) read flag) v b (numbered_within p v b named) named used

  pub fill_end : {table : List A} {k : ℕ} → Works start property p order table k → length order ≤ k → (v : ℕ) (a : Abbreviation) → abbreviation_at p v ≡ Some a → property a (get_or table v start)
  fill_end w full v a at = works_end ordered w full v a (numbered_within p v a at) at

-- ---- numbers

pub bare_number : (p : Program) (a : Abbreviation) → text_of a ≡ None → NumberOf p a None
bare_number p a none = subst (λ z. IsNumberOf p z None) (sym none) refl

pub stuck_number : (p : Program) (a : Abbreviation) → IsCircular p a → NumberOf p a None
stuck_number p a circular = go (text_of a) refl
  where
    go : (o : Option (Scope × Expr)) → text_of a ≡ o → IsNumberOf p o None
    go None is = refl
    go (Some r) is = λ n x. no_term p a circular is x.expands

-- ---- sizes

pub bare_size_of : (p : Program) (a : Abbreviation) (z : Size) → IsSize z 1 1 → text_of a ≡ None → SizeOf p a z
bare_size_of p a z i none = subst (λ o. IsSizeOfText p o z) (sym none) i

pub leaf_is : IsSize leaf 1 1
leaf_is = record { nodes_are = refl; nesting_is = refl }

pub leaf_only : (z : Size) → IsSize z 1 1 → z ≡ leaf
leaf_only z is = ap (λ (n : ℕ). let s : Size = record { nodes = n; nesting = z.nesting } in s) is.nodes_are ∙ ap (λ (n : ℕ). let s : Size = record { nodes = 1; nesting = n } in s) is.nesting_is

pub stuck_size : (p : Program) (a : Abbreviation) → IsCircular p a → SizeOf p a leaf
stuck_size p a circular = go (text_of a) refl
  where
    go : (o : Option (Scope × Expr)) → text_of a ≡ o → IsSizeOfText p o leaf
    go None is = leaf_is
    go (Some r) is = λ t x. absurd (no_term p a circular is x)
