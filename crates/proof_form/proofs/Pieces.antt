-- The sets of a list's elements, one element after another.
use Rattle.std.proofs.Common.{◌≡◌, ℕ, suc, ◌+◌, ◌<◌, List, [], ◌∷◌, ◌++◌, map, length, take, drop, get_or, Result, Ok, Err, refl, sym, ◌∙◌, ap, subst, arith, append_assoc, length-append}
use Rattle.std.specs.Prelude.{flat_map}
use Rattle.std.specs.Global.{Vec}
use Rattle.std.proofs.Math.Seq.{drop-cons}
use Rattle.std.proofs.lemmas.List.{take-append-drop, take_more}
use Rattle.region_sets.specs.declared.pins.Pin.{Pin}
use Rattle.region_sets.specs.declared.pins.SetRefusal.{SetRefusal}
use Rattle.region_sets.specs.Sets.{Sets}
use Rattle.region_sets.specs.Ranks.{slots, AreLive}
use Rattle.proof_form.specs.Form.{Layer, Entry, FreeEntry, layer_sets, rule_sets, entries_sets}
use Rattle.proof_form.specs.Filling.{lists_of}
use Rattle.proof_form.specs.Copying.{AreCopied}
use Rattle.proof_form.proofs.Copied.{then_copied, refused_within, still_live, live_left, live_right}

-- ---- lists of elements

pub layers-append : {A : Type 0} (xs ys : List (Layer A)) → layer_sets (xs ++ ys) ≡ layer_sets xs ++ layer_sets ys
layers-append [] ys = refl
layers-append (l ∷ xs) ys = ap (λ sets. l.set ∷ sets) (layers-append xs ys)

pub joined-append : {A : Type 0} (xs ys : List (Vec A)) → flat_map (λ sets. sets) (lists_of (xs ++ ys)) ≡ flat_map (λ sets. sets) (lists_of xs) ++ flat_map (λ sets. sets) (lists_of ys)
joined-append [] ys = refl
joined-append (l ∷ xs) ys = ap (λ sets. l.items ++ sets) (joined-append xs ys) ∙ sym (append_assoc l.items (flat_map (λ sets. sets) (lists_of xs)) (flat_map (λ sets. sets) (lists_of ys)))

pub entries-append : {A : Type 0} (xs ys : List (Entry A)) → entries_sets (xs ++ ys) ≡ entries_sets xs ++ entries_sets ys
entries-append [] ys = refl
entries-append (e ∷ xs) ys = ap (λ sets. rule_sets e.rule ++ sets) (entries-append xs ys) ∙ sym (append_assoc (rule_sets e.rule) (entries_sets xs) (entries_sets ys))

pub free_entries-append : {A : Type 0} (xs ys : List (FreeEntry A))
    → entries_sets (map (λ e. e.entry) (xs ++ ys)) ≡ entries_sets (map (λ e. e.entry) xs) ++ entries_sets (map (λ e. e.entry) ys)
free_entries-append [] ys = refl
free_entries-append (e ∷ xs) ys =
    ap (λ sets. rule_sets e.entry.rule ++ sets) (free_entries-append xs ys) ∙ sym (append_assoc (rule_sets e.entry.rule) (entries_sets (map (λ e. e.entry) xs)) (entries_sets (map (λ e. e.entry) ys)))

-- ---- elements taken in turn

module _ {X A : Type 0} (F : List X → List A) (append : (xs ys : List X) → F (xs ++ ys) ≡ F xs ++ F ys) where
  -- the sets of the first elements, of the next one and of the others
  pub pieces : (xs : List X) (i : ℕ) (d : X) → i < length xs → F xs ≡ F (take i xs) ++ (F (get_or xs i d ∷ []) ++ F (drop (suc i) xs))
  pieces xs i d lt =
      ap F (sym (take-append-drop i xs)) ∙ append (take i xs) (drop i xs)
      ∙ ap (λ ys. F (take i xs) ++ ys) (ap F (drop-cons xs i d lt) ∙ append (get_or xs i d ∷ []) (drop (suc i) xs))

  pub one_more : (xs : List X) (i : ℕ) (d : X) → i < length xs → F (take (i + 1) xs) ≡ F (take i xs) ++ F (get_or xs i d ∷ [])
  one_more xs i d lt = ap F (take_more xs i d lt) ∙ append (take i xs) (get_or xs i d ∷ [])

module _ {X : Type 0} (F : List X → List Pin) (append : (xs ys : List X) → F (xs ++ ys) ≡ F xs ++ F ys)
    (xs : List X) (i : ℕ) (x : X) (lt : i < length xs) (ys : List Pin) (one : F (get_or xs i x ∷ []) ≡ ys) where
  next_pieces : F xs ≡ F (take i xs) ++ (ys ++ F (drop (suc i) xs))
  next_pieces = pieces F append xs i x lt ∙ ap (λ zs. F (take i xs) ++ (zs ++ F (drop (suc i) xs))) one

  own_live : (a : Sets) → AreLive a (slots (F xs)) → AreLive a (slots ys)
  own_live a live =
      live_left a ys (F (drop (suc i) xs)) (live_right a (F (take i xs)) (ys ++ F (drop (suc i) xs)) (subst (λ zs. AreLive a (slots zs)) next_pieces live))

  module _ {T : Type 0} {a b : Sets} {old mid : List Pin} {u : T} (live : AreLive a (slots (F xs))) (before : AreCopied a b (F (take i xs)) old mid (Ok u)) where
    pub next_live : AreLive b (slots ys)
    next_live = still_live (slots ys) (own_live a live) before

    pub next_copied : {U : Type 0} {c : Sets} {new : List Pin} {r : Result U SetRefusal} → AreCopied b c ys mid new r → AreCopied a c (F (take (i + 1) xs)) old new r
    next_copied {U} {c} {new} {r} step =
        subst (λ zs. AreCopied a c zs old new r) (sym (one_more F append xs i x lt ∙ ap (λ zs. F (take i xs) ++ zs) one)) (then_copied (own_live a live) before step)

    pub next_refused : {U V : Type 0} {c : Sets} {new : List Pin} (e : SetRefusal) → AreCopied {T = U} b c ys mid new (Err e) → AreCopied {T = V} a c (F xs) old new (Err e)
    next_refused {U} {V} {c} {new} e step =
        refused_within e (omega (arith, ap length next_pieces, length-append (F (take i xs)) (ys ++ F (drop (suc i) xs)), length-append ys (F (drop (suc i) xs)), length-append (F (take i xs)) ys))
        (then_copied (own_live a live) before step)
