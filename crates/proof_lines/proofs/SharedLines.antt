-- The lines of states without a fair path, and of those with one, by pins.
use Rattle.std.proofs.Common.{◌≡◌, ℕ, true, false, Bool, List, [], ◌∷◌, map, Result, refl, sym, ◌∙◌, ap, subst}
use Rattle.std.specs.Prelude.{IfOk}
use Rattle.std.specs.Global.{Vec}
use Rattle.std.specs.List.{flat_map}
use Rattle.std.proofs.lemmas.List.Elements.{All-nil}
use Rattle.kripke_model.specs.System.{System}
use Rattle.path_laws.specs.StateSet.{StateSet}
use Rattle.region_sets.specs.declared.pins.Pin.{Pin}
use Rattle.region_sets.specs.declared.pins.SetRefusal.{SetRefusal}
use Rattle.region_sets.specs.Sets.{Sets, is_one_of, region}
use Rattle.region_sets.specs.Ranks.{AreLive, list_regions, lists_slots, slots}
use Rattle.region_sets.proofs.Slots.{is_one_of-right}
use Rattle.fair_rules.specs.SetLists.{everything, nothing}
use Rattle.fair_rules.specs.Rules as rules
use Rattle.fair_rules.specs.Claims as claims
use Rattle.fair_rules.specs.Checks.{Check, IsMet, layer_lines, reach_lines}
use Rattle.fair_rules.specs.Block.{Listed, Block}
use Rattle.proof_form.specs.Agrees.{SameOn}
use Rattle.proof_form.specs.Filling.{lists_of}
use Rattle.proof_form.specs.Form.{FairPart, Layer, fair_sets, map_layer}
use Rattle.proof_form.specs.Meaning.{layer_of}
use Rattle.proof_form.specs.Pinned.{layers_over}
use Rattle.proof_form.proofs.Agree.{AgreeLayers, AgreeLists, AgreeEntry, AgreeListed, AgreeBlock, AgreeLines, no_layers, more_layers, no_lists, more_lists, no_listed, more_listed, absent, ex, ax, eu, au, ar, er, layers_agree}
use Rattle.proof_form.proofs.AgreeMaps.{agree_same}
use Rattle.proof_form.proofs.Ended.{lists_are as slots_of_lists}
use Rattle.proof_lines.specs.declared.frames.Frame.{Frame}
use Rattle.claim_sets.specs.ConstraintClaims.{constraint_list}
use Rattle.proof_lines.specs.Frames.{IsFrame}
use Rattle.proof_lines.specs.Tested.{AreTested, next_count}
use Rattle.claim_sets.proofs.ClaimPins.{if_ok}
use Rattle.proof_lines.proofs.Counting.{one_holds}
use Rattle.proof_lines.proofs.EntryLines.{behind_first, layers_are_over}
use Rattle.proof_lines.proofs.ReachLines.{tested_agrees}

-- ---- parts of a proof agree with themselves

module _ (m : System) where
  pub own_layers : (ls : List rules.Layer) → AgreeLayers m ls ls
  own_layers [] = no_layers
  own_layers (l ∷ ls) = more_layers {c = l.avoided} {F = l.states} {G = l.states} (λ s is. refl) (own_layers ls)

  pub own_lists : (xs : List (List StateSet)) → AgreeLists m xs xs
  own_lists [] = no_lists
  own_lists (x ∷ xs) = more_lists (agree_same m x) (own_lists xs)

  pub own_entry : (e : claims.Entry) → AgreeEntry m e e
  own_entry claims.Entry.Absent = absent
  own_entry (claims.Entry.EX set) = ex (λ s is. refl)
  own_entry (claims.Entry.AX set) = ax (λ s is. refl)
  own_entry (claims.Entry.EU sets) = eu (agree_same m sets)
  own_entry (claims.Entry.AU layers) = au (own_layers layers)
  own_entry (claims.Entry.AR set) = ar (λ s is. refl)
  own_entry (claims.Entry.ER set reaches untils) = er (λ s is. refl) (own_lists reaches) (agree_same m untils)

  pub own_listed : (es : List Listed) → AgreeListed m es es
  own_listed [] = no_listed
  own_listed (e ∷ es) = more_listed {i = e.node} {sign = e.plus} (own_entry e.entry) (own_listed es)

  pub own_block : (b : Block) → AgreeBlock m b b
  own_block b = record { nonfair = own_layers b.nonfair; fair = λ s is. refl; reaches = own_lists b.reaches; entries = own_listed b.entries; at = refl }

  -- a line that has nothing to show, and those behind it
  pub blank_line : (rest : List (List Check)) (k next : ℕ) (good : Bool) (after : ℕ) → next ≡ next_count k → AreTested m rest next good after → AreTested m ([] ∷ rest) k good after
  blank_line rest k next good after e t = one_holds m [] rest k next good after (All-nil (IsMet m)) e t

-- ---- layers of states without a fair path

pub nonfair_tested : (s : Sets) (frame : Frame) (layers : List (Layer Pin)) (k next : ℕ) (r : Result Bool SetRefusal) (after : ℕ) → IsFrame s frame → next ≡ next_count k
    → IfOk r (λ good. AreTested s.over (layer_lines (constraint_list s frame.constraints false) (region s frame.full.now) (region s frame.empty.now) nothing (layers_over s layers)) next good after)
    → IfOk r (λ good. AreTested s.over ([] ∷ layer_lines (constraint_list s frame.constraints false) everything nothing nothing (map layer_of (map (map_layer (region s)) layers))) k good after)
nonfair_tested s frame layers k next r after is e h =
    subst (λ ls. IfOk r (λ good. AreTested s.over ([] ∷ layer_lines V everything nothing nothing ls) k good after)) (layers_are_over s layers)
    (behind_first s.over (layer_lines V everything nothing nothing (layers_over s layers)) k next r after e
    (if_ok r (λ good t. tested_agrees s.over (layer_lines V F E nothing (layers_over s layers)) (layer_lines V everything nothing nothing (layers_over s layers)) same next good after t) h))
  where
    V : List StateSet
    V = constraint_list s frame.constraints false

    F : StateSet
    F = region s frame.full.now

    E : StateSet
    E = region s frame.empty.now

    all : SameOn s.over F everything
    all t is_state = is.full t is_state

    none : SameOn s.over E nothing
    none t is_state = ap (λ (G : StateSet). G t) is.none

    same : AgreeLines s.over (layer_lines V F E nothing (layers_over s layers)) (layer_lines V everything nothing nothing (layers_over s layers))
    same = layers_agree s.over {A = V} {B = V} (agree_same s.over V) {f = F} {f' = everything} {out = E} {out' = nothing} {e = nothing} {e' = nothing} all none (λ t is_state. refl) (own_layers s.over (layers_over s layers))

-- ---- lists of sets

lists_are : (g : Pin → StateSet) (lists : List (Vec Pin)) → map (λ (l : Vec Pin). map g l.items) lists ≡ map (map g) (map (λ (l : Vec Pin). l.items) lists)
lists_are g [] = refl
lists_are g (l ∷ lists) = ap (λ rest. map g l.items ∷ rest) (lists_are g lists)

pub reach_live : (s : Sets) (inside : Pin) (lists given : List (Vec Pin)) (fair : FairPart Pin) → given ≡ lists → record { inside = inside; reach = map (λ (l : Vec Pin). l.items) lists } ≡ fair
    → AreLive s (slots (fair_sets fair)) → AreLive s (lists_slots given)
reach_live s inside lists given fair same is live k h =
    let there : AreLive s (slots (inside ∷ flat_map (λ sets. sets) (lists_of lists))) = subst (λ (x : FairPart Pin). AreLive s (slots (fair_sets x))) (sym is) live in
    there k (is_one_of-right k (inside.slot ∷ []) (slots (flat_map (λ sets. sets) (lists_of lists)))
    (subst (λ ks. is_one_of k ks ≡ true) (ap lists_slots same ∙ sym (slots_of_lists lists)) h))

pub fair_tested : (s : Sets) (V : List StateSet) (inside : Pin) (lists given : List (Vec Pin)) (fair : FairPart Pin) (k next : ℕ) (r : Result Bool SetRefusal) (after : ℕ) → given ≡ lists
    → record { inside = inside; reach = map (λ (l : Vec Pin). l.items) lists } ≡ fair → next ≡ next_count k
    → IfOk r (λ good. AreTested s.over (reach_lines (region s inside) V (list_regions s given)) next good after)
    → IfOk r (λ good. AreTested s.over ([] ∷ reach_lines (region s fair.inside) V (map (map (region s)) fair.reach)) k good after)
fair_tested s V inside lists given fair k next r after same is e h =
    subst (λ (x : FairPart Pin). IfOk r (λ good. AreTested s.over ([] ∷ reach_lines (region s x.inside) V (map (map (region s)) x.reach)) k good after)) is
    (behind_first s.over (reach_lines (region s inside) V (map (map (region s)) (map (λ (l : Vec Pin). l.items) lists))) k next r after e
    (subst (λ xs. IfOk r (λ good. AreTested s.over (reach_lines (region s inside) V xs) next good after)) (ap (list_regions s) same ∙ lists_are (region s) lists) h))
