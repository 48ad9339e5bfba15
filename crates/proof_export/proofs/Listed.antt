-- The list of a proof's sets, and the text of the block over it.
use Rattle.std.proofs.Common.{◌≡◌, ℕ, zero, suc, ◌<◌, List, [], ◌∷◌, length, append-nil}
use Rattle.std.proofs.Common.{refl, sym, ◌∙◌, ap, subst, arith}
use Rattle.std.specs.Prelude.{◌↔◌, Err, IfOk, Ok, Result, slice_index}
use Rattle.std.specs.Global.{Vec}
use Rattle.std.proofs.lemmas.List.{length-map}
use Rattle.std.proofs.lemmas.Slice.Zip.{AllZip-long}
use Rattle.bdd_walk.specs.declared.list.NodeList.{NodeList}
use Rattle.bdd_walk.specs.List.{nodes_of, roots_of, IsGoodList}
use Rattle.bdd_nodes.specs.declared.triple.Triple.{Triple}
use Rattle.bdd_nodes.specs.Table.{Has}
use Rattle.bit_encode.specs.Code.{Coding, bit_count, state_bits, types_of}
use Rattle.kripke_model.specs.Step.{IsState}
use Rattle.kripke_model.specs.System.{System, State}
use Rattle.region_sets.specs.declared.pins.Pin.{Pin}
use Rattle.region_sets.specs.Sets.{Sets, Adds, Gauge, In, IsCall}
use Rattle.region_sets.specs.Ranks.{slots}
use Rattle.region_sets.specs.declared.pins.SetRefusal.{SetRefusal}
use Rattle.region_sets.proofs.Calls.{let_go}
use Rattle.diagram_sets.specs.Exports.{HaveStates, coding_by}
use Rattle.proof_form.specs.Form.{Proof, sets_of}
use Rattle.proof_form.specs.Meaning.{ProvesSpec}
use Rattle.proof_form.specs.Pinned.{AreCopies, IsFilled, over_states, proof_slots}
use Rattle.proof_form.proofs.Copied.{to_ok}
use Rattle.proof_text.specs.Lines.{block_lines, text_of}
use Rattle.proof_text.specs.Written.{own_order}
use Rattle.proof_export.specs.Exported.{IsBlockText}
use Rattle.proof_export.specs.Listed.{HasSets, IsTextOver, block_with}
use Rattle.proof_export.proofs.Filled.{at_filled, claim_filled, each_filled}
use Rattle.proof_export.proofs.Proved.{RootsHave, roots_in_shape, roots_prove}

-- ---- copies

module _ (a b : Sets) where
  copy_at : (pins copies : List Pin) (k : ℕ) (s : State) → AreCopies a b pins copies
      → k < length pins
      → In b (slice_index (slots copies) k) s ↔ In a (slice_index (slots pins) k) s
  copy_at [] copies k s same lt = absurd (omega (arith, lt))
  copy_at (p ∷ pins) [] k s same lt = absurd same
  copy_at (p ∷ pins) (c ∷ copies) zero s same lt = same.0 s
  copy_at (p ∷ pins) (c ∷ copies) (suc k) s same lt =
      copy_at pins copies k s same.1 (omega (arith, lt))

  copies_long : (pins copies : List Pin) → AreCopies a b pins copies → length copies ≡ length pins
  copies_long pins copies same =
      AllZip-long (λ (pin copy : Pin). (s : State) → In b copy.slot s ↔ In a pin.slot s)
      pins copies same

  module _ (over : b.over ≡ a.over) (gauge : b.gauge ≡ a.gauge) (c : Coding)
      (coding : c ≡ coding_by b) (p : Proof Pin) (copies : List Pin)
      (same : AreCopies a b (sets_of p) copies) (list : NodeList) where
    coded : c ≡ coding_by a
    coded =
        coding ∙ ap (λ m. record { types = types_of m; order = b.gauge.order }) over
        ∙ ap (λ (g : Gauge). record { types = types_of a.over; order = g.order }) gauge

    states_listed : HaveStates b c (slots copies) list → HaveStates a c (proof_slots p) list
    states_listed have k lt s =
        let within : k < length (sets_of p) =
        omega (arith, lt, length-map (sets_of p) (λ (pin : Pin). pin.slot)) in
        let less : k < length (slots copies) =
        omega (
          arith,
          within,
          copies_long (sets_of p) copies same,
          length-map copies (λ (pin : Pin). pin.slot),
        ) in
        let copied = copy_at (sets_of p) copies k s same within in
        let listed = have k less s in (
          λ e. let there = listed.0 (copied.1 e) in
              (subst (λ m. IsState m s) over there.0, there.1),
          λ e. copied.0 (listed.1 (subst (λ m. IsState m s) (sym over) e.0, e.1)),
        )

    -- a list of the copies of a proof's sets has the sets
    pub copies_listed : IsGoodList (bit_count c.types) list
        → length (roots_of list) ≡ length copies → HaveStates b c (slots copies) list
        → HasSets a p list
    copies_listed good as_many have = record {
      good = subst (λ (d : Coding). IsGoodList (bit_count d.types) list) coded good;
      as_many = as_many ∙ copies_long (sets_of p) copies same;
      states = subst (λ (d : Coding). HaveStates a d (proof_slots p) list) coded
          (states_listed have);
    }

-- copies that are released
pub copies_gone : {T U : Type 0} {a b c : Sets} {held : ℕ} {xs : List ℕ} {r : Result T SetRefusal}
    (x : U) → IsCall held a b xs r → Adds c b xs → c.fulls ≡ b.fulls → IsCall held a c [] (Ok x)
copies_gone {T} {U} {a} {b} {c} {held} {xs} {r} x call back fulls =
    to_ok x (let_go {xs = xs} {ys = []}
    (subst (λ ks. IsCall held {T = T} a b ks r) (sym (append-nil xs)) call) back fulls)

-- ---- the block over the list

pub written_over : {E : Type 0} (m : System) (j : ℕ) (p : Proof Pin) (list : NodeList) (q : Proof ℕ)
    (numbers : List ℕ) (nodes : List Triple) (r : Result (Vec ℕ) E) → IsFilled p numbers q
    → numbers ≡ roots_of list → nodes ≡ nodes_of list
    → IfOk r (λ text. text.items
    ≡ text_of (block_lines m (record { spec = j; nodes = nodes; proof = q; first = 0 })))
    → IfOk r (λ text. IsTextOver m j p list text.items)
written_over m j p list q numbers nodes (Ok text) filled roots same is = record {
  numbered = q;
  filled = subst (λ ns. IsFilled p ns q) roots filled;
  text_is = is ∙ ap (λ (ts : List Triple).
      text_of (block_lines m (record { spec = j; nodes = ts; proof = q; first = 0 }))) same;
}
written_over m j p list q numbers nodes (Err e) filled roots same is = tt

module _ (m : System) (sets : Sets) (j : ℕ) (p : Proof Pin) (list : NodeList) (text : List ℕ)
    (over : sets.over ≡ m) (order : sets.gauge.order ≡ own_order m)
    (proves : ProvesSpec m j (over_states sets p)) (has : HasSets sets p list)
    (written : IsTextOver m j p list text) where
  have : RootsHave m (own_order m) sets p (nodes_of list) (roots_of list)
  have =
      subst (λ o. RootsHave m o sets p (nodes_of list) (roots_of list)) order
      (subst (λ x. RootsHave x sets.gauge.order sets p (nodes_of list) (roots_of list)) over
      has.states)

  good : IsGoodList (state_bits m) list
  good = subst (λ x. IsGoodList (state_bits x) list) over has.good

  no_pin : Pin
  no_pin = record { slot = 0 }

  pub block_over : IsBlockText m j p.claim p.at text
  block_over =
      let nodes = nodes_of list in
      let roots = roots_of list in
      let q = written.numbered in
      record {
        block = block_with j list q;
        spec_is = refl;
        claim_is = claim_filled p roots q written.filled no_pin;
        at_is = at_filled p roots q written.filled no_pin;
        writable = record {
          shape = roots_in_shape m (own_order m) sets p nodes roots q written.filled have j proves;
          sets = each_filled p roots q written.filled (Has nodes)
              (λ k lt. good.roots k (omega (arith, lt, has.as_many)));
          nodes = good.nodes;
        };
        proved = roots_prove m (own_order m) sets p nodes roots q written.filled have j proves;
        text_is = written.text_is;
      }
