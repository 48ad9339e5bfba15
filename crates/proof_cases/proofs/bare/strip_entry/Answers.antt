use Rattle.std.proofs.Common.{◌≡◌, ℕ, List, [], refl, sym, ◌∙◌, subst, ap}
use Rattle.std.specs.Global.{Vec}
use Rattle.region_sets.specs.declared.pins.Pin.{Pin}
use Rattle.region_sets.specs.Sets.{Adds}
use Rattle.region_sets.specs.Ranks.{slots}
use Rattle.proof_form.specs.declared.form.Entry.TheInside.{Inside}
use Rattle.proof_form.specs.declared.form.Rule.{Rule}
use Rattle.proof_form.specs.Form.{Entry, Layer, layer_sets, rule_sets}
use Rattle.proof_form.specs.Seen.{seen_rule}
use Rattle.proof_cases.specs.LetGo.{Lessens}
use Rattle.proof_cases.proofs.Lessened.{released, same_pins}
use Rattle.proof_cases.proofs.bare.strip_entry.Goals as goal
use Rattle.proof_cases.proofs.bare.strip_entry.Goals.{in-AU, in_default}

pub returns : goal.returns
returns g c =
    let a = g.S.StateSets.seen c.args.sets.now in
    let new : List ℕ = slots (rule_sets (seen_rule c.match-entry.entry-inside.rule)) in
    let old : List ℕ = slots (rule_sets c.args.entry.now.rule) in
    let was : old ≡ slots (rule_sets (seen_rule c.entry.inside.rule)) = ap (λ (e : Entry Pin). slots (rule_sets e.rule)) (sym c.entry.view_is) in
    elim c.match-entry.branch [
      | in-AU w ↦
          let z = g.S.StateSets.seen w.release_layers.new.sets in
          let layers : List ℕ = slots (layer_sets w.in-AU.layers.items) in
          let had : old ≡ layers = was ∙ ap (λ (r : Rule Pin). slots (rule_sets (seen_rule r))) w.in-AU.is in
          let has : new ≡ [] =
          ap (λ (i : Inside Pin). slots (rule_sets (seen_rule i.rule))) w.entry-inside-is
          ∙ (ap (λ (v : Vec (Layer Pin)). slots (layer_sets v.items)) w.replace-taken.ensures.after ∙ ap (λ (ls : List (Layer Pin)). slots (layer_sets ls)) w.new.ensures.items) in
          subst (λ x. Lessens a (g.S.StateSets.seen x) old new) (sym w.sets-is)
          (subst (λ o. Lessens a z o new) (sym had)
          (subst (λ n. Lessens a z layers n) (sym has)
          (released layers (subst (λ (v : Vec (Layer Pin)). Adds z a (slots (layer_sets v.items))) w.replace-taken.ensures.value w.release_layers.ensures.pins))))
      | in_default w ↦
          let same : old ≡ new = was ∙ sym (ap (λ (i : Inside Pin). slots (rule_sets (seen_rule i.rule))) w.entry-inside-is) in
          subst (λ x. Lessens a (g.S.StateSets.seen x) old new) (sym w.sets-is) (subst (λ n. Lessens a a old n) same (same_pins a a old refl (λ k. refl)))
    ]
