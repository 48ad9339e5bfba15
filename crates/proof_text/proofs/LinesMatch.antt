-- Behind the lines of its nodes, a block in shape has as many lines of text as it has lines with something to show.
use Rattle.std.proofs.Common.{◌≡◌, ℕ, suc, ◌+◌, List, [], ◌∷◌, ◌++◌, map, length, Option, Some, None, refl, sym, ◌∙◌, ap, subst, arith, length-append}
use Rattle.std.proofs.Math.ListN.{length-map}
use Rattle.std.specs.Prelude.{All, IsSomeAnd, true, ◌-◌, flat_map, max, codes, decimal, option_map}
use Rattle.std.specs.Option.{option_and_then}
use Rattle.std.proofs.lemmas.List.Elements.{All-head, All-tail}
use Rattle.bdd_nodes.specs.declared.triple.Triple.{Triple}
use Rattle.kripke_model.specs.Ctl.{Ctl}
use Rattle.kripke_model.specs.System.{System, State, Condition}
use Rattle.path_laws.specs.StateSet.{StateSet}
use Rattle.fair_rules.specs.SetLists.{everything, nothing}
use Rattle.fair_rules.specs.Rules as rules
use Rattle.fair_rules.specs.Claims as claims
use Rattle.fair_rules.specs.Checks as checks
use Rattle.fair_rules.specs.Checks.{Check}
use Rattle.fair_rules.specs.Block as blocks
use Rattle.fair_rules.specs.Block.{Demand, demand_at, IsAsked, proof_of}
use Rattle.fair_rules.specs.LeafConstraints.{one_at_least}
use Rattle.fair_rules.specs.FreePart.{claimed_from}
use Rattle.kripke_model.specs.System.{constraint_count}
use Rattle.proof_form.specs.Form.{Layer, FairPart, Rule, EX, AX, AR, EU, AU, ER, Entry, FreeEntry, FreePart, Proof, map_layer, map_rule, map_entry, map_free, map_free_entry}
use Rattle.proof_form.specs.Shape.{IsInShape, FitsFreely, HasRule, HasConstraintRule, FitsConstraints, constraint_formula}
use Rattle.proof_form.specs.Meaning as meaning
use Rattle.proof_form.specs.Meaning.{layer_of, entry_of, listed_of, block_of, free_demand, free_proof, free_visited, free_avoided, obligations, visited, avoided}
use Rattle.proof_form.proofs.Asked.{is_asked}
use Rattle.proof_form.proofs.KeptShapes.{shape_kept}
use Rattle.proof_text.specs.File.{Block}
use Rattle.proof_text.specs.Lines.{node_lines, layer_line, set_line, reach_lines, fair_lines, sign_word, rule_lines, entry_lines, free_entry_lines, free_lines, nonfair_lines, end_lines, proof_lines, block_lines}
use Rattle.proof_text.specs.Meaning.{node_set, over_states}

node_count : (earlier nodes : List Triple) → length (node_lines earlier nodes) ≡ length nodes
node_count earlier [] = refl
node_count earlier (t ∷ nodes) = ap suc (node_count (earlier ++ t ∷ []) nodes)

layer_count : (avoided : List StateSet) (f out earlier : StateSet) (layers : List rules.Layer) → length (checks.layer_lines avoided f out earlier layers) ≡ length layers
layer_count avoided f out earlier [] = refl
layer_count avoided f out earlier (l ∷ layers) = ap suc (layer_count avoided f out (claims.either earlier l.states) layers)

step_count : (f first earlier : StateSet) (sets : List StateSet) → length (checks.step_lines f first earlier sets) ≡ length sets
step_count f first earlier [] = refl
step_count f first earlier (set ∷ sets) = ap suc (step_count f first (claims.either earlier set) sets)

until_count : (f first : StateSet) (sets : List StateSet) → length (checks.until_lines f first sets) ≡ length sets
until_count f first [] = refl
until_count f first (set ∷ sets) = ap suc (step_count f nothing set sets)

some_and : {A : Type 0} (o : Option A) (P : A → Type 0) → IsSomeAnd o P → (x : A) × (o ≡ Some x) × P x
some_and None P h = absurd h
some_and (Some x) P h = (x, refl, h)

module _ (g : ℕ → StateSet) where
  reach_count : (k : ℕ) (set : StateSet) (visited : List StateSet) (lists : List (List ℕ)) → length visited ≡ length lists
      → length (checks.reach_lines set visited (map (map g) lists)) ≡ length (reach_lines k lists)
  reach_count k set [] [] e = refl
  reach_count k set [] (sets ∷ lists) e = absurd (omega (arith, e))
  reach_count k set (visit ∷ visited) [] e = absurd (omega (arith, e))
  reach_count k set (visit ∷ visited) (sets ∷ lists) e =
      let rest : length (checks.reach_lines set visited (map (map g) lists)) ≡ length (reach_lines (k + 1) lists) = reach_count (k + 1) set visited lists (omega (arith, e)) in
      let steps : length (checks.step_lines set (claims.both set visit) nothing (map g sets)) ≡ length sets = step_count set (claims.both set visit) nothing (map g sets) ∙ length-map sets g in
      ap suc (length-append (checks.step_lines set (claims.both set visit) nothing (map g sets)) (checks.reach_lines set visited (map (map g) lists))
      ∙ omega (arith, rest, steps, length-map sets set_line)
      ∙ sym (length-append (map set_line sets) (reach_lines (k + 1) lists)))

  rule_count : (visited avoided : List StateSet) (p : claims.Proof) (d : Demand) (front : List (List ℕ)) (r : Rule ℕ) → ((fair : FairPart ℕ) (untils : List ℕ) → r ≡ ER fair untils → length visited ≡ length fair.reach)
      → length (blocks.entry_lines visited avoided p d (entry_of (map_rule g r))) ≡ length (rule_lines front r)
  rule_count visited avoided p d front (EX set) fits = refl
  rule_count visited avoided p d front (AX set) fits = refl
  rule_count visited avoided p d front (AR set) fits = refl
  rule_count visited avoided p d front (EU sets) fits = ap suc (until_count d.first (claims.both d.last p.fair) (map g sets) ∙ length-map sets g ∙ sym (length-map sets set_line))
  rule_count visited avoided p d front (AU layers) fits =
      ap suc (layer_count avoided d.first (claims.either d.last (claims.join_layers p.nonfair)) nothing (map layer_of (map (map_layer g) layers))
      ∙ length-map (map (map_layer g) layers) layer_of ∙ length-map layers (map_layer g) ∙ sym (length-map layers layer_line))
  rule_count visited avoided p d front (ER fair untils) fits =
      let ends : length (checks.until_lines d.last (claims.both d.first (claims.both d.last p.fair)) (map g untils)) ≡ length untils =
      until_count d.last (claims.both d.first (claims.both d.last p.fair)) (map g untils) ∙ length-map untils g in
      let reach : length (checks.reach_lines (g fair.inside) visited (map (map g) fair.reach)) ≡ length (reach_lines 1 fair.reach) = reach_count 1 (g fair.inside) visited fair.reach (fits fair untils refl) in
      ap suc (ap suc (length-append (checks.reach_lines (g fair.inside) visited (map (map g) fair.reach)) ([] ∷ checks.until_lines d.last (claims.both d.first (claims.both d.last p.fair)) (map g untils))
      ∙ omega (arith, reach, ends, length-map untils set_line)
      ∙ sym (length-append (reach_lines 1 fair.reach) (_ ∷ map set_line untils))))

  listed_count : (m : System) (visited avoided : List StateSet) (p : claims.Proof) (f : Ctl) (es : List (Entry ℕ)) → length visited ≡ constraint_count m
      → All (HasRule {A = StateSet} f) (map (map_entry g) es) → All (λ (e : Entry ℕ). FitsConstraints (constraint_count m) e.rule) es
      → length (blocks.listed_lines m visited avoided p f 1 (map listed_of (map (map_entry g) es))) ≡ length (flat_map entry_lines es)
  listed_count m visited avoided p f [] count named fits = refl
  listed_count m visited avoided p f (e ∷ es) count named fits =
      let a = is_asked m p f (map_entry g e) (All-head (HasRule {A = StateSet} f) (map_entry g e) (map (map_entry g) es) named) in
      let lines : List (List Check) = blocks.asked_lines visited avoided p (demand_at m p f 1 e.node e.plus) (entry_of (map_rule g e.rule)) in
      let rest : List (List Check) = blocks.listed_lines m visited avoided p f 1 (map listed_of (map (map_entry g) es)) in
      let asked : length lines ≡ length (blocks.entry_lines visited avoided p a.0 (entry_of (map_rule g e.rule))) =
      ap (λ (o : Option Demand). length (blocks.asked_lines visited avoided p o (entry_of (map_rule g e.rule)))) a.1 in
      let one : length (blocks.entry_lines visited avoided p a.0 (entry_of (map_rule g e.rule))) ≡ length (entry_lines e) =
      rule_count visited avoided p a.0 (codes "entry" ∷ decimal e.node ∷ sign_word e.plus ∷ []) e.rule (λ fair untils same. count ∙ sym (subst (λ r. FitsConstraints (constraint_count m) r) same (All-head (λ (e : Entry ℕ). FitsConstraints (constraint_count m) e.rule) e es fits))) in
      let more : length rest ≡ length (flat_map entry_lines es) =
      listed_count m visited avoided p f es count (All-tail (HasRule {A = StateSet} f) (map_entry g e) (map (map_entry g) es) named) (All-tail (λ (e : Entry ℕ). FitsConstraints (constraint_count m) e.rule) e es fits) in
      length-append lines rest ∙ omega (arith, asked, one, more) ∙ sym (length-append (entry_lines e) (flat_map entry_lines es))

  -- ---- the free part

  free_rules_count : (m : System) (part : FreePart StateSet) (es : List (FreeEntry ℕ)) → All (HasConstraintRule {A = StateSet} m) (map (map_free_entry g) es)
      → All (λ (e : FreeEntry ℕ). FitsConstraints 1 e.entry.rule) es
      → length (meaning.free_entry_lines m part (map (map_free_entry g) es)) ≡ length (flat_map free_entry_lines es)
  free_rules_count m part [] named fits = refl
  free_rules_count m part (e ∷ es) named fits =
      let s = some_and (constraint_formula m e.constraint) (λ f. HasRule f (map_entry g e.entry))
      (All-head (HasConstraintRule {A = StateSet} m) (map_free_entry g e) (map (map_free_entry g) es) named) in
      let p : claims.Proof = free_proof (Some part) (e.constraint - 1) in
      let a = is_asked m p s.0 (map_entry g e.entry) s.2 in
      let demand : free_demand m part (map_free_entry g e) ≡ Some a.0 =
      ap (option_and_then (λ f. demand_at m p f 1 e.entry.node e.entry.plus)) s.1 ∙ a.1 in
      let lines : List (List Check) = blocks.asked_lines free_visited free_avoided p (free_demand m part (map_free_entry g e)) (entry_of (map_rule g e.entry.rule)) in
      let rest : List (List Check) = meaning.free_entry_lines m part (map (map_free_entry g) es) in
      let asked : length lines ≡ length (blocks.entry_lines free_visited free_avoided p a.0 (entry_of (map_rule g e.entry.rule))) =
      ap (λ (o : Option Demand). length (blocks.asked_lines free_visited free_avoided p o (entry_of (map_rule g e.entry.rule)))) demand in
      let one : length (blocks.entry_lines free_visited free_avoided p a.0 (entry_of (map_rule g e.entry.rule))) ≡ length (free_entry_lines e) =
      rule_count free_visited free_avoided p a.0 (codes "centry" ∷ decimal e.constraint ∷ decimal e.entry.node ∷ sign_word e.entry.plus ∷ []) e.entry.rule
      (λ fair untils same. sym (subst (λ r. FitsConstraints 1 r) same (All-head (λ (e : FreeEntry ℕ). FitsConstraints 1 e.entry.rule) e es fits))) in
      let more : length rest ≡ length (flat_map free_entry_lines es) =
      free_rules_count m part es (All-tail (HasConstraintRule {A = StateSet} m) (map_free_entry g e) (map (map_free_entry g) es) named)
      (All-tail (λ (e : FreeEntry ℕ). FitsConstraints 1 e.entry.rule) e es fits) in
      length-append lines rest ∙ omega (arith, asked, one, more) ∙ sym (length-append (free_entry_lines e) (flat_map free_entry_lines es))

  layers_count : (avoided : List StateSet) (layers : List (Layer ℕ))
      → length (checks.layer_lines avoided everything nothing nothing (map layer_of (map (map_layer g) layers))) ≡ length (map layer_line layers)
  layers_count avoided layers =
      layer_count avoided everything nothing nothing (map layer_of (map (map_layer g) layers)) ∙ length-map (map (map_layer g) layers) layer_of
      ∙ length-map layers (map_layer g) ∙ sym (length-map layers layer_line)

  free_count : (m : System) (free : Option (FreePart ℕ)) → FitsFreely m free → FitsFreely m (option_map (map_free g) free)
      → length (meaning.free_lines m (option_map (map_free g) free)) ≡ length (free_lines free)
  free_count m None fits mapped = refl
  free_count m (Some part) fits mapped =
      let whole : FreePart StateSet = map_free g part in
      let layers = checks.layer_lines free_avoided everything nothing nothing (map layer_of (map (map_layer g) part.nonfair)) in
      let reaches = checks.reach_lines (g part.fair.inside) free_visited (map (map g) part.fair.reach) in
      let listed = meaning.free_entry_lines m whole (map (map_free_entry g) part.entries) in
      let r : length reaches ≡ length (reach_lines 1 part.fair.reach) = reach_count 1 (g part.fair.inside) free_visited part.fair.reach (sym fits.1.reach) in
      let e : length listed ≡ length (flat_map free_entry_lines part.entries) = free_rules_count m whole part.entries mapped.1.rules fits.1.fits in
      omega (
        arith,
        layers_count free_avoided part.nonfair,
        r,
        e,
        length-append (map layer_line part.nonfair) (fair_lines part.fair ++ flat_map free_entry_lines part.entries),
        length-append (reach_lines 1 part.fair.reach) (flat_map free_entry_lines part.entries),
        length-append layers (([] ∷ reaches) ++ listed),
        length-append reaches listed,
      )

end_count : (m : System) (p : claims.Proof) (f : Ctl) (at : Option State) → length (blocks.claim_lines m p f 1 at) ≡ length (end_lines m at)
end_count m p f None = refl
end_count m p f (Some s) = refl

claimed_count : (m : System) (proofs : ℕ → claims.Proof) (k : ℕ) (cs : List Condition) → length (claimed_from m proofs true k cs) ≡ length cs
claimed_count m proofs k [] = refl
claimed_count m proofs k (c ∷ cs) = ap suc (claimed_count m proofs (k + 1) cs)

visited_count : (m : System) (proofs : ℕ → claims.Proof) → length (one_at_least everything (claimed_from m proofs true 0 m.constraints)) ≡ constraint_count m
visited_count m proofs = go m.constraints
  where
    go : (cs : List Condition) → length (one_at_least everything (claimed_from m proofs true 0 cs)) ≡ max 1 (length cs)
    go [] = refl
    go (c ∷ cs) = ap suc (claimed_count m proofs 1 cs) ∙ omega arith

pub lines_match : (m : System) (order : List ℕ) (b : Block) (f : Ctl) → IsInShape m f b.proof
    → length (block_lines m b) ≡ 2 + length b.nodes + length (obligations m f (over_states m order b))
lines_match m order b f shape =
    let g = node_set m order b.nodes in
    let whole : Proof StateSet = over_states m order b in
    let p : claims.Proof = proof_of (block_of whole) in
    let kept : IsInShape m f whole = shape_kept g m f b.proof shape in
    let nodes : length (node_lines [] b.nodes) ≡ length b.nodes = node_count [] b.nodes in
    let layers = checks.layer_lines (avoided m whole) everything nothing nothing (map layer_of (map (map_layer g) b.proof.nonfair)) in
    let reaches = checks.reach_lines (g b.proof.fair.inside) (visited m whole) (map (map g) b.proof.fair.reach) in
    let listed = blocks.listed_lines m (visited m whole) (avoided m whole) p f 1 (map listed_of (map (map_entry g) b.proof.entries)) in
    let ends = blocks.claim_lines m p f 1 b.proof.at in
    let free = meaning.free_lines m (option_map (map_free g) b.proof.free) in
    let count : length (visited m whole) ≡ constraint_count m = visited_count m (free_proof whole.free) in
    let a : length layers ≡ length (map layer_line b.proof.nonfair) = layers_count g (avoided m whole) b.proof.nonfair in
    let r : length reaches ≡ length (reach_lines 1 b.proof.fair.reach) = reach_count g 1 (g b.proof.fair.inside) (visited m whole) b.proof.fair.reach (count ∙ sym shape.reach) in
    let e : length listed ≡ length (flat_map entry_lines b.proof.entries) = listed_count g m (visited m whole) (avoided m whole) p f b.proof.entries count kept.rules shape.fits in
    let c : length ends ≡ length (end_lines m b.proof.at) = end_count m p f b.proof.at in
    let q : length free ≡ length (free_lines b.proof.free) = free_count g m b.proof.free shape.free kept.free in
    omega (
      arith,
      nodes,
      a,
      r,
      e,
      c,
      q,
      length-append (node_lines [] b.nodes) (proof_lines m b.proof),
      length-append (free_lines b.proof.free) (nonfair_lines b.proof.nonfair ++ (fair_lines b.proof.fair ++ (flat_map entry_lines b.proof.entries ++ end_lines m b.proof.at))),
      length-append (map layer_line b.proof.nonfair) (fair_lines b.proof.fair ++ (flat_map entry_lines b.proof.entries ++ end_lines m b.proof.at)),
      length-append (reach_lines 1 b.proof.fair.reach) (flat_map entry_lines b.proof.entries ++ end_lines m b.proof.at),
      length-append (flat_map entry_lines b.proof.entries) (end_lines m b.proof.at),
      length-append free (([] ∷ layers) ++ (([] ∷ reaches) ++ (listed ++ ends))),
      length-append layers (([] ∷ reaches) ++ (listed ++ ends)),
      length-append reaches (listed ++ ends),
      length-append listed ends,
    )
