-- The rule that is written for a sign, from copies of the sets of its node.
use Rattle.std.proofs.Common.{◌≡◌, ◌+◌, ◌≤◌, true, List, [], ◌∷◌, ◌++◌, length, Result, Ok, Err, refl, sym, ◌∙◌, ap, subst, arith, length-append}
use Rattle.std.specs.Global.{Vec}
use Rattle.path_laws.specs.StateSet.{StateSet}
use Rattle.region_sets.specs.declared.pins.Pin.{Pin}
use Rattle.region_sets.specs.declared.pins.SetRefusal.{SetRefusal}
use Rattle.region_sets.specs.Sets.{Sets, Adds, IsCall, Stands}
use Rattle.region_sets.specs.Ranks.{slots}
use Rattle.region_sets.proofs.Calls.{holds_more}
use Rattle.region_sets.proofs.Released.{slots-append}
use Rattle.proof_form.specs.declared.form.Rule.{Rule as Given}
use Rattle.proof_form.specs.declared.form.Rule.TheVariants as variants
use Rattle.proof_form.specs.Form.{Layer, FairPart, Rule, EX, AX, AR, EU, AU, ER, fair_sets, layer_sets}
use Rattle.rank_extract.specs.Made.{many, IsMade, list_own, list_seen, layers_own, layers_seen, fair_own, fair_seen, fair_size, rule_own, rule_seen, rule_size}
use Rattle.rank_extract.proofs.Adding.{to_err, to_ok}
use Rattle.rank_extract.proofs.Holders.{fair_kind}
use Rattle.rank_extract.proofs.Makes.{copied, both_call, first_view, second_refused}

-- ---- of one set

module _ {T : Type 0} {a b : Sets} {r : Result T SetRefusal} (pin : Pin) (F : StateSet) (call : IsCall 1 a b (pin.slot ∷ []) r) (set : Stands b pin.slot (λ s. F s ≡ true)) where
  pub ex_made : IsMade rule_own rule_seen rule_size a b (EX F) (Ok (variants.EX pin))
  ex_made = record { call = to_ok (variants.EX pin) call; view = ap EX (copied b pin F set) }

  pub ax_made : IsMade rule_own rule_seen rule_size a b (AX F) (Ok (variants.AX pin))
  ax_made = record { call = to_ok (variants.AX pin) call; view = ap AX (copied b pin F set) }

  pub ar_made : IsMade rule_own rule_seen rule_size a b (AR F) (Ok (variants.AR pin))
  ar_made = record { call = to_ok (variants.AR pin) call; view = ap AR (copied b pin F set) }

pub set_refused : {T : Type 0} {a b : Sets} {e : SetRefusal} (rule : Rule StateSet) → 1 ≤ rule_size rule → IsCall 1 {T = T} a b [] (Err e) → IsMade {X = Given Pin} rule_own rule_seen rule_size a b rule (Err e)
set_refused {T} {a} {b} {e} rule le call = record { call = to_err e (holds_more (rule_size rule) le call); view = tt }

-- ---- of lists

pub eu_made : {a b : Sets} {vs : List StateSet} (list : Vec Pin) → IsMade list_own list_seen many a b vs (Ok list) → IsMade rule_own rule_seen rule_size a b (EU vs) (Ok (variants.EU list))
eu_made list p = record { call = to_ok (variants.EU list) p.call; view = ap EU p.view }

pub eu_refused : {a b : Sets} {vs : List StateSet} {e : SetRefusal} → IsMade {X = Vec Pin} list_own list_seen many a b vs (Err e) → IsMade {X = Given Pin} rule_own rule_seen rule_size a b (EU vs) (Err e)
eu_refused {a} {b} {vs} {e} p = record { call = to_err e p.call; view = tt }

layers_count : (ls : List (Layer StateSet)) → length (layer_sets ls) ≡ length ls
layers_count [] = refl
layers_count (l ∷ ls) = omega (arith, layers_count ls)

pub au_made : {a b : Sets} {vs : List (Layer StateSet)} (layers : Vec (Layer Pin)) → IsMade layers_own layers_seen many a b vs (Ok layers) → IsMade rule_own rule_seen rule_size a b (AU vs) (Ok (variants.AU layers))
au_made {a} {b} {vs} layers p = record { call = holds_more (rule_size (AU vs)) (omega (arith, layers_count vs)) (to_ok (variants.AU layers) p.call); view = ap AU p.view }

pub au_refused : {a b : Sets} {vs : List (Layer StateSet)} {e : SetRefusal} → IsMade {X = Vec (Layer Pin)} layers_own layers_seen many a b vs (Err e) → IsMade {X = Given Pin} rule_own rule_seen rule_size a b (AU vs) (Err e)
au_refused {a} {b} {vs} {e} p = record { call = to_err e (holds_more (rule_size (AU vs)) (omega (arith, layers_count vs)) p.call); view = tt }

-- ---- of a fair set and a list

er_size : (v : FairPart StateSet) (us ws : List StateSet) → ws ≡ us → fair_size v + many ws ≡ rule_size (ER v us)
er_size v us ws same = omega (arith, length-append (fair_sets v) us, ap (λ (xs : List StateSet). length xs) same)

pub er_made : {a b c : Sets} {v : FairPart StateSet} {us ws : List StateSet} (x : FairPart Pin) (untils : Vec Pin) → ws ≡ us → IsMade fair_own fair_seen fair_size a b v (Ok x) → IsMade list_own list_seen many b c ws (Ok untils)
    → IsMade rule_own rule_seen rule_size a c (ER v us) (Ok (variants.ER x untils))
er_made {a} {b} {c} {v} {us} {ws} x untils same p q = record {
  call = subst (λ n. IsCall n a c (slots (fair_sets x ++ untils.items)) (Ok (variants.ER x untils))) (er_size v us ws same)
      (subst (λ ks. IsCall (fair_size v + many ws) a c ks (Ok (variants.ER x untils))) (sym (slots-append (fair_sets x) untils.items)) (both_call fair_kind x untils (variants.ER x untils) p q));
  view = λ i. ER (first_view fair_kind x p q.call.pins i) ((q.view ∙ same) i);
}

pub er_refused : {a b c d : Sets} {v : FairPart StateSet} {us ws : List StateSet} {e : SetRefusal} (x : FairPart Pin) → ws ≡ us → IsMade fair_own fair_seen fair_size a b v (Ok x) → IsMade {X = Vec Pin} list_own list_seen many b c ws (Err e)
    → Adds d c (fair_own x) → d.fulls ≡ c.fulls → IsMade {X = Given Pin} rule_own rule_seen rule_size a d (ER v us) (Err e)
er_refused {a} {b} {c} {d} {v} {us} {ws} {e} x same p q back fulls = record {
  call = subst (λ n. IsCall n {T = Given Pin} a d [] (Err e)) (er_size v us ws same) (second_refused fair_kind x p q back fulls);
  view = tt;
}

pub fair_stopped : {a b : Sets} {v : FairPart StateSet} {e : SetRefusal} (us : List StateSet) → IsMade {X = FairPart Pin} fair_own fair_seen fair_size a b v (Err e) → IsMade {X = Given Pin} rule_own rule_seen rule_size a b (ER v us) (Err e)
fair_stopped {a} {b} {v} {e} us p = record { call = to_err e (holds_more (rule_size (ER v us)) (omega (arith, length-append (fair_sets v) us)) p.call); view = tt }
