-- The selector names the process whose number is its code.
use Rattle.std.proofs.Common.{◌≡◌, ℕ, ◌-◌, ◌<◌, ◌≤◌, ◌⊎◌, min, Bool, true, false, not, ◌&&◌, ◌||◌, eqb, List, [], length, get_or, Ok, pos, inl, inr, refl, sym, subst, ap, ◌∙◌, arith}
use Rattle.std.specs.Prelude.{All}
use Rattle.std.proofs.lemmas.Bool.{eq-eqb, ne_eqb, cases_eq}
use Rattle.std.proofs.lemmas.Bool.Decides.{Decides-int_eq}
use Rattle.std.proofs.lemmas.List.{get_or-map}
use Rattle.std.proofs.lemmas.List.Elements.{All-get_or}
use Rattle.bdd_nodes.specs.declared.store.Store.{Store}
use Rattle.bdd_nodes.proofs.Tables.{value_of-false}
use Rattle.kripke_model.specs.declared.expressions.Value.{Value}
use Rattle.kripke_model.specs.declared.expressions.Value.TheVariants.{Number}
use Rattle.kripke_model.specs.System.{Variable, System, value_in}
use Rattle.kripke_model.specs.Evaluation.{Checked, same, truth, truth_value}
use Rattle.kripke_model.specs.Flat.{HasSelector}
use Rattle.bit_encode.specs.Code.{Coding, types_of, values_of}
use Rattle.bdd_ops.specs.Kept.{IsRegion}
use Rattle.value_tables.specs.Cells.{same_reading, any_of}
use Rattle.value_tables.specs.States.{code_shown, state_shown}
use Rattle.variable_codes.specs.Codes.{is_spelled}
use Rattle.value_tables.proofs.ReadingLists.{same_self}
use Rattle.value_tables.proofs.ShownLemmas.{code_is, variable_shown, known_variable}

same_numbers : (a b : ℕ) → same (Number (pos a)) (Number (pos b)) ≡ eqb a b
same_numbers a b = by (cases_eq a b)
  where
    unlike : (x : Bool) → same (Number (pos a)) (Number (pos b)) ≡ x → (a ≡ b → ⊥) → x ≡ false
    unlike true e ne = absurd (ne (one ((Decides-int_eq (pos a) (pos b)).0 e)))
      where
        one : pos a ≡ pos b → a ≡ b
        one f = cc
    unlike false e ne = refl

    by : (a ≡ b) ⊎ (a ≡ b → ⊥) → same (Number (pos a)) (Number (pos b)) ≡ eqb a b
    by (inl e) = ap (λ n. same (Number (pos a)) (Number (pos n))) (sym e) ∙ same_self (Number (pos a)) ∙ sym (eq-eqb a b e)
    by (inr ne) = unlike (same (Number (pos a)) (Number (pos b))) refl ne ∙ sym (ne_eqb a b ne)

module _ (c : Coding) (m : System) (types : c.types ≡ types_of m) (h : HasSelector m) (inhabited : All (λ (v : Variable). 0 < length v.values) m.vars) (next : Bool) where
  abbrev pub last : ℕ
  last = length (values_of c.types 0) - 1

  values : values_of c.types 0 ≡ h.0.values
  values = ap (λ ts. values_of ts 0) types ∙ get_or-map (λ (v : Variable). v.values) m.vars 0 h.0 [] h.2 ∙ ap (λ (v : Variable). v.values) h.1

  pub some : 0 < length (values_of c.types 0)
  some = subst (λ (vs : List Value). 0 < length vs) (sym values) (subst (λ (v : Variable). 0 < length v.values) h.1 (All-get_or (λ (v : Variable). 0 < length v.values) m.vars 0 h.0 h.2 inhabited))

  -- the value that the bits show is the number of their code
  shown : (bits : List Bool) → value_in (state_shown c next bits) 0 ≡ Number (pos (min (code_shown c next bits 0) last))
  shown bits =
      variable_shown c next bits 0 (known_variable c.types 0 some)
      ∙ ap (λ (vs : List Value). get_or vs (min (code_shown c next bits 0) last) (Number (pos 0))) values
      ∙ h.5 (min (code_shown c next bits 0) last) (Number (pos 0)) (omega (arith, some, ap length values, h.4))

  names : (p : ℕ) (bits : List Bool) → same (value_in (state_shown c next bits) 0) (Number (pos p)) ≡ eqb (min (code_shown c next bits 0) last) p
  names p bits = ap (λ v. same v (Number (pos p))) (shown bits) ∙ same_numbers (min (code_shown c next bits 0) last) p

  -- the region of the process's code
  pub selected_region : (s : Store) (r p : ℕ) → p ≤ last → IsRegion s r (λ bits. is_spelled false (eqb p last) p (code_shown c next bits 0)) → IsRegion s r (λ bits. same (value_in (state_shown c next bits) 0) (Number (pos p)))
  selected_region s r p le is = record {
    has = is.has;
    value = λ bits. is.value bits ∙ code_is p last (code_shown c next bits 0) le ∙ sym (names p bits);
  }

  -- of a process that the model lacks
  pub selected_nowhere : (s : Store) (p : ℕ) → last < p → IsRegion s 0 (λ bits. same (value_in (state_shown c next bits) 0) (Number (pos p)))
  selected_nowhere s p lt = record {
    has = omega arith;
    value = λ bits. value_of-false s.nodes.keys bits ∙ sym (names p bits ∙ ne_eqb (min (code_shown c next bits 0) last) p (λ e. absurd (omega (arith, e))));
  }

-- ---- the table of 1 and 0

pub two_truths : (k : Checked Value) (q : Bool) → ((false || (same_reading k (Ok (truth_value true)) && q)) || (same_reading k (Ok (truth_value false)) && not q)) ≡ any_of (same_reading k) (Ok (truth q))
two_truths k true = yes (same_reading k (Ok (truth_value true))) (same_reading k (Ok (truth_value false)))
  where
    yes : (a b : Bool) → ((false || (a && true)) || (b && false)) ≡ (a || false)
    yes true b = refl
    yes false true = refl
    yes false false = refl
two_truths k false = no (same_reading k (Ok (truth_value true))) (same_reading k (Ok (truth_value false)))
  where
    no : (a b : Bool) → ((false || (a && false)) || (b && true)) ≡ (b || false)
    no true true = refl
    no true false = refl
    no false true = refl
    no false false = refl
