-- How the state of given bits is read, variable by variable.
use Rattle.std.proofs.Common.{◌≡◌, ◌⊎◌, inl, inr, ℕ, ◌+◌, ◌<◌, Bool, List, length, get_or, ◌++◌, ◌∷◌, [], pos, refl, sym, ◌∙◌, ap, subst, arith}
use Rattle.std.proofs.lemmas.List.{get_or_append_left, get_or_push, length_push}
use Rattle.std.proofs.lemmas.Bool.{cases_eq}
use Rattle.kripke_model.specs.declared.expressions.Value.{Value}
use Rattle.kripke_model.specs.declared.expressions.Value.TheVariants.{Number}
use Rattle.kripke_model.specs.System.{State, value_in}
use Rattle.bit_encode.specs.Binary.{number}
use Rattle.bit_encode.specs.Code.{Coding, IsOrder, IsUsed, field, values_of}
use Rattle.bit_encode.proofs.CodeLemmas.{IsDecoded}

-- the values of the first i variables, as their bits say
pub record IsRead (c : Coding) (bits : List Bool) (i : ℕ) (s : State) : Type 0 where
  pub each : length s ≡ i
  pub used : (x : ℕ) → x < i → IsUsed c bits x
  pub reads : (x : ℕ) → x < i → value_in s x ≡ get_or (values_of c.types x) (number (field c x bits)) (Number (pos 0))

pub read_none : (c : Coding) (bits : List Bool) → IsRead c bits 0 []
read_none c bits = record {
  each = refl;
  used = λ x l. absurd (omega arith);
  reads = λ x l. absurd (omega arith);
}

pub read_more : (c : Coding) (bits : List Bool) (i : ℕ) (s : State) (v : Value) → IsRead c bits i s → IsUsed c bits i → v ≡ get_or (values_of c.types i) (number (field c i bits)) (Number (pos 0)) → IsRead c bits (i + 1) (s ++ v ∷ [])
read_more c bits i s v h here e = record {
  each = length_push s v ∙ ap (λ n. n + 1) h.each;
  used = λ x l. used_by x l (cases_eq x i);
  reads = λ x l. reads_by x l (cases_eq x i);
}
  where
    used_by : (x : ℕ) → x < i + 1 → (x ≡ i) ⊎ (x ≡ i → ⊥) → IsUsed c bits x
    used_by x l (inl same) = subst (IsUsed c bits) (sym same) here
    used_by x l (inr apart) = h.used x (omega arith)

    reads_by : (x : ℕ) → x < i + 1 → (x ≡ i) ⊎ (x ≡ i → ⊥) → value_in (s ++ v ∷ []) x ≡ get_or (values_of c.types x) (number (field c x bits)) (Number (pos 0))
    reads_by x l (inl same) =
        get_or_push s v (Number (pos 0)) x (h.each ∙ sym same) ∙ e ∙ ap (λ y. get_or (values_of c.types y) (number (field c y bits)) (Number (pos 0))) (sym same)
    reads_by x l (inr apart) = get_or_append_left s (v ∷ []) (Number (pos 0)) x (omega (arith, h.each)) ∙ h.reads x (omega arith)

pub read_end : (c : Coding) (ordered : IsOrder (length c.types) c.order) (bits : List Bool) (i : ℕ) (s : State) → i ≡ length c.types → IsRead c bits i s → IsDecoded c ordered bits s
read_end c ordered bits i s e h = record {
  each = h.each ∙ e;
  used = λ x l. h.used x (omega arith);
  reads = λ x l. h.reads x (omega arith);
}
