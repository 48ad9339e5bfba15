-- What one more number, constant or element adds.
use Rattle.std.proofs.Common.{◌≡◌, refl, sym, ◌∙◌, ap, subst, ℕ, zero, suc, ◌<◌, ◌≤◌, ◌+◌, ◌-◌, arith, List, [], ◌∷◌, ◌++◌, length, get_or, take, Bool, true, false, cond, not, ◌||◌, append-nil, append_assoc}
use Rattle.std.specs.Prelude.{map, flat_map, filter, All, if◌then◌else◌}
use Rattle.std.proofs.lemmas.Bool.{false≢true}
use Rattle.std.proofs.lemmas.List.{take_more}
use Rattle.std.proofs.lemmas.List.Elements.{filter-append}
use Rattle.std.proofs.lemmas.List.Concat.{flat_map-append}
use Rattle.kripke_model.specs.declared.expressions.Value.{Value}
use Rattle.kripke_model.specs.Evaluation.{same, among, distinct}
use Rattle.kripke_model.proofs.ValueLemmas.{same-true, same_self}
use Rattle.kripke_model.specs.System.{Variable}
use Rattle.smv_instances.specs.Program.{Name}
use Rattle.smv_instances.specs.Instances.{rising}
use Rattle.smv_instantiate.specs.Types.{variables_named}
use Rattle.smv_instantiate.proofs.Members.{map-append}

-- ---- numbers that rise

pub rising-push : (low n : ℕ) → rising low (suc n) ≡ rising low n ++ ((low + n) ∷ [])
rising-push low zero = ap (λ k. k ∷ []) (omega arith)
rising-push low (suc n) = ap (λ ks. low ∷ ks) (rising-push (low + 1) n ∙ ap (λ k. rising (low + 1) n ++ (k ∷ [])) (omega arith))

-- up to k, and with k
pub rising_next : (low k : ℕ) → low ≤ k → rising low (k + 1 - low) ≡ rising low (k - low) ++ (k ∷ [])
rising_next low k from =
    let more : k + 1 - low ≡ suc (k - low) = omega (arith, from) in
    let last : low + (k - low) ≡ k = omega (arith, from) in
    ap (rising low) more ∙ rising-push low (k - low) ∙ ap (λ j. rising low (k - low) ++ (j ∷ [])) last

pub joined_next : {A : Type 0} (f : ℕ → List A) (low k : ℕ) (first out new : List A) → low ≤ k → out ≡ first ++ flat_map f (rising low (k - low)) → new ≡ out ++ f k → new ≡ first ++ flat_map f (rising low (k + 1 - low))
joined_next f low k first out new from so_far e =
    e ∙ ap (λ o. o ++ f k) so_far ∙ append_assoc first (flat_map f (rising low (k - low))) (f k)
    ∙ ap (λ o. first ++ (flat_map f (rising low (k - low)) ++ o)) (sym (append-nil (f k)))
    ∙ ap (λ o. first ++ o) (sym (flat_map-append f (rising low (k - low)) (k ∷ [])))
    ∙ ap (λ ks. first ++ flat_map f ks) (sym (rising_next low k from))

-- ---- members of a mapped list

pub all_at : {A B : Type 0} (P : B → Type 0) (f : A → B) (xs : List A) (k : ℕ) (x : A) → All P (map f xs) → k < length xs → x ≡ get_or xs k x → P (f x)
all_at P f [] k x all below is = absurd (omega arith)
all_at P f (y ∷ ys) zero x all below is = subst (λ z. P (f z)) (sym is) (all 0 (f y) (omega arith))
all_at P f (y ∷ ys) (suc k) x all below is = all_at P f ys k x (λ j d lt. all (suc j) d (omega arith)) (omega arith) is

pub map-map : {A B C : Type 0} (g : B → C) (f : A → B) (xs : List A) → map g (map f xs) ≡ map (λ x. g (f x)) xs
map-map g f [] = refl
map-map g f (x ∷ xs) = ap (λ ys. g (f x) ∷ ys) (map-map g f xs)

pub taken_all : {A : Type 0} (xs : List A) (k : ℕ) → length xs ≤ k → take k xs ≡ xs
taken_all [] zero past = refl
taken_all [] (suc k) past = refl
taken_all (x ∷ xs) zero past = absurd (omega arith)
taken_all (x ∷ xs) (suc k) past = ap (λ ys. x ∷ ys) (taken_all xs k (omega arith))

-- ---- values, each once

same_sym_from : (v w : Value) (b c : Bool) → same v w ≡ b → same w v ≡ c → b ≡ c
same_sym_from v w true true p q = refl
same_sym_from v w false false p q = refl
same_sym_from v w true false p q = sym (same_self w) ∙ ap (same w) (sym (same-true v w p)) ∙ q
same_sym_from v w false true p q = sym p ∙ ap (same v) (same-true w v q) ∙ same_self v

kept_last : (v x : Value) (vs : List Value) (c : Bool) → same v x ≡ c → filter (λ w. not (same v w)) (vs ++ (x ∷ [])) ≡ filter (λ w. not (same v w)) vs ++ cond (not c) (x ∷ []) []
kept_last v x vs c e = filter-append (λ w. not (same v w)) vs (x ∷ []) ∙ ap (λ b. filter (λ w. not (same v w)) vs ++ cond (not b) (x ∷ []) []) e

-- later: x is among the later values; here: it is the first one
pushed_by : (v x : Value) (vs : List Value) (later here there : Bool) → same v x ≡ here → same x v ≡ there
    → (v ∷ filter (λ w. not (same v w)) (cond later vs (vs ++ (x ∷ [])))) ≡ cond (there || later) (v ∷ filter (λ w. not (same v w)) vs) ((v ∷ filter (λ w. not (same v w)) vs) ++ (x ∷ []))
pushed_by v x vs later true true p q = ap (λ ws. v ∷ ws) (first_kept later)
  where
    first_kept : (b : Bool) → filter (λ w. not (same v w)) (cond b vs (vs ++ (x ∷ []))) ≡ filter (λ w. not (same v w)) vs
    first_kept true = refl
    first_kept false = kept_last v x vs true p ∙ append-nil (filter (λ w. not (same v w)) vs)
pushed_by v x vs true false false p q = refl
pushed_by v x vs false false false p q = ap (λ ws. v ∷ ws) (kept_last v x vs false p)
pushed_by v x vs later true false p q = absurd (false≢true (sym (same_sym_from v x true false p q)))
pushed_by v x vs later false true p q = absurd (false≢true (same_sym_from v x false true p q))

pub distinct-push : (vs : List Value) (x : Value) → distinct (vs ++ (x ∷ [])) ≡ cond (among x vs) (distinct vs) (distinct vs ++ (x ∷ []))
distinct-push [] x = refl
distinct-push (v ∷ vs) x = ap (λ ws. v ∷ filter (λ w. not (same v w)) ws) (distinct-push vs x) ∙ pushed_by v x (distinct vs) (among x vs) (same v x) (same x v) refl refl

-- x is among the values where it is among those that are kept, or is the first one
among_filter : (x v : Value) (vs : List Value) → (same x v || among x (filter (λ w. not (same v w)) vs)) ≡ (same x v || among x vs)
among_filter x v [] = refl
among_filter x v (w ∷ ws) = by (same v w) (same x v) (same x w) refl refl refl (among_filter x v ws)
  where
    by : (b c d : Bool) → same v w ≡ b → same x v ≡ c → same x w ≡ d → (same x v || among x (filter (λ u. not (same v u)) ws)) ≡ (same x v || among x ws)
        → (c || among x (cond (not b) (w ∷ filter (λ u. not (same v u)) ws) (filter (λ u. not (same v u)) ws))) ≡ (c || (d || among x ws))
    by b true d p q r rest = refl
    by true false true p q r rest = absurd (false≢true (sym q ∙ ap (same x) (same-true v w p) ∙ r))
    by true false false p q r rest = ap (λ z. z || among x (filter (λ u. not (same v u)) ws)) (sym q) ∙ rest ∙ ap (λ z. z || among x ws) q
    by false false true p q r rest = ap (λ z. z || among x (filter (λ u. not (same v u)) ws)) r
    by false false false p q r rest = ap (λ z. z || among x (filter (λ u. not (same v u)) ws)) r ∙ ap (λ z. z || among x (filter (λ u. not (same v u)) ws)) (sym q) ∙ rest ∙ ap (λ z. z || among x ws) q

pub among-distinct : (x : Value) (vs : List Value) → among x (distinct vs) ≡ among x vs
among-distinct x [] = refl
among-distinct x (v ∷ vs) = among_filter x v (distinct vs) ∙ ap (λ b. same x v || b) (among-distinct x vs)

-- one more value, where it is not there yet
pub pushed_next : {A : Type 0} (f : A → Value) (xs : List A) (k : ℕ) (x : A) (out new : List Value) → k < length xs → x ≡ get_or xs k x
    → out ≡ distinct (map f (take k xs)) → new ≡ (if among (f x) out then out else out ++ (f x ∷ [])) → new ≡ distinct (map f (take (k + 1) xs))
pushed_next f xs k x out new below is so_far e =
    e
    ∙ ap (λ o. cond (among (f x) o) o (o ++ (f x ∷ []))) so_far
    ∙ ap (λ b. cond b (distinct (map f (take k xs))) (distinct (map f (take k xs)) ++ (f x ∷ []))) (among-distinct (f x) (map f (take k xs)))
    ∙ sym (distinct-push (map f (take k xs)) (f x))
    ∙ ap distinct (sym (map-append f (take k xs) (x ∷ [])))
    ∙ ap (λ ys. distinct (map f ys)) (ap (λ y. take k xs ++ (y ∷ [])) is ∙ sym (take_more xs k x below))

-- ---- variables

pub variable_next : (first old new : List Variable) (names : List Name) (values : List Value) (line : ℕ) (name : Name) (v : Variable) → old ≡ first ++ variables_named names values line → new ≡ old ++ (v ∷ [])
    → v ≡ record { name = name; values = values; line = line } → new ≡ first ++ variables_named (names ++ (name ∷ [])) values line
variable_next first old new names values line name v so_far e is =
    e ∙ ap (λ o. o ++ (v ∷ [])) so_far ∙ append_assoc first (variables_named names values line) (v ∷ [])
    ∙ ap (λ w. first ++ (variables_named names values line ++ (w ∷ []))) is
    ∙ ap (λ ws. first ++ ws) (sym (map-append (λ x. record { name = x; values = values; line = line }) names (name ∷ [])))
