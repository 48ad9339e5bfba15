-- Fronts and names of processes by the rows of instances.
use Rattle.std.proofs.Common.{◌≡◌, refl, sym, ◌∙◌, ap, ℕ, ◌<◌, List, [], ◌∷◌, ◌++◌, true, false, Some, None, append_assoc}
use Rattle.std.specs.Prelude.{slice_get}
use Rattle.std.proofs.lemmas.Bool.{false≢true}
use Rattle.smv_instances.specs.declared.rows.Step.{Step}
use Rattle.smv_instances.specs.Instances.{Scope, main_name, is_process, process_name, spelled}
use Rattle.smv_instances.specs.Walk.{IsStep}
use Rattle.smv_instantiate.specs.Bodies.{front}

module _ (numbering : List Scope) (k : ℕ) where
  pub main_front : (s : Scope) → IsStep numbering k None s → front s ≡ []
  main_front (Scope.Main m) h = refl
  main_front (Scope.Inside around name process actuals m) h = absurd h

  pub main_process : (s : Scope) → IsStep numbering k None s → process_name s ≡ main_name
  main_process (Scope.Main m) h = refl
  main_process (Scope.Inside around name process actuals m) h = absurd h

  -- the step leads from the instance around
  pub record IsInner (step : Step) (s : Scope) : Type 0 where
    pub around : Scope
    pub earlier : step.around < k
    pub numbered : slice_get numbering step.around ≡ Some around
    pub front_is : front s ≡ spelled around step.name.now ++ (46 ∷ [])
    pub process_is : is_process s ≡ true → process_name s ≡ spelled around step.name.now

  pub inner_step : (step : Step) (s : Scope) → IsStep numbering k (Some step) s → IsInner step s
  inner_step step (Scope.Main m) h = absurd h
  inner_step step (Scope.Inside around name true actuals m) h = record {
    around = around;
    earlier = h.earlier;
    numbered = h.numbered;
    front_is = ap (λ x. spelled around x ++ (46 ∷ [])) (sym h.named);
    process_is = λ e. ap (spelled around) (sym h.named);
  }
  inner_step step (Scope.Inside around name false actuals m) h = record {
    around = around;
    earlier = h.earlier;
    numbered = h.numbered;
    front_is = ap (λ x. spelled around x ++ (46 ∷ [])) (sym h.named);
    process_is = λ e. absurd (false≢true e);
  }

-- a front, a name and a dot are added one after the other
pub front_added : (old one two new front_before name : List ℕ) → one ≡ old ++ front_before → two ≡ one ++ name → new ≡ two ++ (46 ∷ []) → new ≡ old ++ ((front_before ++ name) ++ (46 ∷ []))
front_added old one two new f name a b d =
    d ∙ ap (λ z. z ++ (46 ∷ [])) (b ∙ ap (λ z. z ++ name) a ∙ append_assoc old f name) ∙ append_assoc old (f ++ name) (46 ∷ [])
