-- One more item of the flat model.
use Rattle.std.proofs.Common.{◌≡◌, refl, sym, ◌∙◌, ap, subst, List, [], ◌∷◌, ◌++◌, Bool, true, false, cond, append-nil}
use Rattle.std.specs.Prelude.{filter}
use Rattle.std.proofs.lemmas.List.Elements.{filter-append}
use Rattle.kripke_model.specs.System.{Assignment, Condition}
use Rattle.smv_instances.specs.Instances.{Scope}
use Rattle.smv_instances.specs.Program.{Assigned, Kind, Stated, Program}
use Rattle.smv_instantiate.specs.declared.parts.FlatParts.{FlatParts}
use Rattle.smv_instantiate.specs.Flattens.{Item, Placed, IsAssignment, IsCondition, is_assignment, is_of, same_kind}
use Rattle.std.specs.List.{AllZip}
use Rattle.smv_instantiate.specs.Parts.{AreParts}
use Rattle.smv_instantiate.proofs.SizeLemmas.{matched_append}

module _ {A B : Type 0} (R : A → B → Type 0) (f : A → Bool) (items : List A) (x : A) where
  pub matched_more : (ys zs : List B) (y : B) → f x ≡ true → AllZip R (filter f items) ys → R x y → zs ≡ ys ++ (y ∷ []) → AllZip R (filter f (items ++ (x ∷ []))) zs
  matched_more ys zs y is m r e = subst (λ us. AllZip R (filter f (items ++ (x ∷ []))) us) (sym e)
      (subst (λ us. AllZip R us (ys ++ (y ∷ []))) (sym (filter-append f items (x ∷ []) ∙ ap (λ b. filter f items ++ cond b (x ∷ []) []) is))
      (matched_append R (filter f items) (x ∷ []) ys (y ∷ []) m (r, tt)))

  pub matched_still : (ys zs : List B) → f x ≡ false → AllZip R (filter f items) ys → zs ≡ ys → AllZip R (filter f (items ++ (x ∷ []))) zs
  matched_still ys zs is m e = subst (λ us. AllZip R (filter f (items ++ (x ∷ []))) us) (sym e)
      (subst (λ us. AllZip R us ys) (sym (filter-append f items (x ∷ []) ∙ ap (λ b. filter f items ++ cond b (x ∷ []) []) is ∙ append-nil (filter f items))) m)

module _ (p : Program) (items : List Placed) (s : Scope) (old new : FlatParts) (are : AreParts p items old) where
  pub assignment_added : (a : Assigned) (b : Assignment) → IsAssignment p (s, Item.Assigns a) b → new.assigns.items ≡ old.assigns.items ++ (b ∷ [])
      → new.inits.items ≡ old.inits.items → new.invars.items ≡ old.invars.items → new.trans.items ≡ old.trans.items → new.constraints.items ≡ old.constraints.items → new.specs.items ≡ old.specs.items
      → AreParts p (items ++ ((s, Item.Assigns a) ∷ [])) new
  assignment_added a b is e1 e2 e3 e4 e5 e6 = record {
    assigns = matched_more (IsAssignment p) (λ (i : Placed). is_assignment i.1) items (s, Item.Assigns a) old.assigns.items new.assigns.items b refl are.assigns is e1;
    inits = still Kind.Init old.inits.items new.inits.items are.inits e2;
    invars = still Kind.Invar old.invars.items new.invars.items are.invars e3;
    trans = still Kind.Trans old.trans.items new.trans.items are.trans e4;
    constraints = still Kind.Fairness old.constraints.items new.constraints.items are.constraints e5;
    specs = still Kind.Spec old.specs.items new.specs.items are.specs e6;
  }
    where
      still : (k : Kind) (ys zs : List Condition) → AllZip (IsCondition p) (filter (λ i. is_of k i.1) items) ys → zs ≡ ys → AllZip (IsCondition p) (filter (λ i. is_of k i.1) (items ++ ((s, Item.Assigns a) ∷ []))) zs
      still k ys zs m e = matched_still (IsCondition p) (λ (i : Placed). is_of k i.1) items (s, Item.Assigns a) ys zs refl m e

  module _ (c : Stated) (d : Condition) (is : IsCondition p (s, Item.States c) d) where
    apart : (k l : Kind) → c.kind ≡ l → same_kind k l ≡ false → (ys zs : List Condition) → AllZip (IsCondition p) (filter (λ i. is_of k i.1) items) ys → zs ≡ ys → AllZip (IsCondition p) (filter (λ i. is_of k i.1) (items ++ ((s, Item.States c) ∷ []))) zs
    apart k l kind other ys zs m e = matched_still (IsCondition p) (λ (i : Placed). is_of k i.1) items (s, Item.States c) ys zs (ap (same_kind k) kind ∙ other) m e

    together : (k : Kind) → c.kind ≡ k → same_kind k k ≡ true → (ys zs : List Condition) → AllZip (IsCondition p) (filter (λ i. is_of k i.1) items) ys → zs ≡ ys ++ (d ∷ []) → AllZip (IsCondition p) (filter (λ i. is_of k i.1) (items ++ ((s, Item.States c) ∷ []))) zs
    together k kind same ys zs m e = matched_more (IsCondition p) (λ (i : Placed). is_of k i.1) items (s, Item.States c) ys zs d (ap (same_kind k) kind ∙ same) m is e

    assigns_kept : new.assigns.items ≡ old.assigns.items → AllZip (IsAssignment p) (filter (λ i. is_assignment i.1) (items ++ ((s, Item.States c) ∷ []))) new.assigns.items
    assigns_kept e = matched_still (IsAssignment p) (λ (i : Placed). is_assignment i.1) items (s, Item.States c) old.assigns.items new.assigns.items refl are.assigns e

    pub init_added : c.kind ≡ Kind.Init → new.assigns.items ≡ old.assigns.items → new.inits.items ≡ old.inits.items ++ (d ∷ []) → new.invars.items ≡ old.invars.items
        → new.trans.items ≡ old.trans.items → new.constraints.items ≡ old.constraints.items → new.specs.items ≡ old.specs.items → AreParts p (items ++ ((s, Item.States c) ∷ [])) new
    init_added kind e1 e2 e3 e4 e5 e6 = record {
      assigns = assigns_kept e1;
      inits = together Kind.Init kind refl old.inits.items new.inits.items are.inits e2;
      invars = apart Kind.Invar Kind.Init kind refl old.invars.items new.invars.items are.invars e3;
      trans = apart Kind.Trans Kind.Init kind refl old.trans.items new.trans.items are.trans e4;
      constraints = apart Kind.Fairness Kind.Init kind refl old.constraints.items new.constraints.items are.constraints e5;
      specs = apart Kind.Spec Kind.Init kind refl old.specs.items new.specs.items are.specs e6;
    }

    pub invar_added : c.kind ≡ Kind.Invar → new.assigns.items ≡ old.assigns.items → new.inits.items ≡ old.inits.items → new.invars.items ≡ old.invars.items ++ (d ∷ [])
        → new.trans.items ≡ old.trans.items → new.constraints.items ≡ old.constraints.items → new.specs.items ≡ old.specs.items → AreParts p (items ++ ((s, Item.States c) ∷ [])) new
    invar_added kind e1 e2 e3 e4 e5 e6 = record {
      assigns = assigns_kept e1;
      inits = apart Kind.Init Kind.Invar kind refl old.inits.items new.inits.items are.inits e2;
      invars = together Kind.Invar kind refl old.invars.items new.invars.items are.invars e3;
      trans = apart Kind.Trans Kind.Invar kind refl old.trans.items new.trans.items are.trans e4;
      constraints = apart Kind.Fairness Kind.Invar kind refl old.constraints.items new.constraints.items are.constraints e5;
      specs = apart Kind.Spec Kind.Invar kind refl old.specs.items new.specs.items are.specs e6;
    }

    pub trans_added : c.kind ≡ Kind.Trans → new.assigns.items ≡ old.assigns.items → new.inits.items ≡ old.inits.items → new.invars.items ≡ old.invars.items
        → new.trans.items ≡ old.trans.items ++ (d ∷ []) → new.constraints.items ≡ old.constraints.items → new.specs.items ≡ old.specs.items → AreParts p (items ++ ((s, Item.States c) ∷ [])) new
    trans_added kind e1 e2 e3 e4 e5 e6 = record {
      assigns = assigns_kept e1;
      inits = apart Kind.Init Kind.Trans kind refl old.inits.items new.inits.items are.inits e2;
      invars = apart Kind.Invar Kind.Trans kind refl old.invars.items new.invars.items are.invars e3;
      trans = together Kind.Trans kind refl old.trans.items new.trans.items are.trans e4;
      constraints = apart Kind.Fairness Kind.Trans kind refl old.constraints.items new.constraints.items are.constraints e5;
      specs = apart Kind.Spec Kind.Trans kind refl old.specs.items new.specs.items are.specs e6;
    }

    pub constraint_added : c.kind ≡ Kind.Fairness → new.assigns.items ≡ old.assigns.items → new.inits.items ≡ old.inits.items → new.invars.items ≡ old.invars.items
        → new.trans.items ≡ old.trans.items → new.constraints.items ≡ old.constraints.items ++ (d ∷ []) → new.specs.items ≡ old.specs.items → AreParts p (items ++ ((s, Item.States c) ∷ [])) new
    constraint_added kind e1 e2 e3 e4 e5 e6 = record {
      assigns = assigns_kept e1;
      inits = apart Kind.Init Kind.Fairness kind refl old.inits.items new.inits.items are.inits e2;
      invars = apart Kind.Invar Kind.Fairness kind refl old.invars.items new.invars.items are.invars e3;
      trans = apart Kind.Trans Kind.Fairness kind refl old.trans.items new.trans.items are.trans e4;
      constraints = together Kind.Fairness kind refl old.constraints.items new.constraints.items are.constraints e5;
      specs = apart Kind.Spec Kind.Fairness kind refl old.specs.items new.specs.items are.specs e6;
    }

    pub spec_added : c.kind ≡ Kind.Spec → new.assigns.items ≡ old.assigns.items → new.inits.items ≡ old.inits.items → new.invars.items ≡ old.invars.items
        → new.trans.items ≡ old.trans.items → new.constraints.items ≡ old.constraints.items → new.specs.items ≡ old.specs.items ++ (d ∷ []) → AreParts p (items ++ ((s, Item.States c) ∷ [])) new
    spec_added kind e1 e2 e3 e4 e5 e6 = record {
      assigns = assigns_kept e1;
      inits = apart Kind.Init Kind.Spec kind refl old.inits.items new.inits.items are.inits e2;
      invars = apart Kind.Invar Kind.Spec kind refl old.invars.items new.invars.items are.invars e3;
      trans = apart Kind.Trans Kind.Spec kind refl old.trans.items new.trans.items are.trans e4;
      constraints = apart Kind.Fairness Kind.Spec kind refl old.constraints.items new.constraints.items are.constraints e5;
      specs = together Kind.Spec kind refl old.specs.items new.specs.items are.specs e6;
    }
