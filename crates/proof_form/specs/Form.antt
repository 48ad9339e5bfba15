-- A proof as it is written, over any kind of sets: pins, numbers of nodes, or sets of states themselves.
use Rattle.std.specs.Prelude.{ℕ, Bool, List, [], ◌∷◌, ◌++◌, map, option_map, Option, Some, None}
use Rattle.std.specs.List.{flat_map}
use Rattle.kripke_model.specs.System.{State}

-- states that avoid a constraint, counted from 1, until they leave for an earlier layer
pub record Layer (T : Type 0) : Type 0 where
  pub avoid : ℕ
  pub set : T

-- a set of states from which fair paths stay in it: for each constraint the sets that lead to it inside
pub record FairPart (T : Type 0) : Type 0 where
  pub inside : T
  pub reach : List (List T)

-- what is given for one sign of a temporal node
pub data Rule (T : Type 0) : Type 0 where
  EX : (set : T) → Rule T
  AX : (set : T) → Rule T
  AR : (set : T) → Rule T
  EU : (sets : List T) → Rule T
  AU : (layers : List (Layer T)) → Rule T
  ER : (fair : FairPart T) (untils : List T) → Rule T

pub record Entry (T : Type 0) : Type 0 where
  pub node : ℕ
  pub plus : Bool
  pub rule : Rule T

-- an entry for a constraint's formula; constraints are counted from 1
pub record FreeEntry (T : Type 0) : Type 0 where
  pub constraint : ℕ
  pub entry : Entry T

-- what is given for constraints that are formulas: over all paths, where no constraint is asked
pub record FreePart (T : Type 0) : Type 0 where
  pub nonfair : List (Layer T)
  pub fair : FairPart T
  pub entries : List (FreeEntry T)

-- the claim that a specification is true, or that it is false, as it is at the state
pub record Proof (T : Type 0) : Type 0 where
  pub claim : Bool
  pub free : Option (FreePart T)
  pub nonfair : List (Layer T)
  pub fair : FairPart T
  pub entries : List (Entry T)
  pub at : Option State

-- ---- the same proof over other sets

abbrev pub map_layer : {A B : Type 0} → (A → B) → Layer A → Layer B
map_layer f l = record { avoid = l.avoid; set = f l.set }

abbrev pub map_fair : {A B : Type 0} → (A → B) → FairPart A → FairPart B
map_fair f p = record { inside = f p.inside; reach = map (map f) p.reach }

abbrev pub map_rule : {A B : Type 0} → (A → B) → Rule A → Rule B
map_rule f (EX set) = EX (f set)
map_rule f (AX set) = AX (f set)
map_rule f (AR set) = AR (f set)
map_rule f (EU sets) = EU (map f sets)
map_rule f (AU layers) = AU (map (map_layer f) layers)
map_rule f (ER fair untils) = ER (map_fair f fair) (map f untils)

abbrev pub map_entry : {A B : Type 0} → (A → B) → Entry A → Entry B
map_entry f e = record { node = e.node; plus = e.plus; rule = map_rule f e.rule }

abbrev pub map_free_entry : {A B : Type 0} → (A → B) → FreeEntry A → FreeEntry B
map_free_entry f e = record { constraint = e.constraint; entry = map_entry f e.entry }

abbrev pub map_free : {A B : Type 0} → (A → B) → FreePart A → FreePart B
map_free f p
    = record {
      nonfair = map (map_layer f) p.nonfair;
      fair = map_fair f p.fair;
      entries = map (map_free_entry f) p.entries;
    }

abbrev pub map_proof : {A B : Type 0} → (A → B) → Proof A → Proof B
map_proof f p = record {
  claim = p.claim;
  free = option_map (map_free f) p.free;
  nonfair = map (map_layer f) p.nonfair;
  fair = map_fair f p.fair;
  entries = map (map_entry f) p.entries;
  at = p.at;
}

-- ---- its sets, in the order in which they are written

abbrev pub layer_sets : {A : Type 0} → List (Layer A) → List A
layer_sets layers = map (λ l. l.set) layers

abbrev pub fair_sets : {A : Type 0} → FairPart A → List A
fair_sets p = p.inside ∷ flat_map (λ sets. sets) p.reach

abbrev pub rule_sets : {A : Type 0} → Rule A → List A
rule_sets (EX set) = set ∷ []
rule_sets (AX set) = set ∷ []
rule_sets (AR set) = set ∷ []
rule_sets (EU sets) = sets
rule_sets (AU layers) = layer_sets layers
rule_sets (ER fair untils) = fair_sets fair ++ untils

abbrev pub entries_sets : {A : Type 0} → List (Entry A) → List A
entries_sets entries = flat_map (λ e. rule_sets e.rule) entries

abbrev pub free_sets : {A : Type 0} → FreePart A → List A
free_sets p = layer_sets p.nonfair
    ++ (fair_sets p.fair ++ entries_sets (map (λ e. e.entry) p.entries))

abbrev pub free_sets_of : {A : Type 0} → Option (FreePart A) → List A
free_sets_of None = []
free_sets_of (Some part) = free_sets part

abbrev pub sets_of : {A : Type 0} → Proof A → List A
sets_of p = free_sets_of p.free
    ++ (layer_sets p.nonfair ++ (fair_sets p.fair ++ entries_sets p.entries))
