-- Entries whose sets are pins, and what their sets are made of.
use Rattle.std.specs.Prelude.{◌≡◌, ℕ, ◌≤◌, Bool, ◌&&◌, ◌==◌, List, [], ◌∷◌, map, Option, Some, None, Result, Ok}
use Rattle.kripke_model.specs.Step.{IsState}
use Rattle.kripke_model.specs.System.{State}
use Rattle.region_sets.specs.declared.pins.Pin.{Pin}
use Rattle.region_sets.specs.declared.pins.SetRefusal.{SetRefusal}
use Rattle.region_sets.specs.Sets.{Sets, IsCall, IsLive, In, pin_slots, region}
use Rattle.region_sets.specs.Ranks.{slots, AreLive}
use Rattle.fair_rules.specs.Claims as claims
use Rattle.fair_rules.specs.Claims.{join_layers}
use Rattle.fair_rules.specs.Block as blocks
use Rattle.fair_rules.specs.Block.{Listed, same_sign}
use Rattle.proof_form.specs.declared.form.Rule as declared
use Rattle.claim_sets.specs.declared.entry_sets.Entries.{Entries}
use Rattle.claim_sets.specs.declared.entry_sets.Entries.TheVariants as entries
use Rattle.claim_sets.specs.declared.entry_sets.Ground.{Ground}
use Rattle.proof_form.specs.Form.{Entry, entries_sets, map_entry, map_free_entry, map_rule, rule_sets}
use Rattle.proof_form.specs.Seen.{seen_rule}
use Rattle.proof_form.specs.Meaning.{entry_of, listed_of, entries_for}

-- ---- the entries for one formula

abbrev pub entry_slots : Entries → List ℕ
entry_slots (entries.Own es) = slots (entries_sets es.now)
entry_slots (entries.Of k es) = slots (entries_sets (map (λ e. e.entry) es.now))

abbrev pub listed_in : Sets → Entries → List Listed
listed_in sets (entries.Own es) = map listed_of (map (map_entry (region sets)) es.now)
listed_in sets (entries.Of k es) = entries_for k (map (map_free_entry (region sets)) es.now)

-- the entry is one for a sign of a node
abbrev pub fits : Entry Pin → ℕ → Bool → Bool
fits e node plus = (e.node == node) && same_sign e.plus plus

-- what is found for a sign of a node
abbrev pub found_entry : Sets → Option (declared.Rule Pin) → claims.Entry
found_entry sets None = claims.Entry.Absent
found_entry sets (Some rule) = entry_of (map_rule (region sets) (seen_rule rule))

abbrev pub found_slots : Option (declared.Rule Pin) → List ℕ
found_slots None = []
found_slots (Some rule) = slots (rule_sets (seen_rule rule))

-- ---- what claimed sets are made of

-- all states, the states where no fair path begins, and the entries
pub record IsGround (sets : Sets) (ground : Ground) : Type 0 where
  pub full_live : IsLive sets ground.full.now.slot
  pub nonfair_live : IsLive sets ground.nonfair.now.slot
  pub entries_live : AreLive sets (entry_slots ground.entries)
  pub full : (s : State) → IsState sets.over s → In sets ground.full.now.slot s

-- they are those of the proof
pub record IsGroundOf (sets : Sets) (ground : Ground) (p : claims.Proof) : Type 0 where
  pub nonfair : join_layers p.nonfair ≡ region sets ground.nonfair.now
  pub entries : p.entries ≡ blocks.entry_of (listed_in sets ground.entries)

-- a call that puts a pin in another one's place, which is released: whatever left the first one
pub record IsReplacing (before after : Sets) (pin : Pin)
    (result : Result Pin SetRefusal) : Type 0 where
  pub call : (start : Sets) (held : ℕ) → 2 ≤ held
      → IsCall held {T = Pin} start before (pin.slot ∷ []) (Ok pin)
      → IsCall held start after (pin_slots result) result
