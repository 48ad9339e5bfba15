-- What paths are refused for, one after the other.
use Rattle.std.proofs.Common.{List, get_or, inl, inr}
use Rattle.std.specs.Prelude.{All, Result, Ok, Err, MatchResult}
use Rattle.kripke_model.specs.Refusing.{Silent, first_of}
use Rattle.kripke_model.proofs.FirstLemmas.{silent_refuse, silent_then, silent_list}
use Rattle.kripke_model.specs.declared.refusals.FlatRefusal.{FlatRefusal}
use Rattle.smv_instances.specs.Program.{Path, Program}
use Rattle.smv_instances.specs.Instances.{Scope}
use Rattle.smv_instances.specs.Answers.{Refused}
use Rattle.smv_names.specs.Abbreviations.{Mention, HasBadIndex, unknown_path, bad_index, path_rows}
use Rattle.smv_names.specs.Sound.{HasIndexes, AreSound}
use Rattle.smv_names.specs.Known.{IsKnown}

pub known_silent : (p : Program) (s : Scope) (m : Mention) → IsKnown p s m → Silent (unknown_path p s m)
known_silent p s m known = silent_refuse (λ never. never known.0 known.1 known.2)

pub all_known : (p : Program) (s : Scope) (ms : List Mention) → All (IsKnown p s) ms → Silent (first_of ms (unknown_path p s))
all_known p s ms all = silent_list (unknown_path p s) ms (λ k d below. known_silent p s (get_or ms k d) (all k d below))

good_not_bad : (p : Program) (s : Scope) (q : Path) → HasIndexes p s q → HasBadIndex p s q → ⊥
good_not_bad p s (Path.Here line x) good bad = absurd bad
good_not_bad p s (Path.Field q x) good bad = good_not_bad p s q good bad
good_not_bad p s (Path.Index q e) good (inl bad) = good_not_bad p s q good.0 bad
good_not_bad p s (Path.Index q e) good (inr bad) =
    let one = good.1 bad.0 bad.1 bad.2 bad.3 bad.4 bad.5 bad.6 in
    bad.7 one.0 one.1

pub indexed_silent : (p : Program) (s : Scope) (m : Mention) → HasIndexes p s m.path → Silent (bad_index p s m)
indexed_silent p s m good = silent_refuse (good_not_bad p s m.path good)

pub all_indexed : (p : Program) (s : Scope) (ms : List Mention) → All (λ m. HasIndexes p s m.path) ms → Silent (first_of ms (bad_index p s))
all_indexed p s ms all = silent_list (bad_index p s) ms (λ k d below. indexed_silent p s (get_or ms k d) (all k d below))

pub all_sound : (p : Program) (s : Scope) (ms : List Mention) → All (IsKnown p s) ms → All (λ m. HasIndexes p s m.path) ms → AreSound p s ms
all_sound p s ms known indexed k d below =
    let one = known k d below in
    record { target = one.0; denotes = one.1; suits = one.2; indexes = indexed k d below }

-- ---- the two rules together

pub first_refused : (p : Program) (s : Scope) (ms : List Mention) (r : FlatRefusal) → Refused (first_of ms (unknown_path p s)) r → Refused (path_rows p s ms) r
first_refused p s ms r (inl memory) = inl memory
first_refused p s ms r (inr h) = inr (inl h)

pub second_refused : (p : Program) (s : Scope) (ms : List Mention) (r : FlatRefusal) → All (IsKnown p s) ms → Refused (first_of ms (bad_index p s)) r → Refused (path_rows p s ms) r
second_refused p s ms r known (inl memory) = inl memory
second_refused p s ms r known (inr h) = inr (inr (all_known p s ms known, h))

pub paths_checked : {A : Type 0} (p : Program) (s : Scope) (ms : List Mention) (result : Result A FlatRefusal) → All (IsKnown p s) ms
    → MatchResult result (λ _. All (λ m. HasIndexes p s m.path) ms) (Refused (first_of ms (bad_index p s)))
    → MatchResult result (λ _. Silent (path_rows p s ms) × AreSound p s ms) (Refused (path_rows p s ms))
paths_checked p s ms (Ok x) known indexed = (silent_then {a = first_of ms (unknown_path p s)} (all_known p s ms known) (all_indexed p s ms indexed), all_sound p s ms known indexed)
paths_checked p s ms (Err r) known refused = second_refused p s ms r known refused
