use Rattle.std.proofs.Common.{◌≡◌, sym, ◌∙◌, ap, ◌+◌, ◌∷◌, ◌++◌, map, take, drop, true}
use Rattle.std.specs.Prelude.{filter}
use Rattle.smv_instances.specs.Entries.{Entry}
use Rattle.smv_instances.specs.Instances.{declares_process}
use Rattle.smv_instances.specs.Numbered.{plain_entry}
use Rattle.smv_names.proofs.WrittenLemmas.{split_at}
use Rattle.smv_instantiate.proofs.Members.{map-append}
use Rattle.smv_instantiate.proofs.ProcessSteps.{first_is}
use Rattle.smv_instantiate.proofs.processes.body_line.Goals as goal

pub returns-then-is_process_instance : goal.returns-then-is_process_instance
returns-then-is_process_instance c =
    let xs = c.args.entries.now in
    let i = c.loop-entry.entry-index in
    let x = c.entry-item.result in
    let passes : declares_process (plain_entry x).entity ≡ true = sym c.is_process_instance.ensures ∙ c.if-is_process_instance.true in
    let all : map plain_entry (take i xs) ++ (plain_entry x ∷ map plain_entry (drop (i + 1) xs)) ≡ map plain_entry xs =
    sym (map-append plain_entry (take i xs) (x ∷ drop (i + 1) xs)) ∙ ap (map plain_entry) (split_at xs i x c.loop-entry-test.true c.entry-item.is) in
    sym (first_is (λ (e : Entry). e.line) (λ (e : Entry). declares_process e.entity) (plain_entry x) (map plain_entry (take i xs)) (map plain_entry (drop (i + 1) xs)) c.loop-entry.invariant passes)
    ∙ ap (λ es. map (λ (e : Entry). e.line) (take 1 (filter (λ (e : Entry). declares_process e.entity) es))) all
