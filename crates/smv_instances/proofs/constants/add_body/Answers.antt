use Rattle.std.proofs.Common.{◌≡◌, sym, ◌∙◌, ap, ◌+◌, arith, [], ◌∷◌, ◌++◌, map, take, append_assoc, append-nil}
use Rattle.std.proofs.lemmas.Grind.{flat_map-append}
use Rattle.smv_instances.specs.Entries.{Entry}
use Rattle.smv_instances.specs.Instances.{atoms_of, distinct_names}
use Rattle.smv_instances.specs.Numbered.{plain_entity, plain_entry}
use Rattle.smv_instances.specs.Symbols.{entry_atoms}
use Rattle.smv_instances.proofs.ListSteps.{take_map, take_whole}
use Rattle.smv_instances.proofs.constants.add_body.Goals as goal

pub loop-entry-init : goal.loop-entry-init
loop-entry-init c = λ seen e. e ∙ ap distinct_names (sym (append-nil seen))

pub loop-entry-preserved : goal.loop-entry-preserved
loop-entry-preserved c = λ seen e.
    let es = c.args.entries.now in
    let i = c.loop-entry.entry-index in
    let d = c.entry-item.result in
    let front = entry_atoms (map plain_entry (take i es)) in
    let own = atoms_of (plain_entity d.entity) in
    let more : entry_atoms (map plain_entry (take (i + 1) es)) ≡ front ++ own = ap entry_atoms (take_map plain_entry es i d (omega arith) c.entry-item.is) ∙ flat_map-append (λ (x : Entry). atoms_of x.entity) (map plain_entry (take i es)) (plain_entry d ∷ []) ∙ ap (λ ns. front ++ ns) (append-nil own) in
    c.in_ok-add_entry.ensures (seen ++ front) (c.loop-entry.invariant seen e) ∙ ap distinct_names (append_assoc seen front own ∙ ap (λ ns. seen ++ ns) (sym more))

pub returns : goal.returns
returns c = λ seen e. c.loop-entry.invariant seen e ∙ ap (λ xs. distinct_names (seen ++ entry_atoms (map plain_entry xs))) (take_whole c.args.entries.now c.loop-entry.entry-index (omega arith))
