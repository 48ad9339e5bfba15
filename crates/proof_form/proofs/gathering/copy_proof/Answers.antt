use Rattle.std.proofs.Common.{◌++◌, refl, sym, ap}
use Rattle.std.proofs.lemmas.Result.{err_from_is_err_and}
use Rattle.proof_form.specs.Form.{layer_sets, fair_sets, entries_sets, free_sets_of, sets_of}
use Rattle.proof_form.proofs.Copied.{first_live, second_live, first_refused, both_copied}
use Rattle.proof_form.proofs.gathering.copy_proof.Goals as goal

pub copy_free_part-requires : goal.copy_free_part-requires
copy_free_part-requires g c = first_live (g.S.StateSets.seen c.args.sets.now) (sets_of c.args.proof.now) (free_sets_of c.proof.inside.free) (layer_sets c.proof.inside.nonfair.items ++ (fair_sets c.proof.inside.fair ++ entries_sets c.proof.inside.entries.items)) (ap sets_of (sym c.proof.view_is)) c.requires

pub returns-in_err-copy_free_part : goal.returns-in_err-copy_free_part
returns-in_err-copy_free_part g c =
    let p = err_from_is_err_and c.from_residual.result c.from_residual.ensures.1 in
    rw (p.1, p.2) (first_refused (g.S.StateSets.seen c.args.sets.now) (sets_of c.args.proof.now) (free_sets_of c.proof.inside.free) (layer_sets c.proof.inside.nonfair.items ++ (fair_sets c.proof.inside.fair ++ entries_sets c.proof.inside.entries.items)) (ap sets_of (sym c.proof.view_is)) c.requires c.in_err-copy_free_part.field-0.0 c.in_err-copy_free_part.ensures)

pub copy_layers-requires : goal.copy_layers-requires
copy_layers-requires g c = first_live (g.S.StateSets.seen c.copy_free_part.new.sets) (layer_sets c.proof.inside.nonfair.items ++ (fair_sets c.proof.inside.fair ++ entries_sets c.proof.inside.entries.items)) (layer_sets c.deref.result.now) (fair_sets c.proof.inside.fair ++ entries_sets c.proof.inside.entries.items) (ap (λ ls. layer_sets ls ++ (fair_sets c.proof.inside.fair ++ entries_sets c.proof.inside.entries.items)) (sym c.deref.ensures.value)) (second_live (g.S.StateSets.seen c.args.sets.now) (sets_of c.args.proof.now) (free_sets_of c.proof.inside.free) (layer_sets c.proof.inside.nonfair.items ++ (fair_sets c.proof.inside.fair ++ entries_sets c.proof.inside.entries.items)) (ap sets_of (sym c.proof.view_is)) c.requires c.in_ok-copy_free_part.ensures)

pub returns-in_err-copy_layers : goal.returns-in_err-copy_layers
returns-in_err-copy_layers g c =
    let p = err_from_is_err_and c.from_residual-in_err-copy_layers.result c.from_residual-in_err-copy_layers.ensures.1 in
    rw (p.1, p.2) (both_copied (g.S.StateSets.seen c.args.sets.now) (sets_of c.args.proof.now) (free_sets_of c.proof.inside.free) (layer_sets c.proof.inside.nonfair.items ++ (fair_sets c.proof.inside.fair ++ entries_sets c.proof.inside.entries.items)) (ap sets_of (sym c.proof.view_is)) c.requires c.in_ok-copy_free_part.ensures
    (first_refused (g.S.StateSets.seen c.copy_free_part.new.sets) (layer_sets c.proof.inside.nonfair.items ++ (fair_sets c.proof.inside.fair ++ entries_sets c.proof.inside.entries.items)) (layer_sets c.deref.result.now) (fair_sets c.proof.inside.fair ++ entries_sets c.proof.inside.entries.items) (ap (λ ls. layer_sets ls ++ (fair_sets c.proof.inside.fair ++ entries_sets c.proof.inside.entries.items)) (sym c.deref.ensures.value)) (second_live (g.S.StateSets.seen c.args.sets.now) (sets_of c.args.proof.now) (free_sets_of c.proof.inside.free) (layer_sets c.proof.inside.nonfair.items ++ (fair_sets c.proof.inside.fair ++ entries_sets c.proof.inside.entries.items)) (ap sets_of (sym c.proof.view_is)) c.requires c.in_ok-copy_free_part.ensures) c.in_err-copy_layers.field-0.0 c.in_err-copy_layers.ensures))

pub copy_fair-requires : goal.copy_fair-requires
copy_fair-requires g c = first_live (g.S.StateSets.seen c.copy_layers.new.sets) (fair_sets c.proof.inside.fair ++ entries_sets c.proof.inside.entries.items) (fair_sets c.proof.inside.fair) (entries_sets c.proof.inside.entries.items) refl (second_live (g.S.StateSets.seen c.copy_free_part.new.sets) (layer_sets c.proof.inside.nonfair.items ++ (fair_sets c.proof.inside.fair ++ entries_sets c.proof.inside.entries.items)) (layer_sets c.deref.result.now) (fair_sets c.proof.inside.fair ++ entries_sets c.proof.inside.entries.items) (ap (λ ls. layer_sets ls ++ (fair_sets c.proof.inside.fair ++ entries_sets c.proof.inside.entries.items)) (sym c.deref.ensures.value)) (second_live (g.S.StateSets.seen c.args.sets.now) (sets_of c.args.proof.now) (free_sets_of c.proof.inside.free) (layer_sets c.proof.inside.nonfair.items ++ (fair_sets c.proof.inside.fair ++ entries_sets c.proof.inside.entries.items)) (ap sets_of (sym c.proof.view_is)) c.requires c.in_ok-copy_free_part.ensures) c.in_ok-copy_layers.ensures)

pub returns-in_err-copy_fair : goal.returns-in_err-copy_fair
returns-in_err-copy_fair g c =
    let p = err_from_is_err_and c.from_residual-in_err-copy_fair.result c.from_residual-in_err-copy_fair.ensures.1 in
    rw (p.1, p.2) (both_copied (g.S.StateSets.seen c.args.sets.now) (sets_of c.args.proof.now) (free_sets_of c.proof.inside.free) (layer_sets c.proof.inside.nonfair.items ++ (fair_sets c.proof.inside.fair ++ entries_sets c.proof.inside.entries.items)) (ap sets_of (sym c.proof.view_is)) c.requires c.in_ok-copy_free_part.ensures
    (both_copied (g.S.StateSets.seen c.copy_free_part.new.sets) (layer_sets c.proof.inside.nonfair.items ++ (fair_sets c.proof.inside.fair ++ entries_sets c.proof.inside.entries.items)) (layer_sets c.deref.result.now) (fair_sets c.proof.inside.fair ++ entries_sets c.proof.inside.entries.items) (ap (λ ls. layer_sets ls ++ (fair_sets c.proof.inside.fair ++ entries_sets c.proof.inside.entries.items)) (sym c.deref.ensures.value)) (second_live (g.S.StateSets.seen c.args.sets.now) (sets_of c.args.proof.now) (free_sets_of c.proof.inside.free) (layer_sets c.proof.inside.nonfair.items ++ (fair_sets c.proof.inside.fair ++ entries_sets c.proof.inside.entries.items)) (ap sets_of (sym c.proof.view_is)) c.requires c.in_ok-copy_free_part.ensures) c.in_ok-copy_layers.ensures
    (first_refused (g.S.StateSets.seen c.copy_layers.new.sets) (fair_sets c.proof.inside.fair ++ entries_sets c.proof.inside.entries.items) (fair_sets c.proof.inside.fair) (entries_sets c.proof.inside.entries.items) refl (second_live (g.S.StateSets.seen c.copy_free_part.new.sets) (layer_sets c.proof.inside.nonfair.items ++ (fair_sets c.proof.inside.fair ++ entries_sets c.proof.inside.entries.items)) (layer_sets c.deref.result.now) (fair_sets c.proof.inside.fair ++ entries_sets c.proof.inside.entries.items) (ap (λ ls. layer_sets ls ++ (fair_sets c.proof.inside.fair ++ entries_sets c.proof.inside.entries.items)) (sym c.deref.ensures.value)) (second_live (g.S.StateSets.seen c.args.sets.now) (sets_of c.args.proof.now) (free_sets_of c.proof.inside.free) (layer_sets c.proof.inside.nonfair.items ++ (fair_sets c.proof.inside.fair ++ entries_sets c.proof.inside.entries.items)) (ap sets_of (sym c.proof.view_is)) c.requires c.in_ok-copy_free_part.ensures) c.in_ok-copy_layers.ensures) c.in_err-copy_fair.field-0.0 c.in_err-copy_fair.ensures)))

pub copy_entries-requires : goal.copy_entries-requires
copy_entries-requires g c = second_live (g.S.StateSets.seen c.copy_layers.new.sets) (fair_sets c.proof.inside.fair ++ entries_sets c.proof.inside.entries.items) (fair_sets c.proof.inside.fair) (entries_sets c.deref-2.result.now) (ap (λ es. fair_sets c.proof.inside.fair ++ entries_sets es) (sym c.deref-2.ensures.value)) (second_live (g.S.StateSets.seen c.copy_free_part.new.sets) (layer_sets c.proof.inside.nonfair.items ++ (fair_sets c.proof.inside.fair ++ entries_sets c.proof.inside.entries.items)) (layer_sets c.deref.result.now) (fair_sets c.proof.inside.fair ++ entries_sets c.proof.inside.entries.items) (ap (λ ls. layer_sets ls ++ (fair_sets c.proof.inside.fair ++ entries_sets c.proof.inside.entries.items)) (sym c.deref.ensures.value)) (second_live (g.S.StateSets.seen c.args.sets.now) (sets_of c.args.proof.now) (free_sets_of c.proof.inside.free) (layer_sets c.proof.inside.nonfair.items ++ (fair_sets c.proof.inside.fair ++ entries_sets c.proof.inside.entries.items)) (ap sets_of (sym c.proof.view_is)) c.requires c.in_ok-copy_free_part.ensures) c.in_ok-copy_layers.ensures) c.in_ok-copy_fair.ensures

pub returns : goal.returns
returns g c =
    both_copied (g.S.StateSets.seen c.args.sets.now) (sets_of c.args.proof.now) (free_sets_of c.proof.inside.free) (layer_sets c.proof.inside.nonfair.items ++ (fair_sets c.proof.inside.fair ++ entries_sets c.proof.inside.entries.items)) (ap sets_of (sym c.proof.view_is)) c.requires c.in_ok-copy_free_part.ensures
    (both_copied (g.S.StateSets.seen c.copy_free_part.new.sets) (layer_sets c.proof.inside.nonfair.items ++ (fair_sets c.proof.inside.fair ++ entries_sets c.proof.inside.entries.items)) (layer_sets c.deref.result.now) (fair_sets c.proof.inside.fair ++ entries_sets c.proof.inside.entries.items) (ap (λ ls. layer_sets ls ++ (fair_sets c.proof.inside.fair ++ entries_sets c.proof.inside.entries.items)) (sym c.deref.ensures.value)) (second_live (g.S.StateSets.seen c.args.sets.now) (sets_of c.args.proof.now) (free_sets_of c.proof.inside.free) (layer_sets c.proof.inside.nonfair.items ++ (fair_sets c.proof.inside.fair ++ entries_sets c.proof.inside.entries.items)) (ap sets_of (sym c.proof.view_is)) c.requires c.in_ok-copy_free_part.ensures) c.in_ok-copy_layers.ensures
    (both_copied (g.S.StateSets.seen c.copy_layers.new.sets) (fair_sets c.proof.inside.fair ++ entries_sets c.proof.inside.entries.items) (fair_sets c.proof.inside.fair) (entries_sets c.deref-2.result.now) (ap (λ es. fair_sets c.proof.inside.fair ++ entries_sets es) (sym c.deref-2.ensures.value)) (second_live (g.S.StateSets.seen c.copy_free_part.new.sets) (layer_sets c.proof.inside.nonfair.items ++ (fair_sets c.proof.inside.fair ++ entries_sets c.proof.inside.entries.items)) (layer_sets c.deref.result.now) (fair_sets c.proof.inside.fair ++ entries_sets c.proof.inside.entries.items) (ap (λ ls. layer_sets ls ++ (fair_sets c.proof.inside.fair ++ entries_sets c.proof.inside.entries.items)) (sym c.deref.ensures.value)) (second_live (g.S.StateSets.seen c.args.sets.now) (sets_of c.args.proof.now) (free_sets_of c.proof.inside.free) (layer_sets c.proof.inside.nonfair.items ++ (fair_sets c.proof.inside.fair ++ entries_sets c.proof.inside.entries.items)) (ap sets_of (sym c.proof.view_is)) c.requires c.in_ok-copy_free_part.ensures) c.in_ok-copy_layers.ensures) c.in_ok-copy_fair.ensures c.copy_entries.ensures))
