use Rattle.std.proofs.Common.{◌≡◌, refl, subst, sym, ◌∙◌, ap, not, Bool, true, false, cond, arith}
use Rattle.std.specs.List.{list_any}
use Rattle.std.specs.Str.{bytes_eq}
use Rattle.smv_instances.specs.Tables.{IsFront}
use Rattle.smv_instances.proofs.TableLemmas.{front_stop}
use Rattle.smv_instances.proofs.modules.distinct_names.Goals as goal

stood : (b x : Bool) → b ≡ not x → b ≡ false → x ≡ true
stood b true e h = refl
stood b false e h = cc

kept : {A : Type 0} (b : Bool) (old more new : A) → new ≡ cond b more old → b ≡ false → new ≡ old
kept true old more new e h = cc
kept false old more new e h = e

pub returns-then-not-branch : goal.returns-then-not-branch
returns-then-not-branch c =
    let item = c.entry-item.result in
    let again : list_any (bytes_eq item.name.now) c.loop-entry.names ≡ true = ap (λ q. list_any (bytes_eq q) c.loop-entry.names) (sym c.as_str.ensures) ∙ stood _ _ c.in_ok-insert.ensures.added c.if-not-branch.true in
    subst (IsFront _) (sym (kept _ _ _ _ c.in_ok-insert.ensures.names c.if-not-branch.true))
    (front_stop (λ e. e.name.now) c.args.entries.now c.loop-entry.entry-index item c.loop-entry.names (omega arith) c.loop-entry.invariant.taken c.loop-entry.invariant.fresh
    (ap (λ e. list_any (bytes_eq e.name.now) c.loop-entry.names) (sym c.entry-item.is) ∙ again))
