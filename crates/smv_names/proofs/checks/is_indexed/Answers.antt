use Rattle.std.proofs.Common.{◌≡◌, ◌≤◌, sym, subst, arith, length, take, true, Some}
use Rattle.smv_instances.specs.Instances.{instances}
use Rattle.smv_names.specs.Written.{plain_path}
use Rattle.smv_names.specs.Targets.{IsTarget, Resolves}
use Rattle.smv_names.specs.Known.{AreIndexedBy, brackets_of, index_count}
use Rattle.smv_names.proofs.Once.{denotes_one}
use Rattle.smv_names.proofs.NumberLemmas.{if_ok_by}
use Rattle.smv_names.proofs.WaitLemmas.{member_at}
use Rattle.smv_names.proofs.CheckLemmas.{indexes_within, path_indexed}
use Rattle.smv_names.proofs.checks.is_indexed.Goals as goal

pub returns-then-count-eq0 : goal.returns-then-count-eq0
returns-then-count-eq0 c = λ p s t targets at numbers denotes.
    let q = plain_path c.args.path.now in
    let none : index_count q ≡ 0 = omega (arith, c.written_indexes-count.ensures, c.if-count-eq0.true) in
    path_indexed p s q t true denotes (subst (λ n. AreIndexedBy p (take n (brackets_of t)) true) (sym none) tt)

pub target_is_indexed-requires : goal.target_is_indexed-requires
target_is_indexed-requires c =
    let p = c.requires.0 in
    let q = plain_path c.args.path.now in
    let s = member_at (instances p) c.args.i c.requires.2 in
    let found : Resolves p s.0 q (Some c.in-Some.target) = subst (λ z. Resolves p s.0 q z) c.in-Some.is (c.in_ok-target.ensures p s.0 c.requires.1 s.1) in
    let most : index_count q ≤ length (brackets_of found.0) = indexes_within found.2 in
    (p, found.0, c.requires.1, c.requires.3, found.1, omega (arith, most, c.written_indexes-count.ensures))

pub returns-in-Some : goal.returns-in-Some
returns-in-Some c = λ p s t targets at numbers denotes.
    let q = plain_path c.args.path.now in
    let found : Resolves p s q (Some c.in-Some.target) = subst (λ z. Resolves p s q z) c.in-Some.is (c.in_ok-target.ensures p s targets at) in
    let is : IsTarget p c.in-Some.target t = subst (λ z. IsTarget p c.in-Some.target z) (denotes_one found.2 denotes) found.1 in
    if_ok_by c.target_is_indexed.result (λ b h. path_indexed p s q t b denotes (subst (λ n. AreIndexedBy p (take n (brackets_of t)) b) c.written_indexes-count.ensures h)) (c.target_is_indexed.ensures p t targets numbers is)
