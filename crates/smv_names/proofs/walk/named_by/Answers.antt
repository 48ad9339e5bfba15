use Rattle.std.proofs.Common.{◌≡◌, ◌∷◌, ◌++◌, [], sym, ◌∙◌, ap, subst, ℕ, List, Option, None}
use Rattle.std.proofs.lemmas.Option.{slice_get_within}
use Rattle.smv_parser.specs.declared.expressions.PathPart.{PathPart}
use Rattle.smv_instances.specs.Program.{Path}
use Rattle.smv_instances.specs.Instances.{instances}
use Rattle.smv_names.specs.Written.{extended, followed}
use Rattle.smv_names.specs.Ready.{LeadsInto, NamesNode}
use Rattle.smv_names.proofs.NameNodes.{named_field, named_index, named_nothing}
use Rattle.smv_names.proofs.WaitLemmas.{member_at}
use Rattle.smv_names.proofs.WrittenLemmas.{followed_more}
use Rattle.smv_names.proofs.walk.named_by.Goals as goal

-- the last part apart
parted : (q : Path) (parts front : List PathPart) (last : PathPart) → parts ≡ front ++ (last ∷ []) → followed q parts ≡ extended (followed q front) last
parted q parts front last is = ap (λ (ps : List PathPart). followed q ps) is ∙ followed_more q front last []

pub returns-in_default-last : goal.returns-in_default-last
returns-in_default-last c p s line all at =
    let here : Path = Path.Here line c.args.name.now in
    subst (λ (z : Path). NamesNode p s z None) (sym (parted here c.args.parts.now c.in-Some.front.now c.in-Some.last.now c.in-Some.ensures.cases.0))
    (named_index p s (followed here c.in-Some.front.now) c.in-Some.last.now (λ name is. c.in_default-last.not-Field name is))

pub entry_node-requires-in-Some-2 : goal.entry_node-requires-in-Some-2
entry_node-requires-in-Some-2 c =
    let s = member_at (instances c.requires.0) c.args.i c.requires.2 in
    let q : Path = followed (Path.Here 0 c.args.name.now) c.in-Some.front.now in
    let into = subst (λ (o : Option ℕ). LeadsInto c.requires.0 s.0 q o) c.in-Some-2.is (c.in_ok-number.ensures c.requires.0 s.0 0 c.requires.1 s.1) in
    (c.requires.0, c.requires.1.started, slice_get_within (instances c.requires.0) c.in-Some-2.number into.0 into.1)

pub returns-in-Some-2 : goal.returns-in-Some-2
returns-in-Some-2 c p s line all at =
    let here : Path = Path.Here line c.args.name.now in
    let q : Path = followed here c.in-Some.front.now in
    let into = subst (λ (o : Option ℕ). LeadsInto p s q o) c.in-Some-2.is (c.in_ok-number.ensures p s line all at) in
    subst (λ (z : Path). NamesNode p s z c.entry_node-in-Some-2.result)
    (sym (parted here c.args.parts.now c.in-Some.front.now c.in-Some.last.now c.in-Some.ensures.cases.0 ∙ ap (λ (part : PathPart). extended q part) c.in-Field.is))
    (named_field p s q c.in-Field.field c.in-Some-2.number c.entry_node-in-Some-2.result into (c.entry_node-in-Some-2.ensures p into.0 all.started into.1))

pub returns-in-None : goal.returns-in-None
returns-in-None c p s line all at =
    let here : Path = Path.Here line c.args.name.now in
    let q : Path = followed here c.in-Some.front.now in
    let into = subst (λ (o : Option ℕ). LeadsInto p s q o) c.in-None.is (c.in_ok-number.ensures p s line all at) in
    subst (λ (z : Path). NamesNode p s z None)
    (sym (parted here c.args.parts.now c.in-Some.front.now c.in-Some.last.now c.in-Some.ensures.cases.0 ∙ ap (λ (part : PathPart). extended q part) c.in-Field.is))
    (named_nothing p s q c.in-Field.field into)
