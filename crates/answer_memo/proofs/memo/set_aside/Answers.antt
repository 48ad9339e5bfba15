use Rattle.std.proofs.Common.{◌∙◌, ap}
use Rattle.lru.specs.LruCache.{lru_cache}
use Rattle.answer_memo.proofs.Slots.{put-new}
use Rattle.answer_memo.proofs.memo.set_aside.Goals as goal

pub returns-clause-ok : goal.returns-clause-ok
returns-clause-ok g c =
    let rest = c.args.rest.now in
    c.in_ok-put.ensures.entries ∙ ap (λ es. lru_cache es rest.cap) (put-new g.K.PartialEq.eq rest c.args.key c.args.value c.requires.apart c.requires.room)
