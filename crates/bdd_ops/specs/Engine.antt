-- What contracts see of an engine.
use Rattle.std.specs.Prelude.{ℕ, List}
use Rattle.answer_memo.specs.Memo.{Memo, entries_in}
use Rattle.bdd_nodes.specs.declared.store.Store.{Store}
use Rattle.bdd_ops.specs.declared.key.Key.{Key}
use Rattle.bdd_ops.specs.declared.engine.Engine.{Engine}
use Rattle.bdd_ops.specs.Answer.{lists_in}

-- the store
abbrev pub store_of : Engine → Store
store_of e = e.store

-- the cache of answers, all its entries, those that the last operation put, and how many it may have
abbrev pub cache_of : Engine → Memo Key ℕ
cache_of e = e.memo

abbrev pub entries_of : Engine → List (Key × ℕ)
entries_of e = entries_in (cache_of e)

abbrev pub fresh_of : Engine → List (Key × ℕ)
fresh_of e = (cache_of e).fresh

abbrev pub capacity_of : Engine → ℕ
capacity_of e = (cache_of e).cap

-- the lists of levels that keys name by their places
abbrev pub lists_of : Engine → List (List ℕ)
lists_of e = lists_in e.lists

-- how many entries and lists found no memory
abbrev pub refused_of : Engine → ℕ
refused_of e = e.refused
