-- What work on an engine keeps.
use Rattle.std.proofs.Common.{◌≡◌, ◌≤◌, ◌∙◌, refl, sym, ap, subst, arith}
use Rattle.bdd_nodes.specs.Store.{Grows}
use Rattle.bdd_nodes.proofs.Tables.{Grows-same, Grows-then}
use Rattle.bdd_ops.specs.declared.engine.Engine.{Engine}
use Rattle.bdd_ops.specs.Engine.{store_of, cache_of, capacity_of, lists_of, refused_of}
use Rattle.bdd_ops.specs.Kept.{KeepsEngine}

pub KeepsEngine-same : (e : Engine) → KeepsEngine e e
KeepsEngine-same e = record { grows = Grows-same (store_of e); refused = omega arith; lists = refl; capacity = refl }

-- an engine with a store that has grown, and with the lists and the cache that it had
pub KeepsEngine-made : (a b : Engine) → Grows (store_of a) (store_of b) → lists_of b ≡ lists_of a → cache_of b ≡ cache_of a → refused_of b ≡ refused_of a → KeepsEngine a b
KeepsEngine-made a b grows lists cache refused = record {
  grows = grows;
  refused = omega (arith, refused);
  lists = lists;
  capacity = ap (λ m. m.cap) cache;
}

-- an engine with the store and the lists that it had
pub KeepsEngine-store : (a b : Engine) → store_of b ≡ store_of a → lists_of b ≡ lists_of a → capacity_of b ≡ capacity_of a → refused_of a ≤ refused_of b → KeepsEngine a b
KeepsEngine-store a b store lists capacity refused = record {
  grows = subst (Grows (store_of a)) (sym store) (Grows-same (store_of a));
  refused = refused;
  lists = lists;
  capacity = capacity;
}

pub KeepsEngine-then : (a b c : Engine) → KeepsEngine a b → KeepsEngine b c → KeepsEngine a c
KeepsEngine-then a b c f g = record {
  grows = Grows-then (store_of a) (store_of b) (store_of c) f.grows g.grows;
  refused = omega (arith, f.refused, g.refused);
  lists = g.lists ∙ f.lists;
  capacity = g.capacity ∙ f.capacity;
}
