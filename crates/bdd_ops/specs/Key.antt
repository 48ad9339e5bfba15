-- The number by which a key is hashed.
use Rattle.std.specs.Prelude.{ℕ, ◌+◌, ◌*◌, ◌^◌, true, false}
use Rattle.bdd_ops.specs.declared.key.Key.{Key}
use Rattle.bdd_ops.specs.declared.key.Key.TheVariants.{Not, And, Or, Iff, Ite, Exists, AndExists, Rename}

-- four numbers below 2 ^ 32 in one
abbrev pub packed : ℕ → ℕ → ℕ → ℕ → ℕ
packed a b c d = a + b * 2 ^ 32 + c * 2 ^ 64 + d * 2 ^ 96

-- the operation's number and its operands
abbrev pub key_number : Key → ℕ
key_number (Not f) = packed 0 f 0 0
key_number (And f g) = packed 1 f g 0
key_number (Or f g) = packed 2 f g 0
key_number (Iff f g) = packed 3 f g 0
key_number (Ite f g h) = packed 4 f g h
key_number (Exists f list) = packed 5 f list 0
key_number (AndExists f g list) = packed 6 f g list
key_number (Rename f false) = packed 7 f 0 0
key_number (Rename f true) = packed 7 f 1 0
