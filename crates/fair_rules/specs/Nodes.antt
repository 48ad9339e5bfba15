-- The nodes of a formula by their numbers.
use Rattle.std.specs.Prelude.{ℕ, ◌+◌, ◌==◌, nat_lt, Option, Some, None, if◌then◌else◌}
use Rattle.kripke_model.specs.Ctl.{Ctl}
use Rattle.kripke_model.specs.Signs.{node_count}

-- node i of a formula whose first node has number n, in preorder
abbrev pub node_at : Ctl → ℕ → ℕ → Option Ctl
node_at (Ctl.Leaf e) n i = if i == n then Some (Ctl.Leaf e) else None
node_at (Ctl.Not f) n i = if i == n then Some (Ctl.Not f) else node_at f (n + 1) i
node_at (Ctl.And f g) n i
    = if i == n then Some (Ctl.And f g)
    else if nat_lt i (n + 1 + node_count f) then node_at f (n + 1) i
    else node_at g (n + 1 + node_count f) i
node_at (Ctl.Or f g) n i
    = if i == n then Some (Ctl.Or f g)
    else if nat_lt i (n + 1 + node_count f) then node_at f (n + 1) i
    else node_at g (n + 1 + node_count f) i
node_at (Ctl.Implies f g) n i
    = if i == n then Some (Ctl.Implies f g)
    else if nat_lt i (n + 1 + node_count f) then node_at f (n + 1) i
    else node_at g (n + 1 + node_count f) i
node_at (Ctl.Iff f g) n i
    = if i == n then Some (Ctl.Iff f g)
    else if nat_lt i (n + 1 + node_count f) then node_at f (n + 1) i
    else node_at g (n + 1 + node_count f) i
node_at (Ctl.Quant op f) n i = if i == n then Some (Ctl.Quant op f) else node_at f (n + 1) i
node_at (Ctl.Until all f g) n i
    = if i == n then Some (Ctl.Until all f g)
    else if nat_lt i (n + 1 + node_count f) then node_at f (n + 1) i
    else node_at g (n + 1 + node_count f) i
