-- What shares an order has when it is lessened, refreshed, cut or comes to rest.
use Rattle.std.proofs.Common.{◌≡◌, ℕ, ◌+◌, ◌-◌, ◌≤◌, arith}
use Rattle.market.specs.declared.types.Resting.{Resting}
use Rattle.market.specs.declared.types.Order.{Order}
use Rattle.market.specs.Orders.{total, less, refresh, trimmed, rested}

-- a refresh
pub refresh_total : (p : Resting) → total (refresh p) ≡ total p
refresh_total p = omega arith

-- displayed shares lessened
pub less_total : (k : ℕ) (p : Resting) → k ≤ p.shown → total (less k p) + k ≡ total p
less_total k p l = omega arith

-- a cut
pub trimmed_total : (k : ℕ) (p : Resting) → k ≤ total p → total (trimmed k p) + k ≡ total p
trimmed_total k p l = let l' : k ≤ p.shown + p.held = l in omega arith

pub trimmed_bare : (k : ℕ) (p : Resting) → p.held ≡ 0 → ((trimmed k p).held ≡ 0) × ((trimmed k p).shown ≡ p.shown - k)
trimmed_bare k p z = (omega arith, omega arith)

-- an order come to rest
pub rested_total : (o : Order) → total (rested o) ≡ o.shares
rested_total o = omega arith
