-- What is legal.
use Rattle.std.specs.Prelude.{ℕ, ◌%◌, Bool, true, false, not, ◌&&◌, ◌||◌, ◌==◌, nat_le, nat_lt}
use Rattle.market.specs.declared.types.Kind.{Kind}
use Rattle.market.specs.declared.types.Kind.TheVariants.{Limit, BookOnly, Immediate, Sweep}

-- 1 to 2,000,000,000, and from 10,000 (a dollar) on whole cents
abbrev pub legal_price : ℕ → Bool
legal_price p = nat_le 1 p && (nat_le p 2000000000 && (nat_lt p 10000 || p % 100 == 0))

abbrev pub legal_size : ℕ → Bool
legal_size n = nat_le 1 n && nat_le n 999999

abbrev pub legal_user : ℕ → Bool
legal_user u = nat_le 1 u && nat_le u 9999

abbrev pub legal_venue : ℕ → Bool
legal_venue v = nat_le 1 v && nat_le v 64

-- the kinds: which one goes out to away quotations
abbrev pub goes_out : Kind → Bool
goes_out Limit = true
goes_out BookOnly = false
goes_out Immediate = false
goes_out Sweep = false

-- which one may trade past a better away quotation
abbrev pub trades_past : Kind → Bool
trades_past Limit = false
trades_past BookOnly = false
trades_past Immediate = false
trades_past Sweep = true

-- which ones never rest
abbrev pub never_rests : Kind → Bool
never_rests Limit = false
never_rests BookOnly = false
never_rests Immediate = true
never_rests Sweep = true

-- which one is taken off where it would lock or cross
abbrev pub never_locks : Kind → Bool
never_locks Limit = false
never_locks BookOnly = true
never_locks Immediate = false
never_locks Sweep = false

-- all is displayed; or at least 100 and no more than the size, of an order that may rest
abbrev pub legal_show : ℕ → ℕ → Kind → Bool
legal_show size show kind = show == size || (not (never_rests kind) && (nat_le 100 show && nat_le show size))
