-- Order numbers.
use Rattle.std.specs.Prelude.{ℕ, ◌+◌, Bool, cond, ◌&&◌, ◌||◌, ◌==◌, nat_le, nat_lt}

-- the number was given, where next is the next one; a next of 0 says that all are used up
abbrev pub given : ℕ → ℕ → Bool
given n next = nat_le 1 n && (nat_lt n next || next == 0)

-- the number after n
abbrev pub after : ℕ → ℕ
after n = cond (n == 4294967295) 0 (n + 1)
