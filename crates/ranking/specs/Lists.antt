-- What a clause reads of a ranked list.
use Rattle.std.specs.Prelude.{ℕ, List, vec_items, vec_capacity}
use Rattle.std.specs.Ptr.{Ptr}
use Rattle.std.specs.Vec.{vec_ptr, with_item}
use Rattle.ranking.specs.declared.limit.Limit.{Ghosts}
use Rattle.ranking.specs.declared.limit.AtMost.{AtMost}
use Rattle.ranking.specs.declared.list.RankedList.{RankedList}

-- a list whose type says how many lines it may hold
abbrev pub Bounded : ℕ → Type 0 → Type 0
Bounded most X = RankedList X (AtMost most) (record { most = λ _. most })

abbrev pub lines_of : {X L : Type 0} {g : Ghosts L} → RankedList X L g → List X
lines_of l = vec_items l.lines

-- how many lines there is room for
abbrev pub most_of : {X L : Type 0} {g : Ghosts L} → RankedList X L g → ℕ
most_of {g = g} l = g.most l.limit

-- where the lines are kept, and for how many there is memory: what an allocation would change
abbrev pub store_of : {X L : Type 0} {g : Ghosts L} → RankedList X L g → Ptr × ℕ
store_of l = (vec_ptr l.lines, vec_capacity l.lines)

-- l, with w as its line at i
abbrev pub with_line : {X L : Type 0} {g : Ghosts L} → RankedList X L g → ℕ → X → RankedList X L g
with_line l i w = record { lines = with_item l.lines i w; limit = l.limit; within = l.within; room = l.room }
