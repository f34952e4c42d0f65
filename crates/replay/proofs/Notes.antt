-- What is noted in two parts, and what is not noted.
use Rattle.std.proofs.Common.{◌≡◌, List, [], ◌++◌, map, Vec, Ok, Err, Result, IfOk, IsOkAnd, sym, ap, ◌∙◌, append_assoc, append-nil}
use Rattle.std.specs.declared.alloc.AllocError.{AllocError}
use Rattle.std.specs.declared.alloc.Global.{Global}
use Rattle.replay.specs.Days.{Told}
use Rattle.replay.specs.Records.{told_of, HasLines, Tells, Noted}
use Rattle.replay.specs.declared.record.Line.{Line}
use Rattle.replay.specs.declared.record.Record.{Record}

-- one record's lines, and more
abbrev Longer : List Told → Result (Vec Line Global) AllocError → Result (Vec Line Global) AllocError → Type 0
Longer l x y = IfOk y (λ w. IsOkAnd x (λ v. map told_of w.items ≡ map told_of v.items ++ l))

longer_on : (l m : List Told) (x y z : Result (Vec Line Global) AllocError) → Longer l x y → Longer m y z → Longer (l ++ m) x z
longer_on l m x y (Err e) f g = tt
longer_on l m x (Err e) (Ok w) f g = absurd g
longer_on l m (Err e) (Ok v) (Ok w) f g = absurd f
longer_on l m (Ok u) (Ok v) (Ok w) f g = g ∙ ap (λ k. k ++ m) f ∙ append_assoc (map told_of u.items) l m

longer_none : (x : Result (Vec Line Global) AllocError) → Longer [] x x
longer_none (Ok v) = sym (append-nil (map told_of v.items))
longer_none (Err e) = tt

longer_all : (l : List Told) (x y : Result (Vec Line Global) AllocError) → IsOkAnd x (λ v. map told_of v.items ≡ []) → Longer l x y → IfOk y (λ v. map told_of v.items ≡ l)
longer_all l x (Err e) f g = tt
longer_all l (Err e) (Ok w) f g = absurd g
longer_all l (Ok v) (Ok w) f g = g ∙ ap (λ k. k ++ l) f

pub noted_on : (l m : List Told) (r r' r'' : Record) → Noted l r r' → Noted m r' r'' → Noted (l ++ m) r r''
noted_on l m r r' r'' f g = longer_on l m r.lines r'.lines r''.lines f g

pub noted_none : (r : Record) → Noted [] r r
noted_none r = longer_none r.lines

-- what is noted from the start is all that the record tells
pub tells_all : (l : List Told) (r r' : Record) → HasLines r [] → Noted l r r' → Tells r' l
tells_all l r r' f g = longer_all l r.lines r'.lines f g
