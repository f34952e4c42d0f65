-- A list is its lines and its limit, whatever shows that these fit.
use Rattle.std.proofs.Common.{◌≡◌, ◌≤◌, vec_len, vec_capacity, Vec, ap, ◌∙◌}
use native.Mathlib.Bridge.{le_prop}
use Rattle.std.specs.declared.alloc.Global.{Global}
use Rattle.ranking.specs.declared.limit.Limit.{Ghosts}
use Rattle.ranking.specs.declared.list.RankedList.{RankedList}

pub same_list : {X L : Type 0} (g : Ghosts L) (v : Vec X Global) (m : L) (p p' : vec_len v ≤ g.most m) (q q' : g.most m ≤ vec_capacity v) → ◌≡◌ {A = RankedList X L g} (record { lines = v; limit = m; within = p; room = q }) (record { lines = v; limit = m; within = p'; room = q' })
same_list {X} {L} g v m p p' q q' =
    let F : vec_len v ≤ g.most m → RankedList X L g = λ h. record { lines = v; limit = m; within = h; room = q } in
    let G : g.most m ≤ vec_capacity v → RankedList X L g = λ h. record { lines = v; limit = m; within = p'; room = h } in
    ap F (le_prop p p') ∙ ap G (le_prop q q')
