-- What a line of the sheet keeps of its order: the laws of next show and refresh that the other proofs go by.
use Rattle.std.proofs.Common.{◌≡◌, ℕ, ◌-◌, ◌≤◌, min, true, sym, ap, arith}
use Rattle.std.proofs.lemmas.Bool.Decides.{nat_tests}
use Rattle.market.specs.declared.types.Resting.{Resting}
use Rattle.market.specs.declared.types.Route.{Route}
use Rattle.market.specs.declared.types.Quotation.{Quotation}
use Rattle.market.specs.declared.types.Order.{Order}
use Rattle.market.specs.Orders.{sharing, with_show, display, less, due, refresh, next_show, trimmed, with_shares, with_order_show, rested, routed, with_route_show, returned}
use Rattle.market.specs.Reports.{rest_report}
use Rattle.market.specs.Sound.{resting_fair}
use Rattle.market.specs.Sheets.{line, route_line, hand_line}

-- a next show is worked out again from a show cut to it, while held shares only lessen
next_again : (a b : ℕ) (p : Resting) → b ≤ p.held → next_show (sharing a b p) ≡ next_show (sharing a b (line p))
next_again a b p l = grind (arith, nat_tests)

pub sharing_line : (a b : ℕ) (p : Resting) → b ≤ p.held → line (sharing a b p) ≡ line (sharing a b (line p))
sharing_line a b p l = ap (λ (n : ℕ). with_show n (sharing a b p)) (next_again a b p l)

pub line_line : (p : Resting) → line (line p) ≡ line p
line_line p = sym (sharing_line p.shown p.held p (omega arith))

pub less_line : (k : ℕ) (p : Resting) → line (less k p) ≡ line (less k (line p))
less_line k p = sharing_line (p.shown - k) p.held p (omega arith)

pub trimmed_line : (k : ℕ) (p : Resting) → line (trimmed k p) ≡ line (trimmed k (line p))
trimmed_line k p = sharing_line (p.shown - (k - p.held)) (p.held - k) p (omega arith)

pub refresh_line : (p : Resting) → due p ≡ true → line (refresh p) ≡ line (refresh (line p))
refresh_line p u =
    let a : (refresh p).shown ≡ (refresh (line p)).shown = grind (arith, nat_tests) in
    let b : (refresh p).held ≡ (refresh (line p)).held = grind (arith, nat_tests) in
    let c : next_show (refresh p) ≡ next_show (refresh (line p)) = grind (arith, nat_tests) in
    λ i. with_show (c i) (sharing (a i) (b i) p)

-- the shares that a trade takes of an order's display so that it is renewed, and what it displays then
abbrev pub drain : Resting → ℕ
drain p = p.shown

pub drain_same : (p p' : Resting) → p.shown ≡ p'.shown → drain p ≡ drain p'
drain_same p p' e = grind (arith, nat_tests)

module _ (next : ℕ) (p : Resting) (fair : resting_fair next p ≡ true) (some : 1 ≤ p.held) where
  pub drain_some : 1 ≤ drain p
  drain_some = grind (arith, nat_tests)

  pub drain_most : drain p ≤ p.shown
  drain_most = grind (arith, nat_tests)

  pub drain_due : due (less (drain p) p) ≡ true
  drain_due = grind (arith, nat_tests)

  pub drain_shows : (refresh (less (drain p) p)).shown ≡ next_show p
  drain_shows = grind (arith, nat_tests)

  pub next_most : next_show p ≤ 999999
  next_most = grind (arith, nat_tests)

-- nothing held, nothing to show next
pub next_none : (p : Resting) → p.held ≡ 0 → next_show p ≡ 0
next_none p e = grind (arith, nat_tests)

-- orders in hand and routes
pub hand_line_line : (o : Order) → hand_line (hand_line o) ≡ hand_line o
hand_line_line o = ap (λ (n : ℕ). with_order_show n o) (omega arith)

pub route_line_line : (r : Route) → route_line (route_line r) ≡ route_line r
route_line_line r = ap (λ (n : ℕ). with_route_show n r) (omega arith)

pub left_line : (k : ℕ) (o : Order) → hand_line (with_shares (o.shares - k) o) ≡ hand_line (with_shares (o.shares - k) (hand_line o))
left_line k o = ap (λ (n : ℕ). with_order_show n (with_shares (o.shares - k) o)) (omega arith)

pub routed_line : (o : Order) (q : Quotation) (n k : ℕ) → k ≤ o.shares → route_line (routed o q n k) ≡ route_line (routed (hand_line o) q n k)
routed_line o q n k l = ap (λ (m : ℕ). with_route_show m (routed o q n k)) (omega arith)

pub returned_line : (k : ℕ) (r : Route) → hand_line (returned k r) ≡ hand_line (returned k (route_line r))
returned_line k r = ap (λ (n : ℕ). with_order_show n (returned k r)) (omega arith)

display_hand : (o : Order) → display (hand_line o).show o.shares ≡ display o.show o.shares
display_hand o = omega arith

pub rested_line : (o : Order) → line (rested o) ≡ line (rested (hand_line o))
rested_line o =
    let a : (rested o).shown ≡ (rested (hand_line o)).shown = omega arith in
    let b : (rested o).held ≡ (rested (hand_line o)).held = omega arith in
    let c : next_show (rested o) ≡ next_show (rested (hand_line o)) = grind (arith, nat_tests) in
    λ i. with_show (c i) (sharing (a i) (b i) (rested o))

pub rest_report_line : (o : Order) → rest_report o ≡ rest_report (hand_line o)
rest_report_line o = rw (display_hand o)

-- a line is known by its fields
pub same_line : (p p' : Resting) → p.number ≡ p'.number → p.user ≡ p'.user → p.price ≡ p'.price → p.shown ≡ p'.shown → p.held ≡ p'.held → next_show p ≡ next_show p' → line p ≡ line p'
same_line p p' a b c d e f = cc

pub same_route_line : (r r' : Route) → r.number ≡ r'.number → r.user ≡ r'.user → r.side ≡ r'.side → r.limit ≡ r'.limit → min r.show r.out ≡ min r'.show r'.out → r.price ≡ r'.price → r.venue ≡ r'.venue → r.out ≡ r'.out → route_line r ≡ route_line r'
same_route_line r r' a b c d e f g h = cc
