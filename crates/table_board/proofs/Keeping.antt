-- A quote and a take leave lists that a board may show.
use Rattle.std.proofs.Common.{◌≡◌, ℕ, ◌<◌, Bool, true, false, ◌||◌, eqb, leb, List, length, Some, None, Ok, Err, Option, Result, sym, refl, subst, arith}
use Rattle.std.proofs.lemmas.Bool.{cond_both}
use Rattle.std.proofs.lemmas.Bool.Decides.{nat_tests}
use Rattle.ranking.specs.Place.{place}
use Rattle.ranking.specs.Lists.{Bounded, lines_of}
use Rattle.market.specs.declared.types.Side.{Side}
use Rattle.market.specs.declared.types.Side.TheVariants.{Buy, Sell}
use Rattle.market.specs.declared.types.Quotation.{Quotation}
use Rattle.market.specs.declared.types.Refusal.{Refusal}
use Rattle.market.specs.declared.types.Refusal.TheVariants.{Size, Price, Venue}
use Rattle.market.specs.Legal.{legal_price, legal_venue}
use Rattle.market.specs.Sides.{pick, quotation_before}
use Rattle.market.specs.States.{quotes_of, quoted}
use Rattle.market.specs.Quotes.{quotation_legal, without, requoted, Showable, Shown}
use Rattle.market.specs.Calls.{unless, or_else, verdict}
use Rattle.board.proofs.Lessening.{showable_lessened}
use Rattle.board.proofs.Dropping.{lacking_without, showable_without}
use Rattle.board.proofs.Placing.{showable_place}
use Rattle.board.proofs.Pigeonhole.{room_for_one}
use Rattle.table_board.specs.Quoting.{lists_of, quotation_refusal, TakenFrom}
use Rattle.table_board.specs.declared.table.TableBoard.{TableBoard}

-- the list of a side, and the lists with another in its place
pub list_of : (d : Side) (b : TableBoard) → lines_of (pick d b.lists.buy b.lists.sell) ≡ quoted d (lists_of b)
list_of Buy b = refl
list_of Sell b = refl

pub showable_side : (d : Side) (b : TableBoard) → Showable d (quoted d (lists_of b))
showable_side Buy b = b.shown.0
showable_side Sell b = b.shown.1

-- a list changed, so that both may still be shown
pub shown_with : (d : Side) (b : TableBoard) (l : Bounded 64 Quotation) (xs : List Quotation) → lines_of l ≡ xs → Showable d xs → Shown (quotes_of (lines_of (pick d l b.lists.buy)) (lines_of (pick d b.lists.sell l)))
shown_with Buy b l xs e h = (subst (Showable Buy) (sym e) h, b.shown.1)
shown_with Sell b l xs e h = (b.shown.0, subst (Showable Sell) (sym e) h)

pub showable_taken : {U : Type 0} (d : Side) (b : TableBoard) (ys : List Quotation) (v n : ℕ) (r : Result U Refusal) → TakenFrom v n (quoted d (lists_of b)) ys r → Showable d ys
showable_taken d b ys v n (Ok u) t = subst (Showable d) (sym t.2) (showable_lessened v n d (quoted d (lists_of b)) t.1 (showable_side d b))
showable_taken d b ys v n (Err e) t = subst (Showable d) (sym t.2) (showable_side d b)

-- a check that refuses nothing
passed : (t : Bool) (why : Refusal) (o : Option Refusal) → or_else (unless t why) o ≡ None → (t ≡ true) × (o ≡ None)
passed true why o e = (refl, e)
passed false why o e = grind arith

last_passed : (t : Bool) (why : Refusal) → unless t why ≡ None → t ≡ true
last_passed true why e = refl
last_passed false why e = grind arith

-- a check that accepts has no refusal
pub accepted : {u : Unit {0}} (o : Option Refusal) → Ok u ≡ verdict o → o ≡ None
accepted None e = refl
accepted (Some why) e = cc

module _ (q : Quotation) (none : quotation_refusal q ≡ None) where
  small : leb q.size 999999 ≡ true
  small = (passed (leb q.size 999999) Size _ none).0

  priced : (eqb q.size 0 || legal_price q.price) ≡ true
  priced = (passed (eqb q.size 0 || legal_price q.price) Price _ (passed (leb q.size 999999) Size _ none).1).0

  known : legal_venue q.venue ≡ true
  known = last_passed (legal_venue q.venue) Venue (passed (eqb q.size 0 || legal_price q.price) Price _ (passed (leb q.size 999999) Size _ none).1).1

  legal_line : eqb q.size 0 ≡ false → quotation_legal q ≡ true
  legal_line some =
      let a = small in
      let b = priced in
      let c = known in
      grind (arith, nat_tests)

  -- the venue's line before is gone, so there is room for its next
  pub room : (d : Side) (b : TableBoard) → length (without q.venue (quoted d (lists_of b))) < 64
  room d b =
      let k = showable_side d b in
      let s = showable_without q.venue d (quoted d (lists_of b)) k in
      let h = room_for_one q.venue (without q.venue (quoted d (lists_of b))) known s.legal s.venues (lacking_without q.venue (quoted d (lists_of b)) k.venues) in
      omega (arith, h)

  pub showable_requoted : (d : Side) (b : TableBoard) → Showable d (requoted d q (quoted d (lists_of b)))
  showable_requoted d b =
      let k = showable_side d b in
      let xs = without q.venue (quoted d (lists_of b)) in
      let s = showable_without q.venue d (quoted d (lists_of b)) k in
      cond_both (eqb q.size 0) xs (place (quotation_before d) q xs) (Showable d) (λ _. s) (λ some. showable_place d q xs (legal_line some) (lacking_without q.venue (quoted d (lists_of b)) k.venues) s)
