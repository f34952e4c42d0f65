-- The laws of the book, as they hold for one session: of its own turns, and so of the reports in its own record.
use Rattle.std.specs.Prelude.{◌≡◌, ℕ, ◌+◌, ◌*◌, List, [], ◌∷◌, ◌++◌, Some, None, Option, filter_map}
use Rattle.std.specs.List.{flat_map}
use Rattle.market.specs.declared.types.Report.{Report}
use Rattle.market.specs.declared.types.What.{What}
use Rattle.market.specs.declared.types.What.TheVariants.{In, Trade, Sent, Rest, Off, Back}
use Rattle.market.specs.Sides.{across_of}
use Rattle.market.specs.States.{State, new_state}
use Rattle.market.specs.Calls.{Pass, ready, Says, reports, refused}
use Rattle.laws.specs.Strings.{Turn, does, state_after, pass_after, said, Reported}
use Rattle.laws.specs.Conserve.{resting, sent_out, shares_in_hand, trade_shares, back_shares, off_shares, sum_of}
use Rattle.laws.specs.Priority.{Stays, latecomers, InList}
use Rattle.replay.specs.Days.{Told, report, refusal}

-- the report that a line tells, if any
abbrev pub report_told : Told → Option Report
report_told (report r) = Some r
report_told (refusal n) = None

-- the reports of a record, in order; its refusals are left out
abbrev pub reports_told : List Told → List Report
reports_told = filter_map report_told

-- the reports of what calls say, in order
abbrev pub reports_of : Says → List Report
reports_of (reports rs) = rs
reports_of (refused n) = []

abbrev pub reports_said : List Says → List Report
reports_said = flat_map reports_of

-- the book and the pass after calls on the session's new book, and the reports that they give
abbrev pub book_after : List Turn → State
book_after ts = state_after ts (new_state 1) ready

abbrev pub pass_then : List Turn → Pass
pass_then ts = pass_after ts (new_state 1) ready

abbrev pub reports_by : List Turn → List Report
reports_by ts = reports_said (said ts (new_state 1) ready)

-- the shares of an in report
abbrev pub in_shares : What → ℕ → ℕ
in_shares In n = n
in_shares (Trade m) n = 0
in_shares (Sent v) n = 0
in_shares (Rest held) n = 0
in_shares (Off why) n = 0
in_shares (Back unfilled v) n = 0

-- every share that came in is accounted for: it traded (each trade takes as many of two orders), was filled away, was taken off,
-- rests in the book, is sent out, or is in hand
abbrev pub Accounted : List Report → State → Pass → Type 0
Accounted rs s p =
    sum_of in_shares rs
    ≡ 2 * sum_of trade_shares rs + sum_of back_shares rs + sum_of off_shares rs
    + (resting s.buys + resting s.sells) + sent_out s.routes + shares_in_hand p

-- NO SHARE IS LOST: by the record at the end of the session, and by the reports so far after each of its calls
pub record Conserves (turns : List Turn) (told : List Told) (book : State) (pass : Pass) : Type 0 where
  pub at_the_end : Accounted (reports_told told) book pass
  pub after_each_call : (ts us : List Turn) → turns ≡ ts ++ us → Accounted (reports_by ts) (book_after ts) (pass_then ts)

-- TIME PRIORITY: the session's calls are ts₀, t, ts, u and us; t reports that an order comes to rest (r) with nothing held back; by ts
-- it is not gone; u reports a trade (x) with the resting order m, at r's side and price. The order m is none that came to rest or was
-- refreshed during ts.
abbrev pub KeepsPriority : List Turn → Type 0
KeepsPriority turns =
    (ts₀ : List Turn) (t : Turn) (ts : List Turn) (u : Turn) (us : List Turn) → turns ≡ ts₀ ++ t ∷ (ts ++ u ∷ us) → (r x : Report) (m : ℕ) →
    let s₀ : State = book_after ts₀ in
    let p₀ : Pass = pass_then ts₀ in
    let s₁ : State = (does t s₀ p₀).state in
    let p₁ : Pass = (does t s₀ p₀).pass in
    let s₂ : State = state_after ts s₁ p₁ in
    let p₂ : Pass = pass_after ts s₁ p₁ in
    Reported r (does t s₀ p₀).says → r.what ≡ Rest 0 →
    Stays r.side r.number r.shares ts s₁ p₁ →
    Reported x (does u s₂ p₂).says → x.what ≡ Trade m → across_of x.side ≡ r.side → x.price ≡ r.price →
    InList m (latecomers r.side [] ts s₁ p₁) → ⊥

-- a session keeps the laws
pub record Lawful (turns : List Turn) (told : List Told) (book : State) (pass : Pass) : Type 0 where
  -- the reports in the record are those that the calls gave, in order: none is missing, none is added
  pub told_said : reports_told told ≡ reports_by turns
  -- the book and the pass at the end are those that the calls left
  pub book_left : book_after turns ≡ book
  pub pass_left : pass_then turns ≡ pass
  pub conserves : Conserves turns told book pass
  pub priority : KeepsPriority turns
