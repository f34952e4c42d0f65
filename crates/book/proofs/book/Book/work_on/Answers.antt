use Rattle.std.proofs.Common.{◌≡◌, ℕ, true, length, ◌<◌, Some, None, sym, ap, ◌∙◌, subst, arith, length-set}
use Rattle.soundness.proofs.Hands.{fits_after}
use Rattle.market.specs.States.{quotes_of, fits}
use Rattle.market.specs.Steps.{Run, run}
use Rattle.book.specs.Outcomes.{book_state, hand_book}
use Rattle.book.specs.declared.passes.InHand.{InHand}
use Rattle.book.specs.Works.{Ran}
use Rattle.book.proofs.Runs.{along_on, ran_done, ran_full}
use Rattle.book.proofs.book.Book.work_on.Goals as goal

pub returns-in-Done : goal.returns-in-Done
returns-in-Done g c =
    let l = c.loop-n in
    let d = c.act-left.ensures.did in
    let h : l.n < length l.reports = omega arith in
    let a = along_on c.args.reports.now _ l.reports l.n l.hand.order l.self c.act-left.new.self _ _ c.act-left.result None (sym c.in-Done.ensures.left) h l.auto.reports l.invariant.4 d in
    let k = c.in_ok-hand.ensures in
    let t : InHand → Run = λ p. run (length c.args.reports.now) (Some p.order) (book_state c.args.self.now) (quotes_of (g.B.Board.bids c.args.board.now) (g.B.Board.offers c.args.board.now)) in
    (k.0, d.0 ∙ l.invariant.2, c.in-Done.ensures.book ∙ l.invariant.3 ∙ ap hand_book k.1, ran_done c.args.reports.now _ _ _ _ _ (simp length-set (omega arith)) (a.0, a.1 ∙ ap t k.1))

pub loop-n-preserved : goal.loop-n-preserved
loop-n-preserved g c =
    let l = c.loop-n in
    let d = c.act-left.ensures.did in
    let o = c.in-More.more.order in
    let q = quotes_of (g.B.Board.bids l.board) (g.B.Board.offers l.board) in
    let e = c.in-More.ensures.left ∙ d.2 in
    let P : _ → Type 0 = λ s. fits o.number s ≡ true in
    let f = subst P (sym d.3) (fits_after (book_state l.self) q l.hand.order o l.invariant.0 e) in
    let h : l.n < length l.reports = omega arith in
    let a = along_on c.args.reports.now _ l.reports l.n l.hand.order l.self c.act-left.new.self _ _ c.act-left.result (Some o) (sym c.in-More.ensures.left) h l.auto.reports l.invariant.4 d in
    (f, simp length-set (omega arith), d.0 ∙ l.invariant.2, c.in-More.ensures.book ∙ l.invariant.3, a)

pub returns : goal.returns
returns g c =
    let l = c.loop-n in
    let k = c.in_ok-hand.ensures in
    let t : InHand → Run = λ p. run (length c.args.reports.now) (Some p.order) (book_state c.args.self.now) (quotes_of (g.B.Board.bids c.args.board.now) (g.B.Board.offers c.args.board.now)) in
    let e : l.n ≡ length l.reports = omega arith in
    let P : ℕ → Type 0 = λ n. Ran (t c.args.pass) (book_state l.self) (quotes_of (g.B.Board.bids l.board) (g.B.Board.offers l.board)) c.args.reports.now l.reports n (Some l.hand.order) in
    (k.0, l.invariant.2, l.invariant.3 ∙ ap hand_book k.1, subst P e (ran_full c.args.reports.now _ _ _ _ _ _ l.invariant.1 (omega arith) (l.invariant.4.0, l.invariant.4.1 ∙ ap t k.1)))
