-- A call of the book with its own pass, made at a desk: what it says is noted, and the order that it takes in hand is worked to its end.
use Rattle.std.proofs.Common.{◌≡◌, [], ◌∷◌, ◌++◌, Ok, Err, Result, sym, refl, ap, ◌∙◌, subst}
use Rattle.std.proofs.lemmas.Bool.{eq-eqb}
use Rattle.market.specs.declared.types.Call.{Call}
use Rattle.market.specs.declared.types.Report.{Report}
use Rattle.market.specs.declared.types.Refusal.{Refusal}
use Rattle.market.specs.Calls.{in_hand, Says, reports, refused, Outcome, answer, refuse, unless, checked, call}
use Rattle.market.specs.Reports.{refusal_number}
use Rattle.soundness.specs.Kept.{Bearable}
use Rattle.soundness.proofs.Kept.{sound_kept_lem}
use Rattle.table_board.specs.Quoting.{lists_of}
use Rattle.table_board.specs.declared.table.TableBoard.{TableBoard}
use Rattle.book.specs.declared.book.Book.{Book}
use Rattle.book.specs.declared.passes.Ready.{Ready}
use Rattle.book.specs.declared.passes.InHand.{InHand}
use Rattle.book.specs.declared.passes.Refused.{Refused}
use Rattle.book.specs.declared.passes.Next.{Next}
use Rattle.book.specs.Outcomes.{Seen, book_state, id_of, own_call, order_of, reported_as, refused_as, next_pass, next_book}
use Rattle.replay.specs.Days.{report, refusal, tell, turn, Finishes, idle, over, Performs, performs}
use Rattle.replay.specs.Records.{told_in, Noted}
use Rattle.replay.specs.Desks.{Held, held_between, held_working, MayWork, stage_pass, stage_book, Follows}
use Rattle.market.specs.declared.types.Refusal.TheVariants.{WrongPass, NoPass}
use Rattle.replay.specs.declared.record.Record.{Record}
use Rattle.replay.specs.declared.desk.Desk.{Desk}
use Rattle.replay.specs.declared.desk.Stage.{Stage}
use Rattle.replay.specs.declared.desk.Stage.TheVariants.{Open, Over}
use Rattle.replay.proofs.Boards.{table_shown}
use Rattle.replay.proofs.Notes.{noted_on, noted_none}

-- the pass that comes back of a reply or a step
abbrev pub held_next : Next → Held
held_next n = record { pass = next_pass n; book = next_book n }

-- what a call leaves of a desk and a pass
abbrev pub outcome_at : Says → Desk → Held → Outcome
outcome_at x d p = record { says = x; state = book_state d.book; quotes = lists_of d.board; pass = p.pass }

-- a call made with the book's own pass, and noted
pub record Made (c : Call) (d : Desk) (p : Held) (d' : Desk) (p' : Held) : Type 0 where
  pub says : Says
  pub outcome : outcome_at says d' p' ≡ call (lists_of d.board) c (book_state d.book) p.pass
  pub noted : Noted (tell says) d.log d'.log
  pub pass : p'.book ≡ p.book
  pub id : id_of d'.book ≡ id_of d.book

-- what is seen of a call at a desk
abbrev pub seen_at : Desk → Held → Outcome → Seen
seen_at d p o = record { book = id_of d.book; bears = p.book; outcome = o }

own_outcome : (d : Desk) (p : Held) (c : Call) → p.book ≡ id_of d.book → (own_call d.book p.book (lists_of d.board) c p.pass).outcome ≡ call (lists_of d.board) c (book_state d.book) p.pass
own_outcome d p c own = ap (λ t. checked (unless t WrongPass) (book_state d.book) (lists_of d.board) p.pass (call (lists_of d.board) c (book_state d.book) p.pass)) (eq-eqb p.book (id_of d.book) own)

-- what the book promises of a call, at a desk
pub made : {c : Call} {d : Desk} {p : Held} {d' : Desk} {p' : Held} (x : Says) →
    p.book ≡ id_of d.book →
    seen_at d' p' (outcome_at x d' p') ≡ own_call d.book p.book (lists_of d.board) c p.pass →
    Noted (tell x) d.log d'.log →
    Made c d p d' p'
made {c = c} {d = d} {p = p} x own e n =
    record { says = x; outcome = ap (λ (z : Seen). z.outcome) e ∙ own_outcome d p c own; noted = n; pass = ap (λ (z : Seen). z.bears) e; id = ap (λ (z : Seen). z.book) e }

-- the same of a reply or a step that is not refused, once it is known what comes back
pub made_next : {c : Call} {d : Desk} {p : Held} {d' : Desk} (rep : Report) (next n : Next) →
    p.book ≡ id_of d.book →
    seen_at d' (held_next next) (answer (rep ∷ []) (book_state d'.book) (lists_of d'.board) (next_pass next)) ≡ own_call d.book p.book (lists_of d.board) c p.pass →
    Noted (report rep ∷ []) d.log d'.log →
    next ≡ n →
    Made c d p d' (held_next n)
made_next {c = c} {d = d} {p = p} {d' = d'} rep next n own e k is =
    let m : Made c d p d' (held_next next) = made (reports (rep ∷ [])) own e k in subst (λ z. Made c d p d' (held_next z)) is m

-- the order in hand is worked to its end after it
pub and_finished : {c : Call} {d : Desk} {p : Held} {d₁ : Desk} {p₁ : Held} {d' : Desk} {p' : Held} → Made c d p d₁ p₁ → Follows Finishes d₁ p₁ d' p' → Follows (Performs c) d p d' p'
and_finished {c = c} {d = d} {p = p} {d₁ = d₁} {d' = d'} {p' = p'} m f = record {
  turns = turn (lists_of d.board) c ∷ f.turns;
  told = tell m.says ++ f.told;
  by_rule = subst P (sym m.outcome) (λ g. performs g) f.by_rule;
  noted = noted_on (tell m.says) f.told d.log d₁.log d'.log m.noted f.noted;
  pass = f.pass ∙ m.pass;
  id = f.id ∙ m.id;
}
  where
    P : Outcome → Type 0
    P o = Finishes o.state o.quotes o.pass f.turns f.told (book_state d'.book) (lists_of d'.board) p'.pass → Performs c (book_state d.book) (lists_of d.board) p.pass (turn (lists_of d.board) c ∷ f.turns) (tell o.says ++ f.told) (book_state d'.book) (lists_of d'.board) p'.pass

-- no order is in hand
pub nothing_left : (d : Desk) (p : Stage) → Follows Finishes d (held_between p) d (held_between p)
nothing_left d (Open p) = record { turns = []; told = []; by_rule = idle; noted = noted_none d.log; pass = refl; id = refl }
nothing_left d (Over p) = record { turns = []; told = []; by_rule = over; noted = noted_none d.log; pass = refl; id = refl }

pub at_once : {c : Call} {d : Desk} {p : Held} {d' : Desk} (p' : Stage) → Made c d p d' (held_between p') → Follows (Performs c) d p d' (held_between p')
at_once {d' = d'} p' m = and_finished m (nothing_left d' p')

-- a call that is refused: the pass p comes back
pub turned_down : {c : Call} {d : Desk} {p₀ : Held} {d' : Desk} (p : Stage) (why : Refusal) →
    p₀.book ≡ id_of d.book →
    seen_at d' (held_between p) (refuse why (book_state d'.book) (lists_of d'.board) (stage_pass p)) ≡ own_call d.book p₀.book (lists_of d.board) c p₀.pass →
    Noted (refusal (refusal_number why) ∷ []) d.log d'.log →
    Follows (Performs c) d p₀ d' (held_between p)
turned_down p why own e n = at_once p (made (refused (refusal_number why)) own e n)

-- the same of a call that hands its pass back, once the refusal is noted
pub handed_back : {c : Call} {d : Desk} {p₀ : Held} {d' : Desk} (r : Refused Ready) (p : Ready) (b : Book) (t : TableBoard) →
    p₀.book ≡ id_of d.book →
    refused_as r b (lists_of t) ≡ own_call d.book p₀.book (lists_of d.board) c p₀.pass →
    p ≡ r.pass →
    Noted (refusal (refusal_number r.why) ∷ []) d.log d'.log →
    d'.book ≡ b →
    d'.board ≡ t →
    Follows (Performs c) d p₀ d' (held_between (Open p))
handed_back {c = c} {d = d} {p₀ = p₀} {d' = d'} r p b t own e ep n eb et =
    let seen : refused_as r d'.book (lists_of d'.board) ≡ own_call d.book p₀.book (lists_of d.board) c p₀.pass = ap (λ (z : Book). refused_as r z (lists_of d'.board)) eb ∙ ap (λ (z : TableBoard). refused_as r b (lists_of z)) et ∙ e in
    subst (λ (z : Ready). Follows (Performs c) d p₀ d' (held_between (Open z))) (sym ep) (turned_down (Open r.pass) r.why own seen n)

-- what comes back in hand may be worked
pub may_work : (c : Call) (d : Desk) (p : Held) {d' : Desk} (h : InHand) → Made c d p d' (held_working h) → p.book ≡ id_of d.book → Bearable p.pass (book_state d.book) → MayWork d' h
may_work c d p {d' = d'} h m own b =
    let kept = (sound_kept_lem (lists_of d.board) c (book_state d.book) p.pass (table_shown d.board) d.book.orders.sound b).1 in
    let k : Bearable (in_hand (order_of h)) (book_state d'.book) = subst (λ (o : Outcome). Bearable o.pass o.state) (sym m.outcome) kept in
    record { own = m.pass ∙ own ∙ sym m.id; fit = k.1 }

-- a call that borrows its pass
pub borrowed : {c : Call} {d d' : Desk} (p : Stage) (x : Result Report Refusal) →
    stage_book p ≡ id_of d.book →
    reported_as (stage_pass p) (stage_book p) x d'.book (lists_of d'.board) ≡ own_call d.book (stage_book p) (lists_of d.board) c (stage_pass p) →
    Noted (told_in x ∷ []) d.log d'.log →
    Follows (Performs c) d (held_between p) d' (held_between p)
borrowed p (Ok r) own e n = at_once p (made (reports (r ∷ [])) own e n)
borrowed p (Err why) own e n = turned_down p why own e n

-- a call for which the program has no pass
pub no_pass : (c : Call) (d : Desk) (p : Stage) (r : Record) → call (lists_of d.board) c (book_state d.book) (stage_pass p) ≡ refuse NoPass (book_state d.book) (lists_of d.board) (stage_pass p) → Noted (refusal 47 ∷ []) d.log r → Follows (Performs c) d (held_between p) (record { book = d.book; board = d.board; log = r }) (held_between p)
no_pass c d p r e n = at_once p (record { says = refused 47; outcome = sym e; noted = n; pass = refl; id = refl })
