-- A quote followed, and what is noted of it.
use Rattle.std.proofs.Common.{◌≡◌, [], ◌∷◌, Some, None, Option, sym, refl, subst}
use Rattle.market.specs.declared.types.Side.{Side}
use Rattle.market.specs.declared.types.Quotation.{Quotation}
use Rattle.market.specs.declared.types.Refusal.{Refusal}
use Rattle.market.specs.States.{quoted, put_quotes}
use Rattle.market.specs.Reports.{refusal_number}
use Rattle.market.specs.Quotes.{requoted}
use Rattle.table_board.specs.Quoting.{lists_of, quotation_refusal}
use Rattle.book.specs.declared.book.Book.{Book}
use Rattle.book.specs.Outcomes.{book_state}
use Rattle.table_board.specs.declared.table.TableBoard.{TableBoard}
use Rattle.order_file.specs.declared.instructions.Instruction.TheVariants.{Quote}
use Rattle.replay.specs.Days.{refusal, Requotes}
use Rattle.replay.specs.Records.{Noted}
use Rattle.replay.specs.Desks.{stage_pass, Followed}
use Rattle.replay.specs.declared.desk.Stage.{Stage}
use Rattle.replay.specs.declared.record.Record.{Record}
use Rattle.replay.proofs.Notes.{noted_none}

module _ (d : Side) (x : Quotation) (b : Book) (t t' : TableBoard) (p : Stage) where
  pub quote_refused : (why : Refusal) (r r' : Record) → quotation_refusal x ≡ Some why → lists_of t' ≡ lists_of t → Noted (refusal (refusal_number why) ∷ []) r r' → Followed (Quote d x) (record { book = b; board = t; log = r }) p (record { book = b; board = t'; log = r' }) p
  quote_refused why r r' e eq n = record {
    turns = [];
    told = refusal (refusal_number why) ∷ [];
    by_rule = subst (λ (o : Option Refusal). Requotes d x o (book_state b) (lists_of t) (stage_pass p) [] (refusal (refusal_number why) ∷ []) (book_state b) (lists_of t') (stage_pass p)) (sym e) (refl, refl, refl, eq, refl);
    noted = n;
    pass = refl;
    id = refl;
  }

  pub quote_accepted : (r : Record) → quotation_refusal x ≡ None → lists_of t' ≡ put_quotes d (requoted d x (quoted d (lists_of t))) (lists_of t) → Followed (Quote d x) (record { book = b; board = t; log = r }) p (record { book = b; board = t'; log = r }) p
  quote_accepted r e eq = record {
    turns = [];
    told = [];
    by_rule = subst (λ (o : Option Refusal). Requotes d x o (book_state b) (lists_of t) (stage_pass p) [] [] (book_state b) (lists_of t') (stage_pass p)) (sym e) (refl, refl, refl, eq, refl);
    noted = noted_none r;
    pass = refl;
    id = refl;
  }
