-- Steps one after another, as their reports are written into the caller's list.
use Rattle.std.proofs.Common.{◌≡◌, ℕ, suc, ◌+◌, ◌-◌, ◌<◌, ◌≤◌, List, [], ◌∷◌, ◌++◌, length, take, drop, set, Some, None, Option, sym, ap, ◌∙◌, append_assoc, arith, length-take-le}
use Rattle.std.proofs.lemmas.List.{take_more_set, drop-set-lt, drop-drop, take-append-drop, append-nil}
use Rattle.market.specs.declared.types.Order.{Order}
use Rattle.market.specs.declared.types.Report.{Report}
use Rattle.market.specs.States.{State, Quotes}
use Rattle.market.specs.Steps.{Run, step, run}
use Rattle.book.specs.declared.book.Book.{Book}
use Rattle.book.specs.Outcomes.{book_state}
use Rattle.book.specs.Works.{Did, Ran}

-- reports written before a run
abbrev pub before_run : List Report → Run → Run
before_run rs t = record { reports = rs ++ t.reports; state = t.state; quotes = t.quotes; left = t.left }

pub run_on : (rs : List Report) (n m : ℕ) (o : Order) (s : State) (q : Quotes) → n ≡ suc m → before_run rs (run n (Some o) s q) ≡ before_run (rs ++ ((step s q o).report ∷ [])) (run m (step s q o).left (step s q o).state (step s q o).quotes)
run_on rs n m o s q e =
    ap (λ k. before_run rs (run k (Some o) s q)) e ∙ ap (λ l. record { reports = l; state = r.state; quotes = r.quotes; left = r.left }) (sym (append_assoc rs ((step s q o).report ∷ []) r.reports))
  where
    r : Run
    r = run m (step s q o).left (step s q o).state (step s q o).quotes

module _ (l₀ : List Report) where
  -- the reports of t stand in front of n in l, and what is left to run gives the others
  abbrev pub Along : Run → List Report → ℕ → Option Order → State → Quotes → Type 0
  Along t l n o s q = (drop n l ≡ drop n l₀) × (before_run (take n l) (run (length l₀ - n) o s q) ≡ t)

  pub along_on : (t : Run) (l : List Report) (n : ℕ) (o : Order) (k k' : Book) (q q' : Quotes) (r : Report × Option Order) (left : Option Order) → r.1 ≡ left → n < length l → length l ≡ length l₀ → Along t l n (Some o) (book_state k) q → Did (step (book_state k) q o) k k' q' r → Along t (set l n r.0) (n + 1) left (book_state k') q'
  along_on t l n o k k' q q' r left w h e (d, a) (_, r0, r1, rs, rq) =
      let s = book_state k in
      let s' = book_state k' in
      let b = length l₀ - (n + 1) in
      let fewer : length l₀ - n ≡ suc b = omega arith in
      let x : drop (n + 1) (set l n r.0) ≡ drop (n + 1) l = drop-set-lt (n + 1) l n r.0 (omega arith) in
      let y : drop (n + 1) l ≡ drop (n + 1) l₀ = sym (drop-drop 1 n l) ∙ ap (drop 1) d ∙ drop-drop 1 n l₀ in
      let front : take (n + 1) (set l n r.0) ≡ take n l ++ ((step s q o).report ∷ []) = take_more_set l n r.0 h ∙ ap (λ z. take n l ++ (z ∷ [])) r0 in
      let F : List Report → Option Order → State → Quotes → Run = λ rs o' u v. before_run rs (run b o' u v) in (
        x ∙ y,
        ap (λ z. F z left s' q') front ∙ ap (λ z. F (take n l ++ ((step s q o).report ∷ [])) z s' q') (sym w ∙ r1) ∙ ap (λ z. F (take n l ++ ((step s q o).report ∷ [])) (step s q o).left z q') rs
            ∙ ap (λ z. F (take n l ++ ((step s q o).report ∷ [])) (step s q o).left (step s q o).state z) rq ∙ sym (run_on (take n l) (length l₀ - n) b o s q fewer) ∙ a,
      )

  -- nothing is left to run
  ran : (t : Run) (l : List Report) (n : ℕ) (o : Option Order) (s : State) (q : Quotes) → n ≤ length l → drop n l ≡ drop n l₀ → before_run (take n l) (record { reports = []; state = s; quotes = q; left = o }) ≡ t → Ran t s q l₀ l n o
  ran t l n o s q h d a =
      let w : take n l ≡ t.reports = sym (append-nil (take n l)) ∙ ap (λ z. z.reports) a in
      record {
        count = sym (length-take-le n l h) ∙ ap length w;
        list = sym (take-append-drop n l) ∙ ap (λ z. z ++ drop n l) w ∙ ap (λ z. t.reports ++ z) d;
        hand = ap (λ z. z.left) a;
        book = ap (λ z. z.state) a;
        board = ap (λ z. z.quotes) a;
      }

  pub ran_done : (t : Run) (l : List Report) (n : ℕ) (s : State) (q : Quotes) → n ≤ length l → Along t l n None s q → Ran t s q l₀ l n None
  ran_done t l n s q h (d, a) = ran t l n None s q h d a

  pub ran_full : (t : Run) (l : List Report) (n : ℕ) (o : Order) (s : State) (q : Quotes) → n ≤ length l → length l₀ ≤ n → Along t l n (Some o) s q → Ran t s q l₀ l n (Some o)
  ran_full t l n o s q h k (d, a) =
      let z : length l₀ - n ≡ 0 = omega arith in
      ran t l n (Some o) s q h d (sym (ap (λ m. before_run (take n l) (run m (Some o) s q)) z) ∙ a)
