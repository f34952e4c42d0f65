-- A day so far: the rest of the instructions complete it.
use Rattle.std.proofs.Common.{◌≡◌, ℕ, ◌+◌, ◌<◌, ◌≤◌, List, [], ◌++◌, length, get_or, drop, sym, refl, ◌∙◌, subst}
use Rattle.std.proofs.lemmas.List.{at_drop_more, at_drop_all}
use Rattle.market.specs.States.{State, Quotes, new_state, no_quotes}
use Rattle.market.specs.Calls.{ready}
use Rattle.order_file.specs.declared.instructions.Instruction.{Instruction}
use Rattle.table_board.specs.Quoting.{lists_of}
use Rattle.book.specs.declared.passes.Ready.{Ready}
use Rattle.book.specs.Outcomes.{book_state}
use Rattle.replay.specs.Days.{Day, done, then}
use Rattle.replay.specs.Desks.{held_between, stage_pass, IsOwn, Follows, Followed}
use Rattle.replay.specs.Records.{HasLines}
use Rattle.replay.specs.Sessions.{Ran}
use Rattle.replay.specs.declared.desk.Desk.{Desk}
use Rattle.replay.specs.declared.desk.Stage.{Stage}
use Rattle.replay.specs.declared.desk.Stage.TheVariants.{Open}
use Rattle.replay.proofs.Laws.{lawful}
use Rattle.replay.proofs.Notes.{noted_on, noted_none, tells_all}

module _ (is : List Instruction) (d₀ : Desk) (p₀ : Stage) where
  -- whatever completes the day from here completes it from the start
  pub record SoFar (n : ℕ) (d : Desk) (p : Stage) : Type 0 where
    pub on : (d' : Desk) (p' : Stage) → Follows (Day (drop n is)) d (held_between p) d' (held_between p') → Follows (Day is) d₀ (held_between p₀) d' (held_between p')
    pub own : IsOwn d p

  pub so_far_start : IsOwn d₀ p₀ → SoFar 0 d₀ p₀
  so_far_start own = record { on = λ d' p' f. f; own = own }

  pub so_far_more : (n : ℕ) (i : Instruction) (d d' : Desk) (p p' : Stage) → n < length is → SoFar n d p → Followed (get_or is n i) d p d' p' → SoFar (n + 1) d' p'
  so_far_more n i d d' p p' h w f = record { on = on; own = f.pass ∙ w.own ∙ sym f.id }
    where
      on : (e : Desk) (r : Stage) → Follows (Day (drop (n + 1) is)) d' (held_between p') e (held_between r) → Follows (Day is) d₀ (held_between p₀) e (held_between r)
      on e r g = w.on e r (record {
        turns = f.turns ++ g.turns;
        told = f.told ++ g.told;
        by_rule = subst (λ (zs : List Instruction). Day zs (book_state d.book) (lists_of d.board) (stage_pass p) (f.turns ++ g.turns) (f.told ++ g.told) (book_state e.book) (lists_of e.board) (stage_pass r)) (sym (at_drop_more (λ zs. zs) is n i h)) (then f.turns g.turns f.told g.told f.by_rule g.by_rule);
        noted = noted_on f.told g.told d.log d'.log e.log f.noted g.noted;
        pass = g.pass ∙ f.pass;
        id = g.id ∙ f.id;
      })

  -- all the instructions are followed
  pub so_far_all : (n : ℕ) (d : Desk) (p : Stage) → length is ≤ n → SoFar n d p → Follows (Day is) d₀ (held_between p₀) d (held_between p)
  so_far_all n d p h w = w.on d p (record {
    turns = [];
    told = [];
    by_rule = subst (λ (zs : List Instruction). Day zs (book_state d.book) (lists_of d.board) (stage_pass p) [] [] (book_state d.book) (lists_of d.board) (stage_pass p)) (sym (at_drop_all (λ zs. zs) is n h)) done;
    noted = noted_none d.log;
    pass = refl;
    id = refl;
  })

-- a day from a new book, a board with no line and a new record
pub ran : (is : List Instruction) (d₀ : Desk) (p₀ : Ready) (d : Desk) (p : Stage) →
    book_state d₀.book ≡ new_state 1 → lists_of d₀.board ≡ no_quotes → HasLines d₀.log [] →
    Follows (Day is) d₀ (held_between (Open p₀)) d (held_between p) → Ran is (record { book = d.book; stage = p; log = d.log })
ran is d₀ p₀ d p es eq el f =
    let day =
    subst (λ (z : State). Day is z no_quotes ready f.turns f.told (book_state d.book) (lists_of d.board) (stage_pass p)) es
    (subst (λ (z : Quotes). Day is (book_state d₀.book) z ready f.turns f.told (book_state d.book) (lists_of d.board) (stage_pass p)) eq f.by_rule)
    in
    (f.told, record { turns = f.turns; board = lists_of d.board; day = day; lawful = lawful f.turns f.told (book_state d.book) (stage_pass p) day }, tells_all f.told d₀.log d.log el f.noted)
