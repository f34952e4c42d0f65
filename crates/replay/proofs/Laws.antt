-- A day's turns lead to its book and its pass, and say what is told of it: so the laws over all runs hold for it.
use Rattle.std.proofs.Common.{◌≡◌, ℕ, ◌+◌, List, [], ◌∷◌, ◌++◌, map, Some, None, Option, sym, refl, ap, ◌∙◌, subst, arith}
use Rattle.std.proofs.lemmas.Bool.{cond-true}
use Rattle.std.proofs.lemmas.List.Elements.{filter_map-append}
use Rattle.std.proofs.lemmas.Grind.{flat_map-append}
use Rattle.market.specs.declared.types.Side.{Side}
use Rattle.market.specs.declared.types.Quotation.{Quotation}
use Rattle.market.specs.declared.types.Report.{Report}
use Rattle.market.specs.declared.types.What.{What}
use Rattle.market.specs.declared.types.Refusal.{Refusal}
use Rattle.market.specs.declared.types.Call.{Call}
use Rattle.market.specs.declared.types.Call.TheVariants.{Work}
use Rattle.market.specs.States.{State, Quotes, new_state, fits}
use Rattle.market.specs.Reports.{refusal_number}
use Rattle.market.specs.Steps.{step}
use Rattle.market.specs.Calls.{Pass, ready, Says, reports, refused, Outcome, stepped}
use Rattle.table_board.specs.Quoting.{quotation_refusal}
use Rattle.order_file.specs.declared.instructions.Instruction.{Instruction}
use Rattle.order_file.specs.declared.instructions.Instruction.TheVariants.{Enter, Replace, Cut, Cancel, Reply, Quote, Close, Expire}
use Rattle.laws.specs.Strings.{Turn, does, state_after, pass_after, said}
use Rattle.laws.specs.Happens.{Happens, refusal as refusing, trading, sending, leaving, resting as going_to_rest, entering, cancelling, cutting, replacing, filling, returning, lapsing, closing, expiring}
use Rattle.laws.specs.Conserve.{trade_shares, back_shares, off_shares, sum_of, sum_said, entered_by, entered}
use Rattle.laws.proofs.Happens.{nothing_else}
use Rattle.laws.proofs.Conserve.{none_entered, shares_conserved_lem}
use Rattle.laws.proofs.Priority.{time_priority_lem}
use Rattle.replay.specs.Days.{Told, report, tell, turn, Finishes, idle, over, steps, Performs, performs, Requotes, Does, Day, done, then}
use Rattle.replay.specs.Laws.{report_told, reports_told, reports_of, reports_said, book_after, pass_then, reports_by, in_shares, Accounted, Lawful}

-- what is told of reports is those reports
told_reports : (rs : List Report) → reports_told (map report rs) ≡ rs
told_reports [] = refl
told_reports (r ∷ rs) = ap (λ z. r ∷ z) (told_reports rs)

told_tell : (x : Says) → reports_told (tell x) ≡ reports_of x
told_tell (reports rs) = told_reports rs
told_tell (refused n) = refl

-- the turns lead from one book and pass to another, and say what is told
record Leads (ts : List Turn) (l : List Told) (s : State) (p : Pass) (s' : State) (p' : Pass) : Type 0 where
  state : state_after ts s p ≡ s'
  pass : pass_after ts s p ≡ p'
  reports : reports_told l ≡ reports_said (said ts s p)

leads_nowhere : {ts : List Turn} {l : List Told} {s s' : State} {p p' : Pass} → ts ≡ [] → reports_told l ≡ [] → s' ≡ s → p' ≡ p → Leads ts l s p s' p'
leads_nowhere {s = s} {p = p} et el es ep = record {
  state = ap (λ (z : List Turn). state_after z s p) et ∙ sym es;
  pass = ap (λ (z : List Turn). pass_after z s p) et ∙ sym ep;
  reports = el ∙ sym (ap (λ (z : List Turn). reports_said (said z s p)) et);
}

leads_turn : (t : Turn) (o : Outcome) {ts : List Turn} {l : List Told} {s s' : State} {p p' : Pass} → does t s p ≡ o → Leads ts l o.state o.pass s' p' → Leads (t ∷ ts) (tell o.says ++ l) s p s' p'
leads_turn t o {ts = ts} {l = l} {s = s} {s' = s'} {p = p} {p' = p'} e h =
    subst (λ (z : Outcome). Leads ts l z.state z.pass s' p' → Leads (t ∷ ts) (tell z.says ++ l) s p s' p') e here h
  where
    here : Leads ts l (does t s p).state (does t s p).pass s' p' → Leads (t ∷ ts) (tell (does t s p).says ++ l) s p s' p'
    here k = record {
      state = k.state;
      pass = k.pass;
      reports = filter_map-append report_told (tell (does t s p).says) l ∙ ap (λ (z : List Report). z ++ reports_told l) (told_tell (does t s p).says) ∙ ap (λ (z : List Report). reports_of (does t s p).says ++ z) k.reports;
    }

-- one string of turns after another
state_append : (ts us : List Turn) (s : State) (p : Pass) → state_after (ts ++ us) s p ≡ state_after us (state_after ts s p) (pass_after ts s p)
state_append [] us s p = refl
state_append (t ∷ ts) us s p = state_append ts us (does t s p).state (does t s p).pass

pass_append : (ts us : List Turn) (s : State) (p : Pass) → pass_after (ts ++ us) s p ≡ pass_after us (state_after ts s p) (pass_after ts s p)
pass_append [] us s p = refl
pass_append (t ∷ ts) us s p = pass_append ts us (does t s p).state (does t s p).pass

said_append : (ts us : List Turn) (s : State) (p : Pass) → said (ts ++ us) s p ≡ said ts s p ++ said us (state_after ts s p) (pass_after ts s p)
said_append [] us s p = refl
said_append (t ∷ ts) us s p = ap (λ z. (does t s p).says ∷ z) (said_append ts us (does t s p).state (does t s p).pass)

leads_on : {ts us : List Turn} {l m : List Told} {s s₁ s₂ : State} {p p₁ p₂ : Pass} → Leads ts l s p s₁ p₁ → Leads us m s₁ p₁ s₂ p₂ → Leads (ts ++ us) (l ++ m) s p s₂ p₂
leads_on {ts = ts} {us = us} {l = l} {m = m} {s = s} {s₁ = s₁} {s₂ = s₂} {p = p} {p₂ = p₂} a b = record {
  state = state_append ts us s p ∙ b'.state;
  pass = pass_append ts us s p ∙ b'.pass;
  reports = filter_map-append report_told l m ∙ ap (λ (z : List Report). z ++ reports_told m) a.reports ∙ ap (λ (z : List Report). reports_said (said ts s p) ++ z) b'.reports
      ∙ sym (ap reports_said (said_append ts us s p) ∙ flat_map-append reports_of (said ts s p) (said us (state_after ts s p) (pass_after ts s p)));
}
  where
    b' : Leads us m (state_after ts s p) (pass_after ts s p) s₂ p₂
    b' = subst (λ (z : State). Leads us m z (pass_after ts s p) s₂ p₂) (sym a.state) (subst (λ (z : Pass). Leads us m s₁ z s₂ p₂) (sym a.pass) b)

-- a day's turns lead to its book and its pass
finishes_leads : {s s' : State} {q q' : Quotes} {p p' : Pass} {ts : List Turn} {l : List Told} → Finishes s q p ts l s' q' p' → Leads ts l s p s' p'
finishes_leads idle = record { state = refl; pass = refl; reports = refl }
finishes_leads over = record { state = refl; pass = refl; reports = refl }
finishes_leads (steps {s = s} {q = q} o f g) = leads_turn (turn q Work) (stepped (step s q o)) (cond-true (fits o.number s) _ _ f) (finishes_leads g)

performs_leads : {c : Call} {s s' : State} {q q' : Quotes} {p p' : Pass} {ts : List Turn} {l : List Told} → Performs c s q p ts l s' q' p' → Leads ts l s p s' p'
performs_leads {c = c} {q = q} (performs f) = leads_turn (turn q c) _ refl (finishes_leads f)

requotes_leads : (d : Side) (x : Quotation) (o : Option Refusal) (q q' : Quotes) {s s' : State} {p p' : Pass} {ts : List Turn} {l : List Told} → Requotes d x o s q p ts l s' q' p' → Leads ts l s p s' p'
requotes_leads d x (Some why) q q' (et, el, es, eq, ep) = leads_nowhere et (ap reports_told el) es ep
requotes_leads d x None q q' (et, el, es, eq, ep) = leads_nowhere et (ap reports_told el) es ep

does_leads : (i : Instruction) (q q' : Quotes) {s s' : State} {p p' : Pass} {ts : List Turn} {l : List Told} → Does i s q p ts l s' q' p' → Leads ts l s p s' p'
does_leads (Enter d t) q q' h = performs_leads h
does_leads (Replace t n) q q' h = performs_leads h
does_leads (Cut k user n) q q' h = performs_leads h
does_leads (Cancel user n) q q' h = performs_leads h
does_leads (Reply k n) q q' h = performs_leads h
does_leads (Quote d x) q q' h = requotes_leads d x (quotation_refusal x) q q' h
does_leads Close q q' h = performs_leads h
does_leads Expire q q' h = performs_leads h

day_leads : {is : List Instruction} {s s' : State} {q q' : Quotes} {p p' : Pass} {ts : List Turn} {l : List Told} → Day is s q p ts l s' q' p' → Leads ts l s p s' p'
day_leads done = record { state = refl; pass = refl; reports = refl }
day_leads (then {i = i} {q = q} {q₁ = q₁} ts us l m d g) = leads_on (does_leads i q q₁ d) (day_leads g)

-- the shares of what is said are those of its reports
sum_append : (f : What → ℕ → ℕ) (xs ys : List Report) → sum_of f (xs ++ ys) ≡ sum_of f xs + sum_of f ys
sum_append f [] ys = omega arith
sum_append f (x ∷ xs) ys = let e = sum_append f xs ys in omega arith

sum_reports : (f : What → ℕ → ℕ) (xs : List Says) → sum_said f xs ≡ sum_of f (reports_said xs)
sum_reports f [] = refl
sum_reports f (reports rs ∷ xs) = let e = sum_reports f xs in let a = sum_append f rs (reports_said xs) in omega arith
sum_reports f (refused n ∷ xs) = sum_reports f xs

-- what is entered is reported in
in_entered : (s : State) (q : Quotes) {c : Call} {p : Pass} {o : Outcome} → Happens s q c p o → sum_of in_shares (reports_of o.says) ≡ entered_by c o.says
in_entered s q (refusing {c = c} why z) = sym (none_entered c (refusal_number why))
in_entered s q (trading x g f z) = refl
in_entered s q (sending x g z) = refl
in_entered s q (leaving why g z) = refl
in_entered s q (going_to_rest g z) = refl
in_entered s q (entering z) = omega arith
in_entered s q (cancelling p e z) = refl
in_entered s q (cutting p e z l) = refl
in_entered s q (replacing p e z g ne) = omega arith
in_entered s q (filling p r g e z l) = refl
in_entered s q (returning r e z l) = refl
in_entered s q (lapsing r e z l) = refl
in_entered s q closing = refl
in_entered s q (expiring d x xs e z) = refl

all_entered : (ts : List Turn) (s : State) (p : Pass) → sum_of in_shares (reports_said (said ts s p)) ≡ entered ts s p
all_entered [] s p = refl
all_entered (t ∷ ts) s p =
    let o : Outcome = does t s p in
    let a = sum_append in_shares (reports_of o.says) (reports_said (said ts o.state o.pass)) in
    let b = in_entered s t.quotes (nothing_else t.quotes t.call s p) in
    let e = all_entered ts o.state o.pass in
    omega arith

accounted : (ts : List Turn) → Accounted (reports_by ts) (book_after ts) (pass_then ts)
accounted ts =
    let xs : List Says = said ts (new_state 1) ready in
    omega (arith, shares_conserved_lem 1 ts, all_entered ts (new_state 1) ready, sum_reports trade_shares xs, sum_reports back_shares xs, sum_reports off_shares xs)

pub lawful : {is : List Instruction} {q q' : Quotes} (ts : List Turn) (l : List Told) (s : State) (p : Pass) → Day is (new_state 1) q ready ts l s q' p → Lawful ts l s p
lawful ts l s p d = record {
  told_said = k.reports;
  book_left = k.state;
  pass_left = k.pass;
  conserves = record { at_the_end = end; after_each_call = λ us vs _. accounted us };
  priority = λ ts₀ t us u vs _ r x m. time_priority_lem 1 ts₀ t us u r x m;
}
  where
    k : Leads ts l (new_state 1) ready s p
    k = day_leads d

    end : Accounted (reports_told l) s p
    end =
        subst (λ (z : List Report). Accounted z s p) (sym k.reports)
        (subst (λ (z : State). Accounted (reports_by ts) z p) k.state (subst (λ (z : Pass). Accounted (reports_by ts) (book_after ts) z) k.pass (accounted ts)))
