-- The first field that is not as its line wants is the first that no instruction has.
use Rattle.std.proofs.Common.{◌≡◌, ℕ, suc, ◌+◌, ◌^◌, ◌<◌, ◌≤◌, cond, eqb, List, [], ◌∷◌, map, length, get_or, take, Ok, Err, Result, sym, refl, ap, ◌∙◌, subst, inl, inr, add-one, arith}
use Rattle.market.specs.declared.types.Side.{Side}
use Rattle.market.specs.declared.types.Side.TheVariants.{Buy}
use Rattle.market.specs.declared.types.Kind.{Kind}
use Rattle.market.specs.declared.types.Kind.TheVariants.{Limit}
use Rattle.market.specs.Written.{Cell, word, digits, blank, shown, spaced, side_word, kind_word}
use Rattle.order_file.specs.Faults.{bad_line}
use Rattle.order_file.specs.Instructions.{instruction_verb, verb_word, values_of, cells_of, texts, written, Fit}
use Rattle.order_file.specs.Fields.{Want, a_verb, a_side, a_kind, a_number, a_blank, Value, Writes, Good, cause_of, text, Blamed}
use Rattle.order_file.specs.Lines.{field_count, wants, Plain, cut, Placed, Amiss, Taken, Accepts, blame, Astray, Faults}
use Rattle.order_file.specs.declared.instructions.Instruction.{Instruction}
use Rattle.order_file.specs.declared.instructions.Instruction.TheVariants.{Enter, Replace, Cut, Cancel, Reply, Quote, Close, Expire}
use Rattle.order_file.specs.declared.instructions.Verb.{Verb}
use Rattle.order_file.specs.declared.instructions.Verb.TheVariants.{Enter as Enter', Replace as Replace', Cut as Cut', Cancel as Cancel', Reply as Reply', Quote as Quote', Close as Close', Expire as Expire'}
use Rattle.order_file.specs.declared.faults.Cause.TheVariants.{WrongWord}
use Rattle.order_file.specs.declared.faults.Fault.{Fault}
use Rattle.order_file.specs.declared.fields.Place.{Place}
use Rattle.order_file.specs.declared.fields.Part.{Part}
use Rattle.order_file.proofs.Verdicts.{good, good_value}
use Rattle.order_file.proofs.Cuts.{cut_spaced, spaced_cut}
use Rattle.order_file.proofs.Words.{Free, lacks, number_free, side_free, kind_free, verb_free, dash_free}

-- a cell that a want admits
abbrev pub Meets : Want → Cell → Type 0
Meets a_verb f = (v : Verb) × (f ≡ word (verb_word v))
Meets a_side f = (s : Side) × (f ≡ word (side_word s))
Meets a_kind f = (k : Kind) × (f ≡ word (kind_word k))
Meets a_number f = (n : ℕ) × (n < 2 ^ 32) × (f ≡ digits n)
Meets a_blank f = f ≡ blank

abbrev pub Fills : List Want → List Cell → Type 0
Fills [] [] = Unit {0}
Fills [] (f ∷ fs) = ⊥
Fills (w ∷ ws) [] = ⊥
Fills (w ∷ ws) (f ∷ fs) = Meets w f × Fills ws fs

-- a want has a cell for each good text, some cell at all, and one blame
cell : (w : Want) (x : Value w) (p : List ℕ) → Writes w x p → (f : Cell) × Meets w f × (shown f ≡ p)
cell a_verb v p h = (word (verb_word v), (v, refl), sym h)
cell a_side s p h = (word (side_word s), (s, refl), sym h)
cell a_kind k p h = (word (kind_word k), (k, refl), sym h)
cell a_number n p h = (digits n, (n, h.0, refl), sym h.1)
cell a_blank x p h = (blank, refl, sym h)

meet : (w : Want) (p : List ℕ) → Good (Writes w) p → (f : Cell) × Meets w f × (shown f ≡ p)
meet w p g = let v = good_value (Writes w) p g in cell w v.0 p v.1

met : (w : Want) (f : Cell) → Meets w f → Good (Writes w) (shown f)
met a_verb f m = good (Writes a_verb) m.0 (shown f) (ap shown m.1)
met a_side f m = good (Writes a_side) m.0 (shown f) (ap shown m.1)
met a_kind f m = good (Writes a_kind) m.0 (shown f) (ap shown m.1)
met a_number f m = good (Writes a_number) m.0 (shown f) (m.1, ap shown m.2)
met a_blank f m = good (Writes a_blank) tt (shown f) (ap shown m)

some : (w : Want) → (f : Cell) × Meets w f
some a_verb = (word (verb_word Close'), (Close', refl))
some a_side = (word (side_word Buy), (Buy, refl))
some a_kind = (word (kind_word Limit), (Limit, refl))
some a_number = (digits 0, (0, omega arith, refl))
some a_blank = (blank, refl)

blames : (w : Want) (f : Cell) → Meets w f → blame f ≡ cause_of w
blames a_verb f m = ap blame m.1
blames a_side f m = ap blame m.1
blames a_kind f m = ap blame m.1
blames a_number f m = ap blame m.2
blames a_blank f m = ap blame m

filled : (ws : List Want) → (fs : List Cell) × Fills ws fs
filled [] = ([], tt)
filled (w ∷ ws) = ((some w).0 ∷ (filled ws).0, ((some w).1, (filled ws).1))

-- what is amiss, of fields of line n from field k on
record Off (ws : List Want) (n k : ℕ) (ps : List (List ℕ)) (f : Fault) : Type 0 where
  before : ℕ
  like : List Cell
  fills : Fills ws like
  so_far : take before (map shown like) ≡ take before ps
  no_further : (gs : List Cell) → Fills ws gs → take (suc before) (map shown gs) ≡ take (suc before) ps → ⊥
  blamed : Blamed (blame (get_or like before blank)) (get_or ps before []) (record { line = n; field = k + before }) f

head_same : (p q : List ℕ) (ps qs : List (List ℕ)) → p ∷ ps ≡ q ∷ qs → p ≡ q
head_same p q ps qs e = cc

tail_same : (p q : List ℕ) (ps qs : List (List ℕ)) → p ∷ ps ≡ q ∷ qs → ps ≡ qs
tail_same p q ps qs e = cc

abbrev at : ℕ → ℕ → Place
at n k = record { line = n; field = k }

moved : (b : List ℕ → Place → Fault → Type 0) (p : List ℕ) (n k j : ℕ) (f : Fault) → k ≡ j → b p (at n k) f → b p (at n j) f
moved b p n k j f e h = subst (λ (x : ℕ). b p (at n x) f) e h

off_here : (w : Want) (ws : List Want) (p : List ℕ) (ps : List (List ℕ)) → (Good (Writes w) p → ⊥)
    → (gs : List Cell) → Fills (w ∷ ws) gs → take 1 (map shown gs) ≡ take 1 (p ∷ ps) → ⊥
off_here w ws p ps bad [] h e = h
off_here w ws p ps bad (g ∷ gs) h e = bad (subst (Good (Writes w)) (head_same (shown g) p [] [] e) (met w g h.0))

off_later : (w : Want) (ws : List Want) (p : List ℕ) (ps : List (List ℕ)) (k : ℕ) → ((gs : List Cell) → Fills ws gs → take (suc k) (map shown gs) ≡ take (suc k) ps → ⊥)
    → (gs : List Cell) → Fills (w ∷ ws) gs → take (suc (suc k)) (map shown gs) ≡ take (suc (suc k)) (p ∷ ps) → ⊥
off_later w ws p ps k bad [] h e = h
off_later w ws p ps k bad (g ∷ gs) h e = bad gs h.1 (tail_same (shown g) p _ _ e)

off : (ws : List Want) (n k : ℕ) (ps : List Part) (f : Fault) → Placed n k ps → Amiss ws ps f → Off ws n k (map text ps) f
off [] n k ps f placed a = absurd a
off (w ∷ ws) n k [] f placed a = absurd a
off (w ∷ ws) n k (p ∷ ps) f placed (inl a) =
    record {
      before = 0;
      like = (some w).0 ∷ (filled ws).0;
      fills = ((some w).1, (filled ws).1);
      so_far = refl;
      no_further = off_here w ws (text p) (map text ps) a.0;
      blamed = rw (blames w (some w).0 (some w).1) (moved (Blamed (cause_of w)) (text p) n k (k + 0) f (omega arith) (subst (λ (x : Place). Blamed (cause_of w) (text p) x f) placed.0 a.1));
    }
off (w ∷ ws) n k (p ∷ ps) f placed (inr a) =
    let o = off ws n (k + 1) ps f placed.1 a.1 in
    let m = meet w (text p) a.0 in
    record {
      before = suc o.before;
      like = m.0 ∷ o.like;
      fills = (m.1, o.fills);
      so_far = rw (m.2, o.so_far) refl;
      no_further = off_later w ws (text p) (map text ps) o.before o.no_further;
      blamed = moved (Blamed (blame (get_or o.like o.before blank))) (get_or (map text ps) o.before []) n ((k + 1) + o.before) (k + suc o.before) f (omega arith) o.blamed;
    }

-- each instruction has what its word wants
pub fills : (c : Instruction) → Fit c → Fills (wants (instruction_verb c)) (values_of c)
fills (Enter s t) h = ((s, refl), ((_, h.0, refl), ((_, h.1.0, refl), ((_, h.1.1.0, refl), ((t.kind, refl), ((_, h.1.1.1.0, refl), (refl, (refl, tt))))))))
fills (Replace t n) h = (refl, ((_, h.0, refl), ((_, h.1.0, refl), ((_, h.1.1.0, refl), ((t.kind, refl), ((_, h.1.1.1.0, refl), ((_, h.1.1.1.1.0, refl), (refl, tt))))))))
fills (Cut z u n) h = (refl, (refl, ((_, h.0, refl), (refl, (refl, ((_, h.1.0, refl), ((_, h.1.1.0, refl), (refl, tt))))))))
fills (Cancel u n) h = (refl, (refl, (refl, (refl, (refl, ((_, h.0, refl), ((_, h.1.0, refl), (refl, tt))))))))
fills (Reply z n) h = (refl, (refl, ((_, h.0, refl), (refl, (refl, (refl, ((_, h.1.0, refl), (refl, tt))))))))
fills (Quote s q) h = ((s, refl), ((_, h.0, refl), ((_, h.1.0, refl), (refl, (refl, (refl, (refl, ((_, h.1.1.0, refl), tt))))))))
fills Close h = (refl, (refl, (refl, (refl, (refl, (refl, (refl, (refl, tt))))))))
fills Expire h = (refl, (refl, (refl, (refl, (refl, (refl, (refl, (refl, tt))))))))

-- the cells that fill a line's wants, one by one
record Spread (w₂ w₃ w₄ w₅ w₆ w₇ w₈ w₉ : Want) (fs : List Cell) : Type 0 where
  f₂ : Cell
  f₃ : Cell
  f₄ : Cell
  f₅ : Cell
  f₆ : Cell
  f₇ : Cell
  f₈ : Cell
  f₉ : Cell
  m₂ : Meets w₂ f₂
  m₃ : Meets w₃ f₃
  m₄ : Meets w₄ f₄
  m₅ : Meets w₅ f₅
  m₆ : Meets w₆ f₆
  m₇ : Meets w₇ f₇
  m₈ : Meets w₈ f₈
  m₉ : Meets w₉ f₉
  all : fs ≡ f₂ ∷ f₃ ∷ f₄ ∷ f₅ ∷ f₆ ∷ f₇ ∷ f₈ ∷ f₉ ∷ []

first_cell : (w : Want) (ws : List Want) (fs : List Cell) → Fills (w ∷ ws) fs → (f : Cell) × (gs : List Cell) × (fs ≡ f ∷ gs) × Meets w f × Fills ws gs
first_cell w ws [] a = absurd a
first_cell w ws (f ∷ fs) a = (f, fs, refl, a.0, a.1)

no_cell : (fs : List Cell) → Fills [] fs → fs ≡ []
no_cell [] a = refl
no_cell (f ∷ fs) a = absurd a

spread : (w₂ w₃ w₄ w₅ w₆ w₇ w₈ w₉ : Want) (fs : List Cell) → Fills (w₂ ∷ w₃ ∷ w₄ ∷ w₅ ∷ w₆ ∷ w₇ ∷ w₈ ∷ w₉ ∷ []) fs → Spread w₂ w₃ w₄ w₅ w₆ w₇ w₈ w₉ fs
spread w₂ w₃ w₄ w₅ w₆ w₇ w₈ w₉ fs a =
    let a₂ = first_cell w₂ (w₃ ∷ w₄ ∷ w₅ ∷ w₆ ∷ w₇ ∷ w₈ ∷ w₉ ∷ []) fs a in
    let a₃ = first_cell w₃ (w₄ ∷ w₅ ∷ w₆ ∷ w₇ ∷ w₈ ∷ w₉ ∷ []) a₂.1 a₂.4 in
    let a₄ = first_cell w₄ (w₅ ∷ w₆ ∷ w₇ ∷ w₈ ∷ w₉ ∷ []) a₃.1 a₃.4 in
    let a₅ = first_cell w₅ (w₆ ∷ w₇ ∷ w₈ ∷ w₉ ∷ []) a₄.1 a₄.4 in
    let a₆ = first_cell w₆ (w₇ ∷ w₈ ∷ w₉ ∷ []) a₅.1 a₅.4 in
    let a₇ = first_cell w₇ (w₈ ∷ w₉ ∷ []) a₆.1 a₆.4 in
    let a₈ = first_cell w₈ (w₉ ∷ []) a₇.1 a₇.4 in
    let a₉ = first_cell w₉ [] a₈.1 a₈.4 in
    let none = no_cell a₉.1 a₉.4 in
    record {
      f₂ = a₂.0;
      f₃ = a₃.0;
      f₄ = a₄.0;
      f₅ = a₅.0;
      f₆ = a₆.0;
      f₇ = a₇.0;
      f₈ = a₈.0;
      f₉ = a₉.0;
      m₂ = a₂.3;
      m₃ = a₃.3;
      m₄ = a₄.3;
      m₅ = a₅.3;
      m₆ = a₆.3;
      m₇ = a₇.3;
      m₈ = a₈.3;
      m₉ = a₉.3;
      all = cc;
    }

-- and whatever a word wants is some instruction's
record Made (v : Verb) (fs : List Cell) : Type 0 where
  of : Instruction
  fit : Fit of
  is : cells_of of ≡ word (verb_word v) ∷ fs

made : (v : Verb) (fs : List Cell) → Fills (wants v) fs → Made v fs
made Enter' fs a =
    let s = spread a_side a_number a_number a_number a_kind a_number a_blank a_blank fs a in
    record {
      of = Enter s.m₂.0 (record { price = s.m₃.0; size = s.m₄.0; show = s.m₅.0; kind = s.m₆.0; user = s.m₇.0 });
      fit = (s.m₃.1, (s.m₄.1, (s.m₅.1, (s.m₇.1, tt))));
      is = cc;
    }
made Replace' fs a =
    let s = spread a_blank a_number a_number a_number a_kind a_number a_number a_blank fs a in
    record {
      of = Replace (record { price = s.m₃.0; size = s.m₄.0; show = s.m₅.0; kind = s.m₆.0; user = s.m₇.0 }) s.m₈.0;
      fit = (s.m₃.1, (s.m₄.1, (s.m₅.1, (s.m₇.1, (s.m₈.1, tt)))));
      is = cc;
    }
made Cut' fs a =
    let s = spread a_blank a_blank a_number a_blank a_blank a_number a_number a_blank fs a in
    record { of = Cut s.m₄.0 s.m₇.0 s.m₈.0; fit = (s.m₄.1, (s.m₇.1, (s.m₈.1, tt))); is = cc }
made Cancel' fs a =
    let s = spread a_blank a_blank a_blank a_blank a_blank a_number a_number a_blank fs a in
    record { of = Cancel s.m₇.0 s.m₈.0; fit = (s.m₇.1, (s.m₈.1, tt)); is = cc }
made Reply' fs a =
    let s = spread a_blank a_blank a_number a_blank a_blank a_blank a_number a_blank fs a in
    record { of = Reply s.m₄.0 s.m₈.0; fit = (s.m₄.1, (s.m₈.1, tt)); is = cc }
made Quote' fs a =
    let s = spread a_side a_number a_number a_blank a_blank a_blank a_blank a_number fs a in
    record { of = Quote s.m₂.0 (record { venue = s.m₉.0; price = s.m₃.0; size = s.m₄.0 }); fit = (s.m₃.1, (s.m₄.1, (s.m₉.1, tt))); is = cc }
made Close' fs a =
    let s = spread a_blank a_blank a_blank a_blank a_blank a_blank a_blank a_blank fs a in
    record { of = Close; fit = tt; is = cc }
made Expire' fs a =
    let s = spread a_blank a_blank a_blank a_blank a_blank a_blank a_blank a_blank fs a in
    record { of = Expire; fit = tt; is = cc }

-- the words differ: e n, r e p l a, c u, c a, r e p l y, q, c l, e x
abbrev pub back : List ℕ → Verb
back w =
    cond (eqb (get_or w 1 0) 110) Enter' (cond (eqb (get_or w 4 0) 97) Replace' (cond (eqb (length w) 3) Cut' (cond (eqb (get_or w 1 0) 97) Cancel'
    (cond (eqb (get_or w 4 0) 121) Reply' (cond (eqb (get_or w 0 0) 113) Quote' (cond (eqb (get_or w 0 0) 99) Close' Expire'))))))

pub back_word : (v : Verb) → back (verb_word v) ≡ v
back_word Enter' = refl
back_word Replace' = refl
back_word Cut' = refl
back_word Cancel' = refl
back_word Reply' = refl
back_word Quote' = refl
back_word Close' = refl
back_word Expire' = refl

same_verb : (v w : Verb) → verb_word v ≡ verb_word w → v ≡ w
same_verb v w e = sym (back_word v) ∙ ap back e ∙ back_word w

astray : (v : Verb) (n : ℕ) (ps : List (List ℕ)) (f : Fault) → Off (wants v) n 2 ps f → Astray n (verb_word v ∷ ps) f
astray v n ps f o =
    let m = made v o.like o.fills in
    let t : texts m.of ≡ verb_word v ∷ map shown o.like = ap (map shown) m.is in
    record {
      before = suc o.before;
      like = m.of;
      fit = m.fit;
      so_far = ap (take (suc o.before)) t ∙ ap (λ (x : List (List ℕ)). verb_word v ∷ x) o.so_far;
      no_further = λ c h e.
          let e' : verb_word (instruction_verb c) ∷ take (suc o.before) (map shown (values_of c)) ≡ verb_word v ∷ take (suc o.before) ps = rw add-one at e in
          let q : instruction_verb c ≡ v = same_verb (instruction_verb c) v (head_same _ _ _ _ e') in
          o.no_further (values_of c) (subst (λ (x : Verb). Fills (wants x) (values_of c)) q (fills c h)) (tail_same _ _ _ _ e');
      blamed = rw m.is (moved (Blamed (blame (get_or o.like o.before blank))) (get_or ps o.before []) n (2 + o.before) (suc o.before + 1) f (omega arith) o.blamed);
    }

-- no field of an instruction has a space or a line end
pub meets_free : (b : ℕ) → b ≤ 32 → (w : Want) (f : Cell) → Meets w f → Free b (shown f)
meets_free b s a_verb f m = subst (Free b) (sym (ap shown m.1)) (verb_free b s m.0)
meets_free b s a_side f m = subst (Free b) (sym (ap shown m.1)) (side_free b s m.0)
meets_free b s a_kind f m = subst (Free b) (sym (ap shown m.1)) (kind_free b s m.0)
meets_free b s a_number f m = subst (Free b) (sym (ap shown m.2)) (number_free b s m.0 m.1)
meets_free b s a_blank f m = subst (Free b) (sym (ap shown m)) (dash_free b s)

fills_plain : (ws : List Want) (fs : List Cell) → Fills ws fs → Plain (map shown fs) × (length (map shown fs) ≡ length ws)
fills_plain [] [] h = (tt, refl)
fills_plain [] (f ∷ fs) h = absurd h
fills_plain (w ∷ ws) [] h = absurd h
fills_plain (w ∷ ws) (f ∷ fs) h = let r = fills_plain ws fs h.1 in ((lacks 32 (shown f) (meets_free 32 (omega arith) w f h.0), r.0), ap suc r.1)

wants_all : (v : Verb) → length (wants v) + 1 ≡ field_count
wants_all Enter' = refl
wants_all Replace' = refl
wants_all Cut' = refl
wants_all Cancel' = refl
wants_all Reply' = refl
wants_all Quote' = refl
wants_all Close' = refl
wants_all Expire' = refl

pub plain : (c : Instruction) → Fit c → Plain (texts c) × (length (texts c) ≡ field_count)
plain c h =
    let r = fills_plain (wants (instruction_verb c)) (values_of c) (fills c h) in
    ((lacks 32 (verb_word (instruction_verb c)) (verb_free 32 (omega arith) (instruction_verb c)), r.0), omega (arith, r.1, wants_all (instruction_verb c)))

-- a line that writes an instruction is cut into the instruction's fields
pub cut_line : (bs : List ℕ) (c : Instruction) → Fit c → bs ≡ written c → cut bs ≡ texts c
cut_line bs c h e = let q = plain c h in ap cut e ∙ cut_spaced (texts c) (omega (arith, q.1)) q.0

pub record Done (bs : List ℕ) (n : ℕ) (r : Result Instruction Fault) : Type 0 where
  pub accepts : Accepts bs r
  pub fault : Faults bs n r

astray_done : (bs : List ℕ) (n : ℕ) (ps : List (List ℕ)) (f : Fault) → cut bs ≡ ps → length ps ≡ field_count → Astray n ps f → Done bs n (Err f)
astray_done bs n ps f e l a =
    record {
      accepts = λ c h q. a.no_further c h (ap (take (a.before + 1)) (sym (cut_line bs c h q) ∙ e));
      fault = inr (ps, l, subst Plain e (spaced_cut bs).0, sym (spaced_cut bs).1 ∙ ap spaced e, a);
    }

-- the reader of a line, by its ways out
pub by_word : (v : Verb) (bs : List ℕ) (n : ℕ) (p : Part) (ps : List Part) (r : Result Instruction Fault) → cut bs ≡ text p ∷ map text ps → length (map text ps) + 1 ≡ field_count
    → Placed n 2 ps → Writes a_verb v (text p) → Taken v ps r → Done bs n r
by_word v bs n p ps (Ok c) e l at q k =
    record { accepts = (k.0, sym (spaced_cut bs).1 ∙ ap spaced (e ∙ ap (λ (x : List ℕ). x ∷ map text ps) q ∙ sym k.1)); fault = tt }
by_word v bs n p ps (Err f) e l at q k =
    astray_done bs n (verb_word v ∷ map text ps) f (e ∙ ap (λ (x : List ℕ). x ∷ map text ps) q) (omega arith) (astray v n (map text ps) f (off (wants v) n 2 ps f at k))

pub no_verb : (bs : List ℕ) (n : ℕ) (p : Part) (ps : List Part) (f : Fault) → cut bs ≡ text p ∷ map text ps → length (map text ps) + 1 ≡ field_count
    → (p.place ≡ at n 1) → (Good (Writes a_verb) (text p) → ⊥) → Blamed WrongWord (text p) p.place f → Done bs n (Err f)
no_verb bs n p ps f e l here bad b =
    astray_done bs n (text p ∷ map text ps) f e (omega arith)
    (record {
      before = 0;
      like = Close;
      fit = tt;
      so_far = refl;
      no_further = λ c h q. bad (good (Writes a_verb) (instruction_verb c) (text p) (sym (head_same (verb_word (instruction_verb c)) (text p) [] [] q)));
      blamed = subst (λ (x : Place). Blamed WrongWord (text p) x f) here b;
    })

pub not_all : (bs : List ℕ) (n : ℕ) (f : Fault) → (length (cut bs) ≡ field_count → ⊥) → f ≡ bad_line n → Done bs n (Err f)
not_all bs n f bad e =
    record {
      accepts = λ c h q. bad (ap length (cut_line bs c h q) ∙ (plain c h).1);
      fault = inl ((λ ps l h q. bad (ap length (ap cut q ∙ cut_spaced ps (omega arith) h) ∙ l)), e);
    }
