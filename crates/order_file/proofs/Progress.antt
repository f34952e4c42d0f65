-- How far the reader of a file has come: what is kept from step to step.
use Rattle.std.proofs.Common.{◌≡◌, ℕ, ◌+◌, ◌≤◌, cond, List, [], ◌∷◌, ◌++◌, length, Some, None, Ok, Err, Option, sym, ap, ◌∙◌, inl, inr, arith}
use Rattle.std.proofs.lemmas.List.{length-append}
use Rattle.order_file.specs.Instructions.{written}
use Rattle.order_file.specs.Lines.{field_count}
use Rattle.order_file.specs.Files.{lines_of, text_of, most_bytes, Fits, stopped, Moves, IsBadFile}
use Rattle.order_file.specs.declared.instructions.Instruction.{Instruction}
use Rattle.order_file.specs.declared.faults.Fault.{Fault}
use Rattle.order_file.specs.declared.reader.Condition.{Condition}
use Rattle.order_file.specs.declared.reader.Condition.TheVariants.{BeforeNames, AmongValues, Stopped}
use Rattle.order_file.proofs.Texts.{line_long, not_text, fits_push, text_push}

-- of the file bs the instructions cs are read, and t is left, from line n on
unfoldable pub Progress : List ℕ → Condition → List ℕ → ℕ → List Instruction → Type 0
Progress bs BeforeNames t n cs = (t ≡ bs) × (n ≡ 1) × (cs ≡ [])
Progress bs AmongValues t n cs = Fits cs × (bs ≡ text_of cs ++ t) × (n ≡ length cs + 2)
Progress bs Stopped t n cs = Fits cs × (bs ≡ text_of cs)

-- a line that gives an instruction
pub added : (bs : List ℕ) (k : Condition) (t : List ℕ) (n : ℕ) (cs : List Instruction) (o : Option Instruction) (c : Instruction) (to : Condition) (u : List ℕ) (m : ℕ) (ds : List Instruction)
    → Progress bs k t n cs → Moves k t n (Ok o) to u m → o ≡ Some c → ds ≡ cs ++ c ∷ [] → Progress bs to u m ds
unfolding Progress Moves
added bs k t n cs None c to u m ds p v a e = absurd (let z : ◌≡◌ {A = ℕ} 0 1 = cc in omega arith)
added bs BeforeNames t n cs (Some d) c to u m ds p v a e = absurd v
added bs AmongValues t n cs (Some d) c to u m ds p v a e =
    let same : d ≡ c = cc in
    let ds-is : ds ≡ cs ++ d ∷ [] = e ∙ ap (λ (x : Instruction). cs ++ x ∷ []) (sym same) in
    rw (v.0, ds-is) (fits_push cs d p.0 v.1, p.1 ∙ ap (λ (x : List ℕ). text_of cs ++ x) v.2 ∙ text_push cs d u, omega (arith, v.3, p.2, length-append cs (d ∷ [])))
added bs Stopped t n cs (Some d) c to u m ds p v a e = absurd v

-- the bytes that such a line takes
pub taken_off : (k : Condition) (t : List ℕ) (n : ℕ) (o : Option Instruction) (c : Instruction) (to : Condition) (u : List ℕ) (m : ℕ) → Moves k t n (Ok o) to u m → o ≡ Some c
    → length u + field_count ≤ length t
unfolding Moves
taken_off k t n None c to u m v e = absurd (let z : ◌≡◌ {A = ℕ} 0 1 = cc in omega arith)
taken_off BeforeNames t n (Some d) c to u m v e = absurd v
taken_off AmongValues t n (Some d) c to u m v e = omega (arith, ap length v.2 ∙ length-append (written d) (10 ∷ u), line_long d v.1)
taken_off Stopped t n (Some d) c to u m v e = absurd v

-- the steps that are left, at most
abbrev pub steps_left : Condition → List ℕ → ℕ
steps_left k t = length t + cond (stopped k) 0 1

pub record Refused (bs : List ℕ) (f : Fault) : Type 0 where
  pub accepted : (cs : List Instruction) → length bs ≤ most_bytes → Fits cs → bs ≡ text_of cs → ⊥
  pub fault : IsBadFile bs f

pub refused : (bs : List ℕ) (k : Condition) (t : List ℕ) (n : ℕ) (cs : List Instruction) (f : Fault) (to : Condition) (u : List ℕ) (m : ℕ)
    → length bs ≤ most_bytes → Progress bs k t n cs → Moves k t n (Err f) to u m → Refused bs f
unfolding Progress Moves
refused bs BeforeNames t n cs f to u m l p v =
    record { accepted = λ ds s h e. v.1 (lines_of ds) (p.0 ∙ e); fault = inr (inl (l, (λ w e. v.1 w (p.0 ∙ e)), v.2)) }
refused bs AmongValues t n cs f to u m l p v =
    record {
      accepted = λ ds s h e. not_text bs t n f cs p.0 p.1 v.1 v.2 ds h e;
      fault = inr (inr (l, (cs, t, p.0, p.1, v.1, rw (← p.2) v.2)));
    }
refused bs Stopped t n cs f to u m l p v = absurd v
