-- What a file that writes instructions looks like, line by line.
use Rattle.std.proofs.Common.{◌≡◌, ℕ, ◌+◌, ◌<◌, ◌≤◌, List, [], ◌∷◌, ◌++◌, map, length, take, Err, sym, ap, ◌∙◌, subst, inl, inr, arith}
use Rattle.std.proofs.lemmas.List.{append_assoc, append_cancel_left, length-append, flat_map_more}
use Rattle.market.specs.Written.{Cell, shown, spaced_after}
use Rattle.order_file.specs.Instructions.{instruction_verb, verb_word, values_of, texts, written, Fit}
use Rattle.order_file.specs.Fields.{Want}
use Rattle.order_file.specs.Lines.{field_count, wants, cut, Faults}
use Rattle.order_file.specs.Files.{names, lines_of, text_of, Fits, IsBadLine}
use Rattle.order_file.specs.declared.instructions.Instruction.{Instruction}
use Rattle.order_file.specs.declared.faults.Fault.{Fault}
use Rattle.order_file.proofs.Cuts.{cut_spaced}
use Rattle.order_file.proofs.Words.{Free, free, verb_free}
use Rattle.order_file.proofs.Strays.{Fills, fills, meets_free, plain, cut_line}
use Rattle.order_file.proofs.Moves.{one_way, has_end, single}

free_append : (xs ys : List ℕ) → Free 10 xs → Free 10 ys → Free 10 (xs ++ ys)
free_append [] ys h g = g
free_append (x ∷ xs) ys h g = (h.0, free_append xs ys h.1 g)

spaced_free : (p : List ℕ) (ws : List Want) (fs : List Cell) → Free 10 p → Fills ws fs → Free 10 (spaced_after p (map shown fs))
spaced_free p [] [] h g = h
spaced_free p [] (f ∷ fs) h g = absurd g
spaced_free p (w ∷ ws) [] h g = absurd g
spaced_free p (w ∷ ws) (f ∷ fs) h g =
    free_append p (32 ∷ spaced_after (shown f) (map shown fs)) h
    ((λ e. omega arith), spaced_free (shown f) ws fs (meets_free 10 (omega arith) w f g.0) g.1)

-- no instruction's line has a line end in it
pub line_free : (c : Instruction) → Fit c → Free 10 (written c)
line_free c h = spaced_free (verb_word (instruction_verb c)) (wants (instruction_verb c)) (values_of c) (verb_free 10 (omega arith) (instruction_verb c)) (fills c h)

spaced_long : (p : List ℕ) (ps : List (List ℕ)) → length ps ≤ length (spaced_after p ps)
spaced_long p [] = omega arith
spaced_long p (q ∷ qs) = omega (arith, spaced_long q qs, length-append p (32 ∷ spaced_after q qs))

-- a line is at least as long as its spaces
pub line_long : (c : Instruction) → Fit c → field_count ≤ length (written c) + 1
line_long c h = omega (arith, spaced_long (verb_word (instruction_verb c)) (map shown (values_of c)), (plain c h).1)

-- lines after which t is left begin the lines of the instructions whose lines they are
pub nothing : (p xs : List ℕ) → (p ++ 10 ∷ []) ++ xs ≡ [] → ⊥
nothing [] xs e = omega (arith, ap length e)
nothing (b ∷ p) xs e = omega (arith, ap length e)

grouped : (p xs t : List ℕ) → ((p ++ 10 ∷ []) ++ xs) ++ t ≡ p ++ 10 ∷ (xs ++ t)
grouped p xs t = simp append_assoc

first : (t : List ℕ) (cs : List Instruction) → Fits cs → t ≡ lines_of cs → 0 < length t → ((c : Instruction) (u : List ℕ) → Fit c → t ≡ written c ++ 10 ∷ u → ⊥) → ⊥
first t [] h e l bad = omega (arith, ap length e)
first t (c ∷ cs) h e l bad = bad c (lines_of cs) h.0 (e ∙ single (written c) (lines_of cs))

record Left (t : List ℕ) : Type 0 where
  left_over : List Instruction
  fit : Fits left_over
  is : t ≡ lines_of left_over

left : (ds cs : List Instruction) (t : List ℕ) → Fits ds → Fits cs → lines_of ds ++ t ≡ lines_of cs → Left t
left [] cs t g h e = record { left_over = cs; fit = h; is = e }
left (d ∷ ds) [] t g h e = absurd (nothing (written d) (lines_of ds ++ t) (sym (append_assoc (written d ++ 10 ∷ []) (lines_of ds) t) ∙ e))
left (d ∷ ds) (c ∷ cs) t g h e =
    let e' : written d ++ 10 ∷ (lines_of ds ++ t) ≡ written c ++ 10 ∷ lines_of cs = sym (grouped (written d) (lines_of ds) t) ∙ e ∙ single (written c) (lines_of cs) in
    left ds cs t g.1 h.1 (one_way (written d) (written c) _ _ (line_free d g.0) (line_free c h.0) e').1

-- a line with a fault writes no instruction
not_written : (l : List ℕ) (n : ℕ) (f : Fault) → Faults l n (Err f) → (c : Instruction) → Fit c → l ≡ written c → ⊥
not_written l n f (inl a) c h e = let q = plain c h in a.0 (texts c) q.1 q.0 e
not_written l n f (inr a) c h e =
    let same : texts c ≡ a.0 = sym (cut_line l c h e) ∙ ap cut a.3 ∙ cut_spaced a.0 (omega (arith, a.1)) a.2 in
    a.4.no_further c h (ap (take (a.4.before + 1)) same)

not_first : (t : List ℕ) (n : ℕ) (f : Fault) → IsBadLine t n f → (c : Instruction) (u : List ℕ) → Fit c → t ≡ written c ++ 10 ∷ u → ⊥
not_first t n f (inl a) c u h e = has_end (written c) u (subst (Free 10) e (free 10 t a.0))
not_first t n f (inr a) c u h e =
    not_written a.0 n f a.4 c h (one_way a.0 (written c) a.1 u (free 10 a.0 a.3) (line_free c h) (sym a.2 ∙ e)).0

-- and a file with such a line after some instructions' writes no instructions
pub not_text : (bs t : List ℕ) (n : ℕ) (f : Fault) (ds : List Instruction) → Fits ds → bs ≡ text_of ds ++ t → 0 < length t → IsBadLine t n f
    → (cs : List Instruction) → Fits cs → bs ≡ text_of cs → ⊥
not_text bs t n f ds g e l bad cs h q =
    let e' : lines_of ds ++ t ≡ lines_of cs = append_cancel_left (names ++ 10 ∷ []) _ _ (sym (append_assoc (names ++ 10 ∷ []) (lines_of ds) t) ∙ sym e ∙ q) in
    let r = left ds cs t g h e' in
    first t r.left_over r.fit r.is l (not_first t n f bad)

pub fits_push : (cs : List Instruction) (c : Instruction) → Fits cs → Fit c → Fits (cs ++ c ∷ [])
fits_push [] c h g = (g, tt)
fits_push (d ∷ cs) c h g = (h.0, fits_push cs c h.1 g)

pub text_push : (cs : List Instruction) (c : Instruction) (u : List ℕ) → text_of cs ++ (written c ++ 10 ∷ u) ≡ text_of (cs ++ c ∷ []) ++ u
text_push cs c u =
    let a : text_of cs ++ (written c ++ 10 ∷ u) ≡ (text_of cs ++ (written c ++ 10 ∷ [])) ++ u = simp append_assoc in
    a ∙ ap (λ (x : List ℕ). x ++ u) (flat_map_more (λ (x : Instruction). written x ++ 10 ∷ []) (names ++ 10 ∷ []) cs c)
