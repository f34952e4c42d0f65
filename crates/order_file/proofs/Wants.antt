-- Wants met and not met, along the fields of a line.
use Rattle.std.proofs.Common.{◌≡◌, ℕ, List, [], ◌∷◌, ◌++◌, map, IsErrAnd, MatchResult, Ok, Err, Result, sym, ap, ◌∙◌, subst, inl, inr}
use Rattle.market.specs.Written.{shown}
use Rattle.order_file.specs.Instructions.{verb_word, values_of, texts, Fit}
use Rattle.order_file.specs.declared.instructions.Instruction.TheVariants.{Close as Close'}
use Rattle.order_file.specs.declared.instructions.Verb.TheVariants.{Close}
use Rattle.order_file.specs.declared.lines.Row.{Row}
use Rattle.std.proofs.lemmas.Result.{err_from_is_err_and}
use Rattle.order_file.specs.Fields.{Want}
use Rattle.order_file.specs.Lines.{wants, values, Amiss, AllGood, WordAlone, Taken}
use Rattle.order_file.specs.declared.faults.Fault.{Fault}
use Rattle.order_file.specs.declared.instructions.Instruction.{Instruction}
use Rattle.order_file.specs.declared.instructions.Verb.{Verb}
use Rattle.order_file.specs.declared.fields.Part.{Part}

-- what is amiss among the first fields is so in the whole line
pub front : (ws vs : List Want) (ps qs : List Part) (f : Fault) → Amiss ws ps f → Amiss (ws ++ vs) (ps ++ qs) f
front [] vs ps qs f a = absurd a
front (w ∷ ws) vs [] qs f a = absurd a
front (w ∷ ws) vs (p ∷ ps) qs f (inl a) = inl a
front (w ∷ ws) vs (p ∷ ps) qs f (inr a) = inr (a.0, front ws vs ps qs f a.1)

-- and so is what is amiss after fields that are good
pub after : (ws vs : List Want) (ps qs : List Part) (f : Fault) → AllGood ws ps → Amiss vs qs f → Amiss (ws ++ vs) (ps ++ qs) f
after [] vs [] qs f g a = a
after [] vs (p ∷ ps) qs f g a = absurd g
after (w ∷ ws) vs [] qs f g a = absurd g
after (w ∷ ws) vs (p ∷ ps) qs f g a = inr (g.0, after ws vs ps qs f g.1 a)

-- at the exit of a `?`: what holds of the error that is passed on
pub passed_on : {X : Type 0} (P : Result X Fault → Type 0) (r : Result X Fault) (f : Fault) → IsErrAnd r (λ y. y ≡ f) → P (Err f) → P r
passed_on P r f e a = let p = err_from_is_err_and r e in rw (p.1, p.2) a

-- a line that has a word alone
pub alone : (v : Verb) (c : Instruction) (row : Row) (r : Result (Unit {0}) Fault) (s : Result Instruction Fault) → wants v ≡ wants Close → Fit c
    → texts c ≡ verb_word v ∷ map shown (values_of Close') → WordAlone row r → MatchResult r (λ _. s ≡ Ok c) (λ f. s ≡ Err f) → Taken v (values row) s
alone v c row (Ok x) s w fit t h m = rw m (fit, t ∙ ap (λ (x : List (List ℕ)). verb_word v ∷ x) (sym h))
alone v c row (Err f) s w fit t h m = rw m (subst (λ (ws : List Want). Amiss ws (values row) f) (sym w) h)
