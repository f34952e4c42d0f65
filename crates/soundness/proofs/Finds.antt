-- What a search finds stands where it was found and passes the test; and what the checks of a call leave, where none fails.
use Rattle.std.proofs.Common.{◌≡◌, ℕ, Bool, true, ◌≢◌, List, [], ◌∷◌, Some, None, Option, refl, ap, arith}
use Rattle.std.proofs.lemmas.Bool.Decides.{nat_tests}
use Rattle.std.proofs.lemmas.Bool.{cond_both}
use Rattle.ranking.specs.Place.{Spot, past, locate}
use Rattle.market.specs.declared.types.Resting.{Resting}
use Rattle.market.specs.declared.types.Refusal.{Refusal}
use Rattle.market.specs.States.{State, owned}
use Rattle.market.specs.Calls.{or_else, numbers_refusal, Place, either, find}
use Rattle.soundness.specs.Stands.{Among, Stands}

-- what a search finds
abbrev pub Located : {X : Type 0} → (X → Bool) → List X → Option (Spot X) → Type 0
Located t xs None = Unit {0}
Located t xs (Some s) = Among xs s × (t s.line ≡ true)

past_located : {X : Type 0} (t : X → Bool) (x : X) (xs : List X) (o : Option (Spot X)) → Located t xs o → Located t (x ∷ xs) (past x o)
past_located t x xs None h = tt
past_located t x xs (Some s) h = (ap (λ l. x ∷ l) h.0, h.1)

pub located : {X : Type 0} (t : X → Bool) (xs : List X) → Located t xs (locate t xs)
located t [] = tt
located t (x ∷ xs) = cond_both (t x) _ _ (λ o. Located t (x ∷ xs) o) (λ e. (refl, e)) (λ _. past_located t x xs (locate t xs) (located t xs))

-- the resting order that a user names stands on its side, under that number and of that user
abbrev pub FoundIn : ℕ → ℕ → State → Option Place → Type 0
FoundIn user n s None = Unit {0}
FoundIn user n s (Some p) = Stands s p × (owned user n p.spot.line ≡ true)

either_found : (user n : ℕ) (s : State) (o o' : Option (Spot Resting)) → Located (owned user n) s.buys o → Located (owned user n) s.sells o' → FoundIn user n s (either o o')
either_found user n s (Some x) o h h' = h
either_found user n s None (Some x) h h' = h'
either_found user n s None None h h' = tt

pub found : (user n : ℕ) (s : State) → FoundIn user n s (find user n s)
found user n s = either_found user n s (locate (owned user n) s.buys) (locate (owned user n) s.sells) (located (owned user n) s.buys) (located (owned user n) s.sells)

-- a number is left
pub some_left : (s : State) → numbers_refusal s ≡ None → s.next ≢ 0
some_left s e z = grind (arith, nat_tests)

-- two checks, neither of which fails
pub first_passes : (o o' : Option Refusal) → or_else o o' ≡ None → o ≡ None
first_passes (Some why) o e = e
first_passes None o e = refl

pub second_passes : (o o' : Option Refusal) → or_else o o' ≡ None → o' ≡ None
second_passes (Some why) o e = cc
second_passes None o e = e
