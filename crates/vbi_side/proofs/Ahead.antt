-- A believed number is one of the field's two sightings, judged beside the other.
use Rattle.std.proofs.lemmas.Bool.{cases_eq}
use Rattle.std.proofs.Common.{◌≡◌, ℕ, List, arith, sym, ◌∙◌, ap}
use Rattle.std.specs.Prelude.{Option, Some, None, slice_get, ◌⊎◌, ◌↔◌}
use Rattle.vbi_side.specs.Types.{Sighting, Sightings, Pace}
use Rattle.vbi_side.specs.Sightings.{Has}
use Rattle.vbi_side.specs.Paces.{spot}
use Rattle.vbi_side.specs.Beliefs.{Believed}
use Rattle.vbi_side.specs.Ahead.{IsBelieved}

one_number : (sighting : Sighting) (m n : ℕ) → Has sighting m → Has sighting n → m ≡ n
one_number sighting m n has others = sym has.1 ∙ others.1

-- a number that is ahead of the other sighting's is believed
pub ahead_believed : (pace : Pace) (fields : List Sightings) (i n : ℕ) (field : Sightings)
    → slice_get fields i ≡ Some field
    → IsBelieved pace fields (spot i n) field.line_17 field.line_18
    ⊎ IsBelieved pace fields (spot i n) field.line_18 field.line_17
    → Believed pace fields i n
ahead_believed pace fields i n field h1 h2 = grind (arith, one_number)

-- and the other way round
pub believed_ahead : (pace : Pace) (fields : List Sightings) (i n : ℕ) (field : Sightings)
    → slice_get fields i ≡ Some field → Believed pace fields i n
    → IsBelieved pace fields (spot i n) field.line_17 field.line_18
    ⊎ IsBelieved pace fields (spot i n) field.line_18 field.line_17
believed_ahead pace fields i n field is b = grind arith

-- a field has at most one believed number
pub one_believed : (pace : Pace) (fields : List Sightings) (i m n : ℕ)
    → Believed pace fields i m → Believed pace fields i n → m ≡ n
one_believed pace fields i m n a b = grind (arith, cases_eq)

-- ---- of a field's two lines, if each is judged beside the other

-- where that of line 17 is found to be believed, it is the field's
pub first_judged : (First IsField : ℕ → Type 0) (x : ℕ) (found : Option ℕ) → ((n : ℕ) → First n → IsField n)
    → ((m n : ℕ) → IsField m → IsField n → m ≡ n) → found ≡ Some x → ((n : ℕ) → (found ≡ Some n) ↔ First n)
    → (n : ℕ) → (Some x ≡ Some n) ↔ IsField n
first_judged First IsField x found so one some tells n =
    (λ e. so n ((tells n).0 (some ∙ e)), λ b. ap Some (one x n (so x ((tells x).0 some)) b))

-- where it is not, that of line 18 is, if it is believed
pub second_judged : (First Second IsField : ℕ → Type 0) (found other : Option ℕ) → ((n : ℕ) → Second n → IsField n)
    → ((n : ℕ) → IsField n → First n ⊎ Second n) → found ≡ None → ((n : ℕ) → (found ≡ Some n) ↔ First n)
    → ((n : ℕ) → (other ≡ Some n) ↔ Second n) → (n : ℕ) → (other ≡ Some n) ↔ IsField n
second_judged First Second IsField found other h1 h2 h3 h4 h5 n = grind arith
