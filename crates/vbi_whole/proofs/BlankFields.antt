-- Where fields without a number are no more than a scratch has, and where the first of more are.
use Rattle.std.proofs.Common.{◌≡◌, ℕ, suc, ◌+◌, ◌<◌, ◌≤◌, true, List, arith, inl, inr, length}
use Rattle.std.proofs.lemmas.Bool.{and_parts, leb-true}
use Rattle.std.proofs.lemmas.Bool.Decides.{leb_tells}
use Rattle.std.proofs.lemmas.Option.{slice_get_within}
use Rattle.vbi_whole.specs.Types.{Number, Pace, Rule}
use Rattle.vbi_whole.specs.BlankFields.{IsBlank, IsBlankTo, IsBlankTold}
use Rattle.vbi_side.specs.Numbers.{believed}
use Rattle.vbi_side.specs.Paces.{spot, nearly}
use Rattle.vbi_side.proofs.Truth.{film_fits}

-- how far a number lies at most from the next one, if that goes on
pub near_by : (pace : Pace) (slack i m j n : ℕ) → nearly pace slack (spot i m) (spot j n) ≡ true → n ≤ m + 1
    → j ≤ i + 3 + slack
near_by pace slack i m j n h1 h2 = grind (arith, and_parts, film_fits, leb-true)

-- so short a side has none
pub short_side : (rule : Rule) (answers : List Number) → length answers ≤ 102 → (i : ℕ)
    → IsBlank rule answers i → ⊥
short_side rule answers few i (k, blank) =
    omega (arith, few, blank.many, slice_get_within answers k (believed blank.n) blank.on.neighbours.there)

-- where one ends, and none before, none begins before it
pub first_of_blanks : (rule : Rule) (answers : List Number) (i k : ℕ)
    → IsBlankTo rule answers i k
    → ((e : ℕ) → e < k → (h : ℕ) → IsBlankTo rule answers h e → ⊥)
    → IsBlankTold rule answers (suc i)
first_of_blanks rule answers i k blank none = (
  (k, blank),
  λ h less (e, other). elim (leb_tells k e) [
    | inl (t, far) ↦ other.on.neighbours.between i blank.m less
        (omega (arith, blank.many, far)) blank.on.neighbours.here
    | inr (f, near) ↦ none e near h other
  ],
)
