-- More fields without a believed number, between two numbers that go on, than a scratch has: as many may be lost there
-- as are too many.
use Rattle.std.specs.Prelude.{ℕ, zero, suc, ◌+◌, ◌<◌, List}
use Rattle.vbi_whole.specs.Types.{Number, Rule}
use Rattle.vbi_side.specs.Paces.{spot}
use Rattle.vbi_whole.specs.Gaps.{GoesOn}

-- so many fields without a number may be a scratch
abbrev pub scratch : ℕ
scratch = 100

-- the numbers of fields i and k are neighbours that go on, and more fields lie between them than a scratch has
pub record IsBlankTo (rule : Rule) (answers : List Number) (i k : ℕ) : Type 0 where
  pub m : ℕ
  pub n : ℕ
  pub on : GoesOn rule answers (spot i m) (spot k n)
  pub many : i + scratch + 1 < k

-- such fields follow field i
abbrev pub IsBlank : Rule → List Number → ℕ → Type 0
IsBlank rule answers i = (k : ℕ) × IsBlankTo rule answers i k

-- this is the first field of such ones, or 0 stands for none
abbrev pub IsBlankTold : Rule → List Number → ℕ → Type 0
IsBlankTold rule answers zero = (i : ℕ) → IsBlank rule answers i → ⊥
IsBlankTold rule answers (suc i) =
    IsBlank rule answers i × ((h : ℕ) → h < i → IsBlank rule answers h → ⊥)
