-- A part of a capture from which one of its fields can be judged.
use Rattle.std.specs.Prelude.{◌≡◌, ℕ, ◌+◌, ◌*◌, ◌≤◌, ◌⊎◌, List, slice_get}
use Rattle.vbi_side.specs.Beliefs.{reach}

-- the most fields on which the answer of one depends: itself, and 48 on either side
abbrev pub part_most : ℕ
part_most = 97

-- the part has what the whole has from field `first` on, and around its field i all that an answer depends on: 48
-- fields before it, or all that there are, and as many after it, or all that there are
pub record IsPart (A : Type 0) (whole part : List A) (first i : ℕ) : Type 0 where
  pub before : (first ≡ 0) ⊎ (2 * reach ≤ i)
  pub same : (j : ℕ) → j ≤ i + 2 * reach → slice_get part j ≡ slice_get whole (first + j)
