-- Samples, and the levels that they are sliced into.
-- A level is a `Bool`: `false` is low, `true` is high.
use Rattle.std.specs.Prelude.{ℕ, ◌+◌, ◌*◌, Bool, false, List, [], ◌∷◌, map, nat_lt, slice_index_or}

-- the sample values of black and of white, between which a line is sliced
pub record Slicing : Type 0 where
  pub black : ℕ
  pub white : ℕ

-- a sample is high if twice it is more than black and white together: one exactly midway is low
abbrev pub is_high_of : Slicing → ℕ → Bool
is_high_of slicing sample = nat_lt (slicing.black + slicing.white) (2 * sample)

-- the levels of samples
abbrev pub levels_of : Slicing → List ℕ → List Bool
levels_of slicing samples = map (is_high_of slicing) samples

-- the samples in a row's bytes: two bytes each, the low one first
abbrev pub samples_of : List ℕ → List ℕ
samples_of (low ∷ high ∷ bytes) = (low + 256 * high) ∷ samples_of bytes
samples_of _ = []

-- the levels of a row's bytes: whether each sample is high
abbrev pub row_levels : Slicing → List ℕ → List Bool
row_levels slicing bytes = map (is_high_of slicing) (samples_of bytes)

-- the level at a column, counted from 0; low past the end
abbrev pub level_at : List Bool → ℕ → Bool
level_at levels column = slice_index_or levels column false
