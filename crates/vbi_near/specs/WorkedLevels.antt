-- Lines written down, whose samples are low and high in turn.
use Rattle.std.specs.Prelude.{ℕ, ◌+◌, ◌*◌, ◌%◌, List, map, nat_lt, if◌then◌else◌}
use Rattle.std.specs.List.{range_with_len}
use Rattle.vbi_near.specs.Common.{System, width_of, Slicing}

-- the levels of a line
abbrev pub slicing_at : ℕ → ℕ → Slicing
slicing_at black white = record { black = black; white = white }

-- a line whose samples are low in this many columns, then high in as many, and so on
abbrev pub wave : System → ℕ → ℕ → ℕ → List ℕ
wave system columns low high =
    map (λ column. if nat_lt (column % (2 * columns)) columns then low else high) (range_with_len 0 (width_of system))

-- a line at a level that is so much higher
abbrev pub raised : ℕ → List ℕ → List ℕ
raised level samples = map (λ sample. sample + level) samples

-- a line of low and high samples whose level climbs by so much in each column
abbrev pub climbing : System → ℕ → ℕ → ℕ → ℕ → List ℕ
climbing system columns low high step =
    map (λ column. (if nat_lt (column % (2 * columns)) columns then low else high) + step * column)
    (range_with_len 0 (width_of system))
