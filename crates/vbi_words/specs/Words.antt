-- The 24-bit code words of a LaserDisc (IEC 60857 for NTSC, IEC 60856 for PAL), and the half cells in which they are
-- written.
use Rattle.std.specs.Prelude.{ℕ, suc, zero, ◌≤◌, ◌<◌, ◌^◌, Bool, not, List, [], ◌∷◌, nat_eq, Option, IfSome}
use Rattle.std.specs.List.{flat_map}
use Rattle.std.specs.Int.{bit_at}

-- a number of 24 bits whose top bit is 1 (that the top bit must be 1 is this project's own rule)
abbrev pub IsWord : ℕ → Type 0
IsWord w = (2 ^ 23 ≤ w) × (w < 2 ^ 24)

-- a word, or none
abbrev pub IsWordOrNone : Option ℕ → Type 0
IsWordOrNone word = IfSome word IsWord

-- the n lowest bits of a number, the most significant first
unfoldable pub lowest_bits : ℕ → ℕ → List Bool
lowest_bits zero w = []
lowest_bits (suc n) w = nat_eq (bit_at w n) 1 ∷ lowest_bits n w

-- the two half cells of a bit: a one is low and then high, a zero is high and then low
abbrev pub cell_of : Bool → List Bool
cell_of one = not one ∷ one ∷ []

-- the 48 half cells of a word
abbrev pub halves_of : ℕ → List Bool
halves_of w = flat_map cell_of (lowest_bits 24 w)
