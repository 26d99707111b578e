-- The sizes by which a machine reads words, what has to hold of them, and those of a line.
use Rattle.vbi_words.proofs.Common.{◌≡◌, ℕ, ◌≤◌, ◌<◌, ◌+◌, ◌*◌, refl, lit≤, arith, System, Ntsc, Pal, width_of}
use Rattle.vbi_words.proofs.Common.{line_bytes, half_min, half_max}

-- the fewest and the most columns of a half cell, and the cells of a word
pub record Sizes : Type 0 where
  pub least : ℕ
  pub greatest : ℕ
  pub cells : ℕ

-- a half cell has a column and is shorter than any two, and a word has a cell
pub record AreApart (sizes : Sizes) : Type 0 where
  pub positive : 0 < sizes.least
  pub order : sizes.least ≤ sizes.greatest
  pub apart : sizes.greatest < sizes.least + sizes.least
  pub some : 0 < sizes.cells

-- the sizes of a system's words
abbrev pub sizes_of : System → Sizes
sizes_of system = record { least = half_min system; greatest = half_max system; cells = 24 }

pub apart_of : (system : System) → AreApart (sizes_of system)
apart_of Ntsc = record { positive = omega arith; order = omega arith; apart = omega arith; some = omega arith }
apart_of Pal = record { positive = omega arith; order = omega arith; apart = omega arith; some = omega arith }

-- ---- of a line

-- a line has two bytes a sample
pub line_bytes-twice : (s : System) → line_bytes s ≡ 2 * width_of s
line_bytes-twice Ntsc = refl
line_bytes-twice Pal = refl

-- a line fits its buffer
pub line_bytes-le : (s : System) → line_bytes s ≤ 2270
line_bytes-le Ntsc = lit≤ tt
line_bytes-le Pal = lit≤ tt

-- two half cells fit a word of 64 bits
pub half_max-le : (s : System) → half_max s ≤ 22
half_max-le Ntsc = lit≤ tt
half_max-le Pal = lit≤ tt
