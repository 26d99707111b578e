-- As far as a sample counts at most: all that proofs use of it.
use Rattle.std.proofs.Common.{◌≤◌, ◌<◌, arith}
use Rattle.vbi_near.proofs.Common.{Slicing, unit_of, most_of}

-- no farther than white is from black
pub most_of-within : (slicing : Slicing) → most_of slicing ≤ unit_of slicing
unfolding most_of
most_of-within slicing = omega arith

-- something, if black is below white
pub most_of-some : (slicing : Slicing) → slicing.black < slicing.white → 0 < most_of slicing
unfolding most_of
most_of-some slicing order = omega (arith, order)

-- in the range of samples, if white is
pub most_of-fits : (slicing : Slicing) → slicing.white ≤ 65535 → most_of slicing ≤ 65535
unfolding most_of
most_of-fits slicing low = omega (arith, low)
