-- The worked side as one of a disc that counts by a clock.
use Rattle.std.proofs.Common.{◌≡◌, ℕ, ◌*◌, ◌<◌, arith}
use Rattle.std.specs.Prelude.{Some, slice_get}
use Rattle.vbi_whole.specs.Types.{Clock, OneIn}
use Rattle.vbi_side.specs.Clocks.{left_out, kept, numbered, thousand_number, IsClear, IsClearAt}
use Rattle.vbi_side.specs.Sightings.{Shows}
use Rattle.vbi_side.specs.Truth.{wrong_weight}
use Rattle.vbi_whole.specs.WorkedSides.{worked_side, worked_answers}
use Rattle.vbi_side.proofs.Whole.{none_misread}
use Rattle.vbi_whole.proofs.WorkedPictures.{shown_is, shown_less, marked_is}

abbrev pub clock : Clock
clock = OneIn 1000 500

-- none of the first numbers is left out
pub same : (n : ℕ) → n < 25 → kept clock n ≡ n
unfolding kept left_out
same n less = omega (arith, less)

clear : (n : ℕ) → n < 25 → IsClear clock n
unfolding left_out
clear n less = omega (arith, less)

pub clear_at : (i : ℕ) → IsClearAt clock worked_answers i
clear_at i n at = clear n (marked_is i n at).1

has : (i n : ℕ) → n < 25 → i ≡ 2 * n → numbered (thousand_number 500) i ≡ Some n
has i n less e = grind arith

right : (i n : ℕ) → Shows (slice_get worked_side i) n → numbered (thousand_number 500) i ≡ Some n
right i n shown = has i n (omega (arith, shown_less 25 0 i n shown)) (omega (arith, shown_is 25 0 i n shown))

pub none_wrong : (i : ℕ) → wrong_weight (numbered (thousand_number 500)) worked_side i ≡ 0
none_wrong i = none_misread (numbered (thousand_number 500)) worked_side i right
