-- Numbers that a disc leaves out to keep to the clock, and where the others stand.
use Rattle.std.specs.Prelude.{◌%◌, ◌<◌, ◌==◌, ◌&&◌, nat_lt, nat_le, ◌≡◌, ℕ, ◌+◌, ◌*◌, ◌-◌, ◌/◌, ◌≤◌, Bool, true}
use Rattle.std.specs.Prelude.{false, List, Option, Some, None, if◌then◌else◌}
use Rattle.vbi_side.specs.Types.{Clock, Plain, DropFrame, OneIn, Pace, Video, Number, Place}
use Rattle.vbi_side.specs.Paces.{spot, fits, nearly}
use Rattle.vbi_side.specs.Numbers.{IsMarked}

-- this many numbers below n leave this remainder by the period
abbrev pub passed : ℕ → ℕ → ℕ → ℕ
passed period remainder n = (n + (period - 1 - remainder)) / period

-- this many numbers below n the clock leaves out: the first and the second one of each minute that begins below n, less
-- those of each tenth minute; or those below n that leave the phase
unfoldable pub left_out : Clock → ℕ → ℕ
left_out Plain n = 0
left_out DropFrame n = (passed 1800 0 n + passed 1800 1 n) - (passed 18000 0 n + passed 18000 1 n)
left_out (OneIn period phase) n = passed period phase n

-- number n is left out
abbrev pub leaves_out : Clock → ℕ → Bool
leaves_out Plain n = false
leaves_out DropFrame n = nat_lt (n % 1800) 2 && nat_le 1800 (n % 18000)
leaves_out (OneIn period phase) n = (n % period) == phase

-- there are numbers that leave the phase
abbrev pub IsProper : Clock → Type 0
IsProper Plain = Unit {0}
IsProper DropFrame = Unit {0}
IsProper (OneIn period phase) = phase < period

-- this many of the numbers between m and n are left out
abbrev pub out_between : Clock → ℕ → ℕ → ℕ
out_between clock m n = left_out clock n - left_out clock (m + 1)

-- this many numbers below n the disc has
unfoldable pub kept : Clock → ℕ → ℕ
kept Plain n = n
kept clock n = n - left_out clock n

-- number n begins this many fields after the disc's first number
abbrev pub place : Clock → ℕ → ℕ
place clock n = 2 * kept clock n

-- the places of number m in field i and number n in field k are as far apart as the fields
abbrev pub clock_fits : Clock → ℕ → ℕ → ℕ → ℕ → Bool
clock_fits clock i m k n = fits Video i (kept clock m) k (kept clock n)

-- a number in the place that the clock leaves it
abbrev pub by_clock : Clock → Place → Place
by_clock clock a = spot a.field (kept clock a.number)

-- by the clock two places nearly fit, at this pace
abbrev pub nearly_by : Clock → Pace → ℕ → Place → Place → Bool
nearly_by clock pace slack a b = nearly pace slack (by_clock clock a) (by_clock clock b)

-- no clock is known
abbrev pub is_plain : Clock → Bool
is_plain Plain = true
is_plain _ = false

-- ---- discs

-- the disc counts by the clock from its beginning to its end, at this pace: any two of its fields that have numbers
-- have such as fit by the clock
abbrev pub DiscCountsBy : Clock → Pace → (ℕ → Option ℕ) → Type 0
DiscCountsBy clock pace disc = (d e m n : ℕ) → disc d ≡ Some m → disc e ≡ Some n
    → fits pace d (kept clock m) e (kept clock n) ≡ true

-- a disc of video, which may have a number on both fields of its picture, counts so by the clock: to within a slack of
-- 1 if it has, else of 0
abbrev pub DiscNearlyBy : Clock → ℕ → (ℕ → Option ℕ) → Type 0
DiscNearlyBy clock slack disc = (d e m n : ℕ) → disc d ≡ Some m → disc e ≡ Some n
    → e + 2 * kept clock m ≤ d + 2 * kept clock n + slack

-- the clock leaves out no number within reach of number n: none of the 12 before it, nor of the 12 from it on
abbrev pub IsClear : Clock → ℕ → Type 0
IsClear clock n = left_out clock (n + 12) ≡ left_out clock (n - 12)

-- this many numbers within reach of number n are left out
abbrev pub out_near : Clock → ℕ → ℕ
out_near clock n = left_out clock (n + 12) - left_out clock (n - 12)

-- the clock leaves out no number within reach of the one that is believed of field i
abbrev pub IsClearAt : Clock → List Number → ℕ → Type 0
IsClearAt clock answers i = (n : ℕ) → IsMarked answers i n → IsClear clock n

-- ---- there are such discs

-- picture p of a disc of video begins in field 2 * p and has this number
abbrev pub numbered : (ℕ → ℕ) → ℕ → Option ℕ
numbered number d = if d % 2 == 0 then Some (number (d / 2)) else None

-- the numbers of drop-frame: 17,982 pictures to ten minutes, of which the first has 1,800 and each other one 1,798
abbrev pub drop_number : ℕ → ℕ
drop_number p = p + 18 * (p / 17982) + 2 * ((p % 17982 - 2) / 1798)

-- the numbers of a disc that leaves out one in 1,000, and of one that leaves out one in 1,001
abbrev pub thousand_number : ℕ → ℕ → ℕ
thousand_number phase p = p + (p + (999 - phase)) / 999

abbrev pub more_number : ℕ → ℕ → ℕ
more_number phase p = p + (p + (1000 - phase)) / 1000
