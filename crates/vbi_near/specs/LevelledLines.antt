-- Levelled lines: the running mean over six cells is taken off, what the samples swing about it is made as much as
-- white is above black on levels of their own, and the samples are smoothed. So the level of a signal may wander, and
-- the signal may be weak or strong. In place of a mean stands the sum of its window, and what is compared with it is
-- multiplied by the columns of the window.
use Rattle.std.specs.Prelude.{◌≡◌, ◌≤◌, ◌<◌, ℕ, ◌+◌, ◌-◌, ◌*◌, ◌/◌, ◌&&◌, min, max, nat_le, if◌then◌else◌, Bool, true}
use Rattle.std.specs.Prelude.{false, List, [], ◌∷◌, length, map, take, drop, slice_index}
use Rattle.std.specs.{List.sum, List.range_with_len, Int.abs_diff}
use Rattle.vbi_near.specs.Common.{System, Ntsc, Pal, width_of, Slicing, unit_of}

-- ---- the running mean

-- the columns of the running mean: six cells of two microseconds
abbrev pub window_of : System → ℕ
window_of Ntsc = 172
window_of Pal = 213

-- the first of the columns that a drawn word and the black about it can have
abbrev pub first_of : System → ℕ
first_of Ntsc = 143
first_of Pal = 180

-- the column after the last one that a drawn word and the black about it can have
abbrev pub end_of : System → ℕ
end_of Ntsc = 844
end_of Pal = 1049

-- how many columns a drawn word and the black about it can have
abbrev pub columns_of : System → ℕ
columns_of system = end_of system - first_of system

-- the first column of the window of a column: half a window before it, but no window begins before those columns or
-- ends after them
abbrev pub window_start : System → ℕ → ℕ
window_start system column =
    min (max (column - window_of system / 2) (first_of system)) (end_of system - window_of system)

-- the sum of the samples from this column on, this many of them
abbrev pub sum_from : List ℕ → ℕ → ℕ → ℕ
sum_from samples column n = sum (take n (drop column samples))

-- the sum of a column's window
abbrev pub window_sum : System → List ℕ → ℕ → ℕ
window_sum system samples column = sum_from samples (window_start system column) (window_of system)

-- ---- the swing

-- how far a column's sample is from the mean of its window, times the columns of the window
abbrev pub off_mean : System → List ℕ → ℕ → ℕ
off_mean system samples column =
    abs_diff (window_of system * slice_index samples column) (window_sum system samples column)

-- how far this many columns are from their means in sum
abbrev pub off_in : System → List ℕ → ℕ → ℕ
off_in system samples n = sum (map (off_mean system samples) (range_with_len (first_of system) n))

-- how far a line's high samples are from its low ones: twice as far as the columns are from their means, in the mean of
-- them, rounded down
unfoldable pub swing_of : System → List ℕ → ℕ
swing_of system samples =
    2 * off_in system samples (columns_of system) / (window_of system * columns_of system)

-- a line is levelled if its swing is at least 3 and at most 16 tenths of what white is from black
abbrev pub is_swing : ℕ → ℕ → Bool
is_swing unit swing = nat_le (3 * unit) (10 * swing) && nat_le (10 * swing) (16 * unit)

-- ---- the levelled samples

-- how far white is above black on levelled lines, whatever the levels of the samples
abbrev pub levelled_unit : ℕ
levelled_unit = 16384

-- black and white of levelled lines: half way between them lies the middle of the range of samples, and a sample may be
-- beyond either by one and a half times as much
abbrev pub levelled_slicing : Slicing
levelled_slicing = record { black = 24576; white = 40960 }

-- a sample and the mean of its window, both times the same, levelled: the mean becomes the middle, and what `scale` is
-- becomes as much as white is above black; rounded down, and cut to the range of samples
unfoldable pub levelled_sample : ℕ → ℕ → ℕ → ℕ
levelled_sample scale own mean =
    if nat_le mean own
    then min (32768 + (own - mean) * levelled_unit / scale) 65535
    else 32768 - ((mean - own) * levelled_unit + (scale - 1)) / scale

-- the levelled sample of a column, by the swing times the columns of the window
abbrev pub levelled_at : System → ℕ → List ℕ → ℕ → ℕ
levelled_at system scale samples column =
    levelled_sample scale (window_of system * slice_index samples column) (window_sum system samples column)

-- the levelled samples of a line
unfoldable pub levelled_each : System → List ℕ → List ℕ
levelled_each system samples =
    map (levelled_at system (window_of system * swing_of system samples) samples)
    (range_with_len 0 (width_of system))

-- a sample smoothed: a quarter of the sum of the one before, twice itself and the one after, rounded down
abbrev pub smoothed_sample : ℕ → ℕ → ℕ → ℕ
smoothed_sample before own after = (before + 2 * own + after) / 4

-- samples smoothed that come after this one; what comes after the last is as the last
unfoldable pub smoothed_after : ℕ → List ℕ → List ℕ
smoothed_after before [] = []
smoothed_after before (own ∷ []) = smoothed_sample before own own ∷ []
smoothed_after before (own ∷ after ∷ samples) =
    smoothed_sample before own after ∷ smoothed_after own (after ∷ samples)

-- samples smoothed; what comes before the first is as the first
unfoldable pub smoothed : List ℕ → List ℕ
smoothed [] = []
smoothed (first ∷ samples) = smoothed_after first (first ∷ samples)

-- the levelled line
abbrev pub levelled : System → List ℕ → List ℕ
levelled system samples = smoothed (levelled_each system samples)

-- ---- erased columns

-- half way between black and white, rounded down
abbrev pub middle_of : Slicing → ℕ
middle_of slicing = slicing.black + unit_of slicing / 2

-- the samples of a line, of which the erased ones count as half way between black and white
abbrev pub filled : Slicing → List Bool → List ℕ → List ℕ
filled slicing (true ∷ erased) (sample ∷ samples) = middle_of slicing ∷ filled slicing erased samples
filled slicing (false ∷ erased) (sample ∷ samples) = sample ∷ filled slicing erased samples
filled slicing erased samples = []

-- ---- sums of samples

-- `sums` has for each column the sum of the samples before it
pub record AreSampleSums (samples sums : List ℕ) : Type 0 where
  pub room : length samples + 1 ≤ length sums
  pub each : (column : ℕ) → column ≤ length samples → slice_index sums column ≡ sum (take column samples)

-- `windows` has for each column the sum of its window
abbrev pub AreWindows : System → List ℕ → List ℕ → Type 0
AreWindows system samples windows =
    (column : ℕ) → column < width_of system → slice_index windows column ≡ window_sum system samples column
