-- The rows of numbers: by each way of playing a number in a field stands on one, and so does each that goes on so.
use Rattle.std.specs.Prelude.{ℕ, ◌+◌, ◌-◌, ◌*◌, ◌/◌, ◌%◌}
use Rattle.vbi_story.specs.declared.rows.Playing.{Playing}
use Rattle.vbi_story.specs.declared.rows.Playing.TheVariants.{Video, SecondField, FilmEarly, FilmLate, ThirdBegin}
use Rattle.vbi_story.specs.declared.rows.Playing.TheVariants.{ThirdMiddle, ThirdEnd, Twice, Thrice, Back, BackTwice}
use Rattle.vbi_story.specs.declared.rows.Playing.TheVariants.{BackThrice, Still}

-- the row of number n in field f, where no field is later than `last` and no number greater than `big`: of video a
-- picture lasts two fields, of film five halves, and at a third of the speed a number lasts six; at another speed so
-- many numbers go by in two fields, and of a still none; where that doesn't tell a first field from a second one, a row
-- lies between
abbrev pub row_of : Playing → ℕ → ℕ → ℕ → ℕ → ℕ
row_of Video last big f n = f + 2 * (big - n) + 1
row_of SecondField last big f n = f + 2 * (big - n)
row_of FilmEarly last big f n = f + (3 * big - 5 * n / 2)
row_of FilmLate last big f n = f + (3 * big - (5 * n + 1) / 2)
row_of ThirdBegin last big f n = f + 6 * (big - n) + 4
row_of ThirdMiddle last big f n = f + 6 * (big - n) + 2
row_of ThirdEnd last big f n = f + 6 * (big - n)
row_of Twice last big f n = 2 * (last - f) + 2 * n + f % 2
row_of Thrice last big f n = 3 * (last - f) + 2 * n
row_of Back last big f n = f + 2 * n
row_of BackTwice last big f n = 2 * f + 2 * n + f % 2
row_of BackThrice last big f n = 3 * f + 2 * n
row_of Still last big f n = 2 * n + f % 2
