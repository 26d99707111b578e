-- When two numbers lie as a disc counts that runs on, or stands still.
use Rattle.std.specs.Prelude.{◌≡◌, ℕ, ◌+◌, ◌*◌, ◌%◌, ◌==◌, nat_le, ◌&&◌, Bool}
use Rattle.vbi_side.specs.Types.{Pace, Video, Film, Place}

-- number n in field i
abbrev pub spot : ℕ → ℕ → Place
spot i n = record { field = i; number = n }

-- number m in field i and number n in field j fit: of video they lie exactly 2 fields a picture apart, of film 2 1/2,
-- to within a field
abbrev pub fits : Pace → ℕ → ℕ → ℕ → ℕ → Bool
fits Video i m j n = (j + 2 * m) == (i + 2 * n)
fits Film i m j n = nat_le (2 * j + 5 * m) (2 * i + 5 * n + 2) && nat_le (2 * i + 5 * n) (2 * j + 5 * m + 2)

-- number m in field i and number n in field j are of one still: they are equal, an even number of fields apart
abbrev pub stays : ℕ → ℕ → ℕ → ℕ → Bool
stays i m j n = (n == m) && ((i + j) % 2 == 0)

-- number m in field i and number n in field j lie whole pictures apart: exactly 2 fields a picture, of film 2 1/2
abbrev pub Count : Pace → ℕ → ℕ → ℕ → ℕ → Type 0
Count Video i m j n = j + 2 * m ≡ i + 2 * n
Count Film i m j n = 2 * j + 5 * m ≡ 2 * i + 5 * n

-- two places nearly fit: of video to within this many fields
abbrev pub nearly : Pace → ℕ → Place → Place → Bool
nearly Video slack a b =
    nat_le (b.field + 2 * a.number) (a.field + 2 * b.number + slack)
    && nat_le (a.field + 2 * b.number) (b.field + 2 * a.number + slack)
nearly Film slack a b = fits Film a.field a.number b.field b.number
