-- The codes that may stand on a line, as ranges of words, and places of drawn rows of these alone.
use Rattle.std.specs.Prelude.{◌≡◌, ◌≤◌, ◌⊎◌, ℕ, ◌+◌, List, [], ◌∷◌, Option, Some, None, ◌==◌, if◌then◌else◌, Bool, ◌&&◌}
use Rattle.std.specs.Prelude.{nat_le}
use Rattle.vbi_near.specs.Common.{System, Ntsc, Pal, width_of, IsWord, digit_of, IsBetween, word_length}

-- words whose six hexadecimal digits are each from that of the least to that of the greatest
pub record Range : Type 0 where
  pub least : ℕ
  pub greatest : ℕ

abbrev pub range : ℕ → ℕ → Range
range least greatest = record { least = least; greatest = greatest }

-- the word is in the range
abbrev pub IsIn : Range → ℕ → Type 0
IsIn words word = IsWord word × IsBetween words.least words.greatest word

-- the word is in one of them
abbrev pub IsOneOf : List Range → ℕ → Type 0
IsOneOf [] word = ⊥
IsOneOf (words ∷ ranges) word = IsIn words word ⊎ IsOneOf ranges word

-- the word of a picture number of 80,000 or more, if the first of its five digits counts with its top bit: F, a digit
-- from 8 on, and four decimal digits. A line that shows one has the number without that bit, but no disc is known to
-- have one: it is no code of a line here, and recovery says none.
abbrev pub is_beyond_79999 : ℕ → Bool
is_beyond_79999 word =
    (digit_of word 1 == 15) && nat_le 8 (digit_of word 2) && nat_le (digit_of word 3) 9 && nat_le (digit_of word 4) 9
    && nat_le (digit_of word 5) 9 && nat_le (digit_of word 6) 9

-- the codes of lines 17 and 18: lead-in, lead-out, pictures up to 79,999, picture stop, chapters, the CLV mark, times
-- of an hour's 60 minutes
abbrev pub codes_of_17 : List Range
codes_of_17 =
    range 0x88FFFF 0x88FFFF
    ∷ range 0x80EEEE 0x80EEEE
    ∷ range 0xF00000 0xF79999
    ∷ range 0x82CFFF 0x82CFFF
    ∷ range 0x800DDD 0x8F9DDD
    ∷ range 0x87FFFF 0x87FFFF
    ∷ range 0xF0DD00 0xF9DD59
    ∷ []

-- the codes of line 16: picture stop, CLV pictures of a second's 30 or 25, programme status with CX and without it,
-- users' codes
abbrev pub codes_of_16 : System → List Range
codes_of_16 Ntsc =
    range 0x82CFFF 0x82CFFF
    ∷ range 0x8AE000 0x8FE929
    ∷ range 0x8DC000 0x8DCFFF
    ∷ range 0x8BA000 0x8BAFFF
    ∷ range 0x80D000 0x87DFFF
    ∷ []
codes_of_16 Pal =
    range 0x82CFFF 0x82CFFF
    ∷ range 0x8AE000 0x8FE919
    ∷ range 0x8AE020 0x8FE924
    ∷ range 0x8DC000 0x8DCFFF
    ∷ range 0x8BA000 0x8BAFFF
    ∷ range 0x80D000 0x87DFFF
    ∷ []

-- the codes of line 16, else those of lines 17 and 18
abbrev pub codes_of : System → ℕ → List Range
codes_of system line = if line == 16 then codes_of_16 system else codes_of_17

-- there is a picture of this code, or of none, at this start
abbrev pub IsCodePlace : List Range → System → Option ℕ → ℕ → Type 0
IsCodePlace ranges system None start = start ≡ 0
IsCodePlace ranges system (Some word) start = IsOneOf ranges word × (start + word_length system ≤ width_of system)

-- ---- as they are searched

-- a word's hexadecimal digit at a place from 0, the first of six
abbrev pub digit_at : ℕ → ℕ → ℕ
digit_at word place = digit_of word (place + 1)

-- this holds at each of the six places
abbrev pub AtEachPlace : (ℕ → Type 0) → Type 0
AtEachPlace P = P 0 × P 1 × P 2 × P 3 × P 4 × P 5

-- each digit has a value at least, and the words have their top bit
abbrev pub IsRange : ℕ → ℕ → Type 0
IsRange least greatest = (8 ≤ digit_at least 0) × AtEachPlace (λ place. digit_at least place ≤ digit_at greatest place)
