-- The classes of code words and the numbers that they carry: this project's own table of the codes of IEC 60857 and
-- IEC 60856.
use Rattle.std.specs.Prelude.{◌≡◌, ℕ, ◌≤◌, ◌+◌, ◌-◌, ◌*◌, ◌/◌, ◌%◌, ◌^◌, ◌⊎◌, List, [], ◌∷◌, Any, if◌then◌else◌}
use Rattle.std.specs.Prelude.{Bool, false, ◌==◌, ◌&&◌, ◌||◌, nat_lt, nat_le}
use Rattle.std.specs.List.{list_all, range_with_len}
use Rattle.vbi_words.specs.declared.system.System.{System}
use Rattle.vbi_words.specs.declared.system.System.TheVariants.{Ntsc, Pal}
use Rattle.vbi_words.specs.declared.code.Code.{Code}
use Rattle.vbi_words.specs.declared.code.Code.TheVariants.{Picture, Chapter, Time, ClvPicture, CxOn, CxOff}
use Rattle.vbi_words.specs.declared.code.Code.TheVariants.{Users, LeadIn, LeadOut, PictureStop, ClvMark, Other}

-- a word's hexadecimal digit at a place from 1 to 6, the most significant first
abbrev pub digit_of : ℕ → ℕ → ℕ
digit_of word place = word / 16 ^ (6 - place) % 16

-- each of the word's six digits is from that of least to that of greatest at its place
abbrev pub IsBetween : ℕ → ℕ → ℕ → Type 0
IsBetween least greatest word =
    (place : ℕ) → 1 ≤ place → place ≤ 6
    → (digit_of least place ≤ digit_of word place) × (digit_of word place ≤ digit_of greatest place)

-- the five last digits of a picture's word as a number; digit 2 counts without its top bit
abbrev pub picture_of : ℕ → ℕ
picture_of word =
    10000 * (digit_of word 2 % 8) + 1000 * digit_of word 3 + 100 * digit_of word 4 + 10 * digit_of word 5
    + digit_of word 6

-- the number of a chapter's word; digit 2 counts without its top bit
abbrev pub chapter_of : ℕ → ℕ
chapter_of word = 10 * (digit_of word 2 % 8) + digit_of word 3

-- the seconds of a CLV picture's word: digit 2, from A on, has the tens
abbrev pub seconds_of : ℕ → ℕ
seconds_of word = 10 * (digit_of word 2 - 10) + digit_of word 4

-- the number of the word's last two decimal digits
abbrev pub last_two : ℕ → ℕ
last_two word = 10 * digit_of word 5 + digit_of word 6

-- the number of the word's last three hexadecimal digits
abbrev pub last_three : ℕ → ℕ
last_three word = 256 * digit_of word 4 + 16 * digit_of word 5 + digit_of word 6

-- a pattern of code words: a word matches it if each of its digits is from that of least to that of greatest, and then
-- has this code
pub record Pattern : Type 0 where
  pub least : ℕ
  pub greatest : ℕ
  pub code : Code

-- the patterns, with the numbers of this word in their codes
abbrev pub patterns_of : ℕ → List Pattern
patterns_of word =
    record { least = 0x88FFFF; greatest = 0x88FFFF; code = LeadIn }
    ∷ record { least = 0x80EEEE; greatest = 0x80EEEE; code = LeadOut }
    ∷ record { least = 0xF00000; greatest = 0xFF9999; code = Picture (picture_of word) }
    ∷ record { least = 0x82CFFF; greatest = 0x82CFFF; code = PictureStop }
    ∷ record { least = 0x800DDD; greatest = 0x8F9DDD; code = Chapter (chapter_of word) }
    ∷ record { least = 0x87FFFF; greatest = 0x87FFFF; code = ClvMark }
    ∷ record { least = 0xF0DD00; greatest = 0xF9DD99; code = Time (digit_of word 2) (last_two word) }
    ∷ record { least = 0x8AE000; greatest = 0x8FE999; code = ClvPicture (seconds_of word) (last_two word) }
    ∷ record { least = 0x8DC000; greatest = 0x8DCFFF; code = CxOn (last_three word) }
    ∷ record { least = 0x8BA000; greatest = 0x8BAFFF; code = CxOff (last_three word) }
    ∷ record { least = 0x80D000; greatest = 0x87DFFF; code = Users (digit_of word 2) (last_three word) }
    ∷ []

-- the word matches the pattern
abbrev pub HasPattern : ℕ → Pattern → Type 0
HasPattern word pattern = IsBetween pattern.least pattern.greatest word

-- the word matches one of the patterns, and this is its code
abbrev pub HasCodeOf : List Pattern → ℕ → Code → Type 0
HasCodeOf patterns word code = Any (λ pattern. HasPattern word pattern × (code ≡ pattern.code)) patterns

-- the code of the word: that of a pattern which it matches, or `Other` if it matches none; each word has exactly one,
-- which `code_of` gives, as `laws::one_code` says
abbrev pub IsCode : ℕ → Code → Type 0
IsCode word code =
    HasCodeOf (patterns_of word) word code ⊎ ((Any (HasPattern word) (patterns_of word) → ⊥) × (code ≡ Other))

-- ---- as a function, which `laws::one_code` shows to give the only code

-- whether each of the word's six digits is from that of the pattern's least word to that of its greatest
abbrev pub fits : ℕ → Pattern → Bool
fits word pattern =
    list_all (λ place. nat_le (digit_of pattern.least place) (digit_of word place)
    && nat_le (digit_of word place) (digit_of pattern.greatest place)) (range_with_len 1 6)

-- the code of the first pattern that the word matches
abbrev pub first_code : ℕ → List Pattern → Code
first_code word [] = Other
first_code word (pattern ∷ patterns) = if fits word pattern then pattern.code else first_code word patterns

-- the code of a word
unfoldable pub code_of : ℕ → Code
code_of word = first_code word (patterns_of word)

-- ---- on which lines

-- the pictures of a second, which are counted from 0
abbrev pub pictures_in_second : System → ℕ
pictures_in_second Ntsc = 30
pictures_in_second Pal = 25

-- the line is 17 or 18
abbrev pub is_17_or_18 : ℕ → Bool
is_17_or_18 line = (line == 17) || (line == 18)

-- whether a code may stand on this line of a field; an hour has 60 minutes
abbrev pub may_stand : System → ℕ → Code → Bool
may_stand system line LeadIn = is_17_or_18 line
may_stand system line LeadOut = is_17_or_18 line
may_stand system line (Picture number) = is_17_or_18 line
may_stand system line (Chapter number) = is_17_or_18 line
may_stand system line (Time hours minutes) = is_17_or_18 line && nat_lt minutes 60
may_stand system line ClvMark = is_17_or_18 line
may_stand system line PictureStop = (line == 16) || is_17_or_18 line
may_stand system line (ClvPicture seconds picture) = (line == 16) && nat_lt picture (pictures_in_second system)
may_stand system line (CxOn number) = line == 16
may_stand system line (CxOff number) = line == 16
may_stand system line (Users digit number) = line == 16
may_stand system line Other = false
