-- The texts of code words and of their codes in the report, and of why a line has no word in the document and the
-- report, as lists of ASCII codes.
use Rattle.std.specs.Prelude.{ℕ, ◌+◌, ◌-◌, List, [], ◌∷◌, ◌++◌, length, replicate, nat_lt, if◌then◌else◌, codes}
use Rattle.std.specs.Prelude.{decimal}
use Rattle.vbi_words.specs.declared.code.Code.{Code}
use Rattle.vbi_words.specs.declared.code.Code.TheVariants.{Picture, Chapter, Time, ClvPicture, CxOn, CxOff}
use Rattle.vbi_words.specs.declared.code.Code.TheVariants.{Users, LeadIn, LeadOut, PictureStop, ClvMark, Other}
use Rattle.vbi_words.specs.Codes.{digit_of}
pub use Rattle.vbi_words.specs.declared.outcome.Outcome.{Outcome}
pub use Rattle.vbi_words.specs.declared.outcome.Outcome.TheVariants.{Word, Blank, Unfinished, Change, Hold}

-- the hexadecimal digit: '0' to '9', and 'A' to 'F'
abbrev pub hex_digit : ℕ → ℕ
hex_digit value = if nat_lt value 10 then 48 + value else 65 + (value - 10)

-- the hexadecimal digit that a number has at a place; a word's places are 1 to 6
abbrev pub hex_at : ℕ → ℕ → ℕ
hex_at number place = hex_digit (digit_of number place)

-- a word in six hexadecimal digits
abbrev pub hex_text_of : ℕ → List ℕ
hex_text_of word = hex_at word 1 ∷ hex_at word 2 ∷ hex_at word 3 ∷ hex_at word 4 ∷ hex_at word 5 ∷ hex_at word 6 ∷ []

-- a number of 16 bits in three hexadecimal digits, or in four if it has more
abbrev pub hex_number : ℕ → List ℕ
hex_number number =
    (if nat_lt number 4096 then [] else hex_at number 3 ∷ [])
    ++ hex_at number 4 ∷ hex_at number 5 ∷ hex_at number 6 ∷ []

-- digits with zeros in front of them, up to a number of digits; more digits than that stay as they are
abbrev pub padded : ℕ → List ℕ → List ℕ
padded least digits = replicate (least - length digits) 48 ++ digits

-- what a code is called, with its numbers
abbrev pub code_text_of : Code → List ℕ
code_text_of LeadIn = codes "lead-in"
code_text_of LeadOut = codes "lead-out"
code_text_of (Picture number) = codes "picture " ++ padded 5 (decimal number)
code_text_of PictureStop = codes "picture stop"
code_text_of (Chapter number) = codes "chapter " ++ padded 2 (decimal number)
code_text_of ClvMark = codes "clv"
code_text_of (Time hours minutes) = codes "time " ++ decimal hours ++ codes ":" ++ padded 2 (decimal minutes)
code_text_of (ClvPicture seconds picture) =
    codes "clv picture " ++ padded 2 (decimal seconds) ++ codes " " ++ padded 2 (decimal picture)
code_text_of (CxOn number) = codes "cx on " ++ hex_number number
code_text_of (CxOff number) = codes "cx off " ++ hex_number number
code_text_of (Users digit number) = codes "users " ++ decimal digit ++ codes " " ++ hex_number number
code_text_of Other = codes "other"

-- the name of an outcome, and its column if it has one
abbrev pub cause_text_of : Outcome → List ℕ
cause_text_of (Word word) = codes "word"
cause_text_of Blank = codes "blank"
cause_text_of Unfinished = codes "unfinished"
cause_text_of (Change column) = codes "change " ++ decimal column
cause_text_of (Hold column) = codes "hold " ++ decimal column
