-- What the laws of the calls speak of, written down: setups, what is judged, what C is answered, readings, entries of
-- erased columns, and what fields show.
use Rattle.std.specs.Prelude.{ℕ, List, [], ◌∷◌, Option, ◌==◌, if◌then◌else◌}
use Rattle.vbi_c.specs.Types.{System, Ntsc, Pal, Counted, Number, Clock, Plain, Pace, LdvbiCode, LdvbiErased}
use Rattle.vbi_c.specs.Types.{LdvbiFieldReadings, Asked, Judging, LdvbiNear, LdvbiReading, Setup, LdvbiClock}
use Rattle.vbi_c.specs.Types.{LdvbiSideRule, Siding, Near}
use Rattle.vbi_side.specs.Numbers.{believed, nothing}
use Rattle.vbi_c.specs.Numbers.{clock_as}

-- black and white of ld-decode's TBC files of NTSC, and of PAL
abbrev pub ntsc : Setup
ntsc = record { system = Ntsc; levels = record { black = 16384; white = 51200 } }

abbrev pub pal : Setup
pal = record { system = Pal; levels = record { black = 16384; white = 54016 } }

-- what is judged, and how
abbrev pub judged_as : System → Counted → Asked → Judging
judged_as system counted asked = record { system = system; counted = counted; asked = asked }

-- a code as C sees it
abbrev pub code_as : ℕ → ℕ → ℕ → LdvbiCode
code_as kind first second = record { kind = kind; first = first; second = second }

-- a reading as C sees it
abbrev pub reading_as : ℕ → ℕ → ℕ → ℕ → LdvbiReading
reading_as cause pass column word = record { cause = cause; pass = pass; column = column; word = word }

-- what is found nearest, and how C sees it
abbrev pub found_near : Option ℕ → ℕ → ℕ → ℕ → ℕ → ℕ → Near
found_near word start distance rival longer shorter = record {
  word = word;
  start = start;
  distance = distance;
  rival = rival;
  longer = longer;
  shorter = shorter;
}

abbrev pub near_as : ℕ → ℕ → ℕ → ℕ → ℕ → LdvbiNear
near_as word start distance rival longer = record {
  word = word;
  start = start;
  distance = distance;
  rival = rival;
  longer = longer;
}

-- the reading of a line that shows this word in pass 1; 0 stands for a blank line
abbrev pub read_as : ℕ → LdvbiReading
read_as word = if word == 0 then reading_as 1 0 0 0 else reading_as 0 1 0 word

-- the readings of lines 16, 17 and 18
abbrev pub lines_read_as : ℕ → ℕ → ℕ → List LdvbiReading
lines_read_as line_16 line_17 line_18 = read_as line_16 ∷ read_as line_17 ∷ read_as line_18 ∷ []

-- those of a field
abbrev pub field_read_as : ℕ → ℕ → ℕ → LdvbiFieldReadings
field_read_as line_16 line_17 line_18 = record { lines = lines_read_as line_16 line_17 line_18 }

-- an entry that erases columns of a line of a field, from a first one to a last one
abbrev pub columns_of : ℕ → ℕ → ℕ → ℕ → LdvbiErased
columns_of field line first last = record { field = field; line = line; first = first; last = last }

-- what a whole side is judged by, with a clock, and with none
abbrev pub sided_by : System → Counted → Pace → Clock → Siding
sided_by system counted pace clock =
    record { numbering = record { system = system; counted = counted; clock = clock }; pace = pace }

abbrev pub sided_as : System → Counted → Pace → Siding
sided_as system counted pace = sided_by system counted pace Plain

-- the rule of these numbers, with this clock, of a disc that has its numbers on one field of a picture
abbrev pub rule_as : ℕ → ℕ → ℕ → LdvbiClock → LdvbiSideRule
rule_as system counted pace clock =
    record { system = system; counted = counted; pace = pace; both = 0; clock = clock }

-- the rule of these numbers, of a disc that leaves no number out
abbrev pub plain_rule : ℕ → ℕ → ℕ → LdvbiSideRule
plain_rule system counted pace = rule_as system counted pace (clock_as 0 0 0)

-- numbers on one field of each picture, and on both
abbrev pub on_one : List Number
on_one = believed 1 ∷ nothing ∷ believed 2 ∷ []

abbrev pub on_both : List Number
on_both = believed 1 ∷ believed 1 ∷ believed 2 ∷ believed 2 ∷ []
