-- The numbers that a field's lines show: on lines 17 and 18 a CAV disc has the picture's number (IEC 60857 and IEC
-- 60856), a CLV disc the hours and minutes to which the seconds and the picture of line 16 belong.
use Rattle.std.specs.Prelude.{ℕ, ◌+◌, ◌*◌, ◌==◌, nat_lt, ◌&&◌, ◌||◌, if◌then◌else◌, Bool, true, false, min}
use Rattle.std.specs.Prelude.{Option, Some, None, option_map}
use Rattle.vbi_side.specs.Types.{System, Ntsc, Pal, Code, Picture, Time, ClvPicture, Chapter, LeadIn, LeadOut, Counted}
use Rattle.vbi_side.specs.Types.{Pictures, Times, Shown, Sighting, Sightings}
use Rattle.vbi_words.specs.Codes.{code_of}

-- the pictures of a second
abbrev pub rate_of : System → ℕ
rate_of Ntsc = 30
rate_of Pal = 25

-- how much a word weighs of this pass: one that only smoothed levels or the nearest drawn row show weighs half
abbrev pub pass_weight : ℕ → ℕ
pass_weight pass = if pass == 2 || pass == 3 then 1 else 2

-- the code of a line's word, if it shows one
abbrev pub code_in : Shown → Option Code
code_in line = option_map code_of line.word

-- the number that the codes of line 16 and of line 17 or 18 tell; a CLV disc's pictures are counted from its beginning
abbrev pub number_from : System → Counted → Option Code → Option Code → Option ℕ
number_from system Pictures _ (Some (Picture number)) = Some number
number_from system Times (Some (ClvPicture seconds picture)) (Some (Time hours minutes)) =
    if nat_lt minutes 60 && nat_lt picture (rate_of system)
    then Some (((hours * 60 + minutes) * 60 + seconds) * rate_of system + picture)
    else None
number_from system _ _ _ = None

-- what it weighs: as a picture's number what its line does, as a time what the lighter of its two lines does
abbrev pub number_weight : Counted → Shown → Shown → ℕ
number_weight Pictures line_16 line = pass_weight line.pass
number_weight Times line_16 line = min (pass_weight line_16.pass) (pass_weight line.pass)

-- a number that weighs so much, or none
abbrev pub sighting_from : Option ℕ → ℕ → Sighting
sighting_from None weight = record { number = 0; weight = 0 }
sighting_from (Some number) weight = record { number = number; weight = weight }

-- the number that line 17 or 18 shows, beside line 16
abbrev pub sighting_of : System → Counted → Shown → Shown → Sighting
sighting_of system counted line_16 line =
    sighting_from (number_from system counted (code_in line_16) (code_in line)) (number_weight counted line_16 line)

-- the code stands on lines 17 and 18 in place of a number
abbrev pub is_instead : Counted → Option Code → Bool
is_instead _ (Some (Chapter number)) = true
is_instead _ (Some LeadIn) = true
is_instead _ (Some LeadOut) = true
is_instead Pictures (Some (Time hours minutes)) = true
is_instead Times (Some (Picture number)) = true
is_instead _ _ = false

-- what a field shows on lines 17 and 18, beside line 16
abbrev pub sightings_of : System → Counted → Shown → Shown → Shown → Sightings
sightings_of system counted line_16 line_17 line_18 = record {
  line_17 = sighting_of system counted line_16 line_17;
  line_18 = sighting_of system counted line_16 line_18;
  instead = if is_instead counted (code_in line_17) || is_instead counted (code_in line_18) then 1 else 0;
}
