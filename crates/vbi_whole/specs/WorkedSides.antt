-- Worked sides: what discs count, and gaps and fields written down.
use Rattle.std.specs.Prelude.{ℕ, zero, suc, List, [], ◌∷◌, replicate, false, Option, Some}
use Rattle.vbi_whole.specs.Types.{Ntsc, Pal, Pictures, Times, Numbering, Clock, Plain, Gap, Number, Sightings, Video}
use Rattle.vbi_whole.specs.Types.{Film, Amid, Rule, Findings}
use Rattle.vbi_side.specs.Numbers.{believed, nothing}
use Rattle.vbi_side.specs.Worked.{field_of, blank}
use Rattle.vbi_whole.specs.Tallies.{tally_of}
use Rattle.vbi_whole.specs.Gaps.{lost, still, gap_of, gap_made, to_judge, Judged, rule_by, amid}
use Rattle.vbi_side.specs.Paces.{spot}

-- pictures, and times that keep to a clock or don't
abbrev pub cav : Numbering
cav = record { system = Ntsc; counted = Pictures; clock = Plain }

abbrev pub cav_pal : Numbering
cav_pal = record { system = Pal; counted = Pictures; clock = Plain }

abbrev pub clv : Numbering
clv = record { system = Ntsc; counted = Times; clock = Plain }

abbrev pub clv_pal : Numbering
clv_pal = record { system = Pal; counted = Times; clock = Plain }

-- rules of discs of NTSC: of video with pictures and with times, and of film
abbrev pub by_pictures : Rule
by_pictures = rule_by Video 0 cav

abbrev pub by_times : Rule
by_times = rule_by Video 0 clv

abbrev pub by_film : Rule
by_film = rule_by Film 0 cav

-- nothing is seen between two places
abbrev pub unseen : Amid
unseen = amid false 0

-- what lies between number 5 in field 10 and number n in field k, if nothing is seen between
abbrev pub after_5 : Rule → ℕ → ℕ → Option Gap
after_5 rule k n = gap_of rule unseen (spot 10 5) (spot k n)

-- the gap of this kind between these two places, of so many fields
abbrev pub gap_after_5 : ℕ → ℕ → ℕ → ℕ → Option Gap
gap_after_5 k n kind fields = Some (gap_made (spot 10 5) (spot k n) kind fields 0)

-- times of a disc that leaves out numbers by this clock
abbrev pub clv_by : Clock → Numbering
clv_by clock = record { system = Ntsc; counted = Times; clock = clock }

-- a still of three pictures more than the first, a loss, and a still of one picture more
abbrev pub two_stills : List Gap
two_stills =
    gap_made (spot 10 5) (spot 12 5) still 2 0 ∷ gap_made (spot 12 5) (spot 14 5) still 2 0
    ∷ gap_made (spot 14 5) (spot 16 5) still 2 0
    ∷ gap_made (spot 16 5) (spot 18 8) lost 4 0 ∷ gap_made (spot 18 8) (spot 20 8) still 2 0 ∷ []

-- pictures 1 and 2, and what is answered of them
abbrev pub two_pictures : List Sightings
two_pictures = field_of 1 2 1 2 ∷ blank ∷ field_of 2 2 2 2 ∷ []

abbrev pub two_answers : List Number
two_answers = believed 1 ∷ nothing ∷ believed 2 ∷ []

-- this many pictures from this number on, read on both lines of one field each
abbrev pub pictures_from : ℕ → ℕ → List Sightings
pictures_from zero n = []
pictures_from (suc k) n = field_of n 2 n 2 ∷ blank ∷ pictures_from k (suc n)

-- what is answered of them
abbrev pub answers_from : ℕ → ℕ → List Number
answers_from zero n = []
answers_from (suc k) n = believed n ∷ nothing ∷ answers_from k (suc n)

-- a capture of pictures 0 to 24, in 50 fields, of which none is of lead-in or lead-out
abbrev pub worked_side : List Sightings
worked_side = pictures_from 25 0

abbrev pub worked_answers : List Number
worked_answers = answers_from 25 0

abbrev pub worked_ends : List ℕ
worked_ends = replicate 50 0

-- number 1 alone, in a capture of video, of which this is answered of the ends of sides
abbrev pub one_number : List ℕ → Judged
one_number ends = to_judge by_pictures [] (believed 1 ∷ []) ends

-- number 1 in field 0 and in this one, with these gaps and nothing else
abbrev pub found_at : List Gap → ℕ → Findings
found_at gaps last = record {
  tally = tally_of Plain gaps 0;
  padded = 0;
  swap = record { field = 0; is_seen = false };
  drifts = false;
  blank = 0;
  first = spot 0 1;
  last = spot last 1;
}
