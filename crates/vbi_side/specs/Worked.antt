-- Worked fields, by the words of their lines. Worked sides: of video with wrong readings of weight 9 and 10 around
-- field 4, of two numbers that lie far apart, of a still, and of film.
use Rattle.std.specs.Prelude.{ℕ, zero, suc, ◌-◌, ◌==◌, if◌then◌else◌, List, [], ◌∷◌, ◌++◌, replicate, Some, None}
use Rattle.vbi_side.specs.Types.{System, Counted, Shown, Sightings}
use Rattle.vbi_side.specs.Lines.{sightings_of}

-- a field whose lines 17 and 18 show these numbers with these weights
abbrev pub field_of : ℕ → ℕ → ℕ → ℕ → Sightings
field_of first weight second other = record {
  line_17 = record { number = first; weight = weight };
  line_18 = record { number = second; weight = other };
  instead = 0;
}

-- a field that shows no number
abbrev pub blank : Sightings
blank = field_of 0 0 0 0

-- six pictures are right on line 17; on line 18 of five fields numbers stand that are 100 too large, one of them in
-- pass 2
abbrev pub wrong_by_9 : List Sightings
wrong_by_9 =
    field_of 0 2 100 2 ∷ blank ∷ field_of 1 2 101 2 ∷ blank ∷ field_of 2 2 102 2 ∷ blank ∷ field_of 3 2 103 2 ∷ blank
    ∷ field_of 4 2 104 1 ∷ blank ∷ field_of 5 2 0 0 ∷ []

-- the five wrong numbers are all read in pass 1, and in field 4 nothing else
abbrev pub wrong_by_10 : List Sightings
wrong_by_10 =
    field_of 0 2 100 2 ∷ blank ∷ field_of 1 2 101 2 ∷ blank ∷ field_of 0 0 102 2 ∷ blank ∷ field_of 3 2 103 2 ∷ blank
    ∷ field_of 4 2 104 2 ∷ blank ∷ field_of 5 2 0 0 ∷ []

-- a number in field 0, and in the field that is this many fields after it the one that is 10 greater
abbrev pub apart_by : ℕ → List Sightings
apart_by distance = field_of 0 2 0 0 ∷ replicate (distance - 1) blank ++ field_of 10 2 0 0 ∷ []

-- number 5 in this many even fields, as of a player that stands still
abbrev pub still_of : ℕ → List Sightings
still_of zero = []
still_of (suc pictures) = field_of 5 2 0 0 ∷ blank ∷ still_of pictures

-- pictures 0, 1 and 2 of film, each with its number on both lines
abbrev pub film_side : List Sightings
film_side =
    field_of 0 2 0 2 ∷ blank ∷ field_of 1 2 1 2 ∷ blank ∷ blank ∷ field_of 2 2 2 2 ∷ []

-- what two lines show beside a code that stands there in place of a number
abbrev pub instead_of : ℕ → ℕ → ℕ → ℕ → Sightings
instead_of first weight second other = record {
  line_17 = record { number = first; weight = weight };
  line_18 = record { number = second; weight = other };
  instead = 1;
}

-- a line on which this word is read in this pass; 0 stands for none
abbrev pub shown_in : ℕ → ℕ → Shown
shown_in pass word = record { word = if word == 0 then None else Some word; pass = pass }

-- what the words of lines 16, 17 and 18 tell that are read in pass 1
abbrev pub told_by : System → Counted → ℕ → ℕ → ℕ → Sightings
told_by system counted line_16 line_17 line_18 =
    sightings_of system counted (shown_in 1 line_16) (shown_in 1 line_17) (shown_in 1 line_18)
