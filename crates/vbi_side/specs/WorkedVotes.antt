-- Worked elections.
use Rattle.std.specs.Prelude.{ℕ, List, [], ◌∷◌, ◌++◌, replicate}
use Rattle.vbi_side.specs.Types.{Ntsc, Sightings}
use Rattle.vbi_side.specs.Votes.{Election, minute_of}
use Rattle.vbi_side.specs.Worked.{field_of, blank}

-- field 4 of an NTSC disc shows picture 10 of second 23: two minutes and this part are 4300 pictures
abbrev pub in_field_4 : Election
in_field_4 = record { minute = minute_of Ntsc; field = 4; part = 700 }

-- two fields show the right minute, one of them on line 18, and one a minute more; another shows another second
abbrev pub two_to_one : List Sightings
two_to_one =
    field_of 4298 2 0 0 ∷ blank ∷ field_of 0 0 4299 2 ∷ blank ∷ blank ∷ blank ∷ field_of 6101 2 0 0 ∷ blank
    ∷ field_of 4311 2 0 0 ∷ []

-- two fields show the right minute, and two a minute more
abbrev pub two_to_two : List Sightings
two_to_two =
    field_of 4298 2 0 0 ∷ blank ∷ field_of 4299 2 0 0 ∷ blank ∷ blank ∷ blank ∷ field_of 6101 2 0 0 ∷ blank
    ∷ field_of 0 0 6102 2 ∷ []

-- four lines show the right minute in pass 2, and two a minute more in pass 1
abbrev pub light_to_heavy : List Sightings
light_to_heavy =
    field_of 4298 1 4298 1 ∷ blank ∷ field_of 4299 1 4299 1 ∷ blank ∷ blank ∷ blank ∷ field_of 6101 2 6101 2 ∷ []

-- both lines of one field show a minute in pass 1, and no other field shows one
abbrev pub alone : List Sightings
alone = blank ∷ blank ∷ field_of 4299 2 4299 2 ∷ blank ∷ blank ∷ []

-- both lines of one field show a minute, one of them in pass 2, and no other field shows one
abbrev pub light_alone : List Sightings
light_alone = blank ∷ blank ∷ field_of 4299 2 4299 1 ∷ blank ∷ blank ∷ []

-- one field shows the right minute in pass 1 and one in pass 2, and one a minute more in pass 2
abbrev pub three_to_one : List Sightings
three_to_one =
    field_of 4298 2 0 0 ∷ blank ∷ field_of 4299 1 0 0 ∷ blank ∷ blank ∷ blank ∷ field_of 6101 1 0 0 ∷ []

-- a time in field 0, and this many fields after it
abbrev pub alone_before : ℕ → List Sightings
alone_before distance = field_of 4300 2 0 0 ∷ replicate distance blank

-- a time that is this many fields after field 0
abbrev pub alone_after : ℕ → List Sightings
alone_after distance = replicate distance blank ++ field_of 4300 2 0 0 ∷ []
