-- What fields show of which the laws speak, written down.
use Rattle.std.specs.Prelude.{ℕ, List, [], ◌∷◌, ◌++◌, replicate}
use Rattle.vbi_side.specs.declared.sighting.Sightings.{Sightings}
use Rattle.vbi_side.specs.Worked.{field_of, blank}

-- pictures 5, 8 and 9 of video, each on line 17 of its first field, and the last with this weight
abbrev pub video_ending : ℕ → List Sightings
video_ending weight = field_of 5 2 0 0 ∷ replicate 5 blank ++ field_of 8 2 0 0 ∷ blank ∷ field_of 9 weight 0 0 ∷ []

-- pictures 5, 20 and 35, each further from the next one than is judged together, and the last with this weight
abbrev pub far_ending : ℕ → List Sightings
far_ending weight
    = field_of 5 2 0 0 ∷ replicate 29 blank ++ field_of 20 2 0 0 ∷ replicate 29 blank ++ field_of 35 weight 0 0 ∷ []

-- pictures 5, 6 and 7 of film, whose second one lasts three fields, and the last with this weight
abbrev pub film_ending : ℕ → List Sightings
film_ending weight = field_of 5 2 0 0 ∷ blank ∷ field_of 6 2 0 0 ∷ blank ∷ blank ∷ field_of 7 weight 0 0 ∷ []

-- picture 5 of video on both lines, and picture 6 on line 18 alone
abbrev pub second_on_18 : List Sightings
second_on_18 = field_of 5 2 5 2 ∷ blank ∷ field_of 0 0 6 2 ∷ []
