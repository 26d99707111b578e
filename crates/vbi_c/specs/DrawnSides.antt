-- A side that is drawn, from which its numbers are read.
use Rattle.std.specs.Prelude.{ℕ, List, [], ◌∷◌, Some, None}
use Rattle.vbi_c.specs.Types.{System, WordRow, Pictures, Asked}
use Rattle.vbi_words.specs.Levels.{Slicing}
use Rattle.vbi_field.specs.Draws.{draw_out, no_words}
use Rattle.vbi_seek.specs.NumberSearch.{Numbers}

-- the bytes of a side of pictures 1, 2 and 3, each on lines 17 and 18 of its first field, between fields without words
abbrev pub picture_row : ℕ → WordRow
picture_row word = record { first = None; second = Some word; third = Some word }

abbrev pub picture_rows : List WordRow
picture_rows = picture_row 0xF00001 ∷ no_words ∷ picture_row 0xF00002 ∷ no_words ∷ picture_row 0xF00003 ∷ []

abbrev pub drawn_side : System → Slicing → List ℕ
drawn_side system levels = draw_out (record { system = system; levels = levels; max_fields = 5 }) picture_rows

-- its picture numbers
abbrev pub drawn_numbers : System → Slicing → Asked → Numbers
drawn_numbers system levels asked = record {
  side = record {
    setup = record { system = system; levels = levels };
    bytes = drawn_side system levels;
    count = 5;
  };
  judging = record { system = system; counted = Pictures; asked = asked };
}
