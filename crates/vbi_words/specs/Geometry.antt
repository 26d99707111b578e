-- The numbers of the two systems. The sizes of a line and a field are those of ld-decode's TBC files, which have four
-- samples to a cycle of the colour subcarrier (315/22 or 17.734475 million samples a second). The limits of a half cell
-- and the column at which a word is drawn are this project's own.
use Rattle.std.specs.Prelude.{ℕ, ◌+◌, ◌*◌, List, take, drop, codes, if◌then◌else◌, Option, Some, None}
use Rattle.std.specs.Str.{bytes_eq}
use Rattle.vbi_words.specs.declared.system.System.{System}
use Rattle.vbi_words.specs.declared.system.System.TheVariants.{Ntsc, Pal}

-- samples of a line
abbrev pub width_of : System → ℕ
width_of Ntsc = 910
width_of Pal = 1135

-- lines of a field
abbrev pub height_of : System → ℕ
height_of Ntsc = 263
height_of Pal = 313

-- bytes of a line, two for each sample
abbrev pub line_bytes : System → ℕ
line_bytes Ntsc = 1820
line_bytes Pal = 2270

-- bytes of a field: those of all its lines
abbrev pub field_bytes : System → ℕ
field_bytes Ntsc = 478660
field_bytes Pal = 710510

-- the bytes of row r of field i of a TBC stream, both counted from 0: line after line and field after field
abbrev pub line_at : System → List ℕ → ℕ → ℕ → List ℕ
line_at system z i r = take (line_bytes system) (drop (i * field_bytes system + line_bytes system * r) z)

-- the fewest samples of a half cell, which lasts one microsecond
abbrev pub half_min : System → ℕ
half_min Ntsc = 11
half_min Pal = 14

-- the most samples of a half cell: less than twice the fewest
abbrev pub half_max : System → ℕ
half_max Ntsc = 18
half_max Pal = 22

-- the column at which a drawn word begins
abbrev pub start_of : System → ℕ
start_of Ntsc = 150
start_of Pal = 190

-- what the system is called
abbrev pub name_of : System → List ℕ
name_of Ntsc = codes "NTSC"
name_of Pal = codes "PAL"

-- the system of this name, if one has it
abbrev pub system_named : List ℕ → Option System
system_named name =
    if bytes_eq (name_of Ntsc) name then Some Ntsc else (if bytes_eq (name_of Pal) name then Some Pal else None)
