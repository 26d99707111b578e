-- The document of a stream: JSON after ld-decode's ld-process-vbi, whose `vbi.vbiData` has a whole number per line,
-- three per field. `videoParameters` has ld-decode's names; `version`, `vbiCause`, `vbiPass` and `cutField` are this
-- project's own.
use Rattle.std.specs.Prelude.{ℕ, ◌+◌, List, ◌++◌, ◌==◌, if◌then◌else◌, codes, decimal}
use Rattle.vbi_field.specs.ConfigView.{width_of, height_of, name_of, ConfigView}
use Rattle.vbi_field.specs.CodeTexts.{Outcome, Word, cause_text_of}
use Rattle.vbi_field.specs.Stream.{Reading, FieldReadings}

-- the number of the word, or 0 if there is none
abbrev pub value_of : Outcome → ℕ
value_of (Word w) = w
value_of _ = 0

-- the rest of the first line, after the version: the system, and the levels
unfoldable pub parameters_of : ConfigView → List ℕ
parameters_of c = codes ",\"videoParameters\":{\"system\":\"" ++ name_of c.system
    ++ codes "\",\"fieldWidth\":" ++ decimal (width_of c.system)
    ++ codes ",\"fieldHeight\":" ++ decimal (height_of c.system)
    ++ codes ",\"black16bIre\":" ++ decimal c.levels.black
    ++ codes ",\"white16bIre\":" ++ decimal c.levels.white ++ codes "},\"fields\":[\n"

-- one line: the version, the system, and the levels
abbrev pub head_of : ConfigView → List ℕ
head_of c = codes "{\"version\":2" ++ parameters_of c

-- a text for each of a field's three lines, with commas between, after what opens them and before what closes them
unfoldable pub lines_of : List ℕ → (Reading → List ℕ) → List ℕ → FieldReadings → List ℕ
lines_of opening text_of closing readings = opening ++ text_of readings.first
    ++ codes "," ++ text_of readings.second ++ codes "," ++ text_of readings.third ++ closing

-- the record of a field: its number, and of each of its three lines the word or 0, the cause and the pass
unfoldable pub record_of : ℕ → FieldReadings → List ℕ
record_of number readings = codes "{\"seqNo\":" ++ decimal number
    ++ lines_of (codes ",\"vbi\":{\"vbiData\":[") (λ line. decimal (value_of line.outcome)) (codes "]}") readings
    ++ lines_of (codes ",\"vbiCause\":[") (λ line. codes "\"" ++ cause_text_of line.outcome ++ codes "\"") (codes "]")
    readings
    ++ lines_of (codes ",\"vbiPass\":[") (λ line. decimal line.pass) (codes "]") readings ++ codes "}"

-- the end: a cut last field's number and bytes, or null if none was cut
unfoldable pub tail_of : ℕ → ℕ → List ℕ
tail_of fields rest = if rest == 0 then codes "\n],\"cutField\":null}\n"
    else codes "\n],\"cutField\":{\"seqNo\":" ++ decimal (fields + 1)
    ++ codes ",\"bytes\":" ++ decimal rest ++ codes "}}\n"
