-- The report of `show`, and that with recovered words: a head line, four lines a whole field, and a last line; lists of
-- ASCII codes.
use Rattle.std.specs.Prelude.{ℕ, ◌+◌, List, [], ◌∷◌, ◌++◌, ◌==◌, Bool, true, false, if◌then◌else◌, codes, decimal}
use Rattle.vbi_field.specs.ConfigView.{System, name_of, width_of, height_of, Slicing}
use Rattle.vbi_field.specs.CodeTexts.{Outcome, Word, hex_text_of, code_text_of, cause_text_of}
use Rattle.vbi_words.specs.declared.outcome.Reading.{Reading}
use Rattle.vbi_words.specs.declared.format.Format.{Format}
use Rattle.vbi_words.specs.declared.format.Format.TheVariants.{Cav, Clv, Both, Neither}
use Rattle.vbi_words.specs.Outcomes.{word_of}
use Rattle.vbi_words.specs.Codes.{code_of}
use Rattle.vbi_words.specs.Formats.{format_of_lines}
use Rattle.vbi_field.specs.declared.readings.FieldReadings.{FieldReadings}

-- the first line
unfoldable pub report_head_of : System → Slicing → List ℕ
report_head_of system slicing =
    codes "system " ++ name_of system ++ codes " " ++ decimal (width_of system) ++ codes "x"
    ++ decimal (height_of system)
    ++ codes " black " ++ decimal slicing.black ++ codes " white " ++ decimal slicing.white ++ codes "\n"

-- what a format is called
abbrev pub format_text_of : Format → List ℕ
format_text_of Cav = codes "cav"
format_text_of Clv = codes "clv"
format_text_of Both = codes "both"
format_text_of Neither = codes "neither"

-- the text after the number of a line: its word and what it says, or why it has none
unfoldable pub shown_of : Outcome → List ℕ
shown_of (Word word) = hex_text_of word ++ codes " " ++ code_text_of (code_of word)
shown_of outcome = codes "none " ++ cause_text_of outcome

-- the four lines of a whole field: its number, the format of its words, and the texts after the numbers of its lines
unfoldable pub field_lines_of : ℕ → FieldReadings → List ℕ → List ℕ → List ℕ → List ℕ
field_lines_of number readings first second third =
    let words =
    word_of readings.first.outcome ∷ word_of readings.second.outcome ∷ word_of readings.third.outcome ∷ [] in
    codes "field " ++ decimal number ++ codes " " ++ format_text_of (format_of_lines words)
    ++ codes "\n16 " ++ first ++ codes "\n17 " ++ second ++ codes "\n18 " ++ third ++ codes "\n"

-- the text after the number of a line, with a mark after a word of pass 3
unfoldable pub marked_of : Reading → List ℕ
marked_of line = shown_of line.outcome ++ (if line.pass == 3 then codes " (recovered)" else [])

-- that text, if words of pass 3 are marked, and if they aren't
abbrev pub line_text_of : Bool → Reading → List ℕ
line_text_of marks line = if marks then marked_of line else shown_of line.outcome

-- the four lines of a field whose lines show this
abbrev pub entry_text_of : Bool → ℕ → FieldReadings → List ℕ
entry_text_of marks number lines = field_lines_of number lines (line_text_of marks lines.first)
    (line_text_of marks lines.second) (line_text_of marks lines.third)

-- the same of a field with these readings, and of one with recovered words
abbrev pub report_entry_of : ℕ → FieldReadings → List ℕ
report_entry_of = entry_text_of false

abbrev pub recovered_entry_of : ℕ → FieldReadings → List ℕ
recovered_entry_of = entry_text_of true

-- the last line, from the number of whole fields and the bytes of a field that was cut; 0 if none was
unfoldable pub report_tail_of : ℕ → ℕ → List ℕ
report_tail_of fields cut =
    codes "fields " ++ decimal fields ++ (if cut == 0 then codes " cut none\n"
    else codes " cut field " ++ decimal (fields + 1) ++ codes " bytes " ++ decimal cut ++ codes "\n")
