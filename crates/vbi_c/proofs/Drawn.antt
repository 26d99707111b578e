-- What a drawn line is read as, as C sees it.
use Rattle.std.proofs.Common.{◌≡◌, ◌<◌, ℕ, List, ap, sym, ◌∙◌}
use Rattle.vbi_words.specs.Drawn.{drawn_line_of, drawn_reading}
use Rattle.vbi_words.specs.Words.{IsWordOrNone}
use Rattle.vbi_words.specs.Levels.{row_levels}
use Rattle.vbi_words.proofs.DrawnLines.{drawn_reads}
use Rattle.vbi_line.proofs.OneReading.{only_reading}
use Rattle.vbi_c.specs.Types.{Drawing}
use Rattle.vbi_c.specs.Readings.{line_reading, reading_for_c}

-- a drawn line is read as its word
pub reads_drawn : (bytes : List ℕ) (drawing : Drawing) → drawing.setup.levels.black < drawing.setup.levels.white
    → IsWordOrNone drawing.word
    → bytes ≡ drawn_line_of drawing.setup.system drawing.setup.levels drawing.word
    → line_reading drawing.setup bytes ≡ reading_for_c (drawn_reading drawing.word)
reads_drawn bytes drawing order word drawn =
    let system = drawing.setup.system in
    let levels = drawing.setup.levels in
    let line = drawn_line_of system levels drawing.word in
    ap (line_reading drawing.setup) drawn
    ∙ ap reading_for_c (sym (only_reading system (row_levels levels line) (drawn_reading drawing.word)
    (drawn_reads system levels drawing.word order word)))
