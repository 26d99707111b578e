-- Lines as the definitions of candidates have them.
use Rattle.std.specs.Prelude.{ℕ, List}
use Rattle.vbi_near.specs.Candidates.{Row, row_of, line_of}
use Rattle.vbi_near.specs.{declared.lines.Line.Line, declared.lines.Rows.Rows}
use Rattle.vbi_near.specs.Candidates as candidates
use Rattle.vbi_near.specs.PileRule as piled

-- the bytes of a line, and which of its columns are erased
abbrev pub row_in : Line → Row
row_in line = row_of line.bytes.now line.erased.now

-- a line with its system, its number and its levels
abbrev pub line_in : Line → candidates.Line
line_in line = line_of line.system line.number line.levels (row_in line)

-- one of lines that lie one after the other, counted from 0
abbrev pub row_at : Rows → ℕ → Row
row_at rows = piled.row_in rows.system rows.bytes.now rows.erased.now

-- one of such lines, taken as a line of this number
abbrev pub line_in_rows : Rows → ℕ → ℕ → candidates.Line
line_in_rows rows number line = line_of rows.system number rows.levels (row_at rows line)

-- all of the lines that lie one after the other
abbrev pub rows_of : Rows → List Row
rows_of rows = piled.rows_in rows.system rows.bytes.now rows.erased.now rows.count
