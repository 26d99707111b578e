-- The word that lines say together, as C sees it.
use Rattle.std.specs.Prelude.{◌≡◌, ◌&&◌, ◌==◌, ℕ, ◌/◌, Bool, nat_le, if◌then◌else◌, List, length, map, unwrap_or}
use Rattle.std.specs.Prelude.{Result, Ok, Err, Option, ◌<◌}
use Rattle.std.specs.List.{list_all, range_with_len}
use Rattle.vbi_words.specs.Geometry.{line_bytes, line_at}
use Rattle.vbi_near.specs.Candidates.{Row, row_of, marks_at}
use Rattle.vbi_near.specs.PileRule.{IsSaidTogether}
use Rattle.vbi_c.specs.Types.{LdvbiErased, Setup, Refusal, System}
use Rattle.vbi_c.specs.declared.status.Refusal.TheVariants.{Erased, Line, Known}
use Rattle.vbi_c.specs.Erased.{is_code_line, is_taken, line_marks}
use Rattle.vbi_c.specs.Setups.{lines_setup}
use Rattle.vbi_c.specs.Statuses.{in_turn}

-- ---- what is refused

-- how many lines this many bytes are
abbrev pub count_in : System → ℕ → ℕ
count_in system bytes = bytes / line_bytes system

-- a list is taken if this many lines of one number are handed over: its entries are of these
abbrev pub is_list_of : ℕ → ℕ → List LdvbiErased → Bool
is_list_of line count list = is_taken count list && list_all (λ entry. entry.line == line) list

-- the setup of a call with lines of one number: after the setup and the length the line is looked at, which has to have
-- code words, then whether dropouts are known, by 1, or not, by 0, then the list
abbrev pub pile_setup : ℕ → ℕ → ℕ → ℕ → ℕ → ℕ → List LdvbiErased → Result Setup Refusal
pile_setup system black white line known bytes list = in_turn (lines_setup system black white bytes) (λ setup.
    if is_code_line line
    then (if nat_le known 1
    then (if is_list_of line (count_in setup.system bytes) list then Ok setup else Err Erased)
    else Err Known) else Err Line)

-- ---- what is answered

-- the line of this place, of which the columns are erased that an entry of its place names
abbrev pub row_erased : System → ℕ → List ℕ → List LdvbiErased → ℕ → Row
row_erased system line bytes list place =
    row_of (line_at system bytes 0 place) (line_marks list system place line)

-- all of them
abbrev pub rows_erased : System → ℕ → List ℕ → List LdvbiErased → List Row
rows_erased system line bytes list =
    map (row_erased system line bytes list) (range_with_len 0 (count_in system (length bytes)))

-- this is the word that rows of lines of this number say together, or 0
abbrev pub IsWordOf : Setup → ℕ → ℕ → List Row → ℕ → Type 0
IsWordOf setup line known rows answer = (said : Option ℕ)
    × IsSaidTogether setup.system line setup.levels (known == 1) rows said × (answer ≡ unwrap_or said 0)

-- ---- as it is found

-- the marks of the first lines lie one line after the other
abbrev pub HasMarks : System → ℕ → List LdvbiErased → ℕ → List Bool → Type 0
HasMarks system line list count marks = (place : ℕ) → place < count
    → marks_at system marks place ≡ line_marks list system place line
