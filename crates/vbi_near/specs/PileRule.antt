-- The word that lines say together which all have one word, or none: by their nearest words levelled, if they may be
-- levelled together, and if these say none, by those of the lines as they are.
use Rattle.std.specs.Prelude.{◌≡◌, ℕ, Bool, if◌then◌else◌, List, length, map, Option, Some}
use Rattle.std.specs.List.{list_all, range_with_len}
use Rattle.std.specs.Option.{option_or}
use Rattle.vbi_near.specs.Common.{System, line_at, Slicing, unit_of}
use Rattle.vbi_near.specs.Candidates.{Row, row_of, given_samples, levelled_samples, swing_in, are_alike_by, Candidates}
use Rattle.vbi_near.specs.Candidates.{HasNear, HasNearIf, marks_at, some_lines}
use Rattle.vbi_near.specs.LevelledLines.{levelled_unit, levelled_slicing}
use Rattle.vbi_near.specs.{declared.margins.Margins.Margins, WordRule.recovered_by}

-- ---- the rule

-- by how much the nearest word has to be ahead: a code that may stand on the lines by less than another word, if it is
-- known which columns are erased
abbrev pub pile_margins : Bool → Margins
pile_margins known = record {
  code = record { columns = if known then 4 else 8; share = 4 };
  other = record { columns = 8; share = 3 };
  ends = 4;
}

-- lines that swing so may be levelled together: each two of them may
abbrev pub swing_alike : ℕ → List ℕ → Bool
swing_alike unit swings = list_all (λ swing. list_all (are_alike_by unit swing) swings) swings

abbrev pub are_all_alike : System → Slicing → List Row → Bool
are_all_alike system slicing rows = swing_alike (unit_of slicing) (map (swing_in system slicing) rows)

-- the word that this many lines say together
abbrev pub said_together : ℕ → Bool → ℕ → Candidates → Option ℕ
said_together unit known lines near =
    option_or (recovered_by levelled_unit (pile_margins known) lines near.levelled)
    (recovered_by unit (pile_margins known) lines (Some near.given))

-- ---- from lines

-- the candidates of lines that have one word
pub record AreOfAll (system : System) (number : ℕ) (slicing : Slicing) (rows : List Row) (candidates : Candidates)
    : Type 0 where
  pub levelled : HasNearIf (some_lines system number levelled_slicing (map (levelled_samples system slicing) rows))
      (are_all_alike system slicing rows) candidates.levelled
  pub given : HasNear (some_lines system number slicing (map given_samples rows)) candidates.given

-- what these lines say together: there are such nearest words with which the rule says it
abbrev pub IsSaidTogether : System → ℕ → Slicing → Bool → List Row → Option ℕ → Type 0
IsSaidTogether system number slicing known rows said = (near : Candidates)
    × AreOfAll system number slicing rows near
    × (said ≡ said_together (unit_of slicing) known (length rows) near)

-- ---- from bytes

-- a line of some that lie one after the other, as do the marks of their erased columns, counted from 0
abbrev pub row_in : System → List ℕ → List Bool → ℕ → Row
row_in system lines erased i =
    row_of (line_at system lines 0 i) (marks_at system erased i)

-- the first lines of some that lie one after the other, this many
abbrev pub rows_in : System → List ℕ → List Bool → ℕ → List Row
rows_in system lines erased count = map (row_in system lines erased) (range_with_len 0 count)
