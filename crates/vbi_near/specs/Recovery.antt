-- The words of a field's three lines: those that its lines show, and if a line shows none, the word that its samples
-- say (WordRule.antt): first the levelled ones, and if these say none, those as they are.
use Rattle.std.specs.Prelude.{◌≡◌, ℕ, ◌+◌, ◌*◌, ◌==◌, ◌&&◌, ◌||◌, Bool, true, false, not, List, [], ◌∷◌, replicate}
use Rattle.std.specs.Prelude.{nat_le, IsTrue, Option, Some, None, if◌then◌else◌}
use Rattle.std.specs.Option.{option_or}
use Rattle.vbi_near.specs.Common.{System, Outcome, Word, Blank, Reading, width_of, line_at, Slicing, row_levels}
use Rattle.vbi_near.specs.Common.{reading_of, outcome_of, unit_of}
use Rattle.vbi_near.specs.WordRule.{said_if, recovered_by, is_said, stand_of, said_in}
use Rattle.vbi_near.specs.Candidates.{Candidates, Row, Line, row_of, line_of, marks_at, given_samples, AreOf, AreOfBoth}
use Rattle.vbi_near.specs.{declared.recovery.Recovered.Recovered, declared.near.Near.Near}
use Rattle.vbi_near.specs.{declared.word_rule.PairNears.PairNears, declared.word_rule.Agreement.Agreement}
use Rattle.vbi_near.specs.{declared.word_rule.Agreement.TheVariants.Alone, Margins.levelled_margins}
use Rattle.vbi_near.specs.{Margins.given_margins}
use Rattle.vbi_near.specs.{LevelledLines.levelled_unit, StretchedCells.IsStretched}

-- ---- one line

-- what there is of a line: its reading; if that is of pass 2, the outcome of the line's own levels, and how far the
-- line is from the nearest row of the word on cells that are somewhat longer or shorter; and the words that it may have
pub record Seen : Type 0 where
  pub reading : Reading
  pub plain : Outcome
  pub near : Candidates
  pub stretched : ℕ

-- the word that a line says by itself
abbrev pub said_alone : ℕ → Candidates → Option ℕ
said_alone unit near =
    option_or (said_if levelled_unit levelled_margins.lone 1 near.levelled)
    (said_if unit given_margins.lone 1 (Some near.given))

-- the word that is recovered of what the line says by itself
abbrev pub recovered_alone : ℕ → Candidates → Option ℕ
recovered_alone unit near =
    option_or (recovered_by levelled_unit levelled_margins.lone 1 near.levelled)
    (recovered_by unit given_margins.lone 1 (Some near.given))

-- how far the line is from the nearest row of any other word than this, or of none
abbrev pub other_than : ℕ → Near → ℕ
other_than word near = if is_said word near.word then near.rival else near.distance

-- a word on somewhat longer or shorter cells is ahead of any other word by eight columns
abbrev pub is_stretched : ℕ → ℕ → ℕ → Near → Bool
is_stretched unit stretched word near = nat_le (stretched + 8 * unit) (other_than word near)

-- a word of pass 2 is confirmed, a picture number of 80,000 or more too: the line says it by itself, or it is ahead on
-- somewhat longer or shorter cells
abbrev pub is_confirmed : ℕ → Candidates → ℕ → ℕ → Bool
is_confirmed unit near stretched word =
    is_said word (said_alone unit near) || is_stretched unit stretched word near.given.word

-- what a reading shows stays, but for a word of pass 2 that isn't confirmed
abbrev pub reading_stays : Outcome → ℕ → (ℕ → Bool) → Bool
reading_stays (Word word) pass confirms = not (pass == 2) || confirms word
reading_stays outcome pass confirms = true

-- what the line is taken to show by its own levels: without its word of pass 2 it shows none, and the cause is that of
-- its levels
abbrev pub own_by : Outcome → Outcome → ℕ → (ℕ → Bool) → Recovered
own_by plain outcome pass confirms =
    if reading_stays outcome pass confirms
    then record { outcome = outcome; pass = pass }
    else record { outcome = plain; pass = 0 }

-- what the line is taken to show by its own levels, by what there is of it
abbrev pub own_of : ℕ → Seen → Recovered
own_of unit seen =
    own_by seen.plain seen.reading.outcome seen.reading.pass (is_confirmed unit seen.near seen.stretched)

-- a line without a word that isn't blank
abbrev pub is_open : Outcome → Bool
is_open (Word word) = false
is_open Blank = false
is_open outcome = true

-- ---- a field

-- both of lines 17 and 18 are open
abbrev pub are_open : ℕ → Seen → Seen → Bool
are_open unit second third = is_open (own_of unit second).outcome && is_open (own_of unit third).outcome

-- how lines 17 and 18 stand to each other, levelled and as they are
pub record Stands : Type 0 where
  pub levelled : Agreement
  pub given : Agreement

-- a line has no other beside it
abbrev pub alone : Stands
alone = record { levelled = Alone; given = Alone }

-- the nearest words of lines 17 and 18, and of both together, levelled and as they are
abbrev pub levelled_of : Candidates → Candidates → Candidates → PairNears
levelled_of second third both =
    record { second = second.levelled; third = third.levelled; both = both.levelled }

abbrev pub given_of : Candidates → Candidates → Candidates → PairNears
given_of second third both =
    record { second = Some second.given; third = Some third.given; both = Some both.given }

-- two open lines stand so to each other
abbrev pub stands_by : ℕ → Candidates → Candidates → Candidates → Stands
stands_by unit second third both = record {
  levelled = stand_of levelled_margins levelled_unit (levelled_of second third both);
  given = stand_of given_margins unit (given_of second third both);
}

abbrev pub stands_of : ℕ → Seen → Seen → Candidates → Stands
stands_of unit second third both =
    if are_open unit second third then stands_by unit second.near third.near both else alone

-- the word that an open line says
abbrev pub said_by : Stands → ℕ → Candidates → Candidates → Option ℕ
said_by stands unit near both =
    option_or (said_in levelled_margins stands.levelled levelled_unit near.levelled both.levelled)
    (said_in given_margins stands.given unit (Some near.given) (Some both.given))

-- a recovered word is of pass 3
abbrev pub recovered_as : Recovered → Option ℕ → Recovered
recovered_as own None = own
recovered_as own (Some word) = record { outcome = Word word; pass = 3 }

-- what a line shows
abbrev pub shown_in : Stands → ℕ → Seen → Candidates → Recovered
shown_in stands unit seen both =
    let own = own_of unit seen in
    if is_open own.outcome then recovered_as own (said_by stands unit seen.near both) else own

-- what lines 16, 17 and 18 show
abbrev pub recovered_of : ℕ → Seen → Seen → Seen → Candidates → List Recovered
recovered_of unit first second third both =
    let stands = stands_of unit second third both in
    shown_in alone unit first both
    ∷ shown_in stands unit second both
    ∷ shown_in stands unit third both
    ∷ []

-- ---- from bytes

-- the rule asks for a line's nearest words, unless it has a word of pass 1 or is blank
abbrev pub is_asked : Outcome → ℕ → Bool
is_asked Blank pass = false
is_asked outcome pass = not (pass == 1)

-- this is what there is of a line; its nearest words are asked for, or are of no account
pub record IsSeen (line : Line) (seen : Seen) : Type 0 where
  pub reading : seen.reading ≡ reading_of line.system (row_levels line.slicing line.row.bytes)
  pub plain : seen.reading.pass ≡ 2 → seen.plain ≡ outcome_of line.system (row_levels line.slicing line.row.bytes)
  pub near : IsTrue (is_asked seen.reading.outcome seen.reading.pass) → AreOf line seen.near
  pub stretched : (word : ℕ) → seen.reading.outcome ≡ Word word → seen.reading.pass ≡ 2
      → IsStretched line.system line.slicing (given_samples line.row ∷ []) word seen.stretched

-- ---- as it is found

-- what a line is taken to show by its own levels, by whatever there is of it
abbrev pub IsOwn : Line → Recovered → Type 0
IsOwn line own = (seen : Seen) → IsSeen line seen → own ≡ own_of (unit_of line.slicing) seen

-- ---- a field, by its bytes

-- of a field's three rows no column is erased
abbrev pub none_erased : System → List Bool
none_erased system = replicate (3 * width_of system) false

-- a row of three, counted from 0, of which some columns are erased
abbrev pub row_at : System → List ℕ → List Bool → ℕ → Row
row_at system rows erased i =
    row_of (line_at system rows 0 i) (marks_at system erased i)

-- the reading of a row of three, counted from 0
abbrev pub row_reading : System → Slicing → List ℕ → ℕ → Reading
row_reading system slicing rows row = reading_of system (row_levels slicing (line_at system rows 0 row))

-- line 16, 17 or 18 of a field, counted from 0
abbrev pub field_line : System → Slicing → List ℕ → List Bool → ℕ → Line
field_line system slicing rows erased i = line_of system (16 + i) slicing (row_at system rows erased i)

-- what there is of a field's three lines, and the nearest words of lines 17 and 18 together if both are open
pub record AreSeen (line : ℕ → Line) (first second third : Seen) (both : Candidates) : Type 0 where
  pub line_16 : IsSeen (line 0) first
  pub line_17 : IsSeen (line 1) second
  pub line_18 : IsSeen (line 2) third
  pub pair : IsTrue (are_open (unit_of (line 0).slicing) second third) → AreOfBoth (line 1) (line 2).row both

-- what lines 16, 17 and 18 show, by the bytes of their rows and the columns that are erased: there are such nearest
-- words with which the rule says it. They show one thing, as `laws::one_recovered` says.
abbrev pub IsRecovered : System → Slicing → List ℕ → List Bool → List Recovered → Type 0
IsRecovered system slicing rows erased recovered = (first second third : Seen) × (both : Candidates)
    × AreSeen (field_line system slicing rows erased) first second third both
    × (recovered ≡ recovered_of (unit_of slicing) first second third both)

-- a reading that is never changed: a word of pass 1, or a blank line
abbrev pub IsSureBy : Outcome → ℕ → Type 0
IsSureBy (Word word) pass = pass ≡ 1
IsSureBy Blank pass = Unit {0}
IsSureBy outcome pass = ⊥

-- a line that is read so is shown as it was read
abbrev pub IsKept : Reading → Recovered → Type 0
IsKept reading recovered = IsSureBy reading.outcome reading.pass
    → recovered ≡ record { outcome = reading.outcome; pass = reading.pass }
