-- What the lines of a side's fields show, with the nearest words of worn lines.
use Rattle.std.specs.Prelude.{ℕ, ◌*◌, ◌^◌, ◌&&◌, nat_le, nat_lt, if◌then◌else◌, List, [], ◌∷◌, take, drop}
use Rattle.std.specs.Prelude.{◌/◌, length, Option, Some, None}
use Rattle.vbi_words.specs.declared.outcome.Outcome.{Outcome}
use Rattle.vbi_words.specs.declared.outcome.Outcome.TheVariants.{Word}
use Rattle.vbi_words.specs.declared.system.System.{System}
use Rattle.vbi_words.specs.Geometry.{field_bytes, line_bytes}
use Rattle.vbi_near.specs.declared.recovery.Recovered.{Recovered}
use Rattle.vbi_near.specs.Recovery.{none_erased}
use Rattle.vbi_near.proofs.SomeRecovered.{some_recovered}
use Rattle.vbi_side.specs.declared.lines.Shown.{Shown}
use Rattle.vbi_side.specs.Misread.{Lines}
use Rattle.vbi_seek.specs.declared.side_bytes.Setup.{Setup}
use Rattle.vbi_seek.specs.declared.side_bytes.SideBytes.{SideBytes}

-- a side in the bytes of its fields, of which so many are whole
pub record Side : Type 0 where
  pub setup : Setup
  pub bytes : List ℕ
  pub count : ℕ

-- the side of these bytes; a last field that is cut is left out
abbrev pub side_in : Setup → List ℕ → Side
side_in setup bytes =
    record { setup = setup; bytes = bytes; count = length bytes / field_bytes setup.system }

-- a side that is handed over
abbrev pub side_of : SideBytes → Side
side_of side = record { setup = side.setup; bytes = side.bytes.now; count = side.count }

-- the bytes of a field of a side, counted from 0
abbrev pub field_in : System → List ℕ → ℕ → List ℕ
field_in system side i = take (field_bytes system) (drop (field_bytes system * i) side)

-- the bytes of the rows 15, 16 and 17 of a field, which are its lines 16, 17 and 18
abbrev pub code_bytes : System → List ℕ → List ℕ
code_bytes system field = take (3 * line_bytes system) (drop (15 * line_bytes system) field)

-- what these three rows show, if no column is erased. Its body is taken from a proof, and nobody needs to read it: this
-- meets `IsRecovered`, and by `laws::one_recovered` of the crate `vbi_near` nothing else does
unfoldable pub recovery_of : Setup → List ℕ → List Recovered
recovery_of setup rows = (some_recovered setup.system setup.levels rows (none_erased setup.system)).0

-- lines 16, 17 and 18 of field i of a side
abbrev pub recovered_at : Side → ℕ → List Recovered
recovered_at side i =
    recovery_of side.setup (code_bytes side.setup.system (field_in side.setup.system side.bytes i))

-- the word of an outcome: 24 bits, of which the first is set
abbrev pub word_in : Outcome → Option ℕ
word_in (Word word) = if nat_le (2 ^ 23) word && nat_lt word (2 ^ 24) then Some word else None
word_in _ = None

-- what a line shows
abbrev pub shown_as : Recovered → Shown
shown_as line = record { word = word_in line.outcome; pass = line.pass }

-- what three lines show
abbrev pub lines_by : List Recovered → Lines
lines_by (line_16 ∷ line_17 ∷ line_18 ∷ []) =
    record { line_16 = shown_as line_16; line_17 = shown_as line_17; line_18 = shown_as line_18 }
lines_by other =
    let none : Shown = record { word = None; pass = 0 } in
    record { line_16 = none; line_17 = none; line_18 = none }

-- what lines 16, 17 and 18 of field i of a side show
abbrev pub lines_at : Side → ℕ → Lines
lines_at side i = lines_by (recovered_at side i)
