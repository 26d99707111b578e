-- What the bytes of a field's three rows show with recovered words, and which word is nearest to a row: as relations,
-- and as functions, which give the only answer there is.
use Rattle.std.specs.Prelude.{ℕ, Bool, List, [], ◌∷◌, ◌++◌}
use Rattle.vbi_words.specs.declared.system.System.{System}
use Rattle.vbi_words.specs.declared.outcome.Outcome.TheVariants.{Blank}
use Rattle.vbi_words.specs.Levels.{Slicing}
use Rattle.vbi_near.specs.declared.near.Near.{Near}
use Rattle.vbi_near.specs.declared.recovery.Recovered.{Recovered}
use Rattle.vbi_near.specs.Candidates.{Row, given_samples}
use Rattle.vbi_near.specs.Nearest.{IsNearest, IsFirst}
use Rattle.vbi_near.specs.LongerSignal.{IsLonger}
use Rattle.vbi_near.specs.ShorterSignal.{IsShorter}
use Rattle.vbi_near.proofs.SomeNear.{some_near}
use Rattle.vbi_near.proofs.SomeRecovered.{some_recovered}
use Rattle.vbi_field.specs.Stream.{Reading, FieldReadings, FieldRows}

-- ---- the nearest word of a row

-- this word is the nearest one to a row as it is, without its erased columns, and the first of those that are as near;
-- a row has one (`laws::one_near_row`)
pub record IsNearRow (system : System) (slicing : Slicing) (row : Row) (near : Near) : Type 0 where
  pub nearest : IsNearest system slicing (given_samples row ∷ []) near
  pub first : IsFirst system slicing (given_samples row ∷ []) near
  pub longer : IsLonger system slicing (given_samples row ∷ []) near
  pub shorter : IsShorter system slicing (given_samples row ∷ []) near

-- the nearest word of a row. Its body is taken from a proof, and nobody needs to read it: `laws::one_near_row` shows
-- that it meets `IsNearRow`, and that nothing else does.
unfoldable pub near_of : System → Slicing → Row → Near
near_of system slicing row = (some_near system slicing (given_samples row ∷ [])).0

-- ---- what a field shows

-- three rows one after the other
abbrev pub joined_rows : FieldRows → List ℕ
joined_rows rows = rows.first ++ (rows.second ++ rows.third)

-- what three rows show, of whose columns these are erased; `laws::one_shown` shows that it meets `IsRecovered`, and by
-- `laws::one_recovered` of the crate `vbi_near` nothing else does
unfoldable pub recovery_of : System → Slicing → List ℕ → List Bool → List Recovered
recovery_of system slicing rows marks = (some_recovered system slicing rows marks).0

-- what a line shows as a reading; one of pass 3 was recovered
abbrev pub reading_as : Recovered → Reading
reading_as line = record { outcome = line.outcome; pass = line.pass }

abbrev pub blank_line : Reading
blank_line = record { outcome = Blank; pass = 0 }

-- what lines 16, 17 and 18 show
abbrev pub as_readings : List Recovered → FieldReadings
as_readings (first ∷ second ∷ third ∷ []) =
    record { first = reading_as first; second = reading_as second; third = reading_as third }
as_readings _ = record { first = blank_line; second = blank_line; third = blank_line }
