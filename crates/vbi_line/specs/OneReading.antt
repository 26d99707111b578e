-- The outcome and the reading of a line's levels as functions, and a line that is read and held no longer.
use Rattle.std.specs.Prelude.{◌≡◌, ◌+◌, Bool, if◌then◌else◌, List, [], Option, Some, None}
use Rattle.vbi_words.specs.Geometry.{width_of}
use Rattle.vbi_words.specs.Levels.{Slicing, row_levels}
use Rattle.vbi_words.specs.declared.system.System.{System}
use Rattle.vbi_words.specs.declared.outcome.Outcome.{Outcome}
use Rattle.vbi_words.specs.declared.outcome.Reading.{Reading}
use Rattle.vbi_words.specs.Smooth.{smooth_of}
use Rattle.vbi_words.specs.Readings.{reading_from}
use Rattle.vbi_words.proofs.Found.{found}
use Rattle.vbi_line.specs.Line.{Line}

-- the outcome of the levels. Its body is taken from a proof, and nobody needs to read it: the law
-- `vbi_line::laws::one_outcome` shows that `outcome_of system levels` meets `IsOutcome`, and that nothing else does.
unfoldable pub outcome_of : System → List Bool → Outcome
outcome_of system levels = (found system levels).0

-- the reading of the levels; the law `vbi_line::laws::one_reading` shows that it meets `IsReading`, and nothing else
-- does
unfoldable pub reading_of : System → List Bool → Reading
reading_of system levels = reading_from (outcome_of system levels) (outcome_of system (smooth_of levels))

-- the line that was held has this reading and each of its samples was looked at once, if it is selected; else there is
-- no reading; it is held no longer
pub record ReadsLine (levels : Slicing) (is_selected : Bool) (old new : Line) (reading : Option Reading) : Type 0
  where
    pub shows : reading ≡ (if is_selected then Some (reading_of old.system (row_levels levels old.held)) else None)
    pub looked : new.looked ≡ old.looked + (if is_selected then width_of old.system else 0)
    pub system : new.system ≡ old.system
    pub held : new.held ≡ []
    pub cursors : new.cursors ≡ []
