-- How the rule is reckoned: weights by how numbers fit, and one sighting of a field judged beside the other.
use Rattle.std.specs.Prelude.{◌≡◌, ℕ, ◌<◌, ◌≤◌, List, Bool}
use Rattle.vbi_side.specs.Types.{Sighting, Sightings, Pace, Place}
use Rattle.vbi_side.specs.declared.belief.Fit.{Fit}
use Rattle.vbi_side.specs.declared.belief.Fit.TheVariants.{Runs, Stays, Says, Opposes}
use Rattle.vbi_side.specs.Sightings.{Has}
use Rattle.vbi_side.specs.Paces.{fits, stays}
use Rattle.vbi_side.specs.Beliefs.{enough, support_of}
use Rattle.vbi_side.specs.Chapters.{says, opposes}

-- whether two numbers stand to each other in this way: at the disc's pace, or as of one still; of chapters, as the same
-- one, or against each other
abbrev pub fits_as : Fit → ℕ → ℕ → ℕ → ℕ → Bool
fits_as (Runs pace) = fits pace
fits_as Stays = stays
fits_as Says = says
fits_as Opposes = opposes

-- less supports another number that the other sighting has
abbrev pub IsAhead : Pace → List Sightings → ℕ → ℕ → Sighting → Type 0
IsAhead pace fields i n other =
    (m : ℕ) → Has other m → (m ≡ n → ⊥) → support_of pace fields i m < support_of pace fields i n

-- the sighting has the number of this place, enough supports it, and less supports another number that the other
-- sighting has
pub record IsBelieved (pace : Pace) (fields : List Sightings) (here : Place) (sighting other : Sighting) : Type 0 where
  pub has : Has sighting here.number
  pub enough : enough ≤ support_of pace fields here.field here.number
  pub ahead : IsAhead pace fields here.field here.number other
