-- The pace that is asked for.
use Rattle.std.specs.Prelude.{◌≡◌, List}
use Rattle.vbi_side.specs.declared.pace.Pace.{Pace}
use Rattle.vbi_side.specs.declared.sighting.Sightings.{Sightings}
use Rattle.vbi_side.specs.PaceSearch.{IsFound}
use Rattle.vbi_seek.specs.declared.asked.Asked.{Asked}
use Rattle.vbi_seek.specs.declared.asked.Asked.TheVariants.{Given, Found}
use Rattle.vbi_seek.specs.declared.asked.Judging.{Judging}

-- a pace that is given is this one
abbrev pub IsGiven : Asked → Pace → Type 0
IsGiven (Given given) pace = pace ≡ given
IsGiven Found pace = Unit {0}

-- the pace is the one that is asked for: the one that was given, or the one that is found
abbrev pub IsAskedPace : Judging → List Sightings → Pace → Type 0
IsAskedPace judging seen pace =
    IsGiven judging.asked pace × (judging.asked ≡ Found → IsFound judging.system judging.counted seen pace)
