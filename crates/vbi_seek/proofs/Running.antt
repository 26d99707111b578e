-- The weight of what fields show that passes a test.
use Rattle.std.proofs.Common.{◌≡◌, ℕ, Bool, ◌+◌, List, add-one, ap, refl}
use Rattle.std.specs.Prelude.{slice_get}
use Rattle.vbi_side.specs.declared.sighting.Sightings.{Sightings}
use Rattle.vbi_side.specs.Beliefs.{field_weight}
use Rattle.vbi_seek.specs.NumberSpots.{sum_below}

pub sum_below_zero : (test : ℕ → ℕ → Bool) (seen : List Sightings) → sum_below test seen 0 ≡ 0
unfolding sum_below
sum_below_zero test seen = refl

pub sum_below_more : (test : ℕ → ℕ → Bool) (seen : List Sightings) (k : ℕ)
    → sum_below test seen (k + 1) ≡ sum_below test seen k + field_weight (test k) (slice_get seen k)
unfolding sum_below
sum_below_more test seen k = ap (sum_below test seen) (add-one k)
