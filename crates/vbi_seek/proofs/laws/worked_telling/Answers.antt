use Rattle.std.proofs.Common.{◌≡◌, ℕ, ◌<◌, ◌≤◌, List, [], ◌∷◌, arith, refl, inl, inr, subst, lit<, lit≤}
use Rattle.vbi_side.specs.declared.pace.Pace.TheVariants.{Video, Film}
use Rattle.vbi_side.specs.declared.sighting.Sightings.{Sightings}
use Rattle.vbi_side.specs.Beliefs.{weight_below, support_of}
use Rattle.vbi_side.specs.Worked.{field_of}
use Rattle.vbi_seek.specs.NumberSpots.{IsTold, together, sum_below, run_weight}
use Rattle.vbi_seek.specs.Worked.{video_ending, film_ending, far_ending}
use Rattle.vbi_seek.proofs.laws.worked_telling.Goals as goal

-- what weighs too little at both paces isn't told
too_little : (seen : List Sightings) (i n video film run : ℕ) → support_of Video seen i n ≡ video
    → support_of Film seen i n ≡ film → run_weight seen i n ≡ run → video < together → film < together → run < together
    → IsTold seen i n → ⊥
too_little seen i n video film run video_is film_is run_is video_less film_less run_less told =
    let IsEnough : ℕ → Type 0 = λ weight. together ≤ weight in
    elim told [
      | inl enough ↦ let h : together ≤ video = subst IsEnough video_is enough in omega (arith, h, video_less)
      | inr (inl enough) ↦ let h : together ≤ film = subst IsEnough film_is enough in omega (arith, h, film_less)
      | inr (inr enough) ↦ let h : together ≤ run = subst IsEnough run_is enough in omega (arith, h, run_less)
    ]

pub returns-clause-video : goal.returns-clause-video
unfolding weight_below sum_below
returns-clause-video c =
    (inl (lit≤ tt), too_little (video_ending 1) 0 5 5 2 5 refl refl refl (lit< tt) (lit< tt) (lit< tt))

pub returns-clause-film : goal.returns-clause-film
unfolding weight_below sum_below
returns-clause-film c =
    (inr (inl (lit≤ tt)), too_little (film_ending 1) 0 5 4 5 4 refl refl refl (lit< tt) (lit< tt) (lit< tt))

pub returns-clause-far : goal.returns-clause-far
unfolding weight_below sum_below
returns-clause-far c =
    (inr (inr (lit≤ tt)), too_little (far_ending 1) 0 5 2 2 5 refl refl refl (lit< tt) (lit< tt) (lit< tt))

pub returns-clause-alone : goal.returns-clause-alone
unfolding weight_below sum_below
returns-clause-alone c = too_little (field_of 5 2 5 2 ∷ []) 0 5 4 4 4 refl refl refl (lit< tt) (lit< tt) (lit< tt)

pub returns-clause-shown : goal.returns-clause-shown
unfolding weight_below sum_below
returns-clause-shown c = ((0, inl (lit≤ tt, refl), inl (lit≤ tt)), (2, inr (lit≤ tt, refl), inl (lit≤ tt)))
