-- The worked sides, computed.
use Rattle.std.proofs.Common.{◌≡◌, ℕ, ◌≤◌, refl, arith}
use Rattle.std.specs.Prelude.{Some, slice_get}
use Rattle.vbi_side.specs.Types.{Video, Film}
use Rattle.vbi_side.specs.Sightings.{Shows}
use Rattle.vbi_side.specs.Beliefs.{enough, weight_below, support_of, Believed}
use Rattle.vbi_side.specs.Truth.{IsSound, wrong_weight, video_disc, film_disc}
use Rattle.vbi_side.specs.Whole.{IsWhole}
use Rattle.vbi_side.specs.Worked.{blank, wrong_by_9, wrong_by_10, field_of, film_side}
use Rattle.vbi_side.proofs.Discs.{video_runs, film_runs}

-- a blank field shows no number
pub none_shown : (n : ℕ) → Shows (Some blank) n → ⊥
none_shown n shown = grind arith

pub nine : wrong_weight video_disc wrong_by_9 4 ≡ 9
unfolding weight_below
nine = refl

pub ten : wrong_weight video_disc wrong_by_10 4 ≡ 10
unfolding weight_below
ten = refl

pub sound_side : IsSound Video video_disc wrong_by_9 4 2
sound_side = (video_runs 4, refl, omega (arith, nine))

right_support : support_of Video wrong_by_9 4 2 ≡ 12
unfolding weight_below
right_support = refl

rival_support : support_of Video wrong_by_9 4 102 ≡ 9
unfolding weight_below
rival_support = refl

wrong_support : support_of Video wrong_by_10 4 102 ≡ 10
unfolding weight_below
wrong_support = refl

pub right : Believed Video wrong_by_9 4 2
right = grind (arith, right_support, rival_support)

pub wrong : Believed Video wrong_by_10 4 102
wrong = grind (arith, wrong_support)

-- ---- a capture of film that is read whole

film_support : (support_of Film film_side 0 0 ≡ 12) × (support_of Film film_side 2 1 ≡ 12)
    × (support_of Film film_side 5 2 ≡ 12)
unfolding weight_below
film_support = (refl, refl, refl)

-- a field shows the number that both of its lines have
shown_is : (m n weight : ℕ) → Shows (Some (field_of m weight m weight)) n → m ≡ n
shown_is m n weight shown = grind arith

film_right : (i n : ℕ) → Shows (slice_get film_side i) n → film_disc i ≡ Some n
film_right i n h1 = grind (arith, none_shown, shown_is)

film_much : (i n : ℕ) → Shows (slice_get film_side i) n → enough ≤ support_of Film film_side i n
film_much i n h1 = grind (arith, film_support, none_shown, shown_is)

pub whole_film : IsWhole Film film_disc film_side
whole_film = record { runs = film_runs; right = film_right; much = film_much }

pub ruleset sides = (nine, ten, sound_side, right, wrong)
