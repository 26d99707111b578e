-- What was misread and what is true around a field.
use Rattle.std.proofs.Common.{◌≡◌, ◌≢◌, ℕ, ◌+◌, ◌*◌, ◌-◌, ◌%◌, ◌<◌, ◌≤◌, Bool, true}
use Rattle.std.proofs.Common.{List, arith, sym, ◌∙◌, subst, inl, inr, eq-eqb}
use Rattle.std.specs.Prelude.{Option, Some, slice_get, ◌⊎◌, nat_le, not, ◌&&◌, ◌==◌}
use Rattle.std.proofs.lemmas.Bool.{cases_lt, cases_eq, leb-true, le-leb, eqb-true, and_parts, and_from}
use Rattle.vbi_side.specs.Types.{Sightings, Pace, Video, Film}
use Rattle.vbi_side.specs.Sightings.{Shows}
use Rattle.vbi_side.specs.Paces.{fits, stays}
use Rattle.vbi_side.specs.Beliefs.{reach, enough, field_most, window_weight, support_of, Believed}
use Rattle.vbi_side.specs.Truth.{IsNear, AreEven, InStep, RunsOn, StandsStill}
use Rattle.vbi_side.specs.Truth.{IsSound, IsSoundStill, is_recorded, wrong_weight}
use Rattle.vbi_side.proofs.Weights.{weight_below-narrower, weight_below-agree, spread, weight_at-passes}
use Rattle.vbi_side.proofs.Recorded.{wrong_if, right_once, right_somewhere}

-- ---- what fits, in numbers

pub video_fits : (i m j n : ℕ) → fits Video i m j n ≡ true → j + 2 * m ≡ i + 2 * n
video_fits i m j n e = eqb-true (j + 2 * m) (i + 2 * n) e

pub film_fits : (i m j n : ℕ) → fits Film i m j n ≡ true
    → (2 * j + 5 * m ≤ 2 * i + 5 * n + 2) × (2 * i + 5 * n ≤ 2 * j + 5 * m + 2)
film_fits i m j n e = grind (arith, and_parts, leb-true)

pub near_same : (x y : ℕ) → x ≡ y → (nat_le x (y + 0) && nat_le y (x + 0)) ≡ true
near_same x y e = grind (arith, and_from, le-leb)

-- the fields of a still
pub stays_is : (i m j n : ℕ) → stays i m j n ≡ true → (n ≡ m) × AreEven i j
stays_is i m j n e =
    let p = and_parts (n == m) ((i + j) % 2 == 0) e in (eqb-true n m p.0, eqb-true ((i + j) % 2) 0 p.1)

-- one number in a field fits one in another: the fields are in step
fits_in_step : (pace : Pace) (i m j n : ℕ) → fits pace i m j n ≡ true → InStep pace i j
fits_in_step Video i m j n e = omega (arith, video_fits i m j n e)
fits_in_step Film i m j n e = tt {0}

even_in_step : (pace : Pace) (i j : ℕ) → AreEven i j → InStep pace i j
even_in_step Video i j e = e
even_in_step Film i j e = tt {0}

-- no two numbers in one field fit the same number in another
one_fits : (pace : Pace) (i a b j n : ℕ) → fits pace i a j n ≡ true → fits pace i b j n ≡ true → a ≡ b
one_fits pace i a b j n h1 h2 = grind (arith, film_fits, video_fits)

-- no two fields an even number apart have one number that fits
one_field : (pace : Pace) (j k n : ℕ) → fits pace j n k n ≡ true → AreEven j k → j ≡ k
one_field Video j k n e even = omega (arith, video_fits j n k n e)
one_field Film j k n e even = let p = film_fits j n k n e in omega (arith, p.0, p.1, even)

-- ---- where the disc ran on

-- a sighting that fits a wrong number is wrong
wrong_fits : (pace : Pace) (recorded : ℕ → Option ℕ) (i a n : ℕ) → RunsOn pace recorded i → recorded i ≡ Some a → n ≢ a
    → (j m : ℕ) → IsNear i j → fits pace i n j m ≡ true → not (is_recorded (recorded j) m) ≡ true
wrong_fits pace recorded i a n runs has wrong j m near e = wrong_if recorded j m (λ is.
    wrong (one_fits pace i n a j m e
    (runs i j a m (omega arith, omega arith) near (fits_in_step pace i n j m e) has is)))

-- of the right ones, one field's at most is of one still with a wrong number
pub wrong_still : (pace : Pace) (recorded : ℕ → Option ℕ) (fields : List Sightings) (i n : ℕ) → RunsOn pace recorded i
    → window_weight (stays i n) fields i ≤ wrong_weight recorded fields i + field_most
wrong_still pace recorded fields i n runs = right_once recorded (stays i n) fields i (λ j k l m near others e f.
    let a = stays_is i n j l e.0 in
    let b = stays_is i n k m f.0 in
    let even : AreEven j k = omega (arith, a.1, b.1) in
    let fit : fits pace j l k m ≡ true = runs j k l m near others (even_in_step pace j k even) e.1 f.1 in
    one_field pace j k n (subst (λ x. fits pace j n k x ≡ true) b.0
    (subst (λ x. fits pace j x k m ≡ true) a.0 fit)) even)

-- so all that supports a wrong number is wrong
wrong_support : (pace : Pace) (recorded : ℕ → Option ℕ) (fields : List Sightings) (i a n : ℕ)
    → RunsOn pace recorded i → recorded i ≡ Some a → n ≢ a
    → support_of pace fields i n ≤ wrong_weight recorded fields i
wrong_support pace recorded fields i a n runs has wrong =
    omega (
      arith,
      weight_below-narrower (fits pace i n) (λ j m. not (is_recorded (recorded j) m)) fields i (2 * reach + 1)
          (omega arith) (wrong_fits pace recorded i a n runs has wrong),
      wrong_still pace recorded fields i n runs,
    )

pub sound : (pace : Pace) (recorded : ℕ → Option ℕ) (fields : List Sightings) (i m n : ℕ)
    → IsSound pace recorded fields i m → Believed pace fields i n → n ≡ m
sound pace recorded fields i m n h1 h2 = grind (arith, cases_eq, wrong_support)

pub complete : (pace : Pace) (recorded : ℕ → Option ℕ) (fields : List Sightings) (i m : ℕ)
    → RunsOn pace recorded i → recorded i ≡ Some m → Shows (slice_get fields i) m
    → enough ≤ support_of pace fields i m → wrong_weight recorded fields i < support_of pace fields i m
    → Believed pace fields i m
complete pace recorded fields i m runs has shown much more = grind (arith, wrong_support)

-- ---- whether the field has a number or not

-- a believed number fits one that a field within reach has on the disc and shows
pub on_the_disc : (pace : Pace) (recorded : ℕ → Option ℕ) (fields : List Sightings) (i n : ℕ)
    → RunsOn pace recorded i → wrong_weight recorded fields i < enough → Believed pace fields i n
    → (j m : ℕ) × IsNear i j × (recorded j ≡ Some m) × Shows (slice_get fields j) m × (fits pace i n j m ≡ true)
on_the_disc pace recorded fields i n runs few b =
    right_somewhere recorded (fits pace i n) fields i
    (omega (arith, few, b.enough, wrong_still pace recorded fields i n runs))

-- of video it fits each of them
pub on_the_video : (recorded : ℕ → Option ℕ) (fields : List Sightings) (i n : ℕ) → RunsOn Video recorded i
    → wrong_weight recorded fields i < enough → Believed Video fields i n → (j m : ℕ) → IsNear i j → AreEven i j
    → recorded j ≡ Some m → fits Video i n j m ≡ true
on_the_video recorded fields i n runs few b j m near even has =
    let p = on_the_disc Video recorded fields i n runs few b in
    let step : InStep Video p.0 j = omega (arith, fits_in_step Video i n p.0 p.1 p.5, even) in
    let fit : fits Video p.0 p.1 j m ≡ true = runs p.0 j p.1 m p.2 near step p.3 has in
    eq-eqb (j + 2 * n) (i + 2 * m) (omega (arith, video_fits i n p.0 p.1 p.5, video_fits p.0 p.1 j m fit))

-- ---- where it stood still

-- a sighting of one still with a wrong number is wrong
wrong_stays : (recorded : ℕ → Option ℕ) (i a n : ℕ) → StandsStill recorded i a → n ≢ a
    → (j m : ℕ) → IsNear i j → stays i n j m ≡ true → not (is_recorded (recorded j) m) ≡ true
wrong_stays recorded i a n still wrong j m near e = wrong_if recorded j m (λ is.
    let p = stays_is i n j m e in wrong (sym p.0 ∙ still j m near p.1 is))

-- of the right ones, one field's at most fits a wrong number at the pace of video
wrong_running : (recorded : ℕ → Option ℕ) (fields : List Sightings) (i a n : ℕ) → StandsStill recorded i a
    → window_weight (fits Video i n) fields i ≤ wrong_weight recorded fields i + field_most
wrong_running recorded fields i a n still = grind (arith, fits_in_step, right_once, video_fits)

pub sound_still : (recorded : ℕ → Option ℕ) (fields : List Sightings) (i m n : ℕ)
    → IsSoundStill recorded fields i m → Believed Video fields i n → n ≡ m
sound_still recorded fields i m n (still, few) b = elim (cases_eq n m) [
  | inl e ↦ e
  | inr wrong ↦ absurd (omega (
    arith,
    few,
    b.enough,
    wrong_running recorded fields i m n still,
    weight_below-narrower (stays i n) (λ j k. not (is_recorded (recorded j) k)) fields i (2 * reach + 1)
        (omega arith) (wrong_stays recorded i m n still wrong),
  ))
]

-- ---- whatever the truth

-- what is believed of a field is of another that shows the same numbers, if each has the same support there
pub believed_alike : (pace : Pace) (fields others : List Sightings) (i j n : ℕ)
    → slice_get fields i ≡ slice_get others j
    → ((m : ℕ) → support_of pace fields i m ≡ support_of pace others j m)
    → Believed pace fields i n → Believed pace others j n
believed_alike pace fields others i j n here same b = grind arith

pub only_near : (pace : Pace) (fields others : List Sightings) (i n : ℕ)
    → ((j : ℕ) → IsNear i j → slice_get fields j ≡ slice_get others j)
    → Believed pace fields i n → Believed pace others i n
only_near pace fields others i n agree b = grind (arith, believed_alike, weight_below-agree)

-- ---- another field agrees

-- where sightings that pass the test weigh more than one field's do, a number of another field passes it
another : (test : ℕ → ℕ → Bool) (fields : List Sightings) (i : ℕ) → field_most < window_weight test fields i
    → (j m : ℕ) × (j ≢ i) × IsNear i j × Shows (slice_get fields j) m × (test j m ≡ true)
another test fields i more = elim (spread test fields i reach (2 * reach + 1)) [
  | inl (most, none) ↦ absurd (omega (arith, most, more))
  | inr (k, less, apart, weighs) ↦ let p = weight_at-passes test fields i k weighs in
      (i + k - reach, p.1.0, omega (arith, apart, p.0), (omega (arith, p.0), omega (arith, less)), p.1.1, p.1.2)
]

pub never_alone : (pace : Pace) (fields : List Sightings) (i n : ℕ) → Believed pace fields i n
    → (j m : ℕ) × (j ≢ i) × IsNear i j × Shows (slice_get fields j) m
    × ((fits pace i n j m ≡ true) ⊎ (stays i n j m ≡ true))
never_alone pace fields i n b = grind (arith, another, cases_lt)
