-- What is true of a capture, whatever was read: the number that each field has on the disc, if it has one.
use Rattle.std.specs.Prelude.{if◌then◌else◌, ◌*◌, ◌/◌, ◌≡◌, ℕ, ◌+◌, ◌%◌, ◌<◌, ◌≤◌, ◌==◌, not, Bool, true, false}
use Rattle.std.specs.Prelude.{List, Option, Some, None}
use Rattle.vbi_side.specs.Types.{Sightings, Pace, Video, Film}
use Rattle.vbi_side.specs.Paces.{fits, Count}
use Rattle.vbi_side.specs.Beliefs.{reach, enough, field_most, window_weight}

-- field j is field i or within reach of it
abbrev pub IsNear : ℕ → ℕ → Type 0
IsNear i j = (i ≤ j + reach) × (j ≤ i + reach)

-- the fields are an even number of fields apart
abbrev pub AreEven : ℕ → ℕ → Type 0
AreEven i j = (i + j) % 2 ≡ 0

-- the numbers of the two fields tell of each other: of video those of even fields, and those of odd fields
abbrev pub InStep : Pace → ℕ → ℕ → Type 0
InStep Video i j = AreEven i j
InStep Film i j = Unit {0}

-- the disc ran on around field i: any two fields near it that have numbers on the disc have such as fit
abbrev pub RunsOn : Pace → (ℕ → Option ℕ) → ℕ → Type 0
RunsOn pace recorded i = (j k m n : ℕ) → IsNear i j → IsNear i k → InStep pace j k
    → recorded j ≡ Some m → recorded k ≡ Some n → fits pace j m k n ≡ true

-- the disc is regular around field i: if numbers of the disc before and after it, both near it, count to one number
-- in it, it has that number
abbrev pub IsRegular : Pace → (ℕ → Option ℕ) → ℕ → Type 0
IsRegular pace recorded i = (j m k l n : ℕ) → j < i → i < k → IsNear i j → IsNear i k → recorded j ≡ Some m
    → recorded k ≡ Some l → Count pace j m i n → Count pace i n k l → recorded i ≡ Some n

-- the disc stood still at a number around field i: the fields near it, an even number of fields away, have it, or none
abbrev pub StandsStill : (ℕ → Option ℕ) → ℕ → ℕ → Type 0
StandsStill recorded i number = (j n : ℕ) → IsNear i j → AreEven i j → recorded j ≡ Some n → n ≡ number

-- the number is that which the field has on the disc
abbrev pub is_recorded : Option ℕ → ℕ → Bool
is_recorded None n = false
is_recorded (Some m) n = n == m

-- the weight of what was misread around field i: of the sightings of other numbers than the fields have on the disc
abbrev pub wrong_weight : (ℕ → Option ℕ) → List Sightings → ℕ → ℕ
wrong_weight recorded fields i = window_weight (λ j n. not (is_recorded (recorded j) n)) fields i

-- around field i, which has a number on the disc, the disc ran on, and what was misread weighs less than enough
abbrev pub IsSound : Pace → (ℕ → Option ℕ) → List Sightings → ℕ → ℕ → Type 0
IsSound pace recorded fields i m =
    RunsOn pace recorded i × (recorded i ≡ Some m) × (wrong_weight recorded fields i < enough)

-- around field i the player stood still at number m, and what was misread weighs 4 less than enough
abbrev pub IsSoundStill : (ℕ → Option ℕ) → List Sightings → ℕ → ℕ → Type 0
IsSoundStill recorded fields i m =
    StandsStill recorded i m × (wrong_weight recorded fields i + field_most < enough)

-- a disc of video: picture n begins in field 2 * n
abbrev pub video_disc : ℕ → Option ℕ
video_disc j = if j % 2 == 0 then Some (j / 2) else None

-- a disc of film: of each five fields the first and the third begin a picture
abbrev pub film_disc : ℕ → Option ℕ
film_disc j = if j % 5 == 0 then Some (2 * (j / 5)) else (if j % 5 == 2 then Some (2 * (j / 5) + 1) else None)
