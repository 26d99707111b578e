-- Which fields a capture lacks, by two believed numbers.
use Rattle.std.proofs.lemmas.Bool.{cases_lt}
use Rattle.std.proofs.Common.{◌≡◌, ℕ, zero, suc, ◌+◌, ◌*◌, ◌-◌, ◌≤◌, true, List, arith, subst, inl, inr}
use Rattle.std.specs.Prelude.{Option, Some}
use Rattle.vbi_side.specs.Types.{Sightings, Pace, Video, Film}
use Rattle.vbi_side.specs.Paces.{fits, stays}
use Rattle.vbi_side.specs.Beliefs.{reach, field_most, window_weight}
use Rattle.vbi_side.specs.Truth.{IsNear, AreEven, wrong_weight}
use Rattle.vbi_side.specs.Side.{DiscRuns, DiscCounts, Rises, captured, Lacks, NoneLost, AreLost, IsAnchor}
use Rattle.vbi_side.proofs.Recorded.{right_once, right_somewhere}
use Rattle.vbi_side.proofs.Truth.{video_fits, film_fits, stays_is}

-- ---- places

further : (place : ℕ → ℕ) (i k : ℕ) → Rises place → place i + k ≤ place (i + k)
further place i zero rises = let same : i ≡ i + zero = omega arith in
    subst (λ n. place i + zero ≤ place n) same (omega arith)
further place i (suc k) rises =
    let next : suc (i + k) ≡ i + suc k = omega arith in
    subst (λ n. place i + suc k ≤ place n) next (omega (arith, further place i k rises, rises (i + k)))

pub apart : (place : ℕ → ℕ) (i j : ℕ) → Rises place → i ≤ j → place i + (j - i) ≤ place j
apart place i j rises le =
    let whole : i + (j - i) ≡ j = omega (arith, le) in
    subst (λ n. place i + (j - i) ≤ place n) whole (further place i (j - i) rises)

-- where the two ends are as far apart on the disc as in the capture, each field between them is where it was
held_between : (place : ℕ → ℕ) (p k q : ℕ) → Rises place → p ≤ k → k ≤ q → place q ≡ place p + (q - p)
    → place k ≡ place p + (k - p)
held_between place p k q rises from to same =
    omega (arith, from, to, same, apart place p k rises from, apart place k q rises to)

-- so none is lost between
pub none_lost : (place : ℕ → ℕ) (p q i j : ℕ) → Rises place → p ≤ i → j ≤ q → place q ≡ place p + (q - p)
    → NoneLost place i j
none_lost place p q i j rises first last same k from to =
    let here = held_between place p i q rises first (omega (arith, from, to, last)) same in
    let there = held_between place p k q rises (omega (arith, first, from)) (omega (arith, to, last)) same in
    omega (arith, first, from, here, there)

-- what is lost between two fields, each near an end, of which the disc has at most so many more between them
pub lost_between : (place : ℕ → ℕ) (i j p q most : ℕ) → Rises place → IsNear i p → IsNear j q → i + 2 * reach ≤ j
    → place q + p ≤ place p + q + most
    → (p q lost : ℕ) × IsNear i p × IsNear j q × AreLost place p q lost × (lost ≤ most)
lost_between place i j p q most rises first last far few =
    let order : p ≤ q = omega (arith, first.1, last.0, far) in
    let least = apart place p q rises order in
    let lost = place q - (place p + (q - p)) in
    (p, q, lost, first, last, omega (arith, least, order), omega (arith, order, least, few))

-- so the capture lacks no field of the disc there
pub none_lacks : (place : ℕ → ℕ) (i j d : ℕ) → NoneLost place i j → i ≤ j → place i ≤ d → d ≤ place j
    → Lacks place d → ⊥
none_lacks place i j d none le from to lacks =
    lacks (i + (d - place i)) (omega (
      arith,
      from,
      to,
      none j le (omega arith),
      none (i + (d - place i)) (omega arith)
          (omega (arith, from, to, le, none j le (omega arith))),
    ))

-- ---- a believed number is that of a field nearby, whatever was lost

-- no two fields of the capture that are an even number of fields apart have one number
abbrev pub Alone : (ℕ → Option ℕ) → Type 0
Alone recorded = (j k n : ℕ) → recorded j ≡ Some n → recorded k ≡ Some n → AreEven j k → j ≡ k

-- so it is where the places of a number are less than two fields apart
pub alone_of : (disc : ℕ → Option ℕ) (place : ℕ → ℕ) → Rises place
    → ((d e n : ℕ) → disc d ≡ Some n → disc e ≡ Some n → d ≤ e + 1) → Alone (captured disc place)
alone_of disc place rises close j k n here there even = elim (cases_lt k j) [
  | inl lt ↦ omega (arith, lt, even, apart place k j rises (omega (arith, lt)), close (place j) (place k) n here there)
  | inr le ↦ omega (arith, le, even, apart place j k rises le, close (place k) (place j) n there here)
]

module _ (pace : Pace) (recorded : ℕ → Option ℕ) (fields : List Sightings) (alone : Alone recorded) where
  -- of the right ones one field's at most is of one still
  right_still : (i n : ℕ) → window_weight (stays i n) fields i ≤ wrong_weight recorded fields i + field_most
  right_still i n = grind (arith, right_once, stays_is)

  pub near_one : (i n : ℕ) → IsAnchor pace recorded fields i n
      → (j m : ℕ) × IsNear i j × (recorded j ≡ Some m) × (fits pace i n j m ≡ true)
  near_one i n anchor = grind (arith, right_somewhere, right_still)

-- ---- the theorems

module _ (disc : ℕ → Option ℕ) (place : ℕ → ℕ) (fields : List Sightings) where
  -- of video, on a disc that may have a number on both fields of its picture: `slack` is 1, or 0 where it hasn't
  pub nearly_lost : (slack : ℕ) → slack ≤ 1 → DiscCounts slack disc → Rises place → (i m j n more : ℕ)
      → IsAnchor Video (captured disc place) fields i m → IsAnchor Video (captured disc place) fields j n
      → i + 2 * reach ≤ j → j + 2 * m + more ≡ i + 2 * n
      → (p q lost : ℕ) × IsNear i p × IsNear j q × AreLost place p q lost × (lost ≤ more + slack)
      × (more ≤ lost + slack)
  nearly_lost slack one counts rises i m j n more first last far same =
      let alone : Alone (captured disc place) = alone_of disc place rises
      (λ d e k here there. omega (arith, one, counts e d k k there here)) in
      let p = near_one Video (captured disc place) fields alone i m first in
      let q = near_one Video (captured disc place) fields alone j n last in
      let order : p.0 ≤ q.0 = omega (arith, p.2.1, q.2.0, far) in
      let least = apart place p.0 q.0 rises order in
      let on = counts (place p.0) (place q.0) p.1 q.1 p.3 q.3 in
      let back = counts (place q.0) (place p.0) q.1 p.1 q.3 p.3 in
      let here = video_fits i m p.0 p.1 p.4 in
      let there = video_fits j n q.0 q.1 q.4 in (
        p.0,
        q.0,
        place q.0 - (place p.0 + (q.0 - p.0)),
        p.2,
        q.2,
        omega (arith, least, order),
        omega (arith, order, least, on, back, here, there, same),
        omega (arith, order, least, on, back, here, there, same),
      )

  pub lost : DiscRuns Video disc → Rises place → (i m j n more : ℕ) → IsAnchor Video (captured disc place) fields i m
      → IsAnchor Video (captured disc place) fields j n → i + 2 * reach ≤ j → j + 2 * m + more ≡ i + 2 * n
      → (p q : ℕ) × IsNear i p × IsNear j q × AreLost place p q more
  lost runs rises i m j n more first last far same =
      let counts : DiscCounts 0 disc = λ d e k l here there. omega
      (arith, video_fits d k e l (runs d e k l here there)) in
      let p = nearly_lost 0 (omega arith) counts rises i m j n more first last far same in
      (p.0, p.1, p.3, p.4, omega (arith, p.5, p.6, p.7))

  pub whole : DiscRuns Video disc → Rises place → (i m j n : ℕ) → IsAnchor Video (captured disc place) fields i m
      → IsAnchor Video (captured disc place) fields j n → i + 2 * reach ≤ j → j + 2 * m ≡ i + 2 * n
      → NoneLost place (i + reach) (j - reach)
  whole runs rises i m j n first last far same =
      let p = lost runs rises i m j n 0 first last far (omega (arith, same)) in
      none_lost place p.0 p.1 (i + reach) (j - reach) rises (omega (arith, p.2.1)) (omega (arith, p.3.0, far))
      (omega (arith, p.4))

  -- of film at most 4 fields are lost where the numbers fit
  pub film : DiscRuns Film disc → Rises place → (i m j n : ℕ) → IsAnchor Film (captured disc place) fields i m
      → IsAnchor Film (captured disc place) fields j n → i + 2 * reach ≤ j → fits Film i m j n ≡ true
      → (p q lost : ℕ) × IsNear i p × IsNear j q × AreLost place p q lost × (lost ≤ 4)
  film runs rises i m j n first last far same =
      let alone : Alone (captured disc place) = alone_of disc place rises
      (λ d e k here there. let f = film_fits d k e k (runs d e k k here there) in omega (arith, f.0, f.1)) in
      let p = near_one Film (captured disc place) fields alone i m first in
      let q = near_one Film (captured disc place) fields alone j n last in
      let fit = film_fits (place p.0) p.1 (place q.0) q.1 (runs (place p.0) (place q.0) p.1 q.1 p.3 q.3) in
      let one = film_fits i m p.0 p.1 p.4 in
      let other = film_fits j n q.0 q.1 q.4 in
      let both = film_fits i m j n same in
      lost_between place i j p.0 q.0 4 rises p.2 q.2 far
      (omega (arith, fit.0, fit.1, one.0, one.1, other.0, other.1, both.0, both.1))
