-- Around a gap the capture isn't one run of the disc.
use Rattle.std.proofs.Common.{◌≡◌, ℕ, zero, suc, ◌+◌, ◌*◌, ◌-◌, ◌<◌, ◌≤◌, List, subst, arith}
use Rattle.std.specs.Prelude.{Option, Some}
use Rattle.vbi_whole.specs.Types.{Gap, Numbering, Number, Video, Sightings, Plain}
use Rattle.vbi_side.specs.Clocks.{kept, DiscCountsBy, IsClear}
use Rattle.vbi_side.proofs.Counting.{plain, clear_video}
use Rattle.vbi_side.proofs.Sides.{alone_of, near_one}
use Rattle.vbi_side.specs.Beliefs.{reach, enough}
use Rattle.vbi_side.specs.Truth.{RunsOn, wrong_weight}
use Rattle.vbi_side.specs.Numbers.{AreAnswers}
use Rattle.vbi_side.specs.Side.{DiscRuns, Rises, captured, IsOneRun}
use Rattle.vbi_whole.specs.Gaps.{IsGap, of_video}
use Rattle.vbi_side.proofs.Truth.{video_fits, on_the_disc, near_same}
use Rattle.vbi_side.proofs.Anchors.{marked_is, anchor}
use Rattle.vbi_whole.proofs.GapLaws.{not_on}

-- in one run the disc's fields are as far apart as those of the capture
as_far : (place : ℕ → ℕ) (i j k : ℕ) → IsOneRun place i j → i + k ≤ j → place (i + k) ≡ place i + k
as_far place i j zero run inside =
    let same : i ≡ i + zero = omega arith in subst (λ n. place n ≡ place i + zero) same (omega arith)
as_far place i j (suc k) run inside =
    let next : suc (i + k) ≡ i + suc k = omega arith in
    subst (λ n. place n ≡ place i + suc k) next (omega (
      arith,
      run (i + k) (omega arith) (omega (arith, inside)),
      as_far place i j k run (omega (arith, inside)),
    ))

pub far_in : (place : ℕ → ℕ) (i j k : ℕ) → IsOneRun place i j → i ≤ k → k ≤ j → place k ≡ place i + (k - i)
far_in place i j k run from to =
    let whole : i + (k - i) ≡ k = omega (arith, from) in
    subst (λ n. place n ≡ place i + (k - i)) whole (as_far place i j (k - i) run (omega (arith, from, to)))

module _ (disc : ℕ → Option ℕ) (place : ℕ → ℕ) (runs : DiscRuns Video disc) (first last : ℕ)
    (run : IsOneRun place (first - reach) (last + reach)) where
  -- the numbers on the disc of two fields of the run count to each other
  counts : (p q m n : ℕ) → first ≤ p + reach → p ≤ last + reach → first ≤ q + reach → q ≤ last + reach
      → disc (place p) ≡ Some m → disc (place q) ≡ Some n → q + 2 * m ≡ p + 2 * n
  counts p q m n from to begin end here there = omega (
    arith,
    from,
    to,
    begin,
    end,
    far_in place (first - reach) (last + reach) p run (omega (arith, from)) to,
    far_in place (first - reach) (last + reach) q run (omega (arith, begin)) end,
    video_fits (place p) m (place q) n (runs (place p) (place q) m n here there),
  )

  -- so the disc ran on around each
  ran_on : (k : ℕ) → first ≤ k → k ≤ last → RunsOn Video (captured disc place) k
  ran_on k h1 h2 = grind (arith, counts)

pub gap_not_run : (disc : ℕ → Option ℕ) (place : ℕ → ℕ) (fields : List Sightings) (numbering : Numbering)
    (seen : List Sightings) (answers : List Number) (ends : List ℕ) (gap : Gap) → numbering.clock ≡ Plain
    → DiscRuns Video disc → AreAnswers Video fields answers → IsGap
    (of_video numbering seen answers ends) gap
    → wrong_weight (captured disc place) fields gap.after < enough
    → wrong_weight (captured disc place) fields gap.before < enough
    → IsOneRun place (gap.after - reach) (gap.before + reach) → ⊥
gap_not_run disc place fields numbering seen answers ends gap none runs are is few low run =
    let order : gap.after < gap.before = is.neighbours.order in
    let here = ran_on disc place runs gap.after gap.before run gap.after (omega arith) (omega (arith, order)) in
    let there = ran_on disc place runs gap.after gap.before run gap.before (omega (arith, order)) (omega arith) in
    let p = on_the_disc Video (captured disc place) fields gap.after gap.from here few
    (marked_is fields answers gap.after gap.from are is.neighbours.here) in
    let q = on_the_disc Video (captured disc place) fields gap.before gap.to there low
    (marked_is fields answers gap.before gap.to are is.neighbours.there) in
    let on = counts disc place runs gap.after gap.before run p.0 q.0 p.1 q.1 (omega (arith, p.2.0))
    (omega (arith, p.2.1, order)) (omega (arith, q.2.0, order)) (omega (arith, q.2.1)) p.3 q.3 in
    let one = video_fits gap.after gap.from p.0 p.1 p.5 in
    let other = video_fits gap.before gap.to q.0 q.1 q.5 in
    not_on (of_video numbering seen answers ends) gap is
    (near_same (gap.before + 2 * kept numbering.clock gap.from) (gap.after + 2 * kept numbering.clock gap.to)
    (omega (arith, on, one, other, plain numbering.clock gap.from none, plain numbering.clock gap.to none)))

-- by the clock: of a capture in the disc's order, where no number near those of the gap is left out
pub gap_not_run_by : (disc : ℕ → Option ℕ) (place : ℕ → ℕ) (fields : List Sightings) (numbering : Numbering)
    (seen : List Sightings) (answers : List Number) (ends : List ℕ) (gap : Gap)
    → DiscCountsBy numbering.clock Video disc → Rises place → AreAnswers Video fields answers
    → IsGap (of_video numbering seen answers ends) gap
    → wrong_weight (captured disc place) fields gap.after < enough
    → wrong_weight (captured disc place) fields gap.before < enough
    → IsClear numbering.clock gap.from → IsClear numbering.clock gap.to
    → IsOneRun place (gap.after - reach) (gap.before + reach) → ⊥
gap_not_run_by disc place fields numbering seen answers ends gap runs rises are is few low clear too run =
    let clock = numbering.clock in
    let order : gap.after < gap.before = is.neighbours.order in
    let alone = alone_of disc place rises
    (λ d e k here there. omega (arith, video_fits d (kept clock k) e (kept clock k) (runs d e k k here there))) in
    let first = anchor (captured disc place) fields answers gap.after gap.from are is.neighbours.here few in
    let last = anchor (captured disc place) fields answers gap.before gap.to are is.neighbours.there low in
    let p = near_one Video (captured disc place) fields alone gap.after gap.from first in
    let q = near_one Video (captured disc place) fields alone gap.before gap.to last in
    let here = clear_video clock gap.after gap.from p.0 p.1 clear p.2 p.4 in
    let there = clear_video clock gap.before gap.to q.0 q.1 too q.2 q.4 in
    let on = video_fits (place p.0) (kept clock p.1) (place q.0) (kept clock q.1)
    (runs (place p.0) (place q.0) p.1 q.1 p.3 q.3) in
    let start = gap.after - reach in
    let end = gap.before + reach in
    let from = far_in place start end p.0 run (omega (arith, p.2.0)) (omega (arith, p.2.1, order)) in
    let to = far_in place start end q.0 run (omega (arith, q.2.0, order)) (omega (arith, q.2.1)) in
    let counts : gap.before + 2 * kept clock gap.from ≡ gap.after + 2 * kept clock gap.to
    = omega (arith, here, there, on, from, to, p.2.0, q.2.0, order) in
    not_on (of_video numbering seen answers ends) gap is
    (near_same (gap.before + 2 * kept clock gap.from) (gap.after + 2 * kept clock gap.to) counts)
