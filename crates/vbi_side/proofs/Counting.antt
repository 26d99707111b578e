-- What a clock leaves out, and where the other numbers stand.
use Rattle.std.proofs.Common.{◌≡◌, ℕ, zero, suc, ◌+◌, ◌*◌, ◌-◌, ◌/◌, ◌<◌, ◌≤◌, true, refl, arith, ap, sym, ◌∙◌, subst}
use Rattle.std.proofs.Common.{inl, inr, false, ◌≢◌}
use Rattle.std.specs.Prelude.{Option, ◌⊎◌, ◌%◌, ◌==◌, nat_le, if◌then◌else◌}
use Rattle.std.proofs.lemmas.Bool.Decides.{leb_tells, eqb_tells}
use Rattle.std.proofs.Math.Dec.{eqb}
use Rattle.std.proofs.Math.Nat.{div-lt_iff_lt-mul, div-zero, mul-le-mul_left, div-eq_of_lt, div-eq_of_lt-le}
use Rattle.vbi_side.specs.Types.{Clock, Plain, DropFrame, OneIn, Pace, Video, Film}
use Rattle.vbi_side.specs.Paces.{fits}
use Rattle.vbi_side.specs.Truth.{IsNear}
use Rattle.vbi_side.specs.Side.{DiscRuns, DiscCounts}
use Rattle.vbi_side.specs.Clocks.{passed, left_out, leaves_out, kept, IsProper, IsClear, out_near, DiscCountsBy}
use Rattle.vbi_side.specs.Clocks.{DiscNearlyBy}
use Rattle.vbi_side.proofs.Truth.{video_fits, film_fits}

-- ---- by one period

-- a quotient is less than what it is less than by the divisor
less_div : (x k y : ℕ) → x < y * suc k → x / suc k < y
less_div x k y less = (div-lt_iff_lt-mul {k = suc k} {x = x} {y = y} (omega arith)).1 less

div_less : (x k y : ℕ) → x / suc k < y → x < y * suc k
div_less x k y less = (div-lt_iff_lt-mul {k = suc k} {x = x} {y = y} (omega arith)).0 less

div_up : (k x y : ℕ) → x ≤ y → x / k ≤ y / k
div_up k x y h1 = grind (arith, div-zero, div_less, less_div)

passed_up : (period remainder m n : ℕ) → m ≤ n → passed period remainder m ≤ passed period remainder n
passed_up period remainder m n le = div_up period (m + (period - 1 - remainder)) (n + (period - 1 - remainder))
    (omega (arith, le))

passed_most : (period remainder n : ℕ) → passed period remainder n ≤ n
passed_most period remainder n = grind (arith, div-zero, less_div, mul-le-mul_left)

-- ---- by any clock

pub out_up : (clock : Clock) (m n : ℕ) → m ≤ n → left_out clock m ≤ left_out clock n
unfolding left_out
out_up clock m n h1 = grind (arith, passed_up)

pub out_most : (clock : Clock) (n : ℕ) → left_out clock n ≤ n
unfolding left_out
out_most clock n = grind (arith, passed_most)

-- each number is left out or kept
pub kept_is : (clock : Clock) (n : ℕ) → kept clock n + left_out clock n ≡ n
unfolding kept left_out
kept_is clock n = grind (arith, out_most)

-- ---- where no number is left out

clear_same : (clock : Clock) (m n : ℕ) → IsClear clock m → n ≤ m + 12 → m ≤ n + 12 → left_out clock n ≡ left_out clock m
clear_same clock m n clear before after = grind (arith, out_up)

-- the places are as far apart as the numbers
pub clear_apart : (clock : Clock) (m n : ℕ) → IsClear clock m → n ≤ m + 12 → m ≤ n + 12
    → kept clock n + m ≡ kept clock m + n
clear_apart clock m n clear before after =
    omega (arith, clear_same clock m n clear before after, kept_is clock m, kept_is clock n)

-- so what fits there fits by the clock
pub clear_video : (clock : Clock) (i m j n : ℕ) → IsClear clock m → IsNear i j → fits Video i m j n ≡ true
    → j + 2 * kept clock m ≡ i + 2 * kept clock n
clear_video clock i m j n clear near fit = grind (arith, clear_apart, video_fits)

pub clear_film : (clock : Clock) (i m j n : ℕ) → IsClear clock m → IsNear i j → fits Film i m j n ≡ true
    → (2 * j + 5 * kept clock m ≤ 2 * i + 5 * kept clock n + 2)
    × (2 * i + 5 * kept clock n ≤ 2 * j + 5 * kept clock m + 2)
clear_film clock i m j n clear near fit = grind (arith, clear_apart, film_fits)

-- wherever: the places are as far apart as the numbers, but for those that are left out near
near_apart : (clock : Clock) (m n : ℕ) → n ≤ m + 12 → m ≤ n + 12
    → (kept clock n + m ≤ kept clock m + n + out_near clock m)
    × (kept clock m + n ≤ kept clock n + m + out_near clock m)
near_apart clock m n before after = grind (arith, kept_is, out_up)

pub near_video : (clock : Clock) (i m j n : ℕ) → IsNear i j → fits Video i m j n ≡ true
    → (j + 2 * kept clock m ≤ i + 2 * kept clock n + 2 * out_near clock m)
    × (i + 2 * kept clock n ≤ j + 2 * kept clock m + 2 * out_near clock m)
near_video clock i m j n near fit =
    let e = video_fits i m j n fit in
    let p = near_apart clock m n (omega (arith, near.0, near.1, e)) (omega (arith, near.0, near.1, e)) in
    (omega (arith, e, p.0, p.1), omega (arith, e, p.0, p.1))

-- ---- with no clock all is as it was

kept_plain : (n : ℕ) → kept Plain n ≡ n
unfolding kept
kept_plain n = refl

out_plain : (n : ℕ) → left_out Plain n ≡ 0
unfolding left_out
out_plain n = refl

pub plain : (clock : Clock) (n : ℕ) → clock ≡ Plain → kept clock n ≡ n
plain clock n e = ap (λ c. kept c n) e ∙ kept_plain n

pub plain_clear : (clock : Clock) (n : ℕ) → clock ≡ Plain → IsClear clock n
plain_clear clock n e = ap (λ c. left_out c (n + 12)) e ∙ out_plain (n + 12) ∙ sym (out_plain (n - 12))
    ∙ sym (ap (λ c. left_out c (n - 12)) e)

pub plain_runs : (clock : Clock) (pace : Pace) (disc : ℕ → Option ℕ) → clock ≡ Plain → DiscRuns pace disc
    → DiscCountsBy clock pace disc
plain_runs clock pace disc h1 h2 = grind (arith, plain)

pub plain_counts : (clock : Clock) (slack : ℕ) (disc : ℕ → Option ℕ) → clock ≡ Plain → DiscCounts slack disc
    → DiscNearlyBy clock slack disc
plain_counts clock slack disc e runs d f m n here there =
    omega (arith, plain clock m e, plain clock n e, runs d f m n here there)

pub runs_plain : (pace : Pace) (disc : ℕ → Option ℕ) → DiscRuns pace disc → DiscCountsBy Plain pace disc
runs_plain pace disc runs = plain_runs Plain pace disc refl runs

-- ---- the closed forms count what they say

pub out_none : (clock : Clock) → IsProper clock → left_out clock 0 ≡ 0
unfolding left_out
out_none clock h1 = grind (arith, div-eq_of_lt)

drop_next : (n : ℕ) → left_out DropFrame (n + 1) ≡ left_out DropFrame n + (if leaves_out DropFrame n then 1 else 0)
unfolding left_out
drop_next n = grind (arith, leb_tells)

-- the quotient of q times the divisor and less than it
quotient : (k q x : ℕ) → q * suc k ≤ x → x < (q + 1) * suc k → x / suc k ≡ q
quotient k q x le less = div-eq_of_lt-le (suc k) le less

even_next : (k phase n : ℕ) → phase < suc k → passed (suc k) phase (n + 1)
    ≡ passed (suc k) phase n + (if (n % suc k) == phase then 1 else 0)
even_next k phase n proper = go (eqb_tells (n % suc k) phase) (leb_tells (n % suc k) phase)
  where
    q : ℕ
    q = n / suc k

    r : ℕ
    r = n % suc k

    is : suc k * q + r ≡ n
    is = omega arith

    below : r < suc k
    below = omega arith

    go : ((eqb r phase ≡ true) × (r ≡ phase)) ⊎ ((eqb r phase ≡ false) × (r ≢ phase))
        → ((nat_le r phase ≡ true) × (r ≤ phase)) ⊎ ((nat_le r phase ≡ false) × (phase < r))
        → passed (suc k) phase (n + 1) ≡ passed (suc k) phase n + (if eqb r phase then 1 else 0)
    go (inl (t, e)) _ = rw t (
        let one = quotient k q (n + (suc k - 1 - phase)) (omega (arith, is, below, e)) (omega (arith, is, below, e)) in
        let two = quotient k (q + 1) (n + 1 + (suc k - 1 - phase)) (omega (arith, is, below, e))
        (omega (arith, is, below, e)) in
        omega (arith, one, two))
    go (inr (f, other)) (inl (t, le)) = rw f (
        let one = quotient k q (n + (suc k - 1 - phase)) (omega (arith, is, proper, le))
        (omega (arith, is, proper, le, other)) in
        let two = quotient k q (n + 1 + (suc k - 1 - phase)) (omega (arith, is, proper, le))
        (omega (arith, is, proper, le, other)) in
        omega (arith, one, two))
    go (inr (f, other)) (inr (t, lt)) = rw f (
        let one = quotient k (q + 1) (n + (suc k - 1 - phase)) (omega (arith, is, below, lt))
        (omega (arith, is, below, lt)) in
        let two = quotient k (q + 1) (n + 1 + (suc k - 1 - phase)) (omega (arith, is, below, lt))
        (omega (arith, is, below, lt)) in
        omega (arith, one, two))

pub out_next : (clock : Clock) (n : ℕ) → IsProper clock
    → left_out clock (n + 1) ≡ left_out clock n + (if leaves_out clock n then 1 else 0)
unfolding left_out
out_next Plain n proper = omega arith
out_next DropFrame n proper = drop_next n
out_next (OneIn zero phase) n proper = absurd (omega (arith, proper))
out_next (OneIn (suc k) phase) n proper = even_next k phase n proper

-- ---- what is left out isn't lost

-- of each number on at most one is left out
div_step : (x k : ℕ) → (x + 1) / suc k ≤ x / suc k + 1
div_step x k = grind (arith, div_less, less_div)

out_step : (clock : Clock) (n : ℕ) → left_out clock (n + 1) ≤ left_out clock n + 1
unfolding left_out
out_step clock n = grind (arith, div-zero, div_step)

pub out_far : (clock : Clock) (m d : ℕ) → left_out clock (m + d) ≤ left_out clock m + d
out_far clock m zero = let same : m ≡ m + zero = omega arith in
    subst (λ x. left_out clock x ≤ left_out clock m + zero) same (omega arith)
out_far clock m (suc d) = let next : m + d + 1 ≡ m + suc d = omega arith in
    subst (λ x. left_out clock x ≤ left_out clock m + suc d) next
    (omega (arith, out_step clock (m + d), out_far clock m d))
