-- Sums of weights over the window.
use Rattle.std.proofs.lemmas.Bool.{cases_eq, cases_lt}
use Rattle.std.proofs.Common.{◌≡◌, ◌≢◌, ℕ, zero, suc, ◌+◌, ◌-◌, ◌<◌, ◌≤◌, Bool, true}
use Rattle.std.proofs.Common.{false, List, refl, arith, ap, subst, ◌*◌, add-one, inl, inr}
use Rattle.std.specs.Prelude.{Option, slice_get, ◌⊎◌}
use Rattle.std.proofs.lemmas.Bool.Decides.{leb_tells}
use Rattle.vbi_side.specs.Types.{Sighting, Sightings}
use Rattle.vbi_side.specs.Truth.{IsNear}
use Rattle.vbi_side.specs.Sightings.{Has, Shows}
use Rattle.vbi_side.specs.Beliefs.{reach, field_most, sighting_weight, field_weight, weight_at, weight_below}

pub weight_below_zero : (test : ℕ → ℕ → Bool) (fields : List Sightings) (i : ℕ) → weight_below test fields i 0 ≡ 0
unfolding weight_below
weight_below_zero test fields i = refl

pub weight_below_more : (test : ℕ → ℕ → Bool) (fields : List Sightings) (i n : ℕ)
    → weight_below test fields i (n + 1) ≡ weight_below test fields i n + weight_at test fields i n
unfolding weight_below
weight_below_more test fields i n = ap (weight_below test fields i) (add-one n)

-- more of the window weighs no less
grows_by : (test : ℕ → ℕ → Bool) (fields : List Sightings) (i m k : ℕ)
    → weight_below test fields i m ≤ weight_below test fields i (m + k)
grows_by test fields i m zero =
    let same : m ≡ m + zero = omega arith in
    subst (λ n. weight_below test fields i m ≤ weight_below test fields i n) same (omega arith)
grows_by test fields i m (suc k) =
    let next : m + k + 1 ≡ m + suc k = omega (arith, add-one k) in
    let more : weight_below test fields i m ≤ weight_below test fields i (m + k + 1)
    = omega (arith, grows_by test fields i m k, weight_below_more test fields i (m + k)) in
    subst (λ n. weight_below test fields i m ≤ weight_below test fields i n) next more

pub weight_below-grows : (test : ℕ → ℕ → Bool) (fields : List Sightings) (i m n : ℕ) → m ≤ n
    → weight_below test fields i m ≤ weight_below test fields i n
weight_below-grows test fields i m n less =
    let whole : m + (n - m) ≡ n = omega (arith, less) in
    subst (λ x. weight_below test fields i m ≤ weight_below test fields i x) whole (grows_by test fields i m (n - m))

-- ---- a narrower test weighs no more

false_true : false ≡ true → ⊥
false_true e = cc

sighting_narrower : (few more : ℕ → Bool) (sighting : Sighting) → ((n : ℕ) → few n ≡ true → more n ≡ true)
    → sighting_weight few sighting ≤ sighting_weight more sighting
sighting_narrower few more sighting passes = grind (arith, false_true)

pub field_narrower : (few more : ℕ → Bool) (field : Option Sightings) → ((n : ℕ) → few n ≡ true → more n ≡ true)
    → field_weight few field ≤ field_weight more field
field_narrower few more field h1 = grind (arith, sighting_narrower)

-- nor in a capture that agrees on the window
weight_at-narrower : (few more : ℕ → ℕ → Bool) (fields others : List Sightings) (i k : ℕ) → k ≤ 2 * reach
    → ((j : ℕ) → IsNear i j → slice_get fields j ≡ slice_get others j)
    → ((j n : ℕ) → IsNear i j → few j n ≡ true → more j n ≡ true)
    → weight_at few fields i k ≤ weight_at more others i k
weight_at-narrower few more fields others i k within agree passes = grind (arith, field_narrower, leb_tells)

weight_below-within : (few more : ℕ → ℕ → Bool) (fields others : List Sightings) (i n : ℕ) → n ≤ 2 * reach + 1
    → ((j : ℕ) → IsNear i j → slice_get fields j ≡ slice_get others j)
    → ((j n : ℕ) → IsNear i j → few j n ≡ true → more j n ≡ true)
    → weight_below few fields i n ≤ weight_below more others i n
unfolding weight_below
weight_below-within few more fields others i zero within agree passes = omega arith
weight_below-within few more fields others i (suc n) within agree passes =
    omega (
      arith,
      weight_below-within few more fields others i n (omega arith) agree passes,
      weight_at-narrower few more fields others i n (omega arith) agree passes,
    )

pub weight_below-narrower : (few more : ℕ → ℕ → Bool) (fields : List Sightings) (i n : ℕ) → n ≤ 2 * reach + 1
    → ((j n : ℕ) → IsNear i j → few j n ≡ true → more j n ≡ true)
    → weight_below few fields i n ≤ weight_below more fields i n
weight_below-narrower few more fields i n within =
    weight_below-within few more fields fields i n within (λ j near. refl)

pub weight_below-agree : (test : ℕ → ℕ → Bool) (fields others : List Sightings) (i n : ℕ) → n ≤ 2 * reach + 1
    → ((j : ℕ) → IsNear i j → slice_get fields j ≡ slice_get others j)
    → weight_below test fields i n ≡ weight_below test others i n
weight_below-agree test fields others i n within agree = grind (arith, weight_below-within)

-- ---- a test that passes what one of two others does

sighting_split : (test some rest : ℕ → Bool) (sighting : Sighting)
    → ((n : ℕ) → test n ≡ true → (some n ≡ true) ⊎ (rest n ≡ true))
    → sighting_weight test sighting ≤ sighting_weight some sighting + sighting_weight rest sighting
sighting_split test some rest sighting passes = grind (arith, false_true)

pub field_split : (test some rest : ℕ → Bool) (field : Option Sightings)
    → ((n : ℕ) → test n ≡ true → (some n ≡ true) ⊎ (rest n ≡ true))
    → field_weight test field ≤ field_weight some field + field_weight rest field
field_split test some rest field h1 = grind (arith, sighting_split)

weight_at-split : (test some rest : ℕ → ℕ → Bool) (fields : List Sightings) (i k : ℕ) → k ≤ 2 * reach
    → ((j n : ℕ) → IsNear i j → test j n ≡ true → (some j n ≡ true) ⊎ (rest j n ≡ true))
    → weight_at test fields i k ≤ weight_at some fields i k + weight_at rest fields i k
weight_at-split test some rest fields i k within passes = grind (arith, field_split, leb_tells)

pub weight_below-split : (test some rest : ℕ → ℕ → Bool) (fields : List Sightings) (i n : ℕ) → n ≤ 2 * reach + 1
    → ((j m : ℕ) → IsNear i j → test j m ≡ true → (some j m ≡ true) ⊎ (rest j m ≡ true))
    → weight_below test fields i n ≤ weight_below some fields i n + weight_below rest fields i n
unfolding weight_below
weight_below-split test some rest fields i zero within passes = omega arith
weight_below-split test some rest fields i (suc n) within passes =
    omega (
      arith,
      weight_below-split test some rest fields i n (omega arith) passes,
      weight_at-split test some rest fields i n (omega arith) passes,
    )

-- ---- what weighs something passes

-- a field shows a number that passes the test
abbrev pub Passes : (ℕ → Bool) → Option Sightings → Type 0
Passes test field = (n : ℕ) × Shows field n × (test n ≡ true)

sighting_passes : (test : ℕ → Bool) (sighting : Sighting) → 0 < sighting_weight test sighting
    → (n : ℕ) × Has sighting n × (test n ≡ true)
sighting_passes test sighting more = grind arith

pub field_passes : (test : ℕ → Bool) (field : Option Sightings) → 0 < field_weight test field → Passes test field
field_passes test field h1 = grind (arith, cases_lt, sighting_passes)

pub weight_at-passes : (test : ℕ → ℕ → Bool) (fields : List Sightings) (i k : ℕ) → 0 < weight_at test fields i k
    → (reach ≤ i + k) × Passes (test (i + k - reach)) (slice_get fields (i + k - reach))
weight_at-passes test fields i k more = grind (arith, field_passes, leb_tells)

-- ---- one field weighs 4 at most

sighting_most : (test : ℕ → Bool) (sighting : Sighting) → sighting_weight test sighting ≤ 2
sighting_most test sighting = grind arith

pub field_weight-most : (test : ℕ → Bool) (field : Option Sightings) → field_weight test field ≤ field_most
field_weight-most test field = grind (arith, sighting_most)

pub weight_at-most : (test : ℕ → ℕ → Bool) (fields : List Sightings) (i k : ℕ) → weight_at test fields i k ≤ field_most
weight_at-most test fields i k = grind (arith, field_weight-most)

-- the sum is at most what field c weighs, or another field weighs something
abbrev Spread : (ℕ → ℕ → Bool) → List Sightings → ℕ → ℕ → ℕ → Type 0
Spread test fields i c n =
    ((weight_below test fields i n ≤ field_most) × (n ≤ c → weight_below test fields i n ≡ 0))
    ⊎ ((k : ℕ) × (k < n) × (k ≢ c) × (0 < weight_at test fields i k))

pub spread : (test : ℕ → ℕ → Bool) (fields : List Sightings) (i c n : ℕ) → Spread test fields i c n
unfolding weight_below
spread test fields i c zero = inl (omega arith, λ h. refl)
spread test fields i c (suc n) = go (spread test fields i c n) (cases_lt (weight_at test fields i n) 1) (cases_eq n c)
  where
    go : Spread test fields i c n → (weight_at test fields i n < 1) ⊎ (1 ≤ weight_at test fields i n) → (n ≡ c)
        ⊎ (n ≢ c) → Spread test fields i c (suc n)
    go (inr (k, less, apart, more)) weighs at = inr (k, omega (arith, less), apart, more)
    go (inl (most, none)) (inl lt) at =
        inl (omega (arith, most, lt), λ h. omega (arith, none (omega (arith, h)), lt))
    go (inl (most, none)) (inr le) (inr apart) = inr (n, omega arith, apart, omega (arith, le))
    go (inl (most, none)) (inr le) (inl e) =
        inl (omega (arith, none (omega (arith, e)), weight_at-most test fields i n), λ h. absurd (omega (arith, h, e)))

-- where no two fields near i weigh something, the sum is what one field weighs at most
pub once : (test : ℕ → ℕ → Bool) (fields : List Sightings) (i n : ℕ) → n ≤ 2 * reach + 1
    → ((j k l m : ℕ) → IsNear i j → IsNear i k → test j l ≡ true → test k m ≡ true → j ≡ k)
    → weight_below test fields i n ≤ field_most
unfolding weight_below
once test fields i zero within alone = omega arith
once test fields i (suc n) within alone = go (cases_lt (weight_at test fields i n) 1) (spread test fields i n n)
    (once test fields i n (omega arith) alone)
  where
    go : (weight_at test fields i n < 1) ⊎ (1 ≤ weight_at test fields i n) → Spread test fields i n n
        → weight_below test fields i n ≤ field_most
        → weight_below test fields i n + weight_at test fields i n ≤ field_most
    go (inl lt) at below = omega (arith, below, lt)
    go (inr le) (inl (most, none)) below = omega (arith, none (omega arith), weight_at-most test fields i n)
    go (inr le) (inr (k, less, apart, more)) below =
        let p = weight_at-passes test fields i n (omega (arith, le)) in
        let q = weight_at-passes test fields i k more in
        absurd (let e : i + n - reach ≡ i + k - reach
        = alone (i + n - reach) (i + k - reach) p.1.0 q.1.0 (omega (arith, p.0), omega arith)
        (omega (arith, q.0), omega (arith, less)) p.1.2 q.1.2 in
        omega (arith, e, p.0, q.0, less))
