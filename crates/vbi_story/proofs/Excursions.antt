-- What a story tells off a row, between two readings on it: what it costs, and what it weighs.
use Rattle.std.proofs.Common.{◌≡◌, ◌≢◌, ◌⊎◌, inl, inr, ℕ, zero, suc, ◌+◌, ◌-◌, ◌<◌, ◌≤◌, List, ◌++◌, length}
use Rattle.std.proofs.Common.{arith, sym, ◌∙◌, ap, take, drop}
use Rattle.std.proofs.lemmas.Bool.{cases_eq}
use Rattle.std.proofs.lemmas.List.{take-append-drop, drop_more}
use Rattle.vbi_story.specs.declared.reading.NumberReading.{NumberReading}
use Rattle.vbi_story.specs.Story.{reading_at, nothing, row_price, near, IsStory, IsBest, weight, price}
use Rattle.vbi_story.specs.Beliefs.{part, without, IsFarBehind}
use Rattle.vbi_story.proofs.Prices.{price_least}
use Rattle.vbi_story.proofs.Chains.{prefix_more, price_next, run_weight}

module _ (told : List NumberReading) where
  abbrev pub row_at : ℕ → ℕ
  row_at i = (reading_at told i).row

  -- what is paid for the first n readings
  abbrev pub paid : ℕ → ℕ
  paid n = price (take n told)

  pub paid_more : (n : ℕ) → 0 < n → n < length told → paid (n + 1) ≡ paid n + row_price (row_at (n - 1)) (row_at n)
  paid_more n some inside = prefix_more told n some inside

  paid_on : (n : ℕ) → n < length told → paid n ≤ paid (n + 1)
  paid_on n inside = elim (cases_eq n 0) [
    | inl none ↦ let is : paid n ≡ 0 = ap paid none in omega (arith, is)
    | inr some ↦ omega (arith, paid_more n (omega arith) inside)
  ]

  -- more readings cost no less
  pub paid_up : (k x y : ℕ) → y ≡ x + k → y ≤ length told → paid x ≤ paid y
  paid_up zero x y is inside = let same : x ≡ y = omega arith in omega (arith, ap paid same)
  paid_up (suc k) x y is inside =
      let next : y ≡ (y - 1) + 1 = omega arith in
      omega (
        arith,
        paid_up k x (y - 1) (omega arith) (omega arith),
        paid_on (y - 1) (omega arith),
        ap paid next,
      )

  -- a way to another row costs at least a near step
  pub way_least : (k x y : ℕ) → y ≡ x + k → y < length told → row_at x ≢ row_at y → paid (x + 1) + near ≤ paid (y + 1)
  way_least zero x y is inside ne = absurd (ne (ap row_at (let same : x ≡ y = omega arith in same)))
  way_least (suc k) x y is inside ne = elim (cases_eq (row_at (y - 1)) (row_at y)) [
    | inl same ↦
        let least = way_least k x (y - 1) (omega arith) (omega arith) (λ e. ne (e ∙ same)) in
        let next : y - 1 + 1 ≡ y = omega arith in
        omega (arith, least, ap paid next, paid_on y inside)
    | inr other ↦ omega (
      arith,
      paid_more y (omega arith) inside,
      price_least (row_at (y - 1)) (row_at y) other,
      paid_up k (x + 1) y (omega arith) (omega arith),
    )
  ]

  -- a way costs no less than the one step, or at least two near ones
  pub way_home : (k x y : ℕ) → y ≡ x + suc k → y < length told → row_at (y - 1) ≢ row_at y
      → (paid (x + 1) + row_price (row_at x) (row_at y) ≤ paid (y + 1)) ⊎ (paid (x + 1) + (near + near) ≤ paid (y + 1))
  way_home k x y is inside ne = elim (cases_eq (row_at x) (row_at (y - 1))) [
    | inl same ↦
        let step : row_price (row_at x) (row_at y) ≡ row_price (row_at (y - 1)) (row_at y)
        = ap (λ (r : ℕ). row_price r (row_at y)) same in
        inl (omega (
          arith,
          step,
          paid_more y (omega arith) inside,
          paid_up k (x + 1) y (omega arith) (omega arith),
        ))
    | inr other ↦
        let next : y - 1 + 1 ≡ y = omega arith in
        inr (omega (
          arith,
          way_least k x (y - 1) (omega arith) (omega arith) other,
          ap paid next,
          paid_more y (omega arith) inside,
          price_least (row_at (y - 1)) (row_at y) ne,
        ))
  ]

  pub first_step : (x : ℕ) → x + 1 < length told
      → paid (x + 1 + 1) ≡ paid (x + 1) + row_price (row_at x) (row_at (x + 1))
  first_step x less =
      let at : x + 1 - 1 ≡ x = omega arith in
      omega (
        arith,
        paid_more (x + 1) (omega arith) less,
        ap (λ (n : ℕ). row_price (row_at n) (row_at (x + 1))) at,
      )

  pub way_out : (k x y : ℕ) → y ≡ x + suc k → y < length told → row_at x ≢ row_at (x + 1)
      → (paid (x + 1) + row_price (row_at x) (row_at y) ≤ paid (y + 1)) ⊎ (paid (x + 1) + (near + near) ≤ paid (y + 1))
  way_out k x y is inside ne = elim (cases_eq (row_at (x + 1)) (row_at y)) [
    | inl same ↦
        let step : row_price (row_at x) (row_at y) ≡ row_price (row_at x) (row_at (x + 1))
        = ap (row_price (row_at x)) (sym same) in
        inl (omega (
          arith,
          step,
          first_step x (omega arith),
          paid_up k (x + 1 + 1) (y + 1) (omega arith) (omega arith),
        ))
    | inr other ↦ inr (omega (
      arith,
      first_step x (omega arith),
      price_least (row_at x) (row_at (x + 1)) ne,
      way_least k (x + 1) y (omega arith) inside other,
    ))
  ]

  -- ---- without a part

  -- what the story costs more with it
  pub without_price : (a b : ℕ) → 0 < a → a < b → b < length told
      → price told + (paid a + row_price (row_at (a - 1)) (row_at b)) ≡ price (without told a b) + paid (b + 1)
  without_price a b some less inside =
      let rest = drop_more told b nothing inside in
      omega (
        arith,
        ap price (sym (take-append-drop b told)),
        ap (λ (xs : List NumberReading). price (take b told ++ xs)) rest,
        price_next told b (reading_at told b) (drop (b + 1) told) (omega arith) (omega arith),
        ap (λ (xs : List NumberReading). price (take a told ++ xs)) rest,
        price_next told a (reading_at told b) (drop (b + 1) told) some (omega arith),
        paid_more b (omega arith) inside,
      )

  -- a part weighs at least what it costs more
  pub part_least : (readings : List NumberReading) → IsBest readings told → (a b : ℕ) → 0 < a → a < b
      → b < length told → IsStory readings (without told a b)
      → paid (b + 1) ≤ weight (part told a b) + (paid a + row_price (row_at (a - 1)) (row_at b))
  part_least readings best a b some less inside story = omega (
    arith,
    best.best (without told a b) story,
    run_weight told a b (omega arith),
    without_price a b some less inside,
  )

  -- a run without which the story is far behind weighs more
  pub run_least : (s e : ℕ) → 0 < s → s < e → e < length told → IsFarBehind (without told s e) told
      → paid (e + 1) + 4 < weight (part told s e) + (paid s + row_price (row_at (s - 1)) (row_at e))
  run_least s e some less inside behind = omega (
    arith,
    behind,
    run_weight told s e (omega arith),
    without_price s e some less inside,
  )
