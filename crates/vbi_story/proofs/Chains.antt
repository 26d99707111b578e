-- Chains: a part of what is told, what it weighs, and what it costs.
use Rattle.std.proofs.Common.{◌≡◌, ℕ, zero, suc, ◌+◌, ◌-◌, ◌<◌, ◌≤◌, List, [], ◌∷◌, ◌++◌, length, refl, arith, sym, ◌∙◌}
use Rattle.std.proofs.Common.{nat_lt, true, ap, inl, inr, take, drop, append_assoc}
use Rattle.std.proofs.lemmas.List.{take_more, get_or-drop, length-drop, drop_more, take-append-drop, take_all, drop_all}
use Rattle.std.proofs.lemmas.List.{drop-drop}
use Rattle.std.proofs.lemmas.Bool.{cases_lt, cases_eq}
use Rattle.std.proofs.lemmas.Bool.Decides.{nat_tests}
use Rattle.vbi_story.specs.declared.reading.NumberReading.{NumberReading}
use Rattle.vbi_story.specs.Story.{reading_at, nothing, weight, price, row_price}
use Rattle.vbi_story.specs.Beliefs.{part, without, step_to, IsChain}
use Rattle.vbi_story.proofs.Splices.{weight_append, price_split}

-- a part with one reading more
pub part_more : (told : List NumberReading) (s e : ℕ) → s ≤ e → e < length told
    → part told s (e + 1) ≡ part told s e ++ reading_at told e ∷ []
part_more told s e le inside =
    let count : e + 1 - s ≡ (e - s) + 1 = omega arith in
    let place : s + (e - s) ≡ e = omega arith in
    let less : e - s < length (drop s told) = omega (arith, length-drop s told) in
    ap (λ (n : ℕ). take n (drop s told)) count
    ∙ take_more (drop s told) (e - s) nothing less
    ∙ ap (λ (r : NumberReading). take (e - s) (drop s told) ++ r ∷ [])
    (get_or-drop s told (e - s) nothing ∙ ap (reading_at told) place)

pub weight_more : (told : List NumberReading) (s e : ℕ) → s ≤ e → e < length told
    → weight (part told s (e + 1)) ≡ weight (part told s e) + (reading_at told e).weight
weight_more told s e le inside =
    omega (arith, ap weight (part_more told s e le inside), weight_append (part told s e) (reading_at told e ∷ []))

append_none : (xs : List NumberReading) → xs ++ [] ≡ xs
append_none [] = refl
append_none (x ∷ xs) = ap (λ (ys : List NumberReading). x ∷ ys) (append_none xs)

pub lt_is : (a b : ℕ) → nat_lt a b ≡ true → a < b
lt_is a b h = grind (arith, nat_tests)

pub is_lt : (a b : ℕ) → a < b → nat_lt a b ≡ true
is_lt a b h = grind (arith, nat_tests)

-- ---- a chain is the only one that has its readings

module _ (most : ℕ) (told : List NumberReading) (from to from_too to_too i : ℕ) (one : IsChain most told from to)
    (other : IsChain most told from_too to_too) (after : from ≤ i) (before : i < to) (after_too : from_too ≤ i)
    (before_too : i < to_too) where
  pub one_begin : from ≡ from_too
  one_begin = elim (cases_lt from from_too) [
    | inl less ↦ absurd (omega (arith, one.steps from_too less (omega arith), other.begins (omega arith)))
    | inr most_it ↦ elim (cases_lt from_too from) [
      | inl less ↦ absurd (omega (arith, other.steps from less (omega arith), one.begins (omega arith)))
      | inr same ↦ omega arith
    ]
  ]

  pub one_end : to ≡ to_too
  one_end = elim (cases_lt to to_too) [
    | inl less ↦ absurd (omega (arith, other.steps to (omega arith) less, one.ends (omega (arith, other.inside))))
    | inr most_it ↦ elim (cases_lt to_too to) [
      | inl less ↦ absurd (omega (arith, one.steps to_too (omega arith) less, other.ends (omega (arith, one.inside))))
      | inr same ↦ omega arith
    ]
  ]

-- ---- what a run costs

-- the price of what is told up to a place, with a reading that comes next
pub price_next : (told : List NumberReading) (s : ℕ) (y : NumberReading) (ys : List NumberReading) → 0 < s
    → s ≤ length told
    → price (take s told ++ y ∷ ys)
    ≡ price (take s told) + row_price (reading_at told (s - 1)).row y.row + price (y ∷ ys)
price_next told s y ys some le =
    let last = reading_at told (s - 1) in
    let count : s ≡ (s - 1) + 1 = omega arith in
    let ended : take s told ≡ take (s - 1) told ++ last ∷ []
    = ap (λ (n : ℕ). take n told) count ∙ take_more told (s - 1) nothing (omega arith) in
    let whole : take s told ++ y ∷ ys ≡ take (s - 1) told ++ last ∷ y ∷ ys
    = ap (λ (xs : List NumberReading). xs ++ y ∷ ys) ended ∙ append_assoc (take (s - 1) told) (last ∷ []) (y ∷ ys) in
    omega (arith, ap price whole, ap price ended, price_split (take (s - 1) told) last (y ∷ ys))

-- with one reading more
pub prefix_more : (told : List NumberReading) (n : ℕ) → 0 < n → n < length told
    → price (take (n + 1) told) ≡ price (take n told) + step_to told n
prefix_more told n some inside =
    omega (
      arith,
      ap price (take_more told n nothing inside),
      price_next told n (reading_at told n) [] some (omega arith),
    )

pub first_free : (told : List NumberReading) → price (take 1 told) ≡ 0
first_free [] = refl
first_free (x ∷ told) = refl

-- along a run it stays
module _ (told : List NumberReading) (s e : ℕ) (run : IsChain 0 told s e) where
  along : (k : ℕ) → s + 1 + k ≤ e → price (take (s + 1 + k) told) ≡ price (take (s + 1) told)
  along zero le = let same : s + 1 + 0 ≡ s + 1 = omega arith in ap (λ (n : ℕ). price (take n told)) same
  along (suc k) le =
      let next : s + 1 + suc k ≡ (s + 1 + k) + 1 = omega arith in
      omega (
        arith,
        ap (λ (n : ℕ). price (take n told)) next,
        prefix_more told (s + 1 + k) (omega arith) (omega (arith, run.inside)),
        run.steps (s + 1 + k) (omega arith) (omega arith),
        along k (omega arith),
      )

  pub to_end : price (take e told) ≡ price (take (s + 1) told)
  to_end =
      let is : e ≡ s + 1 + (e - s - 1) = omega (arith, run.some) in
      omega (arith, ap (λ (n : ℕ). price (take n told)) is, along (e - s - 1) (omega (arith, run.some)))

  module _ (to_it from_it over : ℕ) (to_first : s ≡ 0 → to_it ≡ 0)
      (to_is : 0 < s → s < length told → to_it ≡ step_to told s)
      (from_past : e ≡ length told → from_it ≡ 0)
      (from_is : 0 < e → e < length told → from_it ≡ step_to told e)
      (over_first : s ≡ 0 → over ≡ 0) (over_past : e ≡ length told → over ≡ 0)
      (over_is : 0 < s → e < length told → over ≡ row_price (reading_at told (s - 1)).row (reading_at told e).row) where
    up_to_end : price (take e told) ≡ price (take s told) + to_it
    up_to_end = elim (cases_eq s 0) [
      | inl none ↦ omega (
        arith,
        to_end,
        first_free told,
        to_first none,
        ap (λ (n : ℕ). price (take (n + 1) told)) none,
        ap (λ (n : ℕ). price (take n told)) none,
      )
      | inr some ↦ omega (
        arith,
        to_end,
        prefix_more told s (omega arith) (omega (arith, run.some, run.inside)),
        to_is (omega arith) (omega (arith, run.some, run.inside)),
      )
    ]

    rest_of : e < length told → drop e told ≡ reading_at told e ∷ drop (e + 1) told
    rest_of less = drop_more told e nothing less

    whole_price : price told ≡ price (take e told) + from_it + price (drop e told)
    whole_price = elim (cases_eq e (length told)) [
      | inl all ↦ omega (
        arith,
        ap price (take_all e told (omega arith)),
        ap price (drop_all e told (omega arith)),
        from_past all,
      )
      | inr some ↦
          let less : e < length told = omega (arith, run.inside) in
          omega (
            arith,
            ap price (sym (take-append-drop e told)),
            ap (λ (xs : List NumberReading). price (take e told ++ xs)) (rest_of less),
            ap price (rest_of less),
            price_next told e (reading_at told e) (drop (e + 1) told) (omega (arith, run.some)) (omega arith),
            from_is (omega (arith, run.some)) less,
          )
    ]

    without_price : price (without told s e) ≡ price (take s told) + over + price (drop e told)
    without_price = elim (cases_eq e (length told)) [
      | inl all ↦ omega (
        arith,
        ap (λ (xs : List NumberReading). price (take s told ++ xs)) (drop_all e told (omega arith)),
        ap price (append_none (take s told)),
        ap price (drop_all e told (omega arith)),
        over_past all,
      )
      | inr some ↦
          let less : e < length told = omega (arith, run.inside) in
          elim (cases_eq s 0) [
            | inl none ↦ omega (
              arith,
              ap (λ (n : ℕ). price (take n told ++ drop e told)) none,
              ap (λ (n : ℕ). price (take n told)) none,
              over_first none,
            )
            | inr more ↦ omega (
              arith,
              ap (λ (xs : List NumberReading). price (take s told ++ xs)) (rest_of less),
              ap price (rest_of less),
              price_next told s (reading_at told e) (drop (e + 1) told) (omega arith)
                  (omega (arith, run.some, run.inside)),
              over_is (omega arith) less,
            )
          ]
    ]

    -- what the story costs more with the run than without it
    pub run_price : price told + over ≡ price (without told s e) + (to_it + from_it)
    run_price = omega (arith, up_to_end, whole_price, without_price)

-- what it weighs more
pub run_weight : (told : List NumberReading) (s e : ℕ) → s ≤ e
    → weight told ≡ weight (without told s e) + weight (part told s e)
run_weight told s e le =
    let past : s + (e - s) ≡ e = omega arith in
    omega (
      arith,
      ap weight (take-append-drop s told),
      weight_append (take s told) (drop s told),
      ap weight (take-append-drop (e - s) (drop s told)),
      weight_append (part told s e) (drop (e - s) (drop s told)),
      ap weight (drop-drop (e - s) s told),
      ap (λ (n : ℕ). weight (drop n told)) past,
      weight_append (take s told) (drop e told),
    )
