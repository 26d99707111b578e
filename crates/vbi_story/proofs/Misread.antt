-- What is misread between two told readings that are true, where one of it is believed.
use Rattle.std.proofs.Common.{◌≡◌, ◌≢◌, inl, inr, ℕ, zero, suc, ◌+◌, ◌-◌, ◌<◌, ◌≤◌, List, length}
use Rattle.std.proofs.Common.{arith, sym, ◌∙◌, ap, take, false}
use Rattle.std.proofs.lemmas.Bool.{cases_eq}
use Rattle.vbi_story.specs.declared.reading.NumberReading.{NumberReading}
use Rattle.vbi_story.specs.Story.{row_price, near, far, is_near, IsBest, weight}
use Rattle.vbi_story.specs.Beliefs.{part, without, IsChain, IsFarBehind}
use Rattle.vbi_story.proofs.Prices.{price_same, price_least, price_far}
use Rattle.vbi_story.proofs.Through.{price_turned}
use Rattle.vbi_story.proofs.Chains.{to_end}
use Rattle.vbi_story.proofs.Parts.{story_without, weight_part}
use Rattle.vbi_story.proofs.Excursions.{row_at, paid, paid_more, paid_up, first_step, way_least, way_home, way_out}
use Rattle.vbi_story.proofs.Excursions.{part_least, run_least}

-- ---- a run off the row

-- along a run the row is one
pub same_run : (told : List NumberReading) (s e : ℕ) → IsChain 0 told s e → (k n : ℕ) → n ≡ s + k → n < e
    → row_at told n ≡ row_at told s
same_run told s e run zero n is less = let same : n ≡ s = omega arith in ap (row_at told) same
same_run told s e run (suc k) n is less = elim (cases_eq (row_at told (n - 1)) (row_at told n)) [
  | inl same ↦ sym same ∙ same_run told s e run k (n - 1) (omega arith) (omega arith)
  | inr other ↦ absurd (omega (
    arith,
    run.steps n (omega arith) less,
    price_least (row_at told (n - 1)) (row_at told n) other,
  ))
]

module _ (readings told : List NumberReading) (row a s e b : ℕ) (best : IsBest readings told)
    (run : IsChain 0 told s e) (behind : IsFarBehind (without told s e) told) (on_a : row_at told a ≡ row)
    (on_b : row_at told b ≡ row) (after : a < s) (before : e ≤ b) (inside : b < length told)
    (off : (n : ℕ) → a < n → n < b → row_at told n ≢ row) where
  some : s < e
  some = run.some

  last_row : row_at told (e - 1) ≡ row_at told s
  last_row = same_run told s e run (e - 1 - s) (e - 1) (omega (arith, some)) (omega (arith, some))

  off_run : row_at told s ≢ row
  off_run = off s after (omega (arith, some))

  -- the prices of the steps to it and from it
  to_it : ℕ
  to_it = row_price (row_at told (s - 1)) (row_at told s)

  from_it : ℕ
  from_it = row_price (row_at told (e - 1)) (row_at told e)

  paid_to : paid told (s + 1) ≡ paid told s + row_price (row_at told (s - 1)) (row_at told s)
  paid_to = paid_more told s (omega arith) (omega (arith, some))

  paid_run : paid told e ≡ paid told (s + 1)
  paid_run = to_end told s e run

  paid_from : paid told (e + 1) ≡ paid told e + row_price (row_at told (e - 1)) (row_at told e)
  paid_from = paid_more told e (omega (arith, some)) (omega arith)

  to_least : near ≤ row_price (row_at told (s - 1)) (row_at told s)
  to_least = elim (cases_eq (row_at told (s - 1)) (row_at told s)) [
    | inl same ↦ absurd (omega (
      arith,
      price_same (row_at told (s - 1)) (row_at told s) same,
      run.begins (omega arith),
    ))
    | inr other ↦ price_least (row_at told (s - 1)) (row_at told s) other
  ]

  from_least : near ≤ row_price (row_at told (e - 1)) (row_at told e)
  from_least = elim (cases_eq (row_at told (e - 1)) (row_at told e)) [
    | inl same ↦ absurd (omega (
      arith,
      price_same (row_at told (e - 1)) (row_at told e) same,
      run.ends (omega arith),
    ))
    | inr other ↦ price_least (row_at told (e - 1)) (row_at told e) other
  ]

  held : paid told (e + 1) + 4
      < weight (part told s e) + (paid told s + row_price (row_at told (s - 1)) (row_at told e))
  held = run_least told s e (omega arith) some (omega arith) behind

  -- all that is told off the row
  all_least : paid told (b + 1) ≤ weight (part told (a + 1) b) + paid told (a + 1)
  all_least =
      let at : a + 1 - 1 ≡ a = omega arith in
      let same : row_at told (a + 1 - 1) ≡ row_at told b = ap (row_at told) at ∙ on_a ∙ sym on_b in
      omega (
        arith,
        part_least told readings best (a + 1) b (omega arith) (omega (arith, some)) inside
            (story_without told (a + 1) b (omega (arith, some)) readings best.story_is),
        price_same (row_at told (a + 1 - 1)) (row_at told b) same,
      )

  -- the run alone
  alone : s ≡ a + 1 → e ≡ b → 11 ≤ weight (part told (a + 1) b)
  alone first last =
      let at : s - 1 ≡ a = omega arith in
      let same : row_at told (s - 1) ≡ row_at told e
      = ap (row_at told) at ∙ on_a ∙ sym on_b ∙ ap (row_at told) (sym last) in
      omega (
        arith,
        held,
        price_same (row_at told (s - 1)) (row_at told e) same,
        paid_to,
        paid_run,
        paid_from,
        to_least,
        from_least,
        ap (λ (n : ℕ). weight (part told n e)) first,
        ap (λ (n : ℕ). weight (part told (a + 1) n)) last,
      )

  -- something after it
  then_more : s ≡ a + 1 → e < b → 11 ≤ weight (part told (a + 1) b)
  then_more first less =
      let at : s - 1 ≡ a = omega arith in
      let row_before : row_at told (s - 1) ≡ row = ap (row_at told) at ∙ on_a in
      let back : row_price (row_at told (e - 1)) (row_at told b) ≡ row_price (row_at told (s - 1)) (row_at told s)
      = ap (λ (r : ℕ). row_price r (row_at told b)) last_row
      ∙ ap (row_price (row_at told s)) (on_b ∙ sym row_before)
      ∙ price_turned (row_at told s) (row_at told (s - 1)) in
      let home : row_price (row_at told e) (row_at told b) ≡ row_price (row_at told (s - 1)) (row_at told e)
      = ap (row_price (row_at told e)) (on_b ∙ sym row_before) ∙ price_turned (row_at told e) (row_at told (s - 1)) in
      let rest = part_least told readings best e b (omega (arith, some)) less inside
      (story_without told e b (omega arith) readings best.story_is) in
      let ne : row_at told (b - 1) ≢ row_at told b = λ same. off (b - 1) (omega (arith, some)) (omega arith)
      (same ∙ on_b) in
      let start = ap (paid told) first in
      elim (way_home told (b - e - 1) e b (omega arith) inside ne) [
        | inl dear ↦ omega (
          arith,
          held,
          rest,
          back,
          home,
          dear,
          paid_to,
          paid_run,
          paid_from,
          from_least,
          weight_part told s e (omega (arith, some)),
          weight_part told e b (omega arith),
          weight_part told (a + 1) b (omega (arith, some)),
          ap (λ (n : ℕ). weight (take n told)) first,
        )
        | inr two ↦ omega (arith, two, all_least, start, paid_to, paid_run, paid_from, to_least, from_least)
      ]

  -- something before it
  more_then : a + 1 < s → e ≡ b → 11 ≤ weight (part told (a + 1) b)
  more_then more last =
      let at : a + 1 - 1 ≡ a = omega arith in
      let next : s - 1 + 1 ≡ s = omega arith in
      let row_e : row_at told e ≡ row = ap (row_at told) last ∙ on_b in
      let there : row_price (row_at told (a + 1 - 1)) (row_at told s) ≡ row_price (row_at told (e - 1)) (row_at told e)
      = ap (λ (r : ℕ). row_price r (row_at told s)) (ap (row_at told) at ∙ on_a ∙ sym row_e)
      ∙ price_turned (row_at told e) (row_at told s)
      ∙ ap (λ (r : ℕ). row_price r (row_at told e)) (sym last_row) in
      let out : row_price (row_at told a) (row_at told (s - 1)) ≡ row_price (row_at told (s - 1)) (row_at told e)
      = ap (λ (r : ℕ). row_price r (row_at told (s - 1))) (on_a ∙ sym row_e)
      ∙ price_turned (row_at told e) (row_at told (s - 1)) in
      let rest = part_least told readings best (a + 1) s (omega arith) more (omega (arith, some))
      (story_without told (a + 1) s (omega arith) readings best.story_is) in
      let ne : row_at told a ≢ row_at told (a + 1)
      = λ same. off (a + 1) (omega arith) (omega (arith, some)) (sym same ∙ on_a) in
      elim (way_out told (s - 1 - a - 1) a (s - 1) (omega arith) (omega (arith, some)) ne) [
        | inl dear ↦ omega (
          arith,
          held,
          rest,
          there,
          out,
          dear,
          ap (paid told) next,
          paid_to,
          paid_run,
          paid_from,
          to_least,
          weight_part told s e (omega (arith, some)),
          weight_part told (a + 1) s (omega arith),
          weight_part told (a + 1) b (omega (arith, some)),
          ap (λ (n : ℕ). weight (take n told)) last,
        )
        | inr two ↦ omega (
          arith,
          two,
          all_least,
          ap (paid told) next,
          ap (λ (n : ℕ). paid told (n + 1)) last,
          paid_to,
          paid_run,
          paid_from,
          to_least,
          from_least,
        )
      ]

  -- something on both sides of it
  both : a + 1 < s → e < b → 11 ≤ weight (part told (a + 1) b)
  both more less =
      let next : s - 1 + 1 ≡ s = omega arith in
      let out : row_at told a ≢ row_at told (s - 1)
      = λ same. off (s - 1) (omega arith) (omega (arith, some)) (sym same ∙ on_a) in
      let home : row_at told e ≢ row_at told b = λ same. off e (omega (arith, some)) less (same ∙ on_b) in
      omega (
        arith,
        all_least,
        way_least told (s - 1 - a) a (s - 1) (omega arith) (omega (arith, some)) out,
        way_least told (b - e) e b (omega arith) inside home,
        ap (paid told) next,
        paid_to,
        paid_run,
        paid_from,
        to_least,
        from_least,
      )

  pub misread_heavy : 11 ≤ weight (part told (a + 1) b)
  misread_heavy = elim (cases_eq s (a + 1)) [
    | inl first ↦ elim (cases_eq e b) [
      | inl last ↦ alone first last
      | inr less ↦ then_more first (omega arith)
    ]
    | inr more ↦ elim (cases_eq e b) [
      | inl last ↦ more_then (omega arith) last
      | inr less ↦ both (omega arith) (omega arith)
    ]
  ]

  -- where all that is told there is far off
  module _ (away : (n : ℕ) → a < n → n < b → is_near (row_at told n) row ≡ false) where
    first_far : paid told (a + 1) + far ≤ paid told (a + 1 + 1)
    first_far =
        let step : far ≤ row_price (row_at told (a + 1)) row
        = price_far (row_at told (a + 1)) row (off (a + 1) (omega arith) (omega (arith, some)))
        (away (a + 1) (omega arith) (omega (arith, some))) in
        let turned : row_price (row_at told a) (row_at told (a + 1)) ≡ row_price (row_at told (a + 1)) row
        = ap (λ (r : ℕ). row_price r (row_at told (a + 1))) on_a ∙ price_turned row (row_at told (a + 1)) in
        omega (arith, first_step told a (omega (arith, some)), step, turned)

    last_far : paid told b + far ≤ paid told (b + 1)
    last_far =
        let step : far ≤ row_price (row_at told (b - 1)) row
        = price_far (row_at told (b - 1)) row (off (b - 1) (omega (arith, some)) (omega (arith, some)))
        (away (b - 1) (omega (arith, some)) (omega (arith, some))) in
        omega (
          arith,
          paid_more told b (omega (arith, some)) inside,
          step,
          ap (row_price (row_at told (b - 1))) on_b,
        )

    far_alone : s ≡ a + 1 → e ≡ b → 23 ≤ weight (part told (a + 1) b)
    far_alone first last =
        let at : s - 1 ≡ a = omega arith in
        let same : row_at told (s - 1) ≡ row_at told e
        = ap (row_at told) at ∙ on_a ∙ sym on_b ∙ ap (row_at told) (sym last) in
        omega (
          arith,
          held,
          price_same (row_at told (s - 1)) (row_at told e) same,
          paid_run,
          first_far,
          last_far,
          ap (paid told) first,
          ap (λ (n : ℕ). paid told (n + 1)) first,
          ap (paid told) last,
          ap (λ (n : ℕ). paid told (n + 1)) last,
          ap (λ (n : ℕ). weight (part told n e)) first,
          ap (λ (n : ℕ). weight (part told (a + 1) n)) last,
        )

    far_then : s ≡ a + 1 → e < b → 23 ≤ weight (part told (a + 1) b)
    far_then first less = omega (
      arith,
      all_least,
      first_far,
      last_far,
      paid_run,
      paid_from,
      from_least,
      ap (λ (n : ℕ). paid told (n + 1)) first,
      paid_up told (b - e - 1) (e + 1) b (omega arith) (omega arith),
    )

    far_before : a + 1 < s → 23 ≤ weight (part told (a + 1) b)
    far_before more = omega (
      arith,
      all_least,
      first_far,
      last_far,
      paid_to,
      to_least,
      paid_run,
      paid_up told (s - a - 1 - 1) (a + 1 + 1) s (omega arith) (omega (arith, some)),
      paid_up told (b - e) e b (omega arith) (omega arith),
    )

    pub misread_far : 23 ≤ weight (part told (a + 1) b)
    misread_far = elim (cases_eq s (a + 1)) [
      | inl first ↦ elim (cases_eq e b) [
        | inl last ↦ far_alone first last
        | inr less ↦ far_then first (omega arith)
      ]
      | inr more ↦ far_before (omega arith)
    ]
