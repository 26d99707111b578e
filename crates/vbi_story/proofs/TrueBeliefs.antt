-- What is believed between two told readings that are true is true.
use Rattle.std.proofs.Common.{◌≡◌, ◌≢◌, inl, inr, ℕ, zero, suc, ◌+◌, ◌-◌, ◌<◌, ◌≤◌, List, length}
use Rattle.std.proofs.Common.{arith, sym, ◌∙◌, ap, false}
use Rattle.std.proofs.lemmas.Bool.{cases_eq, cases_lt}
use Rattle.vbi_story.specs.declared.reading.NumberReading.{NumberReading}
use Rattle.vbi_story.specs.Story.{reading_at, is_near, IsAmong, IsBest, weight}
use Rattle.vbi_story.specs.Stretches.{IsOff, IsWithin, AreLighter, AreFarOff}
use Rattle.vbi_story.specs.Beliefs.{part, without, IsChain, IsFarBehind, IsBelieved}
use Rattle.vbi_story.proofs.Parts.{story_part, each_part}
use Rattle.vbi_story.proofs.Believing.{each_at, order_at}
use Rattle.vbi_story.proofs.Excursions.{row_at}
use Rattle.vbi_story.proofs.Misread.{same_run, misread_heavy, misread_far}

-- ---- the readings of the row around it

module _ (told : List NumberReading) (row : ℕ) where
  last_on : (k i s : ℕ) → s ≡ i + suc k → row_at told i ≡ row
      → (a : ℕ) × (i ≤ a) × (a < s) × (row_at told a ≡ row)
      × ((n : ℕ) → a < n → n < s → row_at told n ≢ row)
  last_on zero i s is on = (i, omega arith, omega arith, on, λ n after before. absurd (omega arith))
  last_on (suc k) i s is on = elim (cases_eq (row_at told (s - 1)) row) [
    | inl here ↦ (s - 1, omega arith, omega arith, here, λ n after before. absurd (omega arith))
    | inr other ↦
        let w = last_on k i (s - 1) (omega arith) on in (
          w.0,
          w.1,
          omega (arith, w.2),
          w.3,
          λ n after before. elim (cases_eq n (s - 1)) [
            | inl last ↦ λ same. other (ap (row_at told) (sym last) ∙ same)
            | inr less ↦ w.4 n after (omega arith)
          ],
        )
  ]

  first_on : (k e m : ℕ) → m ≡ e + k → row_at told m ≡ row
      → (b : ℕ) × (e ≤ b) × (b ≤ m) × (row_at told b ≡ row)
      × ((n : ℕ) → e ≤ n → n < b → row_at told n ≢ row)
  first_on zero e m is on = (m, omega arith, omega arith, on, λ n after before. absurd (omega arith))
  first_on (suc k) e m is on = elim (cases_eq (row_at told e) row) [
    | inl here ↦ (e, omega arith, omega arith, here, λ n after before. absurd (omega arith))
    | inr other ↦
        let w = first_on k (e + 1) m (omega arith) on in (
          w.0,
          omega (arith, w.1),
          w.2,
          w.3,
          λ n after before. elim (cases_eq n e) [
            | inl first ↦ λ same. other (ap (row_at told) (sym first) ∙ same)
            | inr more ↦ w.4 n (omega arith) before
          ],
        )
  ]

-- ---- what is believed between two true readings is true

-- a run off the row that is held, between the readings of the row that are nearest to it
record Excursion (told : List NumberReading) (row i k : ℕ) : Type 0 where
  a : ℕ
  s : ℕ
  e : ℕ
  b : ℕ
  run : IsChain 0 told s e
  behind : IsFarBehind (without told s e) told
  on_a : row_at told a ≡ row
  on_b : row_at told b ≡ row
  from_i : i ≤ a
  after : a < s
  before : e ≤ b
  to_k : b ≤ k
  off : (n : ℕ) → a < n → n < b → row_at told n ≢ row

module _ (readings told : List NumberReading) (row from to i j k : ℕ) (best : IsBest readings told) (first : i < j)
    (last : j < k) (inside : k < length told) (on_i : row_at told i ≡ row) (on_k : row_at told k ≡ row)
    (begin : from ≤ (reading_at told i).field) (end : (reading_at told k).field ≤ to) where
  excursion : (s e : ℕ) → IsChain 0 told s e → s ≤ j → j < e → IsFarBehind (without told s e) told
      → row_at told j ≢ row → Excursion told row i k
  excursion s e run after before behind off_j =
      let here : (n : ℕ) → s ≤ n → n < e → row_at told n ≢ row
      = λ n from_s to_e same. off_j (same_run told s e run (j - s) j (omega arith) before
      ∙ sym (same_run told s e run (n - s) n (omega arith) to_e) ∙ same) in
      let i_less : i < s = elim (cases_lt i s) [
        | inl less ↦ less
        | inr more ↦ absurd (here i more (omega arith) on_i)
      ] in
      let k_most : e ≤ k = elim (cases_lt k e) [
        | inl less ↦ absurd (here k (omega arith) less on_k)
        | inr more ↦ more
      ] in
      let left = last_on told row (s - i - 1) i s (omega arith) on_i in
      let right = first_on told row (k - e) e k (omega arith) on_k in
      record {
        a = left.0;
        s = s;
        e = e;
        b = right.0;
        run = run;
        behind = behind;
        on_a = left.3;
        on_b = right.3;
        from_i = left.1;
        after = left.2;
        before = right.1;
        to_k = right.2;
        off = λ n from_a to_b. elim (cases_lt n s) [
          | inl less ↦ left.4 n from_a less
          | inr more ↦ elim (cases_lt n e) [
            | inl less ↦ here n more less
            | inr past ↦ right.4 n past to_b
          ]
        ];
      }

  module _ (w : Excursion told row i k) where
    le : w.a + 1 ≤ w.b
    le = omega (arith, w.after, w.run.some, w.before)

    inside_b : w.b < length told
    inside_b = omega (arith, w.to_k)

    -- what is told there is misread, and of this stretch
    within : (n : ℕ) → w.a < n → n < w.b → IsWithin from to (reading_at told n)
    within n from_a to_b =
        let order = order_at told best.story_is.ascends in (
          omega (arith, begin, order i n (omega (arith, w.from_i)) (omega (arith, inside_b))),
          omega (arith, end, order n k (omega (arith, w.to_k)) inside),
        )

    light : (most : ℕ) → AreLighter readings row from to most → weight (part told (w.a + 1) w.b) < most
    light most few = few (part told (w.a + 1) w.b) (story_part told (w.a + 1) w.b le readings best.story_is)
        (each_part told (w.a + 1) w.b le (IsWithin from to) (omega (arith, inside_b))
        (λ n from_a to_b. within n (omega arith) to_b))
        (each_part told (w.a + 1) w.b le (IsOff row) (omega (arith, inside_b))
        (λ n from_a to_b. w.off n (omega arith) to_b))

    none_near : AreLighter readings row from to 11 → ⊥
    none_near few =
        let heavy = misread_heavy readings told row w.a w.s w.e w.b best w.run w.behind w.on_a w.on_b w.after w.before
        inside_b w.off in
        absurd (omega (arith, heavy, light 11 few))

    none_far : AreLighter readings row from to 23 → AreFarOff readings row from to → ⊥
    none_far few far_off =
        let away : (n : ℕ) → w.a < n → n < w.b → is_near (row_at told n) row ≡ false
        = λ n from_a to_b. far_off (reading_at told n)
        (each_at (IsAmong readings) told best.story_is.among n (omega (arith, inside_b)))
        (within n from_a to_b) (w.off n from_a to_b) in
        let heavy = misread_far readings told row w.a w.s w.e w.b best w.run w.behind w.on_a w.on_b w.after w.before
        inside_b w.off away in
        absurd (omega (arith, heavy, light 23 few))

  on_by : (Excursion told row i k → ⊥) → IsBelieved readings told j → row_at told j ≡ row
  on_by none believed = elim (cases_eq (row_at told j) row) [
    | inl same ↦ same
    | inr other ↦
        let run = believed.held in absurd (none (excursion run.0 run.1 run.2 run.3 run.4 run.5 other))
  ]

  pub on_near : AreLighter readings row from to 11 → IsBelieved readings told j → row_at told j ≡ row
  on_near few = on_by (λ w. none_near w few)

  pub on_far : AreLighter readings row from to 23 → AreFarOff readings row from to → IsBelieved readings told j
      → row_at told j ≡ row
  on_far few far_off = on_by (λ w. none_far w few far_off)
