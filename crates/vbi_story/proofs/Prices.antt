-- What a step costs, and what stands before a reading.
use Rattle.std.proofs.Common.{◌≡◌, ◌≢◌, ◌⊎◌, inl, inr, ℕ, ◌+◌, ◌<◌, ◌≤◌, true, false, List, arith}
use Rattle.std.proofs.Common.{subst, sym, ◌∙◌, ap, slice_index}
use Rattle.std.specs.Prelude.{Option, Some, None}
use Rattle.std.proofs.lemmas.Bool.{cases_eq, cases_Bool}
use Rattle.std.proofs.lemmas.Bool.Decides.{nat_tests}
use Rattle.std.proofs.lemmas.Grind.{common_steps}
use Rattle.vbi_story.specs.declared.reading.NumberReading.{NumberReading}
use Rattle.vbi_story.specs.declared.before.Before.{Before}
use Rattle.vbi_story.specs.Story.{reading_at, row_price, is_near, near, far, near_reach}
use Rattle.vbi_story.specs.Working.{place_at, AreEntered, IsReached, Covers}

pub price_same : (a b : ℕ) → a ≡ b → row_price a b ≡ 0
price_same a b e = grind (arith, nat_tests, common_steps)

pub price_near : (a b : ℕ) → is_near a b ≡ true → row_price a b ≤ near
price_near a b is = grind (arith, nat_tests, common_steps)

pub price_most : (a b : ℕ) → row_price a b ≤ far
price_most a b = grind (arith, nat_tests, common_steps)

pub price_least : (a b : ℕ) → a ≢ b → near ≤ row_price a b
price_least a b ne = grind (arith, nat_tests, common_steps)

pub price_far : (a b : ℕ) → a ≢ b → is_near a b ≡ false → far ≤ row_price a b
price_far a b ne away = grind (arith, nat_tests, common_steps)

pub near_within : (a b : ℕ) → is_near a b ≡ true → (a ≤ b + near_reach) × (b ≤ a + near_reach)
near_within a b is = (grind (arith, nat_tests, common_steps), grind (arith, nat_tests, common_steps))

pub within_near : (a b : ℕ) → a ≤ b + near_reach → b ≤ a + near_reach → is_near a b ≡ true
within_near a b l m = grind (arith, nat_tests, common_steps)

-- ---- what stands before a reading

module _ (readings : List NumberReading) (values : List ℕ) (n row : ℕ) where
  -- at first
  pub reached_none : (before : Before) → before.worth ≡ 0 → before.origin ≡ None
      → IsReached readings values n row before
  reached_none before zero none = record {
    none = λ _. zero;
    some = λ k e. absurd cc;
  }

  -- by a step more
  pub reached_step : (so_far best : Before) (k paid : ℕ) → k < n → row_price (reading_at readings k).row row ≤ paid
      → best.origin ≡ Some k → best.worth + paid ≡ slice_index values k → IsReached readings values n row best
  reached_step so_far best k paid less cheap is worth = record {
    none = λ e. absurd cc;
    some = λ j e. let same : k ≡ j = cc in (
      omega arith,
      rw (← same) (omega arith),
    );
  }

  -- by a step that may have been taken
  pub reached_better : (so_far best : Before) (from : Option ℕ) (paid : ℕ)
      → ((k : ℕ) → from ≡ Some k → (k < n) × (row_price (reading_at readings k).row row ≤ paid))
      → (best ≡ so_far) ⊎ ((k : ℕ) × (from ≡ Some k) × (best.origin ≡ Some k)
      × (best.worth + paid ≡ slice_index values k))
      → IsReached readings values n row so_far → IsReached readings values n row best
  reached_better so_far best from paid cheap (inl same) reached
      = subst (IsReached readings values n row) (sym same) reached
  reached_better so_far best from paid cheap (inr w) reached
      = reached_step so_far best w.0 paid (cheap w.0 w.1).0 (cheap w.0 w.1).1 w.2 w.3

  module _ (top : Option ℕ) (table : List ℕ) (entered : AreEntered readings values n top table) where
    pub same_row : (k : ℕ) → place_at table row ≡ Some k → (k < n) × (row_price (reading_at readings k).row row ≤ 0)
    same_row k is = let w = entered.on_row row k is in (w.0, omega (arith, price_same _ _ w.1))

    pub near_row : (other k : ℕ) → is_near other row ≡ true → place_at table other ≡ Some k
        → (k < n) × (row_price (reading_at readings k).row row ≤ near)
    near_row other k close is = let w = entered.on_row other k is in (w.0, rw w.1 (price_near other row close))

    pub any_row : (k : ℕ) → top ≡ Some k → (k < n) × (row_price (reading_at readings k).row row ≤ far)
    any_row k is = (entered.top_is k is, price_most (reading_at readings k).row row)

    pub reached_near : (so_far best : Before)
        → (best ≡ so_far) ⊎ ((other k : ℕ) × (is_near other row ≡ true)
        × (place_at table other ≡ Some k) × (best.origin ≡ Some k) × (best.worth + near ≡ slice_index values k))
        → IsReached readings values n row so_far → IsReached readings values n row best
    reached_near so_far best (inl same) reached = subst (IsReached readings values n row) (sym same) reached
    reached_near so_far best (inr w) reached =
        let from = near_row w.0 w.1 w.2 w.3 in reached_step so_far best w.1 near from.0 from.1 w.4 w.5

    pub covered : (same close best : Before)
        → ((k : ℕ) → place_at table row ≡ Some k → slice_index values k ≤ same.worth + 0)
        → same.worth ≤ close.worth
        → ((other k : ℕ) → is_near other row ≡ true → place_at table other ≡ Some k
        → slice_index values k ≤ close.worth + near)
        → close.worth ≤ best.worth
        → ((k : ℕ) → top ≡ Some k → slice_index values k ≤ best.worth + far)
        → Covers readings values n row best
    covered same close best on_row more on_near most any m less =
        let here = (reading_at readings m).row in
        elim (cases_eq here row) [
          | inl e ↦ let w = entered.covers m less in
              let le : slice_index values w.0 ≤ same.worth + 0
              = on_row w.0 (ap (place_at table) (sym e) ∙ w.1) in omega (arith, w.2, le)
          | inr ne ↦ elim (cases_Bool (is_near here row)) [
            | inl close_by ↦ let w = entered.covers m less in
                let le : slice_index values w.0 ≤ close.worth + near = on_near here w.0 close_by w.1 in
                let paid : near ≤ row_price here row = price_least here row ne in
                omega (arith, w.2, le, paid)
            | inr away ↦ let w = entered.top_covers m less in
                let le : slice_index values w.0 ≤ best.worth + far = any w.0 w.1 in
                let paid : far ≤ row_price here row = price_far here row ne away in
                omega (arith, w.2, le, paid)
          ]
        ]
