-- One reading more is entered, and a value is written.
use Rattle.std.proofs.Common.{◌≡◌, ◌≢◌, ◌⊎◌, inl, inr, ℕ, ◌+◌, ◌<◌, ◌≤◌, List, length, refl, arith, sym, ◌∙◌, ap}
use Rattle.std.proofs.Common.{slice_index, slice_set, get_or-set_same, get_or-set_other}
use Rattle.std.specs.Prelude.{Option, Some}
use Rattle.std.proofs.lemmas.Bool.{cases_eq}
use Rattle.vbi_story.specs.declared.reading.NumberReading.{NumberReading}
use Rattle.vbi_story.specs.Story.{reading_at}
use Rattle.vbi_story.specs.Working.{place_in, place_at, AreEntered}

module _ (readings : List NumberReading) (values : List ℕ) (n : ℕ) (top : Option ℕ) (table : List ℕ)
    (best word last : ℕ)
    (keeps : place_in word ≡ Some best)
    (entered : AreEntered readings values n top table)
    (inside : (reading_at readings n).row < length table)
    (either : (best ≡ n) ⊎ (place_at table (reading_at readings n).row ≡ Some best))
    (old : (k : ℕ) → place_at table (reading_at readings n).row ≡ Some k
    → slice_index values k ≤ slice_index values best)
    (new : slice_index values n ≤ slice_index values best)
    (either_top : (last ≡ n) ⊎ (top ≡ Some last))
    (old_top : (k : ℕ) → top ≡ Some k → slice_index values k ≤ slice_index values last)
    (new_top : slice_index values n ≤ slice_index values last) where
  at : ℕ
  at = (reading_at readings n).row

  best_is : (best < n + 1) × ((reading_at readings best).row ≡ (reading_at readings n).row)
  best_is = elim either [
    | inl e ↦ (omega arith, ap (λ (k : ℕ). (reading_at readings k).row) e)
    | inr e ↦ let w = entered.on_row _ _ e in (omega (arith, w.0), w.1)
  ]

  set_here : place_at (slice_set table (reading_at readings n).row word) (reading_at readings n).row ≡ Some best
  set_here = ap place_in (get_or-set_same table (reading_at readings n).row word 0 inside) ∙ keeps

  set_other : (row : ℕ) → row ≢ (reading_at readings n).row
      → place_at (slice_set table (reading_at readings n).row word) row ≡ place_at table row
  set_other row ne = ap place_in (get_or-set_other table (reading_at readings n).row row word 0 ne)

  on_row_more : (row k : ℕ) → place_at (slice_set table (reading_at readings n).row word) row ≡ Some k
      → (k < n + 1) × ((reading_at readings k).row ≡ row)
  on_row_more row k is = elim (cases_eq row (reading_at readings n).row) [
    | inl e ↦
        let set : place_at (slice_set table (reading_at readings n).row word) row ≡ Some best
        = rw e set_here in
        let same : best ≡ k = cc in
        (omega (arith, best_is.0), ap (λ (j : ℕ). (reading_at readings j).row) (sym same) ∙ best_is.1 ∙ sym e)
    | inr ne ↦
        let set : place_at (slice_set table (reading_at readings n).row word) row ≡ place_at table row
        = set_other row ne in
        let w = entered.on_row row k (sym set ∙ is) in (omega (arith, w.0), w.1)
  ]

  covers_more : (m : ℕ) → m < n + 1
      → (k : ℕ) × (place_at (slice_set table (reading_at readings n).row word) (reading_at readings m).row
      ≡ Some k) × (slice_index values m ≤ slice_index values k)
  covers_more m less = elim (cases_eq m n) [
    | inl e ↦ (
      best,
      rw e set_here,
      rw e new,
    )
    | inr ne ↦
        let w = entered.covers m (omega arith) in
        elim (cases_eq (reading_at readings m).row (reading_at readings n).row) [
          | inl e ↦ (
            best,
            rw e set_here,
            let le : slice_index values w.0 ≤ slice_index values best
                = old w.0 (ap (place_at table) (sym e) ∙ w.1) in omega (arith, w.2, le),
          )
          | inr other ↦ (
            w.0,
            set_other (reading_at readings m).row other
                ∙ w.1,
            w.2,
          )
        ]
  ]

  pub entered_more : AreEntered readings values (n + 1) (Some last)
      (slice_set table (reading_at readings n).row word)
  entered_more = record {
    on_row = on_row_more;
    covers = covers_more;
    top_is = λ k e. let same : last ≡ k = cc in elim either_top [
      | inl is ↦ omega arith
      | inr is ↦ let w = entered.top_is last is in omega (arith, w)
    ];
    top_covers = λ m less. elim (cases_eq m n) [
      | inl e ↦ (last, refl, rw e new_top)
      | inr ne ↦ let w = entered.top_covers m (omega arith) in
          (last, refl, omega (arith, w.2, old_top w.0 w.1))
    ];
  }
