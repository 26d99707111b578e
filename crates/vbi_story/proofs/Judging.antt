-- One reading more is judged.
use Rattle.std.proofs.Common.{◌≡◌, inl, inr, ℕ, ◌+◌, ◌*◌, ◌<◌, ◌≤◌, List, length, refl, arith, subst, sym, ◌∙◌}
use Rattle.std.proofs.Common.{ap, slice_index, slice_set, get_or-set_same, get_or-set_other}
use Rattle.std.specs.Prelude.{Option, Some, None}
use Rattle.std.proofs.lemmas.Bool.{cases_eq, cases_lt}
use Rattle.vbi_story.specs.declared.reading.NumberReading.{NumberReading}
use Rattle.vbi_story.specs.declared.before.Before.{Before}
use Rattle.vbi_story.specs.Story.{reading_at, row_price, AreReadings}
use Rattle.vbi_story.specs.Working.{place_in, place_at, AreEntered, IsReached, Covers, AreJudged}

-- what comes before is small
worth_by : (readings : List NumberReading) (values : List ℕ) (n row i : ℕ) (before : Before) (o : Option ℕ)
    → before.origin ≡ o → n ≤ i → IsReached readings values n row before
    → ((k : ℕ) → k < i → slice_index values k ≤ 4 * (k + 1)) → before.worth ≤ 4 * i
worth_by readings values n row i before None is less reached few = omega (arith, reached.none is)
worth_by readings values n row i before (Some k) is less reached few =
    let w = reached.some k is in omega (arith, w.0, w.1, few k (omega (arith, w.0)))

pub worth_few : (readings : List NumberReading) (values : List ℕ) (n row i : ℕ) (before : Before)
    → n ≤ i → IsReached readings values n row before
    → ((k : ℕ) → k < i → slice_index values k ≤ 4 * (k + 1)) → before.worth ≤ 4 * i
worth_few readings values n row i before less reached few =
    worth_by readings values n row i before before.origin refl less reached few

-- what is entered stays so as a later value is written
pub entered_still : (readings : List NumberReading) (values : List ℕ) (n i v : ℕ) (top : Option ℕ)
    (table : List ℕ)
    → n ≤ i → AreEntered readings values n top table → AreEntered readings (slice_set values i v) n top table
entered_still readings values n i v top table less entered =
    let kept : (k : ℕ) → k < n → slice_index (slice_set values i v) k ≡ slice_index values k
    = λ k h. get_or-set_other values i k v 0 (λ e. absurd (omega arith)) in
    record {
      on_row = entered.on_row;
      covers = λ m h. let w = entered.covers m h in
          (w.0, w.1, omega (arith, w.2, kept m h, kept w.0 (entered.on_row _ _ w.1).0));
      top_is = entered.top_is;
      top_covers = λ m h. let w = entered.top_covers m h in
          (w.0, w.1, omega (arith, w.2, kept m h, kept w.0 (entered.top_is _ w.1)));
    }

-- of none is anything said
pub none_judged : (readings : List NumberReading) (values : List ℕ) (origins : List ℕ)
    → AreJudged readings values origins 0
none_judged readings values origins = record {
  alone = λ i h. absurd (omega arith);
  after = λ k i h. absurd (omega arith);
  begun = λ i h. absurd (omega arith);
  came = λ k i h. absurd (omega arith);
  few = λ i h. absurd (omega arith);
}

module _ (readings : List NumberReading) (values : List ℕ) (origins : List ℕ) (rows n i word : ℕ) (before : Before)
    (keeps : place_in word ≡ before.origin)
    (given : AreReadings rows readings)
    (inside : i < length readings) (in_values : i < length values) (in_origins : i < length origins)
    (less : n ≤ i)
    (earlier : (k : ℕ) → k < n → (reading_at readings k).field < (reading_at readings i).field)
    (later : (k : ℕ) → n ≤ k → k < length readings → (reading_at readings i).field ≤ (reading_at readings k).field)
    (reached : IsReached readings values n (reading_at readings i).row before)
    (covers : Covers readings values n (reading_at readings i).row before)
    (judged : AreJudged readings values origins i) where
  abbrev value : ℕ → ℕ
  value = slice_index (slice_set values i (before.worth + (reading_at readings i).weight))

  abbrev origin : ℕ → Option ℕ
  origin = place_at (slice_set origins i word)

  value_here : value i ≡ before.worth + (reading_at readings i).weight
  value_here = get_or-set_same values i _ 0 in_values

  value_old : (k : ℕ) → k < i → value k ≡ slice_index values k
  value_old k h = get_or-set_other values i k _ 0 (λ e. absurd (omega arith))

  origin_here : origin i ≡ before.origin
  origin_here = ap place_in (get_or-set_same origins i word 0 in_origins) ∙ keeps

  origin_old : (k : ℕ) → k < i → origin k ≡ place_at origins k
  origin_old k h = ap place_in (get_or-set_other origins i k word 0 (λ e. absurd (omega arith)))

  alone_more : (j : ℕ) → j < i + 1 → (reading_at readings j).weight ≤ value j
  alone_more j h = elim (cases_eq j i) [
    | inl e ↦ rw e (omega (arith, value_here))
    | inr ne ↦ let l : j < i = omega arith in omega (arith, judged.alone j l, value_old j l)
  ]

  after_here : (k : ℕ) → k < i → (reading_at readings k).field < (reading_at readings i).field
      → value k + (reading_at readings i).weight
      ≤ value i + row_price (reading_at readings k).row (reading_at readings i).row
  after_here k l f = elim (cases_lt k n) [
    | inl m ↦ omega (arith, covers k m, value_here, value_old k l)
    | inr m ↦ absurd (omega (arith, later k m (omega arith)))
  ]

  after_more : (k j : ℕ) → k < i + 1 → j < i + 1 → (reading_at readings k).field < (reading_at readings j).field
      → value k + (reading_at readings j).weight
      ≤ value j + row_price (reading_at readings k).row (reading_at readings j).row
  after_more k j h m f = elim (cases_lt k i) [
    | inl l ↦ elim (cases_eq j i) [
      | inl e ↦ rw e (after_here k l (subst
          (λ (x : ℕ). (reading_at readings k).field < (reading_at readings x).field) e f))
      | inr ne ↦ let p : j < i = omega arith in
          omega (arith, judged.after k j l p f, value_old k l, value_old j p)
    ]
    | inr l ↦ absurd (omega (arith, given.in_order j k (omega arith) (omega arith)))
  ]

  begun_more : (j : ℕ) → j < i + 1 → origin j ≡ None → value j ≤ (reading_at readings j).weight
  begun_more j h is = elim (cases_eq j i) [
    | inl e ↦
        let none : before.origin ≡ None = sym origin_here ∙ ap origin (sym e) ∙ is in
        rw e (omega (arith, value_here, reached.none none))
    | inr ne ↦ let l : j < i = omega arith in
        omega (arith, judged.begun j l (sym (origin_old j l) ∙ is), value_old j l)
  ]

  came_here : (k : ℕ) → before.origin ≡ Some k
      → (k < i) × ((reading_at readings k).field < (reading_at readings i).field)
      × (value i + row_price (reading_at readings k).row (reading_at readings i).row
      ≤ (reading_at readings i).weight + value k)
  came_here k is =
      let w = reached.some k is in
      let l : k < i = omega (arith, w.0) in
      (l, earlier k w.0, omega (arith, w.1, value_here, value_old k l))

  came_more : (k j : ℕ) → j < i + 1 → origin j ≡ Some k
      → (k < j) × ((reading_at readings k).field < (reading_at readings j).field)
      × (value j + row_price (reading_at readings k).row (reading_at readings j).row
      ≤ (reading_at readings j).weight + value k)
  came_more k j h is = elim (cases_eq j i) [
    | inl e ↦ rw e (came_here k (sym origin_here ∙ ap origin (sym e) ∙ is))
    | inr ne ↦
        let l : j < i = omega arith in
        let w = judged.came k j l (sym (origin_old j l) ∙ is) in
        let m : k < i = omega (arith, w.0) in
        (w.0, w.1, omega (arith, w.2, value_old j l, value_old k m))
  ]

  few_more : (j : ℕ) → j < i + 1 → value j ≤ 4 * (j + 1)
  few_more j h = elim (cases_eq j i) [
    | inl e ↦ rw e (omega (
      arith,
      value_here,
      given.light i inside,
      worth_few readings values n _ i before less reached judged.few,
    ))
    | inr ne ↦ let l : j < i = omega arith in omega (arith, judged.few j l, value_old j l)
  ]

  pub judged_more : AreJudged readings (slice_set values i (before.worth + (reading_at readings i).weight))
      (slice_set origins i word) (i + 1)
  judged_more = record {
    alone = alone_more;
    after = after_more;
    begun = begun_more;
    came = came_more;
    few = few_more;
  }
