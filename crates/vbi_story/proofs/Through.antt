-- What a story through a reading is worth at most.
use Rattle.std.proofs.Common.{◌≡◌, ◌⊎◌, inl, inr, ℕ, ◌+◌, ◌-◌, ◌<◌, ◌≤◌, List, [], ◌∷◌, ◌++◌, length, refl, arith, ap}
use Rattle.std.proofs.Common.{◌∙◌}
use Rattle.std.proofs.Common.{slice_index, slice_set, get_or-set_same, get_or-set_other}
use Rattle.std.specs.Prelude.{Option, Some, None}
use Rattle.vbi_story.specs.declared.reading.NumberReading.{NumberReading}
use Rattle.vbi_story.specs.Story.{reading_at, row_price, IsAmong, Each, Ascends, price, weight, IsStory}
use Rattle.vbi_story.specs.Working.{AreJudged, place_at}
use Rattle.vbi_story.specs.Rivals.{AreJudgedBack, AreMirrored, mirror}
use Rattle.std.proofs.lemmas.Bool.{cases_eq}
use Rattle.std.proofs.lemmas.Bool.Decides.{nat_tests}
use Rattle.std.proofs.lemmas.Grind.{common_steps}
use Rattle.vbi_story.proofs.Splices.{weight_append, price_split, each_first, each_rest, ascends_first, ascends_rest}

module _ (readings : List NumberReading) (values : List ℕ) (origins : List ℕ)
    (judged : AreJudged readings values origins (length readings)) where
  -- from one reading on to another
  on_to : (x : NumberReading) (j : ℕ) → j < length readings → reading_at readings j ≡ x → (rest : List NumberReading)
      (i : ℕ)
      → i < length readings → Each (IsAmong readings) rest → Ascends (x ∷ (rest ++ reading_at readings i ∷ []))
      → slice_index values j + (weight rest + (reading_at readings i).weight)
      ≤ slice_index values i + price (x ∷ (rest ++ reading_at readings i ∷ []))
  on_to x j in_j at_j [] i in_i among ascends =
      let less : (reading_at readings j).field < (reading_at readings i).field = rw at_j ascends.0 in
      let step = rw at_j at (judged.after j i in_j in_i less) in
      omega (arith, step)
  on_to x j in_j at_j (y ∷ rest) i in_i among ascends =
      let k = among.0.0 in
      let in_k : k < length readings = among.0.1 in
      let at_k : reading_at readings k ≡ y = among.0.2 in
      let less : (reading_at readings j).field < (reading_at readings k).field = rw (at_j, at_k) ascends.0 in
      let step = rw (at_j, at_k) at (judged.after j k in_j in_k less) in
      omega (arith, step, on_to y k in_k at_k rest i in_i among.1 ascends.1)

  ends_most : (before : List NumberReading) (i : ℕ) → i < length readings → Each (IsAmong readings) before
      → Ascends (before ++ reading_at readings i ∷ [])
      → weight before + (reading_at readings i).weight
      ≤ price (before ++ reading_at readings i ∷ []) + slice_index values i
  ends_most [] i in_i among ascends = omega (arith, judged.alone i in_i)
  ends_most (x ∷ before) i in_i among ascends =
      let j = among.0.0 in
      let in_j : j < length readings = among.0.1 in
      let at_j : reading_at readings j ≡ x = among.0.2 in
      let own = rw at_j at (judged.alone j in_j) in
      omega (arith, own, on_to x j in_j at_j before i in_i among.1 ascends)

  module _ (back : ℕ → ℕ) (judged_back : AreJudgedBack readings back) where
    begins_most : (r : NumberReading) (i : ℕ) → i < length readings → reading_at readings i ≡ r
        → (after : List NumberReading)
        → Each (IsAmong readings) after → Ascends (r ∷ after)
        → weight (r ∷ after) ≤ price (r ∷ after) + back i
    begins_most r i in_i at_i [] among ascends =
        let own = rw at_i at (judged_back.alone i in_i) in omega (arith, own)
    begins_most r i in_i at_i (y ∷ after) among ascends =
        let k = among.0.0 in
        let in_k : k < length readings = among.0.1 in
        let at_k : reading_at readings k ≡ y = among.0.2 in
        let less : (reading_at readings i).field < (reading_at readings k).field = rw (at_i, at_k) ascends.0 in
        let step = rw (at_i, at_k) at (judged_back.before i k in_i in_k less) in
        omega (arith, step, begins_most y k in_k at_k after among.1 ascends.1)

    -- a story is worth at most the value of its begin up to a reading and that of its end from it, which both count it
    pub through_most : (i : ℕ) (before after : List NumberReading) → i < length readings
        → IsStory readings (before ++ reading_at readings i ∷ after)
        → weight (before ++ reading_at readings i ∷ after) + (reading_at readings i).weight
        ≤ price (before ++ reading_at readings i ∷ after) + (slice_index values i + back i)
    through_most i before after in_i story =
        let r = reading_at readings i in
        let after_it : Each (IsAmong readings) (r ∷ after)
        = each_rest (IsAmong readings) before (r ∷ after) story.among in
        omega (
          arith,
          weight_append before (r ∷ after),
          price_split before r after,
          ends_most before i in_i (each_first (IsAmong readings) before (r ∷ after) story.among)
              (ascends_first before r after story.ascends),
          begins_most r i in_i refl after after_it.1 (ascends_rest before r after story.ascends),
        )

-- ---- in the mirror

pub price_turned : (a b : ℕ) → row_price a b ≡ row_price b a
price_turned a b = grind (arith, nat_tests, common_steps)

module _ (last : ℕ) (readings mirrored : List NumberReading) (same : length mirrored ≡ length readings)
    (are : AreMirrored last readings mirrored)
    (in_fields : (i : ℕ) → i < length readings → (reading_at readings i).field ≤ last) where
  other : ℕ → ℕ
  other i = length readings - 1 - i

  at_other : (i : ℕ) → i < length readings
      → reading_at mirrored (length readings - 1 - i) ≡ mirror last (reading_at readings i)
  at_other i h =
      let turned : length readings - 1 - (length readings - 1 - i) ≡ i = omega arith in
      are (length readings - 1 - i) (omega arith) ∙ ap (λ (k : ℕ). mirror last (reading_at readings k)) turned

  next_by : (values : List ℕ) (origins : List ℕ) → AreJudged mirrored values origins (length mirrored)
      → (i : ℕ) → i < length readings → (o : Option ℕ) → place_at origins (length readings - 1 - i) ≡ o
      → (slice_index values (length readings - 1 - i) ≤ (reading_at readings i).weight)
      ⊎ ((k : ℕ) × (i < k) × (k < length readings)
      × ((reading_at readings i).field < (reading_at readings k).field)
      × (slice_index values (length readings - 1 - i)
      + row_price (reading_at readings i).row (reading_at readings k).row
      ≤ (reading_at readings i).weight + slice_index values (length readings - 1 - k)))
  next_by values origins judged i in_i None is =
      let begun = judged.begun (length readings - 1 - i) (omega arith) is in
      inl (rw (at_other i in_i) at begun)
  next_by values origins judged i in_i (Some m) is =
      let less : m < length readings - 1 - i = (judged.came m (length readings - 1 - i) (omega arith) is).0 in
      let k = length readings - 1 - m in
      let turned : m ≡ length readings - 1 - (length readings - 1 - m) = omega arith in
      let came = judged.came (length readings - 1 - k) (length readings - 1 - i) (omega arith) (is ∙ ap Some turned) in
      let in_k : k < length readings = omega arith in
      let fields_less : last - (reading_at readings k).field < last - (reading_at readings i).field
      = rw (at_other k in_k, at_other i in_i) at came.1 in
      let told = rw (at_other k in_k, at_other i in_i) at came.2 in
      inr (
        k,
        omega arith,
        in_k,
        omega (arith, fields_less),
        omega (arith, told, price_turned (reading_at readings k).row (reading_at readings i).row),
      )

  pub mirrored_back : (values : List ℕ) (origins : List ℕ)
      → AreJudged mirrored values origins (length mirrored)
      → AreJudgedBack readings (λ i. slice_index values (length readings - 1 - i))
  mirrored_back values origins judged = record {
    alone = λ i h.
        let own = judged.alone (length readings - 1 - i) (omega arith) in rw (at_other i h) at own;
    before = λ k i in_k in_i less.
        let fields_less : last - (reading_at readings i).field < last - (reading_at readings k).field
        = omega (arith, in_fields k in_k, in_fields i in_i) in
        let step = judged.after (length readings - 1 - i) (length readings - 1 - k) (omega arith) (omega arith)
        (rw (at_other i in_i, at_other k in_k) fields_less) in
        let told = rw (at_other i in_i, at_other k in_k) at step in
        omega (arith, told, price_turned (reading_at readings i).row (reading_at readings k).row);
    goes_on = λ i in_i. next_by values origins judged i in_i (place_at origins (length readings - 1 - i)) refl;
  }

-- ---- a bound is written

pub turned_more : (readings : List NumberReading) (values back bounds : List ℕ) (at last weight : ℕ)
    → at < length bounds → weight ≤ slice_index values at → (reading_at readings at).weight ≡ weight
    → ((i : ℕ) → i < at → slice_index bounds i + (reading_at readings i).weight
    ≡ slice_index values i + slice_index back (last - i))
    → (i : ℕ) → i < at + 1
    → slice_index (slice_set bounds at (slice_index values at + slice_index back (last - at) - weight)) i
    + (reading_at readings i).weight ≡ slice_index values i + slice_index back (last - i)
turned_more readings values back bounds at last weight inside less is done i h = elim (cases_eq i at) [
  | inl e ↦
      let set = get_or-set_same bounds at (slice_index values at + slice_index back (last - at) - weight) 0 inside in
      rw e (omega (arith, set, less, is))
  | inr ne ↦
      let set = get_or-set_other bounds at i (slice_index values at + slice_index back (last - at) - weight) 0 ne in
      omega (arith, set, done i (omega arith))
]
