-- For each reading there is a story through it that is worth as much as is said.
use Rattle.std.proofs.Common.{◌≡◌, inl, inr, ℕ, zero, suc, ◌+◌, ◌<◌, ◌≤◌, List, [], ◌∷◌, ◌++◌, length, refl, arith}
use Rattle.std.proofs.Common.{sym, ap}
use Rattle.std.proofs.Common.{slice_index, subst, append_assoc}
use Rattle.std.specs.Prelude.{Option, Some, None}
use Rattle.vbi_story.specs.declared.reading.NumberReading.{NumberReading}
use Rattle.vbi_story.specs.Story.{reading_at, IsAmong, Each, Ascends, price, weight, IsStory}
use Rattle.vbi_story.specs.Working.{place_at, AreJudged}
use Rattle.vbi_story.specs.Rivals.{AreJudgedBack}
use Rattle.vbi_story.proofs.Splices.{weight_append, price_split, each_append, ascends_join}

-- a story that ends at a reading and is worth so much
pub record Ends (readings : List NumberReading) (worth i : ℕ) : Type 0 where
  before : List NumberReading
  among : Each (IsAmong readings) before
  ascends : Ascends (before ++ reading_at readings i ∷ [])
  reaches : price (before ++ reading_at readings i ∷ []) + worth ≤ weight before + (reading_at readings i).weight

module _ (readings : List NumberReading) (values : List ℕ) (origins : List ℕ)
    (judged : AreJudged readings values origins (length readings)) where
  ends_by : (fuel i : ℕ) → i < fuel → i < length readings → (o : Option ℕ) → place_at origins i ≡ o
      → Ends readings (slice_index values i) i
  ends_by zero i less inside o is = absurd (omega arith)
  ends_by (suc fuel) i less inside None is = record {
    before = [];
    among = tt;
    ascends = (tt, tt);
    reaches = omega (arith, judged.begun i inside is);
  }
  ends_by (suc fuel) i less inside (Some k) is =
      let came = judged.came k i inside is in
      let in_k : k < length readings = omega (arith, came.0) in
      let first = ends_by fuel k (omega (arith, came.0)) in_k (place_at origins k) refl in
      let here = reading_at readings i in
      let there = reading_at readings k in
      let same : (first.before ++ there ∷ []) ++ here ∷ [] ≡ first.before ++ there ∷ here ∷ []
      = append_assoc first.before (there ∷ []) (here ∷ []) in
      record {
        before = first.before ++ there ∷ [];
        among = each_append (IsAmong readings) first.before (there ∷ []) first.among ((k, in_k, refl), tt);
        ascends = subst Ascends (sym same)
            (ascends_join first.before there (here ∷ []) first.ascends (came.1, (tt, tt)));
        reaches = omega (
          arith,
          ap price same,
          price_split first.before there (here ∷ []),
          first.reaches,
          came.2,
          weight_append first.before (there ∷ []),
        );
      }

  pub ends_at : (i : ℕ) → i < length readings → Ends readings (slice_index values i) i
  ends_at i inside = ends_by (suc i) i (omega arith) inside (place_at origins i) refl

-- a story that begins at a reading and is worth so much
pub record Begins (readings : List NumberReading) (worth i : ℕ) : Type 0 where
  after : List NumberReading
  among : Each (IsAmong readings) after
  ascends : Ascends (reading_at readings i ∷ after)
  reaches : price (reading_at readings i ∷ after) + worth ≤ weight (reading_at readings i ∷ after)

module _ (readings : List NumberReading) (back : ℕ → ℕ) (judged : AreJudgedBack readings back) where
  begins_by : (fuel i : ℕ) → length readings ≤ i + fuel → i < length readings → Begins readings (back i) i
  begins_by zero i most inside = absurd (omega arith)
  begins_by (suc fuel) i most inside = elim (judged.goes_on i inside) [
    | inl ended ↦ record {
      after = [];
      among = tt;
      ascends = (tt, tt);
      reaches = omega (arith, ended);
    }
    | inr w ↦ let rest = begins_by fuel w.0 (omega (arith, w.1)) w.2 in record {
      after = reading_at readings w.0 ∷ rest.after;
      among = ((w.0, w.2, refl), rest.among);
      ascends = (w.3, rest.ascends);
      reaches = omega (arith, w.4, rest.reaches);
    }
  ]

  pub begins_at : (i : ℕ) → i < length readings → Begins readings (back i) i
  begins_at i inside = begins_by (length readings) i (omega arith) inside

-- both together
pub through_reached : (readings : List NumberReading) (values : List ℕ) (origins : List ℕ) (back : ℕ → ℕ)
    → AreJudged readings values origins (length readings) → AreJudgedBack readings back
    → (i bound : ℕ) → i < length readings
    → bound + (reading_at readings i).weight ≡ slice_index values i + back i
    → (before after : List NumberReading) × IsStory readings (before ++ reading_at readings i ∷ after)
    × (price (before ++ reading_at readings i ∷ after) + bound ≤ weight (before ++ reading_at readings i ∷ after))
through_reached readings values origins back judged judged_back i bound inside is =
    let first = ends_at readings values origins judged i inside in
    let rest = begins_at readings back judged_back i inside in
    let here = reading_at readings i in (
      first.before,
      rest.after,
      record {
        among = each_append (IsAmong readings) first.before (here ∷ rest.after) first.among
            ((i, inside, refl), rest.among);
        ascends = ascends_join first.before here rest.after first.ascends rest.ascends;
      },
      omega (
        arith,
        first.reaches,
        rest.reaches,
        price_split first.before here rest.after,
        weight_append first.before (here ∷ rest.after),
      ),
    )
