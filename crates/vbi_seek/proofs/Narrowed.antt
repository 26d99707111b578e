-- By what a number is sought between other fields than before, if both ends have told a number and the middle none.
use Rattle.std.proofs.Common.{◌≡◌, ◌∙◌, ℕ, ◌+◌, ◌-◌, ◌*◌, ◌/◌, ◌≤◌, List, sym, subst, ap, ap₂, inl, inr}
use Rattle.std.specs.Prelude.{◌⊎◌, Option, Some}
use Rattle.vbi_side.specs.declared.sighting.Sightings.{Sightings}
use Rattle.vbi_seek.specs.declared.narrowing.Between.{Between}
use Rattle.vbi_seek.specs.declared.narrowing.Spot.{Spot}
use Rattle.vbi_seek.specs.declared.narrowing.Told.{Told}
use Rattle.vbi_seek.specs.declared.search.Search.{Search}
use Rattle.vbi_seek.specs.Searches.{IsNarrowedAt, IsNarrowedByOne, IsNarrowedNear, IsNarrowedBetween, IsGuessed}
use Rattle.vbi_seek.specs.Searches.{IsSilent, AreSeenFrom}
use Rattle.vbi_seek.specs.Searches.{IsMoreLikelyAfter, middle_in, later_in, earlier_in}
use Rattle.vbi_seek.specs.Targets.{most_of}
use Rattle.vbi_seek.specs.NumberSearch.{probe_most, probe_longest}
use Rattle.vbi_seek.specs.NumberSpots.{IsShownBetween}

-- a spot of fields that stayed as they were
pub near_from : (search : Search) (spot : Spot) (told : Told) (old kept new : Between) → kept ≡ old
    → IsNarrowedNear search spot told kept new → IsNarrowedNear search spot told old new
near_from search spot told old kept new same near =
    subst (λ (b : Between). IsNarrowedNear search spot told b new) same near

module _ (search : Search) (told : Told) (spare : ℕ) (seen : List Sightings) (old : Between) where
  pub by_one : (new : Between) → IsNarrowedByOne search (middle_in old) told old new
      → IsNarrowedBetween search told spare seen old new
  by_one new is = record { shown = λ i n shown. is; by = inl is }

  module _ (none : (i n : ℕ) → IsShownBetween seen told.lower told.higher i n → ⊥) where
    pub by_later : (new : Between) → IsNarrowedNear search (later_in old) told old new
        → IsNarrowedBetween search told spare seen old new
    by_later new is = record { shown = λ i n shown. absurd (none i n shown); by = inr (inl is) }

    pub by_earlier : (new : Between) → IsNarrowedNear search (earlier_in old) told old new
        → IsNarrowedBetween search told spare seen old new
    by_earlier new is = record { shown = λ i n shown. absurd (none i n shown); by = inr (inr (inl is)) }

    module _ (later : most_of search.kind ≤ spare → IsSilent search (later_in old).field)
        (earlier : (probe_longest - probe_most) + 2 * most_of search.kind ≤ spare
        → IsSilent search (earlier_in old).field)
        (kept : Between) (same : kept ≡ old) where
      guess : (new : Between) → IsGuessed search told spare old new → IsNarrowedBetween search told spare seen old new
      guess new is = record { shown = λ i n shown. absurd (none i n shown); by = inr (inr (inr is)) }

      pub guessed_after : IsMoreLikelyAfter search.sought (middle_in old) told kept
          → IsNarrowedBetween search told spare seen old (record kept { low = middle_in old })
      guessed_after likely = guess (record kept { low = middle_in old }) (record {
        later = later;
        earlier = earlier;
        half = inl (
          subst (λ (b : Between). IsMoreLikelyAfter search.sought (middle_in old) told b) same likely,
          ap (λ (b : Between). record b { low = middle_in old }) same,
        );
      })

      pub guessed_before : (IsMoreLikelyAfter search.sought (middle_in old) told kept → ⊥)
          → IsNarrowedBetween search told spare seen old (record kept { high = middle_in old })
      guessed_before unlikely = guess (record kept { high = middle_in old }) (record {
        later = later;
        earlier = earlier;
        half = inr (
          subst (λ (b : Between). IsMoreLikelyAfter search.sought (middle_in old) told b → ⊥) same unlikely,
          ap (λ (b : Between). record b { high = middle_in old }) same,
        );
      })

-- ---- both ends

some_same : (o : Option ℕ) (m n : ℕ) → o ≡ Some m → o ≡ Some n → m ≡ n
some_same o m n one other = cc

-- with the numbers that both ends have told
pub by_both : (search : Search) (told given : Told) (spare : ℕ) (seen : List Sightings) (old kept new : Between)
    → kept ≡ old → kept.lower ≡ Some given.lower → kept.higher ≡ Some given.higher
    → old.lower ≡ Some told.lower → old.higher ≡ Some told.higher
    → AreSeenFrom search (middle_in old) seen → IsNarrowedBetween search given spare seen kept new
    → IsNarrowedAt search (record { field = middle_in old; more = (old.high - old.low) / 8 }) old new
    ⊎ ((spare : ℕ) × (seen : List Sightings) × AreSeenFrom search (middle_in old) seen
    × IsNarrowedBetween search told spare seen old new)
by_both search told given spare seen old kept new same low high lower higher are is =
    let first = some_same old.lower given.lower told.lower (sym (ap (λ (b : Between). b.lower) same) ∙ low) lower in
    let second = some_same old.higher given.higher told.higher (sym (ap (λ (b : Between). b.higher) same) ∙ high)
    higher in
    let numbers : given ≡ told = ap₂ (λ (a b : ℕ). let one : Told = record { lower = a; higher = b } in one) first
    second in
    inr (
      spare,
      seen,
      are,
      subst (λ (t : Told). IsNarrowedBetween search t spare seen old new) numbers
          (subst (λ (b : Between). IsNarrowedBetween search given spare seen b new) same is),
    )
