-- The least distance at some rates and starts, from one to all.
-- stretched_distance, distance_by and SomeSeen stand on it.
use Rattle.std.proofs.Common.{◌≡◌, ℕ, suc, ◌≤◌, ◌<◌, ◌+◌, List, length, min, arith, ap, sym, ◌∙◌, ◌⊎◌, inl, inr}
use Rattle.std.proofs.lemmas.Bool.{cases_lt}
use Rattle.vbi_near.proofs.Common.{System, width_of, Slicing, halves_of, drawn_as, Samples, most_of, distance_of}
use Rattle.vbi_near.proofs.Common.{Shades, distance_from, IsPile, stretched_offset, stretched_half, stretched_length}
use Rattle.vbi_near.proofs.Common.{stretched_picture, stretched_row_cost, IsLeastAt, IsStretched, IsAtRate}
use Rattle.vbi_near.proofs.Common.{IsStartBefore, IsRateBefore, AreBoth}
use Rattle.vbi_near.proofs.Costs.{many-halves, row-far, row-long}
use Rattle.vbi_near.proofs.{BestBits.min_is, Piles.levels-same, Stretches.offset-first, Stretches.offset-next}

-- the least at the same places
pub same-least : (A C : ℕ → ℕ → Type 0) (far : ℕ → ℕ → ℕ) (a : ℕ) → ((r s : ℕ) → C r s → A r s)
    → ((r s : ℕ) → A r s → C r s) → IsLeastAt A far a → IsLeastAt C far a
same-least A C far a to from is = grind arith

-- the least at two kinds of places
min-least : (A B C : ℕ → ℕ → Type 0) (far : ℕ → ℕ → ℕ) (a b : ℕ) → ((r s : ℕ) → C r s → A r s ⊎ B r s)
    → ((r s : ℕ) → A r s → C r s) → ((r s : ℕ) → B r s → C r s) → IsLeastAt A far a → IsLeastAt B far b
    → IsLeastAt C far (min a b)
min-least A B C far a b split from_a from_b is are = grind (arith, min_is)

-- ---- starts

abbrev IsAlone : ℕ → ℕ → ℕ → ℕ → Type 0
IsAlone at start r s = (r ≡ at) × (s ≡ start)

alone-least : (far : ℕ → ℕ → ℕ) (at start distance : ℕ) → distance ≡ far at start
    → IsLeastAt (IsAlone at start) far distance
alone-least far at start distance e = grind arith

pub start-more : (far : ℕ → ℕ → ℕ) (at start a b : ℕ) → IsLeastAt (IsStartBefore at start) far a → b ≡ far at start
    → IsLeastAt (IsStartBefore at (start + 1)) far (min a b)
start-more far at start a b is e =
    min-least (IsStartBefore at start) (IsAlone at start) (IsStartBefore at (start + 1)) far a b split
    (λ r s there. (there.0, omega arith)) (λ r s there. (there.0, omega arith)) is (alone-least far at start b e)
  where
    go : (r s : ℕ) → r ≡ at → s < start + 1 → (s < start) ⊎ (start ≤ s)
        → IsStartBefore at start r s ⊎ IsAlone at start r s
    go r s same less (inl l) = inl (same, l)
    go r s same less (inr le) = inr (same, omega arith)

    split : (r s : ℕ) → IsStartBefore at (start + 1) r s → IsStartBefore at start r s ⊎ IsAlone at start r s
    split r s there = go r s there.0 there.1 (cases_lt s start)

-- all starts from which a word of this rate fits
pub all-starts : (system : System) (far : ℕ → ℕ → ℕ) (at end distance : ℕ)
    → end + stretched_length system at ≡ width_of system + 1 → IsLeastAt (IsStartBefore at end) far distance
    → IsLeastAt (IsAtRate system at) far distance
all-starts system far at end distance e is = grind (arith, same-least)

-- ---- rates

pub first_rate : (system : System) (far : ℕ → ℕ → ℕ) (distance : ℕ) → IsLeastAt (IsAtRate system 98) far distance
    → IsLeastAt (IsRateBefore system 99) far distance
first_rate system far distance is = grind (arith, same-least)

pub rate-more : (system : System) (far : ℕ → ℕ → ℕ) (at a b : ℕ) → 98 ≤ at → IsLeastAt (IsRateBefore system at) far a
    → IsLeastAt (IsAtRate system at) far b → IsLeastAt (IsRateBefore system (at + 1)) far (min a b)
rate-more system far at a b low is are =
    min-least (IsRateBefore system at) (IsAtRate system at) (IsRateBefore system (at + 1)) far a b split
    (λ r s there. (there.0, omega arith, there.2)) (λ r s there. (omega arith, omega arith, there.1)) is are
  where
    go : (r s : ℕ) → IsRateBefore system (at + 1) r s → (r < at) ⊎ (at ≤ r)
        → IsRateBefore system at r s ⊎ IsAtRate system at r s
    go r s there (inl l) = inl (there.0, l, there.2)
    go r s there (inr le) = inr (omega (arith, there.1), there.2)

    split : (r s : ℕ) → IsRateBefore system (at + 1) r s → IsRateBefore system at r s ⊎ IsAtRate system at r s
    split r s there = go r s there (cases_lt r at)

-- ---- rows

module _ (system : System) (rate start w : ℕ) (fits : start + stretched_length system rate ≤ width_of system) where
  begins_at : ℕ → ℕ
  begins_at j = start + stretched_offset system rate j

  next : (j : ℕ) → begins_at j + stretched_half system rate j ≡ begins_at (suc j)
  unfolding begins_at
  next j = omega (arith, offset-next system rate j)

  first : start ≡ begins_at 0
  unfolding begins_at
  first = omega (arith, offset-first system rate)

  last : start + stretched_length system rate ≡ begins_at (length (halves_of w))
  unfolding begins_at
  last = ap (λ (j : ℕ). start + stretched_offset system rate j) (sym (many-halves w))

  picture-long : length (stretched_picture system rate w start) ≡ width_of system
  unfolding stretched_picture
  picture-long = row-long begins_at (stretched_half system rate) next (width_of system) start
      (start + stretched_length system rate) (halves_of w) first last fits

  picture-far : (costs sums : Shades) → AreBoth costs sums (width_of system)
      → distance_from costs 0 (stretched_picture system rate w start) ≡ stretched_row_cost sums system w rate start
  unfolding stretched_picture begins_at
  picture-far costs sums both =
      row-far begins_at (stretched_half system rate) next costs sums (width_of system) both start
      (start + stretched_length system rate) (halves_of w) first last fits

pub stretched-same : (costs sums : Shades) (system : System) → AreBoth costs sums (width_of system)
    → (slicing : Slicing) (lines : List Samples) → IsPile system slicing lines costs → (w distance : ℕ)
    → IsLeastAt (IsRateBefore system 103) (stretched_row_cost sums system w) distance
    → IsStretched system slicing lines w distance
stretched-same costs sums system both slicing lines pile w distance is = record {
  least = λ rate start place. omega (
    arith,
    is.least rate start (place.0, omega (arith, place.1), place.2),
    same rate start place.2,
  );
  one = (
    is.one.0,
    is.one.1,
    (is.one.2.0, omega (arith, is.one.2.1), is.one.2.2),
    sym (same is.one.0 is.one.1 is.one.2.2) ∙ is.one.3,
  );
}
  where
    same : (rate start : ℕ) → start + stretched_length system rate ≤ width_of system
        → stretched_row_cost sums system w rate start
        ≡ distance_of (most_of slicing) lines (drawn_as slicing (stretched_picture system rate w start))
    same rate start fits =
        sym (picture-far system rate start w fits costs sums both)
        ∙ levels-same system slicing lines costs pile (stretched_picture system rate w start)
        (picture-long system rate start w fits)
