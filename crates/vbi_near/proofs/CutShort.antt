-- How far lines are from the rows on which a word begins later or ends earlier.
-- shorter_distance, Chosen and HalvedRows stand on it.
use Rattle.std.proofs.Common.{◌≡◌, ℕ, suc, zero, ◌≤◌, ◌+◌, ◌-◌, ◌*◌, ◌/◌, ◌^◌, List, ◌++◌, Bool, false, not, nat_eq}
use Rattle.std.proofs.Common.{◌%◌, length, min, ◌⊎◌, inl, inr, refl, arith, ap, sym, ◌∙◌, shr-shr}
use Rattle.std.proofs.Math.ListN.{replicate}
use Rattle.vbi_near.proofs.Common.{System, width_of, lowest_bits, halves_of, Found, column_of, half_length, word_length}
use Rattle.vbi_near.proofs.Common.{Shades, distance_from, AreBoth, half_cost, cell_cost, bits_cost, place_cost}
use Rattle.vbi_near.proofs.Common.{begun_later, ended_earlier, row_of_halves, IsCutShort, bit_in_cell, IsShorterFound}
use Rattle.vbi_near.proofs.Common.{IsLeastRow, halves_cost}
use Rattle.vbi_near.proofs.Costs.{row-cost, word-row, drawn-with, row-long}
use Rattle.vbi_near.proofs.{BestBits.min_is, Columns.column-first, Columns.column-next}

-- ---- half cells

-- the half cells of a word that is cut short are as many as the word has
cut-long : (w : ℕ) → (length (begun_later w 2) ≡ 48) × (length (begun_later w 4) ≡ 48)
    × (length (ended_earlier w 2) ≡ 48) × (length (ended_earlier w 4) ≡ 48)
unfolding lowest_bits
cut-long w = (refl, refl, refl, refl)

-- what a word's half cells cost if its first or last cells are black, beside what they cost as they are
module _ (cost : ℕ → Bool → ℕ) (w : ℕ) where
  -- what a cell costs by the word's bit, and black
  abbrev drawn : ℕ → ℕ
  drawn cell = cost (2 * cell) (not (bit_in_cell w cell)) + cost (suc (2 * cell)) (bit_in_cell w cell)

  abbrev black : ℕ → ℕ
  black cell = cost (2 * cell) false + cost (suc (2 * cell)) false

  later-cost : (halves_cost cost 0 (begun_later w 2) + drawn 0 ≡ halves_cost cost 0 (halves_of w) + black 0)
      × (halves_cost cost 0 (begun_later w 4) + drawn 0 + drawn 1
      ≡ halves_cost cost 0 (halves_of w) + black 0 + black 1)
  unfolding halves_cost lowest_bits
  later-cost = (omega arith, omega arith)

  earlier-cost : (halves_cost cost 0 (ended_earlier w 2) + drawn 23 ≡ halves_cost cost 0 (halves_of w) + black 23)
      × (halves_cost cost 0 (ended_earlier w 4) + drawn 23 + drawn 22
      ≡ halves_cost cost 0 (halves_of w) + black 23 + black 22)
  unfolding halves_cost lowest_bits
  earlier-cost = (omega arith, omega arith)

-- the least of four numbers is one of them
one_of_four : (a b c d least : ℕ) → least ≡ min (min a b) (min c d)
    → (least ≡ a) ⊎ (least ≡ b) ⊎ (least ≡ c) ⊎ (least ≡ d)
one_of_four a b c d least e = grind (arith, min_is)

-- ---- how wide

pub row-wide : (system : System) (start : ℕ) (halves levels : List Bool) → start + word_length system ≤ width_of system
    → length halves ≡ 48 → levels ≡ row_of_halves system start halves → length levels ≡ width_of system
unfolding row_of_halves
row-wide system start halves levels room many e =
    let tail : List Bool = replicate (width_of system - (start + word_length system)) false in
    ap length e
    ∙ ap (λ (drawn : List Bool). length (replicate start false ++ (drawn ++ tail))) (drawn-with system 0 halves)
    ∙ row-long (column_of system start) (half_length system) (column-next system start) (width_of system) start
    (start + word_length system) halves (sym (column-first system start)) (ap (column_of system start) (sym many)) room

pub length-shorter : (system : System) (w start : ℕ) (levels : List Bool) → start + word_length system ≤ width_of system
    → IsCutShort system w start levels → length levels ≡ width_of system
length-shorter system w start levels room (inl e) = row-wide system start (begun_later w 2) levels room (cut-long w).0 e
length-shorter system w start levels room (inr (inl e)) =
    row-wide system start (begun_later w 4) levels room (cut-long w).1 e
length-shorter system w start levels room (inr (inr (inl e))) =
    row-wide system start (ended_earlier w 2) levels room (cut-long w).2 e
length-shorter system w start levels room (inr (inr (inr e))) =
    row-wide system start (ended_earlier w 4) levels room (cut-long w).3 e

-- ---- by sums

-- the upper bits of a number cost no more than all
bits-above : (cost : ℕ → Bool → ℕ) (m n w : ℕ) → bits_cost cost m (w / 2 ^ n) ≤ bits_cost cost (m + n) w
unfolding bits_cost
bits-above cost m zero w = grind arith
bits-above cost m (suc n) w =
    let q : w / 2 / 2 ^ n ≡ w / 2 ^ suc n = shr-shr w 1 n ∙ ap (λ (k : ℕ). w / 2 ^ k) (omega arith) in
    let e : suc (m + n) ≡ m + suc n = omega arith in
    omega (
      arith,
      bits-above cost m n (w / 2),
      ap (bits_cost cost m) q,
      ap (λ (k : ℕ). bits_cost cost k w) e,
    )

pub first_within : (sums : Shades) (system : System) (start w distance : ℕ)
    → place_cost sums system start w ≡ distance
    → cell_cost sums system start 0 (bit_in_cell w 0) + cell_cost sums system start 1 (bit_in_cell w 1) ≤ distance
unfolding place_cost bits_cost
first_within sums system start w distance exact = grind (arith, shr-shr, bits-above, nat_eq)

pub last_within : (sums : Shades) (system : System) (start w distance : ℕ)
    → place_cost sums system start w ≡ distance
    → cell_cost sums system start 22 (bit_in_cell w 22) + cell_cost sums system start 23 (bit_in_cell w 23) ≤ distance
unfolding place_cost bits_cost
last_within sums system start w distance exact =
    let cost : ℕ → Bool → ℕ = cell_cost sums system start in
    let q : w / 2 ^ 0 ≡ w = omega arith in
    let whole : bits_cost cost 24 w ≡ bits_cost cost 22 (w / 2 / 2) + cost 22 (nat_eq (w / 2 % 2) 1)
    + cost 23 (nat_eq (w % 2) 1) = refl in
    omega (arith, exact, whole, ap (λ (v : ℕ). cost 23 (nat_eq (v % 2) 1)) q)

-- ---- rows

-- what is found by sums is the least distance of the rows on which a word is cut short
pub least_shorter : (costs sums : Shades) (system : System) → AreBoth costs sums (width_of system) → (found : Found)
    → found.start + word_length system ≤ width_of system
    → place_cost sums system found.start found.word ≡ found.distance → (shorter : ℕ)
    → IsShorterFound sums system found shorter
    → IsLeastRow (IsCutShort system found.word found.start) (distance_from costs 0) shorter
least_shorter costs sums system both found room exact shorter (first, second, last, other, a, b, c, d, e) = record {
  least = least;
  one = one (one_of_four first second last other shorter e);
}
  where
    rows : (distance_from costs 0 (row_of_halves system found.start (begun_later found.word 2)) ≡ first)
        × (distance_from costs 0 (row_of_halves system found.start (begun_later found.word 4)) ≡ second)
        × (distance_from costs 0 (row_of_halves system found.start (ended_earlier found.word 2)) ≡ last)
        × (distance_from costs 0 (row_of_halves system found.start (ended_earlier found.word 4)) ≡ other)
    rows =
        let long = cut-long found.word in
        let whole = word-row sums system found.start found.word in
        let later = later-cost (half_cost sums system found.start) found.word in
        let earlier = earlier-cost (half_cost sums system found.start) found.word in
        let cost = row-cost costs sums system both found.start room in (
          omega (arith, cost (begun_later found.word 2) long.0),
          omega (arith, cost (begun_later found.word 4) long.1),
          omega (arith, cost (ended_earlier found.word 2) long.2),
          omega (arith, cost (ended_earlier found.word 4) long.3),
        )

    least : (levels : List Bool) → IsCutShort system found.word found.start levels
        → shorter ≤ distance_from costs 0 levels
    least levels (inl l) = omega (arith, e, ap (distance_from costs 0) l, rows)
    least levels (inr (inl l)) = omega (arith, e, ap (distance_from costs 0) l, rows)
    least levels (inr (inr (inl l))) = omega (arith, e, ap (distance_from costs 0) l, rows)
    least levels (inr (inr (inr l))) = omega (arith, e, ap (distance_from costs 0) l, rows)

    one : (shorter ≡ first) ⊎ (shorter ≡ second) ⊎ (shorter ≡ last) ⊎ (shorter ≡ other)
        → (levels : List Bool) × IsCutShort system found.word found.start levels
        × (distance_from costs 0 levels ≡ shorter)
    one (inl s) = (_, inl refl, rows.0 ∙ sym s)
    one (inr (inl s)) = (_, inr (inl refl), rows.1 ∙ sym s)
    one (inr (inr (inl s))) = (_, inr (inr (inl refl)), rows.2 ∙ sym s)
    one (inr (inr (inr s))) = (_, inr (inr (inr refl)), rows.3 ∙ sym s)
