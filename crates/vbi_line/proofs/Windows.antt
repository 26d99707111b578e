-- The levels of 64 columns in one word.
use Rattle.vbi_line.proofs.Common.{◌≡◌, ℕ, ◌+◌, ◌-◌, ◌*◌, ◌/◌, ◌%◌, ◌^◌, ◌<◌, ◌≤◌, false, max, nat_eq, slice_index, sym}
use Rattle.vbi_line.proofs.Common.{ap, ◌∙◌, arith, add-zero, bit_or, bit_at, max-zero, zero-max, pow_pos, cases_lt}
use Rattle.vbi_line.proofs.Common.{bit_at-zero, bit_at_or, bit_at_above, bit_at_cat_low, bit_at_cat_high, level_at}
use Rattle.vbi_line.proofs.Common.{level_of_bit, packed_level, unpacked, List}
use Rattle.std.proofs.lemmas.Nat.{div-add-mod'}
use Rattle.std.proofs.lemmas.List.{get_or_past}
use Rattle.vbi_line.proofs.Packs.{bit_after, length-unpacked, level_unpacked}

-- the level of any column for which there is a bit; past the width it is low
pub level_packed : (words : List ℕ) (width column : ℕ) → column < 1152
    → ((k : ℕ) → width ≤ k → k < 1152 → packed_level words k ≡ false)
    → level_at (unpacked words width) column ≡ packed_level words column
level_packed words width column room rest = grind (arith, cases_lt, level_unpacked, get_or_past, length-unpacked)

-- a bit of a word that was cut to 64 bits
bit_cut : (n i : ℕ) → i < 64 → bit_at (n % 2 ^ 64) i ≡ bit_at n i
bit_cut n i l =
    sym (bit_at_cat_low (n / 2 ^ 64) 64 (n % 2 ^ 64) i l) ∙ ap (λ (x : ℕ). bit_at x i) (div-add-mod' n (2 ^ 64))

-- a bit of a word that was moved up
bit_moved_low : (n k i : ℕ) → i < k → i < 64 → bit_at (n * 2 ^ k % 2 ^ 64) i ≡ 0
bit_moved_low n k i l within =
    bit_cut (n * 2 ^ k) i within ∙ ap (λ (x : ℕ). bit_at x i) (sym (add-zero (n * 2 ^ k)))
    ∙ bit_at_cat_low n k 0 i l ∙ bit_at-zero i

bit_moved_high : (n k i : ℕ) → k ≤ i → i < 64 → bit_at (n * 2 ^ k % 2 ^ 64) i ≡ bit_at n (i - k)
bit_moved_high n k i l within =
    bit_cut (n * 2 ^ k) i within ∙ ap (λ (x : ℕ). bit_at x i) (sym (add-zero (n * 2 ^ k)))
    ∙ bit_at_cat_high n k 0 i (pow_pos k) l

-- the bits of one word from a place on, and those of the next after them
abbrev pub two_words : ℕ → ℕ → ℕ → ℕ
two_words here next place = bit_or (here / 2 ^ place) (next * 2 ^ (64 - place) % 2 ^ 64)

module _ (here next place : ℕ) (small : here < 2 ^ 64) (within : place < 64) where
  pub in_first : (i : ℕ) → place + i < 64 → level_of_bit (two_words here next place) i ≡ level_of_bit here (place + i)
  in_first i l = grind (arith, bit_moved_low, bit_at_or, max-zero, bit_after)

  pub in_second : (i : ℕ) → 64 ≤ place + i → i < 64
      → level_of_bit (two_words here next place) i ≡ level_of_bit next (place + i - 64)
  in_second i past l =
      let moved : ℕ = next * 2 ^ (64 - place) % 2 ^ 64 in
      let none : bit_at (here / 2 ^ place) i ≡ 0
      = bit_after here place i ∙ bit_at_above here 64 (place + i) small past in
      let at : i - (64 - place) ≡ place + i - 64 = omega arith in
      ap (λ (x : ℕ). nat_eq x 1) (bit_at_or (here / 2 ^ place) moved i
      ∙ ap (λ (x : ℕ). max x (bit_at moved i)) none ∙ zero-max (bit_at moved i)
      ∙ bit_moved_high next (64 - place) i (omega arith) l ∙ ap (bit_at next) at)

module _ (words : List ℕ) (width column : ℕ)
    (rest : (k : ℕ) → width ≤ k → k < 1152 → packed_level words k ≡ false) where
  -- where the column is a word's first
  pub window_one : column ≤ 1088 → column % 64 ≡ 0 → (i : ℕ) → i < 64
      → level_of_bit (slice_index words (column / 64) / 2 ^ (column % 64)) i
      ≡ level_at (unpacked words width) (column + i)
  window_one room first i l = grind (arith, slice_index, bit_after, level_packed)

  -- where it isn't
  pub window_two : column ≤ 1088 → (column % 64 ≡ 0 → ⊥) → slice_index words (column / 64) < 2 ^ 64 → (i : ℕ) → i < 64
      → level_of_bit
      (two_words (slice_index words (column / 64)) (slice_index words (column / 64 + 1)) (column % 64)) i
      ≡ level_at (unpacked words width) (column + i)
  window_two room later small i l = grind (arith, slice_index, level_packed, cases_lt, in_first, in_second)
