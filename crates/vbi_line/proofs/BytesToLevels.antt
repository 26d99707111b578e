-- The bits of samples that lie in a row's bytes, and the levels that they are.
use Rattle.vbi_line.proofs.Common.{◌≡◌, ℕ, ◌+◌, ◌-◌, ◌*◌, ◌/◌, ◌%◌, ◌^◌, ◌<◌, ◌≤◌, inl, inr, Bool, false, nat_lt, ◌++◌}
use Rattle.vbi_line.proofs.Common.{length, get_or, ap, sym, ◌∙◌, arith, lit<, mod-eq_of_lt, mul-lt-mul_of_pos_right}
use Rattle.vbi_line.proofs.Common.{pow-le-pow_right, cases_lt, get_or-map, get_or-map-range_with_len}
use Rattle.vbi_line.proofs.Common.{length-map-range_with_len, pow-add, pow_pos, bit_at_above, Slicing, is_high_of}
use Rattle.vbi_line.proofs.Common.{level_at, sample_at, level_of_bit, levels_in, TellsAbove, List, length-append}
use Rattle.std.proofs.Math.Nat.{div-lt_iff_lt-mul}
use Rattle.std.proofs.lemmas.Nat.{or_lt}
use Rattle.vbi_line.proofs.Packs.{bit_after, joined, joined_below, joined_inside}
use Rattle.vbi_line.proofs.Slicing.{Sliced, above, sliced_more}

-- ---- more bits after those of the first samples

module _ (word bits place count : ℕ) (fits : place + count ≤ 64) (small : word < 2 ^ place)
    (few : bits < 2 ^ count) where
  pub joined-lt : joined word bits place < 2 ^ (place + count)
  joined-lt =
      let moved : bits * 2 ^ place < 2 ^ count * 2 ^ place = mul-lt-mul_of_pos_right few (pow_pos place) in
      let product : 2 ^ (count + place) ≡ 2 ^ count * 2 ^ place = pow-add 2 count place in
      let order : count + place ≡ place + count = omega arith in
      let within : place + count ≤ 64 = omega arith in
      let top : 2 ^ (place + count) ≤ 2 ^ 64 = pow-le-pow_right (lit< tt) within in
      let end : 2 ^ (count + place) ≡ 2 ^ (place + count) = ap (λ (n : ℕ). 2 ^ n) order in
      let below : bits * 2 ^ place < 2 ^ (place + count) = omega (arith, moved, product, end) in
      let whole : bits * 2 ^ place % 2 ^ 64 ≡ bits * 2 ^ place = mod-eq_of_lt (omega (arith, below, top)) in
      let longer : place ≤ place + count = omega arith in
      let first : 2 ^ place ≤ 2 ^ (place + count) = pow-le-pow_right (lit< tt) longer in
      or_lt (place + count) word (bits * 2 ^ place % 2 ^ 64) (omega (arith, small, first)) (omega (arith, whole, below))

  pub joined_tells : (low : ℕ) (bytes : List ℕ) (column : ℕ) → TellsAbove low bytes column place word
      → TellsAbove low bytes (column + place) count bits
      → TellsAbove low bytes column (place + count) (joined word bits place)
  joined_tells low bytes column tells more i l = elim (cases_lt i place) [
    | inl before ↦ joined_below word bits place count fits few i before ∙ tells i before
    | inr behind ↦
        let j : ℕ = i - place in
        let at : i ≡ place + j = omega arith in
        let none = bit_at_above word place (place + j) small (omega arith) in
        let there : (column + place) + j ≡ column + i = omega arith in
        ap (level_of_bit (joined word bits place)) at ∙ joined_inside word bits place count fits few j none
        ∙ more j (omega arith) ∙ ap (λ (k : ℕ). nat_lt low (sample_at bytes k)) there
  ]

-- sixteen bits tell it of sixteen samples
pub block_tells : (low : ℕ) (bytes : List ℕ) (column : ℕ) (samples : List ℕ) (bits : ℕ) → length samples ≡ 16
    → ((k : ℕ) → k < 16 → get_or samples k 0 ≡ sample_at bytes (column + k)) → levels_in 16 bits ≡ above low samples
    → TellsAbove low bytes column 16 bits
block_tells low bytes column samples bits long each are i l =
    let bit : level_at (levels_in 16 bits) i ≡ level_of_bit bits i
    = get_or-map-range_with_len (level_of_bit bits) 0 16 i i false l (omega arith) in
    sym bit ∙ ap (λ (t : List Bool). level_at t i) are
    ∙ get_or-map (λ sample. nat_lt low sample) samples i 0 false (omega (arith, long))
    ∙ ap (λ (sample : ℕ). nat_lt low sample) (each i l)

-- the last bits of a block that ends with its samples
pub last_tells : (low : ℕ) (bytes : List ℕ) (column count bits : ℕ) → 16 ≤ column + count → count < 16
    → TellsAbove low bytes (column + count - 16) 16 bits → TellsAbove low bytes column count (bits / 2 ^ (16 - count))
last_tells low bytes column count bits block few tells i l = grind (arith, bit_after)

-- no bit is left above them
pub last-lt : (count bits : ℕ) → count < 16 → bits < 2 ^ 16 → bits / 2 ^ (16 - count) < 2 ^ count
last-lt count bits few small =
    let skipped : ℕ = 16 - count in
    let whole : count + skipped ≡ 16 = omega arith in
    let product : 2 ^ count * 2 ^ skipped ≡ 2 ^ 16 = sym (pow-add 2 count skipped) ∙ ap (λ (n : ℕ). 2 ^ n) whole in
    (div-lt_iff_lt-mul (pow_pos skipped)).1 (omega (arith, product))

-- ---- levels of a word after those of the samples before a column

module _ (levels : List Bool) (column count word : ℕ) (here : length levels ≡ column) where
  pub length_with_word : length (levels ++ levels_in count word) ≡ column + count
  length_with_word = grind (arith, length-map-range_with_len, length-append)

  pub sliced_with_word : (slicing : Slicing) (bytes : List ℕ) (low : ℕ) → Sliced slicing bytes levels
      → ((sample : ℕ) → is_high_of slicing sample ≡ nat_lt low sample) → TellsAbove low bytes column count word
      → Sliced slicing bytes (levels ++ levels_in count word)
  sliced_with_word slicing bytes low sliced test tells =
      grind (arith, sliced_more, length-map-range_with_len, get_or-map-range_with_len)
