-- Runs of equal levels in packed words.
use Rattle.std.proofs.Common.{◌≡◌, ℕ, ◌+◌, ◌-◌, ◌/◌, ◌%◌, ◌^◌, ◌<◌, ◌≤◌, Bool, true, false, cond, List}
use Rattle.std.proofs.Common.{◌⊎◌, inl, inr, length, min, nat_eq, slice_index, sym, ap, ◌∙◌, arith}
use Rattle.std.specs.Int.{bit_at, bit_not, trailing_zeros}
use mir.Syntax.{w64}
use Rattle.std.proofs.Math.Nat.{div-le_self}
use Rattle.std.proofs.lemmas.Bool.{cases_lt}
use Rattle.std.proofs.lemmas.Nat.Bits.{bit_at-lt, bit_at-zero, bit_at_not, bit_at-trailing_zeros, bit_at_above}
use Rattle.vbi_words.specs.Levels.{level_at}
use Rattle.vbi_line.specs.Packing.{level_of_bit, packed_level, unpacked, EqualBits, IsRun}
use Rattle.vbi_line.proofs.Packs.{bit_low, bit_after, length-unpacked, level_unpacked}

-- ---- equal bits of a word

-- the word with its bits set where the level is another
abbrev pub others_of : ℕ → Bool → ℕ
others_of word level = cond level (bit_not w64 word) word

others-lt : (word : ℕ) (level : Bool) → word < 2 ^ 64 → others_of word level < 2 ^ 64
others-lt word true small = omega arith
others-lt word false small = small

equal_bit : (word i : ℕ) (level : Bool) → word < 2 ^ 64 → i < 64 → bit_at (others_of word level) i ≡ 0
    → level_of_bit word i ≡ level
equal_bit word i true small l e =
    let one : bit_at word i ≡ 1 = omega (arith, bit_at_not w64 word i small l, bit_at-lt word i) in
    ap (λ (x : ℕ). nat_eq x 1) one
equal_bit word i false small l e = bit_low word i e

other_bit : (word i : ℕ) (level : Bool) → word < 2 ^ 64 → i < 64 → bit_at (others_of word level) i ≡ 1
    → level_of_bit word i ≡ level → ⊥
other_bit word i true small l e same =
    let none : bit_at word i ≡ 0 = omega (arith, bit_at_not w64 word i small l, bit_at-lt word i) in
    let low : level_of_bit word i ≡ false = bit_low word i none in
    cc
other_bit word i false small l e same = grind arith

module _ (word place : ℕ) (level : Bool) (small : word < 2 ^ 64) (within : place < 64) where
  -- the bits from the place on, set where the level is another
  abbrev others : ℕ
  others = others_of word level / 2 ^ place

  -- how many of them are not set, before the first that is
  abbrev zeros : ℕ
  zeros = trailing_zeros w64 others

  bit_others : (i : ℕ) → bit_at others i ≡ bit_at (others_of word level) (place + i)
  bit_others i = bit_after (others_of word level) place i

  equal_at : (i : ℕ) → place + i < 64 → bit_at others i ≡ 0 → level_of_bit word (place + i) ≡ level
  equal_at i l none = equal_bit word (place + i) level small l (sym (bit_others i) ∙ none)

  pub none_other : others ≡ 0 → EqualBits word place level (64 - place)
  none_other e = record {
    inside = omega arith;
    each = λ i l. equal_at i (omega arith) (ap (λ (x : ℕ). bit_at x i) e ∙ bit_at-zero i);
    ends = λ l. absurd (omega arith);
  }

  pub some_other : (others ≡ 0 → ⊥) → EqualBits word place level zeros
  some_other ne =
      let below : others ≤ others_of word level = div-le_self (others_of word level) (2 ^ place) in
      let lowest = bit_at-trailing_zeros w64 others (omega arith) (omega (arith, others-lt word level small)) in
      let inside : place + zeros < 64 = go (cases_lt (place + zeros) 64) lowest.1 in
      record {
        inside = omega arith;
        each = λ i l. equal_at i (omega arith) (lowest.2 i l);
        ends = λ l. other_bit word (place + zeros) level small inside (sym (bit_others zeros) ∙ lowest.1);
      }
    where
      go : (place + zeros < 64) ⊎ (64 ≤ place + zeros) → bit_at others zeros ≡ 1 → place + zeros < 64
      go (inl l) one = l
      go (inr past) one =
          let none : bit_at others zeros ≡ 0 = bit_others zeros
          ∙ bit_at_above (others_of word level) 64 (place + zeros) (others-lt word level small) past in
          absurd (omega arith)

-- ---- a run over words

-- the columns from this one up to the end have its level, and so have `equal` bits of the end's word from the end on
pub record RunSoFar (words : List ℕ) (width column end : ℕ) (level : Bool) (equal : ℕ) : Type 0 where
  pub long : length words ≡ 18
  pub room : width ≤ 1152
  pub within : column < width
  pub here : level ≡ packed_level words column
  pub from : column ≤ end
  pub before : end < width
  pub each : (i : ℕ) → column + i < end → packed_level words (column + i) ≡ level
  pub bits : EqualBits (slice_index words (end / 64)) (end % 64) level equal

module _ {words : List ℕ} {width column end : ℕ} {level : Bool} {equal : ℕ}
    (so_far : RunSoFar words width column end level equal) where
  open so_far use {within, from, before, bits}

  -- the end's word
  abbrev word : ℕ
  word = slice_index words (end / 64)

  -- the level of a column after the end, in its word
  at : (i : ℕ) → end % 64 + i < 64 → packed_level words (end + i) ≡ level_of_bit word (end % 64 + i)
  at i l = grind arith

  pub each_on : (i : ℕ) → column + i < end + equal → packed_level words (column + i) ≡ level
  each_on i l = elim (cases_lt (column + i) end) [
    | inl before ↦ so_far.each i before
    | inr behind ↦
        let j : ℕ = (column + i) - end in
        let place : column + i ≡ end + j = omega arith in
        ap (packed_level words) place ∙ at j (omega (arith, bits.inside)) ∙ bits.each j (omega arith)
  ]

  -- the run ends in the word
  module _ (ended : end % 64 + equal < 64) where
    other : packed_level words (end + equal) ≡ level → ⊥
    other e = bits.ends ended (sym (at equal ended) ∙ e)

    some : column < end + equal
    some = grind arith

    -- the length of the run
    abbrev count : ℕ
    count = min (end + equal) width - column

    ends : column + count < length (unpacked words width)
        → level_at (unpacked words width) (column + count) ≡ level → ⊥
    ends l e = grind (arith, some, length-unpacked, other, level_unpacked)

    pub run_in_word : IsRun (unpacked words width) column level count
    run_in_word = grind (arith, some, length-unpacked, level_unpacked, each_on, ends)

-- a run up to the last column
pub run_to_width : (words : List ℕ) (width column end : ℕ) (level : Bool) → column < width → width ≤ end
    → ((i : ℕ) → column + i < end → packed_level words (column + i) ≡ level)
    → IsRun (unpacked words width) column level (width - column)
run_to_width words width column end level within past each =
    grind (arith, some, length-unpacked, level_unpacked, ends)
