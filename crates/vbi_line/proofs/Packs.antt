-- Levels as the bits of words, and more levels added to them.
use Rattle.vbi_line.proofs.Common.{◌≡◌, ℕ, zero, suc, ◌+◌, ◌*◌, ◌/◌, ◌%◌, ◌^◌, ◌<◌, ◌≤◌, Bool, false, ◌∷◌, ◌++◌, map}
use Rattle.vbi_line.proofs.Common.{length, max, nat_eq, slice_index, refl, sym, ap, ◌∙◌, arith, add-zero, lit<, bit_or}
use Rattle.vbi_line.proofs.Common.{bit_at, mod-eq_of_lt, mul-lt-mul_of_pos_right, pow-le-pow_right, max-zero, zero-max}
use Rattle.vbi_line.proofs.Common.{pow-add, pow_pos, cases_eq, length-map-range_with_len, get_or-map-range_with_len}
use Rattle.vbi_line.proofs.Common.{bit_at-lt, bit_at-zero, bit_at_or, bit_at_above, bit_at_cat_low, bit_at_cat_high}
use Rattle.vbi_line.proofs.Common.{level_at, level_of_bit, levels_in, packed_level, unpacked, List}
use Rattle.std.specs.List.{range_with_len}
use Rattle.std.proofs.Math.ListN.{set}
use Rattle.std.proofs.Math.Nat.{div-div-eq-div-mul}
use Rattle.std.proofs.lemmas.Bool.{eqb-false}
use Rattle.std.proofs.lemmas.List.{get_or-set_same, get_or-set_other}

-- ---- a bit and its level

pub low_bit : (n i : ℕ) → level_of_bit n i ≡ false → bit_at n i ≡ 0
low_bit n i e = let l = bit_at-lt n i in let ne = eqb-false (bit_at n i) 1 e in omega (arith, l, ne)

pub bit_low : (n i : ℕ) → bit_at n i ≡ 0 → level_of_bit n i ≡ false
bit_low n i e = ap (λ (x : ℕ). nat_eq x 1) e

-- the bits of a word from a place on
pub bit_after : (word place i : ℕ) → bit_at (word / 2 ^ place) i ≡ bit_at word (place + i)
bit_after word place i = grind (arith, div-div-eq-div-mul, pow-add)

-- ---- lists of levels

-- n levels from column a on
abbrev levels_from : (ℕ → Bool) → ℕ → ℕ → List Bool
levels_from f a n = map f (range_with_len a n)

-- two parts of two lists with the same levels
same_levels : (f g : ℕ → Bool) (a b n : ℕ) → ((i : ℕ) → i < n → f (a + i) ≡ g (b + i))
    → levels_from f a n ≡ levels_from g b n
same_levels f g a b zero same = refl
same_levels f g a b (suc n) same =
    let first : a ≡ a + 0 = omega arith in
    let second : b + 0 ≡ b = omega arith in
    let head : f a ≡ g b = ap f first ∙ same 0 (omega arith) ∙ ap g second in
    let tail : levels_from f (a + 1) n ≡ levels_from g (b + 1) n = same_levels f g (a + 1) (b + 1) n (λ i l.
    let left : (a + 1) + i ≡ a + (i + 1) = omega arith in
    let right : b + (i + 1) ≡ (b + 1) + i = omega arith in
    ap f left ∙ same (i + 1) (omega arith) ∙ ap g right) in
    ap (λ (x : Bool). x ∷ levels_from f (a + 1) n) head ∙ ap (λ (t : List Bool). g b ∷ t) tail

-- a list of levels in two parts
two_parts : (f : ℕ → Bool) (a m n : ℕ) → levels_from f a (m + n) ≡ levels_from f a m ++ levels_from f (a + m) n
two_parts f a zero n = grind arith
two_parts f a (suc m) n =
    let more : suc m + n ≡ suc (m + n) = omega arith in
    let place : (a + 1) + m ≡ a + suc m = omega arith in
    let tail : levels_from f (a + 1) (m + n) ≡ levels_from f (a + 1) m ++ levels_from f (a + suc m) n
    = two_parts f (a + 1) m n ∙ ap (λ (k : ℕ). levels_from f (a + 1) m ++ levels_from f k n) place in
    ap (levels_from f a) more ∙ ap (λ (t : List Bool). f a ∷ t) tail

pub length-unpacked : (words : List ℕ) (width : ℕ) → length (unpacked words width) ≡ width
length-unpacked words width = length-map-range_with_len (packed_level words) 0 width

pub level_unpacked : (words : List ℕ) (width column : ℕ) → column < width
    → level_at (unpacked words width) column ≡ packed_level words column
level_unpacked words width column l = grind (arith, get_or-map-range_with_len)

-- ---- more levels in a word

-- the word with these bits put in from a place on
abbrev pub joined : ℕ → ℕ → ℕ → ℕ
joined word bits place = bit_or word (bits * 2 ^ place % 2 ^ 64)

module _ (word bits place count : ℕ) (fits : place + count ≤ 64) (few : bits < 2 ^ count) where
  -- the bits at their place
  abbrev moved : ℕ
  moved = bits * 2 ^ place + 0

  moved_is : bits * 2 ^ place % 2 ^ 64 ≡ moved
  moved_is = mod-eq_of_lt small ∙ sym (add-zero (bits * 2 ^ place))
    where
      small : bits * 2 ^ place < 2 ^ 64
      small =
          let below : bits * 2 ^ place < 2 ^ count * 2 ^ place = mul-lt-mul_of_pos_right few (pow_pos place) in
          let sum : 2 ^ (count + place) ≡ 2 ^ count * 2 ^ place = pow-add 2 count place in
          let within : count + place ≤ 64 = omega arith in
          let top : 2 ^ (count + place) ≤ 2 ^ 64 = pow-le-pow_right (lit< tt) within in
          omega arith

  bit_joined : (i : ℕ) → bit_at (joined word bits place) i ≡ max (bit_at word i) (bit_at moved i)
  bit_joined i = grind (arith, bit_at_or, moved_is)

  -- where the word has no bit
  bit_new : (i : ℕ) → bit_at word i ≡ 0 → bit_at (joined word bits place) i ≡ bit_at moved i
  bit_new i none = bit_joined i ∙ ap (λ (x : ℕ). max x (bit_at moved i)) none ∙ zero-max (bit_at moved i)

  pub joined_below : (i : ℕ) → i < place → level_of_bit (joined word bits place) i ≡ level_of_bit word i
  joined_below i l = grind (arith, bit_at_cat_low, bit_at-zero, bit_joined, max-zero)

  pub joined_inside : (i : ℕ) → bit_at word (place + i) ≡ 0
      → level_of_bit (joined word bits place) (place + i) ≡ level_of_bit bits i
  joined_inside i none = grind (arith, bit_new, bit_at_cat_high, pow_pos)

  pub joined_above : (i : ℕ) → place + count ≤ i → bit_at word i ≡ 0
      → level_of_bit (joined word bits place) i ≡ false
  joined_above i l none = grind (arith, bit_new, bit_at_cat_high, pow_pos, bit_at_above)

-- ---- more levels in a line

-- a line of this width whose last word has room for count more levels, those in the lowest bits of `bits`
pub record HasRoom (words : List ℕ) (width bits count : ℕ) : Type 0 where
  pub long : length words ≡ 18
  pub room : width + count ≤ 1152
  pub within : width % 64 + count ≤ 64
  pub some : 0 < count
  pub few : bits < 2 ^ count
  pub rest : (column : ℕ) → width ≤ column → column < 1152 → packed_level words column ≡ false

module _ {words : List ℕ} {width bits count : ℕ} (has : HasRoom words width bits count) where
  -- the last word
  abbrev word : ℕ
  word = slice_index words (width / 64)

  -- the place after its levels
  abbrev place : ℕ
  place = width % 64

  -- the last word with the levels added
  abbrev new_word : ℕ
  new_word = joined word bits place

  -- the words with the levels added
  abbrev pub pushed : List ℕ
  pushed = set words (width / 64) new_word

  inside : width / 64 < length words
  inside = omega (arith, has.long, has.room, has.some)

  same_word : (column : ℕ) → column / 64 ≡ width / 64 → packed_level pushed column ≡ level_of_bit new_word (column % 64)
  same_word column e = grind (arith, get_or-set_same, inside)

  other_word : (column : ℕ) → (column / 64 ≡ width / 64 → ⊥) → packed_level pushed column ≡ packed_level words column
  other_word column ne = grind (arith, get_or-set_other)

  -- the last word has no level yet at this column
  empty : (column : ℕ) → width ≤ column → column < 1152 → column / 64 ≡ width / 64 → bit_at word (column % 64) ≡ 0
  empty column past inside e = grind arith

  kept : (column : ℕ) → column < width → packed_level pushed column ≡ packed_level words column
  kept column l = grind (arith, cases_eq, same_word, joined_below, other_word)

  added : (i : ℕ) → i < count → packed_level pushed (width + i) ≡ level_of_bit bits i
  added i l =
      let e : (width + i) / 64 ≡ width / 64 = omega (arith, has.within) in
      let at : (width + i) % 64 ≡ place + i = omega (arith, has.within) in
      let none : bit_at word (place + i) ≡ 0
      = ap (bit_at word) (sym at) ∙ empty (width + i) (omega arith) (omega (arith, has.room)) e in
      same_word (width + i) e ∙ ap (level_of_bit new_word) at
      ∙ joined_inside word bits place count has.within has.few i none

  pub pushed_rest : (column : ℕ) → width + count ≤ column → column < 1152 → packed_level pushed column ≡ false
  pushed_rest column past inside = grind (arith, cases_eq, same_word, joined_above, empty, inside, other_word)

  pub pushed_levels : unpacked pushed (width + count) ≡ unpacked words width ++ levels_in count bits
  pushed_levels =
      let before : unpacked pushed width ≡ unpacked words width
      = same_levels (packed_level pushed) (packed_level words) 0 0 width (λ i l.
      let e : 0 + i ≡ i = omega arith in
      ap (packed_level pushed) e ∙ kept i l ∙ ap (packed_level words) (sym e)) in
      let behind : levels_from (packed_level pushed) (0 + width) count ≡ levels_in count bits
      = same_levels (packed_level pushed) (level_of_bit bits) (0 + width) 0 count (λ i l.
      let e : (0 + width) + i ≡ width + i = omega arith in
      let f : i ≡ 0 + i = omega arith in
      ap (packed_level pushed) e ∙ added i l ∙ ap (level_of_bit bits) f) in
      two_parts (packed_level pushed) 0 width count
      ∙ ap (λ (t : List Bool). t ++ levels_from (packed_level pushed) (0 + width) count) before
      ∙ ap (λ (t : List Bool). unpacked words width ++ t) behind
