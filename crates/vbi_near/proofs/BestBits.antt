-- The best bits of one cell more, and the nearest word that begins at one column.
-- with_cell, found_at and CellsAt stand on it.
use Rattle.std.proofs.Common.{◌≡◌, ◌≢◌, ℕ, ◌≤◌, ◌<◌, ◌+◌, ◌^◌, ◌⊎◌, inl, inr, arith, ap, ◌∙◌, suc, ◌-◌, ◌*◌, ◌/◌, ◌%◌}
use Rattle.std.proofs.Common.{Bool, true, false, not, add-one, eqb, eq-eqb, ne_eqb, pow-suc, min}
use Rattle.std.proofs.Math.Nat.{min-eq_left, min-eq_right}
use Rattle.vbi_near.proofs.Common.{IsWord, System, IsFound, IsBest, HasOther, IsBits, Bits, Shades, around_cost}
use Rattle.vbi_near.proofs.Common.{cell_cost, bits_cost, place_cost}
use Rattle.vbi_words.proofs.Bits.{bit_of}

-- the least of two is one of them
pub min_is : (a b : ℕ) → ((min a b ≡ a) × (a ≤ b)) ⊎ ((min a b ≡ b) × (b < a))
min_is a b = grind arith

-- the last bit of a number
abbrev pub last_of : ℕ → Bool
last_of v = eqb (v % 2) 1

half-joined : (a : ℕ) (b : Bool) → (2 * a + bit_of b) / 2 ≡ a
half-joined a b = grind arith

last-joined : (a : ℕ) (b : Bool) → last_of (2 * a + bit_of b) ≡ b
last-joined a b = grind (arith, eq-eqb, ne_eqb)

joined-again : (v : ℕ) → v ≡ 2 * (v / 2) + bit_of (last_of v)
joined-again v = grind (arith, bit_of)

twice : (n : ℕ) → (2 ^ suc n ≡ 2 ^ n * 2) × (2 ^ (n + 1) ≡ 2 ^ n * 2) × (2 ^ (suc n + 1) ≡ 2 ^ n * 4)
twice n =
    let a : 2 ^ suc n ≡ 2 ^ n * 2 = pow-suc 2 n in
    let b : 2 ^ (n + 1) ≡ 2 ^ suc n = ap (λ (k : ℕ). 2 ^ k) (add-one n) in
    let c : 2 ^ (suc n + 1) ≡ 2 ^ suc (suc n) = ap (λ (k : ℕ). 2 ^ k) (add-one (suc n)) in
    let d : 2 ^ suc (suc n) ≡ 2 ^ suc n * 2 = pow-suc 2 (suc n) in
    (a, omega (arith, a, b), omega (arith, a, c, d))

IsBits-joined : (n a : ℕ) (b : Bool) → IsBits n a → IsBits (suc n) (2 * a + bit_of b)
IsBits-joined n a true (low, high) = omega (arith, twice)
IsBits-joined n a false (low, high) = omega (arith, twice)

IsBits-half : (n v : ℕ) → IsBits (suc n) v → IsBits n (v / 2)
IsBits-half n v bits = grind (arith, twice)

other_bit : (a b : Bool) → (a ≡ b) ⊎ (a ≡ not b)
other_bit a b = grind arith

not_same : (b : Bool) → bit_of (not b) ≢ bit_of b
not_same b e = grind arith

pub joined-cost : (cost : ℕ → Bool → ℕ) (m a : ℕ) (b : Bool)
    → bits_cost cost (suc m) (2 * a + bit_of b) ≡ bits_cost cost m a + cost m b
unfolding bits_cost
joined-cost cost m a b = grind (arith, bit_of, half-joined, last-joined)

module _ (cost : ℕ → Bool → ℕ) (n : ℕ) (best : Bits) (is : IsBest cost n best) (bit : Bool) (less more : ℕ)
    (cheap : cost (suc n) bit ≡ less) (dear : cost (suc n) (not bit) ≡ more) (order : less ≤ more)
    (near : more < 2 ^ 26) (tie : less ≡ more → bit_of bit ≡ 0) where
  -- the better choice
  abbrev pub chosen : Bits
  chosen = record {
    word = 2 * best.word + bit_of bit;
    distance = best.distance + less;
    margin = min best.margin (more - less);
  }

  least : (b : Bool) → less ≤ cost (suc n) b
  least b = grind (arith, other_bit)

  -- no bits before this cell cost less
  floor : (a : ℕ) → IsBits n a → best.distance ≤ bits_cost cost (suc n) a
  floor a bits = grind arith

  farther : (v a : ℕ) (b : Bool) → v ≡ 2 * a + bit_of b → IsBits n a → v ≢ chosen.word
      → chosen.distance + chosen.margin ≤ bits_cost cost (suc (suc n)) v
  farther v a b e bits differs = grind (arith, bit_of, joined-cost, least, other_bit)

  -- bits that cost as little are no less
  earliest : (v a : ℕ) (b : Bool) → v ≡ 2 * a + bit_of b → IsBits n a
      → bits_cost cost (suc (suc n)) v ≡ chosen.distance → chosen.word ≤ v
  earliest v a b e bits same = grind (arith, other_bit, joined-cost, floor, least, bit_of)

  -- the other bit in this cell
  flipped : (more - less ≤ best.margin) → HasOther cost (suc n) chosen
  flipped le =
      let m : min best.margin (more - less) ≡ more - less = min-eq_right le in (
        omega (arith, m, near),
        (
          2 * best.word + bit_of (not bit),
          IsBits-joined n best.word (not bit) is.word,
          λ e. not_same bit (omega arith),
          omega (arith, joined-cost cost (suc n) best.word (not bit), is.exact, dear, m, order),
        ),
      )

  -- the other bits before this cell
  followed : best.margin ≤ more - less → HasOther cost n best → HasOther cost (suc n) chosen
  followed le (small, (v, bits, differs, costs)) =
      let m : min best.margin (more - less) ≡ best.margin = min-eq_left le in (
        omega (arith, m, small),
        (
          2 * v + bit_of bit,
          IsBits-joined n v bit bits,
          λ e. differs (omega arith),
          omega (arith, joined-cost cost (suc n) v bit, costs, cheap, m),
        ),
      )

  another : ((n ≡ 0) × (2 ^ 26 ≤ best.margin)) ⊎ HasOther cost n best → HasOther cost (suc n) chosen
  another (inl (first, wide)) = flipped (omega (arith, wide, near))
  another (inr other) = grind (arith, followed, flipped)

  pub with_cell_is : IsBest cost (suc n) chosen
  with_cell_is = record {
    word = IsBits-joined n best.word bit is.word;
    exact = omega (arith, joined-cost cost (suc n) best.word bit, is.exact, cheap);
    ahead = λ v bits differs. farther v (v / 2) (last_of v) (joined-again v) (IsBits-half n v bits) differs;
    first = λ v bits same. earliest v (v / 2) (last_of v) (joined-again v) (IsBits-half n v bits) same;
    other = inr (another is.other);
  }

  -- the best bits of one cell more, by their fields
  pub with_cell_by : (word margin : ℕ) → word ≡ 2 * best.word + bit_of bit → margin ≡ min best.margin (more - less)
      → IsBest cost (suc n) (record { word = word; distance = best.distance + less; margin = margin })
  with_cell_by word margin e m = grind (arith, bit_of, with_cell_is)

-- ---- the first cell

pub first_is : (cost : ℕ → Bool → ℕ) (distance margin : ℕ) → distance ≡ cost 0 true → 2 ^ 26 ≤ margin
    → IsBest cost 0 (record { word = 1; distance = distance; margin = margin })
unfolding bits_cost
first_is cost distance margin e wide = grind arith

-- ---- the nearest word that begins at one column

module _ (sums : Shades) (system : System) (start : ℕ) (best : Bits)
    (is : IsBest (cell_cost sums system start) 23 best) (around : ℕ)
    (are : around ≡ around_cost sums system start) where
  here : (w : ℕ)
      → place_cost sums system start w ≡ bits_cost (cell_cost sums system start) 24 w + around
  unfolding place_cost
  here w = omega (arith, are)

  there : (s w : ℕ) → start ≤ s → s < start + 1
      → place_cost sums system s w ≡ bits_cost (cell_cost sums system start) 24 w + around
  there s w from before =
      let e : s ≡ start = omega arith in
      ap (λ (k : ℕ). place_cost sums system k w) e ∙ here w

  cheapest : (w : ℕ) → IsWord w → best.distance ≤ bits_cost (cell_cost sums system start) 24 w
  cheapest w word = grind arith

  pub found_at_is : IsFound (place_cost sums system) start (start + 1) (record {
    word = best.word;
    start = start;
    distance = best.distance + around;
    rival = best.distance + around + best.margin;
  })
  found_at_is = grind (arith, cheapest, here, least, there)
