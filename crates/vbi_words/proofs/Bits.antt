-- The bits of a number as a list, and its half cells.
use Rattle.vbi_words.proofs.Common.{get_or, ◌≡◌, ℕ, suc, zero, ◌≤◌, ◌<◌, ◌+◌, ◌-◌, ◌*◌, ◌/◌, ◌%◌, ◌^◌, Bool, true}
use Rattle.vbi_words.proofs.Common.{false, eqb, List, [], ◌∷◌, ◌++◌, ◌⊎◌, refl, ap, sym, ◌∙◌, subst, arith}
use Rattle.vbi_words.proofs.Common.{append_assoc, zero-add, add-one, add-zero, eqb-true, cases_lt, append-nil, not}
use Rattle.vbi_words.proofs.Common.{flat_map, cell_of, length}
use Rattle.std.proofs.lemmas.Nat.{pow-add}
use Rattle.std.proofs.lemmas.Nat.Bits.{bit_at-suc, bit_at_above, same_from_bits_below}
use Rattle.std.specs.Int.{bit_at}
use Rattle.vbi_words.specs.Words.{lowest_bits}
use Rattle.vbi_words.proofs.Runs.{same_head, same_tail}

-- whether this bit of the number is a one
abbrev bit_is_one : ℕ → ℕ → Bool
bit_is_one w i = eqb (bit_at w i) 1

pub length-lowest_bits : (n w : ℕ) → length (lowest_bits n w) ≡ n
unfolding lowest_bits
length-lowest_bits zero w = refl
length-lowest_bits (suc n) w = ap suc (length-lowest_bits n w)

-- ---- numbers with the same bits

bits_agree : (n v w : ℕ) → lowest_bits n v ≡ lowest_bits n w → (i : ℕ) → i < n → bit_at v i ≡ bit_at w i
unfolding lowest_bits
bits_agree zero v w e i l = absurd (omega arith)
bits_agree (suc n) v w e i l = go (λ below. bits_agree n v w (same_tail e) i below) (cases_lt i n)
  where
    go : (i < n → bit_at v i ≡ bit_at w i) → (i < n) ⊎ (n ≤ i) → bit_at v i ≡ bit_at w i
    go before h = grind arith

-- two numbers of n bits with the same bits are equal
pub same_from_lowest : (n v w : ℕ) → v < 2 ^ n → w < 2 ^ n → lowest_bits n v ≡ lowest_bits n w → v ≡ w
same_from_lowest n v w a b e = same_from_bits_below n v w a b (bits_agree n v w e)

-- ---- one more bit at the end

-- a bit as a number
abbrev pub bit_of : Bool → ℕ
bit_of true = 1
bit_of false = 0

last_bit : (a : ℕ) (b : Bool) → bit_is_one (2 * a + bit_of b) 0 ≡ b
last_bit a b = grind arith

half_of : (a : ℕ) (b : Bool) → (2 * a + bit_of b) / 2 ≡ a
half_of a true = omega arith
half_of a false = omega arith

pub lowest-push : (n a : ℕ) (b : Bool) → lowest_bits (n + 1) (2 * a + bit_of b) ≡ lowest_bits n a ++ b ∷ []
unfolding lowest_bits
lowest-push n a b = rw add-one (go n)
  where
    more : ℕ
    more = 2 * a + bit_of b

    go : (n : ℕ) → lowest_bits (suc n) more ≡ lowest_bits n a ++ b ∷ []
    go zero = ap (λ (x : Bool). x ∷ []) (last_bit a b)
    go (suc n) =
        let head : bit_at more (suc n) ≡ bit_at a n
        = bit_at-suc more n ∙ ap (λ (x : ℕ). bit_at x n) (half_of a b) in
        ap (λ (x : ℕ). eqb x 1 ∷ lowest_bits (suc n) more) head
        ∙ ap (λ (t : List Bool). bit_is_one a n ∷ t) (go n)

-- ---- the number of a list of bits

-- the number of these bits after those of a
value_after : ℕ → List Bool → ℕ
value_after a [] = a
value_after a (b ∷ bits) = value_after (2 * a + bit_of b) bits

lowest-value_after : (n a : ℕ) (bits : List Bool)
    → lowest_bits (n + length bits) (value_after a bits) ≡ lowest_bits n a ++ bits
unfolding value_after
lowest-value_after n a [] = rw (add-zero, append-nil) refl
lowest-value_after n a (b ∷ bits) =
    let e : n + suc (length bits) ≡ (n + 1) + length bits = omega arith in
    ap (λ (k : ℕ). lowest_bits k (value_after (2 * a + bit_of b) bits)) e
    ∙ lowest-value_after (n + 1) (2 * a + bit_of b) bits
    ∙ ap (λ (t : List Bool). t ++ bits) (lowest-push n a b) ∙ append_assoc (lowest_bits n a) (b ∷ []) bits

bit_below : (b : Bool) → bit_of b < 2
bit_below true = omega arith
bit_below false = omega arith

value-below : (n a : ℕ) (bits : List Bool) → a < 2 ^ n → value_after a bits < 2 ^ (n + length bits)
unfolding value_after
value-below n a [] l = rw add-zero l
value-below n a (b ∷ bits) l =
    let e : (n + 1) + length bits ≡ n + suc (length bits) = omega arith in
    subst (λ (k : ℕ). value_after (2 * a + bit_of b) bits < 2 ^ k) e
    (value-below (n + 1) (2 * a + bit_of b) bits (omega (arith, l, bit_below b, pow-add 2 n 1)))

-- each list of bits is that of a number
pub number_of : (bits : List Bool) → (w : ℕ) × (w < 2 ^ length bits) × (lowest_bits (length bits) w ≡ bits)
unfolding lowest_bits
number_of bits =
    let e : 0 + length bits ≡ length bits = zero-add (length bits) in (
      value_after 0 bits,
      subst (λ (k : ℕ). value_after 0 bits < 2 ^ k) e (value-below 0 0 bits (omega arith)),
      ap (λ (k : ℕ). lowest_bits k (value_after 0 bits)) (sym e) ∙ lowest-value_after 0 0 bits,
    )

-- ---- the top bit

-- the first of n + 1 bits
pub top_bit_set : (n w : ℕ) → 2 ^ n ≤ w → w < 2 ^ (suc n) → lowest_bits (suc n) w ≡ true ∷ lowest_bits n w
unfolding lowest_bits
top_bit_set n w low high = grind arith

pub top_bit_then : (n w : ℕ) (rest : List Bool) → lowest_bits (suc n) w ≡ true ∷ rest → 2 ^ n ≤ w
unfolding lowest_bits
top_bit_then n w rest e = grind (arith, cases_lt, eqb-true, same_head, bit_at_above)

-- ---- the half cells of a number

pub bit_read : (n w k : ℕ) → k < n → get_or (lowest_bits n w) k false ≡ bit_is_one w (n - 1 - k)
unfolding lowest_bits
bit_read zero w k l = absurd (omega arith)
bit_read (suc n) w zero l = let e : n ≡ suc n - 1 - 0 = omega arith in ap (bit_is_one w) e
bit_read (suc n) w (suc k) l =
    let e : n - 1 - k ≡ suc n - 1 - suc k = omega arith in
    bit_read n w k (omega arith) ∙ ap (bit_is_one w) e

-- half cell i of the cells of these bits
abbrev half : List Bool → ℕ → Bool
half bits i = get_or (flat_map cell_of bits) i false

pub half_first : (bits : List Bool) (k : ℕ) → k < length bits → half bits (2 * k) ≡ not (get_or bits k false)
half_first [] k l = absurd (omega arith)
half_first (true ∷ bits) zero l = refl
half_first (false ∷ bits) zero l = refl
half_first (true ∷ bits) (suc k) l =
    let e : 2 * suc k ≡ suc (suc (2 * k)) = omega arith in
    ap (half (true ∷ bits)) e ∙ half_first bits k (omega arith)
half_first (false ∷ bits) (suc k) l =
    let e : 2 * suc k ≡ suc (suc (2 * k)) = omega arith in
    ap (half (false ∷ bits)) e ∙ half_first bits k (omega arith)

pub half_second : (bits : List Bool) (k : ℕ) → k < length bits → half bits (2 * k + 1) ≡ get_or bits k false
half_second [] k l = absurd (omega arith)
half_second (true ∷ bits) zero l = refl
half_second (false ∷ bits) zero l = refl
half_second (true ∷ bits) (suc k) l =
    let e : 2 * suc k + 1 ≡ suc (suc (2 * k + 1)) = omega arith in
    ap (half (true ∷ bits)) e ∙ half_second bits k (omega arith)
half_second (false ∷ bits) (suc k) l =
    let e : 2 * suc k + 1 ≡ suc (suc (2 * k + 1)) = omega arith in
    ap (half (false ∷ bits)) e ∙ half_second bits k (omega arith)

-- half cell i of a word, as the code reads it
module _ (w value i : ℕ) (within : i < 48) (same : value ≡ w) where
  -- the word's bits
  abbrev bits : List Bool
  bits = lowest_bits 24 w

  -- the bit that the code reads
  abbrev read : Bool
  read = eqb (value / 2 ^ (23 - i / 2) % 2) 1

  inside : i / 2 < length bits
  inside = omega (arith, length-lowest_bits 24 w)

  bit_is : read ≡ get_or bits (i / 2) false
  bit_is = ap (λ (x : ℕ). bit_is_one x (23 - i / 2)) same ∙ sym (bit_read 24 w (i / 2) (omega arith))

  pub half_even : i % 2 ≡ 0 → not read ≡ half bits i
  half_even even =
      let e : 2 * (i / 2) ≡ i = omega arith in
      ap not bit_is ∙ sym (half_first bits (i / 2) inside) ∙ ap (half bits) e

  pub half_odd : (i % 2 ≡ 0 → ⊥) → read ≡ half bits i
  half_odd odd = grind (arith, bit_is, half_second, inside)
