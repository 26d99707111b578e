-- The six digits of words in a range, and those of picture numbers of 80,000 and more.
-- CodesStand and NeverBeyond stand on it.
use Rattle.std.proofs.Common.{◌≡◌, ℕ, zero, suc, ◌≤◌, refl, arith}
use Rattle.std.specs.Prelude.{Bool, true, false, ◌&&◌}
use Rattle.std.proofs.lemmas.Bool.{leb-true, le-leb, eqb-true, eq-eqb}
use Rattle.vbi_near.proofs.Common.{digit_of, IsBetween, is_beyond_79999}

-- ---- six digits

-- a digit is from one to another
abbrev Fits : ℕ → ℕ → ℕ → ℕ → Type 0
Fits least greatest w place = (digit_of least place ≤ digit_of w place) × (digit_of w place ≤ digit_of greatest place)

-- by the digits at each place
pub between : (least greatest w : ℕ) → Fits least greatest w 1 → Fits least greatest w 2 → Fits least greatest w 3
    → Fits least greatest w 4 → Fits least greatest w 5 → Fits least greatest w 6 → IsBetween least greatest w
between least greatest w a b c d e f zero low high = absurd (omega arith)
between least greatest w a b c d e f (suc zero) low high = a
between least greatest w a b c d e f (suc (suc zero)) low high = b
between least greatest w a b c d e f (suc (suc (suc zero))) low high = c
between least greatest w a b c d e f (suc (suc (suc (suc zero)))) low high = d
between least greatest w a b c d e f (suc (suc (suc (suc (suc zero))))) low high = e
between least greatest w a b c d e f (suc (suc (suc (suc (suc (suc zero)))))) low high = f
between least greatest w a b c d e f (suc (suc (suc (suc (suc (suc (suc place))))))) low high = absurd (omega arith)

-- ---- picture numbers of 80,000 and more

-- each of six that hold together holds
six-hold : (a b c d e f : Bool) → (a && b && c && d && e && f) ≡ true
    → (a ≡ true) × (b ≡ true) × (c ≡ true) × (d ≡ true) × (e ≡ true) × (f ≡ true)
six-hold true true true true true true is = (refl, refl, refl, refl, refl, refl)
six-hold true true true true true false is = cc
six-hold true true true true false f is = cc
six-hold true true true false e f is = cc
six-hold true true false d e f is = cc
six-hold true false c d e f is = cc
six-hold false b c d e f is = cc

-- six that hold hold together
hold-six : (a b c d e f : Bool) → a ≡ true → b ≡ true → c ≡ true → d ≡ true → e ≡ true → f ≡ true
    → (a && b && c && d && e && f) ≡ true
hold-six a b c d e f p q r s t u = λ j. p j && q j && r j && s j && t j && u j

-- the six tests of a word
module _ (w : ℕ) where
  -- its digits are those of one
  pub beyond-digits : is_beyond_79999 w ≡ true → IsBetween 0xF80000 0xFF9999 w
  beyond-digits is = grind (arith, between, eqb-true, leb-true, six-hold)

  -- with such digits it is one
  pub digits-beyond : IsBetween 0xF80000 0xFF9999 w → is_beyond_79999 w ≡ true
  digits-beyond x = grind (arith, hold-six, eq-eqb, le-leb)
