-- A quotient by a division that was made once: with m, what k is divided by s, x * m divided by k is what x is
-- divided by s, or too small by one. quotient and Levelling stand on it.
use Rattle.std.proofs.Common.{◌≡◌, ℕ, ◌≤◌, ◌<◌, ◌+◌, ◌-◌, ◌*◌, ◌/◌, ◌^◌, ◌⊎◌, inl, inr, min, arith, ap, sym, ◌∙◌, subst}
use Rattle.std.proofs.lemmas.{Bool.cases_lt, Nat.le-div}
use Rattle.std.proofs.Math.Nat.{mul-le-mul_left, mul-le-mul_right, le_of_mul-le-mul_right, lt_of_mul-lt-mul_right}
use Rattle.std.proofs.Math.Nat.{div-mul-le_self, lt-div-mul-add, div-eq_of_lt-le, div-le_of_le-mul, mul-div_cancel}
use Rattle.std.proofs.Math.Nat.{add-mul-div_right}

below : (k s m x q : ℕ) → 0 < k → m * s ≤ k → q * k ≤ x * m → q * s ≤ x
below k s m x q some less is =
    let a : q * k * s ≤ x * m * s = mul-le-mul_right s is in
    let b : x * (m * s) ≤ x * k = mul-le-mul_left x less in
    let goal : q * s * k ≤ x * k = omega (arith, a, b) in
    le_of_mul-le-mul_right goal some

above : (k t m x q : ℕ) → k ≤ m * (t + 1) + t → x * m + 1 ≤ (q + 1) * k → x ≤ k → x < (q + 2) * (t + 1)
above k t m x q more is few =
    let a : (x * m + 1) * (t + 1) ≤ (q + 1) * k * (t + 1) = mul-le-mul_right (t + 1) is in
    let b : x * k ≤ x * (m * (t + 1) + t) = mul-le-mul_left x more in
    let c : x * t ≤ k * t = mul-le-mul_right t few in
    let goal : x * k < (q + 2) * (t + 1) * k = omega (arith, a, b, c) in
    lt_of_mul-lt-mul_right k goal

-- the quotient, or too small by one
pub nearly : (k s x : ℕ) → 0 < k → 0 < s → x ≤ k
    → (x * (k / s) / k * s ≤ x) × (x < (x * (k / s) / k + 2) * s)
nearly k s x some positive few =
    let m = k / s in
    let q = x * m / k in
    let e : s - 1 + 1 ≡ s = omega arith in
    let high : k < m * s + s = lt-div-mul-add positive in
    let more : k ≤ m * (s - 1 + 1) + (s - 1)
    = subst (λ (j : ℕ). k ≤ m * j + (s - 1)) (sym e) (omega (arith, high)) in
    let over : x * m < q * k + k = lt-div-mul-add some in (
      below k s m x q some (div-mul-le_self k s) (div-mul-le_self (x * m) k),
      subst (λ (j : ℕ). x < (q + 2) * j) e (above k (s - 1) m x q more (omega (arith, over)) few),
    )

-- the product of a dividend with this inverse of its divisor is the quotient, or too small by one
pub near_quotient : (s x inverse : ℕ) → 0 < s → x ≤ 2 ^ 48 → inverse ≡ 2 ^ 48 / s
    → (x * inverse / 2 ^ 48 * s ≤ x) × (x < (x * inverse / 2 ^ 48 + 1 + 1) * s)
near_quotient s x inverse positive few is = grind (arith, nearly)

-- a number whose product with the divisor is just within the dividend is the quotient
pub quotient_low : (q s x : ℕ) → q * s ≤ x → x < (q + 1) * s → x / s ≡ q
quotient_low q s x low high = div-eq_of_lt-le s low high

-- a dividend that is cut has the quotient cut
pub quotient_cut : (x s most : ℕ) → 0 < s → min x (most * s) / s ≡ min (x / s) most
quotient_cut x s most some = grind (arith, le-div, mul-div_cancel, div-le_of_le-mul)

-- the product that is divided stays below 2 ^ 64
pub product_fits : (k s x most : ℕ) → x ≤ most * s → x * (k / s) ≤ most * k
product_fits k s x most few =
    let a : x * (k / s) ≤ most * s * (k / s) = mul-le-mul_right (k / s) few in
    let b : most * (k / s * s) ≤ most * k = mul-le-mul_left most (div-mul-le_self k s) in
    omega (arith, a, b)

-- the quotient of some whole divisors and some more
pub quotient-above : (m x s : ℕ) → 0 < s → (m * s + x) / s ≡ m + x / s
quotient-above m x s some = ap (λ (n : ℕ). n / s) (omega arith) ∙ add-mul-div_right x m some ∙ omega arith

-- the quotient of some whole divisors less some
pub quotient-below : (m y s : ℕ) → 0 < s → 0 < y → (m * s - y) / s ≡ m - (y + (s - 1)) / s
quotient-below m y s some positive = go (cases_lt m c)
  where
    c : ℕ
    c = (y + (s - 1)) / s

    low : c * s ≤ y + (s - 1)
    low = div-mul-le_self (y + (s - 1)) s

    high : y + (s - 1) < c * s + s
    high = lt-div-mul-add some

    go : (m < c) ⊎ (c ≤ m) → (m * s - y) / s ≡ m - c
    go (inl less) =
        let next : m + 1 ≤ c = omega arith in
        let product : (m + 1) * s ≤ c * s = mul-le-mul_right s next in
        let none : (m * s - y) / s ≡ 0 = div-eq_of_lt-le s (omega arith) (omega (arith, product, low)) in
        none ∙ omega arith
    go (inr le) =
        let d : ℕ = m - c in
        let e : c + d ≡ m = omega arith in
        let split : c * s + d * s ≡ m * s = omega arith ∙ ap (λ (n : ℕ). n * s) e in
        div-eq_of_lt-le s (omega (arith, split, low, high)) (omega (arith, split, low, high))
