-- What words cost, by their digits.
-- Prices::at and with_start_by stand on it, and Chosen.
use Rattle.std.proofs.Common.{◌≡◌, ℕ, zero, suc, ◌<◌, ◌+◌, ◌-◌, ◌*◌, ◌/◌, ◌%◌, Bool, false, List, get_or, arith, ap}
use Rattle.std.proofs.Common.{◌∙◌}
use Rattle.vbi_near.proofs.Common.{System, width_of, IsWord, word_length, Shades, span, cell_cost, bits_cost}
use Rattle.vbi_near.proofs.Common.{place_cost, digit_cost, digits_cost, IsDigitCost, ArePriced, code_cost}

-- four bits more
four-more : (cost : ℕ → Bool → ℕ) (m w : ℕ)
    → bits_cost cost (suc (suc (suc (suc m)))) w ≡ bits_cost cost m (w / 16) + digit_cost cost m (w % 16)
unfolding bits_cost
four-more cost m w = grind arith

by-digits : (cost : ℕ → Bool → ℕ) (table : ℕ → ℕ → ℕ) (base n w : ℕ)
    → ((k d : ℕ) → k < n → d < 16 → table k d ≡ digit_cost cost (4 * k) d)
    → digits_cost table base n w ≡ base + bits_cost cost (4 * n) w
unfolding digits_cost bits_cost
by-digits cost table base zero w same = omega arith
by-digits cost table base (suc n) w same =
    let e : 4 * suc n ≡ suc (suc (suc (suc (4 * n)))) = omega arith in
    let all : bits_cost cost (4 * suc n) w ≡ bits_cost cost (suc (suc (suc (suc (4 * n))))) w
    = ap (λ (k : ℕ). bits_cost cost k w) e in
    let rest = by-digits cost table base n (w / 16) (λ k d l m. same k d (omega arith) m) in
    let here = same n (w % 16) (omega arith) (omega arith) in
    omega (arith, all, four-more cost (4 * n) w, rest, here)

pub code-word : (sums : Shades) (system : System) (start w : ℕ) → IsWord w
    → code_cost sums system start w ≡ place_cost sums system start w
code-word sums system start w word = grind arith

pub priced : (sums : Shades) (system : System) (start base : ℕ) (digits : List ℕ)
    → base ≡ span sums false 0 start
    + span sums false (start + word_length system) (width_of system - (start + word_length system))
    → ((i : ℕ) → i < 96 → IsDigitCost (cell_cost sums system start) i (get_or digits i 0))
    → ArePriced (code_cost sums system) base start digits
unfolding place_cost
priced sums system start base digits e are w word =
    let table : ℕ → ℕ → ℕ = λ place digit. get_or digits (16 * place + digit) 0 in
    let cost : ℕ → Bool → ℕ = cell_cost sums system start in
    let same : (k d : ℕ) → k < 6 → d < 16 → table k d ≡ digit_cost cost (4 * k) d
    = λ k d l m.
    let p : (16 * k + d) / 16 ≡ k = omega arith in
    let q : (16 * k + d) % 16 ≡ d = omega arith in
    (are (16 * k + d) (omega arith)).0 ∙ ap (λ (j : ℕ). digit_cost cost (4 * j) ((16 * k + d) % 16)) p
    ∙ ap (digit_cost cost (4 * k)) q in
    let all = by-digits cost table base 6 w same in
    omega (arith, code-word sums system start w word, all, e)
