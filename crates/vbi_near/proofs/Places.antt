-- The six places of a word's digits.
-- best_digits, nearest_word and InRange stand on it.
use Rattle.std.proofs.Common.{◌≡◌, ℕ, ◌≤◌, ◌<◌, ◌+◌, ◌*◌, ◌^◌, arith, ap, ◌∙◌, add-one, pow-suc, get_or, take}
use Rattle.std.proofs.Math.ListN.{replicate}
use Rattle.std.proofs.lemmas.List.{get_or-take, get_or-replicate}
use Rattle.vbi_near.proofs.Common.{AtEachPlace}

pub at-place : (P : ℕ → Type 0) → AtEachPlace P → (place : ℕ) → place < 6 → P place
at-place P all place l = grind arith

pub few-digits : (place : ℕ) → place < 6 → 16 ^ place ≤ 1048576
few-digits place l = at-place (λ (k : ℕ). 16 ^ k ≤ 1048576)
    (omega arith, omega arith, omega arith, omega arith, omega arith, omega arith) place l

pub next-power : (place : ℕ) → 16 ^ (place + 1) ≡ 16 ^ place * 16
next-power place = ap (λ (k : ℕ). 16 ^ k) (add-one place) ∙ pow-suc 16 place

-- the first numbers of a list of one number
pub filled : (count n a k : ℕ) → k < count → k < n → get_or (take count (replicate n a)) k 0 ≡ a
filled count n a k l m = get_or-take count (replicate n a) k 0 l ∙ get_or-replicate n k a 0 m
