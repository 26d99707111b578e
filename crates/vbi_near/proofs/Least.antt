-- The least of some numbers, if it can be decided which of them count.
-- SomeNear and SomeSeen stand on it.
use Rattle.std.proofs.Common.{◌≡◌, ℕ, zero, suc, ◌≤◌, ◌<◌, ◌⊎◌, inl, inr, arith}
use Rattle.std.proofs.lemmas.Bool.{cases_lt}

-- the first number at which f is least among the numbers up to n that P holds of
pub record Least (f : ℕ → ℕ) (P : ℕ → Type 0) (n : ℕ) : Type 0 where
  pub at : ℕ
  pub within : at ≤ n
  pub holds : P at
  pub least : (k : ℕ) → k ≤ n → P k → f at ≤ f k
  pub first : (k : ℕ) → k ≤ n → P k → f k ≡ f at → at ≤ k

-- found among the numbers up to n, if there is one
module _ (f : ℕ → ℕ) (P : ℕ → Type 0) (tells : (k : ℕ) → P k ⊎ (P k → ⊥)) where
  find : (n : ℕ) → Least f P n ⊎ ((k : ℕ) → k ≤ n → P k → ⊥)
  find zero = go (tells 0)
    where
      go : P 0 ⊎ (P 0 → ⊥) → Least f P 0 ⊎ ((k : ℕ) → k ≤ 0 → P k → ⊥)
      go either = grind arith
  find (suc n) = go (find n) (tells (suc n))
    where
      below : (k : ℕ) → k ≤ suc n → (k ≡ suc n) ⊎ (k ≤ n)
      below k le = grind arith

      here : P (suc n) → ((k : ℕ) → k ≤ n → P k → f (suc n) < f k) → Least f P (suc n)
      here p before = grind (arith, below)

      earlier : (l : Least f P n) → (P (suc n) → f l.at ≤ f (suc n)) → Least f P (suc n)
      earlier l after = grind (arith, below)

      go : Least f P n ⊎ ((k : ℕ) → k ≤ n → P k → ⊥) → P (suc n) ⊎ (P (suc n) → ⊥)
          → Least f P (suc n) ⊎ ((k : ℕ) → k ≤ suc n → P k → ⊥)
      go (inl l) (inr none) = inl (earlier l (λ p. absurd (none p)))
      go (inl l) (inl p) = by (cases_lt (f (suc n)) (f l.at))
        where
          by : (f (suc n) < f l.at) ⊎ (f l.at ≤ f (suc n)) → Least f P (suc n) ⊎ ((k : ℕ) → k ≤ suc n → P k → ⊥)
          by (inl less) = inl (here p (λ k le q. omega (arith, less, l.least k le q)))
          by (inr le) = inl (earlier l (λ p. le))
      go (inr none) (inl p) = inl (here p (λ k le q. absurd (none k le q)))
      go (inr none) (inr not) = grind (arith, below)

  -- if one holds
  pub found : (n k : ℕ) → k ≤ n → P k → Least f P n
  found n k le p = grind (arith, find)

-- ---- what can be decided

-- whether a fact holds can be decided
abbrev pub IsDecided : Type 0 → Type 0
IsDecided P = P ⊎ (P → ⊥)

-- of two facts, of one of them, and of what is not so
pub both_decided : (P Q : Type 0) → IsDecided P → IsDecided Q → IsDecided (P × Q)
both_decided P Q decided_too decided = grind arith

pub either_decided : (P Q : Type 0) → IsDecided P → IsDecided Q → IsDecided (P ⊎ Q)
either_decided P Q (inl p) decided = inl (inl p)
either_decided P Q (inr not) (inl q) = inl (inr q)
either_decided P Q (inr not) (inr nor) = grind arith

-- of an order
pub at_most_decided : (a b : ℕ) → IsDecided (a ≤ b)
at_most_decided a b = grind arith

-- of all numbers below n
pub all_decided : (P : ℕ → Type 0) → ((k : ℕ) → IsDecided (P k)) → (n : ℕ) → IsDecided ((k : ℕ) → k < n → P k)
all_decided P decided zero = inl (λ k l. absurd (omega arith))
all_decided P decided (suc n) = go (all_decided P decided n) (decided n)
  where
    go : IsDecided ((k : ℕ) → k < n → P k) → IsDecided (P n) → IsDecided ((k : ℕ) → k < suc n → P k)
    go decided any = grind arith
