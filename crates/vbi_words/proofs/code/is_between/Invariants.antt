use Rattle.vbi_words.proofs.Common.{ℕ, ◌≤◌, ◌<◌, digit_of}
use Rattle.vbi_words.proofs.code.is_between.Given as goal

abbrev pub invariant-loop-place : goal.invariant-loop-place
invariant-loop-place l =
    (k : ℕ) → 1 ≤ k → k < l.place
    → (digit_of l.least k ≤ digit_of l.word k) × (digit_of l.word k ≤ digit_of l.greatest k)
