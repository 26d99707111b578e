use Rattle.std.proofs.Common.{◌≡◌, ℕ, ◌<◌, ◌+◌, ◌*◌, ◌^◌, get_or}
use Rattle.vbi_near.proofs.Common.{AreBest, digit_at}
use Rattle.vbi_near.proofs.codes.best_digits.Given as goal

abbrev pub invariant-loop-place : goal.invariant-loop-place
invariant-loop-place l = record {
  best : (cost : ℕ → ℕ → ℕ)
      → ((place value : ℕ) → place < 6 → value < 16 → get_or l.prices.digits.now (16 * place + value) 0 ≡ cost place
      value)
      → AreBest cost l.prices.base (digit_at l.fn.words.0) (digit_at l.fn.words.1) l.place l.best;
  word : l.best.word < 16 ^ l.place;
  distance : l.best.distance < 536870912 + 268435456 * l.place;
}
