use Rattle.std.proofs.Common.{◌≡◌, ℕ, ◌*◌, ◌≤◌, arith, sym, ◌∙◌, subst, add-one}
use Rattle.vbi_near.proofs.Places.{at-place, few-digits, next-power}
use Rattle.vbi_near.proofs.{Common.digit_at, Common.AreBest, BestDigits.first-digits, CellsAt.cut-read}
use Rattle.vbi_near.proofs.codes.best_digits.Goals as goal

pub loop-place-init : goal.loop-place-init
loop-place-init c = record {
  best = λ cost same. first-digits cost c.args.prices.now.base (digit_at c.args.words.0) (digit_at c.args.words.1);
  word = omega arith;
  distance = omega (arith, c.args.prices.now.base_few);
}

pub with_digit-best-requires-clause-order : goal.with_digit-best-requires-clause-order
with_digit-best-requires-clause-order c =
    omega (
      arith,
      c.place_of-from.ensures.value,
      c.place_of-to.ensures.value,
      at-place (λ (k : ℕ). digit_at c.args.words.0 k ≤ digit_at c.args.words.1 k) c.requires.1 c.loop-place.place
          c.loop-place-test.true,
    )

pub with_digit-best-requires-clause-word : goal.with_digit-best-requires-clause-word
with_digit-best-requires-clause-word c =
    omega (arith, c.loop-place.invariant.word, few-digits c.loop-place.place c.loop-place-test.true)

pub loop-place-preserved : goal.loop-place-preserved
loop-place-preserved c =
    let p : ℕ = c.loop-place.place in
    record {
      best = λ cost same.
          subst (λ (k : ℕ). AreBest cost c.args.prices.now.base (digit_at c.args.words.0) (digit_at c.args.words.1) k
          c.with_digit-best.result) (sym (add-one p))
          (c.with_digit-best.ensures.best cost c.args.prices.now.base (digit_at c.args.words.0)
          (digit_at c.args.words.1) p
          (c.loop-place.invariant.best cost same) (sym c.place_of-from.ensures.value) (sym c.place_of-to.ensures.value)
          (λ value l. cut-read c.args.prices.now.digits.now (16 * p) 16 value l ∙ same p value c.loop-place-test.true
          l));
      word = omega (arith, c.with_digit-best.ensures.word, c.loop-place.invariant.word, next-power p);
      distance = omega (arith, c.with_digit-best.ensures.distance, c.loop-place.invariant.distance);
    }

pub returns-clause-best : goal.returns-clause-best
returns-clause-best c cost same =
    let e : c.loop-place.place ≡ 6 = omega (arith, c.loop-place-test.false, c.loop-place.auto.place-end) in
    subst (λ (k : ℕ). AreBest cost c.args.prices.now.base (digit_at c.args.words.0) (digit_at c.args.words.1) k
    c.loop-place.best) e
    (c.loop-place.invariant.best cost same)
