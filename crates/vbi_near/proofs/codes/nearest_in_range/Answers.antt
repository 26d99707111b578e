use Rattle.std.proofs.Common.{ℕ, ◌+◌, ◌*◌, get_or, refl}
use Rattle.vbi_near.proofs.InRange.{in_range_is, in-digits}
use Rattle.vbi_near.proofs.codes.nearest_in_range.Goals as goal

pub returns-clause-lead : goal.returns-clause-lead
returns-clause-lead c cost priced =
    let table : ℕ → ℕ → ℕ = λ place digit. get_or c.args.prices.now.digits.now (16 * place + digit) 0 in
    in_range_is c.args.words.0 c.args.words.1 c.requires cost table c.args.prices.now.base c.args.prices.now.start
    c.best_digits-best.result (c.best_digits-best.ensures.best table (λ place value l m. refl)) priced _
    c.saturating_add.ensures c.best_digits-best.ensures.distance

pub returns-clause-word : goal.returns-clause-word
returns-clause-word c =
    let table : ℕ → ℕ → ℕ = λ place digit. get_or c.args.prices.now.digits.now (16 * place + digit) 0 in
    (in-digits c.args.words.0 c.args.words.1 c.requires c.best_digits-best.result.word
    (c.best_digits-best.ensures.best table (λ place value l m. refl)).word).0.0
