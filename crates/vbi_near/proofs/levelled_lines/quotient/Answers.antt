use Rattle.std.proofs.Common.{◌≡◌, ℕ, ◌*◌, ◌/◌, ◌^◌, ap, sym, ◌∙◌, arith}
use Rattle.vbi_near.proofs.Inverse.{near_quotient, quotient_low, quotient_cut, product_fits}
use Rattle.vbi_near.proofs.levelled_lines.quotient.Goals as goal

pub overflow_mul-near : goal.overflow_mul-near
overflow_mul-near c =
    let k : ℕ = 2 ^ 48 in
    let fits = product_fits k c.args.divisor c.min-cut.result 65535 (omega (arith, c.min-cut.ensures)) in
    let same : c.min-cut.result * c.args.inverse ≡ c.min-cut.result * (k / c.args.divisor)
    = ap (λ (n : ℕ). c.min-cut.result * n) c.requires.inverse in
    omega (arith, fits, same)

pub overflow_mul-near-2 : goal.overflow_mul-near-2
overflow_mul-near-2 c =
    let both = near_quotient c.args.divisor c.min-cut.result c.args.inverse c.requires.some
    (omega (arith, c.min-cut.ensures, c.requires.divisor)) c.requires.inverse in
    omega (arith, both.0, c.min-cut.ensures, c.requires.divisor)

pub returns-then-near-divisor : goal.returns-then-near-divisor
returns-then-near-divisor c =
    let s = c.args.divisor in
    let both = near_quotient s c.min-cut.result c.args.inverse c.requires.some
    (omega (arith, c.min-cut.ensures, c.requires.divisor)) c.requires.inverse in
    sym (quotient_low _ s c.min-cut.result c.if-near-divisor.true both.1)
    ∙ ap (λ (n : ℕ). n / s) c.min-cut.ensures ∙ quotient_cut c.args.dividend s 65535 c.requires.some

pub returns-else-near-divisor : goal.returns-else-near-divisor
returns-else-near-divisor c =
    let s = c.args.divisor in
    let both = near_quotient s c.min-cut.result c.args.inverse c.requires.some
    (omega (arith, c.min-cut.ensures, c.requires.divisor)) c.requires.inverse in
    sym (quotient_low _ s c.min-cut.result both.0 c.if-near-divisor.false)
    ∙ ap (λ (n : ℕ). n / s) c.min-cut.ensures ∙ quotient_cut c.args.dividend s 65535 c.requires.some
