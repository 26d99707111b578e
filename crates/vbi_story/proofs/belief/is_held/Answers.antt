use Rattle.std.proofs.Common.{arith, ◌+◌}
use Rattle.vbi_story.proofs.Chains.{run_price, run_weight, lt_is, is_lt}
use Rattle.vbi_story.proofs.belief.is_held.Goals as goal

pub returns : goal.returns
returns c =
    let told = c.args.told.now in
    let begin = c.args.run.begin in
    let end = c.args.run.end in
    let run = c.requires.run in
    let price = run_price told begin end run c.price_at.result c.price_at-2.result c.price_over-over.result
    c.price_at.ensures.first c.price_at.ensures.inside c.price_at-2.ensures.past c.price_at-2.ensures.inside
    c.price_over-over.ensures.first c.price_over-over.ensures.past c.price_over-over.ensures.inside in
    let less = c.price_at.result + c.price_at-2.result + 4 in
    let more = c.args.run.weight + c.price_over-over.result in
    let weight = run_weight told begin end (omega (arith, run.some)) in (
      λ is. omega (arith, price, weight, c.requires.weight, lt_is less more is),
      λ far. is_lt less more (omega (arith, price, weight, c.requires.weight, far)),
    )
