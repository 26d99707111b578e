use Rattle.std.proofs.Common.{◌+◌, refl, sym, subst}
use Rattle.vbi_whole.specs.ClockSearch.{ArePairs}
use Rattle.vbi_whole.proofs.Pairing.{no_pair, one_pair}
use Rattle.vbi_whole.proofs.clock_search.pairs_after.Goals as goal

pub returns-in_default-clause-value : goal.returns-in_default-clause-value
returns-in_default-clause-value c =
    no_pair c.args.clock c.args.rule c.args.numbers.now c.args.at.field c.args.pairs
    (c.in_default.ensures.none refl)

pub returns-clause-value : goal.returns-clause-value
returns-clause-value c =
    let rule = c.args.rule in
    let some = c.in-Some.ensures.some in
    subst (λ k. ArePairs c.args.clock rule c.args.numbers.now k c.args.pairs
    → ArePairs c.args.clock rule c.args.numbers.now (k + 1) c.with_pair.result) some.0
    (λ before. subst (ArePairs c.args.clock rule c.args.numbers.now (c.in-Some.pair.there.field + 1))
    (sym c.with_pair.ensures.value)
    (one_pair c.args.clock rule c.args.numbers.now _ _ _ _ c.args.pairs some.1 before))
