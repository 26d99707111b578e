use Rattle.vbi_whole.proofs.Pairing.{not_passed}
use Rattle.vbi_whole.proofs.clock_search.find_clock.Goals as goal

pub returns-then-one-two-clause-drop : goal.returns-then-one-two-clause-drop
returns-then-one-two-clause-drop c = λ e most. absurd (not_passed c.args.rule c.args.numbers.now _ _ _ _ _ most
    c.tried-drop.ensures.told c.tried_in-one.ensures.told c.tried_in-two.ensures.told c.else-drop-gt0.either)

pub returns-then-two-one-clause-drop : goal.returns-then-two-one-clause-drop
returns-then-two-one-clause-drop c = λ e most. absurd (not_passed c.args.rule c.args.numbers.now _ _ _ _ _ most
    c.tried-drop.ensures.told c.tried_in-one.ensures.told c.tried_in-two.ensures.told c.else-drop-gt0.either)

pub returns-else-two-one-clause-drop : goal.returns-else-two-one-clause-drop
returns-else-two-one-clause-drop c = λ e most. absurd (not_passed c.args.rule c.args.numbers.now _ _ _ _ _ most
    c.tried-drop.ensures.told c.tried_in-one.ensures.told c.tried_in-two.ensures.told c.else-drop-gt0.either)
