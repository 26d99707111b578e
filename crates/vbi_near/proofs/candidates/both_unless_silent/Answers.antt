use Rattle.std.proofs.Common.{ℕ, subst}
use Rattle.vbi_near.specs.{Candidates.given_pair, Lines.row_in, Lines.line_in, Silence.HasNearUnlessSilent}
use Rattle.vbi_near.proofs.candidates.both_unless_silent.Goals as goal

pub returns : goal.returns
returns c =
    let lines = given_pair (line_in c.args.pair.now.second) (row_in c.args.pair.now.third) in
    subst (λ (n : ℕ). HasNearUnlessSilent c.args.margins.now n lines c.nears_if.result) c.pile_of_two.ensures.two
    (c.nears_if.ensures _ _ _ c.pile_of_two.ensures.pile)
