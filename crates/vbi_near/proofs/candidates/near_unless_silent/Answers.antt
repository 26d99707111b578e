use Rattle.std.proofs.Common.{ℕ, subst}
use Rattle.vbi_near.specs.{Candidates.given_line, Lines.line_in, Silence.HasNearUnlessSilent}
use Rattle.vbi_near.proofs.candidates.near_unless_silent.Goals as goal

pub returns : goal.returns
returns c =
    let lines = given_line (line_in c.args.line.now) in
    subst (λ (n : ℕ). HasNearUnlessSilent c.args.margins.now n lines c.nears_if.result) c.pile_of_one.ensures.one
    (c.nears_if.ensures _ _ _ c.pile_of_one.ensures.pile)
