use Rattle.std.proofs.Common.{ℕ, ap, ◌∙◌}
use Rattle.vbi_near.specs.{WordRule.said_if, Lines.line_in, Candidates.given_line}
use Rattle.vbi_near.proofs.AskedLines.{heard-says}
use Rattle.vbi_near.proofs.line_rule.said_as.Goals as goal

pub returns : goal.returns
returns c near has =
    c.said_if.ensures
    ∙ ap (λ (unit : ℕ). said_if unit c.args.margins.now 1 c.near_unless_silent-near.result) c.unit_of.ensures.value
    ∙ heard-says c.args.margins.now 1 (given_line (line_in c.args.line.now)) c.near_unless_silent-near.result near
    c.near_unless_silent-near.ensures has
