use Rattle.std.proofs.Common.{◌≡◌, ℕ, true, false, ap, ◌∙◌, rules}
use Rattle.std.specs.Prelude.{Option, Some, is_some}
use Rattle.std.specs.Option.{option_or}
use Rattle.vbi_near.proofs.{Common.unit_of, AskedLines.first-says, AskedLines.other-says}
use Rattle.vbi_near.specs.{Margins.given_margins, WordRule.unless_beyond, WordRule.recovered_by}
use Rattle.vbi_near.proofs.line_rule.recovered_alone.Goals as goal

pub returns-then-is_some : goal.returns-then-is_some
returns-then-is_some c near is =
    let some : is_some c.unless_beyond-said.result ≡ true = search rules in
    let given : Option ℕ = recovered_by (unit_of c.args.line.now.levels) given_margins.lone 1 (Some near.given) in
    first-says c.unless_beyond-said.result given some
    ∙ ap (λ (s : Option ℕ). option_or s given) (c.unless_beyond-said.ensures
    ∙ ap unless_beyond (c.said_levelled.ensures near.levelled is.levelled))

pub returns : goal.returns
returns c near is =
    let none : is_some c.unless_beyond-said.result ≡ false = search rules in
    let given : Option ℕ = recovered_by (unit_of c.args.line.now.levels) given_margins.lone 1 (Some near.given) in
    c.unless_beyond.ensures ∙ ap unless_beyond (c.said_as.ensures near.given is.given)
    ∙ other-says c.unless_beyond-said.result given none
    ∙ ap (λ (s : Option ℕ). option_or s given) (c.unless_beyond-said.ensures
    ∙ ap unless_beyond (c.said_levelled.ensures near.levelled is.levelled))
