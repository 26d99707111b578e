use Rattle.std.proofs.Common.{◌≡◌, ℕ, true, refl, ap, ◌∙◌, rules}
use Rattle.std.specs.Prelude.{Option, Some, is_some}
use Rattle.std.specs.Option.{option_or}
use Rattle.vbi_near.proofs.{Common.unit_of, AskedLines.first-says}
use Rattle.vbi_near.specs.WordRule.{said_in, stand_of}
use Rattle.vbi_near.specs.{Margins.given_margins, Recovery.levelled_of, Recovery.given_of}
use Rattle.vbi_near.proofs.recovery.said_by_both.Goals as goal

pub returns-then-is_some-2 : goal.returns-then-is_some-2
returns-then-is_some-2 c near other both is are pair =
    let unit = unit_of c.args.pair.now.second.levels in
    let some : is_some c.levelled_said-said.result.0 ≡ true = search rules in
    let some_other : is_some c.levelled_said-said.result.1 ≡ true = search rules in
    let says = c.levelled_said-said.ensures (levelled_of near other both)
    (record { line_17 = is.levelled; line_18 = are.levelled; pair = pair.levelled }) in
    let stand = stand_of given_margins unit (given_of near other both) in
    let given : Option ℕ = said_in given_margins stand unit (Some near.given) (Some both.given) in
    let other_given : Option ℕ = said_in given_margins stand unit (Some other.given) (Some both.given) in (
      first-says c.levelled_said-said.result.0 given some ∙ ap (λ (s : Option ℕ). option_or s given) says.0,
      first-says c.levelled_said-said.result.1 other_given some_other
          ∙ ap (λ (s : Option ℕ). option_or s other_given) says.1,
    )

pub returns : goal.returns
returns c near other both is are pair =
    let says = c.levelled_said-said.ensures (levelled_of near other both)
    (record { line_17 = is.levelled; line_18 = are.levelled; pair = pair.levelled }) in
    let given = c.pair_said-given.ensures (given_of near other both)
    (record { line_17 = (refl, is.given); line_18 = (refl, are.given); pair = (refl, pair.given) }) in (
      c.or.ensures ∙ (λ j. option_or (says.0 j) (given.0 j)),
      c.or-2.ensures ∙ (λ j. option_or (says.1 j) (given.1 j)),
    )
