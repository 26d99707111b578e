use Rattle.std.proofs.Common.{◌≡◌, ℕ, Bool, true, false, refl, sym, ap, ◌∙◌, [], ◌∷◌}
use Rattle.std.specs.Option.{option_or}
use Rattle.std.specs.Prelude.{◌||◌, Option, Some, None, is_some, not}
use Rattle.vbi_near.specs.{Margins.given_margins, WordRule.said_of, WordRule.said_if, WordRule.is_said}
use Rattle.vbi_near.specs.{Lines.line_in, Candidates.given_samples, Candidates.given_line, Recovery.is_stretched}
use Rattle.vbi_near.proofs.OneSeen.{one_nears, one_stretched}
use Rattle.vbi_near.proofs.line_rule.is_confirmed.Goals.{then-is_none, else-is_none}
use Rattle.vbi_near.proofs.line_rule.is_confirmed.Goals as goal

-- what the other says counts if the first says nothing
given_says : (word : ℕ) (levelled given : Option ℕ) → is_some levelled ≡ false
    → is_said word given ≡ is_said word (option_or levelled given)
given_says word None given none = refl
given_says word (Some w) given none = cc

-- if the first says another word, nothing else counts
other_said : (word : ℕ) (levelled given : Option ℕ) → is_some levelled ≡ true → is_said word levelled ≡ false
    → false ≡ is_said word (option_or levelled given)
other_said word None given some not_said = cc
other_said word (Some w) given some not_said = sym not_said

either_true : (a b : Bool) → a ≡ true → a ≡ (a || b)
either_true true b e = refl
either_true false b e = cc

other_true : (a b : Bool) → a ≡ false → b ≡ (a || b)
other_true true b e = cc
other_true false b e = refl

pub returns-then-is_given : goal.returns-then-is_given
returns-then-is_given c near stretched is far =
    let line = line_in c.args.line.now in
    let unit = c.unit_of-unit.ensures.value in
    let levelled = c.said_levelled-levelled.ensures near.levelled is.levelled in
    let given = one_nears (given_line line) c.near_of_one-near.result near.given c.near_of_one-near.ensures is.given in
    let found = said_of c.unit_of-unit.result given_margins.lone 1 c.near_of_one-near.result in
    let says : c.if-is_none.is_given ≡ is_said c.args.word (option_or c.said_levelled-levelled.result found)
    = elim c.if-is_none.branch [
      | then-is_none w ↦ w.is_given-is ∙ w.is_said-is_given.ensures ∙ ap (is_said c.args.word) w.said_of.ensures
          ∙ given_says c.args.word c.said_levelled-levelled.result found (c.is_none.ensures ∙ ap not w.if-is_none.true)
      | else-is_none w ↦ w.is_given-is ∙ w.if-is_none.false ∙ other_said c.args.word c.said_levelled-levelled.result
          found (c.is_none.ensures ∙ ap not w.if-is_none.false) (sym c.is_said.ensures ∙ c.if-is_said.false)
    ] in
    let same = says
    ∙ (λ j. is_said c.args.word (option_or (levelled j) (said_of (unit j) given_margins.lone 1 (given j)))) in
    same ∙ either_true _ _ (sym same ∙ c.if-is_given.true)

pub returns-else-is_given : goal.returns-else-is_given
returns-else-is_given c near stretched is far =
    let line = line_in c.args.line.now in
    let unit = c.unit_of-unit.ensures.value in
    let levelled = c.said_levelled-levelled.ensures near.levelled is.levelled in
    let given = one_nears (given_line line) c.near_of_one-near.result near.given c.near_of_one-near.ensures is.given in
    let near_to = one_stretched line.system line.slicing (given_samples line.row ∷ []) c.args.word _ _
    c.stretched_of_one-stretched.ensures far in
    let found = said_of c.unit_of-unit.result given_margins.lone 1 c.near_of_one-near.result in
    let says : c.if-is_none.is_given ≡ is_said c.args.word (option_or c.said_levelled-levelled.result found)
    = elim c.if-is_none.branch [
      | then-is_none w ↦ w.is_given-is ∙ w.is_said-is_given.ensures ∙ ap (is_said c.args.word) w.said_of.ensures
          ∙ given_says c.args.word c.said_levelled-levelled.result found (c.is_none.ensures ∙ ap not w.if-is_none.true)
      | else-is_none w ↦ w.is_given-is ∙ w.if-is_none.false ∙ other_said c.args.word c.said_levelled-levelled.result
          found (c.is_none.ensures ∙ ap not w.if-is_none.false) (sym c.is_said.ensures ∙ c.if-is_said.false)
    ] in
    let same = says
    ∙ (λ j. is_said c.args.word (option_or (levelled j) (said_of (unit j) given_margins.lone 1 (given j)))) in
    c.is_stretched.ensures ∙ (λ j. is_stretched (unit j) (near_to j) c.args.word (given j).word)
    ∙ other_true _ _ (sym same ∙ c.if-is_given.false)
