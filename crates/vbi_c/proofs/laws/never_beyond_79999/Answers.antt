use Rattle.std.proofs.Common.{sym, ◌∙◌, subst}
use Rattle.std.specs.Prelude.{Some, length, ◌==◌}
use Rattle.vbi_words.specs.Codes.{IsBetween}
use Rattle.vbi_near.specs.Distances.{unit_of}
use Rattle.vbi_near.specs.LevelledLines.{levelled_unit}
use Rattle.vbi_near.specs.PileRule.{pile_margins}
use Rattle.vbi_near.proofs.NeverBeyond.{two-within}
use Rattle.vbi_c.proofs.NoneBeyond.{lines-within, said-within}
use Rattle.vbi_c.proofs.laws.never_beyond_79999.Goals as goal

pub returns-clause-lines : goal.returns-clause-lines
returns-clause-lines c = lines-within

pub returns-clause-pile : goal.returns-clause-pile
returns-clause-pile c setup line known rows answer (said, (near, are, g), e) x =
    said-within said
    (λ word f. two-within levelled_unit (unit_of setup.levels) (pile_margins (known == 1)) (length rows) near.levelled
    (Some near.given) word
    (sym f ∙ g)) (subst (IsBetween 0xF80000 0xFF9999) e x)
