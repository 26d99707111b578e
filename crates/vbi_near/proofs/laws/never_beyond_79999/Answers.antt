use Rattle.std.specs.Prelude.{Some, length}
use Rattle.vbi_near.proofs.{Common.unit_of, NeverBeyond.field-within, NeverBeyond.two-within}
use Rattle.vbi_near.specs.{LevelledLines.levelled_unit, PileRule.pile_margins}
use Rattle.vbi_near.proofs.laws.never_beyond_79999.Goals as goal

pub returns-clause-field : goal.returns-clause-field
returns-clause-field c = field-within

pub returns-clause-pile : goal.returns-clause-pile
returns-clause-pile c system number slicing known rows word (near, are, e) x =
    two-within levelled_unit (unit_of slicing) (pile_margins known) (length rows) near.levelled (Some near.given) word
    e x
