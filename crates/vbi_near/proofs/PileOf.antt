-- What is said by a pile's own system and levels.
use Rattle.std.proofs.Common.{arith}
use Rattle.vbi_near.proofs.Common.{System, Slicing, Samples}
use Rattle.vbi_near.specs.{declared.pile.Pile.Pile, Pile.IsPileOf}
use Rattle.std.specs.Prelude.{List}

-- what is said of a pile's system and levels holds of those of its lines
pub by_lines : (is_said : System → Slicing → Type 0) (system : System) (slicing : Slicing) (lines : List Samples)
    (pile : Pile) → IsPileOf system slicing lines pile → is_said pile.system pile.levels → is_said system slicing
by_lines is_said system slicing lines pile is said = grind arith
