-- What the columns of some lines cost, as the program keeps it.
use Rattle.std.specs.Prelude.{◌≡◌, List}
use Rattle.vbi_near.specs.Common.{System, Slicing, Samples, IsPile, shades}
use Rattle.vbi_near.specs.declared.pile.Pile.{Pile}

-- the pile is of these lines
pub record IsPileOf (system : System) (slicing : Slicing) (lines : List Samples) (pile : Pile) : Type 0 where
  pub of_system : pile.system ≡ system
  pub of_levels : pile.levels ≡ slicing
  pub costs : IsPile pile.system pile.levels lines (shades pile.darks.now pile.lights.now)
