-- The nearest word of some lines, before their nearest code is sought.
use Rattle.std.specs.Prelude.{◌≡◌, List, None}
use Rattle.vbi_near.specs.Common.{System, Slicing, IsPlace, Samples, Shades}
use Rattle.vbi_near.specs.{declared.word_rule.Nearest.Nearest, declared.line_search.LineSearch.LineSearch}
use Rattle.vbi_near.specs.{Nearest.far_from}
use Rattle.vbi_near.specs.{HalvedSignal.IsHalved, Rows.IsRowOf, Rows.IsNearWord}

-- the nearest word of some lines, how far they are from the row of no word, and from the nearer row of half of it
pub record HasWord (system : System) (slicing : Slicing) (lines : List Samples) (word : Nearest) : Type 0 where
  pub nearest : IsNearWord system slicing lines word.near
  pub none : word.blank ≡ far_from system slicing lines None 0
  pub half : IsHalved system slicing lines word.near word.halved

-- the nearest word of the lines with these sums was found
pub record IsSought (sought : LineSearch) : Type 0 where
  pub word : (slicing : Slicing) (lines : List Samples) (costs : Shades) → IsRowOf sought.sums slicing lines costs
      → HasWord sought.sums.system slicing lines sought.word
  pub place : IsPlace sought.sums.system sought.word.near.word sought.word.near.start
