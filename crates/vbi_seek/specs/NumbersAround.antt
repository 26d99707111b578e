-- The fields that are judged around the place at which a number is looked for.
use Rattle.std.specs.Prelude.{◌≡◌, ◌≤◌, ◌+◌, ◌-◌, ◌*◌, ◌⊎◌, ℕ, List, take, drop}
use Rattle.vbi_side.specs.declared.number.Number.{Number}
use Rattle.vbi_side.specs.declared.pace.Pace as paces
use Rattle.vbi_side.specs.Beliefs.{reach}
use Rattle.vbi_side.specs.Numbers.{AreAnswers}
use Rattle.vbi_seek.specs.declared.number_search.Around.{Around}
use Rattle.vbi_seek.specs.declared.number_search.NumberSearch.{NumberSearch}
use Rattle.vbi_seek.specs.Asked.{IsAskedPace}
use Rattle.vbi_seek.specs.FieldLines.{side_of}
use Rattle.vbi_seek.specs.NumberSearch.{Numbers, shown_from, around_most}

-- the numbers of the side in which one is sought
abbrev pub numbers_of : NumberSearch → Numbers
numbers_of search = record { side = side_of search.side; judging = search.judging }

-- the number is looked for in some fields of those that are judged, which are all on which their answers depend, and
-- 72 at least, or all of the side
pub record IsWindow (count : ℕ) (around : Around) : Type 0 where
  pub order : (around.first ≤ around.from) × (around.from ≤ around.to) × (around.to ≤ around.end)
      × (around.end ≤ count)
  pub before : (around.first ≡ 0) ⊎ (around.first + 2 * reach ≤ around.from)
  pub after : (around.end ≡ count) ⊎ (around.to + 2 * reach ≤ around.end)
  pub few : around.end ≤ around.first + around_most
  pub read : (count ≤ around.end - around.first) ⊎ (72 ≤ around.end - around.first)

-- these are the answers of the fields that are judged
pub record IsJudgedAround (search : NumberSearch) (around : Around) (pace : paces.Pace) (numbers : List Number) : Type 0
  where
    pub window : IsWindow search.side.count around
    pub asked : IsAskedPace search.judging (shown_from (numbers_of search) around.first (around.end - around.first))
        pace
    pub answers : AreAnswers pace (shown_from (numbers_of search) around.first (around.end - around.first)) numbers

-- those of them that are of the fields in which the number is looked for
abbrev pub among : Around → List Number → List Number
among around numbers =
    take (around.to - around.first - (around.from - around.first)) (drop (around.from - around.first) numbers)
