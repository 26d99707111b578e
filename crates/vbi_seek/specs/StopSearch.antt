-- Seeking the next picture stop in the bytes of a side. A last field that is cut is left out.
use Rattle.std.specs.Prelude.{◌≡◌, ◌<◌, ◌≤◌, ◌+◌, ◌-◌, ℕ, min}
use Rattle.vbi_seek.specs.declared.side_bytes.FoundField.{FoundField}
use Rattle.vbi_side.specs.Stops.{IsJudgedStop}
use Rattle.vbi_seek.specs.FieldLines.{Side, lines_at}

-- field i of the side is answered a believed stop, by what is read of it with the nearest words of worn lines
abbrev pub HasStop : Side → ℕ → Type 0
HasStop side i = let lines = lines_at side i in IsJudgedStop lines.line_16 lines.line_17 1

-- the next stop is found: some fields of the side are looked at, from the first one on, no more than so many. The last
-- of them has a stop, and no other. Or none of all these has one, and the field is none of the side's
pub record IsNextStop (side : Side) (first most : ℕ) (stop : FoundField) : Type 0 where
  pub inside : stop.field ≤ side.count
  pub few : stop.looked ≤ min most (side.count - first)
  pub found : stop.field < side.count → (stop.field + 1 ≡ first + stop.looked) × HasStop side stop.field
  pub none : stop.field ≡ side.count → stop.looked ≡ min most (side.count - first)
  pub others : (i : ℕ) → i < stop.looked → first + i < stop.field → HasStop side (first + i) → ⊥
