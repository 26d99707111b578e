-- What the buffer of a line is after its room was lent.
use Rattle.std.specs.Prelude.{ℕ, List, length}
use Rattle.std.specs.List.{refill}
use Rattle.std.specs.Borrow.{Lends, Fml, MutBor, Array, u8}
use Rattle.vbi_line.specs.Line.{Line}
use Rattle.vbi_line.specs.contracts.line.LineBuf.{the_row}

-- the line with w as its room
abbrev pub with_room : Line → List ℕ → Line
with_room l w = record l { room = refill (length l.room) l.room w }

-- once the borrow r ends, the room has what was written through r
abbrev pub LendsRoom : MutBor Line → MutBor (List ℕ) → Fml
LendsRoom l r = Lends the_row (Array u8 0) l r (with_room l.now)
