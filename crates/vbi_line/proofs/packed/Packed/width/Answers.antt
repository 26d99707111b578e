use Rattle.std.proofs.Common.{sym}
use Rattle.vbi_line.proofs.Packs.{length-unpacked}
use Rattle.vbi_line.proofs.packed.Packed.width.Goals as goal

pub returns : goal.returns
returns c = rw (← c.self.view_is) (sym (length-unpacked c.self.inside.words c.self.inside.width))
