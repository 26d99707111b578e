use Rattle.vbi_line.proofs.Common.{arith, line_bytes, line_bytes-le}
use Rattle.vbi_line.proofs.Parts.{drop-part}
use Rattle.vbi_line.proofs.StoreMemory.{length-part}
use Rattle.vbi_line.proofs.line.LineBuf.commit.Goals as goal

pub returns-clause-room : goal.returns-clause-room
returns-clause-room c =
    let b = c.self.inside in
    let full = line_bytes-le b.system in
    let counted = length-part b.store.bytes b.held (line_bytes b.system) (omega arith) (omega arith) in
    let few = rw (← c.self.view_is) at c.requires in
    rw (← c.self.view_is) (drop-part b.store.bytes b.held (line_bytes b.system) c.args.n (omega arith))
