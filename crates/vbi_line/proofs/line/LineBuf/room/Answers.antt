use Rattle.vbi_line.proofs.Common.{◌≡◌, [], ◌∷◌, length, refl, ap, arith, length-take-le, line_bytes, line_bytes-le}
use Rattle.std.proofs.Common.{take}
use Rattle.vbi_line.proofs.Parts.{take-with_part, part-with_part}
use Rattle.vbi_line.proofs.StoreMemory.{length-part}
use Rattle.vbi_line.proofs.line.LineBuf.room.Goals as goal

pub returns : goal.returns
returns c =
    let b = c.self.inside in
    let full = line_bytes-le b.system in
    let xs = b.store.bytes in
    let e = line_bytes b.system in
    let ends : c.line_bytes-end.result ≡ e = c.line_bytes-end.ensures in
    let lent = rw ends at c.part_mut.ensures.value in
    let held = length-take-le b.held xs (omega arith) in
    let room = length-part xs b.held e (omega arith) (omega arith) in
    let long = ap length lent in
    rw ends (
      (
        refl,
        λ w. rw (← c.self.view_is) (λ i. record {
          system = b.system;
          held = take-with_part xs b.held e w (omega arith) (omega arith) i;
          room = part-with_part xs b.held e w (omega arith) (omega arith) i;
          cursors = take b.passes (b.cursor ∷ b.earlier ∷ []);
          looked = b.looked;
        }),
      ),
      record {
        writes_back = tt;
        value = rw (← c.self.view_is) lent;
        fits = rw (← c.self.view_is) (omega arith);
      },
    )
