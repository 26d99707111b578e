use Rattle.std.proofs.Common.{arith, sym, ap, ◌∙◌, ◌<◌, ◌/◌, ◌%◌, ℕ, nat_eq, slice_index}
use Rattle.std.proofs.lemmas.Nat.Bits.{shr_and_one}
use Rattle.vbi_line.proofs.Packs.{length-unpacked, level_unpacked}
use Rattle.vbi_line.proofs.packed.Packed.level.Goals as goal

pub bounds-self-inside-column : goal.bounds-self-inside-column
bounds-self-inside-column c =
    let long = length-unpacked c.self.inside.words c.self.inside.width in
    let within = rw (← c.self.view_is) at c.requires in
    omega arith

pub returns : goal.returns
returns c =
    let long = length-unpacked c.self.inside.words c.self.inside.width in
    let within = rw (← c.self.view_is) at c.requires in
    let inside : c.args.column < c.self.inside.width = omega arith in
    rw (← c.self.view_is) (
    ap (λ (x : ℕ). nat_eq x 1) (shr_and_one (slice_index c.self.inside.words (c.args.column / 64)) (c.args.column % 64))
    ∙ sym (level_unpacked c.self.inside.words c.self.inside.width c.args.column inside))
