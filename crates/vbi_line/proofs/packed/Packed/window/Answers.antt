use Rattle.std.proofs.Common.{◌/◌, ◌^◌, ◌<◌, slice_index, rules}
use Rattle.vbi_line.proofs.Windows.{window_one, window_two}
use Rattle.vbi_line.proofs.packed.Packed.window.Goals as goal

pub returns-then-place-eq0 : goal.returns-then-place-eq0
returns-then-place-eq0 c =
    let b = c.self.inside in
    rw (← c.self.view_is)
    (window_one b.words b.width c.args.column c.self.invariant.rest c.requires c.if-place-eq0.true)

pub returns-else-place-eq0 : goal.returns-else-place-eq0
returns-else-place-eq0 c =
    let b = c.self.inside in
    let small : slice_index b.words (c.args.column / 64) < 2 ^ 64 = search rules in
    rw (← c.self.view_is)
    (window_two b.words b.width c.args.column c.self.invariant.rest c.requires c.if-place-eq0.false small)
