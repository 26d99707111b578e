use Rattle.std.proofs.Common.{◌≡◌, None, arith}
use Rattle.vbi_seek.proofs.narrowing.narrow.Goals as goal

pub returns-in_default-clause-silent : goal.returns-in_default-clause-silent
returns-in_default-clause-silent c = λ same k n few inside tells.
    let none : c.probe-told.result.0 ≡ None = search (c.in_default.is) in
    c.probe-told.ensures.silent none k n (omega (arith, c.probe-told.ensures.all none, few, inside)) tells
