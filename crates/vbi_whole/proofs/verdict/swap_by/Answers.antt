use Rattle.std.proofs.Common.{◌≡◌, refl, false, arith, sym, subst}
use Rattle.vbi_whole.specs.Swaps.{IsSwapTold}
use Rattle.vbi_whole.proofs.verdict.swap_by.Goals as goal

pub returns-in-None : goal.returns-in-None
returns-in-None c =
    let side = c.args.side.now in
    let swap = c.default-in-None.result in
    let field : swap.field ≡ 0 = grind (arith, c.default-in-None.ensures) in
    let unseen : swap.is_seen ≡ false = grind (arith, c.default-in-None.ensures) in
    subst (IsSwapTold side.rule side.seen.now side.numbers.now swap.field) (sym unseen)
    (field, λ pace slack. c.in-None.ensures.none refl)
