use Rattle.std.proofs.Common.{◌++◌, ◌∷◌, [], sym, subst}
use Rattle.vbi_whole.specs.Types.{Tally}
use Rattle.vbi_whole.specs.Tallies.{AreTold, listed}
use Rattle.vbi_whole.proofs.Telling.{told_one}
use Rattle.vbi_whole.proofs.tally.Tally.with_written.Goals as goal

pub returns-clause-told : goal.returns-clause-told
returns-clause-told c = λ gaps unread old told.
    let one = c.args.one.gap in
    subst (λ (t : Tally). AreTold c.args.clock (listed (gaps ++ one ∷ []) unread) t old c.write.new.out)
    (sym c.with_gap.ensures)
    (told_one c.args.clock gaps unread c.args.self old c.args.out.now c.write.new.out one told c.write.ensures.there
    c.write.ensures.full)
