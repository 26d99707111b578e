use Rattle.std.proofs.Common.{false}
use Rattle.vbi_side.proofs.Counting.{plain_clear, plain_runs}
use Rattle.vbi_c.specs.Types.{Video, Yes}
use Rattle.vbi_whole.proofs.WholeSides.{whole_clock}
use Rattle.vbi_c.proofs.SidesCalled.{found_on, as_found, said_whole}
use Rattle.vbi_c.proofs.whole_laws.called_whole.Goals as goal

pub returns-clause-by_clock : goal.returns-clause-by_clock
returns-clause-by_clock c disc place called is paced one runs clear =
    let said = said_whole disc place called Video 0 is paced (found_on called false is.answered paced one) in
    whole_clock disc place called.siding.numbering called.seen called.seen called.numbers called.ends
    (as_found called.side Yes said.0) said.1 runs clear

pub returns-clause-plain : goal.returns-clause-plain
returns-clause-plain c disc place called is paced one plain runs =
    let clock = called.siding.numbering.clock in
    returns-clause-by_clock c disc place called is paced one (plain_runs clock Video disc plain runs)
    (λ n at. plain_clear clock n plain, λ n at. plain_clear clock n plain)
