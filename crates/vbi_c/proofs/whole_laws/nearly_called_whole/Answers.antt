use Rattle.std.proofs.Common.{true, false, lit≤}
use Rattle.vbi_side.proofs.Counting.{plain_clear, plain_runs, plain_counts}
use Rattle.vbi_c.specs.Types.{Video, Film, Yes}
use Rattle.vbi_whole.proofs.WholeSides.{yes_of_both, yes_of_film, yes_anywhere}
use Rattle.vbi_c.proofs.SidesCalled.{found_at, found_on, as_found, said_whole}
use Rattle.vbi_c.proofs.whole_laws.nearly_called_whole.Goals as goal

pub returns-clause-both : goal.returns-clause-both
returns-clause-both c disc place called is paced on counts clear =
    let said = said_whole disc place called Video 1 is paced (found_on called true is.answered paced on) in
    yes_of_both disc place 1 called.siding.numbering called.seen called.seen called.numbers called.ends
    (as_found called.side Yes said.0) said.1 (lit≤ tt) counts clear

pub returns-clause-film : goal.returns-clause-film
returns-clause-film c disc place called is paced runs clear =
    let said = said_whole disc place called Film 0 is paced (found_at called Film is.answered paced) in
    yes_of_film disc place 0 called.siding.numbering called.seen called.seen called.numbers called.ends
    (as_found called.side Yes said.0) said.1 runs clear

pub returns-clause-anywhere : goal.returns-clause-anywhere
returns-clause-anywhere c disc place called is paced one runs =
    let said = said_whole disc place called Video 0 is paced (found_on called false is.answered paced one) in
    let (m, n, here, there, lost) = yes_anywhere disc place called.siding.numbering called.seen called.seen
    called.numbers called.ends (as_found called.side Yes said.0) said.1 runs in
    (m, n, lost.0, lost.1, lost.2, here, there, lost.3, lost.4, lost.5, lost.6)

pub returns-clause-both_plain : goal.returns-clause-both_plain
returns-clause-both_plain c disc place called is paced on plain counts =
    let clock = called.siding.numbering.clock in
    returns-clause-both c disc place called is paced on (plain_counts clock 1 disc plain counts)
    (λ n at. plain_clear clock n plain, λ n at. plain_clear clock n plain)

pub returns-clause-film_plain : goal.returns-clause-film_plain
returns-clause-film_plain c disc place called is paced plain runs =
    let clock = called.siding.numbering.clock in
    returns-clause-film c disc place called is paced (plain_runs clock Film disc plain runs)
    (λ n at. plain_clear clock n plain, λ n at. plain_clear clock n plain)
