use Rattle.vbi_seek.proofs.Beside.{beside_among, moves_down, moves_up}
use Rattle.vbi_seek.proofs.number_search.neighbours_among.Goals as goal

pub returns-clause-before : goal.returns-clause-before
returns-clause-before c = λ pace judged.
    beside_among _ moves_down c.args.search.now c.args.around.now pace c.args.numbers.now judged
    c.last_lower-before.result c.neighbour_at.result c.last_lower-before.ensures c.neighbour_at.ensures.none
    c.neighbour_at.ensures.some

pub returns-clause-after : goal.returns-clause-after
returns-clause-after c = λ pace judged.
    beside_among _ moves_up c.args.search.now c.args.around.now pace c.args.numbers.now judged
    c.first_higher-after.result c.neighbour_at-2.result c.first_higher-after.ensures c.neighbour_at-2.ensures.none
    c.neighbour_at-2.ensures.some
