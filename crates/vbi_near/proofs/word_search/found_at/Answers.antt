use Rattle.vbi_near.proofs.{Common.shades_of, BestBits.found_at_is}
use Rattle.vbi_near.proofs.word_search.found_at.Goals as goal

pub returns-clause-found : goal.returns-clause-found
returns-clause-found c =
    found_at_is (shades_of c.args.sums.now) c.args.sums.now.system c.args.start c.args.best c.requires.best
    c.around.result c.around.ensures.value
