use Rattle.vbi_near.proofs.Chosen.{near-word, start-few}
use Rattle.vbi_near.proofs.near.near_word.Goals as goal

pub returns-clause-near : goal.returns-clause-near
returns-clause-near c =
    near-word c.args.sums.now c.args.found c.requires.found c.longer_distance-longer.result
    c.shorter_distance-shorter.result c.blank.result c.or_none.result c.blank.ensures.value c.or_none.ensures
    c.longer_distance-longer.ensures c.shorter_distance-shorter.ensures

pub returns-clause-start : goal.returns-clause-start
returns-clause-start c =
    start-few c.args.sums.now.system c.args.found c.requires.found.before c.longer_distance-longer.result
    c.shorter_distance-shorter.result c.blank.result c.or_none.result c.or_none.ensures
