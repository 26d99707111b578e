use Rattle.std.proofs.Common.{◌∙◌}
use Rattle.vbi_near.proofs.{Common.shades_of, HalvedRows.halved-by}
use Rattle.vbi_near.proofs.line_search.LineSearch.nears.Goals as goal

pub returns : goal.returns
returns c slicing lines costs row =
    let sums = c.args.self.now.sums in
    let has = c.requires.word slicing lines costs row in
    let code = c.near_code-code.ensures.near slicing lines costs row in
    let other = c.near_code-code.result in
    record {
      nearest = has.nearest.nearest;
      first = has.nearest.first;
      longer = has.nearest.longer;
      shorter = has.nearest.shorter;
      code = code.nearest;
      code_first = code.first;
      code_longer = code.longer;
      code_shorter = code.shorter;
      blank = has.none;
      word_halved = has.half;
      code_halved = c.halved_distance.ensures
          ∙ halved-by sums.system slicing lines costs (shades_of sums) row.pile row.both other other.word
          c.near_code-code.ensures.place;
    }
