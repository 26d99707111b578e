use Rattle.std.proofs.Common.{refl, sym, ◌∙◌}
use Rattle.std.specs.Prelude.{None}
use Rattle.vbi_near.proofs.{Common.Shades, Common.shades_of, Costs.blank-cost, HalvedRows.halved-by, Piles.far-same}
use Rattle.vbi_near.proofs.line_search.LineSearch.of.Goals as goal

pub returns-clause-word : goal.returns-clause-word
returns-clause-word c =
    let system = c.args.sums.system in
    let sums : Shades = shades_of c.args.sums in
    let word = c.near_word-word.result in
    record {
      word = λ slicing lines costs row. record {
        nearest = c.near_word-word.ensures.near slicing lines costs row;
        none = c.blank.ensures.value ∙ sym (blank-cost costs sums system row.both)
            ∙ far-same system slicing lines costs row.pile None 0 refl;
        half = c.halved_distance.ensures
            ∙ halved-by system slicing lines costs sums row.pile row.both word word.word
            c.near_word-word.ensures.place;
      };
      place = c.near_word-word.ensures.place;
    }
