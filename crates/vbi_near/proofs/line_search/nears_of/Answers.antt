use Rattle.std.proofs.Common.{ap, subst, sym, ◌∙◌}
use Rattle.vbi_near.proofs.Common.{System, Sums, Shades, shades, IsRowOf}
use Rattle.vbi_near.specs.Candidates.{HasNear, some_lines}
use Rattle.vbi_near.proofs.line_search.nears_of.Goals as goal

pub returns : goal.returns
returns c slicing lines pile =
    let costs : Shades = shades c.args.darks.now c.args.lights.now in
    subst (λ (s : System). HasNear (some_lines s c.args.number slicing lines) c.nears.result)
    (ap (λ (s : Sums). s.system) c.of.ensures.sums ∙ c.of-sums.ensures.system)
    (c.nears.ensures slicing lines costs
    (subst (λ (s : Sums). IsRowOf s slicing lines costs) (sym c.of.ensures.sums)
    (c.of-sums.ensures.row slicing lines pile)))
