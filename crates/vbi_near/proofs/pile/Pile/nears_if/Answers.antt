use Rattle.std.proofs.Common.{ap, subst, sym, ◌∙◌}
use Rattle.vbi_near.proofs.Common.{System, Slicing, Sums, Shades, shades, IsRowOf}
use Rattle.vbi_near.proofs.PileOf.{by_lines}
use Rattle.vbi_near.specs.{Candidates.some_lines, Silence.HasNearUnlessSilent}
use Rattle.vbi_near.proofs.pile.Pile.nears_if.Goals as goal

pub returns : goal.returns
returns c system slicing lines is =
    let self = c.args.self.now in
    let costs : Shades = shades self.darks.now self.lights.now in
    let near : System → Slicing → Type 0
    = λ s l. HasNearUnlessSilent c.args.margins.now self.count (some_lines s c.args.number l lines) c.nears_if.result in
    by_lines near system slicing lines self is
    (subst (λ (s : System). near s self.levels)
    (ap (λ (s : Sums). s.system) c.of-sought.ensures.sums ∙ c.of-sums.ensures.system)
    (c.nears_if.ensures self.levels lines costs c.unit_of.ensures.value
    (subst (λ (s : Sums). IsRowOf s self.levels lines costs) (sym c.of-sought.ensures.sums)
    (c.of-sums.ensures.row self.levels lines is.costs))))
