use Rattle.std.proofs.Common.{subst}
use Rattle.vbi_field.specs.Feed.{Finishes, Feeding}
use Rattle.vbi_field.proofs.FeedEnds.{finished}
use Rattle.vbi_field.proofs.feeder.Feeder.finish.Goals as goal

pub returns-clause-finishes : goal.returns-clause-finishes
returns-clause-finishes g c =
    let f = c.self.inside in
    let P : Feeding
    → Type 0 = λ f. Finishes g.W.Write.contents f c.args.outlet.now c.end.new.outlet c.end.result in
    subst P c.self.view_is (λ z s.
    finished g.W.Write.contents f.config f.line f.progress c.self.invariant _ _ z s.at c.held.result c.rest-rest.result
    c.held.ensures.count c.rest-rest.ensures c.looked.result c.end.result c.looked.ensures c.end.ensures.tail)
