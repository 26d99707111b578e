use Rattle.vbi_field.proofs.Common.{◌≡◌, ◌≤◌, length, refl, ap, arith, rules, Err}
use Rattle.vbi_field.proofs.FeedLoop.{taken_none, taken_more, taken_fault, taken_whole, fault_since}
use Rattle.vbi_field.specs.declared.summary.RunFault.TheVariants.{Failed}
use Rattle.vbi_field.proofs.feeder.Feeder.feed.Goals as goal

pub loop-at-init : goal.loop-at-init
loop-at-init g c = taken_none _ _ c.self.inside _ _ c.self.view_is c.if-self.false c.self.invariant

pub loop-at-preserved : goal.loop-at-preserved
loop-at-preserved g c =
    let e = c.in-Ok.ensures in
    let le : c.loop-at.at ≤ length c.args.piece.now = omega (arith, c.loop-at-test.true) in
    taken_more c.loop-at.invariant refl c.take_bytes.new.outlet _ _ _ c.take_bytes.ensures.step
    c.in-Ok.count
    c.in-Ok.is le e.some.1 e.same e.stand e.rises e.no_error

-- kept for time, with the next one: 1 s
pub returns-in-Err-clause-refused : goal.returns-in-Err-clause-refused
returns-in-Err-clause-refused g c =
    let t = c.loop-at.invariant.started in (
      λ failed. absurd (cc),
      λ e. let is : c.in-Err.fault ≡ Failed = cc in absurd (c.in-Err.ensures.never_failed (ap Err is)),
    )

pub returns-in-Err-clause-fault : goal.returns-in-Err-clause-fault
returns-in-Err-clause-fault g c =
    fault_since c.loop-at.invariant c.take_bytes.new.outlet c.in-Err.fault c.in-Err.ensures.fault

pub returns-in-Err-clause-feeds : goal.returns-in-Err-clause-feeds
returns-in-Err-clause-feeds g c = record {
  config = search rules;
  failed = search rules;
  fed = λ z s.
      taken_fault c.loop-at.invariant refl c.take_bytes.new.outlet c.take_bytes.new.line c.take_bytes.new.progress _
      c.take_bytes.ensures.step c.in-Err.fault c.in-Err.is z s;
}

pub returns-clause-feeds : goal.returns-clause-feeds
returns-clause-feeds g c = record {
  config = search rules;
  failed = search rules;
  fed = λ z s. taken_whole c.loop-at.invariant c.loop-at-test.false z s;
}
