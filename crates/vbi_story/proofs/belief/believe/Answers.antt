use Rattle.vbi_story.specs.Story.{reading_at}
use Rattle.vbi_story.proofs.Believing.{order_at, alone_if, not_rivalled}
use Rattle.vbi_story.proofs.belief.believe.Goals as goal

pub returns : goal.returns
returns c = λ i inside.
    let readings = c.args.readings.now in
    let told = c.args.told.now in
    let bounds = c.args.bounds.now in
    let worth = c.args.worth in
    let is = c.requires.worth in
    let heavy = c.mark_groups.ensures.marks i inside in
    let held = c.unmark_runs.ensures.marks i inside in
    let alone = c.unmark_rivalled.ensures.marks i inside in (
      λ marked. let last = alone.0 marked in let run = held.0 last.0 in record {
        heavy = heavy.0 run.0;
        held = run.1;
        alone = alone_if readings told bounds worth is c.requires.most (reading_at told i) last.1;
      },
      λ believed. alone.1 (
        held.1 (heavy.1 believed.heavy, believed.held),
        not_rivalled readings told bounds worth is c.requires.reached (reading_at told i) believed.alone,
      ),
    )

pub unmark_rivalled-requires-clause-told_in_order : goal.unmark_rivalled-requires-clause-told_in_order
unmark_rivalled-requires-clause-told_in_order c = order_at c.args.told.now c.requires.story.ascends
