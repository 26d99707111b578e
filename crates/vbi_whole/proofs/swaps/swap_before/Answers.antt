use Rattle.std.proofs.Common.{◌∙◌, sym}
use Rattle.vbi_whole.specs.Gaps.{judged_in}
use Rattle.vbi_whole.proofs.Swapping.{search_at, none_between, swap_found, none_found, first_found}
use Rattle.vbi_whole.proofs.swaps.swap_before.Goals as goal

pub returns-else-goes_on_by-clause-none : goal.returns-else-goes_on_by-clause-none
returns-else-goes_on_by-clause-none c = λ e k swap same.
    let side = c.args.side.now in
    let at = search_at (judged_in side) c.args.field c.args.search c.in-Some.here c.requires.search c.in-Some.is in
    none_between side.rule.numbering.clock side.seen.now side.numbers.now c.args.field _ c.in-Some.here at.0
    c.in-Some-believed_at.ensures.some.1
    (sym (rw c.in-Some-believed_at.ensures.some.0 at c.goes_on_by.ensures) ∙ c.if-goes_on_by.false) k swap same

pub returns-then-goes_on_by-clause-some : goal.returns-then-goes_on_by-clause-some
returns-then-goes_on_by-clause-some c =
    let side = c.args.side.now in
    let at = search_at (judged_in side) c.args.field c.args.search c.in-Some.here c.requires.search c.in-Some.is in
    swap_found side.rule.numbering.clock side.seen.now side.numbers.now c.args.field _ c.in-Some.here
    c.args.search.stray at.0 c.in-Some-believed_at.ensures.some.1
    (sym (rw c.in-Some-believed_at.ensures.some.0 at c.goes_on_by.ensures) ∙ c.if-goes_on_by.true) at.1

pub returns-then-goes_on_by-clause-none : goal.returns-then-goes_on_by-clause-none
returns-then-goes_on_by-clause-none c =
    let side = c.args.side.now in
    let at = search_at (judged_in side) c.args.field c.args.search c.in-Some.here c.requires.search c.in-Some.is in
    none_found side.rule.numbering.clock side.seen.now side.numbers.now c.args.field _ c.in-Some.here
    c.args.search.stray at.0 c.in-Some-believed_at.ensures.some.1 at.1

pub returns-then-goes_on_by-clause-first : goal.returns-then-goes_on_by-clause-first
returns-then-goes_on_by-clause-first c =
    let side = c.args.side.now in
    let at = search_at (judged_in side) c.args.field c.args.search c.in-Some.here c.requires.search c.in-Some.is in
    first_found side.rule.numbering.clock side.seen.now side.numbers.now c.args.field _ c.in-Some.here
    c.args.search.stray at.0 c.in-Some-believed_at.ensures.some.1 at.1
