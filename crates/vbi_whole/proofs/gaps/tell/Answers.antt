use Rattle.std.proofs.Common.{◌≡◌, ℕ, suc, ◌+◌, sym, ap, subst, arith}
use Rattle.std.specs.Prelude.{Some, nat_lt}
use Rattle.vbi_whole.specs.Gaps.{gap_of, ended_between, judged_in, amid}
use Rattle.vbi_whole.specs.Tallies.{AreTelling, IsTelling, listed, stage_of}
use Rattle.vbi_whole.proofs.Telling.{told_on, told_gap, go_on}
use Rattle.vbi_whole.proofs.gaps.tell.Goals as goal

pub returns-in-None : goal.returns-in-None
returns-in-None c = λ old neighbours since told.
    let here = c.args.pair.here in
    let there = c.args.pair.there in
    let rule = c.args.side.now.rule in
    let judged = judged_in c.args.side.now in
    let after = stage_of c.with_unread.result in
    let next : suc there.field ≡ there.field + 1 = omega arith in
    let between = amid (nat_lt (here.field + c.args.walk.since + 1) there.field) c.shown_between.result in
    let near = go_on rule between here there (sym c.in-None.ensures) in
    let telling = subst (λ (n : ℕ). AreTelling rule (listed told.gaps (told.unread + n)) after old c.args.out.now)
    c.skipped-more.ensures (c.with_unread.ensures rule told.gaps told.unread old c.args.out.now told.telling) in
    subst (λ k. IsTelling judged k after old c.args.out.now) next
    (told_on judged here there (stage_of c.args.walk.telling) after old c.args.out.now neighbours near told telling)

pub returns-in-Some : goal.returns-in-Some
returns-in-Some c = λ old neighbours since told.
    let here = c.args.pair.here in
    let there = c.args.pair.there in
    let rule = c.args.side.now.rule in
    let judged = judged_in c.args.side.now in
    let after = stage_of c.with_gap.result in
    let next : suc there.field ≡ there.field + 1 = omega arith in
    let ended = subst (λ b. gap_of rule (amid b c.shown_between.result) here there ≡ Some c.in-Some.gap)
    (ap (λ (n : ℕ). nat_lt (here.field + n + 1) there.field) since) (sym c.in-Some.ensures) in
    let found = subst (λ s. gap_of rule
    (amid (ended_between c.args.side.now.ends.now here.field there.field) s) here there
    ≡ Some c.in-Some.gap) c.shown_between.ensures ended in
    subst (λ k. IsTelling judged k after old c.with_gap.new.out) next
    (told_gap judged here there c.in-Some.gap (stage_of c.args.walk.telling) after old c.args.out.now
    c.with_gap.new.out neighbours found told (c.with_gap.ensures told.gaps told.unread old told.telling))
