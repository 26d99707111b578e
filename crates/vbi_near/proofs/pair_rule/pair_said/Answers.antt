use Rattle.std.proofs.Common.{◌≡◌, ℕ, subst, rules}
use Rattle.std.specs.Prelude.{Option, None}
use Rattle.vbi_near.proofs.{Common.Nears, Common.Slicing, Common.unit_of, OneSeen.one_near_if, AskedLines.pair-silent}
use Rattle.vbi_near.specs.{declared.word_rule.PairNears.PairNears, Lines.row_in, Lines.line_in, Candidates.given_line}
use Rattle.vbi_near.specs.{Candidates.given_pair, PairRule.SayInPair, Silence.HasNearIfUnlessSilent, WordRule.said_if}
use Rattle.vbi_near.proofs.pair_rule.pair_said.Goals as goal

pub returns-then-is_silent-2 : goal.returns-then-is_silent-2
returns-then-is_silent-2 c near has =
    let pair = c.args.pair.now in
    let unit = unit_of pair.second.levels in
    let margins = c.args.margins.now in
    let none : c.both_if-both.result ≡ None = search rules in
    let together = subst (λ (found : Option Nears). HasNearIfUnlessSilent margins.both 2
    (given_pair (line_in pair.second) (row_in pair.third)) c.args.asked.both found) none
    c.both_if-both.ensures near.both has.pair in
    let by_itself = c.is_silent.ensures c.if-is_silent.true near.second has.line_17 in
    let beside = subst (λ (levels : Slicing). said_if (unit_of levels) margins.apart 1 near.third ≡ None)
    pair.levels (c.is_silent-then-is_silent.ensures c.if-is_silent-2.true near.third has.line_18) in (
      pair-silent margins unit near near.second together by_itself,
      pair-silent margins unit near near.third together beside,
    )

pub returns : goal.returns
returns c near has =
    let pair = c.args.pair.now in
    let asked = c.args.asked in
    let a = one_near_if (given_line (line_in pair.second)) asked.second _ near.second c.near_if.ensures has.line_17 in
    let b = one_near_if (given_line (line_in pair.third)) asked.third _ near.third c.near_if-2.ensures has.line_18 in
    let e = one_near_if (given_pair (line_in pair.second) (row_in pair.third)) asked.both _ near.both
    c.both_in_any_case.ensures has.pair in
    let margins = c.args.margins.now in
    let found_to : PairNears
    = record { second = c.near_if.result; third = c.near_if-2.result; both = c.both_in_any_case.result } in
    let same : found_to ≡ near = λ j. record { second = a j; third = b j; both = e j } in
    subst (λ (n : PairNears). SayInPair margins (unit_of pair.second.levels) n c.said_by_pair.result) same
    (subst (λ (unit : ℕ). SayInPair margins unit found_to c.said_by_pair.result) c.unit_of.ensures.value
    c.said_by_pair.ensures)
