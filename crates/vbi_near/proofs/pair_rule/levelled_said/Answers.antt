use Rattle.std.proofs.Common.{◌≡◌, [], ◌∷◌, refl, sym, ◌∙◌, ap, subst}
use Rattle.vbi_near.proofs.Common.{samples_of, Samples, known_but, unit_of}
use Rattle.vbi_near.proofs.AskedLines.{same_if, levelled_as, swing_each}
use Rattle.vbi_near.specs.Candidates.{Line, line_of, row_of, some_lines, has_swing, swing_in, are_alike, are_alike_by}
use Rattle.vbi_near.specs.{declared.pair_rule.AskedLines.AskedLines, LevelledLines.levelled_slicing}
use Rattle.vbi_near.specs.{LevelledLines.is_swing}
use Rattle.vbi_near.specs.{Margins.levelled_margins, Lines.line_in, PairRule.HaveNear, PairRule.SayInPair}
use Rattle.vbi_near.proofs.pair_rule.levelled_said.Goals as goal

pub returns : goal.returns
returns c near has =
    let pair = c.args.pair.now in
    let line = line_in pair.second in
    let other = line_in pair.third in
    let beside_line = line_of line.system other.number line.slicing other.row in
    let same : other ≡ beside_line = λ j. line_of (pair.system j) other.number (pair.levels j) other.row in
    let unit = sym c.unit_of-unit.ensures.value in
    let swing = sym c.level_row-swing.ensures.swing in
    let other_swing = sym c.level_row-other_swing.ensures.swing in
    let swings : has_swing line.system line.slicing line.row ≡ c.is_swing.result
    = (λ j. is_swing (unit j) (swing j)) ∙ sym c.is_swing.ensures in
    let other_swings : has_swing other.system other.slicing other.row ≡ c.is_swing-2.result
    = (λ j. is_swing ((ap unit_of pair.levels ∙ unit) j) (other_swing j)) ∙ sym c.is_swing-2.ensures in
    let beside_swing : swing_in line.system line.slicing other.row ≡ c.level_row-other_swing.result
    = ap (λ (l : Line). swing_in l.system l.slicing l.row) (sym same) ∙ other_swing in
    let alike : are_alike line.system line.slicing line.row other.row ≡ c.are_alike.result
    = (λ j. are_alike_by (unit j) (swing j) (beside_swing j)) ∙ sym c.are_alike.ensures in
    let samples : Samples = known_but line.row.erased (samples_of c.level_row-swing.new.out) in
    let beside : Samples = known_but other.row.erased (samples_of c.level_row-other_swing.new.out) in
    let a = levelled_as line line c.level_row-swing.new.out refl c.level_row-swing.ensures.levelled in
    let b = levelled_as other other c.level_row-other_swing.new.out refl c.level_row-other_swing.ensures.levelled in
    let d = levelled_as beside_line other c.level_row-other_swing.new.out same
    c.level_row-other_swing.ensures.levelled in
    let one = same_if _ c.is_swing.result _ (some_lines line.system line.number levelled_slicing (samples ∷ []))
    near.second swings
    (λ is. ap (λ (l : Samples). some_lines line.system line.number levelled_slicing (l ∷ [])) (a (swings ∙ is)))
    has.line_17 in
    let two = same_if _ c.is_swing-2.result _ (some_lines other.system other.number levelled_slicing (beside ∷ []))
    near.third other_swings
    (λ is. ap (λ (l : Samples). some_lines other.system other.number levelled_slicing (l ∷ [])) (b (other_swings ∙ is)))
    has.line_18 in
    let together = same_if _ c.are_alike.result _
    (some_lines line.system line.number levelled_slicing (samples ∷ beside ∷ [])) near.both alike
    (λ is. let each = swing_each (unit_of line.slicing) (swing_in line.system line.slicing line.row)
    (swing_in line.system line.slicing other.row) (alike ∙ is) in
    λ j. some_lines line.system line.number levelled_slicing (a each.0 j ∷ d each.1 j ∷ [])) has.pair in
    let asked : AskedLines
    = record { second = c.is_swing.result; third = c.is_swing-2.result; both = c.are_alike.result } in
    let found = line_of line.system line.number levelled_slicing
    (row_of c.level_row-swing.new.out line.row.erased) in
    subst (λ (l : Line). SayInPair levelled_margins (unit_of l.slicing) near c.pair_said.result) c.as_levelled.ensures
    (c.pair_said.ensures near
    (subst (λ (l : Line). HaveNear l (line_in c.as_levelled-2.result) asked near) (sym c.as_levelled.ensures)
    (subst (λ (l : Line). HaveNear found l asked near) (sym c.as_levelled-2.ensures)
    (record { line_17 = one; line_18 = two; pair = together }))))
