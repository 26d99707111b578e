use Rattle.std.proofs.Common.{◌≡◌, ℕ, ◌<◌, ◌∷◌, [], ◌++◌, List, true, map, take, subst, ap, sym, ◌∙◌, arith}
use Rattle.std.proofs.lemmas.List.{take_more_set, length-set}
use Rattle.vbi_near.proofs.Common.{samples_of, Samples, known_but, unit_of}
use Rattle.vbi_near.proofs.{PiledRows.rows-next, PiledRows.each-swings, AskedLines.levelled_as}
use Rattle.vbi_near.specs.Candidates.{Row, Line, levelled_samples, swing_in, has_swing}
use Rattle.vbi_near.specs.PileRule.{rows_in, are_all_alike, swing_alike}
use Rattle.vbi_near.specs.{Lines.line_in_rows, Lines.row_at, LevelledLines.levelled_slicing, Pile.IsPileOf}
use Rattle.vbi_near.proofs.pile_rule.levelled_near_of_all.Goals as goal

pub loop-line-preserved : goal.loop-line-preserved
loop-line-preserved c =
    let rows = c.args.rows.now in
    let system = rows.system in
    let levels = rows.levels in
    let line = c.loop-line.line in
    let rows_to : ℕ → List Row = rows_in system rows.bytes.now rows.erased.now in
    let here : has_swing system levels (row_at rows line) ≡ true
    → known_but c.line-row.result.erased.now (samples_of c.level_row.new.out)
    ≡ levelled_samples system levels (row_at rows line)
    = λ swings. ap (λ (l : Line). known_but l.row.erased (samples_of c.level_row.new.out)) c.line-row.ensures
    ∙ sym (levelled_as (line_in_rows rows c.args.number line) _ c.level_row.new.out c.line-row.ensures
    c.level_row.ensures.levelled swings) in
    record {
      levelled_room = c.level_row.auto.out ∙ c.loop-line.invariant.levelled_room;
      swings = take_more_set c.loop-line.swings line c.level_row.result (omega (
        arith,
        c.loop-line-test.true,
        c.loop-line.auto.line-end,
        c.requires,
        c.loop-line.invariant.swings_room,
      ))
          ∙ ap (λ (some : List ℕ). some ++ c.level_row.result ∷ []) c.loop-line.invariant.swings
          ∙ ap (λ (swing : ℕ). map (swing_in system levels) (rows_to line) ++ swing ∷ []) (c.level_row.ensures.swing
          ∙ ap (λ (l : Line). swing_in l.system l.slicing l.row) c.line-row.ensures)
          ∙ sym (rows-next (swing_in system levels) system rows.bytes.now rows.erased.now line);
      swings_room = length-set c.loop-line.swings line c.level_row.result ∙ c.loop-line.invariant.swings_room;
      system = c.add.ensures.system ∙ c.loop-line.invariant.system;
      pile = λ each. subst (λ (lines : List Samples). IsPileOf system levelled_slicing lines c.add.new.self)
          (ap (λ (l : Samples). map (levelled_samples system levels) (rows_to line) ++ l ∷ [])
          (here (each line (omega arith)))
          ∙ sym (rows-next (levelled_samples system levels) system rows.bytes.now rows.erased.now line))
          (c.add.ensures.line system levelled_slicing (map (levelled_samples system levels) (rows_to line))
          (c.loop-line.invariant.pile (λ i inside. each i (omega (arith, inside)))));
      count = omega (arith, c.add.ensures.count, c.loop-line.invariant.count);
    }

pub returns-then-swing_alike : goal.returns-then-swing_alike
returns-then-swing_alike c =
    let rows = c.args.rows.now in
    let system = rows.system in
    let levels = rows.levels in
    let rows_to : ℕ → List Row = rows_in system rows.bytes.now rows.erased.now in
    let e : c.loop-line.line ≡ rows.count = omega (arith, c.loop-line-test.false, c.loop-line.auto.line-end) in
    let swings : take rows.count c.loop-line.swings ≡ map (swing_in system levels) (rows_to rows.count)
    = subst (λ (n : ℕ). take n c.loop-line.swings ≡ map (swing_in system levels) (rows_to n)) e
    c.loop-line.invariant.swings in
    let alike : are_all_alike system levels (rows_to rows.count) ≡ true
    = ap (λ (list : List ℕ). swing_alike (unit_of levels) list) (sym swings)
    ∙ ap (λ (unit : ℕ). swing_alike unit (take rows.count c.loop-line.swings)) (sym c.unit_of.ensures.value)
    ∙ sym c.swing_alike.ensures ∙ c.if-swing_alike.true in
    let pile : IsPileOf system levelled_slicing (map (levelled_samples system levels) (rows_to rows.count))
    c.loop-line.pile
    = subst (λ (n : ℕ). ((i : ℕ) → i < n → has_swing system levels (row_at rows i) ≡ true)
    → IsPileOf system levelled_slicing (map (levelled_samples system levels) (rows_to n)) c.loop-line.pile) e
    c.loop-line.invariant.pile
    (each-swings system levels rows.bytes.now rows.erased.now rows.count alike) in
    (alike, c.nears.ensures system levelled_slicing (map (levelled_samples system levels) (rows_to rows.count)) pile)
