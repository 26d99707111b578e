use Rattle.vbi_line.proofs.Common.{◌≡◌, ◌+◌, ◌∷◌, ℕ, arith, sym, ap, ◌∙◌, length, subst, width_of, sample_at, levels_in}
use Rattle.vbi_line.proofs.Common.{line_bytes-twice, List, length-append}
use Rattle.std.proofs.lemmas.Grind.{common_steps}
use Rattle.vbi_line.proofs.Slicing.{Sliced, sliced_more, keeps_on, length-block, block_sliced, sliced_all}
use Rattle.vbi_line.proofs.lanes.slice_lanes.Goals as goal

pub loop-block-preserved : goal.loop-block-preserved
loop-block-preserved c =
    let old = c.loop-block in
    let now = old.invariant in
    let first = c.args.line.now in
    let new = c.next_block.new.self in
    let slicing = c.args.slicing in
    let low = c.greatest_low-low.result in
    let gives = c.in-Some.ensures.gives (length old.packed) first.cursors now.cursors in
    let more = levels_in 16 c.bits_above.result in
    let are = c.bits_above.ensures.levels in
    let long : length more ≡ 16 = length-block slicing old.packed low now.bytes gives are in
    let count : length c.push.new.self ≡ length old.packed + 16
    = omega (arith, ap length c.push.ensures, length-append old.packed more, long) in
    record {
      bytes = keeps_on first old.line new now.bytes gives.bytes;
      cursors = gives.cursors ∙ ap (λ (k : ℕ). k ∷ first.cursors) (sym count);
      looked = omega (arith, gives.looked, now.looked);
      inside = omega (arith, gives.inside, ap width_of now.bytes.system);
      blocks = omega (arith, now.blocks);
      sliced = subst (Sliced slicing first.held) (sym c.push.ensures)
          (block_sliced slicing old.packed low now.bytes gives are now.sliced c.greatest_low-low.ensures);
    }

pub returns-clause-levels : goal.returns-clause-levels
returns-clause-levels c =
    let old = c.loop-sample in
    let now = old.invariant in
    let first = c.args.line.now in
    let ended = (c.in_default-next_sample.ensures.gives (length old.packed) first.cursors now.cursors).0 in
    let long : length old.packed ≡ width_of first.system = ended ∙ ap width_of now.bytes.system in
    let full = c.requires.full ∙ line_bytes-twice first.system in
    sliced_all c.args.slicing first.held old.packed (width_of first.system) full long now.sliced

pub loop-sample-smaller : goal.loop-sample-smaller
loop-sample-smaller c =
    let looks = c.in-Some-next_sample.ensures.gives _ _ c.loop-sample.invariant.cursors in
    grind (arith, common_steps, looks)

pub loop-sample-preserved : goal.loop-sample-preserved
loop-sample-preserved c =
    let now = c.loop-sample.invariant in
    let looks = c.in-Some-next_sample.ensures.gives _ _ now.cursors in
    let first = c.args.line.now in
    let here : c.in-Some-next_sample.sample ≡ sample_at first.held (length c.loop-sample.packed)
    = looks.sample ∙ ap (λ (held : List ℕ). sample_at held (length c.loop-sample.packed)) now.bytes.held in
    let added = c.push-in-Some-next_sample.ensures in
    let count : length c.push-in-Some-next_sample.new.self ≡ length c.loop-sample.packed + 1
    = ap length added ∙ length-append c.loop-sample.packed _ in
    record {
      bytes = keeps_on _ _ _ now.bytes looks.bytes;
      cursors = looks.cursors ∙ ap (λ (k : ℕ). k ∷ c.args.line.now.cursors) (sym count);
      looked = omega (arith, looks.looked, now.looked, count);
      inside = omega (arith, looks.inside, ap width_of now.bytes.system, count);
      sliced = subst (Sliced c.args.slicing first.held) (sym added)
          (sliced_more c.args.slicing first.held c.loop-sample.packed _ now.sliced
          (λ k l. let first_one : k ≡ 0 = omega (arith, l) in grind (arith, here, c.greatest_low-low.ensures)));
    }
