use Rattle.std.proofs.Common.{◌≡◌, ◌-◌, ◌+◌, ℕ, arith, subst, drop}
use Rattle.vbi_story.specs.Story.{picked}
use Rattle.vbi_story.specs.Working.{value_of, IsWay}
use Rattle.vbi_story.proofs.Walking.{way_step, way_end}
use Rattle.vbi_story.proofs.walk.walk_back.Goals as goal

pub loop-place-preserved : goal.loop-place-preserved
loop-place-preserved c = record {
  inside = omega arith;
  way = λ readings values same judged.
      let i = c.loop-place.place - 1 in
      let next : c.loop-place.place ≡ i + 1 = omega arith in
      let marks = c.loop-place.marks in
      way_step readings values c.args.origins.now marks (value_of values c.args.last) i c.loop-place.at c.past-at.result
      c.is_here-here.result (omega arith) (omega arith) judged c.is_here-here.ensures
      (rw c.place_in.ensures at c.past-at.ensures.here)
      c.past-at.ensures.other
      (subst (λ (k : ℕ). IsWay readings values (value_of values c.args.last) k c.loop-place.at
      (picked (drop k readings) (drop k marks))) next (c.loop-place.invariant.way readings values same judged));
}

pub returns : goal.returns
returns c = λ readings values same judged.
    let none : c.loop-place.place ≡ 0 = omega arith in
    way_end readings values (value_of values c.args.last) c.loop-place.at _
    (subst (λ (k : ℕ). IsWay readings values (value_of values c.args.last) k c.loop-place.at
    (picked (drop k readings) (drop k c.loop-place.marks))) none
    (c.loop-place.invariant.way readings values same judged))
