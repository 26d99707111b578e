use Rattle.std.proofs.Common.{◌-◌, arith, inl, inr, refl}
use Rattle.vbi_seek.specs.Neighbours.{span_of}
use Rattle.vbi_seek.proofs.Beside.{first_inside, looked_for}
use Rattle.vbi_seek.proofs.Answered.{found_at, first_sought}
use Rattle.vbi_seek.proofs.number_search.look_around.Goals as goal

pub returns-in-Some-clause-sought : goal.returns-in-Some-clause-sought
returns-in-Some-clause-sought c =
    let a = c.fields_around-around.result in
    let pace = c.judge_around-pace.result in
    let is = c.judge_around-pace.ensures in
    let found = found_at c.args.search.now a pace c.judge_around-pace.new.numbers c.in-Some.at
    (record { number = 0; state = 0 }) is.judged c.in-Some.ensures.first c.in-Some.ensures.known in
    record {
      few = omega (arith, is.counted, is.judged.window.few, c.requires.few);
      read = elim is.judged.window.read [
        | inl all ↦ inl (omega (arith, is.counted, all))
        | inr some ↦ inr (omega (arith, is.counted, some))
      ];
      inside = omega (arith, found.inside);
      found = λ inside. (
        pace,
        record {
          judged = (a.first, a.end - a.first, omega (arith, is.counted), found.judged);
          pace_is = refl;
          known = found.known;
          answer = found.answer;
          begins = found.begins;
        },
      );
      none = λ outside. absurd (omega (arith, found.inside, outside));
    }

pub returns-in-Some-clause-complete : goal.returns-in-Some-clause-complete
returns-in-Some-clause-complete c = λ t pace known placed.
    (first_sought c.args.search.now c.fields_around-around.result t pace c.judge_around-pace.result
    c.judge_around-pace.new.numbers c.judge_around-pace.ensures.judged known
    (c.fields_around-around.ensures.reached t placed t (omega arith) (omega arith) known.inside)).at c.in-Some.at
    c.in-Some.ensures.first

pub returns-in-None-clause-complete : goal.returns-in-None-clause-complete
returns-in-None-clause-complete c = λ t pace known placed.
    let is = c.fields_around-around.ensures in
    let found = first_sought c.args.search.now c.fields_around-around.result t pace c.judge_around-pace.result
    c.judge_around-pace.new.numbers c.judge_around-pace.ensures.judged known
    (is.reached t placed t (omega arith) (omega arith) known.inside) in
    absurd (elim (c.in-None.ensures.none refl) [
      | inl none ↦ found.there none
      | inr (begins, later) ↦ omega (arith, found.at 0 begins, is.early later, placed.from)
    ])

pub returns-in-Some-clause-beside : goal.returns-in-Some-clause-beside
returns-in-Some-clause-beside c =
    let search = c.args.search.now in
    let a = c.fields_around-around.result in
    let pace = c.judge_around-pace.result in
    let is = c.judge_around-pace.ensures in
    let beside = c.neighbours_among.ensures in (
      span_of pace a,
      looked_for search a pace c.judge_around-pace.new.numbers _ is.judged c.fields_around-around.ensures.wide
          (omega (arith, is.counted))
          (λ found.
          let at = first_inside search a pace c.judge_around-pace.new.numbers c.in-Some.at is.judged
          c.in-Some.ensures.first in
          (at.0, at.1, refl))
          (beside.before pace is.judged, beside.after pace is.judged),
      c.fields_around-around.ensures.reached,
    )

pub returns-in-None-clause-beside : goal.returns-in-None-clause-beside
returns-in-None-clause-beside c =
    let is = c.judge_around-pace.ensures in
    let beside = c.neighbours_among.ensures in (
      span_of c.judge_around-pace.result c.fields_around-around.result,
      looked_for c.args.search.now c.fields_around-around.result c.judge_around-pace.result
          c.judge_around-pace.new.numbers _ is.judged c.fields_around-around.ensures.wide (omega (arith, is.counted))
          (λ found. absurd (omega (arith, found)))
          (beside.before c.judge_around-pace.result is.judged, beside.after c.judge_around-pace.result is.judged),
      c.fields_around-around.ensures.reached,
    )
