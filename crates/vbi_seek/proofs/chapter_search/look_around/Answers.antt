use Rattle.std.proofs.Common.{arith, refl}
use Rattle.vbi_seek.proofs.ChapterPlaces.{begins_on, first_inside, found_none, found_there, never_none}
use Rattle.vbi_seek.proofs.chapter_search.look_around.Goals as goal

pub returns-in-Some-clause-sought : goal.returns-in-Some-clause-sought
returns-in-Some-clause-sought c =
    let w = c.window_of-window.result in
    let window = c.window_of-window.ensures.window in
    let inside = c.in-Some.ensures.inside in
    record {
      few = omega (arith, c.judge_window.ensures.counted, c.window_of-window.ensures.few, c.requires.few);
      inside = omega (arith, window.order, inside);
      found = λ less. begins_on c.args.side.now w c.judge_window.new.chapters c.in-Some.at c.args.chapter window
          c.judge_window.ensures.judged inside.0 inside.1 c.in-Some.ensures.seen c.in-Some.ensures.begins;
      none = λ outside. absurd (omega (arith, window.order, inside, outside));
    }

pub returns-in-None-clause-sought : goal.returns-in-None-clause-sought
returns-in-None-clause-sought c =
    let w = c.window_of-window.result in
    let window = c.window_of-window.ensures.window in
    record {
      few = omega (arith, c.judge_window.ensures.counted, c.window_of-window.ensures.few, c.requires.few);
      inside = omega arith;
      found = λ less. absurd (omega (arith, less));
      none = λ outside. found_none c.args.side.now w c.judge_window.new.chapters c.args.chapter _ window
          c.judge_window.ensures.judged (omega (arith, c.judge_window.ensures.counted)) (c.in-None.ensures.none refl);
    }

pub returns-in-Some-clause-complete : goal.returns-in-Some-clause-complete
returns-in-Some-clause-complete c = λ t first placed.
    let side = c.args.side.now in
    let inside = c.in-Some.ensures.inside in
    found_there side c.window_of-window.result c.judge_window.new.chapters c.args.chapter t
    c.window_of-window.ensures.window c.judge_window.ensures.judged first
    (c.window_of-window.ensures.reached t (first_inside side t c.args.chapter first) placed) c.in-Some.at inside.0
    inside.1 c.in-Some.ensures.begins c.in-Some.ensures.passed

pub returns-in-None-clause-complete : goal.returns-in-None-clause-complete
returns-in-None-clause-complete c = λ t first placed.
    let side = c.args.side.now in
    absurd (never_none side c.window_of-window.result c.judge_window.new.chapters c.args.chapter t
    c.window_of-window.ensures.window c.judge_window.ensures.judged first
    (c.window_of-window.ensures.reached t (first_inside side t c.args.chapter first) placed)
    (c.in-None.ensures.none refl))
