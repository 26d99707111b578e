use Rattle.std.proofs.Common.{◌≡◌, Bool, map, ap, subst, sym, ◌∙◌, rules}
use Rattle.std.specs.Prelude.{Result, IfOk}
use Rattle.vbi_c.specs.Types.{Judging, Refusal, Pace}
use Rattle.vbi_c.specs.Judging.{AreJudged, seen_in, with_pace, with_lengths}
use Rattle.vbi_c.specs.Numbers.{counted_of, asked_of, system_of}
use Rattle.vbi_side.proofs.Filling.{answers_sound, answers_sound_still, answers_due_sound}
use Rattle.vbi_c.proofs.Judged.{read_sound}
use Rattle.vbi_c.proofs.judging.ldvbi_judge.Goals as goal

pub returns : goal.returns
returns c =
    let readings = c.args.readings.now in
    let seen = c.see_all.new.seen in
    let numbers = c.judge.new.numbers in
    let Judges : Result Judging Refusal → Type 0
    = λ found. IfOk found (λ judging. (seen ≡ map (seen_in judging) readings)
    × (pace : Pace) × AreJudged judging readings seen numbers pace) in
    let answers = c.judge.ensures in
    let pace = c.pace_for.result in
    let asked : Bool → Result Judging Refusal
    = λ fit. with_pace (with_lengths (system_of c.args.system) fit) (counted_of c.args.counted) (asked_of c.args.pace)
    in
    record {
      judges = record {
        status_is = search rules;
        does = subst Judges (sym c.in-Ok.is ∙ c.judging_of.ensures ∙ ap asked c.are_as_long-fit.ensures) (
          c.see_all.ensures,
          pace,
          record {
            pace_is = c.pace_for.ensures;
            answers = answers;
            read = read_sound c.in-Ok.found readings seen numbers pace c.see_all.ensures
                (answers_sound pace seen numbers answers);
            sound_still = answers_sound_still pace seen numbers answers;
            due_sound = answers_due_sound pace seen numbers answers;
          },
        );
        refused = search rules;
      };
    }
