use Rattle.std.proofs.Common.{inl, inr}
use Rattle.std.proofs.lemmas.Option.{slice_get-get_or}
use Rattle.vbi_side.proofs.Ahead.{first_judged, second_judged}
use Rattle.vbi_side.proofs.ChapterAnswers.{line_believed, believed_line, one_chapter}
use Rattle.vbi_side.proofs.chapters.judge_chapter.Goals as goal

pub returns-in-Some : goal.returns-in-Some
returns-in-Some c =
    first_judged _ _ c.in-Some.chapter c.believed.result
    (λ n h. line_believed _ _ n _ (slice_get-get_or c.args.fields.now c.args.field _ c.requires) (inl h))
    (one_chapter c.args.fields.now c.args.field)
    c.in-Some.is c.believed.ensures

pub returns-in-None : goal.returns-in-None
returns-in-None c =
    second_judged _ _ _ c.believed.result c.believed-in-None.result
    (λ n h. line_believed _ _ n _ (slice_get-get_or c.args.fields.now c.args.field _ c.requires) (inr h))
    (λ n. believed_line _ _ n _ (slice_get-get_or c.args.fields.now c.args.field _ c.requires))
    c.in-None.is c.believed.ensures c.believed-in-None.ensures
