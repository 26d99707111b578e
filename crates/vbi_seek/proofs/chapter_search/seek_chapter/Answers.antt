-- proofs/chapter_search/seek_chapter/Answers.antt
use Rattle.std.proofs.Common.{subst}
use Rattle.vbi_seek.specs.ChapterLeads.{IsChapterComplete}
use Rattle.vbi_seek.specs.FieldLines.{Side}
use Rattle.vbi_seek.proofs.chapter_search.seek_chapter.Goals as goal

pub returns-clause-complete : goal.returns-clause-complete
returns-clause-complete c =
    subst (λ (side : Side). IsChapterComplete side c.args.chapter c.look_around.result) c.new-side.ensures
    (λ t a b few first leads.
    c.look_around.ensures.complete t first (c.place_of.ensures.leads t a b few leads))
