use Rattle.vbi_seek.proofs.ChapterPlaces.{IsClear}
use Rattle.vbi_seek.proofs.chapter_search.first_begin.Given as goal

abbrev pub invariant-loop-i : goal.invariant-loop-i
invariant-loop-i l = IsClear l.chapters l.window.first l.window.from l.i l.clear l.chapter
