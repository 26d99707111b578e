use Rattle.std.proofs.Common.{◌≡◌, ℕ, ◌-◌, ◌*◌, List, Bool, take, drop, ap, ◌∙◌, subst}
use Rattle.vbi_words.specs.Geometry.{width_of}
use Rattle.vbi_c.specs.Erased.{line_marks}
use Rattle.vbi_c.proofs.Marks.{erased_of-line}
use Rattle.vbi_c.proofs.MarkedLines.{marks-next}
use Rattle.vbi_c.proofs.piling.mark_lines.Goals as goal

pub loop-i-preserved : goal.loop-i-preserved
loop-i-preserved c =
    let system = c.args.system in
    let line = c.args.line in
    let list = c.args.list.now in
    let i = c.loop-i.i in
    let w = width_of system in
    let new : List Bool = c.put_marks.new.marks in
    let old : List Bool = c.loop-i.marks in
    let kept : take (w * i) new ≡ take (w * i) old
    = subst (λ (n : ℕ). take (n * i) new ≡ take (n * i) old) c.width-width.ensures c.put_marks.ensures.before in
    let taken : List Bool = c.marks_of_line.result.now in
    let found : take w (drop (w * i) new) ≡ taken
    = subst (λ (n : ℕ). take w (drop (n * i) new) ≡ taken) c.width-width.ensures
    (subst (λ (n : ℕ). take n (drop (c.width-width.result * i) new) ≡ taken) c.marks_of_line.ensures.long
    c.put_marks.ensures.here) in
    let here : take w (drop (w * i) new) ≡ line_marks list system i line
    = found ∙ c.marks_of_line.ensures.marks
    ∙ ap (λ (all : List Bool). take w (drop (w * (line - 16)) all)) c.mark_field-place.ensures.marks
    ∙ erased_of-line list system i line c.requires.line in
    record {
      marks = marks-next system line list i old new c.loop-i.invariant.marks kept here;
      long = c.put_marks.ensures.long ∙ c.loop-i.invariant.long;
      room = c.mark_field-place.auto.marks ∙ c.loop-i.invariant.room;
      inside = c.mark_field-place.ensures.place;
      begins = c.mark_field-place.ensures.begins;
    }
