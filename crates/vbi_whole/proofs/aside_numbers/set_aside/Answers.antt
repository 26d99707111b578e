use Rattle.std.proofs.Common.{◌≡◌, refl, sym, ap, subst, ◌∙◌, length}
use Rattle.std.specs.Prelude.{Some, slice_get}
use Rattle.vbi_whole.specs.AsideNumbers.{begun, is_of_run, is_aside, left_of}
use Rattle.vbi_whole.proofs.SetAside.{gap_at, run_more, aside_more, left_twice}
use Rattle.vbi_whole.proofs.aside_numbers.set_aside.Goals as goal

pub loop-index-init : goal.loop-index-init
unfolding is_aside
loop-index-init c = record {
  first = refl;
  count = ap length c.copy_from_slice.ensures.after;
  each = λ i answer at. subst (λ xs. slice_get xs i ≡ Some answer) (sym c.copy_from_slice.ensures.after) at;
}

pub loop-index-preserved : goal.loop-index-preserved
loop-index-preserved c =
    let rule = c.args.rule in
    let gaps = c.args.gaps.now in
    let numbers = c.args.numbers.now in
    let k = c.loop-index.index in
    let before = c.loop-index.invariant in
    let inside = c.loop-index-test.true in
    record {
      first = c.begun-first.ensures ∙ ap (λ o. begun o (Some (gap_at gaps k))) before.first ∙ run_more gaps k inside;
      count = c.end_run.ensures.count ∙ before.count;
      each = λ i answer at. c.end_run.ensures.each i _ (before.each i answer at)
          ∙ ap Some (ap (λ o. left_of (is_of_run rule numbers i o (Some (gap_at gaps k)))
          (left_of (is_aside rule gaps numbers i k) answer)) before.first
          ∙ left_twice (is_aside rule gaps numbers i k) _ answer
          ∙ ap (λ b. left_of b answer) (aside_more rule gaps numbers i k inside));
    }
