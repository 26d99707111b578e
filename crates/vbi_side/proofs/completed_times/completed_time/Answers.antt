use Rattle.vbi_side.proofs.Completing.{seen_uncompleted}
use Rattle.vbi_side.proofs.completed_times.completed_time.Goals as goal

pub returns-then-shows_any : goal.returns-then-shows_any
returns-then-shows_any c = λ word. (
  λ e. absurd cc,
  λ h. absurd (seen_uncompleted c.args.system c.args.line_16.now c.args.fields.now c.args.field word c.requires
      (c.shows_any.ensures.0 c.if-shows_any.true) h),
)
