use Rattle.std.proofs.Common.{refl}
use Rattle.vbi_side.specs.Clocks.{kept}
use Rattle.vbi_whole.specs.AsideNumbers.{row_weight, is_aside}
use Rattle.vbi_whole.proofs.aside_laws.worked_aside.Goals as goal

pub returns : goal.returns
unfolding kept row_weight is_aside
returns c = record {
  rows = refl;
  both_rows = refl;
  film_rows = refl;
  due = refl;
  film_due = refl;
  aside = refl;
  as_heavy = refl;
  few_skipped = refl;
  stays = refl;
}
