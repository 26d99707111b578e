use Rattle.vbi_near.proofs.OneNear.{one_near, one_near_code}
use Rattle.vbi_near.proofs.laws.one_near.Goals as goal

pub returns : goal.returns
returns c = record {
  word = λ system slicing lines near other is are. one_near system slicing lines near other is.nearest is.first
      is.longer is.shorter are.nearest are.first are.longer are.shorter;
  code = λ system line slicing lines near other is are. one_near_code system line slicing lines near other is.nearest
      is.first is.longer is.shorter are.nearest are.first are.longer are.shorter;
}
