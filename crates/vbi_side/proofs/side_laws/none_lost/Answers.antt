use Rattle.vbi_side.proofs.Anchors.{pictures_there}
use Rattle.vbi_side.proofs.Sides.{whole, none_lacks}
use Rattle.vbi_side.proofs.side_laws.none_lost.Goals as goal

pub returns : goal.returns
returns c = record {
  in_order = λ disc place fields i m j n runs rises. whole disc place fields runs rises i m j n;
  lacks = none_lacks;
  pictures = pictures_there;
}
