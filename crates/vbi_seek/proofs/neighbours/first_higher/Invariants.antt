use Rattle.std.proofs.Common.{◌≡◌, ◌^◌, None, IfSome}
use Rattle.vbi_side.specs.Numbers.{IsMarked}
use Rattle.vbi_seek.specs.Neighbours.{up, IsNearest}
use Rattle.vbi_seek.proofs.neighbours.first_higher.Given as goal

abbrev pub invariant-loop-field : goal.invariant-loop-field
invariant-loop-field l = record {
  first : IsNearest up l.numbers l.field l.number l.nearest;
  most : IfSome l.nearest (λ at. IsMarked l.numbers at l.most);
  none : l.nearest ≡ None → l.most ≡ 2 ^ 32;
}
