use Rattle.vbi_near.proofs.SomeNear.{some_near, some_near_code}
use Rattle.vbi_near.proofs.laws.some_near.Goals as goal

pub returns : goal.returns
returns c = record {
  word = λ system slicing lines. let some = some_near system slicing lines in
      (some.0, record { nearest = some.1; first = some.2; longer = some.3; shorter = some.4 });
  code = λ system line slicing lines. let some = some_near_code system line slicing lines in
      (some.0, record { nearest = some.1; first = some.2; longer = some.3; shorter = some.4 });
}
