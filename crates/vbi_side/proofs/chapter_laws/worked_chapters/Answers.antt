use Rattle.std.proofs.Common.{arith, refl}
use Rattle.vbi_side.specs.Beliefs.{weight_below}
use Rattle.vbi_side.specs.WorkedChapters.{said_by_10, said_by_9, said_to_24, said_to_25, said_from_24}
use Rattle.vbi_side.specs.WorkedChapters.{said_from_25, opposed_by_9, opposed_before_by_9, falling, rising}
use Rattle.vbi_side.specs.WorkedChapters.{opposed_in_its_field, rising_at_both, rising_to_8}
use Rattle.vbi_side.proofs.KnownWeights.{alone, unsaid, against, opposed_first, as_many, second_ahead}
use Rattle.vbi_side.proofs.chapter_laws.worked_chapters.Goals as goal

pub returns : goal.returns
unfolding weight_below
returns c = record {
  enough = (
    alone said_by_10 0 7 10 0 refl refl refl (omega arith) (omega arith),
    unsaid said_by_9 0 7 9 refl refl (omega arith),
  );
  after = (
    alone said_to_24 0 7 10 0 refl refl refl (omega arith) (omega arith),
    unsaid said_to_25 0 7 8 refl refl (omega arith),
  );
  before = (
    alone said_from_24 24 7 10 0 refl refl refl (omega arith) (omega arith),
    unsaid said_from_25 25 7 8 refl refl (omega arith),
  );
  opposed = (
    alone opposed_by_9 4 7 10 9 refl refl refl (omega arith) (omega arith),
    alone opposed_before_by_9 5 3 10 9 refl refl refl (omega arith) (omega arith),
  );
  falls = (against falling 4 7 10 refl refl (omega arith), against falling 5 3 10 refl refl (omega arith));
  in_field = opposed_first opposed_in_its_field 0 7 3 10 12 10 refl (λ e. omega (arith, e)) refl (omega arith) refl refl
      (omega arith);
  rises = (
    alone rising 4 7 10 0 refl refl refl (omega arith) (omega arith),
    alone rising 5 8 10 0 refl refl refl (omega arith) (omega arith),
  );
  both = (
    as_many rising_at_both 5 7 8 12 12 refl (λ e. omega (arith, e)) refl refl refl,
    second_ahead rising_to_8 5 7 8 12 14 2 refl refl refl refl (omega arith) (omega arith) (omega arith),
  );
}
