use Rattle.std.proofs.Common.{ℕ, List, refl}
use Rattle.vbi_whole.specs.Types.{Clock, DropFrame, OneIn, Sightings}
use Rattle.vbi_whole.specs.CleanRuns.{KeepsTo, AreThreeAtEnds, IsReadRun, IsCleanRun}
use Rattle.vbi_whole.proofs.ThreeInRow.{IsRare, drop_rare, thousand_rare, more_rare, three_in_row, plain_steps}
use Rattle.vbi_whole.proofs.ThreeInRow.{plain_in_row}
use Rattle.vbi_whole.proofs.clean_laws.clean_runs_are.Goals as goal

pub returns-clause-plain : goal.returns-clause-plain
returns-clause-plain c fields begin last m many read = record {
  read = read;
  keeps = λ p inside. (plain_steps m p, refl);
  three = plain_in_row m last many;
}

clean_by : (clock : Clock) (number : ℕ → ℕ) (fields : List Sightings) (begin last : ℕ) → IsRare clock
    → AreThreeAtEnds number last → KeepsTo clock number last → IsReadRun number fields begin last
    → IsCleanRun clock number fields begin last
clean_by clock number fields begin last rare (many, first, end) keeps read = record {
  read = read;
  keeps = keeps;
  three = three_in_row clock number last rare (λ p inside. (keeps p inside).0) (λ p inside. (keeps p inside).1) many
      first end;
}

pub returns-clause-drop : goal.returns-clause-drop
returns-clause-drop c number fields begin last = clean_by DropFrame number fields begin last drop_rare

pub returns-clause-thousand : goal.returns-clause-thousand
returns-clause-thousand c phase number fields begin last less =
    clean_by (OneIn 1000 phase) number fields begin last (thousand_rare phase less)

pub returns-clause-more : goal.returns-clause-more
returns-clause-more c phase number fields begin last less =
    clean_by (OneIn 1001 phase) number fields begin last (more_rare phase less)
