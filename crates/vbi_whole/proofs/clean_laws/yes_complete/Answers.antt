use Rattle.vbi_whole.proofs.CleanRuns.{finds_video, marked_at, one_field}
use Rattle.vbi_whole.proofs.CleanSides.{called_whole}
use Rattle.vbi_whole.proofs.clean_laws.yes_complete.Goals as goal

pub returns-clause-pace : goal.returns-clause-pace
returns-clause-pace c clock number fields begin last system counted pace run =
    finds_video number fields begin last run.read.each run.read.others run.three system counted pace

pub returns-clause-believed : goal.returns-clause-believed
returns-clause-believed c clock number fields begin last answers run are =
    marked_at number fields begin last run.read.each run.read.others run.three answers are

pub returns-clause-one_field : goal.returns-clause-one_field
returns-clause-one_field c clock number fields begin last answers run are =
    one_field number fields begin last run.read.each run.read.others run.three answers are

pub returns-clause-whole : goal.returns-clause-whole
returns-clause-whole c number fields begin last answers numbering may_end ends finding old new side are is =
    called_whole numbering number fields begin last side.run.read.each side.run.read.others side.run.three
    (λ p inside.
    (side.run.keeps p inside).0) answers are may_end ends side.begun side.ended side.unpadded finding old new is
