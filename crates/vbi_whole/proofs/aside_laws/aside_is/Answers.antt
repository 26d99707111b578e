use Rattle.std.proofs.Common.{ap, ◌∙◌}
use Rattle.std.specs.Prelude.{Some}
use Rattle.vbi_whole.specs.AsideNumbers.{left_of}
use Rattle.vbi_side.specs.Numbers.{believed}
use Rattle.vbi_whole.proofs.SetAside.{left_sound, aside_run}
use Rattle.vbi_whole.proofs.aside_laws.aside_is.Goals as goal

pub returns-clause-sound : goal.returns-clause-sound
returns-clause-sound c = left_sound

pub returns-clause-in_doubt : goal.returns-clause-in_doubt
returns-clause-in_doubt c rule gaps numbers left i n all at aside =
    all.each i (believed n) at ∙ ap (λ b. Some (left_of b (believed n))) aside

pub returns-clause-others : goal.returns-clause-others
returns-clause-others c rule gaps numbers left i answer all at aside =
    all.each i answer at ∙ ap (λ b. Some (left_of b answer)) aside

pub returns-clause-runs : goal.returns-clause-runs
returns-clause-runs c = aside_run
