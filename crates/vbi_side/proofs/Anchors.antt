-- What answers say of the disc, which pictures a capture has that lacks no field, and discs that count so.
use Rattle.std.proofs.Common.{◌≡◌, ℕ, ◌+◌, ◌*◌, ◌/◌, ◌<◌, ◌≤◌, List, refl, arith}
use Rattle.std.proofs.Common.{eq-eqb}
use Rattle.std.specs.Prelude.{Option, Some, nat_le, if◌then◌else◌}
use Rattle.std.proofs.lemmas.Bool.Decides.{leb_tells}
use Rattle.vbi_side.specs.Types.{Number, Sightings, Video}
use Rattle.vbi_side.specs.Beliefs.{enough, Believed}
use Rattle.vbi_side.specs.Numbers.{believed, AreAnswers, IsMarked}
use Rattle.vbi_side.specs.Truth.{wrong_weight, video_disc}
use Rattle.vbi_side.specs.Side.{DiscRuns, DiscCounts, Rises, NoneLost, IsAnchor, IsLost}
use Rattle.vbi_side.proofs.Discs.{video_is}
use Rattle.vbi_side.proofs.Filling.{answer_believed}
use Rattle.vbi_side.proofs.Sides.{none_lacks}

pub marked_is : (fields : List Sightings) (answers : List Number) (i n : ℕ) → AreAnswers Video fields answers
    → IsMarked answers i n → Believed Video fields i n
marked_is fields answers i n are marked = answer_believed Video fields i n (believed n)
    (are.each i (believed n) marked) refl

pub anchor : (recorded : ℕ → Option ℕ) (fields : List Sightings) (answers : List Number) (i n : ℕ)
    → AreAnswers Video fields answers → IsMarked answers i n → wrong_weight recorded fields i < enough
    → IsAnchor Video recorded fields i n
anchor recorded fields answers i n are marked few = record
    { believed = marked_is fields answers i n are marked; few = few }

-- no picture is lost whose number the disc has between two fields of the capture between which none is lost
pub pictures_there : (disc : ℕ → Option ℕ) (place : ℕ → ℕ) (i j d n : ℕ) → NoneLost place i j → i ≤ j → place i ≤ d
    → d ≤ place j → disc d ≡ Some n → IsLost disc place n → ⊥
pictures_there disc place i j d n none le from to has gone = none_lacks place i j d none le from to (gone.1 d has)

-- ---- there are such discs and captures

pub video_runs_on : DiscRuns Video video_disc
video_runs_on d e m n here there =
    eq-eqb (e + 2 * m) (d + 2 * n) (omega (arith, video_is d m here, video_is e n there))

pub both_count : DiscCounts 1 (λ j. Some (j / 2))
both_count = grind arith

pub one_skipped : Rises (λ i. if nat_le 100 i then i + 1 else i)
one_skipped = grind (arith, leb_tells)

pub ruleset discs = (video_runs_on, both_count, one_skipped)
