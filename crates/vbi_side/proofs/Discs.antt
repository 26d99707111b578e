-- Discs that run on.
use Rattle.std.proofs.Common.{◌≡◌, ◌≢◌, ℕ, ◌+◌, ◌*◌, ◌%◌, ◌≤◌, true}
use Rattle.std.proofs.Common.{eq-eqb, arith, ap}
use Rattle.std.specs.Prelude.{Option, Some, None, ◌⊎◌, unwrap_or}
use Rattle.std.proofs.Math.Dec.{eqb}
use Rattle.std.proofs.lemmas.Bool.{eqb-true, le-leb, and_from}
use Rattle.std.proofs.lemmas.Bool.Decides.{eqb_tells}
use Rattle.vbi_side.specs.Types.{Video, Film}
use Rattle.vbi_side.specs.Paces.{fits}
use Rattle.vbi_side.specs.Truth.{RunsOn, IsRegular, video_disc, film_disc}
use Rattle.vbi_side.specs.Whole.{TakesTurns}

some_is : (a b : ℕ) → Some a ≡ Some b → a ≡ b
some_is a b e = ap (λ (o : Option ℕ). unwrap_or o 0) e

none_is : (o : Option ℕ) (b : ℕ) → o ≡ None → o ≡ Some b → ⊥
none_is o b e f = cc

pub video_is : (j m : ℕ) → video_disc j ≡ Some m → 2 * m ≡ j
video_is j m e = grind (arith, eqb_tells, none_is, some_is)

film_is : (j m : ℕ) → film_disc j ≡ Some m → (2 * j ≤ 5 * m) × (5 * m ≤ 2 * j + 1)
film_is j m e = grind (arith, eqb, eqb_tells, none_is, some_is)

pub video_runs : (i : ℕ) → RunsOn Video video_disc i
video_runs i j k m n near others step here there =
    eq-eqb (k + 2 * m) (j + 2 * n) (omega (arith, video_is j m here, video_is k n there))

pub film_runs : (i : ℕ) → RunsOn Film film_disc i
film_runs i = grind (arith, and_from, film_is, le-leb)

pub video_has : (i n : ℕ) → i ≡ 2 * n → video_disc i ≡ Some n
video_has i n e = grind arith

pub video_regular : (i : ℕ) → IsRegular Video video_disc i
video_regular i j m k l n less more near far here there on back =
    video_has i n (omega (arith, video_is j m here, on))

-- the fields of film that have numbers
film_at : (i n : ℕ) → ((i % 5 ≡ 0) × (2 * i ≡ 5 * n)) ⊎ ((i % 5 ≡ 2) × (2 * i + 1 ≡ 5 * n)) → film_disc i ≡ Some n
film_at i n h1 = grind (arith, eqb_tells)

film_has : (j m : ℕ) → film_disc j ≡ Some m → ((j % 5 ≡ 0) × (2 * j ≡ 5 * m)) ⊎ ((j % 5 ≡ 2) × (2 * j + 1 ≡ 5 * m))
film_has j m e = grind (arith, eqb, eqb_tells, none_is, some_is)

pub film_regular : (i : ℕ) → IsRegular Film film_disc i
film_regular i = grind (arith, film_at, film_has)

-- of the two numbers of five fields each is the only one that lies two fields a picture from the other
other_of : (i m j l : ℕ) → ((i % 5 ≡ 0) × (2 * i ≡ 5 * m)) ⊎ ((i % 5 ≡ 2) × (2 * i + 1 ≡ 5 * m))
    → film_disc j ≡ Some l → j ≢ i → fits Video i m j l ≡ true
    → ((i % 5 ≡ 0) × (j ≡ i + 2)) ⊎ ((i % 5 ≡ 2) × (j + 2 ≡ i))
other_of i m j l here there apart e = grind (arith, eqb-true, film_has)

pub film_turns : TakesTurns film_disc
film_turns = grind (arith, film_has, other_of)

pub ruleset regular_discs = (video_runs, video_regular, film_runs, film_regular, film_turns)
