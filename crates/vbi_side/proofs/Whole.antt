-- The pace of a disc that is read whole is found.
use Rattle.std.proofs.Common.{◌≡◌, ◌≢◌, ℕ, zero, suc, ◌+◌, ◌*◌, ◌-◌, ◌<◌, ◌≤◌, Bool, true, List}
use Rattle.std.proofs.Common.{refl, arith, ap, sym, ◌∙◌, subst, inl, inr}
use Rattle.std.specs.Prelude.{Option, Some, slice_get, ◌⊎◌, nat_lt, not, ◌&&◌, ◌==◌}
use Rattle.std.proofs.lemmas.Bool.{cases_eq, eqb-true, ltb-true, lt-ltb, and_parts, and_from}
use Rattle.std.proofs.lemmas.Bool.Decides.{eqb_tells}
use Rattle.vbi_side.specs.Types.{System, Ntsc, Counted, Pictures, Sightings, Pace, Video, Film}
use Rattle.vbi_side.specs.Sightings.{Shows}
use Rattle.vbi_side.specs.Paces.{fits}
use Rattle.vbi_side.specs.Beliefs.{reach, field_most, window_weight, Believed}
use Rattle.vbi_side.specs.PaceSearch.{IsCount, pace_by, IsFound}
use Rattle.vbi_side.specs.Truth.{IsNear, is_recorded, wrong_weight}
use Rattle.vbi_side.specs.Whole.{IsWhole, TakesTurns}
use Rattle.vbi_side.proofs.Filling.{shown_within}
use Rattle.vbi_side.proofs.Recorded.{not_wrong, right_of, right_is, wrong_and_right}
use Rattle.vbi_side.proofs.Truth.{complete, wrong_still}
use Rattle.vbi_side.proofs.Weights.{weight_below-split, once, spread, weight_at-passes}

-- ---- counts

pub some_most : (pace other : Pace) (fields : List Sightings) (n few many : ℕ)
    → ((i m : ℕ) → Believed pace fields i m → Believed other fields i m)
    → IsCount pace fields n few → IsCount other fields n many → few ≤ many
some_most pace other fields zero few many so counted counts = omega (arith, counted, counts)
some_most pace other fields (suc n) few many so (inl (m, less, b, counted, is)) (inl (k, fewer, c, counts, are)) =
    omega (arith, some_most pace other fields n less fewer so counted counts, is, are)
some_most pace other fields (suc n) few many so (inl (m, less, b, counted, is)) (inr (none, counts)) =
    absurd (none m (so n m b))
some_most pace other fields (suc n) few many so (inr (none, counted)) (inl (k, fewer, c, counts, are)) =
    omega (arith, some_most pace other fields n few fewer so counted counts, are)
some_most pace other fields (suc n) few many so (inr (none, counted)) (inr (nones, counts)) =
    some_most pace other fields n few many so counted counts

none_counted : (pace : Pace) (fields : List Sightings) (n count : ℕ)
    → ((i m : ℕ) → Believed pace fields i m → ⊥) → IsCount pace fields n count → count ≡ 0
none_counted pace fields zero count none counted = counted
none_counted pace fields (suc n) count none (inl (m, fewer, b, counted, is)) = absurd (none n m b)
none_counted pace fields (suc n) count none (inr (nones, counted)) = none_counted pace fields n count none counted

one_counted : (pace : Pace) (fields : List Sightings) (n count i m : ℕ) → Believed pace fields i m → i < n
    → IsCount pace fields n count → 1 ≤ count
one_counted pace fields zero count i m b less counted = absurd (omega (arith, less))
one_counted pace fields (suc n) count i m b less (inl (k, fewer, c, counted, is)) = omega (arith, is)
one_counted pace fields (suc n) count i m b less (inr (none, counted)) =
    go (cases_eq i n) (λ before. one_counted pace fields n count i m b before counted)
  where
    go : (i ≡ n) ⊎ (i ≢ n) → (i < n → 1 ≤ count) → 1 ≤ count
    go (inl e) others = absurd (none m (subst (λ j. Believed pace fields j m) e b))
    go (inr apart) others = others (omega (arith, less, apart))

-- ---- nothing is misread

is_right : (o : Option ℕ) (n : ℕ) → o ≡ Some n → not (is_recorded o n) ≡ true → ⊥
is_right o n e wrong = let right = not_wrong o n e in cc

pub none_misread : (recorded : ℕ → Option ℕ) (fields : List Sightings) (i : ℕ)
    → ((j n : ℕ) → Shows (slice_get fields j) n → recorded j ≡ Some n) → wrong_weight recorded fields i ≡ 0
none_misread recorded fields i right = elim (spread wrong fields i (2 * reach + 1) (2 * reach + 1)) [
  | inl (most, none) ↦ none (omega arith)
  | inr (k, less, apart, more) ↦ let p = weight_at-passes wrong fields i k more in
      absurd (is_right (recorded (i + k - reach)) p.1.0 (right (i + k - reach) p.1.0 p.1.1) p.1.2)
]
  where
    wrong : ℕ → ℕ → Bool
    wrong = λ j n. not (is_recorded (recorded j) n)

-- so each number that is shown is believed
all_believed : (pace : Pace) (recorded : ℕ → Option ℕ) (fields : List Sightings) (i n : ℕ)
    → IsWhole pace recorded fields → Shows (slice_get fields i) n → Believed pace fields i n
all_believed pace recorded fields i n whole shown = grind (arith, complete, none_misread)

-- ---- video

pub video_most : (video film : ℕ) → film ≤ video → pace_by video film ≡ Video
video_most video film less = grind (arith, ltb-true)

pub finds_video : (system : System) (counted : Counted) (recorded : ℕ → Option ℕ) (fields : List Sightings)
    (pace : Pace) → IsWhole Video recorded fields → IsFound system counted fields pace → pace ≡ Video
finds_video system counted recorded fields pace h1 h2 = grind (arith, all_believed, some_most, video_most)

-- ---- film

film_most : (film : ℕ) → 1 ≤ film → pace_by 0 film ≡ Film
film_most film some =
    let more : nat_lt (11 * 0) (10 * film) ≡ true = lt-ltb (11 * 0) (10 * film) (omega (arith, some)) in rw more refl

-- at the pace of video two fields support a number of film
turns_weight : (recorded : ℕ → Option ℕ) (fields : List Sightings) (i m : ℕ) → TakesTurns recorded → recorded i ≡ Some m
    → window_weight (fits Video i m) fields i ≤ wrong_weight recorded fields i + 2 * field_most
turns_weight recorded fields i m turns has =
    omega (
      arith,
      wrong_and_right recorded (fits Video i m) fields i,
      weight_below-split right here other fields i (2 * reach + 1) (omega arith) apart,
      once here fields i (2 * reach + 1) (omega arith) one,
      once other fields i (2 * reach + 1) (omega arith) alone,
    )
  where
    right : ℕ → ℕ → Bool
    right = right_of recorded (fits Video i m)

    here : ℕ → ℕ → Bool
    here = λ j n. j == i

    other : ℕ → ℕ → Bool
    other = λ j n. not (j == i) && right j n

    apart : (j n : ℕ) → IsNear i j → right j n ≡ true → (here j n ≡ true) ⊎ (other j n ≡ true)
    apart j n near e = elim (eqb_tells j i) [
      | inl (t, is) ↦ inl t
      | inr (f, isnt) ↦ inr (and_from (not (j == i)) (right j n) (ap not f) e)
    ]

    one : (j k l n : ℕ) → IsNear i j → IsNear i k → here j l ≡ true → here k n ≡ true → j ≡ k
    one j k l n near others e f = eqb-true j i e ∙ sym (eqb-true k i f)

    isnt : (j : ℕ) → not (j == i) ≡ true → j ≢ i
    isnt j e same = is_right (Some i) i refl (subst (λ k. not (k == i) ≡ true) same e)

    alone : (j k l n : ℕ) → IsNear i j → IsNear i k → other j l ≡ true → other k n ≡ true → j ≡ k
    alone j k l n near others e f =
        let p = and_parts (not (j == i)) (right j l) e in
        let q = and_parts (not (k == i)) (right k n) f in
        let a = right_is recorded (fits Video i m) j l p.1 in
        let b = right_is recorded (fits Video i m) k n q.1 in
        turns i m j k l n near others (isnt j p.0) (isnt k q.0) has a.1 b.1 a.0 b.0

-- so none is believed at it
none_believed : (recorded : ℕ → Option ℕ) (fields : List Sightings) (i n : ℕ) → IsWhole Film recorded fields
    → TakesTurns recorded → Believed Video fields i n → ⊥
none_believed recorded fields i n whole turns b =
    omega (
      arith,
      b.enough,
      none_misread recorded fields i whole.right,
      turns_weight recorded fields i n turns (whole.right i n b.shown),
      wrong_still Film recorded fields i n (whole.runs i),
    )

pub finds_film : (recorded : ℕ → Option ℕ) (fields : List Sightings) (i n : ℕ) (pace : Pace)
    → IsWhole Film recorded fields → TakesTurns recorded → Shows (slice_get fields i) n
    → IsFound Ntsc Pictures fields pace → pace ≡ Film
finds_film recorded fields i n pace h1 h2 h3 h4 =
    grind (arith, all_believed, film_most, none_believed, none_counted, one_counted, shown_within)
