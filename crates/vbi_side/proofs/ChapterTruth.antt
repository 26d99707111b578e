-- What a believed chapter says of the disc.
use Rattle.std.proofs.Common.{◌≡◌, ℕ, ◌+◌, ◌*◌, ◌<◌, ◌≤◌, true, List, arith, inl, inr}
use Rattle.std.specs.Prelude.{Option, Some, slice_get, nat_le, nat_lt, not, ◌&&◌}
use Rattle.std.proofs.lemmas.Bool.{cases_eq, leb-true, ltb-true, eqb-true, le-leb, lt-ltb, or_left, or_right, or_cases}
use Rattle.std.proofs.lemmas.Bool.{and_parts, and_from, cases_lt}
use Rattle.vbi_side.specs.Types.{Sightings}
use Rattle.vbi_side.specs.Sightings.{Shows}
use Rattle.vbi_side.specs.Beliefs.{reach, enough}
use Rattle.vbi_side.specs.Truth.{IsNear, is_recorded, wrong_weight}
use Rattle.vbi_side.specs.Chapters.{opposes, said_weight, opposed_weight, BelievedChapter, NeverFalls}
use Rattle.vbi_side.specs.Chapters.{HasNear, IsWithin, IsSoundChapter}
use Rattle.vbi_side.proofs.Weights.{weight_below-narrower, weight_below-agree}
use Rattle.vbi_side.proofs.Recorded.{wrong_if, right_somewhere}

-- ---- the law

-- what says a believed chapter isn't all wrong, so the disc has it near there
pub near : (recorded : ℕ → Option ℕ) (fields : List Sightings) (i n : ℕ) → BelievedChapter fields i n
    → wrong_weight recorded fields i < enough → HasNear recorded i n
near recorded fields i n b few = grind (arith, eqb-true, right_somewhere)

-- a lower chapter is opposed by what stands before it, a higher one by what stands after it
pub within : (fields : List Sightings) (i n m : ℕ) → BelievedChapter fields i n → IsWithin fields i m → n ≡ m
within fields i n m h1 h2 =
    grind (
      arith,
      and_from,
      and_parts,
      cases_eq,
      cases_lt,
      eqb-true,
      le-leb,
      lt-ltb,
      ltb-true,
      near,
      or_left,
      or_right,
      weight_below-narrower,
    )

pub sound : (recorded : ℕ → Option ℕ) (fields : List Sightings) (i n : ℕ) → BelievedChapter fields i n
    → IsSoundChapter recorded fields i n
sound recorded fields i n b = grind (arith, near, within)

-- ---- the field's own chapter

-- where the chapters never fall, only what is wrong opposes the field's own
own_opposed : (recorded : ℕ → Option ℕ) (fields : List Sightings) (i m : ℕ) → NeverFalls recorded i
    → recorded i ≡ Some m → opposed_weight fields i m ≤ wrong_weight recorded fields i
own_opposed recorded fields i m rises has =
    weight_below-narrower (opposes i m) (λ j k. not (is_recorded (recorded j) k)) fields i (2 * reach + 1) (omega arith)
    wrong
  where
    here : IsNear i i
    here = (omega arith, omega arith)

    later : (j k : ℕ) → IsNear i j → recorded j ≡ Some k → (nat_le j i && nat_lt m k) ≡ true → ⊥
    later j k near is e =
        let p = and_parts (nat_le j i) (nat_lt m k) e in
        omega (arith, ltb-true m k p.1, rises j i k m near here (leb-true j i p.0) is has)

    earlier : (j k : ℕ) → IsNear i j → recorded j ≡ Some k → (nat_le i j && nat_lt k m) ≡ true → ⊥
    earlier j k near is e =
        let p = and_parts (nat_le i j) (nat_lt k m) e in
        omega (arith, ltb-true k m p.1, rises i j m k here near (leb-true i j p.0) has is)

    wrong : (j k : ℕ) → IsNear i j → opposes i m j k ≡ true → not (is_recorded (recorded j) k) ≡ true
    wrong j k near e = wrong_if recorded j k (λ is.
        elim (or_cases (nat_le j i && nat_lt m k) (nat_le i j && nat_lt k m) e) [
          | inl h ↦ later j k near is h
          | inr h ↦ earlier j k near is h
        ])

pub complete : (recorded : ℕ → Option ℕ) (fields : List Sightings) (i m : ℕ) → NeverFalls recorded i
    → recorded i ≡ Some m → wrong_weight recorded fields i < enough → Shows (slice_get fields i) m
    → enough ≤ said_weight fields i m
    → ((k : ℕ) → Shows (slice_get fields i) k → (k ≡ m → ⊥) → said_weight fields i k < said_weight fields i m)
    → BelievedChapter fields i m
complete recorded fields i m rises has few shown said ahead = grind (arith, own_opposed)

-- ---- whatever the truth

-- fields of which the codes nearby weigh the same believe the same chapters
pub alike : (one other : List Sightings) (i j n : ℕ) → slice_get one i ≡ slice_get other j
    → ((m : ℕ) → said_weight one i m ≡ said_weight other j m)
    → opposed_weight one i n ≡ opposed_weight other j n → BelievedChapter one i n → BelievedChapter other j n
alike one other i j n here said opposed is = grind arith

pub only_near : (fields others : List Sightings) (i n : ℕ)
    → ((j : ℕ) → IsNear i j → slice_get fields j ≡ slice_get others j)
    → BelievedChapter fields i n → BelievedChapter others i n
only_near fields others i n h1 h2 = grind (arith, alike, weight_below-agree)
