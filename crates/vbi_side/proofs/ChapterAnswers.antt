-- A believed chapter is that of one of the field's two lines, judged beside the other; and what is answered of a field.
use Rattle.std.proofs.lemmas.Bool.{cases_eq}
use Rattle.vbi_side.proofs.Filling.{unlike}
use Rattle.std.proofs.Common.{◌≡◌, ℕ, List, arith, sym, ◌∙◌, inl, inr, ap, refl}
use Rattle.std.specs.Prelude.{Option, Some, slice_get, ◌⊎◌, unwrap_or}
use Rattle.vbi_side.specs.Types.{Sighting, Sightings, Number}
use Rattle.vbi_side.specs.Sightings.{Has}
use Rattle.vbi_side.specs.Numbers.{believed, doubtful_of}
use Rattle.vbi_side.specs.Chapters.{BelievedChapter, IsBelievedOf, IsChapter, AreChapters, IsSoundChapter}
use Rattle.vbi_side.proofs.ChapterTruth.{sound}

one_number : (sighting : Sighting) (m n : ℕ) → Has sighting m → Has sighting n → m ≡ n
one_number sighting m n has others = sym has.1 ∙ others.1

-- ---- by lines

-- a line's chapter that is believed beside the other line is the field's
pub line_believed : (fields : List Sightings) (i n : ℕ) (field : Sightings) → slice_get fields i ≡ Some field
    → IsBelievedOf fields i field.line_17 field.line_18 n ⊎ IsBelievedOf fields i field.line_18 field.line_17 n
    → BelievedChapter fields i n
line_believed fields i n field h1 h2 = grind (arith, one_number)

-- and the other way round
pub believed_line : (fields : List Sightings) (i n : ℕ) (field : Sightings)
    → slice_get fields i ≡ Some field → BelievedChapter fields i n
    → IsBelievedOf fields i field.line_17 field.line_18 n ⊎ IsBelievedOf fields i field.line_18 field.line_17 n
believed_line fields i n field is b = grind arith

-- a field has at most one believed chapter
pub one_chapter : (fields : List Sightings) (i m n : ℕ)
    → BelievedChapter fields i m → BelievedChapter fields i n → m ≡ n
one_chapter fields i m n a b = grind (arith, cases_eq)

-- ---- answers

-- what is answered as believed is
pub answer_believed : (fields : List Sightings) (i n : ℕ) (answer : Number) → IsChapter fields i answer
    → answer ≡ believed n → BelievedChapter fields i n
answer_believed fields i n answer h1 h2 = grind (arith, unlike)

pub answers_sound : (fields : List Sightings) (answers : List Number) → AreChapters fields answers
    → (recorded : ℕ → Option ℕ) (i n : ℕ) → slice_get answers i ≡ Some (believed n)
    → IsSoundChapter recorded fields i n
answers_sound fields answers are recorded i n at =
    sound recorded fields i n (answer_believed fields i n (believed n) (are.each i (believed n) at) refl)

-- a field has one answer
pub one_answer : (fields : List Sightings) (i : ℕ) (one other : Number)
    → IsChapter fields i one → IsChapter fields i other → one ≡ other
one_answer fields i one other (inl (m, b, e)) (inl (n, c, f)) =
    e ∙ ap believed (one_chapter fields i m n b c) ∙ sym f
one_answer fields i one other (inl (m, b, e)) (inr (none, rest)) = absurd (none m b)
one_answer fields i one other (inr (none, rest)) (inl (n, c, f)) = absurd (none n c)
one_answer fields i one other (inr (none, (field, at, e))) (inr (nones, (same, there, f))) =
    e ∙ ap doubtful_of (ap (λ o. unwrap_or o field) (sym at ∙ there)) ∙ sym f
