-- How the answers come about: marked first, then filled with what is due, from the first field on.
use Rattle.std.proofs.lemmas.Bool.{cases_eq}
use Rattle.std.proofs.Common.{◌≡◌, ◌≢◌, ℕ, ◌+◌, ◌<◌, ◌≤◌, List}
use Rattle.std.proofs.Common.{refl, arith, ap, sym, ◌∙◌, subst, inl, inr, get_or}
use Rattle.std.specs.Prelude.{Option, Some, slice_get, slice_set, length}
use Rattle.std.specs.Prelude.{◌⊎◌, ◌↔◌, unwrap_or}
use Rattle.std.proofs.lemmas.List.{length-set, get_or-set_other}
use Rattle.std.proofs.lemmas.Grind.{get_or-set_at}
use Rattle.std.proofs.lemmas.Option.{slice_get-get_or, slice_get_within}
use Rattle.vbi_side.specs.Types.{Number, Sightings, Pace, Video}
use Rattle.vbi_side.specs.Sightings.{Shows}
use Rattle.vbi_side.specs.Beliefs.{Believed}
use Rattle.vbi_side.specs.DueNumbers.{Due}
use Rattle.vbi_side.specs.Numbers.{nothing, believed, due, doubtful_of, IsMarked, IsMark}
use Rattle.vbi_side.specs.Numbers.{IsAnswer, AreAnswers, AreRight, IsKnown}
use Rattle.vbi_side.specs.Truth.{IsRegular, IsSound, IsSoundStill}
use Rattle.vbi_side.proofs.Ahead.{one_believed}
use Rattle.vbi_side.proofs.Truth.{sound, sound_still}
use Rattle.vbi_side.proofs.DueLemmas.{one_due, due_sound}

-- ---- answers that differ

state_of : (one other : Number) → one ≡ other → one.state ≡ other.state
state_of one other e = ap (λ (n : Number). n.state) e

number_of : (one other : Number) → one ≡ other → one.number ≡ other.number
number_of one other e = ap (λ (n : Number). n.number) e

-- what is in doubt is neither believed nor due
doubtful_state : (field : Sightings) → ((doubtful_of field).state ≤ 2) × ((doubtful_of field).state ≢ 1)
doubtful_state field = grind arith

pub unlike : (field : Sightings) (n : ℕ) → doubtful_of field ≡ believed n → ⊥
unlike field n e = (doubtful_state field).1 (state_of (doubtful_of field) (believed n) e)

pub not_due : (field : Sightings) (n : ℕ) → doubtful_of field ≡ due n → ⊥
not_due field n e =
    absurd (omega (arith, (doubtful_state field).0, state_of (doubtful_of field) (due n) e))

apart : (m n : ℕ) → due m ≡ believed n → ⊥
apart m n e = absurd (omega (arith, state_of (due m) (believed n) e))

-- ---- marks

some_is : {A : Type 0} (a b : A) → Some a ≡ Some b → a ≡ b
some_is a b e = ap (λ o. unwrap_or o a) e

-- a number that is believed is of a field that is there
pub shown_within : (fields : List Sightings) (i n : ℕ) → Shows (slice_get fields i) n → i < length fields
shown_within fields i n shown = grind (arith, slice_get_within)

-- ---- filling

-- the fields before this one are answered, those from it on are marked
pub record Filling (pace : Pace) (fields : List Sightings) (numbers : List Number) (field : ℕ) : Type 0 where
  pub count : length numbers ≡ length fields
  pub marked : (i n : ℕ) → IsMarked numbers i n ↔ Believed pace fields i n
  pub done : (i : ℕ) (answer : Number) → i < field → slice_get numbers i ≡ Some answer → IsAnswer pace fields i answer
  pub rest : (i : ℕ) (answer : Number) → field ≤ i → slice_get numbers i ≡ Some answer → IsMark pace fields i answer

pub filling_ends : (pace : Pace) (fields : List Sightings) (numbers : List Number) (field : ℕ) → length numbers ≤ field
    → Filling pace fields numbers field → AreAnswers pace fields numbers
filling_ends pace fields numbers field past filling = record {
  count = filling.count;
  each = λ i answer at. filling.done i answer (omega (arith, past, slice_get_within numbers i answer at)) at;
}

-- where nothing is due, a mark is the answer
mark_answers : (pace : Pace) (fields : List Sightings) (i : ℕ) (answer : Number) → ((n : ℕ) → Due pace fields i n → ⊥)
    → IsMark pace fields i answer → IsAnswer pace fields i answer
mark_answers pace fields i answer none (inl b) = inl b
mark_answers pace fields i answer none (inr (others, field)) = inr (inr (others, none, field))

pub filling_kept : (pace : Pace) (fields : List Sightings) (numbers : List Number) (field : ℕ)
    → ((n : ℕ) → Due pace fields field n → ⊥) → Filling pace fields numbers field
    → Filling pace fields numbers (field + 1)
filling_kept pace fields numbers field none filling = record {
  count = filling.count;
  marked = filling.marked;
  done = λ i answer less at. elim (cases_eq i field) [
    | inl e ↦ mark_answers pace fields i answer (subst (λ k. (n : ℕ) → Due pace fields k n → ⊥) (sym e) none)
        (filling.rest i answer (omega (arith, e)) at)
    | inr other ↦ filling.done i answer (omega (arith, less, other)) at
  ];
  rest = λ i answer less at. filling.rest i answer (omega (arith, less)) at;
}

-- what stands in a list of which one place was written
written : (numbers : List Number) (field i : ℕ) (number answer : Number)
    → slice_get (slice_set numbers field number) i ≡ Some answer
    → ((i ≡ field) × (answer ≡ number)) ⊎ ((i ≢ field) × (slice_get numbers i ≡ Some answer))
written numbers field i number answer at = elim (cases_eq i field) [
  | inl e ↦ inl (e, sym is ∙ get_or-set_at numbers field i number nothing e (omega (arith, within, e)))
  | inr other ↦ inr (
    other,
    slice_get-get_or numbers i nothing within
        ∙ ap Some (sym (get_or-set_other numbers field i number nothing other) ∙ is),
  )
]
  where
    within : i < length numbers
    within =
        omega (
          arith,
          length-set numbers field number,
          slice_get_within (slice_set numbers field number) i answer at,
        )

    is : get_or (slice_set numbers field number) i nothing ≡ answer
    is = some_is (get_or (slice_set numbers field number) i nothing) answer
        (sym (slice_get-get_or (slice_set numbers field number) i nothing
        (omega (arith, within, length-set numbers field number))) ∙ at)

-- what stands there stays where another place is written
unwritten : (numbers : List Number) (field i : ℕ) (number answer : Number) → i ≢ field
    → slice_get numbers i ≡ Some answer → slice_get (slice_set numbers field number) i ≡ Some answer
unwritten numbers field i number answer other at =
    let within = slice_get_within numbers i answer at in
    slice_get-get_or (slice_set numbers field number) i nothing (omega (arith, within, length-set numbers field number))
    ∙ ap Some (get_or-set_other numbers field i number nothing other
    ∙ some_is (get_or numbers i nothing) answer (sym (slice_get-get_or numbers i nothing within) ∙ at))

pub filling_due : (pace : Pace) (fields : List Sightings) (numbers : List Number) (field n : ℕ)
    → Due pace fields field n → Filling pace fields numbers field
    → Filling pace fields (slice_set numbers field (due n)) (field + 1)
filling_due pace fields numbers field n is_due filling = record {
  count = length-set numbers field (due n) ∙ filling.count;
  marked = λ i m. (there i m, back i m);
  done = λ i answer less at. elim (written numbers field i (due n) answer at) [
    | inl (e, is) ↦ inr (inl (n, subst (λ k. Due pace fields k n) (sym e) is_due, is))
    | inr (other, kept) ↦ filling.done i answer (omega (arith, less, other)) kept
  ];
  rest = λ i answer less at. elim (written numbers field i (due n) answer at) [
    | inl (e, is) ↦ absurd (omega (arith, e, less))
    | inr (other, kept) ↦ filling.rest i answer (omega (arith, less)) kept
  ];
}
  where
    there : (i m : ℕ) → IsMarked (slice_set numbers field (due n)) i m → Believed pace fields i m
    there i m at = elim (written numbers field i (due n) (believed m) at) [
      | inl (e, is) ↦ absurd (apart n m (sym is))
      | inr (other, kept) ↦ (filling.marked i m).0 kept
    ]

    back : (i m : ℕ) → Believed pace fields i m → IsMarked (slice_set numbers field (due n)) i m
    back i m b = elim (cases_eq i field) [
      | inl e ↦ absurd (is_due.unbelieved m (subst (λ k. Believed pace fields k m) e b))
      | inr other ↦ unwritten numbers field i (due n) (believed m) other ((filling.marked i m).1 b)
    ]

-- ---- answers

-- what is answered as believed is
pub answer_believed : (pace : Pace) (fields : List Sightings) (i n : ℕ) (answer : Number)
    → IsAnswer pace fields i answer → answer ≡ believed n → Believed pace fields i n
answer_believed pace fields i n answer h1 h2 = grind (arith, apart, number_of, unlike)

-- what is answered as due is
pub answer_due : (pace : Pace) (fields : List Sightings) (i n : ℕ) (answer : Number)
    → IsAnswer pace fields i answer → answer ≡ due n → Due pace fields i n
answer_due pace fields i n answer h1 h2 = grind (arith, apart, not_due, number_of)

-- what is believed or due is what the answer says
pub known_numbers : (pace : Pace) (fields : List Sightings) (i n : ℕ) (answer : Number) → IsAnswer pace fields i answer
    → IsKnown answer n ↔ (Believed pace fields i n ⊎ Due pace fields i n)
known_numbers pace fields i n answer is = (
  λ known. elim known [
    | inl e ↦ inl (answer_believed pace fields i n answer is e)
    | inr e ↦ inr (answer_due pace fields i n answer is e)
  ],
  back is,
)
  where
    back : IsAnswer pace fields i answer → Believed pace fields i n ⊎ Due pace fields i n → IsKnown answer n
    back (inl (m, b, e)) (inl other) = inl (e ∙ ap believed (one_believed pace fields i m n b other))
    back (inl (m, b, e)) (inr other) = absurd (other.unbelieved m b)
    back (inr (inl (m, d, e))) (inl other) = absurd (d.unbelieved n other)
    back (inr (inl (m, d, e))) (inr other) = inr (e ∙ ap due (one_due pace fields i m n d other))
    back (inr (inr (none, others, field))) (inl other) = absurd (none n other)
    back (inr (inr (none, others, field))) (inr other) = absurd (others n other)

-- a field has one answer
pub one_answer : (pace : Pace) (fields : List Sightings) (i : ℕ) (one other : Number)
    → IsAnswer pace fields i one → IsAnswer pace fields i other → one ≡ other
one_answer pace fields i one other (inl (m, b, e)) is = go ((known_numbers pace fields i m other is).1 (inl b))
  where
    go : IsKnown other m → one ≡ other
    go (inl f) = e ∙ sym f
    go (inr f) = absurd ((answer_due pace fields i m other is f).unbelieved m b)
one_answer pace fields i one other (inr (inl (m, d, e))) is = go ((known_numbers pace fields i m other is).1 (inr d))
  where
    go : IsKnown other m → one ≡ other
    go (inl f) = absurd (d.unbelieved m (answer_believed pace fields i m other is f))
    go (inr f) = e ∙ sym f
one_answer pace fields i one other (inr (inr (none, others, (field, at, e)))) is = go is
  where
    go : IsAnswer pace fields i other → one ≡ other
    go (inl (m, b, f)) = absurd (none m b)
    go (inr (inl (m, d, f))) = absurd (others m d)
    go (inr (inr (nones, rest, (same, there, f)))) =
        e ∙ ap doubtful_of (some_is field same (sym at ∙ there)) ∙ sym f

-- a number that is answered as believed is the recorded one
pub answers_sound : (pace : Pace) (fields : List Sightings) (answers : List Number) → AreAnswers pace fields answers
    → (recorded : ℕ → Option ℕ) (i m n : ℕ) → slice_get answers i ≡ Some (believed n)
    → IsSound pace recorded fields i m → n ≡ m
answers_sound pace fields answers are recorded i m n at is =
    sound pace recorded fields i m n is
    (answer_believed pace fields i n (believed n) (are.each i (believed n) at) refl)

-- where the player stood still, it is that of the still
pub answers_sound_still : (pace : Pace) (fields : List Sightings) (answers : List Number)
    → AreAnswers pace fields answers → (recorded : ℕ → Option ℕ) (i m n : ℕ) → slice_get answers i ≡ Some (believed n)
    → pace ≡ Video → IsSoundStill recorded fields i m → n ≡ m
answers_sound_still pace fields answers are recorded i m n at video is =
    sound_still recorded fields i m n is (subst (λ p. Believed p fields i n) video
    (answer_believed pace fields i n (believed n) (are.each i (believed n) at) refl))

-- what is believed is answered so
pub answers_tell : (pace : Pace) (fields : List Sightings) (answers : List Number) → AreAnswers pace fields answers
    → (i n : ℕ) → Believed pace fields i n → slice_get answers i ≡ Some (believed n)
answers_tell pace fields answers are i n b = at ∙ ap Some (go ((known_numbers pace fields i n answer is).1 (inl b)))
  where
    answer : Number
    answer = get_or answers i nothing

    at : slice_get answers i ≡ Some answer
    at = slice_get-get_or answers i nothing (omega (arith, are.count, shown_within fields i n b.shown))

    is : IsAnswer pace fields i answer
    is = are.each i answer at

    go : IsKnown answer n → answer ≡ believed n
    go (inl e) = e
    go (inr e) = absurd ((answer_due pace fields i n answer is e).unbelieved n b)

-- a number that is answered as due is the recorded one, where the believed ones around it are right
pub answers_due_sound : (pace : Pace) (fields : List Sightings) (answers : List Number) → AreAnswers pace fields answers
    → (recorded : ℕ → Option ℕ) (i n : ℕ) → slice_get answers i ≡ Some (due n) → IsRegular pace recorded i
    → AreRight answers recorded i → recorded i ≡ Some n
answers_due_sound pace fields answers are recorded i n at regular right =
    due_sound pace recorded fields i n regular
    (λ j k near b. right j k near (answers_tell pace fields answers are j k b))
    (answer_due pace fields i n (due n) (are.each i (due n) at) refl)
