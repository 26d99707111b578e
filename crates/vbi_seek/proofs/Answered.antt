-- What is judged of a part of a side, read field by field, is what is judged of the whole side.
use Rattle.std.proofs.Common.{◌≡◌, ℕ, ◌+◌, ◌-◌, ◌<◌, ◌≤◌, List, length, take, drop, ap, sym, subst, ◌∙◌}
use Rattle.std.proofs.Common.{arith, inl, inr}
use Rattle.std.specs.Prelude.{◌⊎◌, Some, None, get_or, slice_get}
use Rattle.std.proofs.lemmas.Bool.Decides.{leb_tells}
use Rattle.std.proofs.lemmas.List.{get_or-take, get_or-drop, length-take, length-drop}
use Rattle.std.proofs.lemmas.List.FromFn.{length-map-range_with_len}
use Rattle.std.proofs.lemmas.Option.{slice_get_within, slice_get-get_or, get_or_from_slice_get}
use Rattle.vbi_side.specs.declared.number.Number.{Number}
use Rattle.vbi_side.specs.declared.pace.Pace as paces
use Rattle.vbi_side.specs.declared.sighting.Sightings.{Sightings}
use Rattle.vbi_side.specs.Numbers.{IsAnswer, IsFirst, IsKnown}
use Rattle.vbi_side.specs.Parts.{IsPart}
use Rattle.vbi_side.proofs.Filling.{one_answer}
use Rattle.vbi_side.proofs.Parts.{same_in_part}
use Rattle.vbi_seek.specs.declared.number_search.Around.{Around}
use Rattle.vbi_seek.specs.declared.number_search.NumberSearch.{NumberSearch}
use Rattle.vbi_seek.specs.NumberLeads.{IsFirstKnown}
use Rattle.vbi_seek.specs.NumbersAround.{numbers_of, among, IsWindow, IsJudgedAround}
use Rattle.vbi_seek.proofs.Shown.{same_there}
use Rattle.vbi_seek.specs.NumberSearch.{shown_at, shown_from, shown_of, HasOther, IsJudgedIn}

-- ---- lists

-- an element of a piece of a list
of_piece : {A : Type 0} (list : List A) (from count i : ℕ) (x : A) → from + count ≤ length list
    → slice_get (take count (drop from list)) i ≡ Some x → (i < count) × (slice_get list (from + i) ≡ Some x)
of_piece list from count i x inside is = (
  near,
  slice_get-get_or list (from + i) x (omega (arith, inside, near))
      ∙ ap Some (sym (get_or-drop from list i x) ∙ sym (get_or-take count (drop from list) i x near)
      ∙ get_or_from_slice_get (take count (drop from list)) i x x is),
)
  where
    near : i < count
    near = omega (arith, slice_get_within (take count (drop from list)) i x is, length-take count (drop from list))

-- ---- a side

-- what all its fields show
abbrev pub all_shown : NumberSearch → List Sightings
all_shown search = shown_of (numbers_of search)

-- the fields that are judged are a part of the side from which those can be judged in which the number is looked for
part_of : (search : NumberSearch) (a : Around) (i : ℕ) → IsWindow search.side.count a → a.from ≤ a.first + i
    → a.first + i < a.to
    → IsPart Sightings (all_shown search) (shown_from (numbers_of search) a.first (a.end - a.first)) a.first i
part_of search a i window after before = record {
  before = elim window.before [ inl none ↦ inl none | inr far ↦ inr (omega (arith, far, after)) ];
  same = λ j within. same_there (shown_at (numbers_of search)) a.first (a.end - a.first) search.side.count j
      (omega (arith, window.order))
      (λ more. elim window.after [
        | inl all ↦ omega (arith, all, window.order)
        | inr far ↦ absurd (omega (arith, far, within, more, before))
      ]);
}

-- what is answered of field i of those in which the number is looked for is answered of it in the whole side
pub judged_among : (search : NumberSearch) (a : Around) (pace : paces.Pace) (numbers : List Number) (i : ℕ) (n : Number)
    → IsJudgedAround search a pace numbers → slice_get (among a numbers) i ≡ Some n
    → (a.from + i < a.to) × (slice_get numbers (a.from - a.first + i) ≡ Some n)
    × IsAnswer pace (all_shown search) (a.from + i) n
judged_among search a pace numbers i n judged is = (
  omega (arith, piece.0),
  piece.1,
  subst (λ f. IsAnswer pace (all_shown search) f n) (omega (arith, judged.window.order))
      ((same_in_part pace (all_shown search) (shown_from (numbers_of search) a.first (a.end - a.first)) a.first
      (a.from - a.first + i) n
      (part_of search a (a.from - a.first + i) judged.window (omega arith)
      (omega (arith, piece.0, judged.window.order)))).0
      (judged.answers.each (a.from - a.first + i) n piece.1)),
)
  where
    long : length numbers ≡ a.end - a.first
    long = judged.answers.count ∙ length-map-range_with_len (shown_at (numbers_of search)) a.first (a.end - a.first)

    piece : (i < a.to - a.first - (a.from - a.first)) × (slice_get numbers (a.from - a.first + i) ≡ Some n)
    piece = of_piece numbers (a.from - a.first) (a.to - a.first - (a.from - a.first)) i n
        (omega (arith, long, judged.window.order)) is

-- each of those is answered
pub one_among : (search : NumberSearch) (a : Around) (pace : paces.Pace) (numbers : List Number) (i : ℕ) (none : Number)
    → IsJudgedAround search a pace numbers → a.from + i < a.to
    → slice_get (among a numbers) i ≡ Some (get_or (among a numbers) i none)
one_among search a pace numbers i none judged inside = slice_get-get_or (among a numbers) i none (omega (
  arith,
  length-take (a.to - a.first - (a.from - a.first)) (drop (a.from - a.first) numbers),
  length-drop (a.from - a.first) numbers,
  judged.answers.count ∙ length-map-range_with_len (shown_at (numbers_of search)) a.first (a.end - a.first),
  judged.window.order,
  inside,
))

-- each of those is judged with all on which its answer depends
pub judged_in : (search : NumberSearch) (a : Around) (pace : paces.Pace) (numbers : List Number) (t : ℕ)
    → IsJudgedAround search a pace numbers → a.from ≤ t → t < a.to
    → IsJudgedIn (numbers_of search) t a.first (a.end - a.first) pace
judged_in search a pace numbers t judged from to = record {
  inside = omega (arith, judged.window.order);
  before = elim judged.window.before [ inl none ↦ inl none | inr far ↦ inr (omega (arith, far, from)) ];
  after = elim judged.window.after [
    | inl all ↦ inl (omega (arith, all, judged.window.order))
    | inr far ↦ inr (omega (arith, far, to, judged.window.order))
  ];
  asked = judged.asked;
}

-- ---- a number

-- what is known of the field at which a number is found
pub record IsAt (search : NumberSearch) (a : Around) (pace : paces.Pace) (field : ℕ) (found : Number) : Type 0 where
  pub inside : field < search.side.count
  pub judged : IsJudgedIn (numbers_of search) field a.first (a.end - a.first) pace
  pub known : IsKnown found search.number
  pub answer : IsAnswer pace (all_shown search) field found
  pub begins : (field ≡ 0)
      ⊎ ((before : ℕ) × (before + 1 ≡ field) × HasOther pace (all_shown search) search.number before)

-- the first of them that has the number has it in the whole side, if it isn't the very first of them, or is the first
-- of the side
pub found_at : (search : NumberSearch) (a : Around) (pace : paces.Pace) (numbers : List Number) (place : ℕ)
    (none : Number)
    → IsJudgedAround search a pace numbers → IsFirst (among a numbers) search.number (Some place)
    → (0 < place) ⊎ (a.from ≡ 0) → IsAt search a pace (a.from + place) (get_or numbers (a.from - a.first + place) none)
found_at search a pace numbers place none judged ((answer, shown, known), others) begun = record {
  inside = omega (arith, here.0, judged.window.order);
  judged = judged_in search a pace numbers (a.from + place) judged (omega arith) here.0;
  known = subst (λ n. IsKnown n search.number) (sym is) known;
  answer = subst (λ n. IsAnswer pace (all_shown search) (a.from + place) n) (sym is) here.2;
  begins = elim (leb_tells 1 place) [
    | inl (t, later) ↦ inr (other_at later)
    | inr (t, now) ↦ inl (elim begun [
      | inl later ↦ absurd (omega (arith, later, now))
      | inr begins ↦ omega (arith, begins, now)
    ])
  ];
}
  where
    here : (a.from + place < a.to) × (slice_get numbers (a.from - a.first + place) ≡ Some answer)
        × IsAnswer pace (all_shown search) (a.from + place) answer
    here = judged_among search a pace numbers place answer judged shown

    is : get_or numbers (a.from - a.first + place) none ≡ answer
    is = get_or_from_slice_get numbers (a.from - a.first + place) answer none here.1

    other_at : 0 < place → (before : ℕ) × (before + 1 ≡ a.from + place)
        × HasOther pace (all_shown search) search.number before
    other_at later =
        let i = place - 1 in
        let n = get_or (among a numbers) i none in
        let there = one_among search a pace numbers i none judged (omega (arith, here.0)) in (
          a.from + i,
          omega (arith, later),
          (n, (judged_among search a pace numbers i n judged there).2, others i n (omega (arith, later)) there),
        )

-- ---- the first field with a number

-- if the first field of the side with a number is among these, the number is found there
pub record IsFoundAt (search : NumberSearch) (a : Around) (t : ℕ) (numbers : List Number) : Type 0 where
  pub there : IsFirst (among a numbers) search.number None → ⊥
  pub at : (place : ℕ) → IsFirst (among a numbers) search.number (Some place) → a.from + place ≡ t

first_found : (search : NumberSearch) (a : Around) (t : ℕ) (pace : paces.Pace) (numbers : List Number) (none : Number)
    → IsJudgedAround search a pace numbers
    → IsFirstKnown (numbers_of search) search.number t pace → a.from ≤ t → t < a.to
    → IsFoundAt search a t numbers
first_found search a t pace numbers none judged known from to =
    record { there = λ others. others i n there has; at = λ place found. at place found }
  where
    i : ℕ
    i = t - a.from

    n : Number
    n = get_or (among a numbers) i none

    there : slice_get (among a numbers) i ≡ Some n
    there = one_among search a pace numbers i none judged (omega (arith, from, to))

    has : IsKnown n search.number
    has = subst (λ m. IsKnown m search.number)
        (one_answer pace (all_shown search) t known.known.0 n known.known.1
        (subst (λ f. IsAnswer pace (all_shown search) f n) (omega (arith, from))
        (judged_among search a pace numbers i n judged there).2))
        known.known.2

    other : (place : ℕ) (answer : Number) → slice_get (among a numbers) place ≡ Some answer
        → IsKnown answer search.number → place < i → ⊥
    other place answer shown its less =
        let (rest, answered, unlike) = known.others (a.from + place) (omega (arith, less)) in
        unlike (subst (λ m. IsKnown m search.number)
        (one_answer pace (all_shown search) (a.from + place) answer rest
        (judged_among search a pace numbers place answer judged shown).2 answered) its)

    at : (place : ℕ) → IsFirst (among a numbers) search.number (Some place) → a.from + place ≡ t
    at place ((answer, shown, its), others) = elim (leb_tells (i + 1) place) [
      | inl (s, more) ↦ absurd (others i n (omega (arith, more)) there has)
      | inr (s, up_to) ↦ elim (leb_tells i place) [
        | inl (u, same) ↦ omega (arith, up_to, same, from)
        | inr (u, less) ↦ absurd (other place answer shown its less)
      ]
    ]

-- so it is, if the fields lead to it, whatever pace was found
pub first_sought : (search : NumberSearch) (a : Around) (t : ℕ) (pace here : paces.Pace) (numbers : List Number)
    → IsJudgedAround search a here numbers
    → IsFirstKnown (numbers_of search) search.number t pace → (a.from ≤ t) × (t < a.to)
    → IsFoundAt search a t numbers
first_sought search a t pace here numbers judged known (from, to) =
    first_found search a t here numbers (record { number = 0; state = 0 }) judged
    (subst (IsFirstKnown (numbers_of search) search.number t)
    (sym (known.asked a.first (a.end - a.first) here (omega (arith, judged.window.few))
    (judged_in search a here numbers t judged from to))) known)
    from to
