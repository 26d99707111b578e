-- The field in which a chapter begins, by the answers of the fields around it.
use Rattle.std.proofs.Common.{◌≡◌, ℕ, ◌+◌, ◌-◌, ◌<◌, ◌≤◌, List, ap, sym, subst, ◌∙◌, arith, inl, inr}
use Rattle.std.proofs.Common.{refl}
use Rattle.std.specs.Prelude.{◌⊎◌, ◌↔◌, Some, get_or, slice_get, min}
use Rattle.std.proofs.lemmas.Bool.Decides.{leb_tells}
use Rattle.std.proofs.lemmas.List.FromFn.{length-map-range_with_len}
use Rattle.std.proofs.lemmas.Option.{slice_get-get_or}
use Rattle.vbi_side.specs.declared.number.Number.{Number}
use Rattle.vbi_side.specs.declared.sighting.Sightings.{Sightings}
use Rattle.vbi_side.specs.Beliefs.{reach}
use Rattle.vbi_side.specs.Chapters.{AreChapters, BelievedChapter}
use Rattle.vbi_side.specs.Numbers.{believed, IsMarked}
use Rattle.vbi_side.specs.Truth.{IsNear}
use Rattle.vbi_side.proofs.ChapterAnswers.{answer_believed, one_answer}
use Rattle.vbi_side.proofs.ChapterParts.{chapter_in_part}
use Rattle.vbi_side.proofs.Filling.{shown_within}
use Rattle.vbi_seek.specs.declared.chapter_search.Window.{Window}
use Rattle.vbi_seek.specs.declared.side_bytes.SideBytes.{SideBytes}
use Rattle.vbi_seek.specs.ChapterSearch.{chapters_at, side_from, HasChapter, Begins, BeginsAmong}
use Rattle.vbi_seek.specs.ChapterSearch.{AreSeenBefore, IsWindowOf, before_most}
use Rattle.vbi_seek.specs.ChapterLeads.{IsFirstOf, IsReached}
use Rattle.vbi_seek.specs.FieldLines.{side_of}
use Rattle.vbi_seek.proofs.Shown.{same_there}

-- ---- answers

-- what is known of the answers up to place i: none of the last ones has the chapter, and in none of all it begins
pub record IsClear (answers : List Number) (first from i clear n : ℕ) : Type 0 where
  pub few : clear ≤ before_most + i
  pub none : (j : ℕ) → from ≤ j → j < i → i ≤ j + clear → IsMarked answers j n → ⊥
  pub start : (first + from ≡ 0) ⊎ (from + clear ≤ i)
  pub last : (before_most ≤ clear) ⊎ ((0 < first + from) × (from + clear ≡ i))
      ⊎ ((j : ℕ) × (from ≤ j) × (j + clear + 1 ≡ i) × IsMarked answers j n)
  pub passed : (j : ℕ) → from ≤ j → j < i → AreSeenBefore first from j → BeginsAmong answers from j n → ⊥

-- ---- a window

-- what the fields of a window show is what those of the side show, as far as an answer depends on it
same_shown : (side : SideBytes) (w : Window) (i j : ℕ) → IsWindowOf side.count w → w.from ≤ i → i < w.to → IsNear i j
    → slice_get (side_from side w.first w.many) j ≡ slice_get (side_from side 0 side.count) (w.first + j)
same_shown side w i j window from to near =
    same_there (chapters_at (side_of side)) w.first w.many side.count j (omega (arith, window.order))
    (λ more. elim window.after [ inl all ↦ all | inr far ↦ absurd (omega (arith, far, near, more, to)) ])

-- a chapter is answered of a field there just if it is believed of it by what the whole side shows
pub told : (side : SideBytes) (w : Window) (answers : List Number) (i n : ℕ) → IsWindowOf side.count w
    → AreChapters (side_from side w.first w.many) answers → w.from ≤ i → i < w.to
    → IsMarked answers i n ↔ HasChapter (side_of side) (w.first + i) n
told side w answers i n window are from to = (
  λ has. both.0 (answer_believed part i n (believed n) (are.each i (believed n) has) refl),
  λ has. here ∙ ap Some (one_answer part i (get_or answers i (believed n)) (believed n) (are.each i
      (get_or answers i (believed n)) here) (inl (n, both.1 has, refl))),
)
  where
    part : List Sightings
    part = side_from side w.first w.many

    both : BelievedChapter part i n ↔ HasChapter (side_of side) (w.first + i) n
    both = chapter_in_part part (side_from side 0 side.count) w.first i n
        (elim window.before [ inl none ↦ inl none | inr far ↦ inr (omega (arith, far, from)) ])
        (λ j near. same_shown side w i j window from to near)

    here : slice_get answers i ≡ Some (get_or answers i (believed n))
    here = slice_get-get_or answers i (believed n) (omega (
      arith,
      are.count ∙ length-map-range_with_len (chapters_at (side_of side)) w.first w.many,
      window.order,
      to,
    ))

-- the chapter begins in a field of the window just if it does by the answers, if enough of them are known
pub begins_on : (side : SideBytes) (w : Window) (answers : List Number) (i n : ℕ) → IsWindowOf side.count w
    → AreChapters (side_from side w.first w.many) answers → w.from ≤ i → i < w.to → AreSeenBefore w.first w.from i
    → BeginsAmong answers w.from i n → Begins (side_of side) (w.first + i) n
begins_on side w answers i n window are from to seen begins = record {
  has = (told side w answers i n window are from to).0 begins.has;
  first = λ j less near has. go j less near has (from_there j near);
}
  where
    from_there : (j : ℕ) → w.first + i ≤ j + before_most → w.first + w.from ≤ j
    from_there j near = elim seen [ inl far ↦ omega (arith, far, near) | inr none ↦ omega (arith, none) ]

    go : (j : ℕ) → j < w.first + i → w.first + i ≤ j + before_most
        → HasChapter (side_of side) j n → w.first + w.from ≤ j → ⊥
    go j less near has more =
        let k = j - w.first in
        let is : w.first + k ≡ j = omega (arith, more) in
        begins.first k (omega (arith, more)) (omega (arith, more, less)) (omega (arith, more, near))
        ((told side w answers k n window are (omega (arith, more)) (omega (arith, more, less, to))).1
        (subst (λ f. HasChapter (side_of side) f n) (sym is) has))

pub begins_back : (side : SideBytes) (w : Window) (answers : List Number) (i n : ℕ) → IsWindowOf side.count w
    → AreChapters (side_from side w.first w.many) answers → w.from ≤ i → i < w.to
    → Begins (side_of side) (w.first + i) n → BeginsAmong answers w.from i n
begins_back side w answers i n window are from to begins = record {
  has = (told side w answers i n window are from to).1 begins.has;
  first = λ j more less near has. begins.first (w.first + j) (omega (arith, less)) (omega (arith, near))
      ((told side w answers j n window are more (omega (arith, less, to))).0 has);
}

-- if it begins in none of those by the answers, it does in none of 24 of them, or of all
pub found_none : (side : SideBytes) (w : Window) (answers : List Number) (n looked : ℕ) → IsWindowOf side.count w
    → AreChapters (side_from side w.first w.many) answers → w.many ≤ looked
    → ((i : ℕ) → w.from ≤ i → i < w.to → AreSeenBefore w.first w.from i → BeginsAmong answers w.from i n → ⊥)
    → (first many : ℕ) × (first + many ≤ side.count) × (many ≤ looked) × (min side.count reach ≤ many)
    × ((i : ℕ) → first ≤ i → i < first + many → Begins (side_of side) i n → ⊥)
found_none side w answers n looked window are few none = elim window.wide [
  | inl (all, wide) ↦ (
    0,
    w.to,
    omega (arith, window.order),
    omega (arith, window.order, few),
    wide,
    λ i more less begins. none i (omega (arith, all)) (omega (arith, less)) (inr all)
        (begins_back side w answers i n window are (omega (arith, all)) (omega (arith, less))
        (subst (λ f. Begins (side_of side) f n) (omega (arith, all)) begins)),
  )
  | inr wide ↦ (
    w.first + w.from + before_most,
    w.to - (w.from + before_most),
    omega (arith, window.order, wide),
    omega (arith, window.order, few),
    omega (arith, wide),
    λ i more less begins.
        let k = i - w.first in
        let is : i ≡ w.first + k = omega (arith, more) in
        none k (omega (arith, more)) (omega (arith, more, less, wide)) (inl (omega (arith, more)))
        (begins_back side w answers k n window are (omega (arith, more)) (omega (arith, more, less, wide))
        (subst (λ f. Begins (side_of side) f n) is begins)),
  )
]

-- ---- the first field with the chapter

-- it is one of the side
pub first_inside : (side : SideBytes) (t n : ℕ) → IsFirstOf (side_of side) n t → t < side.count
first_inside side t n first = omega (
  arith,
  shown_within (side_from side 0 side.count) t n first.has.shown,
  length-map-range_with_len (chapters_at (side_of side)) 0 side.count,
)

-- if it is one of those in which the chapter is looked for, the chapter is found to begin there
module _ (side : SideBytes) (w : Window) (answers : List Number) (n t : ℕ) (window : IsWindowOf side.count w)
    (are : AreChapters (side_from side w.first w.many) answers)
    (first : IsFirstOf (side_of side) n t) (reached : IsReached t w) where
  -- its place among them
  abbrev k : ℕ
  k = t - w.first

  place : w.first + k ≡ t
  place = elim reached.before [ inl far ↦ omega (arith, far) | inr none ↦ omega (arith, none) ]

  from : w.from ≤ k
  from = elim reached.before [ inl far ↦ omega (arith, far) | inr none ↦ omega (arith, none) ]

  seen : AreSeenBefore w.first w.from k
  seen = elim reached.before [ inl far ↦ inl (omega (arith, far)) | inr none ↦ inr none ]

  begins : BeginsAmong answers w.from k n
  begins = begins_back side w answers k n window are from (omega (arith, place, reached.to))
      (subst (λ f. Begins (side_of side) f n) (sym place)
      (record { has = first.has; first = λ j less near has. first.others j less has }))

  pub found_there : (at : ℕ) → w.from ≤ at → at < w.to → BeginsAmong answers w.from at n
      → ((i : ℕ) → w.from ≤ i → i < at → AreSeenBefore w.first w.from i → BeginsAmong answers w.from i n → ⊥)
      → w.first + at ≡ t
  found_there at low high found passed = elim (leb_tells k at) [
    | inr (f, before) ↦ absurd (first.others (w.first + at) (omega (arith, place, before))
        ((told side w answers at n window are low high).0 found.has))
    | inl (s, after) ↦ elim (leb_tells at k) [
      | inl (u, same) ↦ omega (arith, place, after, same)
      | inr (u, later) ↦ absurd (passed k from later seen begins)
    ]
  ]

  pub never_none : ((i : ℕ) → w.from ≤ i → i < w.to → AreSeenBefore w.first w.from i
      → BeginsAmong answers w.from i n → ⊥) → ⊥
  never_none none = none k from (omega (arith, place, reached.to)) seen begins
