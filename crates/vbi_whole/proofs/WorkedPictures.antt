-- Pictures that are all read: what is answered of them, and that they are whole.
use Rattle.std.proofs.Common.{◌≡◌, ℕ, zero, suc, ◌+◌, ◌*◌, ◌<◌, ◌≤◌, Bool, true, false, List, [], refl, sym, ap, subst}
use Rattle.std.proofs.Common.{arith, inl, inr, ◌∙◌}
use Rattle.std.specs.Prelude.{Some, slice_get, ◌⊎◌, nat_le, ◌&&◌}
use Rattle.std.proofs.lemmas.Bool.{leb-true, and_parts}
use Rattle.std.proofs.lemmas.Bool.Decides.{eqb_tells, leb_tells}
use Rattle.vbi_whole.specs.Types.{Number, Numbering, Video, Clock}
use Rattle.vbi_side.specs.Sightings.{Shows}
use Rattle.vbi_side.specs.Paces.{nearly, spot}
use Rattle.vbi_side.specs.Clocks.{kept}
use Rattle.vbi_side.specs.Beliefs.{enough, weight_below, support_of, Believed}
use Rattle.vbi_side.specs.Truth.{wrong_weight, video_disc}
use Rattle.vbi_side.specs.Numbers.{believed, nothing, IsMarked, AreAnswers}
use Rattle.vbi_side.specs.DueNumbers.{IsLeft}
use Rattle.vbi_side.specs.Side.{AreEnds}
use Rattle.vbi_whole.specs.Gaps.{AreNeighbours, AreGaps, of_video, rule_by}
use Rattle.vbi_whole.specs.Swaps.{IsSwap, is_stray}
use Rattle.vbi_whole.specs.Drifts.{IsDrift}
use Rattle.vbi_side.specs.Worked.{field_of, blank}
use Rattle.vbi_whole.specs.WorkedSides.{pictures_from, answers_from, worked_side, worked_answers}
use Rattle.vbi_side.proofs.Truth.{complete, near_same}
use Rattle.vbi_side.proofs.Worked.{none_shown}
use Rattle.vbi_side.proofs.Discs.{video_runs, video_has}
use Rattle.vbi_side.proofs.Whole.{none_misread}
use Rattle.vbi_whole.proofs.Telling.{some_is}

-- ---- what the fields show

shown_here : (m n : ℕ) → Shows (Some (field_of m 2 m 2)) n → m ≡ n
shown_here m n shown = grind arith

-- a number that a field shows is its place's
pub shown_is : (k first i n : ℕ) → Shows (slice_get (pictures_from k first) i) n → i + 2 * first ≡ 2 * n
shown_is zero first i n shown = absurd shown
shown_is (suc k) first zero n shown = omega (arith, shown_here first n shown)
shown_is (suc k) first (suc zero) n shown = absurd (none_shown n shown)
shown_is (suc k) first (suc (suc i)) n shown = omega (arith, shown_is k (suc first) i n shown)

-- they are these
pub shown_less : (k first i n : ℕ) → Shows (slice_get (pictures_from k first) i) n → n < first + k
shown_less zero first i n shown = absurd shown
shown_less (suc k) first zero n shown = omega (arith, shown_here first n shown)
shown_less (suc k) first (suc zero) n shown = absurd (none_shown n shown)
shown_less (suc k) first (suc (suc i)) n shown = omega (arith, shown_less k (suc first) i n shown)

-- ---- what is answered of them

-- of even fields the number of their place, of odd ones nothing
pub answer_is : (k first i : ℕ) (answer : Number) → slice_get (answers_from k first) i ≡ Some answer
    → ((t : ℕ) × (i ≡ 2 * t) × (t < k) × (answer ≡ believed (first + t)))
    ⊎ ((t : ℕ) × (i ≡ 2 * t + 1) × (t < k) × (answer ≡ nothing))
answer_is zero first i answer at = absurd (let h = at in cc)
answer_is (suc k) first zero answer at =
    let same : first ≡ first + 0 = omega arith in
    inl (0, refl, omega arith, sym (some_is (believed first) answer at) ∙ ap believed same)
answer_is (suc k) first (suc zero) answer at = inr (0, refl, omega arith, sym (some_is nothing answer at))
answer_is (suc k) first (suc (suc i)) answer at = elim (answer_is k (suc first) i answer at) [
  | inl (t, is, less, e) ↦
      let same : suc first + t ≡ first + (t + 1) = omega arith in
      inl (t + 1, omega (arith, is), omega (arith, less), e ∙ ap believed same)
  | inr (t, is, less, e) ↦ inr (t + 1, omega (arith, is), omega (arith, less), e)
]

-- field 2 t has number first + t
pub marked_at : (k first t : ℕ) → t < k → IsMarked (answers_from k first) (2 * t) (first + t)
marked_at zero first t less = absurd (omega (arith, less))
marked_at (suc k) first zero less = ap (λ n. Some (believed n)) (let same : first ≡ first + 0 = omega arith in same)
marked_at (suc k) first (suc t) less =
    let place : suc (suc (2 * t)) ≡ 2 * suc t = omega arith in
    let number : suc first + t ≡ first + suc t = omega arith in
    subst (λ i. slice_get (answers_from (suc k) first) i ≡ Some (believed (first + suc t))) place
    (marked_at k (suc first) t (omega (arith, less)) ∙ ap (λ n. Some (believed n)) number)

pub shown_at : (k first t : ℕ) → t < k → slice_get (pictures_from k first) (2 * t)
    ≡ Some (field_of (first + t) 2 (first + t) 2)
shown_at zero first t less = absurd (omega (arith, less))
shown_at (suc k) first zero less =
    ap (λ n. Some (field_of n 2 n 2)) (let same : first ≡ first + 0 = omega arith in same)
shown_at (suc k) first (suc t) less =
    let place : suc (suc (2 * t)) ≡ 2 * suc t = omega arith in
    let number : suc first + t ≡ first + suc t = omega arith in
    subst (λ i. slice_get (pictures_from (suc k) first) i ≡ Some (field_of (first + suc t) 2 (first + suc t) 2)) place
    (shown_at k (suc first) t (omega (arith, less)) ∙ ap (λ n. Some (field_of n 2 n 2)) number)

pub blank_at : (k first t : ℕ) → t < k → slice_get (pictures_from k first) (2 * t + 1) ≡ Some blank
blank_at zero first t less = absurd (omega (arith, less))
blank_at (suc k) first zero less = refl
blank_at (suc k) first (suc t) less =
    let place : suc (suc (2 * t + 1)) ≡ 2 * suc t + 1 = omega arith in
    subst (λ i. slice_get (pictures_from (suc k) first) i ≡ Some blank) place
    (blank_at k (suc first) t (omega (arith, less)))

-- what is marked is the number of an even field's place
pub marked_is : (i n : ℕ) → IsMarked worked_answers i n → (i ≡ 2 * n) × (n < 25)
marked_is i n at = elim (answer_is 25 0 i (believed n) at) [
  | inl (t, is, less, e) ↦
      let same : n ≡ 0 + t = ap (λ (a : Number). a.number) e in (omega (arith, is, same), omega (arith, less, same))
  | inr (t, is, less, e) ↦ let h : 1 ≡ 0 = ap (λ (a : Number). a.state) e in absurd (omega (arith, h))
]

-- the first one is in the first field, the last one in the last but one
pub ends_are : AreEnds worked_answers 0 0 48 24
ends_are = record {
  begins = refl;
  ends = refl;
  none_before = λ i k less. absurd (omega (arith, less));
  none_after = λ i k less at. let p = marked_is i k at in absurd (omega (arith, less, p.0, p.1));
}

-- ---- the judge's answers

-- enough supports each number
is_much : ℕ → Bool
is_much t = nat_le 10 (support_of Video worked_side (2 * t) t)

all_below : (ℕ → Bool) → ℕ → Bool
all_below test zero = true
all_below test (suc n) = test n && all_below test n

all_much : all_below is_much 25 ≡ true
unfolding weight_below is_much all_below
all_much = refl

below : (test : ℕ → Bool) (n t : ℕ) → all_below test n ≡ true → t < n → test t ≡ true
unfolding all_below
below test zero t all less = absurd (omega (arith, less))
below test (suc n) t all less =
    let p = and_parts (test n) (all_below test n) all in
    elim (eqb_tells t n) [
      | inl (u, same) ↦ subst (λ k. test k ≡ true) (sym same) p.0
      | inr (f, other) ↦ below test n t p.1 (omega (arith, less, other))
    ]

supported : (t : ℕ) → t < 25 → enough ≤ support_of Video worked_side (2 * t) t
unfolding is_much
supported t less = leb-true 10 (support_of Video worked_side (2 * t) t) (below is_much 25 t all_much less)

-- each number is the one on the disc
right : (i n : ℕ) → Shows (slice_get worked_side i) n → video_disc i ≡ Some n
right i n shown = video_has i n (omega (arith, shown_is 25 0 i n shown))

pub none_wrong : (i : ℕ) → wrong_weight video_disc worked_side i ≡ 0
none_wrong i = none_misread video_disc worked_side i right

pub believed_at : (t : ℕ) → t < 25 → Believed Video worked_side (2 * t) t
believed_at t less =
    complete Video video_disc worked_side (2 * t) t (video_runs (2 * t)) (video_has (2 * t) t refl)
    (subst (λ o. Shows o t) (sym (shown_at 25 0 t less))
    (inl (omega arith, let same : 0 + t ≡ t = omega arith in same)))
    (supported t less) (omega (arith, none_wrong (2 * t), supported t less))

-- believed numbers leave none for an odd field
none_due : (i t n : ℕ) → i ≡ 2 * t + 1 → IsLeft (Believed Video worked_side) Video i n → ⊥
none_due i t n is (earlier, later, leaves) =
    let b : Believed Video worked_side earlier.field earlier.number = leaves.first in
    let on : i + 2 * earlier.number ≡ earlier.field + 2 * n = leaves.on in
    absurd (omega (arith, is, on, shown_is 25 0 earlier.field earlier.number b.shown))

pub answers_are : AreAnswers Video worked_side worked_answers
answers_are = record {
  count = refl;
  each = λ i answer at. elim (answer_is 25 0 i answer at) [
    | inl (t, is, less, e) ↦
        let number : 0 + t ≡ t = omega arith in
        inl (t, subst (λ j. Believed Video worked_side j t) (sym is) (believed_at t less), e ∙ ap believed number)
    | inr (t, is, less, e) ↦ inr (inr (
      λ n b. absurd (omega (arith, is, shown_is 25 0 i n b.shown)),
      λ n d. absurd (none_due i t n is d.left),
      (blank, subst (λ j. slice_get worked_side j ≡ Some blank) (sym is) (blank_at 25 0 t less), e),
    ))
  ];
}

-- ---- no gap, no swap and no drift

-- two neighbours are two fields apart
pub apart_by_two : (i m k n : ℕ) → AreNeighbours worked_answers (spot i m) (spot k n) → k ≡ i + 2
apart_by_two i m k n pair =
    let here = marked_is i m pair.here in
    let there = marked_is k n pair.there in
    let order : i < k = pair.order in
    elim (leb_tells k (i + 2)) [
      | inl (t, le) ↦ omega (arith, le, here.0, there.0, order)
      | inr (f, far) ↦ absurd (pair.between (2 * (m + 1)) (m + 1) (omega (arith, here.0)) (omega (arith, here.0, far))
          (let number : 0 + (m + 1) ≡ m + 1 = omega arith in
          subst (λ x. IsMarked worked_answers (2 * (m + 1)) x) number
          (marked_at 25 0 (m + 1) (omega (arith, here.0, there.0, there.1, far)))))
    ]

near_each : (i m k n : ℕ) → i ≡ 2 * m → k ≡ 2 * n → nearly Video 0 (spot i m) (spot k n) ≡ true
near_each i m k n first last = near_same (k + 2 * m) (i + 2 * n) (omega (arith, first, last))

pub no_drift : (numbering : Numbering) → ((n : ℕ) → n < 25 → kept numbering.clock n ≡ n) → (j : ℕ)
    → IsDrift (rule_by Video 0 numbering) worked_answers j → ⊥
no_drift numbering same j drift = grind (arith, marked_is, near_each)

pub no_swap : (clock : Clock) (k : ℕ) → IsSwap clock worked_side worked_answers k → ⊥
no_swap clock k swap =
    let here = marked_is swap.i swap.m swap.neighbours.here in
    let there = marked_is swap.j swap.n swap.neighbours.there in
    let two = apart_by_two swap.i swap.m swap.j swap.n swap.neighbours in
    let place : k ≡ 2 * swap.m + 1 = omega (arith, here.0, two, swap.after, swap.before) in
    let dark = blank_at 25 0 swap.m here.1 in
    let at : slice_get worked_side k ≡ Some blank = subst (λ j. slice_get worked_side j ≡ Some blank)
    (sym place) dark in
    let h : false ≡ true = subst (λ o. is_stray clock worked_answers (spot swap.i swap.m) k o ≡ true) at swap.stray in
    cc

-- in a field with no number none ends, and each other number goes on
pub no_gaps : (numbering : Numbering) → ((n : ℕ) → n < 25 → kept numbering.clock n ≡ n) → (ends : List ℕ) (k : ℕ)
    → k ≤ 50
    → AreGaps (of_video numbering worked_side worked_answers ends) k [] 0
unfolding AreGaps
no_gaps numbering same ends zero le = (refl, refl)
no_gaps numbering same ends (suc k) le = go (no_gaps numbering same ends k (omega (arith, le))) (halves k)
  where
    halves : (n : ℕ) → (n ≡ 0) ⊎ ((t : ℕ) × (n ≡ 2 * (t + 1))) ⊎ ((t : ℕ) × (n ≡ 2 * t + 1))
    halves zero = inl refl
    halves (suc zero) = inr (inr (0, refl))
    halves (suc (suc j)) = elim (halves j) [
      | inl e ↦ inr (inl (0, omega (arith, e)))
      | inr rest ↦ elim rest [
        | inl (t, e) ↦ inr (inl (t + 1, omega (arith, e)))
        | inr (t, e) ↦ inr (inr (t + 1, omega (arith, e)))
      ]
    ]

    go : AreGaps (of_video numbering worked_side worked_answers ends) k [] 0
        → (k ≡ 0) ⊎ ((t : ℕ) × (k ≡ 2 * (t + 1))) ⊎ ((t : ℕ) × (k ≡ 2 * t + 1))
        → AreGaps (of_video numbering worked_side worked_answers ends) (suc k) [] 0
    go before (inl e) = inl (inr (λ j l less at. absurd (omega (arith, e, less))), before)
    go before (inr (inr (t, e))) = inl (inl (λ n at. absurd (omega (arith, e, (marked_is k n at).0))), before)
    go before (inr (inl (t, e))) = inr (inl (
      2 * t,
      t,
      t + 1,
      0,
      record {
        neighbours = record {
          order = omega (arith, e);
          here = let number : 0 + t ≡ t = omega arith in
              subst (λ x. IsMarked worked_answers (2 * t) x) number (marked_at 25 0 t (omega (arith, e, le)));
          there = let number : 0 + (t + 1) ≡ t + 1 = omega arith in
              subst (λ x. IsMarked worked_answers k x) number
              (subst (λ x. IsMarked worked_answers x (0 + (t + 1))) (sym e)
              (marked_at 25 0 (t + 1) (omega (arith, e, le))));
          between = λ j l more less at. absurd (omega (arith, e, more, less, (marked_is j l at).0));
        };
        near = near_same (k + 2 * kept numbering.clock t) (2 * t + 2 * kept numbering.clock (t + 1))
            (omega (arith, e, same t (omega (arith, e, le)), same (t + 1) (omega (arith, e, le))));
      },
      before,
      omega (arith, same t (omega (arith, e, le)), same (t + 1) (omega (arith, e, le))),
    ))
