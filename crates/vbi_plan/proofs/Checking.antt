-- A check of a plan, field by field: from the numbers before a field the next ones count on as from the last of them.
use Rattle.std.proofs.Common.{◌≡◌, ◌∙◌, ℕ, ap, add-one, ◌+◌, ◌<◌, ◌≤◌, refl, sym, arith, subst, true, false, inl, inr}
use Rattle.std.specs.Prelude.{◌⊎◌, List, Option, Some, None, slice_get}
use Rattle.vbi_plan.specs.declared.plan.Capture.{Capture}
use Rattle.vbi_plan.specs.declared.plan.Spacing.{Spacing}
use Rattle.vbi_plan.specs.declared.plan.Spacing.TheVariants.{Video, Both, Film, Rising}
use Rattle.vbi_plan.specs.declared.plan.Stretch.{Stretch}
use Rattle.vbi_plan.specs.Plans.{AreOf, CountsOn, GoesOn, IsBefore, IsGood, IsInPlace, IsReached, Plan, Shows}
use Rattle.vbi_plan.specs.Plans.{StandsFor, fields_in, is_both, out_at, place_of, rank_at, rank_of}
use Rattle.vbi_side.specs.Numbers.{IsMarked}

-- what a place has is one thing
pub some_is : {A : Type 0} (a b : A) → Some a ≡ Some b → a ≡ b
some_is a b e = cc

-- ---- counting on

-- what counts on from a number that is the first, or counts on from it, counts on from the first
first_from : (spacing : Spacing) (a r f q g s : ℕ) → CountsOn spacing a r f q → CountsOn spacing f q g s
    → ((f ≡ a) × (q ≡ r)) ⊎ (is_both spacing ≡ false) → CountsOn spacing a r g s
first_from Video a r f q g s p e w = (omega (arith, p.0, e.0), omega (arith, p.1, e.1))
first_from Film a r f q g s p e w = (omega (arith, p.0, e.0), omega (arith, p.1, e.1))
first_from Rising a r f q g s p e w = (omega (arith, p.0, e.0), omega (arith, p.1, e.1))
first_from Both a r f q g s p e (inl same) = (omega (arith, e.0, same.0, same.1), omega (arith, e.1, same.0, same.1))
first_from Both a r f q g s p e (inr other) = absurd cc

-- what counts on from a number that goes on from another one goes on from that
goes_from : (spacing : Spacing) (a r f q g s : ℕ) → GoesOn spacing a r f q → CountsOn spacing f q g s
    → GoesOn spacing a r g s
goes_from Video a r f q g s p e = (omega (arith, p.0, e.0), omega (arith, p.1, e.1))
goes_from Film a r f q g s p e = (omega (arith, p.0, e.0), omega (arith, p.1, e.1))
goes_from Rising a r f q g s p e = (omega (arith, p.0, e.0), omega (arith, p.1, e.1))
goes_from Both a r f q g s p e = tt

-- a number goes on from itself
goes_here : (spacing : Spacing) (a r b s : ℕ) → a ≡ b → r ≡ s → GoesOn spacing a r b s
goes_here Video a r b s p e = (omega (arith, p, e), omega (arith, p, e))
goes_here Film a r b s p e = (omega (arith, p, e), omega (arith, p, e))
goes_here Rising a r b s p e = (omega (arith, p, e), omega (arith, p, e))
goes_here Both a r b s p e = tt

-- of one that goes on, unless numbers stand on both fields
counts_as : (spacing : Spacing) (a r f q g s : ℕ) → is_both spacing ≡ false → f ≡ a → q ≡ r → GoesOn spacing a r g s
    → CountsOn spacing f q g s
counts_as Video a r f q g s other p e w = (omega (arith, p, e, w.0), omega (arith, p, e, w.1))
counts_as Film a r f q g s other p e w = (omega (arith, p, e, w.0), omega (arith, p, e, w.1))
counts_as Rising a r f q g s other p e w = (omega (arith, p, e, w.0), omega (arith, p, e, w.1))
counts_as Both a r f q g s other p e w = absurd cc

counts_same : (spacing : Spacing) (a r f q g s : ℕ) → f ≡ a → q ≡ r → CountsOn spacing a r g s
    → CountsOn spacing f q g s
counts_same spacing a r f q g s p e w =
    subst (λ x. CountsOn spacing x q g s) (sym p) (subst (λ y. CountsOn spacing a y g s) (sym e) w)

-- the same numbers in the same fields have the same relation to what is before them
same_end : (R : ℕ → ℕ → Type 0) (f q g s : ℕ) → g ≡ f → s ≡ q → R f q → R g s
same_end R f q g s p e w = subst (λ x. R x s) (sym p) (subst (λ y. R f y) (sym e) w)

-- ---- one field more

less_or : (j s : ℕ) → j < s + 1 → (j < s) ⊎ (j ≡ s)
less_or j s less = grind arith

-- a field before the next one is that before, or one before it
before_more : (k h i j : ℕ) → IsBefore k h i (j + 1) → IsBefore k h i j ⊎ ((k ≡ i) × (h ≡ j))
before_more k h i j (inl less) = inl (inl less)
before_more k h i j (inr here) = elim (less_or h j here.1) [
  | inl less ↦ inl (inr (here.0, less))
  | inr same ↦ inr (here.0, same)
]

-- a field of a stretch that is taken shows its believed number
pub shows_here : (plan : Plan) (i j n : ℕ) (stretch : Stretch) → slice_get plan.stretches i ≡ Some stretch
    → stretch.padding ≡ 0 → j < stretch.fields → IsMarked plan.numbers (stretch.field + j) n → Shows plan i j n
shows_here plan i j n one is taken less marked =
    record { stretch = one; there = is; taken = taken; inside = less; believed = marked }

-- a field shows one number
one_number : (plan : Plan) (i j m n : ℕ) → Shows plan i j m → Shows plan i j n → m ≡ n
one_number plan i j m n one other =
    let e : Some one.stretch ≡ Some other.stretch = sym one.there ∙ other.there in
    grind (arith, e, one.believed, other.believed)

-- a number is in its place if it counts on from what was reached
pub in_its_place : (plan : Plan) (i j n f r : ℕ) → IsReached plan i j f r → StandsFor plan i (rank_of plan n)
    → CountsOn plan.layout.spacing f r (place_of plan i j) (rank_of plan n) → IsInPlace plan i j n
in_its_place plan i j n f r reached own counts = record {
  own = own;
  follows = record {
    from_first = first_from plan.layout.spacing plan.layout.begin (rank_at plan 0) f r (place_of plan i j)
        (rank_of plan n) reached.follows.from_first counts
        (elim reached.origin [ inl same ↦ inl same | inr one ↦ inr one.0 ]);
    from_each = λ k h m before shows. goes_from plan.layout.spacing (place_of plan k h) (rank_of plan m) f r
        (place_of plan i j) (rank_of plan n) (reached.follows.from_each k h m before shows) counts;
  };
}

-- and only if it does
pub counts_if_placed : (plan : Plan) (i j n f r : ℕ) → IsReached plan i j f r → IsInPlace plan i j n
    → CountsOn plan.layout.spacing f r (place_of plan i j) (rank_of plan n)
counts_if_placed plan i j n f r reached placed = elim reached.origin [
  | inl same ↦ counts_same plan.layout.spacing plan.layout.begin (rank_at plan 0) f r (place_of plan i j)
      (rank_of plan n) same.0 same.1 placed.follows.from_first
  | inr one ↦ let t = one.1 in
      counts_as plan.layout.spacing (place_of plan t.0 t.1) (rank_of plan t.2) f r (place_of plan i j)
      (rank_of plan n) one.0 t.5 t.6 (placed.follows.from_each t.0 t.1 t.2 t.3 t.4)
]

-- either numbers stand on both fields, or they don't
which : (spacing : Spacing) → (is_both spacing ≡ true) ⊎ (is_both spacing ≡ false)
which Video = inr refl
which Both = inl refl
which Film = inr refl
which Rising = inr refl

goes_anyway : (spacing : Spacing) (a r f q : ℕ) → is_both spacing ≡ true → GoesOn spacing a r f q
goes_anyway Both a r f q both = tt
goes_anyway Video a r f q both = absurd cc
goes_anyway Film a r f q both = absurd cc
goes_anyway Rising a r f q both = absurd cc

-- with numbers on both fields all are counted from the first
stayed : (plan : Plan) (i j f r a b : ℕ) → IsReached plan i j f r → is_both plan.layout.spacing ≡ true
    → (a ≡ f) × (b ≡ r) → IsReached plan i (j + 1) a b
stayed plan i j f r a b reached both same = record {
  follows = record {
    from_first = same_end (CountsOn plan.layout.spacing plan.layout.begin (rank_at plan 0)) f r a b same.0 same.1
        reached.follows.from_first;
    from_each = λ k h m before one. goes_anyway plan.layout.spacing (place_of plan k h) (rank_of plan m) a b both;
  };
  origin = elim reached.origin [
    | inl first ↦ inl (same.0 ∙ first.0, same.1 ∙ first.1)
    | inr other ↦ absurd (let clash : true ≡ false = sym both ∙ other.0 in cc)
  ];
}

-- else each is counted from the one before it
moved : (plan : Plan) (i j n a b : ℕ) → Shows plan i j n → IsInPlace plan i j n → is_both plan.layout.spacing ≡ false
    → (a ≡ place_of plan i j) × (b ≡ rank_of plan n) → IsReached plan i (j + 1) a b
moved plan i j n a b shows here other same = record {
  follows = record {
    from_first = same_end (CountsOn plan.layout.spacing plan.layout.begin (rank_at plan 0)) (place_of plan i j)
        (rank_of plan n) a b same.0 same.1 here.follows.from_first;
    from_each = λ k h m before one. elim (before_more k h i j before) [
      | inl less ↦ same_end (GoesOn plan.layout.spacing (place_of plan k h) (rank_of plan m)) (place_of plan i j)
          (rank_of plan n) a b same.0 same.1 (here.follows.from_each k h m less one)
      | inr at ↦ goes_here plan.layout.spacing (place_of plan k h) (rank_of plan m) a b
          (omega (arith, ap (out_at plan.stretches) at.0, at.1, same.0))
          (ap (rank_of plan) (one_number plan i j m n (subst (λ x. Shows plan i x m) at.1
          (subst (λ x. Shows plan x h m) at.0 one)) shows) ∙ sym same.1)
    ];
  };
  origin = inr (other, (i, j, n, inr (refl, omega arith), shows, same.0, same.1));
}

-- what is reached after a field that shows a number in its place: what was reached, or that number
pub went_on : (plan : Plan) (i j n f r a b : ℕ) → IsReached plan i j f r → Shows plan i j n
    → StandsFor plan i (rank_of plan n) → CountsOn plan.layout.spacing f r (place_of plan i j) (rank_of plan n)
    → (is_both plan.layout.spacing ≡ true → (a ≡ f) × (b ≡ r))
    → (is_both plan.layout.spacing ≡ false → (a ≡ place_of plan i j) × (b ≡ rank_of plan n))
    → IsReached plan i (j + 1) a b × ((m : ℕ) → Shows plan i j m → IsInPlace plan i j m)
went_on plan i j n f r a b reached shows own counts stays others =
    let here = in_its_place plan i j n f r reached own counts in (
      elim (which plan.layout.spacing) [
        | inl both ↦ stayed plan i j f r a b reached both (stays both)
        | inr other ↦ moved plan i j n a b shows here other (others other)
      ],
      λ m one. subst (IsInPlace plan i j) (one_number plan i j n m shows one) here,
    )

-- a stretch that is all in place, after all of its fields
pub went_past : (plan : Plan) (i j f r : ℕ)
    → ((k h m : ℕ) → IsBefore k h (i + 1) 0 → Shows plan k h m → IsBefore k h i j)
    → IsReached plan i j f r → IsReached plan (i + 1) 0 f r
went_past plan i j f r all reached = record {
  follows = record {
    from_first = reached.follows.from_first;
    from_each = λ k h m before shows. reached.follows.from_each k h m (all k h m before shows) shows;
  };
  origin = elim reached.origin [
    | inl first ↦ inl first
    | inr one ↦ let t = one.1 in inr (one.0, (t.0, t.1, t.2, inl (omega (arith, t.3)), t.4, t.5, t.6))
  ];
}

-- what a stretch shows stands in one of its fields
pub shown_inside : (plan : Plan) (i j n : ℕ) (stretch : Stretch)
    → slice_get plan.stretches i ≡ Some stretch → Shows plan i j n → j < stretch.fields
shown_inside plan i j n stretch there shows =
    let e : Some stretch ≡ Some shows.stretch = sym there ∙ shows.there in
    let f : stretch.fields ≡ shows.stretch.fields = ap (λ one. one.fields) (some_is stretch shows.stretch e) in
    omega (arith, f, shows.inside)

-- the numbers of one field more are in their places
pub placed_more : (plan : Plan) (i s : ℕ) → ((j n : ℕ) → j < s → Shows plan i j n → IsInPlace plan i j n)
    → ((n : ℕ) → Shows plan i s n → IsInPlace plan i s n)
    → (j n : ℕ) → j < s + 1 → Shows plan i j n → IsInPlace plan i j n
placed_more plan i s before here j n less shows = elim (less_or j s less) [
  | inl early ↦ before j n early shows
  | inr same ↦ subst (λ x. IsInPlace plan i x n) (sym same) (here n (subst (λ x. Shows plan i x n) same shows))
]

-- the fields of a taken stretch are all that it shows
pub all_of_it : (plan : Plan) (i j : ℕ) (stretch : Stretch)
    → slice_get plan.stretches i ≡ Some stretch → stretch.fields ≤ j
    → (k h m : ℕ) → IsBefore k h (i + 1) 0 → Shows plan k h m → IsBefore k h i j
all_of_it plan i j stretch there long k h m (inr here) shows = absurd (omega (arith, here.1))
all_of_it plan i j stretch there long k h m (inl less) shows = elim (less_or k i less) [
  | inl before ↦ inl before
  | inr same ↦ inr (
    same,
    omega (arith, long, shown_inside plan i h m stretch there (subst (λ x. Shows plan x h m) same shows)),
  )
]

-- ---- a whole plan

-- the fields of a capture are among those of all
pub inside_all : (count : ℕ) (capture : Option Capture) (stretch : Stretch) → AreOf count capture stretch
    → stretch.field + stretch.fields ≤ count
inside_all count None stretch of = absurd of
inside_all count (Some capture) stretch of = omega (arith, of.0, of.1, of.2)

counts_here : (spacing : Spacing) (a r f q : ℕ) → f ≡ a → q ≡ r → CountsOn spacing a r f q
counts_here Video a r f q p e = (omega (arith, p, e), omega (arith, p, e))
counts_here Both a r f q p e = (omega (arith, p, e), omega (arith, p, e))
counts_here Film a r f q p e = (omega (arith, p, e), omega (arith, p, e))
counts_here Rising a r f q p e = (omega (arith, p, e), omega (arith, p, e))

-- before the first field the plan's first number is reached
pub reached_first : (plan : Plan) (f r : ℕ) → f ≡ plan.layout.begin → r ≡ rank_at plan 0 → IsReached plan 0 0 f r
reached_first plan f r field rank = record {
  follows = record {
    from_first = counts_here plan.layout.spacing plan.layout.begin (rank_at plan 0) f r field rank;
    from_each = λ k h m before shows. absurd (none k h before);
  };
  origin = inl (field, rank);
}
  where
    none : (k h : ℕ) → IsBefore k h 0 0 → ⊥
    none k h (inl less) = omega (arith, less)
    none k h (inr here) = omega (arith, here.1)

-- the fields before the next stretch
pub out_more : (stretches : List Stretch) (i : ℕ) (stretch : Stretch) → slice_get stretches i ≡ Some stretch
    → out_at stretches (i + 1) ≡ out_at stretches i + stretch.fields
unfolding out_at
out_more stretches i stretch there = rw add-one (ap (λ one. out_at stretches i + fields_in one) there)

-- one stretch more is as it should be
pub good_more : (plan : Plan) (i : ℕ) → ((k : ℕ) → k < i → IsGood plan k) → IsGood plan i
    → (k : ℕ) → k < i + 1 → IsGood plan k
good_more plan i before here k less = elim (less_or k i less) [
  | inl early ↦ before k early
  | inr same ↦ subst (IsGood plan) (sym same) here
]
