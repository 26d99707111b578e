-- What the fields of a side tell leads to the field with a number, or to the one in which a chapter begins.
use Rattle.std.proofs.Common.{◌≡◌, ◌∙◌, ℕ, zero, suc, ◌+◌, ◌-◌, ◌*◌, ◌/◌, ◌<◌, ◌≤◌, sym, subst, ap, refl, inl, inr}
use Rattle.std.proofs.Common.{arith, Bool, true, false, lit<}
use Rattle.std.specs.Prelude.{Option, Some, None}
use Rattle.std.proofs.lemmas.Bool.Decides.{leb_tells}
use Rattle.vbi_seek.specs.declared.asked.Judging.{Judging}
use Rattle.vbi_seek.specs.declared.halving.End.{End}
use Rattle.vbi_seek.specs.declared.halving.End.TheVariants.{First, Last}
use Rattle.vbi_seek.specs.declared.narrowing.Between.{Between}
use Rattle.vbi_seek.specs.declared.narrowing.Spot.{Spot}
use Rattle.vbi_seek.specs.declared.search.Target.{Target}
use Rattle.vbi_seek.specs.declared.search.Target.TheVariants.{Number, Chapter}
use Rattle.vbi_seek.specs.declared.search.Looked.{Looked}
use Rattle.vbi_seek.specs.declared.search.Search.{Search}
use Rattle.vbi_seek.specs.FieldLines.{side_of}
use Rattle.vbi_seek.specs.Targets.{TellFirst, longest_of, most_of}
use Rattle.vbi_seek.specs.NumberSearch.{left_most}
use Rattle.vbi_seek.specs.NumberSpots.{IsNarrowed, middle_of}
use Rattle.vbi_seek.specs.Searches.{IsAlone, IsHalved, IsHalving, IsNarrowedAt, IsNarrower, IsPart, IsReadAtMost}
use Rattle.vbi_seek.specs.Searches.{IsSilent, LeadsTo, middle_in}
use Rattle.vbi_seek.specs.Spots.{IsToldAt, IsWithin, half, left_by, past_of, three_quarters, whole}

-- what is told reaches no further than is looked at
reaches : (kind : Target) (f k : ℕ) → past_of kind f k ≤ f + (k - most_of kind) + most_of kind
reaches (Number judging) f k = omega arith
reaches Chapter f k = omega arith

-- once something is told
pub record HasBegun (most t a b : ℕ) (between : Between) : Type 0 where
  pub within : IsWithin most t a b between
  pub told : IsToldAt between

none_some : (x : Option ℕ) (n : ℕ) → x ≡ None → x ≡ Some n → ⊥
none_some x n none some = cc

-- the half on the side of an end
abbrev pub half_at : End → Between → Between
half_at First old = record old { high = middle_in old }
half_at Last old = record old { low = middle_in old }

-- the middles of sixteen parts aren't all silent: each silent one lies before a
below : (a b p : ℕ) → p ≤ b → (p ≤ b → a ≤ p → ⊥) → p < a
below a b p before outside = elim (leb_tells a p) [
  | inl (s, from) ↦ absurd (outside before from)
  | inr (s, less) ↦ less
]

part_first : (count a b p : ℕ) → count + 16 * a ≤ 16 * (b + 1) → b < count → 32 * p ≤ count → (p ≤ b → a ≤ p → ⊥)
    → p < a
part_first count a b p part inside low outside = below a b p (omega (arith, part, inside, low)) outside

part_next : (count a b x p q : ℕ) → count + 16 * a ≤ 16 * (b + 1) → b < count → p < a → x < 32 * (p + 1)
    → 32 * q ≤ x + 2 * count → (q ≤ b → a ≤ q → ⊥) → q < a
part_next count a b x p q part inside less high low outside =
    below a b q (omega (arith, part, inside, low, high, less)) outside

-- ---- what leads there

module _ (search : Search) (t a b : ℕ) (leads : LeadsTo search t a b) where
  abbrev most : ℕ
  most = most_of search.kind

  abbrev size : ℕ
  size = search.side.count

  -- a silent spot isn't one of those from a to b
  silent_outside : (f : ℕ) → IsSilent search f → a ≤ f → f ≤ b → ⊥
  silent_outside f silent from to =
      let (k, n, few, tells) = leads.told f from to in silent k n few tells.inside tells.tells

  sixteen : ((part : ℕ) → part < 16 → IsSilent search (middle_of size 16 part)) → (k : ℕ) → k < 16
      → middle_of size 16 k < a
  sixteen silent zero few = part_first size a b (middle_of size 16 0) leads.part leads.inside (omega arith)
      (λ to from. silent_outside (middle_of size 16 0) (silent 0 few) from to)
  sixteen silent (suc k) few =
      let below : middle_of size 16 k < a = sixteen silent k (omega (arith, few)) in
      part_next size a b (size * (2 * k + 1)) (middle_of size 16 k) (middle_of size 16 (suc k)) leads.part
      leads.inside below (omega (arith, below, leads.part, leads.inside)) (omega arith)
      (λ to from. silent_outside (middle_of size 16 (suc k)) (silent (suc k) few) from to)

  not_all_silent : ((part : ℕ) → part < 16 → IsSilent search (middle_of size 16 part)) → ⊥
  not_all_silent silent =
      let last = sixteen silent 15 (lit< tt) in absurd (omega (arith, last, leads.part, leads.inside))

  -- the fields between which it is sought stay right where they are narrowed by what is told, and then something is
  -- told at one of the ends
  begun_at : (spot : Spot) (old new : Between) → IsWithin most t a b old → IsNarrowedAt search spot old new
      → HasBegun most t a b new
  begun_at spot old new within at = elim at.narrowed [
    | inl (less, is) ↦ subst (HasBegun most t a b) (sym is) (record {
      within = record {
        from = leads.lower spot.field at.read at.number tells less;
        to = within.to;
        lower = λ m told. leads.untold spot.field at.read at.number tells;
        higher = within.higher;
      };
      told = inl (at.number, refl);
    })
    | inr (more, is) ↦ subst (HasBegun most t a b) (sym is) (record {
      within = record {
        from = within.from;
        to = let past = leads.higher spot.field at.read at.number tells more in
            omega (arith, past, reaches search.kind spot.field at.read);
        lower = within.lower;
        higher = λ m told. leads.untold spot.field at.read at.number tells;
      };
      told = inr (at.number, refl);
    })
  ]
    where
      tells : TellFirst search.kind (side_of search.side) spot.field at.read at.number
      tells = record { few = at.few.0; inside = at.inside; tells = at.told; first = at.first }

  -- if the middle is silent, only one end has told something
  never_both : (n m : ℕ) (old : Between) → old.low ≤ old.high → IsSilent search (middle_in old)
      → old.lower ≡ Some n → old.higher ≡ Some m → IsWithin most t a b old → ⊥
  never_both n m old order silent lower higher within =
      let low = within.lower n lower in
      let high = within.higher m higher in
      silent_outside (middle_in old) silent (omega (arith, low.0)) (omega (arith, high.1, order))

  -- silence in the middle, if no other end than this one has told something
  half_within : (end : End) (old : Between) → old.low ≤ old.high → IsSilent search (middle_in old) → IsAlone end old
      → IsWithin most t a b old → IsToldAt old → HasBegun most t a b (half_at end old)
  half_within First old order silent alone within told = elim told [
    | inr (n, some) ↦ absurd (none_some old.higher n alone some)
    | inl (n, some) ↦
        let low = within.lower n some in
        let after : b < middle_in old = elim (leb_tells (middle_in old) b) [
          | inl (s, to) ↦ absurd (silent_outside (middle_in old) silent (omega (arith, low.0)) to)
          | inr (s, more) ↦ more
        ] in
        record {
          within = record {
            from = within.from;
            to = omega (arith, after, leads.between.1);
            lower = within.lower;
            higher = λ m some. absurd (none_some old.higher m alone some);
          };
          told = inl (n, some);
        }
  ]
  half_within Last old order silent alone within told = elim told [
    | inl (n, some) ↦ absurd (none_some old.lower n alone some)
    | inr (n, some) ↦
        let high = within.higher n some in
        let before : middle_in old < a = elim (leb_tells a (middle_in old)) [
          | inl (s, from) ↦ absurd (silent_outside (middle_in old) silent from (omega (arith, high.1, order)))
          | inr (s, less) ↦ less
        ] in
        record {
          within = record {
            from = omega (arith, before, leads.between.0);
            to = within.to;
            lower = λ m some. absurd (none_some old.lower m alone some);
            higher = within.higher;
          };
          told = inr (n, some);
        }
  ]

  at_first : IsWithin most t a b (whole size)
  at_first = record {
    from = omega arith;
    to = omega (arith, leads.between.1, leads.inside);
    lower = λ n told. absurd (none_some None n refl told);
    higher = λ n told. absurd (none_some None n refl told);
  }

-- ---- how few fields a step leaves

-- told of a number at a spot that leaves three quarters at most
by_quarters : (sought at n : ℕ) (spot : Spot) (old new : Between) → IsHalving old spot → spot.field ≤ at
    → at ≤ spot.field + spot.more → IsNarrowed sought at n old new
    → new.high - new.low ≤ three_quarters (old.high - old.low)
by_quarters sought at n spot old new halving from to narrowed = elim narrowed [
  | inl (less, is) ↦ subst (λ (b : Between). b.high - b.low ≤ three_quarters (old.high - old.low)) (sym is)
      (omega (arith, halving.later, from))
  | inr (more, is) ↦ subst (λ (b : Between). b.high - b.low ≤ three_quarters (old.high - old.low)) (sym is)
      (omega (arith, halving.earlier, to))
]

-- told in the middle
in_middle : (kind : Target) (sought n read : ℕ) (old new : Between) → old.low + left_most < old.high
    → read ≤ longest_of kind → read ≤ most_of kind + (old.high - old.low) / 8
    → IsNarrowed sought (middle_in old + (read - most_of kind)) n old new
    → new.high - new.low ≤ left_by kind (old.high - old.low)
in_middle (Number judging) sought n read old new wide short few narrowed =
    by_quarters sought (middle_in old + (read - 12)) n
    (record { field = middle_in old; more = (old.high - old.low) / 8 }) old new
    (record { inside = (omega arith, omega (arith, wide)); later = omega (arith, wide); earlier = omega (arith, wide) })
    (omega arith) (omega (arith, few)) narrowed
in_middle Chapter sought n read old new wide short few narrowed = elim narrowed [
  | inl (less, is) ↦ subst (λ (b : Between). b.high - b.low ≤ half (old.high - old.low)) (sym is)
      (omega (arith, wide, short))
  | inr (more, is) ↦ subst (λ (b : Between). b.high - b.low ≤ half (old.high - old.low)) (sym is)
      (omega (arith, wide, short))
]

in_half : (kind : Target) (end : End) (old : Between) → old.low + left_most < old.high
    → (half_at end old).high - (half_at end old).low ≤ left_by kind (old.high - old.low)
in_half (Number judging) First old wide = omega (arith, wide)
in_half (Number judging) Last old wide = omega (arith, wide)
in_half Chapter First old wide = omega (arith, wide)
in_half Chapter Last old wide = omega (arith, wide)

-- ---- a step

pub told_there : (search : Search) (judging : Judging) (spot : Spot) (old new : Between)
    → search.kind ≡ Number judging → IsHalving old spot → IsNarrowedAt search spot old new → IsHalved search old new
told_there search judging spot old new is halving at = λ t a b leads within told.
    let begun = begun_at search t a b leads spot old new within at in
    record {
      within = begun.within;
      told = begun.told;
      narrower = subst (λ (kind : Target). new.high - new.low ≤ left_by kind (old.high - old.low)) (sym is)
          (by_quarters search.sought (spot.field + (at.read - most_of search.kind)) at.number spot old new halving
          (omega arith) (omega (arith, at.few.1)) at.narrowed);
    }

pub told_in_middle : (search : Search) (old new : Between) → old.low + left_most < old.high
    → IsNarrowedAt search (record { field = middle_in old; more = (old.high - old.low) / 8 }) old new
    → IsHalved search old new
told_in_middle search old new wide at = λ t a b leads within told.
    let begun = begun_at search t a b leads (record { field = middle_in old; more = (old.high - old.low) / 8 }) old new
    within at in
    record {
      within = begun.within;
      told = begun.told;
      narrower = in_middle search.kind search.sought at.number at.read old new wide at.few.0 at.few.1 at.narrowed;
    }

-- silence in the middle, if no other end than this one has told something
pub silent_halves : (search : Search) (end : End) (old new : Between) → old.low + left_most < old.high
    → IsSilent search (middle_in old) → IsAlone end old → new ≡ half_at end old → IsHalved search old new
silent_halves search end old new wide silent alone is = λ t a b leads within told.
    let begun = half_within search t a b leads end old (omega (arith, wide)) silent alone within told in
    subst (IsNarrower search.kind t a b old) (sym is)
    (record { within = begun.within; told = begun.told; narrower = in_half search.kind end old wide })

-- if the middle is silent, nothing leads to where both ends have told something
pub never_led : (search : Search) (n m t a b : ℕ) (old kept : Between) → IsPart search old → kept ≡ old
    → IsSilent search (middle_in old) → kept.lower ≡ Some n → kept.higher ≡ Some m → LeadsTo search t a b
    → IsWithin (most_of search.kind) t a b old → ⊥
never_led search n m t a b old kept part same silent lower higher leads within =
    never_both search t a b leads n m old part.0 silent (sym (ap (λ (b : Between). b.lower) same) ∙ lower)
    (sym (ap (λ (b : Between). b.higher) same) ∙ higher) within

-- no more than at one spot is little enough
pub read_at_most : (kind : Target) (before after : Looked)
    → before.fields + before.spare + most_of kind ≤ 824
    → after.fields + after.spare ≤ before.fields + before.spare + most_of kind → IsReadAtMost kind before after
read_at_most (Number judging) before after room few = few
read_at_most Chapter before after room few = omega (arith, room, few)

-- ---- the whole way

-- the fields of the side are narrowed by the first spot that tells something, if one does
module _ (search : Search) (told : Bool) (first new : Between) (all : first ≡ whole search.side.count)
    (narrowed : told ≡ true → (spot : Spot) × (spot.field ≤ search.side.count) × IsNarrowedAt search spot first new)
  where
    -- nothing leads there if the middles of sixteen parts are silent
    pub nowhere : (t a b : ℕ)
        → (told ≡ false → (part : ℕ) → part < 16 → IsSilent search (middle_of search.side.count 16 part))
        → LeadsTo search t a b → told ≡ false → ⊥
    nowhere t a b silent leads none = not_all_silent search t a b leads (silent none)

    pub begun : (t a b : ℕ)
        → (told ≡ false → (part : ℕ) → part < 16 → IsSilent search (middle_of search.side.count 16 part))
        → LeadsTo search t a b → HasBegun (most_of search.kind) t a b new
    begun t a b silent leads = go told refl
      where
        go : (is : Bool) → told ≡ is → HasBegun (most_of search.kind) t a b new
        go false none = absurd (nowhere t a b silent leads none)
        go true some =
            let (spot, inside, at) = narrowed some in
            begun_at search t a b leads spot first new
            (subst (IsWithin (most_of search.kind) t a b) (sym all) (at_first search t a b leads)) at

    pub begun_part : (told ≡ false → new ≡ first) → IsPart search new
    begun_part kept = go told refl
      where
        part : IsPart search first
        part = subst (IsPart search) (sym all) (omega arith, omega arith)

        go : (is : Bool) → told ≡ is → IsPart search new
        go false none = subst (IsPart search) (sym (kept none)) part
        go true some =
            let (spot, inside, at) = narrowed some in
            let end : first.high ≡ search.side.count = ap (λ (b : Between). b.high) all in
            let begin : first.low ≡ 0 = ap (λ (b : Between). b.low) all in
            elim at.narrowed [
              | inl (less, is) ↦ subst (IsPart search) (sym is) (omega (arith, at.inside, end), omega (arith, end))
              | inr (more, is) ↦ subst (IsPart search) (sym is)
                  (omega (arith, begin), omega (arith, at.inside, inside))
            ]
