-- The steps of halving lead to a place.
use Rattle.std.proofs.Common.{◌≡◌, ℕ, zero, suc, ◌+◌, ◌-◌, ◌*◌, ◌<◌, ◌≤◌, sym, subst, refl, inl, inr, arith}
use Rattle.std.proofs.Common.{lit≤, add-one}
use Rattle.std.specs.Prelude.{◌⊎◌}
use Rattle.std.proofs.lemmas.Bool.Decides.{leb_tells}
use Rattle.vbi_seek.specs.declared.narrowing.Between.{Between}
use Rattle.vbi_seek.specs.declared.search.Target.{Target}
use Rattle.vbi_seek.specs.declared.search.Target.TheVariants.{Number, Chapter}
use Rattle.vbi_seek.specs.declared.search.Looked.{Looked}
use Rattle.vbi_seek.specs.Targets.{most_of}
use Rattle.vbi_seek.specs.NumberSearch.{left_most}
use Rattle.vbi_seek.specs.Searches.{IsNarrower}
use Rattle.vbi_seek.specs.Spots.{IsPlaced, half, left_after, left_by, three_quarters}
use Rattle.vbi_seek.proofs.Leading.{HasBegun}

-- so few fields are left of those of the side after so many steps
pub record IsAsNear (kind : Target) (t a b count : ℕ) (between : Between) (steps : ℕ) : Type 0 where
  pub begun : HasBegun (most_of kind) t a b between
  pub near : (between.high ≤ between.low + left_most)
      ⊎ (between.high ≤ between.low + left_after (left_by kind) count steps)

pub near_first : (kind : Target) (t a b count : ℕ) (between : Between) → HasBegun (most_of kind) t a b between
    → between.high ≤ count → IsAsNear kind t a b count between 0
unfolding left_after
near_first kind t a b count between begun inside =
    record { begun = begun; near = inr (omega (arith, inside)) }

pub left_first : (step : ℕ → ℕ) (count : ℕ) → left_after step count 0 ≡ count
unfolding left_after
left_first step count = refl

pub left_more : (step : ℕ → ℕ) (count steps : ℕ)
    → left_after step count (steps + 1) ≡ step (left_after step count steps)
unfolding left_after
left_more step count steps = rw add-one refl

-- of fewer fields no more are left
fewer_by : (kind : Target) (few many : ℕ) → few ≤ many → left_by kind few ≤ left_by kind many
fewer_by (Number judging) few many less = omega (arith, less)
fewer_by Chapter few many less = omega (arith, less)

left_fewer : (step : ℕ → ℕ) (fewer : (few many : ℕ) → few ≤ many → step few ≤ step many) (few many steps : ℕ)
    → few ≤ many → left_after step few steps ≤ left_after step many steps
unfolding left_after
left_fewer step fewer few many zero less = less
left_fewer step fewer few many (suc steps) less =
    fewer (left_after step few steps) (left_after step many steps) (left_fewer step fewer few many steps less)

pub near_more : (kind : Target) (t a b count steps : ℕ) (old new : Between) → IsAsNear kind t a b count old steps
    → old.low + left_most < old.high → IsNarrower kind t a b old new → IsAsNear kind t a b count new (steps + 1)
near_more kind t a b count steps old new near wide narrower = record {
  begun = record { within = narrower.within; told = narrower.told };
  near = elim near.near [
    | inl less ↦ absurd (omega (arith, less, wide))
    | inr few ↦ inr (omega (
      arith,
      left_more (left_by kind) count steps,
      narrower.narrower,
      fewer_by kind (old.high - old.low) (left_after (left_by kind) count steps) (omega (arith, few)),
    ))
  ];
}

pub near_still : (kind : Target) (t a b count steps : ℕ) (between : Between) → IsAsNear kind t a b count between steps
    → between.high ≤ between.low + left_most → IsAsNear kind t a b count between (steps + 1)
near_still kind t a b count steps between near few = record { begun = near.begun; near = inl few }

pub placed : (kind : Target) (t a b count steps : ℕ) (between : Between) → IsAsNear kind t a b count between steps
    → left_after (left_by kind) count steps ≤ left_most → IsPlaced (most_of kind) t between
placed kind t a b count steps between near last = record {
  from = near.begun.within.from;
  to = near.begun.within.to;
  near = elim near.near [ inl few ↦ few | inr few ↦ omega (arith, few, last) ];
}

-- of a million few enough are left after 36 steps, or after 15
pub quarters_of_a_million : (count : ℕ) → count ≤ 1000000 → left_after three_quarters count 36 ≤ left_most
unfolding left_after
quarters_of_a_million count few =
    let last : left_after three_quarters 1000000 36 ≤ left_most = lit≤ tt in
    omega (arith, left_fewer three_quarters (λ x y less. omega (arith, less)) count 1000000 36 few, last)

halves_of_a_million : (count : ℕ) → count ≤ 1000000 → left_after half count 15 ≤ left_most
unfolding left_after
halves_of_a_million count few =
    let last : left_after half 1000000 15 ≤ left_most = lit≤ tt in
    omega (arith, left_fewer half (λ x y less. omega (arith, less)) count 1000000 15 few, last)

-- and as few after more
pub halved_enough : (count steps : ℕ) → count ≤ 1000000 → 15 ≤ steps → left_after half count steps ≤ left_most
unfolding left_after
halved_enough count zero few more = absurd (omega (arith, more))
halved_enough count (suc steps) few more = elim (leb_tells 15 steps) [
  | inl (t, le) ↦ omega (arith, halved_enough count steps few le)
  | inr (f, lt) ↦
      let is : 15 ≡ suc steps = omega (arith, more, lt) in
      subst (λ s. left_after half count s ≤ left_most) is (halves_of_a_million count few)
]

-- ---- of chapters: no more than at one spot was read for each step

-- so few fields were read, or no more are left than at the end
abbrev pub IsReadSo : Between → Looked → ℕ → Type 0
IsReadSo between looked steps = (between.high ≤ between.low + left_most)
    ⊎ (looked.fields + looked.spare ≤ (16 + steps) * 24)

-- so it is with what these are
abbrev pub IsNearSo : ℕ → ℕ → ℕ → ℕ → ℕ → Between → Looked → Type 0
IsNearSo t a b count steps between looked =
    IsAsNear Chapter t a b count between steps × IsReadSo between looked steps

pub near_so : (t a b count steps : ℕ) (between is : Between) (looked are : Looked) → is ≡ between → are ≡ looked
    → IsNearSo t a b count steps between looked → IsNearSo t a b count steps is are
near_so t a b count steps between is looked are same so near =
    subst (λ (n : Between). IsNearSo t a b count steps n are) (sym same)
    (subst (IsNearSo t a b count steps between) (sym so) near)

-- no step is made if few enough are left; or if too few may be read, and then they are, too
pub stopped : (t a b count steps : ℕ) (between : Between) (looked : Looked) → count ≤ 1000000
    → IsAsNear Chapter t a b count between steps → IsReadSo between looked steps
    → (between.high ≤ between.low + left_most) ⊎ (824 < looked.fields + looked.spare + 72)
    → between.high ≤ between.low + left_most
stopped t a b count steps between looked small near read still = elim still [
  | inl few ↦ few
  | inr many ↦ elim read [
    | inl few ↦ few
    | inr less ↦ elim near.near [
      | inl few ↦ few
      | inr few ↦
          let last = halved_enough count steps small (omega (arith, less, many)) in omega (arith, few, last)
    ]
  ]
]
