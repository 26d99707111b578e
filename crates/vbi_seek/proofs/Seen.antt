-- What is seen of the fields of a side from one on.
use Rattle.std.proofs.Common.{◌≡◌, ◌≢◌, ℕ, zero, suc, ◌+◌, ◌<◌, true, false, List, length}
use Rattle.std.proofs.Common.{slice_set, replicate, subst, sym, ap, ◌∙◌, arith, inl, inr}
use Rattle.std.proofs.Math.Dec.{eqb}
use Rattle.std.proofs.Math.ListN.{length-set}
use Rattle.std.proofs.lemmas.Bool.Decides.{eqb_tells, leb_tells}
use Rattle.std.proofs.lemmas.List.{get_or-set_same, get_or-set_other}
use Rattle.std.proofs.lemmas.Option.{slice_get_past, slice_get-get_or}
use Rattle.std.specs.Prelude.{◌⊎◌, Option, Some, slice_get}
use Rattle.vbi_side.specs.declared.sighting.Sightings.{Sightings}
use Rattle.vbi_side.specs.Sightings.{Shows}
use Rattle.vbi_seek.specs.declared.search.Search.{Search}
use Rattle.vbi_seek.specs.Searches.{shows, AreSeenFrom}

-- what a field without a number shows
abbrev pub nothing_shown : Sightings
nothing_shown = record {
  line_17 = record { number = 0; weight = 0 };
  line_18 = record { number = 0; weight = 0 };
  instead = 0;
}

-- ---- a list with another item at one place

set_same : (xs : List Sightings) (i : ℕ) (x : Sightings) → i < length xs → slice_get (slice_set xs i x) i ≡ Some x
set_same xs i x inside =
    slice_get-get_or (slice_set xs i x) i x (omega (arith, inside, length-set xs i x))
    ∙ ap Some (get_or-set_same xs i x x inside)

set_other : (xs : List Sightings) (i j : ℕ) (x : Sightings) → j ≢ i
    → slice_get (slice_set xs i x) j ≡ slice_get xs j
set_other xs i j x other = elim (leb_tells (length xs) j) [
  | inl (t, past) ↦ slice_get_past (slice_set xs i x) j (omega (arith, past, length-set xs i x))
      ∙ sym (slice_get_past xs j past)
  | inr (t, within) ↦ slice_get-get_or (slice_set xs i x) j x (omega (arith, within, length-set xs i x))
      ∙ ap Some (get_or-set_other xs i j x x other) ∙ sym (slice_get-get_or xs j x within)
]

-- ---- fields

-- one field more is put into its place
pub seen_more : (search : Search) (field i : ℕ) (seen : List Sightings) (here : Sightings) → i < length seen
    → field + i < search.side.count → here ≡ shows search (field + i) → AreSeenFrom search field seen
    → AreSeenFrom search field (slice_set seen i here)
seen_more search field i seen here inside counted is before =
    record { each = λ k n shown. go k n shown (eqb_tells k i) }
  where
    go : (k n : ℕ) → Shows (slice_get (slice_set seen i here) k) n
        → ((eqb k i ≡ true) × (k ≡ i)) ⊎ ((eqb k i ≡ false) × (k ≢ i))
        → (field + k < search.side.count) × Shows (Some (shows search (field + k))) n
    go k n shown (inl (t, same)) =
        let at : slice_get (slice_set seen i here) k ≡ Some (shows search (field + k))
        = ap (λ (j : ℕ). slice_get (slice_set seen i here) j) same ∙ set_same seen i here inside
        ∙ ap Some (is ∙ ap (λ (j : ℕ). shows search (field + j)) (sym same)) in
        (omega (arith, counted, same), subst (λ (o : Option Sightings). Shows o n) at shown)
    go k n shown (inr (t, other)) =
        before.each k n (subst (λ (o : Option Sightings). Shows o n) (set_other seen i k here other) shown)

-- nothing is seen before the first one
nothing_at : (count i n : ℕ) → Shows (slice_get (replicate count nothing_shown) i) n → ⊥
nothing_at zero zero n shown = shown
nothing_at zero (suc i) n shown = shown
nothing_at (suc count) zero n (inl has) = absurd (omega (arith, has.0))
nothing_at (suc count) zero n (inr has) = absurd (omega (arith, has.0))
nothing_at (suc count) (suc i) n shown = nothing_at count i n shown

pub none_seen : (search : Search) (field count : ℕ) → AreSeenFrom search field (replicate count nothing_shown)
none_seen search field count = record { each = λ i n shown. absurd (nothing_at count i n shown) }
