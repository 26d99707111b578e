use Rattle.std.proofs.Common.{◌≡◌, ◌<◌, ◌≤◌, ◌∙◌, ℕ, List, false, refl, sym, arith, inl, inr}
use Rattle.std.specs.Prelude.{Option, Some, None, IfSome}
use Rattle.std.specs.Option.{is_some}
use Rattle.std.proofs.lemmas.Bool.Decides.{eqb_tells, leb_tells}
use Rattle.std.proofs.lemmas.Option.{slice_get_within}
use Rattle.vbi_whole.specs.Types.{Clock, Number, Sightings}
use Rattle.vbi_side.specs.Numbers.{believed}
use Rattle.vbi_whole.specs.Swaps.{IsSwap}
use Rattle.vbi_whole.proofs.swaps.first_swap.Goals as goal

is_none : (o : Option ℕ) → is_some o ≡ false → o ≡ None
is_none None e = refl
is_none (Some n) e = absurd cc

-- none before it ends at this field or later, and none ends earlier
none_before : (clock : Clock) (seen : List Sightings) (answers : List Number) (field : ℕ) (found : Option ℕ)
    → ((k : ℕ) → (swap : IsSwap clock seen answers k) → swap.j < field → ⊥)
    → IfSome found (λ f. (k : ℕ) → k < f → (swap : IsSwap clock seen answers k) → field ≤ swap.j → ⊥)
    → IfSome found (λ f. (k : ℕ) → k < f → IsSwap clock seen answers k → ⊥)
none_before clock seen answers field None none first = tt
none_before clock seen answers field (Some f) none first = λ k less swap. elim (leb_tells field swap.j) [
  | inl (t, far) ↦ first k less swap far
  | inr (t, near) ↦ none k swap near
]

pub loop-field-preserved : goal.loop-field-preserved
loop-field-preserved c = record {
  search = c.search_after-search.ensures;
  none = λ k swap less. elim (eqb_tells swap.j c.loop-field.field) [
    | inl (t, same) ↦ c.swap_before-found.ensures.none
        (is_none c.swap_before-found.result (sym c.is_some.ensures ∙ c.if-is_some.false)) k swap same
    | inr (f, other) ↦ c.loop-field.invariant.none k swap (omega (arith, less, other))
  ];
}

pub returns-then-is_some-clause-first : goal.returns-then-is_some-clause-first
returns-then-is_some-clause-first c =
    none_before c.args.side.now.rule.numbering.clock c.args.side.now.seen.now c.args.side.now.numbers.now
    c.loop-field.field c.swap_before-found.result
    c.loop-field.invariant.none c.swap_before-found.ensures.first

pub returns-clause-none : goal.returns-clause-none
returns-clause-none c = λ e k swap. c.loop-field.invariant.none k swap (omega (
  arith,
  slice_get_within c.args.side.now.numbers.now swap.j (believed swap.n) swap.neighbours.there,
))
