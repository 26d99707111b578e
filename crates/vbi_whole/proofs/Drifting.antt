-- Where the numbers of a span count to each other, and where they don't.
use Rattle.std.proofs.lemmas.Bool.{le-leb, leb-true, and_parts, and_from}
use Rattle.std.proofs.Common.{◌≡◌, ℕ, ◌+◌, ◌*◌, ◌<◌, ◌≤◌, true, false, List, sym, subst, arith, ◌∙◌, inl, inr}
use Rattle.std.specs.Prelude.{Option, Some, None, nat_le, ◌⊎◌}
use Rattle.std.proofs.lemmas.Bool.Decides.{leb_tells, eqb_tells}
use Rattle.vbi_whole.specs.Types.{Number, Pace, Video, Film, Place, Rule}
use Rattle.vbi_side.specs.Numbers.{IsMarked}
use Rattle.vbi_side.specs.Paces.{nearly, spot}
use Rattle.vbi_whole.specs.declared.drift.Span.{Span}
use Rattle.vbi_whole.specs.Drifts.{leads, leads_by, RunsOn, IsDrift, IsApart, IsSpan}
use Rattle.vbi_side.specs.Clocks.{by_clock}
use Rattle.vbi_whole.specs.Gaps.{AreNeighbours, IsLast, goes_on}
use Rattle.vbi_whole.proofs.Telling.{last_new, neighbours_of}
use Rattle.vbi_whole.proofs.GapLaws.{same_before, same_number}

-- ---- what stands earlier

pub leads_self : (pace : Pace) (a : Place) → leads pace a a ≡ true
leads_self Video a = le-leb (a.field + 2 * a.number) (a.field + 2 * a.number) (omega arith)
leads_self Film a = le-leb (2 * a.field + 5 * a.number) (2 * a.field + 5 * a.number) (omega arith)

pub leads_on : (pace : Pace) (a b c : Place) → leads pace a b ≡ true → leads pace b c ≡ true → leads pace a c ≡ true
leads_on pace a b c h1 h2 = grind (arith, le-leb, leb-true)

pub leads_back : (rule : Rule) (a b : Place) → leads_by rule a b ≡ false → leads_by rule b a ≡ true
leads_back rule a b e = grind (arith, leb_tells)

-- a place by the clock
abbrev by : Rule → Place → Place
by rule a = by_clock rule.numbering.clock a

-- two numbers nearly fit
abbrev near : Pace → ℕ → Place → Place → Type 0
near pace slack a b = nearly pace slack a b ≡ true

-- what stands between two that a number nearly fits, it nearly fits too
squeezed : (pace : Pace) (slack : ℕ) (low a high b : Place) → leads pace low a ≡ true → leads pace a high ≡ true
    → near pace slack low b → near pace slack high b → near pace slack a b
squeezed pace slack low a high b first last one other = grind (arith, and_from, and_parts, le-leb, leb-true)

-- ---- the last number

-- a number before field k stands no later than the last one
last_before : (answers : List Number) (k : ℕ) (last : Place) (i m : ℕ) → IsLast answers k (Some last)
    → IsMarked answers i m → i < k → i ≤ last.field
last_before answers k last i m is at less = grind (arith, leb_tells)

-- a pair that ends in field k is that of the last number and this one
ends_here : (rule : Rule) (answers : List Number) (k n : ℕ) (last : Place) (a m o : ℕ) → IsLast answers k (Some last)
    → IsMarked answers k n → AreNeighbours answers (spot a m) (spot k o) → goes_on rule last (spot k n) ≡ true
    → goes_on rule (spot a m) (spot k o) ≡ true
ends_here rule answers k n last a m o is at pair near = grind (arith, neighbours_of, same_before, same_number)

-- ---- the span, field by field

-- where numbers run on, a number more that goes on runs on
runs_more : (rule : Rule) (answers : List Number) (k n i : ℕ) (last : Place) → IsLast answers k (Some last)
    → IsMarked answers k n → goes_on rule last (spot k n) ≡ true → RunsOn rule answers i last.field
    → RunsOn rule answers i k
runs_more rule answers k n i last h1 h2 h3 h4 = grind (arith, ends_here, eqb_tells, last_before)

-- they run on from a later field
runs_in : (rule : Rule) (answers : List Number) (h i j : ℕ) → h ≤ i → RunsOn rule answers h j → RunsOn rule answers i j
runs_in rule answers h i j le runs a m b n from to pair = runs a m b n (omega (arith, le, from)) to pair

pub span_more : (rule : Rule) (answers : List Number) (span : Span) (there low high : Place)
    → IsSpan rule answers there.field span → IsMarked answers there.field there.number
    → goes_on rule span.last there ≡ true
    → ((low ≡ span.low) × (leads_by rule span.low there ≡ true))
    ⊎ ((low ≡ there) × (leads_by rule there span.low ≡ true))
    → ((high ≡ span.high) × (leads_by rule there span.high ≡ true))
    ⊎ ((high ≡ there) × (leads_by rule span.high there ≡ true))
    → IsSpan rule answers (there.field + 1)
    (record { before = span.before; first = span.first; last = there; low = low; high = high })
span_more rule answers span there low high is at near lower higher =
    grind (arith, eqb_tells, last_new, leads_on, leads_self, runs_more, same_number)

-- ---- a number that doesn't count to one of its span

pub drift_found : (rule : Rule) (answers : List Number) (k n : ℕ) (span : Span) (one : Place)
    → IsSpan rule answers k span → IsMarked answers k n → goes_on rule span.last (spot k n) ≡ true
    → IsMarked answers one.field one.number → span.first.field ≤ one.field → one.field ≤ span.last.field
    → goes_on rule one (spot k n) ≡ false → IsDrift rule answers k
drift_found rule answers k n span one is at near marked from to apart = grind (arith, runs_in, runs_more)

-- one that nearly fits the earliest and the latest counts to each
pub no_drift_on : (rule : Rule) (answers : List Number) (k n : ℕ) (span : Span) → IsSpan rule answers k span
    → IsMarked answers k n → goes_on rule span.low (spot k n) ≡ true → goes_on rule span.high (spot k n) ≡ true
    → IsDrift rule answers k → ⊥
no_drift_on rule answers k n span is at low high drift = go (leb_tells span.first.field drift.i)
  where
    earlier : (before : Option Place) → IsLast answers span.first.field before → IsApart rule before span.first
        → drift.i < span.first.field → ⊥
    earlier None none apart less = none drift.i drift.m less drift.here
    earlier (Some one) last apart less =
        let pair = neighbours_of answers span.first.field span.first.number one last is.first in
        let order : span.last.field < k = is.last.0 in
        let near = drift.runs one.field one.number span.first.field span.first.number
        (last_before answers span.first.field one drift.i drift.m last drift.here less)
        (omega (arith, is.from, order)) pair in
        let h : true ≡ false = sym near ∙ apart in cc

    go : ((nat_le span.first.field drift.i ≡ true) × (span.first.field ≤ drift.i))
        ⊎ ((nat_le span.first.field drift.i ≡ false) × (drift.i < span.first.field)) → ⊥
    go (inl (t, le)) =
        let here = spot drift.i drift.m in
        let near = squeezed rule.pace rule.slack (by rule span.low) (by rule here) (by rule span.high)
        (by rule (spot k n))
        (is.least drift.i drift.m le drift.order drift.here)
        (is.most drift.i drift.m le drift.order drift.here) low high in
        let number = same_number answers k drift.n n drift.there at in
        let apart = subst (λ x. goes_on rule here (spot k x) ≡ false) number drift.apart in
        let h : true ≡ false = sym near ∙ apart in cc
    go (inr (f, lt)) = earlier span.before is.before is.apart lt
