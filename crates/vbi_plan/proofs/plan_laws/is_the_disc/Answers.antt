use Rattle.std.proofs.Common.{◌≡◌, ◌∙◌, ℕ, zero, suc, ◌+◌, ◌*◌, ◌≤◌, sym, ap, arith, subst, List, ◌-◌}
use Rattle.std.specs.Prelude.{Option}
use Rattle.std.proofs.lemmas.Option.{slice_get_within}
use Rattle.vbi_plan.specs.declared.plan.Spacing.{Spacing}
use Rattle.vbi_plan.specs.declared.plan.Spacing.TheVariants.{Video}
use Rattle.vbi_plan.specs.declared.plan.Stretch.{Stretch}
use Rattle.vbi_side.specs.Numbers.{IsMarked}
use Rattle.vbi_plan.specs.Plans.{CountsOn, IsDone, IsOfDisc, Plan, RiseFrom, Shows, Takes, place_of, rank_at, rank_of}
use Rattle.vbi_plan.proofs.Checking.{some_is}
use Rattle.vbi_side.proofs.Truth.{video_fits}
use Rattle.vbi_plan.proofs.plan_laws.is_the_disc.Goals as goal

same_stretch : (stretches : List Stretch) (i j h f g : ℕ) (one : Takes stretches i j f) (other : Takes stretches i h g)
    → one.stretch ≡ other.stretch
same_stretch stretches i j h f g one other = some_is one.stretch other.stretch (sym one.there ∙ other.there)

video_counts : (spacing : Spacing) (i r k t : ℕ) → spacing ≡ Video → CountsOn spacing i r k t
    → k + 2 * r ≡ i + 2 * t
video_counts spacing i r k t is counts =
    let here = subst (λ one. CountsOn one i r k t) is counts in omega (arith, here.0, here.1)

-- a field that shows a number is the disc's in its place
in_place : (plan : Plan) (disc : ℕ → Option ℕ) (place : ℕ → ℕ) (d i j n f : ℕ) → IsDone plan
    → IsOfDisc plan disc place d → Shows plan i j n → Takes plan.stretches i j f
    → place f + plan.layout.begin ≡ d + place_of plan i j
in_place plan disc place d i j n f done of shows takes =
    let good = done i (slice_get_within plan.stretches i shows.stretch shows.there) in
    let same = some_is shows.stretch takes.stretch (sym shows.there ∙ takes.there) in
    let e : shows.stretch.field + j ≡ f = omega (arith, takes.is, ap (λ one. one.field) same) in
    let marked = subst (λ x. IsMarked plan.numbers x n) e shows.believed in
    let counts = video_counts plan.layout.spacing plan.layout.begin (rank_at plan 0) (place_of plan i j)
    (rank_of plan n) of.spacing (good.placed j n shows).follows.from_first in
    let fits = video_fits d (rank_of plan of.first) (place f) (rank_of plan n)
    (of.counts d (place f) of.first n of.begins (of.right f n marked)) in
    omega (arith, counts, fits, of.is_first)

-- fields of a capture that rise are no nearer on the disc than in it
no_nearer : (place : ℕ → ℕ) (f g k n : ℕ) → RiseFrom place f g → f ≤ k → k + n ≤ g → place k + n ≤ place (k + n)
no_nearer place f g k zero rise from to =
    let e : k ≡ k + 0 = omega arith in omega (arith, ap place e)
no_nearer place f g k (suc n) rise from to =
    let e : suc (k + n) ≡ k + suc n = omega arith in
    omega (
      arith,
      no_nearer place f g k n rise from (omega (arith, to)),
      rise (k + n) (omega (arith, from)) (omega (arith, to)),
      ap place e,
    )

between : (plan : Plan) (disc : ℕ → Option ℕ) (place : ℕ → ℕ) (d i h j k m n e f g : ℕ) → IsDone plan
    → IsOfDisc plan disc place d → Shows plan i h m → Takes plan.stretches i h e → Shows plan i k n
    → Takes plan.stretches i k g → RiseFrom place e g → h ≤ j → j ≤ k → Takes plan.stretches i j f
    → place f + plan.layout.begin ≡ d + place_of plan i j
between plan disc place d i h j k m n e f g done of one at_e other at_g rise from to at_f =
    let first = in_place plan disc place d i h m e done of one at_e in
    let last = in_place plan disc place d i k n g done of other at_g in
    let a = ap (λ s. s.field) (same_stretch plan.stretches i h j e f at_e at_f) in
    let b = ap (λ s. s.field) (same_stretch plan.stretches i j k f g at_f at_g) in
    let to_f : e + (j - h) ≡ f = omega (arith, at_e.is, at_f.is, a, from) in
    let to_g : f + (k - j) ≡ g = omega (arith, at_f.is, at_g.is, b, to) in
    let near = no_nearer place e g e (j - h) rise (omega arith) (omega (arith, to_f, to_g)) in
    let far = no_nearer place e g f (k - j) rise (omega (arith, to_f)) (omega (arith, to_g)) in
    omega (arith, first, last, near, far, ap place to_f, ap place to_g, from, to)

pub returns : goal.returns
returns c = record { shown = in_place; between = between }
