-- How the pairs of neighbours are told, field by field.
use Rattle.std.proofs.Common.{◌≡◌, ℕ, zero, suc, ◌+◌, ◌<◌, ◌≤◌, ◌∙◌, List, refl, sym, ap, arith, subst, inl, inr}
use Rattle.std.specs.Prelude.{◌⊎◌}
use Rattle.vbi_side.specs.Numbers.{IsMarked}
use Rattle.vbi_whole.proofs.GapLaws.{same_before, same_number}
use Rattle.vbi_whole.specs.Types.{Clock, DropFrame, Number, Rule}
use Rattle.vbi_whole.specs.declared.clock_search.Pairs.{Pairs}
use Rattle.vbi_side.specs.Paces.{spot}
use Rattle.vbi_whole.specs.ClockSearch.{with_pair, ArePairs, IsClockTold, IsWeight, ExplainsMost}
use Rattle.vbi_whole.specs.Gaps.{AreNeighbours, IsFree}

-- a field that ends no pair ends none
taken : (answers : List Number) (i m k n : ℕ) → IsFree answers k → AreNeighbours answers (spot i m) (spot k n) → ⊥
taken answers i m k n (inl never) pair = never n pair.there
taken answers i m k n (inr never) pair = never i m pair.order pair.here

pub none_yet : (clock : Clock) (rule : Rule) (answers : List Number)
    → ArePairs clock rule answers 0 (record { explained = 0; opposed = 0 })
unfolding ArePairs
none_yet clock rule answers = refl

pub no_pair : (clock : Clock) (rule : Rule) (answers : List Number) (k : ℕ) (pairs : Pairs)
    → IsFree answers k → ArePairs clock rule answers k pairs → ArePairs clock rule answers (k + 1) pairs
unfolding ArePairs
no_pair clock rule answers k pairs free before = grind arith

pub one_pair : (clock : Clock) (rule : Rule) (answers : List Number) (i m k n : ℕ) (pairs : Pairs)
    → AreNeighbours answers (spot i m) (spot k n) → ArePairs clock rule answers k pairs
    → ArePairs clock rule answers (k + 1) (with_pair clock rule (spot i m) (spot k n) pairs)
unfolding ArePairs
one_pair clock rule answers i m k n pairs neighbours before = grind arith

-- the pairs of a clock are told in one way
pub one_count : (clock : Clock) (rule : Rule) (answers : List Number) (k : ℕ) (a b : Pairs)
    → ArePairs clock rule answers k a → ArePairs clock rule answers k b → a ≡ b
unfolding ArePairs
one_count clock rule answers zero a b one other = one ∙ sym other
one_count clock rule answers (suc k) a b (inl (free, one)) (inl (free_too, other)) =
    one_count clock rule answers k a b one other
one_count clock rule answers (suc k) a b (inl (free, one)) (inr (i, m, n, fewer, pair, other, e)) =
    absurd (taken answers i m k n free pair)
one_count clock rule answers (suc k) a b (inr (i, m, n, fewer, pair, one, e)) (inl (free, other)) =
    absurd (taken answers i m k n free pair)
one_count clock rule answers (suc k) a b (inr (i, m, n, fewer, pair, one, e))
    (inr (h, l, o, less, pair_too, other, f)) =
    let first : i ≡ h = same_before answers i m k n h l o pair pair_too in
    let from : m ≡ l = same_number answers h m l (subst (λ x. IsMarked answers x m) first pair.here) pair_too.here in
    let to : n ≡ o = same_number answers k n o pair.there pair_too.there in
    let same : fewer ≡ less = one_count clock rule answers k fewer less one other in
    e ∙ ap (λ x. with_pair clock rule (spot x m) (spot k n) fewer) first
    ∙ ap (λ x. with_pair clock rule (spot h x) (spot k n) fewer) from
    ∙ ap (λ x. with_pair clock rule (spot h l) (spot k x) fewer) to
    ∙ ap (λ (x : Pairs). with_pair clock rule (spot h l) (spot k o) x) same ∙ sym f

-- what is told of a clock that explains most is no less than what is told of another
pub most_told : (clock other : Clock) (rule : Rule) (answers : List Number) (weight less : ℕ)
    → ExplainsMost clock rule answers
    → IsWeight clock rule answers weight → IsWeight other rule answers less → (3 ≤ weight) × (less ≤ weight)
most_told clock other rule answers weight less h1 h2 h3 = grind (arith, one_count)

-- a clock that explains some is told
pub some_told : (clock : Clock) (rule : Rule) (answers : List Number) (weight : ℕ) → IsWeight clock rule answers weight
    → 0 < weight → IsClockTold clock rule answers
some_told clock rule answers weight (pairs, are, inl (enough, e)) some = (pairs, are, enough)
some_told clock rule answers weight (pairs, are, inr (never, e)) some = absurd (omega (arith, e, some))

-- so drop-frame isn't passed over for two others
pub not_passed : (rule : Rule) (answers : List Number) (one two : Clock) (drop first second : ℕ)
    → ExplainsMost DropFrame rule answers → IsWeight DropFrame rule answers drop → IsWeight one rule answers first
    → IsWeight two rule answers second
    → (0 < drop × first ≤ drop × drop < second) ⊎ (0 < drop × drop < first) ⊎ drop ≤ 0 → ⊥
not_passed rule answers one two drop first second most is is_first is_second (inl (some, le, less)) =
    absurd (omega (arith, less, (most_told DropFrame two rule answers drop second most is is_second).1))
not_passed rule answers one two drop first second most is is_first is_second (inr (inl (some, less))) =
    absurd (omega (arith, less, (most_told DropFrame one rule answers drop first most is is_first).1))
not_passed rule answers one two drop first second most is is_first is_second (inr (inr none)) =
    absurd (omega (arith, none, (most_told DropFrame one rule answers drop first most is is_first).0))
