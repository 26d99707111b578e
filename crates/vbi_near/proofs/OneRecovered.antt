-- The bytes of three rows, some of whose columns are erased, show one thing.
-- one_recovered stands on it.
use Rattle.std.proofs.Common.{arith, ◌≡◌, ℕ, Bool, true, false, List, [], ◌∷◌, refl, sym, ◌∙◌, subst}
use Rattle.std.specs.Prelude.{IsTrue, ◌&&◌, if◌then◌else◌}
use Rattle.vbi_near.proofs.Common.{System, Slicing, unit_of}
use Rattle.vbi_near.proofs.OneSeen.{one_of_both, one_own, one_open_near}
use Rattle.vbi_near.specs.Recovery.{Seen, IsSeen, IsRecovered, Stands, alone, is_open, own_of, are_open, stands_by}
use Rattle.vbi_near.specs.Recovery.{said_by, recovered_as, recovered_of, field_line}
use Rattle.vbi_near.specs.{declared.recovery.Recovered.Recovered, Candidates.Line, Candidates.Candidates}

-- ---- a line

-- what a line shows, by what it shows by its own levels
abbrev shown_by : Stands → ℕ → Recovered → Candidates → Candidates → Recovered
shown_by stands unit own near both =
    if is_open own.outcome then recovered_as own (said_by stands unit near both) else own

-- either may be used if both are the same when this holds
if_same : (b : Bool) (x y z : Recovered) → (IsTrue b → x ≡ y) → (if b then x else z) ≡ (if b then y else z)
if_same true x y z h = h refl
if_same false x y z h = refl

-- if lines 17 and 18 aren't both open, their common nearest words are of no account
alone_same : (unit : ℕ) (own other : Recovered) (near again both too : Candidates) → own ≡ other
    → (IsTrue (is_open own.outcome) → near ≡ again)
    → shown_by alone unit own near both ≡ shown_by alone unit other again too
alone_same unit own other near again both too e same = grind (arith, if_same)

-- what is the same of a line that is seen twice
pub record IsSame (unit : ℕ) (seen again : Seen) : Type 0 where
  pub own : own_of unit seen ≡ own_of unit again
  pub near : IsTrue (is_open (own_of unit seen).outcome) → seen.near ≡ again.near

-- a line that is seen twice is the same
is_same : (line : Line) (seen again : Seen) (unit : ℕ) → IsSeen line seen → IsSeen line again → IsSame unit seen again
is_same line seen again unit is are = record {
  own = one_own line seen again unit is are;
  near = one_open_near line seen again unit is are;
}

-- ---- a field

-- two that hold together hold each
both_open : (a b : Bool) → IsTrue (a && b) → IsTrue a × IsTrue b
both_open true true is = (refl, refl)
both_open true false is = cc
both_open false b is = cc

-- lines 17 and 18 are both open each time or never
open_same : (unit : ℕ) (second third second' third' : Seen) → IsSame unit second second' → IsSame unit third third'
    → are_open unit second third ≡ are_open unit second' third'
open_same unit second third second' third' two three =
    let a = two.own in
    let b = three.own in
    λ j. is_open (a j).outcome && is_open (b j).outcome

module _ (unit : ℕ) (first second third first' second' third' : Seen) (both both' : Candidates)
    (one : IsSame unit first first') (two : IsSame unit second second') (three : IsSame unit third third')
    (pair : IsTrue (are_open unit second third) → both ≡ both') where
  -- lines 17 and 18 are both open each time or never
  same_open : are_open unit second third ≡ are_open unit second' third'
  same_open = open_same unit second third second' third' two three

  -- how lines 17 and 18 stand to each other, by whether both are open
  abbrev stands_if : Bool → Candidates → Candidates → Candidates → Stands
  stands_if opened near other common = if opened then stands_by unit near other common else alone

  -- a line shows the same if lines 17 and 18 aren't both open
  closed_same : (own other : Recovered) (near again : Candidates) → own ≡ other
      → (IsTrue (is_open own.outcome) → near ≡ again) → are_open unit second third ≡ false
      → shown_by (stands_if (are_open unit second third) second.near third.near both) unit own near both
      ≡ shown_by (stands_if (are_open unit second' third') second'.near third'.near both') unit other again both'
  closed_same own other near again e same closed = grind (arith, alone_same, same_open)

  -- the lines show the same, by whether lines 17 and 18 are both open
  by_open : (b : Bool) → are_open unit second third ≡ b
      → recovered_of unit first second third both ≡ recovered_of unit first' second' third' both'
  by_open true opened =
      let is : IsTrue (are_open unit second third) = opened in
      let opens = both_open (is_open (own_of unit second).outcome) (is_open (own_of unit third).outcome) is in
      let a = alone_same unit (own_of unit first) (own_of unit first') first.near first'.near both both' one.own
      one.near in
      let p = two.own in
      let q = three.own in
      let m = two.near opens.0 in
      let k = three.near opens.1 in
      let b = pair is in
      λ j. a j
      ∷ shown_by (stands_if (same_open j) (m j) (k j) (b j)) unit (p j) (m j) (b j)
      ∷ shown_by (stands_if (same_open j) (m j) (k j) (b j)) unit (q j) (k j) (b j)
      ∷ []
  by_open false closed =
      let a = alone_same unit (own_of unit first) (own_of unit first') first.near first'.near both both' one.own
      one.near in
      let b = closed_same (own_of unit second) (own_of unit second') second.near second'.near two.own two.near closed in
      let c = closed_same (own_of unit third) (own_of unit third') third.near third'.near three.own three.near closed in
      λ j. a j ∷ b j ∷ c j ∷ []

  -- three lines that are seen twice show the same
  pub all_same : recovered_of unit first second third both ≡ recovered_of unit first' second' third' both'
  all_same = by_open (are_open unit second third) refl

-- three rows show one thing
pub one_recovered : (system : System) (slicing : Slicing) (rows : List ℕ) (erased : List Bool)
    (recovered other : List Recovered) → IsRecovered system slicing rows erased recovered
    → IsRecovered system slicing rows erased other → recovered ≡ other
one_recovered system slicing rows erased recovered other (first, second, third, both, seen, e)
    (first', second', third', both', again, f) =
    let unit = unit_of slicing in
    let line : ℕ → Line = field_line system slicing rows erased in
    let one = is_same (line 0) first first' unit seen.line_16 again.line_16 in
    let two = is_same (line 1) second second' unit seen.line_17 again.line_17 in
    let three = is_same (line 2) third third' unit seen.line_18 again.line_18 in
    let opens = open_same unit second third second' third' two three in
    let pair : IsTrue (are_open unit second third) → both ≡ both' = λ opened.
    one_of_both (line 1) (line 2).row both both' (seen.pair opened)
    (again.pair (subst (λ (b : Bool). IsTrue b) opens opened)) in
    e ∙ all_same unit first second third first' second' third' both both' one two three pair ∙ sym f
