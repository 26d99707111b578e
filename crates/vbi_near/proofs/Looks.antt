-- The code that leads: the nearer of two leads, what was looked at, and what needs no look.
-- nearer_lead, nearest_code, with_codes and with_start_by stand on it, and Unsaid.
use Rattle.std.proofs.Common.{cond, eqb, ◌≡◌, ◌≢◌, ℕ, ◌≤◌, ◌<◌, ◌^◌, min, ◌⊎◌, inl, inr, arith, sym, ◌∙◌, zero, suc}
use Rattle.std.proofs.Common.{List, [], ◌∷◌, length, get_or, take, refl, ap, subst}
use Rattle.std.proofs.Math.Nat.{min-le_left, min-le_right}
use Rattle.std.proofs.lemmas.Bool.{cases_lt}
use Rattle.vbi_near.proofs.Common.{System, IsWord, Found, IsBefore, Places, IsLead, IsAhead, Look, look, at_start}
use Rattle.vbi_near.proofs.Common.{IsSeen, with_ranges, looks_before, all_codes, starts, Range, range, IsOneOf}
use Rattle.vbi_near.proofs.BestBits.{min_is}
use Rattle.vbi_near.specs.Prices.{ranges_of}

-- ---- the nearer of two leads

-- what comes before something comes before what that comes before
before-before : (s v t w r x : ℕ) → IsBefore s v t w → IsBefore t w r x → IsBefore s v r x
before-before s v t w r x before earlier = grind arith

-- these or those
abbrev pub either : Places → Places → Places
either seen more start word = seen start word ⊎ more start word

-- the nearer lead, whose rival is the nearer of its own and of another word that the other knows
module _ (cost : ℕ → ℕ → ℕ) (seen more : Places) (near far : Found) (is : IsLead cost seen near)
    (are : IsLead cost more far) (leads : IsAhead near far) (next : ℕ)
    (by : ((far.word ≡ near.word) × (next ≡ far.rival)) ⊎ ((far.word ≢ near.word) × (next ≡ far.distance))) where
  abbrev pub merged : Found
  merged = record {
    word = near.word;
    start = near.start;
    distance = near.distance;
    rival = min near.rival next;
  }

  order : near.distance ≤ far.distance
  order = grind arith

  -- what the other knows and is as near comes after it
  earliest : (s w : ℕ) → more s w → cost s w ≡ near.distance → IsBefore near.start near.word s w
  earliest s w there same = grind (arith, before-before)

  l : min near.rival next ≤ near.rival
  l = min-le_left near.rival next

  r : min near.rival next ≤ next
  r = min-le_right near.rival next

  far-order : far.distance ≤ next
  far-order = grind arith

  ahead : (s w : ℕ) → more s w → w ≢ near.word → next ≤ cost s w
  ahead s w there other = grind arith

  AreOther : Type 0
  AreOther = (2 ^ 31 ≤ merged.rival)
      ⊎ ((s : ℕ) × (w : ℕ) × either seen more s w × (w ≢ near.word) × (cost s w ≡ merged.rival))

  by_near : min near.rival next ≡ near.rival
      → (2 ^ 31 ≤ near.rival) ⊎ ((s : ℕ) × (w : ℕ) × seen s w × (w ≢ near.word) × (cost s w ≡ near.rival)) → AreOther
  unfolding AreOther
  by_near e either = grind arith

  by_far : min near.rival next ≡ next → ((far.word ≡ near.word) × (next ≡ far.rival))
      ⊎ ((far.word ≢ near.word) × (next ≡ far.distance))
      → (2 ^ 31 ≤ far.rival) ⊎ ((s : ℕ) × (w : ℕ) × more s w × (w ≢ far.word) × (cost s w ≡ far.rival)) → AreOther
  unfolding AreOther
  by_far e (inl (same, b)) (inl wide) = inl (omega (arith, e, b, wide))
  by_far e (inl (same, b)) (inr (s, w, there, differs, costs)) = grind arith
  by_far e (inr (differs, b)) other = inr (far.start, far.word, inr are.there, differs, are.exact ∙ sym b ∙ sym e)

  another : AreOther
  another = grind (arith, min_is, AreOther, by_near, by_far)

  pub merged_is : IsLead cost (either seen more) merged
  unfolding AreOther
  merged_is = grind (arith, order, min_is, another, far-order, l, ahead, r, earliest)

-- what leads of some places leads of the same places, named another way
pub lead-same : (cost : ℕ → ℕ → ℕ) (seen more : Places) (lead : Found) → ((s w : ℕ) → seen s w → more s w)
    → ((s w : ℕ) → more s w → seen s w) → IsLead cost seen lead → IsLead cost more lead
lead-same cost seen more lead to from is = grind (arith, order)

-- places none of which is nearer than the rival, or comes first, need no look
pub lead-passed : (cost : ℕ → ℕ → ℕ) (seen more : Places) (lead : Found)
    → ((s w : ℕ) → more s w → lead.rival ≤ cost s w)
    → ((s w : ℕ) → more s w → cost s w ≡ lead.distance → IsBefore lead.start lead.word s w) → IsLead cost seen lead
    → IsLead cost (either seen more) lead
lead-passed cost seen more lead far after is = grind (arith, order)

-- these or those, the other way round
pub turned : (cost : ℕ → ℕ → ℕ) (seen more : Places) (lead : Found) → IsLead cost (either seen more) lead
    → IsLead cost (either more seen) lead
turned cost seen more lead is = grind (arith, lead-same)

-- a lead by its fields
pub lead-by : (cost : ℕ → ℕ → ℕ) (seen : Places) (word start distance rival : ℕ) (lead : Found)
    → IsLead cost seen (record { word = word; start = start; distance = distance; rival = rival })
    → lead.word ≡ word → lead.start ≡ start → lead.distance ≡ distance → lead.rival ≡ rival → IsLead cost seen lead
lead-by cost seen word start distance rival lead is w s d e = grind arith

-- what the other's rival is
pub next-by : (near far : Found) → ((far.word ≡ near.word)
    × (cond (eqb far.word near.word) far.rival far.distance ≡ far.rival))
    ⊎ ((far.word ≢ near.word) × (cond (eqb far.word near.word) far.rival far.distance ≡ far.distance))
next-by near far = grind arith

-- ---- what was looked at

-- ---- ranges at one start

pub passed-ranges : (cost : ℕ → ℕ → ℕ) (looks : List Look) (at : ℕ) (ranges : List Range) (lead : Found)
    → ((w : ℕ) → IsWord w → lead.rival ≤ cost at w)
    → ((w : ℕ) → IsWord w → cost at w ≡ lead.distance → IsBefore lead.start lead.word at w)
    → IsLead cost (IsSeen looks) lead
    → IsLead cost (IsSeen (with_ranges looks at ranges)) lead
passed-ranges cost looks at [] lead far after is = is
passed-ranges cost looks at (words ∷ ranges) lead far after is =
    passed-ranges cost (look at words ∷ looks) at ranges lead far after
    (turned cost (IsSeen looks) (at_start at words) lead
    (lead-passed cost (IsSeen looks) (at_start at words) lead
    (λ s w there. omega (arith, far w there.1.0, ap (λ (k : ℕ). cost k w) there.0))
    (λ s w there. subst (λ (k : ℕ). cost k w ≡ lead.distance → IsBefore lead.start lead.word k w) (sym there.0)
    (after w there.1.0)) is))

pub to-ranges : (looks : List Look) (at : ℕ) (ranges : List Range) (s w : ℕ) → IsSeen (with_ranges looks at ranges) s w
    → IsSeen looks s w ⊎ ((s ≡ at) × IsOneOf ranges w)
to-ranges looks at [] s w there = inl there
to-ranges looks at (words ∷ ranges) s w there = go (to-ranges (look at words ∷ looks) at ranges s w there)
  where
    go : IsSeen (look at words ∷ looks) s w ⊎ ((s ≡ at) × IsOneOf ranges w)
        → IsSeen looks s w ⊎ ((s ≡ at) × IsOneOf (words ∷ ranges) w)
    go either = grind arith

pub from-ranges : (looks : List Look) (at : ℕ) (ranges : List Range) (s w : ℕ)
    → IsSeen looks s w ⊎ ((s ≡ at) × IsOneOf ranges w) → IsSeen (with_ranges looks at ranges) s w
from-ranges looks at [] s w (inl there) = there
from-ranges looks at [] s w (inr (e, none)) = absurd none
from-ranges looks at (words ∷ ranges) s w (inl there) =
    from-ranges (look at words ∷ looks) at ranges s w (inl (inr there))
from-ranges looks at (words ∷ ranges) s w (inr (e, inl one)) =
    from-ranges (look at words ∷ looks) at ranges s w (inl (inl (e, one)))
from-ranges looks at (words ∷ ranges) s w (inr (e, inr one)) =
    from-ranges (look at words ∷ looks) at ranges s w (inr (e, one))

-- ---- all starts

abbrev Before : List Range → ℕ → ℕ → ℕ → ℕ → Type 0
Before ranges first n s w = ((s ≡ 0) × (w ≡ 0)) ⊎ (((s < n) ⊎ (s ≡ first)) × IsOneOf ranges w)

later : (ranges : List Range) (first n s w : ℕ) → Before ranges first n s w → Before ranges first (suc n) s w
later ranges first n s w given = grind arith

to-before : (ranges : List Range) (first n s w : ℕ) → IsSeen (looks_before ranges first n) s w
    → Before ranges first n s w
to-before ranges first zero s w there = grind (arith, to-ranges)
to-before ranges first (suc n) s w there =
    go (λ before. to-before ranges first n s w before) (to-ranges (looks_before ranges first n) n ranges s w there)
  where
    go : (IsSeen (looks_before ranges first n) s w → Before ranges first n s w)
        → IsSeen (looks_before ranges first n) s w ⊎ ((s ≡ n) × IsOneOf ranges w) → Before ranges first (suc n) s w
    go known either = grind (arith, later)

from-before : (ranges : List Range) (first n s w : ℕ) → Before ranges first n s w
    → IsSeen (looks_before ranges first n) s w
from-before ranges first zero s w (inl none) = from-ranges [] first ranges s w (inl none)
from-before ranges first zero s w (inr (inl less, one)) = absurd (omega arith)
from-before ranges first zero s w (inr (inr e, one)) = from-ranges [] first ranges s w (inr (e, one))
from-before ranges first (suc n) s w (inl none) =
    from-ranges (looks_before ranges first n) n ranges s w (inl (from-before ranges first n s w (inl none)))
from-before ranges first (suc n) s w (inr (inr e, one)) =
    from-ranges (looks_before ranges first n) n ranges s w (inl (from-before ranges first n s w (inr (inr e, one))))
from-before ranges first (suc n) s w (inr (inl less, one)) =
    go (λ l. from-before ranges first n s w (inr (inl l, one))) (cases_lt s n)
  where
    go : ((s < n) → IsSeen (looks_before ranges first n) s w) → (s < n) ⊎ (n ≤ s)
        → IsSeen (looks_before ranges first (suc n)) s w
    go before either = grind (arith, from-ranges)

pub all-looks : (cost : ℕ → ℕ → ℕ) (ranges : List Range) (system : System) (first : ℕ) (lead : Found)
    → first < starts system → IsLead cost (IsSeen (looks_before ranges first (starts system))) lead
    → IsLead cost (all_codes ranges system) lead
all-looks cost ranges system first lead inside is =
    lead-same cost (IsSeen (looks_before ranges first (starts system))) (all_codes ranges system) lead
    (λ s w there. to s w (to-before ranges first (starts system) s w there))
    (λ s w there. from-before ranges first (starts system) s w (from s w there)) is
  where
    to : (s w : ℕ) → Before ranges first (starts system) s w → all_codes ranges system s w
    to s w (inl none) = inl none
    to s w (inr (inl less, one)) = inr (less, one)
    to s w (inr (inr e, one)) = inr (omega (arith, e, inside), one)

    from : (s w : ℕ) → all_codes ranges system s w → Before ranges first (starts system) s w
    from s w (inl none) = inl none
    from s w (inr (less, one)) = inr (inl less, one)

-- the ranges up to an index are those before it and the one there
pub ranges-more : (looks : List Look) (at : ℕ) (codes : List (ℕ × ℕ)) (i : ℕ) → i < length codes
    → with_ranges looks at (ranges_of (take (suc i) codes))
    ≡ look at (range (get_or codes i (0, 0)).0 (get_or codes i (0, 0)).1)
    ∷ with_ranges looks at (ranges_of (take i codes))
ranges-more looks at [] i inside = absurd (omega (arith, inside))
ranges-more looks at (words ∷ codes) zero inside = refl
ranges-more looks at (words ∷ codes) (suc i) inside =
    ranges-more (look at (range words.0 words.1) ∷ looks) at codes i (omega (arith, inside))
