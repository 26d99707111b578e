-- Sums of votes over the first fields, and who leads.
use Rattle.std.proofs.Common.{◌≡◌, ℕ, zero, suc, ◌+◌, ◌-◌, ◌<◌, ◌≤◌, Bool, true, false, List, length, refl, arith, ap}
use Rattle.std.proofs.Common.{◌*◌, add-one, sym, ◌∙◌, get_or}
use Rattle.std.specs.Prelude.{Option, Some, slice_get, ◌⊎◌, min, ◌%◌}
use Rattle.std.proofs.lemmas.Option.{slice_get-get_or}
use Rattle.std.proofs.lemmas.Bool.{cases_lt, cases_eq, leb-true, eqb-true, and_parts, and_from}
use Rattle.vbi_side.specs.Types.{Sighting, Sightings}
use Rattle.vbi_side.specs.Beliefs.{field_most, sighting_weight, field_weight}
use Rattle.vbi_side.specs.declared.votes.Count.{Count}
use Rattle.vbi_side.specs.Votes.{vote_reach, IsVoter, votes, weight_of_first, votes_cast, votes_as, votes_for}
use Rattle.vbi_side.specs.Votes.{Election, IsElected}
use Rattle.vbi_side.specs.VoteCounts.{votes_by, Leads}
use Rattle.vbi_side.proofs.Weights.{field_narrower, field_split}

-- a field that shows nothing
abbrev pub no_sightings : Sightings
no_sightings = record {
  line_17 = record { number = 0; weight = 0 };
  line_18 = record { number = 0; weight = 0 };
  instead = 0;
}

pub first_more : (test : ℕ → ℕ → Bool) (fields : List Sightings) (k : ℕ)
    → weight_of_first test fields (k + 1)
    ≡ weight_of_first test fields k + field_weight (test k) (slice_get fields k)
unfolding weight_of_first
first_more test fields k = ap (weight_of_first test fields) (add-one k)

-- ---- what no sighting passes weighs nothing

false_true : false ≡ true → ⊥
false_true e = cc

sighting_none : (test : ℕ → Bool) (sighting : Sighting) → ((n : ℕ) → test n ≡ true → ⊥)
    → sighting_weight test sighting ≡ 0
sighting_none test sighting fails = grind arith

field_none : (test : ℕ → Bool) (field : Option Sightings) → ((n : ℕ) → test n ≡ true → ⊥)
    → field_weight test field ≡ 0
field_none test field h1 = grind (arith, sighting_none)

-- fields of which none passes weigh nothing
pub first_none : (test : ℕ → ℕ → Bool) (fields : List Sightings) (k : ℕ)
    → ((j n : ℕ) → j < k → test j n ≡ true → ⊥) → weight_of_first test fields k ≡ 0
unfolding weight_of_first
first_none test fields zero fails = refl
first_none test fields (suc k) fails =
    omega (
      arith,
      first_none test fields k (λ j n less. fails j n (omega arith)),
      field_none (test k) (slice_get fields k) (λ n. fails k n (omega arith)),
    )

-- and so do those after field k
after_by : (test : ℕ → ℕ → Bool) (fields : List Sightings) (k more : ℕ)
    → ((j n : ℕ) → k ≤ j → test j n ≡ true → ⊥)
    → weight_of_first test fields (k + more) ≡ weight_of_first test fields k
after_by test fields k zero fails =
    let same : k + zero ≡ k = omega arith in ap (weight_of_first test fields) same
after_by test fields k (suc more) fails =
    let next : k + suc more ≡ k + more + 1 = omega (arith, add-one more) in
    ap (weight_of_first test fields) next ∙ omega (
      arith,
      first_more test fields (k + more),
      after_by test fields k more fails,
      field_none (test (k + more)) (slice_get fields (k + more)) (λ n. fails (k + more) n (omega arith)),
    )

pub first_after : (test : ℕ → ℕ → Bool) (fields : List Sightings) (k l : ℕ) → k ≤ l
    → ((j n : ℕ) → k ≤ j → test j n ≡ true → ⊥)
    → weight_of_first test fields l ≡ weight_of_first test fields k
first_after test fields k l less fails =
    let whole : l ≡ k + (l - k) = omega (arith, less) in
    ap (weight_of_first test fields) whole ∙ after_by test fields k (l - k) fails

-- ---- tests that pass more, and less

pub first_narrower : (few more : ℕ → ℕ → Bool) (fields : List Sightings) (k : ℕ)
    → ((j n : ℕ) → few j n ≡ true → more j n ≡ true)
    → weight_of_first few fields k ≤ weight_of_first more fields k
unfolding weight_of_first
first_narrower few more fields zero passes = omega arith
first_narrower few more fields (suc k) passes =
    omega (
      arith,
      first_narrower few more fields k passes,
      field_narrower (few k) (more k) (slice_get fields k) (passes k),
    )

pub first_alike : (one other : ℕ → ℕ → Bool) (fields : List Sightings) (k : ℕ)
    → ((j n : ℕ) → one j n ≡ true → other j n ≡ true) → ((j n : ℕ) → other j n ≡ true → one j n ≡ true)
    → weight_of_first one fields k ≡ weight_of_first other fields k
first_alike one other fields k here there =
    omega (arith, first_narrower one other fields k here, first_narrower other one fields k there)

pub first_split : (test some rest : ℕ → ℕ → Bool) (fields : List Sightings) (k : ℕ)
    → ((j n : ℕ) → test j n ≡ true → (some j n ≡ true) ⊎ (rest j n ≡ true))
    → weight_of_first test fields k ≤ weight_of_first some fields k + weight_of_first rest fields k
unfolding weight_of_first
first_split test some rest fields zero passes = omega arith
first_split test some rest fields (suc k) passes =
    omega (
      arith,
      first_split test some rest fields k passes,
      field_split (test k) (some k) (rest k) (slice_get fields k) (passes k),
    )

-- ---- two tests of which never both pass

sighting_apart : (one other all : ℕ → Bool) (sighting : Sighting)
    → ((n : ℕ) → one n ≡ true → all n ≡ true) → ((n : ℕ) → other n ≡ true → all n ≡ true)
    → ((n : ℕ) → one n ≡ true → other n ≡ true → ⊥)
    → sighting_weight one sighting + sighting_weight other sighting ≤ sighting_weight all sighting
sighting_apart one other all sighting here there apart = grind (arith, false_true)

field_apart : (one other all : ℕ → Bool) (field : Option Sightings)
    → ((n : ℕ) → one n ≡ true → all n ≡ true) → ((n : ℕ) → other n ≡ true → all n ≡ true)
    → ((n : ℕ) → one n ≡ true → other n ≡ true → ⊥)
    → field_weight one field + field_weight other field ≤ field_weight all field
field_apart one other all field h1 h2 h3 = grind (arith, sighting_apart)

pub first_apart : (one other all : ℕ → ℕ → Bool) (fields : List Sightings) (k : ℕ)
    → ((j n : ℕ) → one j n ≡ true → all j n ≡ true) → ((j n : ℕ) → other j n ≡ true → all j n ≡ true)
    → ((j n : ℕ) → one j n ≡ true → other j n ≡ true → ⊥)
    → weight_of_first one fields k + weight_of_first other fields k ≤ weight_of_first all fields k
unfolding weight_of_first
first_apart one other all fields zero here there apart = omega arith
first_apart one other all fields (suc k) here there apart =
    omega (
      arith,
      first_apart one other all fields k here there apart,
      field_apart (one k) (other k) (all k) (slice_get fields k) (here k) (there k) (apart k),
    )

-- ---- who leads

pub leads_alike : (of other : ℕ → ℕ) (count : Count) → ((k : ℕ) → of k ≡ other k) → Leads of count → Leads other count
leads_alike of other count same leads = grind arith

-- none leads before the first vote
pub none_leads : (of : ℕ → ℕ) → ((k : ℕ) → of k ≡ 0) → Leads of (record { key = 0; ahead = 0; all = 0 })
none_leads of none = grind arith

-- who has more than half leads
pub only_leads : (of : ℕ → ℕ) (count : Count) (k : ℕ) → Leads of count → count.all < 2 * of k → k ≡ count.key
only_leads of count k leads most = grind (arith, cases_eq)

-- ---- which fields vote

pub votes_near : (election : Election) (j n : ℕ) → votes election j n ≡ true → IsVoter election.field j
votes_near election j n e = grind (arith, and_parts, leb-true)

pub votes_by_near : (election : Election) (key j n : ℕ) → votes_by election key j n ≡ true → IsVoter election.field j
votes_by_near election key j n e = votes_near election j n (and_parts _ _ e).0

-- the first fields' weight before reach, and after it
pub none_before : (test : ℕ → ℕ → Bool) (fields : List Sightings) (i : ℕ)
    → ((j n : ℕ) → test j n ≡ true → IsVoter i j) → weight_of_first test fields (i - vote_reach) ≡ 0
none_before test fields i near =
    first_none test fields (i - vote_reach) (λ j n less e. omega (arith, less, (near j n e).0))

pub none_after : (test : ℕ → ℕ → Bool) (fields : List Sightings) (i end : ℕ)
    → ((j n : ℕ) → test j n ≡ true → IsVoter i j) → end ≡ min (length fields) (i + vote_reach + 1)
    → weight_of_first test fields (length fields) ≡ weight_of_first test fields end
none_after test fields i end near is = grind (arith, cases_lt, first_after)

-- a field that is there
pub first_next : (test : ℕ → ℕ → Bool) (fields : List Sightings) (k : ℕ) → k < length fields
    → weight_of_first test fields (k + 1)
    ≡ weight_of_first test fields k + field_weight (test k) (Some (get_or fields k no_sightings))
first_next test fields k inside = grind (arith, first_more, slice_get-get_or)

-- ---- the number that is elected

fits_key : (election : Election) (m j n : ℕ) → votes_as election m j n ≡ true
    → votes_by election (2 * m + vote_reach) j n ≡ true
fits_key election m j n e = grind (arith, and_from, and_parts, eqb-true, votes_near)

key_fits : (election : Election) (m j n : ℕ) → votes_by election (2 * m + vote_reach) j n ≡ true
    → votes_as election m j n ≡ true
key_fits election m j n e = grind (arith, and_from, and_parts, eqb-true, votes_near)

-- the votes for a number are those for its key
pub votes_for_key : (election : Election) (fields : List Sightings) (m : ℕ)
    → votes_for election fields m
    ≡ weight_of_first (votes_by election (2 * m + vote_reach)) fields (length fields)
votes_for_key election fields m = grind (arith, first_alike, fits_key, key_fits)

-- where these are the weights of all votes of each key
abbrev pub AreCounted : Election → List Sightings → Count → Type 0
AreCounted election fields count =
    (count.all ≡ votes_cast election fields)
    × Leads (λ k. weight_of_first (votes_by election k) fields (length fields)) count

-- an elected number has the leading key
pub elected_leads : (election : Election) (fields : List Sightings) (count : Count) (m : ℕ)
    → AreCounted election fields count → IsElected election fields m → 2 * m + vote_reach ≡ count.key
elected_leads election fields count m h1 h2 = grind (arith, only_leads, votes_for_key)

-- of all votes these are enough to elect
abbrev pub AreEnough : ℕ → ℕ → Type 0
AreEnough all votes = (field_most ≤ votes) × (all < 2 * votes)

-- and enough votes are for that
pub elected_enough : (election : Election) (fields : List Sightings) (count : Count) (m : ℕ)
    → AreCounted election fields count → IsElected election fields m
    → AreEnough count.all (weight_of_first (votes_by election count.key) fields (length fields))
elected_enough election fields count m counted elected = grind (arith, elected_leads, votes_for_key)

-- the number of a key with enough votes is elected
pub enough_elected : (election : Election) (fields : List Sightings) (count : Count) (m : ℕ)
    → AreCounted election fields count
    → AreEnough count.all (weight_of_first (votes_by election count.key) fields (length fields))
    → count.key ≡ 2 * m + vote_reach → m % election.minute ≡ election.part → IsElected election fields m
enough_elected election fields count m h1 h2 h3 h4 = grind (arith, votes_for_key)

-- the same where the first of two fields are those that are there
pub none_first : (test : ℕ → ℕ → Bool) (fields : List Sightings) (i first : ℕ)
    → ((j n : ℕ) → test j n ≡ true → IsVoter i j) → first ≡ i - vote_reach → weight_of_first test fields first ≡ 0
none_first test fields i first near is = ap (weight_of_first test fields) is ∙ none_before test fields i near

-- a sum that stands at a field's end stands at the list's
pub none_later : (test : ℕ → ℕ → Bool) (fields : List Sightings) (i end k : ℕ)
    → ((j n : ℕ) → test j n ≡ true → IsVoter i j) → end ≡ min (length fields) (i + vote_reach + 1) → k ≡ end
    → weight_of_first test fields k ≡ weight_of_first test fields (length fields)
none_later test fields i end k near is at =
    ap (weight_of_first test fields) at ∙ sym (none_after test fields i end near is)

pub ruleset keyed =
    (first_next, none_first, none_later, votes_near, votes_by_near, none_leads, leads_alike)
