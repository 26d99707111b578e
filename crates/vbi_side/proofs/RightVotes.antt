-- Who is elected, and when it is right.
use Rattle.std.proofs.Common.{◌≡◌, ◌≢◌, ℕ, zero, suc, ◌+◌, ◌*◌, ◌≤◌, ◌<◌, ◌∙◌, List, length, ap, arith, inl, inr, sym}
use Rattle.std.proofs.Common.{eq-eqb, Bool, true}
use Rattle.std.proofs.Math.Nat.{mul-le-mul_left, add-mul-mod_self_left, mod-zero}
use Rattle.vbi_side.specs.Types.{Clock, Video, Sightings}
use Rattle.vbi_side.specs.Paces.{fits}
use Rattle.vbi_side.specs.Clocks.{kept}
use Rattle.vbi_side.proofs.Counting.{kept_is}
use Rattle.std.specs.Prelude.{Option, Some, ◌⊎◌, ◌&&◌, ◌/◌, ◌%◌, not}
use Rattle.std.proofs.lemmas.Bool.{cases_lt, cases_eq, eqb-true, and_parts, and_from}
use Rattle.vbi_side.specs.Truth.{is_recorded}
use Rattle.vbi_side.specs.Beliefs.{field_most}
use Rattle.vbi_side.specs.Votes.{votes, votes_as, votes_cast, votes_for, IsElected, IsVotedSoundly, IsVotedRightly}
use Rattle.vbi_side.specs.Votes.{Election, RunsFromBy, RanAround, right_votes, wrong_votes}
use Rattle.vbi_side.proofs.Recorded.{recorded_is, wrong_or_right}
use Rattle.vbi_side.proofs.Truth.{video_fits}
use Rattle.vbi_side.proofs.Voting.{first_narrower, first_split, first_apart, votes_near}

-- no vote is for two numbers
one_vote : (election : Election) (m n j k : ℕ) → m ≢ n → votes_as election m j k ≡ true
    → votes_as election n j k ≡ true → ⊥
one_vote election m n j k apart here there = grind (arith, and_parts, eqb-true)

-- so two numbers have no more votes together than there are
shared : (election : Election) (fields : List Sightings) (m n : ℕ) → m ≢ n
    → votes_for election fields m + votes_for election fields n ≤ votes_cast election fields
shared election fields m n apart = grind (arith, and_parts, first_apart, one_vote)

pub one_elected : (election : Election) (fields : List Sightings) (m n : ℕ) → IsElected election fields m
    → IsElected election fields n → m ≡ n
one_elected election fields m n one other = grind (arith, cases_eq, shared)

-- where one number has half of the votes, none is elected
pub half_elects_none : (election : Election) (fields : List Sightings) (n m : ℕ)
    → votes_cast election fields ≡ 2 * votes_for election fields n → IsElected election fields m → ⊥
half_elects_none election fields n m half elected = grind (arith, cases_eq, shared)

-- where all votes weigh less than elects, none is elected
pub few_elect_none : (election : Election) (fields : List Sightings) (m : ℕ)
    → votes_cast election fields < field_most → IsElected election fields m → ⊥
few_elect_none election fields m few elected = grind (arith, and_parts, first_narrower)

-- nor where neither one number has as much, nor all others together
pub few_for_each : (election : Election) (fields : List Sightings) (n m : ℕ)
    → votes_for election fields n < field_most
    → votes_cast election fields < field_most + votes_for election fields n
    → IsElected election fields m → ⊥
few_for_each election fields n m few others elected = grind (arith, cases_eq, shared)

-- ---- where the disc ran on

-- number n of field j votes, and was read rightly
abbrev right : (ℕ → Option ℕ) → Election → ℕ → ℕ → Bool
right recorded election j n = votes election j n && is_recorded (recorded j) n

-- or was misread
abbrev wrong : (ℕ → Option ℕ) → Election → ℕ → ℕ → Bool
wrong recorded election j n = votes election j n && not (is_recorded (recorded j) n)

-- two numbers less than k apart that leave the same remainder are one
one_round : (k a b : ℕ) → a % k ≡ b % k → a < b + k → b < a + k → a ≡ b
one_round k a b h1 h2 h3 = grind (arith, cases_lt, mul-le-mul_left)

-- a number that goes on with this part of a minute goes on with each number that has it
same_part : (minute i part m j n : ℕ) → m % minute ≡ part
    → (2 * n + i) % (2 * minute) ≡ (2 * part + j) % (2 * minute)
    → (2 * n + i) % (2 * minute) ≡ (2 * m + j) % (2 * minute)
same_part zero i part m j n is goes = goes ∙ ap (λ (p : ℕ). (2 * p + j) % (2 * zero)) (sym is ∙ mod-zero m)
same_part (suc k) i part m j n is goes =
    let whole : suc k * (m / suc k) + m % suc k ≡ m = omega arith in
    let more : 2 * m + j ≡ 2 * part + j + 2 * suc k * (m / suc k) = omega (arith, whole, is) in
    goes ∙ sym (ap (λ (x : ℕ). x % (2 * suc k)) more ∙ add-mul-mod_self_left (2 * part + j) (2 * suc k) (m / suc k))

-- a right number that votes is one between which and the field's none is left out
clock_vote : (recorded : ℕ → Option ℕ) (election : Election) (m j n : ℕ) (clock : Clock)
    → m % election.minute ≡ election.part → RunsFromBy clock election.minute recorded election.field m
    → votes election j n ≡ true → recorded j ≡ Some n → fits Video election.field m j n ≡ true
clock_vote recorded election m j n clock is runs e has =
    let p = runs j n (votes_near election j n e) has in
    let on = video_fits election.field (kept clock m) j (kept clock n) p.0 in
    let here = kept_is clock m in
    let there = kept_is clock n in
    eq-eqb (j + 2 * m) (election.field + 2 * n) (omega (
      arith,
      one_round (2 * election.minute) (2 * n + election.field) (2 * m + j)
          (same_part election.minute election.field election.part m j n is (eqb-true _ _ (and_parts _ _ e).1))
          (omega (arith, on, here, there, p.1)) (omega (arith, on, here, there, p.2)),
    ))

-- the right votes are for the number that the disc counts there
right_fits : (recorded : ℕ → Option ℕ) (election : Election) (m j n : ℕ) → RanAround recorded election m
    → right recorded election j n ≡ true → votes_as election m j n ≡ true
right_fits recorded election m j n ran e =
    let p = and_parts _ _ e in
    let has = recorded_is (recorded j) n p.1 in
    and_from _ _ p.0 (elim ran [
      | inl runs ↦ runs j n (votes_near election j n p.0) has
      | inr by ↦ clock_vote recorded election m j n by.1.0 by.0 by.1.1 p.0 has
    ])

right_for : (recorded : ℕ → Option ℕ) (election : Election) (fields : List Sightings) (m : ℕ)
    → RanAround recorded election m → right_votes recorded election fields ≤ votes_for election fields m
right_for recorded election fields m runs = grind (arith, first_narrower, right_fits)

-- each vote is right or wrong
all_votes : (recorded : ℕ → Option ℕ) (election : Election) (fields : List Sightings)
    → votes_cast election fields
    ≤ right_votes recorded election fields + wrong_votes recorded election fields
all_votes recorded election fields = grind (arith, and_from, first_split, wrong_or_right)

-- those for another number are wrong
wrong_for : (recorded : ℕ → Option ℕ) (election : Election) (fields : List Sightings) (m n : ℕ)
    → RanAround recorded election m → m ≢ n
    → votes_for election fields n ≤ wrong_votes recorded election fields
wrong_for recorded election fields m n runs apart =
    first_narrower (votes_as election n) (wrong recorded election) fields (length fields) is_wrong
  where
    is_wrong : (j k : ℕ) → votes_as election n j k ≡ true → wrong recorded election j k ≡ true
    is_wrong j k e =
        let vote = (and_parts _ _ e).0 in
        elim (wrong_or_right recorded j k) [
          | inl is ↦ and_from _ _ vote is
          | inr is ↦ absurd (one_vote election m n j k apart
              (right_fits recorded election m j k runs (and_from _ _ vote is)) e)
        ]

pub sound_elected : (recorded : ℕ → Option ℕ) (election : Election) (fields : List Sightings) (m n : ℕ)
    → IsVotedSoundly recorded election fields m → IsElected election fields n → n ≡ m
sound_elected recorded election fields m n voted elected = go (cases_eq m n) voted.few
  where
    go : (m ≡ n) ⊎ (m ≢ n) → (wrong_votes recorded election fields < right_votes recorded election fields)
        ⊎ (wrong_votes recorded election fields < field_most) → n ≡ m
    go (inl e) few = sym e
    go (inr apart) (inl less) =
        absurd (omega (
          arith,
          less,
          elected.majority,
          right_for recorded election fields m voted.runs,
          all_votes recorded election fields,
          shared election fields m n apart,
        ))
    go (inr apart) (inr less) =
        absurd (omega (arith, less, elected.some, wrong_for recorded election fields m n voted.runs apart))

pub right_elected : (recorded : ℕ → Option ℕ) (election : Election) (fields : List Sightings) (m : ℕ)
    → IsVotedRightly recorded election fields m → IsElected election fields m
right_elected recorded election fields m voted = grind (arith, all_votes, right_for)

-- what elects a number rightly elects no other (vbi_c cites it)
pub rightly_soundly : (recorded : ℕ → Option ℕ) (election : Election) (fields : List Sightings) (m : ℕ)
    → IsVotedRightly recorded election fields m → IsVotedSoundly recorded election fields m
rightly_soundly recorded election fields m voted = record { runs = voted.runs; few = inl voted.most }
