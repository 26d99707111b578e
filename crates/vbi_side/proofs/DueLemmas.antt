-- What is due, once, and rightly.
use Rattle.std.proofs.lemmas.Bool.{cases_lt, eqb-true, leb-true, le-leb, and_parts, and_from}
use Rattle.std.proofs.Common.{eq-eqb, ◌≡◌, ◌≢◌, ℕ, ◌+◌, ◌*◌, ◌-◌, ◌%◌, ◌<◌, ◌≤◌, true, List, arith, sym, ◌∙◌}
use Rattle.std.proofs.Common.{subst, inl, inr}
use Rattle.std.specs.Prelude.{Option, Some, slice_get, ◌⊎◌, ◌↔◌}
use Rattle.std.proofs.lemmas.Bool.Decides.{leb_tells}
use Rattle.vbi_side.specs.Types.{Sightings, Pace, Video, Film}
use Rattle.vbi_side.specs.Paces.{spot, Count, nearly}
use Rattle.vbi_side.specs.Beliefs.{Believed}
use Rattle.vbi_side.specs.DueNumbers.{slack_of, Leaves, IsLeft, Due}
use Rattle.vbi_side.specs.Nearest.{are_whole}
use Rattle.vbi_side.specs.Truth.{IsNear, IsRegular}
use Rattle.vbi_side.proofs.Ahead.{one_believed}
use Rattle.vbi_side.proofs.Truth.{film_fits, only_near}

-- ---- how far a number may be off

-- a field at most
pub slack_most : (j k : ℕ) → slack_of j k ≤ 1
slack_most j k = grind (arith, leb_tells)

-- between closer fields not less
pub slack_grows : (j k b c : ℕ) → j ≤ b → c ≤ k → slack_of j k ≤ slack_of b c
slack_grows j k b c first last = grind (arith, le-leb, leb_tells)

-- ---- what nearly fits, in numbers

pub video_nearly : (slack i m j n : ℕ) → nearly Video slack (spot i m) (spot j n) ≡ true
    → (j + 2 * m ≤ i + 2 * n + slack) × (i + 2 * n ≤ j + 2 * m + slack)
video_nearly slack i m j n e = grind (arith, and_parts, leb-true)

pub nearly_more : (pace : Pace) (slack more i m j n : ℕ) → slack ≤ more → nearly pace slack (spot i m) (spot j n) ≡ true
    → nearly pace more (spot i m) (spot j n) ≡ true
nearly_more pace slack more i m j n h1 h2 = grind (arith, and_from, le-leb, video_nearly)

-- ---- whole pictures

-- numbers that lie whole pictures apart are of fields that do
pub whole_on : (pace : Pace) (j m i n : ℕ) → j < i → Count pace j m i n → are_whole pace (i - j) ≡ true
whole_on Video j m i n less e = eq-eqb ((i - j) % 2) 0 (omega (arith, less, e))
whole_on Film j m i n less e = eq-eqb ((i - j) % 5) 0 (omega (arith, less, e))

-- numbers of such fields that nearly fit lie whole pictures apart
pub nearly_on : (pace : Pace) (slack i n j m : ℕ) → slack ≤ 1 → j < i → are_whole pace (i - j) ≡ true
    → nearly pace slack (spot i n) (spot j m) ≡ true → Count pace j m i n
nearly_on pace slack i n j m h1 h2 h3 h4 = grind (arith, eqb-true, film_fits, video_nearly)

pub nearly_back : (pace : Pace) (slack i n k l : ℕ) → slack ≤ 1 → i < k → are_whole pace (k - i) ≡ true
    → nearly pace slack (spot i n) (spot k l) ≡ true → Count pace i n k l
nearly_back pace slack i n k l h1 h2 h3 h4 = grind (arith, eqb-true, film_fits, video_nearly)

-- a number counts to one number in another field
pub one_count : (pace : Pace) (j m i a b : ℕ) → Count pace j m i a → Count pace j m i b → a ≡ b
one_count Video j m i a b one other = omega (arith, one, other)
one_count Film j m i a b one other = omega (arith, one, other)

-- where the pictures of the fields on both sides lead from one number to the other, the one between them is the first
-- with its pictures
pub counted_some : (pace : Pace) (j m i k l p q number n : ℕ) → j < i → i < k
    → ((f a : ℕ) → Count pace f a (f + (i - j)) (a + p)) → ((f a : ℕ) → Count pace f a (f + (k - i)) (a + q))
    → number ≡ m + p → number + q ≡ l → (number ≡ n) ↔ (Count pace j m i n × Count pace i n k l)
counted_some pace j m i k l p q number n first last on back is ends = (there, here)
  where
    leads : Count pace j m i number
    leads = subst (λ f. Count pace j m f number) (omega (arith, first))
        (subst (Count pace j m (j + (i - j))) (omega (arith, is)) (on j m))

    ends_there : Count pace i number k l
    ends_there = subst (λ f. Count pace i number f l) (omega (arith, last))
        (subst (Count pace i number (i + (k - i))) ends (back i number))

    there : number ≡ n → Count pace j m i n × Count pace i n k l
    there e = subst (λ a. Count pace j m i a × Count pace i a k l) e (leads, ends_there)

    here : Count pace j m i n × Count pace i n k l → number ≡ n
    here (one, other) = one_count pace j m i number n leads one

-- where they don't, there is none
pub counted_none : (pace : Pace) (j m i k l p q n : ℕ) → j < i → i < k
    → ((f a : ℕ) → Count pace f a (f + (i - j)) (a + p)) → ((f a : ℕ) → Count pace f a (f + (k - i)) (a + q))
    → m + p + q ≢ l → Count pace j m i n × Count pace i n k l → ⊥
counted_none pace j m i k l p q n first last on back apart (one, other) = apart (omega (arith, here, there))
  where
    here : m + p ≡ n
    here = one_count pace j m i (m + p) n (subst (λ f. Count pace j m f (m + p)) (omega (arith, first)) (on j m)) one

    there : n + q ≡ l
    there =
        one_count pace i n k (n + q) l (subst (λ f. Count pace i n f (n + q)) (omega (arith, last)) (back i n)) other

-- ---- one number is due

-- what another pair of fields leaves is the same
one_left : (HasNumber : ℕ → ℕ → Type 0) (pace : Pace) (j m k l g x h y i a b : ℕ)
    → ((f p q : ℕ) → HasNumber f p → HasNumber f q → p ≡ q)
    → Leaves HasNumber pace (spot j m) (spot k l) (spot i a)
    → Leaves HasNumber pace (spot g x) (spot h y) (spot i b) → a ≡ b
one_left HasNumber pace j m k l g x h y i a b unique one other = go (cases_lt g j) (cases_lt j g)
  where
    go : (g < j) ⊎ (j ≤ g) → (j < g) ⊎ (g ≤ j) → a ≡ b
    go (inl less) rest =
        one_count pace j m i a b one.on (nearly_on pace (slack_of g h) i b j m (slack_most g h) one.before
        (whole_on pace j m i a one.before one.on)
        (other.between j m less (omega (arith, one.before, other.after)) one.first))
    go (inr le) (inl less) =
        one_count pace g x i a b (nearly_on pace (slack_of j k) i a g x (slack_most j k) other.before
        (whole_on pace g x i b other.before other.on)
        (one.between g x less (omega (arith, other.before, one.after)) other.first)) other.on
    go (inr le) (inr ge) =
        let here : g ≡ j = omega (arith, le, ge) in
        let same : x ≡ m = unique j x m (subst (λ f. HasNumber f x) here other.first) one.first in
        one_count pace j m i a b one.on
        (subst (λ f. Count pace f m i b) here (subst (λ p. Count pace g p i b) same other.on))

pub one_due : (pace : Pace) (fields : List Sightings) (i m n : ℕ) → Due pace fields i m → Due pace fields i n → m ≡ n
one_due pace fields i m n one other =
    let (j, k, leaves) = one.left in
    let (g, h, others) = other.left in
    one_left (Believed pace fields) pace j.field j.number k.field k.number g.field g.number h.field h.number i m n
    (one_believed pace fields) leaves others

-- ---- it is the recorded one

pub due_sound : (pace : Pace) (recorded : ℕ → Option ℕ) (fields : List Sightings) (i n : ℕ)
    → IsRegular pace recorded i → ((j k : ℕ) → IsNear i j → Believed pace fields j k → recorded j ≡ Some k)
    → Due pace fields i n → recorded i ≡ Some n
due_sound pace recorded fields i n regular right due = grind arith

-- ---- the same capture around a field

-- what is left by numbers that are the same near the field
pub left_alike : (P Q : ℕ → ℕ → Type 0) (pace : Pace) (i n : ℕ) → ((j m : ℕ) → IsNear i j → P j m ↔ Q j m)
    → IsLeft P pace i n → IsLeft Q pace i n
left_alike P Q pace i n h1 h2 = grind arith

same_field : (fields others : List Sightings) (i : ℕ) (field : Sightings) → slice_get fields i ≡ slice_get others i
    → slice_get others i ≡ Some field → slice_get fields i ≡ Some field
same_field fields others i field same at = same ∙ at

-- the same is due where the captures agree on the fields within twice the reach
pub due_near : (pace : Pace) (fields others : List Sightings) (i n : ℕ)
    → ((j : ℕ) → i ≤ j + 48 → j ≤ i + 48 → slice_get fields j ≡ slice_get others j)
    → Due pace fields i n → Due pace others i n
due_near pace fields others i n agree due = record {
  unbelieved = λ x b. due.unbelieved x (back i x (omega arith, omega arith) b);
  vacant = λ shows. due.vacant (shows.0, same_field fields others i shows.0 here shows.1, shows.2);
  unread = λ shows. due.unread
      (shows.0, same_field fields others i shows.0 here shows.1, shows.2, shows.3, shows.4);
  left = left_alike (Believed pace fields) (Believed pace others) pace i n (λ j m near. (on j m near, back j m near))
      due.left;
}
  where
    here : slice_get fields i ≡ slice_get others i
    here = agree i (omega arith) (omega arith)

    -- what is believed within reach
    on : (j m : ℕ) → IsNear i j → Believed pace fields j m → Believed pace others j m
    on j m near b = only_near pace fields others j m
        (λ k by. agree k (omega (arith, near.0, by.0)) (omega (arith, near.1, by.1))) b

    back : (j m : ℕ) → IsNear i j → Believed pace others j m → Believed pace fields j m
    back j m near b = only_near pace others fields j m
        (λ k by. sym (agree k (omega (arith, near.0, by.0)) (omega (arith, near.1, by.1)))) b
