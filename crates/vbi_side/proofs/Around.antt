-- The nearest numbers around a field, and what they leave for it.
use Rattle.std.proofs.lemmas.Bool.{cases_lt}
use Rattle.std.proofs.Common.{◌≡◌, ℕ, ◌<◌, ◌≤◌, Bool, true, false, List, arith, ap, sym, ◌∙◌, subst, get_or}
use Rattle.std.proofs.Common.{length, inl, inr}
use Rattle.std.specs.Prelude.{Option, Some, None, ◌↔◌, ◌⊎◌, unwrap_or}
use Rattle.std.proofs.lemmas.Option.{slice_get-get_or, get_or_from_slice_get}
use Rattle.vbi_side.specs.Types.{Number, Sightings, Pace}
use Rattle.vbi_side.specs.Paces.{spot, Count, nearly}
use Rattle.vbi_side.specs.Beliefs.{Believed}
use Rattle.vbi_side.specs.DueNumbers.{slack_of, Leaves, IsLeft, ShowsInstead, ShowsTwice, Due}
use Rattle.vbi_side.specs.Nearest.{IsBefore, IsAfter, AllPass}
use Rattle.vbi_side.specs.Numbers.{believed, IsMarked}
use Rattle.vbi_side.proofs.DueLemmas.{slack_most, slack_grows, nearly_more, whole_on, nearly_on, nearly_back}
use Rattle.vbi_side.proofs.DueLemmas.{left_alike}

-- a test holds or doesn't
pub not_both : {b : Bool} → b ≡ false → b ≡ true → ⊥
not_both e f = cc

-- ---- what the two places that are found leave

pub none_some : {A : Type 0} (found : Option A) (a : A) → found ≡ None → found ≡ Some a → ⊥
none_some found a none some = cc

-- a field is marked with one number
one_marked : (numbers : List Number) (j m n : ℕ) → IsMarked numbers j m → IsMarked numbers j n → m ≡ n
one_marked numbers j m n one other = ap (λ (o : Option Number). (unwrap_or o (believed m)).number) (sym one ∙ other)

-- the nearest field before leads on to what is left
nearest_on : (numbers : List Number) (pace : Pace) (i j m k l b x n : ℕ)
    → Leaves (IsMarked numbers) pace (spot j m) (spot k l) (spot i n) → IsBefore (IsMarked numbers) pace i b x
    → (j ≤ b) × Count pace b x i n
nearest_on numbers pace i j m k l b x n leaves is = go (cases_lt b j) (cases_lt j b)
  where
    go : (b < j) ⊎ (j ≤ b) → (j < b) ⊎ (b ≤ j) → (j ≤ b) × Count pace b x i n
    go (inl less) rest =
        absurd (is.nearest j m less leaves.before (whole_on pace j m i n leaves.before leaves.on) leaves.first)
    go (inr le) (inl less) = (
      le,
      nearly_on pace (slack_of j k) i n b x (slack_most j k) is.before is.whole
          (leaves.between b x less (omega (arith, is.before, leaves.after)) is.has),
    )
    go (inr le) (inr ge) =
        let here : j ≡ b = omega (arith, le, ge) in
        let same : m ≡ x = one_marked numbers b m x (subst (λ f. IsMarked numbers f m) here leaves.first) is.has in
        (le, subst (λ f. Count pace f x i n) here (subst (λ p. Count pace j p i n) same leaves.on))

-- and so does the nearest later one
nearest_back : (numbers : List Number) (pace : Pace) (i j m k l c y n : ℕ)
    → Leaves (IsMarked numbers) pace (spot j m) (spot k l) (spot i n) → IsAfter (IsMarked numbers) pace i c y
    → (c ≤ k) × Count pace i n c y
nearest_back numbers pace i j m k l c y n leaves is = go (cases_lt k c) (cases_lt c k)
  where
    go : (k < c) ⊎ (c ≤ k) → (c < k) ⊎ (k ≤ c) → (c ≤ k) × Count pace i n c y
    go (inl less) rest =
        absurd (is.nearest k l leaves.after less (whole_on pace i n k l leaves.after leaves.back) leaves.last)
    go (inr le) (inl less) = (
      le,
      nearly_back pace (slack_of j k) i n c y (slack_most j k) is.after is.whole
          (leaves.between c y (omega (arith, is.after, leaves.before)) less is.has),
    )
    go (inr le) (inr ge) =
        let here : k ≡ c = omega (arith, le, ge) in
        let same : l ≡ y = one_marked numbers c l y (subst (λ f. IsMarked numbers f l) here leaves.last) is.has in
        (le, subst (λ f. Count pace i n f y) here (subst (λ p. Count pace i n k p) same leaves.back))

-- what is left is what the nearest ones count to
pub left_counts : (numbers : List Number) (pace : Pace) (i b x c y n : ℕ)
    → IsBefore (IsMarked numbers) pace i b x → IsAfter (IsMarked numbers) pace i c y
    → IsLeft (IsMarked numbers) pace i n → Count pace b x i n × Count pace i n c y
left_counts numbers pace i b x c y n h1 h2 h3 = grind (arith, nearest_back, nearest_on)

-- and from it nothing between these is off
pub left_nearly : (numbers : List Number) (pace : Pace) (i b x c y n : ℕ)
    → IsBefore (IsMarked numbers) pace i b x → IsAfter (IsMarked numbers) pace i c y
    → IsLeft (IsMarked numbers) pace i n → AllPass (IsMarked numbers) (nearly pace (slack_of b c) (spot i n)) b c
left_nearly numbers pace i b x c y n before after (one, other, leaves) h z more less has =
    let j = one.field in
    let k = other.field in
    let first = (nearest_on numbers pace i j one.number k other.number b x n leaves before).0 in
    let last = (nearest_back numbers pace i j one.number k other.number c y n leaves after).0 in
    nearly_more pace (slack_of j k) (slack_of b c) i n h z (slack_grows j k b c first last)
    (leaves.between h z (omega (arith, first, more)) (omega (arith, last, less)) has)

-- what the nearest ones count to is left, if from it nothing between them is off
pub nearest_leave : (numbers : List Number) (pace : Pace) (i b x c y n : ℕ)
    → IsBefore (IsMarked numbers) pace i b x → IsAfter (IsMarked numbers) pace i c y
    → Count pace b x i n → Count pace i n c y → AllPass (IsMarked numbers) (nearly pace (slack_of b c) (spot i n)) b c
    → IsLeft (IsMarked numbers) pace i n
nearest_leave numbers pace i b x c y n before after on back between = (
  spot b x,
  spot c y,
  record {
    before = before.before;
    near = before.near;
    after = after.after;
    far = after.near;
    first = before.has;
    last = after.has;
    on = on;
    back = back;
    between = between;
  },
)

-- ---- what is due

-- where nothing is believed of a field and no other code stands there, what is left is due
pub left_due : (pace : Pace) (fields : List Sightings) (numbers : List Number) (i : ℕ) (answer : Option ℕ)
    → ((j n : ℕ) → IsMarked numbers j n ↔ Believed pace fields j n)
    → ((m : ℕ) → Believed pace fields i m → ⊥) → (ShowsInstead fields i → ⊥) → (ShowsTwice fields i → ⊥)
    → ((n : ℕ) → (answer ≡ Some n) ↔ IsLeft (IsMarked numbers) pace i n)
    → (n : ℕ) → (answer ≡ Some n) ↔ Due pace fields i n
left_due pace fields numbers i answer marked none vacant unread left n = (
  λ e. record {
    unbelieved = none;
    vacant = vacant;
    unread = unread;
    left = left_alike (IsMarked numbers) (Believed pace fields) pace i n (λ k l near. marked k l) ((left n).0 e);
  },
  λ due. (left n).1 (left_alike (Believed pace fields) (IsMarked numbers) pace i n
      (λ k l near. ((marked k l).1, (marked k l).0)) due.left),
)

-- nothing is found, and nothing is there
pub nothing_there : {A : Type 0} (answer : Option ℕ) (n : ℕ) → answer ≡ None → (A → ⊥) → (answer ≡ Some n) ↔ A
nothing_there answer n none others = (λ e. absurd (none_some answer n none e), λ a. absurd (others a))

-- a field is marked as believed just where its state says so
pub marked_at : (numbers : List Number) (i : ℕ) (d : Number) → i < length numbers
    → (get_or numbers i d).state ≡ 1 → (n : ℕ) × IsMarked numbers i n
marked_at numbers i d within is = (
  (get_or numbers i d).number,
  slice_get-get_or numbers i d within
      ∙ ap (λ s. Some (record { number = (get_or numbers i d).number; state = s })) is,
)

pub state_at : (numbers : List Number) (i n : ℕ) (d : Number) → IsMarked numbers i n → (get_or numbers i d).state ≡ 1
state_at numbers i n d marked =
    ap (λ (a : Number). a.state) (get_or_from_slice_get numbers i (believed n) d marked)

-- another code stands in a field just where it says so
pub instead_at : (fields : List Sightings) (i : ℕ) (d : Sightings) → i < length fields
    → 1 ≤ (get_or fields i d).instead → ShowsInstead fields i
instead_at fields i d within shows = (get_or fields i d, slice_get-get_or fields i d within, shows)

pub code_at : (fields : List Sightings) (i : ℕ) (d : Sightings) → ShowsInstead fields i
    → 1 ≤ (get_or fields i d).instead
code_at fields i d (field, at, shows) =
    subst (λ (f : Sightings). 1 ≤ f.instead) (sym (get_or_from_slice_get fields i field d at)) shows

-- both lines show one number just where they say so
pub twice_at : (fields : List Sightings) (i : ℕ) (d : Sightings) → i < length fields
    → (2 ≤ (get_or fields i d).line_17.weight) × (2 ≤ (get_or fields i d).line_18.weight)
    × ((get_or fields i d).line_17.number ≡ (get_or fields i d).line_18.number) → ShowsTwice fields i
twice_at fields i d within shows =
    (get_or fields i d, slice_get-get_or fields i d within, shows.0, shows.1, shows.2)

pub lines_at : (fields : List Sightings) (i : ℕ) (d : Sightings) → ShowsTwice fields i
    → (2 ≤ (get_or fields i d).line_17.weight) × (2 ≤ (get_or fields i d).line_18.weight)
    × ((get_or fields i d).line_17.number ≡ (get_or fields i d).line_18.number)
lines_at fields i d h1 = grind (arith, get_or_from_slice_get)
