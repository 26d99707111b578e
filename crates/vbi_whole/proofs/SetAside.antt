-- How numbers are set aside: row by row, field by field, and run by run.
use Rattle.std.proofs.Common.{◌≡◌, ℕ, zero, suc, ◌+◌, ◌<◌, ◌≤◌, Bool, true, false, List, length, get_or}
use Rattle.std.proofs.Common.{refl, sym, ap, subst, arith, ◌∙◌, inl, inr}
use Rattle.std.specs.Prelude.{Option, Some, None, slice_get, ◌||◌, ◌==◌, if◌then◌else◌}
use Rattle.std.proofs.lemmas.Bool.{and_parts, and_from, or_cases, or_left, or_right, leb-true, le-leb}
use Rattle.std.proofs.lemmas.Bool.{eqb-true, eq-eqb, false≢true}
use Rattle.std.proofs.lemmas.Bool.Decides.{eqb_tells}
use Rattle.std.proofs.lemmas.Option.{slice_get-get_or, slice_get_within, none-some, same_Some}
use Rattle.vbi_whole.specs.Types.{Gap, Number, Place, Rule}
use Rattle.vbi_side.specs.Paces.{spot}
use Rattle.vbi_whole.specs.Gaps.{gap_made, replaced}
use Rattle.vbi_side.specs.Numbers.{nothing, believed, IsMarked}
use Rattle.vbi_whole.specs.AsideNumbers.{has_of_row, row_weight, is_set_aside, begun, run_before, is_of_run, is_aside}
use Rattle.vbi_whole.specs.AsideNumbers.{left_of, AreLeft, IsAsideAt}

-- ---- rows

-- a count grows by what holds
pub counts_alike : (b c : Bool) (m n : ℕ) → b ≡ c → m ≡ n → (if b then suc m else m) ≡ (if c then suc n else n)
counts_alike b c m n same is = ap (λ x. if x then suc m else m) same ∙ ap (λ x. if c then suc x else x) is

pub weight_more : (rule : Rule) (answers : List Number) (a : Place) (k : ℕ) → k < length answers
    → (if has_of_row rule a k (Some (get_or answers k nothing)) then suc (row_weight rule answers a k)
    else row_weight rule answers a k) ≡ row_weight rule answers a (k + 1)
unfolding row_weight
weight_more rule answers a k inside = grind (arith, slice_get-get_or)

-- ---- fields

-- of the fields before this one each has what is made of its own, those from it on are as they were
pub record Changing (make : ℕ → Number → Number) (old new : List Number) (field : ℕ) : Type 0 where
  pub count : length new ≡ length old
  pub done : (i : ℕ) → i < field → get_or new i nothing ≡ make i (get_or old i nothing)
  pub rest : (i : ℕ) → field ≤ i → get_or new i nothing ≡ get_or old i nothing

-- ---- runs

-- a gap of no kind
abbrev no_gap : Gap
no_gap = gap_made (spot 0 0) (spot 0 0) 0 0 0

-- the gap of a list at an index
abbrev pub gap_at : List Gap → ℕ → Gap
gap_at gaps k = get_or gaps k no_gap

pub run_more : (gaps : List Gap) (k : ℕ) → k < length gaps
    → begun (run_before gaps k) (Some (gap_at gaps k)) ≡ run_before gaps (k + 1)
run_more gaps k inside = grind (arith, slice_get-get_or)

pub aside_more : (rule : Rule) (gaps : List Gap) (answers : List Number) (i k : ℕ) → k < length gaps
    → (is_aside rule gaps answers i k || is_of_run rule answers i (run_before gaps k) (Some (gap_at gaps k)))
    ≡ is_aside rule gaps answers i (k + 1)
unfolding is_aside
aside_more rule gaps answers i k inside = grind (arith, slice_get-get_or)

-- what is set aside twice is set aside once
again : (b : Bool) (answer : Number) → left_of b (left_of true answer) ≡ left_of true answer
again b answer = grind (arith, eqb_tells)

pub left_twice : (a b : Bool) (answer : Number) → left_of b (left_of a answer) ≡ left_of (a || b) answer
left_twice false b answer = refl
left_twice true b answer = again b answer

-- ---- what is left

-- an answer that is left believed was believed
left_believed : (aside : Bool) (answer : Number) (n : ℕ) → left_of aside answer ≡ believed n → answer ≡ believed n
left_believed aside answer n h1 = grind (arith, eqb_tells)

pub left_sound : (rule : Rule) (gaps : List Gap) (numbers left : List Number) (i n : ℕ)
    → AreLeft rule gaps numbers left → IsMarked left i n → IsMarked numbers i n
left_sound rule gaps numbers left i n all at =
    let within = slice_get_within left i (believed n) at in
    let was = slice_get-get_or numbers i nothing (omega (arith, within, all.count)) in
    was ∙ ap Some (left_believed (is_aside rule gaps numbers i (length gaps)) (get_or numbers i nothing) n
    (same_Some _ _ (sym (all.each i (get_or numbers i nothing) was) ∙ at)))

-- ---- which runs

-- a run begins with a gap that replaces others
begun_is : (first second : Option Gap) (a : Gap) → begun first second ≡ Some a
    → (second ≡ Some a) × (a.kind ≡ replaced)
begun_is first second a h1 = grind (arith, eqb_tells, none-some, same_Some)

run_is : (gaps : List Gap) (k : ℕ) (a : Gap) → run_before gaps k ≡ Some a
    → (j : ℕ) × (k ≡ suc j) × (slice_get gaps j ≡ Some a) × (a.kind ≡ replaced)
run_is gaps k a h1 = grind (arith, begun_is, none-some)

-- the two gaps around a run that has the field
of_run : (rule : Rule) (numbers : List Number) (i : ℕ) (first second : Option Gap)
    → is_of_run rule numbers i first second ≡ true
    → (a b : Gap) × (first ≡ Some a) × (second ≡ Some b) × (b.kind ≡ replaced)
    × (is_set_aside rule numbers a b ≡ true) × (a.before ≤ i) × (i ≤ b.after)
of_run rule numbers i first second h1 = grind (arith, and_parts, eqb-true, false≢true, leb-true)

pub aside_run : (rule : Rule) (gaps : List Gap) (numbers : List Number) (i k : ℕ)
    → is_aside rule gaps numbers i k ≡ true
    → (j : ℕ) × (run : IsAsideAt rule gaps numbers j) × (run.a.before ≤ i) × (i ≤ run.b.after)
unfolding is_aside
aside_run rule gaps numbers i zero e = absurd (false≢true e)
aside_run rule gaps numbers i (suc k) e = elim (or_cases _ _ e) [
  | inl before ↦ aside_run rule gaps numbers i k before
  | inr here ↦ ended (of_run rule numbers i (run_before gaps k) (slice_get gaps k) here)
]
  where
    ended : (a b : Gap) × (run_before gaps k ≡ Some a) × (slice_get gaps k ≡ Some b) × (b.kind ≡ replaced)
        × (is_set_aside rule numbers a b ≡ true) × (a.before ≤ i) × (i ≤ b.after)
        → (j : ℕ) × (run : IsAsideAt rule gaps numbers j) × (run.a.before ≤ i) × (i ≤ run.b.after)
    ended (a, b, first, second, kind, aside, from, to) =
        let begins = run_is gaps k a first in (
          begins.0,
          record {
            a = a;
            b = b;
            first = begins.2;
            second = subst (λ n. slice_get gaps n ≡ Some b) begins.1 second;
            begins = begins.3;
            ends = kind;
            aside = aside;
          },
          from,
          to,
        )

-- a field that is set aside stays so, whatever gaps follow
stays_aside : (rule : Rule) (gaps : List Gap) (numbers : List Number) (i k n : ℕ) → k ≤ n
    → is_aside rule gaps numbers i k ≡ true → is_aside rule gaps numbers i n ≡ true
unfolding is_aside
stays_aside rule gaps numbers i k zero less e =
    let none : k ≡ zero = omega (arith, less) in
    subst (λ m. is_aside rule gaps numbers i m ≡ true) none e
stays_aside rule gaps numbers i k (suc n) less e = elim (eqb_tells k (suc n)) [
  | inl (t, same) ↦ subst (λ m. is_aside rule gaps numbers i m ≡ true) same e
  | inr (f, other) ↦ or_left _ _ (stays_aside rule gaps numbers i k n (omega (arith, less, other)) e)
]

-- a run that begins with gap j, and is to be set aside, is
pub all_aside : (rule : Rule) (gaps : List Gap) (numbers : List Number) (i j : ℕ) → run_before gaps j ≡ None
    → (run : IsAsideAt rule gaps numbers j) → run.a.before ≤ i → i ≤ run.b.after
    → is_aside rule gaps numbers i (length gaps) ≡ true
unfolding is_aside
all_aside rule gaps numbers i j none run from to =
    stays_aside rule gaps numbers i (suc (suc j)) (length gaps)
    (omega (arith, slice_get_within gaps (suc j) run.b run.second)) (or_right _ _ here)
  where
    begins : begun (run_before gaps j) (slice_get gaps j) ≡ Some run.a
    begins =
        ap (λ o. begun o (slice_get gaps j)) none ∙ ap (begun None) run.first
        ∙ ap (λ kind. if kind == replaced then Some run.a else None) run.begins

    ends : is_of_run rule numbers i (Some run.a) (Some run.b) ≡ true
    ends =
        and_from _ _ (and_from _ _ (le-leb run.a.before i from) (le-leb i run.b.after to))
        (and_from _ _ (eq-eqb run.b.kind replaced run.ends) run.aside)

    here : is_of_run rule numbers i (begun (run_before gaps j) (slice_get gaps j)) (slice_get gaps (suc j)) ≡ true
    here =
        ap (λ o. is_of_run rule numbers i o (slice_get gaps (suc j))) begins
        ∙ ap (is_of_run rule numbers i (Some run.a)) run.second ∙ ends
