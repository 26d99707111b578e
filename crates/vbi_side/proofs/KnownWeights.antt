-- Which chapters are believed, or not, where the weights around a field are known.
use Rattle.std.proofs.Common.{◌≡◌, ◌≢◌, ℕ, ◌<◌, ◌≤◌, List, arith, subst, sym, ◌∙◌}
use Rattle.std.specs.Prelude.{Some, slice_get}
use Rattle.vbi_side.specs.Types.{Sightings}
use Rattle.vbi_side.specs.Sightings.{Shows}
use Rattle.vbi_side.specs.Beliefs.{enough}
use Rattle.vbi_side.specs.Chapters.{said_weight, opposed_weight, BelievedChapter}
use Rattle.vbi_side.specs.Worked.{field_of}
use Rattle.vbi_side.specs.WorkedChapters.{one, IsDoubted}

-- a field that shows one chapter, which enough codes say and less than enough oppose
pub alone : (fields : List Sightings) (i n s o : ℕ) → slice_get fields i ≡ Some (one n) → said_weight fields i n ≡ s
    → opposed_weight fields i n ≡ o → enough ≤ s → o < enough → BelievedChapter fields i n
alone fields i n s o at says opposes much few = grind arith

-- one that shows one chapter, of which too little says it, or too much opposes it
pub unsaid : (fields : List Sightings) (i n s : ℕ) → slice_get fields i ≡ Some (one n) → said_weight fields i n ≡ s
    → s < enough → IsDoubted fields i
unsaid fields i n s h1 h2 h3 = grind arith

pub against : (fields : List Sightings) (i n o : ℕ) → slice_get fields i ≡ Some (one n) → opposed_weight fields i n ≡ o
    → enough ≤ o → IsDoubted fields i
against fields i n o h1 h2 h3 = grind arith

-- ---- a field that shows one chapter on line 17 and another one on line 18

-- fewer codes say another one that it shows than the one that is believed
fewer_say : (fields : List Sightings) (i k l m : ℕ) → BelievedChapter fields i k → l ≡ k → Shows (slice_get fields i) m
    → m ≢ l → said_weight fields i m < said_weight fields i l
fewer_say fields i k l m b is shown apart =
    subst (λ x. said_weight fields i m < said_weight fields i x) (sym is) (b.ahead m shown (λ e. apart (e ∙ sym is)))

-- that of line 17 is opposed by too much, and no fewer codes say it than that of line 18
pub opposed_first : (fields : List Sightings) (i m n o s t : ℕ) → slice_get fields i ≡ Some (field_of m 2 n 2)
    → m ≢ n → opposed_weight fields i m ≡ o → enough ≤ o → said_weight fields i m ≡ s → said_weight fields i n ≡ t
    → t ≤ s → IsDoubted fields i
opposed_first fields i m n o s t h1 h2 h3 h4 h5 h6 h7 = grind (arith, fewer_say)

-- as many codes say the one as say the other
pub as_many : (fields : List Sightings) (i m n s t : ℕ) → slice_get fields i ≡ Some (field_of m 2 n 2) → m ≢ n
    → said_weight fields i m ≡ s → said_weight fields i n ≡ t → s ≡ t → IsDoubted fields i
as_many fields i m n s t h1 h2 h3 h4 h5 = grind (arith, fewer_say)

-- enough codes say that of line 18, more than say that of line 17, and too few oppose it
pub second_ahead : (fields : List Sightings) (i m n s t o : ℕ) → slice_get fields i ≡ Some (field_of m 2 n 2)
    → said_weight fields i m ≡ s → said_weight fields i n ≡ t → opposed_weight fields i n ≡ o
    → s < t → enough ≤ t → o < enough → BelievedChapter fields i n
second_ahead fields i m n s t o at other says opposes fewer much few = grind arith
