-- Rows of a stream that grows.
use Rattle.vbi_field.proofs.Common.{rules, ◌≡◌, ℕ, ◌+◌, ◌*◌, ◌≤◌, ◌<◌, ◌++◌, length, sym, ap, ◌∙◌, refl, arith}
use Rattle.vbi_field.proofs.Common.{eq-or-lt_of_le, eq-zero-or-pos, le_trans, mul-le-mul_right, length-append}
use Rattle.vbi_field.proofs.Common.{length-drop, take-append-le, take_all, height_of, line_bytes, System, ConfigView}
use Rattle.vbi_field.proofs.Common.{row_levels, reading_of, Reading, FieldReadings, reading_at, reading_among, line_at}
use Rattle.vbi_field.proofs.Common.{rows_at, Progress, IsProgress, IsLineOf, IsKept, List, Option, Some, None}
use Rattle.std.proofs.Common.{lit≤}
use Rattle.std.proofs.lemmas.Bool.{cond_below, cond_above}
use Rattle.std.proofs.lemmas.List.{drop-append-le}
use Rattle.std.proofs.Math.Seq.{drop_at}
use Rattle.vbi_field.specs.Progress.{TakesReading, Advances, all_of, PartialReadings}
use Rattle.vbi_field.proofs.Counts.{sizes_of, times-next, bytes_before}

-- a row that is whole stays as it is
pub line_at-more : (s : System) (z b : List ℕ) (i r : ℕ) → (i * height_of s + r + 1) * line_bytes s ≤ length z
    → line_at s (z ++ b) i r ≡ line_at s z i r
line_at-more s z b i r le = grind (arith, bytes_before, times-next, length-drop, drop-append-le, take-append-le)

-- the row after the stream so far
pub line_at-new : (s : System) (z b : List ℕ) (i r : ℕ) → length z ≡ (i * height_of s + r) * line_bytes s
    → length b ≡ line_bytes s → line_at s (z ++ b) i r ≡ b
line_at-new s z b i r long whole = grind (arith, drop_at, long, bytes_before, take_all)

-- the reading of a row that is whole stays
pub reading_at-more : (c : ConfigView) (z b : List ℕ) (i r : ℕ)
    → (i * height_of c.system + r + 1) * line_bytes c.system ≤ length z
    → reading_at c (z ++ b) i r ≡ reading_at c z i r
reading_at-more c z b i r le = ap (λ l. reading_of c.system (row_levels c.levels l)) (line_at-more c.system z b i r le)

-- an inner row of a whole field is whole
inner : (s : System) (i r n : ℕ) → r ≤ 17 → (i + 1) * height_of s ≤ n
    → (i * height_of s + r + 1) * line_bytes s ≤ n * line_bytes s
inner s i r n small le = grind arith

-- the rows of a whole field stay
pub rows_at-more : (c : ConfigView) (z b : List ℕ) (i n : ℕ)
    → (i + 1) * height_of c.system ≤ n → n * line_bytes c.system ≤ length z
    → rows_at c (z ++ b) i ≡ rows_at c z i
rows_at-more c z b i n le long = grind (arith, le_trans, inner, long, line_at-more, lit≤)

-- the reading of a row that is whole, and of one that isn't
among_some : (c : ConfigView) (z : List ℕ) (i rows r : ℕ) → r < rows
    → Some (reading_at c z i r) ≡ reading_among c z i rows r
among_some c z i rows r lt = cond_below r rows (Some (reading_at c z i r)) None lt

among_none : (c : ConfigView) (z : List ℕ) (i rows r : ℕ) → rows ≤ r → None ≡ reading_among c z i rows r
among_none c z i rows r le = cond_above r rows (Some (reading_at c z i r)) None None le refl

-- of two streams with the same reading of a row, once it is whole
pub among_same : (c : ConfigView) (z w : List ℕ) (i rows r : ℕ)
    → (r < rows → reading_at c z i r ≡ reading_at c w i r) → reading_among c z i rows r ≡ reading_among c w i rows r
among_same c z w i rows r same = grind arith

-- the reading of a row, once the next has come
reads_next : (c : ConfigView) (z b : List ℕ) (i row r : ℕ) (o was now : Option Reading) → 15 ≤ r → r ≤ 17
    → length z ≡ (i * height_of c.system + row) * line_bytes c.system → IsLineOf c b row o
    → was ≡ reading_among c z i row r → IsKept r row o was now → now ≡ reading_among c (z ++ b) i (row + 1) r
reads_next c z b i row r o was now low high long whole before kept =
    grind (
      arith,
      eq-zero-or-pos,
      among_none,
      eq-or-lt_of_le,
      long,
      line_at-new,
      among_some,
      mul-le-mul_right,
      reading_at-more,
    )

-- the readings one row further
record ReadsNext (c : ConfigView) (z : List ℕ) (i row : ℕ) (now : PartialReadings) : Type 0 where
  pub first : now.first ≡ reading_among c z i row 15
  pub second : now.second ≡ reading_among c z i row 16
  pub third : now.third ≡ reading_among c z i row 17

module _ (c : ConfigView) (z b : List ℕ) (p : Progress) (o : Option Reading) (now : PartialReadings)
    (at : IsProgress c z p) (whole : IsLineOf c b p.row o) (kept : TakesReading p.row o p.readings now) where
  reads : ReadsNext c (z ++ b) p.fields (p.row + 1) now
  reads = search (rules, reads_next, lit≤)

  long : length (z ++ b) ≡ (p.fields * height_of c.system + p.row + 1) * line_bytes c.system
  long = grind (arith, length-append, times-next)

-- a row more inside a field
pub within_field : (c : ConfigView) (p p' : Progress) (o : Option Reading) → TakesReading p.row o p.readings p'.readings
    → p'.fields ≡ p.fields → p'.row ≡ p.row + 1 → p'.row < height_of c.system
    → Advances c p o None p'
within_field c p p' o kept fields row inside = record {
  over = λ z b at whole.
      let r = reads c z b p o p'.readings at whole kept in (
        record {
          whole = long c z b p o p'.readings at whole kept
              ∙ ap (λ k. k * line_bytes c.system) (rw (fields, row) (omega arith));
          inside = inside;
          first = rw (fields, row) r.first;
          second = rw (fields, row) r.second;
          third = rw (fields, row) r.third;
        },
        fields,
      );
}

-- a row more at the end of a field
pub past_field : (c : ConfigView) (p p' : Progress) (o : Option Reading) (now : PartialReadings)
    (result : Option FieldReadings) → TakesReading p.row o p.readings now → height_of c.system ≤ p.row + 1
    → result ≡ all_of now.first now.second now.third → p'.fields ≡ p.fields + 1 → p'.row ≡ 0
    → p'.readings ≡ record { first = None; second = None; third = None }
    → Advances c p o result p'
past_field c p p' o now result kept le all fields row none = record {
  over = λ z b at whole.
      let inside = at.inside in
      let last : p.row + 1 ≡ height_of c.system = omega arith in
      let sizes = sizes_of c.system in
      let r = reads c z b p o now at whole kept in
      let come : (k : ℕ) → k ≤ 17 → reading_among c (z ++ b) p.fields (p.row + 1) k
      ≡ Some (reading_at c (z ++ b) p.fields k) =
      λ k le. sym (among_some c (z ++ b) p.fields (p.row + 1) k (omega arith)) in
      rw (all, r.first ∙ come 15 (lit≤ tt), r.second ∙ come 16 (lit≤ tt), r.third ∙ come 17 (lit≤ tt)) (
        record {
          whole = long c z b p o now at whole kept
              ∙ ap (λ k. k * line_bytes c.system)
              (rw (fields, row) (omega (arith, times-next p.fields (height_of c.system))));
          inside = rw row (omega arith);
          first = ap (λ m. m.first) none ∙ rw row (among_none c (z ++ b) p'.fields 0 15 (lit≤ tt));
          second = ap (λ m. m.second) none ∙ rw row (among_none c (z ++ b) p'.fields 0 16 (lit≤ tt));
          third = ap (λ m. m.third) none ∙ rw row (among_none c (z ++ b) p'.fields 0 17 (lit≤ tt));
        },
        last,
        refl,
      );
}
