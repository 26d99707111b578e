-- The text that is written after some whole fields.
use Rattle.vbi_field.proofs.Common.{◌≡◌, ℕ, zero, suc, ◌+◌, ◌*◌, ◌≤◌, ◌<◌, [], ◌∷◌, ◌++◌, length, refl, sym, ap, ◌∙◌}
use Rattle.vbi_field.proofs.Common.{arith, append_assoc, add-zero, zero-add, add-one, cond, ◌==◌, if◌then◌else◌}
use Rattle.vbi_field.proofs.Common.{join_by, flat_map, range_with_len, flat_map-append, height_of, line_bytes}
use Rattle.vbi_field.proofs.Common.{ConfigView, fields_of, rows_at, joined_entry_of, Kind, List, append-nil, Bool, true}
use Rattle.vbi_field.proofs.Common.{false}
use Rattle.std.proofs.Math.Dec.{eqb-suc-zero}
use Rattle.vbi_field.proofs.Common.{FieldReadings, codes}
use Rattle.std.specs.Fmt.{decimal}
use Rattle.vbi_field.specs.CodeTexts.{cause_text_of}
use Rattle.vbi_field.specs.Document.{lines_of, record_of, value_of}
use Rattle.vbi_field.specs.RecoveredDocument.{record_with}
use Rattle.vbi_field.specs.Texts.{text_before_tail}
use Rattle.vbi_field.proofs.Growing.{rows_at-more}

-- one number more
range-push : (a n : ℕ) → range_with_len a (suc n) ≡ range_with_len a n ++ (a + n) ∷ []
range-push a zero = ap (λ m. m ∷ []) (sym (add-zero a))
range-push a (suc n) =
    let e : a + 1 + n ≡ a + suc n = omega arith in
    ap (λ l. a ∷ l) (range-push (a + 1) n ∙ ap (λ m. range_with_len (a + 1) n ++ m ∷ []) e)

-- one piece more
joined-push : {X : Type 0} (f : X → List ℕ) (joint : List ℕ) (x : X) (xs : List X) (y : X)
    → join_by f joint ((x ∷ xs) ++ y ∷ []) ≡ join_by f joint (x ∷ xs) ++ (joint ++ f y)
joined-push f joint x xs y = grind (arith, flat_map-append, append-nil, append_assoc)

-- one number more, joined
joined-more : (f : ℕ → List ℕ) (joint : List ℕ) (n : ℕ)
    → join_by f joint (range_with_len 0 (n + 1))
    ≡ join_by f joint (range_with_len 0 n) ++ (cond (n == 0) [] joint ++ f n)
joined-more f joint zero = append-nil (f 0)
joined-more f joint (suc m) =
    ap (λ k. join_by f joint (range_with_len 0 k)) (add-one (suc m))
    ∙ ap (join_by f joint) (range-push 0 (suc m))
    ∙ joined-push f joint 0 (range_with_len (0 + 1) m) (0 + suc m)
    ∙ ap (λ k. join_by f joint (range_with_len 0 (suc m)) ++ (joint ++ f k)) (zero-add (suc m))
    ∙ ap (λ b. join_by f joint (range_with_len 0 (suc m)) ++ (cond b [] joint ++ f (suc m))) (sym (eqb-suc-zero m))

-- pieces that are the same give the same text
pieces-same : (f g : ℕ → List ℕ) (joint : List ℕ) (a n : ℕ) → ((i : ℕ) → i < a + n → f i ≡ g i)
    → flat_map (λ y. joint ++ f y) (range_with_len a n) ≡ flat_map (λ y. joint ++ g y) (range_with_len a n)
pieces-same f g joint a zero same = refl
pieces-same f g joint a (suc n) same =
    let rest = pieces-same f g joint (a + 1) n (λ i lt. same i (omega arith)) in
    let here : f a ≡ g a = same a (omega arith) in
    ap (λ l. (joint ++ l) ++ flat_map (λ y. joint ++ f y) (range_with_len (a + 1) n)) here
    ∙ ap (λ l. (joint ++ g a) ++ l) rest

-- pieces that are the same are the same joined
pub joined-same : (f g : ℕ → List ℕ) (joint : List ℕ) (n : ℕ) → ((i : ℕ) → i < n → f i ≡ g i)
    → join_by f joint (range_with_len 0 n) ≡ join_by g joint (range_with_len 0 n)
joined-same f g joint zero same = refl
joined-same f g joint (suc n) same =
    let rest = pieces-same f g joint (0 + 1) n (λ i lt. same i (omega arith)) in
    ap (λ l. l ++ flat_map (λ y. joint ++ f y) (range_with_len (0 + 1) n)) (same 0 (omega arith))
    ∙ ap (λ l. g 0 ++ l) rest

-- the entry of field i of a stream, i from 0
abbrev pub entry_of : Kind → ConfigView → List ℕ → ℕ → List ℕ
entry_of t c z i = t.entry c (i + 1) (rows_at c z i)

-- the head and the entries of the first n fields
unfoldable pub stood : Kind → ConfigView → List ℕ → ℕ → List ℕ
stood t c z n = t.head c ++ join_by (entry_of t c z) t.joint (range_with_len 0 n)

pub stood-none : (t : Kind) (c : ConfigView) (z : List ℕ) → stood t c z 0 ≡ t.head c
unfolding stood
stood-none t c z = append-nil (t.head c)

-- one field more
pub stood-more : (t : Kind) (c : ConfigView) (z : List ℕ) (n : ℕ)
    → stood t c z (n + 1) ≡ stood t c z n ++ joined_entry_of t c n (rows_at c z n)
unfolding stood
stood-more t c z n = grind (arith, joined-more, append_assoc)

-- the text of whole fields stays as the stream grows
pub stood-stays : (t : Kind) (c : ConfigView) (z b : List ℕ) (n rows : ℕ) → n * height_of c.system ≤ rows
    → rows * line_bytes c.system ≤ length z → stood t c (z ++ b) n ≡ stood t c z n
unfolding stood
stood-stays t c z b n rows le long = grind (arith, rows_at-more, joined-same)

-- it is the text written for a stream with this number of whole fields
pub text_before_tail-stood : (t : Kind) (c : ConfigView) (z : List ℕ) (n : ℕ) → fields_of c z ≡ n
    → text_before_tail t c z ≡ stood t c z n
unfolding text_before_tail stood
text_before_tail-stood t c z n e = ap (λ k. t.head c ++ join_by (entry_of t c z) t.joint (range_with_len 0 k)) e

-- where entries aren't joined, nothing stands before one
pub no_joint : (first : Bool) (entry : List ℕ) → (if first then [] else []) ++ entry ≡ entry
no_joint true entry = refl
no_joint false entry = refl

-- a record with nothing after its passes is one of version 2
pub plain_record : (n : ℕ) (readings : FieldReadings) → record_with n readings readings [] ≡ record_of n readings
unfolding record_with record_of
plain_record n readings =
    ap (λ l. codes "{\"seqNo\":" ++ (l ++ codes "}")) (append-nil (decimal n
    ++ lines_of (codes ",\"vbi\":{\"vbiData\":[") (λ line. decimal (value_of line.outcome)) (codes "]}") readings
    ++ lines_of (codes ",\"vbiCause\":[") (λ line. codes "\"" ++ cause_text_of line.outcome ++ codes "\"")
    (codes "]") readings
    ++ lines_of (codes ",\"vbiPass\":[") (λ line. decimal line.pass) (codes "]") readings))
