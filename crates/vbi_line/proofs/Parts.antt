-- A part of a list, and a list with a part written over.
use Rattle.std.proofs.Common.{◌≡◌, ℕ, ◌+◌, ◌-◌, ◌≤◌, List, ◌++◌, length, take, drop, sym, ap, ◌∙◌, arith}
use Rattle.std.proofs.lemmas.List.{length-take-le, take_at, drop-take, drop-drop}
use Rattle.std.proofs.Math.Seq.{drop_at}
use Rattle.std.specs.List.{refill, length_refill}
use Rattle.vbi_line.specs.StoreLends.{with_part}
use Rattle.vbi_line.proofs.StoreMemory.{length-part}

-- a part without its first n
pub drop-part : (xs : List ℕ) (h e n : ℕ) → h + n ≤ e
    → take (e - (h + n)) (drop (h + n) xs) ≡ drop n (take (e - h) (drop h xs))
drop-part xs h e n le =
    let same : n + (e - (h + n)) ≡ e - h = omega arith in
    ap (take (e - (h + n))) (sym (drop-drop n h xs))
    ∙ sym (drop-take n (e - (h + n)) (drop h xs))
    ∙ ap (λ k. drop n (take k (drop h xs))) same

-- the elements before a part stay as they are where the part is written over
pub take-with_part : (xs : List ℕ) (from to : ℕ) (w : List ℕ) → from ≤ to → to ≤ length xs
    → take from (with_part xs from to w) ≡ take from xs
take-with_part xs from to w le inside = take_at (take from xs) _ from (length-take-le from xs (omega arith))

-- the part is then what was written
pub part-with_part : (xs : List ℕ) (from to : ℕ) (w : List ℕ) → from ≤ to → to ≤ length xs
    → take (to - from) (drop from (with_part xs from to w))
    ≡ refill (length (take (to - from) (drop from xs))) (take (to - from) (drop from xs)) w
part-with_part xs from to w le inside =
    let part = take (to - from) (drop from xs) in
    let counted : length part ≡ to - from = length-part xs from to le inside in
    let written = refill (to - from) part w in
    let long : length written ≡ to - from = sym (length_refill (to - from) part w (sym counted)) in
    ap (take (to - from)) (drop_at (take from xs) (written ++ drop to xs) from (length-take-le from xs (omega arith)))
    ∙ take_at written (drop to xs) (to - from) long
    ∙ ap (λ k. refill k part w) (sym counted)
