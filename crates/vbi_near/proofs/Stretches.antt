-- Words drawn on cells of other lengths: their columns, and what they cost. At a hundred hundredths they are drawn as
-- any word is. The functions of stretched_cells stand on it, stretched_by_none and LeastAt.
use Rattle.std.proofs.Common.{◌≡◌, ℕ, suc, List, [], ◌∷◌, ◌++◌, Bool, refl, arith, ap, ◌∙◌, ◌≤◌, ◌<◌, ◌+◌, ◌-◌, ◌*◌}
use Rattle.std.proofs.Common.{false, length, take, get_or, set, get_or-set_other}
use Rattle.std.proofs.Math.{ListN.replicate, Nat.add-mul}
use Rattle.std.specs.Prelude.{Some}
use Rattle.std.proofs.lemmas.List.{length-replicate, length-take-le, take_all, take_more}
use Rattle.vbi_near.proofs.Common.{System, Ntsc, Pal, start_of, width_of, boundary, halves_of, half_length, word_length}
use Rattle.vbi_near.proofs.Common.{picture_of, stretched_half, stretched_length, stretched_picture, halves_with}
use Rattle.vbi_near.proofs.Common.{stretched_offset, halves_cost, stretched_cost, stretched_word_cost}
use Rattle.vbi_near.proofs.Common.{stretched_row_cost, Shades, span, total_in}
use Rattle.vbi_near.proofs.{Costs.drawn-with, Costs.many-halves, Costs.halves_cost-append, CellsAt.set-more}

-- ---- columns

-- one half cell more begins no earlier
pub offset-rises : (system : System) (rate j : ℕ)
    → stretched_offset system rate j ≤ stretched_offset system rate (suc j)
offset-rises Ntsc rate j = grind (arith, add-mul)
offset-rises Pal rate j = grind (arith, add-mul)

pub offset-first : (system : System) (rate : ℕ) → stretched_offset system rate 0 ≡ 0
offset-first system rate = grind arith

pub offset-next : (system : System) (rate j : ℕ)
    → stretched_offset system rate j + stretched_half system rate j ≡ stretched_offset system rate (suc j)
offset-next system rate j = omega (arith, offset-rises system rate j)

-- there are 302 starts at most
pub few-starts : (system : System) (rate : ℕ) → 98 ≤ rate → width_of system + 1 ≤ stretched_length system rate + 302
few-starts system rate le = grind arith

pub starts-long : (system : System) (rate width length_of : ℕ) → 98 ≤ rate → width ≡ width_of system
    → length_of ≡ stretched_length system rate
    → length {A = ℕ} (take (width - length_of + 1) (replicate 302 0)) ≡ width - length_of + 1
starts-long system rate width length_of le w l = grind (arith, length-take-le, replicate, few-starts, length-replicate)

-- at 100 hundredths they are those of a drawn word
pub offset-whole : (system : System) (j : ℕ) → start_of system + stretched_offset system 100 j ≡ boundary system j
offset-whole system j = grind arith

-- ---- what they cost

pub none-yet : (cost : ℕ → Bool → ℕ) (halves : List Bool) → halves_cost cost 0 (take 0 halves) ≡ 0
unfolding halves_cost
none-yet cost halves = refl

-- one half cell more
pub cost-more : (cost : ℕ → Bool → ℕ) (halves : List Bool) (n : ℕ) → n < length halves
    → halves_cost cost 0 (take (n + 1) halves) ≡ halves_cost cost 0 (take n halves) + cost n (get_or halves n false)
unfolding halves_cost
cost-more cost halves n l =
    let long : 0 + length (take n halves) ≡ n = omega (arith, length-take-le n halves (omega arith)) in
    let last : List Bool = get_or halves n false ∷ [] in
    let moved : halves_cost cost (0 + length (take n halves)) last ≡ halves_cost cost n last
    = ap (λ (k : ℕ). halves_cost cost k last) long in
    let one : halves_cost cost n last ≡ cost n (get_or halves n false) + 0 = refl in
    omega (
      arith,
      ap (halves_cost cost 0) (take_more halves n false l),
      halves_cost-append cost 0 (take n halves) last,
      moved,
      one,
    )

pub half-read : (sums : Shades) (system : System) (rate start j : ℕ) (level : Bool) (begin end : ℕ)
    → begin ≡ stretched_offset system rate j → end ≡ stretched_offset system rate (j + 1)
    → span sums level (start + begin) (end - begin) ≡ stretched_cost sums system rate start j level
half-read sums system rate start j level begin end b e = grind (arith, offset-rises)

-- costs to which so much was added below i
pub record IsPaid (sums : List ℕ) (begin end : ℕ) (old new : List ℕ) (i : ℕ) : Type 0 where
  pub below : (k : ℕ) → k < i → get_or new k 0 ≡ get_or old k 0 + total_in sums (k + begin) (end - begin)
  pub few : (k : ℕ) → k < i → get_or new k 0 ≤ 1834980 * (k + end)
  pub after : (k : ℕ) → i ≤ k → get_or new k 0 ≡ get_or old k 0

pub paid-more : (sums : List ℕ) (begin end : ℕ) (old new : List ℕ) (i more : ℕ) → i < length new → begin ≤ end
    → get_or old i 0 ≤ 1834980 * (i + begin) → more ≡ total_in sums (i + begin) (end - begin)
    → more ≤ 1834980 * (end - begin) → IsPaid sums begin end old new i
    → IsPaid sums begin end old (set new i (get_or new i 0 + more)) (i + 1)
paid-more sums begin end old new i more inside order low exact few is =
    let here : get_or new i 0 ≡ get_or old i 0 = is.after i (omega arith) in record {
      below = set-more (λ (j x : ℕ). x ≡ get_or old j 0 + total_in sums (j + begin) (end - begin)) new i
          (get_or new i 0 + more) inside is.below (omega (arith, here, exact));
      few = set-more (λ (j x : ℕ). x ≤ 1834980 * (j + end)) new i (get_or new i 0 + more) inside is.few
          (omega (arith, here, few, low));
      after = λ k le. get_or-set_other new i k (get_or new i 0 + more) 0 (λ e. omega arith)
          ∙ is.after k (omega arith);
    }

-- all of a word's
pub all-halves : (cost : ℕ → Bool → ℕ) (w n : ℕ) → n ≡ 48
    → halves_cost cost 0 (take n (halves_of w)) ≡ halves_cost cost 0 (halves_of w)
all-halves cost w n e = ap (halves_cost cost 0) (take_all n (halves_of w) (omega (arith, many-halves w, e)))

-- what a word costs, and what is low after it
pub row-read : (sums : Shades) (system : System) (w rate start cost begin width tail : ℕ)
    → cost ≡ stretched_word_cost sums system w rate start → begin ≡ start + stretched_length system rate
    → width ≡ width_of system → tail ≡ span sums false begin (width - begin)
    → cost + tail ≡ stretched_row_cost sums system w rate start
row-read sums system w rate start cost begin width tail c b wide t = grind arith

-- ---- cells of a hundred hundredths

-- half cells of the same lengths
halves-same : (a b : ℕ → ℕ) → ((j : ℕ) → a j ≡ b j) → (j : ℕ) (halves : List Bool)
    → halves_with a j halves ≡ halves_with b j halves
unfolding halves_with
halves-same a b same j [] = refl
halves-same a b same j (half ∷ halves) =
    ap (λ (n : ℕ). replicate n half ++ halves_with a (suc j) halves) (same j)
    ∙ ap (λ (rest : List Bool). replicate (b j) half ++ rest) (halves-same a b same (suc j) halves)

half-whole : (system : System) (j : ℕ) → stretched_half system 100 j ≡ half_length system j
half-whole system j = omega (arith, offset-whole system j, offset-whole system (suc j))

length-whole : (system : System) → stretched_length system 100 ≡ word_length system
length-whole system = omega (arith, offset-whole system 48)

pub picture-whole : (system : System) (word start : ℕ)
    → stretched_picture system 100 word start ≡ picture_of system (Some word) start
unfolding stretched_picture picture_of
picture-whole system word start = grind (arith, halves-same, half-whole, drawn-with, replicate, length-whole)
