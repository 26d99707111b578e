-- Counting the fields of which a number is believed.
use Rattle.std.proofs.Common.{arith}
use Rattle.std.proofs.Common.{◌≡◌, ℕ, zero, suc, ◌+◌, List, refl, ap, sym, ◌∙◌, subst, add-one, inl, inr}
use Rattle.std.specs.Prelude.{Option, Some, None, ◌↔◌, is_some, true, false}
use Rattle.vbi_side.specs.Types.{System, Ntsc, Pal, Counted, Pictures, Times, Sightings, Pace}
use Rattle.vbi_side.specs.Beliefs.{Believed}
use Rattle.vbi_side.specs.PaceSearch.{IsCount, IsMore, IsFound}

-- one more
pub one_more : (pace : Pace) (fields : List Sightings) (i count : ℕ) (found : Option ℕ)
    → ((n : ℕ) → (found ≡ Some n) ↔ Believed pace fields i n) → is_some found ≡ true → IsCount pace fields i count
    → IsCount pace fields (i + 1) (count + 1)
one_more pace fields i count None tells some counted = absurd (let clash : false ≡ true → ⊥ = λ h. cc in clash some)
one_more pace fields i count (Some n) tells some counted =
    subst (λ k. IsCount pace fields k (count + 1)) (sym (add-one i))
    (inl (n, count, (tells n).0 refl, counted, add-one count))

-- no more
pub no_more : (pace : Pace) (fields : List Sightings) (i count : ℕ) (found : Option ℕ)
    → ((n : ℕ) → (found ≡ Some n) ↔ Believed pace fields i n) → is_some found ≡ false → IsCount pace fields i count
    → IsCount pace fields (i + 1) count
no_more pace fields i count found h1 h2 h3 = grind arith

-- ---- one count, and one pace

one_count : (pace : Pace) (fields : List Sightings) (n a b : ℕ) → IsCount pace fields n a
    → IsCount pace fields n b → a ≡ b
one_count pace fields zero a b one other = one ∙ sym other
one_count pace fields (suc n) a b (inl (m, fewer, believed, counted, is)) (inl (k, less, others, counts, are)) =
    is ∙ ap suc (one_count pace fields n fewer less counted counts) ∙ sym are
one_count pace fields (suc n) a b (inl (m, fewer, believed, counted, is)) (inr (none, counts)) =
    absurd (none m believed)
one_count pace fields (suc n) a b (inr (none, counted)) (inl (k, less, others, counts, are)) = absurd (none k others)
one_count pace fields (suc n) a b (inr (none, counted)) (inr (nones, counts)) =
    one_count pace fields n a b counted counts

one_more_believed : (fields : List Sightings) (one other : Pace) → IsMore fields one → IsMore fields other → one ≡ other
one_more_believed fields one other h1 h2 = grind (arith, one_count)

pub one_found : (system : System) (counted : Counted) (fields : List Sightings) (one other : Pace)
    → IsFound system counted fields one → IsFound system counted fields other → one ≡ other
one_found Ntsc Pictures fields one other is are = one_more_believed fields one other is are
one_found Ntsc Times fields one other is are = is ∙ sym are
one_found Pal counted fields one other is are = is ∙ sym are
