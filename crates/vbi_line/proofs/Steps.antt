-- What a decoder's steps need of the bits of a number.
use Rattle.std.proofs.Common.{◌≡◌, ℕ, ◌+◌, ◌*◌, ◌^◌, ◌≤◌, true, false, [], ◌∷◌, ◌++◌, refl, sym, ap, ◌∙◌, add-zero}
use Rattle.std.proofs.lemmas.Bool.Decides.{nat_tests}
use Rattle.vbi_words.specs.Words.{lowest_bits}
use Rattle.vbi_words.proofs.Bits.{length-lowest_bits, lowest-push, top_bit_then}
use Rattle.vbi_words.proofs.Machine.{Begun}

pub lowest-none : (w : ℕ) → lowest_bits 0 w ≡ []
unfolding lowest_bits
lowest-none w = refl

pub push_one : (cells bits : ℕ) → lowest_bits (cells + 1) (2 * bits + 1) ≡ lowest_bits cells bits ++ true ∷ []
push_one cells bits = lowest-push cells bits true

pub push_zero : (cells bits : ℕ) → lowest_bits (cells + 1) (2 * bits) ≡ lowest_bits cells bits ++ false ∷ []
push_zero cells bits = ap (lowest_bits (cells + 1)) (sym (add-zero (2 * bits))) ∙ lowest-push cells bits false

-- what the steps of a decoder cite
pub ruleset steps = (length-lowest_bits, nat_tests, lowest-none, push_one, push_zero)

-- a word whose bits begin with a one
pub begun_top : (bits : ℕ) → Begun (lowest_bits 24 bits) → 2 ^ 23 ≤ bits
begun_top bits (rest, e) = top_bit_then 23 bits rest e
