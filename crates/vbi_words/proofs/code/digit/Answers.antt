use Rattle.std.proofs.Common.{◌≡◌, ℕ, zero, suc, ◌*◌, ◌-◌, ◌^◌, ◌/◌, ◌%◌, ◌≤◌, ap, refl, arith}
use Rattle.vbi_words.proofs.code.digit.Goals as goal

-- a hexadecimal digit has four binary ones
fours : (place : ℕ) → place ≤ 6 → 2 ^ (24 - 4 * place) ≡ 16 ^ (6 - place)
fours zero few = refl
fours (suc zero) few = refl
fours (suc (suc zero)) few = refl
fours (suc (suc (suc zero))) few = refl
fours (suc (suc (suc (suc zero)))) few = refl
fours (suc (suc (suc (suc (suc zero))))) few = refl
fours (suc (suc (suc (suc (suc (suc zero)))))) few = refl
fours (suc (suc (suc (suc (suc (suc (suc more))))))) few = let no : ⊥ = omega arith in absurd no

pub returns-clause-digit : goal.returns-clause-digit
returns-clause-digit c = ap (λ (n : ℕ). c.args.word / n % 16) (fours c.args.place c.requires.high)
