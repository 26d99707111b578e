-- What reading a whole run needs.
use Rattle.vbi_line.proofs.Common.{arith, ◌≡◌, ℕ, ◌+◌, ◌-◌, ◌<◌, ◌≤◌, Bool, Some, None, sym, System, sizes_of, State}
use Rattle.vbi_line.proofs.Common.{length_of, grown, next_of, after_of, limit_of, IsFit, Decoder, state_of, DiesAfter}
use Rattle.std.proofs.Math.ListN.{replicate}
use Rattle.vbi_words.proofs.Sizes.{apart_of}
use Rattle.vbi_words.proofs.Machine.{next_fit}
use Rattle.vbi_words.proofs.Stays
use Rattle.vbi_line.proofs.Ending.{alive}

-- a run of v, after whose first level the decoder is `begun`
module _ (system : System) (state : State) (v : Bool) (begun : Decoder)
    (is : state_of begun ≡ next_of system state v) where
  pub free : (count : ℕ) → 0 < count → None ≡ limit_of system (state_of begun)
      → after_of system state (replicate count v) ≡ grown (count - 1) (state_of begun)
  free count some e = Stays.run_free (sizes_of system) state v (state_of begun) is (alive begun) count some (sym e)

  pub within : (count m : ℕ) → 0 < count → Some m ≡ limit_of system (state_of begun)
      → length_of (state_of begun) + (count - 1) ≤ m
      → after_of system state (replicate count v) ≡ grown (count - 1) (state_of begun)
  within count m some e l =
      Stays.run_within (sizes_of system) state v (state_of begun) is (alive begun) count m some (sym e) l

  pub fits : (m : ℕ) → IsFit system state → Some m ≡ limit_of system (state_of begun)
      → length_of (state_of begun) ≤ m
  fits m fit e = grind (arith, next_fit, apart_of)

  pub dies : (m : ℕ) → IsFit system state → Some m ≡ limit_of system (state_of begun)
      → DiesAfter system state v (1 + m - length_of (state_of begun))
  dies m fit e =
      Stays.run_dies (sizes_of system) state v (state_of begun) is (alive begun) m (sym e) (fits m fit e)
