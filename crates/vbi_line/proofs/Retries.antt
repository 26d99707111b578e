-- What holds while a device is asked again since it was interrupted.
use Rattle.vbi_line.proofs.Common.{◌≡◌, ℕ, ◌+◌, device_of, failures_of, IsSameDevice, Counted, List, Option}
use Rattle.std.specs.Io.KnownBytes.{Keeps}

-- all calls so far were interrupted, and moved no byte; `known` are the device's bytes, where it tells them
pub record Interrupted {D : Type 0} (known : D → Option (List ℕ)) (old now : Counted D) (calls : ℕ) : Type 0 where
  pub all : (failures_of now).all ≡ (failures_of old).all + calls
  pub errors : (failures_of now).errors ≡ (failures_of old).errors
  pub streak : (failures_of now).streak ≡ (failures_of old).streak + calls
  pub same_device : IsSameDevice old now
  pub kept : Keeps (known (device_of old)) (known (device_of now))
