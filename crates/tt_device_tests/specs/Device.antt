-- Whether there is a new file, and what a crash leaves of it.
use Rattle.std.specs.Prelude.{◌≡◌, ℕ, List}
use Rattle.tt_device_tests.specs.declared.memory_device.NewState.{NewState}
use Rattle.tt_device_tests.specs.declared.memory_device.NewState.TheVariants.{None, Synced}

abbrev pub leaves_new : NewState → List ℕ → List ℕ → Type 0
leaves_new state bytes c = state ≡ Synced → c ≡ bytes

abbrev pub is_there : NewState → Type 0
is_there None = ⊥
is_there state = Unit {0}
