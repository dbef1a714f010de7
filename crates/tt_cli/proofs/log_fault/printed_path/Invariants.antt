-- the characters so far are printed
use Rattle.std.proofs.Common.{◌≡◌, string_bytes}
use Rattle.std.specs.List.{flat_map}
use Rattle.tt_cli.specs.Status.{printed_char}
use Rattle.tt_cli.proofs.log_fault.printed_path.Given as goal

abbrev pub invariant-loop-c : goal.invariant-loop-c
invariant-loop-c l = string_bytes l.text ≡ flat_map printed_char l.yielded
