-- The slots, times and generations that a request names: they are numbered as the session tells them.
use Rattle.std.specs.Prelude.{Result, Ok}
use Rattle.serde_json.specs.Data.{Data}
use Rattle.tt_requests.specs.declared.told.ToldGeneration.{ToldGeneration}
use Rattle.tt_requests.specs.declared.told.ToldTime.{ToldTime}
use Rattle.tt_grammar.specs.declared.fault.DocFault.{DocFault}
use Rattle.tt_grammar.specs.Fault.{◌>>=◌}
use Rattle.tt_grammar.specs.Decoder.{count}

-- a slot or a time, by any count
abbrev pub named_time : Data → Result ToldTime DocFault
named_time v = do
  number ← count v
  Ok (record { number = number })

-- a generation, by any count
abbrev pub named_generation : Data → Result ToldGeneration DocFault
named_generation v = do
  number ← count v
  Ok (record { number = number })
