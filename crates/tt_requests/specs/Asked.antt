-- What a line asks, as far as it matters before it is carried out: whether it leaves the database as it is, whether it is to forget, and for whose repair it is.
use Rattle.std.specs.Prelude.{◌≡◌, ℕ, Bool, true, false, Option, None, Result, Ok, Err}
use Rattle.tt_grammar.specs.declared.fault.DocFault.{DocFault}
use Rattle.tt_requests.specs.declared.request.Command.{Command}
use Rattle.tt_requests.specs.declared.request.Command.TheVariants as commands
use Rattle.tt_requests.specs.declared.request.Request.{Request}
use Rattle.tt_requests.specs.declared.asked.ForgetRequest.{ForgetRequest}

-- whether a command leaves the database as it is
abbrev pub is_read_only : Command → Bool
is_read_only (commands.Write action stamp) = false
is_read_only (commands.Begin edits) = false
is_read_only (commands.Step most told) = false
is_read_only (commands.Finish told) = false
is_read_only (commands.Abort told) = false
is_read_only (commands.Forget time) = false
is_read_only command = true

-- whether what a line asks leaves the database as it is, as a fault does
abbrev pub asks_read_only : Result Request DocFault → Bool
asks_read_only (Ok request) = is_read_only request.command
asks_read_only (Err fault) = true

-- whether a command is to forget what lies before a time
abbrev pub is_forget : Command → Bool
is_forget (commands.Forget time) = true
is_forget command = false

-- whether what a line asks is to forget what lies before a time
abbrev pub asks_to_forget : Result Request DocFault → Bool
asks_to_forget (Ok request) = is_forget request.command
asks_to_forget (Err fault) = false

-- the worker for whose repair a command is, if it tells one
abbrev pub repair_worker_told : Command → Option ℕ
repair_worker_told (commands.Step most told) = told
repair_worker_told (commands.Finish told) = told
repair_worker_told (commands.Abort told) = told
repair_worker_told command = None

-- a line asks for this forgetting
abbrev pub IsForgetRequest : Result Request DocFault → ForgetRequest → Type 0
IsForgetRequest asked f = (worker : ℕ) × (asked ≡ Ok (record { worker = worker; expected = f.expected; command = commands.Forget f.time }))
