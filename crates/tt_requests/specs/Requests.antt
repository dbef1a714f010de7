-- The meaning of a request, as of a version of the grammar: its worker, the current time for which it is meant, and its command;
-- or its first fault. The members are judged in the order in which they are named here, each one wholly before the next; then an
-- unknown member, the least by its bytes; then the statement as a whole.
use Rattle.std.specs.Prelude.{ℕ, List, [], ◌∷◌, Option, unwrap_or, if◌then◌else◌, Result, Ok, codes, ⊤}
use Rattle.serde_json.specs.Data.{Data}
use Rattle.tt_values.specs.declared.statement.Write.{Write}
use Rattle.tt_values.specs.Tables.{Tables}
use Rattle.tt_grammar.specs.declared.fault.DocFault.{DocFault}
use Rattle.tt_grammar.specs.declared.statements.Context.TheVariants as contexts
use Rattle.tt_grammar.specs.declared.version.Version.{Version}
use Rattle.tt_grammar.specs.Fault.{◌>>=◌, refuse, with_path, document_path}
use Rattle.tt_grammar.specs.Decoder.{object, flag, count_within, member, optional}
use Rattle.tt_grammar.specs.Statements.{stamp, no_members_at, insert, update, delete}
use Rattle.tt_grammar.specs.Actions.{action_of_one, action}
use Rattle.tt_requests.specs.declared.kinds.RequestKind.{RequestKind}
use Rattle.tt_requests.specs.declared.kinds.RequestKind.TheVariants as kinds
use Rattle.tt_requests.specs.declared.request.Command.{Command}
use Rattle.tt_requests.specs.declared.request.Command.TheVariants as commands
use Rattle.tt_requests.specs.declared.request.Request.{Request}
use Rattle.tt_requests.specs.Kinds.{kind_of}
use Rattle.tt_requests.specs.Told.{named_time, named_generation}
use Rattle.tt_requests.specs.Edits.{edits}
use Rattle.tt_requests.specs.Reads.{slot_page, diff_page, read, preview}
use Rattle.tt_requests.specs.Questions.{worker_number, slots, changes}

-- a write of its own, as an action of one, which isn't whole, and its stamp
unfoldable pub one_write : Result Write DocFault → Data → Result Command DocFault
one_write reading v = do
  write ← reading
  stamp ← stamp v
  Ok (commands.Write (action_of_one write) stamp)

-- an action of several writes, which may be whole, and its stamp
unfoldable pub several_writes : Version → Tables → Data → Result Command DocFault
several_writes version tables v = do
  action ← action version tables contexts.WriteRequest v
  stamp ← stamp v
  Ok (commands.Write action stamp)

-- the beginning of a repair: its edits
unfoldable pub begin : Version → Tables → Data → Result Command DocFault
begin version tables v = do
  edits ← member (codes "begin") (edits version tables) v
  _ ← no_members_at contexts.Request (codes "begin" ∷ []) v
  Ok (commands.Begin (record { edits = edits }))

-- the largest number of steps that are asked for at once
abbrev pub max_steps : ℕ
max_steps = 10000

-- steps of the repair: how many at most, and the worker that has to have begun it, which may be left out
unfoldable pub step : Data → Result Command DocFault
step v = do
  most ← member (codes "step") (count_within 1 max_steps) v
  worker ← optional (codes "of") worker_number v
  _ ← no_members_at contexts.Request (codes "of" ∷ codes "step" ∷ []) v
  Ok (commands.Step most worker)

-- what lies before a time is forgotten: the time
unfoldable pub forget : Data → Result Command DocFault
forget v = do
  time ← member (codes "forget") named_time v
  _ ← no_members_at contexts.Request (codes "forget" ∷ []) v
  Ok (commands.Forget time)

-- the value true; false is out of range
unfoldable pub only_true : Data → Result ⊤ DocFault
only_true v = do
  b ← flag v
  if b then Ok tt else refuse (codes "out of range")

-- an end of the repair, by its name: the worker that has to have begun the repair, which may be left out
unfoldable pub end_of_repair : List ℕ → Data → Result (Option ℕ) DocFault
end_of_repair name v = do
  _ ← member name only_true v
  worker ← optional (codes "of") worker_number v
  _ ← no_members_at contexts.Request (codes "of" ∷ name ∷ []) v
  Ok worker

-- the repair is finished
unfoldable pub finish : Data → Result Command DocFault
finish v = do
  worker ← end_of_repair (codes "finish") v
  Ok (commands.Finish worker)

-- the repair is given up
unfoldable pub abort : Data → Result Command DocFault
abort v = do
  worker ← end_of_repair (codes "abort") v
  Ok (commands.Abort worker)

-- a command with nothing but its name
unfoldable pub bare : List ℕ → Command → Data → Result Command DocFault
bare name command v = do
  _ ← member name only_true v
  _ ← no_members_at contexts.Request (name ∷ []) v
  Ok command

-- why slots were re-executed: the generation that the repair closed, and the page. All but the name may be left out
unfoldable pub why : Data → Result Command DocFault
why v = do
  _ ← member (codes "why") only_true v
  generation ← optional (codes "in") named_generation v
  page ← slot_page v
  _ ← no_members_at contexts.Request (codes "after" ∷ codes "in" ∷ codes "most" ∷ codes "why" ∷ []) v
  Ok (commands.Why generation page)

-- which rows differ between the generations: the generation that a repair closed, and the page. All but the name may be left out
unfoldable pub diff : Tables → Data → Result Command DocFault
diff tables v = do
  _ ← member (codes "diff") only_true v
  generation ← optional (codes "in") named_generation v
  page ← diff_page tables v
  _ ← no_members_at contexts.Request (codes "after" ∷ codes "diff" ∷ codes "in" ∷ codes "most" ∷ []) v
  Ok (commands.Diff generation page)

-- what a repair would come to: its edits
unfoldable pub would : Version → Tables → Data → Result Command DocFault
would version tables v = do
  edits ← member (codes "would") (edits version tables) v
  _ ← no_members_at contexts.Request (codes "would" ∷ []) v
  Ok (commands.Would (record { edits = edits }))

-- the command of an object of this kind
abbrev pub command_of : Version → Tables → RequestKind → Data → Result Command DocFault
command_of version tables kinds.Insert v = one_write (insert tables contexts.WriteRequest v) v
command_of version tables kinds.Update v = one_write (update version tables contexts.WriteRequest v) v
command_of version tables kinds.Delete v = one_write (delete version tables contexts.WriteRequest v) v
command_of version tables kinds.Select v = read version tables v
command_of version tables kinds.Preview v = preview version tables v
command_of version tables kinds.Do v = several_writes version tables v
command_of version tables kinds.Begin v = begin version tables v
command_of version tables kinds.Step v = step v
command_of version tables kinds.Finish v = finish v
command_of version tables kinds.Abort v = abort v
command_of version tables kinds.Status v = bare (codes "status") commands.Status v
command_of version tables kinds.Slots v = slots tables v
command_of version tables kinds.Changes v = changes v
command_of version tables kinds.Tables v = bare (codes "tables") commands.Tables v
command_of version tables kinds.Why v = why v
command_of version tables kinds.Diff v = diff tables v
command_of version tables kinds.Would v = would version tables v
command_of version tables kinds.Forget v = forget v

-- the command of an object, by the first of its kinds
abbrev pub command : Version → Tables → Data → Result Command DocFault
command version tables v = do
  kind ← kind_of v
  command_of version tables kind v

-- the worker whose number is left out
abbrev pub usual_worker : ℕ
usual_worker = 1

-- a request: its worker, the time that it expects, and its command. The first two may be left out
unfoldable pub members_of_request : Version → Tables → Data → Result Request DocFault
members_of_request version tables v = do
  _ ← object v
  worker ← optional (codes "worker") worker_number v
  expected ← optional (codes "if") named_time v
  command ← command version tables v
  Ok (record { worker = unwrap_or worker usual_worker; expected = expected; command = command })

-- the meaning of a JSON value, or of none: a request, or its first fault with the path from the root
abbrev pub request_of : Version → Tables → Result Data DocFault → Result Request DocFault
request_of version tables value = with_path document_path (value >>= members_of_request version tables)
