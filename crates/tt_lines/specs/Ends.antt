-- What a session on a reader and a writer has done when it ends.
use Rattle.std.specs.Prelude.{◌≡◌, ℕ, List, [], Option, IfSome}
use Rattle.std.specs.Io.KnownBytes.{Appends, Consumes, IsAtEnd, Keeps}
use Rattle.tt_streams.specs.Writing.{AppendsPrefix}
use Rattle.tt_requests.specs.Lines.{lines_of, whole_lines_of}
use Rattle.tt_lines.specs.declared.run.SessionFault.{SessionFault}
use Rattle.tt_lines.specs.declared.run.SessionFault.TheVariants as faults
use Rattle.tt_session.specs.declared.session.Session.{Session}
use Rattle.tt_lines.specs.declared.run.Run.{Run}
use Rattle.tt_session.specs.Run.{Losses, session_text}
use Rattle.tt_session.specs.Answering.{LineRead, lines_read}
use Rattle.tt_lines.specs.Running.{Handing, Rests}

-- what a session prints in answer to the lines of these bytes was written, and nothing else, where there was no memory for some of the lines
pub record AnswersLines (bytes : List ℕ) (old new : Option (List ℕ)) : Type 0 where
  pub losses : Losses
  pub written : Appends old new (session_text (lines_of bytes) losses)

-- a prefix of that was written, and nothing else
pub record AnswersPrefix (bytes : List ℕ) (old new : Option (List ℕ)) : Type 0 where
  pub losses : Losses
  pub written : AppendsPrefix old new (session_text (lines_of bytes) losses)

-- the lines were answered that end in a line feed
pub record AnswersWholeLines (bytes : List ℕ) (old new : Option (List ℕ)) : Type 0 where
  pub losses : Losses
  pub written : Appends old new (session_text (whole_lines_of bytes) losses)

-- all that the reader had was read, and its lines were answered
pub record AnswersAll (unread left old new : Option (List ℕ)) : Type 0 where
  pub bytes : List ℕ
  pub consumed : Consumes unread left bytes
  pub at_end : IsAtEnd left
  pub answers : AnswersLines bytes old new

-- the reader failed after these bytes, and the lines were answered that had been read up to their line feeds
pub record FailsToRead (unread left old new : Option (List ℕ)) : Type 0 where
  pub bytes : List ℕ
  pub consumed : Consumes unread left bytes
  pub answers : AnswersWholeLines bytes old new

-- the writer failed after a prefix of the answers to all that the reader had
pub record FailsToWrite (unread old new : Option (List ℕ)) : Type 0 where
  pub bytes : List ℕ
  pub input : IfSome unread (λ xs. bytes ≡ xs)
  pub answers : AnswersPrefix bytes old new

-- the session has ended in this fault
abbrev pub EndsEarly : SessionFault → Option (List ℕ) → Option (List ℕ) → Option (List ℕ) → Option (List ℕ) → Type 0
EndsEarly faults.Read unread left old new = FailsToRead unread left old new
EndsEarly faults.Write unread left old new = FailsToWrite unread old new
EndsEarly faults.Memory unread left old new = Keeps unread left × Keeps old new

-- all that the reader had was read, and the answers to its lines were handed over
pub record HandsOverAll (unread left : Option (List ℕ)) (handed : List LineRead → Type 0) : Type 0 where
  pub bytes : List ℕ
  pub consumed : Consumes unread left bytes
  pub at_end : IsAtEnd left
  pub reads : List LineRead
  pub lines_are : lines_read reads ≡ lines_of bytes
  pub is_handed : handed reads

-- the reader failed after these bytes, and the answers to the lines were handed over that had been read up to their line feeds
pub record FailsReading (unread left : Option (List ℕ)) (handed : List LineRead → Type 0) : Type 0 where
  pub bytes : List ℕ
  pub consumed : Consumes unread left bytes
  pub reads : List LineRead
  pub lines_are : lines_read reads ≡ whole_lines_of bytes
  pub is_handed : handed reads

-- the outlet failed before it had the answers to all that the reader had
pub record FailsHanding (unread : Option (List ℕ)) (stopped : List LineRead → Type 0) : Type 0 where
  pub bytes : List ℕ
  pub input : IfSome unread (λ xs. bytes ≡ xs)
  pub reads : List LineRead
  pub lines_are : lines_read reads ≡ lines_of bytes
  pub is_stopped : stopped reads

-- a run has ended in this fault
abbrev pub Fails : SessionFault → Option (List ℕ) → Option (List ℕ) → (List LineRead → Type 0) → (List LineRead → Type 0) → Type 0
Fails faults.Read unread left handed stopped = FailsReading unread left handed
Fails faults.Write unread left handed stopped = FailsHanding unread stopped
Fails faults.Memory unread left handed stopped = ⊥

-- the last line is answered, and all answers are handed over
abbrev pub Ends : {O : Type 0} → Handing O → Type 0 → O → O → Run → Type 0
Ends {O} handed has_log before after old = (first : O) (start : Session) (given : List ℕ) →
    Rests handed has_log first before start given old → (reads : List LineRead) × (lines_read reads ≡ lines_of given) × handed first after start reads

-- the outlet failed before it had all of them
abbrev pub StopsLast : {O : Type 0} → Handing O → Handing O → Type 0 → O → O → Run → Type 0
StopsLast {O} handed stopped has_log before after old = (first : O) (start : Session) (given : List ℕ) →
    Rests handed has_log first before start given old → (reads : List LineRead) × (lines_read reads ≡ lines_of given) × stopped first after start reads

-- a run has answered the lines of all that was read so far, and handed the answers over
pub record ServesSoFar {O : Type 0} (handed : Handing O) (has_log : Type 0) (unread left : Option (List ℕ)) (before after : O) (old new : Run) : Type 0 where
  pub bytes : List ℕ
  pub consumed : Consumes unread left bytes
  pub rests : (first : O) (start : Session) → Rests handed has_log first before start [] old → Rests handed has_log first after start bytes new
