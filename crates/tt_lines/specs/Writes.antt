-- What a session without a log has written.
use Rattle.std.specs.Prelude.{◌≡◌, ℕ, List, ◌++◌, Option}
use Rattle.std.specs.Io.KnownBytes.{Appends}
use Rattle.tt_streams.specs.Writing.{AppendsPrefix}
use Rattle.tt_session.specs.declared.session.Session.{Session}
use Rattle.tt_session.specs.Answering.{LineRead, turns_of, AllLogged}

-- the answers to lines were written, none of which was refused for want of a log
pub record Writes (before after : Option (List ℕ)) (start : Session) (reads : List LineRead) : Type 0 where
  pub all_logged : AllLogged reads
  pub written : Appends before after (turns_of start reads).text

-- a prefix of the answers to the first of some lines was written
pub record WritesPrefix (before after : Option (List ℕ)) (start : Session) (reads : List LineRead) : Type 0 where
  pub front : List LineRead
  pub others : List LineRead
  pub reads_are : reads ≡ front ++ others
  pub all_logged : AllLogged front
  pub written : AppendsPrefix before after (turns_of start front).text
