-- What an error says of an event.
use Rattle.std.specs.Prelude.{Option, None, Some}
use Rattle.tt_db.specs.declared.errors.DbError.{DbError}
use Rattle.tt_db.specs.declared.errors.DbError.TheVariants as errors

-- the refusal that an error stands for. Out of memory is none
abbrev pub refusal_of_error : DbError → Option DbError
refusal_of_error errors.Memory = None
refusal_of_error e = Some e
