-- What a store publishes, and what ties it to the store.
use Rattle.std.specs.Prelude.{◌≡◌, List}
use Rattle.logbook.specs.Pages.{Book}
use Rattle.tt_values.specs.Tables.{Tables}
use Rattle.tt_db.specs.declared.limits.Limits.{Limits}
use Rattle.tt_db.specs.Database.{Database}

-- a database, and the book that keeps its history
pub record Published : Type 0 where
  pub book : Book
  pub db : Database

-- what is published is of this book, on these tables and within these limits
pub record IsOf (book : Book) (tables : Tables) (limits : Limits) (published : Published) : Type 0 where
  pub same_book : published.book ≡ book
  pub same_tables : published.db.catalog ≡ tables
  pub same_limits : published.db.limits ≡ limits

-- a rule on what is published, whatever readers know, holds exactly of what belongs to the store of this book, on these tables and
-- within these limits
pub record RuleIsMembership {K : Type 0} (rule : Published → List K → Type 0) (book : Book) (tables : Tables) (limits : Limits) : Type 0 where
  pub is_of : (published : Published) (known : List K) → rule published known → IsOf book tables limits published
  pub holds : (published : Published) (known : List K) → IsOf book tables limits published → rule published known
