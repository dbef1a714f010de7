-- The name of a store, which the call that opens it is given.
use Rattle.std.specs.Prelude.{◌≡◌, ℕ, List}
use Rattle.logbook.specs.Pages.{Book}
use Rattle.tt_values.specs.Tables.{Tables}
use Rattle.tt_db.specs.declared.limits.Limits.{Limits}
use Rattle.tt_store.specs.declared.opening.Opened.{Opened}
use Rattle.tt_store.specs.Published.{Published, RuleIsMembership}

-- what the call that opens a store requires of the store's name, in one word for those who pass it on: the name has the book of the
-- history that the store is opened from, its tables and limits, a rule that ties readers to these, and the ledger with its parts
pub record IsNameOf {K : Type 0} (opened : Opened) (tables : Tables) (limits : Limits) (rule : Published → List K → Type 0) (book : Book) (named_tables : Tables) (named_limits : Limits) (ledger parts : ℕ) : Type 0 where
  pub book_is : opened.front.book ≡ book
  pub tables_are : tables ≡ named_tables
  pub limits_are : limits ≡ named_limits
  pub tied : RuleIsMembership rule book named_tables named_limits
  pub ledger_is : opened.blank.name ≡ ledger
  pub parts_are : opened.blank.parts ≡ parts
