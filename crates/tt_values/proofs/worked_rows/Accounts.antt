-- A catalog with one table, `acct`, and statements on it: the fixture of the worked rows of every
-- crate. Ids and amounts are natural numbers, except in `account_of`.
use Rattle.std.proofs.Common.{Option, ℕ, pred, ℤ, pos, negsuc, true, false, List, [], ◌∷◌, codes, map, Some}
use Rattle.tt_values.specs.declared.value.Kind.TheVariants as kinds
use Rattle.tt_values.specs.declared.value.Value.TheVariants as values
use Rattle.tt_values.specs.declared.table.Column.{Column}
use Rattle.tt_values.specs.declared.row.Row.{Row}
use Rattle.tt_values.specs.declared.comparison.Comparison.{Comparison}
use Rattle.tt_values.specs.declared.comparison.Comparison.TheVariants.{Is}
use Rattle.tt_values.specs.declared.statement.Equal.{Equal}
use Rattle.tt_values.specs.declared.statement.Change.{Change}
use Rattle.tt_values.specs.declared.statement.Change.TheVariants.{Set, Add}
use Rattle.tt_values.specs.declared.statement.Select.{Select}
use Rattle.tt_values.specs.declared.statement.Write.{Write}
use Rattle.tt_values.specs.declared.statement.Write.TheVariants.{Insert, Update, Delete}
use Rattle.tt_values.specs.declared.action.Action.{Action}
use Rattle.tt_values.specs.Tables.{Tables}
use Rattle.tt_values.specs.Action.{action_of, whole_of}
use Rattle.tt_values.specs.RowWrites.{Slots}

-- the columns: id, owner (a partition column) and balance
abbrev pub columns : List Column
columns =
    record { name = codes "id"; kind = kinds.Int; partition = false }
    ∷ record { name = codes "owner"; kind = kinds.Text; partition = true }
    ∷ record { name = codes "bal"; kind = kinds.Int; partition = false }
    ∷ []

abbrev pub tables : Tables
tables = (codes "acct", record { columns = columns }) ∷ []

-- owners. Zed has no account
abbrev pub ann : List ℕ
ann = codes "ann"

abbrev pub bob : List ℕ
bob = codes "bob"

abbrev pub eve : List ℕ
eve = codes "eve"

abbrev pub zed : List ℕ
zed = codes "zed"

-- the owner of what is sold
abbrev pub sold : List ℕ
sold = codes "sold"

-- the bounds of an `i64`
abbrev pub max_int : ℤ
max_int = pos 9223372036854775807

abbrev pub min_int : ℤ
min_int = negsuc 9223372036854775807

-- rows
abbrev pub account_of : ℤ → List ℕ → ℤ → Row
account_of id owner balance = record { values = values.Int id ∷ values.Text owner ∷ values.Int balance ∷ [] }

abbrev pub account : ℕ → List ℕ → ℕ → Row
account id owner balance = account_of (pos id) owner (pos balance)

-- an account without its balance
abbrev pub narrow_account : ℕ → List ℕ → Row
narrow_account id owner = record { values = values.Int (pos id) ∷ values.Text owner ∷ [] }

-- equalities
abbrev pub id_is : ℕ → Equal
id_is id = record { column = 0; how = Is; value = values.Int (pos id) }

abbrev pub owner_is : List ℕ → Equal
owner_is owner = record { column = 1; how = Is; value = values.Text owner }

abbrev pub balance_is : ℕ → Equal
balance_is balance = record { column = 2; how = Is; value = values.Int (pos balance) }

-- conditions that compare otherwise
abbrev pub id_compares : Comparison → ℕ → Equal
id_compares how id = record { column = 0; how = how; value = values.Int (pos id) }

abbrev pub owner_compares : Comparison → List ℕ → Equal
owner_compares how owner = record { column = 1; how = how; value = values.Text owner }

abbrev pub balance_compares : Comparison → ℕ → Equal
balance_compares how balance = record { column = 2; how = how; value = values.Int (pos balance) }

-- lists of one equality
abbrev pub of_id : ℕ → List Equal
of_id id = id_is id ∷ []

abbrev pub of_owner : List ℕ → List Equal
of_owner owner = owner_is owner ∷ []

abbrev pub of_balance : ℕ → List Equal
of_balance balance = balance_is balance ∷ []

-- changes
abbrev pub owner_to : List ℕ → Change
owner_to owner = Set 1 (values.Text owner)

abbrev pub balance_to : ℕ → Change
balance_to balance = Set 2 (values.Int (pos balance))

abbrev pub balance_by : ℕ → Change
balance_by amount = Add 2 (pos amount)

-- the change that takes an amount above 0
abbrev pub balance_less : ℕ → Change
balance_less amount = Add 2 (negsuc (pred amount))

-- writes: of one row, with one change, and of the accounts with these equalities
abbrev pub insert : ℕ → List ℕ → ℕ → Write
insert id owner balance = Insert 0 (account id owner balance)

abbrev pub update : Change → List Equal → Write
update change equals = Update 0 (change ∷ []) equals

abbrev pub delete : List Equal → Write
delete equals = Delete 0 equals

abbrev pub select : List Equal → Select
select equals = record { table = 0; equals = equals }

-- actions of these writes, as slots: one of which each write is carried out, and a whole one
abbrev pub slot_of_writes : List Write → Option Action
slot_of_writes ws = Some (action_of ws)

abbrev pub whole_slot_of : List Write → Option Action
whole_slot_of ws = Some (whole_of ws)

-- an action of one write, as a slot
abbrev pub slot_of : Write → Option Action
slot_of w = slot_of_writes (w ∷ [])

-- slots of one write each, of which none is cancelled
abbrev pub slots_of : List Write → Slots
slots_of writes = map slot_of writes

-- an insert, and one of the same key
abbrev pub two_inserts_of_a_key : List Write
two_inserts_of_a_key = insert 1 ann 10 ∷ insert 1 bob 20 ∷ []

-- an insert, and an update of its balance
abbrev pub insert_and_update : List Write
insert_and_update = insert 1 ann 10 ∷ update (balance_to 0) (of_id 1) ∷ []

-- an account gets another owner, then the accounts of both owners are updated
abbrev pub change_of_owner : List Write
change_of_owner =
    insert 1 ann 10
    ∷ update (owner_to eve) (of_id 1)
    ∷ update (balance_to 0) (of_owner eve)
    ∷ update (balance_by 7) (of_owner ann)
    ∷ []

-- a row is deleted, and another inserted under its key
abbrev pub insert_after_delete : List Write
insert_after_delete = insert 1 ann 10 ∷ delete (of_id 1) ∷ insert 1 bob 5 ∷ []

-- three accounts of two owners
abbrev pub three_accounts : List Write
three_accounts = insert 1 ann 5 ∷ insert 2 ann 6 ∷ insert 3 bob 7 ∷ []
