-- Actions that are carried out wholly or not at all, as they are read and printed.
use Rattle.std.specs.Prelude.{◌≡◌, ℕ, Bool, true, false, List, [], ◌∷◌, Option, Some, None, option_map, Result, Ok, Err, codes, refl}
use Rattle.std.specs.Fmt.{digits}
use Rattle.serde_json.specs.Read.{read}
use Rattle.serde_json.proofs.OnLiterals.{serde_json_on_literals}
use Rattle.tt_values.specs.declared.action.Action.{Action}
use Rattle.tt_values.specs.declared.statement.Write.TheVariants as writes
use Rattle.tt_grammar.specs.declared.fault.DocFault.{DocFault}
use Rattle.tt_grammar.specs.declared.fault.DocFault.TheVariants.{At}
use Rattle.tt_grammar.specs.declared.statements.Context.{Context}
use Rattle.tt_grammar.specs.declared.statements.Context.TheVariants as contexts
use Rattle.tt_grammar.specs.declared.version.Version.{Version}
use Rattle.tt_grammar.specs.declared.version.Version.TheVariants.{One, Two, Three}
use Rattle.tt_grammar.specs.Conditions.{condition}
use Rattle.tt_grammar.specs.Statements.{insert, delete}
use Rattle.tt_grammar.specs.Actions.{write, item_of_action, action}
use Rattle.tt_grammar.specs.Edits.{replacement}
use Rattle.tt_grammar.specs.JsonText.{object_text, members_text}
use Rattle.tt_grammar.specs.WriteText.{named_action_members, action_members, action_members_or_null}
use Rattle.tt_grammar.proofs.worked_texts.Accounts.{accounts}

-- the action that an object is read as, if it is JSON
abbrev read_as : Version → Context → List ℕ → Option (Result Action DocFault)
read_as version context text = option_map (action version accounts context) (read text)

-- the action that an object is read as where another is replaced
abbrev read_by : Version → List ℕ → Option (Result Action DocFault)
read_by version text = option_map (replacement version accounts) (read text)

-- an action that deletes all rows
abbrev delete_all : Bool → Action
delete_all whole = record { writes = writes.Delete 0 [] ∷ []; whole = whole }

abbrev is_read : Bool → Option (Result Action DocFault)
is_read whole = Some (Ok (delete_all whole))

abbrev is_refused : List ℕ → List ℕ → Option (Result Action DocFault)
is_refused path cause = Some (Err (At path cause))

-- true, false, and missing
whole_or_not : (read_as Three contexts.Nested (codes "{\"do\":[{\"delete\":\"acct\",\"where\":[]}],\"whole\":true}") ≡ is_read true)
    × (read_as Three contexts.Nested (codes "{\"do\":[{\"delete\":\"acct\",\"where\":[]}],\"whole\":false}") ≡ is_read false)
    × (read_as Three contexts.Nested (codes "{\"do\":[{\"delete\":\"acct\",\"where\":[]}]}") ≡ is_read false)
unfolding serde_json_on_literals condition delete write item_of_action action
whole_or_not = (refl, refl, refl)

-- in a call, in a request, and where another action is replaced
in_each_context : (read_as Three contexts.Call (codes "{\"worker\":1,\"do\":[{\"delete\":\"acct\",\"where\":[]}],\"whole\":true}") ≡ is_read true)
    × (read_as Three contexts.Request (codes "{\"whole\":true,\"do\":[{\"delete\":\"acct\",\"where\":[]}],\"worker\":1}") ≡ is_read true)
    × (read_by Three (codes "{\"do\":[{\"delete\":\"acct\",\"where\":[]}],\"whole\":true}") ≡ is_read true)
unfolding digits serde_json_on_literals condition delete write item_of_action action replacement
in_each_context = (refl, refl, refl)

-- neither true nor false: told before an unknown member, and behind a fault of the writes
wrong_types : (read_as Three contexts.Nested (codes "{\"do\":[],\"whole\":1}") ≡ is_refused (codes ".whole") (codes "wrong type"))
    × (read_as Three contexts.Nested (codes "{\"do\":[],\"whole\":null}") ≡ is_refused (codes ".whole") (codes "wrong type"))
    × (read_as Three contexts.Nested (codes "{\"a\":1,\"do\":[],\"whole\":\"true\"}") ≡ is_refused (codes ".whole") (codes "wrong type"))
    × (read_as Three contexts.Nested (codes "{\"do\":1,\"whole\":1}") ≡ is_refused (codes ".do") (codes "wrong type"))
unfolding digits serde_json_on_literals action
wrong_types = (refl, refl, refl, refl)

-- an unknown member beside it, and the member without a `do`
other_faults : (read_as Three contexts.Nested (codes "{\"do\":[],\"whole\":true,\"worker\":1}") ≡ is_refused [] (codes "unknown member \"worker\""))
    × (read_by Three (codes "{\"whole\":true}") ≡ is_refused [] (codes "missing one of insert, update, delete, do"))
unfolding digits serde_json_on_literals write action replacement
other_faults = (refl, refl)

-- earlier versions don't know it
earlier_versions : (read_as One contexts.Nested (codes "{\"do\":[],\"whole\":true}") ≡ is_refused [] (codes "unknown member \"whole\""))
    × (read_as Two contexts.Nested (codes "{\"do\":[],\"whole\":true}") ≡ is_refused [] (codes "unknown member \"whole\""))
    × (read_as Two contexts.Nested (codes "{\"do\":[],\"whole\":1}") ≡ is_refused [] (codes "unknown member \"whole\""))
    × (read_as Two contexts.Nested (codes "{\"do\":[{\"delete\":\"acct\",\"where\":[]}]}") ≡ is_read false)
unfolding digits serde_json_on_literals condition delete write item_of_action action
earlier_versions = (refl, refl, refl, refl)

-- a write doesn't know it: where it stands alone, and among those of an action
beside_a_write : (read_by Three (codes "{\"insert\":\"acct\",\"row\":[1,\"a\",2],\"whole\":true}") ≡ is_refused [] (codes "unknown member \"whole\""))
    × (read_by Three (codes "{\"delete\":\"acct\",\"where\":[],\"whole\":true}") ≡ is_refused [] (codes "unknown member \"whole\""))
    × (read_by Three (codes "{\"do\":[{\"delete\":\"acct\",\"where\":[],\"whole\":true}]}") ≡ is_refused (codes ".do[0]") (codes "unknown member \"whole\""))
unfolding digits serde_json_on_literals condition insert delete write item_of_action action replacement
beside_a_write = (refl, refl, refl)

-- a whole action, and one that isn't
printed : (object_text (action_members accounts (delete_all true)) ≡ codes "{\"do\":[{\"delete\":\"acct\",\"where\":[]}],\"whole\":true}")
    × (object_text (action_members accounts (delete_all false)) ≡ codes "{\"do\":[{\"delete\":\"acct\",\"where\":[]}]}")
printed = (refl, refl)

-- by other names, and none
printed_as : (members_text (named_action_members (codes "asked") (codes "asked_whole") accounts (delete_all true)) ≡ codes "\"asked\":[{\"delete\":\"acct\",\"where\":[]}],\"asked_whole\":true")
    × (members_text (named_action_members (codes "asked") (codes "asked_whole") accounts (delete_all false)) ≡ codes "\"asked\":[{\"delete\":\"acct\",\"where\":[]}]")
    × (members_text (action_members_or_null accounts (Some (delete_all true))) ≡ codes "\"do\":[{\"delete\":\"acct\",\"where\":[]}],\"whole\":true")
    × (members_text (action_members_or_null accounts None) ≡ codes "\"do\":null")
printed_as = (refl, refl, refl, refl)
