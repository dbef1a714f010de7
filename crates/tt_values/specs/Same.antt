-- Whether values, rows, statements, actions and replies are the same.
use Rattle.std.specs.Prelude.{◌≡◌, ◌↔◌, Bool, true, false, ◌==◌, ◌&&◌, List, length}
use Rattle.std.specs.Bool.{beq}
use Rattle.std.specs.List.{list_all, zip}
use Rattle.std.specs.Ordering.{int_eq}
use Rattle.tt_values.specs.declared.row.Row.{Row}
use Rattle.tt_values.specs.declared.reply.Reply.{Reply}
use Rattle.tt_values.specs.declared.reply.Reply.TheVariants as replies
use Rattle.tt_values.specs.declared.comparison.Comparison.{Comparison}
use Rattle.tt_values.specs.declared.comparison.Comparison.TheVariants.{Is, IsNot, Below, AtMost, Above, AtLeast}
use Rattle.tt_values.specs.declared.statement.Change.{Change}
use Rattle.tt_values.specs.declared.statement.Change.TheVariants.{Set, Add}
use Rattle.tt_values.specs.declared.statement.Equal.{Equal}
use Rattle.tt_values.specs.declared.statement.Write.{Write}
use Rattle.tt_values.specs.declared.statement.Write.TheVariants.{Insert, Update, Delete}
use Rattle.tt_values.specs.declared.action.Action.{Action}
use Rattle.tt_values.specs.Value.{is_same}

-- whether two lists are as long as one another, and the same item by item
abbrev pub are_same_by : {A : Type 0} → (A → A → Bool) → List A → List A → Bool
are_same_by same xs ys = (length xs == length ys) && list_all (λ p. same p.0 p.1) (zip xs ys)

-- whether two rows have the same values
abbrev pub is_same_row : Row → Row → Bool
is_same_row r s = are_same_by is_same r.values s.values

-- whether two replies are the same
abbrev pub is_same_reply : Reply → Reply → Bool
is_same_reply replies.Inserted replies.Inserted = true
is_same_reply replies.Duplicate replies.Duplicate = true
is_same_reply (replies.Updated m) (replies.Updated n) = m == n
is_same_reply (replies.Deleted m) (replies.Deleted n) = m == n
is_same_reply (replies.Rows rs) (replies.Rows ss) = are_same_by is_same_row rs ss
is_same_reply a b = false

-- whether two comparisons are the same
abbrev pub is_same_comparison : Comparison → Comparison → Bool
is_same_comparison Is Is = true
is_same_comparison IsNot IsNot = true
is_same_comparison Below Below = true
is_same_comparison AtMost AtMost = true
is_same_comparison Above Above = true
is_same_comparison AtLeast AtLeast = true
is_same_comparison a b = false

-- whether two conditions compare the same column with the same value in the same way
abbrev pub is_same_equal : Equal → Equal → Bool
is_same_equal p q = (p.column == q.column) && is_same_comparison p.how q.how && is_same p.value q.value

-- whether two changes do the same to the same column
abbrev pub is_same_change : Change → Change → Bool
is_same_change (Set c v) (Set d w) = (c == d) && is_same v w
is_same_change (Add c m) (Add d n) = (c == d) && int_eq m n
is_same_change (Set c v) (Add d n) = false
is_same_change (Add c m) (Set d w) = false

-- whether two writes do the same to the same table
abbrev pub is_same_write : Write → Write → Bool
is_same_write (Insert t row) (Insert u other) = (t == u) && is_same_row row other
is_same_write (Update t cs ps) (Update u ds qs) = (t == u) && are_same_by is_same_change cs ds && are_same_by is_same_equal ps qs
is_same_write (Delete t ps) (Delete u qs) = (t == u) && are_same_by is_same_equal ps qs
is_same_write a b = false

-- whether two actions have the same writes, and both are whole or neither is
abbrev pub is_same_action : Action → Action → Bool
is_same_action a b = beq a.whole b.whole && are_same_by is_same_write a.writes b.writes

-- two lists of replies are the same exactly if they are equal
abbrev pub SameRepliesAreEqual : Type 0
SameRepliesAreEqual = (first second : List Reply) → (are_same_by is_same_reply first second ≡ true) ↔ (first ≡ second)

-- two lists of writes are the same exactly if they are equal
abbrev pub SameWritesAreEqual : Type 0
SameWritesAreEqual = (first second : List Write) → (are_same_by is_same_write first second ≡ true) ↔ (first ≡ second)

-- two actions are the same exactly if they are equal
abbrev pub SameActionsAreEqual : Type 0
SameActionsAreEqual = (first second : Action) → (is_same_action first second ≡ true) ↔ (first ≡ second)
