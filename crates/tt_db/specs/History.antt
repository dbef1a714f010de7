-- A history as a list of entries: where its writes stand, and who began its last repair.
use Rattle.std.specs.Prelude.{ℕ, suc, ◌<◌, ◌≤◌, Bool, true, false, List, [], ◌∷◌, length, take, drop, fold, if◌then◌else◌}
use Rattle.tt_db.specs.declared.event.Event.{Event}
use Rattle.tt_db.specs.declared.event.Event.TheVariants as events
use Rattle.tt_db.specs.declared.event.Entry.{Entry}

-- whether an event is a write
abbrev pub is_write : Event → Bool
is_write (events.Write action) = true
is_write (events.Begin edits) = false
is_write events.Step = false
is_write events.Switch = false
is_write events.Abort = false

-- the places of the writes among entries, of which the first is at this place
abbrev pub write_places : ℕ → List Entry → List ℕ
write_places place [] = []
write_places place (e ∷ entries) = if is_write e.event then place ∷ write_places (suc place) entries else write_places (suc place) entries

-- for each entry that isn't a write, how many writes are before it, where n are before the first entry
abbrev pub writes_before_others : ℕ → List Entry → List ℕ
writes_before_others n [] = []
writes_before_others n (e ∷ entries) = if is_write e.event then writes_before_others (suc n) entries else n ∷ writes_before_others n entries

-- each is below a number
abbrev pub AllBelow : ℕ → List ℕ → Type 0
AllBelow n [] = Unit {0}
AllBelow n (x ∷ xs) = (x < n) × AllBelow n xs

-- none is below a number
abbrev pub NoneBelow : ℕ → List ℕ → Type 0
NoneBelow n [] = Unit {0}
NoneBelow n (x ∷ xs) = (n ≤ x) × NoneBelow n xs

-- the first of them, this many, are below a number, and no others
pub record IsCut (xs : List ℕ) (n low : ℕ) : Type 0 where
  pub within : low ≤ length xs
  pub front : AllBelow n (take low xs)
  pub rest : NoneBelow n (drop low xs)

-- the worker that began the last repair, where this one had begun the last before an event that a worker asked for
abbrev pub beginner_by : ℕ → ℕ → Event → ℕ
beginner_by before worker (events.Begin edits) = worker
beginner_by before worker event = before

-- the worker that began the last repair, where this one had begun the last before an entry
abbrev pub beginner_after : ℕ → Entry → ℕ
beginner_after before e = beginner_by before e.worker e.event

-- the worker that began the last repair of a history: that of its last Begin; 0 where it has none
abbrev pub last_beginner : List Entry → ℕ
last_beginner history = fold beginner_after 0 history
