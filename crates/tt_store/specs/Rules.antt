-- The rule of the book that keeps the history, and what its steps tell. The book's log is of batches of entries.
use Rattle.std.specs.Prelude.{ℕ, ◌≡◌, ◌==◌, true, List, [], ◌∷◌, length, MatchBool}
use Rattle.logbook.specs.Pages.{Cell, Step, View, Book, Named}
use Rattle.tt_db.specs.declared.event.Entry.{Entry}
use Rattle.tt_store.specs.History.{joined}

-- the first word is the number of entries. A book has two words, of which this one leaves the second at 0
abbrev pub IsKept : List Cell → List (List Entry) → Type 0
IsKept cells log = cells ≡ (length (joined log), true) ∷ (0, true) ∷ []

-- the word of a book that has the number of entries
abbrev pub head_of : Book → Named
head_of b = record { tracked = true; key = 0; book = b }

-- the history that was all seen has become the one that was asked for; or it was longer, and was seen
abbrev pub Becomes : Step (List Entry) → View (List Entry) ℕ → ℕ → View (List Entry) ℕ → Type 0
Becomes s v found w = MatchBool (found == s.old) (joined w.0 ≡ s.ask) (length (joined w.0) ≡ found)
