-- Two sets of keys read as one: of the rows that have a value now, and of those that had it once or have it on the next side.
use Rattle.std.specs.Prelude.{ℕ, ℤ, int_lt, [], ◌∷◌, Option, None, Some, if◌then◌else◌}
use Rattle.tt_versions.specs.declared.keys.Keys.{Keys}
use Rattle.tt_versions.specs.Index.{KeySet, size_together}

-- two sets in one, by rising key
abbrev pub merged : KeySet → KeySet → KeySet
merged [] ys = ys
merged (a ∷ xs) [] = a ∷ xs
merged (a ∷ xs) (b ∷ ys) = if int_lt b.0 a.0 then b ∷ merged (a ∷ xs) ys else a ∷ merged xs (if int_lt a.0 b.0 then b ∷ ys else ys)

-- all keys, by rising key
abbrev pub all_of : Keys → KeySet
all_of keys = merged keys.current.now keys.past.now

-- how many keys both sets have
abbrev pub size : Keys → ℕ
size keys = size_together keys.current.now keys.past.now

-- a set, behind a key if there is one
abbrev pub first_then : Option ℤ → KeySet → KeySet
first_then None keys = keys
first_then (Some key) keys = (key, tt) ∷ keys
