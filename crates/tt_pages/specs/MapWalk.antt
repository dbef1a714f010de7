-- How the entries of a map are read page by page, from key to key.
use Rattle.std.specs.Prelude.{◌≡◌, ℤ, List, [], ◌∷◌, ◌++◌, drop, length}
use Rattle.std.specs.Ordering.{int_cmp, is_lt}
use Rattle.std.specs.FinMap.Entries.{where_key}

-- the entries with keys above this one
abbrev pub entries_after : {V : Type 0} → ℤ → List (ℤ × V) → List (ℤ × V)
entries_after key = where_key int_cmp (λ k. is_lt (int_cmp key k))

-- the entries begin with this page, which is empty only if there are none
pub record IsPageOf {V : Type 0} (entries page : List (ℤ × V)) : Type 0 where
  pub front : entries ≡ page ++ drop (length page) entries
  pub end : page ≡ [] → entries ≡ []

-- this rest of a page, and the entries after its last key; none if the rest is empty
abbrev pub unread : {V : Type 0} → List (ℤ × V) → List (ℤ × V) → List (ℤ × V)
unread [] entries = []
unread (e ∷ []) entries = e ∷ entries_after e.0 entries
unread (e ∷ f ∷ page) entries = e ∷ unread (f ∷ page) entries
