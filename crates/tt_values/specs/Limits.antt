-- The limits of catalogs, statements and actions.
use Rattle.std.specs.Prelude.{ℕ}

-- the largest number of tables in a catalog
abbrev pub max_tables : ℕ
max_tables = 64

-- the largest number of columns in a table
abbrev pub max_columns : ℕ
max_columns = 32

-- the largest number of bytes in the name of a table or a column
abbrev pub max_name_bytes : ℕ
max_name_bytes = 64

-- the largest number of bytes in a text
abbrev pub max_text_bytes : ℕ
max_text_bytes = 1024

-- the largest number of conditions in a statement
abbrev pub max_equals : ℕ
max_equals = 32

-- the largest number of writes in an action
abbrev pub max_writes : ℕ
max_writes = 16
