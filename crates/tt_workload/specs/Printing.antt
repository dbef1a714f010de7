-- Replies as they are printed, in bytes.
use Rattle.std.specs.Prelude.{ℕ, List, [], ◌∷◌, ◌++◌, length, codes}
use Rattle.std.specs.List.{flat_map}
use Rattle.std.specs.Fmt.{decimal}
use Rattle.tt_values.specs.declared.row.Row.{Row}
use Rattle.tt_values.specs.declared.reply.Reply.{Reply}
use Rattle.tt_values.specs.declared.reply.Reply.TheVariants as replies
use Rattle.tt_grammar.specs.Printing.{row_text}

-- a row behind a space
abbrev pub spaced_row : Row → List ℕ
spaced_row row = codes " " ++ row_text row

abbrev pub reply_text : Reply → List ℕ
reply_text replies.Inserted = codes "inserted"
reply_text replies.Duplicate = codes "duplicate"
reply_text (replies.Updated count) = codes "updated " ++ decimal count
reply_text (replies.Deleted count) = codes "deleted " ++ decimal count
reply_text (replies.Rows rows) = codes "rows " ++ (decimal (length rows) ++ flat_map spaced_row rows)

-- a further reply, behind a comma and a space
abbrev pub further_reply : Reply → List ℕ
further_reply reply = codes ", " ++ reply_text reply

-- the replies to an action, with commas between them
abbrev pub replies_text : List Reply → List ℕ
replies_text [] = codes "nothing"
replies_text (reply ∷ rs) = reply_text reply ++ flat_map further_reply rs
