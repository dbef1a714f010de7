-- The edits that a repair begins with. They name slots; whether a slot is there is the database's to judge.
use Rattle.std.specs.Prelude.{List, [], ◌∷◌, if◌then◌else◌, Result, Ok, codes}
use Rattle.serde_json.specs.Data.{Data}
use Rattle.tt_values.specs.Tables.{Tables}
use Rattle.tt_repair_laws.specs.declared.edit.Edit.{Edit}
use Rattle.tt_repair_laws.specs.declared.edit.Edit.TheVariants.{Cancel, Replace}
use Rattle.tt_grammar.specs.declared.fault.DocFault.{DocFault}
use Rattle.tt_grammar.specs.declared.version.Version.{Version}
use Rattle.tt_grammar.specs.Fault.{◌>>=◌, refuse}
use Rattle.tt_grammar.specs.Decoder.{object, array, within_limit, count, has, member}
use Rattle.tt_grammar.specs.Arrays.{each}
use Rattle.tt_grammar.specs.Members.{is_one_of, no_members_but}
use Rattle.tt_grammar.specs.Edits.{max_edits, replacement}

-- an edit that cancels a slot, by its number
unfoldable pub cancel : Data → Result Edit DocFault
cancel v = do
  slot ← member (codes "cancel") count v
  _ ← no_members_but (is_one_of (codes "cancel" ∷ [])) v
  Ok (Cancel slot)

-- an edit that replaces the action of a slot, by its number
unfoldable pub replace : Version → Tables → Data → Result Edit DocFault
replace version tables v = do
  slot ← member (codes "replace") count v
  action ← member (codes "by") (replacement version tables) v
  _ ← no_members_but (is_one_of (codes "by" ∷ codes "replace" ∷ [])) v
  Ok (Replace slot action)

-- an edit, by the first of its kinds that it has
abbrev pub edit_by_kind : Version → Tables → Data → Result Edit DocFault
edit_by_kind version tables v =
    if has (codes "cancel") v then cancel v else (
    if has (codes "replace") v then replace version tables v else
    refuse (codes "missing one of cancel, replace"))

-- an edit of an object
unfoldable pub edit : Version → Tables → Data → Result Edit DocFault
edit version tables v = do
  _ ← object v
  edit_by_kind version tables v

-- the edits, or the fault that there are too many
abbrev pub edits : Version → Tables → Data → Result (List Edit) DocFault
edits version tables v = do
  ds ← array v
  _ ← within_limit max_edits ds
  each (edit version tables) 0 ds
