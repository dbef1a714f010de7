-- The action of a slot of the ground, as a line of a log that was made anew spells it.
use Rattle.std.specs.Prelude.{[], ◌∷◌, Result, Ok, codes}
use Rattle.serde_json.specs.Data.{Data}
use Rattle.tt_values.specs.declared.action.Action.{Action}
use Rattle.tt_values.specs.Tables.{Tables}
use Rattle.tt_grammar.specs.declared.fault.DocFault.{DocFault}
use Rattle.tt_grammar.specs.declared.statements.Context.TheVariants as contexts
use Rattle.tt_grammar.specs.Fault.{◌>>=◌, with_path, document_path}
use Rattle.tt_grammar.specs.Decoder.{object}
use Rattle.tt_grammar.specs.Members.{is_one_of, no_members_but}
use Rattle.tt_grammar.specs.Actions.{action}
use Rattle.tt_grammar.specs.Version.{newest_version}

-- the action of an object that has the member do and no other, as the newest version reads it, whatever the version of the log
abbrev pub members_of_ground_action : Tables → Data → Result Action DocFault
members_of_ground_action tables v = do
  _ ← object v
  read ← action newest_version tables contexts.Nested v
  _ ← no_members_but (is_one_of (codes "do" ∷ [])) v
  Ok read

-- the meaning of a JSON value, or of none: an action, or its first fault with the path from the root
abbrev pub ground_action_of : Tables → Result Data DocFault → Result Action DocFault
ground_action_of tables value = with_path document_path (value >>= members_of_ground_action tables)
