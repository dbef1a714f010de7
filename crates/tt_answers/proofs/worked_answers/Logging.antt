-- The lines of a log that is made anew, of a session that has forgotten what lies before the time 7, in its generation 1.
use Rattle.std.specs.Prelude.{◌≡◌, pos, negsuc, [], ◌∷◌, ◌++◌, None, Some, codes, refl}
use Rattle.std.specs.Fmt.{digits}
use Rattle.tt_values.specs.declared.value.Value.TheVariants as values
use Rattle.tt_values.specs.declared.statement.Change.TheVariants as changes
use Rattle.tt_values.specs.declared.statement.Write.TheVariants as writes
use Rattle.tt_values.specs.Action.{action_of, whole_of}
use Rattle.tt_values.specs.declared.comparison.Comparison.TheVariants.{Is}
use Rattle.tt_grammar.proofs.worked_texts.Accounts.{accounts, account}
use Rattle.tt_answers.specs.LogText.{log_opening_line, ground_line, slot_line}

opening : log_opening_line accounts 4 100000 (record { horizon = 7; ground_slots = 2; generations = 1 })
    ≡ (codes "{\"version\":4,\"tables\":[{\"name\":\"acct\",\"columns\":[{\"name\":\"id\",\"kind\":\"int\",\"partition\":false},{\"name\":\"owner\","
    ++ codes "\"kind\":\"text\",\"partition\":true},{\"name\":\"bal\",\"kind\":\"int\",\"partition\":false}]}],\"keep\":4,\"records\":100000,"
    ++ codes "\"ground\":{\"time\":7,\"generation\":1,\"slots\":2}}")
unfolding digits
opening = refl

ground_slot : ground_line accounts (action_of (writes.Insert 0 (account (pos 1) (codes "ann") (pos 10)) ∷ [])) ≡ codes "{\"do\":[{\"insert\":\"acct\",\"row\":[1,\"ann\",10]}]}"
unfolding digits
ground_slot = refl

further_slot : slot_line accounts 3 (action_of (writes.Update 0 (changes.Add 2 (negsuc 2) ∷ []) (record { column = 0; how = Is; value = values.Int (pos 1) } ∷ []) ∷ [])) (Some 1500)
    ≡ codes "{\"worker\":3,\"do\":[{\"update\":\"acct\",\"change\":[[\"add\",\"bal\",-3]],\"where\":[[\"id\",1]]}],\"stamp\":1500}"
unfolding digits
further_slot = refl

whole_slot : slot_line accounts 3 (whole_of (writes.Insert 0 (account (pos 1) (codes "ann") (pos 10)) ∷ [])) None
    ≡ codes "{\"worker\":3,\"do\":[{\"insert\":\"acct\",\"row\":[1,\"ann\",10]}],\"whole\":true}"
unfolding digits
whole_slot = refl
