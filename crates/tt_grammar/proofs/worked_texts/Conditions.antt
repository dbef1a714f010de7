-- Conditions that are read as of a version, and printed.
use Rattle.std.specs.Prelude.{◌≡◌, ℕ, pos, List, [], Option, Some, option_map, Result, Ok, Err, codes, refl}
use Rattle.std.specs.Fmt.{digits}
use Rattle.serde_json.specs.Read.{read}
use Rattle.serde_json.proofs.OnLiterals.{serde_json_on_literals}
use Rattle.tt_values.specs.declared.comparison.Comparison.{Comparison}
use Rattle.tt_values.specs.declared.comparison.Comparison.TheVariants.{Is, IsNot, Below, AtMost, Above, AtLeast}
use Rattle.tt_values.specs.declared.statement.Equal.{Equal}
use Rattle.tt_values.specs.declared.value.Value.{Value}
use Rattle.tt_values.specs.declared.value.Value.TheVariants as values
use Rattle.tt_grammar.specs.declared.fault.DocFault.{DocFault}
use Rattle.tt_grammar.specs.declared.fault.DocFault.TheVariants.{At}
use Rattle.tt_grammar.specs.declared.version.Version.{Version}
use Rattle.tt_grammar.specs.declared.version.Version.TheVariants.{One, Two, Three}
use Rattle.tt_grammar.specs.Conditions.{condition}
use Rattle.tt_grammar.specs.WriteText.{equal_text}
use Rattle.tt_grammar.proofs.worked_texts.Accounts.{accounts}

-- the condition that a text is read as, if it is JSON
abbrev read_as : Version → List ℕ → Option (Result Equal DocFault)
read_as version text = option_map (condition version accounts 0) (read text)

-- a condition on the column id
abbrev id : Comparison → Value → Equal
id how value = record { column = 0; how = how; value = value }

abbrev is_read : Comparison → Value → Option (Result Equal DocFault)
is_read how value = Some (Ok (id how value))

abbrev is_refused : List ℕ → List ℕ → Option (Result Equal DocFault)
is_refused path cause = Some (Err (At path cause))

equalities : (read_as Three (codes "[\"id\",1]") ≡ is_read Is (values.Int (pos 1)))
    × (read_as Three (codes "[\"id\",\"=\",1]") ≡ is_read Is (values.Int (pos 1)))
    × (read_as Three (codes "[\"id\",\">\"]") ≡ is_read Is (values.Text (codes ">")))
unfolding digits serde_json_on_literals condition
equalities = (refl, refl, refl)

compared : (read_as Three (codes "[\"id\",\"!=\",1]") ≡ is_read IsNot (values.Int (pos 1)))
    × (read_as Three (codes "[\"id\",\"<\",1]") ≡ is_read Below (values.Int (pos 1)))
    × (read_as Three (codes "[\"id\",\"<=\",1]") ≡ is_read AtMost (values.Int (pos 1)))
    × (read_as Three (codes "[\"id\",\">\",1]") ≡ is_read Above (values.Int (pos 1)))
    × (read_as Three (codes "[\"id\",\">=\",1]") ≡ is_read AtLeast (values.Int (pos 1)))
unfolding digits serde_json_on_literals condition
compared = (refl, refl, refl, refl, refl)

-- the first item with a fault
refused_items : (read_as Three (codes "[\"id\",\"==\",true]") ≡ is_refused (codes "[1]") (codes "out of range"))
    × (read_as Three (codes "[\"id\",1,1]") ≡ is_refused (codes "[1]") (codes "wrong type"))
    × (read_as Three (codes "[\"id\",\">\",true]") ≡ is_refused (codes "[2]") (codes "wrong type"))
    × (read_as Three (codes "[\"no\",\"==\",1]") ≡ is_refused (codes "[0]") (codes "no such column"))
    × (read_as Three (codes "[\"id\",true]") ≡ is_refused (codes "[1]") (codes "wrong type"))
unfolding digits serde_json_on_literals condition
refused_items = (refl, refl, refl, refl, refl)

-- one item, and four
refused_counts : (read_as Three (codes "[\"id\"]") ≡ is_refused [] (codes "wrong type"))
    × (read_as Three (codes "[\"id\",\">\",1,1]") ≡ is_refused [] (codes "wrong type"))
unfolding digits serde_json_on_literals condition
refused_counts = (refl, refl)

-- earlier versions know pairs alone
earlier_versions : (read_as One (codes "[\"id\",\">=\",1]") ≡ is_refused [] (codes "wrong type"))
    × (read_as Two (codes "[\"id\",\">=\",1]") ≡ is_refused [] (codes "wrong type"))
    × (read_as Two (codes "[\"id\",1]") ≡ is_read Is (values.Int (pos 1)))
unfolding digits serde_json_on_literals condition
earlier_versions = (refl, refl, refl)

printed : (equal_text accounts 0 (id Is (values.Int (pos 1))) ≡ codes "[\"id\",1]")
    × (equal_text accounts 0 (id AtLeast (values.Int (pos 1))) ≡ codes "[\"id\",\">=\",1]")
unfolding digits
printed = (refl, refl)
