-- The opening of a session: a version, which isn't kept, the tables, how many closed generations are kept, and how many records of calls.
use Rattle.std.specs.Prelude.{ℕ, [], ◌∷◌, unwrap_or, Result, Ok, codes}
use Rattle.serde_json.specs.Data.{Data}
use Rattle.tt_grammar.specs.declared.fault.DocFault.{DocFault}
use Rattle.tt_grammar.specs.Fault.{◌>>=◌, with_path, document_path}
use Rattle.tt_grammar.specs.Decoder.{object, count_within, member, optional}
use Rattle.tt_grammar.specs.Members.{is_one_of, no_members_but}
use Rattle.tt_grammar.specs.Version.{oldest_session_version, newest_session_version}
use Rattle.tt_grammar.specs.Tables.{catalog}
use Rattle.tt_requests.specs.declared.opening.Opening.{Opening}

-- the largest number of closed generations that are kept
abbrev pub max_keep : ℕ
max_keep = 16

-- how many closed generations are kept where that is left out
abbrev pub usual_keep : ℕ
usual_keep = 4

-- the largest number of records that are kept
abbrev pub max_records : ℕ
max_records = 1000000

-- how many records are kept where that is left out
abbrev pub usual_records : ℕ
usual_records = 100000

-- what an object declares that may have further members: its tables, and how much is kept. It names a version of sessions
unfoldable pub declaration : Data → Result Opening DocFault
declaration v = do
  _ ← object v
  _ ← member (codes "version") (count_within oldest_session_version newest_session_version) v
  tables ← member (codes "tables") catalog v
  keep ← optional (codes "keep") (count_within 0 max_keep) v
  records ← optional (codes "records") (count_within 0 max_records) v
  Ok (record { catalog = tables; keep = unwrap_or keep usual_keep; records = unwrap_or records usual_records })

-- an opening: what it declares, and no further members
unfoldable pub members_of_opening : Data → Result Opening DocFault
members_of_opening v = do
  opening ← declaration v
  _ ← no_members_but (is_one_of (codes "keep" ∷ codes "records" ∷ codes "tables" ∷ codes "version" ∷ [])) v
  Ok opening

-- the meaning of a JSON value, or of none: an opening, or its first fault with the path from the root
abbrev pub opening_of : Result Data DocFault → Result Opening DocFault
opening_of value = with_path document_path (value >>= members_of_opening)
