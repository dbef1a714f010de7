-- Sessions on a table of accounts, and the texts of their answers.
use Rattle.std.specs.Prelude.{ℕ, List, [], ◌∷◌, ◌++◌, codes}
use Rattle.std.specs.List.{flat_map}
use Rattle.tt_session.specs.Run.{Losses, session_text}

-- opens a session on the table of accounts
abbrev pub opening : List ℕ
opening =
    (codes "{\"version\":2,\"tables\":[{\"name\":\"acct\",\"columns\":[{\"name\":\"id\",\"kind\":\"int\"},{\"name\":\"owner\",\"kind\":\"text\","
    ++ codes "\"partition\":true},{\"name\":\"bal\",\"kind\":\"int\"}]}]}")

-- the answer to an opening
abbrev pub opened : List ℕ
opened = codes "{\"time\":0,\"generation\":0,\"oldest\":0,\"entries\":0,\"repair\":null}"

-- there was memory for each line
abbrev pub no_losses : Losses
no_losses = record { lines = []; openings = [] }

-- what is printed for lines behind this opening
abbrev pub printed : List (List ℕ) → List ℕ
printed lines = session_text (opening ∷ lines) no_losses

-- answers, each with its line feed
abbrev pub answers : List (List ℕ) → List ℕ
answers texts = flat_map (λ text. text ++ codes "\n") texts
