-- What a parse of the command line that succeeds has found.
use Rattle.std.proofs.Common.{◌≡◌, ◌∙◌, ◌≢◌, ◌∷◌, ◌&&◌, [], ap, arith, ℕ, Bool, Box, bytes_eq, cond, not, IsSomeAnd, List, Option, Some, None, codes, false, inl, inr, option_map, slice_index, refl, subst, sym, true, unwrap_or}
use Rattle.std.specs.Box.{box_value}
use Rattle.clap.specs.Walk.{first_of}
use Rattle.clap.specs.Matches.{first_value}
use Rattle.clap.specs.declared.builder.value_parser.Reading.TheVariants.{AsWritten}
use Rattle.clap.specs.Words.{App, HasMatchesOf, Row, Text, fault_of, kind_of, found_of, is_simple_and_free, one_of, one_text, rows_of, subcommand_name_of, subcommand_of, subcommand_rows, subcommand_rows_of}
use Rattle.clap.specs.Matches.{ReadsOne}
use Rattle.clap.specs.Simple.{is_simple}
use Rattle.clap.specs.Takes.{is_given}
use Rattle.clap.specs.declared.parser.matches.ArgMatches.{ArgMatches}
use Rattle.clap.specs.declared.parser.matches.ArgMatches.TheViews.{out-ArgMatches, out-SubCommand}
use Rattle.clap.specs.declared.parser.matches.SubCommand.{SubCommand}
use Rattle.clap.proofs.OnLiterals.{clap_on_literals}
use Rattle.clap.proofs.WalkLemmas.{both, first_value-rows, one_text-rows}
use Rattle.tt_cli.specs.declared.command_line.Cli.{Cli}
use Rattle.clap.specs.Kinds.{HasKind, IsAmong, Kinds, or_else}
use Rattle.clap.specs.declared.error.Error.{Error}
use Rattle.clap.specs.declared.error.kind.ErrorKind.TheVariants.{MissingRequiredArgument}
use Rattle.tt_cli.specs.CommandLine.{Asks, IsBatchOf, IsClosedOf, IsCommandOf, IsNumberOr, IsRoundsOf, IsSignedOr, IsWhyOf, IsDiffOf, IsJsonOf, IsDryOf, command_line, fault_of_subcommand, fault_of_words, given_text, lacks_log}
use Rattle.tt_cli.proofs.NumberLemmas.{ReadsBatch, ReadsNumber, ReadsRounds, reads_batch, reads_rounds}
use Rattle.tt_cli.proofs.FlagLemmas.{reads_flag, reads_flag_or_none}
use Rattle.tt_cli.proofs.SubcommandLemmas.{FitPath, HasCommand, HasLog, HasOptions, HasSession, batch_of, closed_of, diff_of, dry_of, json_of, rounds_of, takes_one, why_of}
use Rattle.tt_cli.proofs.RowLemmas.{first_is_given, given_is_some}

is_simple_line : is_simple_and_free command_line ≡ true
unfolding clap_on_literals
is_simple_line = refl

-- a command of the line's shape is simple
pub is_simple_command : (a : App) → a ≡ command_line → is_simple_and_free a ≡ true
is_simple_command a is = ap is_simple_and_free is ∙ is_simple_line

-- the parse entered a subcommand, with the rows of its options
abbrev pub Enters : List Text → ArgMatches → Type 0
Enters words m = (name : Text) × (rows : List Row) × (subcommand_of command_line words ≡ Some (name, rows))
    × (subcommand_rows_of m ≡ Some (name, rows)) × HasCommand name rows

pub enters_one : (a : App) (words : List Text) (m : ArgMatches) → a ≡ command_line → fault_of a words ≡ [] → HasMatchesOf a words m → Enters words m
enters_one a words m is passes matches =
    let takes = takes_one words (sym (ap (λ (x : App). fault_of x words) is) ∙ passes) in
    let simple : is_simple a ≡ true = (both (is_simple a) _ (is_simple_command a is)).0 in
    (takes.0, takes.1, takes.2, (matches simple).1 ∙ (ap (λ (x : App). subcommand_of x words) is ∙ takes.2), takes.3)

session_no_replay : codes "session" ≢ codes "replay"
session_no_replay e = cc

session_no_run : codes "session" ≢ codes "run"
session_no_run e = cc

session_no_log : codes "session" ≢ codes "log"
session_no_log e = cc

log_no_replay : codes "log" ≢ codes "replay"
log_no_replay e = cc

log_no_run : codes "log" ≢ codes "run"
log_no_run e = let bad : ◌≡◌ {A = ℕ} 108 114 = ap (λ (t : Text). slice_index t 0) e in absurd (omega arith)

-- a kind of the first fault that `clap` finds
pub has_kind : (words : List Text) (error : Error) → HasKind (fault_of command_line words) error → HasKind (fault_of_words words) error
unfolding fault_of_words
has_kind words error has = elim has [
  | inl memory ↦ inl memory
  | inr among ↦ inr (first_has (fault_of command_line words) (fault_of_subcommand (subcommand_of command_line words)) among)
]
  where
    first_has : (first next : Kinds) → IsAmong (kind_of error) first → IsAmong (kind_of error) (or_else first next)
    first_has [] next bad = absurd bad
    first_has (k ∷ ks) next among = among

abbrev rows_in : Option (Text × List Row) → Option (List Row)
rows_in = option_map (λ sub. sub.1)

name_in : {Z : Type 0} (o : Option (Box SubCommand Z))
    → option_map (λ b. (out-SubCommand (box_value b)).name.now) o ≡ option_map (λ sub. sub.0) (subcommand_rows o)
name_in None = refl
name_in (Some b) = refl

module _ (words : List Text) (m : ArgMatches) (enters : Enters words m) where
  pub never_none : None ≡ rows_in (subcommand_rows_of m) → ⊥
  never_none none =
      let bad : None ≡ Some enters.1 = none ∙ ap rows_in enters.3 in
      absurd (cc)

  -- the subcommand that was entered
  module _ (name : Text) (found : Some name ≡ subcommand_name_of m) where
    name_is : name ≡ enters.0
    name_is =
        let given : Some name ≡ Some enters.0 = found ∙ (name_in (out-ArgMatches m).subcommand ∙ ap (option_map (λ sub. sub.0)) enters.3) in
        cc

    pub name_as : (text : Text) → name ≡ text → enters.0 ≡ text
    name_as text is = sym name_is ∙ is

    pub has_options : name ≢ codes "session" → name ≢ codes "log" → HasOptions enters.0 enters.1
    has_options other no_log = elim enters.4 [
      | inl options ↦ options
      | inr (inl session) ↦ absurd (other (name_is ∙ session.0))
      | inr (inr log) ↦ absurd (no_log (name_is ∙ log.0))
    ]

    pub is_replay : name ≢ codes "session" → name ≢ codes "log" → name ≢ codes "run" → name ≡ codes "replay"
    is_replay other no_log not_run = elim (has_options other no_log) [
      | inl replay ↦ name_is ∙ replay.0
      | inr run ↦ absurd (not_run (name_is ∙ run.0))
    ]

    pub has_session : name ≡ codes "session" → HasSession enters.0 enters.1
    has_session is = elim enters.4 [
      | inl (inl replay) ↦ absurd (session_no_replay (sym is ∙ (name_is ∙ replay.0)))
      | inl (inr run) ↦ absurd (session_no_run (sym is ∙ (name_is ∙ run.0)))
      | inr (inl session) ↦ session
      | inr (inr log) ↦ absurd (session_no_log (sym is ∙ (name_is ∙ log.0)))
    ]

    pub has_log : name ≡ codes "log" → HasLog enters.0 enters.1
    has_log is = elim enters.4 [
      | inl (inl replay) ↦ absurd (log_no_replay (sym is ∙ (name_is ∙ replay.0)))
      | inl (inr run) ↦ absurd (log_no_run (sym is ∙ (name_is ∙ run.0)))
      | inr (inl session) ↦ absurd (session_no_log (sym (sym is ∙ (name_is ∙ session.0))))
      | inr (inr log) ↦ log
    ]

  pub command_is : (cli : Cli) → Asks enters.0 enters.1 cli → IsCommandOf words cli
  unfolding IsCommandOf
  command_is cli asks = subst (λ (sub : Option (Text × List Row)). IsSomeAnd sub (λ s. Asks s.0 s.1 cli)) (sym enters.2) asks

  -- words that `clap` takes are taken where no `--log` is lacking
  pub faultless : fault_of command_line words ≡ [] → lacks_log (enters.0, enters.1) ≡ false → fault_of_words words ≡ []
  unfolding fault_of_words
  faultless passes none =
      ap (λ (k : Kinds). or_else k (fault_of_subcommand (subcommand_of command_line words))) passes
      ∙ ap fault_of_subcommand enters.2
      ∙ ap (λ (b : Bool). cond b (MissingRequiredArgument ∷ []) []) none

  pub faultless_as : (text : Text) → enters.0 ≡ text → bytes_eq text (codes "session") ≡ false → fault_of command_line words ≡ [] → fault_of_words words ≡ []
  faultless_as text is other passes = faultless passes (
      ap (λ (b : Bool). b && (is_given (codes "existing") enters.1 && not (is_given (codes "log") enters.1)))
      (ap (λ (t : Text). bytes_eq t (codes "session")) is ∙ other)
      )

  -- `--existing` and `--log`, as `session` is given them
  module _ (session : HasSession enters.0 enters.1) (existing : Bool) (existing_is : existing ≡ is_given (codes "existing") enters.1) where
    lacks : (log : Bool) → is_given (codes "log") enters.1 ≡ log → lacks_log (enters.0, enters.1) ≡ (existing && not log)
    lacks log is = rw (session.0, sym existing_is, is) refl

    pub faultless_on : (path : Text) → given_text (codes "log") enters.1 ≡ Some path → fault_of command_line words ≡ [] → fault_of_words words ≡ []
    faultless_on path given passes = faultless passes (lacks true (is_given_by path given) ∙ never existing)
      where
        never : (b : Bool) → (b && false) ≡ false
        never true = refl
        never false = refl

        is_given_by : (path : Text) → given_text (codes "log") enters.1 ≡ Some path → is_given (codes "log") enters.1 ≡ true
        is_given_by path given = go (is_given (codes "log") enters.1) given
          where
            go : (b : Bool) → cond b (first_of (codes "log") enters.1) None ≡ Some path → b ≡ true
            go true e = refl
            go false e = absurd (cc)

    not_given : given_text (codes "log") enters.1 ≡ None → is_given (codes "log") enters.1 ≡ false
    not_given none = go (is_given (codes "log") enters.1) refl none
      where
        go : (b : Bool) → is_given (codes "log") enters.1 ≡ b → cond b (first_of (codes "log") enters.1) None ≡ None → is_given (codes "log") enters.1 ≡ false
        go true is e =
            let some = given_is_some (codes "log") AsWritten enters.1 session.1 is in
            let bad : None ≡ Some some.0 = sym e ∙ some.1 in
            absurd (cc)
        go false is e = is

    pub faultless_without : given_text (codes "log") enters.1 ≡ None → existing ≡ false → fault_of command_line words ≡ [] → fault_of_words words ≡ []
    faultless_without none off passes = faultless passes (lacks false (not_given none) ∙ ap (λ (b : Bool). b && true) off)

    -- and the fault where `--log` is lacking
    pub faulty : given_text (codes "log") enters.1 ≡ None → existing ≡ true → fault_of command_line words ≡ []
        → (error : Error) → kind_of error ≡ MissingRequiredArgument → HasKind (fault_of_words words) error
    unfolding fault_of_words
    faulty none on passes error is =
        let lacking = lacks false (not_given none) ∙ ap (λ (b : Bool). b && true) on in
        let fault : fault_of_words words ≡ MissingRequiredArgument ∷ [] =
        ap (λ (k : Kinds). or_else k (fault_of_subcommand (subcommand_of command_line words))) passes
        ∙ ap fault_of_subcommand enters.2
        ∙ ap (λ (b : Bool). cond b (MissingRequiredArgument ∷ []) []) lacking in
        subst (λ (kinds : Kinds). HasKind kinds error) (sym fault) (inr (inl is))

  -- the matches of the subcommand
  module _ (inner : ArgMatches) (found : Some (rows_of (found_of inner)) ≡ rows_in (subcommand_rows_of m)) where
    rows_are : rows_of (found_of inner) ≡ enters.1
    rows_are =
        let given : Some (rows_of (found_of inner)) ≡ Some enters.1 = found ∙ ap rows_in enters.3 in
        cc

    first_is : (id : Text) → first_value (found_of inner) id ≡ first_of id enters.1
    first_is id = first_value-rows (found_of inner) id ∙ ap (first_of id) rows_are

    -- the path that is read is the one that the words give
    pub path_is : (id : Text) (read : Option Text) → FitPath id enters.1 → read ≡ first_value (found_of inner) id → given_text id enters.1 ≡ read
    path_is id read fit is = sym (is ∙ first_is id ∙ first_is_given id AsWritten enters.1 fit)

    one_is : (id : Text) → one_text (found_of inner) id ≡ one_of id enters.1
    one_is id = one_text-rows (found_of inner) id ∙ ap (one_of id) rows_are

    -- the flag that is read is the one that the words give
    pub existing_is : HasSession enters.0 enters.1 → (read : Bool) → (one_text (found_of inner) (codes "existing") ≡ Some (codes "true") → read ≡ true)
        → (one_text (found_of inner) (codes "existing") ≡ Some (codes "false") → read ≡ false) → read ≡ is_given (codes "existing") enters.1
    existing_is session read when_true when_false =
        let one = one_is (codes "existing") in
        reads_flag (codes "existing") enters.1 read session.2 (λ e. when_true (one ∙ e)) (λ e. when_false (one ∙ e))

    pub never_without : (id : Text) → FitPath id enters.1 → is_given id enters.1 ≡ true → None ≡ first_value (found_of inner) id → ⊥
    never_without id fit given none =
        let some = given_is_some id AsWritten enters.1 fit given in
        let bad : None ≡ Some some.0 = none ∙ first_is id ∙ some.1 in
        absurd (cc)

  -- what is read of an option
  module _ (has : HasOptions enters.0 enters.1) (inner : ArgMatches) (found : Some (rows_of (found_of inner)) ≡ rows_in (subcommand_rows_of m)) where
    pub batch_read : (read : Option ℕ) → ((text : Text) → one_text (found_of inner) (codes "batch") ≡ Some text → ReadsOne ReadsNumber text read)
        → ReadsBatch enters.1 read
    batch_read read reads = reads_batch enters.1 read (batch_of enters.0 enters.1 has) (λ text e. reads text (one_is inner found (codes "batch") ∙ e))

    pub rounds_read : (read : Option ℕ) → (one_text (found_of inner) (codes "rounds") ≡ None → read ≡ None)
        → ((text : Text) → one_text (found_of inner) (codes "rounds") ≡ Some text → ReadsOne ReadsNumber text read)
        → ReadsRounds enters.1 (unwrap_or read 8)
    rounds_read read none reads =
        let one = one_is inner found (codes "rounds") in
        reads_rounds enters.1 read (rounds_of enters.0 enters.1 has) (λ e. none (one ∙ e)) (λ text e. reads text (one ∙ e))

    pub closed_is : (read : Bool) → (one_text (found_of inner) (codes "closed") ≡ Some (codes "true") → read ≡ true)
        → (one_text (found_of inner) (codes "closed") ≡ Some (codes "false") → read ≡ false) → IsClosedOf words read
    unfolding IsClosedOf
    closed_is read when_true when_false =
        let one = one_is inner found (codes "closed") in
        let is = reads_flag (codes "closed") enters.1 read (closed_of enters.0 enters.1 has) (λ e. when_true (one ∙ e)) (λ e. when_false (one ∙ e)) in
        subst (λ (sub : Option (Text × List Row)). IsSomeAnd sub (λ s. read ≡ is_given (codes "closed") s.1)) (sym enters.2) is

    pub why_is : (read : Bool) → (one_text (found_of inner) (codes "why") ≡ Some (codes "true") → read ≡ true)
        → (one_text (found_of inner) (codes "why") ≡ Some (codes "false") → read ≡ false) → IsWhyOf words read
    unfolding IsWhyOf
    why_is read when_true when_false =
        let one = one_is inner found (codes "why") in
        let is = reads_flag (codes "why") enters.1 read (why_of enters.0 enters.1 has) (λ e. when_true (one ∙ e)) (λ e. when_false (one ∙ e)) in
        subst (λ (sub : Option (Text × List Row)). IsSomeAnd sub (λ s. read ≡ is_given (codes "why") s.1)) (sym enters.2) is

    pub diff_is : (read : Bool) → (one_text (found_of inner) (codes "diff") ≡ Some (codes "true") → read ≡ true)
        → (one_text (found_of inner) (codes "diff") ≡ Some (codes "false") → read ≡ false) → IsDiffOf words read
    unfolding IsDiffOf
    diff_is read when_true when_false =
        let one = one_is inner found (codes "diff") in
        let is = reads_flag (codes "diff") enters.1 read (diff_of enters.0 enters.1 has) (λ e. when_true (one ∙ e)) (λ e. when_false (one ∙ e)) in
        subst (λ (sub : Option (Text × List Row)). IsSomeAnd sub (λ s. read ≡ is_given (codes "diff") s.1)) (sym enters.2) is

    pub json_is : (read : Bool) → (one_text (found_of inner) (codes "json") ≡ Some (codes "true") → read ≡ true)
        → (one_text (found_of inner) (codes "json") ≡ Some (codes "false") → read ≡ false) → IsJsonOf words read
    unfolding IsJsonOf
    json_is read when_true when_false =
        let one = one_is inner found (codes "json") in
        let is = reads_flag (codes "json") enters.1 read (json_of enters.0 enters.1 has) (λ e. when_true (one ∙ e)) (λ e. when_false (one ∙ e)) in
        subst (λ (sub : Option (Text × List Row)). IsSomeAnd sub (λ s. read ≡ is_given (codes "json") s.1)) (sym enters.2) is

    pub dry_is : (read : Bool) → (one_text (found_of inner) (codes "dry") ≡ None → read ≡ false)
        → (one_text (found_of inner) (codes "dry") ≡ Some (codes "true") → read ≡ true)
        → (one_text (found_of inner) (codes "dry") ≡ Some (codes "false") → read ≡ false) → IsDryOf words read
    unfolding IsDryOf
    dry_is read none when_true when_false =
        let one = one_is inner found (codes "dry") in
        let is = reads_flag_or_none (codes "dry") enters.1 read (dry_of enters.0 enters.1 has) (λ e. none (one ∙ e)) (λ e. when_true (one ∙ e)) (λ e. when_false (one ∙ e)) in
        subst (λ (sub : Option (Text × List Row)). IsSomeAnd sub (λ s. read ≡ is_given (codes "dry") s.1)) (sym enters.2) is

  -- the numbers that were read
  pub batch_is : (read : Option ℕ) (n : ℕ) → ReadsBatch enters.1 read → read ≡ Some n → IsBatchOf words n
  unfolding IsBatchOf
  batch_is read n reads is =
      let same : reads.0 ≡ n = cc in
      let number = subst (λ (k : ℕ). IsNumberOr 16 (given_text (codes "batch") enters.1) k) same reads.4 in
      subst (λ (sub : Option (Text × List Row)). IsSomeAnd sub (λ s. IsNumberOr 16 (given_text (codes "batch") s.1) n)) (sym enters.2) number

  pub rounds_are : (n : ℕ) → ReadsRounds enters.1 n → IsRoundsOf words n
  unfolding IsRoundsOf
  rounds_are n reads =
      subst (λ (sub : Option (Text × List Row)). IsSomeAnd sub (λ s. IsSignedOr 8 (given_text (codes "rounds") s.1) n)) (sym enters.2) reads.1
