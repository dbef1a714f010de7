-- What words that the command line takes leave in the rows of the subcommand that they enter.
use Rattle.std.proofs.Common.{◌≡◌, ◌∷◌, ◌⊎◌, [], arith, ℕ, Bool, List, Option, Some, None, codes, cond, drop, eqb-true, false, find, inl, inr, is_some, length, not, pos, refl, subst, sym, true, ◌==◌, ◌||◌, bytes_eq, option_map}
use Rattle.std.specs.List.{AllByRecursion as Each}
use Rattle.std.specs.Prelude.{⊤}
use Rattle.clap.specs.Kinds.{Kinds, check_kinds, or_else, range_kinds}
use Rattle.clap.specs.ValueTests.{is_signed_in}
use Rattle.clap.specs.Simple.{Shape, built, entered, names_of, subcommand_of}
use Rattle.clap.specs.Walk.{Row, Rule, Text, Waiting, Held, finished, has_row, idle, nothing_held, answers_to, option, positional, rows_after, settled, subcommand_met, walk, walk_from, with_default}
use Rattle.clap.specs.Faults.{check_fault, defaults_fault, entered_fault, fault_of, level_fault, other_fault, settle_fault, walk_fault}
use Rattle.clap.specs.declared.builder.value_parser.Reading.{Reading}
use Rattle.clap.specs.declared.builder.value_parser.Reading.TheVariants.{AsWritten, WithoutMinus}
use Rattle.clap.specs.declared.builder.value_parser.ValueParser.TheVariants as parser
use Rattle.clap.specs.declared.error.kind.ErrorKind.{ErrorKind}
use Rattle.clap.specs.declared.error.kind.ErrorKind.TheVariants as kind
use Rattle.clap.specs.declared.parser.matches.ValueSource.TheVariants.{CommandLine}
use Rattle.clap.specs.Takes.{is_given}
use Rattle.clap.specs.declared.builder.action.ArgAction.TheVariants.{SetTrue}
use Rattle.clap.specs.Words.{new_rule}
use Rattle.tt_cli.specs.CommandLine.{batch, command_line, log_argument, log_option, rounds}
use Rattle.tt_cli.proofs.RowLemmas.{AllFit, Default, Fits, HasRow, after_defaults, default_has, default_keeps, defaults_have, defaults_keep, new_row, none_has, use_keeps}
use Rattle.tt_cli.proofs.WalkLemmas.{Keeps, StopsAt, none_of, settles, walk_keeps, walk_stops}

-- ---- the built command

abbrev top : Shape
top = (built command_line).top

-- the options, as a subcommand has them once it is built
abbrev batch_rule : Rule
batch_rule = record batch { range = Some (record { start_inclusive = 1; end_inclusive = 1 }) }

abbrev rounds_rule : Rule
rounds_rule = record rounds { range = Some (record { start_inclusive = 1; end_inclusive = 1 }) }

-- an option without a value
abbrev flag_rule : Text → Rule
flag_rule name = record (new_rule name) {
  long = Some name;
  action = Some SetTrue;
  defaults = codes "false" ∷ [];
  missing = codes "true" ∷ [];
  parser = Some parser.Bool;
  range = Some (record { start_inclusive = 0; end_inclusive = 0 });
}

abbrev log_rule : Rule
log_rule = record log_option { range = Some (record { start_inclusive = 1; end_inclusive = 1 }); parser = Some parser.String }

abbrev file_rule : Rule
file_rule = record log_argument { range = Some (record { start_inclusive = 1; end_inclusive = 1 }); parser = Some parser.String; index = Some 1 }

abbrev help_rule : Rule
help_rule = record Rattle.clap.specs.Simple.help_rule { range = Some (record { start_inclusive = 0; end_inclusive = 0 }); parser = Some parser.String }

abbrev first_shape : List Shape → Shape
first_shape [] = top
first_shape (s ∷ ss) = s

abbrev second_shape : List Shape → Shape
second_shape [] = top
second_shape (s ∷ ss) = first_shape ss

abbrev third_shape : List Shape → Shape
third_shape [] = top
third_shape (s ∷ ss) = second_shape ss

abbrev fourth_shape : List Shape → Shape
fourth_shape [] = top
fourth_shape (s ∷ ss) = third_shape ss

abbrev replay_leaf : Shape
replay_leaf = first_shape (built command_line).subs

abbrev run_leaf : Shape
run_leaf = second_shape (built command_line).subs

abbrev session_leaf : Shape
session_leaf = third_shape (built command_line).subs

abbrev log_leaf : Shape
log_leaf = fourth_shape (built command_line).subs

replay_rules : replay_leaf.rules
    ≡ batch_rule ∷ flag_rule (codes "closed") ∷ flag_rule (codes "why") ∷ flag_rule (codes "diff") ∷ flag_rule (codes "json") ∷ flag_rule (codes "dry") ∷ help_rule ∷ []
replay_rules = refl

run_rules : run_leaf.rules
    ≡ batch_rule ∷ rounds_rule ∷ flag_rule (codes "closed") ∷ flag_rule (codes "why") ∷ flag_rule (codes "diff") ∷ flag_rule (codes "json") ∷ help_rule ∷ []
run_rules = refl

session_rules : session_leaf.rules ≡ log_rule ∷ flag_rule (codes "existing") ∷ help_rule ∷ []
session_rules = refl

log_rules : log_leaf.rules ≡ file_rule ∷ help_rule ∷ []
log_rules = refl

-- ---- a use of an option

accepted : (b : Bool) (k : ErrorKind) (more : Kinds) → or_else (cond b [] (k ∷ [])) more ≡ [] → b ≡ true
accepted true k more e = refl
accepted false k more e = absurd (cc)

one_value : (n : ℕ) → range_kinds 1 1 n ≡ [] → n ≡ 1
one_value n e = go (n == 0) (1 == n) refl e
  where
    go : (none one : Bool) → (1 == n) ≡ one
        → cond none (kind.InvalidValue ∷ []) (cond one [] (kind.WrongNumberOfValues ∷ [])) ≡ [] → n ≡ 1
    go true one is f = absurd (cc)
    go false true is f = sym (eqb-true 1 n is)
    go false false is f = absurd (cc)

no_value : (n : ℕ) → range_kinds 0 0 n ≡ [] → n ≡ 0
no_value n e = go (0 == n) refl e
  where
    go : (none : Bool) → (0 == n) ≡ none → cond none [] (kind.WrongNumberOfValues ∷ []) ≡ [] → n ≡ 0
    go true is f = sym (eqb-true 0 n is)
    go false is f = absurd (cc)

abbrev pub IsInRange : ℕ → ℕ → Text → Type 0
IsInRange low high v = is_signed_in (pos low) (pos high) v ≡ true

-- each use of an option keeps what fits an argument, if the row that it adds does
module _ (id : Text) (how : Reading) (Passes : Text → Type 0) where
  abbrev BatchFits : Type 0
  BatchFits = (v : Text) → IsInRange 1 10000 v → Fits id how Passes (new_row (codes "batch") WithoutMinus CommandLine (v ∷ []))

  batch_keeps : BatchFits → Keeps false (AllFit id how Passes) batch_rule
  batch_keeps fits [] rows p e = absurd (cc)
  batch_keeps fits (v ∷ []) rows p e =
      let parts = none_of _ _ e in
      let passed = accepted (is_signed_in (pos 1) (pos 10000) v) kind.ValueValidation [] parts.1 in
      use_keeps id how Passes (codes "batch") WithoutMinus CommandLine (v ∷ []) (fits v passed) rows p
  batch_keeps fits (v ∷ w ∷ rest) rows p e =
      let parts = none_of (range_kinds 1 1 (length (v ∷ w ∷ rest))) _ e in
      let one = one_value (length (v ∷ w ∷ rest)) parts.0 in
      absurd (omega arith)

  abbrev RoundsFit : Type 0
  RoundsFit = (v : Text) → IsInRange 0 1000 v → Fits id how Passes (new_row (codes "rounds") WithoutMinus CommandLine (v ∷ []))

  rounds_keep : RoundsFit → Keeps false (AllFit id how Passes) rounds_rule
  rounds_keep fit [] rows p e = absurd (cc)
  rounds_keep fit (v ∷ []) rows p e =
      let parts = none_of _ _ e in
      let passed = accepted (is_signed_in (pos 0) (pos 1000) v) kind.ValueValidation [] parts.1 in
      use_keeps id how Passes (codes "rounds") WithoutMinus CommandLine (v ∷ []) (fit v passed) rows p
  rounds_keep fit (v ∷ w ∷ rest) rows p e =
      let parts = none_of (range_kinds 1 1 (length (v ∷ w ∷ rest))) _ e in
      let one = one_value (length (v ∷ w ∷ rest)) parts.0 in
      absurd (omega arith)

  abbrev FlagFits : Text → Type 0
  FlagFits name = Fits id how Passes (new_row name AsWritten CommandLine (codes "true" ∷ []))

  flag_keeps : (name : Text) → FlagFits name → Keeps false (AllFit id how Passes) (flag_rule name)
  flag_keeps name fits [] rows p e = use_keeps id how Passes name AsWritten CommandLine (codes "true" ∷ []) fits rows p
  flag_keeps name fits (v ∷ rest) rows p e =
      let parts = none_of (range_kinds 0 0 (length (v ∷ rest))) _ e in
      let none = no_value (length (v ∷ rest)) parts.0 in
      absurd (omega arith)

  -- a path is any text
  abbrev PathFits : Text → Type 0
  PathFits name = (v : Text) → Fits id how Passes (new_row name AsWritten CommandLine (v ∷ []))

  log_keeps : PathFits (codes "log") → Keeps false (AllFit id how Passes) log_rule
  log_keeps fits [] rows p e = absurd (cc)
  log_keeps fits (v ∷ []) rows p e = use_keeps id how Passes (codes "log") AsWritten CommandLine (v ∷ []) (fits v) rows p
  log_keeps fits (v ∷ w ∷ rest) rows p e =
      let parts = none_of (range_kinds 1 1 (length (v ∷ w ∷ rest))) _ e in
      let one = one_value (length (v ∷ w ∷ rest)) parts.0 in
      absurd (omega arith)

  file_keeps : PathFits (codes "file") → Keeps false (AllFit id how Passes) file_rule
  file_keeps fits [] rows p e = absurd (cc)
  file_keeps fits (v ∷ []) rows p e = use_keeps id how Passes (codes "file") AsWritten CommandLine (v ∷ []) (fits v) rows p
  file_keeps fits (v ∷ w ∷ rest) rows p e =
      let parts = none_of (range_kinds 1 1 (length (v ∷ w ∷ rest))) _ e in
      let one = one_value (length (v ∷ w ∷ rest)) parts.0 in
      absurd (omega arith)

  help_keeps : Keeps false (AllFit id how Passes) help_rule
  help_keeps values rows p e =
      let parts = none_of (range_kinds 0 0 (length values)) (kind.DisplayHelp ∷ []) e in
      let bad : kind.DisplayHelp ∷ [] ≡ [] = parts.1 in
      absurd (cc)

  -- the flags of both runs, and that of one of them
  abbrev RunFlagsFit : Type 0
  RunFlagsFit = FlagFits (codes "closed") × FlagFits (codes "why") × FlagFits (codes "diff") × FlagFits (codes "json")

  replay_uses : BatchFits → RunFlagsFit → FlagFits (codes "dry") → Each (Keeps false (AllFit id how Passes)) replay_leaf.rules
  replay_uses batch_fits flags dry_fits = (
    batch_keeps batch_fits,
    (
      flag_keeps (codes "closed") flags.0,
      (
        flag_keeps (codes "why") flags.1,
        (
          flag_keeps (codes "diff") flags.2,
          (
            flag_keeps (codes "json") flags.3,
            (flag_keeps (codes "dry") dry_fits, (help_keeps, tt)),
          ),
        ),
      ),
    ),
  )

  run_uses : BatchFits → RoundsFit → RunFlagsFit → Each (Keeps false (AllFit id how Passes)) run_leaf.rules
  run_uses batch_fits rounds_fit flags = (
    batch_keeps batch_fits,
    (
      rounds_keep rounds_fit,
      (
        flag_keeps (codes "closed") flags.0,
        (
          flag_keeps (codes "why") flags.1,
          (
            flag_keeps (codes "diff") flags.2,
            (flag_keeps (codes "json") flags.3, (help_keeps, tt)),
          ),
        ),
      ),
    ),
  )

  session_uses : PathFits (codes "log") → FlagFits (codes "existing") → Each (Keeps false (AllFit id how Passes)) session_leaf.rules
  session_uses log_fits existing_fits = (log_keeps log_fits, (flag_keeps (codes "existing") existing_fits, (help_keeps, tt)))

-- the rows of a level before its defaults
abbrev rows_of : Shape → List Text → List Row
rows_of s words = (settled s.rules (walk s.rules [] nothing_held words).held).rows

words_fit : (s : Shape) (P : List Row → Type 0) → Each (Keeps s.args_override_self P) s.rules → P [] → (words : List Text)
    → level_fault s [] nothing_held words false [] ≡ [] → P (rows_of s words)
words_fit s P uses empty words e =
    let end = (walk s.rules [] nothing_held words).held in
    let steps = none_of (walk_fault s [] (walk_from nothing_held) words) _ e in
    let ends = none_of (settle_fault s.rules s.args_override_self end) _ steps.1 in
    settles s [] P uses end (walk_keeps s [] P uses words (walk_from nothing_held) empty steps.0) ends.0

-- ---- the rows of one option

abbrev pub IsTrueText : Text → Type 0
IsTrueText v = v ≡ codes "true"

-- a number in the range from the words, or 16
abbrev pub HasBatch : List Row → Type 0
HasBatch = HasRow (codes "batch") WithoutMinus (IsInRange 1 10000) (codes "16")

-- a number in the range from the words, or 8
abbrev pub HasRounds : List Row → Type 0
HasRounds = HasRow (codes "rounds") WithoutMinus (IsInRange 0 1000) (codes "8")

-- no row, as of an option that a subcommand doesn't take
abbrev pub HasNoRow : Text → List Row → Type 0
HasNoRow name rows = find (λ x. bytes_eq x.id name) rows ≡ None

-- `true` from the words, or `false`
abbrev pub HasFlag : Text → List Row → Type 0
HasFlag name = HasRow name AsWritten IsTrueText (codes "false")

abbrev FitBatch : List Row → Type 0
FitBatch = AllFit (codes "batch") WithoutMinus (IsInRange 1 10000)

abbrev FitRounds : List Row → Type 0
FitRounds = AllFit (codes "rounds") WithoutMinus (IsInRange 0 1000)

abbrev FitNoRounds : List Row → Type 0
FitNoRounds = AllFit (codes "rounds") WithoutMinus (λ _. ⊥)

abbrev FitFlag : Text → List Row → Type 0
FitFlag name = AllFit name AsWritten IsTrueText

abbrev FitNoFlag : Text → List Row → Type 0
FitNoFlag name = AllFit name AsWritten (λ _. ⊥)

-- any text from the words
abbrev pub FitPath : Text → List Row → Type 0
FitPath name = AllFit name AsWritten (λ _. ⊤)

-- the uses of a subcommand's options keep the property
abbrev Uses : Shape → (List Row → Type 0) → Type 0
Uses s P = Each (Keeps false P) s.rules

batch_uses : Uses replay_leaf FitBatch × Uses run_leaf FitBatch
batch_uses = (
  replay_uses (codes "batch") WithoutMinus (IsInRange 1 10000) (λ v passed same. (v, refl, refl, refl, passed)) (λ same. absurd (cc), λ same. absurd (cc), λ same. absurd (cc), λ same. absurd (cc)) (λ same. absurd (cc)),
  run_uses (codes "batch") WithoutMinus (IsInRange 1 10000) (λ v passed same. (v, refl, refl, refl, passed)) (λ v passed same. absurd (cc)) (λ same. absurd (cc), λ same. absurd (cc), λ same. absurd (cc), λ same. absurd (cc)),
)

rounds_uses : Uses replay_leaf FitNoRounds × Uses run_leaf FitRounds
rounds_uses = (
  replay_uses (codes "rounds") WithoutMinus (λ _. ⊥) (λ v passed same. absurd (cc)) (λ same. absurd (cc), λ same. absurd (cc), λ same. absurd (cc), λ same. absurd (cc)) (λ same. absurd (cc)),
  run_uses (codes "rounds") WithoutMinus (IsInRange 0 1000) (λ v passed same. absurd (cc)) (λ v passed same. (v, refl, refl, refl, passed)) (λ same. absurd (cc), λ same. absurd (cc), λ same. absurd (cc), λ same. absurd (cc)),
)

closed_uses : Uses replay_leaf (FitFlag (codes "closed")) × Uses run_leaf (FitFlag (codes "closed"))
closed_uses = (
  replay_uses (codes "closed") AsWritten IsTrueText (λ v passed same. absurd (cc)) (λ same. (codes "true", refl, refl, refl, refl), λ same. absurd (cc), λ same. absurd (cc), λ same. absurd (cc)) (λ same. absurd (cc)),
  run_uses (codes "closed") AsWritten IsTrueText (λ v passed same. absurd (cc)) (λ v passed same. absurd (cc)) (λ same. (codes "true", refl, refl, refl, refl), λ same. absurd (cc), λ same. absurd (cc), λ same. absurd (cc)),
)

why_uses : Uses replay_leaf (FitFlag (codes "why")) × Uses run_leaf (FitFlag (codes "why"))
why_uses = (
  replay_uses (codes "why") AsWritten IsTrueText (λ v passed same. absurd (cc)) (λ same. absurd (cc), λ same. (codes "true", refl, refl, refl, refl), λ same. absurd (cc), λ same. absurd (cc)) (λ same. absurd (cc)),
  run_uses (codes "why") AsWritten IsTrueText (λ v passed same. absurd (cc)) (λ v passed same. absurd (cc)) (λ same. absurd (cc), λ same. (codes "true", refl, refl, refl, refl), λ same. absurd (cc), λ same. absurd (cc)),
)

diff_uses : Uses replay_leaf (FitFlag (codes "diff")) × Uses run_leaf (FitFlag (codes "diff"))
diff_uses = (
  replay_uses (codes "diff") AsWritten IsTrueText (λ v passed same. absurd (cc)) (λ same. absurd (cc), λ same. absurd (cc), λ same. (codes "true", refl, refl, refl, refl), λ same. absurd (cc)) (λ same. absurd (cc)),
  run_uses (codes "diff") AsWritten IsTrueText (λ v passed same. absurd (cc)) (λ v passed same. absurd (cc)) (λ same. absurd (cc), λ same. absurd (cc), λ same. (codes "true", refl, refl, refl, refl), λ same. absurd (cc)),
)

json_uses : Uses replay_leaf (FitFlag (codes "json")) × Uses run_leaf (FitFlag (codes "json"))
json_uses = (
  replay_uses (codes "json") AsWritten IsTrueText (λ v passed same. absurd (cc)) (λ same. absurd (cc), λ same. absurd (cc), λ same. absurd (cc), λ same. (codes "true", refl, refl, refl, refl)) (λ same. absurd (cc)),
  run_uses (codes "json") AsWritten IsTrueText (λ v passed same. absurd (cc)) (λ v passed same. absurd (cc)) (λ same. absurd (cc), λ same. absurd (cc), λ same. absurd (cc), λ same. (codes "true", refl, refl, refl, refl)),
)

dry_uses : Uses replay_leaf (FitFlag (codes "dry")) × Uses run_leaf (FitNoFlag (codes "dry"))
dry_uses = (
  replay_uses (codes "dry") AsWritten IsTrueText (λ v passed same. absurd (cc)) (λ same. absurd (cc), λ same. absurd (cc), λ same. absurd (cc), λ same. absurd (cc)) (λ same. (codes "true", refl, refl, refl, refl)),
  run_uses (codes "dry") AsWritten (λ _. ⊥) (λ v passed same. absurd (cc)) (λ v passed same. absurd (cc)) (λ same. absurd (cc), λ same. absurd (cc), λ same. absurd (cc), λ same. absurd (cc)),
)

path_uses : Uses session_leaf (FitPath (codes "log")) × Uses log_leaf (FitPath (codes "file"))
path_uses = (
  session_uses (codes "log") AsWritten (λ _. ⊤) (λ v same. (v, refl, refl, refl, tt)) (λ same. absurd (cc)),
  (file_keeps (codes "file") AsWritten (λ _. ⊤) (λ v same. (v, refl, refl, refl, tt)), (help_keeps (codes "file") AsWritten (λ _. ⊤), tt)),
)

existing_uses : Uses session_leaf (FitFlag (codes "existing"))
existing_uses = session_uses (codes "existing") AsWritten IsTrueText (λ v same. absurd (cc)) (λ same. (codes "true", refl, refl, refl, refl))

same_rows : {X : Type 0} (P : X → Type 0) (b : Bool) (rows : X) → P rows → P (cond b rows rows)
same_rows P true rows p = p
same_rows P false rows p = p

-- ---- the defaults

abbrev batch_default : Default
batch_default = (codes "batch", WithoutMinus, codes "16" ∷ [])

abbrev rounds_default : Default
rounds_default = (codes "rounds", WithoutMinus, codes "8" ∷ [])

abbrev flag_default : Text → Default
flag_default name = (name, AsWritten, codes "false" ∷ [])

abbrev replay_defaults : List Default
replay_defaults =
    batch_default ∷ flag_default (codes "closed") ∷ flag_default (codes "why") ∷ flag_default (codes "diff") ∷ flag_default (codes "json")
    ∷ flag_default (codes "dry") ∷ []

abbrev run_defaults : List Default
run_defaults =
    batch_default ∷ rounds_default ∷ flag_default (codes "closed") ∷ flag_default (codes "why") ∷ flag_default (codes "diff")
    ∷ flag_default (codes "json") ∷ []

-- ---- one level

-- `replay` was entered, and has a row for each of its options
abbrev pub HasReplay : Text → List Row → Type 0
HasReplay name rows = (name ≡ codes "replay") × HasBatch rows × HasFlag (codes "closed") rows × HasFlag (codes "why") rows
    × HasFlag (codes "diff") rows × HasFlag (codes "json") rows × HasFlag (codes "dry") rows × HasNoRow (codes "rounds") rows

-- `run` was entered, and has a row for each of its options
abbrev pub HasRun : Text → List Row → Type 0
HasRun name rows = (name ≡ codes "run") × HasBatch rows × HasFlag (codes "closed") rows × HasFlag (codes "why") rows
    × HasFlag (codes "diff") rows × HasFlag (codes "json") rows × HasNoRow (codes "dry") rows × HasRounds rows

-- `replay` or `run` was entered, and has a row for each of its options
abbrev pub HasOptions : Text → List Row → Type 0
HasOptions name rows = HasReplay name rows ⊎ HasRun name rows

-- `session` was entered, and has a row for `--log` where that is given, and one for `--existing`
abbrev pub HasSession : Text → List Row → Type 0
HasSession name rows = (name ≡ codes "session") × FitPath (codes "log") rows × HasFlag (codes "existing") rows

-- `log` was entered, and has a row for its argument
abbrev pub HasLog : Text → List Row → Type 0
HasLog name rows = (name ≡ codes "log") × FitPath (codes "file") rows × (is_given (codes "file") rows ≡ true)

-- one of them was entered
abbrev pub HasCommand : Text → List Row → Type 0
HasCommand name rows = HasOptions name rows ⊎ (HasSession name rows ⊎ HasLog name rows)

pub batch_of : (name : Text) (rows : List Row) → HasOptions name rows → HasBatch rows
batch_of name rows has = elim has [ inl replay ↦ replay.1 | inr run ↦ run.1 ]

pub closed_of : (name : Text) (rows : List Row) → HasOptions name rows → HasFlag (codes "closed") rows
closed_of name rows has = elim has [ inl replay ↦ replay.2 | inr run ↦ run.2 ]

pub why_of : (name : Text) (rows : List Row) → HasOptions name rows → HasFlag (codes "why") rows
why_of name rows has = elim has [ inl replay ↦ replay.3 | inr run ↦ run.3 ]

pub diff_of : (name : Text) (rows : List Row) → HasOptions name rows → HasFlag (codes "diff") rows
diff_of name rows has = elim has [ inl replay ↦ replay.4 | inr run ↦ run.4 ]

pub json_of : (name : Text) (rows : List Row) → HasOptions name rows → HasFlag (codes "json") rows
json_of name rows has = elim has [ inl replay ↦ replay.5 | inr run ↦ run.5 ]

pub dry_of : (name : Text) (rows : List Row) → HasOptions name rows → HasFlag (codes "dry") rows ⊎ HasNoRow (codes "dry") rows
dry_of name rows has = elim has [ inl replay ↦ inl replay.6 | inr run ↦ inr run.6 ]

pub rounds_of : (name : Text) (rows : List Row) → HasOptions name rows → HasRounds rows ⊎ HasNoRow (codes "rounds") rows
rounds_of name rows has = elim has [ inl replay ↦ inr replay.7 | inr run ↦ inl run.7 ]

replay_has : (rows : List Row) → FitBatch rows → FitFlag (codes "closed") rows → FitFlag (codes "why") rows → FitFlag (codes "diff") rows
    → FitFlag (codes "json") rows → FitFlag (codes "dry") rows → FitNoRounds rows → HasReplay (codes "replay") (after_defaults replay_defaults rows)
replay_has rows batch_fit closed_fit why_fit diff_fit json_fit dry_fit none_fit = (
  refl,
  defaults_have (codes "batch") WithoutMinus (IsInRange 1 10000) (codes "16") refl [] (flag_default (codes "closed") ∷ flag_default (codes "why") ∷ flag_default (codes "diff") ∷ flag_default (codes "json") ∷ flag_default (codes "dry") ∷ []) tt rows batch_fit,
  defaults_have (codes "closed") AsWritten IsTrueText (codes "false") refl (batch_default ∷ []) (flag_default (codes "why") ∷ flag_default (codes "diff") ∷ flag_default (codes "json") ∷ flag_default (codes "dry") ∷ []) ((λ same. absurd (cc)), tt) rows closed_fit,
  defaults_have (codes "why") AsWritten IsTrueText (codes "false") refl (batch_default ∷ flag_default (codes "closed") ∷ []) (flag_default (codes "diff") ∷ flag_default (codes "json") ∷ flag_default (codes "dry") ∷ []) ((λ same. absurd (cc)), ((λ same. absurd (cc)), tt)) rows why_fit,
  defaults_have (codes "diff") AsWritten IsTrueText (codes "false") refl (batch_default ∷ flag_default (codes "closed") ∷ flag_default (codes "why") ∷ []) (flag_default (codes "json") ∷ flag_default (codes "dry") ∷ []) ((λ same. absurd (cc)), ((λ same. absurd (cc)), ((λ same. absurd (cc)), tt))) rows diff_fit,
  defaults_have (codes "json") AsWritten IsTrueText (codes "false") refl (batch_default ∷ flag_default (codes "closed") ∷ flag_default (codes "why") ∷ flag_default (codes "diff") ∷ []) (flag_default (codes "dry") ∷ []) ((λ same. absurd (cc)), ((λ same. absurd (cc)), ((λ same. absurd (cc)), ((λ same. absurd (cc)), tt)))) rows json_fit,
  defaults_have (codes "dry") AsWritten IsTrueText (codes "false") refl (batch_default ∷ flag_default (codes "closed") ∷ flag_default (codes "why") ∷ flag_default (codes "diff") ∷ flag_default (codes "json") ∷ []) [] ((λ same. absurd (cc)), ((λ same. absurd (cc)), ((λ same. absurd (cc)), ((λ same. absurd (cc)), ((λ same. absurd (cc)), tt))))) rows dry_fit,
  none_has (codes "rounds") WithoutMinus (after_defaults replay_defaults rows)
      (defaults_keep (codes "rounds") WithoutMinus (λ _. ⊥) replay_defaults ((λ same. absurd (cc)), ((λ same. absurd (cc)), ((λ same. absurd (cc)), ((λ same. absurd (cc)), ((λ same. absurd (cc)), ((λ same. absurd (cc)), tt)))))) rows none_fit),
)

run_has : (rows : List Row) → FitBatch rows → FitRounds rows → FitFlag (codes "closed") rows → FitFlag (codes "why") rows
    → FitFlag (codes "diff") rows → FitFlag (codes "json") rows → FitNoFlag (codes "dry") rows → HasRun (codes "run") (after_defaults run_defaults rows)
run_has rows batch_fit rounds_fit closed_fit why_fit diff_fit json_fit none_fit = (
  refl,
  defaults_have (codes "batch") WithoutMinus (IsInRange 1 10000) (codes "16") refl [] (rounds_default ∷ flag_default (codes "closed") ∷ flag_default (codes "why") ∷ flag_default (codes "diff") ∷ flag_default (codes "json") ∷ []) tt rows batch_fit,
  defaults_have (codes "closed") AsWritten IsTrueText (codes "false") refl (batch_default ∷ rounds_default ∷ []) (flag_default (codes "why") ∷ flag_default (codes "diff") ∷ flag_default (codes "json") ∷ []) ((λ same. absurd (cc)), ((λ same. absurd (cc)), tt)) rows closed_fit,
  defaults_have (codes "why") AsWritten IsTrueText (codes "false") refl (batch_default ∷ rounds_default ∷ flag_default (codes "closed") ∷ []) (flag_default (codes "diff") ∷ flag_default (codes "json") ∷ []) ((λ same. absurd (cc)), ((λ same. absurd (cc)), ((λ same. absurd (cc)), tt))) rows why_fit,
  defaults_have (codes "diff") AsWritten IsTrueText (codes "false") refl (batch_default ∷ rounds_default ∷ flag_default (codes "closed") ∷ flag_default (codes "why") ∷ []) (flag_default (codes "json") ∷ []) ((λ same. absurd (cc)), ((λ same. absurd (cc)), ((λ same. absurd (cc)), ((λ same. absurd (cc)), tt)))) rows diff_fit,
  defaults_have (codes "json") AsWritten IsTrueText (codes "false") refl (batch_default ∷ rounds_default ∷ flag_default (codes "closed") ∷ flag_default (codes "why") ∷ flag_default (codes "diff") ∷ []) [] ((λ same. absurd (cc)), ((λ same. absurd (cc)), ((λ same. absurd (cc)), ((λ same. absurd (cc)), ((λ same. absurd (cc)), tt))))) rows json_fit,
  none_has (codes "dry") AsWritten (after_defaults run_defaults rows)
      (defaults_keep (codes "dry") AsWritten (λ _. ⊥) run_defaults ((λ same. absurd (cc)), ((λ same. absurd (cc)), ((λ same. absurd (cc)), ((λ same. absurd (cc)), ((λ same. absurd (cc)), ((λ same. absurd (cc)), tt)))))) rows none_fit),
  defaults_have (codes "rounds") WithoutMinus (IsInRange 0 1000) (codes "8") refl (batch_default ∷ []) (flag_default (codes "closed") ∷ flag_default (codes "why") ∷ flag_default (codes "diff") ∷ flag_default (codes "json") ∷ []) ((λ same. absurd (cc)), tt) rows rounds_fit,
)

at_replay : (words : List Text) → level_fault replay_leaf [] nothing_held words false [] ≡ [] → HasOptions (codes "replay") (rows_after replay_leaf.rules [] words)
at_replay words e =
    let rows = rows_of replay_leaf words in
    let batch_fit = words_fit replay_leaf FitBatch batch_uses.0 tt words e in
    let closed_fit = words_fit replay_leaf (FitFlag (codes "closed")) closed_uses.0 tt words e in
    let why_fit = words_fit replay_leaf (FitFlag (codes "why")) why_uses.0 tt words e in
    let diff_fit = words_fit replay_leaf (FitFlag (codes "diff")) diff_uses.0 tt words e in
    let json_fit = words_fit replay_leaf (FitFlag (codes "json")) json_uses.0 tt words e in
    let dry_fit = words_fit replay_leaf (FitFlag (codes "dry")) dry_uses.0 tt words e in
    let none_fit = words_fit replay_leaf FitNoRounds rounds_uses.0 tt words e in
    let last = after_defaults replay_defaults rows in
    same_rows (HasOptions (codes "replay")) (has_row (codes "help") last) last (inl (replay_has rows batch_fit closed_fit why_fit diff_fit json_fit dry_fit none_fit))

at_run : (words : List Text) → level_fault run_leaf [] nothing_held words false [] ≡ [] → HasOptions (codes "run") (rows_after run_leaf.rules [] words)
at_run words e =
    let rows = rows_of run_leaf words in
    let batch_fit = words_fit run_leaf FitBatch batch_uses.1 tt words e in
    let rounds_fit = words_fit run_leaf FitRounds rounds_uses.1 tt words e in
    let closed_fit = words_fit run_leaf (FitFlag (codes "closed")) closed_uses.1 tt words e in
    let why_fit = words_fit run_leaf (FitFlag (codes "why")) why_uses.1 tt words e in
    let diff_fit = words_fit run_leaf (FitFlag (codes "diff")) diff_uses.1 tt words e in
    let json_fit = words_fit run_leaf (FitFlag (codes "json")) json_uses.1 tt words e in
    let none_fit = words_fit run_leaf (FitNoFlag (codes "dry")) dry_uses.1 tt words e in
    let last = after_defaults run_defaults rows in
    same_rows (HasOptions (codes "run")) (has_row (codes "help") last) last (inr (run_has rows batch_fit rounds_fit closed_fit why_fit diff_fit json_fit none_fit))

at_session : (words : List Text) → level_fault session_leaf [] nothing_held words false [] ≡ [] → HasSession (codes "session") (rows_after session_leaf.rules [] words)
at_session words e =
    let rows = rows_of session_leaf words in
    let fit = words_fit session_leaf (FitPath (codes "log")) path_uses.0 tt words e in
    let existing_fit = words_fit session_leaf (FitFlag (codes "existing")) existing_uses tt words e in
    let first = with_default rows log_rule in
    let last = with_default first (flag_rule (codes "existing")) in
    let fit_first = same_rows (FitPath (codes "log")) (has_row (codes "log") rows) rows fit in
    let existing_first = same_rows (FitFlag (codes "existing")) (has_row (codes "log") rows) rows existing_fit in
    let fit_last = default_keeps (codes "log") AsWritten (λ _. ⊤) (codes "existing") AsWritten (codes "false" ∷ []) (λ same. absurd (cc)) first fit_first in
    same_rows (HasSession (codes "session")) (has_row (codes "help") last) last (refl, fit_last, default_has (codes "existing") AsWritten IsTrueText (codes "false") refl first existing_first)

needs_file : (rows : List Row) → check_fault log_leaf rows false ≡ [] → is_given (codes "file") rows ≡ true
needs_file rows e = go (is_given (codes "file") rows) refl e
  where
    go : (given : Bool) → is_given (codes "file") rows ≡ given → check_kinds false false (not given || false) ≡ [] → is_given (codes "file") rows ≡ true
    go true is f = is
    go false is f = absurd (cc)

at_log : (words : List Text) → level_fault log_leaf [] nothing_held words false [] ≡ [] → HasLog (codes "log") (rows_after log_leaf.rules [] words)
at_log words e =
    let end = (walk log_leaf.rules [] nothing_held words).held in
    let rows = rows_of log_leaf words in
    let fit = words_fit log_leaf (FitPath (codes "file")) path_uses.1 tt words e in
    let first = with_default rows file_rule in
    let steps = none_of (walk_fault log_leaf [] (walk_from nothing_held) words) _ e in
    let ends = none_of (settle_fault log_leaf.rules log_leaf.args_override_self end) _ steps.1 in
    let checks = none_of (defaults_fault (settled log_leaf.rules end).rows log_leaf.rules) _ ends.1 in (
      refl,
      same_rows (FitPath (codes "file")) (has_row (codes "help") first) first (same_rows (FitPath (codes "file")) (has_row (codes "file") rows) rows fit),
      needs_file (finished log_leaf.rules end) checks.1,
    )

-- ---- the subcommand

abbrev label : Text → Text × List Text
label text = (text, [])

abbrev IsSubcommand : Text → Type 0
IsSubcommand name = (name ≡ codes "replay") ⊎ ((name ≡ codes "run") ⊎ ((name ≡ codes "session") ⊎ (name ≡ codes "log")))

abbrev label_met : Bool → Bool → Bool → Bool → Bool → Option (Text × List Text)
label_met replay run session log help =
    cond replay (Some (label (codes "replay"))) (cond run (Some (label (codes "run")))
    (cond session (Some (label (codes "session"))) (cond log (Some (label (codes "log"))) (cond help (Some (label (codes "help"))) None))))

enters_one : (waiting : Waiting) (word name : Text) (h : Held) → subcommand_met (names_of (built command_line)) waiting word ≡ Some name
    → other_fault top (Some name) word h ≡ [] → IsSubcommand name
enters_one idle word name h met e =
    go (answers_to word (label (codes "replay"))) (answers_to word (label (codes "run"))) (answers_to word (label (codes "session")))
    (answers_to word (label (codes "log"))) (answers_to word (label (codes "help"))) met
  where
    go : (b c d l f : Bool) → option_map (λ s. s.0) (label_met b c d l f) ≡ Some name → IsSubcommand name
    go true c d l f g = inl (cc)
    go false true d l f g = inr (inl (cc))
    go false false true l f g = inr (inr (inl (cc)))
    go false false false true f g = inr (inr (inr (cc)))
    go false false false false true g =
        let same : name ≡ codes "help" = cc in
        let bad : kind.DisplayHelp ∷ kind.InvalidSubcommand ∷ [] ≡ [] = subst (λ (x : Text). other_fault top (Some x) word h ≡ []) same e in
        absurd (cc)
    go false false false false false g = absurd (cc)
enters_one (option waits) word name h met e = absurd (cc)
enters_one positional word name h met e = absurd (cc)

needs_subcommand : (rows : List Row) (has : Bool) → check_fault top rows has ≡ [] → has ≡ true
needs_subcommand rows true e = refl
needs_subcommand rows false e = absurd (cc)

abbrev Takes : Option (Text × List Row) → Type 0
Takes sub = (name : Text) × (rows : List Row) × (sub ≡ Some (name, rows)) × HasCommand name rows

abbrev TakesAt : Text → List Text → Type 0
TakesAt name rest = entered_fault (built command_line) (Some (name, rest)) ≡ [] → Takes (entered (built command_line) (Some (name, rest)))

takes_at : (name : Text) (rest : List Text) → IsSubcommand name → TakesAt name rest
takes_at name rest is = elim is [
  | inl replay ↦
      subst (λ (x : Text). TakesAt x rest) (sym replay) (λ e. (codes "replay", rows_after replay_leaf.rules [] rest, refl, inl (at_replay rest e)))
  | inr (inl run) ↦
      subst (λ (x : Text). TakesAt x rest) (sym run) (λ e. (codes "run", rows_after run_leaf.rules [] rest, refl, inl (at_run rest e)))
  | inr (inr (inl session)) ↦
      subst (λ (x : Text). TakesAt x rest) (sym session) (λ e. (codes "session", rows_after session_leaf.rules [] rest, refl, inr (inl (at_session rest e))))
  | inr (inr (inr log)) ↦
      subst (λ (x : Text). TakesAt x rest) (sym log) (λ e. (codes "log", rows_after log_leaf.rules [] rest, refl, inr (inr (at_log rest e))))
]

at_stop : (stop : Option (Text × List Text)) → StopsAt IsSubcommand stop → is_some (entered (built command_line) stop) ≡ true
    → entered_fault (built command_line) stop ≡ [] → Takes (entered (built command_line) stop)
at_stop None at has e = absurd (cc)
at_stop (Some p) at has e = takes_at p.0 p.1 at e

-- words that the command line takes enter a subcommand, which has a row of each of its options
pub takes_one : (words : List Text) → fault_of command_line words ≡ [] → Takes (subcommand_of command_line words)
takes_one words e =
    let after = drop 1 words in
    let names = names_of (built command_line) in
    let stop = (walk top.rules names nothing_held after).stopped in
    let steps = none_of (walk_fault top names (walk_from nothing_held) after) _ e in
    let below = none_of (entered_fault (built command_line) stop) _ steps.1 in
    let ends = none_of (settle_fault top.rules false (walk top.rules names nothing_held after).held) _ below.1 in
    let checks = none_of (defaults_fault (settled top.rules (walk top.rules names nothing_held after).held).rows top.rules) _ ends.1 in
    at_stop stop (walk_stops top names IsSubcommand enters_one after (walk_from nothing_held) tt steps.0)
    (needs_subcommand (finished top.rules (walk top.rules names nothing_held after).held) (is_some (entered (built command_line) stop)) checks.1) below.0
