use Rattle.std.proofs.Common.{None, Some, [], ◌≡◌, ◌≢◌, ◌∙◌, ap, arith, codes, false, map, refl, rules, string_bytes, subst, sym, true, unwrap_or}
use Rattle.clap.specs.Words.{App, HasKind, app_of, fault_of}
use Rattle.tt_cli.specs.declared.command_line.Cli.TheVariants as commands
use Rattle.tt_cli.specs.CommandLine.{command_line}
use Rattle.tt_cli.proofs.CommandLemmas.{never_without, path_is, has_kind, has_log, has_session, name_as, batch_is, batch_read, closed_is, why_is, diff_is, dry_is, json_is, command_is, enters_one, existing_is, faultless_as, faultless_on, faultless_without, faulty, has_options, is_replay, is_simple_command, never_none, rounds_are, rounds_read}
use Rattle.tt_cli.proofs.NumberLemmas.{ReadsRounds}
use Rattle.tt_cli.proofs.command_line.command_of.Goals as goal

pub returns-in_err-matches-clause-kinds : goal.returns-in_err-matches-clause-kinds
returns-in_err-matches-clause-kinds c =
    let line_is : app_of c.in_ok-command.command ≡ command_line = c.in_ok-command.ensures in
    let words = map string_bytes c.args.words.now in
    let kinds = subst (λ (a : App). HasKind (fault_of a words) c.in_err-matches.field-0.0)
    line_is (c.in_err-matches.ensures.kinds (is_simple_command (app_of c.in_ok-command.command) line_is)) in
    let all = has_kind words c.in_err-matches.field-0.0 kinds in
    search rules

pub unreachable-requires : goal.unreachable-requires
unreachable-requires c =
    let line_is : app_of c.in_ok-command.command ≡ command_line = c.in_ok-command.ensures in
    let words = map string_bytes c.args.words.now in
    let passes = c.in_ok-matches.ensures.kinds (is_simple_command (app_of c.in_ok-command.command) line_is) in
    let enters = enters_one (app_of c.in_ok-command.command) words c.in_ok-matches.matches line_is passes c.in_ok-matches.ensures.matches in
    never_none words c.in_ok-matches.matches enters c.in_default.ensures.rows

pub returns-in-Some-get_str-clause-kinds : goal.returns-in-Some-get_str-clause-kinds
returns-in-Some-get_str-clause-kinds c =
    let line_is : app_of c.in_ok-command.command ≡ command_line = c.in_ok-command.ensures in
    let words = map string_bytes c.args.words.now in
    let passes = c.in_ok-matches.ensures.kinds (is_simple_command (app_of c.in_ok-command.command) line_is) in
    let enters = enters_one (app_of c.in_ok-command.command) words c.in_ok-matches.matches line_is passes c.in_ok-matches.ensures.matches in
    let clap_passes : fault_of command_line words ≡ [] = sym (ap (λ (a : App). fault_of a words) line_is) ∙ passes in
    let name = c.in-Some.name.now in
    let is : name ≡ codes "session" = search rules in
    let session = has_session words c.in_ok-matches.matches enters name c.in-Some.ensures.name is in
    let flag = c.get_flag-must_exist in
    let flag_is = existing_is words c.in_ok-matches.matches enters c.in-Some.given.now c.in-Some.ensures.rows session flag.result flag.ensures.value flag.ensures.other in
    let path = c.in-Some-get_str.path in
    let log_is = path_is words c.in_ok-matches.matches enters c.in-Some.given.now c.in-Some.ensures.rows (codes "log") (Some path.now) session.1 c.in-Some-get_str.ensures in
    faultless_on words c.in_ok-matches.matches enters session flag.result flag_is path.now log_is clap_passes

pub returns-in-Some-get_str-clause-command : goal.returns-in-Some-get_str-clause-command
returns-in-Some-get_str-clause-command c =
    let line_is : app_of c.in_ok-command.command ≡ command_line = c.in_ok-command.ensures in
    let words = map string_bytes c.args.words.now in
    let passes = c.in_ok-matches.ensures.kinds (is_simple_command (app_of c.in_ok-command.command) line_is) in
    let enters = enters_one (app_of c.in_ok-command.command) words c.in_ok-matches.matches line_is passes c.in_ok-matches.ensures.matches in
    let name = c.in-Some.name.now in
    let is : name ≡ codes "session" = search rules in
    let session = has_session words c.in_ok-matches.matches enters name c.in-Some.ensures.name is in
    let flag = c.get_flag-must_exist in
    let flag_is = existing_is words c.in_ok-matches.matches enters c.in-Some.given.now c.in-Some.ensures.rows session flag.result flag.ensures.value flag.ensures.other in
    let path = c.in-Some-get_str.path in
    let log_is = path_is words c.in_ok-matches.matches enters c.in-Some.given.now c.in-Some.ensures.rows (codes "log") (Some path.now) session.1 c.in-Some-get_str.ensures in
    command_is words c.in_ok-matches.matches enters (commands.LoggedSession path flag.result) (session.0, log_is, flag_is)

pub returns-then-must_exist-clause-kinds : goal.returns-then-must_exist-clause-kinds
returns-then-must_exist-clause-kinds c =
    let line_is : app_of c.in_ok-command.command ≡ command_line = c.in_ok-command.ensures in
    let words = map string_bytes c.args.words.now in
    let passes = c.in_ok-matches.ensures.kinds (is_simple_command (app_of c.in_ok-command.command) line_is) in
    let enters = enters_one (app_of c.in_ok-command.command) words c.in_ok-matches.matches line_is passes c.in_ok-matches.ensures.matches in
    let clap_passes : fault_of command_line words ≡ [] = sym (ap (λ (a : App). fault_of a words) line_is) ∙ passes in
    let name = c.in-Some.name.now in
    let is : name ≡ codes "session" = search rules in
    let session = has_session words c.in_ok-matches.matches enters name c.in-Some.ensures.name is in
    let flag = c.get_flag-must_exist in
    let flag_is = existing_is words c.in_ok-matches.matches enters c.in-Some.given.now c.in-Some.ensures.rows session flag.result flag.ensures.value flag.ensures.other in
    let log_is = path_is words c.in_ok-matches.matches enters c.in-Some.given.now c.in-Some.ensures.rows (codes "log") None session.1 c.in_default-get_str.ensures in
    let on : flag.result ≡ true = search rules in
    faulty words c.in_ok-matches.matches enters session flag.result flag_is log_is on clap_passes c.in_ok-missing_log.field-0 c.in_ok-missing_log.ensures

pub returns-then-eq-clause-kinds : goal.returns-then-eq-clause-kinds
returns-then-eq-clause-kinds c =
    let line_is : app_of c.in_ok-command.command ≡ command_line = c.in_ok-command.ensures in
    let words = map string_bytes c.args.words.now in
    let passes = c.in_ok-matches.ensures.kinds (is_simple_command (app_of c.in_ok-command.command) line_is) in
    let enters = enters_one (app_of c.in_ok-command.command) words c.in_ok-matches.matches line_is passes c.in_ok-matches.ensures.matches in
    let clap_passes : fault_of command_line words ≡ [] = sym (ap (λ (a : App). fault_of a words) line_is) ∙ passes in
    let name = c.in-Some.name.now in
    let is : name ≡ codes "session" = search rules in
    let session = has_session words c.in_ok-matches.matches enters name c.in-Some.ensures.name is in
    let flag = c.get_flag-must_exist in
    let flag_is = existing_is words c.in_ok-matches.matches enters c.in-Some.given.now c.in-Some.ensures.rows session flag.result flag.ensures.value flag.ensures.other in
    let log_is = path_is words c.in_ok-matches.matches enters c.in-Some.given.now c.in-Some.ensures.rows (codes "log") None session.1 c.in_default-get_str.ensures in
    let off : flag.result ≡ false = search rules in
    faultless_without words c.in_ok-matches.matches enters session flag.result flag_is log_is off clap_passes

pub returns-then-eq-clause-command : goal.returns-then-eq-clause-command
returns-then-eq-clause-command c =
    let line_is : app_of c.in_ok-command.command ≡ command_line = c.in_ok-command.ensures in
    let words = map string_bytes c.args.words.now in
    let passes = c.in_ok-matches.ensures.kinds (is_simple_command (app_of c.in_ok-command.command) line_is) in
    let enters = enters_one (app_of c.in_ok-command.command) words c.in_ok-matches.matches line_is passes c.in_ok-matches.ensures.matches in
    let name = c.in-Some.name.now in
    let is : name ≡ codes "session" = search rules in
    let session = has_session words c.in_ok-matches.matches enters name c.in-Some.ensures.name is in
    let flag = c.get_flag-must_exist in
    let flag_is = existing_is words c.in_ok-matches.matches enters c.in-Some.given.now c.in-Some.ensures.rows session flag.result flag.ensures.value flag.ensures.other in
    let log_is = path_is words c.in_ok-matches.matches enters c.in-Some.given.now c.in-Some.ensures.rows (codes "log") None session.1 c.in_default-get_str.ensures in
    command_is words c.in_ok-matches.matches enters commands.Session (session.0, log_is)

pub unreachable-requires-in_default-get_str-2 : goal.unreachable-requires-in_default-get_str-2
unreachable-requires-in_default-get_str-2 c =
    let line_is : app_of c.in_ok-command.command ≡ command_line = c.in_ok-command.ensures in
    let words = map string_bytes c.args.words.now in
    let passes = c.in_ok-matches.ensures.kinds (is_simple_command (app_of c.in_ok-command.command) line_is) in
    let enters = enters_one (app_of c.in_ok-command.command) words c.in_ok-matches.matches line_is passes c.in_ok-matches.ensures.matches in
    let name = c.in-Some.name.now in
    let is : name ≡ codes "log" = search rules in
    let log = has_log words c.in_ok-matches.matches enters name c.in-Some.ensures.name is in
    never_without words c.in_ok-matches.matches enters c.in-Some.given.now c.in-Some.ensures.rows (codes "file") log.1 log.2 c.in_default-get_str-2.ensures

pub returns-then-eq-2-clause-kinds : goal.returns-then-eq-2-clause-kinds
returns-then-eq-2-clause-kinds c =
    let line_is : app_of c.in_ok-command.command ≡ command_line = c.in_ok-command.ensures in
    let words = map string_bytes c.args.words.now in
    let passes = c.in_ok-matches.ensures.kinds (is_simple_command (app_of c.in_ok-command.command) line_is) in
    let enters = enters_one (app_of c.in_ok-command.command) words c.in_ok-matches.matches line_is passes c.in_ok-matches.ensures.matches in
    let clap_passes : fault_of command_line words ≡ [] = sym (ap (λ (a : App). fault_of a words) line_is) ∙ passes in
    let name = c.in-Some.name.now in
    let is : name ≡ codes "log" = search rules in
    let log = has_log words c.in_ok-matches.matches enters name c.in-Some.ensures.name is in
    faultless_as words c.in_ok-matches.matches enters (codes "log") log.0 refl clap_passes

pub returns-then-eq-2-clause-command : goal.returns-then-eq-2-clause-command
returns-then-eq-2-clause-command c =
    let line_is : app_of c.in_ok-command.command ≡ command_line = c.in_ok-command.ensures in
    let words = map string_bytes c.args.words.now in
    let passes = c.in_ok-matches.ensures.kinds (is_simple_command (app_of c.in_ok-command.command) line_is) in
    let enters = enters_one (app_of c.in_ok-command.command) words c.in_ok-matches.matches line_is passes c.in_ok-matches.ensures.matches in
    let name = c.in-Some.name.now in
    let is : name ≡ codes "log" = search rules in
    let log = has_log words c.in_ok-matches.matches enters name c.in-Some.ensures.name is in
    let path = c.in-Some-get_str-2.path in
    command_is words c.in_ok-matches.matches enters (commands.Log path)
    (log.0, path_is words c.in_ok-matches.matches enters c.in-Some.given.now c.in-Some.ensures.rows (codes "file") (Some path.now) log.1 c.in-Some-get_str-2.ensures)

pub unreachable-requires-in_default-get_one : goal.unreachable-requires-in_default-get_one
unreachable-requires-in_default-get_one c =
    let line_is : app_of c.in_ok-command.command ≡ command_line = c.in_ok-command.ensures in
    let words = map string_bytes c.args.words.now in
    let passes = c.in_ok-matches.ensures.kinds (is_simple_command (app_of c.in_ok-command.command) line_is) in
    let enters = enters_one (app_of c.in_ok-command.command) words c.in_ok-matches.matches line_is passes c.in_ok-matches.ensures.matches in
    let other : c.in-Some.name.now ≢ codes "session" = search rules in
    let no_log : c.in-Some.name.now ≢ codes "log" = search rules in
    let has = has_options words c.in_ok-matches.matches enters c.in-Some.name.now c.in-Some.ensures.name other no_log in
    let reads = batch_read words c.in_ok-matches.matches enters has c.in-Some.given.now c.in-Some.ensures.rows c.get_one.result c.get_one.ensures.value in
    let is = c.in_default-get_one.is in
    let number = reads.1 in
    cc

pub returns-then-eq-3 : goal.returns-then-eq-3
returns-then-eq-3 c =
    let line_is : app_of c.in_ok-command.command ≡ command_line = c.in_ok-command.ensures in
    let words = map string_bytes c.args.words.now in
    let passes = c.in_ok-matches.ensures.kinds (is_simple_command (app_of c.in_ok-command.command) line_is) in
    let enters = enters_one (app_of c.in_ok-command.command) words c.in_ok-matches.matches line_is passes c.in_ok-matches.ensures.matches in
    let name = c.in-Some.name.now in
    let is_run : name ≡ codes "run" = search rules in
    let other : name ≢ codes "session" = search rules in
    let no_log : name ≢ codes "log" = search rules in
    let has = has_options words c.in_ok-matches.matches enters name c.in-Some.ensures.name other no_log in
    let inner = c.in-Some.given.now in
    let found = c.in-Some.ensures.rows in
    let batch = batch_read words c.in_ok-matches.matches enters has inner found c.get_one.result c.get_one.ensures.value in
    let number = batch.1 in
    let is = c.in-Some-get_one.is in
    let same : batch.0 ≡ c.in-Some-get_one.batch = cc in
    let usual : c.usual.result.rounds ≡ 8 = rw c.usual.ensures refl in
    let read_is : c.unwrap_or-rounds.result ≡ unwrap_or c.get_one-2.result 8 = c.unwrap_or-rounds.ensures ∙ ap (unwrap_or c.get_one-2.result) usual in
    let rounds = subst (ReadsRounds enters.1) (sym read_is) (rounds_read words c.in_ok-matches.matches enters has inner found c.get_one-2.result c.get_one-2.ensures.none c.get_one-2.ensures.value) in
    let most = rounds.0 in
    record {
      kinds = faultless_as words c.in_ok-matches.matches enters (codes "run") (name_as words c.in_ok-matches.matches enters name c.in-Some.ensures.name (codes "run") is_run) refl (sym (ap (λ (a : App). fault_of a words) line_is) ∙ passes);
      command = command_is words c.in_ok-matches.matches enters (commands.Run _) (name_as words c.in_ok-matches.matches enters name c.in-Some.ensures.name (codes "run") is_run);
      within = record { some_batch = omega arith; batch = omega arith; rounds = most };
      batch = batch_is words c.in_ok-matches.matches enters c.get_one.result c.in-Some-get_one.batch batch is;
      closed = closed_is words c.in_ok-matches.matches enters has inner found c.get_flag-closed.result c.get_flag-closed.ensures.value c.get_flag-closed.ensures.other;
      why = why_is words c.in_ok-matches.matches enters has inner found c.get_flag-why.result c.get_flag-why.ensures.value c.get_flag-why.ensures.other;
      diff = diff_is words c.in_ok-matches.matches enters has inner found c.get_flag-diff.result c.get_flag-diff.ensures.value c.get_flag-diff.ensures.other;
      json = json_is words c.in_ok-matches.matches enters has inner found c.get_flag-json.result c.get_flag-json.ensures.value c.get_flag-json.ensures.other;
      dry = dry_is words c.in_ok-matches.matches enters has inner found c.get_flag-dry.result c.get_flag-dry.ensures.none c.get_flag-dry.ensures.value c.get_flag-dry.ensures.other;
      rounds = rounds_are words c.in_ok-matches.matches enters c.unwrap_or-rounds.result rounds;
    }

pub returns : goal.returns
returns c =
    let line_is : app_of c.in_ok-command.command ≡ command_line = c.in_ok-command.ensures in
    let words = map string_bytes c.args.words.now in
    let passes = c.in_ok-matches.ensures.kinds (is_simple_command (app_of c.in_ok-command.command) line_is) in
    let enters = enters_one (app_of c.in_ok-command.command) words c.in_ok-matches.matches line_is passes c.in_ok-matches.ensures.matches in
    let name = c.in-Some.name.now in
    let not_run : name ≢ codes "run" = search rules in
    let other : name ≢ codes "session" = search rules in
    let no_log : name ≢ codes "log" = search rules in
    let has = has_options words c.in_ok-matches.matches enters name c.in-Some.ensures.name other no_log in
    let is_replay = is_replay words c.in_ok-matches.matches enters name c.in-Some.ensures.name other no_log not_run in
    let inner = c.in-Some.given.now in
    let found = c.in-Some.ensures.rows in
    let batch = batch_read words c.in_ok-matches.matches enters has inner found c.get_one.result c.get_one.ensures.value in
    let number = batch.1 in
    let is = c.in-Some-get_one.is in
    let same : batch.0 ≡ c.in-Some-get_one.batch = cc in
    let usual : c.usual.result.rounds ≡ 8 = rw c.usual.ensures refl in
    let read_is : c.unwrap_or-rounds.result ≡ unwrap_or c.get_one-2.result 8 = c.unwrap_or-rounds.ensures ∙ ap (unwrap_or c.get_one-2.result) usual in
    let rounds = subst (ReadsRounds enters.1) (sym read_is) (rounds_read words c.in_ok-matches.matches enters has inner found c.get_one-2.result c.get_one-2.ensures.none c.get_one-2.ensures.value) in
    let most = rounds.0 in
    record {
      kinds = faultless_as words c.in_ok-matches.matches enters (codes "replay") (name_as words c.in_ok-matches.matches enters name c.in-Some.ensures.name (codes "replay") is_replay) refl (sym (ap (λ (a : App). fault_of a words) line_is) ∙ passes);
      command = command_is words c.in_ok-matches.matches enters (commands.Replay _) (name_as words c.in_ok-matches.matches enters name c.in-Some.ensures.name (codes "replay") is_replay);
      within = record { some_batch = omega arith; batch = omega arith; rounds = most };
      batch = batch_is words c.in_ok-matches.matches enters c.get_one.result c.in-Some-get_one.batch batch is;
      closed = closed_is words c.in_ok-matches.matches enters has inner found c.get_flag-closed.result c.get_flag-closed.ensures.value c.get_flag-closed.ensures.other;
      why = why_is words c.in_ok-matches.matches enters has inner found c.get_flag-why.result c.get_flag-why.ensures.value c.get_flag-why.ensures.other;
      diff = diff_is words c.in_ok-matches.matches enters has inner found c.get_flag-diff.result c.get_flag-diff.ensures.value c.get_flag-diff.ensures.other;
      json = json_is words c.in_ok-matches.matches enters has inner found c.get_flag-json.result c.get_flag-json.ensures.value c.get_flag-json.ensures.other;
      dry = dry_is words c.in_ok-matches.matches enters has inner found c.get_flag-dry.result c.get_flag-dry.ensures.none c.get_flag-dry.ensures.value c.get_flag-dry.ensures.other;
      rounds = rounds_are words c.in_ok-matches.matches enters c.unwrap_or-rounds.result rounds;
    }
