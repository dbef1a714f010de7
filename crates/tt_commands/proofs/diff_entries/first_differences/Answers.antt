-- One table more: all of its rows are told, or more follow than a page has room for.
use Rattle.std.proofs.Common.{◌≡◌, ◌+◌, ◌-◌, ◌<◌, ◌≤◌, true, false, ◌++◌, length, append-nil, append_assoc, List, sym, ap, subst, ◌∙◌, arith}
use Rattle.std.specs.Option.{option_map}
use Rattle.tt_values.specs.Tables.{Tables}
use Rattle.tt_answers.specs.declared.answer.DiffEntry.{DiffEntry}
use Rattle.tt_commands.specs.CauseEntries.{first_entries, more_follow}
use Rattle.tt_commands.specs.DiffEntries.{entries_behind}
use Rattle.tt_commands.specs.DiffPages.{first_table, low_key, entries_after}
use Rattle.tt_commands.proofs.CauseLemmas.{HasRoom, room-at-first, whole-page}
use Rattle.tt_commands.proofs.DiffLemmas.{rest, rest-more, rest-end, rest-whole, page-ends, page-goes-on}
use Rattle.tt_commands.proofs.diff_entries.first_differences.Goals.{Then-branch, After-loop-table}
use Rattle.tt_commands.proofs.diff_entries.first_differences.Goals as goal

pub loop-table-init : goal.loop-table-init
loop-table-init c =
    let a = c.args in
    let none = c.new-entries.ensures.items in
    let first : c.first_table-table.result ≡ first_table a.page.after = c.first_table-table.ensures in
    record {
      all = (λ i. none i ++ rest a.db.now a.repair a.page.after (first i)) ∙ rest-whole a.db.now a.repair a.page.after;
      room = subst (λ n. HasRoom a.page.most n) (sym (ap length none)) (room-at-first a.page.most);
      first = omega (arith, first);
    }

-- the page is full
full : (c : Then-branch) → let a = c.args in let whole = entries_behind a.db.now a.repair a.page.after in
    (c.push_table.new.entries.items ≡ first_entries a.page.most whole) × (true ≡ more_follow a.page.most whole)
full c =
    let a = c.args in
    let l = c.loop-table in
    let db = a.db.now in
    let entries = l.entries.items in
    let others = rest db a.repair a.page.after (l.table + 1) in
    let table = entries_after db a.repair l.table (low_key a.page.after l.table) in
    let tables = ap (λ (tables : Tables). length tables) c.catalog.ensures in
    let some : l.table < length db.catalog = omega (arith, c.loop-table-test.true, c.len-tables.ensures.count, tables) in
    let room : c.left_of-left.result ≡ option_map (λ m. m - length entries) a.page.most = c.left_of-left.ensures ∙ ap (λ n. option_map (λ m. m - n) a.page.most) (c.len.ensures ∙ l.entries.ok.0) in
    let low : c.low_key-low.result ≡ low_key a.page.after l.table = c.low_key-low.ensures in
    let pushed : c.push_table.new.entries.items ≡ entries ++ first_entries (option_map (λ m. m - length entries) a.page.most) table =
    c.in_ok-push_table.ensures.entries ∙ (λ i. entries ++ first_entries (room i) (entries_after db a.repair l.table (low i))) in
    let more : c.in_ok-push_table.field-0 ≡ more_follow (option_map (λ m. m - length entries) a.page.most) table =
    c.in_ok-push_table.ensures.more ∙ (λ i. more_follow (room i) (entries_after db a.repair l.table (low i))) in
    let all : entries ++ (table ++ others) ≡ entries_behind db a.repair a.page.after =
    ap (λ es. entries ++ es) (sym (rest-more db a.repair a.page.after l.table l.invariant.first some)) ∙ l.invariant.all in
    let ends = page-ends a.page.most entries table others (entries_behind db a.repair a.page.after) l.invariant.room (sym c.if-branch.true ∙ more) all in
    (pushed ∙ ends.0, ends.1)

pub returns-then-branch-clause-entries : goal.returns-then-branch-clause-entries
returns-then-branch-clause-entries c = (full c).0

pub returns-then-branch-clause-more : goal.returns-then-branch-clause-more
returns-then-branch-clause-more c = (full c).1

pub loop-table-preserved : goal.loop-table-preserved
loop-table-preserved c =
    let a = c.args in
    let l = c.loop-table in
    let db = a.db.now in
    let entries = l.entries.items in
    let others = rest db a.repair a.page.after (l.table + 1) in
    let table = entries_after db a.repair l.table (low_key a.page.after l.table) in
    let tables = ap (λ (tables : Tables). length tables) c.catalog.ensures in
    let some : l.table < length db.catalog = omega (arith, c.loop-table-test.true, c.len-tables.ensures.count, tables) in
    let room : c.left_of-left.result ≡ option_map (λ m. m - length entries) a.page.most = c.left_of-left.ensures ∙ ap (λ n. option_map (λ m. m - n) a.page.most) (c.len.ensures ∙ l.entries.ok.0) in
    let low : c.low_key-low.result ≡ low_key a.page.after l.table = c.low_key-low.ensures in
    let pushed : c.push_table.new.entries.items ≡ entries ++ first_entries (option_map (λ m. m - length entries) a.page.most) table =
    c.in_ok-push_table.ensures.entries ∙ (λ i. entries ++ first_entries (room i) (entries_after db a.repair l.table (low i))) in
    let more : c.in_ok-push_table.field-0 ≡ more_follow (option_map (λ m. m - length entries) a.page.most) table =
    c.in_ok-push_table.ensures.more ∙ (λ i. more_follow (room i) (entries_after db a.repair l.table (low i))) in
    let all : entries ++ (table ++ others) ≡ entries_behind db a.repair a.page.after =
    ap (λ es. entries ++ es) (sym (rest-more db a.repair a.page.after l.table l.invariant.first some)) ∙ l.invariant.all in
    let fits = page-goes-on a.page.most entries table l.invariant.room (sym c.if-branch.false ∙ more) in
    let grown : c.push_table.new.entries.items ≡ entries ++ table = pushed ∙ ap (λ es. entries ++ es) fits.0 in
    record {
      all = ap (λ es. es ++ others) grown ∙ append_assoc entries table others ∙ all;
      room = subst (λ (es : List DiffEntry). HasRoom a.page.most (length es)) (sym grown) fits.1;
      first = omega (arith, l.invariant.first);
    }

-- all rows are told
all : (c : After-loop-table) → let a = c.args in let whole = entries_behind a.db.now a.repair a.page.after in let entries = c.loop-table.entries.items in
    (entries ≡ first_entries a.page.most whole) × (false ≡ more_follow a.page.most whole)
all c =
    let a = c.args in
    let l = c.loop-table in
    let db = a.db.now in
    let entries = l.entries.items in
    let tables = ap (λ (tables : Tables). length tables) c.catalog.ensures in
    let past : length db.catalog ≤ l.table = omega (arith, c.loop-table-test.false, c.len-tables.ensures.count, tables) in
    whole-page a.page.most entries (entries_behind db a.repair a.page.after) l.invariant.room
    (sym (append-nil entries) ∙ ap (λ es. entries ++ es) (sym (rest-end db a.repair a.page.after l.table past)) ∙ l.invariant.all)

pub returns-clause-entries : goal.returns-clause-entries
returns-clause-entries c = (all c).0

pub returns-clause-more : goal.returns-clause-more
returns-clause-more c = (all c).1
