-- The tables at each place are compared.
use Rattle.std.proofs.Common.{◌+◌, ◌==◌, ◌&&◌, false, length, refl, sym, ap, ◌∙◌}
use Rattle.std.proofs.lemmas.Bool.{and_right}
use Rattle.tt_session.specs.Reopening.{is_same_table}
use Rattle.tt_session.proofs.ReopeningLemmas.{are_same_from, tables-at}
use Rattle.tt_session.proofs.reopening.has_same_tables.Goals as goal

pub loop-table-preserved : goal.loop-table-preserved
loop-table-preserved c =
    let l = c.loop-table in
    let first = c.args.first.now in
    let second = c.args.second.now in
    let both = tables-at first second l.table c.in-Some.name.now c.in-Some-name.other_name.now c.in-Some-table.def.now c.in-Some-table-2.other.now
    c.in-Some.ensures c.in-Some-table.ensures.def c.in-Some-name.ensures c.in-Some-table-2.ensures.def in
    l.invariant ∙ both ∙ ap (λ b. b && are_same_from is_same_table (l.table + 1) first second) (sym c.is_same_table.ensures ∙ c.if-not-is_same_table.false)

pub returns-then-not-is_same_table : goal.returns-then-not-is_same_table
returns-then-not-is_same_table c =
    let l = c.loop-table in
    let first = c.args.first.now in
    let second = c.args.second.now in
    let both = tables-at first second l.table c.in-Some.name.now c.in-Some-name.other_name.now c.in-Some-table.def.now c.in-Some-table-2.other.now
    c.in-Some.ensures c.in-Some-table.ensures.def c.in-Some-name.ensures c.in-Some-table-2.ensures.def in
    let whole = l.invariant ∙ both ∙ ap (λ b. b && are_same_from is_same_table (l.table + 1) first second) (sym c.is_same_table.ensures ∙ c.if-not-is_same_table.true) in
    sym (ap (λ b. (length first == length second) && b) whole ∙ and_right (length first == length second) false refl)
