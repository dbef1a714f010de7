-- A write has as many entries before it as writes and others.
use Rattle.std.proofs.Common.{◌≤◌, length, sym, ap, ◌∙◌, arith}
use Rattle.tt_db.specs.Database.{nth_item}
use Rattle.tt_db.specs.History.{writes_before_others, write_places}
use Rattle.tt_db.proofs.HistoryLemmas.{few_others, place-of, no_place}
use Rattle.tt_db.proofs.history.History.place_of_write.Goals as goal
use Rattle.tt_db.proofs.history.History.place_of_write.Goals.{then-number-eq0-via-then-number-eq0, then-number-eq0-via-else-number-eq0+then-number-writes}

pub overflow_sub-writes : goal.overflow_sub-writes
overflow_sub-writes c =
    let few = few_others c.self.inside.write_counts c.self.inside.entries c.self.invariant.0 in
    omega (arith, few, c.len.ensures, c.len-2.ensures)

pub returns-then-number-eq0 : goal.returns-then-number-eq0
returns-then-number-eq0 c =
    let counts = ap length (c.self.invariant.0 ∙ ap (writes_before_others 0) c.self.view_is) in
    let entries = ap length c.self.view_is in
    elim c.then-number-eq0.branch [
      | then-number-eq0-via-then-number-eq0 w ↦ ap (nth_item (write_places 1 c.args.self.now)) (sym w.if-number-eq0.true)
      | then-number-eq0-via-else-number-eq0+then-number-writes w ↦
          no_place c.args.self.now c.args.number (omega (arith, w.if-number-writes.true, c.len.ensures, c.len-2.ensures, counts, entries))
    ]

pub returns : goal.returns
returns c =
    let counts = ap length (c.self.invariant.0 ∙ ap (writes_before_others 0) c.self.view_is) in
    let entries = ap length c.self.view_is in
    let first : 1 ≤ c.args.number = omega (arith, c.if-number-eq0.false) in
    place-of c.args.self.now c.args.number c.others_before.result first
    (omega (arith, c.if-number-writes.false, c.len.ensures, c.len-2.ensures, counts, entries)) c.others_before.ensures
