-- A member is judged by its name and then by its value, each after those before it.
use Rattle.std.proofs.Common.{not, ap, ◌∙◌, arith}
use Rattle.tt_grammar.proofs.RepeatedLemmas.{repeated_name, fault_in_member, after_member, names_after, is_one_of-added}
use Rattle.tt_grammar.proofs.repeated_members.+names_once.Goals as goal

pub members_name_once-returns-then-not-branch : goal.members_name_once-returns-then-not-branch
members_name_once-returns-then-not-branch t c =
    let l = c.loop-member in
    let again = is_one_of-added l.names.keys _ c.member-item.result.0 c.in_ok-insert.field-0 l.invariant.1 c.in_ok-insert.ensures.added ∙ ap not c.if-not-branch.true in
    repeated_name c.args.members.now l.member-index c.member-item.result (omega arith) c.member-item.is l.invariant.0 c.named_twice.result again c.named_twice.ensures

pub members_name_once-returns-in-Err : goal.members_name_once-returns-in-Err
members_name_once-returns-in-Err t c =
    let l = c.loop-member in
    let new = is_one_of-added l.names.keys _ c.member-item.result.0 c.in_ok-insert.field-0 l.invariant.1 c.in_ok-insert.ensures.added ∙ ap not c.if-not-branch.false in
    fault_in_member c.args.members.now l.member-index c.member-item.result (omega arith) c.member-item.is l.invariant.0 c.in-Err.fault c.in_member.result new c.in-Err.ensures c.in_member.ensures

pub members_name_once-loop-member-preserved : goal.members_name_once-loop-member-preserved
members_name_once-loop-member-preserved t c =
    let l = c.loop-member in
    let new = is_one_of-added l.names.keys _ c.member-item.result.0 c.in_ok-insert.field-0 l.invariant.1 c.in_ok-insert.ensures.added ∙ ap not c.if-not-branch.false in (
      after_member c.args.members.now l.member-index c.member-item.result (omega arith) c.member-item.is l.invariant.0 new c.in_default.ensures,
      names_after c.args.members.now l.member-index c.member-item.result (omega arith) c.member-item.is l.invariant.0 l.names.keys c.insert.new.self.keys l.invariant.1 c.in_ok-insert.ensures.updates.0,
    )
