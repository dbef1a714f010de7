-- The line and its line feed are added to the others.
use Rattle.std.proofs.Common.{◌∷◌, [], ◌++◌, ◌∙◌, refl, ap, List, ℕ}
use Rattle.tt_log.proofs.PendingLemmas.{appended, appended_joined, line_if_each, each_of_line}
use Rattle.tt_log.proofs.lines.Lines.push.Goals as goal

pub invariant_of-self-in-Ok : goal.invariant_of-self-in-Ok
invariant_of-self-in-Ok c =
    let items = c.in-Ok.ensures.items ∙ ap (λ (l : List ℕ). l ++ 10 ∷ []) c.in_ok-extend_from_slice.ensures.items in
    appended_joined c.self.inside.bytes.items c.args.line.now c.self.invariant (line_if_each c.args.line.now (c.if-not-is_line.ensures.0 refl)) c.push.new.self.items items

pub returns-in-Ok-clause-ok : goal.returns-in-Ok-clause-ok
returns-in-Ok-clause-ok c =
    let items = c.in-Ok.ensures.items ∙ ap (λ (l : List ℕ). l ++ 10 ∷ []) c.in_ok-extend_from_slice.ensures.items in
    let is = appended c.self.inside.bytes.items c.args.line.now c.self.invariant (line_if_each c.args.line.now (c.if-not-is_line.ensures.0 refl)) c.push.new.self.items items in
    is ∙ ap (λ (ls : List (List ℕ)). ls ++ c.args.line.now ∷ []) c.self.view_is

pub returns-in-Ok-clause-line : goal.returns-in-Ok-clause-line
returns-in-Ok-clause-line c = line_if_each c.args.line.now (c.if-not-is_line.ensures.0 refl)

pub returns-then-not-is_line-clause-not_a_line : goal.returns-then-not-is_line-clause-not_a_line
returns-then-not-is_line-clause-not_a_line c = λ is line.
    let no = c.if-not-is_line.ensures.1 (each_of_line c.args.line.now line) in
    absurd (cc no)
