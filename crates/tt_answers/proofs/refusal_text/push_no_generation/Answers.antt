-- The pieces of the members, one after another.
use Rattle.std.proofs.Common.{◌++◌, ap, ◌∙◌, codes}
use Rattle.std.specs.Fmt.{decimal}
use Rattle.tt_requests.specs.declared.told.ToldGeneration.{ToldGeneration}
use Rattle.tt_requests.specs.Numbers.{told_generation}
use Rattle.tt_answers.proofs.PieceLemmas.{two-numbers}
use Rattle.tt_answers.proofs.refusal_text.push_no_generation.Goals as goal

pub returns : goal.returns
returns c =
    two-numbers c.args.out.now.items c.push_told_generation.new.out.items c.push_told_generation-2.new.out.items
    (codes "\"refused\":\"no generation\",\"oldest\":") (decimal (told_generation c.args.numbering c.args.oldest).number)
    (codes ",\"newest\":") (decimal (told_generation c.args.numbering c.args.newest).number)
    (c.in_ok-push_told_generation.ensures
    ∙ ap (λ (g : ToldGeneration). c.args.out.now.items ++ (codes "\"refused\":\"no generation\",\"oldest\":" ++ decimal g.number)) c.told_generation-oldest.ensures)
    (c.in_ok-push_told_generation-2.ensures
    ∙ ap (λ (g : ToldGeneration). c.push_told_generation.new.out.items ++ (codes ",\"newest\":" ++ decimal g.number)) c.told_generation-newest.ensures)
