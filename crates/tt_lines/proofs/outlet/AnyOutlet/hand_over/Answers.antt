-- The text goes behind what the writer had before.
use Rattle.std.proofs.Common.{◌++◌, refl, sym, ap, subst, ◌∙◌}
use Rattle.std.specs.Io.KnownBytes.{Appends}
use Rattle.std.proofs.KnownBytes.{Appends-trans}
use Rattle.tt_streams.specs.Writing.{AppendsPrefix}
use Rattle.tt_streams.proofs.WritingLemmas.{prefix-after}
use Rattle.tt_session.specs.Answering.{turns_of}
use Rattle.tt_session.proofs.LoggedLemmas.{plain-logged, logged-all}
use Rattle.tt_lines.proofs.RunningLemmas.{turns-text}
use Rattle.tt_lines.proofs.outlet.AnyOutlet.hand_over.Goals as goal

pub returns-in-Ok-clause-handed : goal.returns-in-Ok-clause-handed
returns-in-Ok-clause-handed g c = λ first start over kept so_far is.
    let whole = Appends-trans _ _ _ (turns_of start over).text c.args.text.now so_far.written c.in-Ok.ensures.ok in
    record {
      all_logged = logged-all over kept so_far.all_logged (plain-logged (turns_of start over).session kept is.plain);
      written = subst (Appends _ _) (ap (λ t. (turns_of start over).text ++ t) is.text_is ∙ sym (turns-text start over kept)) whole;
    }

pub returns-in-Err-clause-stopped : goal.returns-in-Err-clause-stopped
returns-in-Err-clause-stopped g c = λ first start over kept more so_far is.
    let front = prefix-after _ _ _ (turns_of start over).text c.args.text.now so_far.written c.write_text.ensures.prefix in
    record {
      front = over ++ kept;
      others = more;
      reads_are = refl;
      all_logged = logged-all over kept so_far.all_logged (plain-logged (turns_of start over).session kept is.plain);
      written = subst (AppendsPrefix _ _) (ap (λ t. (turns_of start over).text ++ t) is.text_is ∙ sym (turns-text start over kept)) front;
    }
