-- The answer goes behind what the writer had before: a writer has no log that could be refused.
use Rattle.std.proofs.Common.{[], ◌∷◌, ◌++◌, refl, sym, ap, subst}
use Rattle.std.specs.Io.KnownBytes.{Appends}
use Rattle.std.proofs.KnownBytes.{Appends-trans}
use Rattle.tt_streams.specs.Writing.{AppendsPrefix}
use Rattle.tt_streams.proofs.WritingLemmas.{prefix-after}
use Rattle.tt_session.specs.declared.session.Session.TheVariants.{Open}
use Rattle.tt_session.specs.Run.{Turn}
use Rattle.tt_session.specs.Answering.{turns_of}
use Rattle.tt_session.specs.Together.{kept_line}
use Rattle.tt_session.proofs.LoggedLemmas.{logged-all}
use Rattle.tt_lines.proofs.RunningLemmas.{text-one}
use Rattle.tt_lines.proofs.outlet.AnyOutlet.hand_over_anew.Goals as goal

pub returns-in-Ok-clause-renewed : goal.returns-in-Ok-clause-renewed
returns-in-Ok-clause-renewed g c = λ first start over line so_far p.
    let text = c.args.forgotten.now.text.now in
    let whole = Appends-trans _ _ _ (turns_of start over).text text so_far.written c.in-Ok.ensures.ok in
    record {
      all_logged = logged-all over (kept_line line ∷ []) so_far.all_logged (refl, tt);
      written = subst (Appends _ _) (sym (text-one start over (kept_line line) (Open p.session) text p.session_is (ap (λ (t : Turn). t.text) p.turn))) whole;
    }

pub returns-in-Err-clause-stopped : goal.returns-in-Err-clause-stopped
returns-in-Err-clause-stopped g c = λ first start over line so_far p.
    let text = c.args.forgotten.now.text.now in
    let front = prefix-after _ _ _ (turns_of start over).text text so_far.written c.write_text.ensures.prefix in (
      kept_line line,
      refl,
      λ more. record {
        front = over ++ kept_line line ∷ [];
        others = more;
        reads_are = refl;
        all_logged = logged-all over (kept_line line ∷ []) so_far.all_logged (refl, tt);
        written = subst (AppendsPrefix _ _) (sym (text-one start over (kept_line line) (Open p.session) text p.session_is (ap (λ (t : Turn). t.text) p.turn))) front;
      },
    )
