-- What a session on a log has done once the log was made anew for a line, or couldn't be.
use Rattle.std.proofs.Common.{◌≡◌, ℕ, ◌+◌, ◌≤◌, true, List, [], ◌∷◌, ◌++◌, length, take, append-nil, append_assoc, inl, inr, ⊎_elim, Option, refl, sym, ap, ◌∙◌, subst, arith}
use Rattle.std.proofs.Math.Seq.{take-append-add, take-length}
use Rattle.tt_log.specs.Device.{Left, LeavesOnly, ShowsFirst, LeavesNoNewFile}
use Rattle.tt_log.specs.Lines.{logged}
use Rattle.tt_log.specs.Log.{Keeps, KeepsEither}
use Rattle.tt_log.specs.declared.log.Log.{Log}
use Rattle.tt_log.proofs.MomentLemmas as moments
use Rattle.tt_session.specs.declared.session.Session.{Session}
use Rattle.tt_session.specs.declared.session.Session.TheVariants.{Open}
use Rattle.tt_commands.specs.declared.terms.Terms.{Terms}
use Rattle.tt_commands.specs.Session.{OpenSession, Forgetting, counted}
use Rattle.tt_commands.specs.Changes.{forgotten_by}
use Rattle.tt_session.specs.Run.{Turn}
use Rattle.tt_log.specs.declared.log_error.LogError.{LogError}
use Rattle.tt_session.specs.Answering.{LineRead, turn_of_read, turns_of, unlogged_count}
use Rattle.tt_session.specs.LogLines.{lines_of_database, lines_of_log}
use Rattle.tt_session.specs.Logged.{makes_log_anew, log_after}
use Rattle.tt_session.specs.Together.{kept_line, unlogged_line}
use Rattle.tt_durable.specs.Restoring.{IsLogOf, NewLogsAreRead}
use Rattle.tt_durable.specs.OnLog.{Telling, LeavesAnswered, HandedOnLog, StoppedInLog, StoppedInOutput, StoppedOnLog}
use Rattle.tt_lines.specs.Anew.{Forgets}
use Rattle.tt_durable.specs.Renewing.{IsReadable, KeepsLog, LosesLog, KeepsShowing, HandsOverAlone, FailsAlone}
use Rattle.tt_session.proofs.LoggedLemmas.{IsAsFar, log-append, log-anew, log-far, far-not-anew, unlogged-append}
use Rattle.tt_durable.proofs.OnLogLemmas.{leaves-more, leaves-all, new-append, not-anew, no-new-then, no-new-behind}
use Rattle.tt_lines.proofs.RunningLemmas.{text-one}

-- a line is read behind others, by which the log is made anew or goes on
pub record Step (start : Session) (over : List LineRead) (read : LineRead) (lines new : List (List ℕ)) (text : List ℕ) : Type 0 where
  pub lines_are : new ≡ log_after lines start (over ++ read ∷ [])
  pub text_is : (turns_of start (over ++ read ∷ [])).text ≡ (turns_of start over).text ++ text
  pub new_logs : NewLogsAreRead (turns_of start over).session (read ∷ [])

module _ {D : Type 0} (of : Telling D) (first : D) (start : Session) (over : List LineRead) where
  abbrev lines : List (List ℕ)
  lines = logged (of.seen first)

  abbrev shown : List ℕ
  shown = of.shown first

  -- ---- the two lines

  pub step-anew : (line : List ℕ) (f : Forgetting) (terms : Terms) (text refusal : List ℕ) → Forgets start over line f terms text refusal → IsReadable f terms
      → Step start over (kept_line line) lines (lines_of_database f.db f.numbering f.stamps terms) text
  step-anew line f terms text refusal p readable =
      let S = (turns_of start over).session in
      let read : LineRead = kept_line line in
      let next : OpenSession = forgotten_by (counted p.session) f in
      let made : makes_log_anew S read ≡ true = ap (λ s. makes_log_anew s read) p.session_is ∙ p.anew in
      let next_is : (turn_of_read S read).session ≡ Open next = ap (λ s. (turn_of_read s read).session) p.session_is ∙ ap (λ (t : Turn). t.session) p.turn in
      let is_log : IsLogOf (lines_of_log (Open next)) (Open next) = readable next refl refl refl (sym p.terms_are) p.few in
      record {
        lines_are =
            ap (lines_of_database f.db f.numbering f.stamps) p.terms_are ∙ sym (ap lines_of_log next_is) ∙ sym (log-anew (log_after lines start over) S read made)
            ∙ sym (log-append lines start over (read ∷ []));
        text_is = text-one start over read (Open p.session) text p.session_is (ap (λ (t : Turn). t.text) p.turn);
        new_logs = (λ anew. subst (λ s. IsLogOf (lines_of_log s) s) (sym next_is) is_log, tt);
      }

  pub step-refused : (line : List ℕ) (f : Forgetting) (terms : Terms) (text refusal : List ℕ) → Forgets start over line f terms text refusal
      → Step start over (unlogged_line line) lines (log_after lines start over) refusal
  step-refused line f terms text refusal p =
      let S = (turns_of start over).session in
      let read : LineRead = unlogged_line line in
      let far : IsAsFar S (turn_of_read S read).session =
      subst (λ s. IsAsFar s (turn_of_read s read).session) (sym p.session_is)
      (subst (λ (t : Turn). IsAsFar (Open p.session) t.session) (sym p.refused) (refl, refl)) in
      record {
        lines_are = sym (log-far (log_after lines start over) S read far) ∙ sym (log-append lines start over (read ∷ []));
        text_is = text-one start over read (Open p.session) refusal p.session_is (ap (λ (t : Turn). t.text) p.refused);
        new_logs = (not-anew (makes_log_anew S read) (far-not-anew S read far), tt);
      }

  -- ---- what a crash leaves

  module _ (old : D) (h : HandedOnLog of first old start over) (read : LineRead) (new : List (List ℕ)) (text : List ℕ) (s : Step start over read lines new text) where
    leaves-old : (left : Left) → Keeps (logged (of.seen old)) (of.shown old) left → LeavesAnswered start lines (over ++ read ∷ []) shown left
    leaves-old left p = record {
      answered = over;
      unanswered = [];
      others = read ∷ [];
      reads_are = ap (λ rs. rs ++ read ∷ []) (sym (append-nil over));
      lines_are = p.lines_are ∙ h.lines_are ∙ ap (log_after lines start) (sym (append-nil over));
      bytes = length (turns_of start over).text;
      shown_is = p.shown_is ∙ h.shown_is ∙ ap (λ t. shown ++ t) (sym (take-length (turns_of start over).text));
    }

    leaves-new : (left : Left) → Keeps new (of.shown old) left → LeavesAnswered start lines (over ++ read ∷ []) shown left
    leaves-new left p = record {
      answered = over;
      unanswered = read ∷ [];
      others = [];
      reads_are = sym (append-nil (over ++ read ∷ []));
      lines_are = p.lines_are ∙ s.lines_are;
      bytes = length (turns_of start over).text;
      shown_is = p.shown_is ∙ h.shown_is ∙ ap (λ t. shown ++ t) (sym (take-length (turns_of start over).text));
    }

    pub leaves-either : (left : Left) → KeepsEither (logged (of.seen old)) new (of.shown old) left → LeavesAnswered start lines (over ++ read ∷ []) shown left
    leaves-either left (inl p) = leaves-old left p
    leaves-either left (inr p) = leaves-new left p

    leaves-showing : (left : Left) → KeepsShowing new (of.shown old) text left → LeavesAnswered start lines (over ++ read ∷ []) shown left
    leaves-showing left p =
        leaves-all start lines (over ++ read ∷ []) shown left (length (turns_of start over).text + p.bytes) (p.lines_are ∙ s.lines_are)
        (p.shown_is ∙ ap (λ t. t ++ take p.bytes text) h.shown_is ∙ append_assoc shown (turns_of start over).text (take p.bytes text)
        ∙ ap (λ t. shown ++ t) (sym (take-append-add (turns_of start over).text text p.bytes) ∙ ap (take (length (turns_of start over).text + p.bytes)) (sym s.text_is)))

    all-new : NewLogsAreRead start (over ++ read ∷ [])
    all-new = new-append start over (read ∷ []) h.new_logs s.new_logs

    -- up to where the text is handed over
    pub renewed : (mid : D) → LeavesOnly of.moment of.left_since old mid (KeepsEither (logged (of.seen old)) new (of.shown old)) → LeavesOnly of.moment of.left_since first mid (LeavesAnswered start lines (over ++ read ∷ []) shown)
    renewed mid run =
        moments.joined of.moment of.left_since first old mid _ _ (LeavesAnswered start lines (over ++ read ∷ []) shown) h.any_moment run (λ left p. leaves-more start lines over (read ∷ []) shown left p) leaves-either

    shown-all : (after : List ℕ) → after ≡ of.shown old ++ text → after ≡ shown ++ (turns_of start (over ++ read ∷ [])).text
    shown-all after is = is ∙ ap (λ t. t ++ text) h.shown_is ∙ append_assoc shown (turns_of start over).text text ∙ ap (λ t. shown ++ t) (sym s.text_is)

    shown-first : (after : List ℕ) → ShowsFirst (of.shown old) after text → ShowsFirst shown after (turns_of start (over ++ read ∷ [])).text
    shown-first after (n, is) = (
      length (turns_of start over).text + n,
      is ∙ ap (λ t. t ++ take n text) h.shown_is ∙ append_assoc shown (turns_of start over).text (take n text)
          ∙ ap (λ t. shown ++ t) (sym (take-append-add (turns_of start over).text text n) ∙ ap (take (length (turns_of start over).text + n)) (sym s.text_is)),
    )

    module _ (mid after : Log D) (run : LeavesOnly of.moment of.left_since old mid.device (KeepsEither (logged (of.seen old)) new (of.shown old))) (lines_mid : logged (of.seen mid.device) ≡ new)
        (shown_mid : of.shown mid.device ≡ of.shown old) (failures : of.failures old + unlogged_count (read ∷ []) ≤ of.failures mid.device)
        (no_new : LeavesNoNewFile of.has_new_file of.failures (unlogged_count (read ∷ [])) old mid.device) where
      showing : (left : Left) → KeepsShowing (logged (of.seen mid.device)) (of.shown mid.device) text left → KeepsShowing new (of.shown old) text left
      showing left p = record { lines_are = p.lines_are ∙ lines_mid; bytes = p.bytes; shown_is = p.shown_is ∙ ap (λ t. t ++ take p.bytes text) shown_mid }

      all-moments : LeavesOnly of.moment of.left_since mid.device after.device (KeepsShowing (logged (of.seen mid.device)) (of.shown mid.device) text)
          → LeavesOnly of.moment of.left_since first after.device (LeavesAnswered start lines (over ++ read ∷ []) shown)
      all-moments last =
          moments.joined of.moment of.left_since first mid.device after.device _ _ (LeavesAnswered start lines (over ++ read ∷ []) shown) (renewed mid.device run) last (λ left p. p)
          (λ left p. leaves-showing left (showing left p))

      -- of the new file up to here
      all-removed : LeavesNoNewFile of.has_new_file of.failures (unlogged_count (over ++ read ∷ [])) first mid.device
      all-removed =
          no-new-behind of first old mid.device (unlogged_count over) (unlogged_count (read ∷ [])) (unlogged_count (over ++ read ∷ [])) (unlogged-append over (read ∷ [])) h.no_new h.failures no_new failures

      -- the text is handed over
      pub handed-anew : HandsOverAlone of mid after text → HandedOnLog of first after.device start (over ++ read ∷ [])
      handed-anew alone = record {
        tells = alone.tells;
        lines_are = alone.lines_are ∙ lines_mid ∙ s.lines_are;
        shown_is = shown-all (of.shown after.device) (alone.shown ∙ ap (λ t. t ++ text) shown_mid);
        any_moment = all-moments alone.any_moment;
        new_logs = all-new;
        failures = omega (arith, h.failures, failures, alone.failures, unlogged-append over (read ∷ []));
        no_new = no-new-then of first mid.device after.device (unlogged_count (over ++ read ∷ [])) all-removed alone.no_new alone.failures;
      }

      -- the output has failed before it had all of it
      pub stopped-anew : (error : Option LogError) (more : List LineRead) → FailsAlone error of mid after text → StoppedOnLog error of first after.device start ((over ++ read ∷ []) ++ more)
      stopped-anew error more alone =
          let in_output : StoppedInOutput of first after.device start ((over ++ read ∷ []) ++ more) = record {
            answered = over ++ read ∷ [];
            others = more;
            reads_are = refl;
            shown_is = shown-first (of.shown after.device) (subst (λ t. ShowsFirst t (of.shown after.device) text) shown_mid alone.first);
            any_moment = all-moments alone.any_moment;
            new_logs = all-new;
            lines_are = alone.lines_are ∙ lines_mid ∙ s.lines_are;
            failed = omega (arith, h.failures, failures, alone.failed, unlogged-append over (read ∷ []));
            no_new = λ now.
                ⊎_elim (λ was. inl was) (λ more_failed. inr (omega (arith, more_failed, alone.failed))) (all-removed (alone.no_new now));
          } in
          subst (λ e. StoppedOnLog e of first after.device start ((over ++ read ∷ []) ++ more)) (sym alone.error_is) in_output

    -- the name of the new file couldn't be synced
    pub lost-anew : (before after : Log D) (more : List LineRead) → before.device ≡ old → unlogged_count (read ∷ []) ≡ 0 → LosesLog of before after new
        → LeavesNoNewFile of.has_new_file of.failures 1 before.device after.device → StoppedInLog of first after.device start ((over ++ read ∷ []) ++ more)
    lost-anew before after more same logs loses no_new = record {
      answered = over;
      pending = read ∷ [];
      others = more;
      reads_are = refl;
      shown_is = loses.shown ∙ ap of.shown same ∙ h.shown_is;
      any_moment = renewed after.device (subst (λ d. LeavesOnly of.moment of.left_since d after.device (KeepsEither (logged (of.seen d)) new (of.shown d))) same loses.any_moment);
      new_logs = all-new;
      failures = omega (arith, h.failures, ap of.failures same, loses.failed, logs, unlogged-append over (read ∷ []));
      why = inl (
        omega (arith, h.failures, ap of.failures same, loses.failed, logs, unlogged-append over (read ∷ [])),
        no-new-behind of first old after.device (unlogged_count over) 1 (unlogged_count (over ++ read ∷ []) + 1) (omega (arith, logs, unlogged-append over (read ∷ []))) h.no_new h.failures
            (subst (λ d. LeavesNoNewFile of.has_new_file of.failures 1 d after.device) same no_new) (omega (arith, ap of.failures same, loses.failed)),
      );
    }

  -- the log goes on as it was
  pub handed-kept : (old after : Log D) → HandedOnLog of first old.device start over → KeepsLog of old after → LeavesNoNewFile of.has_new_file of.failures 0 old.device after.device
      → HandedOnLog of first after.device start over
  handed-kept old after h keeps no_new = record {
    tells = keeps.tells;
    lines_are = ap logged keeps.seen ∙ h.lines_are;
    shown_is = keeps.shown ∙ h.shown_is;
    any_moment =
        moments.joined of.moment of.left_since first old.device after.device _ _ (LeavesAnswered start lines over shown) h.any_moment keeps.any_moment (λ left p. p)
        (λ left p.
        leaves-all start lines over shown left (length (turns_of start over).text) (p.lines_are ∙ h.lines_are)
        (p.shown_is ∙ h.shown_is ∙ ap (λ t. shown ++ t) (sym (take-length (turns_of start over).text))));
    new_logs = h.new_logs;
    failures = omega (arith, h.failures, keeps.failures);
    no_new = no-new-behind of first old.device after.device (unlogged_count over) 0 (unlogged_count over) (omega arith) h.no_new h.failures no_new (omega (arith, keeps.failures));
  }
