-- What a crash leaves of a session whose lines are logged.
use Rattle.std.proofs.Common.{◌≡◌, ⊎_elim, ℕ, ◌+◌, ◌≤◌, ◌^◌, Bool, true, false, List, [], ◌∷◌, ◌++◌, length, take, append-nil, append_assoc, length-append, inl, inr, Option, Result, Err, refl, sym, ap, ◌∙◌, subst, arith}
use Rattle.std.proofs.Math.Seq.{take-append-add, take-length}
use Rattle.tt_log.specs.Device.{Left, Now, Only, ShowsFirst, LeavesNoNewFile}
use Rattle.tt_log.specs.Lines.{logged, joined}
use Rattle.tt_log.specs.Log.{KeepsFirst, KeepsAnswered}
use Rattle.tt_log.specs.declared.log_error.LogError.{LogError}
use Rattle.tt_log.specs.declared.log_error.LogError.TheVariants as errors
use Rattle.tt_log.proofs.LineLemmas.{joined-append}
use Rattle.tt_log.proofs.MomentLemmas as moments
use Rattle.tt_session.specs.declared.session.Session.{Session}
use Rattle.tt_session.specs.Run.{Turn}
use Rattle.tt_session.specs.Answering.{LineRead, turn_of_read, turns_of, unlogged_count}
use Rattle.tt_session.specs.Logged.{logged_of, makes_log_anew, log_after, ArePlain}
use Rattle.tt_durable.specs.Restoring.{NewLogsAreRead}
use Rattle.tt_durable.specs.OnLog.{LeavesAnswered, Telling, HandedOnLog, StoppedOnLog, IsFull}
use Rattle.tt_session.proofs.AnsweringLemmas.{turns_of-append}
use Rattle.tt_session.proofs.LoggedLemmas.{log-append, log-plain, plain-front, unlogged-append, plain-unlogged, Front, front-of}

-- nothing was read
pub leaves-none : (start : Session) (lines : List (List ℕ)) (shown : List ℕ) (left : Left) → logged left.file ≡ lines → left.shown ≡ shown → LeavesAnswered start lines [] shown left
leaves-none start lines shown left file said = record {
  answered = [];
  unanswered = [];
  others = [];
  reads_are = refl;
  lines_are = file;
  bytes = 0;
  shown_is = said ∙ sym (append-nil shown);
}

-- further lines are read
pub leaves-more : (start : Session) (lines : List (List ℕ)) (reads more : List LineRead) (shown : List ℕ) (left : Left) → LeavesAnswered start lines reads shown left → LeavesAnswered start lines (reads ++ more) shown left
leaves-more start lines reads more shown left p = record {
  answered = p.answered;
  unanswered = p.unanswered;
  others = p.others ++ more;
  reads_are = ap (λ rs. rs ++ more) p.reads_are ∙ append_assoc (p.answered ++ p.unanswered) p.others more;
  lines_are = p.lines_are;
  bytes = p.bytes;
  shown_is = p.shown_is;
}

-- the log after all lines that are read, and all their answers
pub leaves-all : (start : Session) (lines : List (List ℕ)) (reads : List LineRead) (shown : List ℕ) (left : Left) (bytes : ℕ) → logged left.file ≡ log_after lines start reads
    → left.shown ≡ shown ++ take bytes (turns_of start reads).text → LeavesAnswered start lines reads shown left
leaves-all start lines reads shown left bytes file said = record {
  answered = reads;
  unanswered = [];
  others = [];
  reads_are = sym (append-nil reads) ∙ ap (λ rs. rs ++ []) (sym (append-nil reads));
  lines_are = file ∙ ap (log_after lines start) (sym (append-nil reads));
  bytes = bytes;
  shown_is = said;
}

-- ---- logs that are made anew

pub new-append : (session : Session) (first others : List LineRead) → NewLogsAreRead session first → NewLogsAreRead (turns_of session first).session others → NewLogsAreRead session (first ++ others)
new-append session [] others p q = q
new-append session (read ∷ first) others p q = (p.0, new-append (turn_of_read session read).session first others p.1 q)

pub not-anew : {A : Type 0} → (b : Bool) → b ≡ false → b ≡ true → A
not-anew b none made = cc

pub new-plain : (session : Session) (reads : List LineRead) → ArePlain session reads → NewLogsAreRead session reads
new-plain session [] p = tt
new-plain session (read ∷ reads) p = (not-anew (makes_log_anew session read) p.0.not_anew, new-plain (turn_of_read session read).session reads p.1)

-- behind further lines as many are unlogged as before
pub unlogged-kept : (start : Session) (over kept : List LineRead) → ArePlain (turns_of start over).session kept → unlogged_count (over ++ kept) ≡ unlogged_count over
unlogged-kept start over kept plain =
    let more = unlogged-append over kept in
    let none = plain-unlogged (turns_of start over).session kept plain in omega (arith, more, none)

-- the answers that are kept are handed over
module _ (start : Session) (lines : List (List ℕ)) (over kept : List LineRead) (shown : List ℕ) (new : List (List ℕ)) (text : List ℕ) (lines_now : List (List ℕ)) (shown_now : List ℕ)
    (new_is : new ≡ logged_of (turns_of start over).session kept) (text_is : text ≡ (turns_of (turns_of start over).session kept).text) (plain : ArePlain (turns_of start over).session kept)
    (lines_now_are : lines_now ≡ log_after lines start over) (shown_now_is : shown_now ≡ shown ++ (turns_of start over).text) where
  abbrev mid : Session
  mid = (turns_of start over).session

  all_text : (turns_of start (over ++ kept)).text ≡ (turns_of start over).text ++ text
  all_text = ap (λ (t : Turn). t.text) (turns_of-append start over kept) ∙ ap (λ t. (turns_of start over).text ++ t) (sym text_is)

  -- the log after further lines for which it isn't made anew
  further : (more : List LineRead) → ArePlain mid more → lines_now ++ logged_of mid more ≡ log_after lines start (over ++ more)
  further more are = ap (λ ls. ls ++ logged_of mid more) lines_now_are ∙ sym (log-plain (log_after lines start over) mid more are) ∙ sym (log-append lines start over more)

  pub lines-all : (after : List (List ℕ)) → after ≡ lines_now ++ new → after ≡ log_after lines start (over ++ kept)
  lines-all after is = is ∙ ap (λ ls. lines_now ++ ls) new_is ∙ further kept plain

  first : (count : ℕ) → count ≤ length new → Front mid kept count
  first count few = front-of mid kept count (subst (λ ls. count ≤ length ls) new_is few)

  pub leaves-first : (left : Left) → KeepsFirst lines_now new shown_now left → LeavesAnswered start lines (over ++ kept) shown left
  leaves-first left p =
      let f = first p.count p.no_more in
      record {
        answered = over;
        unanswered = f.front;
        others = f.others;
        reads_are = ap (λ rs. over ++ rs) f.reads_are ∙ sym (append_assoc over f.front f.others);
        lines_are =
            p.lines_are ∙ ap (λ ls. lines_now ++ take p.count ls) new_is ∙ ap (λ ls. lines_now ++ ls) f.first
            ∙ further f.front (plain-front mid f.front f.others (subst (ArePlain mid) f.reads_are plain));
        bytes = length (turns_of start over).text;
        shown_is = p.shown_is ∙ shown_now_is ∙ ap (λ t. shown ++ t) (sym (take-length (turns_of start over).text));
      }

  pub leaves-shown : (left : Left) → KeepsAnswered lines_now new shown_now text left → LeavesAnswered start lines (over ++ kept) shown left
  leaves-shown left (inl p) = leaves-first left p
  leaves-shown left (inr (file, (n, said))) =
      leaves-all start lines (over ++ kept) shown left (length (turns_of start over).text + n) (lines-all (logged left.file) file)
      (said ∙ ap (λ t. t ++ take n text) shown_now_is ∙ append_assoc shown (turns_of start over).text (take n text)
      ∙ ap (λ t. shown ++ t) (sym (take-append-add (turns_of start over).text text n) ∙ ap (take (length (turns_of start over).text + n)) (sym all_text)))

  -- and the first bytes of them
  pub shown-first : (after : List ℕ) → ShowsFirst shown_now after text → ShowsFirst shown after (turns_of start (over ++ kept)).text
  shown-first after (n, is) = (
    length (turns_of start over).text + n,
    is ∙ ap (λ t. t ++ take n text) shown_now_is ∙ append_assoc shown (turns_of start over).text (take n text)
        ∙ ap (λ t. shown ++ t) (sym (take-append-add (turns_of start over).text text n) ∙ ap (take (length (turns_of start over).text + n)) (sym all_text)),
  )

  pub shown-all : (after : List ℕ) → after ≡ shown_now ++ text → after ≡ shown ++ (turns_of start (over ++ kept)).text
  shown-all after is = is ∙ ap (λ t. t ++ text) shown_now_is ∙ append_assoc shown (turns_of start over).text text ∙ ap (λ t. shown ++ t) (sym all_text)

-- the log of a session is full
pub full-stopped : (start : Session) (lines : List (List ℕ)) (reads : List LineRead) (lines_now new : List (List ℕ)) (end : ℕ) → lines_now ++ new ≡ log_after lines start reads → end ≡ length (joined lines_now)
    → 2 ^ 60 ≤ end + length (joined new) → IsFull (log_after lines start reads)
full-stopped start lines reads lines_now new end all end_is much =
    let full : IsFull (lines_now ++ new) = omega (arith, much, end_is, ap length (joined-append lines_now new), length-append (joined lines_now) (joined new)) in
    subst IsFull all full

-- why a log has failed
pub why-stopped : {A : Type 0} (result : Result A LogError) (error : LogError) (P : LogError → Type 0) → result ≡ Err error → (result ≡ Err errors.Write → P errors.Write)
    → (result ≡ Err errors.HandOver → P errors.HandOver) → (result ≡ Err errors.Full → P errors.Full) → (result ≡ Err errors.Read → ⊥) → P error
why-stopped result errors.Write P is write hand_over full read = write is
why-stopped result errors.HandOver P is write hand_over full read = hand_over is
why-stopped result errors.Full P is write hand_over full read = full is
why-stopped result errors.Read P is write hand_over full read = absurd (read is)

-- calls that make no new file
pub no-new-then : {D : Type 0} (of : Telling D) (before mid after : D) (count : ℕ) → LeavesNoNewFile of.has_new_file of.failures count before mid → (of.has_new_file after → of.has_new_file mid) → of.failures mid ≤ of.failures after
    → LeavesNoNewFile of.has_new_file of.failures count before after
no-new-then of before mid after count p less later now = ⊎_elim (λ was. inl was) (λ failed. inr (omega (arith, failed, later))) (p (less now))

-- calls behind which a new file is left only where the device has failed so many times more
pub no-new-behind : {D : Type 0} (of : Telling D) (before mid after : D) (count more all : ℕ) → all ≡ count + more → LeavesNoNewFile of.has_new_file of.failures count before mid → of.failures before + count ≤ of.failures mid
    → LeavesNoNewFile of.has_new_file of.failures more mid after → of.failures mid + more ≤ of.failures after → LeavesNoNewFile of.has_new_file of.failures all before after
no-new-behind of before mid after count more all is p least q later now =
    ⊎_elim (λ was. ⊎_elim (λ first. inl first) (λ failed. inr (omega (arith, is, failed, later))) (p was)) (λ failed. inr (omega (arith, is, failed, least))) (q now)

-- nothing was read since a moment at which the lines were on the disk
pub handed-none : {D : Type 0} (of : Telling D) (device : D) (start : Session) → of.tells device → Only (of.seen device) (of.may_leave device)
    → ((left : Left) → of.left_since device (of.moment device) left → Now (of.may_leave device) (of.shown device) left) → HandedOnLog of device device start []
handed-none of device start told durable only_now = record {
  tells = told;
  lines_are = refl;
  shown_is = sym (append-nil (of.shown device));
  any_moment =
      moments.started of.moment of.left_since device (LeavesAnswered start (logged (of.seen device)) [] (of.shown device))
      (λ left since.
      let now = only_now left since in
      leaves-none start (logged (of.seen device)) (of.shown device) left (ap logged (durable left.file now.0)) now.1);
  new_logs = tt;
  failures = omega arith;
  no_new = λ now. inl now;
}

-- of the same devices
pub handed-of : {D : Type 0} (of : Telling D) (a b c d : D) (start : Session) (reads : List LineRead) → a ≡ b → c ≡ d → HandedOnLog of a c start reads → HandedOnLog of b d start reads
handed-of of a b c d start reads first last p = subst (λ x. HandedOnLog of x d start reads) first (subst (λ x. HandedOnLog of a x start reads) last p)

pub stopped-of : {D : Type 0} (error told : Option LogError) (of : Telling D) (a b c d : D) (start : Session) (reads : List LineRead) → error ≡ told → a ≡ b → c ≡ d → StoppedOnLog error of a c start reads
    → StoppedOnLog told of b d start reads
stopped-of error told of a b c d start reads same first last p =
    subst (λ e. StoppedOnLog e of b d start reads) same (subst (λ x. StoppedOnLog error of x d start reads) first (subst (λ x. StoppedOnLog error of a x start reads) last p))
