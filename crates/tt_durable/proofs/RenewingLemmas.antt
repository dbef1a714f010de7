-- What becomes of a log that is made anew, call by call.
use Rattle.std.proofs.Common.{◌≡◌, ℕ, zero, suc, ◌+◌, ◌≤◌, List, [], ◌∷◌, ◌++◌, map, take, slice_get, All, append-nil, append_assoc, inl, inr, Option, Some, Result, Ok, Err, OnOk, IfErr, refl, sym, ap, ◌∙◌, subst, arith, add-one}
use Rattle.std.specs.Prelude.{IsErrAnd}
use Rattle.std.proofs.Math.Seq.{take-nil, take-add}
use Rattle.std.proofs.lemmas.List.{map-append}
use Rattle.tt_db.specs.Database.{nth_item}
use Rattle.tt_db.proofs.ClosedLemmas.{drop_at_item}
use Rattle.tt_log.specs.Device.{Left, Now}
use Rattle.tt_log.specs.Lines.{logged, joined, IsLine, IsJoined}
use Rattle.tt_log.specs.Log.{IsSettled, IsMaking, Keeps, KeepsEither, KeepsAnswered}
use Rattle.tt_log.specs.declared.log.Log.{Log}
use Rattle.tt_log.proofs.LineLemmas.{joined-append, AreLines-append, logged-joined}
use Rattle.tt_log.proofs.MomentLemmas as moments
use Rattle.tt_durable.specs.OnLog.{Telling}
use Rattle.tt_durable.specs.declared.log_renewal.RenewFault.{RenewFault}
use Rattle.tt_durable.specs.declared.log_renewal.RenewFault.TheVariants as faults
use Rattle.tt_durable.specs.Renewing.{FailsToRenew, FailsToWrite, failures_by, KeepsLog, TakesLines, LosesLog, IsWriting, WritesOn, KeepsShowing}

-- what holds of an error gives what holds of it
pub fails-then : {A E : Type 0} (F G : E → Type 0) (r : Result A E) → IfErr r F → ((e : E) → F e → G e) → IfErr r G
fails-then F G (Ok a) p f = tt
fails-then F G (Err e) p f = f e p

-- the only error that there can be
pub err_is : {A E : Type 0} (F : E → Type 0) (r : Result A E) (error : E) → IsErrAnd r (λ e. e ≡ error) → F error → IfErr r F
err_is F (Ok a) error is p = tt
err_is F (Err e) error is p = subst F (sym is) p

pub ok_with : {A E P : Type 0} (r : Result A E) → P → OnOk r P
ok_with (Ok a) p = p
ok_with (Err e) p = tt

-- the items of a list up to behind one of them
pub take-further : {X : Type 0} (xs : List X) (place : ℕ) (x : X) → slice_get xs place ≡ Some x → take (place + 1) xs ≡ take place xs ++ x ∷ []
take-further xs place x is = take-add place 1 xs ∙ ap (λ l. take place xs ++ take 1 l) (drop_at_item xs place x is)

pub item-at : {X : Type 0} (xs : List X) (place : ℕ) (o : Option X) (x : X) → o ≡ nth_item xs (place + 1) → o ≡ Some x → slice_get xs place ≡ Some x
item-at xs place o x found is = ap (nth_item xs) (sym (add-one place)) ∙ sym found ∙ is

-- the lines of the items up to behind one of them
pub lines-further : {X : Type 0} (line_of : X → List ℕ) (xs : List X) (place : ℕ) (x : X) (line : List ℕ) → slice_get xs place ≡ Some x → line ≡ line_of x
    → map line_of (take (place + 1) xs) ≡ map line_of (take place xs) ++ line ∷ []
lines-further line_of xs place x line at is =
    ap (map line_of) (take-further xs place x at) ∙ map-append line_of (take place xs) (x ∷ []) ∙ ap (λ l. map line_of (take place xs) ++ l ∷ []) (sym is)

pub all-one : {X : Type 0} (P : X → Type 0) (x : X) → P x → All P (x ∷ [])
all-one P x p zero d less = p
all-one P x p (suc k) d less = absurd (omega arith)

module _ {D : Type 0} (of : Telling D) where
  -- before the first call
  pub keeps-none : (log : Log D) → of.tells log.device → IsSettled of.seen of.may_leave log → ((left : Left) → of.left_since log.device (of.moment log.device) left → Now (of.may_leave log.device) (of.shown log.device) left)
      → KeepsLog of log log
  keeps-none log told settled only_now = record {
    tells = told;
    settled = settled;
    seen = refl;
    shown = refl;
    any_moment =
        moments.started of.moment of.left_since log.device (Keeps (logged (of.seen log.device)) (of.shown log.device))
        (λ left since.
        let now = only_now left since in
        record { lines_are = ap logged (settled.durable left.file now.0); shown_is = now.1 });
    failures = omega arith;
  }

  -- the same lines and the same text were there before
  moved : (before mid : Log D) → KeepsLog of before mid → (left : Left) → Keeps (logged (of.seen mid.device)) (of.shown mid.device) left → Keeps (logged (of.seen before.device)) (of.shown before.device) left
  moved before mid p left q = record { lines_are = q.lines_are ∙ ap logged p.seen; shown_is = q.shown_is ∙ p.shown }

  pub keeps-trans : (before mid after : Log D) → KeepsLog of before mid → KeepsLog of mid after → KeepsLog of before after
  keeps-trans before mid after p q = record {
    tells = q.tells;
    settled = q.settled;
    seen = q.seen ∙ p.seen;
    shown = q.shown ∙ p.shown;
    any_moment =
        moments.joined of.moment of.left_since before.device mid.device after.device _ _ (Keeps (logged (of.seen before.device)) (of.shown before.device)) p.any_moment q.any_moment (λ left is. is) (moved before mid p);
    failures = omega (arith, p.failures, q.failures);
  }

  moved-either : (before mid : Log D) (lines : List (List ℕ)) → KeepsLog of before mid → (left : Left) → KeepsEither (logged (of.seen mid.device)) lines (of.shown mid.device) left
      → KeepsEither (logged (of.seen before.device)) lines (of.shown before.device) left
  moved-either before mid lines p left (inl q) = inl (moved before mid p left q)
  moved-either before mid lines p left (inr q) = inr (record { lines_are = q.lines_are; shown_is = q.shown_is ∙ p.shown })

  pub takes-behind : (before mid after : Log D) (lines : List (List ℕ)) → KeepsLog of before mid → TakesLines of mid after lines → TakesLines of before after lines
  takes-behind before mid after lines p q = record {
    tells = q.tells;
    settled = q.settled;
    lines_are = q.lines_are;
    shown = q.shown ∙ p.shown;
    any_moment =
        moments.joined of.moment of.left_since before.device mid.device after.device _ _ (KeepsEither (logged (of.seen before.device)) lines (of.shown before.device)) p.any_moment q.any_moment (λ left is. inl is)
        (moved-either before mid lines p);
    failures = omega (arith, p.failures, q.failures);
  }

  pub loses-behind : (before mid after : Log D) (lines : List (List ℕ)) → KeepsLog of before mid → LosesLog of mid after lines → LosesLog of before after lines
  loses-behind before mid after lines p q = record {
    shown = q.shown ∙ p.shown;
    any_moment =
        moments.joined of.moment of.left_since before.device mid.device after.device _ _ (KeepsEither (logged (of.seen before.device)) lines (of.shown before.device)) p.any_moment q.any_moment (λ left is. inl is)
        (moved-either before mid lines p);
    failed = omega (arith, p.failures, q.failed);
  }

  pub fails-behind : (fault : RenewFault) (before mid after : Log D) (lines : List (List ℕ)) → KeepsLog of before mid → FailsToRenew fault of mid after lines
      → FailsToRenew fault of before after lines
  fails-behind faults.Memory before mid after lines p q = keeps-trans before mid after p q
  fails-behind faults.Kept before mid after lines p q = (keeps-trans before mid after p q.0, omega (arith, p.failures, q.1))
  fails-behind faults.Lost before mid after lines p q = loses-behind before mid after lines p q

  -- so often has the device failed
  pub failed-by : (fault : RenewFault) (before after : Log D) → FailsToWrite fault of before after → of.failures before.device + failures_by fault ≤ of.failures after.device
  failed-by faults.Memory before after p = omega (arith, p.failures)
  failed-by faults.Kept before after p = omega (arith, p.1)
  failed-by faults.Lost before after p = absurd p

  -- ---- the lines of the new file

  -- a line more is to follow
  pub writing-push : (before log : Log D) (pending more all : List (List ℕ)) (line : List ℕ) → IsWriting of before log pending all → IsLine line → more ≡ pending ++ line ∷ []
      → IsWriting of before log more (all ++ line ∷ [])
  writing-push before log pending more all line p is more_is = record {
    keeps = p.keeps;
    making = p.making;
    written =
        ap (λ ls. of.new_file log.device ++ joined ls) more_is ∙ ap (λ bs. of.new_file log.device ++ bs) (joined-append pending (line ∷ []))
        ∙ sym (append_assoc (of.new_file log.device) (joined pending) (joined (line ∷ []))) ∙ ap (λ bs. bs ++ joined (line ∷ [])) p.written
        ∙ sym (joined-append all (line ∷ []));
    are_lines = AreLines-append all (line ∷ []) p.are_lines (is, tt);
  }

  -- those that were to follow are written
  pub writing-flush : (before log after : Log D) (pending all : List (List ℕ)) → IsWriting of before log pending all → KeepsLog of log after → IsMaking of.new_file after
      → of.new_file after.device ≡ of.new_file log.device ++ joined pending → IsWriting of before after [] all
  writing-flush before log after pending all p keeps making pushed = record {
    keeps = keeps-trans before log after p.keeps keeps;
    making = making;
    written = append-nil (of.new_file after.device) ∙ pushed ∙ p.written;
    are_lines = p.are_lines;
  }

  pub writes-more : (old mid new : Log D) (pending following last first more both : List (List ℕ)) → both ≡ first ++ more → WritesOn of old mid pending following first
      → WritesOn of mid new following last more → WritesOn of old new pending last both
  writes-more old mid new pending following last first more both is p q before all w =
      subst (λ ls. IsWriting of before new last ls) (append_assoc all first more ∙ ap (λ ls. all ++ ls) (sym is)) (q before (all ++ first) (p before all w))

  -- nothing is written yet
  pub writing-none : (log : Log D) (pending : List (List ℕ)) → pending ≡ [] → KeepsLog of log log → IsMaking of.new_file log → of.new_file log.device ≡ [] → IsWriting of log log pending []
  writing-none log pending none keeps making empty = record {
    keeps = keeps;
    making = making;
    written = ap (λ ls. of.new_file log.device ++ joined ls) none ∙ append-nil (of.new_file log.device) ∙ empty;
    are_lines = tt;
  }

  -- all are written
  pub all-written : (before log : Log D) (all : List (List ℕ)) → IsWriting of before log [] all → (logged (of.new_file log.device) ≡ all) × IsJoined (of.new_file log.device)
  all-written before log all p =
      let bytes : of.new_file log.device ≡ joined all = sym (append-nil (of.new_file log.device)) ∙ p.written in
      let lines : logged (of.new_file log.device) ≡ all =
      ap logged bytes ∙ ap logged (sym (append-nil (joined all))) ∙ logged-joined all [] p.are_lines ∙ append-nil all in
      (lines, bytes ∙ ap joined (sym lines))

-- a text that is handed over with no lines
pub shows-none : (lines : List (List ℕ)) (shown text : List ℕ) (left : Left) → KeepsAnswered lines [] shown text left → KeepsShowing lines shown text left
shows-none lines shown text left (inl p) = record { lines_are = p.lines_are ∙ no-more p.count; bytes = 0; shown_is = p.shown_is ∙ sym (append-nil shown) }
  where
    none : (count : ℕ) → take {A = List ℕ} count [] ≡ []
    none count = take-nil count

    no-more : (count : ℕ) → lines ++ take count [] ≡ lines
    no-more count = ap (λ ls. lines ++ ls) (none count) ∙ append-nil lines
shows-none lines shown text left (inr p) = record { lines_are = p.0 ∙ append-nil lines; bytes = p.1.0; shown_is = p.1.1 }
