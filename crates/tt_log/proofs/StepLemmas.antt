-- The calls of a device on a file at rest, one after another.
use Rattle.std.proofs.Common.{◌≡◌, ℕ, List, ◌++◌, length, take, sym, ◌∙◌, ap, arith, inl, inr, ⊎_elim}
use Rattle.std.proofs.lemmas.List.{append-nil}
use Rattle.tt_log.specs.Lines.{logged, joined, AreLines}
use Rattle.tt_log.specs.Device.{Left, Only, NothingNew, Follows, Now, Elapses, LeavesOnly}
use Rattle.tt_log.specs.Crash.{MayBeWritten, MayBeLonger}
use Rattle.tt_log.specs.Log.{IsAtRest, Keeps, KeepsFirst}
use Rattle.tt_log.proofs.MomentLemmas.{started, goes_on}
use Rattle.tt_log.proofs.PendingLemmas.{logged-lines, IsJoined-joined}
use Rattle.tt_log.proofs.WriteLemmas.{crash_begun, crash_grown}

pub kept : (file : List ℕ) (outcomes : List ℕ → Type 0) (sh : List ℕ) → Only file outcomes → (left : Left) → Now outcomes sh left → Keeps (logged file) sh left
kept file outcomes sh only left now = record { lines_are = ap logged (only left.file now.0); shown_is = now.1 }

module _ {D : Type 0} (shown : D → List ℕ) (may_leave : D → List ℕ → Type 0) (moment : D → ℕ) (left_since : D → ℕ → Left → Type 0)
    (only_now : (d : D) (c : Left) → left_since d (moment d) c → Now (may_leave d) (shown d) c) where
  -- no call yet
  pub none_yet : (d : D) (file : List ℕ) → Only file (may_leave d) → LeavesOnly moment left_since d d (Keeps (logged file) (shown d))
  none_yet d file only = started moment left_since d (Keeps (logged file) (shown d)) (λ left was. kept file (may_leave d) (shown d) only left (only_now d left was))

  -- one call more
  pub step : (old mid new : D) (P : Left → Type 0) → LeavesOnly moment left_since old mid P
      → Elapses (moment mid) (moment new) (left_since mid) (left_since new) (Now (may_leave new) (shown mid)) → shown mid ≡ shown old
      → ((left : Left) → Now (may_leave new) (shown old) left → P left) → LeavesOnly moment left_since old new P
  step old mid new P so_far time same here =
      goes_on moment left_since old mid new P (Now (may_leave new) (shown mid)) so_far time (λ left now. here left (now.0, now.1 ∙ same))

  -- made longer
  pub grown : (d new : D) (file : List ℕ) (len : ℕ) → Only file (may_leave d) → Follows (MayBeLonger len) (may_leave d) (may_leave new)
      → Elapses (moment d) (moment new) (left_since d) (left_since new) (Now (may_leave new) (shown d)) → LeavesOnly moment left_since d new (Keeps (logged file) (shown d))
  grown d new file len only crash time =
      goes_on moment left_since d d new (Keeps (logged file) (shown d)) (Now (may_leave new) (shown d)) (none_yet d file only) time
      (crash_grown len file (may_leave d) (may_leave new) (shown d) only crash)

  -- made longer, and then synced
  pub grown_synced : (d mid new : D) (file : List ℕ) (len : ℕ) → Only file (may_leave d) → Follows (MayBeLonger len) (may_leave d) (may_leave mid)
      → Elapses (moment d) (moment mid) (left_since d) (left_since mid) (Now (may_leave mid) (shown d)) → shown mid ≡ shown d
      → ((c : List ℕ) → may_leave new c → may_leave mid c) → Elapses (moment mid) (moment new) (left_since mid) (left_since new) (Now (may_leave new) (shown mid))
      → LeavesOnly moment left_since d new (Keeps (logged file) (shown d))
  grown_synced d mid new file len only crash time same less then =
      step d mid new (Keeps (logged file) (shown d)) (grown d mid file len only crash time) then same
      (λ left now. crash_grown len file (may_leave d) (may_leave mid) (shown d) only crash left (less left.file now.0, now.1))

  -- a run that kept the lines began none of the new
  pub begun_none : (old new : D) (lines more : List (List ℕ)) (sh : List ℕ) → LeavesOnly moment left_since old new (Keeps lines sh) → LeavesOnly moment left_since old new (KeepsFirst lines more sh)
  begun_none old new lines more sh run = record {
    later = run.later;
    each = λ c left. begins c (run.each c left);
    before = λ t c le left. ⊎_elim (λ was. inl was) (λ k. inr (begins c k)) (run.before t c le left);
  }
    where
      begins : (c : Left) → Keeps lines sh c → KeepsFirst lines more sh c
      begins c k = record { count = 0; no_more = omega arith; lines_are = k.lines_are ∙ sym (append-nil lines); shown_is = k.shown_is }

  -- lines are written behind those that are there, and then synced
  module _ (old mid new : D) (lines more : List (List ℕ)) (file bytes : List ℕ) (at_end : ℕ) (rest : IsAtRest file) (ends : at_end ≡ length (joined (logged file))) (lines_are : logged file ≡ lines)
      (are : AreLines more) (bytes_are : bytes ≡ joined more) (only : Only file (may_leave mid)) (so_far : LeavesOnly moment left_since old mid (Keeps lines (shown old))) (same : shown mid ≡ shown old)
      (crash : Follows (MayBeWritten at_end bytes) (may_leave mid) (may_leave new)) (time : Elapses (moment mid) (moment new) (left_since mid) (left_since new) (Now (may_leave new) (shown mid))) where
    begun : (left : Left) → Now (may_leave new) (shown old) left → KeepsFirst lines more (shown old) left
    begun left now =
        let first = crash_begun file bytes at_end rest ends (IsJoined-joined bytes more are bytes_are) (may_leave mid) (may_leave new) (shown old) only crash left now in
        let more_is : logged bytes ≡ more = ap logged bytes_are ∙ logged-lines more are in
        record {
          count = first.count;
          no_more = omega (arith, first.no_more, ap length more_is);
          lines_are = first.lines_are ∙ (λ j. lines_are j ++ take first.count (more_is j));
          shown_is = first.shown_is;
        }

    pub written : LeavesOnly moment left_since old new (KeepsFirst lines more (shown old))
    written = step old mid new (KeepsFirst lines more (shown old)) (begun_none old mid lines more (shown old) so_far) time same begun

    pub written_synced : (synced : D) → shown new ≡ shown mid → NothingNew (may_leave new) (may_leave synced)
        → Elapses (moment new) (moment synced) (left_since new) (left_since synced) (Now (may_leave synced) (shown new)) → LeavesOnly moment left_since old synced (KeepsFirst lines more (shown old))
    written_synced synced same_new less then = step old new synced (KeepsFirst lines more (shown old)) written then (same_new ∙ same) (λ left now. begun left (less left.file now.0, now.1))
