-- A file with bytes 0 behind its lines doesn't look ended, and neither does what a crash leaves of it.
use Rattle.std.proofs.Common.{◌≡◌, ◌⊎◌, ◌∙◌, ⊎_elim, ℕ, ◌+◌, ◌-◌, ◌<◌, ◌≤◌, List, [], ◌∷◌, ◌++◌, length, refl, sym, ap, subst, arith, append_assoc, length-append}
use Rattle.std.proofs.lemmas.List.{length-replicate, replicate-append-replicate}
use Rattle.tt_log.specs.Lines.{logged, joined, zeros, IsJoined}
use Rattle.tt_log.specs.Crash.{IsMix, written_over, MayBeWritten, MayBeLonger}
use Rattle.tt_log.specs.Device.{Left, Only, NothingNew, Follows, Now, Elapses, LeavesOnly}
use Rattle.tt_log.specs.Log.{AllUnclean, IsAtRest, IsUnclean, LeavesUnclean}
use Rattle.tt_log.proofs.MomentLemmas.{started, goes_on}
use Rattle.tt_log.proofs.LineLemmas.{logged-grown}
use Rattle.tt_log.proofs.SyncLemmas.{lines_within}
use Rattle.tt_log.proofs.WriteLemmas.{length-at_rest, logged-longer, written}

pub zeros-unclean : (file front : List ℕ) (n : ℕ) → 0 < n → file ≡ front ++ zeros n → IsUnclean file
zeros-unclean file front n some is ended =
    let lines : logged file ≡ logged front = ap logged is ∙ logged-grown front n in
    absurd (omega (
      arith,
      some,
      ap length is,
      length-append front (zeros n),
      length-replicate {A = ℕ} n 0,
      ap length ended,
      ap (λ (ls : List (List ℕ)). length (joined ls)) lines,
      lines_within front,
    ))

pub longer-unclean : (file : List ℕ) → length (joined (logged file)) < length file → IsUnclean file
longer-unclean file more ended = absurd (omega (arith, more, ap length ended))

pub only-unclean : (file : List ℕ) (may_leave : List ℕ → Type 0) → IsUnclean file → Only file may_leave → AllUnclean may_leave
only-unclean file may_leave is only left was = subst IsUnclean (sym (only left was)) is

-- what stands in both files is left
mix-same : (old after : List ℕ) → IsMix old old after → after ≡ old
mix-same [] [] mix = refl
mix-same [] (a ∷ after) mix = absurd mix
mix-same (o ∷ old) [] mix = absurd mix
mix-same (o ∷ old) (a ∷ after) mix =
    let same : a ≡ o = ⊎_elim (λ is. is) (λ is. is) mix.0 in
    λ i. same i ∷ mix-same old after mix.1 i

mix-last : (old new last after : List ℕ) → length old ≡ length new → IsMix (old ++ last) (new ++ last) after → (front : List ℕ) × (after ≡ front ++ last)
mix-last [] [] last after same mix = ([], mix-same last after mix)
mix-last [] (n ∷ new) last after same mix = absurd (omega (arith, same))
mix-last (o ∷ old) [] last after same mix = absurd (omega (arith, same))
mix-last (o ∷ old) (n ∷ new) last [] same mix = absurd mix
mix-last (o ∷ old) (n ∷ new) last (a ∷ after) same mix =
    let rest = mix-last old new last after (omega (arith, same)) mix.1 in
    (a ∷ rest.0, ap (λ (l : List ℕ). a ∷ l) rest.1)

-- lines are written into the bytes 0 behind the lines of a file, and some are left behind them
module _ (file bytes : List ℕ) (at_end : ℕ) (rest : IsAtRest file) (ends : at_end ≡ length (joined (logged file))) (waits : IsJoined bytes) (room : at_end + length bytes < length file) where
  abbrev behind : ℕ
  behind = rest.room - length bytes

  abbrev stands : List ℕ
  stands = joined (logged file)

  some : 0 < behind
  some = omega (arith, room, ends, length-at_rest file rest)

  old-is : file ≡ (stands ++ zeros (length bytes)) ++ zeros behind
  old-is =
      let fits : length bytes + behind ≡ rest.room = omega (arith, some) in
      rest.is
      ∙ ap (λ (n : ℕ). stands ++ zeros n) (sym fits)
      ∙ ap (λ (l : List ℕ). stands ++ l) (sym (replicate-append-replicate (length bytes) behind 0))
      ∙ sym (append_assoc stands (zeros (length bytes)) (zeros behind))

  new-is : written_over file at_end bytes ≡ (stands ++ joined (logged bytes)) ++ zeros behind
  new-is = written file bytes at_end rest ends waits ∙ sym (append_assoc stands (joined (logged bytes)) (zeros behind))

  as-long : length (stands ++ zeros (length bytes)) ≡ length (stands ++ joined (logged bytes))
  as-long = omega (
    arith,
    length-append stands (zeros (length bytes)),
    length-append stands (joined (logged bytes)),
    length-replicate {A = ℕ} (length bytes) 0,
    ap length waits,
  )

  pub torn-unclean : (after : List ℕ) → MayBeWritten at_end bytes file after → IsUnclean after
  torn-unclean after mix =
      let from_old = subst (λ (f : List ℕ). IsMix f (written_over file at_end bytes) after) old-is mix in
      let from_new = subst (λ (f : List ℕ). IsMix ((stands ++ zeros (length bytes)) ++ zeros behind) f after) new-is from_old in
      let last = mix-last (stands ++ zeros (length bytes)) (stands ++ joined (logged bytes)) (zeros behind) after as-long from_new in
      zeros-unclean after last.0 behind some last.1

-- a file that is made longer
pub grown-unclean : (len : ℕ) (file after : List ℕ) → length (joined (logged file)) < length file → MayBeLonger len file after → IsUnclean after
grown-unclean len file after more grown ended =
    absurd (omega (
      arith,
      more,
      ap length ended,
      ap (λ (ls : List (List ℕ)). length (joined ls)) (logged-longer len file after grown),
      ap length grown.longer,
      length-append file (zeros grown.more),
    ))

module _ {D : Type 0} (shown : D → List ℕ) (may_leave : D → List ℕ → Type 0) (moment : D → ℕ) (left_since : D → ℕ → Left → Type 0)
    (only_now : (d : D) (c : Left) → left_since d (moment d) c → Now (may_leave d) (shown d) c) where
  -- no call yet
  pub none_yet : (d : D) → AllUnclean (may_leave d) → LeavesOnly moment left_since d d LeavesUnclean
  none_yet d all = started moment left_since d LeavesUnclean (λ left was. all left.file (only_now d left was).0)

  -- one call more
  pub one_more : (old mid new : D) (sh : List ℕ) → LeavesOnly moment left_since old mid LeavesUnclean
      → Elapses (moment mid) (moment new) (left_since mid) (left_since new) (Now (may_leave new) sh) → AllUnclean (may_leave new) → LeavesOnly moment left_since old new LeavesUnclean
  one_more old mid new sh so_far time all = goes_on moment left_since old mid new LeavesUnclean (Now (may_leave new) sh) so_far time (λ left now. all left.file now.0)

  -- what a crash may leave at the end
  pub all_now : ((d : D) (t : ℕ) (c : Left) → t ≤ moment d → Now (may_leave d) (shown d) c → left_since d t c) → (old new : D) → LeavesOnly moment left_since old new LeavesUnclean → AllUnclean (may_leave new)
  all_now counts old new run left was =
      let here : Left = record { file = left; shown = shown new } in
      run.each here (counts new (moment old) here run.later (was, refl))

  -- made longer
  pub grow_unclean : (d new : D) (file : List ℕ) (len : ℕ) → length (joined (logged file)) < length file → Only file (may_leave d) → Follows (MayBeLonger len) (may_leave d) (may_leave new)
      → Elapses (moment d) (moment new) (left_since d) (left_since new) (Now (may_leave new) (shown d)) → LeavesOnly moment left_since d new LeavesUnclean
  grow_unclean d new file len more only crash time =
      one_more d d new (shown d) (none_yet d (only-unclean file (may_leave d) (longer-unclean file more) only)) time
      (λ left was. let from = crash left was in grown-unclean len file left more (subst (λ (f : List ℕ). MayBeLonger len f left) (only from.0 from.1) from.2))

  -- made longer, and then synced
  pub grow_sync_unclean : (d mid new : D) (file : List ℕ) (len : ℕ) → length (joined (logged file)) < length file → Only file (may_leave d) → Follows (MayBeLonger len) (may_leave d) (may_leave mid)
      → Elapses (moment d) (moment mid) (left_since d) (left_since mid) (Now (may_leave mid) (shown d)) → NothingNew (may_leave mid) (may_leave new)
      → Elapses (moment mid) (moment new) (left_since mid) (left_since new) (Now (may_leave new) (shown mid)) → LeavesOnly moment left_since d new LeavesUnclean
  grow_sync_unclean d mid new file len more only crash time less then =
      one_more d mid new (shown mid) (grow_unclean d mid file len more only crash time) then
      (λ left was. let from = crash left (less left was) in grown-unclean len file left more (subst (λ (f : List ℕ). MayBeLonger len f left) (only from.0 from.1) from.2))

  -- lines are written into the bytes 0 behind those that are there, and then synced
  module _ (old mid new : D) (file bytes : List ℕ) (at_end : ℕ) (rest : IsAtRest file) (ends : at_end ≡ length (joined (logged file))) (waits : IsJoined bytes)
      (room : at_end + length bytes < length file) (only : Only file (may_leave mid)) (so_far : LeavesOnly moment left_since old mid LeavesUnclean)
      (crash : Follows (MayBeWritten at_end bytes) (may_leave mid) (may_leave new)) (time : Elapses (moment mid) (moment new) (left_since mid) (left_since new) (Now (may_leave new) (shown mid))) where
    begun : AllUnclean (may_leave new)
    begun left was =
        let from = crash left was in
        torn-unclean file bytes at_end rest ends waits room left (subst (λ (f : List ℕ). MayBeWritten at_end bytes f left) (only from.0 from.1) from.2)

    pub write_unclean : LeavesOnly moment left_since old new LeavesUnclean
    write_unclean = one_more old mid new (shown mid) so_far time begun

    pub write_sync_unclean : (synced : D) → NothingNew (may_leave new) (may_leave synced)
        → Elapses (moment new) (moment synced) (left_since new) (left_since synced) (Now (may_leave synced) (shown new)) → LeavesOnly moment left_since old synced LeavesUnclean
    write_sync_unclean synced less then = one_more old new synced (shown new) write_unclean then (λ left was. begun left (less left was))

  -- a new file of lines is filled up by bytes 0, and then synced and named
  module _ (old grown synced : D) (bytes filled : List ℕ) (n : ℕ) (some : 0 < n) (is : filled ≡ bytes ++ zeros n) (all : AllUnclean (may_leave old))
      (crash : NothingNew (may_leave old) (may_leave grown)) (time : Elapses (moment old) (moment grown) (left_since old) (left_since grown) (Now (may_leave grown) (shown old)))
      (then_crash : NothingNew (may_leave grown) (may_leave synced)) (then : Elapses (moment grown) (moment synced) (left_since grown) (left_since synced) (Now (may_leave synced) (shown grown))) where
    fill_unclean : LeavesOnly moment left_since old synced LeavesUnclean
    fill_unclean =
        one_more old grown synced (shown grown)
        (one_more old old grown (shown old) (none_yet old all) time (λ left was. all left (crash left was)))
        then (λ left was. all left (crash left (then_crash left was)))

    pub name_unclean : (new : D) (may_leave_new : List ℕ → Type 0) → Only filled may_leave_new → ((c : List ℕ) → may_leave new c → may_leave synced c ⊎ may_leave_new c)
        → Elapses (moment synced) (moment new) (left_since synced) (left_since new) (Now (may_leave new) (shown synced)) → LeavesOnly moment left_since old new LeavesUnclean
    name_unclean new may_leave_new only either named =
        one_more old synced new (shown synced) fill_unclean named
        (λ left was. ⊎_elim (λ old_left. all left (crash left (then_crash left old_left))) (λ new_left. subst IsUnclean (sym (only left new_left)) (zeros-unclean filled bytes n some is)) (either left was))
