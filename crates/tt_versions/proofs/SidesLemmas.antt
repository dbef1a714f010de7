-- What a change of one row does to the sides of a table.
use Rattle.std.proofs.Common.{◌≡◌, ℕ, ℤ, Bool, true, false, cond, ◌&&◌, ◌||◌, nat_le, List, Option, None, Some, is_some, if◌then◌else◌, Less, Greater, Equal, refl, sym, ap, subst, ◌∙◌, [], ◌∷◌, not}
use Rattle.std.specs.List.{All}
use Rattle.std.proofs.lemmas.List.Elements.{All-nil, All-cons, All-head, All-tail}
use Rattle.std.proofs.lemmas.Int.{to_z-of_z}
use Rattle.std.specs.declared.cmp.Ordering.{Ordering}
use Rattle.std.specs.Option.{unwrap_or}
use Rattle.std.specs.Ordering.{int_cmp, int_eq, is_eq}
use Rattle.std.specs.Cmp.{int_cmp_total}
use Rattle.std.specs.FinMap.{int_cmp-IsAntisymmetric}
use Rattle.std.specs.FinMap.Entries as sorted
use Rattle.tt_pages.specs.MapEntries.{ChangesAt, MovesAt}
use Rattle.tt_values.specs.declared.row.Row.{Row}
use Rattle.tt_versions.specs.declared.side.Side.{Side}
use Rattle.tt_versions.specs.declared.side.Side.TheVariants.{Current, Next}
use Rattle.tt_versions.specs.declared.version.Version.{Version}
use Rattle.tt_versions.specs.declared.lineage.Lineage.{Lineage}
use Rattle.tt_versions.specs.Versions.{visible_row}
use Rattle.tt_versions.specs.Versions as versions
use Rattle.tt_versions.specs.Lineage.{unwritten, chain_on, with_write_on, split_back}
use Rattle.tt_versions.specs.Sides.{LineagesByKey, lineage_at, side_of, current_of, next_of, is_split, written_from, all_written_from, whole_among, with_writes, StaysSplit, just_before, rolled_back_from, with_key}
use Rattle.tt_versions.proofs.VersionsLemmas.{visible_row-with_write, visible_row-without_writes_from}

tied : (o : Ordering) → is_eq o ≡ true → o ≡ Equal
tied Less e = cc
tied Equal e = refl
tied Greater e = cc

-- only a key itself ties with it
pub same_key : (q key : ℤ) → int_eq q key ≡ true → q ≡ key
same_key q key e = int_cmp-IsAntisymmetric q key (tied (int_cmp q key) e)

-- one key gets a lineage, and the others stay
pub lineage_at-put : (t : LineagesByKey) (key : ℤ) (l : Lineage) (q : ℤ) → lineage_at (sorted.put int_cmp key l t) q ≡ cond (int_eq q key) l (lineage_at t q)
lineage_at-put t key l q = ap (λ o. unwrap_or o unwritten) (sorted.find-put int_cmp int_cmp_total q key l t) ∙ by (int_eq q key)
  where
    by : (b : Bool) → unwrap_or (cond b (Some l) (sorted.find int_cmp q t)) unwritten ≡ cond b l (lineage_at t q)
    by true = refl
    by false = refl

-- a lineage that a key has is changed, and the others stay
pub changed-there : (t after : LineagesByKey) (key : ℤ) (change : Lineage → Lineage) (l : Lineage) → sorted.find int_cmp key t ≡ Some l → ChangesAt key change t after
    → after ≡ sorted.put int_cmp key (change (lineage_at t key)) t
changed-there t after key change l found changes = changes l found ∙ ap (λ x. sorted.put int_cmp key (change x) t) (sym (ap (λ o. unwrap_or o unwritten) found))

-- and a lineage that a map is said to have
pub changed-if-there : (t after : LineagesByKey) (key : ℤ) (change : Lineage → Lineage) → is_some (sorted.find int_cmp key t) ≡ true → ChangesAt key change t after
    → after ≡ sorted.put int_cmp key (change (lineage_at t key)) t
changed-if-there t after key change there changes = by (sorted.find int_cmp key t) refl
  where
    by : (o : Option Lineage) → sorted.find int_cmp key t ≡ o → after ≡ sorted.put int_cmp key (change (lineage_at t key)) t
    by None none = let clash : false ≡ true = sym (ap is_some none) ∙ there in cc
    by (Some l) found = changed-there t after key change l found changes

-- what became of a context beside it
pub moved-if-there : {C : Type 0} (t : LineagesByKey) (key : ℤ) (moves : Lineage → C → C → Type 0) (before after : C) → is_some (sorted.find int_cmp key t) ≡ true → MovesAt key moves t before after
    → moves (lineage_at t key) before after
moved-if-there t key moves before after there moved = by (sorted.find int_cmp key t) refl
  where
    by : (o : Option Lineage) → sorted.find int_cmp key t ≡ o → moves (lineage_at t key) before after
    by None none = let clash : false ≡ true = sym (ap is_some none) ∙ there in cc
    by (Some l) found = subst (λ x. moves x before after) (sym (ap (λ o. unwrap_or o unwritten) found)) (moved l found)

-- a row that was never written is there at no time
pub visible_row-unwritten : (time : ℕ) (side : Side) → visible_row time (chain_on side unwritten) ≡ None
visible_row-unwritten time Current = refl
visible_row-unwritten time Next = refl

-- a side on which a row is written
pub side_of-put_written : (t : LineagesByKey) (side : Side) (key : ℤ) (row : Option Row) (time : ℕ) (l : Lineage)
    → ((u : ℕ) → visible_row u (chain_on side l) ≡ (if nat_le time u then row else visible_row u (chain_on side (lineage_at t key))))
    → side_of (sorted.put int_cmp key l t) side ≡ written_from key row time (side_of t side)
unfolding side_of
side_of-put_written t side key row time l shows = λ i q u. (ap (λ x. visible_row u (chain_on side x)) (lineage_at-put t key l q) ∙ by q u (int_eq q key) refl) i
  where
    by : (q : ℤ) (u : ℕ) (b : Bool) → int_eq q key ≡ b
        → visible_row u (chain_on side (cond b l (lineage_at t q))) ≡ (if b && nat_le time u then row else visible_row u (chain_on side (lineage_at t q)))
    by q u true e = shows u ∙ ap (λ k. if nat_le time u then row else visible_row u (chain_on side (lineage_at t k))) (sym (same_key q key e))
    by q u false e = refl

-- a side on which the chain of a row stays
pub side_of-put_same : (t : LineagesByKey) (side : Side) (key : ℤ) (l : Lineage) → chain_on side l ≡ chain_on side (lineage_at t key) → side_of (sorted.put int_cmp key l t) side ≡ side_of t side
unfolding side_of
side_of-put_same t side key l same = λ i q u. (ap (λ x. visible_row u (chain_on side x)) (lineage_at-put t key l q) ∙ by q u (int_eq q key) refl) i
  where
    by : (q : ℤ) (u : ℕ) (b : Bool) → int_eq q key ≡ b → visible_row u (chain_on side (cond b l (lineage_at t q))) ≡ visible_row u (chain_on side (lineage_at t q))
    by q u true e = ap (visible_row u) same ∙ ap (λ k. visible_row u (chain_on side (lineage_at t k))) (sym (same_key q key e))
    by q u false e = refl

-- the split keys, where a row is split as before
pub is_split-put_same : (t : LineagesByKey) (key : ℤ) (l : Lineage) → is_some l.next ≡ is_split t key → is_split (sorted.put int_cmp key l t) ≡ is_split t
unfolding is_split
is_split-put_same t key l same = λ i q. (ap (λ x. is_some x.next) (lineage_at-put t key l q) ∙ by q (int_eq q key) refl) i
  where
    by : (q : ℤ) (b : Bool) → int_eq q key ≡ b → is_some (cond b l (lineage_at t q)).next ≡ is_some (lineage_at t q).next
    by q true e = same ∙ ap (λ k. is_some (lineage_at t k).next) (sym (same_key q key e))
    by q false e = refl

-- and where it gets split
pub is_split-put_split : (t : LineagesByKey) (key : ℤ) (l : Lineage) → is_some l.next ≡ true → is_split (sorted.put int_cmp key l t) ≡ with_key key (is_split t)
unfolding is_split
is_split-put_split t key l split = λ i q. (ap (λ x. is_some x.next) (lineage_at-put t key l q) ∙ by q (int_eq q key)) i
  where
    by : (q : ℤ) (b : Bool) → is_some (cond b l (lineage_at t q)).next ≡ (b || is_some (lineage_at t q).next)
    by q true = split
    by q false = refl

-- a current write: the current side
pub current_of-write : (t : LineagesByKey) (key : ℤ) (row : Option Row) (time : ℕ) → side_of (sorted.put int_cmp key (with_write_on Current row time (lineage_at t key)) t) Current ≡ written_from key row time (current_of t)
current_of-write t key row time = side_of-put_written t Current key row time (with_write_on Current row time (lineage_at t key)) (λ u. visible_row-with_write row time u (lineage_at t key).current)

-- and the next side, which it changes where the row isn't split
pub next_of-write : (t : LineagesByKey) (key : ℤ) (row : Option Row) (time : ℕ)
    → side_of (sorted.put int_cmp key (with_write_on Current row time (lineage_at t key)) t) Next ≡ (if is_split t key then side_of t Next else written_from key row time (next_of t))
unfolding is_split
next_of-write t key row time = by (lineage_at t key).next refl
  where
    l : Lineage
    l = lineage_at t key

    new : List Version
    new = versions.with_write row time l.current

    by : (n : Option (List Version)) → l.next ≡ n
        → side_of (sorted.put int_cmp key (with_write_on Current row time l) t) Next ≡ (if is_some n then side_of t Next else written_from key row time (next_of t))
    by (Some n) e = side_of-put_same t Next key (with_write_on Current row time l) (ap (λ m. unwrap_or m new) e ∙ sym (ap (λ m. unwrap_or m l.current) e))
    by None e =
        side_of-put_written t Next key row time (with_write_on Current row time l)
        (λ u. ap (λ m. visible_row u (unwrap_or m new)) e ∙ visible_row-with_write row time u l.current ∙ ap (λ m. if nat_le time u then row else visible_row u (unwrap_or m l.current)) (sym e))

pub is_split-write : (t : LineagesByKey) (key : ℤ) (row : Option Row) (time : ℕ) → is_split (sorted.put int_cmp key (with_write_on Current row time (lineage_at t key)) t) ≡ is_split t
is_split-write t key row time = is_split-put_same t key (with_write_on Current row time (lineage_at t key)) (unfold is_split in refl)

-- a row is split and rolled back
pub current_of-split_back : (t : LineagesByKey) (key : ℤ) (time : ℕ) → side_of (sorted.put int_cmp key (split_back time (lineage_at t key)) t) Current ≡ side_of t Current
current_of-split_back t key time = side_of-put_same t Current key (split_back time (lineage_at t key)) refl

pub next_of-split_back : (t : LineagesByKey) (key : ℤ) (time : ℕ) → side_of (sorted.put int_cmp key (split_back time (lineage_at t key)) t) Next ≡ rolled_back_from key time (next_of t)
unfolding side_of
next_of-split_back t key time =
    side_of-put_written t Next key (just_before time (next_of t key)) time (split_back time (lineage_at t key)) (λ u. visible_row-without_writes_from time u (chain_on Next (lineage_at t key)))

pub is_split-split_back : (t : LineagesByKey) (key : ℤ) (time : ℕ) → is_split (sorted.put int_cmp key (split_back time (lineage_at t key)) t) ≡ with_key key (is_split t)
is_split-split_back t key time = is_split-put_split t key (split_back time (lineage_at t key)) refl

-- a write on the next side of a split row
pub current_of-next_write : (t : LineagesByKey) (key : ℤ) (row : Option Row) (time : ℕ) → side_of (sorted.put int_cmp key (with_write_on Next row time (lineage_at t key)) t) Current ≡ side_of t Current
current_of-next_write t key row time = side_of-put_same t Current key (with_write_on Next row time (lineage_at t key)) refl

pub next_of-next_write : (t : LineagesByKey) (key : ℤ) (row : Option Row) (time : ℕ) → side_of (sorted.put int_cmp key (with_write_on Next row time (lineage_at t key)) t) Next ≡ written_from key row time (next_of t)
next_of-next_write t key row time = side_of-put_written t Next key row time (with_write_on Next row time (lineage_at t key)) (λ u. visible_row-with_write row time u (chain_on Next (lineage_at t key)))

pub is_split-next_write : (t : LineagesByKey) (key : ℤ) (row : Option Row) (time : ℕ) → is_split t key ≡ true → is_split (sorted.put int_cmp key (with_write_on Next row time (lineage_at t key)) t) ≡ is_split t
is_split-next_write t key row time split = is_split-put_same t key (with_write_on Next row time (lineage_at t key)) (sym split)

-- a row that isn't split is the same on both sides
pub next_of-whole : (t : LineagesByKey) (key : ℤ) → is_split t key ≡ false → next_of t key ≡ current_of t key
unfolding is_split side_of
next_of-whole t key whole = λ i u. by (lineage_at t key).next whole u i
  where
    by : (n : Option (List Version)) → is_some n ≡ false → (u : ℕ) → visible_row u (unwrap_or n (lineage_at t key).current) ≡ visible_row u (lineage_at t key).current
    by None e u = refl
    by (Some n) e u = cc

-- several current writes, one after another: the current side
pub current_of-with_writes : (es : List (ℤ × Option Row)) (time : ℕ) (t : LineagesByKey) → side_of (with_writes Current es time t) Current ≡ all_written_from es time (current_of t)
current_of-with_writes [] time t = refl
current_of-with_writes (e ∷ es) time t =
    current_of-with_writes es time (sorted.put int_cmp e.0 (with_write_on Current e.1 time (lineage_at t e.0)) t)
    ∙ ap (all_written_from es time) (current_of-write t e.0 e.1 time)

-- the split keys
pub is_split-with_writes : (es : List (ℤ × Option Row)) (time : ℕ) (t : LineagesByKey) → is_split (with_writes Current es time t) ≡ is_split t
is_split-with_writes [] time t = refl
is_split-with_writes (e ∷ es) time t =
    is_split-with_writes es time (sorted.put int_cmp e.0 (with_write_on Current e.1 time (lineage_at t e.0)) t) ∙ is_split-write t e.0 e.1 time

-- and the next side, which they change where a row isn't split
pub next_of-with_writes : (es : List (ℤ × Option Row)) (time : ℕ) (t : LineagesByKey)
    → side_of (with_writes Current es time t) Next ≡ all_written_from (whole_among (is_split t) es) time (next_of t)
next_of-with_writes [] time t = refl
next_of-with_writes (e ∷ es) time t =
    next_of-with_writes es time after
    ∙ ap (λ split. all_written_from (whole_among split es) time (next_of after)) (is_split-write t e.0 e.1 time)
    ∙ ap (all_written_from (whole_among (is_split t) es) time) (next_of-write t e.0 e.1 time)
    ∙ by (is_split t e.0)
  where
    after : LineagesByKey
    after = sorted.put int_cmp e.0 (with_write_on Current e.1 time (lineage_at t e.0)) t

    by : (b : Bool)
        → all_written_from (whole_among (is_split t) es) time (if b then side_of t Next else written_from e.0 e.1 time (next_of t))
        ≡ all_written_from (cond (not b) (e ∷ whole_among (is_split t) es) (whole_among (is_split t) es)) time (next_of t)
    by true = refl
    by false = refl

-- several writes on the next side: the current side
pub current_of-with_next_writes : (es : List (ℤ × Option Row)) (time : ℕ) (t : LineagesByKey) → side_of (with_writes Next es time t) Current ≡ side_of t Current
current_of-with_next_writes [] time t = refl
current_of-with_next_writes (e ∷ es) time t =
    current_of-with_next_writes es time (sorted.put int_cmp e.0 (with_write_on Next e.1 time (lineage_at t e.0)) t)
    ∙ current_of-next_write t e.0 e.1 time

-- and the next one
pub next_of-with_next_writes : (es : List (ℤ × Option Row)) (time : ℕ) (t : LineagesByKey) → side_of (with_writes Next es time t) Next ≡ all_written_from es time (next_of t)
next_of-with_next_writes [] time t = refl
next_of-with_next_writes (e ∷ es) time t =
    next_of-with_next_writes es time (sorted.put int_cmp e.0 (with_write_on Next e.1 time (lineage_at t e.0)) t)
    ∙ ap (all_written_from es time) (next_of-next_write t e.0 e.1 time)

-- rows that stay split or not keep the split keys
pub is_split-write_on : (side : Side) (t : LineagesByKey) (key : ℤ) (row : Option Row) (time : ℕ) → StaysSplit side (is_split t) key
    → is_split (sorted.put int_cmp key (with_write_on side row time (lineage_at t key)) t) ≡ is_split t
is_split-write_on Current t key row time h = is_split-write t key row time
is_split-write_on Next t key row time h = is_split-next_write t key row time h

pub is_split-with_next_writes : (es : List (ℤ × Option Row)) (time : ℕ) (t : LineagesByKey) → All (λ e. is_split t e.0 ≡ true) es → is_split (with_writes Next es time t) ≡ is_split t
is_split-with_next_writes [] time t h = refl
is_split-with_next_writes (e ∷ es) time t h =
    let after = sorted.put int_cmp e.0 (with_write_on Next e.1 time (lineage_at t e.0)) t in
    let same : is_split after ≡ is_split t = is_split-next_write t e.0 e.1 time (All-head (λ e. is_split t e.0 ≡ true) e es h) in
    is_split-with_next_writes es time after (subst (λ (split : ℤ → Bool). All (λ e. split e.0 ≡ true) es) (sym same) (All-tail (λ e. is_split t e.0 ≡ true) e es h)) ∙ same

pub StaysSplit-current : (split : ℤ → Bool) (es : List (ℤ × Option Row)) → All (λ e. StaysSplit Current split e.0) es
StaysSplit-current split [] = All-nil (λ (e : ℤ × Option Row). StaysSplit Current split e.0)
StaysSplit-current split (e ∷ es) = All-cons (λ (e : ℤ × Option Row). StaysSplit Current split e.0) e es tt (StaysSplit-current split es)

-- what writing several rows rests on
pub ruleset writes_all = (current_of-with_writes, next_of-with_writes, is_split-with_writes)

-- and on the next side
pub ruleset writes_all_next = (current_of-with_next_writes, next_of-with_next_writes, is_split-with_next_writes)

-- what reading one row rests on
pub ruleset reads = (to_z-of_z, visible_row-unwritten, next_of-whole)

-- what splitting a row and rolling it back rests on
pub ruleset splits_back = (to_z-of_z, current_of-split_back, next_of-split_back, is_split-split_back)
