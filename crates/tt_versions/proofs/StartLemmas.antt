-- Versions none of which starts after a time.
use Rattle.std.proofs.Common.{◌≡◌, ℕ, ◌≤◌, nat_le, nat_lt, Bool, true, false, cond, List, [], ◌∷◌, ◌++◌, filter, fold, Option, None, Some, IfSome, refl, ap, ◌∙◌, arith, max}
use Rattle.std.proofs.lemmas.Grind.{common_steps}
use Rattle.std.specs.Option.{unwrap_or}
use Rattle.tt_values.specs.declared.row.Row.{Row}
use Rattle.tt_versions.specs.declared.side.Side.{Side}
use Rattle.tt_versions.specs.declared.side.Side.TheVariants.{Current, Next}
use Rattle.tt_versions.specs.declared.version.Version.{Version}
use Rattle.tt_versions.specs.declared.lineage.Lineage.{Lineage}
use Rattle.tt_versions.specs.Versions.{started_by, started_before, visible_row, last_row, with_write}
use Rattle.tt_versions.specs.Lineage.{chain_on, with_write_on, split_back, unsplit}
use Rattle.tt_versions.specs.Index.{AllStartBy, StartsBy}

pub max-first : (a b : ℕ) → a ≤ max a b
max-first a b = grind arith

pub max-second : (a b : ℕ) → b ≤ max a b
max-second a b = grind arith

AllStartBy-later : (earlier latest : ℕ) (vs : List Version) → earlier ≤ latest → AllStartBy earlier vs → AllStartBy latest vs
AllStartBy-later earlier latest [] later h = tt
AllStartBy-later earlier latest (v ∷ vs) later h = (omega (arith, later, h.0), AllStartBy-later earlier latest vs later h.1)

AllStartBy-filter : (latest : ℕ) (p : Version → Bool) (vs : List Version) → AllStartBy latest vs → AllStartBy latest (filter p vs)
AllStartBy-filter latest p [] h = tt
AllStartBy-filter latest p (v ∷ vs) h = by (p v) (AllStartBy-filter latest p vs h.1)
  where
    by : (b : Bool) → AllStartBy latest (filter p vs) → AllStartBy latest (cond b (v ∷ filter p vs) (filter p vs))
    by true rest = (h.0, rest)
    by false rest = rest

AllStartBy-push : (latest : ℕ) (vs : List Version) (v : Version) → AllStartBy latest vs → v.start ≤ latest → AllStartBy latest (vs ++ v ∷ [])
AllStartBy-push latest [] v h last = (last, tt)
AllStartBy-push latest (w ∷ vs) v h last = (h.0, AllStartBy-push latest vs v h.1 last)

-- all have started by then
started_all : (latest time : ℕ) (vs : List Version) → latest ≤ time → AllStartBy latest vs → started_by time vs ≡ vs
started_all latest time [] upto h = refl
started_all latest time (v ∷ vs) upto h =
    let here : nat_le v.start time ≡ true = starts v.start (omega (arith, upto, h.0)) in
    ap (λ b. cond b (v ∷ started_by time vs) (started_by time vs)) here ∙ ap (λ xs. v ∷ xs) (started_all latest time vs upto h.1)
  where
    starts : (n : ℕ) → n ≤ time → nat_le n time ≡ true
    starts n below = grind (arith, common_steps)

-- so the row that is visible from then on is that of the last
pub visible_row-latest : (latest time : ℕ) (vs : List Version) → latest ≤ time → AllStartBy latest vs → visible_row time vs ≡ last_row vs
visible_row-latest latest time vs upto h = ap last_row (started_all latest time vs upto h)

-- ---- lineages

pub StartsBy-later : (earlier latest : ℕ) (l : Lineage) → earlier ≤ latest → StartsBy earlier l → StartsBy latest l
StartsBy-later earlier latest l later h = (AllStartBy-later earlier latest l.current later h.0, by l.next h.1)
  where
    by : (n : Option (List Version)) → IfSome n (λ vs. AllStartBy earlier vs) → IfSome n (λ vs. AllStartBy latest vs)
    by None g = tt
    by (Some vs) g = AllStartBy-later earlier latest vs later g

pub StartsBy-on : (latest : ℕ) (side : Side) (l : Lineage) → StartsBy latest l → AllStartBy latest (chain_on side l)
StartsBy-on latest Current l h = h.0
StartsBy-on latest Next l h = by l.next h.1
  where
    by : (n : Option (List Version)) → IfSome n (λ vs. AllStartBy latest vs) → AllStartBy latest (unwrap_or n l.current)
    by None g = h.0
    by (Some vs) g = g

pub StartsBy-write : (latest : ℕ) (side : Side) (row : Option Row) (time : ℕ) (l : Lineage) → time ≤ latest → StartsBy latest l → StartsBy latest (with_write_on side row time l)
StartsBy-write latest Current row time l upto h =
    (AllStartBy-push latest (started_before time l.current) (record { start = time; row = row }) (AllStartBy-filter latest (λ v. nat_lt v.start time) l.current h.0) upto, h.1)
StartsBy-write latest Next row time l upto h =
    (h.0, AllStartBy-push latest (started_before time (chain_on Next l)) (record { start = time; row = row }) (AllStartBy-filter latest (λ v. nat_lt v.start time) (chain_on Next l) (StartsBy-on latest Next l h)) upto)

pub StartsBy-split_back : (latest time : ℕ) (l : Lineage) → StartsBy latest l → StartsBy latest (split_back time l)
StartsBy-split_back latest time l h = (h.0, AllStartBy-filter latest (λ v. nat_lt v.start time) (chain_on Next l) (StartsBy-on latest Next l h))

pub StartsBy-unsplit : (latest : ℕ) (side : Side) (l : Lineage) → StartsBy latest l → StartsBy latest (unsplit side l)
StartsBy-unsplit latest side l h = (StartsBy-on latest side l h, tt)

-- ---- the last row

last_row-push : (vs : List Version) (v : Version) (o : Option Row) → fold (λ row w. w.row) o (vs ++ v ∷ []) ≡ v.row
last_row-push [] v o = refl
last_row-push (w ∷ vs) v o = last_row-push vs v w.row

-- a current write is the last
pub last_row-write : (row : Option Row) (time : ℕ) (vs : List Version) → last_row (with_write row time vs) ≡ row
last_row-write row time vs = last_row-push (started_before time vs) (record { start = time; row = row }) None
