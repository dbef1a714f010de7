-- The stamps of slots: those that are printed with their lines, and those that a session has which reads the lines.
use Rattle.std.proofs.Common.{◌≡◌, ℕ, zero, suc, ◌+◌, ◌-◌, ◌≤◌, List, [], ◌∷◌, ◌++◌, length, take, drop, replicate, append-nil, append_assoc, length-append, Option, None, Some, slice_get, refl, sym, ap, ◌∙◌, arith, add-one}
use Rattle.std.specs.Option.{option_map, option_flatten}
use Rattle.std.proofs.Math.Seq.{take-length}
use Rattle.std.proofs.lemmas.List.{length-drop, length-replicate}
use Rattle.tt_db.specs.declared.event.Entry.{Entry}
use Rattle.tt_db.specs.Database.{nth_item}
use Rattle.tt_commands.specs.Stamps.{EndsStamped}
use Rattle.tt_session.specs.LogLines.{stamped_entries}

-- ---- entries with their stamps

pub length-stamped_entries : (entries : List Entry) (stamps : List (Option ℕ)) → length (stamped_entries entries stamps) ≡ length entries
length-stamped_entries [] stamps = refl
length-stamped_entries (e ∷ entries) [] = ap suc (length-stamped_entries entries [])
length-stamped_entries (e ∷ entries) (stamp ∷ stamps) = ap suc (length-stamped_entries entries stamps)

abbrev unstamped : Entry → Entry × Option ℕ
unstamped e = (e, None)

abbrev stamped : Option ℕ → Entry → Entry × Option ℕ
stamped stamp e = (e, stamp)

-- an entry has the stamp of its place
pub stamped_entry-at : (entries : List Entry) (stamps : List (Option ℕ)) (place : ℕ) (e : Entry) → slice_get entries place ≡ Some e
    → slice_get (stamped_entries entries stamps) place ≡ Some (e, option_flatten (slice_get stamps place))
stamped_entry-at [] stamps place e is = cc
stamped_entry-at (d ∷ entries) [] zero e is = ap (option_map unstamped) is
stamped_entry-at (d ∷ entries) [] (suc place) e is = stamped_entry-at entries [] place e is
stamped_entry-at (d ∷ entries) (stamp ∷ stamps) zero e is = ap (option_map (stamped stamp)) is
stamped_entry-at (d ∷ entries) (stamp ∷ stamps) (suc place) e is = stamped_entry-at entries stamps place e is

-- the entry at a place behind others, with the stamp that was found for it
pub slot-at : (h : List Entry) (from place number : ℕ) (stamps : List (Option ℕ)) (e : Entry) (stamp : Option ℕ) → from ≤ place → slice_get h place ≡ Some e → number ≡ place + 1 - from
    → stamp ≡ option_flatten (nth_item stamps number) → slice_get (stamped_entries (drop from h) stamps) (place - from) ≡ Some (e, stamp)
slot-at h from place number stamps e stamp behind at number_is found =
    let count : number ≡ suc (place - from) = omega (arith, number_is, behind) in
    let there : slice_get (drop from h) (place - from) ≡ Some e = behind-get h from (place - from) place (omega (arith, behind)) ∙ at in
    stamped_entry-at (drop from h) stamps (place - from) e there ∙ ap (λ s. Some (e, s)) (sym (found ∙ ap (λ n. option_flatten (nth_item stamps n)) count))
  where
    behind-get : (xs : List Entry) (n k place : ℕ) → place ≡ n + k → slice_get (drop n xs) k ≡ slice_get xs place
    behind-get xs zero k place is = let same : k ≡ place = omega (arith, is) in ap (slice_get xs) same
    behind-get [] (suc n) k place is = refl
    behind-get (x ∷ xs) (suc n) k zero is = absurd (omega (arith, is))
    behind-get (x ∷ xs) (suc n) k (suc place) is = behind-get xs n k place (omega (arith, is))

-- these are all of them
pub slots-all : (h : List Entry) (from place : ℕ) (stamps : List (Option ℕ)) → place ≡ length h → take (place - from) (stamped_entries (drop from h) stamps) ≡ stamped_entries (drop from h) stamps
slots-all h from place stamps end =
    let count : place - from ≡ length (stamped_entries (drop from h) stamps) = omega (arith, end, length-drop from h, length-stamped_entries (drop from h) stamps) in
    ap (λ n. take n (stamped_entries (drop from h) stamps)) count ∙ take-length (stamped_entries (drop from h) stamps)

-- ---- a session that reads slots

-- the stamps that a session has once it has read further slots with these stamps. It has read so many without a stamp behind the last one that had one
abbrev pub stamps_read : List (Option ℕ) → ℕ → List (Option ℕ) → List (Option ℕ)
stamps_read stamps without [] = stamps
stamps_read stamps without (None ∷ more) = stamps_read stamps (without + 1) more
stamps_read stamps without (Some s ∷ more) = stamps_read (stamps ++ replicate without None ++ Some s ∷ []) 0 more

abbrev no_stamp : Option ℕ
no_stamp = None

pub length-read : (stamps : List (Option ℕ)) (without s : ℕ) → length (stamps ++ replicate without None ++ Some s ∷ []) ≡ length stamps + (without + 1)
length-read stamps without s =
    omega (
      arith,
      length-append (stamps ++ replicate without no_stamp) (Some s ∷ []),
      length-append stamps (replicate without no_stamp),
      length-replicate without no_stamp,
    )

replicate-more : (n : ℕ) (stamp : Option ℕ) (stamps : List (Option ℕ)) → replicate (suc n) stamp ++ stamps ≡ replicate n stamp ++ stamp ∷ stamps
replicate-more zero stamp stamps = refl
replicate-more (suc n) stamp stamps = ap (λ l. stamp ∷ l) (replicate-more n stamp stamps)

-- it has them all, since the last one is of a slot that has one
read-all : (stamps : List (Option ℕ)) (without : ℕ) (stamp : Option ℕ) (more : List (Option ℕ)) → EndsStamped (stamp ∷ more)
    → stamps_read stamps without (stamp ∷ more) ≡ stamps ++ replicate without None ++ stamp ∷ more
read-all stamps without None [] ends = absurd (ends refl)
read-all stamps without (Some s) [] ends = refl
read-all stamps without None (next ∷ more) ends =
    let others : List (Option ℕ) = next ∷ more in
    let none : List (Option ℕ) = replicate without no_stamp in
    let one_more : replicate (without + 1) no_stamp ++ others ≡ none ++ None ∷ others =
    ap (λ n. replicate n no_stamp ++ others) (add-one without) ∙ replicate-more without no_stamp others in
    read-all stamps (without + 1) next more ends ∙ append_assoc stamps (replicate (without + 1) no_stamp) others ∙ ap (λ l. stamps ++ l) one_more
    ∙ sym (append_assoc stamps none (None ∷ others))
read-all stamps without (Some s) (next ∷ more) ends =
    let others : List (Option ℕ) = next ∷ more in
    let before : List (Option ℕ) = stamps ++ replicate without no_stamp in
    read-all (before ++ Some s ∷ []) 0 next more ends ∙ ap (λ l. l ++ others) (append-nil (before ++ Some s ∷ [])) ∙ append_assoc before (Some s ∷ []) others

pub read-same : (stamps : List (Option ℕ)) → EndsStamped stamps → stamps_read [] 0 stamps ≡ stamps
read-same [] ends = refl
read-same (stamp ∷ stamps) ends = read-all [] 0 stamp stamps ends

-- ---- numbers of slots

-- a ground of no more slots
pub none-laid : (now : ℕ) → now ≡ now + 0
none-laid now = omega arith

-- and of one more
pub one-laid : (now later last count : ℕ) → last ≡ later + count → later ≡ now + 1 → last ≡ now + suc count
one-laid now later last count rest next = omega (arith, rest, next)

-- all of them are the ground
pub all-laid : (now count ground read size : ℕ) → now ≡ 0 + count → count ≡ size → ground ≡ size → read ≡ 0 → now ≡ ground + (read + 0)
all-laid now count ground read size now_is all ground_is none = omega (arith, now_is, all, ground_is, none)

-- as many slots without a stamp as there are places up to that of the next one
pub places-between : (now ground read without : ℕ) → now ≡ ground + (read + without) → now + 1 - ground - 1 - read ≡ without
places-between now ground read without is = omega (arith, is)

-- a slot without a stamp
pub now-unstamped : (now later ground read without : ℕ) → now ≡ ground + (read + without) → later ≡ now + 1 → later ≡ ground + (read + (without + 1))
now-unstamped now later ground read without is next = omega (arith, is, next)

-- a slot with one
pub now-stamped : (now later ground read more without : ℕ) → now ≡ ground + (read + without) → later ≡ now + 1 → more ≡ read + (without + 1) → later ≡ ground + (more + 0)
now-stamped now later ground read more without is next count = omega (arith, is, next, count)
