-- The row at a time, once a row is written or rolled back, and where the versions of a time stand.
use Rattle.std.proofs.Common.{◌≡◌, ℕ, zero, suc, ◌+◌, ◌<◌, ◌≤◌, Bool, true, false, cond, ◌&&◌, nat_le, nat_lt, List, [], ◌∷◌, ◌++◌, filter, fold, length, take, drop, slice_get, Option, None, Some, Result, Ok, Err, OnOk, OnErr, IsTrue, IsFalse, if◌then◌else◌, refl, sym, ap, subst, ◌∙◌, arith, append-nil, length-take, take-append-drop}
use Rattle.std.proofs.lemmas.Bool.Decides.{nat_tests}
use Rattle.std.proofs.lemmas.List.Elements.{filter-append}
use Rattle.std.proofs.lemmas.List.Sums.{fold-append}
use Rattle.tt_values.specs.declared.row.Row.{Row}
use Rattle.tt_versions.specs.declared.version.Version.{Version}
use Rattle.tt_versions.specs.Versions.{started_by, started_before, HaveStarted, NoneHasStarted, last_row, visible_row, with_write, without_writes_from, AllStartFrom, StartsRise}
use Rattle.tt_versions.specs.Sides.{just_before}

pub early : (time u : ℕ) → nat_le time u ≡ false → u < time
early time u h = grind (arith, nat_tests)

pub late : (time u : ℕ) → nat_le time u ≡ true → time ≤ u
late time u h = grind (arith, nat_tests)

pub filter-twice : {X : Type 0} (p r : X → Bool) (xs : List X) → filter p (filter r xs) ≡ filter (λ x. r x && p x) xs
filter-twice p r [] = refl
filter-twice p r (x ∷ xs) = by (r x) (filter-twice p r xs)
  where
    by : (b : Bool) → filter p (filter r xs) ≡ filter (λ x. r x && p x) xs → filter p (cond b (x ∷ filter r xs) (filter r xs)) ≡ cond (b && p x) (x ∷ filter (λ x. r x && p x) xs) (filter (λ x. r x && p x) xs)
    by true h = λ i. cond (p x) (x ∷ h i) (h i)
    by false h = h

filter-none : {X : Type 0} (p : X → Bool) → ((x : X) → p x ≡ false) → (xs : List X) → filter p xs ≡ []
filter-none p none [] = refl
filter-none p none (x ∷ xs) = ap (λ b. cond b (x ∷ filter p xs) (filter p xs)) (none x) ∙ filter-none p none xs

-- ---- what is visible after a change

test_early : (s time u : ℕ) → u < time → (nat_lt s time && nat_le s u) ≡ nat_le s u
test_early s time u h = grind (arith, nat_tests)

test_late : (s n u : ℕ) → n < u → (nat_lt s (suc n) && nat_le s u) ≡ nat_le s n
test_late s n u h = grind (arith, nat_tests)

test_never : (s : ℕ) → nat_lt s zero ≡ false
test_never s = grind (arith, nat_tests)

-- of the versions from before a time, the same ones started by an earlier time
started_by-earlier : (time u : ℕ) (vs : List Version) → u < time → started_by u (started_before time vs) ≡ started_by u vs
started_by-earlier time u vs h =
    filter-twice (λ v. nat_le v.start u) (λ v. nat_lt v.start time) vs ∙ ap (λ p. filter p vs) (λ i v. test_early v.start time u h i)

-- and by a later one those that started just before it
started_by-later : (n u : ℕ) (vs : List Version) → n < u → started_by u (started_before (suc n) vs) ≡ started_by n vs
started_by-later n u vs h =
    filter-twice (λ v. nat_le v.start u) (λ v. nat_lt v.start (suc n)) vs ∙ ap (λ p. filter p vs) (λ i v. test_late v.start n u h i)

pub started_before-zero : (vs : List Version) → started_before zero vs ≡ []
started_before-zero vs = filter-none (λ v. nat_lt v.start zero) (λ v. test_never v.start) vs

last_row-append : (vs : List Version) (v : Version) → last_row (vs ++ v ∷ []) ≡ v.row
last_row-append vs v = fold-append (λ row w. w.row) None vs (v ∷ [])

-- a row that is written is there from its time on
pub visible_row-with_write : (row : Option Row) (time u : ℕ) (vs : List Version) → visible_row u (with_write row time vs) ≡ (if nat_le time u then row else visible_row u vs)
visible_row-with_write row time u vs = ap last_row (filter-append (λ w. nat_le w.start u) (started_before time vs) (v ∷ [])) ∙ by (nat_le time u) refl
  where
    v : Version
    v = record { start = time; row = row }

    by : (b : Bool) → nat_le time u ≡ b → last_row (started_by u (started_before time vs) ++ cond b (v ∷ []) []) ≡ (if b then row else visible_row u vs)
    by true e = last_row-append (started_by u (started_before time vs)) v
    by false e = ap last_row (append-nil (started_by u (started_before time vs)) ∙ started_by-earlier time u vs (early time u e))

-- a row that is rolled back is from the time on what it was just before
pub visible_row-without_writes_from : (time u : ℕ) (vs : List Version) → visible_row u (without_writes_from time vs) ≡ (if nat_le time u then just_before time (λ w. visible_row w vs) else visible_row u vs)
visible_row-without_writes_from time u vs = by (nat_le time u) refl
  where
    after : (t : ℕ) → t ≤ u → visible_row u (without_writes_from t vs) ≡ just_before t (λ w. visible_row w vs)
    after zero h = ap (λ ws. last_row (started_by u ws)) (started_before-zero vs)
    after (suc n) h = ap last_row (started_by-later n u vs (omega arith))

    by : (b : Bool) → nat_le time u ≡ b → visible_row u (without_writes_from time vs) ≡ (if b then just_before time (λ w. visible_row w vs) else visible_row u vs)
    by true e = after time (late time u e)
    by false e = ap last_row (started_by-earlier time u vs (early time u e))

-- ---- where the versions of a time stand

kept : (v : Version) (vs : List Version) (t : ℕ) → v.start ≤ t → started_by t (v ∷ vs) ≡ v ∷ started_by t vs
kept v vs t h = let yes : nat_le v.start t ≡ true = grind (arith, nat_tests) in ap (λ b. cond b (v ∷ started_by t vs) (started_by t vs)) yes

left_out : (v : Version) (vs : List Version) (t : ℕ) → t < v.start → started_by t (v ∷ vs) ≡ started_by t vs
left_out v vs t h = let no : nat_le v.start t ≡ false = grind (arith, nat_tests) in ap (λ b. cond b (v ∷ started_by t vs) (started_by t vs)) no

start_of : (s : ℕ) (vs : List Version) (n : ℕ) (v : Version) → AllStartFrom s vs → slice_get vs n ≡ Some v → s ≤ v.start
start_of s [] n v h there = cc
start_of s (w ∷ ws) zero v h there = let same : w ≡ v = cc in subst (λ x. s ≤ x.start) same h.0
start_of s (w ∷ ws) (suc n) v h there = start_of s ws n v h.1 there

front_started-suc : (vs : List Version) (n : ℕ) (v : Version) (t : ℕ) → StartsRise vs → slice_get vs n ≡ Some v → v.start ≤ t → HaveStarted t (take (suc n) vs)
front_started-suc [] n v t rise there h = cc
front_started-suc (w ∷ ws) zero v t rise there h = let same : v ≡ w = cc in kept w [] t (subst (λ x. x.start ≤ t) same h)
front_started-suc (w ∷ ws) (suc n) v t rise there h =
    let before : w.start ≤ v.start = start_of w.start ws n v rise.0 there in
    kept w (take (suc n) ws) t (omega (arith, before, h)) ∙ ap (λ rest. w ∷ rest) (front_started-suc ws n v t rise.1 there h)

-- where a version has started, so have those in front of it
pub front_started : (vs : List Version) (n : ℕ) (v : Version) (t : ℕ) → StartsRise vs → slice_get vs n ≡ Some v → IsTrue (nat_le v.start t) → HaveStarted t (take (n + 1) vs)
front_started vs n v t rise there h =
    let next : suc n ≡ n + 1 = omega arith in
    subst (λ m. HaveStarted t (take m vs)) next (front_started-suc vs n v t rise there (late v.start t h))

none_started : (s : ℕ) (vs : List Version) (t : ℕ) → AllStartFrom s vs → t < s → started_by t vs ≡ []
none_started s [] t h later = refl
none_started s (v ∷ vs) t h later = left_out v vs t (omega (arith, h.0, later)) ∙ none_started s vs t h.1 later

-- and where it has not, it and those behind it have not
pub rest_not_started : (vs : List Version) (n : ℕ) (v : Version) (t : ℕ) → StartsRise vs → slice_get vs n ≡ Some v → IsFalse (nat_le v.start t) → NoneHasStarted t (drop n vs)
rest_not_started [] n v t rise there h = cc
rest_not_started (w ∷ ws) zero v t rise there h =
    let same : v ≡ w = cc in
    let later : t < w.start = early w.start t (subst (λ x. IsFalse (nat_le x.start t)) same h) in
    left_out w ws t later ∙ none_started w.start ws t rise.0 later
rest_not_started (w ∷ ws) (suc n) v t rise there h = rest_not_started ws n v t rise.1 there h

-- so the versions of a time are a front of all
pub started_by-front : (vs : List Version) (n t : ℕ) → HaveStarted t (take n vs) → NoneHasStarted t (drop n vs) → started_by t vs ≡ take n vs
started_by-front vs n t front rest =
    ap (started_by t) (sym (take-append-drop n vs)) ∙ filter-append (λ v. nat_le v.start t) (take n vs) (drop n vs)
    ∙ (λ i. front i ++ rest i) ∙ append-nil (take n vs)

pub ruleset has_started = (front_started, rest_not_started)

pub started_by-length : (vs : List Version) (n t : ℕ) → n ≤ length vs → started_by t vs ≡ take n vs → n ≡ length (started_by t vs)
started_by-length vs n t within front = omega (arith, ap length front, length-take n vs)

-- ---- the starts keep rising

AllStartFrom-front : (s t : ℕ) (vs : List Version) → AllStartFrom s vs → AllStartFrom s (started_before t vs)
AllStartFrom-front s t [] h = tt
AllStartFrom-front s t (v ∷ vs) h = by (nat_lt v.start t) (AllStartFrom-front s t vs h.1)
  where
    by : (b : Bool) → AllStartFrom s (started_before t vs) → AllStartFrom s (cond b (v ∷ started_before t vs) (started_before t vs))
    by true rest = (h.0, rest)
    by false rest = rest

pub StartsRise-front : (t : ℕ) (vs : List Version) → StartsRise vs → StartsRise (started_before t vs)
StartsRise-front t [] h = tt
StartsRise-front t (v ∷ vs) h = by (nat_lt v.start t) (StartsRise-front t vs h.1)
  where
    by : (b : Bool) → StartsRise (started_before t vs) → StartsRise (cond b (v ∷ started_before t vs) (started_before t vs))
    by true rest = (AllStartFrom-front v.start t vs h.0, rest)
    by false rest = rest

AllStartFrom-push : (s : ℕ) (vs : List Version) (v : Version) → AllStartFrom s vs → s ≤ v.start → AllStartFrom s (vs ++ v ∷ [])
AllStartFrom-push s [] v h later = (later, tt)
AllStartFrom-push s (w ∷ ws) v h later = (h.0, AllStartFrom-push s ws v h.1 later)

StartsRise-push_all : (t : ℕ) (vs : List Version) (v : Version) → v.start ≡ t → StartsRise vs → StartsRise (started_before t vs ++ v ∷ [])
StartsRise-push_all t [] v at h = (tt, tt)
StartsRise-push_all t (w ∷ ws) v at h = by (nat_lt w.start t) refl (StartsRise-push_all t ws v at h.1)
  where
    by : (b : Bool) → nat_lt w.start t ≡ b → StartsRise (started_before t ws ++ v ∷ []) → StartsRise (cond b (w ∷ started_before t ws) (started_before t ws) ++ v ∷ [])
    by true e rest =
        let later : w.start ≤ v.start = grind (arith, nat_tests) in
        (AllStartFrom-push w.start (started_before t ws) v (AllStartFrom-front w.start t ws h.0) later, rest)
    by false e rest = rest

same_test : (b : Bool) → (b && b) ≡ b
same_test true = refl
same_test false = refl

-- a version that starts at a time, behind those from before it
pub StartsRise-push : (t : ℕ) (vs front : List Version) (v : Version) → front ≡ started_before t vs → v.start ≡ t → StartsRise front → StartsRise (front ++ v ∷ [])
StartsRise-push t vs front v is at h =
    let again : started_before t (started_before t vs) ≡ started_before t vs = filter-twice (λ w. nat_lt w.start t) (λ w. nat_lt w.start t) vs ∙ ap (λ p. filter p vs) (λ i w. same_test (nat_lt w.start t) i) in
    let same : started_before t front ≡ front = ap (started_before t) is ∙ again ∙ sym is in
    subst (λ ws. StartsRise (ws ++ v ∷ [])) same (StartsRise-push_all t front v at h)

-- ---- the last version of a front

last_row-from : (vs : List Version) (n : ℕ) (v : Version) (row : Option Row) → slice_get vs n ≡ Some v → fold (λ r w. w.row) row (take (suc n) vs) ≡ v.row
last_row-from [] n v row there = cc
last_row-from (w ∷ ws) zero v row there = let same : w ≡ v = cc in ap (λ x. x.row) same
last_row-from (w ∷ ws) (suc n) v row there = last_row-from ws n v w.row there

-- where n versions started by a time, the last of them has the row
pub visible_row-at : (vs : List Version) (n count t : ℕ) (v : Version) → started_by t vs ≡ take count vs → count ≡ n + 1 → slice_get vs n ≡ Some v → visible_row t vs ≡ v.row
visible_row-at vs n count t v front next there =
    let same : count ≡ suc n = omega (arith, next) in
    ap last_row (front ∙ ap (λ m. take m vs) same) ∙ last_row-from vs n v None there

-- ---- the newest version apart from the others

AllStartFrom-last : (s : ℕ) (vs : List Version) (v : Version) → AllStartFrom s (vs ++ v ∷ []) → s ≤ v.start
AllStartFrom-last s [] v h = h.0
AllStartFrom-last s (w ∷ ws) v h = AllStartFrom-last s ws v h.1

AllStartFrom-left : (s : ℕ) (vs ws : List Version) → AllStartFrom s (vs ++ ws) → AllStartFrom s vs
AllStartFrom-left s [] ws h = tt
AllStartFrom-left s (v ∷ vs) ws h = (h.0, AllStartFrom-left s vs ws h.1)

-- the starts of a front rise
pub StartsRise-left : (vs ws : List Version) → StartsRise (vs ++ ws) → StartsRise vs
StartsRise-left [] ws h = tt
StartsRise-left (v ∷ vs) ws h = (AllStartFrom-left v.start vs ws h.0, StartsRise-left vs ws h.1)

before : (v : Version) (vs : List Version) (t : ℕ) → v.start < t → started_before t (v ∷ vs) ≡ v ∷ started_before t vs
before v vs t h = let yes : nat_lt v.start t ≡ true = grind (arith, nat_tests) in ap (λ b. cond b (v ∷ started_before t vs) (started_before t vs)) yes

-- where the last version started before a time, so did all
pub started_before-whole : (vs : List Version) (v : Version) (t : ℕ) → StartsRise (vs ++ v ∷ []) → v.start < t → started_before t (vs ++ v ∷ []) ≡ vs ++ v ∷ []
started_before-whole [] v t rise h = before v [] t h
started_before-whole (w ∷ ws) v t rise h =
    before w (ws ++ v ∷ []) t (omega (arith, AllStartFrom-last w.start ws v rise.0, h)) ∙ ap (λ rest. w ∷ rest) (started_before-whole ws v t rise.1 h)

-- and so they do where those from a time on were dropped, or all stayed
pub StartsRise-cut : {A E : Type 0} (r : Result A E) (t : ℕ) (old new : List Version) → OnOk r (new ≡ started_before t old) → OnErr r (new ≡ old) → StartsRise old → StartsRise (new ++ [])
StartsRise-cut (Ok x) t old new ok err rise = subst StartsRise (sym (append-nil new ∙ ok)) (StartsRise-front t old rise)
StartsRise-cut (Err e) t old new ok err rise = subst StartsRise (sym (append-nil new ∙ err)) rise

-- and where a version was added, or all stayed
pub StartsRise-added : {A E : Type 0} (r : Result A E) (old all new : List Version) → OnOk r (new ≡ all) → OnErr r (new ≡ old) → StartsRise all → StartsRise old → StartsRise (new ++ [])
StartsRise-added (Ok x) old all new ok err rise rise_old = subst StartsRise (sym (append-nil new ∙ ok)) rise
StartsRise-added (Err e) old all new ok err rise rise_old = subst StartsRise (sym (append-nil new ∙ err)) rise_old

-- the starts rise where the last version starts later
StartsRise-later : (vs : List Version) (v w : Version) → StartsRise (vs ++ v ∷ []) → v.start ≤ w.start → StartsRise (vs ++ w ∷ [])
StartsRise-later [] v w rise later = (tt, tt)
StartsRise-later (x ∷ xs) v w rise later =
    (AllStartFrom-push x.start xs w (AllStartFrom-left x.start xs (v ∷ []) rise.0) (omega (arith, AllStartFrom-last x.start xs v rise.0, later)), StartsRise-later xs v w rise.1 later)

-- and where the newest version was put behind the older ones, or these stayed, and a later one took its place
pub StartsRise-newer : {A E : Type 0} (r : Result A E) (old new : List Version) (newest newer : Version) → OnOk r (new ≡ old ++ newest ∷ []) → OnErr r (new ≡ old) → StartsRise (old ++ newest ∷ []) → newest.start < newer.start → StartsRise (new ++ newer ∷ [])
StartsRise-newer (Ok x) old new newest newer ok err rise later =
    subst (λ vs. StartsRise (vs ++ newer ∷ [])) (sym ok) (StartsRise-push newer.start (old ++ newest ∷ []) (old ++ newest ∷ []) newer (sym (started_before-whole old newest newer.start rise later)) refl rise)
StartsRise-newer (Err e) old new newest newer ok err rise later =
    subst (λ vs. StartsRise (vs ++ newer ∷ [])) (sym err) (StartsRise-later old newest newer rise (omega (arith, later)))

-- then it was written
pub written_behind : {A E : Type 0} (r : Result A E) (all new : List Version) (row : Option Row) (t : ℕ) → OnOk r (new ≡ all) → started_before t all ≡ all → OnOk r (new ++ record { start = t; row = row } ∷ [] ≡ with_write row t all)
written_behind (Ok x) all new row t ok whole = ap (λ vs. vs ++ record { start = t; row = row } ∷ []) (ok ∙ sym whole)
written_behind (Err e) all new row t ok whole = tt
