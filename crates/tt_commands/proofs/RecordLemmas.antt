-- The last of some records, and those that are still there behind a time.
use Rattle.std.proofs.Common.{◌≡◌, ℕ, ◌+◌, ◌-◌, ◌<◌, ◌≤◌, nat_le, nat_lt, Bool, true, false, cond, List, [], ◌∷◌, ◌++◌, append_assoc, length, take, drop, refl, length-append, length-drop, Option, None, Some, sym, ap, ◌∙◌, arith, ◌⊎◌, inl, inr, suc, if◌then◌else◌}
use Rattle.std.specs.Option.{option_to_list}
use Rattle.std.specs.List.{cons_option}
use Rattle.std.proofs.Math.ListN.{get_or}
use Rattle.std.proofs.Math.Seq.{drop-cons, drop-length, take-add, take-length}
use Rattle.std.proofs.lemmas.List.Elements.{filter_map-append}
use Rattle.std.proofs.lemmas.Bool.{cases_lt}
use Rattle.std.proofs.lemmas.Bool.Decides.{nat_tests}
use Rattle.std.proofs.lemmas.List.{drop-append-le, drop-drop, drop_all}
use Rattle.std.proofs.lemmas.List.Sums.{sum_by-append, sum_by-cons, sum_by_push}
use Rattle.tt_horizon.specs.Ground.{moved}
use Rattle.tt_records.specs.declared.record.Record.{Record}
use Rattle.tt_records.specs.declared.record.What.{What}
use Rattle.tt_records.specs.declared.record.What.TheVariants as whats
use Rattle.tt_commands.specs.Records.{max_record_rows, rows_of_what, rows_of_record, rows_of_records, last_of_few_rows, last_records}
use Rattle.tt_commands.specs.Changes.{moved_what, with_what, moved_record, records_behind}

-- ---- the last of some records, as many as may be kept

test : (rows : ℕ) → max_record_rows < rows → nat_le rows max_record_rows ≡ false
test rows more = grind (arith, nat_tests, more)

by_rows : (few : Bool) (r : Record) (records : List Record) → nat_le (rows_of_records (r ∷ records)) max_record_rows ≡ few
    → last_of_few_rows (r ∷ records) ≡ cond few (r ∷ records) (last_of_few_rows records)
by_rows few r records is = ap (λ b. cond b (r ∷ records) (last_of_few_rows records)) is

-- records with few enough rows are kept
all-of_few : (records : List Record) → rows_of_records records ≤ max_record_rows → last_of_few_rows records ≡ records
all-of_few [] few = refl
all-of_few (r ∷ records) few = by_rows true r records (grind (arith, nat_tests, few))

-- the first one goes, where there are more
not_all-of_few : (records : List Record) → max_record_rows < rows_of_records records → last_of_few_rows (drop 1 records) ≡ last_of_few_rows records
not_all-of_few [] more = refl
not_all-of_few (r ∷ records) more = sym (by_rows false r records (test (rows_of_records (r ∷ records)) more))

-- where there are too many records, or too many rows, what is kept lies behind the first one
pub last_records-drop : (most : ℕ) (records : List Record) → (most < length records) ⊎ (max_record_rows < rows_of_records records)
    → last_records most (drop 1 records) ≡ last_records most records
last_records-drop most records too_many = elim (cases_lt most (length records)) [
  | inl more ↦
      let count : 1 + (length (drop 1 records) - most) ≡ length records - most = omega (arith, more, length-drop 1 records) in
      ap last_of_few_rows (drop-drop (length (drop 1 records) - most) 1 records ∙ ap (λ k. drop k records) count)
  | inr few ↦
      let none : length records - most ≡ 0 = omega (arith, few) in
      let none_left : length (drop 1 records) - most ≡ 0 = omega (arith, few, length-drop 1 records) in
      ap (λ k. last_of_few_rows (drop k (drop 1 records))) none_left ∙ not_all-of_few records (more few too_many) ∙ ap (λ k. last_of_few_rows (drop k records)) (sym none)
]
  where
    more : length records ≤ most → (most < length records) ⊎ (max_record_rows < rows_of_records records) → max_record_rows < rows_of_records records
    more few (inl many) = absurd (omega (arith, few, many))
    more few (inr many) = many

-- where there are not, all are kept
pub all-last_records : (most : ℕ) (records : List Record) → length records ≤ most → rows_of_records records ≤ max_record_rows → last_records most records ≡ records
all-last_records most records few few_rows =
    let none : length records - most ≡ 0 = omega (arith, few) in
    ap (λ k. last_of_few_rows (drop k records)) none ∙ all-of_few records few_rows

-- no more records are kept than may be
few-of_few : (records : List Record) → length (last_of_few_rows records) ≤ length records
few-of_few [] = omega arith
few-of_few (r ∷ records) = by (nat_le (rows_of_records (r ∷ records)) max_record_rows) (few-of_few records)
  where
    by : (few : Bool) → length (last_of_few_rows records) ≤ length records → length (cond few (r ∷ records) (last_of_few_rows records)) ≤ suc (length records)
    by true others = omega arith
    by false others = omega (arith, others)

pub few_last : (most : ℕ) (records : List Record) → length (last_records most records) ≤ most
few_last most records = omega (arith, length-drop (length records - most) records, few-of_few (drop (length records - most) records))

-- and no more rows
few_rows-of_few : (records : List Record) → rows_of_records (last_of_few_rows records) ≤ max_record_rows
few_rows-of_few [] = omega arith
few_rows-of_few (r ∷ records) = by (nat_le (rows_of_records (r ∷ records)) max_record_rows) refl (few_rows-of_few records)
  where
    by : (few : Bool) → nat_le (rows_of_records (r ∷ records)) max_record_rows ≡ few → rows_of_records (last_of_few_rows records) ≤ max_record_rows
        → rows_of_records (cond few (r ∷ records) (last_of_few_rows records)) ≤ max_record_rows
    by true is others = grind (arith, nat_tests, is)
    by false is others = others

pub few_rows-last : (most : ℕ) (records : List Record) → rows_of_records (last_records most records) ≤ max_record_rows
few_rows-last most records = few_rows-of_few (drop (length records - most) records)

-- ---- a record that has too many rows alone

rows-push : (records : List Record) (latest : Record) → rows_of_records (records ++ latest ∷ []) ≡ rows_of_records records + rows_of_record latest
rows-push records latest = sum_by_push rows_of_record records latest

none-of_few : (records : List Record) (latest : Record) → max_record_rows < rows_of_record latest → last_of_few_rows (records ++ latest ∷ []) ≡ []
none-of_few [] latest more = by_rows false latest [] (test (rows_of_records (latest ∷ [])) (omega (arith, more, rows-push [] latest)))
none-of_few (r ∷ records) latest more =
    by_rows false r (records ++ latest ∷ []) (test (rows_of_records (r ∷ records ++ latest ∷ [])) (omega (arith, more, rows-push (r ∷ records) latest)))
    ∙ none-of_few records latest more

-- nothing is kept behind it
pub none-last : (most : ℕ) (records : List Record) (latest : Record) → max_record_rows < rows_of_record latest → last_records most (records ++ latest ∷ []) ≡ []
none-last most records latest more =
    let all = records ++ latest ∷ [] in
    let gone : ℕ = length all - most in
    elim (cases_lt (length records) gone) [
      | inl over ↦ ap last_of_few_rows (drop_all gone all (omega (arith, over, length-append records (latest ∷ []))))
      | inr within ↦ ap last_of_few_rows (drop-append-le gone records (latest ∷ []) within) ∙ none-of_few (drop gone records) latest more
    ]

-- ---- the records that are still there behind a time

as-list : {X : Type 0} (o : Option X) → cons_option o [] ≡ option_to_list o
as-list None = refl
as-list (Some x) = refl

first-is : {X : Type 0} (x y : X) (xs ys : List X) → x ∷ xs ≡ y ∷ ys → (x ≡ y) × (xs ≡ ys)
first-is x y xs ys is = (cc, cc)

-- the first of those that are left goes to the end, if it is still there
pub forget-next : (time size k : ℕ) (old queue rest after : List Record) (x : Record) (o : Option Record) → k < length old
    → queue ≡ drop k old ++ records_behind time size (take k old) → queue ≡ x ∷ rest → moved_record time size x ≡ o → after ≡ rest ++ option_to_list o
    → after ≡ drop (k + 1) old ++ records_behind time size (take (k + 1) old)
forget-next time size k old queue rest after x o some so_far first moved_is after_is =
    let y = get_or old k x in
    let behind = records_behind time size (take k old) in
    let left : drop k old ≡ y ∷ drop (suc k) old = drop-cons old k x some in
    let parts : (x ≡ y) × (rest ≡ drop (suc k) old ++ behind) = first-is x y rest (drop (suc k) old ++ behind) (sym first ∙ so_far ∙ ap (λ l. l ++ behind) left) in
    let one : take (k + 1) old ≡ take k old ++ y ∷ [] = take-add k 1 old ∙ ap (λ l. take k old ++ take 1 l) left in
    let kept : records_behind time size (take (k + 1) old) ≡ behind ++ option_to_list o =
    ap (records_behind time size) one ∙ filter_map-append (moved_record time size) (take k old) (y ∷ [])
    ∙ ap (λ p. behind ++ cons_option p []) (ap (moved_record time size) (sym parts.0) ∙ moved_is) ∙ ap (λ l. behind ++ l) (as-list o) in
    let count : suc k ≡ k + 1 = omega arith in
    after_is ∙ ap (λ l. l ++ option_to_list o) parts.1 ∙ append_assoc (drop (suc k) old) behind (option_to_list o)
    ∙ (λ i. drop (count i) old ++ sym kept i)

-- all were moved
pub forget-done : (time size k : ℕ) (old queue : List Record) → k ≡ length old → queue ≡ drop k old ++ records_behind time size (take k old) → queue ≡ records_behind time size old
forget-done time size k old queue all so_far =
    so_far ∙ (λ i. (ap (λ n. drop n old) all ∙ drop-length old) i ++ records_behind time size ((ap (λ n. take n old) all ∙ take-length old) i))

-- some is left to be moved
pub some-left : (k : ℕ) (old behind : List Record) → k < length old → 0 < length (drop k old ++ behind)
some-left k old behind some = omega (arith, some, length-append (drop k old) behind, length-drop k old)

-- ---- and how many rows they have

some-same : {X : Type 0} (a b : X) → Some a ≡ Some b → a ≡ b
some-same a b is = cc

-- a record that is still there has as many rows as before
rows-moved_what : (time size : ℕ) (what m : What) → moved_what time size what ≡ Some m → rows_of_what m ≡ rows_of_what what
rows-moved_what time size (whats.Write slot replies) m is = by (nat_lt time slot) is
  where
    by : (left : Bool) → (if left then Some (whats.Write (moved time size slot) replies) else None) ≡ Some m → rows_of_what m ≡ 0
    by true is = ap rows_of_what (sym (some-same _ m is))
    by false is = absurd (cc)
rows-moved_what time size (whats.Read select t reply) m is = by (nat_lt t time) is
  where
    by : (gone : Bool) → (if gone then None else Some (whats.Read select (moved time size t) reply)) ≡ Some m → rows_of_what m ≡ rows_of_what (whats.Read select t reply)
    by true is = absurd (cc)
    by false is = ap rows_of_what (sym (some-same _ m is))
rows-moved_what time size (whats.Preview done reply) m is = ap rows_of_what (sym (some-same (whats.Preview done reply) m is))
rows-moved_what time size (whats.Later now) m is = ap rows_of_what (sym (some-same (whats.Later now) m is))
rows-moved_what time size whats.NotRepairing m is = ap rows_of_what (sym (some-same whats.NotRepairing m is))

pub rows-moved : (time size : ℕ) (r m : Record) → moved_record time size r ≡ Some m → rows_of_record m ≡ rows_of_record r
rows-moved time size r m is = by (moved_what time size r.what) refl is
  where
    by : (what : Option What) → moved_what time size r.what ≡ what → with_what r what ≡ Some m → rows_of_record m ≡ rows_of_record r
    by None is_none is = absurd (cc)
    by (Some what) is_what is = ap rows_of_record (sym (some-same (record r { what = what }) m is)) ∙ rows-moved_what time size r.what what is_what

-- those behind a time have no more rows than before
pub few_rows-behind : (time size : ℕ) (records : List Record) → rows_of_records (records_behind time size records) ≤ rows_of_records records
few_rows-behind time size [] = omega arith
few_rows-behind time size (r ∷ records) = by (moved_record time size r) refl (few_rows-behind time size records)
  where
    behind : List Record
    behind = records_behind time size records

    by : (moved : Option Record) → moved_record time size r ≡ moved → rows_of_records behind ≤ rows_of_records records
        → rows_of_records (cons_option moved behind) ≤ rows_of_records (r ∷ records)
    by None is few = omega (arith, few, sum_by-cons rows_of_record r records)
    by (Some m) is few = omega (arith, few, sum_by-cons rows_of_record r records, sum_by-cons rows_of_record m behind, rows-moved time size r m is)

-- the first one is gone
pub rows-gone : (queue rest : List Record) (r : Record) → queue ≡ r ∷ rest → rows_of_records queue ≡ rows_of_records rest + rows_of_record r
rows-gone queue rest r is = ap rows_of_records is ∙ sum_by-cons rows_of_record r rest ∙ omega arith

-- the first one has gone to the end
pub rows-to_end : (time size : ℕ) (queue rest after : List Record) (r m : Record) → queue ≡ r ∷ rest → moved_record time size r ≡ Some m → after ≡ rest ++ m ∷ []
    → rows_of_records after ≡ rows_of_records queue
rows-to_end time size queue rest after r m first is last =
    ap rows_of_records last ∙ rows-push rest m ∙ ap (λ n. rows_of_records rest + n) (rows-moved time size r m is) ∙ sym (rows-gone queue rest r first)
