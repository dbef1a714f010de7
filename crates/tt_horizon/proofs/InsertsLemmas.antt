-- The inserts of the rows of a content leave the content.
use Rattle.std.proofs.Common.{◌≡◌, ◌≢◌, ◌⊎◌, ℕ, zero, suc, ◌+◌, ◌<◌, ◌≤◌, true, cond, ℤ, [], ◌∷◌, ◌++◌, map, length, fold, flat_map, All, IsTrue, Option, None, Some, is_some, refl, sym, ap, subst, subst₂, ◌∙◌, inl, inr, arith, append-nil, append_assoc, eq-eqb, ne_eqb, true≢false, Ordering, Less, Equal, Greater, int_cmp, is_eq, is_lt}
use Rattle.std.specs.List.{range_with_len}
use Rattle.std.specs.Ordering.{ordering_reverse}
use Rattle.std.specs.Cmp.{int_cmp_total}
use Rattle.std.specs.FinMap.Entries as sorted
use Rattle.std.proofs.lemmas.Bool.{and_parts, cases_eq, cases_lt}
use Rattle.std.proofs.lemmas.List.{length-map}
use Rattle.tt_values.specs.declared.row.Row.{Row}
use Rattle.tt_values.specs.declared.action.Action.{Action}
use Rattle.tt_values.specs.declared.statement.Write.TheVariants.{Insert}
use Rattle.tt_values.specs.Row.{key_of}
use Rattle.tt_values.specs.Content.{RowsByKey, Content, empty_content, row_at, with_row_at}
use Rattle.tt_values.specs.Effect.{effect}
use Rattle.tt_values.specs.Action.{content_after_write, content_after_writes}
use Rattle.tt_values.proofs.LawProofs.{writes_follow}
use Rattle.tt_repair_laws.specs.Due.{content_after}
use Rattle.tt_repair_laws.proofs.LawProofs.{content_after_is_kept}
use Rattle.tt_horizon.specs.Ground.{inserts_of, inserts_of_tables, in_pieces, ground_writes, ground_of_content}
use Rattle.tt_horizon.specs.Laws.{AreKeyed, IsWithinTables, GroundLeavesContent}
use Rattle.tt_horizon.proofs.SlotsLemmas.{content_after_all, after_slots-writes}
use Rattle.tt_horizon.proofs.EditsLemmas.{All-rest}
use Rattle.tt_horizon.proofs.PiecesLemmas.{flat_map-in_pieces}

-- an answer that tests as less
less : (o : Ordering) → is_lt o ≡ true → o ≡ Less
less Less h = refl
less Equal h = absurd (true≢false (sym h))
less Greater h = absurd (true≢false (sym h))

-- a key below all rows of a list is below each of them
below_later : (key : ℤ) (before : RowsByKey) (e : ℤ × Row) (es : RowsByKey) → IsTrue (sorted.below_all int_cmp key (before ++ e ∷ es)) →
    is_lt (int_cmp key e.0) ≡ true
below_later key [] e es h = (and_parts (is_lt (int_cmp key e.0)) (sorted.below_all int_cmp key es) h).0
below_later key (d ∷ before) e es h = below_later key before e es (and_parts (is_lt (int_cmp key d.0)) (sorted.below_all int_cmp key (before ++ e ∷ es)) h).1

-- a row above all others has its place behind them, and there is none of its key among them
put_last : (before : RowsByKey) (e : ℤ × Row) (es : RowsByKey) → IsTrue (sorted.is_sorted int_cmp (before ++ e ∷ es)) →
    (sorted.put int_cmp e.0 e.1 before ≡ before ++ e ∷ []) × (row_at before e.0 ≡ None)
put_last [] e es h = (refl, refl)
put_last (d ∷ before) e es h =
    let parts = and_parts (sorted.below_all int_cmp d.0 (before ++ e ∷ es)) (sorted.is_sorted int_cmp (before ++ e ∷ es)) h in
    let below = less (int_cmp d.0 e.0) (below_later d.0 before e es parts.0) in
    let above : int_cmp e.0 d.0 ≡ Greater = int_cmp_total.antisymm e.0 d.0 ∙ ap ordering_reverse below in
    let rest = put_last before e es parts.1 in (
      ap (λ o. sorted.by_order o (e ∷ d ∷ before) ((d.0, e.1) ∷ before) (d ∷ sorted.put int_cmp e.0 e.1 before)) above ∙ ap (λ rows. d ∷ rows) rest.0,
      ap (λ o. cond (is_eq o) (Some d.1) (row_at before e.0)) above ∙ rest.1,
    )

-- the rows of a table after the row of a key is set, or removed
abbrev pub after_entry : RowsByKey → ℤ × Option Row → RowsByKey
after_entry rows e = with_row_at rows e.0 e.1

-- an insert of a key that isn't there puts the row
one_insert : (table : ℕ) (Y : Content) (rows : RowsByKey) (e : ℤ × Row) → Y table ≡ rows → key_of e.1 ≡ e.0 → row_at rows e.0 ≡ None →
    content_after_write (Insert table e.1) Y table ≡ sorted.put int_cmp e.0 e.1 rows
one_insert table Y rows e here own none =
    (λ i. cond (eq-eqb table table refl i) (fold after_entry (here i) (cond (is_some (row_at (here i) (own i))) [] ((own i, Some e.1) ∷ []))) (Y table))
    ∙ ap (λ (o : Option Row). fold after_entry rows (cond (is_some o) [] ((e.0, Some e.1) ∷ []))) none

-- the inserts of rising rows put them behind those that are there
inserts_in_turn : (table : ℕ) (es before : RowsByKey) (Y : Content) → Y table ≡ before → IsTrue (sorted.is_sorted int_cmp (before ++ es)) →
    All (λ e. key_of e.1 ≡ e.0) es → content_after_writes (inserts_of table es) Y table ≡ before ++ es
inserts_in_turn table [] before Y here rising own = here ∙ sym (append-nil before)
inserts_in_turn table (e ∷ es) before Y here rising own =
    let last = put_last before e es rising in
    let next = one_insert table Y before e here (own 0 e (omega arith)) last.1 ∙ last.0 in
    let split = append_assoc before (e ∷ []) es in
    let rising_still = ap (sorted.is_sorted int_cmp) split ∙ rising in
    let rest = All-rest (λ (d : ℤ × Row). key_of d.1 ≡ d.0) e es own in
    inserts_in_turn table es (before ++ e ∷ []) (content_after_write (Insert table e.1) Y) next rising_still rest
    ∙ split

-- inserts into a table leave the others
others_stay : (table other : ℕ) → other ≢ table → (es : RowsByKey) (Y : Content) → content_after_writes (inserts_of table es) Y other ≡ Y other
others_stay table other apart [] Y = refl
others_stay table other apart (e ∷ es) Y =
    others_stay table other apart es (content_after_write (Insert table e.1) Y)
    ∙ ap (λ b. cond b (fold after_entry (Y other) (effect (Insert table e.1) Y)) (Y other)) (ne_eqb other table apart)

-- a content has the rows of another one in the first so many tables, and no others
record HasTables (X : Content) (n : ℕ) (Y : Content) : Type 0 where
  done : (table : ℕ) → table < n → Y table ≡ X table
  none : (table : ℕ) → n ≤ table → Y table ≡ []

-- the inserts of the rows of the next table add them
next_table : (X : Content) (n : ℕ) (Y : Content) → AreKeyed (X n) → HasTables X n Y → HasTables X (n + 1) (content_after_writes (inserts_of n (X n)) Y)
next_table X n Y keyed h = record {
  done = λ table before. by table before (cases_eq table n);
  none = λ table behind. others_stay n table (λ same. omega (arith, same, behind)) (X n) Y ∙ h.none table (omega (arith, behind));
}
  where
    Z : Content
    Z = content_after_writes (inserts_of n (X n)) Y

    here : Z n ≡ X n
    here = inserts_in_turn n (X n) [] Y (h.none n (omega arith)) keyed.rising keyed.own

    by : (table : ℕ) → table < n + 1 → (table ≡ n) ⊎ (table ≢ n) → Z table ≡ X table
    by table before (inl same) = ap Z same ∙ here ∙ sym (ap X same)
    by table before (inr apart) = others_stay n table apart (X n) Y ∙ h.done table (omega (arith, before, apart))

-- the inserts of the rows of so many further tables add them
more_tables : (X : Content) → ((table : ℕ) → AreKeyed (X table)) → (more n : ℕ) (Y : Content) → HasTables X n Y →
    HasTables X (n + more) (content_after_writes (flat_map (λ table. inserts_of table (X table)) (range_with_len n more)) Y)
more_tables X keyed zero n Y h =
    let here : n ≡ n + 0 = omega arith in
    subst (λ m. HasTables X m Y) here h
more_tables X keyed (suc more) n Y h =
    let first = inserts_of n (X n) in
    let rest = flat_map (λ table. inserts_of table (X table)) (range_with_len (n + 1) more) in
    let sum : (n + 1) + more ≡ n + suc more = omega arith in
    let all = more_tables X keyed more (n + 1) (content_after_writes first Y) (next_table X n Y (keyed n) h) in
    subst₂ (HasTables X) sum (sym (writes_follow first rest Y).0) all

-- the inserts of all rows of a content leave it on nothing
pub inserts_leave_content : (tables : ℕ) (X : Content) → IsWithinTables tables X → content_after_writes (inserts_of_tables tables X) empty_content ≡ X
inserts_leave_content tables X within = λ i table. by table (cases_lt table tables) i
  where
    first : HasTables X 0 empty_content
    first = record { done = λ table before. absurd (omega (arith, before)); none = λ table behind. refl }

    all : HasTables X (0 + tables) (content_after_writes (inserts_of_tables tables X) empty_content)
    all = more_tables X within.keyed tables 0 empty_content first

    by : (table : ℕ) → (table < tables) ⊎ (tables ≤ table) → content_after_writes (inserts_of_tables tables X) empty_content table ≡ X table
    by table (inl before) = all.done table (omega (arith, before))
    by table (inr behind) = all.none table (omega (arith, behind)) ∙ sym (within.none table behind)

-- the ground of a content leaves it on nothing
pub ground_leaves_content : GroundLeavesContent
ground_leaves_content tables X within =
    let G = ground_of_content tables X in
    let W = map (λ (action : Action). Some action) G in
    let all : length W ≡ length G = length-map G (λ (action : Action). Some action) in
    content_after_is_kept W (length G) (omega (arith, all))
    ∙ ap (content_after W) (sym all)
    ∙ content_after_all W
    ∙ after_slots-writes (in_pieces ground_writes (inserts_of_tables tables X)) empty_content
    ∙ ap (λ ws. content_after_writes ws empty_content) (flat_map-in_pieces ground_writes (omega arith) (inserts_of_tables tables X))
    ∙ inserts_leave_content tables X within
