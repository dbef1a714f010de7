-- The ground as it is laid, one write after another.
use Rattle.std.proofs.Common.{◌≡◌, ℕ, zero, suc, ◌+◌, ◌<◌, ◌≤◌, Bool, true, false, nat_lt, List, [], ◌∷◌, ◌++◌, map, length, take, drop, flat_map, Option, None, Some, Ok, Err, if◌then◌else◌, refl, sym, ap, subst, ◌∙◌, arith, append-nil, append_assoc, length-append, length-drop}
use Rattle.std.proofs.Math.Seq.{take-append_seam}
use Rattle.std.proofs.lemmas.List.{take_all, drop_all, take-append-le, drop-append-le, length_push}
use Rattle.std.proofs.lemmas.List.Concat.{flat_map-append}
use Rattle.std.specs.List.{range_with_len}
use Rattle.tt_values.specs.declared.row.Row.{Row}
use Rattle.tt_values.specs.declared.statement.Select.{Select}
use Rattle.tt_values.specs.declared.statement.Write.{Write}
use Rattle.tt_values.specs.declared.statement.Write.TheVariants.{Insert}
use Rattle.tt_values.specs.declared.reply.Reply.TheVariants.{Rows}
use Rattle.tt_values.specs.declared.checking.CheckError.{CheckError}
use Rattle.tt_values.specs.Check.{select_fault}
use Rattle.tt_values.specs.Content.{RowsByKey, Content}
use Rattle.tt_values.specs.Action.{action_of}
use Rattle.tt_values.specs.Effect.{matching_rows, answer_of}
use Rattle.tt_db.specs.declared.event.Entry.{Entry}
use Rattle.tt_db.specs.declared.errors.ReadError.TheVariants as read_errors
use Rattle.tt_db.specs.Database.{Database, with_entry, now_in, current_of_db, right_answer_at}
use Rattle.tt_db.specs.RightAnswers.{unless_fault}
use Rattle.tt_horizon.specs.Ground.{inserts_of, inserts_of_tables, some_pieces, in_pieces, ground_writes, ground_of_content}
use Rattle.tt_horizon.specs.declared.ground.Ground.{Ground}
use Rattle.tt_horizon.specs.Forgetting.{entry_of, ground_worker}
use Rattle.tt_horizon.specs.GroundEntries.{is_of_ground, IsOfGround, AreGround, emptied, HasGround, IsGround}
use Rattle.tt_horizon.specs.Laying.{ground_entry, AreLaid, AddsWrites, with_last, with_entries}

-- one more write waits
pub AreLaid-wait : (n : ℕ) (ws : List Write) (entries : List Entry) (waiting : List Write) (w : Write) → AreLaid n ws entries waiting → length waiting + 1 < n
    → AreLaid n (ws ++ w ∷ []) entries (waiting ++ w ∷ [])
AreLaid-wait n ws [] waiting w h room = (ap (λ vs. vs ++ w ∷ []) h.0, omega (arith, room, length-append waiting (w ∷ [])))
AreLaid-wait n ws (e ∷ entries) waiting w h room = (
  omega (arith, h.0, length-append ws (w ∷ [])),
  h.1 ∙ ap ground_entry (sym (take-append-le n ws (w ∷ []) h.0)),
  subst (λ vs. AreLaid n vs entries (waiting ++ w ∷ [])) (sym (drop-append-le n ws (w ∷ []) h.0)) (AreLaid-wait n (drop n ws) entries waiting w h.2 room),
)

-- the last write of an action is added, and the action becomes an entry
pub AreLaid-full : (n : ℕ) (ws : List Write) (entries : List Entry) (waiting : List Write) (w : Write) → AreLaid n ws entries waiting → length waiting + 1 ≡ n
    → AreLaid n (ws ++ w ∷ []) (entries ++ ground_entry (waiting ++ w ∷ []) ∷ []) []
AreLaid-full n ws [] waiting w h full =
    let all : ws ++ w ∷ [] ≡ waiting ++ w ∷ [] = ap (λ vs. vs ++ w ∷ []) h.0 in
    let count = length-append waiting (w ∷ []) in
    let as_many : length (ws ++ w ∷ []) ≡ n = ap (λ (vs : List Write). length vs) all ∙ omega (arith, count, full) in
    let long : n ≤ length (ws ++ w ∷ []) = omega (arith, as_many) in
    let short : length (ws ++ w ∷ []) ≤ n = omega (arith, as_many) in
    (long, ap ground_entry (sym (take_all n (ws ++ w ∷ []) short ∙ all)), (drop_all n (ws ++ w ∷ []) short, omega (arith, full)))
AreLaid-full n ws (e ∷ entries) waiting w h full = (
  omega (arith, h.0, length-append ws (w ∷ [])),
  h.1 ∙ ap ground_entry (sym (take-append-le n ws (w ∷ []) h.0)),
  subst (λ vs. AreLaid n vs (entries ++ ground_entry (waiting ++ w ∷ []) ∷ []) []) (sym (drop-append-le n ws (w ∷ []) h.0))
      (AreLaid-full n (drop n ws) entries waiting w h.2 full),
)

-- ---- the entries are the pieces

-- the entries, and one of the writes that wait, if there are any
abbrev pub with_last_entry : List Entry → List Write → List Entry
with_last_entry entries [] = entries
with_last_entry entries (w ∷ ws) = entries ++ ground_entry (w ∷ ws) ∷ []

with_last_entry-cons : (e : Entry) (entries : List Entry) (waiting : List Write) → with_last_entry (e ∷ entries) waiting ≡ e ∷ with_last_entry entries waiting
with_last_entry-cons e entries [] = refl
with_last_entry-cons e entries (w ∷ ws) = refl

some_pieces-none : (most n : ℕ) → some_pieces {X = Write} most n [] ≡ []
some_pieces-none zero n = refl
some_pieces-none (suc most) n = refl

some_pieces-short : (most n : ℕ) (ws : List Write) → length ws ≤ most → length ws < n → with_last_entry [] ws ≡ map ground_entry (some_pieces most n ws)
some_pieces-short zero n [] few short = refl
some_pieces-short zero n (w ∷ ws) few short = absurd (omega (arith, few))
some_pieces-short (suc most) n [] few short = refl
some_pieces-short (suc most) n (w ∷ ws) few short =
    let all : take n (w ∷ ws) ≡ w ∷ ws = take_all n (w ∷ ws) (omega (arith, short)) in
    let none : drop n (w ∷ ws) ≡ [] = drop_all n (w ∷ ws) (omega (arith, short)) in
    let rest = sym (ap (some_pieces most n) none ∙ some_pieces-none most n) in
    λ i. ground_entry (sym all i) ∷ map ground_entry (rest i)

some_pieces-laid : (most n : ℕ) (ws : List Write) (entries : List Entry) (waiting : List Write) → length ws ≤ most → 0 < n → AreLaid n ws entries waiting
    → with_last_entry entries waiting ≡ map ground_entry (some_pieces most n ws)
some_pieces-laid most n ws [] waiting few some h =
    ap (with_last_entry []) (sym h.0) ∙ some_pieces-short most n ws few (omega (arith, h.1, ap (λ (vs : List Write). length vs) h.0))
some_pieces-laid zero n [] (e ∷ entries) waiting few some h = absurd (omega (arith, h.0, some))
some_pieces-laid zero n (w ∷ ws) (e ∷ entries) waiting few some h = absurd (omega (arith, few))
some_pieces-laid (suc most) n [] (e ∷ entries) waiting few some h = absurd (omega (arith, h.0, some))
some_pieces-laid (suc most) n (w ∷ ws) (e ∷ entries) waiting few some h =
    let left = length-drop n (w ∷ ws) in
    let rest = some_pieces-laid most n (drop n (w ∷ ws)) entries waiting (omega (arith, left, few, some)) some h.2 in
    with_last_entry-cons e entries waiting ∙ (λ i. h.1 i ∷ rest i)

pub in_pieces-laid : (n : ℕ) (ws : List Write) (entries : List Entry) (waiting : List Write) → 0 < n → AreLaid n ws entries waiting
    → with_last_entry entries waiting ≡ map ground_entry (in_pieces n ws)
in_pieces-laid n ws entries waiting some h = some_pieces-laid (length ws) n ws entries waiting (omega arith) some h

-- ---- the entries are a ground

with_entry-push : (db : Database) (e : Entry) (entries : List Entry) → with_entries (with_entry db e) entries ≡ with_entries db (e ∷ entries)
with_entry-push db e entries = ap (λ h. record db { history = h }) (append_assoc db.history (e ∷ []) entries)

AreGround-push : (db : Database) (entries : List Entry) (e : Entry) → AreGround db entries → IsOfGround (with_entries db entries) e → AreGround db (entries ++ e ∷ [])
AreGround-push db [] e ground last = (subst (λ h. IsOfGround (record db { history = h }) e) (append-nil db.history) last, tt)
AreGround-push db (first ∷ entries) e ground last =
    (ground.0, AreGround-push (with_entry db first) entries e ground.1 (subst (λ d. IsOfGround d e) (sym (with_entry-push db first entries)) last))

pub IsGround-push : (db : Database) (ws : List Write) → IsGround db → is_of_ground db (action_of ws) ≡ true → IsGround (with_entry db (ground_entry ws))
IsGround-push db ws ground inserts = AreGround-push (emptied db) db.history (ground_entry ws) ground (action_of ws, refl, inserts)

-- and stay one with further entries behind them
AreGround-front : (db : Database) (n : ℕ) (entries others : List Entry) → AreGround db entries → n ≡ length entries → AreGround db (take n (entries ++ others))
AreGround-front db n entries others ground all =
    subst (AreGround db) (sym (ap (λ k. take k (entries ++ others)) all ∙ take-append_seam entries others)) ground

pub HasGround-behind : (db : Database) (size : ℕ) (others : List Entry) → IsGround db → size ≡ length db.history → HasGround (with_entries db others) size
HasGround-behind db size others ground all = AreGround-front (emptied db) size db.history others ground all

-- ---- writes added behind others

few_waiting : (n : ℕ) (ws : List Write) (entries : List Entry) (waiting : List Write) → AreLaid n ws entries waiting → length waiting < n
few_waiting n ws [] waiting h = h.1
few_waiting n ws (e ∷ entries) waiting h = few_waiting n (drop n ws) entries waiting h.2

-- a write waits with the others
pub AddsWrites-wait : (a b : Ground) (w : Write) → b.waiting.items ≡ a.waiting.items ++ w ∷ [] → b.db ≡ a.db → (length b.waiting.items ≡ 16 → ⊥) → AddsWrites a b (w ∷ [])
AddsWrites-wait a b w pushed same not_full = record {
  added = λ earlier h.
      let few = few_waiting 16 earlier a.db.history a.waiting.items h in
      let count : length b.waiting.items ≡ length a.waiting.items + 1 = ap (λ (ws : List Write). length ws) pushed ∙ length_push a.waiting.items w in
      let room : length a.waiting.items + 1 < 16 = grind (arith, few, count, not_full) in
      subst (λ entries. AreLaid 16 (earlier ++ w ∷ []) entries b.waiting.items) (sym (ap (λ (d : Database). d.history) same))
      (subst (λ ws. AreLaid 16 (earlier ++ w ∷ []) a.db.history ws) (sym pushed) (AreLaid-wait 16 earlier a.db.history a.waiting.items w h room));
  catalog = ap (λ (d : Database). d.catalog) same;
  limits = ap (λ (d : Database). d.limits) same;
  ground = subst IsGround (sym same);
}

-- with a write that is the last of its action, all that wait become an entry
pub AddsWrites-full : (a b : Ground) (w : Write) (ws : List Write) → ws ≡ a.waiting.items ++ w ∷ [] → length ws ≡ 16 → b.db ≡ with_entry a.db (ground_entry ws) → is_of_ground a.db (action_of ws) ≡ true
    → b.waiting.items ≡ [] → AddsWrites a b (w ∷ [])
AddsWrites-full a b w ws pushed full entered inserts none = record {
  added = λ earlier h.
      let count : length a.waiting.items + 1 ≡ 16 = sym (length_push a.waiting.items w) ∙ ap (λ (vs : List Write). length vs) (sym pushed) ∙ full in
      let history : b.db.history ≡ a.db.history ++ ground_entry (a.waiting.items ++ w ∷ []) ∷ [] =
      ap (λ (d : Database). d.history) entered ∙ ap (λ vs. a.db.history ++ ground_entry vs ∷ []) pushed in
      subst (λ entries. AreLaid 16 (earlier ++ w ∷ []) entries b.waiting.items) (sym history)
      (subst (λ vs. AreLaid 16 (earlier ++ w ∷ []) (a.db.history ++ ground_entry (a.waiting.items ++ w ∷ []) ∷ []) vs) (sym none)
      (AreLaid-full 16 earlier a.db.history a.waiting.items w h count));
  catalog = ap (λ (d : Database). d.catalog) entered;
  limits = ap (λ (d : Database). d.limits) entered;
  ground = λ ground. subst IsGround (sym entered) (IsGround-push a.db ws ground inserts);
}

-- ---- the rows of a table, and of one table more

pub inserts_of-rows : (table : ℕ) (es : RowsByKey) → map (Insert table) (map (λ e. e.1) es) ≡ inserts_of table es
inserts_of-rows table [] = refl
inserts_of-rows table (e ∷ es) = ap (λ ws. Insert table e.1 ∷ ws) (inserts_of-rows table es)

range-more : (a n : ℕ) → range_with_len a (suc n) ≡ range_with_len a n ++ (a + n) ∷ []
range-more a zero = ap (λ k. k ∷ []) (omega arith)
range-more a (suc n) =
    let same : (a + 1) + n ≡ a + suc n = omega arith in
    ap (λ ks. a ∷ ks) (range-more (a + 1) n ∙ ap (λ k. range_with_len (a + 1) n ++ k ∷ []) same)

pub inserts_of_tables-more : (tables : ℕ) (X : Content) → inserts_of_tables (tables + 1) X ≡ inserts_of_tables tables X ++ inserts_of tables (X tables)
inserts_of_tables-more tables X =
    let next : tables + 1 ≡ suc tables = omega arith in
    let last : 0 + tables ≡ tables = omega arith in
    let f : ℕ → List Write = λ t. inserts_of t (X t) in
    ap (λ n. flat_map f (range_with_len 0 n)) next
    ∙ ap (flat_map f) (range-more 0 tables ∙ ap (λ k. range_with_len 0 tables ++ k ∷ []) last)
    ∙ flat_map-append f (range_with_len 0 tables) (tables ∷ [])
    ∙ ap (λ ws. flat_map f (range_with_len 0 tables) ++ ws) (append-nil (f tables))

-- ---- all rows are laid

with_last-is : (db : Database) (waiting : List Write) → with_last db waiting ≡ record db { history = with_last_entry db.history waiting }
with_last-is db [] = refl
with_last-is db (w ∷ ws) = refl

entries-ground : (pieces : List (List Write)) → map ground_entry pieces ≡ map (entry_of ground_worker) (map action_of pieces)
entries-ground [] = refl
entries-ground (ws ∷ pieces) = ap (λ es. ground_entry ws ∷ es) (entries-ground pieces)

pub laid-all : (db next : Database) (waiting : List Write) (tables : ℕ) (X : Content) → next.catalog ≡ db.catalog → next.limits ≡ db.limits → tables ≡ length db.catalog
    → AreLaid ground_writes (inserts_of_tables tables X) next.history waiting
    → with_last next waiting ≡ record db { history = map (entry_of ground_worker) (ground_of_content (length db.catalog) X) }
laid-all db next waiting tables X catalog limits all laid =
    let pieces = in_pieces-laid ground_writes (inserts_of_tables tables X) next.history waiting (omega arith) laid ∙ entries-ground (in_pieces ground_writes (inserts_of_tables tables X)) ∙ ap (λ n. map (entry_of ground_worker) (ground_of_content n X)) all in
    with_last-is next waiting ∙ (λ i. record { catalog = catalog i; limits = limits i; history = pieces i })

-- ---- the rows that a select finds

all_match : (rows : RowsByKey) → matching_rows [] rows ≡ rows
all_match [] = refl
all_match (e ∷ es) = ap (λ rows. e ∷ rows) (all_match es)

rows-found : (db : Database) (table time : ℕ) (rows : List Row) → right_answer_at db (record { table = table; equals = [] }) time ≡ Ok (Rows rows)
    → rows ≡ map (λ e. e.1) (current_of_db db time table)
rows-found db table time rows right = by (select_fault db.catalog q) (nat_lt (now_in db) time) right
  where
    q : Select
    q = record { table = table; equals = [] }

    by : (fault : Option CheckError) (late : Bool) → unless_fault fault (if late then Err (read_errors.Later (now_in db)) else Ok (answer_of q (current_of_db db time))) ≡ Ok (Rows rows)
        → rows ≡ map (λ e. e.1) (current_of_db db time table)
    by None false h =
        let same : map (λ e. e.1) (matching_rows [] (current_of_db db time table)) ≡ rows = cc in
        sym same ∙ ap (map (λ e. e.1)) (all_match (current_of_db db time table))
    by None true h = cc
    by (Some e) late h = cc

pub rows-selected : (db : Database) (q : Select) (table time : ℕ) (rows : List Row) → q ≡ record { table = table; equals = [] } → right_answer_at db q time ≡ Ok (Rows rows)
    → rows ≡ map (λ e. e.1) (current_of_db db time table)
rows-selected db q table time rows is right = rows-found db table time rows (ap (λ (s : Select). right_answer_at db s time) (sym is) ∙ right)
