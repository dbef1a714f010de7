-- Values, rows, statements, actions and replies are the same exactly where they are equal.
use Rattle.std.proofs.Common.{◌≡◌, ◌≢◌, ℕ, suc, Bool, true, false, ◌==◌, ◌&&◌, Decides, List, [], ◌∷◌, length, refl, ap, arith}
use Rattle.std.specs.Bool.{beq}
use Rattle.std.specs.Ordering.{int_eq}
use Rattle.std.proofs.lemmas.Bool.Decides.{Decides-eqb, Decides-int_eq}
use Rattle.std.proofs.lemmas.Slice.Eq.{bytes_eq-Decides}
use Rattle.tt_values.specs.declared.value.Value.{Value}
use Rattle.tt_values.specs.declared.value.Value.TheVariants as values
use Rattle.tt_values.specs.declared.row.Row.{Row}
use Rattle.tt_values.specs.declared.reply.Reply.{Reply}
use Rattle.tt_values.specs.declared.reply.Reply.TheVariants as replies
use Rattle.tt_values.specs.Value.{is_same}
use Rattle.tt_values.specs.declared.comparison.Comparison.{Comparison}
use Rattle.tt_values.specs.declared.comparison.Comparison.TheVariants.{Is, IsNot, Below, AtMost, Above, AtLeast}
use Rattle.tt_values.specs.declared.statement.Change.{Change}
use Rattle.tt_values.specs.declared.statement.Change.TheVariants.{Set, Add}
use Rattle.tt_values.specs.declared.statement.Equal.{Equal}
use Rattle.tt_values.specs.declared.statement.Write.{Write}
use Rattle.tt_values.specs.declared.statement.Write.TheVariants.{Insert, Update, Delete}
use Rattle.tt_values.specs.declared.action.Action.{Action}
use Rattle.tt_values.specs.Same.{are_same_by, is_same_row, is_same_reply, is_same_comparison, is_same_equal, is_same_change, is_same_write, is_same_action, SameRepliesAreEqual, SameWritesAreEqual, SameActionsAreEqual}

first_true : (a b : Bool) → (a && b) ≡ true → a ≡ true
first_true true b h = refl
first_true false b h = absurd (cc h)

second_true : (a b : Bool) → (a && b) ≡ true → b ≡ true
second_true true b h = h
second_true false b h = absurd (cc h)

both_true : (a b : Bool) → a ≡ true → b ≡ true → (a && b) ≡ true
both_true true b first second = second
both_true false b first second = absurd (cc first)

-- lists of two lengths aren't the same
lengths_apart : {A : Type 0} (xs ys : List A) (b : Bool) → length xs ≢ length ys → ((length xs == length ys) && b) ≡ true → ⊥
lengths_apart xs ys b other h = other ((Decides-eqb (length xs) (length ys)).0 (first_true (length xs == length ys) b h))

lengths_same : (m n : ℕ) → (suc m == suc n) ≡ true → (m == n) ≡ true
lengths_same m n h = (Decides-eqb m n).1 (let both : suc m ≡ suc n = (Decides-eqb (suc m) (suc n)).0 h in omega (arith, both))

lengths_longer : (m n : ℕ) → (m == n) ≡ true → (suc m == suc n) ≡ true
lengths_longer m n h = (Decides-eqb (suc m) (suc n)).1 (let both : m ≡ n = (Decides-eqb m n).0 h in omega (arith, both))

module _ {A : Type 0} (same : A → A → Bool) (decides : (a b : A) → Decides (same a b) (a ≡ b)) where
  -- one item more
  more_decides : (x y : A) (xs ys : List A) → Decides (are_same_by same xs ys) (xs ≡ ys) → Decides (are_same_by same (x ∷ xs) (y ∷ ys)) ((x ∷ xs) ≡ (y ∷ ys))
  more_decides x y xs ys rest = (are_equal, are_same)
    where
      are_equal : are_same_by same (x ∷ xs) (y ∷ ys) ≡ true → (x ∷ xs) ≡ (y ∷ ys)
      are_equal e =
          let lengths = lengths_same (length xs) (length ys) (first_true _ _ e) in
          let items = second_true (length (x ∷ xs) == length (y ∷ ys)) _ e in
          let head : x ≡ y = (decides x y).0 (first_true _ _ items) in
          let tail : xs ≡ ys = rest.0 (both_true _ _ lengths (second_true (same x y) _ items)) in cc (head, tail)

      are_same : (x ∷ xs) ≡ (y ∷ ys) → are_same_by same (x ∷ xs) (y ∷ ys) ≡ true
      are_same e =
          let head : x ≡ y = cc e in
          let tail : xs ≡ ys = cc e in
          both_true _ _ (lengths_longer (length xs) (length ys) (first_true _ _ (rest.1 tail)))
          (both_true _ _ ((decides x y).1 head) (second_true (length xs == length ys) _ (rest.1 tail)))

  -- lists are compared item by item
  by_decides : (xs ys : List A) → Decides (are_same_by same xs ys) (xs ≡ ys)
  by_decides [] [] = (λ e. refl, λ e. refl)
  by_decides [] (y ∷ ys) = (λ e. absurd (lengths_apart [] (y ∷ ys) _ (omega arith) e), λ e. absurd (cc e))
  by_decides (x ∷ xs) [] = (λ e. absurd (lengths_apart (x ∷ xs) [] _ (omega arith) e), λ e. absurd (cc e))
  by_decides (x ∷ xs) (y ∷ ys) = more_decides x y xs ys (by_decides xs ys)

value_decides : (v w : Value) → Decides (is_same v w) (v ≡ w)
value_decides (values.Int m) (values.Int n) = (λ e. ap values.Int ((Decides-int_eq m n).0 e), λ e. (Decides-int_eq m n).1 (cc e))
value_decides (values.Int m) (values.Text t) = (λ e. absurd (cc e), λ e. absurd (cc e))
value_decides (values.Text s) (values.Int n) = (λ e. absurd (cc e), λ e. absurd (cc e))
value_decides (values.Text s) (values.Text t) = (λ e. ap values.Text ((bytes_eq-Decides s t).0 e), λ e. (bytes_eq-Decides s t).1 (cc e))

row_decides : (r s : Row) → Decides (is_same_row r s) (r ≡ s)
row_decides r s =
    let d = by_decides is_same value_decides r.values s.values in
    let made : List Value → Row = λ v. record { values = v } in
    (λ e. ap made (d.0 e), λ e. d.1 (ap (λ (t : Row). t.values) e))

reply_decides : (a b : Reply) → Decides (is_same_reply a b) (a ≡ b)
reply_decides replies.Inserted replies.Inserted = (λ e. refl, λ e. refl)
reply_decides replies.Inserted replies.Duplicate = (λ e. absurd (cc e), λ e. absurd (cc e))
reply_decides replies.Inserted (replies.Updated n) = (λ e. absurd (cc e), λ e. absurd (cc e))
reply_decides replies.Inserted (replies.Deleted n) = (λ e. absurd (cc e), λ e. absurd (cc e))
reply_decides replies.Inserted (replies.Rows ss) = (λ e. absurd (cc e), λ e. absurd (cc e))
reply_decides replies.Duplicate replies.Inserted = (λ e. absurd (cc e), λ e. absurd (cc e))
reply_decides replies.Duplicate replies.Duplicate = (λ e. refl, λ e. refl)
reply_decides replies.Duplicate (replies.Updated n) = (λ e. absurd (cc e), λ e. absurd (cc e))
reply_decides replies.Duplicate (replies.Deleted n) = (λ e. absurd (cc e), λ e. absurd (cc e))
reply_decides replies.Duplicate (replies.Rows ss) = (λ e. absurd (cc e), λ e. absurd (cc e))
reply_decides (replies.Updated m) replies.Inserted = (λ e. absurd (cc e), λ e. absurd (cc e))
reply_decides (replies.Updated m) replies.Duplicate = (λ e. absurd (cc e), λ e. absurd (cc e))
reply_decides (replies.Updated m) (replies.Updated n) = (λ e. ap replies.Updated ((Decides-eqb m n).0 e), λ e. (Decides-eqb m n).1 (cc e))
reply_decides (replies.Updated m) (replies.Deleted n) = (λ e. absurd (cc e), λ e. absurd (cc e))
reply_decides (replies.Updated m) (replies.Rows ss) = (λ e. absurd (cc e), λ e. absurd (cc e))
reply_decides (replies.Deleted m) replies.Inserted = (λ e. absurd (cc e), λ e. absurd (cc e))
reply_decides (replies.Deleted m) replies.Duplicate = (λ e. absurd (cc e), λ e. absurd (cc e))
reply_decides (replies.Deleted m) (replies.Updated n) = (λ e. absurd (cc e), λ e. absurd (cc e))
reply_decides (replies.Deleted m) (replies.Deleted n) = (λ e. ap replies.Deleted ((Decides-eqb m n).0 e), λ e. (Decides-eqb m n).1 (cc e))
reply_decides (replies.Deleted m) (replies.Rows ss) = (λ e. absurd (cc e), λ e. absurd (cc e))
reply_decides (replies.Rows rs) replies.Inserted = (λ e. absurd (cc e), λ e. absurd (cc e))
reply_decides (replies.Rows rs) replies.Duplicate = (λ e. absurd (cc e), λ e. absurd (cc e))
reply_decides (replies.Rows rs) (replies.Updated n) = (λ e. absurd (cc e), λ e. absurd (cc e))
reply_decides (replies.Rows rs) (replies.Deleted n) = (λ e. absurd (cc e), λ e. absurd (cc e))
reply_decides (replies.Rows rs) (replies.Rows ss) =
    let d = by_decides is_same_row row_decides rs ss in (λ e. ap replies.Rows (d.0 e), λ e. d.1 (cc e))

pub same_replies_are_equal : SameRepliesAreEqual
same_replies_are_equal first second = by_decides is_same_reply reply_decides first second

comparison_decides : (a b : Comparison) → Decides (is_same_comparison a b) (a ≡ b)
comparison_decides Is Is = (λ e. refl, λ e. refl)
comparison_decides Is IsNot = (λ e. absurd (cc e), λ e. absurd (cc e))
comparison_decides Is Below = (λ e. absurd (cc e), λ e. absurd (cc e))
comparison_decides Is AtMost = (λ e. absurd (cc e), λ e. absurd (cc e))
comparison_decides Is Above = (λ e. absurd (cc e), λ e. absurd (cc e))
comparison_decides Is AtLeast = (λ e. absurd (cc e), λ e. absurd (cc e))
comparison_decides IsNot Is = (λ e. absurd (cc e), λ e. absurd (cc e))
comparison_decides IsNot IsNot = (λ e. refl, λ e. refl)
comparison_decides IsNot Below = (λ e. absurd (cc e), λ e. absurd (cc e))
comparison_decides IsNot AtMost = (λ e. absurd (cc e), λ e. absurd (cc e))
comparison_decides IsNot Above = (λ e. absurd (cc e), λ e. absurd (cc e))
comparison_decides IsNot AtLeast = (λ e. absurd (cc e), λ e. absurd (cc e))
comparison_decides Below Is = (λ e. absurd (cc e), λ e. absurd (cc e))
comparison_decides Below IsNot = (λ e. absurd (cc e), λ e. absurd (cc e))
comparison_decides Below Below = (λ e. refl, λ e. refl)
comparison_decides Below AtMost = (λ e. absurd (cc e), λ e. absurd (cc e))
comparison_decides Below Above = (λ e. absurd (cc e), λ e. absurd (cc e))
comparison_decides Below AtLeast = (λ e. absurd (cc e), λ e. absurd (cc e))
comparison_decides AtMost Is = (λ e. absurd (cc e), λ e. absurd (cc e))
comparison_decides AtMost IsNot = (λ e. absurd (cc e), λ e. absurd (cc e))
comparison_decides AtMost Below = (λ e. absurd (cc e), λ e. absurd (cc e))
comparison_decides AtMost AtMost = (λ e. refl, λ e. refl)
comparison_decides AtMost Above = (λ e. absurd (cc e), λ e. absurd (cc e))
comparison_decides AtMost AtLeast = (λ e. absurd (cc e), λ e. absurd (cc e))
comparison_decides Above Is = (λ e. absurd (cc e), λ e. absurd (cc e))
comparison_decides Above IsNot = (λ e. absurd (cc e), λ e. absurd (cc e))
comparison_decides Above Below = (λ e. absurd (cc e), λ e. absurd (cc e))
comparison_decides Above AtMost = (λ e. absurd (cc e), λ e. absurd (cc e))
comparison_decides Above Above = (λ e. refl, λ e. refl)
comparison_decides Above AtLeast = (λ e. absurd (cc e), λ e. absurd (cc e))
comparison_decides AtLeast Is = (λ e. absurd (cc e), λ e. absurd (cc e))
comparison_decides AtLeast IsNot = (λ e. absurd (cc e), λ e. absurd (cc e))
comparison_decides AtLeast Below = (λ e. absurd (cc e), λ e. absurd (cc e))
comparison_decides AtLeast AtMost = (λ e. absurd (cc e), λ e. absurd (cc e))
comparison_decides AtLeast Above = (λ e. absurd (cc e), λ e. absurd (cc e))
comparison_decides AtLeast AtLeast = (λ e. refl, λ e. refl)

equal_decides : (p q : Equal) → Decides (is_same_equal p q) (p ≡ q)
equal_decides p q = (are_equal, are_same)
  where
    are_equal : is_same_equal p q ≡ true → p ≡ q
    are_equal e =
        let both = first_true _ _ e in
        let column : p.column ≡ q.column = (Decides-eqb p.column q.column).0 (first_true _ _ both) in
        let how : p.how ≡ q.how = (comparison_decides p.how q.how).0 (second_true (p.column == q.column) _ both) in
        let value : p.value ≡ q.value = (value_decides p.value q.value).0 (second_true ((p.column == q.column) && is_same_comparison p.how q.how) _ e) in
        λ i. record { column = column i; how = how i; value = value i }

    are_same : p ≡ q → is_same_equal p q ≡ true
    are_same e =
        both_true _ _ (both_true _ _ ((Decides-eqb p.column q.column).1 (ap (λ (x : Equal). x.column) e)) ((comparison_decides p.how q.how).1 (ap (λ (x : Equal). x.how) e)))
        ((value_decides p.value q.value).1 (ap (λ (x : Equal). x.value) e))

change_decides : (a b : Change) → Decides (is_same_change a b) (a ≡ b)
change_decides (Set c v) (Set d w) = (are_equal, are_same)
  where
    are_equal : ((c == d) && is_same v w) ≡ true → Set c v ≡ Set d w
    are_equal e =
        let column : c ≡ d = (Decides-eqb c d).0 (first_true _ _ e) in
        let value : v ≡ w = (value_decides v w).0 (second_true (c == d) _ e) in cc (column, value)

    are_same : Set c v ≡ Set d w → ((c == d) && is_same v w) ≡ true
    are_same e =
        let column : c ≡ d = cc e in
        let value : v ≡ w = cc e in both_true _ _ ((Decides-eqb c d).1 column) ((value_decides v w).1 value)
change_decides (Add c m) (Add d n) = (are_equal, are_same)
  where
    are_equal : ((c == d) && int_eq m n) ≡ true → Add c m ≡ Add d n
    are_equal e =
        let column : c ≡ d = (Decides-eqb c d).0 (first_true _ _ e) in
        let by : m ≡ n = (Decides-int_eq m n).0 (second_true (c == d) _ e) in cc (column, by)

    are_same : Add c m ≡ Add d n → ((c == d) && int_eq m n) ≡ true
    are_same e =
        let column : c ≡ d = cc e in
        let by : m ≡ n = cc e in both_true _ _ ((Decides-eqb c d).1 column) ((Decides-int_eq m n).1 by)
change_decides (Set c v) (Add d n) = (λ e. absurd (cc e), λ e. absurd (cc e))
change_decides (Add c m) (Set d w) = (λ e. absurd (cc e), λ e. absurd (cc e))

equals_decide : (ps qs : List Equal) → Decides (are_same_by is_same_equal ps qs) (ps ≡ qs)
equals_decide = by_decides is_same_equal equal_decides

changes_decide : (cs ds : List Change) → Decides (are_same_by is_same_change cs ds) (cs ≡ ds)
changes_decide = by_decides is_same_change change_decides

write_decides : (a b : Write) → Decides (is_same_write a b) (a ≡ b)
write_decides (Insert t row) (Insert u other) = (are_equal, are_same)
  where
    are_equal : ((t == u) && is_same_row row other) ≡ true → Insert t row ≡ Insert u other
    are_equal e =
        let table : t ≡ u = (Decides-eqb t u).0 (first_true _ _ e) in
        let rows : row ≡ other = (row_decides row other).0 (second_true (t == u) _ e) in cc (table, rows)

    are_same : Insert t row ≡ Insert u other → ((t == u) && is_same_row row other) ≡ true
    are_same e =
        let table : t ≡ u = cc e in
        let rows : row ≡ other = cc e in both_true _ _ ((Decides-eqb t u).1 table) ((row_decides row other).1 rows)
write_decides (Update t cs ps) (Update u ds qs) = (are_equal, are_same)
  where
    are_equal : ((t == u) && are_same_by is_same_change cs ds && are_same_by is_same_equal ps qs) ≡ true → Update t cs ps ≡ Update u ds qs
    are_equal e =
        let both = first_true _ _ e in
        let table : t ≡ u = (Decides-eqb t u).0 (first_true _ _ both) in
        let changes : cs ≡ ds = (changes_decide cs ds).0 (second_true (t == u) _ both) in
        let equals : ps ≡ qs = (equals_decide ps qs).0 (second_true ((t == u) && are_same_by is_same_change cs ds) _ e) in λ i. Update (table i) (changes i) (equals i)

    are_same : Update t cs ps ≡ Update u ds qs → ((t == u) && are_same_by is_same_change cs ds && are_same_by is_same_equal ps qs) ≡ true
    are_same e =
        let table : t ≡ u = cc e in
        let changes : cs ≡ ds = cc e in
        let equals : ps ≡ qs = cc e in
        both_true _ _ (both_true _ _ ((Decides-eqb t u).1 table) ((changes_decide cs ds).1 changes)) ((equals_decide ps qs).1 equals)
write_decides (Delete t ps) (Delete u qs) = (are_equal, are_same)
  where
    are_equal : ((t == u) && are_same_by is_same_equal ps qs) ≡ true → Delete t ps ≡ Delete u qs
    are_equal e =
        let table : t ≡ u = (Decides-eqb t u).0 (first_true _ _ e) in
        let equals : ps ≡ qs = (equals_decide ps qs).0 (second_true (t == u) _ e) in cc (table, equals)

    are_same : Delete t ps ≡ Delete u qs → ((t == u) && are_same_by is_same_equal ps qs) ≡ true
    are_same e =
        let table : t ≡ u = cc e in
        let equals : ps ≡ qs = cc e in both_true _ _ ((Decides-eqb t u).1 table) ((equals_decide ps qs).1 equals)
write_decides (Insert t row) (Update u ds qs) = (λ e. absurd (cc e), λ e. absurd (cc e))
write_decides (Insert t row) (Delete u qs) = (λ e. absurd (cc e), λ e. absurd (cc e))
write_decides (Update t cs ps) (Insert u other) = (λ e. absurd (cc e), λ e. absurd (cc e))
write_decides (Update t cs ps) (Delete u qs) = (λ e. absurd (cc e), λ e. absurd (cc e))
write_decides (Delete t ps) (Insert u other) = (λ e. absurd (cc e), λ e. absurd (cc e))
write_decides (Delete t ps) (Update u ds qs) = (λ e. absurd (cc e), λ e. absurd (cc e))

pub same_writes_are_equal : SameWritesAreEqual
same_writes_are_equal first second = by_decides is_same_write write_decides first second

bool_decides : (a b : Bool) → Decides (beq a b) (a ≡ b)
bool_decides true true = (λ e. refl, λ e. refl)
bool_decides true false = (λ e. absurd (cc e), λ e. absurd (cc e))
bool_decides false true = (λ e. absurd (cc e), λ e. absurd (cc e))
bool_decides false false = (λ e. refl, λ e. refl)

pub same_actions_are_equal : SameActionsAreEqual
same_actions_are_equal a b = (are_equal, are_same)
  where
    are_equal : is_same_action a b ≡ true → a ≡ b
    are_equal e =
        let whole : a.whole ≡ b.whole = (bool_decides a.whole b.whole).0 (first_true _ _ e) in
        let writes : a.writes ≡ b.writes = (same_writes_are_equal a.writes b.writes).0 (second_true (beq a.whole b.whole) _ e) in
        λ i. record { writes = writes i; whole = whole i }

    are_same : a ≡ b → is_same_action a b ≡ true
    are_same e =
        both_true _ _ ((bool_decides a.whole b.whole).1 (ap (λ (x : Action). x.whole) e)) ((same_writes_are_equal a.writes b.writes).1 (ap (λ (x : Action). x.writes) e))
