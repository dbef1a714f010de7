-- A select that is refused has no answer now, and records are compared one after another.
use Rattle.std.proofs.Common.{◌≡◌, ◌≢◌, ℕ, zero, suc, ◌+◌, ◌<◌, nat_lt, Bool, true, false, if◌then◌else◌, List, [], ◌∷◌, ◌++◌, length, get_or, drop, Option, None, Some, Result, Ok, Err, IfOk, OnOk, refl, sym, ap, subst, ◌∙◌, arith}
use Rattle.std.proofs.lemmas.List.{append_assoc}
use Rattle.std.specs.Option.{option_and_then}
use Rattle.tt_values.specs.declared.checking.CheckError.{CheckError}
use Rattle.tt_values.specs.declared.statement.Select.{Select}
use Rattle.tt_values.specs.declared.reply.Reply.{Reply}
use Rattle.tt_values.specs.Tables.{Tables}
use Rattle.tt_values.specs.Check.{select_fault}
use Rattle.tt_db.specs.declared.errors.ReadError.{ReadError}
use Rattle.tt_db.specs.declared.errors.ReadError.TheVariants as errors
use Rattle.tt_db.specs.State.{State, now_of}
use Rattle.tt_db.specs.RightAnswers.{Answers, right_select_at, unless_fault, unless_later}
use Rattle.tt_records.specs.declared.record.Record.{Record}
use Rattle.tt_records.specs.declared.changed.Changed.{Changed}
use Rattle.tt_records.specs.Changes.{answer_now, as_list, change_of, changes_of}

none_if_refused : (S : State) (q : Select) (time : ℕ) (reply : Reply) (fault : Option CheckError) (e : ReadError)
    → unless_fault fault (unless_later time (now_of S) reply) ≡ Err e → answer_now S q time fault ≡ None
none_if_refused S q time reply (Some f) e h = refl
none_if_refused S q time reply None e h = by (nat_lt (now_of S) time) refl
  where
    by : (b : Bool) → nat_lt (now_of S) time ≡ b → answer_now S q time None ≡ None
    by true later = rw later refl
    by false later = let clash : ◌≡◌ {A = Result Reply ReadError} (Ok reply) (Err e) = subst (λ b. (if b then Err (errors.Later (now_of S)) else Ok reply) ≡ Err e) later h in cc

pub right-refused : (right : Result Reply ReadError) (e : ReadError) → e ≢ errors.Memory → Answers right (Err e) → right ≡ Err e
right-refused right (errors.Statement fault) some h = h
right-refused right (errors.NoGeneration oldest newest) some h = h
right-refused right errors.NoReading some h = h
right-refused right errors.NotRepairing some h = h
right-refused right (errors.Later now) some h = h
right-refused right errors.Memory some h = absurd (some refl)

pub refused_has_none : (tables : Tables) (S : State) (q : Select) (time : ℕ) (e : ReadError) → e ≢ errors.Memory
    → Answers (right_select_at tables S q time) (Err e) → answer_now S q time (select_fault tables q) ≡ None
refused_has_none tables S q time e some h = none_if_refused S q time _ (select_fault tables q) e (right-refused (right_select_at tables S q time) e some h)

-- where there is no answer, there is no change
pub no_change : {A B E : Type 0} (P : Type 0) (r : Result (Option B) E) (f : A → Option B) (answer : Option A)
    → IfOk r (λ c. c ≡ None) → OnOk r P → (P → answer ≡ None) → IfOk r (λ c. c ≡ option_and_then f answer)
no_change P (Ok c) f answer none p refused = none ∙ sym (ap (option_and_then f) (refused p))
no_change P (Err e) f answer none p refused = tt

-- ---- one record after another

item-and-rest : {X : Type 0} (xs : List X) (i : ℕ) (x : X) → i < length xs → x ≡ get_or xs i x → drop i xs ≡ x ∷ drop (suc i) xs
item-and-rest [] i x within is = absurd (omega (arith, within))
item-and-rest (y ∷ xs) zero x within is = ap (λ z. z ∷ xs) (sym is)
item-and-rest (y ∷ xs) (suc i) x within is = item-and-rest xs i x (omega (arith, within)) is

-- the changes so far and those of the records that are left stay the same when one more record has been compared
pub changes-next : (tables : Tables) (S : State) (records : List Record) (i : ℕ) (r : Record) (before after all : List Changed) (change : Option Changed)
    → i < length records → r ≡ get_or records i r → change ≡ change_of tables S r → after ≡ before ++ as_list change
    → before ++ changes_of tables S (drop i records) ≡ all → after ++ changes_of tables S (drop (i + 1) records) ≡ all
changes-next tables S records i r before after all change within here is added so_far =
    let next : suc i ≡ i + 1 = omega arith in
    let rest = changes_of tables S (drop (suc i) records) in
    ap (λ n. after ++ changes_of tables S (drop n records)) (sym next)
    ∙ ap (λ xs. xs ++ rest) (added ∙ ap (λ o. before ++ as_list o) is)
    ∙ append_assoc before (as_list (change_of tables S r)) rest
    ∙ ap (λ rs. before ++ changes_of tables S rs) (sym (item-and-rest records i r within here))
    ∙ so_far

pub is_none : {X : Type 0} (o : Option X) → ((x : X) → o ≡ Some x → ⊥) → o ≡ None
is_none None h = refl
is_none (Some x) h = absurd (h x refl)
