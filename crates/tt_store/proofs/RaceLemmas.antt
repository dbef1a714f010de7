-- Why a worker doesn't get to see the whole history, and what that says of a call.
use Rattle.std.proofs.Common.{◌≡◌, ℕ, ◌<◌, ◌≤◌, nat_le, nat_lt, Bool, true, false, ◌&&◌, if◌then◌else◌, List, length, inl, inr, refl, arith}
use Rattle.std.proofs.lemmas.Bool.Decides.{nat_tests}
use Rattle.tt_values.specs.Tables.{Tables}
use Rattle.tt_db.specs.declared.limits.Limits.{Limits}
use Rattle.tt_db.specs.declared.event.Entry.{Entry}
use Rattle.tt_store.specs.declared.call.Call.{Call}
use Rattle.tt_store.specs.declared.errors.Unread.{Unread}
use Rattle.tt_store.specs.declared.errors.Unread.TheVariants as unread
use Rattle.tt_store.specs.declared.errors.StoreError.{StoreError}
use Rattle.tt_store.specs.declared.errors.StoreError.TheVariants as errors
use Rattle.tt_store.specs.Drafts.{IsMissed, race, error_of_read}
use Rattle.tt_store.specs.Workers.{WorkerState, Looks, IsCause, IsRefused}

-- a race is latest as one, or as no reading
no_refusal : (b : Bool) (read latest : ℕ) (e : _) → errors.Db e ≡ (if b then errors.Raced read latest else errors.NoReading) → ⊥
no_refusal true read latest e h = cc h
no_refusal false read latest e h = cc h

pub missed_by_race : (latest before seen : List Entry) (e : StoreError) → e ≡ race (length before) (length seen) (length latest) → IsMissed latest before seen e
missed_by_race latest before seen (errors.Db e) h = no_refusal (nat_le (length before) (length latest) && nat_lt (length latest) (length seen)) (length seen) (length latest) e h
missed_by_race latest before seen (errors.Raced r t) h = h
missed_by_race latest before seen errors.NoReading h = inr h
missed_by_race latest before seen errors.Memory h = tt

pub missed_unread : (latest before seen : List Entry) (why : Unread) → seen ≡ before → IsMissed latest before seen (error_of_read why)
missed_unread latest before seen unread.NoReading same = inl same
missed_unread latest before seen unread.Memory same = tt

raced_by : (a b : Bool) (read latest r t : ℕ) → errors.Raced r t ≡ (if a && b then errors.Raced read latest else errors.NoReading) → (a ≡ true) × (b ≡ true) × (r ≡ read) × (t ≡ latest)
raced_by true true read latest r t h = (refl, refl, cc h, cc h)
raced_by true false read latest r t h = absurd (cc h)
raced_by false b read latest r t h = absurd (cc h)

cause_raced : (before seen latest r t : ℕ) → errors.Raced r t ≡ race before seen latest → (r ≡ seen) × (t < r) × (before ≤ t)
cause_raced before seen latest r t h =
    let is = raced_by (nat_le before latest) (nat_lt latest seen) seen latest r t h in
    let no_less : nat_le before latest ≡ true = is.0 in
    let more : nat_lt latest seen ≡ true = is.1 in
    let read_is : r ≡ seen = is.2 in
    let latest_is : t ≡ latest = is.3 in
    (read_is, grind (arith, nat_tests, more, read_is, latest_is), grind (arith, nat_tests, no_less, latest_is))

cause_missed : (tables : Tables) (limits : Limits) (call : Call) (latest before seen : List Entry) (e : StoreError) → IsMissed latest before seen e → IsCause tables limits call before seen e
cause_missed tables limits call latest before seen (errors.Db e) h = absurd h
cause_missed tables limits call latest before seen (errors.Raced r t) h = cause_raced (length before) (length seen) (length latest) r t h
cause_missed tables limits call latest before seen errors.NoReading h = tt
cause_missed tables limits call latest before seen errors.Memory h = tt

-- a worker that doesn't get to see the whole history is refused its call
pub refused_missed : (tables : Tables) (limits : Limits) (call : Call) (latest : List Entry) (old new : WorkerState) (e : StoreError) → Looks old new → IsMissed latest old.seen new.seen e
    → IsRefused tables limits call old new e
refused_missed tables limits call latest old new e looks missed = record { looks = looks; cause = cause_missed tables limits call latest old.seen new.seen e missed }
