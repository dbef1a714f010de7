-- The actions of the ground of a legal history have no fault, and its content is one of keyed rows within the tables.
use Rattle.std.proofs.Common.{◌≡◌, ℕ, zero, suc, ◌≤◌, ◌<◌, pos, Bool, true, false, nat_lt, List, [], ◌∷◌, ◌++◌, map, length, take, drop, flat_map, None, Some, unwrap_or, if◌then◌else◌, refl, ap, ◌∙◌, arith}
use Rattle.std.proofs.lemmas.Bool.Decides.{nat_tests}
use Rattle.std.proofs.lemmas.List.Elements.{All-from_recursion}
use Rattle.std.specs.List.{AllByRecursion, range_with_len}
use Rattle.std.specs.Option.{option_or}
use Rattle.tt_values.specs.declared.statement.Write.{Write}
use Rattle.tt_values.specs.declared.action.Action.{Action}
use Rattle.tt_values.specs.declared.checking.CheckError.TheVariants as faults
use Rattle.tt_values.specs.Limits.{max_writes}
use Rattle.tt_values.specs.Row.{key_of}
use Rattle.tt_values.specs.Tables.{Tables, IsCatalog}
use Rattle.tt_values.specs.Check.{first_write_fault, action_fault}
use Rattle.tt_values.specs.Content.{RowsByKey, Content}
use Rattle.tt_values.specs.Action.{action_of}
use Rattle.tt_values.specs.RowWrites.{row_writes}
use Rattle.tt_values.proofs.LawProofs.{rows_rise}
use Rattle.tt_db.specs.declared.limits.Limits.{Limits}
use Rattle.tt_db.specs.declared.event.Entry.{Entry}
use Rattle.tt_db.specs.State.{after, current_at, IsLegal}
use Rattle.tt_db.proofs.KeyLemmas.{AllKeyed, IsKeyedContent-legal}
use Rattle.tt_horizon.specs.Ground.{inserts_of, inserts_of_tables, some_pieces, ground_writes, ground_of_content}
use Rattle.tt_horizon.specs.Laws.{IsWithinTables}
use Rattle.tt_horizon.proofs.AcceptedLemmas.{AllAccepted-legal}
use Rattle.tt_horizon.proofs.RowLemmas.{AllPass, IsPassing, HaveNoFaults, IsPassing-content_of, AllPass-past}

-- ---- the inserts have no faults

HaveNoFaults-append : (tables : Tables) (ws vs : List Write) → HaveNoFaults tables ws → HaveNoFaults tables vs → HaveNoFaults tables (ws ++ vs)
HaveNoFaults-append tables [] vs h k = k
HaveNoFaults-append tables (w ∷ ws) vs h k = (h.0, HaveNoFaults-append tables ws vs h.1 k)

HaveNoFaults-inserts : (tables : Tables) (table : ℕ) (rows : RowsByKey) → AllPass tables table rows → HaveNoFaults tables (inserts_of table rows)
HaveNoFaults-inserts tables table [] h = tt
HaveNoFaults-inserts tables table (e ∷ es) h = (h.0, HaveNoFaults-inserts tables table es h.1)

HaveNoFaults-tables : (tables : Tables) (X : Content) (ts : List ℕ) → IsPassing tables X → HaveNoFaults tables (flat_map (λ t. inserts_of t (X t)) ts)
HaveNoFaults-tables tables X [] h = tt
HaveNoFaults-tables tables X (t ∷ ts) h =
    HaveNoFaults-append tables (inserts_of t (X t)) (flat_map (λ u. inserts_of u (X u)) ts) (HaveNoFaults-inserts tables t (X t) (h t)) (HaveNoFaults-tables tables X ts h)

-- ---- nor have the actions that they are cut into

HaveNoFaults-take : (tables : Tables) (n : ℕ) (ws : List Write) → HaveNoFaults tables ws → HaveNoFaults tables (take n ws)
HaveNoFaults-take tables zero ws h = tt
HaveNoFaults-take tables (suc n) [] h = tt
HaveNoFaults-take tables (suc n) (w ∷ ws) h = (h.0, HaveNoFaults-take tables n ws h.1)

HaveNoFaults-drop : (tables : Tables) (n : ℕ) (ws : List Write) → HaveNoFaults tables ws → HaveNoFaults tables (drop n ws)
HaveNoFaults-drop tables zero ws h = h
HaveNoFaults-drop tables (suc n) [] h = tt
HaveNoFaults-drop tables (suc n) (w ∷ ws) h = HaveNoFaults-drop tables n ws h.1

length-take-few : {X : Type 0} (n : ℕ) (xs : List X) → length (take n xs) ≤ n
length-take-few zero xs = omega arith
length-take-few (suc n) [] = omega arith
length-take-few (suc n) (x ∷ xs) = let rest = length-take-few n xs in omega (arith, rest)

first_write_fault-none : (tables : Tables) (ws : List Write) → HaveNoFaults tables ws → first_write_fault tables ws ≡ None
first_write_fault-none tables [] h = refl
first_write_fault-none tables (w ∷ ws) h = ap (λ o. option_or o (first_write_fault tables ws)) h.0 ∙ first_write_fault-none tables ws h.1

action_fault-none : (tables : Tables) (ws : List Write) → length ws ≤ max_writes → HaveNoFaults tables ws → action_fault tables ws ≡ None
action_fault-none tables ws few h = by (nat_lt max_writes (length ws)) refl
  where
    by : (b : Bool) → nat_lt max_writes (length ws) ≡ b → (if b then Some faults.TooManyWrites else first_write_fault tables ws) ≡ None
    by true is = let many : max_writes < length ws = grind (arith, nat_tests) in absurd (omega (arith, many, few))
    by false is = first_write_fault-none tables ws h

-- actions without a fault
abbrev pub AllActionsPass : Tables → List Action → Type 0
AllActionsPass tables [] = Unit {0}
AllActionsPass tables (a ∷ actions) = (action_fault tables a.writes ≡ None) × AllActionsPass tables actions

AllActionsPass-pieces : (tables : Tables) (most n : ℕ) (ws : List Write) → n ≤ max_writes → HaveNoFaults tables ws → AllActionsPass tables (map action_of (some_pieces most n ws))
AllActionsPass-pieces tables zero n ws few h = tt
AllActionsPass-pieces tables (suc most) n [] few h = tt
AllActionsPass-pieces tables (suc most) n (w ∷ ws) few h =
    let short = length-take-few n (w ∷ ws) in (
      action_fault-none tables (take n (w ∷ ws)) (omega (arith, short, few)) (HaveNoFaults-take tables n (w ∷ ws) h),
      AllActionsPass-pieces tables most n (drop n (w ∷ ws)) few (HaveNoFaults-drop tables n (w ∷ ws) h),
    )

AllActionsPass-ground : (tables : Tables) (X : Content) → IsPassing tables X → AllActionsPass tables (ground_of_content (length tables) X)
AllActionsPass-ground tables X h =
    let ws = inserts_of_tables (length tables) X in
    AllActionsPass-pieces tables (length ws) ground_writes ws (omega arith) (HaveNoFaults-tables tables X (range_with_len 0 (length tables)) h)

-- ---- in a legal history

pub AllActionsPass-legal : (tables : Tables) (limits : Limits) (history : List Entry) (time : ℕ) → IsLegal tables limits history
    → AllActionsPass tables (ground_of_content (length tables) (current_at (after limits history) time))
AllActionsPass-legal tables limits history time legal =
    let S = after limits history in
    AllActionsPass-ground tables (current_at S time) (IsPassing-content_of tables S.slots time (AllAccepted-legal tables limits history legal))

own_keys : (es : RowsByKey) → AllKeyed es → AllByRecursion (λ e. key_of e.1 ≡ e.0) es
own_keys [] h = tt
own_keys (e ∷ es) h = (ap (λ o. unwrap_or o (pos 0)) h.0, own_keys es h.1)

pub IsWithinTables-legal : (tables : Tables) (limits : Limits) (history : List Entry) (time : ℕ) → IsCatalog tables → IsLegal tables limits history
    → IsWithinTables (length tables) (current_at (after limits history) time)
IsWithinTables-legal tables limits history time catalog legal =
    let S = after limits history in
    let X = current_at S time in
    let passes = IsPassing-content_of tables S.slots time (AllAccepted-legal tables limits history legal) in
    record {
      keyed = λ table. record {
        rising = rows_rise (row_writes S.slots (length S.slots)) time table;
        own = All-from_recursion (λ e. key_of e.1 ≡ e.0) (X table) (own_keys (X table) (IsKeyedContent-legal tables limits history time catalog legal table));
      };
      none = λ table past. AllPass-past tables table (X table) past (passes table);
    }
