-- Closed generations as a database keeps them.
use Rattle.std.proofs.Common.{◌≡◌, ◌≢◌, ℕ, zero, suc, ◌-◌, ◌==◌, Bool, true, false, cond, List, [], ◌∷◌, ◌++◌, map, length, drop, find, Option, None, Some, if◌then◌else◌, refl, sym, ap, ◌∙◌, arith}
use Rattle.std.proofs.lemmas.Bool.Decides.{nat_tests}
use Rattle.std.proofs.lemmas.List.{map-append, length-map}
use Rattle.std.specs.Option.{option_map}
use Rattle.tt_values.specs.Tables.{Tables}
use Rattle.tt_values.specs.RowWrites.{Slots}
use Rattle.tt_generations.specs.TwoGenerations.{TwoGenerations, Phase, Idle, Repairing, is_repairing, left_of, IsWithin}
use Rattle.tt_db.specs.State.{ClosedGeneration, edits_of, last_items, with_closed, slots_in}
use Rattle.tt_db.specs.ClosedGenerations.{KeptGeneration, before_switch, kept_generation}
use Rattle.tt_db.specs.Database.{Database, state_of, generations_in, generations_at}

-- a repair that has no slot left has done all of them
pub all_done : (phase : Phase) (W : Slots) → is_repairing phase ≡ true → left_of phase W ≡ 0 → IsWithin phase W → phase ≡ Repairing (edits_of phase) (length W)
all_done Idle W repairing none within = cc
all_done (Repairing E n) W repairing none within = ap (Repairing E) (omega (arith, none, within))

-- the last generations are kept as they are among all
drop-map : {X Y : Type 0} (f : X → Y) (n : ℕ) (xs : List X) → drop n (map f xs) ≡ map f (drop n xs)
drop-map f zero xs = refl
drop-map f (suc n) [] = refl
drop-map f (suc n) (x ∷ xs) = drop-map f n xs

last_items-map : {X Y : Type 0} (f : X → Y) (n : ℕ) (xs : List X) → last_items n (map f xs) ≡ map f (last_items n xs)
last_items-map f n xs = ap (λ k. drop (k - n) (map f xs)) (length-map xs f) ∙ drop-map f (length xs - n) xs

pub with_closed-kept : (tables : Tables) (keep : ℕ) (closed : List ClosedGeneration) (c : ClosedGeneration)
    → with_closed keep (map (kept_generation tables) closed) (kept_generation tables c) ≡ map (kept_generation tables) (with_closed keep closed c)
with_closed-kept tables keep closed c =
    ap (last_items keep) (sym (map-append (kept_generation tables) closed (c ∷ []))) ∙ last_items-map (kept_generation tables) keep (closed ++ c ∷ [])

-- the one of a number is kept with its tables
pub found-kept : (tables : Tables) (number : ℕ) (closed : List ClosedGeneration)
    → option_map (λ (c : KeptGeneration). c.generations) (find (λ (c : KeptGeneration). c.number == number) (map (kept_generation tables) closed))
    ≡ option_map (before_switch tables) (find (λ (c : ClosedGeneration). c.number == number) closed)
found-kept tables number [] = refl
found-kept tables number (c ∷ closed) = by (c.number == number) (found-kept tables number closed)
  where
    kept : Option KeptGeneration
    kept = find (λ (d : KeptGeneration). d.number == number) (map (kept_generation tables) closed)

    found : Option ClosedGeneration
    found = find (λ (d : ClosedGeneration). d.number == number) closed

    by : (b : Bool) → option_map (λ (d : KeptGeneration). d.generations) kept ≡ option_map (before_switch tables) found
        → option_map (λ (d : KeptGeneration). d.generations) (cond b (Some (kept_generation tables c)) kept) ≡ option_map (before_switch tables) (cond b (Some c) found)
    by true rest = refl
    by false rest = rest

-- its slots are those of the tables
slots-before_switch : (tables : Tables) (found : Option ClosedGeneration)
    → option_map (λ (G : TwoGenerations). G.slots) (option_map (before_switch tables) found) ≡ option_map (λ (c : ClosedGeneration). c.slots) found
slots-before_switch tables None = refl
slots-before_switch tables (Some c) = refl

-- of a generation that isn't the current one these are the tables
pub closed-tables : (db : Database) (number : ℕ) → number ≢ (state_of db).generation
    → option_map (before_switch db.catalog) (find (λ (c : ClosedGeneration). c.number == number) (state_of db).closed) ≡ generations_at db number
closed-tables db number other = by (number == (state_of db).generation) fails
  where
    found : Option TwoGenerations
    found = option_map (before_switch db.catalog) (find (λ (c : ClosedGeneration). c.number == number) (state_of db).closed)

    fails : (number == (state_of db).generation) ≡ false
    fails = grind (arith, nat_tests, other)

    by : (b : Bool) → b ≡ false → found ≡ (if b then Some (generations_in db.catalog (state_of db)) else found)
    by true is = cc
    by false is = refl

-- and of each generation that can be read these are the slots
pub slots-in_tables : (db : Database) (number : ℕ) → option_map (λ (G : TwoGenerations). G.slots) (generations_at db number) ≡ slots_in (state_of db) number
slots-in_tables db number = by (number == (state_of db).generation)
  where
    found : Option ClosedGeneration
    found = find (λ (c : ClosedGeneration). c.number == number) (state_of db).closed

    by : (b : Bool) → option_map (λ (G : TwoGenerations). G.slots) (if b then Some (generations_in db.catalog (state_of db)) else option_map (before_switch db.catalog) found)
        ≡ (if b then Some (state_of db).slots else option_map (λ (c : ClosedGeneration). c.slots) found)
    by true = refl
    by false = slots-before_switch db.catalog found
