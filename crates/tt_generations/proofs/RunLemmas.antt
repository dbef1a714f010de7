-- Steps of a repair that are made together.
use Rattle.std.proofs.Common.{◌≡◌, ℕ, zero, suc, ◌+◌, ◌-◌, ◌<◌, ◌≤◌, Bool, true, false, not, nat_lt, ◌&&◌, if◌then◌else◌, List, [], ◌∷◌, length, drop, slice_get, Some, Result, Ok, Err, refl, sym, ap, subst, ◌∙◌, arith}
use Rattle.std.specs.Prelude.{OnErr}
use Rattle.std.proofs.lemmas.Bool.Decides.{nat_tests}
use Rattle.std.proofs.lemmas.List.{length-drop, length-map}
use Rattle.tt_values.specs.Tables.{Tables}
use Rattle.tt_values.specs.RowWrites.{Slots}
use Rattle.tt_repair_laws.specs.declared.edit.Edit.{Edit}
use Rattle.tt_repair_laws.specs.Due.{is_due}
use Rattle.tt_generations.specs.declared.slot.KeptSlot.{KeptSlot}
use Rattle.tt_generations.specs.declared.repair.Repair.{Repair}
use Rattle.tt_generations.specs.Rows.{TablesByPosition}
use Rattle.tt_generations.specs.KeptSlots.{actions_of}
use Rattle.tt_generations.specs.Repair.{is_kept_due, undue_front}
use Rattle.tt_generations.specs.Generations.{generations_of, AreGenerations}
use Rattle.tt_generations.proofs.GenerationsLemmas.{IsAtSlot, IsAtSlot-found, AreGenerations-undue}
use Rattle.tt_generations.specs.TwoGenerations.{TwoGenerations, Phase, Idle, Repairing, no_slots, after_step, phase_after_step, left_of, is_next_due}
use Rattle.tt_generations.specs.Runs.{after_steps, is_undue_in, is_next_undue, undue_run, is_last_due}

-- ---- steps one after another

pub after_steps-next : (n : ℕ) (G : TwoGenerations) → after_step (after_steps n G) ≡ after_steps (n + 1) G
after_steps-next n G = let next : suc n ≡ n + 1 = omega arith in ap (λ m. after_steps m G) next

pub after_steps-more : (m n : ℕ) (G : TwoGenerations) → after_steps m (after_steps n G) ≡ after_steps (m + n) G
after_steps-more zero n G = let same : n ≡ 0 + n = omega arith in ap (λ k. after_steps k G) same
after_steps-more (suc m) n G = let next : suc (m + n) ≡ suc m + n = omega arith in ap after_step (after_steps-more m n G) ∙ ap (λ k. after_steps k G) next

catalog-steps : (n : ℕ) (G : TwoGenerations) → (after_steps n G).catalog ≡ G.catalog
catalog-steps zero G = refl
catalog-steps (suc n) G = catalog-steps n G

pub catalog-after_steps : (n : ℕ) (G H : TwoGenerations) → H ≡ after_steps n G → H.catalog ≡ G.catalog
catalog-after_steps n G H is = ap (λ (K : TwoGenerations). K.catalog) is ∙ catalog-steps n G

-- without memory there are no slots
pub none-after_steps : {X E : Type 0} (r : Result X E) (n : ℕ) (G H left : TwoGenerations) → H ≡ after_steps n G → left ≡ no_slots H.catalog → OnErr r (left ≡ no_slots G.catalog)
none-after_steps (Ok x) n G H left is none = tt
none-after_steps (Err e) n G H left is none = none ∙ ap no_slots (catalog-after_steps n G H is)

after_steps-first : (n : ℕ) (G : TwoGenerations) → after_steps n (after_step G) ≡ after_steps (suc n) G
after_steps-first zero G = refl
after_steps-first (suc n) G = ap after_step (after_steps-first n G)

left-step : (p : Phase) (W : Slots) → 0 < left_of p W → left_of (phase_after_step p) W + 1 ≡ left_of p W
left-step Idle W some = absurd (omega (arith, some))
left-step (Repairing edits n) W some = omega (arith, some)

pub left-steps : (n : ℕ) (G : TwoGenerations) → n ≤ left_of G.phase G.slots → let H = after_steps n G in left_of H.phase H.slots + n ≡ left_of G.phase G.slots
left-steps zero G few = omega arith
left-steps (suc n) G few =
    let H = after_steps n G in
    let before = left-steps n G (omega (arith, few)) in
    let step = left-step H.phase H.slots (omega (arith, few, before)) in
    omega (arith, before, step)

-- ---- whether the last of them is due

pub last_due-step : (n : ℕ) (G : TwoGenerations) (due : Bool) → due ≡ is_next_due (after_steps n G) → due ≡ is_last_due (n + 1) G
last_due-step n G due is = let next : suc n ≡ n + 1 = omega arith in is ∙ ap (λ m. is_last_due m G) next

pub last_due-more : (m n : ℕ) (G : TwoGenerations) → 0 < m → is_last_due m (after_steps n G) ≡ is_last_due (m + n) G
last_due-more zero n G some = absurd (omega (arith, some))
last_due-more (suc m) n G some = let next : suc (m + n) ≡ suc m + n = omega arith in ap is_next_due (after_steps-more m n G) ∙ ap (λ k. is_last_due k G) next

last_due-first : (n : ℕ) (G : TwoGenerations) → is_next_due G ≡ false → is_last_due n (after_step G) ≡ false → is_last_due (suc n) G ≡ false
last_due-first zero G first rest = first
last_due-first (suc n) G first rest = ap is_next_due (sym (after_steps-first n G)) ∙ rest

-- ---- a run of slots that aren't due

pub undue_run-few : (most : ℕ) (G : TwoGenerations) → undue_run most G ≤ most
undue_run-few zero G = omega arith
undue_run-few (suc most) G = by (is_next_undue G) (undue_run-few most (after_step G))
  where
    by : (b : Bool) → undue_run most (after_step G) ≤ most → (if b then suc (undue_run most (after_step G)) else 0) ≤ suc most
    by true rest = omega (arith, rest)
    by false rest = omega arith

undue_run-stop : (most : ℕ) (G : TwoGenerations) → is_next_undue G ≡ false → undue_run most G ≡ 0
undue_run-stop zero G due = refl
undue_run-stop (suc most) G due = ap (λ b. if b then suc (undue_run most (after_step G)) else 0) due

undue_run-first : (most : ℕ) (G : TwoGenerations) → is_next_undue G ≡ true → undue_run (suc most) G ≡ suc (undue_run most (after_step G))
undue_run-first most G undue = ap (λ b. if b then suc (undue_run most (after_step G)) else 0) undue

not_due : (a b : Bool) → (a && not b) ≡ true → b ≡ false
not_due true true h = cc
not_due true false h = refl
not_due false b h = cc

not_true : (b : Bool) → not b ≡ true → b ≡ false
not_true true h = cc
not_true false h = refl

pub undue_run-last : (most : ℕ) (G : TwoGenerations) → is_last_due (undue_run most G) G ≡ false
undue_run-last zero G = refl
undue_run-last (suc most) G = by (is_next_undue G) refl (undue_run-last most (after_step G))
  where
    by : (b : Bool) → is_next_undue G ≡ b → is_last_due (undue_run most (after_step G)) (after_step G) ≡ false
        → is_last_due (if b then suc (undue_run most (after_step G)) else 0) G ≡ false
    by true undue rest = last_due-first (undue_run most (after_step G)) G (not_due (nat_lt 0 (left_of G.phase G.slots)) (is_next_due G) undue) rest
    by false undue rest = refl

-- ---- the next slot is passed over, where it isn't due

pub AreGenerations-pass : (tables : Tables) (kept : List KeptSlot) (versions : TablesByPosition) (r after : Repair) (k : KeptSlot) (passed : Bool) → AreGenerations tables kept versions (Some r)
    → IsAtSlot tables kept versions r k → passed ≡ not (is_kept_due r k) → (passed ≡ true → after ≡ record r { done = r.done + 1 }) → (passed ≡ false → after ≡ r)
    → AreGenerations tables kept versions (Some after)
AreGenerations-pass tables kept versions r after k true are at undue done stays =
    AreGenerations-undue tables kept versions r after are at.left (sym at.due ∙ not_true (is_kept_due r k) (sym undue)) (done refl)
AreGenerations-pass tables kept versions r after k false are at undue done stays = subst (λ (s : Repair). AreGenerations tables kept versions (Some s)) (sym (stays refl)) are

-- ---- whether the next slot is there, and isn't due

pub undue-past : (tables : Tables) (W : Slots) (E : List Edit) (n : ℕ) → length W ≤ n → false ≡ is_undue_in tables (Repairing E n) W
undue-past tables W E n past =
    let none : 0 ≡ length W - n = omega (arith, past) in
    ap (λ m. nat_lt 0 m && not (is_due tables W E n)) none

pub undue-there : (tables : Tables) (W : Slots) (E : List Edit) (n : ℕ) (due : Bool) → n < length W → due ≡ is_due tables W E n → not due ≡ is_undue_in tables (Repairing E n) W
undue-there tables W E n due there is =
    let some : true ≡ nat_lt 0 (length W - n) = grind (arith, nat_tests) in
    ap not is ∙ ap (λ b. b && not (is_due tables W E n)) some

-- ---- a run among the slots that are kept

first-dropped : {X : Type 0} (n : ℕ) (xs ys : List X) (x : X) → drop n xs ≡ x ∷ ys → (slice_get xs n ≡ Some x) × (drop (suc n) xs ≡ ys)
first-dropped zero [] ys x is = cc
first-dropped zero (y ∷ xs) ys x is = (cc, cc)
first-dropped (suc n) [] ys x is = cc
first-dropped (suc n) (y ∷ xs) ys x is = first-dropped n xs ys x is

-- a run among them so far
pub front-stop : (most passed : ℕ) (first r : Repair) (k : KeptSlot) (slots all rest : List KeptSlot) → undue_front most first all ≡ passed + undue_front (most - passed) r slots → slots ≡ k ∷ rest → false ≡ not (is_kept_due r k)
    → passed ≡ undue_front most first all
front-stop most passed first r k slots all rest so_far is due =
    let none = ap (undue_front (most - passed) r) is ∙ ends (most - passed) (is_kept_due r k) refl due in
    omega (arith, so_far, none)
  where
    ends : (n : ℕ) (b : Bool) → is_kept_due r k ≡ b → false ≡ not b → undue_front n r (k ∷ rest) ≡ 0
    ends zero b same h = refl
    ends (suc n) true same h = ap (λ d. if d then 0 else suc (undue_front n (record r { done = r.done + 1 }) rest)) same
    ends (suc n) false same h = cc

pub front-next : (most passed : ℕ) (first r next : Repair) (k : KeptSlot) (slots all rest : List KeptSlot) → passed < most → undue_front most first all ≡ passed + undue_front (most - passed) r slots → slots ≡ k ∷ rest
    → true ≡ not (is_kept_due r k) → next ≡ record r { done = r.done + 1 } → undue_front most first all ≡ (passed + 1) + undue_front (most - (passed + 1)) next rest
front-next most passed first r next k slots all rest more so_far is undue done =
    let left : most - passed ≡ suc (most - (passed + 1)) = omega (arith, more) in
    let one = ap (undue_front (most - passed) r) is ∙ ap (λ m. undue_front m r (k ∷ rest)) left ∙ goes_on (is_kept_due r k) refl undue ∙ ap (λ (s : Repair). suc (undue_front (most - (passed + 1)) s rest)) (sym done) in
    omega (arith, so_far, one)
  where
    goes_on : (b : Bool) → is_kept_due r k ≡ b → true ≡ not b → undue_front (suc (most - (passed + 1))) r (k ∷ rest) ≡ suc (undue_front (most - (passed + 1)) (record r { done = r.done + 1 }) rest)
    goes_on true same h = cc
    goes_on false same h = ap (λ d. if d then 0 else suc (undue_front (most - (passed + 1)) (record r { done = r.done + 1 }) rest)) same

-- what a repair has passed over is a run of slots that aren't due, and all else is as before
pub record PassesRun (most : ℕ) (tables : Tables) (kept : List KeptSlot) (versions : TablesByPosition) (r : Repair) (count : ℕ) : Type 0 where
  pub run : count ≡ undue_run most (generations_of tables kept (Some r))
  pub parts : AreGenerations tables kept versions (Some (record r { done = r.done + count }))
  pub state : generations_of tables kept (Some (record r { done = r.done + count })) ≡ after_steps count (generations_of tables kept (Some r))

stays-put : (most : ℕ) (tables : Tables) (kept : List KeptSlot) (versions : TablesByPosition) (r : Repair) → AreGenerations tables kept versions (Some r) → 0 ≡ undue_run most (generations_of tables kept (Some r))
    → PassesRun most tables kept versions r 0
stays-put most tables kept versions r are none =
    let same : r.done ≡ r.done + 0 = omega arith in
    record {
      run = none;
      parts = subst (λ n. AreGenerations tables kept versions (Some (record r { done = n }))) same are;
      state = ap (λ n. generations_of tables kept (Some (record r { done = n }))) (sym same);
    }

pub passes-run : (most : ℕ) (tables : Tables) (kept left : List KeptSlot) (versions : TablesByPosition) (r : Repair) → AreGenerations tables kept versions (Some r) → drop r.done kept ≡ left
    → PassesRun most tables kept versions r (undue_front most r left)
passes-run zero tables kept left versions r are is = stays-put zero tables kept versions r are refl
passes-run (suc most) tables kept [] versions r are is =
    let W = actions_of kept in
    let many : length W ≡ length kept = length-map kept (λ k. k.slot.action) in
    let past : length W ≤ r.done = omega (arith, many, length-drop r.done kept, ap length is) in
    stays-put (suc most) tables kept versions r are (sym (undue_run-stop (suc most) (generations_of tables kept (Some r)) (sym (undue-past tables W r.edits r.done past))))
passes-run (suc most) tables kept (k ∷ left) versions r are is = by (is_kept_due r k) refl (passes-run most tables kept left versions (record r { done = r.done + 1 }))
  where
    G : TwoGenerations
    G = generations_of tables kept (Some r)

    first : (slice_get kept r.done ≡ Some k) × (drop (suc r.done) kept ≡ left)
    first = first-dropped r.done kept left k is

    at : IsAtSlot tables kept versions r k
    at = IsAtSlot-found tables kept versions (Some r) r k are refl first.0

    next : Repair
    next = record r { done = r.done + 1 }

    undue : (b : Bool) → is_kept_due r k ≡ b → not b ≡ is_next_undue G
    undue b due = undue-there tables (actions_of kept) r.edits r.done b at.left (sym due ∙ at.due)

    step : generations_of tables kept (Some next) ≡ after_step G
    step = let one : r.done + 1 ≡ suc r.done = omega arith in ap (λ n. generations_of tables kept (Some (record r { done = n }))) one

    by : (b : Bool) → is_kept_due r k ≡ b → (AreGenerations tables kept versions (Some next) → drop next.done kept ≡ left → PassesRun most tables kept versions next (undue_front most next left))
        → PassesRun (suc most) tables kept versions r (if b then 0 else suc (undue_front most next left))
    by true due goes_on = stays-put (suc most) tables kept versions r are (sym (undue_run-stop (suc most) G (sym (undue true due))))
    by false due goes_on =
        let passed = undue_front most next left in
        let same : (r.done + 1) + passed ≡ r.done + suc passed = omega arith in
        let one : r.done + 1 ≡ suc r.done = omega arith in
        let rest = goes_on (AreGenerations-pass tables kept versions r next k true are at (ap not (sym due)) (λ _. refl) (λ h. cc)) (ap (λ n. drop n kept) one ∙ first.1) in
        record {
          run = ap suc rest.run ∙ ap (λ H. suc (undue_run most H)) step ∙ sym (undue_run-first most G (sym (undue false due)));
          parts = subst (λ n. AreGenerations tables kept versions (Some (record r { done = n }))) same rest.parts;
          state = ap (λ n. generations_of tables kept (Some (record r { done = n }))) (sym same) ∙ rest.state ∙ ap (after_steps passed) step ∙ after_steps-first passed G;
        }

is_true-left : (a b : Bool) → (a && not b) ≡ false → a ≡ true → b ≡ true
is_true-left true true h there = refl
is_true-left true false h there = cc
is_true-left false b h there = cc

-- the slot behind the run is due, if there is one
undue_run-behind : (most : ℕ) (G : TwoGenerations) → undue_run most G < most → (let H = after_steps (undue_run most G) G in 0 < left_of H.phase H.slots) → is_next_due (after_steps (undue_run most G) G) ≡ true
undue_run-behind zero G few left = absurd (omega (arith, few))
undue_run-behind (suc most) G few left = by (is_next_undue G) refl few left (undue_run-behind most (after_step G))
  where
    n : ℕ
    n = undue_run most (after_step G)

    IsLeft : TwoGenerations → Type 0
    IsLeft H = 0 < left_of H.phase H.slots

    by : (b : Bool) → is_next_undue G ≡ b → (if b then suc n else 0) < suc most → IsLeft (after_steps (if b then suc n else 0) G)
        → (n < most → IsLeft (after_steps n (after_step G)) → is_next_due (after_steps n (after_step G)) ≡ true)
        → is_next_due (after_steps (if b then suc n else 0) G) ≡ true
    by true undue few left rest =
        let first = after_steps-first n G in
        ap is_next_due (sym first) ∙ rest (omega (arith, few)) (subst IsLeft (sym first) left)
    by false due few left rest =
        let there : nat_lt 0 (left_of G.phase G.slots) ≡ true = grind (arith, nat_tests) in
        is_true-left (nat_lt 0 (left_of G.phase G.slots)) (is_next_due G) due there

pub next_due-behind : (most passed : ℕ) (G H : TwoGenerations) → passed ≡ undue_run most G → H ≡ after_steps passed G → passed < most → 0 < left_of H.phase H.slots → is_next_due H ≡ true
next_due-behind most passed G H count steps few left =
    let is : H ≡ after_steps (undue_run most G) G = steps ∙ ap (λ n. after_steps n G) count in
    ap is_next_due is ∙ undue_run-behind most G (omega (arith, count, few)) (subst (λ (K : TwoGenerations). 0 < left_of K.phase K.slots) is left)
