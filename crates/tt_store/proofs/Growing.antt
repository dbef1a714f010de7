-- The exchange by which a history becomes a longer one keeps the rule.
use Rattle.std.proofs.Common.{◌≡◌, ℕ, ◌<◌, ◌==◌, Bool, true, false, List, [], ◌∷◌, ◌++◌, length, refl, ap, sym, ◌∙◌, subst, arith, inl, None}
use Rattle.std.proofs.lemmas.List.{append-nil}
use Rattle.std.proofs.lemmas.Bool.Decides.{nat_tests}
use mathlib.Core.List.{IsPrefix}
use prog.Atomic.{either}
use Rattle.logbook.specs.Pages.{Cell, cell, keeps, no_nib, step, Moves, Goes}
use Rattle.tt_db.specs.declared.event.Entry.{Entry}
use Rattle.tt_store.specs.History.{joined}
use Rattle.tt_store.specs.Rules.{IsKept, Becomes}
use Rattle.tt_store.proofs.Prefixes.{prefix_whole, joined-append, joined-prefix}

abbrev pub shown : List (List Entry) → List (List Entry)
shown log = []

abbrev pub moved : List (List Entry) → List (List Entry) → ℕ → Type 0
moved xs ys n = Unit {0}

pub grows_goes : (log v : List (List Entry)) (all : List Entry) (old : ℕ) → length (joined v) ≡ old → IsPrefix (joined v) all → IsPrefix v log
    → (b : Bool) → (length (joined log) == old) ≡ b
    → Goes IsKept shown moved 0 (v, (no_nib, None)) (λ n. either (n == old) (length all) n) (Becomes (step 0 old (length all) all) (v, (no_nib, None))) ((length (joined log), true) ∷ (0, true) ∷ []) log
grows_goes log v all old len longer pre true is =
    let here : length (joined log) ≡ old = grind (arith, nat_tests) in
    let same : joined v ≡ joined log = prefix_whole (joined v) (joined log) (joined-prefix v log pre) (omega arith) in
    let grown : joined (log ++ longer.0 ∷ []) ≡ all =
    joined-append log (longer.0 ∷ []) ∙ (ap (λ w. joined log ++ w) (append-nil longer.0) ∙ (ap (λ w. w ++ longer.0) (sym same) ∙ longer.1)) in
    let n : either (length (joined log) == old) (length all) (length (joined log)) ≡ length (joined (log ++ longer.0 ∷ [])) = rw is (sym (ap length grown)) in (
      keeps,
      longer.0 ∷ [],
      None,
      tt,
      ap (λ (k : ℕ). (k, true) ∷ (0, true) ∷ []) n,
      inl (refl, refl),
      rw is grown,
    )
grows_goes log v all old len longer pre false is =
    let whole : log ++ [] ≡ log = append-nil log in
    let n : either (length (joined log) == old) (length all) (length (joined log)) ≡ length (joined (log ++ [])) = rw is (ap (λ l. length (joined l)) (sym whole)) in (
      keeps,
      [],
      None,
      tt,
      ap (λ (k : ℕ). (k, true) ∷ (0, true) ∷ []) n,
      inl (refl, refl),
      rw is (ap (λ l. length (joined l)) whole),
    )

-- whatever the book is, the exchange makes the history this one, or finds that it is longer than what was seen
pub grows_moves : (v : List (List Entry)) (all : List Entry) (old : ℕ) → length (joined v) ≡ old → IsPrefix (joined v) all
    → Moves IsKept shown moved 0 (v, (no_nib, None)) (λ n. either (n == old) (length all) n) (Becomes (step 0 old (length all) all) (v, (no_nib, None)))
grows_moves v all old len longer cs log kept pre away =
    let P : List Cell → Type 0 = λ c. (0 < length c) × ((cell c 0).1 ≡ true) × Goes IsKept shown moved 0 (v, (no_nib, None)) (λ n. either (n == old) (length all) n) (Becomes (step 0 old (length all) all) (v, (no_nib, None))) c log in
    subst P (sym kept) (omega arith, refl, grows_goes log v all old len longer pre (length (joined log) == old) refl)
