-- Entries by rising key.
use Rattle.std.proofs.Common.{◌≡◌, ℤ, List, Option, None, Some, sym, ap, ◌∙◌}
use Rattle.std.specs.Borrow.{Bor}
use Rattle.std.specs.Option.{unwrap_or, option_copied}
use Rattle.std.specs.Ordering.{int_cmp}
use Rattle.std.specs.FinMap.Entries as sorted
use Rattle.tt_pages.specs.MapEntries.{ChangesAt}

-- a value that is there is changed
pub changed_there : {X : Type 0} (key : ℤ) (change : X → X) (empty x : X) (before after : List (ℤ × X)) → sorted.find int_cmp key before ≡ Some x → ChangesAt key change before after
    → after ≡ sorted.put int_cmp key (change (unwrap_or (sorted.find int_cmp key before) empty)) before
changed_there key change empty x before after found changes = changes x found ∙ ap (λ o. sorted.put int_cmp key (change (unwrap_or o empty)) before) (sym found)

-- what is said of the value that a search finds, or of another one
pub test_found : {X Y : Type 0} (test : X → Y) (other : X) (o : Option (Bor X)) (x : Bor X) (found : Option X) → o ≡ Some x → option_copied o ≡ found → test x.now ≡ test (unwrap_or found other)
test_found test other o x found is same = ap (λ o. test (unwrap_or (option_copied o) other)) (sym is) ∙ ap (λ o. test (unwrap_or o other)) same

pub test_missing : {X Y : Type 0} (test : X → Y) (other : X) (o : Option (Bor X)) (found : Option X) → o ≡ None → option_copied o ≡ found → test other ≡ test (unwrap_or found other)
test_missing test other o found is same = ap (λ o. test (unwrap_or (option_copied o) other)) (sym is) ∙ ap (λ o. test (unwrap_or o other)) same
