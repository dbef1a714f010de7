-- One record more on a page of changed replies: it is told, it isn't, or it is the first one behind a full page.
use Rattle.std.proofs.Common.{◌≡◌, ℕ, true, false, List, [], ◌∷◌, ◌++◌, length, Option, None, Some, refl, sym, ap, ◌∙◌, append_assoc, length-append}
use Rattle.std.specs.Prelude.{is_some, option_map}
use Rattle.std.specs.Bool.{then_some}
use Rattle.std.specs.List.{cons_option}
use Rattle.tt_answers.specs.declared.answer.ChangeEntry.{ChangeEntry}
use Rattle.tt_commands.specs.CauseEntries.{is_full, first_entries, more_follow}
use Rattle.tt_commands.proofs.CauseLemmas.{HasRoom, room-more, full-page}

-- it is told
pub told-next : (most : Option ℕ) (entries after rest whole : List ChangeEntry) (o : Option ChangeEntry) (e : ChangeEntry) → entries ++ cons_option o rest ≡ whole → o ≡ Some e
    → is_full most (length entries) ≡ false → HasRoom most (length entries) → after ≡ entries ++ e ∷ [] → (after ++ rest ≡ whole) × HasRoom most (length after)
told-next most entries after rest whole o e all is free room pushed = (
  ap (λ es. es ++ rest) pushed ∙ append_assoc entries (e ∷ []) rest ∙ ap (λ p. entries ++ cons_option p rest) (sym is) ∙ all,
  room-more most (length entries) (length after) room free (ap length pushed ∙ length-append entries (e ∷ [])),
)

-- it isn't told
pub skipped-next : (entries rest whole : List ChangeEntry) (o : Option ChangeEntry) → entries ++ cons_option o rest ≡ whole → o ≡ None → entries ++ rest ≡ whole
skipped-next entries rest whole o all is = ap (λ p. entries ++ cons_option p rest) (sym is) ∙ all

-- the page is full
pub full-next : (most : Option ℕ) (entries rest whole : List ChangeEntry) (o : Option ChangeEntry) (e : ChangeEntry) → entries ++ cons_option o rest ≡ whole → o ≡ Some e
    → is_full most (length entries) ≡ true → (entries ≡ first_entries most whole) × (true ≡ more_follow most whole)
full-next most entries rest whole o e all is full = full-page most entries rest whole e full (ap (λ p. entries ++ cons_option p rest) (sym is) ∙ all)

-- whether more follow is told where a number is asked for
pub more-told : (most : Option ℕ) (whole : List ChangeEntry) → then_some (is_some most) (more_follow most whole) ≡ option_map (λ n. more_follow (Some n) whole) most
more-told None whole = refl
more-told (Some n) whole = refl
