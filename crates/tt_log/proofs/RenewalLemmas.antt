-- A new file that takes the place of the old one.
use Rattle.std.proofs.Common.{◌≡◌, ◌⊎◌, ⊎_elim, inl, inr, ℕ, List, ◌++◌, refl, sym, ◌∙◌, ap}
use Rattle.tt_log.specs.Lines.{logged, joined, zeros, IsJoined}
use Rattle.tt_log.specs.Device.{Left, Only, Now}
use Rattle.tt_log.specs.Log.{IsAtRest, KeepsOnceSynced}
use Rattle.tt_log.proofs.LineLemmas.{logged-grown}

-- lines that are filled up by bytes 0
module _ (bytes filled : List ℕ) (n : ℕ) (is : filled ≡ bytes ++ zeros n) where
  pub logged-filled : logged filled ≡ logged bytes
  logged-filled = ap logged is ∙ logged-grown bytes n

  pub at_rest-filled : IsJoined bytes → IsAtRest filled
  at_rest-filled lines = record { room = n; is = is ∙ (λ j. lines j ++ zeros n) ∙ ap (λ (ls : List (List ℕ)). joined ls ++ zeros n) (sym logged-filled) }

  -- what a crash leaves once they have the name, or may have it
  pub named_left : (before new after : List ℕ → Type 0) (shown : List ℕ) → Only filled new → ((c : List ℕ) → after c → before c ⊎ new c)
      → (left : Left) → Now after shown left → KeepsOnceSynced before (logged bytes) shown left
  named_left before new after shown only_new either left now =
      ⊎_elim
      (λ was. inl (record { file = left.file; might_leave = was; lines_are = refl; shown_is = now.1 }))
      (λ is_new. inr (record { lines_are = ap logged (only_new left.file is_new) ∙ logged-filled; shown_is = now.1 }))
      (either left.file now.0)
