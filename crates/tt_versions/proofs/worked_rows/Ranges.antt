-- Keys 1 to 5 in ranges, whose bounds aren't among their keys.
use Rattle.std.proofs.Common.{◌≡◌, pos, Bool, true, false, List, [], ◌∷◌, map, None, Some, refl}
use Rattle.tt_versions.specs.declared.key_range.KeyRange.{KeyRange}
use Rattle.tt_versions.specs.KeyRange.{is_within}

-- whether the keys 1 to 5 lie in a range
abbrev within : KeyRange → List Bool
within range = map (λ key. is_within range (pos key)) (1 ∷ 2 ∷ 3 ∷ 4 ∷ 5 ∷ [])

between_two_bounds : within (record { after = Some (pos 2); before = Some (pos 5) }) ≡ false ∷ false ∷ true ∷ true ∷ false ∷ []
between_two_bounds = refl

without_an_end : within (record { after = Some (pos 3); before = None }) ≡ false ∷ false ∷ false ∷ true ∷ true ∷ []
without_an_end = refl

bounds_that_leave_no_key : within (record { after = Some (pos 3); before = Some (pos 4) }) ≡ false ∷ false ∷ false ∷ false ∷ false ∷ []
bounds_that_leave_no_key = refl
