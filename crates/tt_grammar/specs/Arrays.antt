-- Arrays, read item by item from the front. A fault of an item is at the item's path.
use Rattle.std.specs.Prelude.{ℕ, suc, List, [], ◌∷◌, ◌++◌, Result, Ok}
use Rattle.serde_json.specs.Data.{Data}
use Rattle.tt_grammar.specs.declared.fault.DocFault.{DocFault}
use Rattle.tt_grammar.specs.Fault.{◌>>=◌, with_path, item_path}
use Rattle.tt_grammar.specs.Decoder.{array}

-- the state after the items of an array, which change it one after another; the first item has this number
abbrev pub fold_items : {S : Type 0} → (S → Data → Result S DocFault) → ℕ → S → List Data → Result S DocFault
fold_items after i state [] = Ok state
fold_items after i state (d ∷ ds) = do
  next ← with_path (item_path i) (after state d)
  fold_items after (suc i) next ds

-- a list with the meaning of one more item
abbrev pub with_item : {T : Type 0} → (Data → Result T DocFault) → List T → Data → Result (List T) DocFault
with_item decode xs d = do
  x ← decode d
  Ok (xs ++ x ∷ [])

-- the meaning of each item of an array, in order; the first item has this number
abbrev pub each : {T : Type 0} → (Data → Result T DocFault) → ℕ → List Data → Result (List T) DocFault
each decode i [] = Ok []
each decode i (d ∷ ds) = do
  x ← with_path (item_path i) (decode d)
  xs ← each decode (suc i) ds
  Ok (x ∷ xs)

-- the meanings of an array's items
abbrev pub array_of : {T : Type 0} → (Data → Result T DocFault) → Data → Result (List T) DocFault
array_of decode v = do
  ds ← array v
  each decode 0 ds
