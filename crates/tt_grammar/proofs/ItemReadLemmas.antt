-- What is printed and read back: a thing, and arrays of such things.
use Rattle.std.proofs.Common.{◌≡◌, ℕ, suc, ◌≤◌, List, [], ◌∷◌, map, None, Some, Result, Ok, IsUtf8, refl, ap, ◌∙◌, arith, length}
use Rattle.json.specs.Json as json
use Rattle.json.specs.Tree.{depth, items_depth, HasNumbers, ItemsHaveNumbers}
use Rattle.serde_json.specs.Data.{Data, Items, no_items, item}
use Rattle.serde_json.specs.Data as spec
use Rattle.serde_json.specs.Read.{of_json, of_items, max_depth}
use Rattle.tt_json.specs.Value.{list_of}
use Rattle.tt_grammar.specs.declared.fault.DocFault.{DocFault}
use Rattle.tt_grammar.specs.Fault.{◌>>=◌}
use Rattle.tt_grammar.specs.Arrays.{each, array_of}
use Rattle.tt_grammar.specs.RepeatedMembers.{repeated_member, repeated_in_items}
use Rattle.tt_grammar.specs.TextValue.{value_of_json, value_of_found}
use Rattle.tt_grammar.specs.JsonText.{array_text}
use Rattle.tt_grammar.specs.ReadBack.{read_with}
use Rattle.tt_grammar.proofs.EveryLemmas.{Every}
use Rattle.tt_grammar.proofs.JsonReadLemmas.{Prints, ItemsPrint, array-prints, json-printed}
use Rattle.tt_grammar.proofs.Utf8Lemmas.{IsUtf8-array}

-- a thing is printed as the text of a tree, nested to at most this depth, that stands for a value that means the thing
pub record IsReadBack {X : Type 0} (nested : ℕ) (j : json.Json) (text : List ℕ) (d : Data) (decode : Data → Result X DocFault) (x : X) : Type 0 where
  pub prints : Prints j text
  pub utf8 : IsUtf8 text
  pub numbers : HasNumbers j
  pub shallow : depth j ≤ nested
  pub stands : of_json j ≡ Some d
  pub once : repeated_member j ≡ None
  pub decoded : decode d ≡ Ok x

-- what is printed is read
pub read-back : {X : Type 0} → (nested : ℕ) (j : json.Json) (text : List ℕ) (d : Data) (decode : Data → Result X DocFault) (x : X) → IsReadBack nested j text d decode x
    → nested ≤ max_depth → read_with decode text ≡ Ok x
unfolding value_of_json
read-back nested j text d decode x back flat =
    let shallow : depth j ≤ max_depth = let low = back.shallow in omega arith in
    let value : value_of_json j ≡ Ok d = simp (back.stands, back.once) in
    ap (λ o. value_of_found o >>= decode) (json-printed j text back.prints back.numbers shallow back.utf8) ∙ ap (λ r. r >>= decode) value ∙ back.decoded

-- what is read back by one decoder, and means something to another one, too, is read back by that one
pub also-back : {X Y : Type 0} → (nested : ℕ) (j : json.Json) (text : List ℕ) (d : Data) (decode : Data → Result X DocFault) (x : X) (other : Data → Result Y DocFault) (y : Y)
    → IsReadBack nested j text d decode x → other d ≡ Ok y → IsReadBack nested j text d other y
also-back nested j text d decode x other y back decoded = record {
  prints = back.prints;
  utf8 = back.utf8;
  numbers = back.numbers;
  shallow = back.shallow;
  stands = back.stands;
  once = back.once;
  decoded = decoded;
}

-- the trees of things, and what they stand for
abbrev pub trees : {X : Type 0} → (X → json.Json) → List X → json.Items
trees tree [] = json.no_items
trees tree (x ∷ xs) = json.item (tree x) (trees tree xs)

abbrev pub meanings : {X : Type 0} → (X → Data) → List X → Items
meanings meaning [] = no_items
meanings meaning (x ∷ xs) = item (meaning x) (meanings meaning xs)

pub length-meanings : {X : Type 0} → (meaning : X → Data) (xs : List X) → length (list_of (meanings meaning xs)) ≡ length xs
length-meanings meaning [] = refl
length-meanings meaning (x ∷ xs) = ap suc (length-meanings meaning xs)

module _ {X : Type 0} (nested : ℕ) (tree : X → json.Json) (text : X → List ℕ) (meaning : X → Data) (decode : Data → Result X DocFault) where
  abbrev pub Back : X → Type 0
  Back x = IsReadBack nested (tree x) (text x) (meaning x) decode x

  items_print : (xs : List X) → Every Back xs → ItemsPrint (trees tree xs) (map text xs)
  items_print [] h = tt
  items_print (x ∷ xs) h = (h.0.prints, items_print xs h.1)

  items_utf8 : (xs : List X) → Every Back xs → Every IsUtf8 (map text xs)
  items_utf8 [] h = tt
  items_utf8 (x ∷ xs) h = (h.0.utf8, items_utf8 xs h.1)

  items_numbers : (xs : List X) → Every Back xs → ItemsHaveNumbers (trees tree xs)
  items_numbers [] h = tt
  items_numbers (x ∷ xs) h = (h.0.numbers, items_numbers xs h.1)

  items_shallow : (xs : List X) → Every Back xs → items_depth (trees tree xs) ≤ nested
  items_shallow [] h = omega arith
  items_shallow (x ∷ xs) h = let rest = items_shallow xs h.1 in let first = h.0.shallow in omega arith

  items_stand : (xs : List X) → Every Back xs → of_items (trees tree xs) ≡ Some (meanings meaning xs)
  items_stand [] h = refl
  items_stand (x ∷ xs) h = let rest = items_stand xs h.1 in simp (h.0.stands, rest)

  items_once : (xs : List X) (i : ℕ) → Every Back xs → repeated_in_items i (trees tree xs) ≡ None
  items_once [] i h = refl
  items_once (x ∷ xs) i h = let rest = items_once xs (suc i) h.1 in simp (h.0.once, rest)

  pub items_decoded : (xs : List X) (i : ℕ) → Every Back xs → each decode i (list_of (meanings meaning xs)) ≡ Ok xs
  items_decoded [] i h = refl
  items_decoded (x ∷ xs) i h = let rest = items_decoded xs (suc i) h.1 in simp (h.0.decoded, rest)

  -- an array of things that are read back is read back
  pub array-back : (xs : List X) → Every Back xs
      → IsReadBack (suc nested) (json.array (trees tree xs)) (array_text (map text xs)) (spec.array (meanings meaning xs)) (array_of decode) xs
  array-back xs h = record {
    prints = array-prints (trees tree xs) (map text xs) (items_print xs h);
    utf8 = IsUtf8-array (map text xs) (items_utf8 xs h);
    numbers = items_numbers xs h;
    shallow = let rest = items_shallow xs h in omega arith;
    stands = let rest = items_stand xs h in simp rest;
    once = items_once xs 0 h;
    decoded = items_decoded xs 0 h;
  }
