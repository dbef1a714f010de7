-- JSON values, as the definitions see them.
use Rattle.std.proofs.Common.{◌≡◌, ℕ, suc, List, [], ◌∷◌, ◌++◌, Result, Ok, Err, refl, sym, ap, ◌∙◌, append_assoc, append-nil}
use Rattle.serde_json.specs.Data.{Data}
use Rattle.tt_grammar.specs.declared.fault.DocFault.{DocFault}
use Rattle.tt_grammar.specs.Fault.{◌>>=◌, with_path, item_path}
use Rattle.tt_grammar.specs.Arrays.{fold_items, with_item, each}

-- one item more in front of those that are read
rest_read : {T : Type 0} (xs : List T) (x : T) (rest : Result (List T) DocFault)
    → (rest >>= λ ys. Ok ((xs ++ x ∷ []) ++ ys)) ≡ ((rest >>= λ ys. Ok (x ∷ ys)) >>= λ ys. Ok (xs ++ ys))
rest_read xs x (Ok ys) = ap Ok (append_assoc xs (x ∷ []) ys)
rest_read xs x (Err fault) = refl

at_item : {T : Type 0} (decode : Data → Result T DocFault) (i : ℕ) (xs : List T) (r : Result T DocFault) (ds : List Data)
    → ((x : T) → fold_items (with_item decode) (suc i) (xs ++ x ∷ []) ds ≡ (each decode (suc i) ds >>= λ ys. Ok ((xs ++ x ∷ []) ++ ys)))
    → (with_path (item_path i) (r >>= λ x. Ok (xs ++ x ∷ [])) >>= λ next. fold_items (with_item decode) (suc i) next ds)
    ≡ ((with_path (item_path i) r >>= λ x. each decode (suc i) ds >>= λ ys. Ok (x ∷ ys)) >>= λ ys. Ok (xs ++ ys))
at_item decode i xs (Ok x) ds rest = rest x ∙ rest_read xs x (each decode (suc i) ds)
at_item decode i xs (Err fault) ds rest = refl

-- to take items into a list is to read each
pub fold_items-with_item : {T : Type 0} (decode : Data → Result T DocFault) (i : ℕ) (xs : List T) (ds : List Data)
    → fold_items (with_item decode) i xs ds ≡ (each decode i ds >>= λ ys. Ok (xs ++ ys))
fold_items-with_item decode i xs [] = ap Ok (sym (append-nil xs))
fold_items-with_item decode i xs (d ∷ ds) = at_item decode i xs (decode d) ds (λ x. fold_items-with_item decode (suc i) (xs ++ x ∷ []) ds)

-- the same of an empty list
pub fold_items-each : {T : Type 0} (decode : Data → Result T DocFault) (ds : List Data) → fold_items (with_item decode) 0 [] ds ≡ each decode 0 ds
fold_items-each decode ds = fold_items-with_item decode 0 [] ds ∙ same (each decode 0 ds)
  where
    same : {T : Type 0} (r : Result (List T) DocFault) → (r >>= λ ys. Ok ([] ++ ys)) ≡ r
    same (Ok ys) = refl
    same (Err fault) = refl
