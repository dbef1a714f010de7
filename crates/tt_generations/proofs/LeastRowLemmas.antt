-- The least row of a list that passes a test, by table and then by key.
use Rattle.std.proofs.Common.{◌≡◌, ℕ, ◌+◌, ◌<◌, Bool, true, false, cond, ◌&&◌, List, [], ◌∷◌, map, fold, take, length, get_or, T, Option, Some, if◌then◌else◌, refl, sym, ap, subst, ◌∙◌}
use Rattle.std.specs.Bool.{⊤}
use Rattle.std.specs.List.{find}
use Rattle.std.specs.declared.cmp.Ordering.{Ordering}
use Rattle.std.specs.declared.cmp.Ordering.TheVariants.{Less, Equal, Greater}
use Rattle.std.specs.Ordering.{nat_cmp, int_cmp, is_lt, ordering_then}
use Rattle.std.specs.Cmp.{IsTotalOrder}
use Rattle.std.specs.FinMap.{nat_cmp-IsAntisymmetric, int_cmp-IsAntisymmetric}
use Rattle.std.specs.FinMap.Entries as sorted
use Rattle.std.proofs.lemmas.Cmp.{then_total, on_total, nat_cmp_total, int_cmp_total}
use Rattle.std.proofs.lemmas.List.{take_more}
use Rattle.std.proofs.lemmas.List.Sums.{fold-append}
use Rattle.tt_values.specs.declared.row_id.RowId.{RowId}
use Rattle.tt_values.specs.Action.{row_id_cmp, with_row_once, each_row_once}
use Rattle.tt_generations.specs.SlotCauses.{lesser_row}

abbrev Entries : Type 0
Entries = List (RowId × ⊤)

row_id_cmp_total : IsTotalOrder row_id_cmp
row_id_cmp_total = then_total (on_total (λ (r : RowId). r.table) nat_cmp_total) (on_total (λ (r : RowId). r.key) int_cmp_total)

-- rows that the order doesn't tell apart are the same
one_row : (r s : RowId) → row_id_cmp r s ≡ Equal → r ≡ s
one_row r s e = by (nat_cmp r.table s.table) refl e
  where
    by : (o : Ordering) → nat_cmp r.table s.table ≡ o → ordering_then o (int_cmp r.key s.key) ≡ Equal → r ≡ s
    by Less p h = cc
    by Equal p h = λ i. record { table = nat_cmp-IsAntisymmetric r.table s.table p i; key = int_cmp-IsAntisymmetric r.key s.key h i }
    by Greater p h = cc

left_of : (a b : Bool) → T (a && b) → T a
left_of true b p = tt
left_of false b p = p

right_of : (a b : Bool) → T (a && b) → T b
right_of true b p = p
right_of false b p = absurd p

both_of : (a b : Bool) → T a → T b → T (a && b)
both_of true b p q = q
both_of false b p q = absurd p

is_less : (o : Ordering) → T (is_lt o) → o ≡ Less
is_less Less p = refl
is_less Equal p = absurd p
is_less Greater p = absurd p

-- a row before one that all stand behind has all behind it
all_behind : (r s : RowId) (es : Entries) → row_id_cmp r s ≡ Less → T (sorted.below_all row_id_cmp s es) → T (sorted.below_all row_id_cmp r es)
all_behind r s [] less h = tt
all_behind r s (e ∷ es) less h =
    let next = row_id_cmp_total.trans r s e.0 less (is_less (row_id_cmp s e.0) (left_of _ _ h)) in
    both_of (is_lt (row_id_cmp r e.0)) _ (subst (λ o. T (is_lt o)) (sym next) tt) (all_behind r s es less (right_of _ _ h))

module _ (test : RowId → Bool) where
  abbrev found : Entries → Option RowId
  found es = find test (map (λ e. e.0) es)

  -- a row that all stand behind is less than the one that is found
  lesser-behind : (r : RowId) (es : Entries) → T (sorted.below_all row_id_cmp r es) → lesser_row r (found es) ≡ r
  lesser-behind r [] h = refl
  lesser-behind r (e ∷ es) h = by (test e.0) (lesser-behind r es (right_of (is_lt (row_id_cmp r e.0)) _ h))
    where
      by : (b : Bool) → lesser_row r (found es) ≡ r → lesser_row r (cond b (Some e.0) (found es)) ≡ r
      by true rest = ap (λ o. if is_lt o then r else e.0) (is_less (row_id_cmp r e.0) (left_of _ _ h))
      by false rest = rest

  found-put : (r : RowId) (es : Entries) → T (sorted.is_sorted row_id_cmp es) → found (sorted.put row_id_cmp r tt es) ≡ cond (test r) (Some (lesser_row r (found es))) (found es)
  found-put r [] h = refl
  found-put r (e ∷ es) h = by (row_id_cmp r e.0) refl (found-put r es (right_of (sorted.below_all row_id_cmp e.0 es) _ h))
    where
      by : (o : Ordering) → row_id_cmp r e.0 ≡ o → found (sorted.put row_id_cmp r tt es) ≡ cond (test r) (Some (lesser_row r (found es))) (found es)
          → found (sorted.by_order o ((r, tt) ∷ e ∷ es) ((e.0, tt) ∷ es) (e ∷ sorted.put row_id_cmp r tt es)) ≡ cond (test r) (Some (lesser_row r (found (e ∷ es)))) (found (e ∷ es))
      by Less p rest =
          let behind : T (sorted.below_all row_id_cmp r (e ∷ es)) =
          both_of (is_lt (row_id_cmp r e.0)) _ (subst (λ o. T (is_lt o)) (sym p) tt) (all_behind r e.0 es p (left_of _ _ h)) in
          ap (λ x. cond (test r) (Some x) (found (e ∷ es))) (sym (lesser-behind r (e ∷ es) behind))
      by Equal p rest = here (test e.0) refl
        where
          same : r ≡ e.0
          same = one_row r e.0 p

          here : (b : Bool) → test e.0 ≡ b → cond b (Some e.0) (found es) ≡ cond (test r) (Some (lesser_row r (cond b (Some e.0) (found es)))) (cond b (Some e.0) (found es))
          here true t =
              ap Some (sym (ap (λ o. if is_lt o then r else e.0) p))
              ∙ sym (ap (λ x. cond x (Some (lesser_row r (Some e.0))) (Some e.0)) (ap test same ∙ t))
          here false t = sym (ap (λ x. cond x (Some (lesser_row r (found es))) (found es)) (ap test same ∙ t))
      by Greater p rest = here (test e.0)
        where
          here : (b : Bool) → cond b (Some e.0) (found (sorted.put row_id_cmp r tt es)) ≡ cond (test r) (Some (lesser_row r (cond b (Some e.0) (found es)))) (cond b (Some e.0) (found es))
          here true = kept (test r) ∙ ap (λ o. cond (test r) (Some (if is_lt o then r else e.0)) (Some e.0)) (sym p)
            where
              kept : (b : Bool) → Some e.0 ≡ cond b (Some e.0) (Some e.0)
              kept true = refl
              kept false = refl
          here false = rest

  is_sorted-all : (rs : List RowId) (es : Entries) → T (sorted.is_sorted row_id_cmp es) → T (sorted.is_sorted row_id_cmp (fold with_row_once es rs))
  is_sorted-all [] es h = h
  is_sorted-all (r ∷ rs) es h = is_sorted-all rs (sorted.put row_id_cmp r tt es) (sorted.is_sorted-put row_id_cmp row_id_cmp_total r tt es h)

  -- the least of some rows, and of one row more
  pub least-next : (rs : List RowId) (i : ℕ) (none : RowId) → i < length rs → let r = get_or rs i none in let least = find test (each_row_once (take i rs)) in
      find test (each_row_once (take (i + 1) rs)) ≡ cond (test r) (Some (lesser_row r least)) least
  least-next rs i none room =
      ap (λ ss. find test (each_row_once ss)) (take_more rs i none room)
      ∙ ap (λ (es : Entries). found es) (fold-append with_row_once [] (take i rs) (get_or rs i none ∷ []))
      ∙ found-put (get_or rs i none) (fold with_row_once [] (take i rs)) (is_sorted-all (take i rs) [] tt)
