-- Pages of rows that are stored under their keys.
use Rattle.std.proofs.Common.{◌≡◌, ℕ, zero, suc, nat_lt, ℤ, pos, Bool, true, false, cond, List, [], ◌∷◌, length, take, map, filter, Option, IsSome, Less, refl, sym, ap, subst, ◌∙◌}
use Rattle.std.proofs.lemmas.List.{length-map, take-map}
use Rattle.std.proofs.lemmas.List.Elements.{All-filter, All-take}
use Rattle.std.proofs.lemmas.List.Kept.{IsStrictlySortedBy-filter}
use Rattle.std.specs.List.{AllByRecursion}
use Rattle.std.specs.List.Sorted.{IsStrictlySortedBy}
use Rattle.std.specs.Ordering.{int_cmp}
use Rattle.std.specs.Option.{unwrap_or}
use Rattle.tt_values.specs.declared.row.Row.{Row}
use Rattle.tt_values.specs.declared.statement.Select.{Select}
use Rattle.tt_values.specs.declared.reply.Reply.{Reply}
use Rattle.tt_values.specs.declared.reply.Reply.TheVariants as replies
use Rattle.tt_values.specs.Row.{first_int, key_of}
use Rattle.tt_values.specs.Matches.{matches}
use Rattle.tt_values.specs.Content.{RowsByKey, Content}
use Rattle.tt_values.specs.Effect.{answer_of}
use Rattle.tt_versions.specs.Pages.{is_after, those_after}
use Rattle.tt_generations.specs.Pages.{page_of_rows, page_of_select}
use Rattle.tt_generations.specs.declared.first_rows.FirstRows.{FirstRows}
use Rattle.tt_db.specs.RightAnswers.{HaveRisingKeys, RowsHaveRisingKeys}
use Rattle.tt_db.specs.Pages.{rows_after, first_rows, rows_in}
use Rattle.tt_db.proofs.KeyLemmas.{AllKeyed, AllKeyed-filter, IsKeyedContent}

-- a row is after a key where the key that it is stored under is
rows_after-keyed : (low : Option ℤ) (es : RowsByKey) → AllKeyed es → map (λ e. e.1) (those_after low es) ≡ rows_after low (map (λ e. e.1) es)
rows_after-keyed low [] keyed = refl
rows_after-keyed low (e ∷ es) keyed = by (is_after low e.0) (rows_after-keyed low es keyed.1) ∙ ap (λ b. cond b (e.1 ∷ rows_after low (map (λ x. x.1) es)) (rows_after low (map (λ x. x.1) es))) (ap (is_after low) same)
  where
    same : e.0 ≡ key_of e.1
    same = sym (ap (λ o. unwrap_or o (pos 0)) keyed.0)

    by : (b : Bool) → map (λ x. x.1) (those_after low es) ≡ rows_after low (map (λ x. x.1) es)
        → map (λ x. x.1) (cond b (e ∷ those_after low es) (those_after low es)) ≡ cond b (e.1 ∷ rows_after low (map (λ x. x.1) es)) (rows_after low (map (λ x. x.1) es))
    by true h = ap (λ rest. e.1 ∷ rest) h
    by false h = h

page_of_rows-keyed : (low : Option ℤ) (most : ℕ) (es : RowsByKey) → AllKeyed es → page_of_rows low most es ≡ first_rows low most (map (λ e. e.1) es)
page_of_rows-keyed low most es keyed =
    let same = rows_after-keyed low es keyed in
    let rows = sym (take-map (λ (e : ℤ × Row). e.1) most (those_after low es)) ∙ ap (take most) same in
    let more = ap (nat_lt most) (sym (length-map (those_after low es) (λ (e : ℤ × Row). e.1)) ∙ ap length same) in
    λ i. record { rows = rows i; more = more i }

-- where each row of a content has its key, a page of a select is one of the rows of its reply
pub page_of_select-keyed : (q : Select) (low : Option ℤ) (most : ℕ) (X : Content) → IsKeyedContent X → page_of_select q low most X ≡ first_rows low most (rows_in (answer_of q X))
page_of_select-keyed q low most X keyed =
    page_of_rows-keyed low most (filter (λ e. matches q.equals e.1) (X q.table)) (AllKeyed-filter (λ e. matches q.equals e.1) (X q.table) (keyed q.table))

-- ---- the keys of a page rise

keys-filter : (p : ℤ → Bool) (rows : List Row) → map key_of (filter (λ r. p (key_of r)) rows) ≡ filter p (map key_of rows)
keys-filter p [] = refl
keys-filter p (r ∷ rows) = by (p (key_of r)) (keys-filter p rows)
  where
    by : (b : Bool) → map key_of (filter (λ x. p (key_of x)) rows) ≡ filter p (map key_of rows)
        → map key_of (cond b (r ∷ filter (λ x. p (key_of x)) rows) (filter (λ x. p (key_of x)) rows)) ≡ cond b (key_of r ∷ filter p (map key_of rows)) (filter p (map key_of rows))
    by true h = ap (λ ks. key_of r ∷ ks) h
    by false h = h

above-take : (key : ℤ) (n : ℕ) (keys : List ℤ) → AllByRecursion (λ k. int_cmp key k ≡ Less) keys → AllByRecursion (λ k. int_cmp key k ≡ Less) (take n keys)
above-take key n [] above = by n
  where
    by : (m : ℕ) → AllByRecursion (λ k. int_cmp key k ≡ Less) (take m [])
    by zero = tt
    by (suc m) = tt
above-take key zero (k ∷ keys) above = tt
above-take key (suc n) (k ∷ keys) above = (above.0, above-take key n keys above.1)

rise-take : (n : ℕ) (keys : List ℤ) → IsStrictlySortedBy int_cmp keys → IsStrictlySortedBy int_cmp (take n keys)
unfolding IsStrictlySortedBy
rise-take n [] rise = by n
  where
    by : (m : ℕ) → IsStrictlySortedBy int_cmp (take m [])
    by zero = tt
    by (suc m) = tt
rise-take zero (k ∷ keys) rise = tt
rise-take (suc n) (k ∷ keys) rise = (above-take k n keys rise.0, rise-take n keys rise.1)

-- a page of rows with rising keys has rising keys
pub first_rows-rise : (low : Option ℤ) (most : ℕ) (rows : List Row) → HaveRisingKeys rows → HaveRisingKeys (first_rows low most rows).rows
first_rows-rise low most rows is = record {
  keyed = All-take (λ r. IsSome (first_int r.values)) most (rows_after low rows) (All-filter (λ r. is_after low (key_of r)) (λ r. IsSome (first_int r.values)) rows is.keyed);
  rising =
      let keys : map key_of (take most (rows_after low rows)) ≡ take most (filter (is_after low) (map key_of rows)) =
      sym (take-map key_of most (rows_after low rows)) ∙ ap (take most) (keys-filter (is_after low) rows) in
      subst (IsStrictlySortedBy int_cmp) (sym keys) (rise-take most (filter (is_after low) (map key_of rows)) (IsStrictlySortedBy-filter int_cmp (is_after low) (map key_of rows) is.rising));
}

-- the rows of a reply with rising keys
pub page-rises : (low : Option ℤ) (most : ℕ) (reply : Reply) (page : FirstRows) → RowsHaveRisingKeys reply → page ≡ first_rows low most (rows_in reply) → HaveRisingKeys page.rows
page-rises low most (replies.Rows rows) page rise is = subst (λ (p : FirstRows). HaveRisingKeys p.rows) (sym is) (first_rows-rise low most rows rise)
page-rises low most replies.Inserted page rise is = absurd rise
page-rises low most replies.Duplicate page rise is = absurd rise
page-rises low most (replies.Updated n) page rise is = absurd rise
page-rises low most (replies.Deleted n) page rise is = absurd rise
