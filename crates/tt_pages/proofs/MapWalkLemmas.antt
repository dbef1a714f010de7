-- What a reader that goes from key to key finds after each page.
use Rattle.std.proofs.Common.{◌≡◌, ℕ, zero, suc, ◌+◌, ◌<◌, ◌≤◌, true, false, cond, ℤ, List, [], ◌∷◌, ◌++◌, length, get_or, take, drop, take-append-drop, length-drop, All, IsTrue, Less, refl, sym, ap, ◌∙◌, subst, arith, append-nil, append_assoc, eqb-true}
use Rattle.std.specs.Prelude.{◌==◌}
use Rattle.std.specs.Ordering.{int_cmp, is_lt}
use Rattle.std.specs.Cmp.{int_cmp_total, tied_itself}
use Rattle.std.specs.FinMap.Entries.{is_sorted, below_all}
use Rattle.std.proofs.lemmas.Bool.{false≢true, and_parts, and_from}
use Rattle.std.proofs.lemmas.List.{drop_all, get_or-drop}
use Rattle.std.proofs.lemmas.List.Elements.{All-head, All-tail, All-drop, filter-append}
use Rattle.std.proofs.Math.Seq.{drop-cons, drop-append_seam}
use Rattle.tt_pages.specs.MapEntries.{first_key}
use Rattle.tt_pages.specs.MapTree.{branch_entries, IsBranch}
use Rattle.tt_pages.specs.MapBranches.{IsBranchFor}
use Rattle.tt_pages.specs.MapValues.{BranchValue}
use Rattle.tt_pages.specs.MapWalk.{entries_after, IsPageOf, unread}
use Rattle.tt_pages.proofs.MapEntriesLemmas.{lt_less, turned, sorted_tail, below_tail, below-all_first, IsAbove, is_above_left, is_sorted-right}
use Rattle.tt_pages.proofs.MapBranchLemmas.{entries-filled, branch-filled, below-rest, within-rest}

module _ {V : Type 0} where
  -- ---- the entries after a key

  module _ (key : ℤ) where
    pub after-below : (es : List (ℤ × V)) → IsTrue (below_all int_cmp key es) → entries_after key es ≡ es
    after-below [] h = refl
    after-below (e ∷ es) h =
        let parts = and_parts (is_lt (int_cmp key e.0)) (below_all int_cmp key es) h in
        ap (λ b. cond b (e ∷ entries_after key es) (entries_after key es)) parts.0 ∙ ap (λ rest. e ∷ rest) (after-below es parts.1)

    after-above : (es : List (ℤ × V)) → IsAbove key es → entries_after key es ≡ []
    after-above [] h = refl
    after-above (e ∷ es) h = ap (λ o. cond (is_lt o) (e ∷ entries_after key es) (entries_after key es)) h.0 ∙ after-above es h.1

    -- of two lists in a row, the key is in the left one or in the right one
    pub after-left : (l r : List (ℤ × V)) → 0 < length r → IsTrue (is_sorted int_cmp (l ++ r)) → IsTrue (is_lt (int_cmp key (first_key r))) → entries_after key (l ++ r) ≡ entries_after key l ++ r
    after-left l r filled sorted left =
        filter-append (λ (e : ℤ × V). is_lt (int_cmp key e.0)) l r
        ∙ ap (λ es. entries_after key l ++ es) (after-below r (below-all_first key r filled (is_sorted-right l r sorted) left))

    pub after-right : (l r : List (ℤ × V)) → 0 < length r → IsTrue (is_sorted int_cmp (l ++ r)) → is_lt (int_cmp key (first_key r)) ≡ false → entries_after key (l ++ r) ≡ entries_after key r
    after-right l r filled sorted right =
        filter-append (λ (e : ℤ × V). is_lt (int_cmp key e.0)) l r
        ∙ ap (λ es. es ++ entries_after key r) (after-above l (is_above_left key l r filled sorted right))

    -- the first entry whose key is above this one begins what is after it
    pub after-first : (e : ℤ × V) (es : List (ℤ × V)) → IsTrue (is_sorted int_cmp (e ∷ es)) → IsTrue (is_lt (int_cmp key e.0)) → entries_after key (e ∷ es) ≡ e ∷ es
    after-first e es sorted lt = after-below (e ∷ es) (below-all_first key (e ∷ es) (omega arith) sorted lt)

    below-after : (x : ℤ) (es : List (ℤ × V)) → IsTrue (below_all int_cmp x es) → IsTrue (below_all int_cmp x (entries_after key es))
    below-after x [] h = refl
    below-after x (e ∷ es) h =
        let parts = and_parts (is_lt (int_cmp x e.0)) (below_all int_cmp x es) h in
        let rest = below-after x es parts.1 in
        elim (is_lt (int_cmp key e.0)) as (λ b. IsTrue (below_all int_cmp x (cond b (e ∷ entries_after key es) (entries_after key es)))) [
          | true ↦ and_from (is_lt (int_cmp x e.0)) (below_all int_cmp x (entries_after key es)) parts.0 rest
          | false ↦ rest
        ]

  -- the entries after the first one's key are the others
  pub after-head : (e : ℤ × V) (es : List (ℤ × V)) → IsTrue (is_sorted int_cmp (e ∷ es)) → entries_after e.0 (e ∷ es) ≡ es
  after-head e es sorted =
      ap (λ o. cond (is_lt o) (e ∷ entries_after e.0 es) (entries_after e.0 es)) (tied_itself int_cmp_total e.0) ∙ after-below e.0 es (below_tail e es sorted)

  -- the first entry after a key, and those after that one
  pub after-next : (key : ℤ) (all : List (ℤ × V)) (e : ℤ × V) (es : List (ℤ × V)) → IsTrue (is_sorted int_cmp all) → entries_after key all ≡ e ∷ es → entries_after e.0 all ≡ es
  after-next key [] e es sorted is = absurd (omega (arith, ap length is))
  after-next key (a ∷ all) e es sorted is =
      elim (is_lt (int_cmp key a.0)) as (λ b. is_lt (int_cmp key a.0) ≡ b → cond b (a ∷ entries_after key all) (entries_after key all) ≡ e ∷ es → entries_after e.0 (a ∷ all) ≡ es) [
        | true ↦ λ lt is.
            let same : a ∷ all ≡ e ∷ es = sym (after-first key a all sorted lt) ∙ ap (λ b. cond b (a ∷ entries_after key all) (entries_after key all)) lt ∙ is in
            ap (entries_after e.0) same ∙ after-head e es (subst (λ xs. IsTrue (is_sorted int_cmp xs)) same sorted)
        | false ↦ λ not_lt is.
            let below : IsTrue (below_all int_cmp a.0 (e ∷ es)) = subst (λ xs. IsTrue (below_all int_cmp a.0 xs)) is (below-after key a.0 all (below_tail a all sorted)) in
            let less = lt_less _ (and_parts (is_lt (int_cmp a.0 e.0)) (below_all int_cmp a.0 es) below).0 in
            ap (λ o. cond (is_lt o) (a ∷ entries_after e.0 all) (entries_after e.0 all)) (turned a.0 e.0 Less less) ∙ after-next key all e es (sorted_tail a all sorted) is
      ] refl is

  -- where the entry at a place is above the key, the entries from there on are
  pub after-place : (key : ℤ) (es : List (ℤ × V)) (at : ℕ) (e : ℤ × V) → IsTrue (is_sorted int_cmp es) → at < length es → e ≡ get_or es at e → IsTrue (is_lt (int_cmp key e.0)) → entries_after key (drop at es) ≡ drop at es
  after-place key es at e sorted within here lt =
      let is : drop at es ≡ e ∷ drop (suc at) es = drop-cons es at e within ∙ ap (λ x. x ∷ drop (suc at) es) (sym here) in
      let parts = subst (λ xs. IsTrue (is_sorted int_cmp xs)) (sym (take-append-drop at es)) sorted in
      let rest = subst (λ xs. IsTrue (is_sorted int_cmp xs)) is (is_sorted-right (take at es) (drop at es) parts) in
      ap (entries_after key) is ∙ after-first key e (drop (suc at) es) rest lt ∙ sym is

  -- ---- pages

  -- what `is_empty` answers
  pub is_empty-true : (page : List (ℤ × V)) → (length page == 0) ≡ true → page ≡ []
  is_empty-true [] is = refl
  is_empty-true (e ∷ page) is = absurd (omega (arith, eqb-true (length (e ∷ page)) 0 is))

  pub is_empty-false : (page : List (ℤ × V)) → (length page == 0) ≡ false → page ≡ [] → ⊥
  is_empty-false page is empty = false≢true (sym is ∙ ap (λ (p : List (ℤ × V)). length p == 0) empty)

  is_page : (es page rest : List (ℤ × V)) → es ≡ page ++ rest → (page ≡ [] → rest ≡ []) → IsPageOf es page
  is_page es page rest is none = record {
    front = is ∙ ap (λ xs. page ++ xs) (sym (ap (drop (length page)) is ∙ drop-append_seam page rest));
    end = λ empty. is ∙ ap (λ p. p ++ rest) empty ∙ none empty;
  }

  -- if a page is empty, nothing is after it
  rest-none : (es page : List (ℤ × V)) → IsPageOf es page → page ≡ [] → drop (length page) es ≡ []
  rest-none es page is empty = ap (λ p. drop (length p) es) empty ∙ is.end empty

  -- a page of the left one of two lists in a row
  pub page-left : (l r page : List (ℤ × V)) → IsPageOf l page → (page ≡ [] → r ≡ []) → IsPageOf (l ++ r) page
  page-left l r page is none =
      is_page (l ++ r) page (drop (length page) l ++ r) (ap (λ es. es ++ r) is.front ∙ append_assoc page (drop (length page) l) r)
      (λ empty. ap (λ es. es ++ r) (rest-none l page is empty) ∙ none empty)

  -- what a reader has left that stands at the beginning of a page
  module _ (all : List (ℤ × V)) (sorted : IsTrue (is_sorted int_cmp all)) where
    by-after : (key : ℤ) (page rest : List (ℤ × V)) → entries_after key all ≡ page ++ rest → (page ≡ [] → rest ≡ []) → unread page all ≡ page ++ rest
    by-after key [] rest is none = sym (none refl)
    by-after key (e ∷ []) rest is none = ap (λ es. e ∷ es) (after-next key all e rest sorted is)
    by-after key (e ∷ f ∷ page) rest is none =
        ap (λ es. e ∷ es) (by-after e.0 (f ∷ page) rest (after-next key all e (f ∷ (page ++ rest)) sorted is) (λ h. absurd (omega (arith, ap length h))))

    pub unread-after : (key : ℤ) (page : List (ℤ × V)) → IsPageOf (entries_after key all) page → unread page all ≡ entries_after key all
    unread-after key page is =
        by-after key page (drop (length page) (entries_after key all)) is.front (rest-none (entries_after key all) page is) ∙ sym is.front

    after-begin : (e : ℤ × V) (es : List (ℤ × V)) → all ≡ e ∷ es → entries_after e.0 all ≡ es
    after-begin e es is = ap (entries_after e.0) is ∙ after-head e es (subst (λ xs. IsTrue (is_sorted int_cmp xs)) is sorted)

    by-begin : (page rest : List (ℤ × V)) → all ≡ page ++ rest → (page ≡ [] → rest ≡ []) → unread page all ≡ page ++ rest
    by-begin [] rest is none = sym (none refl)
    by-begin (e ∷ []) rest is none = ap (λ es. e ∷ es) (after-begin e rest is)
    by-begin (e ∷ f ∷ page) rest is none =
        ap (λ es. e ∷ es) (by-after e.0 (f ∷ page) rest (after-begin e (f ∷ (page ++ rest)) is) (λ h. absurd (omega (arith, ap length h))))

    pub unread-all : (page : List (ℤ × V)) → IsPageOf all page → unread page all ≡ all
    unread-all page is = by-begin page (drop (length page) all) is.front (rest-none all page is) ∙ sym is.front

    -- what a reader has left after the first entry of a page
    pub unread-next : (e : ℤ × V) (rest page : List (ℤ × V)) → rest ≡ [] → IsPageOf (entries_after e.0 all) page → unread (e ∷ rest) all ≡ e ∷ unread page all
    unread-next e rest page empty is = ap (λ r. unread (e ∷ r) all) empty ∙ ap (λ es. e ∷ es) (sym (unread-after e.0 page is))

  pub unread-rest : (all : List (ℤ × V)) (e : ℤ × V) (rest : List (ℤ × V)) → (rest ≡ [] → ⊥) → unread (e ∷ rest) all ≡ e ∷ unread rest all
  unread-rest all e [] filled = absurd (filled refl)
  unread-rest all e (f ∷ rest) filled = refl

  -- ---- in a fork

  module _ (d : ℕ) where
    -- the first page of the first branch is that of the fork
    pub page-first : (bs : List (BranchValue V)) (b : BranchValue V) (page : List (ℤ × V)) → 0 < length bs → All (IsBranch d) bs → b ≡ get_or bs 0 b → IsPageOf b.tree.entries page → IsPageOf (branch_entries bs) page
    page-first [] b page filled each here is = absurd (omega arith)
    page-first (c ∷ bs) b page filled each here is =
        let is = subst (λ (x : BranchValue V). IsPageOf x.tree.entries page) here is in
        page-left c.tree.entries (branch_entries bs) page is (λ empty. absurd (omega (arith, branch-filled (All-head (IsBranch d) c bs each), ap length (is.end empty))))

    -- after a key come the entries after it in its branch, and those of the branches that follow
    module _ (key : ℤ) where
      pub after-branch : (bs : List (BranchValue V)) (at : ℕ) (b : BranchValue V) → All (IsBranch d) bs → IsTrue (is_sorted int_cmp (branch_entries bs)) → IsBranchFor key bs at → b ≡ get_or bs at b → entries_after key (branch_entries bs) ≡ entries_after key b.tree.entries ++ branch_entries (drop (suc at) bs)
      after-branch [] at b each sorted is_for here = absurd is_for
      after-branch (c ∷ []) zero b each sorted is_for here =
          ap (entries_after key) (append-nil c.tree.entries) ∙ ap (λ (x : BranchValue V). entries_after key x.tree.entries) (sym here) ∙ sym (append-nil (entries_after key b.tree.entries))
      after-branch (c ∷ e ∷ bs) zero b each sorted is_for here =
          let rest = All-tail (IsBranch d) c (e ∷ bs) each in
          after-left key c.tree.entries (branch_entries (e ∷ bs)) (entries-filled d e bs rest) sorted (below-rest key d e bs rest is_for)
          ∙ ap (λ (x : BranchValue V). entries_after key x.tree.entries ++ branch_entries (e ∷ bs)) (sym here)
      after-branch (c ∷ []) (suc at) b each sorted is_for here = absurd is_for.0
      after-branch (c ∷ e ∷ bs) (suc at) b each sorted is_for here =
          let rest = All-tail (IsBranch d) c (e ∷ bs) each in
          after-right key c.tree.entries (branch_entries (e ∷ bs)) (entries-filled d e bs rest) sorted (within-rest key d e bs rest is_for.0)
          ∙ after-branch (e ∷ bs) at b rest (is_sorted-right c.tree.entries (branch_entries (e ∷ bs)) sorted) is_for.1 here

      module _ (bs : List (BranchValue V)) (at : ℕ) (b : BranchValue V) (each : All (IsBranch d) bs) (sorted : IsTrue (is_sorted int_cmp (branch_entries bs))) (is_for : IsBranchFor key bs at) (here : b ≡ get_or bs at b) (page : List (ℤ × V)) (is : IsPageOf (entries_after key b.tree.entries) page) where
        -- a page of the key's branch, if it isn't empty or no branch follows
        pub page-here : (page ≡ [] → length bs ≤ at + 1) → IsPageOf (entries_after key (branch_entries bs)) page
        page-here last =
            subst (λ es. IsPageOf es page) (sym (after-branch bs at b each sorted is_for here))
            (page-left (entries_after key b.tree.entries) (branch_entries (drop (suc at) bs)) page is (λ empty. ap branch_entries (drop_all (suc at) bs (omega (arith, last empty)))))

        -- if it is empty, the first page of the next branch
        pub page-next : (n : BranchValue V) (next : List (ℤ × V)) → page ≡ [] → at + 1 < length bs → n ≡ get_or bs (at + 1) n → IsPageOf n.tree.entries next → IsPageOf (entries_after key (branch_entries bs)) next
        page-next n next empty more there begins =
            let rest = drop (suc at) bs in
            let step : at + 1 ≡ suc at + 0 = omega arith in
            subst (λ es. IsPageOf es next) (sym (after-branch bs at b each sorted is_for here ∙ ap (λ es. es ++ branch_entries rest) (is.end empty)))
            (page-first rest n next (omega (arith, length-drop (suc at) bs)) (All-drop (IsBranch d) (suc at) bs each)
            (there ∙ ap (λ i. get_or bs i n) step ∙ sym (get_or-drop (suc at) bs 0 n)) begins)
