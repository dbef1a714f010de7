-- What a change of one branch does to the entries of a fork.
use Rattle.std.proofs.Common.{◌≡◌, ℕ, zero, suc, ◌+◌, ◌*◌, ◌^◌, ◌<◌, ◌≤◌, false, ℤ, List, [], ◌∷◌, ◌++◌, length, get_or, set, take, drop, take-append-drop, All, IsTrue, Result, Ok, Err, OnOk, OnErr, refl, sym, ap, ◌∙◌, subst, arith, length-append, length-set, append-nil, append_assoc, pow-suc, inl, inr, Bool, true, true≢false, Less, suc-mul, mul-le-mul_right, int_cmp}
use Rattle.std.specs.List.{HoldsAt}
use Rattle.std.specs.Cmp.{int_cmp_total}
use Rattle.std.specs.Ordering.{is_lt}
use Rattle.std.specs.FinMap.Entries.{find, put, is_sorted}
use Rattle.std.proofs.lemmas.List.Elements.{All-head, All-tail, All-set, All-get_or}
use Rattle.std.proofs.lemmas.Bool.{cases_lt}
use Rattle.std.proofs.lemmas.Result.{on_ok_weaker}
use Rattle.tt_pages.specs.MapEntries.{first_key, entries_without}
use Rattle.tt_pages.specs.MapValues.{TreeValue, BranchValue}
use Rattle.tt_pages.specs.declared.map.tree.Node.{Node}
use Rattle.tt_pages.specs.declared.map.tree.Node.TheVariants.{Leaf, Fork}
use Rattle.tt_pages.specs.MapTree.{branch_entries, branch_depth, IsPage, IsBranch, AreBranches, IsNode, node_value, min_width, max_width}
use Rattle.tt_pages.specs.MapBranches.{IsBelow, IsWithin, IsBranchFor}
use Rattle.tt_pages.proofs.MapEntriesLemmas.{is_sorted-right, first_key-append, first_key-below, lt_less, length-put_filled, length-put_le, sorted-put, length-without_ge, length-without_le, sorted-without, find-left, find-right, put-left, put-right, without-left, without-right}

-- a power of the least width isn't 0
pub one-le_pow : (d : ℕ) → 1 ≤ min_width ^ d
one-le_pow zero = omega arith
one-le_pow (suc d) = omega (arith, one-le_pow d, pow-suc min_width d)

module _ {V : Type 0} where
  -- ---- the first branch

  pub branch-filled : {d : ℕ} {b : BranchValue V} → IsBranch d b → 0 < length b.tree.entries
  branch-filled {d} is = omega (arith, one-le_pow (suc d), is.full)

  pub entries-filled : (d : ℕ) (b : BranchValue V) (bs : List (BranchValue V)) → All (IsBranch d) (b ∷ bs) → 0 < length (branch_entries (b ∷ bs))
  entries-filled d b bs each = omega (arith, length-append b.tree.entries (branch_entries bs), branch-filled (All-head (IsBranch d) b bs each))

  pub head-first : (d : ℕ) (b : BranchValue V) (bs : List (BranchValue V)) → All (IsBranch d) (b ∷ bs) → b.first ≡ first_key (branch_entries (b ∷ bs))
  head-first d b bs each =
      let is = All-head (IsBranch d) b bs each in
      is.first ∙ sym (first_key-append b.tree.entries (branch_entries bs) (branch-filled is))

  pub depth-is : (d : ℕ) (bs : List (BranchValue V)) → 0 < length bs → All (IsBranch d) bs → branch_depth bs ≡ d
  depth-is d [] filled each = absurd (omega (arith, filled))
  depth-is d (b ∷ bs) filled each = (All-head (IsBranch d) b bs each).depth

  -- ---- the branch that a key belongs to

  -- a key below a branch is below those after it
  pub below-next : (key : ℤ) (d : ℕ) (e : BranchValue V) (bs : List (BranchValue V)) → All (IsBranch d) (e ∷ bs) → IsTrue (is_sorted int_cmp (branch_entries (e ∷ bs))) → IsTrue (is_lt (int_cmp key e.first)) → IsBelow key bs
  below-next key d e [] each sorted below = tt
  below-next key d e (f ∷ bs) each sorted below =
      let is = All-head (IsBranch d) e (f ∷ bs) each in
      let rest = All-tail (IsBranch d) e (f ∷ bs) each in
      let rises = first_key-below e.tree.entries (branch_entries (f ∷ bs)) (branch-filled is) (entries-filled d f bs rest) sorted in
      let next : int_cmp e.first f.first ≡ Less = ap (λ k. int_cmp k f.first) is.first ∙ ap (int_cmp (first_key e.tree.entries)) (head-first d f bs rest) ∙ rises in
      ap is_lt (int_cmp_total.trans key e.first f.first (lt_less _ below) next)

  -- a key that isn't below a branch isn't below the first of the branches before it
  within-back : (key : ℤ) (d : ℕ) (bs : List (BranchValue V)) (n : ℕ) (e : BranchValue V) → n < length bs → All (IsBranch d) bs → IsTrue (is_sorted int_cmp (branch_entries bs)) → is_lt (int_cmp key (get_or bs n e).first) ≡ false → IsWithin key bs
  within-back key d [] n e within each sorted not_below = absurd (omega (arith, within))
  within-back key d (b ∷ bs) zero e within each sorted not_below = not_below
  within-back key d (b ∷ []) (suc n) e within each sorted not_below = absurd (omega (arith, within))
  within-back key d (b ∷ c ∷ bs) (suc n) e within each sorted not_below =
      let rest = All-tail (IsBranch d) b (c ∷ bs) each in
      let order = is_sorted-right b.tree.entries (branch_entries (c ∷ bs)) sorted in
      let next = within-back key d (c ∷ bs) n e (omega (arith, within)) rest order not_below in
      by (is_lt (int_cmp key b.first)) refl next (below-next key d b (c ∷ bs) each sorted)
    where
      by : (o : Bool) → is_lt (int_cmp key b.first) ≡ o → is_lt (int_cmp key c.first) ≡ false → (IsTrue (is_lt (int_cmp key b.first)) → IsTrue (is_lt (int_cmp key c.first))) → is_lt (int_cmp key b.first) ≡ false
      by true is next below = absurd (true≢false (sym (below is) ∙ next))
      by false is next below = is

  pub is_branch_for : (key : ℤ) (d : ℕ) (bs : List (BranchValue V)) (at : ℕ) (e : BranchValue V) → at < length bs → All (IsBranch d) bs → IsTrue (is_sorted int_cmp (branch_entries bs)) → (0 < at → is_lt (int_cmp key (get_or bs at e).first) ≡ false) → ((n : ℕ) → n ≡ at + 1 → n < length bs → HoldsAt (λ (b : BranchValue V). IsTrue (is_lt (int_cmp key b.first))) bs n) → IsBranchFor key bs at
  is_branch_for key d [] at e within each sorted here next = absurd (omega (arith, within))
  is_branch_for key d (b ∷ []) zero e within each sorted here next = tt
  is_branch_for key d (b ∷ c ∷ bs) zero e within each sorted here next = next 1 (omega arith) (omega arith) b
  is_branch_for key d (b ∷ []) (suc at) e within each sorted here next = absurd (omega (arith, within))
  is_branch_for key d (b ∷ c ∷ bs) (suc at) e within each sorted here next =
      let rest = All-tail (IsBranch d) b (c ∷ bs) each in
      let order = is_sorted-right b.tree.entries (branch_entries (c ∷ bs)) sorted in
      let not_below = here (omega arith) in
      (within-back key d (c ∷ bs) at e (omega (arith, within)) rest order not_below, is_branch_for key d (c ∷ bs) at e (omega (arith, within)) rest order (λ _. not_below) (λ n is lt x. next (suc n) (omega (arith, is)) (omega (arith, lt)) x))

  -- the first branch, where the next one starts above the key
  pub is_first_for : (key : ℤ) (d : ℕ) (bs : List (BranchValue V)) (at : ℕ) → at < length bs → All (IsBranch d) bs → IsTrue (is_sorted int_cmp (branch_entries bs)) → at ≡ 0 → ((n : ℕ) → n ≡ at + 1 → n < length bs → HoldsAt (λ (b : BranchValue V). IsTrue (is_lt (int_cmp key b.first))) bs n) → IsBranchFor key bs at
  is_first_for key d [] at within each sorted first next = absurd (omega (arith, within))
  is_first_for key d (b ∷ bs) at within each sorted first next =
      is_branch_for key d (b ∷ bs) at b within each sorted (λ some. absurd (omega (arith, some, first))) next

  -- a change of entries that concerns one key: in two lists in a row it changes the one that the key belongs to
  pub record IsAtKey (key : ℤ) (F : List (ℤ × V) → List (ℤ × V)) : Type 0 where
    pub left : (l r : List (ℤ × V)) → 0 < length r → IsTrue (is_sorted int_cmp (l ++ r)) → IsTrue (is_lt (int_cmp key (first_key r))) → F (l ++ r) ≡ F l ++ r
    pub right : (l r : List (ℤ × V)) → 0 < length r → IsTrue (is_sorted int_cmp (l ++ r)) → is_lt (int_cmp key (first_key r)) ≡ false → F (l ++ r) ≡ l ++ F r

  pub put-at_key : (key : ℤ) (v : V) → IsAtKey key (put int_cmp key v)
  put-at_key key v = record {
    left = λ l r filled sorted lt. put-left key l r filled sorted lt v;
    right = λ l r filled sorted not_lt. put-right key l r filled sorted not_lt v;
  }

  pub without-at_key : (key : ℤ) → IsAtKey key (entries_without key)
  without-at_key key = record {
    left = λ l r filled sorted lt. without-left key l r filled sorted lt;
    right = λ l r filled sorted not_lt. without-right key l r filled sorted not_lt;
  }

  pub same-at_key : (key : ℤ) → IsAtKey key (λ es. es)
  same-at_key key = record { left = λ l r filled sorted lt. refl; right = λ l r filled sorted not_lt. refl }

  module _ (key : ℤ) (d : ℕ) where
    pub below-rest : (b : BranchValue V) (bs : List (BranchValue V)) → All (IsBranch d) (b ∷ bs) → IsBelow key (b ∷ bs) → IsTrue (is_lt (int_cmp key (first_key (branch_entries (b ∷ bs)))))
    below-rest b bs each below = subst (λ first. IsTrue (is_lt (int_cmp key first))) (head-first d b bs each) below

    pub within-rest : (b : BranchValue V) (bs : List (BranchValue V)) → All (IsBranch d) (b ∷ bs) → IsWithin key (b ∷ bs) → is_lt (int_cmp key (first_key (branch_entries (b ∷ bs)))) ≡ false
    within-rest b bs each within = subst (λ first. is_lt (int_cmp key first) ≡ false) (head-first d b bs each) within

    -- what the entries have at the key, the branch has
    pub find-branch : (bs : List (BranchValue V)) (at : ℕ) (b : BranchValue V) → All (IsBranch d) bs → IsTrue (is_sorted int_cmp (branch_entries bs)) → IsBranchFor key bs at → b ≡ get_or bs at b → find int_cmp key b.tree.entries ≡ find int_cmp key (branch_entries bs)
    find-branch [] at b each sorted is_for here = absurd is_for
    find-branch (c ∷ []) zero b each sorted is_for here = ap (λ (x : BranchValue V). find int_cmp key x.tree.entries) here ∙ ap (find int_cmp key) (sym (append-nil c.tree.entries))
    find-branch (c ∷ e ∷ bs) zero b each sorted is_for here =
        let rest = All-tail (IsBranch d) c (e ∷ bs) each in
        ap (λ (x : BranchValue V). find int_cmp key x.tree.entries) here
        ∙ sym (find-left key c.tree.entries (branch_entries (e ∷ bs)) (entries-filled d e bs rest) sorted (below-rest e bs rest is_for))
    find-branch (c ∷ []) (suc at) b each sorted is_for here = absurd is_for.0
    find-branch (c ∷ e ∷ bs) (suc at) b each sorted is_for here =
        let rest = All-tail (IsBranch d) c (e ∷ bs) each in
        find-branch (e ∷ bs) at b rest (is_sorted-right c.tree.entries (branch_entries (e ∷ bs)) sorted) is_for.1 here
        ∙ sym (find-right key c.tree.entries (branch_entries (e ∷ bs)) (entries-filled d e bs rest) sorted (within-rest e bs rest is_for.0))

    -- a change at the key in its branch is that change of all entries
    pub set-branch : (F : List (ℤ × V) → List (ℤ × V)) → IsAtKey key F → (bs : List (BranchValue V)) (at : ℕ) (b x : BranchValue V) → All (IsBranch d) bs → IsTrue (is_sorted int_cmp (branch_entries bs)) → IsBranchFor key bs at → b ≡ get_or bs at b → x.tree.entries ≡ F b.tree.entries → branch_entries (set bs at x) ≡ F (branch_entries bs)
    set-branch F at_key [] at b x each sorted is_for here changed = absurd is_for
    set-branch F at_key (c ∷ []) zero b x each sorted is_for here changed =
        append-nil x.tree.entries ∙ changed ∙ ap (λ (y : BranchValue V). F y.tree.entries) here ∙ ap F (sym (append-nil c.tree.entries))
    set-branch F at_key (c ∷ e ∷ bs) zero b x each sorted is_for here changed =
        let rest = All-tail (IsBranch d) c (e ∷ bs) each in
        ap (λ es. es ++ branch_entries (e ∷ bs)) (changed ∙ ap (λ (y : BranchValue V). F y.tree.entries) here)
        ∙ sym (at_key.left c.tree.entries (branch_entries (e ∷ bs)) (entries-filled d e bs rest) sorted (below-rest e bs rest is_for))
    set-branch F at_key (c ∷ []) (suc at) b x each sorted is_for here changed = absurd is_for.0
    set-branch F at_key (c ∷ e ∷ bs) (suc at) b x each sorted is_for here changed =
        let rest = All-tail (IsBranch d) c (e ∷ bs) each in
        ap (λ es. c.tree.entries ++ es) (set-branch F at_key (e ∷ bs) at b x rest (is_sorted-right c.tree.entries (branch_entries (e ∷ bs)) sorted) is_for.1 here changed)
        ∙ sym (at_key.right c.tree.entries (branch_entries (e ∷ bs)) (entries-filled d e bs rest) sorted (within-rest e bs rest is_for.0))

  pub branches-set : (d : ℕ) (bs : List (BranchValue V)) (at : ℕ) (x : BranchValue V) → AreBranches d bs → IsBranch d x → IsTrue (is_sorted int_cmp (branch_entries (set bs at x))) → AreBranches d (set bs at x)
  branches-set d bs at x are is sorted = record {
    filled = omega (arith, length-set bs at x, are.filled);
    fits = omega (arith, length-set bs at x, are.fits);
    each = All-set (IsBranch d) bs at x is are.each;
    sorted = sorted;
  }

  -- the first branch of a fork has the first key
  pub first-at : (d : ℕ) (bs : List (BranchValue V)) (b : BranchValue V) → AreBranches d bs → b ≡ get_or bs 0 b → b.first ≡ first_key (branch_entries bs)
  first-at d [] b are here = absurd (omega (arith, are.filled))
  first-at d (c ∷ bs) b are here = ap (λ (x : BranchValue V). x.first) here ∙ head-first d c bs are.each

  -- ---- a node that is wide enough to stand below a fork has many entries

  many-entries : (d : ℕ) (bs : List (BranchValue V)) → All (IsBranch d) bs → length bs * min_width ^ suc d ≤ length (branch_entries bs)
  many-entries d [] each = omega arith
  many-entries d (b ∷ bs) each =
      omega (arith, length-append b.tree.entries (branch_entries bs), (All-head (IsBranch d) b bs each).full, many-entries d bs (All-tail (IsBranch d) b bs each), suc-mul (length bs) (min_width ^ suc d))

  pub node-full : (node : Node V) → IsNode node → min_width ≤ (node_value node).width → min_width ^ suc (node_value node).depth ≤ length (node_value node).entries
  node-full (Leaf page) is wide = omega (arith, wide)
  node-full (Fork branches) is wide =
      let bs = branches.items in
      omega (arith, many-entries (branch_depth bs) bs is.each, mul-le-mul_right (min_width ^ suc (branch_depth bs)) wide, pow-suc min_width (suc (branch_depth bs)))

  -- ---- a front and a rest of a list

  pub branch_entries-append : (ls rs : List (BranchValue V)) → branch_entries (ls ++ rs) ≡ branch_entries ls ++ branch_entries rs
  branch_entries-append [] rs = refl
  branch_entries-append (l ∷ ls) rs = ap (λ es. l.tree.entries ++ es) (branch_entries-append ls rs) ∙ sym (append_assoc l.tree.entries (branch_entries ls) (branch_entries rs))

  pub branch_entries-split : (bs : List (BranchValue V)) (at : ℕ) → branch_entries (take at bs) ++ branch_entries (drop at bs) ≡ branch_entries bs
  branch_entries-split bs at = sym (branch_entries-append (take at bs) (drop at bs)) ∙ ap branch_entries (take-append-drop at bs)

  -- branches of one depth are a fork of that depth
  pub branches-are : (d : ℕ) (bs : List (BranchValue V)) → AreBranches d bs → AreBranches (branch_depth bs) bs
  branches-are d bs are = subst (λ n. AreBranches n bs) (sym (depth-is d bs are.filled are.each)) are

  pub is-branch : (node : Node V) (b : BranchValue V) → IsNode node → min_width ≤ (node_value node).width → b.first ≡ first_key (node_value node).entries → b.tree ≡ node_value node → IsBranch (node_value node).depth b
  is-branch node b is wide first same = record {
    first = first ∙ ap (λ (tree : TreeValue V). first_key tree.entries) (sym same);
    depth = ap (λ (tree : TreeValue V). tree.depth) same;
    wide = subst (λ (tree : TreeValue V). min_width ≤ tree.width) (sym same) wide;
    full = subst (λ (tree : TreeValue V). min_width ^ suc (node_value node).depth ≤ length tree.entries) (sym same) (node-full node is wide);
  }

-- what holds of both outcomes of a call
pub either : {A E X : Type 0} (r : Result A E) (new a b : X) (P : X → Type 0) → OnOk r (new ≡ a) → OnErr r (new ≡ b) → P a → P b → P new
either (Ok x) new a b P ok err at_ok at_err = subst P (sym ok) at_ok
either (Err e) new a b P ok err at_ok at_err = subst P (sym err) at_err

pub on_err_weaker : {A E P Q : Type 0} (r : Result A E) → (P → Q) → OnErr r P → OnErr r Q
on_err_weaker (Ok x) f h = tt
on_err_weaker (Err e) f h = f h

module _ {V : Type 0} where
  -- ---- a call that changes one branch, or fails and leaves its entries

  -- a branch that has not become less wide, nor lost entries
  pub branch-grown : (d : ℕ) (b x : BranchValue V) → IsBranch d b → x.first ≡ first_key x.tree.entries → x.tree.depth ≡ b.tree.depth → b.tree.width ≤ x.tree.width → length b.tree.entries ≤ length x.tree.entries → IsBranch d x
  branch-grown d b x is first depth width long = record {
    first = first;
    depth = depth ∙ is.depth;
    wide = omega (arith, is.wide, width);
    full = omega (arith, is.full, long);
  }

  pub branch-at : (d : ℕ) (bs : List (BranchValue V)) (at : ℕ) (b : BranchValue V) → AreBranches d bs → at < length bs → b ≡ get_or bs at b → IsBranch d b
  branch-at d bs at b are within here = subst (IsBranch d) (sym here) (All-get_or (IsBranch d) bs at b within are.each)

  module _ {A E : Type 0} (key : ℤ) (d : ℕ) (F : List (ℤ × V) → List (ℤ × V)) (at_key : IsAtKey key F) (bs : List (BranchValue V)) (at : ℕ) (b x : BranchValue V) (are : AreBranches d bs) (is_for : IsBranchFor key bs at) (here : b ≡ get_or bs at b) where
    pub call-ok : (r : Result A E) → OnOk r (x.tree.entries ≡ F b.tree.entries) → OnOk r (branch_entries (set bs at x) ≡ F (branch_entries bs))
    call-ok r ok = on_ok_weaker r (set-branch key d F at_key bs at b x are.each are.sorted is_for here) ok

    pub call-err : (r : Result A E) → OnErr r (x.tree.entries ≡ b.tree.entries) → OnErr r (branch_entries (set bs at x) ≡ branch_entries bs)
    call-err r err = on_err_weaker r (set-branch key d (λ es. es) (same-at_key key) bs at b x are.each are.sorted is_for here) err

    pub call-branches : (r : Result A E) → OnOk r (x.tree.entries ≡ F b.tree.entries) → OnErr r (x.tree.entries ≡ b.tree.entries) → IsTrue (is_sorted int_cmp (F (branch_entries bs))) → IsBranch d x → AreBranches d (set bs at x)
    call-branches r ok err sorted is =
        branches-set d bs at x are is (either r (branch_entries (set bs at x)) _ _ (λ es. IsTrue (is_sorted int_cmp es)) (call-ok r ok) (call-err r err) sorted are.sorted)

  pub page-put : (key : ℤ) (v : V) (page : List (ℤ × V)) → IsPage page → length page < max_width → IsPage (put int_cmp key v page)
  page-put key v page is room = record {
    filled = length-put_filled key v page;
    fits = omega (arith, length-put_le key v page, room);
    sorted = sorted-put key v page is.sorted;
  }

  pub page-without : (key : ℤ) (page : List (ℤ × V)) → IsPage page → 1 < length page → IsPage (entries_without key page)
  page-without key page is many = record {
    filled = omega (arith, length-without_ge key page is.sorted, many);
    fits = omega (arith, length-without_le key page, is.fits);
    sorted = sorted-without key page is.sorted;
  }

  -- a branch that was wider than the least and is less wide by one at most
  pub branch-less : (d : ℕ) (b x : BranchValue V) → IsBranch d b → min_width < b.tree.width → x.first ≡ first_key x.tree.entries → x.tree.depth ≡ b.tree.depth → b.tree.width ≤ suc x.tree.width → (min_width ≤ x.tree.width → min_width ^ suc x.tree.depth ≤ length x.tree.entries) → IsBranch d x
  branch-less d b x is wide first depth width full =
      let wide_still : min_width ≤ x.tree.width = omega (arith, wide, width) in
      record {
        first = first;
        depth = depth ∙ is.depth;
        wide = wide_still;
        full = subst (λ n. min_width ^ suc n ≤ length x.tree.entries) (depth ∙ is.depth) (full wide_still);
      }

  -- ---- a deep tree has many entries

  pub first-less : (d : ℕ) (bs : List (BranchValue V)) (b : BranchValue V) → AreBranches d bs → b ≡ get_or bs 0 b → length b.tree.entries ≤ length (branch_entries bs)
  first-less d [] b are here = absurd (omega (arith, are.filled))
  first-less d (c ∷ bs) b are here = omega (arith, ap (λ (x : BranchValue V). length x.tree.entries) here, length-append c.tree.entries (branch_entries bs))

power-rises : (i j : ℕ) → i ≤ j → min_width ^ i ≤ min_width ^ j
power-rises i zero le = let e : i ≡ zero = omega (arith, le) in rw e (omega arith)
power-rises i (suc j) le = elim (cases_lt j i) [
  | inl deeper ↦ let e : i ≡ suc j = omega (arith, le, deeper) in rw e (omega arith)
  | inr within ↦ omega (arith, power-rises i j within, pow-suc min_width j)
]

-- a tree whose entries fit into memory is not deep
pub shallow : (d n : ℕ) → min_width ^ d ≤ n → n < 2 ^ 64 → d < 32
shallow d n deep fits = elim (cases_lt d 32) [
  | inl less ↦ less
  | inr deeper ↦ absurd (omega (arith, power-rises 32 d deeper, deep, fits))
]
