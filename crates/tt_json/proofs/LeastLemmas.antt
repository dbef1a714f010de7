-- The least name of members that are put one after another.
use Rattle.std.proofs.Common.{◌≡◌, ℕ, ◌^◌, ◌<◌, ◌≤◌, length, length-append, subst, arith, Bool, true, false, not, cond, List, [], ◌∷◌, filter, Option, Some, None, Ordering, Less, Equal, Greater, nat_cmp, refl, sym, ap, ◌∙◌}
use Rattle.std.specs.Prelude.{MatchOption}
use Rattle.std.specs.Ordering.{match_ordering, ordering_reverse}
use Rattle.std.specs.Cmp.Lexicographic.{slice_cmp}
use Rattle.std.proofs.lemmas.Cmp.{nat_list_cmp_total, alike_right, tied_itself}
use Rattle.std.proofs.lemmas.Map.Lookups.{exact_bytes}
use Rattle.json.specs.Token.{Token}
use Rattle.json.specs.Find.{NextMember}
use Rattle.json.proofs.Found.{Some_inj}
use Rattle.serde_json.specs.Data.{Data, Members, no_members, member, put}
use Rattle.serde_json.specs.Read.{of_json, of_members, max_depth}
use Rattle.json.specs.Tree as tree
use Rattle.json.specs.Tree.{json_tokens, members_tokens}
use Rattle.tt_json.specs.Value.{member_names, lesser, least}
use Rattle.tt_json.specs.Tape.{IsValue, AreMembers, value_at}
use Rattle.tt_json.proofs.DataLemmas.{chained, value_at-is}

at_less : (a b : List ℕ) → slice_cmp nat_cmp a b ≡ Less → lesser a (Some b) ≡ a
at_less a b e = rw e refl

at_equal : (a b : List ℕ) → slice_cmp nat_cmp a b ≡ Equal → lesser a (Some b) ≡ a
at_equal a b e = rw e refl

at_greater : (a b : List ℕ) → slice_cmp nat_cmp a b ≡ Greater → lesser a (Some b) ≡ b
at_greater a b e = rw e refl

-- a name counts once
twice : (k : List ℕ) (o : Option (List ℕ)) → lesser k (Some (lesser k o)) ≡ lesser k o
twice k None = at_equal k k same
  where
    same : slice_cmp nat_cmp k k ≡ Equal
    same = tied_itself nat_list_cmp_total k
twice k (Some c) = elim (slice_cmp nat_cmp k c) as (λ o. slice_cmp nat_cmp k c ≡ o → lesser k (Some (lesser k (Some c))) ≡ lesser k (Some c)) [
  | Less ↦ λ e. ap (λ n. lesser k (Some n)) (at_less k c e) ∙ at_equal k k (tied_itself nat_list_cmp_total k) ∙ sym (at_less k c e)
  | Equal ↦ λ e. ap (λ n. lesser k (Some n)) (at_equal k c e) ∙ at_equal k k (tied_itself nat_list_cmp_total k) ∙ sym (at_equal k c e)
  | Greater ↦ λ e. ap (λ n. lesser k (Some n)) (at_greater k c e)
] refl

-- of a name and a lesser one, either may be taken first
swap : (k l : List ℕ) (o : Option (List ℕ)) → slice_cmp nat_cmp k l ≡ Greater → lesser l (Some (lesser k o)) ≡ lesser k (Some (lesser l o))
swap k l None greater = at_less l k (nat_list_cmp_total.antisymm l k ∙ ap ordering_reverse greater) ∙ sym (at_greater k l greater)
swap k l (Some c) greater =
    elim (slice_cmp nat_cmp k c) as (λ o. slice_cmp nat_cmp k c ≡ o → lesser l (Some (lesser k (Some c))) ≡ lesser k (Some (lesser l (Some c)))) [
      | Less ↦ λ e. ap (λ n. lesser l (Some n)) (at_less k c e) ∙ at_less l k less ∙ sym (ap (λ n. lesser k (Some n)) (at_less l c (nat_list_cmp_total.trans l k c less e)) ∙ at_greater k l greater)
      | Equal ↦ λ e. ap (λ n. lesser l (Some n)) (at_equal k c e) ∙ at_less l k less ∙ sym (ap (λ n. lesser k (Some n)) (at_less l c (sym (alike_right nat_list_cmp_total k c l e) ∙ less)) ∙ at_greater k l greater)
      | Greater ↦ λ e. ap (λ n. lesser l (Some n)) (at_greater k c e) ∙ above e (slice_cmp nat_cmp l c) refl
    ] refl
  where
    less : slice_cmp nat_cmp l k ≡ Less
    less = nat_list_cmp_total.antisymm l k ∙ ap ordering_reverse greater

    above : slice_cmp nat_cmp k c ≡ Greater → (o : Ordering) → slice_cmp nat_cmp l c ≡ o → lesser l (Some c) ≡ lesser k (Some (lesser l (Some c)))
    above e Less f = at_less l c f ∙ sym (ap (λ n. lesser k (Some n)) (at_less l c f) ∙ at_greater k l greater)
    above e Equal f = at_equal l c f ∙ sym (ap (λ n. lesser k (Some n)) (at_equal l c f) ∙ at_greater k l greater)
    above e Greater f = at_greater l c f ∙ sym (ap (λ n. lesser k (Some n)) (at_greater l c f) ∙ at_greater k c e)

-- the least name with one more, where the test lets it through
abbrev pub with_name : Bool → List ℕ → Option (List ℕ) → Option (List ℕ)
with_name b k o = cond b (Some (lesser k o)) o

least_kept : (b : Bool) (k : List ℕ) (ns : List (List ℕ)) → least (cond b (k ∷ ns) ns) ≡ with_name b k (least ns)
least_kept true k ns = refl
least_kept false k ns = refl

over_equal : (b : Bool) (k : List ℕ) (o : Option (List ℕ)) → with_name b k o ≡ with_name b k (with_name b k o)
over_equal true k o = ap Some (sym (twice k o))
over_equal false k o = refl

over_greater : (b c : Bool) (k l : List ℕ) (o : Option (List ℕ)) → slice_cmp nat_cmp k l ≡ Greater → with_name c l (with_name b k o) ≡ with_name b k (with_name c l o)
over_greater true true k l o e = ap Some (swap k l o e)
over_greater true false k l o e = refl
over_greater false true k l o e = refl
over_greater false false k l o e = refl

-- the least of the names that a test lets through, after one more member
pub least-put : (q : List ℕ → Bool) (k : List ℕ) (d : Data) (ms : Members) → least (filter q (member_names (put k d ms))) ≡ with_name (q k) k (least (filter q (member_names ms)))
least-put q k d no_members = least_kept (q k) k []
least-put q k d (member l e ms) =
    elim (slice_cmp nat_cmp k l) as (λ o. slice_cmp nat_cmp k l ≡ o → least (filter q (member_names (match_ordering o (member k d (member l e ms)) (member l d ms) (member l e (put k d ms))))) ≡ with_name (q k) k (least (filter q (l ∷ member_names ms)))) [
      | Less ↦ λ _. least_kept (q k) k (filter q (l ∷ member_names ms))
      | Equal ↦ λ f. least_kept (q l) l (filter q (member_names ms)) ∙ over_equal (q l) l (least (filter q (member_names ms)))
          ∙ ap (λ n. with_name (q n) n (with_name (q l) l (least (filter q (member_names ms))))) (sym (exact_bytes k l f))
          ∙ ap (with_name (q k) k) (sym (least_kept (q l) l (filter q (member_names ms))))
      | Greater ↦ λ f. least_kept (q l) l (filter q (member_names (put k d ms))) ∙ ap (with_name (q l) l) (least-put q k d ms)
          ∙ over_greater (q k) (q l) k l (least (filter q (member_names ms))) f
          ∙ ap (with_name (q k) k) (sym (least_kept (q l) l (filter q (member_names ms))))
    ] refl

-- the members that are left, after one of them, and its value
pub members-next : (old new : List Token) (r : Option (List ℕ × List Token)) (found all : Members) → AreMembers old found all → NextMember old r new
    → MatchOption r (found ≡ all) (λ m. (d : Data) × AreMembers new (put m.0 d found) all × IsValue m.1 × (value_at m.1 ≡ d))
members-next old new None found all (ms, within, small, shallow, is) h = Some_inj _ _ (ap (λ x. of_members x found) (sym (h ms within)) ∙ is)
members-next old new (Some m) found all (ms, within, small, shallow, is) h =
    let f = h ms within in
    let c = chained (λ d. of_members f.1 (put m.0 d found)) (of_json f.0) all (ap (λ x. of_members x found) (sym f.2) ∙ is) in
    let deep = subst (λ x. tree.members_depth x ≤ max_depth) f.2 shallow in
    let first : tree.depth f.0 ≤ max_depth = omega (arith, deep) in
    let rest : tree.members_depth f.1 ≤ max_depth = omega (arith, deep) in
    let whole = subst (λ x. length (members_tokens x) < 2 ^ 64) f.2 small in
    let first_small : length (json_tokens f.0) < 2 ^ 64 = omega (arith, whole, length-append (json_tokens f.0) (members_tokens f.1)) in
    let rest_small : length (members_tokens f.1) < 2 ^ 64 = omega (arith, whole, length-append (json_tokens f.0) (members_tokens f.1)) in
    (c.0, (f.1, f.4, rest_small, rest, c.2), (f.0, f.3, first_small, (first, c.0, c.1)), value_at-is m.1 f.0 c.0 f.3 first c.1)

-- ---- the search for an unknown name

-- the name is the least unknown one of the members that have been taken from the start on
abbrev pub IsLeastSoFar : (List ℕ → Bool) → List Token → List Token → Option (List ℕ) → Type 0
IsLeastSoFar is_known start left o =
    (all : Members) → AreMembers start no_members all
    → (found : Members) × AreMembers left found all × (o ≡ least (filter (λ name. not (is_known name)) (member_names found)))

with_one_more : (is_known : List ℕ → Bool) (b : Bool) (k : List ℕ) (d : Data) (found : Members) (o : Option (List ℕ)) → is_known k ≡ b
    → o ≡ least (filter (λ name. not (is_known name)) (member_names found))
    → with_name (not b) k o ≡ least (filter (λ name. not (is_known name)) (member_names (put k d found)))
with_one_more is_known b k d found o e f =
    ap (with_name (not b) k) f ∙ ap (λ c. with_name (not c) k (least (filter (λ name. not (is_known name)) (member_names found)))) (sym e) ∙ sym (least-put (λ name. not (is_known name)) k d found)

pub least-next : (is_known : List ℕ → Bool) (b : Bool) (start old new ts : List Token) (k : List ℕ) (o r : Option (List ℕ))
    → IsLeastSoFar is_known start old o → NextMember old (Some (k, ts)) new → is_known k ≡ b → r ≡ with_name (not b) k o → IsLeastSoFar is_known start new r
least-next is_known b start old new ts k o r before next e f all h =
    let so_far = before all h in
    let more = members-next old new (Some (k, ts)) so_far.0 all so_far.1 next in
    (put k more.0 so_far.0, more.1, f ∙ with_one_more is_known b k more.0 so_far.0 o e so_far.2)

pub least-end : (is_known : List ℕ → Bool) (start old new : List Token) (o : Option (List ℕ)) (all : Members)
    → IsLeastSoFar is_known start old o → NextMember old None new → AreMembers start no_members all
    → o ≡ least (filter (λ name. not (is_known name)) (member_names all))
least-end is_known start old new o all before next h =
    let so_far = before all h in
    so_far.2 ∙ ap (λ ms. least (filter (λ name. not (is_known name)) (member_names ms))) (members-next old new None so_far.0 all so_far.1 next)
