-- An object whose members are all known.
use Rattle.std.proofs.Common.{◌≡◌, ℕ, Bool, true, false, cond, not, List, [], ◌∷◌, ◌++◌, filter, Some, None, Ok, refl, sym, ap, ◌∙◌, bytes_eq, is_eq, nat_cmp, true≢false}
use Rattle.std.specs.Ordering.{match_ordering}
use Rattle.std.specs.declared.cmp.Ordering.{Ordering}
use Rattle.std.specs.declared.cmp.Ordering.TheVariants.{Less, Equal, Greater}
use Rattle.std.specs.Cmp.Lexicographic.{slice_cmp}
use Rattle.std.proofs.lemmas.Bool.{or_left}
use Rattle.std.proofs.lemmas.List.Folds.{list_any-append}
use Rattle.std.proofs.lemmas.Map.Text.{is_eq-slice_cmp}
use Rattle.std.proofs.lemmas.Slice.Eq.{bytes_eq-Decides}
use Rattle.serde_json.specs.Data.{Data, Members, no_members, member}
use Rattle.serde_json.specs.Data as spec
use Rattle.serde_json.specs.Find.{get, get_member, as_object}
use Rattle.tt_json.specs.Value.{member_names, names_of, least}
use Rattle.tt_grammar.specs.Members.{is_one_of, refuse_member, no_members_but}
use Rattle.tt_grammar.proofs.EveryLemmas.{Every, every-then}

-- the test knows each member
abbrev pub AreKnown : (List ℕ → Bool) → Data → Type 0
AreKnown is_known v = Every (λ name. is_known name ≡ true) (names_of (as_object v))

all_known : (is_known : List ℕ → Bool) (names : List (List ℕ)) → refuse_member (least (filter (λ name. not (is_known name)) names)) ≡ Ok tt
    → Every (λ name. is_known name ≡ true) names
all_known is_known [] h = tt
all_known is_known (name ∷ names) h = by (is_known name) refl (all_known is_known names) h
  where
    by : (b : Bool) → is_known name ≡ b
        → (refuse_member (least (filter (λ n. not (is_known n)) names)) ≡ Ok tt → Every (λ n. is_known n ≡ true) names)
        → refuse_member (least (cond (not b) (name ∷ filter (λ n. not (is_known n)) names) (filter (λ n. not (is_known n)) names))) ≡ Ok tt
        → Every (λ n. is_known n ≡ true) (name ∷ names)
    by true e rest g = (e, rest g)
    by false e rest g = cc

none_unknown : (is_known : List ℕ → Bool) (names : List (List ℕ)) → Every (λ name. is_known name ≡ true) names → filter (λ name. not (is_known name)) names ≡ []
none_unknown is_known [] h = refl
none_unknown is_known (name ∷ names) h = rw h.0 (none_unknown is_known names h.1)

pub are_known : (is_known : List ℕ → Bool) (v : Data) → no_members_but is_known v ≡ Ok tt → AreKnown is_known v
are_known is_known v h = all_known is_known (names_of (as_object v)) h

pub known-passes : (is_known : List ℕ → Bool) (v : Data) → AreKnown is_known v → no_members_but is_known v ≡ Ok tt
known-passes is_known v h = ap (λ names. refuse_member (least names)) (none_unknown is_known (names_of (as_object v)) h)

-- among more names, too
pub known-more : (names more : List (List ℕ)) (v : Data) → AreKnown (is_one_of names) v → AreKnown (is_one_of (names ++ more)) v
known-more names more v h =
    every-then (λ name. is_one_of names name ≡ true) (λ name. is_one_of (names ++ more) name ≡ true) (names_of (as_object v))
    (λ name e. list_any-append (λ known. bytes_eq name known) names more ∙ or_left (is_one_of names name) (is_one_of more name) e) h

-- a member that the test doesn't know isn't there
no_member : (is_known : List ℕ → Bool) (k : List ℕ) (ms : Members) → is_known k ≡ false → Every (λ name. is_known name ≡ true) (member_names ms) → get_member k ms ≡ None
no_member is_known k no_members unknown h = refl
no_member is_known k (member l d ms) unknown h = by (slice_cmp nat_cmp k l) refl (no_member is_known k ms unknown h.1)
  where
    by : (o : Ordering) → slice_cmp nat_cmp k l ≡ o → get_member k ms ≡ None → match_ordering o (get_member k ms) (Some d) (get_member k ms) ≡ None
    by Less e rest = rest
    by Equal e rest =
        let same : k ≡ l = (bytes_eq-Decides k l).0 (sym (is_eq-slice_cmp k l) ∙ ap is_eq e) in
        absurd (true≢false (sym h.0 ∙ ap is_known (sym same) ∙ unknown))
    by Greater e rest = rest

pub not_there : (is_known : List ℕ → Bool) (k : List ℕ) (v : Data) → is_known k ≡ false → AreKnown is_known v → get k v ≡ None
not_there is_known k spec.null unknown h = refl
not_there is_known k (spec.boolean b) unknown h = refl
not_there is_known k (spec.number n) unknown h = refl
not_there is_known k (spec.string s) unknown h = refl
not_there is_known k (spec.array ds) unknown h = refl
not_there is_known k (spec.object ms) unknown h = no_member is_known k ms unknown h
