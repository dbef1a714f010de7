-- An object whose names are looked up one after another: the first that stands there already. Where there is none, no object
-- of the value has a key twice, and the other way round.
use Rattle.std.proofs.Common.{add-one, take, drop, Bor, map, nat_cmp, is_eq, ◌≡◌, ◌≢◌, ℕ, suc, ◌+◌, ◌<◌, Bool, true, false, cond, not, ◌||◌, List, [], ◌∷◌, ◌++◌, length, get_or, Option, Some, None, Ok, Err, refl, sym, ap, subst, ◌∙◌, arith, append-nil, append_assoc, length-append, bytes_eq, true≢false}
use Rattle.std.specs.Prelude.{IfSome, IsSomeAnd, codes}
use Rattle.std.specs.Bool.{one_answer}
use Rattle.std.specs.Cmp.Lexicographic.{slice_cmp}
use Rattle.std.specs.List.{list_any}
use Rattle.std.specs.Option.{option_or, option_and_then}
use Rattle.std.proofs.Math.ListN.{get_or-append}
use Rattle.std.proofs.Math.Seq.{get_or-append_seam, take-suc}
use Rattle.std.proofs.lemmas.List.{map-append, drop_more}
use Rattle.std.proofs.lemmas.List.Folds.{list_any_none, list_any_at, list_any-append}
use Rattle.std.proofs.lemmas.List.Quantifiers.{all_pairs_push}
use Rattle.std.proofs.lemmas.Map.Text.{is_eq-slice_cmp}
use Rattle.std.proofs.lemmas.Slice.Eq.{bytes_eq-Decides}
use Rattle.json.specs.Json as json
use Rattle.json.specs.Json.{document}
use Rattle.json.specs.declared.value.Value.{Value}
use Rattle.json.specs.Value.{value_view, members_view}
use Rattle.json.specs.Strict.{keys, AreDistinct, HasUniqueKeys, ItemsHaveUniqueKeys, MembersHaveUniqueKeys}
use Rattle.serde_json.specs.Data.{Data}
use Rattle.serde_json.specs.Read.{of_json, read}
use Rattle.tt_json.specs.Text.{json_of_text}
use Rattle.tt_json.proofs.FitLemmas.{json_of_text-document}
use Rattle.tt_grammar.specs.declared.fault.DocFault.{DocFault}
use Rattle.tt_grammar.specs.declared.fault.DocFault.TheVariants.{At, Memory}
use Rattle.tt_grammar.specs.Fault.{◌>>=◌, refuse, or_refuse, fault_here, fault_at, member_path, item_path, FailsWith, IsFault}
use Rattle.tt_grammar.specs.Members.{is_one_of}
use Rattle.tt_grammar.specs.RepeatedMembers.{named_twice, inside, repeated_member, repeated_in_items, repeated_in_members, unless_fault, names_once}
use Rattle.tt_grammar.specs.TextValue.{value_of_json, value_of_found, value_of_text}

-- ---- names that stand there already

differs : (a b : List ℕ) → a ≢ b → (t : Bool) → bytes_eq a b ≡ t → t ≡ false
differs a b other true e = absurd (other ((bytes_eq-Decides a b).0 e))
differs a b other false e = refl

-- a name that is at no place of a list isn't one of it
is_one_of-apart : (earlier : List (List ℕ)) (name : List ℕ) → ((k : ℕ) (d : List ℕ) → k < length earlier → get_or earlier k d ≢ name) → is_one_of earlier name ≡ false
is_one_of-apart earlier name apart =
    list_any_none (λ known. bytes_eq name known) earlier (λ k d within. differs name (get_or earlier k d) (λ e. apart k d within (sym e)) _ refl)

apart_from : (earlier : List (List ℕ)) (name : List ℕ) → is_one_of earlier name ≡ false → (k : ℕ) (d : List ℕ) → k < length earlier → get_or earlier k d ≢ name
apart_from earlier name e k d within same =
    true≢false (sym (list_any_at (λ known. bytes_eq name known) earlier k d within ((bytes_eq-Decides name (get_or earlier k d)).1 (sym same))) ∙ e)

-- of distinct names the one in the middle isn't one of those before it
apart_before : (earlier : List (List ℕ)) (name : List ℕ) (later : List (List ℕ)) → AreDistinct (earlier ++ name ∷ later) → (k : ℕ) (d : List ℕ) → k < length earlier → get_or earlier k d ≢ name
apart_before earlier name later h k d within same =
    h k (length earlier) d within (omega (arith, length-append earlier (name ∷ later)))
    (get_or-append earlier (name ∷ later) d k within ∙ same ∙ sym (get_or-append_seam earlier name later d))

-- ---- a value without such a name

both_none : (o p : Option DocFault) → option_or o p ≡ None → (o ≡ None) × (p ≡ None)
both_none None p e = (refl, e)
both_none (Some fault) p e = cc

inside-none : (path_of : List ℕ → List ℕ) (o : Option DocFault) → inside path_of o ≡ None → o ≡ None
inside-none path_of None e = refl
inside-none path_of (Some fault) e = cc

new_name : (b : Bool) (fault : DocFault) (rest : Option DocFault) → cond b (Some fault) rest ≡ None → (b ≡ false) × (rest ≡ None)
new_name true fault rest e = cc
new_name false fault rest e = (refl, e)

mutual
  pub HasUniqueKeys-from_none : (j : json.Json) → repeated_member j ≡ None → HasUniqueKeys j
  HasUniqueKeys-from_none json.null e = tt
  HasUniqueKeys-from_none (json.boolean b) e = tt
  HasUniqueKeys-from_none (json.number s) e = tt
  HasUniqueKeys-from_none (json.string s) e = tt
  HasUniqueKeys-from_none (json.array js) e = items-from_none 0 js e
  HasUniqueKeys-from_none (json.object ms) e = members-from_none [] ms (λ i j d less within. absurd (omega arith)) e

  items-from_none : (i : ℕ) (js : json.Items) → repeated_in_items i js ≡ None → ItemsHaveUniqueKeys js
  items-from_none i json.no_items e = tt
  items-from_none i (json.item j js) e =
      let both = both_none (inside (item_path i) (repeated_member j)) (repeated_in_items (suc i) js) e in
      (HasUniqueKeys-from_none j (inside-none (item_path i) (repeated_member j) both.0), items-from_none (suc i) js both.1)

  members-from_none : (earlier : List (List ℕ)) (ms : json.Members) → AreDistinct earlier → repeated_in_members earlier ms ≡ None → AreDistinct (earlier ++ keys ms) × MembersHaveUniqueKeys ms
  members-from_none earlier json.no_members h e = (subst AreDistinct (sym (append-nil earlier)) h, tt)
  members-from_none earlier (json.member k j ms) h e =
      let first = new_name (is_one_of earlier k) (named_twice k) (option_or (inside (member_path k) (repeated_member j)) (repeated_in_members (earlier ++ k ∷ []) ms)) e in
      let both = both_none (inside (member_path k) (repeated_member j)) (repeated_in_members (earlier ++ k ∷ []) ms) first.1 in
      let more : AreDistinct (earlier ++ k ∷ []) = all_pairs_push (λ a b. a ≢ b) earlier k h (apart_from earlier k first.0) in
      let rest = members-from_none (earlier ++ k ∷ []) ms more both.1 in
      (subst AreDistinct (append_assoc earlier (k ∷ []) (keys ms)) rest.0, (HasUniqueKeys-from_none j (inside-none (member_path k) (repeated_member j) both.0), rest.1))

mutual
  repeated_member-none : (j : json.Json) → HasUniqueKeys j → repeated_member j ≡ None
  repeated_member-none json.null h = refl
  repeated_member-none (json.boolean b) h = refl
  repeated_member-none (json.number s) h = refl
  repeated_member-none (json.string s) h = refl
  repeated_member-none (json.array js) h = repeated_in_items-none 0 js h
  repeated_member-none (json.object ms) h = repeated_in_members-none [] ms h.0 h.1

  repeated_in_items-none : (i : ℕ) (js : json.Items) → ItemsHaveUniqueKeys js → repeated_in_items i js ≡ None
  repeated_in_items-none i json.no_items h = refl
  repeated_in_items-none i (json.item j js) h =
      ap (λ o. option_or (inside (item_path i) o) (repeated_in_items (suc i) js)) (repeated_member-none j h.0) ∙ repeated_in_items-none (suc i) js h.1

  repeated_in_members-none : (earlier : List (List ℕ)) (ms : json.Members) → AreDistinct (earlier ++ keys ms) → MembersHaveUniqueKeys ms → repeated_in_members earlier ms ≡ None
  repeated_in_members-none earlier json.no_members h u = refl
  repeated_in_members-none earlier (json.member k j ms) h u =
      let rest = option_or (inside (member_path k) (repeated_member j)) (repeated_in_members (earlier ++ k ∷ []) ms) in
      ap (λ b. cond b (Some (named_twice k)) rest) (is_one_of-apart earlier k (apart_before earlier k (keys ms) h))
      ∙ ap (λ o. option_or (inside (member_path k) o) (repeated_in_members (earlier ++ k ∷ []) ms)) (repeated_member-none j u.0)
      ∙ repeated_in_members-none (earlier ++ k ∷ []) ms (subst AreDistinct (sym (append_assoc earlier (k ∷ []) (keys ms))) h) u.1

-- ---- the search for the first such name

-- the names of members
abbrev pub names_of : {A : Type 0} → List (Bor (List ℕ) × Value A) → List (List ℕ)
names_of ms = map (λ m. m.0.now) ms

-- a set of names has these names
pub record HasNames (seen : List (Bor (List ℕ))) (names : List (List ℕ)) : Type 0 where
  pub is : (q : Bor (List ℕ)) → list_any (λ k. is_eq (slice_cmp nat_cmp q.now k.now)) seen ≡ is_one_of names q.now

bytes_eq_sym : (a b : List ℕ) → bytes_eq a b ≡ bytes_eq b a
bytes_eq_sym a b =
    one_answer (bytes_eq a b) (bytes_eq b a) (bytes_eq-Decides a b) (λ e. sym ((bytes_eq-Decides b a).0 e), λ e. (bytes_eq-Decides b a).1 (sym e))

one_more : (names : List (List ℕ)) (name q : List ℕ) → is_one_of (names ++ name ∷ []) q ≡ cond (bytes_eq name q) true (is_one_of names q)
one_more names name q =
    list_any-append (λ known. bytes_eq q known) names (name ∷ [])
    ∙ ap (λ b. list_any (λ known. bytes_eq q known) names || (b || false)) (bytes_eq_sym q name)
    ∙ either (is_one_of names q) (bytes_eq name q)
  where
    either : (a b : Bool) → (a || (b || false)) ≡ cond b true a
    either true true = refl
    either true false = refl
    either false true = refl
    either false false = refl

-- after one more name
pub HasNames-more : (old new : List (Bor (List ℕ))) (names : List (List ℕ)) (name : Bor (List ℕ)) → HasNames old names
    → ((q : Bor (List ℕ)) → list_any (λ k. is_eq (slice_cmp nat_cmp q.now k.now)) new ≡ cond (is_eq (slice_cmp nat_cmp name.now q.now)) true (list_any (λ k. is_eq (slice_cmp nat_cmp q.now k.now)) old))
    → HasNames new (names ++ name.now ∷ [])
HasNames-more old new names name h updates = record {
  is = λ q. updates q ∙ ap (λ b. cond b true (list_any (λ k. is_eq (slice_cmp nat_cmp q.now k.now)) old)) (is_eq-slice_cmp name.now q.now)
      ∙ ap (λ b. cond (bytes_eq name.now q.now) true b) (h.is q) ∙ sym (one_more names name.now q.now);
}

-- the fault of an inner value is the first
pub inner_fault : (path_of : List ℕ → List ℕ) (o rest : Option DocFault) (fault result : DocFault) → FailsWith fault (unless_fault o) → IsFault result (fault_at path_of fault)
    → FailsWith result (unless_fault (option_or (inside path_of o) rest))
inner_fault path_of o rest fault Memory h i = tt
inner_fault path_of o rest Memory (At p c) h i = cc
inner_fault path_of None rest (At q e) (At p c) h i = cc
inner_fault path_of (Some f) rest (At q e) (At p c) h i = let same : f ≡ At q e = cc in ap (λ x. unless_fault (Some x)) (ap (fault_at path_of) same ∙ i)

-- an inner value has none
pub no_inner_fault : (path_of : List ℕ → List ℕ) (o rest : Option DocFault) → unless_fault o ≡ Ok tt → option_or (inside path_of o) rest ≡ rest
no_inner_fault path_of None rest e = refl
no_inner_fault path_of (Some f) rest e = cc

-- a name that its object has already
pub twice : (b : Bool) (name : List ℕ) (rest : Option DocFault) (result : DocFault) → b ≡ true → IsFault result (named_twice name) → FailsWith result (unless_fault (cond b (Some (named_twice name)) rest))
twice b name rest Memory e i = tt
twice b name rest (At path cause) e i = ap (λ c. unless_fault (cond c (Some (named_twice name)) rest)) e ∙ ap (λ x. unless_fault (Some x)) i

-- ---- at a member of an object, which is at this place of its members

module _ {A : Type 0} (ms : List (Bor (List ℕ) × Value A)) (i : ℕ) (m : Bor (List ℕ) × Value A) (within : i < length ms) (is : m ≡ get_or ms i m)
    (so_far : repeated_in_members (names_of (take i ms)) (members_view (drop i ms)) ≡ repeated_in_members [] (members_view ms)) where
  names-more : names_of (take (i + 1) ms) ≡ names_of (take i ms) ++ m.0.now ∷ []
  names-more = rw (add-one, take-suc ms i m within, ← is) (map-append (λ n. n.0.now) (take i ms) (m ∷ []))

  at_member : repeated_in_members (names_of (take i ms)) (members_view (m ∷ drop (i + 1) ms)) ≡ repeated_in_members [] (members_view ms)
  at_member = ap (λ ns. repeated_in_members (names_of (take i ms)) (members_view ns)) (ap (λ n. n ∷ drop (i + 1) ms) is ∙ sym (drop_more ms i m within)) ∙ so_far

  abbrev after_name : Option DocFault
  after_name = option_or (inside (member_path m.0.now) (repeated_member (value_view m.1))) (repeated_in_members (names_of (take i ms) ++ m.0.now ∷ []) (members_view (drop (i + 1) ms)))

  new_member : is_one_of (names_of (take i ms)) m.0.now ≡ false → after_name ≡ repeated_in_members [] (members_view ms)
  new_member new = sym (ap (λ b. cond b (Some (named_twice m.0.now)) after_name) new) ∙ at_member

  pub repeated_name : (result : DocFault) → is_one_of (names_of (take i ms)) m.0.now ≡ true → IsFault result (named_twice m.0.now) → FailsWith result (unless_fault (repeated_in_members [] (members_view ms)))
  repeated_name result again fault = subst (λ o. FailsWith result (unless_fault o)) at_member (twice _ m.0.now after_name result again fault)

  pub fault_in_member : (fault result : DocFault) → is_one_of (names_of (take i ms)) m.0.now ≡ false → FailsWith fault (names_once (value_view m.1)) → IsFault result (fault_at (member_path m.0.now) fault)
      → FailsWith result (unless_fault (repeated_in_members [] (members_view ms)))
  fault_in_member fault result new fails at =
      subst (λ o. FailsWith result (unless_fault o)) (new_member new) (inner_fault (member_path m.0.now) (repeated_member (value_view m.1)) _ fault result fails at)

  pub after_member : is_one_of (names_of (take i ms)) m.0.now ≡ false → names_once (value_view m.1) ≡ Ok tt
      → repeated_in_members (names_of (take (i + 1) ms)) (members_view (drop (i + 1) ms)) ≡ repeated_in_members [] (members_view ms)
  after_member new none =
      ap (λ ns. repeated_in_members ns (members_view (drop (i + 1) ms))) names-more
      ∙ sym (no_inner_fault (member_path m.0.now) (repeated_member (value_view m.1)) (repeated_in_members (names_of (take i ms) ++ m.0.now ∷ []) (members_view (drop (i + 1) ms))) none)
      ∙ new_member new

  pub names_after : (old new : List (Bor (List ℕ))) → HasNames old (names_of (take i ms))
      → ((q : Bor (List ℕ)) → list_any (λ k. is_eq (slice_cmp nat_cmp q.now k.now)) new ≡ cond (is_eq (slice_cmp nat_cmp m.0.now q.now)) true (list_any (λ k. is_eq (slice_cmp nat_cmp q.now k.now)) old))
      → HasNames new (names_of (take (i + 1) ms))
  names_after old new h updates = subst (HasNames new) (sym names-more) (HasNames-more old new (names_of (take i ms)) m.0 h updates)

-- a name is new if it isn't in the set
pub is_one_of-added : (seen : List (Bor (List ℕ))) (names : List (List ℕ)) (name : Bor (List ℕ)) (added : Bool) → HasNames seen names
    → added ≡ not (list_any (λ k. is_eq (slice_cmp nat_cmp name.now k.now)) seen) → is_one_of names name.now ≡ not added
is_one_of-added seen names name added h e = sym (h.is name) ∙ twice_not (list_any (λ k. is_eq (slice_cmp nat_cmp name.now k.now)) seen) ∙ ap not (sym e)
  where
    twice_not : (b : Bool) → b ≡ not (not b)
    twice_not true = refl
    twice_not false = refl

-- ---- the value of a text

-- a text's value, where no object has a key twice
found_value : (o : Option json.Json) (d : Data) → option_and_then of_json o ≡ Some d → IsSomeAnd o HasUniqueKeys → value_of_found o ≡ Ok d
unfolding value_of_json
found_value None d e u = absurd u
found_value (Some j) d e u =
    ap (λ o. or_refuse (codes "not JSON") o >>= λ d. names_once j >>= λ _. Ok d) e ∙ ap (λ o. unless_fault o >>= λ _. Ok d) (repeated_member-none j u)

pub value_of_text-unique : (text : List ℕ) (d : Data) → read text ≡ Some d → IsSomeAnd (json_of_text text) HasUniqueKeys → value_of_text text ≡ Ok d
value_of_text-unique text d e u = found_value (json_of_text text) d e u

-- a text that isn't JSON, or whose JSON has no value
no_value : (o : Option json.Json) → option_and_then of_json o ≡ None → value_of_found o ≡ refuse (codes "not JSON")
unfolding value_of_json
no_value None e = refl
no_value (Some j) e = ap (λ o. or_refuse (codes "not JSON") o >>= λ d. names_once j >>= λ _. Ok d) e

pub value_of_text-refused : (text : List ℕ) → read text ≡ None → value_of_text text ≡ refuse (codes "not JSON")
value_of_text-refused text e = no_value (json_of_text text) e

-- the fault of a name that is repeated
then_fails : (fault : DocFault) (o : Option DocFault) (d : Data) → FailsWith fault (unless_fault o) → FailsWith fault (unless_fault o >>= λ _. Ok d)
then_fails Memory o d h = tt
then_fails (At path cause) o d h = ap (λ r. r >>= λ _. Ok d) h

found_fault : (o : Option json.Json) (d : Data) (fault : DocFault) → option_and_then of_json o ≡ Some d → IfSome o (λ j. FailsWith fault (names_once j)) → FailsWith fault (value_of_found o)
unfolding value_of_json
found_fault None d fault e h = cc
found_fault (Some j) d fault e h =
    subst (λ o. FailsWith fault (or_refuse (codes "not JSON") o >>= λ d. names_once j >>= λ _. Ok d)) (sym e) (then_fails fault (repeated_member j) d h)

pub value_of_text-repeated : (text : List ℕ) (d : Data) (fault : DocFault) → read text ≡ Some d → IfSome (document text) (λ j. FailsWith fault (names_once j)) → FailsWith fault (value_of_text text)
value_of_text-repeated text d fault e h =
    found_fault (json_of_text text) d fault e (subst (λ o. IfSome o (λ j. FailsWith fault (names_once j))) (sym (json_of_text-document text d e)) h)

pub fails_refused : (text : List ℕ) (result : DocFault) → read text ≡ None → IsFault result (fault_here (codes "not JSON")) → FailsWith result (value_of_text text)
fails_refused text Memory e i = tt
fails_refused text (At path cause) e i = value_of_text-refused text e ∙ ap (λ f. Err f) i

-- a value whose keys aren't unique has such a fault
no_fault : (o : Option DocFault) → unless_fault o ≡ Ok tt → o ≡ None
no_fault None e = refl
no_fault (Some fault) e = cc

pub names_once-repeated : (o : Option json.Json) (j : json.Json) → o ≡ Some j → IsSomeAnd o (λ i. ¬ (HasUniqueKeys i)) → names_once j ≡ Ok tt → ⊥
names_once-repeated o j is h none =
    let not_unique : ¬ (HasUniqueKeys j) = subst (λ p. IsSomeAnd p (λ i. ¬ (HasUniqueKeys i))) is h in
    not_unique (HasUniqueKeys-from_none j (no_fault (repeated_member j) none))
