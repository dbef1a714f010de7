-- How a column moves a key.
use Rattle.std.proofs.Common.{◌≡◌, ℤ, Bool, true, false, ◌&&◌, ◌||◌, not, Option, None, Some, if◌then◌else◌, refl, sym, ap, ◌∙◌}
use Rattle.std.specs.Ordering.{int_eq}
use Rattle.tt_values.specs.declared.row.Row.{Row}
use Rattle.tt_versions.specs.declared.indexed_column.IndexedColumn.{IndexedColumn}
use Rattle.tt_versions.specs.Index.{has_key, keys_under, has_now, has_past, digest_at, is_digest, PutsKey, ListsCurrent, HasNoPast, MovesKey, LeavesDigest, ComesToDigest}
use Rattle.tt_versions.proofs.SidesLemmas.{same_key}

left-now : (e n f t : Bool) → (e ≡ true → n ≡ f) → ((t && e) || (not (f && e) && n)) ≡ (if e then t else n)
left-now true n f true at = refl
left-now true n true false at = refl
left-now true n false false at = at refl
left-now false n true true at = refl
left-now false n true false at = refl
left-now false n false true at = refl
left-now false n false false at = refl

left-past : (e p f t : Bool) → (not (t && e) && ((f && e) || p)) ≡ (if e then (p || f) && not t else p)
left-past true true true true = refl
left-past true true true false = refl
left-past true true false true = refl
left-past true true false false = refl
left-past true false true true = refl
left-past true false true false = refl
left-past true false false true = refl
left-past true false false false = refl
left-past false p true true = refl
left-past false p true false = refl
left-past false p false true = refl
left-past false p false false = refl

-- a key that leaves its digest and comes to another one moves
pub moves-replaced : (key : ℤ) (from to : Option ℤ) (c d e : IndexedColumn) → ((digest : ℤ) → has_now c digest key ≡ is_digest digest from) → LeavesDigest key from c d → ComesToDigest key to d e → MovesKey key to from c e
moves-replaced key from to c d e at leaves comes = record {
  position = comes.position ∙ leaves.position;
  now = λ digest q. comes.now digest q ∙ ap (λ n. (is_digest digest to && int_eq q key) || n) (leaves.now digest q)
      ∙ left-now (int_eq q key) (has_now c digest q) (is_digest digest from) (is_digest digest to) (λ same. ap (has_now c digest) (same_key q key same) ∙ at digest);
  past = λ digest q. comes.past digest q ∙ ap (λ p. not (is_digest digest to && int_eq q key) && p) (leaves.past digest q)
      ∙ left-past (int_eq q key) (has_past c digest q) (is_digest digest from) (is_digest digest to)
      ∙ past digest q (int_eq q key) refl;
}
  where
    past : (digest q : ℤ) (b : Bool) → int_eq q key ≡ b → (if b then (has_past c digest q || is_digest digest from) && not (is_digest digest to) else has_past c digest q)
        ≡ (if b then (has_past c digest key || is_digest digest from) && not (is_digest digest to) else has_past c digest q)
    past digest q true same = ap (λ k. (has_past c digest k || is_digest digest from) && not (is_digest digest to)) (same_key q key same)
    past digest q false other = refl

-- where the digest stays, nothing moves
stays-past : (p f : Bool) → (f && p) ≡ false → p ≡ ((p || f) && not f)
stays-past true true apart = cc
stays-past true false apart = refl
stays-past false true apart = refl
stays-past false false apart = refl

pub moves-nothing : (key : ℤ) (row : Option Row) (to : Option ℤ) (c : IndexedColumn) → ListsCurrent key row c → digest_at c.position row ≡ to → MovesKey key to to c c
moves-nothing key row to c current is = record {
  position = refl;
  now = λ digest q. now digest q (int_eq q key) refl;
  past = λ digest q. past digest q (int_eq q key) refl;
}
  where
    at : (digest : ℤ) → has_now c digest key ≡ is_digest digest to
    at digest = current.now digest ∙ ap (is_digest digest) is

    now : (digest q : ℤ) (b : Bool) → int_eq q key ≡ b → has_now c digest q ≡ (if b then is_digest digest to else has_now c digest q)
    now digest q true same = ap (has_now c digest) (same_key q key same) ∙ at digest
    now digest q false other = refl

    past : (digest q : ℤ) (b : Bool) → int_eq q key ≡ b → has_past c digest q ≡ (if b then (has_past c digest key || is_digest digest to) && not (is_digest digest to) else has_past c digest q)
    past digest q true same = ap (has_past c digest) (same_key q key same) ∙ stays-past (has_past c digest key) (is_digest digest to) (ap (λ n. n && has_past c digest key) (sym (at digest)) ∙ current.apart digest)
    past digest q false other = refl

-- a row without a value there, or one that is listed already, moves nothing either
seen-past : (p g t : Bool) → (t && p) ≡ false → (g ≡ true → (p || t) ≡ true) → p ≡ ((p || g) && not t)
seen-past true true true apart seen = cc
seen-past true true false apart seen = refl
seen-past true false true apart seen = cc
seen-past true false false apart seen = refl
seen-past false true true apart seen = refl
seen-past false true false apart seen = seen refl
seen-past false false true apart seen = refl
seen-past false false false apart seen = refl

pub moves-seen : (key : ℤ) (row : Option Row) (aside : Option ℤ) (c : IndexedColumn) → ListsCurrent key row c → ((digest : ℤ) → is_digest digest aside ≡ true → (has_past c digest key || has_now c digest key) ≡ true) → MovesKey key (digest_at c.position row) aside c c
moves-seen key row aside c current seen = record {
  position = refl;
  now = λ digest q. now digest q (int_eq q key) refl;
  past = λ digest q. past digest q (int_eq q key) refl;
}
  where
    to : ℤ → Bool
    to digest = is_digest digest (digest_at c.position row)

    now : (digest q : ℤ) (b : Bool) → int_eq q key ≡ b → has_now c digest q ≡ (if b then to digest else has_now c digest q)
    now digest q true same = ap (has_now c digest) (same_key q key same) ∙ current.now digest
    now digest q false other = refl

    past : (digest q : ℤ) (b : Bool) → int_eq q key ≡ b → has_past c digest q ≡ (if b then (has_past c digest key || is_digest digest aside) && not (to digest) else has_past c digest q)
    past digest q true same = ap (has_past c digest) (same_key q key same)
        ∙ seen-past (has_past c digest key) (is_digest digest aside) (to digest) (ap (λ n. n && has_past c digest key) (sym (current.now digest)) ∙ current.apart digest)
        (λ is. ap (λ n. has_past c digest key || n) (sym (current.now digest)) ∙ seen digest is)
    past digest q false other = refl

pub moves-none : (key : ℤ) (row : Option Row) (c : IndexedColumn) → ListsCurrent key row c → MovesKey key (digest_at c.position row) None c c
moves-none key row c current = moves-seen key row None c current (λ digest is. cc)

pub moves-in_past : (key digest : ℤ) (row : Option Row) (c : IndexedColumn) → ListsCurrent key row c → has_past c digest key ≡ true → MovesKey key (digest_at c.position row) (Some digest) c c
moves-in_past key digest row c current there = moves-seen key row (Some digest) c current (λ x is. ap (λ p. p || has_now c x key) (ap (λ d. has_past c d key) (same_key x digest is) ∙ there))

pub moves-in_now : (key digest : ℤ) (row : Option Row) (c : IndexedColumn) → ListsCurrent key row c → has_now c digest key ≡ true → MovesKey key (digest_at c.position row) (Some digest) c c
moves-in_now key digest row c current there =
    moves-seen key row (Some digest) c current (λ x is. ap (λ n. has_past c x key || n) (ap (λ d. has_now c d key) (same_key x digest is) ∙ there) ∙ always (has_past c x key))
  where
    always : (b : Bool) → (b || true) ≡ true
    always true = refl
    always false = refl

-- and another one is put into the past
put-past : (p g t : Bool) → (t && p) ≡ false → (t && g) ≡ false → ((g && true) || p) ≡ ((p || g) && not t)
put-past true true true apart other = cc
put-past true true false apart other = refl
put-past true false true apart other = cc
put-past true false false apart other = refl
put-past false true true apart other = cc
put-past false true false apart other = refl
put-past false false true apart other = refl
put-past false false false apart other = refl

pub moves-put : (key digest : ℤ) (row : Option Row) (c d : IndexedColumn) → ListsCurrent key row c → has_now c digest key ≡ false → d.position ≡ c.position → d.current ≡ c.current → PutsKey digest key c.past d.past
    → MovesKey key (digest_at c.position row) (Some digest) c d
moves-put key digest row c d current absent position same puts = record {
  position = position;
  now = λ x q. ap (λ sets. has_key (keys_under x sets) q) same ∙ now x q (int_eq q key) refl;
  past = λ x q. puts x q ∙ past x q (int_eq q key) refl;
}
  where
    to : ℤ → Bool
    to x = is_digest x (digest_at c.position row)

    now : (x q : ℤ) (b : Bool) → int_eq q key ≡ b → has_now c x q ≡ (if b then to x else has_now c x q)
    now x q true is = ap (has_now c x) (same_key q key is) ∙ current.now x
    now x q false other = refl

    apart : (x : ℤ) → (to x && has_past c x key) ≡ false
    apart x = ap (λ n. n && has_past c x key) (sym (current.now x)) ∙ current.apart x

    not_here : (x : ℤ) (b : Bool) → int_eq x digest ≡ b → (has_now c x key && b) ≡ false
    not_here x true is = ap (λ n. n && true) (ap (λ k. has_now c k key) (same_key x digest is) ∙ absent)
    not_here x false other = and-false (has_now c x key)
      where
        and-false : (b : Bool) → (b && false) ≡ false
        and-false true = refl
        and-false false = refl

    other : (x : ℤ) → (to x && int_eq x digest) ≡ false
    other x = ap (λ n. n && int_eq x digest) (sym (current.now x)) ∙ not_here x (int_eq x digest) refl

    past : (x q : ℤ) (b : Bool) → int_eq q key ≡ b → ((int_eq x digest && b) || has_past c x q) ≡ (if b then (has_past c x key || int_eq x digest) && not (to x) else has_past c x q)
    past x q true is = ap (λ k. (int_eq x digest && true) || has_past c x k) (same_key q key is) ∙ put-past (has_past c x key) (int_eq x digest) (to x) (apart x) (other x)
    past x q false is = skip (int_eq x digest)
      where
        skip : (g : Bool) → ((g && false) || has_past c x q) ≡ has_past c x q
        skip true = refl
        skip false = refl

-- a key that is nowhere is listed under its row's value
first-past : (p t : Bool) → p ≡ false → p ≡ ((p || false) && not t)
first-past true t none = cc
first-past false t none = refl

pub moves-first : (key : ℤ) (to : Option ℤ) (c d : IndexedColumn) → ListsCurrent key None c → HasNoPast key c → d.position ≡ c.position → d.past ≡ c.past
    → ((x q : ℤ) → has_now d x q ≡ ((is_digest x to && int_eq q key) || has_now c x q)) → MovesKey key to None c d
moves-first key to c d current none position same now = record {
  position = position;
  now = λ x q. now x q ∙ here x q (int_eq q key) refl;
  past = λ x q. ap (λ sets. has_key (keys_under x sets) q) same ∙ past x q (int_eq q key) refl;
}
  where
    on : (t : Bool) → ((t && true) || false) ≡ t
    on true = refl
    on false = refl

    off : (t n : Bool) → ((t && false) || n) ≡ n
    off true n = refl
    off false n = refl

    here : (x q : ℤ) (b : Bool) → int_eq q key ≡ b → ((is_digest x to && b) || has_now c x q) ≡ (if b then is_digest x to else has_now c x q)
    here x q true is = ap (λ n. (is_digest x to && true) || n) (ap (has_now c x) (same_key q key is) ∙ current.now x) ∙ on (is_digest x to)
    here x q false other = off (is_digest x to) (has_now c x q)

    past : (x q : ℤ) (b : Bool) → int_eq q key ≡ b → has_past c x q ≡ (if b then (has_past c x key || false) && not (is_digest x to) else has_past c x q)
    past x q true is = ap (has_past c x) (same_key q key is) ∙ first-past (has_past c x key) (is_digest x to) (none x)
    past x q false other = refl
