-- From what was read back to what it was read from: each step of a reading, and what came of it.
use Rattle.std.proofs.Common.{◌≡◌, ℕ, suc, Bool, true, false, cond, nat_lt, List, [], ◌∷◌, length, Option, None, Some, Result, Ok, Err, codes, refl, ap, subst}
use Rattle.std.specs.Bool.{⊤}
use Rattle.std.specs.List.{AllByRecursion}
use Rattle.serde_json.specs.Data.{Data}
use Rattle.serde_json.specs.Find.{get}
use Rattle.tt_grammar.specs.declared.fault.DocFault.{DocFault}
use Rattle.tt_grammar.specs.Fault.{◌>>=◌, refuse, or_refuse, with_path, member_path, item_path}
use Rattle.tt_grammar.specs.Decoder.{within_limit, read_member, member}
use Rattle.tt_grammar.specs.Arrays.{each}

pub ok_same : {T : Type 0} {x y : T} → ◌≡◌ {A = Result T DocFault} (Ok x) (Ok y) → x ≡ y
ok_same e = cc

-- what a reading in two steps went through
pub record Step {A B : Type 0} (r : Result A DocFault) (f : A → Result B DocFault) (y : B) : Type 0 where
  pub value : A
  pub is : r ≡ Ok value
  pub rest : f value ≡ Ok y

pub step : {A B : Type 0} (r : Result A DocFault) (f : A → Result B DocFault) (y : B) → (r >>= f) ≡ Ok y → Step r f y
step (Ok x) f y e = record { value = x; is = refl; rest = e }
step (Err fault) f y e = cc

pub with_path-ok : {T : Type 0} (path_of : List ℕ → List ℕ) (r : Result T DocFault) (x : T) → with_path path_of r ≡ Ok x → r ≡ Ok x
with_path-ok path_of (Ok y) x e = e
with_path-ok path_of (Err fault) x e = cc

pub choice-ok : {T : Type 0} (b : Bool) (x y : T) (cause : List ℕ) → cond b (refuse cause) (Ok x) ≡ Ok y → (b ≡ false) × (x ≡ y)
choice-ok true x y cause e = cc
choice-ok false x y cause e = (refl, ok_same e)

-- what either of two readings gives, their choice gives
pub either-ok : {T P : Type 0} (b : Bool) (r s : Result T DocFault) (x : T) → cond b r s ≡ Ok x → (r ≡ Ok x → P) → (s ≡ Ok x → P) → P
either-ok true r s x e first second = first e
either-ok false r s x e first second = second e

pub or_refuse-ok : {T : Type 0} (cause : List ℕ) (found : Option T) (x : T) → or_refuse cause found ≡ Ok x → found ≡ Some x
or_refuse-ok cause None x e = cc
or_refuse-ok cause (Some y) x e = ap Some (ok_same e)

pub within_limit-ok : (limit : ℕ) (ds : List Data) (u : ⊤) → within_limit limit ds ≡ Ok u → nat_lt limit (length ds) ≡ false
within_limit-ok limit ds u e = (choice-ok {T = ⊤} (nat_lt limit (length ds)) tt u (codes "out of range") e).0

-- a JSON value that something is read from
pub record Source {T : Type 0} (decode : Data → Result T DocFault) (x : T) : Type 0 where
  pub value : Data
  pub is : decode value ≡ Ok x

read_member-ok : {T : Type 0} (name : List ℕ) (decode : Data → Result T DocFault) (found : Option Data) (x : T) → read_member name decode found ≡ Ok x → Source decode x
read_member-ok name decode None x e = cc
read_member-ok name decode (Some d) x e = record { value = d; is = with_path-ok (member_path name) (decode d) x e }

pub member-ok : {T : Type 0} (name : List ℕ) (decode : Data → Result T DocFault) (v : Data) (x : T) → member name decode v ≡ Ok x → Source decode x
member-ok name decode v x e = read_member-ok name decode (get name v) x e

-- there are as many meanings as items, and each of them has a property
pub record AreRead {T : Type 0} (P : T → Type 0) (ds : List Data) (xs : List T) : Type 0 where
  pub all : AllByRecursion P xs
  pub as_many : length xs ≡ length ds

-- what holds of whatever a decoder gives holds of each item that it reads
pub each-ok : {T : Type 0} (P : T → Type 0) (decode : Data → Result T DocFault) → ((d : Data) (x : T) → decode d ≡ Ok x → P x)
    → (i : ℕ) (ds : List Data) (xs : List T) → each decode i ds ≡ Ok xs → AreRead P ds xs
each-ok P decode holds i [] xs e = subst (AreRead P []) (ok_same e) (record { all = tt; as_many = refl })
each-ok P decode holds i (d ∷ ds) xs e =
    let first = step (with_path (item_path i) (decode d)) _ xs e in
    let others = step (each decode (suc i) ds) _ xs first.rest in
    let rest = each-ok P decode holds (suc i) ds others.value others.is in
    subst (AreRead P (d ∷ ds)) (ok_same others.rest) (record {
      all = (holds d first.value (with_path-ok (item_path i) (decode d) first.value first.is), rest.all);
      as_many = ap suc rest.as_many;
    })
