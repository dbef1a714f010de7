-- The unknown members of a write, where its context's members are known.
use Rattle.std.proofs.Common.{◌≡◌, ◌||◌, ℕ, Bool, true, bytes_eq, List, [], ◌∷◌, ◌++◌, map, Option, Result, Ok, Bor, false, codes, refl, sym, subst, ap, ◌∙◌, append_assoc}
use Rattle.std.specs.Bool.{⊤}
use Rattle.serde_json.specs.Data.{Data}
use Rattle.serde_json.specs.Find.{as_object}
use Rattle.tt_json.specs.Value.{is_among, least_unknown, names_of}
use Rattle.tt_grammar.specs.declared.fault.DocFault.{DocFault}
use Rattle.tt_grammar.specs.declared.statements.Context.{Context}
use Rattle.tt_grammar.specs.declared.statements.Context.TheVariants as contexts
use Rattle.tt_grammar.specs.Members.{is_one_of, refuse_member}
use Rattle.tt_grammar.specs.Statements.{members_at, no_members_at, no_members_but_at}
use Rattle.tt_grammar.proofs.KnownLemmas.{AreKnown, are_known, known-passes, not_there}
use Rattle.tt_grammar.proofs.EveryLemmas.{every-then}

pub unknown_in : (context : Context) (names : List (List ℕ)) (known : List (Bor (List ℕ))) (v : Data) (u : Option (List ℕ))
    → map (λ k. k.now) known ≡ members_at context → u ≡ least_unknown (is_among (map (λ k. k.now) known ++ names)) v → refuse_member u ≡ no_members_but_at context names v
unknown_in context names known v u e f = ap refuse_member (f ∙ ap (λ ns. least_unknown (is_among (ns ++ names)) v) e)

pub unknown_beside : (context : Context) (name : List ℕ) (names : List (List ℕ)) (known : List (Bor (List ℕ))) (v : Data) (u : Option (List ℕ))
    → map (λ k. k.now) known ≡ members_at context ++ name ∷ [] → u ≡ least_unknown (is_among (map (λ k. k.now) known ++ names)) v → refuse_member u ≡ no_members_but_at context (name ∷ names) v
unknown_beside context name names known v u e f =
    ap refuse_member (f ∙ ap (λ ns. least_unknown (is_among (ns ++ names)) v) e ∙ ap (λ ns. least_unknown (is_among ns) v) (append_assoc (members_at context) (name ∷ []) names))

-- a nested object has no members beside those of the write
pub in_nested : (context : Context) (names : List (List ℕ)) (v : Data) (refused : Result ⊤ DocFault) → context ≡ contexts.Nested → refused ≡ no_members_but_at context names v → refused ≡ no_members_at context names v
in_nested context names v refused is h = subst (λ c. refused ≡ no_members_but_at c names v → refused ≡ no_members_at c names v) (sym is) (λ g. g) h

-- a name that is one of these is one of more
still_one : (a b c rest : Bool) → a || (b || rest) ≡ true → a || (b || (c || rest)) ≡ true
still_one true b c rest e = refl
still_one false true c rest e = refl
still_one false false true rest e = refl
still_one false false false rest e = e

-- a request that writes and has no other members than these has no stamp, and passes where one is known
pub without_stamp : (names : List (List ℕ)) (v : Data) → is_one_of names (codes "stamp") ≡ false → no_members_but_at contexts.WriteRequest names v ≡ Ok tt → no_members_at contexts.WriteRequest names v ≡ Ok tt
without_stamp names v other h = rw (not_there (is_one_of without) (codes "stamp") v other known) (known-passes (is_one_of with_stamp) v more)
  where
    without : List (List ℕ)
    without = codes "if" ∷ codes "worker" ∷ names

    with_stamp : List (List ℕ)
    with_stamp = codes "if" ∷ codes "worker" ∷ codes "stamp" ∷ names

    known : AreKnown (is_one_of without) v
    known = are_known (is_one_of without) v h

    more : AreKnown (is_one_of with_stamp) v
    more =
        every-then (λ name. is_one_of without name ≡ true) (λ name. is_one_of with_stamp name ≡ true) (names_of (as_object v))
        (λ name e. still_one (bytes_eq name (codes "if")) (bytes_eq name (codes "worker")) (bytes_eq name (codes "stamp")) (is_one_of names name) e) known
