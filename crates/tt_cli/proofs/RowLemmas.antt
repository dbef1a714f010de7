-- The row of one argument: the words' own, whose first value passes, or the default.
use Rattle.std.proofs.Common.{◌≡◌, ◌∷◌, ◌++◌, ◌⊎◌, [], Bool, List, Some, None, bytes_eq, cond, false, find, inl, inr, refl, slice_get, subst, true, ◌||◌}
use Rattle.std.specs.List.{AllByRecursion as Each}
use Rattle.std.specs.Prelude.{⊤, Option}
use Rattle.clap.specs.Takes.{is_given}
use Rattle.clap.specs.Walk.{Row, Text, first_of, at_row, has_row, more_values, with_values, without}
use Rattle.tt_cli.specs.CommandLine.{given_text}
use Rattle.clap.specs.declared.builder.value_parser.Reading.{Reading}
use Rattle.clap.specs.declared.parser.matches.ValueSource.{ValueSource}
use Rattle.clap.specs.declared.parser.matches.ValueSource.TheVariants.{CommandLine, DefaultValue}

-- a new row of an argument
abbrev pub new_row : Text → Reading → ValueSource → List Text → Row
new_row name by s vs = record { id = name; values = vs; count = None; source = Some s; reading = by }

first_stays : (xs ys : List Text) (v : Text) → slice_get xs 0 ≡ Some v → slice_get (xs ++ ys) 0 ≡ Some v
first_stays [] ys v e = absurd (cc)
first_stays (x ∷ xs) ys v e = e

module _ (id : Text) (how : Reading) (Passes : Text → Type 0) where
  -- the row is the words'
  abbrev pub IsGiven : Row → Type 0
  IsGiven r = (v : Text) × (slice_get r.values 0 ≡ Some v) × (r.reading ≡ how) × (r.source ≡ Some CommandLine) × Passes v

  abbrev pub Fits : Row → Type 0
  Fits r = bytes_eq r.id id ≡ true → IsGiven r

  abbrev pub AllFit : List Row → Type 0
  AllFit = Each Fits

  each_append : (xs ys : List Row) → AllFit xs → AllFit ys → AllFit (xs ++ ys)
  each_append [] ys p q = q
  each_append (x ∷ xs) ys p q = (p.0, each_append xs ys p.1 q)

  at_row_keeps : (name : Text) (change : Row → List Row) (missing : List Row) → ((r : Row) → Fits r → AllFit (change r)) → AllFit missing
      → (rows : List Row) → AllFit rows → AllFit (at_row name change missing rows)
  at_row_keeps name change missing changed more [] p = more
  at_row_keeps name change missing changed more (r ∷ rs) p =
      go (bytes_eq r.id name) (at_row_keeps name change missing changed more rs p.1)
    where
      go : (b : Bool) → AllFit (at_row name change missing rs) → AllFit (cond b (change r ++ rs) (r ∷ at_row name change missing rs))
      go true below = each_append (change r) rs (changed r p.0) p.1
      go false below = (p.0, below)

  more_fits : (s : ValueSource) (vs : List Text) (r : Row) → Fits r → AllFit (more_values s vs r)
  more_fits s vs r fits = (
    λ same.
        let g = fits same in
        (g.0, first_stays r.values vs g.0 g.1, g.2, rw g.3 refl, g.4),
    tt,
  )

  -- values for some argument keep the rows, if the row that they may add fits
  pub values_keep : (name : Text) (by : Reading) (s : ValueSource) (vs : List Text) → Fits (new_row name by s vs)
      → (rows : List Row) → AllFit rows → AllFit (with_values name by s vs rows)
  values_keep name by s vs new rows p = at_row_keeps name (more_values s vs) (new_row name by s vs ∷ []) (more_fits s vs) (new, tt) rows p

  -- so does a use, which replaces the row
  pub use_keeps : (name : Text) (by : Reading) (s : ValueSource) (vs : List Text) → Fits (new_row name by s vs)
      → (rows : List Row) → AllFit rows → AllFit (with_values name by s vs (without name rows))
  use_keeps name by s vs new rows p = values_keep name by s vs new (without name rows) (at_row_keeps name (λ _. []) [] (λ r fits. tt) tt rows p)

  -- and so does the default of an argument
  pub default_keeps : (name : Text) (by : Reading) (vs : List Text) → Fits (new_row name by DefaultValue vs)
      → (rows : List Row) → AllFit rows → AllFit (cond (has_row name rows) rows (with_values name by DefaultValue vs rows))
  default_keeps name by vs new rows p = go (has_row name rows)
    where
      go : (b : Bool) → AllFit (cond b rows (with_values name by DefaultValue vs rows))
      go true = p
      go false = values_keep name by DefaultValue vs new rows p

  module _ (usual : Text) where
    -- the row is the default
    abbrev pub IsDefault : Row → Type 0
    IsDefault r = (slice_get r.values 0 ≡ Some usual) × (r.reading ≡ how) × (r.source ≡ Some DefaultValue)

    abbrev pub HasRow : List Row → Type 0
    HasRow rows = (r : Row) × (find (λ x. bytes_eq x.id id) rows ≡ Some r) × (IsGiven r ⊎ IsDefault r)

    given : (rows : List Row) → AllFit rows → has_row id rows ≡ true → HasRow rows
    given [] p e = absurd (cc)
    given (r ∷ rs) p e = go (bytes_eq r.id id) refl (λ f. given rs p.1 f) e
      where
        go : (b : Bool) → bytes_eq r.id id ≡ b → (has_row id rs ≡ true → HasRow rs) → (b || has_row id rs) ≡ true → HasRow (r ∷ rs)
        go true same further f = (r, rw same refl, inl (p.0 same))
        go false other further f =
            let below = further f in
            (below.0, rw other below.1, below.2)

    abbrev defaulted : List Row → List Row
    defaulted = with_values id how DefaultValue (usual ∷ [])

    added : bytes_eq id id ≡ true → (rows : List Row) → has_row id rows ≡ false → HasRow (defaulted rows)
    added self [] e = (new_row id how DefaultValue (usual ∷ []), rw self refl, inr (refl, refl, refl))
    added self (r ∷ rs) e = go (bytes_eq r.id id) refl (λ f. added self rs f) e
      where
        go : (b : Bool) → bytes_eq r.id id ≡ b → (has_row id rs ≡ false → HasRow (defaulted rs)) → (b || has_row id rs) ≡ false → HasRow (defaulted (r ∷ rs))
        go true same further f = absurd (cc)
        go false other further f =
            let below = further f in
            rw other (below.0, rw other below.1, below.2)

    -- where the words give no row, the default does
    pub default_has : bytes_eq id id ≡ true → (rows : List Row) → AllFit rows → HasRow (cond (has_row id rows) rows (defaulted rows))
    default_has self rows p = go (has_row id rows) refl
      where
        go : (b : Bool) → has_row id rows ≡ b → HasRow (cond b rows (defaulted rows))
        go true has = given rows p has
        go false none = added self rows none

    -- the default of another argument leaves the row
    pub default_stays : (name : Text) (by : Reading) (vs : List Text) (rows : List Row) → HasRow rows
        → HasRow (cond (has_row name rows) rows (with_values name by DefaultValue vs rows))
    default_stays name by vs rows has = go (has_row name rows) refl
      where
        stays : (rows : List Row) → has_row name rows ≡ false → HasRow rows → HasRow (with_values name by DefaultValue vs rows)
        stays [] none has = absurd (cc)
        stays (r ∷ rs) none has = at (bytes_eq r.id name) none (λ f below. stays rs f below)
          where
            behind : (c : Bool) → bytes_eq r.id id ≡ c → cond c (Some r) (find (λ x. bytes_eq x.id id) rs) ≡ Some has.0
                → (HasRow rs → HasRow (with_values name by DefaultValue vs rs)) → HasRow (r ∷ with_values name by DefaultValue vs rs)
            behind true same e further =
                let is : has.0 ≡ r = cc in
                (r, rw same refl, subst (λ (x : Row). IsGiven x ⊎ IsDefault x) is has.2)
            behind false other e further =
                let below = further (has.0, e, has.2) in
                (below.0, rw other below.1, below.2)

            at : (b : Bool) → (b || has_row name rs) ≡ false
                → (has_row name rs ≡ false → HasRow rs → HasRow (with_values name by DefaultValue vs rs))
                → HasRow (cond b (more_values DefaultValue vs r ++ rs) (r ∷ with_values name by DefaultValue vs rs))
            at true f further = absurd (cc)
            at false f further = behind (bytes_eq r.id id) refl has.1 (further f)

        go : (b : Bool) → has_row name rows ≡ b → HasRow (cond b rows (with_values name by DefaultValue vs rows))
        go true any = has
        go false none = stays rows none has

-- ---- one default after another

-- the default of an argument: its name, how it is read, and its values
abbrev pub Default : Type 0
Default = Text × Reading × List Text

abbrev pub after_default : Default → List Row → List Row
after_default d rows = cond (has_row d.0 rows) rows (with_values d.0 d.1 DefaultValue d.2 rows)

abbrev pub after_defaults : List Default → List Row → List Row
after_defaults [] rows = rows
after_defaults (d ∷ ds) rows = after_defaults ds (after_default d rows)

-- the row of each default fits
abbrev pub DefaultsFit : Text → Reading → (Text → Type 0) → List Default → Type 0
DefaultsFit id how Passes ds = Each (λ d. Fits id how Passes (new_row d.0 d.1 DefaultValue d.2)) ds

-- the defaults of other arguments keep the rows
pub defaults_keep : (id : Text) (how : Reading) (Passes : Text → Type 0) (ds : List Default) → DefaultsFit id how Passes ds
    → (rows : List Row) → AllFit id how Passes rows → AllFit id how Passes (after_defaults ds rows)
defaults_keep id how Passes [] new rows p = p
defaults_keep id how Passes (d ∷ ds) new rows p =
    defaults_keep id how Passes ds new.1 (after_default d rows) (default_keeps id how Passes d.0 d.1 d.2 new.0 rows p)

-- and leave the row of an argument
defaults_stay : (id : Text) (how : Reading) (Passes : Text → Type 0) (usual : Text) (ds : List Default) (rows : List Row)
    → HasRow id how Passes usual rows → HasRow id how Passes usual (after_defaults ds rows)
defaults_stay id how Passes usual [] rows has = has
defaults_stay id how Passes usual (d ∷ ds) rows has =
    defaults_stay id how Passes usual ds (after_default d rows) (default_stays id how Passes usual d.0 d.1 d.2 rows has)

-- after the defaults of all arguments there is a row of this one
pub defaults_have : (id : Text) (how : Reading) (Passes : Text → Type 0) (usual : Text) → bytes_eq id id ≡ true → (before behind : List Default)
    → DefaultsFit id how Passes before → (rows : List Row) → AllFit id how Passes rows
    → HasRow id how Passes usual (after_defaults behind (after_default (id, how, usual ∷ []) (after_defaults before rows)))
defaults_have id how Passes usual self before behind new rows p =
    let first = after_defaults before rows in
    defaults_stay id how Passes usual behind (after_default (id, how, usual ∷ []) first)
    (default_has id how Passes usual self first (defaults_keep id how Passes before new rows p))

-- rows that fit no row of the argument have none
pub none_has : (id : Text) (how : Reading) (rows : List Row) → AllFit id how (λ _. ⊥) rows → find (λ x. bytes_eq x.id id) rows ≡ None
none_has id how [] p = refl
none_has id how (r ∷ rs) p = go (bytes_eq r.id id) refl (none_has id how rs p.1)
  where
    go : (b : Bool) → bytes_eq r.id id ≡ b → find (λ x. bytes_eq x.id id) rs ≡ None → cond b (Some r) (find (λ x. bytes_eq x.id id) rs) ≡ None
    go true same rest = absurd ((p.0 same).4)
    go false other rest = rest

-- rows that fit an argument have no row of it but the words'
given_of : (id : Text) (how : Reading) (rows : List Row) (r : Row) → AllFit id how (λ _. ⊤) rows → find (λ x. bytes_eq x.id id) rows ≡ Some r → IsGiven id how (λ _. ⊤) r
given_of id how [] r p e = absurd (cc)
given_of id how (x ∷ rows) r p e = go (bytes_eq x.id id) refl (given_of id how rows r p.1) e
  where
    go : (b : Bool) → bytes_eq x.id id ≡ b → (find (λ y. bytes_eq y.id id) rows ≡ Some r → IsGiven id how (λ _. ⊤) r) → cond b (Some x) (find (λ y. bytes_eq y.id id) rows) ≡ Some r
        → IsGiven id how (λ _. ⊤) r
    go true same rest f =
        let is : x ≡ r = cc in
        subst (IsGiven id how (λ _. ⊤)) is (p.0 same)
    go false other rest f = rest f

-- so the text that is read is the one that the words give
pub first_is_given : (id : Text) (how : Reading) (rows : List Row) → AllFit id how (λ _. ⊤) rows → first_of id rows ≡ given_text id rows
first_is_given id how rows p = go (find (λ x. bytes_eq x.id id) rows) refl
  where
    go : (o : Option Row) → find (λ x. bytes_eq x.id id) rows ≡ o → first_of id rows ≡ given_text id rows
    go None e = rw e refl
    go (Some r) e =
        let g = given_of id how rows r p e in
        rw (e, g.3) refl

-- and there is one where the argument is given
pub given_is_some : (id : Text) (how : Reading) (rows : List Row) → AllFit id how (λ _. ⊤) rows → is_given id rows ≡ true → (v : Text) × (first_of id rows ≡ Some v)
given_is_some id how rows p given = go (find (λ x. bytes_eq x.id id) rows) refl
  where
    go : (o : Option Row) → find (λ x. bytes_eq x.id id) rows ≡ o → (v : Text) × (first_of id rows ≡ Some v)
    go None e =
        let none : is_given id rows ≡ false = rw e refl in
        absurd (cc)
    go (Some r) e =
        let g = given_of id how rows r p e in
        (g.0, rw (e, g.1) refl)
