-- What `get_flag` reads of the row of an option without a value.
use Rattle.std.proofs.Common.{◌≡◌, ◌⊎◌, ◌∙◌, ap, Bool, List, None, Some, codes, false, inl, inr, refl, slice_get, sym, true}
use Rattle.clap.specs.Takes.{is_given}
use Rattle.clap.specs.Walk.{Row, Text, one_of}
use Rattle.clap.specs.declared.builder.value_parser.Reading.TheVariants.{AsWritten}
use Rattle.tt_cli.proofs.SubcommandLemmas.{HasFlag, HasNoRow, IsTrueText}
use Rattle.tt_cli.proofs.RowLemmas.{HasRow, IsDefault, IsGiven}

-- true exactly where the words give the flag
pub reads_flag : (id : Text) (rows : List Row) (read : Bool) → HasRow id AsWritten IsTrueText (codes "false") rows → (one_of id rows ≡ Some (codes "true") → read ≡ true)
    → (one_of id rows ≡ Some (codes "false") → read ≡ false) → read ≡ is_given id rows
reads_flag id rows read has when_true when_false = elim has.2 [ inl g ↦ from_words g | inr d ↦ from_default d ]
  where
    from_words : IsGiven id AsWritten IsTrueText has.0 → read ≡ is_given id rows
    from_words g =
        let text : slice_get has.0.values 0 ≡ Some (codes "true") = g.1 ∙ ap Some g.4 in
        let one : one_of id rows ≡ Some (codes "true") = rw (has.1, text, g.2) refl in
        let words : is_given id rows ≡ true = rw (has.1, g.3) refl in
        when_true one ∙ sym words

    from_default : IsDefault id AsWritten IsTrueText (codes "false") has.0 → read ≡ is_given id rows
    from_default d =
        let one : one_of id rows ≡ Some (codes "false") = rw (has.1, d.0, d.1) refl in
        let words : is_given id rows ≡ false = rw (has.1, d.2) refl in
        when_false one ∙ sym words

-- the same of a flag that one subcommand doesn't take
pub reads_flag_or_none : (id : Text) (rows : List Row) (read : Bool) → HasFlag id rows ⊎ HasNoRow id rows → (one_of id rows ≡ None → read ≡ false)
    → (one_of id rows ≡ Some (codes "true") → read ≡ true) → (one_of id rows ≡ Some (codes "false") → read ≡ false) → read ≡ is_given id rows
reads_flag_or_none id rows read has none when_true when_false = elim has [ inl row ↦ reads_flag id rows read row when_true when_false | inr no_row ↦ from_none no_row ]
  where
    from_none : HasNoRow id rows → read ≡ is_given id rows
    from_none no_row =
        let one : one_of id rows ≡ None = rw no_row refl in
        let words : is_given id rows ≡ false = rw no_row refl in
        none one ∙ sym words
