-- The bytes are UTF-8, since the text is.
use Rattle.tt_grammar.proofs.QuotingLemmas.{IsUtf8-quoted}
use Rattle.tt_grammar.proofs.quoting.quoted_text.Goals as goal

pub unwrap-requires : goal.unwrap-requires
unwrap-requires c = c.from_utf8.ensures.succeeds (rw (c.in_ok-push_quoted.ensures, c.new-bytes.ensures.items, c.as_bytes.ensures.value) (IsUtf8-quoted c.args.text.now c.utf8.text))
