use Rattle.std.proofs.lemmas.Str.{IsUtf8-had}
use Rattle.tt_values.proofs.text.ShortText.as_str.Goals as goal

pub from_utf8_unchecked-requires : goal.from_utf8_unchecked-requires
from_utf8_unchecked-requires g = IsUtf8-had _ g.self.invariant.2
