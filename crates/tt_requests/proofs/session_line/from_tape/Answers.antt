-- A value that has a fault, and no version.
use Rattle.std.proofs.Common.{Ok, codes, sym, ap, ◌∙◌}
use Rattle.tt_json.specs.Tape.{value_at}
use Rattle.tt_grammar.specs.Decoder.{has}
use Rattle.tt_requests.proofs.SessionLineLemmas.{faulty-value}
use Rattle.tt_requests.proofs.session_line.from_tape.Goals as goal

pub returns-else-has : goal.returns-else-has
returns-else-has c =
    let none = ap (λ ts. has (codes "version") (value_at ts)) (sym c.root.ensures) ∙ sym c.has.ensures ∙ c.if-has.false in
    faulty-value c.args.version c.args.catalog.now (Ok (value_at c.args.tape.now)) c.in-Err.fault c.faulty.result none c.in-Err.ensures c.faulty.ensures.told c.faulty.ensures.known
