use Rattle.std.specs.Prelude.{IsSomeAnd}
use Rattle.std.proofs.Common.{◌≡◌, ◌^◌, ◌<◌, List, length, map, sym, ap, subst, ◌∙◌, arith}
use Rattle.std.proofs.lemmas.List.{length-map}
use Rattle.json.specs.Token.{Token}
use Rattle.json.specs.Strict.{HasUniqueKeys}
use Rattle.json.specs.Tape.{node_token}
use Rattle.json.specs.declared.tape.Node.{Node}
use Rattle.tt_json.specs.Fit.{tokens_fit}
use Rattle.tt_json.proofs.FitLemmas.{read-unfit, read-refused, json_of_text-document}
use Rattle.tt_json.proofs.ItemsLemmas.{whole_value}
use Rattle.tt_json.proofs.tape.parse_strict.Goals as goal

few : (nodes : List Node) (ts : List Token) → map node_token nodes ≡ ts → length nodes < 2 ^ 64 → length ts < 2 ^ 64
few nodes ts same small = omega (arith, small, ap length same, length-map nodes node_token)

pub returns-then-fits-clause-value : goal.returns-then-fits-clause-value
returns-then-fits-clause-value g c =
    (whole_value c.args.text.now c.in-Ok.tape c.in-Ok.ensures.ok.0 (few _ _ c.nodes.ensures.tokens c.nodes.type_inv.0) c.in-Ok.ensures.ok.1 c.in-Ok.ensures.value (ap (tokens_fit 0) (sym c.nodes.ensures.tokens) ∙ sym c.if-fits.ensures)).0

pub returns-then-fits-clause-ok : goal.returns-then-fits-clause-ok
returns-then-fits-clause-ok g c =
    (whole_value c.args.text.now c.in-Ok.tape c.in-Ok.ensures.ok.0 (few _ _ c.nodes.ensures.tokens c.nodes.type_inv.0) c.in-Ok.ensures.ok.1 c.in-Ok.ensures.value (ap (tokens_fit 0) (sym c.nodes.ensures.tokens) ∙ sym c.if-fits.ensures)).1

pub returns-then-fits-clause-unique : goal.returns-then-fits-clause-unique
returns-then-fits-clause-unique g c =
    let read_is = (whole_value c.args.text.now c.in-Ok.tape c.in-Ok.ensures.ok.0 (few _ _ c.nodes.ensures.tokens c.nodes.type_inv.0) c.in-Ok.ensures.ok.1 c.in-Ok.ensures.value (ap (tokens_fit 0) (sym c.nodes.ensures.tokens) ∙ sym c.if-fits.ensures)).1 in
    subst (λ found. IsSomeAnd found HasUniqueKeys) (sym (json_of_text-document c.args.text.now _ read_is)) c.in-Ok.ensures.unique

pub returns-in-Ok-clause-invalid : goal.returns-in-Ok-clause-invalid
returns-in-Ok-clause-invalid g c same =
    read-unfit c.args.text.now (ap (tokens_fit 0) (sym c.in-Ok.ensures.ok.0 ∙ sym c.nodes.ensures.tokens) ∙ sym c.if-fits.ensures)

pub returns-clause-invalid : goal.returns-clause-invalid
returns-clause-invalid g c same = read-refused c.args.text.now (c.in-Err.ensures.invalid same)
