-- A document that is read is valid.
use Rattle.tt_document.proofs.DocumentLemmas.{valid-members_of_document}
use Rattle.tt_document.proofs.document.Document.from_json.Goals as goal

pub returns-in-Ok-clause-valid : goal.returns-in-Ok-clause-valid
returns-in-Ok-clause-valid g c = valid-members_of_document (g.V.JsonValue.json c.args.value.now) c.in-Ok.document c.in-Ok.ensures
