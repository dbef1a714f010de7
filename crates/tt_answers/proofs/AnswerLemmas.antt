-- The members of an answer.
use Rattle.std.proofs.Common.{◌≡◌, ◌++◌, map, codes, refl}
use Rattle.std.specs.List.{flat_map}
use Rattle.tt_requests.specs.Numbers.{Numbering}
use Rattle.tt_values.specs.Tables.{Tables}
use Rattle.tt_db.specs.declared.errors.DbError.TheVariants as errors
use Rattle.tt_db.specs.declared.errors.ReadError.TheVariants as read_errors
use Rattle.tt_grammar.specs.declared.fault.DocFault.TheVariants as faults
use Rattle.tt_grammar.specs.JsonText.{further_item, member_text, members_text}
use Rattle.tt_answers.specs.declared.answer.Refusal.TheVariants as refusals
use Rattle.tt_answers.specs.declared.answer.Answer.{Answer}
use Rattle.tt_answers.specs.declared.answer.Answer.TheVariants as answers
use Rattle.tt_answers.specs.AnswerText.{answer_members}

-- behind another member they begin with a comma, since every answer has one
pub further-members : (tables : Tables) (numbering : Numbering) (answer : Answer)
    → flat_map further_item (map member_text (answer_members tables numbering answer)) ≡ codes "," ++ members_text (answer_members tables numbering answer)
further-members tables numbering (answers.Standing status) = refl
further-members tables numbering (answers.Written slot replies) = refl
further-members tables numbering (answers.Selected time page) = refl
further-members tables numbering (answers.Previewed done page) = refl
further-members tables numbering (answers.Repairing progress) = refl
further-members tables numbering (answers.Finished generation slots rerun) = refl
further-members tables numbering (answers.Slots time entries) = refl
further-members tables numbering (answers.Changes first entries more) = refl
further-members tables numbering (answers.Causes done entries more) = refl
further-members tables numbering (answers.Differences done entries more) = refl
further-members tables numbering (answers.Trial slots rerun redone changed diff) = refl
further-members tables numbering (answers.Declared keep records) = refl
further-members tables numbering (answers.Faulty (faults.At path cause)) = refl
further-members tables numbering (answers.Faulty faults.Memory) = refl
further-members tables numbering (answers.Refused (refusals.Moved now)) = refl
further-members tables numbering (answers.Refused (refusals.NoSlot slot)) = refl
further-members tables numbering (answers.Refused (refusals.RepairOfAnother worker)) = refl
further-members tables numbering (answers.Refused refusals.Forgotten) = refl
further-members tables numbering (answers.Refused refusals.Log) = refl
further-members tables numbering (answers.Refused refusals.AnotherOpening) = refl
further-members tables numbering (answers.Refused (refusals.Event (errors.Statement fault))) = refl
further-members tables numbering (answers.Refused (refusals.Event errors.Repairing)) = refl
further-members tables numbering (answers.Refused (refusals.Event errors.NotRepairing)) = refl
further-members tables numbering (answers.Refused (refusals.Event (errors.NotCaughtUp left))) = refl
further-members tables numbering (answers.Refused (refusals.Event errors.NothingLeft)) = refl
further-members tables numbering (answers.Refused (refusals.Event (errors.NoSlot slot))) = refl
further-members tables numbering (answers.Refused (refusals.Event (errors.EditTwice slot))) = refl
further-members tables numbering (answers.Refused (refusals.Event errors.TooManyEdits)) = refl
further-members tables numbering (answers.Refused (refusals.Event (errors.Full limit))) = refl
further-members tables numbering (answers.Refused (refusals.Event errors.Memory)) = refl
further-members tables numbering (answers.Refused (refusals.Read (read_errors.Statement fault))) = refl
further-members tables numbering (answers.Refused (refusals.Read read_errors.NoReading)) = refl
further-members tables numbering (answers.Refused (refusals.Read read_errors.NotRepairing)) = refl
further-members tables numbering (answers.Refused (refusals.Read (read_errors.NoGeneration oldest newest))) = refl
further-members tables numbering (answers.Refused (refusals.Read (read_errors.Later now))) = refl
further-members tables numbering (answers.Refused (refusals.Read read_errors.Memory)) = refl
further-members tables numbering answers.OutOfMemory = refl
