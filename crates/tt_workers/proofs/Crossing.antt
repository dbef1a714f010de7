-- What a thread of a run takes with it, and what it leaves.
use denote.RattleType.{RattleType}
use denote.Builtin.{One}
use denote.Param.Send.{IsSend, IsSync, recorded_sync, struct_sync, sendable}
use denote.Ref.{NamedLft}
use denote.Struct.Declared as structs
use denote.Struct.Field.{shr_ref_field, shr_slice_field, u64-field}
use denote.Struct.Tuple.{TupleAt}
use mathlib.Core.List.{[], ◌∷◌}
use mir.Syntax.{Sym}
use Rattle.std.proofs.Crossing.{crosses}
use Rattle.tt_values.specs.contracts.statement.Select as select_type
use Rattle.tt_document.specs.contracts.document.Ask as ask_type
use Rattle.tt_document.specs.contracts.document.Call as call_type
use Rattle.tt_grammar.specs.contracts.fault.DocFault as document_fault_type
use Rattle.tt_records.specs.contracts.record.What as what_type
use Rattle.tt_records.specs.contracts.record.Record as record_type
use Rattle.tt_store.specs.contracts.store.Store as store_type
use Rattle.tt_workload.specs.contracts.options.Options as options_type
use Rattle.tt_workload.specs.contracts.run_fault.RunFault as fault_type
use Rattle.tt_workers.specs.contracts.answered_call.AnsweredCall as answered_type
use Rattle.tt_workers.specs.contracts.run_context.RunContext as context_type
use Rattle.tt_store.proofs.Crossing.{text_send, text_sync, items_send, items_sync, equal_send, equal_sync, action_send, action_sync, action_field_send, action_field_sync, reply_send, reply_sync, store_sync}

pub select_send : IsSend select_type.the_row
select_send = search (items_send, items_sync, equal_send, equal_sync, crosses, sendable) depth 60 fits 50000

pub select_sync : IsSync select_type.the_row
select_sync = search (items_send, items_sync, equal_send, equal_sync, crosses, sendable) depth 60 fits 50000

pub select_field_send : IsSend (select_type.the_field).row
select_field_send = search (items_send, items_sync, equal_send, equal_sync, crosses, sendable) depth 60 fits 50000

pub select_field_sync : IsSync (select_type.the_field).row
select_field_sync = search (items_send, items_sync, equal_send, equal_sync, crosses, sendable) depth 60 fits 50000

pub ask_sync : IsSync ask_type.the_row
ask_sync = search (items_send, items_sync, action_send, action_sync, action_field_send, action_field_sync, select_send, select_sync, select_field_send, select_field_sync, crosses, sendable) depth 60 fits 50000

pub ask_field_sync : IsSync (ask_type.the_field).row
ask_field_sync = search (items_send, items_sync, action_send, action_sync, action_field_send, action_field_sync, select_send, select_sync, select_field_send, select_field_sync, crosses, sendable) depth 60 fits 50000

pub call_sync : IsSync call_type.the_row
call_sync = search (ask_sync, ask_field_sync, crosses, sendable) depth 60 fits 50000

pub what_send : IsSend what_type.the_row
what_send = search (items_send, items_sync, reply_send, reply_sync, select_send, select_sync, select_field_send, select_field_sync, crosses, sendable) depth 60 fits 50000

pub what_field_send : IsSend (what_type.the_field).row
what_field_send = search (items_send, items_sync, reply_send, reply_sync, select_send, select_sync, select_field_send, select_field_sync, crosses, sendable) depth 60 fits 50000

pub record_send : IsSend record_type.the_row
record_send = search (what_send, what_field_send, crosses, sendable) depth 60 fits 50000

pub record_field_send : IsSend (record_type.the_field).row
record_field_send = search (what_send, what_field_send, crosses, sendable) depth 60 fits 50000

pub answered_send : IsSend answered_type.the_row
answered_send = search (record_send, record_field_send, crosses, sendable) depth 60 fits 50000

pub document_fault_send : IsSend document_fault_type.the_row
document_fault_send = search (text_send, text_sync, crosses, sendable) depth 60 fits 50000

pub fault_send : IsSend fault_type.the_row
fault_send = search (document_fault_send, text_send, text_sync, crosses, sendable) depth 60 fits 50000

options_field_sync : IsSync (options_type.the_field).row
options_field_sync = search (crosses, sendable) depth 10

-- threads share what the steps of a run share
pub context_sync : (α β : NamedLft) (L G R : RattleType) (n : _) (l : _) (p : _) → IsSend L → IsSync L → IsSync G → IsSync R → IsSync (context_type.the_row α β L G R n l p)
context_sync α β L G R n l p s y g r =
    let t = context_type.the_type α β L G R n l p in
    let b : (T : RattleType) → IsSend T → IsSync (store_type.the_row L G T n l p) = λ T u. store_sync L T n l p s y u G g in
    recorded_sync _ _ t.to t.to_one (struct_sync (structs.shape t) (search (crosses, sendable) depth 20, (search (crosses, sendable) depth 20, (search (b, sendable) depth 20, (g, (options_field_sync, tt))))))

pub ref_sync : (ℓ : NamedLft) (T : RattleType) (one : One T.mir) → IsSync T → IsSync (shr_ref_field ℓ T one).row
ref_sync ℓ T one y = search sendable depth 10

pub slice_ref_sync : (ℓ : NamedLft) (T : RattleType) (one : One T.mir) → IsSync T → IsSync (shr_slice_field ℓ T one).row
slice_ref_sync ℓ T one y = search sendable depth 10

pub slice_ref_send : (ℓ : NamedLft) (T : RattleType) (one : One T.mir) → IsSync T → IsSend (shr_slice_field ℓ T one).row
slice_ref_send ℓ T one y = search sendable depth 10

pub u64_sync : IsSync (u64-field).row
u64_sync = search sendable depth 10

-- what a closure refers to, or takes with it, crosses if each part does
pub three_sync : {name : Sym} {A B C : RattleType} → IsSync A → IsSync B → IsSync C → IsSync (TupleAt name (A ∷ B ∷ C ∷ []))
three_sync a b c = search sendable depth 40

pub four_send : {name : Sym} {A B C D : RattleType} → IsSend A → IsSend B → IsSend C → IsSend D → IsSend (TupleAt name (A ∷ B ∷ C ∷ D ∷ []))
four_send a b c d = search sendable depth 40
