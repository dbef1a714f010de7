-- Why a database may go to another thread, and with it what a store publishes and its workers: each of their parts may.
use denote.RattleType.{RattleType}
use denote.Param.Send.{IsSend, IsSync, view_send, recorded_send, recorded_sync, struct_send, struct_sync, sendable}
use denote.Struct.Declared as structs
use Rattle.std.proofs.Crossing.{crosses, Arc-send, Arc-sync}
use Rattle.tt_pages.proofs.map.tree.Branch.TheLaws.TheKnot as map_tree
use Rattle.tt_pages.proofs.log.tree.Tree.TheLaws.TheKnot as log_tree
use Rattle.tt_pages.specs.contracts.map.tree.Branch.TheKnot as map_knot
use Rattle.tt_pages.specs.contracts.log.tree.Tree.TheKnot as log_knot
use Rattle.tt_pages.specs.contracts.map.PagedMap as map
use Rattle.tt_pages.specs.contracts.log.PagedLog as log
use Rattle.logbook.proofs.tokens.Seen.TheSendSync.{the_send as seen_send, the_sync as seen_sync}
use Rattle.tt_values.specs.contracts.text.Text as text_type
use Rattle.tt_values.specs.contracts.items.Items as items_type
use Rattle.tt_values.specs.declared.measured.Measured as measured
use Rattle.tt_values.specs.contracts.shared.Shared as shared_type
use Rattle.tt_values.specs.contracts.value.Value as value_type
use Rattle.tt_values.specs.contracts.row.Row as row_type
use Rattle.tt_values.specs.contracts.statement.Change as change_type
use Rattle.tt_values.specs.contracts.statement.Equal as equal_type
use Rattle.tt_values.specs.contracts.statement.Write as write_type
use Rattle.tt_values.specs.contracts.action.Action as action_type
use Rattle.tt_values.specs.contracts.reply.Reply as reply_type
use Rattle.tt_values.specs.contracts.table.Column as column_type
use Rattle.tt_values.specs.contracts.table.TableDef as table_def_type
use Rattle.tt_values.specs.contracts.catalog.Catalog as catalog_type
use Rattle.tt_versions.specs.contracts.version.Version as version_type
use Rattle.tt_versions.specs.contracts.version_log.VersionLog as version_log_type
use Rattle.tt_versions.specs.contracts.version_chain.VersionChain as chain_type
use Rattle.tt_versions.specs.contracts.next_chain.NextChain as next_chain_type
use Rattle.tt_versions.specs.contracts.lineage.Lineage as lineage_type
use Rattle.tt_versions.specs.contracts.indexed_column.IndexedColumn as indexed_column_type
use Rattle.tt_versions.specs.contracts.index.Index as index_type
use Rattle.tt_versions.specs.contracts.lineages.IndexedEntries as indexed_entries_type
use Rattle.tt_versions.specs.contracts.lineages.Lineages as lineages_type
use Rattle.tt_versions.specs.contracts.table.Table as table_type
use Rattle.tt_parts.specs.contracts.same_digest.SameDigest as same_digest_type
use Rattle.tt_parts.specs.contracts.dirty_rows.DirtyRows as dirty_rows_type
use Rattle.tt_parts.specs.contracts.dirty_partitions.DirtyPartitions as dirty_partitions_type
use Rattle.tt_parts.specs.contracts.dirty.Dirty as dirty_type
use Rattle.tt_repair_laws.specs.contracts.edit.Edit as edit_type
use Rattle.tt_values.specs.contracts.row_id.RowId as row_id_type
use Rattle.tt_generations.specs.contracts.slot.Slot as slot_type
use Rattle.tt_generations.specs.contracts.slot.KeptSlot as kept_slot_type
use Rattle.tt_generations.specs.contracts.row_ids.RowIds as row_ids_type
use Rattle.tt_generations.specs.contracts.edits.Replacement as replacement_type
use Rattle.tt_generations.specs.contracts.repair.Repair as repair_type
use Rattle.tt_generations.specs.contracts.boxed_repair.BoxedRepair as boxed_repair_type
use Rattle.tt_generations.specs.contracts.rows.Rows as rows_type
use Rattle.tt_generations.specs.contracts.generations.State as state_type
use Rattle.tt_generations.specs.contracts.generations.Generations as generations_type
use Rattle.tt_db.specs.contracts.event.Event as event_type
use Rattle.tt_db.specs.contracts.event.Entry as entry_type
use Rattle.tt_db.specs.contracts.history.History as history_type
use Rattle.tt_db.specs.contracts.closed.ClosedGeneration as closed_type
use Rattle.tt_db.specs.contracts.database.Parts as parts_type
use Rattle.tt_db.specs.contracts.database.Db as db_type
use Rattle.tt_store.specs.contracts.front.Front as front_type
use Rattle.tt_store.specs.contracts.snapshot.Snapshot as snapshot_type
use Rattle.tt_store.specs.contracts.worker.Worker as worker_type
use Rattle.tt_store.specs.contracts.store.Store as store_type
use Rattle.tt_store.specs.contracts.locked.Core as core_type
use Rattle.tt_store.specs.contracts.snapshot.Publisher as publisher_type
use Rattle.tt_store.specs.declared.snapshot.Naming as naming
use Rattle.std.specs.declared.sync.ledger.Ledger as ledger
use Rattle.crossbeam_utils.specs.declared.rule.Protocol as protocol
use Rattle.tt_store.specs.Published.{Published}
use mathlib.Core.List.{[], ◌∷◌}
use mir.Syntax.{Sym}
use denote.Ref.{NamedLft}
use denote.Struct.Field.{unit-field, shr_ref_field}
use denote.Struct.Tuple.{TupleAt}
use denote.Builtin.{unit, One}
use Rattle.std.specs.contracts.alloc.Global as heap
use Rattle.std.specs.contracts.impls.GlobalAllocator.TheImpl as allocator
use Rattle.left_right.specs.contracts.reader.Reader as reader
use Rattle.std.proofs.sync.ledger.Share.TheSendSync as share
use Rattle.std.proofs.sync.ledger.Book.TheSendSync as ledger_book
use Rattle.logbook.proofs.word.Word.TheSendSync as word
use Rattle.left_right.proofs.part.Part.TheSendSync as part
use Rattle.left_right.proofs.part.Deed.TheSendSync as deed
use Rattle.atomic_table.proofs.badge.Badge.TheSendSync as badge
use Rattle.atomic_table.proofs.shared.Seat.TheSendSync as seat
use Rattle.atomic_table.proofs.shared.Shared.TheSendSync as shared_table
use Rattle.atomic_table.proofs.ruled.Mark.TheSendSync as mark
use Rattle.atomic_table.proofs.ruled.RuledPerch.TheSendSync as ruled_perch
use Rattle.atomic_table.proofs.perch.Perch.TheSendSync as perch
use Rattle.atomic_table.proofs.send_lease.SendLease.TheSendSync as lease

ruleset tables = (
  part.the_send,
  part.the_sync,
  deed.the_send,
  badge.the_send,
  seat.the_send,
  shared_table.the_send,
  shared_table.the_sync,
  mark.the_send,
  ruled_perch.the_send,
  ruled_perch.the_sync,
  perch.the_send,
  perch.the_sync,
  lease.the_send,
  lease.the_sync,
)

module _ (V : RattleType) (s : IsSend V) (y : IsSync V) where
  map_tree_send : IsSend (map_knot.hole-Tree V)
  map_tree_send =
      map_tree.both_send-Tree V (search (crosses, sendable) depth 20) Arc-send (search (crosses, sendable) depth 20) (λ h s y. search (crosses, sendable) depth 20)
      (search (crosses, sendable) depth 20) Arc-sync (search (crosses, sendable) depth 20) (λ h s y. search (crosses, sendable) depth 20)

  map_tree_sync : IsSync (map_knot.hole-Tree V)
  map_tree_sync =
      map_tree.both_sync-Tree V (search (crosses, sendable) depth 20) Arc-send (search (crosses, sendable) depth 20) (λ h s y. search (crosses, sendable) depth 20)
      (search (crosses, sendable) depth 20) Arc-sync (search (crosses, sendable) depth 20) (λ h s y. search (crosses, sendable) depth 20)

  pub map_send : IsSend (map.the_row V)
  map_send = let a = map_tree_send in let b = map_tree_sync in search (crosses, sendable) depth 20

  pub map_sync : IsSync (map.the_row V)
  map_sync = let a = map_tree_send in let b = map_tree_sync in search (crosses, sendable) depth 20

module _ (T : RattleType) (s : IsSend T) (y : IsSync T) where
  log_tree_send : IsSend (log_knot.hole-Tree T)
  log_tree_send =
      log_tree.both_send-Tree T (search (crosses, sendable) depth 20) (search (crosses, sendable) depth 20) (λ h s y. search (crosses, sendable) depth 20)
      (search (crosses, sendable) depth 20) (search (crosses, sendable) depth 20) (λ h s y. search (crosses, sendable) depth 20)

  log_tree_sync : IsSync (log_knot.hole-Tree T)
  log_tree_sync =
      log_tree.both_sync-Tree T (search (crosses, sendable) depth 20) (search (crosses, sendable) depth 20) (λ h s y. search (crosses, sendable) depth 20)
      (search (crosses, sendable) depth 20) (search (crosses, sendable) depth 20) (λ h s y. search (crosses, sendable) depth 20)

  pub log_send : IsSend (log.the_row T)
  log_send = let a = log_tree_send in let b = log_tree_sync in search (crosses, sendable) depth 20

  pub log_sync : IsSync (log.the_row T)
  log_sync = let a = log_tree_send in let b = log_tree_sync in search (crosses, sendable) depth 20

pub text_send : IsSend text_type.the_row
text_send = search (crosses, sendable) depth 60 fits 50000

pub text_sync : IsSync text_type.the_row
text_sync = search (crosses, sendable) depth 60 fits 50000

module _ (T : RattleType) (size : measured.Ghosts T.Denot) (s : IsSend T) (y : IsSync T) where
  pub items_send : IsSend (items_type.the_row T size)
  items_send = search (crosses, sendable) depth 60 fits 50000

  pub items_sync : IsSync (items_type.the_row T size)
  items_sync = search (crosses, sendable) depth 60 fits 50000

module _ (T : RattleType) (s : IsSend T) (y : IsSync T) where
  pub shared_send : IsSend (shared_type.the_row T)
  shared_send = search (crosses, sendable) depth 60 fits 50000

  pub shared_sync : IsSync (shared_type.the_row T)
  shared_sync = search (crosses, sendable) depth 60 fits 50000

pub value_send : IsSend value_type.the_row
value_send = search (text_send, text_sync, crosses, sendable) depth 60 fits 50000

pub value_sync : IsSync value_type.the_row
value_sync = search (text_send, text_sync, crosses, sendable) depth 60 fits 50000

pub row_send : IsSend row_type.the_row
row_send = search (items_send, items_sync, value_send, value_sync, crosses, sendable) depth 60 fits 50000

pub row_sync : IsSync row_type.the_row
row_sync = search (items_send, items_sync, value_send, value_sync, crosses, sendable) depth 60 fits 50000

pub row_field_send : IsSend (row_type.the_field).row
row_field_send = search (items_send, items_sync, value_send, value_sync, crosses, sendable) depth 60 fits 50000

pub row_field_sync : IsSync (row_type.the_field).row
row_field_sync = search (items_send, items_sync, value_send, value_sync, crosses, sendable) depth 60 fits 50000

pub change_send : IsSend change_type.the_row
change_send = search (value_send, value_sync, crosses, sendable) depth 60 fits 50000

pub change_sync : IsSync change_type.the_row
change_sync = search (value_send, value_sync, crosses, sendable) depth 60 fits 50000

pub change_field_send : IsSend (change_type.the_field).row
change_field_send = search (value_send, value_sync, crosses, sendable) depth 60 fits 50000

pub change_field_sync : IsSync (change_type.the_field).row
change_field_sync = search (value_send, value_sync, crosses, sendable) depth 60 fits 50000

pub equal_send : IsSend equal_type.the_row
equal_send = search (value_send, value_sync, crosses, sendable) depth 60 fits 50000

pub equal_sync : IsSync equal_type.the_row
equal_sync = search (value_send, value_sync, crosses, sendable) depth 60 fits 50000

pub equal_field_send : IsSend (equal_type.the_field).row
equal_field_send = search (value_send, value_sync, crosses, sendable) depth 60 fits 50000

pub equal_field_sync : IsSync (equal_type.the_field).row
equal_field_sync = search (value_send, value_sync, crosses, sendable) depth 60 fits 50000

pub write_send : IsSend write_type.the_row
write_send = search (items_send, items_sync, row_send, row_sync, change_send, change_sync, equal_send, equal_sync, crosses, sendable) depth 60 fits 50000

pub write_sync : IsSync write_type.the_row
write_sync = search (items_send, items_sync, row_send, row_sync, change_send, change_sync, equal_send, equal_sync, crosses, sendable) depth 60 fits 50000

pub action_send : IsSend action_type.the_row
action_send = search (items_send, items_sync, write_send, write_sync, crosses, sendable) depth 60 fits 50000

pub action_sync : IsSync action_type.the_row
action_sync = search (items_send, items_sync, write_send, write_sync, crosses, sendable) depth 60 fits 50000

pub action_field_send : IsSend (action_type.the_field).row
action_field_send = search (items_send, items_sync, write_send, write_sync, crosses, sendable) depth 60 fits 50000

pub action_field_sync : IsSync (action_type.the_field).row
action_field_sync = search (items_send, items_sync, write_send, write_sync, crosses, sendable) depth 60 fits 50000

pub reply_send : IsSend reply_type.the_row
reply_send = search (items_send, items_sync, row_send, row_sync, crosses, sendable) depth 60 fits 50000

pub reply_sync : IsSync reply_type.the_row
reply_sync = search (items_send, items_sync, row_send, row_sync, crosses, sendable) depth 60 fits 50000

pub column_send : IsSend column_type.the_row
column_send = search (text_send, text_sync, crosses, sendable) depth 60 fits 50000

pub column_sync : IsSync column_type.the_row
column_sync = search (text_send, text_sync, crosses, sendable) depth 60 fits 50000

pub table_def_send : IsSend table_def_type.the_row
table_def_send = search (items_send, items_sync, column_send, column_sync, crosses, sendable) depth 60 fits 50000

pub table_def_sync : IsSync table_def_type.the_row
table_def_sync = search (items_send, items_sync, column_send, column_sync, crosses, sendable) depth 60 fits 50000

pub catalog_send : IsSend catalog_type.the_row
catalog_send = search (text_send, text_sync, table_def_send, table_def_sync, crosses, sendable) depth 60 fits 50000

pub catalog_sync : IsSync catalog_type.the_row
catalog_sync = search (text_send, text_sync, table_def_send, table_def_sync, crosses, sendable) depth 60 fits 50000

pub version_send : IsSend version_type.the_row
version_send = search (row_send, row_sync, crosses, sendable) depth 60 fits 50000

pub version_sync : IsSync version_type.the_row
version_sync = search (row_send, row_sync, crosses, sendable) depth 60 fits 50000

pub version_field_send : IsSend (version_type.the_field).row
version_field_send = search (row_send, row_sync, crosses, sendable) depth 60 fits 50000

pub version_field_sync : IsSync (version_type.the_field).row
version_field_sync = search (row_send, row_sync, crosses, sendable) depth 60 fits 50000

pub version_log_send : IsSend version_log_type.the_row
version_log_send = search (log_send, log_sync, version_send, version_sync, crosses, sendable) depth 60 fits 50000

pub version_log_sync : IsSync version_log_type.the_row
version_log_sync = search (log_send, log_sync, version_send, version_sync, crosses, sendable) depth 60 fits 50000

pub chain_send : IsSend chain_type.the_row
chain_send = search (version_log_send, version_log_sync, version_send, version_sync, version_field_send, version_field_sync, crosses, sendable) depth 60 fits 50000

pub chain_sync : IsSync chain_type.the_row
chain_sync = search (version_log_send, version_log_sync, version_send, version_sync, version_field_send, version_field_sync, crosses, sendable) depth 60 fits 50000

pub next_chain_send : IsSend next_chain_type.the_row
next_chain_send = search (chain_send, chain_sync, crosses, sendable) depth 60 fits 50000

pub next_chain_sync : IsSync next_chain_type.the_row
next_chain_sync = search (chain_send, chain_sync, crosses, sendable) depth 60 fits 50000

pub lineage_send : IsSend lineage_type.the_row
lineage_send = search (chain_send, chain_sync, next_chain_send, next_chain_sync, crosses, sendable) depth 60 fits 50000

pub lineage_sync : IsSync lineage_type.the_row
lineage_sync = search (chain_send, chain_sync, next_chain_send, next_chain_sync, crosses, sendable) depth 60 fits 50000

pub indexed_column_send : IsSend indexed_column_type.the_row
indexed_column_send = search (map_send, map_sync, crosses, sendable) depth 60 fits 50000

pub indexed_column_sync : IsSync indexed_column_type.the_row
indexed_column_sync = search (map_send, map_sync, crosses, sendable) depth 60 fits 50000

pub index_send : IsSend index_type.the_row
index_send = search (map_send, map_sync, indexed_column_send, indexed_column_sync, crosses, sendable) depth 60 fits 50000

pub index_sync : IsSync index_type.the_row
index_sync = search (map_send, map_sync, indexed_column_send, indexed_column_sync, crosses, sendable) depth 60 fits 50000

pub indexed_entries_field_send : IsSend (indexed_entries_type.the_field).row
indexed_entries_field_send = search (map_send, map_sync, lineage_send, lineage_sync, index_send, index_sync, crosses, sendable) depth 60 fits 50000

pub indexed_entries_field_sync : IsSync (indexed_entries_type.the_field).row
indexed_entries_field_sync = search (map_send, map_sync, lineage_send, lineage_sync, index_send, index_sync, crosses, sendable) depth 60 fits 50000

pub lineages_send : IsSend lineages_type.the_row
lineages_send = search (indexed_entries_field_send, indexed_entries_field_sync, crosses, sendable) depth 60 fits 50000

pub lineages_sync : IsSync lineages_type.the_row
lineages_sync = search (indexed_entries_field_send, indexed_entries_field_sync, crosses, sendable) depth 60 fits 50000

pub table_send : IsSend table_type.the_row
table_send = search (lineages_send, lineages_sync, crosses, sendable) depth 60 fits 50000

pub table_sync : IsSync table_type.the_row
table_sync = search (lineages_send, lineages_sync, crosses, sendable) depth 60 fits 50000

pub same_digest_send : IsSend same_digest_type.the_row
same_digest_send = search (items_send, items_sync, value_send, value_sync, crosses, sendable) depth 60 fits 50000

pub same_digest_sync : IsSync same_digest_type.the_row
same_digest_sync = search (items_send, items_sync, value_send, value_sync, crosses, sendable) depth 60 fits 50000

pub dirty_rows_send : IsSend dirty_rows_type.the_row
dirty_rows_send = search (map_send, map_sync, crosses, sendable) depth 60 fits 50000

pub dirty_rows_sync : IsSync dirty_rows_type.the_row
dirty_rows_sync = search (map_send, map_sync, crosses, sendable) depth 60 fits 50000

pub dirty_partitions_send : IsSend dirty_partitions_type.the_row
dirty_partitions_send = search (map_send, map_sync, same_digest_send, same_digest_sync, crosses, sendable) depth 60 fits 50000

pub dirty_partitions_sync : IsSync dirty_partitions_type.the_row
dirty_partitions_sync = search (map_send, map_sync, same_digest_send, same_digest_sync, crosses, sendable) depth 60 fits 50000

pub dirty_send : IsSend dirty_type.the_row
dirty_send = search (shared_send, shared_sync, catalog_send, catalog_sync, dirty_rows_send, dirty_rows_sync, dirty_partitions_send, dirty_partitions_sync, crosses, sendable) depth 60 fits 50000

pub dirty_sync : IsSync dirty_type.the_row
dirty_sync = search (shared_send, shared_sync, catalog_send, catalog_sync, dirty_rows_send, dirty_rows_sync, dirty_partitions_send, dirty_partitions_sync, crosses, sendable) depth 60 fits 50000

pub edit_send : IsSend edit_type.the_row
edit_send = search (action_field_send, action_field_sync, crosses, sendable) depth 60 fits 50000

pub edit_sync : IsSync edit_type.the_row
edit_sync = search (action_field_send, action_field_sync, crosses, sendable) depth 60 fits 50000

pub edit_field_send : IsSend (edit_type.the_field).row
edit_field_send = search (action_field_send, action_field_sync, crosses, sendable) depth 60 fits 50000

pub edit_field_sync : IsSync (edit_type.the_field).row
edit_field_sync = search (action_field_send, action_field_sync, crosses, sendable) depth 60 fits 50000

pub row_id_send : IsSend row_id_type.the_row
row_id_send = search (crosses, sendable) depth 60 fits 50000

pub row_id_sync : IsSync row_id_type.the_row
row_id_sync = search (crosses, sendable) depth 60 fits 50000

pub slot_send : IsSend slot_type.the_row
slot_send = search (items_send, items_sync, action_send, action_sync, reply_send, reply_sync, crosses, sendable) depth 60 fits 50000

pub slot_sync : IsSync slot_type.the_row
slot_sync = search (items_send, items_sync, action_send, action_sync, reply_send, reply_sync, crosses, sendable) depth 60 fits 50000

pub slot_field_send : IsSend (slot_type.the_field).row
slot_field_send = search (items_send, items_sync, action_send, action_sync, reply_send, reply_sync, crosses, sendable) depth 60 fits 50000

pub slot_field_sync : IsSync (slot_type.the_field).row
slot_field_sync = search (items_send, items_sync, action_send, action_sync, reply_send, reply_sync, crosses, sendable) depth 60 fits 50000

pub row_ids_send : IsSend row_ids_type.the_row
row_ids_send = search (items_send, items_sync, row_id_send, row_id_sync, crosses, sendable) depth 60 fits 50000

pub row_ids_sync : IsSync row_ids_type.the_row
row_ids_sync = search (items_send, items_sync, row_id_send, row_id_sync, crosses, sendable) depth 60 fits 50000

pub kept_slot_send : IsSend kept_slot_type.the_row
kept_slot_send = search (slot_field_send, slot_field_sync, row_ids_send, row_ids_sync, crosses, sendable) depth 60 fits 50000

pub kept_slot_sync : IsSync kept_slot_type.the_row
kept_slot_sync = search (slot_field_send, slot_field_sync, row_ids_send, row_ids_sync, crosses, sendable) depth 60 fits 50000

pub replacement_send : IsSend replacement_type.the_row
replacement_send = search (action_send, action_sync, crosses, sendable) depth 60 fits 50000

pub replacement_sync : IsSync replacement_type.the_row
replacement_sync = search (action_send, action_sync, crosses, sendable) depth 60 fits 50000

pub repair_send : IsSend repair_type.the_row
repair_send = search (items_send, items_sync, edit_send, edit_sync, map_send, map_sync, replacement_send, replacement_sync, dirty_send, dirty_sync, log_send, log_sync, kept_slot_send, kept_slot_sync, crosses, sendable) depth 60 fits 50000

pub repair_sync : IsSync repair_type.the_row
repair_sync = search (items_send, items_sync, edit_send, edit_sync, map_send, map_sync, replacement_send, replacement_sync, dirty_send, dirty_sync, log_send, log_sync, kept_slot_send, kept_slot_sync, crosses, sendable) depth 60 fits 50000

pub boxed_repair_send : IsSend boxed_repair_type.the_row
boxed_repair_send = search (repair_send, repair_sync, crosses, sendable) depth 60 fits 50000

pub boxed_repair_sync : IsSync boxed_repair_type.the_row
boxed_repair_sync = search (repair_send, repair_sync, crosses, sendable) depth 60 fits 50000

pub rows_send : IsSend rows_type.the_row
rows_send = search (table_send, table_sync, crosses, sendable) depth 60 fits 50000

pub rows_sync : IsSync rows_type.the_row
rows_sync = search (table_send, table_sync, crosses, sendable) depth 60 fits 50000

pub state_send : IsSend state_type.the_row
state_send = search (shared_send, shared_sync, catalog_send, catalog_sync, log_send, log_sync, kept_slot_send, kept_slot_sync, rows_send, rows_sync, boxed_repair_send, boxed_repair_sync, crosses, sendable) depth 60 fits 50000

pub state_sync : IsSync state_type.the_row
state_sync = search (shared_send, shared_sync, catalog_send, catalog_sync, log_send, log_sync, kept_slot_send, kept_slot_sync, rows_send, rows_sync, boxed_repair_send, boxed_repair_sync, crosses, sendable) depth 60 fits 50000

pub state_field_send : IsSend (state_type.the_field).row
state_field_send = search (shared_send, shared_sync, catalog_send, catalog_sync, log_send, log_sync, kept_slot_send, kept_slot_sync, rows_send, rows_sync, boxed_repair_send, boxed_repair_sync, crosses, sendable) depth 60 fits 50000

pub state_field_sync : IsSync (state_type.the_field).row
state_field_sync = search (shared_send, shared_sync, catalog_send, catalog_sync, log_send, log_sync, kept_slot_send, kept_slot_sync, rows_send, rows_sync, boxed_repair_send, boxed_repair_sync, crosses, sendable) depth 60 fits 50000

pub generations_send : IsSend generations_type.the_row
generations_send = search (state_field_send, state_field_sync, crosses, sendable) depth 60 fits 50000

pub generations_sync : IsSync generations_type.the_row
generations_sync = search (state_field_send, state_field_sync, crosses, sendable) depth 60 fits 50000

pub event_send : IsSend event_type.the_row
event_send = search (items_send, items_sync, action_field_send, action_field_sync, edit_send, edit_sync, crosses, sendable) depth 60 fits 50000

pub event_sync : IsSync event_type.the_row
event_sync = search (items_send, items_sync, action_field_send, action_field_sync, edit_send, edit_sync, crosses, sendable) depth 60 fits 50000

pub event_field_send : IsSend (event_type.the_field).row
event_field_send = search (items_send, items_sync, action_field_send, action_field_sync, edit_send, edit_sync, crosses, sendable) depth 60 fits 50000

pub event_field_sync : IsSync (event_type.the_field).row
event_field_sync = search (items_send, items_sync, action_field_send, action_field_sync, edit_send, edit_sync, crosses, sendable) depth 60 fits 50000

pub entry_send : IsSend entry_type.the_row
entry_send = search (event_field_send, event_field_sync, crosses, sendable) depth 60 fits 50000

pub entry_sync : IsSync entry_type.the_row
entry_sync = search (event_field_send, event_field_sync, crosses, sendable) depth 60 fits 50000

pub entry_field_send : IsSend (entry_type.the_field).row
entry_field_send = search (event_field_send, event_field_sync, crosses, sendable) depth 60 fits 50000

pub entry_field_sync : IsSync (entry_type.the_field).row
entry_field_sync = search (event_field_send, event_field_sync, crosses, sendable) depth 60 fits 50000

pub history_send : IsSend history_type.the_row
history_send = search (log_send, log_sync, entry_send, entry_sync, crosses, sendable) depth 60 fits 50000

pub history_sync : IsSync history_type.the_row
history_sync = search (log_send, log_sync, entry_send, entry_sync, crosses, sendable) depth 60 fits 50000

pub closed_send : IsSend closed_type.the_row
closed_send = search (generations_send, generations_sync, crosses, sendable) depth 60 fits 50000

pub closed_sync : IsSync closed_type.the_row
closed_sync = search (generations_send, generations_sync, crosses, sendable) depth 60 fits 50000

pub parts_field_send : IsSend (parts_type.the_field).row
parts_field_send = search (log_send, log_sync, history_send, history_sync, generations_send, generations_sync, closed_send, closed_sync, crosses, sendable) depth 60 fits 50000

pub parts_field_sync : IsSync (parts_type.the_field).row
parts_field_sync = search (log_send, log_sync, history_send, history_sync, generations_send, generations_sync, closed_send, closed_sync, crosses, sendable) depth 60 fits 50000

pub db_send : IsSend db_type.the_row
db_send = search (parts_field_send, parts_field_sync, crosses, sendable) depth 60 fits 50000

pub db_sync : IsSync db_type.the_row
db_sync = search (parts_field_send, parts_field_sync, crosses, sendable) depth 60 fits 50000

pub front_send : IsSend front_type.the_row
front_send = search (seen_send, seen_sync, crosses, sendable) depth 60 fits 50000

pub front_sync : IsSync front_type.the_row
front_sync = search (seen_send, seen_sync, crosses, sendable) depth 60 fits 50000

pub snapshot_send : IsSend snapshot_type.the_row
snapshot_send = search (shared_send, shared_sync, db_send, db_sync, front_send, front_sync, crosses, sendable) depth 60 fits 50000

pub snapshot_sync : IsSync snapshot_type.the_row
snapshot_sync = search (shared_send, shared_sync, db_send, db_sync, front_send, front_sync, crosses, sendable) depth 60 fits 50000

module _ (L : RattleType) (n : naming.Ghosts L.Denot) (l : ledger.Ghosts L.Denot) (p : protocol.Ghosts L.Denot Published (unit-field).Value) (s : IsSend L) (y : IsSync L) where
  reader_send : IsSend (reader.the_row snapshot_type.the_row unit L heap.the_row p allocator.ghosts)
  reader_send =
      search (snapshot_send, snapshot_sync, tables, crosses, sendable) depth 60 fits 50000

  inside_worker_send : IsSend (worker_type.TheInside.the_row L n l p)
  inside_worker_send =
      let t = worker_type.TheInside.the_type L n l p in
      recorded_send _ _ t.to t.to_one (struct_send (structs.shape t) (search (crosses, sendable) depth 20, (search (reader_send, crosses, sendable) depth 20, (search (snapshot_send, snapshot_sync, crosses, sendable) depth 20, (search (crosses, sendable) depth 20, (search (share.the_send, crosses, sendable) depth 20, tt))))))

  pub worker_send : IsSend (worker_type.the_row L n l p)
  worker_send = view_send (worker_type.TheInside.the_row L n l p) _ _ _ _ inside_worker_send

module _ (L R : RattleType) (n : naming.Ghosts L.Denot) (l : ledger.Ghosts L.Denot) (p : protocol.Ghosts L.Denot Published (unit-field).Value) (s : IsSend L) (y : IsSync L) (r : IsSend R) where
  publisher_send : IsSend (publisher_type.the_row L R p)
  publisher_send = search (snapshot_send, snapshot_sync, tables, crosses, sendable) depth 60 fits 50000

  inside_core_send : IsSend (core_type.TheInside.the_row L R n l p)
  inside_core_send =
      let t = core_type.TheInside.the_type L R n l p in
      recorded_send _ _ t.to t.to_one (struct_send (structs.shape t) (search (publisher_send, crosses, sendable) depth 20, (search (word.the_send, word.the_sync, crosses, sendable) depth 20, (search (snapshot_send, snapshot_sync, crosses, sendable) depth 20, (search (ledger_book.the_send, crosses, sendable) depth 20, (search (crosses, sendable) depth 20, (search (share.the_send, crosses, sendable) depth 20, tt)))))))

  core_send : IsSend (core_type.the_row L R n l p)
  core_send = view_send (core_type.TheInside.the_row L R n l p) _ _ _ _ inside_core_send

  module _ (G : RattleType) (g : IsSync G) where
    pub store_sync : IsSync (store_type.the_row L G R n l p)
    store_sync = let t = store_type.the_type L G R n l p in recorded_sync _ _ t.to t.to_one (struct_sync (structs.shape t) (search (crosses, sendable) depth 20, (search (core_send, crosses, sendable) depth 20, (search (crosses, sendable) depth 20, tt))))

-- a reference goes to another thread where what it points to may be shared
pub ref_send : (ℓ : NamedLft) (T : RattleType) (one : One T.mir) → IsSync T → IsSend (shr_ref_field ℓ T one).row
ref_send ℓ T one y = search sendable depth 10

-- what a thread of a store takes with it: references to a handle, an allocator and the store, and a worker
pub captures_send : (name : Sym) (ℓ₁ ℓ₂ ℓ₃ : NamedLft) (T A S W : RattleType) (one₁ : One T.mir) (one₂ : One A.mir) (one₃ : One S.mir)
    → IsSync T → IsSync A → IsSync S → IsSend W
    → IsSend (TupleAt name ((shr_ref_field ℓ₁ T one₁).row ∷ (shr_ref_field ℓ₂ A one₂).row ∷ (shr_ref_field ℓ₃ S one₃).row ∷ W ∷ []))
captures_send name ℓ₁ ℓ₂ ℓ₃ T A S W one₁ one₂ one₃ t y u w =
    let a = ref_send ℓ₁ T one₁ t in
    let b = ref_send ℓ₂ A one₂ y in
    let c = ref_send ℓ₃ S one₃ u in
    search sendable depth 30

-- the same without the allocator
pub few_captures_send : (name : Sym) (ℓ₁ ℓ₃ : NamedLft) (T S W : RattleType) (one₁ : One T.mir) (one₃ : One S.mir)
    → IsSync T → IsSync S → IsSend W
    → IsSend (TupleAt name ((shr_ref_field ℓ₁ T one₁).row ∷ (shr_ref_field ℓ₃ S one₃).row ∷ W ∷ []))
few_captures_send name ℓ₁ ℓ₃ T S W one₁ one₃ t u w =
    let a = ref_send ℓ₁ T one₁ t in
    let c = ref_send ℓ₃ S one₃ u in
    search sendable depth 30
