-- The rows of one table more are laid, and in the end those of all.
use Rattle.std.proofs.Common.{◌≡◌, length, sym, ap, subst, ◌∙◌, arith}
use Rattle.std.proofs.lemmas.Result.{IfOk-weaker}
use Rattle.tt_values.specs.Tables.{Tables}
use Rattle.tt_db.specs.Database.{Database, current_of_db}
use Rattle.tt_horizon.specs.Ground.{ground_writes, inserts_of_tables}
use Rattle.tt_horizon.specs.GroundEntries.{IsGround}
use Rattle.tt_horizon.specs.Laying.{AreLaid, with_last}
use Rattle.tt_horizon.proofs.LayingLemmas.{inserts_of_tables-more, laid-all}
use Rattle.tt_horizon.proofs.ground.database_of_rows.Goals as goal

pub loop-table-preserved : goal.loop-table-preserved
loop-table-preserved c =
    let X = current_of_db c.args.db.now c.args.time in
    let made = c.in_ok-add_table.ensures in
    let after = c.add_table.new.self in
    record {
      added = subst (λ ws. AreLaid ground_writes ws after.db.history after.waiting.items) (sym (inserts_of_tables-more c.loop-table.table X))
          (made.added (inserts_of_tables c.loop-table.table X) c.loop-table.invariant.added);
      catalog = made.catalog ∙ c.loop-table.invariant.catalog;
      limits = made.limits ∙ c.loop-table.invariant.limits;
      ground = made.ground c.loop-table.invariant.ground;
    }

pub returns : goal.returns
returns c =
    let db = c.args.db.now in
    let laid = c.loop-table.ground in
    let count = ap (λ (tables : Tables). length tables) c.catalog.ensures in
    let all : c.loop-table.table ≡ length db.catalog = omega (arith, c.loop-table-test.false, c.loop-table.auto.table-end, c.len-tables.ensures.count, count) in
    let is = laid-all db laid.db laid.waiting.items c.loop-table.table (current_of_db db c.args.time) c.loop-table.invariant.catalog c.loop-table.invariant.limits all c.loop-table.invariant.added in
    record {
      rows = IfOk-weaker c.finished.result (λ (made : Database). made ≡ with_last laid.db laid.waiting.items) _ (λ made last. last ∙ is) c.finished.ensures.last;
      ground = IfOk-weaker c.finished.result (λ (made : Database). IsGround laid.db → IsGround made) _ (λ made behind. behind c.loop-table.invariant.ground) c.finished.ensures.ground;
    }
