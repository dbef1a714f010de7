-- The column lists each row under its value, and no column before it has the position.
use Rattle.std.proofs.Common.{◌≡◌, ℤ, List, [], true, false, Some, slice_get, drop, w64, SFits, ◌==◌, rules, arith, sym, subst, ap, ◌∙◌}
use Rattle.std.proofs.lemmas.Int.{to_z-of_z}
use Rattle.std.proofs.lemmas.Grind.{common_steps}
use Rattle.std.proofs.lemmas.List.{drop_all}
use Rattle.std.proofs.lemmas.Option.{slice_get-get_or}
use Rattle.tt_versions.specs.declared.indexed_column.IndexedColumn.{IndexedColumn}
use Rattle.tt_versions.specs.Index.{IndexState, KeySet, keys_under, past_keys, size_together, size_with, CoversEqual}
use Rattle.tt_versions.specs.Keys.{merged}
use Rattle.tt_values.specs.Digest.{digest_of}
use Rattle.tt_values.specs.Matches.{equates}
use Rattle.tt_versions.proofs.IndexLemmas.{CoversEqual-column, size_with-here, size_with-skip, size_equated-equality}
use Rattle.tt_versions.proofs.index.Index.keys_equated.Goals as goal

pub returns-then-column-equal : goal.returns-then-column-equal
returns-then-column-equal c =
    let column = c.column-item.result in
    let items = c.deref-column-items.result.now in
    let at = c.loop-column.column-index in
    let there : slice_get items at ≡ Some column = slice_get-get_or items at column c.loop-column-test.true ∙ ap Some (sym c.column-item.is) in
    let all = c.deref-column-items.ensures.value ∙ ap (λ (i : IndexState). i.columns) c.self.view_is in
    let listed = subst (λ (cs : List IndexedColumn). slice_get cs at ≡ Some column) all there in
    let equality : equates c.args.equal.now ≡ true = cc (c.equates.ensures, c.if-not-equates.false) in
    let covers = CoversEqual-column c.args.reach c.args.self.now at column c.args.equal.now listed c.if-column-equal.true equality in
    let fits : SFits w64 c.digest.result = search rules in
    let digest = to_z-of_z w64 c.digest.result fits ∙ c.digest.ensures in
    let current = c.keys_under.ensures.current ∙ ap (λ (d : ℤ). keys_under d column.current) digest in
    let past = c.keys_under.ensures.past ∙ ap (λ (d : ℤ). past_keys c.args.reach d column) digest in
    let together = ap (λ (ks : KeySet). merged ks c.keys_under.result.past.now) current ∙ ap (merged (keys_under (digest_of c.args.equal.now.value) column.current)) past in
    let sizes = ap (λ (ks : KeySet). size_together ks c.keys_under.result.past.now) current ∙ ap (size_together (keys_under (digest_of c.args.equal.now.value) column.current)) past in
    let is : (column.position == c.args.equal.now.column) ≡ true = grind (arith, common_steps, c.if-column-equal.true) in
    record {
      covers = subst (λ (ks : KeySet). CoversEqual c.args.reach c.args.self.now ks c.args.equal.now) (sym together) covers;
      same = ap Some sizes ∙ sym (size_with-here c.args.reach c.args.self.now.columns at column c.args.equal.now listed is) ∙ c.loop-column.invariant ∙ sym (size_equated-equality c.args.reach c.args.self.now.columns c.args.equal.now equality);
    }

pub loop-column-preserved : goal.loop-column-preserved
loop-column-preserved c =
    let column = c.column-item.result in
    let items = c.deref-column-items.result.now in
    let at = c.loop-column.column-index in
    let there : slice_get items at ≡ Some column = slice_get-get_or items at column c.loop-column-test.true ∙ ap Some (sym c.column-item.is) in
    let all = c.deref-column-items.ensures.value ∙ ap (λ (i : IndexState). i.columns) c.self.view_is in
    let listed = subst (λ (cs : List IndexedColumn). slice_get cs at ≡ Some column) all there in
    let is : (column.position == c.args.equal.now.column) ≡ false = grind (arith, common_steps, c.if-column-equal.false) in
    size_with-skip c.args.reach c.args.self.now.columns at column c.args.equal.now listed is ∙ c.loop-column.invariant

pub returns-clause-same : goal.returns-clause-same
returns-clause-same c =
    let all = c.deref-column-items.ensures.value ∙ ap (λ (i : IndexState). i.columns) c.self.view_is in
    let left : drop c.loop-column.column-index c.args.self.now.columns ≡ [] =
    subst (λ (cs : List IndexedColumn). drop c.loop-column.column-index cs ≡ []) all (drop_all c.loop-column.column-index c.deref-column-items.result.now c.loop-column-test.false) in
    let equality : equates c.args.equal.now ≡ true = cc (c.equates.ensures, c.if-not-equates.false) in
    sym (ap (λ (cs : List IndexedColumn). size_with c.args.reach cs c.args.equal.now) left) ∙ c.loop-column.invariant ∙ sym (size_equated-equality c.args.reach c.args.self.now.columns c.args.equal.now equality)
