-- Lines of a report, one after another.
use Rattle.std.proofs.Common.{◌≡◌, ℕ, zero, suc, ◌+◌, Bool, List, [], ◌∷◌, ◌++◌, drop, Option, Some, None, Result, Ok, Err, IsErrAnd, IfErr, slice_get, refl, sym, ap, ◌∙◌, arith, append_assoc, codes}
use Rattle.tt_values.specs.declared.table.TableDef.{TableDef}
use Rattle.tt_values.specs.Tables.{Tables}
use Rattle.tt_db.specs.State.{State}
use Rattle.std.specs.Option.{option_map}
use Rattle.tt_records.specs.declared.changed.Changed.{Changed}
use Rattle.tt_document.specs.declared.document.Document.{Document}
use Rattle.tt_document.specs.declared.document.Call.{Call}
use Rattle.std.specs.List.{AllByRecursion}
use Rattle.std.proofs.lemmas.List.Elements.{recursion_from_All}
use Rattle.tt_document.specs.Document.{IsValidCall, IsValidDocument}
use Rattle.tt_workload.specs.declared.run_fault.RunFault.{RunFault}
use Rattle.std.specs.Fmt.{decimal}
use Rattle.tt_workload.specs.declared.run_fault.RunFault.TheVariants.{Memory}
use Rattle.tt_workload.specs.Printing.{replies_text}
use Rattle.tt_workload.specs.Records.{after_text, change_text}
use Rattle.tt_workload.specs.Room.{AreAccepted}
use Rattle.tt_workload.specs.Report.{table_line, table_lines}

pub drop-at : {X : Type 0} → (xs : List X) (i : ℕ) (x : X) → slice_get xs i ≡ Some x → drop i xs ≡ x ∷ drop (suc i) xs
drop-at [] i x h = cc
drop-at (y ∷ ys) zero x h = let same : y ≡ x = cc in ap (λ z. z ∷ ys) same
drop-at (y ∷ ys) (suc i) x h = drop-at ys i x h

-- the next line, and those after it
pub table_lines-next : (json : Bool) (S : State) (tables : Tables) (i : ℕ) (t : List ℕ × TableDef) (out all : List ℕ) → slice_get tables i ≡ Some t
    → out ++ table_lines json S i (drop i tables) ≡ all → (out ++ table_line json S i t.0) ++ table_lines json S (i + 1) (drop (i + 1) tables) ≡ all
table_lines-next json S tables i t out all there h =
    let next : i + 1 ≡ suc i = omega arith in
    append_assoc out (table_line json S i t.0) (table_lines json S (i + 1) (drop (i + 1) tables))
    ∙ ap (λ ts. out ++ (table_line json S i t.0 ++ table_lines json S (i + 1) ts)) (ap (λ j. drop j tables) next)
    ∙ ap (λ ts. out ++ table_lines json S i ts) (sym (drop-at tables i t there))
    ∙ h

-- the same, where the table is known by its name
pub table_lines-named : (json : Bool) (S : State) (tables : Tables) (i : ℕ) (name out all new : List ℕ) → Some name ≡ option_map (λ t. t.0) (slice_get tables i)
    → out ++ table_lines json S i (drop i tables) ≡ all → new ≡ out ++ table_line json S i name → new ++ table_lines json S (i + 1) (drop (i + 1) tables) ≡ all
table_lines-named json S tables i name out all new there h text = by (slice_get tables i) refl there
  where
    by : (o : Option (List ℕ × TableDef)) → slice_get tables i ≡ o → Some name ≡ option_map (λ t. t.0) o → new ++ table_lines json S (i + 1) (drop (i + 1) tables) ≡ all
    by None e g = cc
    by (Some t) e g =
        let same : name ≡ t.0 = cc in
        ap (λ ls. ls ++ table_lines json S (i + 1) (drop (i + 1) tables)) (text ∙ ap (λ n. out ++ table_line json S i n) same) ∙ table_lines-next json S tables i t out all e h

-- a labelled number and an end, one after another
pub labelled-once : (old first all label number end : List ℕ) → first ≡ old ++ (label ++ number) → all ≡ first ++ end → all ≡ old ++ (label ++ (number ++ end))
labelled-once old first all label number end p q = q ∙ ap (λ f. f ++ end) p ∙ simp append_assoc

-- two labelled numbers and an end, one after another
pub labelled-twice : (old first second all label_1 number_1 label_2 number_2 end : List ℕ)
    → first ≡ old ++ (label_1 ++ number_1) → second ≡ first ++ (label_2 ++ number_2) → all ≡ second ++ end
    → all ≡ old ++ (label_1 ++ (number_1 ++ (label_2 ++ (number_2 ++ end))))
labelled-twice old first second all label_1 number_1 label_2 number_2 end p q r =
    r ∙ ap (λ s. s ++ end) (q ∙ ap (λ f. f ++ (label_2 ++ number_2)) p) ∙ simp append_assoc

pub AreAccepted-valid_calls : (tables : Tables) (workers : ℕ) (cs : List Call) → AllByRecursion (IsValidCall tables workers) cs → AreAccepted tables cs
AreAccepted-valid_calls tables workers [] h = tt
AreAccepted-valid_calls tables workers (call ∷ cs) h = (h.0.is_accepted, AreAccepted-valid_calls tables workers cs h.1)

-- the tables of a valid document accept the statement of each call
pub AreAccepted-valid : (d : Document) → IsValidDocument d → AreAccepted d.catalog d.calls
AreAccepted-valid d valid = AreAccepted-valid_calls d.catalog d.workers d.calls (recursion_from_All (IsValidCall d.catalog d.workers) d.calls valid.valid_calls)

-- a fault that says that memory ran out
pub is_memory : {T : Type 0} (r : Result T RunFault) → IsErrAnd r (λ e. e ≡ Memory) → IfErr r (λ e. e ≡ Memory)
is_memory (Ok x) h = tt
is_memory (Err e) h = h

-- the pieces of the line of a changed reply, one after another
pub change-pieces : (label : List ℕ) (change : Changed) (out labelled spaced before arrow after all : List ℕ)
    → labelled ≡ out ++ (label ++ decimal change.call) → spaced ≡ labelled ++ codes " " → before ≡ spaced ++ replies_text change.before
    → arrow ≡ before ++ codes " -> " → after ≡ arrow ++ after_text change.after → all ≡ after ++ codes "\n" → all ≡ out ++ change_text label change
unfolding change_text
change-pieces label change out labelled spaced before arrow after all p q r s t u =
    u ∙ ap (λ o. o ++ codes "\n") (t ∙ ap (λ o. o ++ after_text change.after) (s ∙ ap (λ o. o ++ codes " -> ") (r ∙ ap (λ o. o ++ replies_text change.before) (q ∙ ap (λ o. o ++ codes " ") p))))
    ∙ simp append_assoc
