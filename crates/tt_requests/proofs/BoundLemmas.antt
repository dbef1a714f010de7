-- What is read within bounds is within them.
use Rattle.std.proofs.Common.{◌≡◌, ℕ, ◌≤◌, Bool, true, false, nat_lt, ◌||◌, List, Option, None, Some, Ok, codes, subst, arith}
use Rattle.std.specs.Option.{unwrap_or}
use Rattle.std.proofs.lemmas.Bool.{ltb-false}
use Rattle.serde_json.specs.Data.{Data}
use Rattle.serde_json.specs.Find.{get}
use Rattle.tt_grammar.specs.Fault.{with_path, member_path}
use Rattle.tt_grammar.specs.Decoder.{object, member, optional, read_optional, within, count, count_within}
use Rattle.tt_grammar.specs.Version.{oldest_session_version, newest_session_version}
use Rattle.tt_grammar.specs.Tables.{catalog}
use Rattle.tt_requests.specs.declared.opening.Opening.{Opening}
use Rattle.tt_requests.specs.Opening.{max_keep, usual_keep, max_records, usual_records, declaration}
use Rattle.tt_requests.proofs.StepBackLemmas.{ok_same, step, with_path-ok, choice-ok}

second : (x y : Bool) → (x || y) ≡ false → y ≡ false
second true y e = cc
second false y e = e

within-most : (least most n m : ℕ) → within least most n ≡ Ok m → m ≤ most
within-most least most n m e =
    let chosen = choice-ok (nat_lt n least || nat_lt most n) n m (codes "out of range") e in
    subst (λ k. k ≤ most) chosen.1 (ltb-false most n (second (nat_lt n least) (nat_lt most n) chosen.0))

pub count_within-most : (least most : ℕ) (d : Data) (n : ℕ) → count_within least most d ≡ Ok n → n ≤ most
count_within-most least most d n e =
    let counted = step (count d) (within least most) n e in
    within-most least most counted.value n counted.rest

read_optional-most : (name : List ℕ) (most usual : ℕ) (found : Option Data) (o : Option ℕ) → usual ≤ most
    → read_optional name (count_within 0 most) found ≡ Ok o → unwrap_or o usual ≤ most
read_optional-most name most usual None o few e = subst (λ p. unwrap_or p usual ≤ most) (ok_same e) few
read_optional-most name most usual (Some d) o few e =
    let read = step (with_path (member_path name) (count_within 0 most d)) _ o e in
    let counted = count_within-most 0 most d read.value (with_path-ok (member_path name) (count_within 0 most d) read.value read.is) in
    subst (λ p. unwrap_or p usual ≤ most) (ok_same read.rest) counted

-- what is declared keeps no more than openings may
pub record IsDeclared (v : Data) (opening : Opening) : Type 0 where
  pub tables : member (codes "tables") catalog v ≡ Ok opening.catalog
  pub keep : opening.keep ≤ max_keep
  pub records : opening.records ≤ max_records

pub is_declared : (v : Data) (opening : Opening) → declaration v ≡ Ok opening → IsDeclared v opening
unfolding declaration
is_declared v opening e =
    let read = step (object v) _ opening e in
    let version = step (member (codes "version") (count_within oldest_session_version newest_session_version) v) _ opening read.rest in
    let tables = step (member (codes "tables") catalog v) _ opening version.rest in
    let keep = step (optional (codes "keep") (count_within 0 max_keep) v) _ opening tables.rest in
    let records = step (optional (codes "records") (count_within 0 max_records) v) _ opening keep.rest in
    subst (IsDeclared v) (ok_same records.rest) (record {
      tables = tables.is;
      keep = read_optional-most (codes "keep") max_keep usual_keep (get (codes "keep") v) keep.value (omega arith) keep.is;
      records = read_optional-most (codes "records") max_records usual_records (get (codes "records") v) records.value (omega arith) records.is;
    })
