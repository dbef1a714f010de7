-- What a write of lines makes of a file at rest, and what a crash leaves of it.
use Rattle.std.proofs.Common.{◌≡◌, ℕ, ◌+◌, ◌-◌, ◌≤◌, List, ◌++◌, length, take, drop, refl, sym, ◌∙◌, ap, subst, arith, append_assoc, length-append}
use Rattle.std.proofs.lemmas.List.{take_at, drop_at, drop-drop, drop-replicate, length-replicate, replicate-append-replicate}
use Rattle.tt_log.specs.Lines.{logged, joined, zeros, IsJoined}
use Rattle.tt_log.specs.Crash.{IsMix, written_over, MayBeWritten, MayBeLonger, IsLonger}
use Rattle.tt_log.specs.Device.{Left, Only, Follows, Now}
use Rattle.tt_log.specs.Log.{IsAtRest, Keeps, KeepsFirst}
use Rattle.tt_log.proofs.LineLemmas.{AreLines-logged, logged-zeros, logged-grown, joined-append, AreLines-append}
use Rattle.tt_log.proofs.TornLemmas.{torn}

pub end_within : (file : List ℕ) → IsAtRest file → length (joined (logged file)) ≤ length file
end_within file rest = omega (arith, ap length rest.is, length-append (joined (logged file)) (zeros rest.room))

pub length-at_rest : (file : List ℕ) (rest : IsAtRest file) → length file ≡ length (joined (logged file)) + rest.room
length-at_rest file rest = omega (arith, ap length rest.is, length-append (joined (logged file)) (zeros rest.room), length-replicate {A = ℕ} rest.room 0)

over : (lines : List (List ℕ)) (bytes : List ℕ) (room : ℕ) → written_over (joined lines ++ zeros room) (length (joined lines)) bytes ≡ joined lines ++ (bytes ++ zeros (room - length bytes))
over lines bytes room =
    let stands = joined lines in
    let front : take (length stands) (stands ++ zeros room) ≡ stands = take_at stands (zeros room) (length stands) refl in
    let back : drop (length stands + length bytes) (stands ++ zeros room) ≡ zeros (room - length bytes) =
    sym (drop-drop (length bytes) (length stands) (stands ++ zeros room)) ∙ ap (drop (length bytes)) (drop_at stands (zeros room) (length stands) refl) ∙ drop-replicate (length bytes) room 0 in
    ap (λ (l : List ℕ). l ++ bytes ++ drop (length stands + length bytes) (stands ++ zeros room)) front
    ∙ ap (λ (l : List ℕ). stands ++ bytes ++ l) back
    ∙ append_assoc stands bytes (zeros (room - length bytes))

-- lines are written behind the lines of a file that is at rest
module _ (file bytes : List ℕ) (at_end : ℕ) (rest : IsAtRest file) (ends : at_end ≡ length (joined (logged file))) (waits : IsJoined bytes) where
  abbrev stands : List (List ℕ)
  stands = logged file

  pub written : written_over file at_end bytes ≡ joined stands ++ (joined (logged bytes) ++ zeros (rest.room - length bytes))
  written =
      ap (λ (f : List ℕ). written_over f at_end bytes) rest.is
      ∙ ap (λ (n : ℕ). written_over (joined stands ++ zeros rest.room) n bytes) ends
      ∙ over stands bytes rest.room
      ∙ ap (λ (l : List ℕ). joined stands ++ (l ++ zeros (rest.room - length bytes))) waits

  pub begun : (after : List ℕ) → MayBeWritten at_end bytes file after → (count : ℕ) × (count ≤ length (logged bytes)) × (logged after ≡ stands ++ take count (logged bytes))
  begun after crash =
      let from_old = subst (λ (f : List ℕ). IsMix f (written_over file at_end bytes) after) rest.is crash in
      let from_new = subst (λ (f : List ℕ). IsMix (joined stands ++ zeros rest.room) f after) written from_old in
      torn stands (logged bytes) rest.room (rest.room - length bytes) after (AreLines-logged file) (AreLines-logged bytes) from_new

  abbrev all : List (List ℕ)
  all = stands ++ logged bytes

  is_all : written_over file at_end bytes ≡ joined all ++ zeros (rest.room - length bytes)
  is_all =
      written
      ∙ sym (append_assoc (joined stands) (joined (logged bytes)) (zeros (rest.room - length bytes)))
      ∙ ap (λ (l : List ℕ). l ++ zeros (rest.room - length bytes)) (sym (joined-append stands (logged bytes)))

  pub logged-written : logged (written_over file at_end bytes) ≡ all
  logged-written = ap logged is_all ∙ logged-zeros all (rest.room - length bytes) (AreLines-append stands (logged bytes) (AreLines-logged file) (AreLines-logged bytes))

  pub at_rest-written : IsAtRest (written_over file at_end bytes)
  at_rest-written = record { room = rest.room - length bytes; is = is_all ∙ ap (λ (ls : List (List ℕ)). joined ls ++ zeros (rest.room - length bytes)) (sym logged-written) }

  pub length-written : at_end + length bytes ≤ length file → length (written_over file at_end bytes) ≡ length file
  length-written room =
      omega (
        arith,
        room,
        ends,
        ap length waits,
        ap length written,
        length-at_rest file rest,
        length-append (joined stands) (joined (logged bytes) ++ zeros (rest.room - length bytes)),
        length-append (joined (logged bytes)) (zeros (rest.room - length bytes)),
        length-replicate {A = ℕ} (rest.room - length bytes) 0,
      )

  pub end-written : at_end + length bytes ≡ length (joined (logged (written_over file at_end bytes)))
  end-written =
      omega (arith, ends, ap length waits, ap (λ (ls : List (List ℕ)). length (joined ls)) logged-written, ap length (joined-append stands (logged bytes)), length-append (joined stands) (joined (logged bytes)))

  pub crash_begun : (old new : List ℕ → Type 0) (shown : List ℕ) → Only file old → Follows (MayBeWritten at_end bytes) old new
      → (left : Left) → Now new shown left → KeepsFirst stands (logged bytes) shown left
  crash_begun old new shown only follows left now =
      let from = follows left.file now.0 in
      let is = begun left.file (subst (λ (f : List ℕ). MayBeWritten at_end bytes f left.file) (only from.0 from.1) from.2) in
      record { count = is.0; no_more = is.1; lines_are = is.2; shown_is = now.1 }

-- a file that is made longer
pub at_rest-grown : (len : ℕ) (file after : List ℕ) → IsAtRest file → MayBeLonger len file after → IsAtRest after
at_rest-grown len file after rest grown =
    let same : logged after ≡ logged file = ap logged grown.longer ∙ logged-grown file grown.more in
    record {
      room = rest.room + grown.more;
      is = grown.longer
          ∙ ap (λ (l : List ℕ). l ++ zeros grown.more) rest.is
          ∙ append_assoc (joined (logged file)) (zeros rest.room) (zeros grown.more)
          ∙ ap (λ (l : List ℕ). joined (logged file) ++ l) (replicate-append-replicate rest.room grown.more 0)
          ∙ ap (λ (ls : List (List ℕ)). joined ls ++ zeros (rest.room + grown.more)) (sym same);
    }

pub logged-longer : (len : ℕ) (file after : List ℕ) → MayBeLonger len file after → logged after ≡ logged file
logged-longer len file after grown = ap logged grown.longer ∙ logged-grown file grown.more

-- nothing of the new length is missing
pub longer : (len : ℕ) (file after : List ℕ) → IsLonger len file after → MayBeLonger len file after
longer len file after is = record { more = len - length file; longer = is; no_longer = omega arith }

pub crash_grown : (len : ℕ) (file : List ℕ) (old new : List ℕ → Type 0) (shown : List ℕ) → Only file old → Follows (MayBeLonger len) old new
    → (left : Left) → Now new shown left → Keeps (logged file) shown left
crash_grown len file old new shown only follows left now =
    let from = follows left.file now.0 in
    record { lines_are = logged-longer len file left.file (subst (λ (f : List ℕ). MayBeLonger len f left.file) (only from.0 from.1) from.2); shown_is = now.1 }
