-- Lines that are read piece by piece.
use Rattle.std.proofs.Common.{◌≡◌, ℕ, ◌+◌, ◌-◌, ◌<◌, ◌==◌, Bool, true, false, not, ◌&&◌, List, [], ◌∷◌, ◌++◌, length, take, drop, refl, sym, ap, ◌∙◌, arith, eqb-true, get_or-take, length-take, slice_index, suc, MatchOption, Option, None, Some}
use Rattle.std.proofs.lemmas.Bool.{and_from}
use Rattle.std.proofs.lemmas.List.{take-append-drop, take_rest, take_more}
use Rattle.std.proofs.lemmas.List.Folds.{list_all-append}
use Rattle.memchr.specs.Find.{IsFirstByte, is_byte}
use Rattle.tt_session.specs.Feeds.{HasFirstFeed, has_no_feed}

pub feed-more : (bytes more : List ℕ) → has_no_feed bytes ≡ true → has_no_feed more ≡ true → has_no_feed (bytes ++ more) ≡ true
feed-more bytes more e f = list_all-append (λ b. not (b == 10)) bytes more ∙ ap (λ t. t && has_no_feed more) e ∙ f

-- a search for line feeds that finds none, or the first

not_feed : (b : Bool) → ¬ (b ≡ true) → not b ≡ true
not_feed true other = absurd (other refl)
not_feed false _ = refl

pub no_feed : (bytes : List ℕ) → ((k : ℕ) → k < length bytes → ¬ ((slice_index bytes k == 10) ≡ true)) → has_no_feed bytes ≡ true
no_feed [] none = refl
no_feed (b ∷ bytes) none = and_from _ _ (not_feed (b == 10) (none 0 (omega arith))) (no_feed bytes (λ k few. none (suc k) (omega (arith, few))))

-- what stands before the first one
pub no_feed-before : (bytes : List ℕ) (n : ℕ) → n < length bytes → ((k : ℕ) → k < n → ¬ ((slice_index bytes k == 10) ≡ true)) → has_no_feed (take n bytes) ≡ true
no_feed-before bytes n within none =
    no_feed (take n bytes) (λ k few.
    let less : k < n = omega (arith, few, length-take n bytes) in
    λ is. none k less (ap (λ b. b == 10) (sym (get_or-take n bytes k 0 less)) ∙ is))

pub first_feed-found : (bytes : List ℕ) (r : Option ℕ) → IsFirstByte (is_byte 10) bytes r → MatchOption r (has_no_feed bytes ≡ true) (HasFirstFeed bytes)
first_feed-found bytes None found = no_feed bytes (λ k few. found k (omega arith) few)
first_feed-found bytes (Some n) found =
    let within : n < length bytes = found.0.high in
    record {
      within = within;
      before = no_feed-before bytes n within (λ k few. found.0.before k (omega arith) few);
      feed = eqb-true _ _ found.1;
    }

-- the bytes up to the first line feed, and the bytes with it
pub first_line : (bytes : List ℕ) (count : ℕ) → HasFirstFeed bytes count → take (count + 1) bytes ≡ take count bytes ++ 10 ∷ []
first_line bytes count first = take_more bytes count 0 first.within ∙ ap (λ b. take count bytes ++ b ∷ []) first.feed

pub rest_of : (bytes : List ℕ) (from : ℕ) → take from bytes ++ take (length bytes - from) (drop from bytes) ≡ bytes
rest_of bytes from = ap (λ l. take from bytes ++ l) (take_rest bytes from) ∙ take-append-drop from bytes
