-- What a walk over words that `clap` takes keeps: a property of its rows, and of the name of the
-- subcommand that it stops at.
use Rattle.std.proofs.Common.{◌≡◌, ◌∷◌, [], ◌&&◌, ℕ, Bool, List, Option, Some, None, cond, false, fold, find, is_some, length, not, refl, subst, suc, true, zero, drop, encode_utf8, slice_get, chars, bytes_eq}
use Rattle.std.specs.Prelude.{⊤}
use Rattle.std.specs.Option.{option_map_or}
use Rattle.std.specs.List.{AllByRecursion as Each}
use Rattle.clap.specs.Lexer.{long_of, short_of}
use Rattle.clap.specs.Kinds.{Kinds, or_else}
use Rattle.clap.specs.Simple.{Shape}
use Rattle.clap.specs.Walk.{Held, Names, Outcome, Row, Rule, Step, Text, Waiting, Walk, after_flag, after_step, arg_by_id, arg_by_index, arg_by_long, arg_by_short, attached_value, bundle, bundle_met, bundle_step, done, flag_met, has_long, has_short, idle, is_pending, long_met, long_or_other, next, option, option_met, option_word, plain, plain_word, positional, pushed, reacted, refused, settled, settled_rows, short_met, short_or_plain, subcommand, subcommand_met, subcommand_or_other, takes_several, takes_values, to_positional, trailing, used, used_by_id, value, waits, walked, walked_from, word_met}
use Rattle.clap.specs.declared.error.kind.ErrorKind.TheVariants as kind
use Rattle.clap.specs.Faults.{bundle_fault, bundle_step_fault, flag_word_fault, flags_fault, long_fault, option_fault, other_fault, positional_fault, react_fault, settle_fault, short_fault, step_fault, stray_fault, turn_fault, use_fault, walk_fault, word_fault}

-- where neither of two steps fails
pub none_of : (a b : Kinds) → or_else a b ≡ [] → (a ≡ []) × (b ≡ [])
none_of [] b e = (refl, e)
none_of (k ∷ ks) b e = absurd (cc)

-- each use of the rule that doesn't fail keeps the property of the rows
abbrev pub Keeps : Bool → (List Row → Type 0) → Rule → Type 0
Keeps again P a = (values : List Text) (rows : List Row) → P rows → use_fault again a values rows ≡ []
    → P (used a values rows)

pub find_each : {X : Type 0} (G : X → Type 0) (test : X → Bool) (xs : List X) (x : X) → Each G xs → find test xs ≡ Some x → G x
find_each G test [] x all e = absurd (cc)
find_each G test (y ∷ ys) x all e = go (test y) (λ f. find_each G test ys x all.1 f) e
  where
    go : (b : Bool) → (find test ys ≡ Some x → G x) → cond b (Some y) (find test ys) ≡ Some x → G x
    go true further f =
        let same : y ≡ x = cc in
        subst G same all.0
    go false further f = further f

module _ (s : Shape) (names : Names) (P : List Row → Type 0) (uses : Each (Keeps s.args_override_self P) s.rules) where
  by_id : (test : Rule → Bool) (o : Option Rule) → find test s.rules ≡ o → (values : List Text) (rows : List Row) → P rows
      → option_map_or (λ a. use_fault s.args_override_self a values rows) o [] ≡ [] → P (used_by_id o values rows)
  by_id test None found values rows p e = p
  by_id test (Some a) found values rows p e = find_each (Keeps s.args_override_self P) test s.rules a uses found values rows p e

  settles_at : (o : Option (Text × List Text)) (rows : List Row) → P rows
      → option_map_or (λ q. option_map_or (λ a. use_fault s.args_override_self a q.1 rows) (arg_by_id s.rules q.0) []) o [] ≡ []
      → P (settled_rows s.rules o rows)
  settles_at None rows p e = p
  settles_at (Some q) rows p e = by_id (λ a. bytes_eq a.id q.0) (arg_by_id s.rules q.0) refl q.1 rows p e

  pub settles : (h : Held) → P h.rows → settle_fault s.rules s.args_override_self h ≡ [] → P (settled s.rules h).rows
  settles h p e = settles_at h.pending h.rows p e

  reacts : (test : Rule → Bool) (a : Rule) → find test s.rules ≡ Some a → (values : List Text) (h : Held) → P h.rows
      → react_fault s.rules s.args_override_self a values h ≡ [] → P (reacted s.rules a values h).rows
  reacts test a found values h p e =
      let parts = none_of (settle_fault s.rules s.args_override_self h) _ e in
      find_each (Keeps s.args_override_self P) test s.rules a uses found values (settled s.rules h).rows (settles h p parts.0) parts.1

  options : (test : Rule → Bool) (a : Rule) → find test s.rules ≡ Some a → (v : Option Text) (h : Held) → P h.rows
      → option_fault s.rules s.args_override_self a v h ≡ [] → P (option_met s.rules a v h).0.rows
  options test a found (Some v) h p e = reacts test a found (v ∷ []) h p e
  options test a found None h p e = settles h p e

  longs : (test : Rule → Bool) (o : Option Rule) → find test s.rules ≡ o → (v : Option Text) (h : Held) → P h.rows
      → long_fault s.rules s.args_override_self o v h ≡ [] → P (long_met s.rules o v h).0.rows
  longs test None found v h p e = p
  longs test (Some a) found v h p e = go (takes_values a) v e
    where
      go : (takes : Bool) (w : Option Text)
          → cond takes (option_fault s.rules s.args_override_self a w h)
          (cond (is_some w) (kind.TooManyValues ∷ []) (react_fault s.rules s.args_override_self a [] h)) ≡ []
          → P (cond takes (option_met s.rules a w h) (flag_met s.rules a w h)).0.rows
      go true w e = options test a found w h p e
      go false (Some w) e = p
      go false None e = reacts test a found [] h p e

  -- ---- a bundle of flags

  shorts : (test : Rule → Bool) (o : Option Rule) → find test s.rules ≡ o → (rest : Text) (h : Held) (fault : Held → Kinds) (met : Held → Held × Outcome)
      → ((after : Held) → P after.rows → fault after ≡ [] → P (met after).0.rows)
      → P h.rows → short_fault s.rules s.args_override_self o rest h fault ≡ [] → P (short_met s.rules o rest h met).0.rows
  shorts test None found rest h fault met further p e = p
  shorts test (Some a) found rest h fault met further p e = go (takes_values a) e
    where
      go : (takes : Bool)
          → cond takes (option_fault s.rules s.args_override_self a (attached_value rest) h)
          (or_else (react_fault s.rules s.args_override_self a [] h) (fault (reacted s.rules a [] h))) ≡ []
          → P (cond takes (option_met s.rules a (attached_value rest) h) (met (reacted s.rules a [] h))).0.rows
      go true e = options test a found (attached_value rest) h p e
      go false e =
          let parts = none_of (react_fault s.rules s.args_override_self a [] h) _ e in
          further (reacted s.rules a [] h) (reacts test a found [] h p parts.0) parts.1

  abbrev Bundles : ℕ → Type 0
  Bundles k = (flags : Text) (skip : ℕ) (so_far : Outcome) (h : Held) → P h.rows → flags_fault s.rules s.args_override_self k flags skip h ≡ []
      → P (bundle_met s.rules k flags skip so_far h).0.rows

  char : (k : ℕ) (o : Option ℕ) (flags : Text) (skip : ℕ) (so_far : Outcome) (h : Held) → Bundles k → P h.rows
      → bundle_step_fault s.rules s.args_override_self o flags skip h (flags_fault s.rules s.args_override_self k) ≡ []
      → P (bundle_step s.rules o flags skip so_far h (bundle_met s.rules k)).0.rows
  char k None flags skip so_far h further p e = p
  char k (Some x) flags zero so_far h further p e =
      let rest = drop (length (encode_utf8 x)) flags in
      shorts (λ a. not (is_some a.index) && has_short a x) (arg_by_short s.rules x) refl rest h
      (flags_fault s.rules s.args_override_self k rest 0) (bundle_met s.rules k rest 0 done)
      (λ after q f. further rest 0 done after q f) p e
  char k (Some x) flags (suc skip) so_far h further p e = further (drop (length (encode_utf8 x)) flags) skip so_far h p e

  bundles : (k : ℕ) → Bundles k
  unfolding bundle_met flags_fault
  bundles zero flags skip so_far h p e = p
  bundles (suc k) flags skip so_far h p e = char k (slice_get (chars flags) 0) flags skip so_far h (bundles k) p e

  -- ---- a word

  pushes : (o : Option Rule) (id word : Text) (h : Held) → P h.rows → P (option_word o id word h).0.rows
  pushes None id word h p = p
  pushes (Some a) id word h p = p

  plains : (waiting : Waiting) (word : Text) (h : Held) → P h.rows → P (plain_word s.rules waiting word h).0.rows
  plains idle word h p = p
  plains (option id) word h p = pushes (arg_by_id s.rules id) id word h p
  plains positional word h p = p

  afters : (waiting : Waiting) (word : Text) (h : Held) (o : Outcome) → P h.rows → P (after_flag s.rules waiting word h o).0.rows
  afters waiting word h done p = p
  afters waiting word h (waits id) p = p
  afters waiting word h plain p = plains waiting word h p
  afters waiting word h refused p = plains waiting word h p

  short_words : (waiting : Waiting) (word : Text) (o : Option Text) (h : Held) → P h.rows
      → option_map_or (λ flags. bundle_fault s.rules s.args_override_self flags h) o [] ≡ [] → P (short_or_plain s.rules waiting word o h).0.rows
  short_words waiting word None h p e = plains waiting word h p
  short_words waiting word (Some flags) h p e =
      afters waiting word (bundle s.rules flags h).0 (bundle s.rules flags h).1
      (bundles (length flags) flags h.skip plain (record h { skip = 0 }) p e)

  flag_words : (waiting : Waiting) (word : Text) (o : Option (Text × Option Text)) (h : Held) → P h.rows
      → flag_word_fault s.rules s.args_override_self o word h ≡ [] → P (long_or_other s.rules waiting word o h).0.rows
  flag_words waiting word None h p e = short_words waiting word (short_of word) h p e
  flag_words waiting word (Some q) h p e =
      afters waiting word (long_met s.rules (arg_by_long s.rules q.0) q.1 h).0 (long_met s.rules (arg_by_long s.rules q.0) q.1 h).1
      (longs (λ a. not (is_some a.index) && has_long a q.0) (arg_by_long s.rules q.0) refl q.1 h p e)

  others : (o : Option Text) (waiting : Waiting) (position : ℕ) (word : Text) (h : Held) → P h.rows → other_fault s o word h ≡ []
      → P (subcommand_or_other s.rules o waiting position word h).0.rows
  others (Some name) waiting position word h p e = p
  others None waiting position word h p e = go (bytes_eq word (45 ∷ 45 ∷ [])) e
    where
      go : (dashes : Bool) → cond dashes [] (flag_word_fault s.rules s.args_override_self (long_of word) word h) ≡ []
          → P (cond dashes (h, trailing position) (long_or_other s.rules waiting word (long_of word) h)).0.rows
      go true e = p
      go false e = flag_words waiting word (long_of word) h p e

  meets : (is_trailing : Bool) (waiting : Waiting) (position : ℕ) (word : Text) (h : Held) → P h.rows
      → word_fault s names is_trailing waiting word h ≡ [] → P (word_met s.rules names is_trailing waiting position word h).0.rows
  meets true waiting position word h p e = p
  meets false waiting position word h p e = others (subcommand_met names waiting word) waiting position word h p e

  -- ---- a turn

  pends : (is_more : Bool) (a : Rule) (word : Text) (h : Held) → P h.rows
      → cond is_more [] (settle_fault s.rules s.args_override_self h) ≡ [] → P (pushed a.id word (cond is_more h (settled s.rules h))).rows
  pends true a word h p e = p
  pends false a word h p e = settles h p e

  positionals : (o : Option Rule) (word : Text) (w : Walk) (h : Held) → P h.rows
      → option_map_or (λ a. positional_fault s.rules s.args_override_self a h) o (stray_fault s) ≡ []
      → P (to_positional s.rules o word w h).held.rows
  positionals None word w h p e = p
  positionals (Some a) word w h p e = pends (is_pending a h.pending && takes_several a) a word h p e

  steps : (word : Text) (w : Walk) (h : Held) (step : Step) → P h.rows → step_fault s w.position h step ≡ []
      → P (after_step s.rules word w h step).held.rows
  steps word w h (next waiting) p e = p
  steps word w h (trailing position) p e = p
  steps word w h (subcommand name) p e = p
  steps word w h value p e = positionals (arg_by_index s.rules w.position) word w h p e

  turns : (stopped : Option (Text × List Text)) (w : Walk) (word : Text) → P w.held.rows
      → cond (is_some stopped) [] (or_else (word_fault s names w.is_trailing w.waiting word w.held)
      (step_fault s w.position (word_met s.rules names w.is_trailing w.waiting w.position word w.held).0
      (word_met s.rules names w.is_trailing w.waiting w.position word w.held).1)) ≡ []
      → P (walked_from s.rules names stopped w word).held.rows
  turns (Some q) w word p e = p
  turns None w word p e =
      let met = word_met s.rules names w.is_trailing w.waiting w.position word w.held in
      let parts = none_of (word_fault s names w.is_trailing w.waiting word w.held) _ e in
      steps word w met.0 met.1 (meets w.is_trailing w.waiting w.position word w.held p parts.0) parts.1

  -- a walk that doesn't fail keeps the property
  pub walk_keeps : (words : List Text) (w : Walk) → P w.held.rows → walk_fault s names w words ≡ []
      → P (fold (walked s.rules names) w words).held.rows
  unfolding walk_fault walked
  walk_keeps [] w p e = p
  walk_keeps (word ∷ rest) w p e =
      let parts = none_of (turn_fault s names w word) _ e in
      walk_keeps rest (walked s.rules names w word) (turns w.stopped w word p parts.0) parts.1

-- the walk stopped at no subcommand, or at one whose name has the property
abbrev pub StopsAt : (Text → Type 0) → Option (Text × List Text) → Type 0
StopsAt N None = ⊤
StopsAt N (Some p) = N p.0

abbrev Enters : (Text → Type 0) → Step → Type 0
Enters N (subcommand name) = N name
Enters N _ = ⊤

module _ (s : Shape) (names : Names) (N : Text → Type 0)
    (enters : (waiting : Waiting) (word name : Text) (h : Held) → subcommand_met names waiting word ≡ Some name → other_fault s (Some name) word h ≡ [] → N name) where
  plain_enters : (waiting : Waiting) (word : Text) (h : Held) → Enters N (plain_word s.rules waiting word h).1
  plain_enters idle word h = tt
  plain_enters (option id) word h = tt
  plain_enters positional word h = tt

  after_enters : (waiting : Waiting) (word : Text) (h : Held) (o : Outcome) → Enters N (after_flag s.rules waiting word h o).1
  after_enters waiting word h done = tt
  after_enters waiting word h (waits id) = tt
  after_enters waiting word h plain = plain_enters waiting word h
  after_enters waiting word h refused = plain_enters waiting word h

  short_enters : (waiting : Waiting) (word : Text) (o : Option Text) (h : Held) → Enters N (short_or_plain s.rules waiting word o h).1
  short_enters waiting word None h = plain_enters waiting word h
  short_enters waiting word (Some flags) h = after_enters waiting word (bundle s.rules flags h).0 (bundle s.rules flags h).1

  long_enters : (waiting : Waiting) (word : Text) (o : Option (Text × Option Text)) (h : Held) → Enters N (long_or_other s.rules waiting word o h).1
  long_enters waiting word None h = short_enters waiting word (short_of word) h
  long_enters waiting word (Some q) h =
      after_enters waiting word (long_met s.rules (arg_by_long s.rules q.0) q.1 h).0 (long_met s.rules (arg_by_long s.rules q.0) q.1 h).1

  other_enters : (o : Option Text) (waiting : Waiting) (position : ℕ) (word : Text) (h : Held) → subcommand_met names waiting word ≡ o
      → other_fault s o word h ≡ [] → Enters N (subcommand_or_other s.rules o waiting position word h).1
  other_enters (Some name) waiting position word h met e = enters waiting word name h met e
  other_enters None waiting position word h met e = go (bytes_eq word (45 ∷ 45 ∷ []))
    where
      go : (dashes : Bool) → Enters N (cond dashes (h, trailing position) (long_or_other s.rules waiting word (long_of word) h)).1
      go true = tt
      go false = long_enters waiting word (long_of word) h

  word_enters : (is_trailing : Bool) (waiting : Waiting) (position : ℕ) (word : Text) (h : Held)
      → word_fault s names is_trailing waiting word h ≡ [] → Enters N (word_met s.rules names is_trailing waiting position word h).1
  word_enters true waiting position word h e = tt
  word_enters false waiting position word h e = other_enters (subcommand_met names waiting word) waiting position word h refl e

  positional_stops : (o : Option Rule) (word : Text) (w : Walk) (h : Held) → StopsAt N w.stopped → StopsAt N (to_positional s.rules o word w h).stopped
  positional_stops None word w h n = n
  positional_stops (Some a) word w h n = tt

  step_stops : (word : Text) (w : Walk) (h : Held) (step : Step) → StopsAt N w.stopped → Enters N step → StopsAt N (after_step s.rules word w h step).stopped
  step_stops word w h (next waiting) n m = n
  step_stops word w h (trailing position) n m = n
  step_stops word w h (subcommand name) n m = m
  step_stops word w h value n m = positional_stops (arg_by_index s.rules w.position) word w h n

  turn_stops : (stopped : Option (Text × List Text)) (w : Walk) (word : Text) → StopsAt N stopped → StopsAt N w.stopped
      → cond (is_some stopped) [] (or_else (word_fault s names w.is_trailing w.waiting word w.held)
      (step_fault s w.position (word_met s.rules names w.is_trailing w.waiting w.position word w.held).0
      (word_met s.rules names w.is_trailing w.waiting w.position word w.held).1)) ≡ []
      → StopsAt N (walked_from s.rules names stopped w word).stopped
  turn_stops (Some q) w word m n e = m
  turn_stops None w word m n e =
      let met = word_met s.rules names w.is_trailing w.waiting w.position word w.held in
      let parts = none_of (word_fault s names w.is_trailing w.waiting word w.held) _ e in
      step_stops word w met.0 met.1 n (word_enters w.is_trailing w.waiting w.position word w.held parts.0)

  -- a walk that doesn't fail stops only at such a subcommand
  pub walk_stops : (words : List Text) (w : Walk) → StopsAt N w.stopped → walk_fault s names w words ≡ []
      → StopsAt N (fold (walked s.rules names) w words).stopped
  unfolding walk_fault walked
  walk_stops [] w n e = n
  walk_stops (word ∷ rest) w n e =
      let parts = none_of (turn_fault s names w word) _ e in
      walk_stops rest (walked s.rules names w word) (turn_stops w.stopped w word n n parts.0) parts.1
