-- Nothing of a simple command is global.
use Rattle.std.proofs.Common.{◌≡◌, ◌&&◌, Bool, false, is_some, not, true}
use Rattle.clap.specs.Simple.{app_of}
use Rattle.clap.specs.Walk.{is_empty, is_simple_arg}
use Rattle.clap.specs.declared.builder.arg.Arg.{Arg}
use Rattle.clap.specs.declared.builder.command.Command.{Command}
use Rattle.clap.specs.declared.builder.command.Command.TheViews.{out-Command}
use Rattle.clap.proofs.SimpleLemmas.{is_false}
use Rattle.clap.proofs.WalkLemmas.{both}

last_of : (a b : Bool) → (a && b) ≡ true → b ≡ true
last_of a b e = (both a b e).1

pub simple_is_local : (a : Arg) → is_simple_arg a ≡ true → a.global ≡ false
simple_is_local a e =
    let default_ifs = last_of (is_empty a.overrides.items) _ e in
    let groups = last_of (is_empty a.default_vals_ifs.items) _ default_ifs in
    let delimiter = last_of (is_empty a.groups.items) _ groups in
    let terminator = last_of (not (is_some a.val_delim)) _ delimiter in
    let hyphens = last_of (not (is_some a.terminator)) _ terminator in
    let negatives = last_of (not a.allow_hyphen_values) _ hyphens in
    let equals = last_of (not a.allow_negative_numbers) _ negatives in
    let last = last_of (not a.require_equals) _ equals in
    is_false a.global (last_of (not a.last) _ last)

pub plain_is_local : (c : Command) → (app_of c).top.is_plain ≡ true → (out-Command c).has_globals ≡ false
plain_is_local c e =
    let fields = out-Command c in
    let external = last_of (is_empty fields.groups.items) _ e in
    let globals = last_of (not fields.allow_external_subcommands) _ external in
    is_false fields.has_globals (both (not fields.has_globals) _ globals).0
