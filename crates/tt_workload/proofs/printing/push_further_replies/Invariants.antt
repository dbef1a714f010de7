-- the text so far and that of the items that are left are the whole
use Rattle.std.proofs.Common.{◌≡◌, ◌++◌, drop}
use Rattle.std.specs.List.{flat_map}
use Rattle.tt_workload.specs.Printing.{further_reply}
use Rattle.tt_workload.proofs.printing.push_further_replies.Given as goal

abbrev pub invariant-loop-reply : goal.invariant-loop-reply
invariant-loop-reply l = l.out.items ++ flat_map further_reply (drop l.reply-index l.replies) ≡ l.fn.out.items ++ flat_map further_reply l.replies
