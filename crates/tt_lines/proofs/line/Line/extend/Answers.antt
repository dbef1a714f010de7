-- The bytes so far, and the further ones.
use Rattle.std.proofs.Common.{◌≡◌, ◌-◌, ◌&&◌, min, length, sym, ap, ◌∙◌, arith}
use Rattle.tt_requests.specs.Lines.{is_blank}
use Rattle.tt_lines.specs.Lines.{max_bytes_kept}
use Rattle.tt_lines.proofs.LineLemmas.{kept-more, len-more, blank-more}
use Rattle.tt_lines.proofs.line.Line.extend.Goals as goal

pub returns : goal.returns
returns c = λ bytes has.
    let old = c.args.self.now in
    let more = c.args.more.now in
    let count : c.min-count.result ≡ min (length more) (max_bytes_kept - old.len) = omega (arith, c.min-count.ensures, c.saturating_sub.ensures) in
    record {
      len = c.keep.ensures.len ∙ len-more max_bytes_kept bytes more old.len c.min-count.result has.len count;
      blank = c.keep.ensures.blank ∙ ap (λ t. t && c.is_blank.result) has.blank ∙ ap (λ t. is_blank bytes && t) c.is_blank.ensures ∙ sym (blank-more bytes more);
      kept = λ known. kept-more max_bytes_kept bytes more old.kept.items c.keep.new.self.kept.items old.len c.min-count.result has.len count (has.kept (c.keep.ensures.kept known).0) (c.keep.ensures.kept known).1;
    }
