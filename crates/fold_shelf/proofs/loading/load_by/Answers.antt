use Rattle.std.proofs.Common.{◌≡◌, ◌≤◌, ◌<◌, length, arith}
use Rattle.fold_shelf.proofs.Counts.{reads_then}
use Rattle.fold_shelf.proofs.Reading.{longer_by_front, front_more, front_whole}
use Rattle.fold_shelf.proofs.loading.load_by.Goals as goal

pub returns-then-count-eq0-clause-whole : goal.returns-then-count-eq0-clause-whole
returns-then-count-eq0-clause-whole g c =
    let at : c.len-at.result ≡ length c.loop-bytes.bytes.items = cc (c.len-at.ensures, c.loop-bytes.bytes.ok.0) in
    let read = rw (c.loop-bytes.invariant.reads.files, at) at c.in_ok-count.ensures.bytes in
    let room : 0 < length c.read_at.new.buf = omega arith in
    let short : length c.loop-bytes.bytes.items ≤ c.args.most = omega (arith, at) in
    front_whole _ _ _ _ _ _ c.if-count-eq0.true room short c.loop-bytes.invariant.front read

pub loop-bytes-preserved : goal.loop-bytes-preserved
loop-bytes-preserved g c =
    let at : c.len-at.result ≡ length c.loop-bytes.bytes.items = cc (c.len-at.ensures, c.loop-bytes.bytes.ok.0) in
    let read = rw (c.loop-bytes.invariant.reads.files, at) at c.in_ok-count.ensures.bytes in
    let longer = longer_by_front _ _ _ _ c.in_ok-extend_from_slice.ensures.items in
    record {
      front = rw c.in_ok-extend_from_slice.ensures.items (front_more _ _ _ _ _ c.loop-bytes.invariant.front read);
      short = omega (arith, at, longer, c.extend_from_slice.new.self.ok.0, c.if-most-at.false);
      reads = reads_then _ _ _ c.loop-bytes.invariant.reads c.read_at.ensures.reads;
    }
